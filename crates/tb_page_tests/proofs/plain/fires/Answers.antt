use Rattle.std.proofs.Common.{◌≡◌, refl, subst, ap, false}
use Rattle.tb_builder.specs.declared.Event.{Event}
use Rattle.tb_builder.specs.Contents.{contents_of}
use Rattle.tb_builder.specs.PageEvents.{NextIs, IsGivenOut}
use Rattle.tb_builder.specs.Ownership.{ids_of}
use Rattle.tb_page_tests.proofs.PlainLemmas.{is_page, filling_begins, filling_fits, filling_again, can_fire}
use Rattle.tb_page_tests.proofs.plain.fires.Goals as goal
use Rattle.tb_page_tests.proofs.plain.fires.Goals.{in-Try, in-Act}

pub loop-init : goal.loop-init
loop-init c = record {
  sound = c.requires.ready.rest.sound;
  filling = filling_begins c.args.p.now.builder c.args.p.now.store c.args.p.now.ask c.requires.ready c.requires.top;
}

pub next-requires-clause-fits : goal.next-requires-clause-fits
next-requires-clause-fits c = filling_fits (contents_of c.loop.p.builder c.loop.p.store) c.loop.p.ask c.loop.invariant.filling

pub next-requires-clause-none_held : goal.next-requires-clause-none_held
next-requires-clause-none_held c = c.loop.invariant.filling.none_held

pub returns-in-Fired : goal.returns-in-Fired
returns-in-Fired c =
    let s = c.loop.p.store in
    let before = contents_of c.loop.p.builder s in
    let d = c.next.new.self in
    let t = c.next.new.store in
    can_fire c.loop.p.builder d s t c.loop.p.ask c.in-Fired.page c.loop.invariant.filling c.next.ensures.sound
    (subst (λ (e : Event). IsGivenOut e s (ids_of d) t) c.in-Fired.is c.in_ok-page.ensures.body)
    (subst (λ (e : Event). NextIs c.loop.p.builder.stopped e before c.loop.p.ask (contents_of d t) t) c.in-Fired.is c.in_ok-page.ensures.event)

pub loop-preserved : goal.loop-preserved
loop-preserved c =
    let before = contents_of c.loop.p.builder c.loop.p.store in
    let after = contents_of c.next.new.self c.next.new.store in
    let on : is_page c.in_ok-page.field-0 ≡ false = elim c.match-branch-2.branch [ in-Try w ↦ ap is_page w.in-Try.is | in-Act w ↦ ap is_page w.in-Act.is ] in
    record {
      sound = c.next.ensures.sound;
      filling = filling_again c.loop.p.builder.stopped c.in_ok-page.field-0 before after c.loop.p.ask c.next.new.store on refl c.loop.invariant.filling c.in_ok-page.ensures.event;
    }
