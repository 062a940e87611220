use Rattle.std.proofs.Common.{subst, refl, arith}
use Rattle.tb_builder.specs.declared.Event.{Event}
use Rattle.tb_builder.specs.Contents.{contents_of}
use Rattle.tb_builder.specs.PageEvents.{NextIs}
use Rattle.tb_builder.proofs.Ranges.PageableLemmas.{contents_fit}
use Rattle.tb_builder.proofs.Ownership.StoreSized.{boxes_of}
use Rattle.tb_builder.proofs.WorkedPages.WorkedLemmas.{ready_asked, ready_sized, ready_count, sized_again, fired_box, fits_again, held_again, known_again, fired_no_page, fired_live}
use Rattle.tb_page_tests.proofs.builder.fires.Goals as goal

pub loop-init : goal.loop-init
loop-init c = record {
  sound = c.requires.rest.sound;
  fits = contents_fit (contents_of c.args.p.now.builder c.args.p.now.store) c.args.p.now.ask c.requires.pageable;
  none_held = c.requires.none_held;
  sized = ready_sized c.args.p.now.builder c.args.p.now.store c.args.p.now.ask c.requires;
  few = ready_count c.args.p.now.builder c.args.p.now.store c.args.p.now.ask c.requires;
  asked = ready_asked c.args.p.now.builder c.args.p.now.store c.args.p.now.ask c.requires;
  known = c.requires.rest.known;
}

pub next-requires-clause-none_held : goal.next-requires-clause-none_held
next-requires-clause-none_held c = c.loop.invariant.none_held

pub returns-in-Fired-clause-rest : goal.returns-in-Fired-clause-rest
returns-in-Fired-clause-rest c =
    let before = contents_of c.loop.p.builder c.loop.p.store in
    let after = contents_of c.next.new.self c.next.new.store in
    let h = subst (λ (e : Event). NextIs c.loop.p.builder.stopped e before c.loop.p.ask after c.next.new.store) c.in-Fired.is c.in-Ok.ensures.event in
    record {
      sound = c.next.ensures.sound;
      no_page = fired_no_page c.loop.p.builder.stopped c.in-Fired.page before after c.loop.p.ask c.next.new.store h;
      known = known_again c.loop.p.builder.stopped _ before after c.loop.p.ask c.next.new.store c.loop.invariant.known h;
    }

pub returns-in-Fired-clause-body : goal.returns-in-Fired-clause-body
returns-in-Fired-clause-body c =
    let before = contents_of c.loop.p.builder c.loop.p.store in
    let after = contents_of c.next.new.self c.next.new.store in
    fired_live c.loop.p.builder.stopped c.in-Fired.page before after c.loop.p.ask c.next.new.store
    (subst (λ (e : Event). NextIs c.loop.p.builder.stopped e before c.loop.p.ask after c.next.new.store) c.in-Fired.is c.in-Ok.ensures.event)

pub returns-in-Fired-clause-boxed : goal.returns-in-Fired-clause-boxed
returns-in-Fired-clause-boxed c =
    let before = contents_of c.loop.p.builder c.loop.p.store in
    let after = contents_of c.next.new.self c.next.new.store in
    fired_box c.loop.p.builder.stopped c.in-Fired.page before after c.loop.p.ask c.next.new.store refl c.loop.invariant.sized c.loop.invariant.few (boxes_of c.loop.p.store c.loop.p.builder.boxes)
    (subst (λ (e : Event). NextIs c.loop.p.builder.stopped e before c.loop.p.ask after c.next.new.store) c.in-Fired.is c.in-Ok.ensures.event)

pub loop-preserved : goal.loop-preserved
loop-preserved c =
    let before = contents_of c.loop.p.builder c.loop.p.store in
    let after = contents_of c.next.new.self c.next.new.store in
    let again = sized_again c.loop.p.builder.stopped c.in-Ok.event before after c.loop.p.ask c.next.new.store c.in_default.not-Fired c.loop.invariant.asked refl c.loop.invariant.sized c.in-Ok.ensures.event in
    record {
      sound = c.next.ensures.sound;
      sized = again.0;
      few = omega (arith, again.1, c.loop.invariant.few);
      asked = c.loop.invariant.asked;
      fits = fits_again c.loop.p.builder.stopped c.in-Ok.event before after c.loop.p.ask c.next.new.store c.in_default.not-Fired c.loop.invariant.fits c.in-Ok.ensures.event;
      none_held = held_again c.loop.p.builder.stopped c.in-Ok.event before after c.loop.p.ask c.next.new.store c.in_default.not-Fired c.loop.invariant.none_held c.in-Ok.ensures.event;
      known = known_again c.loop.p.builder.stopped c.in-Ok.event before after c.loop.p.ask c.next.new.store c.loop.invariant.known c.in-Ok.ensures.event;
    }
