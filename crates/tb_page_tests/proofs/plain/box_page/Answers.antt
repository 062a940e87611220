use Rattle.std.proofs.Common.{subst}
use Rattle.tb_builder.specs.declared.Event.{Event}
use Rattle.tb_builder.specs.Contents.{contents_of}
use Rattle.tb_builder.specs.PageEvents.{NextIs}
use Rattle.tb_builder.proofs.Ranges.PageableLemmas.{contents_fit}
use Rattle.tb_page_tests.proofs.PlainLemmas.{box_came}
use Rattle.tb_page_tests.proofs.plain.box_page.Goals as goal

pub next-requires-clause-fits : goal.next-requires-clause-fits
next-requires-clause-fits c = contents_fit (contents_of c.give.new.p.builder c.give.new.p.store) c.give.new.p.ask c.in_ok-give.ensures.ready.pageable

pub returns-in-Empty : goal.returns-in-Empty
returns-in-Empty c =
    let b = c.give.new.p.builder in
    let s = c.give.new.p.store in
    let d = c.next.new.self in
    let t = c.next.new.store in
    let ask = c.give.new.p.ask in
    box_came c.args.p.now c.in_ok-s.s.builder b d c.in_ok-s.s.store s t ask c.make_box.result c.in_ok-s.ensures.contents c.in_ok-give.ensures.contents _ _ _ c.make_box.ensures.kind c.next.ensures.sound
    (subst (λ (e : Event). NextIs b.stopped e (contents_of b s) ask (contents_of d t) t) c.in-Empty.is c.in_ok-next.ensures.event)
