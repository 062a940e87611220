use Rattle.std.proofs.Common.{FitsSigned, rules, w64, sym, subst, ◌∙◌}
use Rattle.std.proofs.lemmas.Int.{to_z-of_z}
use Rattle.tb_scaled.specs.Amount.{IsAmount}
use Rattle.tb_output.specs.Machine.{AreOutputParams}
use Rattle.tb_why.specs.Seen.{Seen}
use Rattle.tb_why.proofs.FiringLemmas.{reach-amount, pieces-told}
use Rattle.tb_why.proofs.firings.told_pieces.Goals as goal

pub tell_firing-requires-clause-params : goal.tell_firing-requires-clause-params
tell_firing-requires-clause-params c = subst AreOutputParams (sym c.params.ensures) c.requires.whole.machine.params

pub tell_firing-requires-clause-height : goal.tell_firing-requires-clause-height
tell_firing-requires-clause-height c = c.reading-reading.ensures.small_height

pub tell_firing-requires-clause-page_height : goal.tell_firing-requires-clause-page_height
tell_firing-requires-clause-page_height c = c.reading-reading.ensures.small_page

pub tell_firing-requires-clause-note_bottom : goal.tell_firing-requires-clause-note_bottom
tell_firing-requires-clause-note_bottom c = subst (λ (v : Seen). IsAmount v.note_bottom) (sym c.in_ok-seen.ensures) (reach-amount c.args.routine.now.machine.note_bottom c.requires.can.note_bottom)

pub returns : goal.returns
returns c =
    let fits : FitsSigned w64 c.args.page.now.penalty = search rules in
    pieces-told c.args.routine.now c.args.page.now c.params.result.now c.reading-reading.result c.as_slice.result.now c.in_ok-seen.seen c.new-pieces.result.items c.tell_firing.new.pieces.items
    (sym c.may_fire.ensures) c.if-not-may_fire.false c.params.ensures c.reading-reading.ensures (c.as_slice.ensures.value ∙ c.in_ok-here.ensures) c.in_ok-seen.ensures c.new-pieces.ensures.items (simp to_z-of_z at c.in_ok-tell_firing.ensures)
