use Rattle.std.proofs.Common.{◌≡◌, refl, subst, sym, ◌∙◌, Bool, true, false}
use Rattle.std.specs.Prelude.{not}
use Rattle.tb_run.specs.declared.routine.Routine.{Routine}
use Rattle.tb_run.specs.FilledPages.{IsFilledLast, Fills}
use Rattle.std.specs.List.{AllByRecursion}
use Rattle.tb_search.specs.Told.{IsDearIn}
use Rattle.tb_search.proofs.StopLemmas.{stop-so}
use Rattle.tb_search.proofs.branch.Branch.stop.Goals as goal

pub returns-in-Ends : goal.returns-in-Ends
returns-in-Ends c =
    let r = c.args.self.now.routine.value in
    let q = c.fill.new.self in
    let hs = c.fill.new.happened.items in
    let last : IsFilledLast true r c.in-Ends.ending q hs =
    subst (λ (x : Routine). IsFilledLast true x c.in-Ends.ending q hs) c.deref_mut.ensures.value (subst (λ o. Fills true c.deref_mut.result.now o q hs) c.in-Ends.is c.in_ok-filled.ensures)
    in
    stop-so r q c.in-Ends.ending hs last (not c.sets_any-steady.result) c.are_dear-dear.result c.waits_plain-plain.result (λ steady. sym c.sets_any-steady.ensures ∙ not-so c.sets_any-steady.result steady)
    (λ dear. subst (AllByRecursion IsDearIn) c.as_slice-in-Ends.ensures.value (c.are_dear-dear.ensures dear)) c.waits_plain-plain.ensures c.stop_of.result c.stop_of.ensures
  where
    not-so : (t : Bool) → not t ≡ true → t ≡ false
    not-so true h = sym h
    not-so false h = refl
