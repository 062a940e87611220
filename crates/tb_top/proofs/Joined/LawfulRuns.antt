-- A run of a valid galley that ended well keeps the laws.
use Rattle.std.proofs.Common.{◌≡◌, sym, subst, ℕ, List, Option, None, Some}
use Rattle.tb_galley.specs.declared.Galley.{Galley}
use Rattle.tb_galley.specs.Valid.{IsValid}
use Rattle.tb_report.specs.declared.Totals.{Totals}
use Rattle.tb_steps.specs.Run.{End, done, run_of}
use Rattle.tb_top.specs.declared.View.{View}
use Rattle.tb_top.specs.declared.PageFault.{PageFault}
use Rattle.tb_top.specs.Pages.{end_fault, Paginates}
use Rattle.tb_laws.specs.Laws.{HasTotals, EndsDone, KeepsLaws}
use Rattle.tb_laws.proofs.Limits.LimitedRuns.{run-within}
use Rattle.tb_laws.proofs.NothingLost.ShippedRuns.{lists-emptied}
use Rattle.tb_laws.proofs.OnceEach.ShippedOnce.{ships-once}
use Rattle.tb_laws.proofs.ClassesRise.OrderedGalleys.{classes-keep-order}
use Rattle.tb_laws.proofs.OnceEach.ShippedTotals.{totals-shown}
use Rattle.tb_laws.proofs.DviFiles.WritablePages.{files-list}

some-fault : (f : PageFault) → Some f ≡ None → ⊥
some-fault f e = let no : IsSome None = subst IsSome e tt in no
  where
    IsSome : Option PageFault → Type 0
    IsSome None = ⊥
    IsSome (Some x) = Unit {0}

no-fault : (e : End) → end_fault e ≡ None → EndsDone e
no-fault (done left) h = tt
no-fault e h = absurd (some-fault _ h)

pub keeps-laws : (g : Galley) → IsValid g → (v : View) (old new : Option (List ℕ)) (t : Totals) → Paginates v (run_of g) old new t → KeepsLaws g t
keeps-laws g valid v old new t h =
    let d = no-fault (run_of g).end h.ended in
    record {
      ships_once = ships-once g valid d;
      totals = subst (HasTotals g) (sym h.totals) (totals-shown g valid d);
      class_order = classes-keep-order g valid d;
      area_limits = run-within g;
      empty_lists = lists-emptied g valid;
      dvi_file = files-list g valid d;
    }
