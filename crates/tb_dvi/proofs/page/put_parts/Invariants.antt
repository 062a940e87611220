use Rattle.std.proofs.Common.{drop}
use Rattle.tb_dvi.specs.Placement.{parts_placed}
use Rattle.tb_dvi.specs.Page.{parts_shown}
use Rattle.tb_dvi.proofs.PlacementLemmas.{Left}
use Rattle.tb_dvi.proofs.page.put_parts.Given as goal

abbrev pub invariant-loop-part : goal.invariant-loop-part
invariant-loop-part l = Left (parts_placed (parts_shown l.store l.parts)) l.fn.out.items l.out.items (parts_placed (parts_shown l.store (drop l.part-index l.parts)))
