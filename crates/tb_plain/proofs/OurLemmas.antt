-- All insertions are of the two classes of the page makeup.
use Rattle.std.proofs.Common.{ℕ, ℤ, Bool, true, false, List, [], ◌∷◌, ◌++◌}
use Rattle.std.specs.Prelude.{if◌then◌else◌}
use Rattle.tb_node.specs.PlainNodes.{PlainNode}
use Rattle.tb_break.specs.PageTop.{pruned_nodes}
use Rattle.tb_insert.specs.Account.{Labelled}
use Rattle.tb_builder.specs.Reach.{holds_box, laid_out}
use Rattle.tb_builder.specs.FiredPages.{held_insertions}
use Rattle.tb_builder.proofs.FiredPages.PageWeights.{AllOfClass, LabelsOfClass}
use Rattle.tb_builder.proofs.Cutting.CutLemmas.{class-both, class-pruned, held-ins, inserted-class}

-- the class of top floats and that of footnotes
abbrev pub ours : List ℕ
ours = 253 ∷ 254 ∷ []

abbrev pub AllOurs : List PlainNode → Type 0
AllOurs = AllOfClass ours

pub ours-laid : (t : ℤ) (page waiting : List PlainNode) → AllOurs page → AllOurs waiting → AllOurs (laid_out t page waiting)
ours-laid t page waiting a b = by_box (holds_box page)
  where
    by_box : (x : Bool) → AllOurs (page ++ (if x then waiting else pruned_nodes t waiting))
    by_box true = class-both ours page waiting a b
    by_box false = class-both ours page (pruned_nodes t waiting) a (class-pruned ours t waiting b)

pub held-ours : (ls : List Labelled) → LabelsOfClass ours ls → AllOurs (held_insertions ls)
held-ours ls h = inserted-class ours (held_insertions ls) (held-ins ours ls h)
