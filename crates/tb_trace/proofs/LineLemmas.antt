-- The line of a place from its parts.
use Rattle.std.proofs.Common.{◌≡◌, ℕ, List, [], ◌∷◌, ◌++◌, append_assoc, codes}
use Rattle.tb_builder.specs.declared.Try.{Try}
use Rattle.tb_text.specs.Fields.{and_number, and_count}
use Rattle.tb_trace.specs.Lines.{and_cost, and_numbers, champion_text, try_line}
use Rattle.tb_trace.specs.Parts.{sums_of, costs_of, end_text}

parts : (a b c d e f g h i j k l m n o p q end : List ℕ)
    → (a ++ b ++ c ++ d ++ e ++ f ++ g ++ h) ++ ((i ++ j ++ k ++ l ++ m ++ n ++ o ++ p) ++ (q ++ end))
    ≡ (a ++ b ++ c ++ d ++ e ++ f ++ g ++ h ++ i ++ j ++ k ++ l ++ m ++ n ++ o ++ p ++ q) ++ end
parts a b c d e f g h i j k l m n o p q end = simp append_assoc

-- the sums, the costs and the end are the line
pub line-of-parts : (t : Try) → sums_of t.line t.sums ++ (costs_of t ++ end_text t.champion) ≡ try_line t
line-of-parts t =
    parts (codes "try") (and_count t.line) (codes " t") (and_number t.sums.total) (codes " s") (and_numbers t.sums.stretch) (codes " z") (and_number t.sums.shrink) (codes " g") (and_number t.goal) (codes " b") (and_cost t.badness) (codes " p") (and_number t.penalty) (codes " c") (and_cost t.cost) (champion_text t.champion) (10 ∷ [])
