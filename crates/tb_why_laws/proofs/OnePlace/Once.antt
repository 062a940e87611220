-- How often the float of a line is in a work, and that it is in one place at most.
use Rattle.std.proofs.Common.{◌≡◌, ℕ, ◌+◌, ◌≤◌, false}
use Rattle.std.specs.Prelude.{◌==◌, if◌then◌else◌}
use Rattle.tb_node.proofs.Weights.{Weight}
use Rattle.tb_output.specs.State.{Work}
use Rattle.tb_output.proofs.StepLaws.Moves.{Hand}
use Rattle.tb_laws.proofs.NothingLost.StateWeights.{Sound, work_weight, hand_weight}

-- by which the float of a line weighs one, and nothing else weighs
abbrev pub of_line : ℕ → Weight
of_line n = record { box = λ m. 0; float = λ m. if m == n then 1 else 0; margin = λ m. 0 }

-- unless the page limit was met: the state is sound, and each float is in one place at most, in hand or in the work, in a
-- list or as a box in the text, in a column that is kept or on a page that was sent
abbrev pub Once : Hand → Work → Type 0
Once h w = w.refused ≡ false → Sound w.state × ((n : ℕ) → hand_weight (of_line n) h + work_weight (of_line n) w ≤ 1)
