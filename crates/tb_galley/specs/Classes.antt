-- Classes of insertions in rising number.
use Rattle.std.specs.Prelude.{◌≡◌, ℕ, ◌<◌, ◌≤◌, Bool, true, ◌&&◌, ◌==◌, nat_lt, List, [], ◌∷◌, length, slice_index_or, if◌then◌else◌}
use Rattle.tb_galley.specs.declared.classes.ClassLine.{ClassLine}

-- each class has a greater number than the one before it
abbrev pub do_classes_rise : List ClassLine → Bool
do_classes_rise [] = true
do_classes_rise (c ∷ []) = true
do_classes_rise (c ∷ d ∷ ds) = nat_lt c.number d.number && do_classes_rise (d ∷ ds)

-- a class among those of other numbers, which rise; it replaces one of its number
abbrev pub with_class : ClassLine → List ClassLine → List ClassLine
with_class c [] = c ∷ []
with_class c (d ∷ ds) = if c.number == d.number then c ∷ ds else (if nat_lt c.number d.number then c ∷ d ∷ ds else d ∷ with_class c ds)

-- the class at place k has the number n
pub record IsAt (cs : List ClassLine) (n k : ℕ) : Type 0 where
  pub in_range : k < length cs
  pub has_number : (d : ClassLine) → (slice_index_or cs k d).number ≡ n

-- a class of number n would go at place k: smaller numbers come before it, and greater ones from it on
pub record IsGapFor (cs : List ClassLine) (n k : ℕ) : Type 0 where
  pub in_range : k ≤ length cs
  pub smaller_before : (j : ℕ) (d : ClassLine) → j < k → (slice_index_or cs j d).number < n
  pub greater_after : (j : ℕ) (d : ClassLine) → k ≤ j → j < length cs → n < (slice_index_or cs j d).number
