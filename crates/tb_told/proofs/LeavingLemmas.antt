-- A company leaves a list.
use Rattle.std.proofs.Common.{◌≡◌, ◌∙◌, [], length}
use Rattle.tb_float.specs.declared.Part.{Part}
use Rattle.tb_float.specs.declared.Part.TheVariants as parts
use Rattle.tb_float.specs.Lists.{IsWaiting, with_floats_of}
use Rattle.tb_float.specs.Pool.{FloatPool, HasNoMarks, marked_among, unmarked_floats}
use Rattle.tb_float.specs.MarkedFloats.{without_marked}
use Rattle.tb_float.proofs.MarkLemmas.{marked-false}
use Rattle.tb_fpage.specs.declared.Wanted.{Wanted}
use Rattle.tb_fpage.specs.Company.{left_floats}
use Rattle.tb_fpage.specs.Choice.{IsChosen}

module _ (z : Wanted) (v w : FloatPool) where
  -- the floats that were not chosen stay
  pub left-lists : (from : Part) → IsWaiting from → (h : IsChosen z from v w) → (without_marked from w).lists ≡ with_floats_of from (left_floats h.choices) v.lists
  left-lists parts.Deferred q h = λ i. record (h.lists i) { deferred = h.unmarked i }
  left-lists parts.Second q h = λ i. record (h.lists i) { second = h.unmarked i }
  left-lists from q h = absurd q

  -- the marks of the other list
  second-free : IsChosen z parts.Deferred v w → HasNoMarks v → marked_among w.second_marks w.lists.second ≡ []
  second-free h none = (λ i. marked_among (h.other_marks parts.Second (λ e. cc) i) (h.lists i).second) ∙ none.second

  deferred-free : IsChosen z parts.Second v w → HasNoMarks v → marked_among w.marks w.lists.deferred ≡ []
  deferred-free h none = (λ i. marked_among (h.other_marks parts.Deferred (λ e. cc) i) (h.lists i).deferred) ∙ none.deferred

  pub left-unmarked : (from : Part) → IsWaiting from → IsChosen z from v w → HasNoMarks v → HasNoMarks (without_marked from w)
  left-unmarked parts.Deferred q h none = record { deferred = marked-false (length (unmarked_floats parts.Deferred w)) (unmarked_floats parts.Deferred w); second = second-free h none }
  left-unmarked parts.Second q h none = record { deferred = deferred-free h none; second = marked-false (length (unmarked_floats parts.Second w)) (unmarked_floats parts.Second w) }
  left-unmarked from q h none = absurd q
