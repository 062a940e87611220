-- What a choice leaves of the pool.
use Rattle.std.specs.Prelude.{◌≡◌, ◌≢◌, List, map, Some}
use Rattle.tb_float.specs.declared.Part.{Part}
use Rattle.tb_float.specs.Lists.{floats_of}
use Rattle.tb_float.specs.Pool.{FloatPool, marks_of, with_marks_of, marked_floats, unmarked_floats}
use Rattle.tb_fpage.specs.declared.Wanted.{Wanted}
use Rattle.tb_fpage.specs.Company.{Choice, company, chosen_floats, left_floats}

-- the floats of the company that makes the column are marked, the others of the list are not, and all else is as before
pub record IsChosen (z : Wanted) (from : Part) (v w : FloatPool) : Type 0 where
  pub choices : List Choice
  pub found : company z (floats_of from v.lists) ≡ Some choices
  pub marked : marked_floats from w ≡ chosen_floats choices
  pub unmarked : unmarked_floats from w ≡ left_floats choices
  pub marks : w ≡ with_marks_of from (map (λ c. c.chosen) choices) v
  pub lists : w.lists ≡ v.lists
  pub size : w.size ≡ v.size
  pub other_marks : (p : Part) → p ≢ from → marks_of p w ≡ marks_of p v
