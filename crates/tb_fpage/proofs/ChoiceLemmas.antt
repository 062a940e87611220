-- What is known of the pool once the marks of a company are set.
use Rattle.std.proofs.Common.{◌≡◌, Bool, List, Some, map, ap, ◌∙◌}
use Rattle.tb_float.specs.declared.Part.{Part}
use Rattle.tb_float.specs.Lists.{floats_of, IsWaiting}
use Rattle.tb_float.specs.Pool.{FloatPool, marks_of, with_marks_of, marked_among, unmarked_among, marked_floats, unmarked_floats}
use Rattle.tb_float.proofs.WaitingLemmas.{marks-with, lists-marked, size-marked, other-marks}
use Rattle.tb_fpage.specs.declared.Wanted.{Wanted}
use Rattle.tb_fpage.specs.Company.{Choice, company}
use Rattle.tb_fpage.specs.Choice.{IsChosen}
use Rattle.tb_fpage.proofs.LawLemmas.{marked-company, unmarked-company}

-- the floats that marks choose, if they are set in the list
marked-with : (from : Part) → IsWaiting from → (ms : List Bool) (v : FloatPool) → marked_floats from (with_marks_of from ms v) ≡ marked_among ms (floats_of from v.lists)
marked-with from w ms v = ap (λ ns. marked_among ns (floats_of from (with_marks_of from ms v).lists)) (marks-with from w ms v) ∙ ap (λ l. marked_among ms (floats_of from l)) (lists-marked from ms v)

unmarked-with : (from : Part) → IsWaiting from → (ms : List Bool) (v : FloatPool) → unmarked_floats from (with_marks_of from ms v) ≡ unmarked_among ms (floats_of from v.lists)
unmarked-with from w ms v = ap (λ ns. unmarked_among ns (floats_of from (with_marks_of from ms v).lists)) (marks-with from w ms v) ∙ ap (λ l. unmarked_among ms (floats_of from l)) (lists-marked from ms v)

pub is-chosen : (z : Wanted) (from : Part) (v w : FloatPool) (cs : List Choice) → IsWaiting from → company z (floats_of from v.lists) ≡ Some cs → w ≡ with_marks_of from (map (λ c. c.chosen) cs) v → IsChosen z from v w
is-chosen z from v w cs waits is set =
    let ms = map (λ (c : Choice). c.chosen) cs in
    record {
      choices = cs;
      found = is;
      marked = ap (marked_floats from) set ∙ marked-with from waits ms v ∙ marked-company z (floats_of from v.lists) cs is;
      unmarked = ap (unmarked_floats from) set ∙ unmarked-with from waits ms v ∙ unmarked-company z (floats_of from v.lists) cs is;
      marks = set;
      lists = ap (λ (u : FloatPool). u.lists) set ∙ lists-marked from ms v;
      size = ap (λ (u : FloatPool). u.size) set ∙ size-marked from ms v;
      other_marks = λ p ne. ap (marks_of p) set ∙ other-marks p from ne ms v;
    }
