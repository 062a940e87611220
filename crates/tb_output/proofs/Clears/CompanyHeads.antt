-- A company has a float: its head.
use Rattle.std.proofs.Common.{◌≡◌, ◌≢◌, subst, ap, ◌+◌, ◌<◌, Bool, true, false, List, [], ◌∷◌, ◌++◌, length, Option, Some, arith}
use Rattle.std.specs.Prelude.{◌&&◌, if◌then◌else◌}
use Rattle.tb_node.specs.declared.Float.{Float}
use Rattle.tb_fpage.specs.declared.Wanted.{Wanted}
use Rattle.tb_fpage.specs.Company.{Choice, joins, choices_from, passed_over, company_of_head, is_head, is_made, company_from, company, chosen_floats}

-- how many floats are chosen
count-append : (cs ds : List Choice) → length (chosen_floats (cs ++ ds)) ≡ length (chosen_floats cs) + length (chosen_floats ds)
count-append [] ds = omega arith
count-append (c ∷ cs) ds = by_mark c.chosen (count-append cs ds)
  where
    by_mark : (b : Bool) → length (chosen_floats (cs ++ ds)) ≡ length (chosen_floats cs) + length (chosen_floats ds)
        → length (if b then c.float ∷ chosen_floats (cs ++ ds) else chosen_floats (cs ++ ds)) ≡ length (if b then c.float ∷ chosen_floats cs else chosen_floats cs) + length (chosen_floats ds)
    by_mark true e = omega (arith, e)
    by_mark false e = e

-- later choices take none away
choices-have : (z : Wanted) (before : List Choice) (fs : List Float) → 0 < length (chosen_floats before) → 0 < length (chosen_floats (choices_from z before fs))
choices-have z before [] h = h
choices-have z before (f ∷ fs) h =
    let c : Choice = record { float = f; chosen = joins z before f } in
    choices-have z (before ++ c ∷ []) fs (omega (arith, count-append before (c ∷ []), h))

head-has : (z : Wanted) (before : List Float) (f : Float) (fs : List Float) → 0 < length (chosen_floats (company_of_head z before f fs))
head-has z before f fs =
    let c : Choice = record { float = f; chosen = true } in
    choices-have z (passed_over before ++ c ∷ []) fs (omega (arith, count-append (passed_over before) (c ∷ [])))

one-has : (cs head : List Choice) (later : Option (List Choice)) (b : Bool) → 0 < length (chosen_floats head) → (later ≡ Some cs → 0 < length (chosen_floats cs)) → (if b then Some head else later) ≡ Some cs → 0 < length (chosen_floats cs)
one-has cs head later true h k e = let same : head ≡ cs = cc in subst (λ (o : List Choice). 0 < length (chosen_floats o)) same h
one-has cs head later false h k e = k e

company-has : (z : Wanted) (before fs : List Float) (cs : List Choice) → company_from z before fs ≡ Some cs → 0 < length (chosen_floats cs)
company-has z before [] cs e = absurd cc
company-has z before (f ∷ fs) cs e =
    one-has cs (company_of_head z before f fs) (company_from z (before ++ f ∷ []) fs) (is_head z before f && is_made z (company_of_head z before f fs)) (head-has z before f fs) (company-has z (before ++ f ∷ []) fs cs) e

pub some-chosen : (z : Wanted) (fs : List Float) (cs : List Choice) → company z fs ≡ Some cs → chosen_floats cs ≢ []
some-chosen z fs cs e none = let has = company-has z [] fs cs e in absurd (omega (arith, has, ap length none))
