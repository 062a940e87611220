-- A company takes a float, and if floats are cleared, the first one that suits heads a company.
use Rattle.std.proofs.Common.{◌≡◌, refl, sym, ◌∙◌, subst, ℕ, ◌+◌, ◌≤◌, Bool, true, false, not, ◌||◌, ◌&&◌, List, [], ◌∷◌, ◌++◌, map, length, Some, None, arith, length-append}
use Rattle.std.specs.Prelude.{if◌then◌else◌}
use Rattle.std.specs.List.{AllByRecursion}
use Rattle.std.proofs.lemmas.Option.{same_Some}
use Rattle.tb_node.specs.declared.Float.{Float}
use Rattle.tb_fpage.specs.declared.Wanted.{Wanted}
use Rattle.tb_fpage.specs.Company.{Choice, suits, passed_over, joins, choices_from, company_of_head, is_head, is_made, company_from, company, chosen_floats, left_floats}
use Rattle.tb_fpage.proofs.CompanyLemmas.{length-choices}
use Rattle.tb_fpage.proofs.LawLemmas.{company-is-lawful}

-- ---- the first float

head-made : (a b c : Bool) → a ≡ true → c ≡ true → ((a && not false) && (c || b)) ≡ true
head-made true b true h k = refl
head-made true b false h k = let no : ⊥ = grind (arith, k) in absurd no
head-made false b c h k = let no : ⊥ = grind (arith, h) in absurd no

-- if floats are cleared, the first float heads a company if it suits
pub first-heads : (z : Wanted) (f : Float) (fs : List Float) → z.clearing ≡ true → suits z f ≡ true → company z (f ∷ fs) ≡ Some (company_of_head z [] f fs)
first-heads z f fs c s = chosen (is_head z [] f && is_made z (company_of_head z [] f fs)) (head-made (suits z f) _ z.clearing s c)
  where
    chosen : (t : Bool) → t ≡ true → (if t then Some (company_of_head z [] f fs) else company_from z ([] ++ f ∷ []) fs) ≡ Some (company_of_head z [] f fs)
    chosen true h = refl
    chosen false h = let no : ⊥ = grind (arith, h) in absurd no

-- so if none is made, it does not suit
pub none-suits : (z : Wanted) (f : Float) (fs : List Float) → z.clearing ≡ true → company z (f ∷ fs) ≡ None → suits z f ≡ false
none-suits z f fs c e = by_test (suits z f) refl
  where
    by_test : (t : Bool) → suits z f ≡ t → t ≡ false
    by_test true h = let no : Some (company_of_head z [] f fs) ≡ None = sym (first-heads z f fs c h) ∙ e in cc
    by_test false h = refl

-- ---- fewer floats are left

left-more : (f : Float) (t : Bool) (ls : List Float) (n : ℕ) → length ls ≤ n → length (if t then ls else f ∷ ls) ≤ n + 1
left-more f true ls n h = omega arith
left-more f false ls n h = omega arith

left-most : (cs : List Choice) → length (left_floats cs) ≤ length cs
left-most [] = omega arith
left-most (c ∷ cs) = let h : length (if c.chosen then left_floats cs else c.float ∷ left_floats cs) ≤ length cs + 1 = left-more c.float c.chosen (left_floats cs) (length cs) (left-most cs) in omega arith

-- one of the choices is in the company
abbrev OrLater : Bool → Type 0 → Type 0
OrLater true X = Unit {0}
OrLater false X = X

abbrev HasChosen : List Choice → Type 0
HasChosen [] = ⊥
HasChosen (c ∷ cs) = OrLater c.chosen (HasChosen cs)

or_later : (t : Bool) (X Y : Type 0) → (X → Y) → OrLater t X → OrLater t Y
or_later true X Y k h = tt
or_later false X Y k h = k h

chosen-joined : (cs ds : List Choice) → HasChosen cs → HasChosen (cs ++ ds)
chosen-joined [] ds h = absurd h
chosen-joined (c ∷ cs) ds h = or_later c.chosen (HasChosen cs) (HasChosen (cs ++ ds)) (λ k. chosen-joined cs ds k) h

or_always : (t : Bool) (X : Type 0) → X → OrLater t X
or_always true X h = tt
or_always false X h = h

chosen-behind : (cs : List Choice) (f : Float) → HasChosen (cs ++ record { float = f; chosen = true } ∷ [])
chosen-behind [] f = tt
chosen-behind (c ∷ cs) f = or_always c.chosen (HasChosen (cs ++ record { float = f; chosen = true } ∷ [])) (chosen-behind cs f)

left-fewer : (cs : List Choice) → HasChosen cs → length (left_floats cs) + 1 ≤ length cs
left-fewer [] h = absurd h
left-fewer (c ∷ cs) h = by_choice c.chosen (λ k. left-fewer cs k) h
  where
    by_choice : (t : Bool) → (HasChosen cs → length (left_floats cs) + 1 ≤ length cs) → OrLater t (HasChosen cs) → length (if t then left_floats cs else c.float ∷ left_floats cs) + 1 ≤ length (c ∷ cs)
    by_choice true later h = let k : length (left_floats cs) ≤ length cs = left-most cs in omega arith
    by_choice false later h = let k : length (left_floats cs) + 1 ≤ length cs = later h in omega arith

count-passed : (fs : List Float) → length (passed_over fs) ≡ length fs
count-passed [] = refl
count-passed (f ∷ fs) = let h : length (passed_over fs) ≡ length fs = count-passed fs in omega arith

choices-chosen : (z : Wanted) (before : List Choice) (fs : List Float) → HasChosen before → HasChosen (choices_from z before fs)
choices-chosen z before [] h = h
choices-chosen z before (f ∷ fs) h = choices-chosen z (before ++ record { float = f; chosen = joins z before f } ∷ []) fs (chosen-joined before (record { float = f; chosen = joins z before f } ∷ []) h)

head-fewer : (z : Wanted) (before : List Float) (f : Float) (fs : List Float) → length (left_floats (company_of_head z before f fs)) + 1 ≤ length before + length (f ∷ fs)
head-fewer z before f fs =
    let c : Choice = record { float = f; chosen = true } in
    let h : length (left_floats (company_of_head z before f fs)) + 1 ≤ length (company_of_head z before f fs) = left-fewer (company_of_head z before f fs) (choices-chosen z (passed_over before ++ c ∷ []) fs (chosen-behind (passed_over before) f)) in
    let k : length (company_of_head z before f fs) ≡ length (passed_over before ++ c ∷ []) + length fs = length-choices z (passed_over before ++ c ∷ []) fs in
    let i : length (passed_over before ++ c ∷ []) ≡ length (passed_over before) + 1 = length-append (passed_over before) (c ∷ []) in
    let j : length (passed_over before) ≡ length before = count-passed before in
    omega arith

from-fewer : (z : Wanted) (before fs : List Float) (cs : List Choice) → company_from z before fs ≡ Some cs → length (left_floats cs) + 1 ≤ length before + length fs
from-fewer z before [] cs e = cc
from-fewer z before (f ∷ fs) cs e = by_test (is_head z before f && is_made z (company_of_head z before f fs)) (λ h. moved (from-fewer z (before ++ f ∷ []) fs cs h)) e
  where
    moved : length (left_floats cs) + 1 ≤ length (before ++ f ∷ []) + length fs → length (left_floats cs) + 1 ≤ length before + length (f ∷ fs)
    moved k = let i : length (before ++ f ∷ []) ≡ length before + 1 = length-append before (f ∷ []) in omega arith

    by_test : (t : Bool) → (company_from z (before ++ f ∷ []) fs ≡ Some cs → length (left_floats cs) + 1 ≤ length before + length (f ∷ fs)) → (if t then Some (company_of_head z before f fs) else company_from z (before ++ f ∷ []) fs) ≡ Some cs → length (left_floats cs) + 1 ≤ length before + length (f ∷ fs)
    by_test true k h = subst (λ (ds : List Choice). length (left_floats ds) + 1 ≤ length before + length (f ∷ fs)) (same_Some (company_of_head z before f fs) cs h) (head-fewer z before f fs)
    by_test false k h = k h

-- a company takes a float at least
pub company-takes : (z : Wanted) (fs : List Float) (cs : List Choice) → company z fs ≡ Some cs → length (left_floats cs) + 1 ≤ length fs
company-takes z fs cs e = let h : length (left_floats cs) + 1 ≤ 0 + length fs = from-fewer z [] fs cs e in omega arith

-- ---- what all floats are, those of a company and those that are left are

parted-all : (P : Float → Type 0) (cs : List Choice) → AllByRecursion P (map (λ c. c.float) cs) → AllByRecursion P (chosen_floats cs) × AllByRecursion P (left_floats cs)
parted-all P [] h = (tt, tt)
parted-all P (c ∷ cs) h = by_choice c.chosen (parted-all P cs h.1)
  where
    by_choice : (t : Bool) → AllByRecursion P (chosen_floats cs) × AllByRecursion P (left_floats cs) → AllByRecursion P (if t then c.float ∷ chosen_floats cs else chosen_floats cs) × AllByRecursion P (if t then left_floats cs else c.float ∷ left_floats cs)
    by_choice true k = ((h.0, k.0), k.1)
    by_choice false k = (k.0, (h.0, k.1))

-- what holds of all floats holds of those that a company takes, and of those that it leaves
pub company-all : (P : Float → Type 0) (z : Wanted) (fs : List Float) (cs : List Choice) → company z fs ≡ Some cs → AllByRecursion P fs → AllByRecursion P (chosen_floats cs) × AllByRecursion P (left_floats cs)
company-all P z fs cs e h = parted-all P cs (subst (AllByRecursion P) (sym (company-is-lawful z fs cs e).floats) h)

pub company-leaves : (P : Float → Type 0) (z : Wanted) (fs : List Float) (cs : List Choice) → company z fs ≡ Some cs → AllByRecursion P fs → AllByRecursion P (left_floats cs)
company-leaves P z fs cs e h = (company-all P z fs cs e h).1
