-- The choices of a company: its height, its floats, those that stay behind, and the tests of a float that may join.
use Rattle.std.proofs.Common.{◌≡◌, ℕ, zero, suc, ◌+◌, ◌-◌, ◌≢◌, ◌<◌, Bool, true, false, List, [], ◌∷◌, ◌++◌, length, take, drop, Some, Result, Ok, Err, OnOk, drop-cons, add-one, slice_index_or, slice_get, refl, sym, ap, ◌∙◌, append_assoc, append-nil, arith}
use Rattle.std.specs.Prelude.{ℤ, pos, ◌+ℤ◌, ◌-ℤ◌, not, ◌&&◌, ◌||◌, ◌==◌, Option, None, is_some, int_le, if◌then◌else◌}
use Rattle.std.specs.Bool.{beq}
use Rattle.std.proofs.lemmas.Int.{ints}
use Rattle.std.proofs.lemmas.List.{length-append, length-map, length-take-le}
use Rattle.std.proofs.lemmas.Option.{slice_get_within}
use Rattle.tb_float.proofs.ListLemmas.{whole-at, slice_get-front}
use Rattle.tb_node.specs.declared.Float.{Float}
use Rattle.tb_float.specs.Lists.{has_class}
use Rattle.tb_fpage.specs.declared.Wanted.{Wanted}
use Rattle.tb_fpage.specs.Company.{Choice, passed_over, all_chosen, separated, company_height, joins, choices_from, company_of_head, chosen_floats, left_floats}
use Rattle.tb_fpage.proofs.WalkLemmas.{all-chosen}
use Rattle.tb_told.specs.declared.Test.{Test}
use Rattle.tb_told.specs.Tested.{first_of_class, is_yes, first_failed}
use Rattle.tb_told.specs.ColumnTold.{joins_tests, sum_with}
use Rattle.tb_told.proofs.ColumnLemmas.{joins_if}
use Rattle.tb_told.proofs.TestedLemmas.{first_is, yes_is_all}

-- ---- heights

-- the height with one more float

pub separated-last : (sep : ℤ) (cs : List Choice) (f : Float) → sep +ℤ separated sep cs +ℤ f.height ≡ separated sep (cs ++ record { float = f; chosen = true } ∷ [])
separated-last sep [] f = omega (arith, ints)
separated-last sep (c ∷ cs) f = by_choice c.chosen _ _ (separated-last sep cs f)
  where
    by_choice : (b : Bool) (x y : ℤ) → sep +ℤ x +ℤ f.height ≡ y → sep +ℤ (if b then sep +ℤ c.float.height +ℤ x else x) +ℤ f.height ≡ (if b then sep +ℤ c.float.height +ℤ y else y)
    by_choice true x y is = omega (arith, ints, is)
    by_choice false x y is = is

pub sum-is : (sep : ℤ) (cs : List Choice) (f : Float) → company_height sep (cs ++ record { float = f; chosen = true } ∷ []) ≡ separated sep cs +ℤ f.height
sum-is sep [] f = omega (arith, ints)
sum-is sep (c ∷ cs) f = by_choice c.chosen _ _ _ (separated-last sep cs f) (sum-is sep cs f)
  where
    by_choice : (b : Bool) (x y z : ℤ) → sep +ℤ x +ℤ f.height ≡ y → z ≡ x +ℤ f.height → (if b then c.float.height +ℤ y else z) ≡ (if b then sep +ℤ c.float.height +ℤ x else x) +ℤ f.height
    by_choice true x y z is rest = omega (arith, ints, is)
    by_choice false x y z is rest = rest

-- the height of a company that has a float, and that of one that has none
pub height-is : (sep : ℤ) (cs : List Choice) (n : ℕ) → length (chosen_floats cs) ≡ suc n → company_height sep cs ≡ separated sep cs -ℤ sep
height-is sep [] n some = cc
height-is sep (c ∷ cs) n some = by_choice c.chosen (company_height sep cs) (separated sep cs) (λ e. height-is sep cs n e) some
  where
    by_choice : (b : Bool) (x y : ℤ) → (length (chosen_floats cs) ≡ suc n → x ≡ y -ℤ sep) → length (if b then c.float ∷ chosen_floats cs else chosen_floats cs) ≡ suc n → (if b then c.float.height +ℤ y else x) ≡ (if b then sep +ℤ c.float.height +ℤ y else y) -ℤ sep
    by_choice true x y is e = omega (arith, ints)
    by_choice false x y is e = is e

pub height-none : (sep : ℤ) (cs : List Choice) → length (chosen_floats cs) ≡ 0 → company_height sep cs ≡ pos 0
height-none sep [] none = refl
height-none sep (c ∷ cs) none = by_choice c.chosen (company_height sep cs) (separated sep cs) (λ e. height-none sep cs e) none
  where
    by_choice : (b : Bool) (x y : ℤ) → (length (chosen_floats cs) ≡ 0 → x ≡ pos 0) → length (if b then c.float ∷ chosen_floats cs else chosen_floats cs) ≡ 0 → (if b then c.float.height +ℤ y else x) ≡ pos 0
    by_choice true x y is e = cc
    by_choice false x y is e = is e

-- ---- who stays behind

-- the first of its class is looked for among those that stay behind
pub left-step : (k : ℕ) (c : Choice) (cs : List Choice) → first_of_class k (left_floats (c ∷ cs)) ≡ (if (not c.chosen && (c.float.class == k)) then Some c.float else first_of_class k (left_floats cs))
left-step k c cs = by_choice c.chosen
  where
    by_choice : (b : Bool) → first_of_class k (if b then left_floats cs else c.float ∷ left_floats cs) ≡ (if (not b && (c.float.class == k)) then Some c.float else first_of_class k (left_floats cs))
    by_choice true = refl
    by_choice false = refl

-- the choice at a place is the first of those from there on
pub at-index : (cs : List Choice) (i : ℕ) (c : Choice) → i < length cs → c ≡ slice_index_or cs i c → drop i cs ≡ c ∷ drop (i + 1) cs
at-index cs i c lt is = drop-cons cs i c lt ∙ (λ j. sym is j ∷ drop (sym (add-one i) j) cs)

-- the choice is at the place
pub there-at : (cs : List Choice) (k : ℕ) (c : Choice) → k < length cs → c ≡ slice_index_or cs k c → slice_get cs k ≡ Some c
there-at cs k c lt is = slice_get-front k cs c (ap (λ ds. slice_get ds 0) (at-index cs k c lt is))

-- how many are in the company
pub count-step : (c : Choice) (cs : List Choice) → length (chosen_floats (c ∷ cs)) ≡ (if c.chosen then 1 else 0) + length (chosen_floats cs)
count-step c cs = by_choice c.chosen
  where
    by_choice : (b : Bool) → length (if b then c.float ∷ chosen_floats cs else chosen_floats cs) ≡ (if b then 1 else 0) + length (chosen_floats cs)
    by_choice true = omega arith
    by_choice false = omega arith

-- what the height grows by
pub separated-step : (sep : ℤ) (c : Choice) (cs : List Choice) → separated sep (c ∷ cs) ≡ (if c.chosen then sep +ℤ c.float.height else pos 0) +ℤ separated sep cs
separated-step sep c cs = by_choice c.chosen
  where
    by_choice : (b : Bool) → (if b then sep +ℤ c.float.height +ℤ separated sep cs else separated sep cs) ≡ (if b then sep +ℤ c.float.height else pos 0) +ℤ separated sep cs
    by_choice true = refl
    by_choice false = omega (arith, ints)

-- one of the class is found exactly if not all of the class are in the company
pub found-is : (k : ℕ) (cs : List Choice) → is_some (first_of_class k (left_floats cs)) ≡ not (all_chosen k cs)
found-is k cs = first_is k (left_floats cs) ∙ sym (not-not (has_class k (left_floats cs))) ∙ ap not (sym (all-chosen k cs))
  where
    not-not : (b : Bool) → not (not b) ≡ b
    not-not true = refl
    not-not false = refl

-- it is free exactly if none was found
pub free-is : (found : Option Float) (none all : Bool) → is_some found ≡ not none → is_some found ≡ not all → none ≡ all
free-is found true true e d = refl
free-is found true false e d = cc
free-is found false true e d = cc
free-is found false false e d = refl

-- ---- who joins

-- no test failed
pub none-is-yes : (o : Option Test) (b : Bool) → is_some o ≡ not b → b ≡ is_yes o
none-is-yes None true e = refl
none-is-yes None false e = cc
none-is-yes (Some t) true e = cc
none-is-yes (Some t) false e = refl

-- it joins exactly if it has the width and no test fails
pub joins-wide : (z : Wanted) (cs : List Choice) (f : Float) → beq f.wide z.wide ≡ true → is_yes (first_failed (joins_tests z cs f)) ≡ joins z cs f
joins-wide z cs f w = yes_is_all (joins_tests z cs f) ∙ joins_if z cs f w

pub joins-other : (z : Wanted) (cs : List Choice) (f : Float) → beq f.wide z.wide ≡ false → joins z cs f ≡ false
joins-other z cs f w = ap (λ b. ((f.places.p || z.clearing) && b && int_le f.height z.height) && all_chosen f.class cs && int_le (sum_with z cs f) z.height) w
    ∙ none (f.places.p || z.clearing) (int_le f.height z.height) (all_chosen f.class cs) (int_le (sum_with z cs f) z.height)
  where
    none : (a b c d : Bool) → ((a && false && b) && c && d) ≡ false
    none true b c d = refl
    none false b c d = refl

-- ---- floats that stay behind before a head

-- one more is passed over
pub pass-next : (old new all : List Choice) (n : ℕ) (f : Float) (fs gs : List Float) → fs ≡ f ∷ gs → n ≢ 0 → new ≡ old ++ record { float = f; chosen = false } ∷ [] → old ++ passed_over (take n fs) ≡ all → new ++ passed_over (take (n - 1) gs) ≡ all
pass-next old new all zero f fs gs next some is so = absurd (omega arith)
pass-next old new all (suc n) f fs gs next some is so =
    let one : suc n - 1 ≡ n = omega arith in
    ap (λ m. new ++ passed_over (take m gs)) one
    ∙ ap (λ ds. ds ++ passed_over (take n gs)) is
    ∙ append_assoc old (record { float = f; chosen = false } ∷ []) (passed_over (take n gs))
    ∙ ap (λ hs. old ++ passed_over (take (suc n) hs)) (sym next)
    ∙ so

-- so many were passed over, or the list has ended
pub pass-all : (old all : List Choice) (n : ℕ) (fs : List Float) → n ≡ 0 → old ++ passed_over (take n fs) ≡ all → old ≡ all
pass-all old all n fs none so = sym (append-nil old) ∙ sym (ap (λ m. old ++ passed_over (take m fs)) none ∙ take-none fs) ∙ so
  where
    take-none : (gs : List Float) → old ++ passed_over (take 0 gs) ≡ old ++ []
    take-none [] = refl
    take-none (g ∷ gs) = refl

pub pass-end : (old all : List Choice) (n : ℕ) (fs : List Float) → fs ≡ [] → old ++ passed_over (take n fs) ≡ all → old ≡ all
pass-end old all n fs none so = sym (append-nil old) ∙ sym (ap (λ gs. old ++ passed_over (take n gs)) none ∙ take-nothing n) ∙ so
  where
    take-nothing : (m : ℕ) → old ++ passed_over (take m []) ≡ old ++ []
    take-nothing zero = refl
    take-nothing (suc m) = refl

-- ---- the company of a head

pub length-choices : (z : Wanted) (before : List Choice) (fs : List Float) → length (choices_from z before fs) ≡ length before + length fs
length-choices z before [] = omega arith
length-choices z before (f ∷ fs) =
    let c : Choice = record { float = f; chosen = joins z before f } in
    omega (arith, length-choices z (before ++ c ∷ []) fs, length-append before (c ∷ []))

-- the floats before it, and the head
pub head-length : (fs : List Float) (f : Float) → length (passed_over fs ++ record { float = f; chosen = true } ∷ []) ≡ length fs + 1
head-length fs f =
    let c : Choice = record { float = f; chosen = true } in
    let many : length (passed_over fs) ≡ length fs = length-map fs (λ g. record { float = g; chosen = false }) in
    omega (arith, length-append (passed_over fs) (c ∷ []), many)

-- there is a choice for each float
pub company-length : (z : Wanted) (all : List Float) (place : ℕ) (f : Float) → slice_get all place ≡ Some f → length (company_of_head z (take place all) f (drop (suc place) all)) ≡ length all
company-length z all place f there =
    let before = passed_over (take place all) ++ record { float = f; chosen = true } ∷ [] in
    let parts = ap length (whole-at all place f there) in
    omega (arith, length-choices z before (drop (suc place) all), head-length (take place all) f, parts, length-append (take place all) (f ∷ drop (suc place) all))

-- one call appends what is to be appended
pub ok-then : {E X : Type 0} (r : Result (Unit {0}) E) (x a b : X) → a ≡ b → OnOk r (x ≡ a) → OnOk r (x ≡ b)
ok-then (Ok v) x a b e h = h ∙ e
ok-then (Err v) x a b e h = tt

-- how many are before it
pub place-is : (all : List Float) (place : ℕ) (f : Float) → slice_get all place ≡ Some f → length (take place all) ≡ place
place-is all place f there = length-take-le place all (omega (arith, slice_get_within all place f there))

-- how many are behind it
pub rest-length : (all : List Float) (place : ℕ) (f : Float) → slice_get all place ≡ Some f → place + 1 + length (drop (place + 1) all) ≡ length all
rest-length all place f there =
    let one : length (drop (place + 1) all) ≡ length (drop (suc place) all) = ap (λ n. length (drop n all)) (add-one place) in
    omega (arith, one, ap length (whole-at all place f there), length-append (take place all) (f ∷ drop (suc place) all), place-is all place f there)
