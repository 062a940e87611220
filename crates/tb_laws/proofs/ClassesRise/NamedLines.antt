-- Lines that rise, as the named lines of a valid galley do.
use Rattle.std.proofs.Common.{ℕ, ◌<◌, ◌≤◌, List, [], ◌∷◌, ◌++◌, arith}
use Rattle.std.specs.Prelude.{nat_lt, IsTrue}
use Rattle.std.specs.List.{AllByRecursion}
use Rattle.std.proofs.lemmas.Bool.{and_parts, ltb-true}
use Rattle.tb_break.proofs.EachLemmas.{all-map}
use Rattle.tb_galley.specs.Valid.{rise_from}

abbrev pub AllAbove : ℕ → List ℕ → Type 0
AllAbove k xs = AllByRecursion (λ x. k < x) xs

-- the first line is above, and the rest rises from it
pub rise-first : (k x : ℕ) (xs : List ℕ) → IsTrue (rise_from k (x ∷ xs)) → (k < x) × IsTrue (rise_from x xs)
rise-first k x xs h =
    let parts = and_parts (nat_lt k x) (rise_from x xs) h in
    (ltb-true k x parts.0, parts.1)

pub rise-above : (k : ℕ) (xs : List ℕ) → IsTrue (rise_from k xs) → AllAbove k xs
rise-above k [] h = tt
rise-above k (x ∷ xs) h =
    let first = rise-first k x xs h in
    let l : k < x = first.0 in
    (l, all-map (λ y. x < y) (λ y. k < y) (λ y a. omega (arith, l, a)) xs (rise-above x xs first.1))

-- behind a front the rest rises from some line on
pub rise-behind : (k : ℕ) (xs ys : List ℕ) → IsTrue (rise_from k (xs ++ ys)) → (m : ℕ) × ((k ≤ m) × IsTrue (rise_from m ys))
rise-behind k [] ys h = (k, (omega arith, h))
rise-behind k (x ∷ xs) ys h =
    let first = rise-first k x (xs ++ ys) h in
    let r = rise-behind x xs ys first.1 in
    let a : k < x = first.0 in
    let b : x ≤ r.0 = r.1.0 in
    (r.0, (omega arith, r.1.1))
