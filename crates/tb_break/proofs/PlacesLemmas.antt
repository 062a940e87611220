-- What holds of each legal place holds of the best.
use Rattle.std.proofs.Common.{ℕ, ◌+◌, ◌≤◌, ℤ, Bool, true, false, List, [], ◌∷◌, ◌++◌, length, filter, cond, Option, None, Some, length-append, arith}
use Rattle.std.specs.Prelude.{int_le}
use Rattle.std.specs.List.{AllByRecursion}
use Rattle.tb_node.specs.Shape.{Shape}
use Rattle.tb_break.specs.Places.{last_or, split_penalty}
use Rattle.tb_break.specs.Best.{Breakpoint, best_or, least_cost, up_to_stop, is_stop}
use Rattle.tb_break.specs.Split.{split_places, with_place, end_place, split_place}

module _ {X : Type 0} (P : X → Type 0) where
  filter-tested : (t : Bool) (x : X) (ys : List X) → P x → AllByRecursion P ys → AllByRecursion P (cond t (x ∷ ys) ys)
  filter-tested true x ys h hs = (h, hs)
  filter-tested false x ys h hs = hs

  each-filter : (test : X → Bool) (xs : List X) → AllByRecursion P xs → AllByRecursion P (filter test xs)
  each-filter test [] h = tt
  each-filter test (x ∷ xs) h = filter-tested (test x) x (filter test xs) h.0 (each-filter test xs h.1)

  each-last : (d : X) (xs : List X) → P d → AllByRecursion P xs → P (last_or d xs)
  each-last d [] h hs = h
  each-last d (x ∷ xs) h hs = each-last x xs hs.0 hs.1

module _ (P : Breakpoint → Type 0) where
  stop-tested : (t : Bool) (b : Breakpoint) (bs : List Breakpoint) → P b → AllByRecursion P bs → AllByRecursion P (cond t (b ∷ []) (b ∷ bs))
  stop-tested true b bs h hs = (h, tt)
  stop-tested false b bs h hs = (h, hs)

  each-up_to_stop : (bs : List Breakpoint) → AllByRecursion P bs → AllByRecursion P (up_to_stop bs)
  each-up_to_stop [] h = tt
  each-up_to_stop (b ∷ bs) h = stop-tested (is_stop b) b (up_to_stop bs) h.0 (each-up_to_stop bs h.1)

  each-best : (d : Breakpoint) (bs : List Breakpoint) → P d → AllByRecursion P bs → P (best_or d bs)
  each-best d bs h hs = each-last P d (filter (λ b. int_le b.cost (least_cost bs)) bs) h (each-filter P (λ b. int_le b.cost (least_cost bs)) bs hs)

  each-with_place : (o : Option ℤ) (at : ℤ → Breakpoint) (later : List Breakpoint) → ((p : ℤ) → P (at p)) → AllByRecursion P later → AllByRecursion P (with_place o at later)
  each-with_place None at later h hs = hs
  each-with_place (Some p) at later h hs = (h p, hs)

places-within : (h d : ℤ) (n : ℕ) (before rest : List Shape) → length before + length rest ≤ n → AllByRecursion (λ b. b.place ≤ n) (split_places h d before rest)
places-within h d n before [] le = (omega arith, tt)
places-within h d n before (m ∷ rest) le =
    each-with_place (λ b. b.place ≤ n) (split_penalty before (m ∷ rest)) _ (split_places h d (before ++ m ∷ []) rest) (λ p. omega arith)
    (places-within h d n (before ++ m ∷ []) rest (omega (arith, length-append before (m ∷ []))))

-- a list is split at one of its places
pub split-within : (h d : ℤ) (ns : List Shape) → (split_place h d ns).place ≤ length ns
split-within h d ns =
    each-best (λ b. b.place ≤ length ns) (end_place h d ns) (up_to_stop (split_places h d [] ns)) (omega arith)
    (each-up_to_stop (λ b. b.place ≤ length ns) (split_places h d [] ns) (places-within h d (length ns) [] ns (omega arith)))
