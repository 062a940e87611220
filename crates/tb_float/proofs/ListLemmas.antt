-- Lemmas on lists.
use Rattle.std.proofs.Common.{◌≡◌, ℕ, zero, suc, ◌+◌, ◌<◌, ◌≤◌, List, [], ◌∷◌, ◌++◌, length, take, drop, map, Some, Option, None, IsSome, unwrap_or, slice_get, slice_set, refl, sym, ap, ◌∙◌, get_or, add-one, arith}
use Rattle.std.proofs.Math.Seq.{drop-cons, take-suc}
use Rattle.std.proofs.Math.ListN.{drop_of_length-le}
use Rattle.std.proofs.lemmas.List.{map-append, append_assoc, length-append, length-drop, length-map, length-take-le}
use Rattle.std.proofs.lemmas.Bool.{true≢false}
use Rattle.std.proofs.lemmas.Option.{same_Some}
use Rattle.tb_float.specs.Lists.{without_place}

module _ {X : Type 0} where
  -- a list in two parts, and its element at the place where they meet
  pub slice_get-drop : (k : ℕ) (xs : List X) (x : X) → slice_get xs k ≡ Some x → drop k xs ≡ x ∷ drop (suc k) xs
  slice_get-drop k [] x e = cc
  slice_get-drop zero (y ∷ xs) x e = grind arith
  slice_get-drop (suc k) (y ∷ xs) x e = slice_get-drop k xs x e

  -- the element at a place is the first of those from there on
  pub slice_get-front : (k : ℕ) (xs : List X) (x : X) → slice_get (drop k xs) 0 ≡ Some x → slice_get xs k ≡ Some x
  slice_get-front zero [] x e = e
  slice_get-front (suc k) [] x e = e
  slice_get-front zero (y ∷ xs) x e = e
  slice_get-front (suc k) (y ∷ xs) x e = slice_get-front k xs x e

  pub slice_get-one : (xs : List X) (x : X) → slice_get (take 1 xs) 0 ≡ Some x → slice_get xs 0 ≡ Some x
  slice_get-one [] x e = e
  slice_get-one (y ∷ xs) x e = e

  pub without_place-parts : (k : ℕ) (xs : List X) → without_place k xs ≡ take k xs ++ drop (suc k) xs
  without_place-parts zero [] = refl
  without_place-parts (suc k) [] = refl
  without_place-parts zero (x ∷ xs) = refl
  without_place-parts (suc k) (x ∷ xs) = ap (λ ys. x ∷ ys) (without_place-parts k xs)

  pub take-drop : (k : ℕ) (xs : List X) → take k xs ++ drop k xs ≡ xs
  take-drop zero xs = refl
  take-drop (suc k) [] = refl
  take-drop (suc k) (x ∷ xs) = ap (λ ys. x ∷ ys) (take-drop k xs)

  pub some-at : (xs : List X) (k : ℕ) → k < length xs → (x : X) × (slice_get xs k ≡ Some x)
  some-at [] k lt = absurd (omega arith)
  some-at (x ∷ xs) zero lt = (x, refl)
  some-at (x ∷ xs) (suc k) lt = some-at xs k (omega arith)

  pub slice_set-parts : (k : ℕ) (xs : List X) (x y : X) → slice_get xs k ≡ Some x → slice_set xs k y ≡ take k xs ++ y ∷ drop (suc k) xs
  slice_set-parts k [] x y e = cc
  slice_set-parts zero (z ∷ xs) x y e = refl
  slice_set-parts (suc k) (z ∷ xs) x y e = ap (λ ys. z ∷ ys) (slice_set-parts k xs x y e)

  pub length-without_place : (k : ℕ) (xs : List X) → k < length xs → length (without_place k xs) + 1 ≡ length xs
  length-without_place k [] lt = absurd (omega arith)
  length-without_place zero (x ∷ xs) lt = omega arith
  length-without_place (suc k) (x ∷ xs) lt = omega (arith, length-without_place k xs (omega arith))

module _ {X Y : Type 0} where
  pub map-without_place : (f : X → Y) (k : ℕ) (xs : List X) → map f (without_place k xs) ≡ without_place k (map f xs)
  map-without_place f zero [] = refl
  map-without_place f (suc k) [] = refl
  map-without_place f zero (x ∷ xs) = refl
  map-without_place f (suc k) (x ∷ xs) = ap (λ ys. f x ∷ ys) (map-without_place f k xs)

module _ {X : Type 0} where
  cons-parts : (x y : X) (xs ys : List X) → x ∷ xs ≡ y ∷ ys → (x ≡ y) × (xs ≡ ys)
  cons-parts x y xs ys e = (cc, cc)

  -- the first of the rest goes, changed, behind those that went before
  pub turned-once : (f : X → X) (k : ℕ) (xs ys zs : List X) (x : X) → ys ≡ drop k xs ++ map f (take k xs) → ys ≡ x ∷ zs → k < length xs → zs ++ f x ∷ [] ≡ drop (k + 1) xs ++ map f (take (k + 1) xs)
  turned-once f k xs ys zs x is first lt =
      let front = drop-cons xs k x lt in
      let parts = cons-parts x (get_or xs k x) zs (drop (suc k) xs ++ map f (take k xs)) (sym first ∙ is ∙ ap (λ t. t ++ map f (take k xs)) front) in
      rw (add-one, take-suc xs k x lt, map-append, parts.1, append_assoc) (ap (λ y. drop (suc k) xs ++ (map f (take k xs) ++ f y ∷ [])) parts.0)

  take-past : (k : ℕ) (xs : List X) → length xs ≤ k → take k xs ≡ xs
  take-past zero [] le = refl
  take-past (suc k) [] le = refl
  take-past zero (x ∷ xs) le = absurd (omega arith)
  take-past (suc k) (x ∷ xs) le = ap (λ ys. x ∷ ys) (take-past k xs (omega arith))

  -- all of them did so
  pub turned-all : (f : X → X) (k : ℕ) (xs ys : List X) → ys ≡ drop k xs ++ map f (take k xs) → length xs ≤ k → ys ≡ map f xs
  turned-all f k xs ys is le = rw (take-past k xs le, drop_of_length-le xs le) at is

  -- what a place has that has something
  pub some-list : (o : Option (List X)) → IsSome o → o ≡ Some (unwrap_or o [])
  some-list None is = absurd (true≢false (sym is))
  some-list (Some xs) is = refl

  pub turned-length : (f : X → X) (k : ℕ) (xs ys : List X) → ys ≡ drop k xs ++ map f (take k xs) → k ≤ length xs → length ys ≡ length xs
  turned-length f k xs ys is le =
      omega (arith, ap length is, length-append (drop k xs) (map f (take k xs)), length-drop k xs, length-map (take k xs) f, length-take-le k xs le)

-- ---- a list before a place, the element there, and the others

module _ {X : Type 0} where
  pub take-at : (xs : List X) (k : ℕ) (x : X) → slice_get xs k ≡ Some x → take (suc k) xs ≡ take k xs ++ x ∷ []
  take-at [] k x got = cc
  take-at (y ∷ xs) zero x got = ap (λ z. z ∷ []) (same_Some y x got)
  take-at (y ∷ xs) (suc k) x got = ap (λ zs. y ∷ zs) (take-at xs k x got)

  pub whole-at : (xs : List X) (k : ℕ) (x : X) → slice_get xs k ≡ Some x → xs ≡ take k xs ++ x ∷ drop (suc k) xs
  whole-at [] k x got = cc
  whole-at (y ∷ xs) zero x got = ap (λ z. z ∷ xs) (same_Some y x got)
  whole-at (y ∷ xs) (suc k) x got = ap (λ zs. y ∷ zs) (whole-at xs k x got)

  -- the front of a list that others follow
  pub take-front : (k : ℕ) (xs ys : List X) → k ≤ length xs → take k (take k xs ++ ys) ≡ take k xs
  take-front zero [] ys le = refl
  take-front (suc k) [] ys le = absurd (omega arith)
  take-front zero (x ∷ xs) ys le = refl
  take-front (suc k) (x ∷ xs) ys le = ap (λ zs. x ∷ zs) (take-front k xs ys (omega arith))

  pub drop-front : (k : ℕ) (xs ys : List X) → k ≤ length xs → drop k (take k xs ++ ys) ≡ ys
  drop-front zero [] ys le = refl
  drop-front (suc k) [] ys le = absurd (omega arith)
  drop-front zero (x ∷ xs) ys le = refl
  drop-front (suc k) (x ∷ xs) ys le = drop-front k xs ys (omega arith)
