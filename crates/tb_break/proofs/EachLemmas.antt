-- What holds of each element of a list, and of the lists that it is made of.
use Rattle.std.proofs.Common.{ℕ, zero, suc, List, [], ◌∷◌, ◌++◌, take, drop}
use Rattle.std.specs.List.{AllByRecursion}

module _ {X : Type 0} (P : X → Type 0) where
  pub all-front : (xs ys : List X) → AllByRecursion P (xs ++ ys) → AllByRecursion P xs
  all-front [] ys h = tt
  all-front (x ∷ xs) ys h = (h.0, all-front xs ys h.1)

  pub all-back : (xs ys : List X) → AllByRecursion P (xs ++ ys) → AllByRecursion P ys
  all-back [] ys h = h
  all-back (x ∷ xs) ys h = all-back xs ys h.1

  pub all-join : (xs ys : List X) → AllByRecursion P xs → AllByRecursion P ys → AllByRecursion P (xs ++ ys)
  all-join [] ys h k = k
  all-join (x ∷ xs) ys h k = (h.0, all-join xs ys h.1 k)

  pub all-push : (xs : List X) (x : X) → AllByRecursion P xs → P x → AllByRecursion P (xs ++ x ∷ [])
  all-push xs x h k = all-join xs (x ∷ []) h (k, tt)

  pub all-take : (k : ℕ) (xs : List X) → AllByRecursion P xs → AllByRecursion P (take k xs)
  all-take zero xs h = tt
  all-take (suc k) [] h = tt
  all-take (suc k) (x ∷ xs) h = (h.0, all-take k xs h.1)

  pub all-drop : (k : ℕ) (xs : List X) → AllByRecursion P xs → AllByRecursion P (drop k xs)
  all-drop zero xs h = h
  all-drop (suc k) [] h = tt
  all-drop (suc k) (x ∷ xs) h = all-drop k xs h.1

  pub all-of : ((x : X) → P x) → (xs : List X) → AllByRecursion P xs
  all-of f [] = tt
  all-of f (x ∷ xs) = (f x, all-of f xs)

module _ {X : Type 0} (P Q : X → Type 0) where
  pub all-map : ((x : X) → P x → Q x) → (xs : List X) → AllByRecursion P xs → AllByRecursion Q xs
  all-map f [] h = tt
  all-map f (x ∷ xs) h = (f x h.0, all-map f xs h.1)

  pub all-both : (xs : List X) → AllByRecursion P xs → AllByRecursion Q xs → AllByRecursion (λ x. P x × Q x) xs
  all-both [] h k = tt
  all-both (x ∷ xs) h k = ((h.0, k.0), all-both xs h.1 k.1)
