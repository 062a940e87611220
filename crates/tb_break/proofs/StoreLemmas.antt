-- A store in which one list was changed.
use Rattle.std.proofs.Common.{◌≡◌, inl, inr, ℕ, List, [], ◌∷◌, slice_get, Option, Some, None, IsSome, is_some, refl, sym, ap, ◌∙◌}
use Rattle.std.proofs.lemmas.Bool.{cases_eq}
use Rattle.std.specs.FinMap.{FinMap, get, insert}
use Rattle.std.specs.Ordering.{nat_cmp}
use Rattle.tb_pool.specs.Lists.{Lists, IsLive, with_list}
use Rattle.tb_pool.proofs.MapLemmas.{get-insert_same, get-insert_other}

module _ {T : Type 0} where
  -- the first of a list, if it has one
  pub none_first : (xs : List T) → None ≡ slice_get xs 0 → xs ≡ []
  none_first [] e = refl
  none_first (x ∷ xs) e = cc

  pub some_first : (xs : List T) (x : T) → Some x ≡ slice_get xs 0 → (ys : List T) × (xs ≡ x ∷ ys)
  some_first [] x e = cc
  some_first (y ∷ ys) x e = (ys, ap (λ z. z ∷ ys) (same y x (sym e)))
    where
      same : (y x : T) → Some y ≡ Some x → y ≡ x
      same y x e = cc

  live-insert : (m : FinMap nat_cmp (List T)) (l : ℕ) (xs : List T) (q : ℕ) → IsSome (get m q) → IsSome (get (insert m l xs) q)
  live-insert m l xs q live = elim (cases_eq q l) [
    | inl e ↦ ap (λ k. is_some (get (insert m l xs) k)) e ∙ ap (λ (o : Option (List T)). is_some o) (get-insert_same m l xs)
    | inr ne ↦ ap (λ (o : Option (List T)). is_some o) (get-insert_other m l xs q ne) ∙ live
  ]

  -- a list was cut, and the rest went to another: what each list is then
  pub live-parted : (old now : Lists T) (l rest : ℕ) (xs ys : List T) → now.lists ≡ insert (with_list old l xs) rest ys → (q : ℕ) → IsLive old q → IsLive now q
  live-parted old now l rest xs ys e q live = ap (λ (m : FinMap nat_cmp (List T)). is_some (get m q)) e ∙ live-insert (with_list old l xs) rest ys q (live-insert old.lists l xs q live)
