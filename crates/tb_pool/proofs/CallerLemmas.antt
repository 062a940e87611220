-- What callers use of a store of lists after a call: the list that changed, and each other list.
use Rattle.std.proofs.Common.{◌≡◌, ◌≢◌, refl, sym, ap, subst, ◌∙◌, ℕ, ◌+◌, List, [], ◌∷◌, ◌++◌, length, length-append, Option, None, Some, unwrap_or, IsSome}
use Rattle.std.specs.Prelude.{All}
use Rattle.std.specs.FinMap.{FinMap, get, insert}
use Rattle.std.specs.Ordering.{nat_cmp}
use Rattle.std.proofs.lemmas.Bool.{true≢false}
use Rattle.std.proofs.lemmas.List.Elements.{All-push}
use Rattle.tb_pool.specs.Lists.{Lists, IsLive, list_at, with_list}
use Rattle.tb_pool.proofs.MapLemmas.{get-insert_same, get-insert_other, insert_from_get}

-- one list changed: it has its new values and is live, and every other id has what it had
module _ {T : Type 0} (s t : Lists T) (l : ℕ) (xs : List T) where
  pub list_same : t.lists ≡ with_list s l xs → list_at t l ≡ xs
  list_same e = ap (λ m. unwrap_or (get m l) []) e ∙ ap (λ o. unwrap_or o []) (get-insert_same s.lists l xs)

  pub live_same : t.lists ≡ with_list s l xs → IsLive t l
  live_same e = let some = ap (λ m. get m l) e ∙ get-insert_same s.lists l xs in subst IsSome (sym some) refl

  pub get_other : (q : ℕ) → q ≢ l → t.lists ≡ with_list s l xs → get t.lists q ≡ get s.lists q
  get_other q ne e = ap (λ m. get m q) e ∙ get-insert_other s.lists l xs q ne

  pub list_other : (q : ℕ) → q ≢ l → t.lists ≡ with_list s l xs → list_at t q ≡ list_at s q
  list_other q ne e = ap (λ o. unwrap_or o []) (get_other q ne e)

  pub live_other : (q : ℕ) → q ≢ l → t.lists ≡ with_list s l xs → IsLive s q → IsLive t q
  live_other q ne e live = subst IsSome (sym (get_other q ne e)) live

module _ {T : Type 0} where
  -- a list changed twice
  pub insert-twice : (m : FinMap nat_cmp (List T)) (l : ℕ) (xs ys : List T) → insert (insert m l xs) l ys ≡ insert m l ys
  insert-twice m l xs ys = insert_from_get m (insert (insert m l xs) l ys) l ys (get-insert_same (insert m l xs) l ys) (λ q ne. get-insert_other (insert m l xs) l ys q ne ∙ get-insert_other m l xs q ne)

  pub with_list-twice : (a b c : Lists T) (l : ℕ) (xs ys : List T) → b.lists ≡ with_list a l xs → c.lists ≡ with_list b l ys → c.lists ≡ with_list a l ys
  with_list-twice a b c l xs ys e f = f ∙ ap (λ m. insert m l ys) e ∙ insert-twice a.lists l xs ys

  -- a live list is in the map
  pub some_list : (s : Lists T) (l : ℕ) (xs : List T) → IsLive s l → list_at s l ≡ xs → get s.lists l ≡ Some xs
  some_list s l xs live e = by_option (get s.lists l) live e
    where
      by_option : (o : Option (List T)) → IsSome o → unwrap_or o [] ≡ xs → o ≡ Some xs
      by_option None live e = absurd (true≢false (sym live))
      by_option (Some ys) live e = ap Some e

  -- nothing changed
  pub with_list-same : (old now : Lists T) (l : ℕ) → IsLive old l → now.lists ≡ old.lists → now.lists ≡ with_list old l (list_at old l)
  with_list-same old now l live e = e ∙ insert_from_get old.lists old.lists l (list_at old l) (some_list old l (list_at old l) live refl) (λ q ne. refl)

-- a value was put at the end of a list
module _ {T : Type 0} (s t : Lists T) (l : ℕ) (x : T) where
  pub length-pushed : t.lists ≡ with_list s l (list_at s l ++ x ∷ []) → length (list_at t l) ≡ length (list_at s l) + 1
  length-pushed e = ap length (list_same s t l (list_at s l ++ x ∷ []) e) ∙ length-append (list_at s l) (x ∷ [])

  pub All-pushed : (P : T → Type 0) → t.lists ≡ with_list s l (list_at s l ++ x ∷ []) → All P (list_at s l) → P x → All P (list_at t l)
  All-pushed P e h p = subst (All P) (sym (list_same s t l (list_at s l ++ x ∷ []) e)) (All-push P (list_at s l) x h p)
