-- A list that is shortened.
use Rattle.std.proofs.Common.{◌≡◌, sym, ◌∙◌, ap, ℕ, zero, suc, ◌-◌, ◌≤◌, ◌<◌, min, List, [], ◌∷◌, length, take, Option, None, Some, refl, arith}
use Rattle.std.specs.Prelude.{IsNone, ◌↔◌, OnSome}
use Rattle.std.proofs.lemmas.List.{take_min, length-take-le}
use Rattle.std.proofs.Math.Seq.{take-length}
use Rattle.tb_pool.specs.Lists.{Lists, IsLive, list_at, with_list}
use Rattle.tb_pool.proofs.CallerLemmas.{list_same, live_same, with_list-twice, with_list-same}

module _ {T : Type 0} where
  -- a list is never shortened to fewer than so many
  pub record Shortened (a s : Lists T) (l k : ℕ) : Type 0 where
    pub live : IsLive s l
    pub lists : s.lists ≡ with_list a l (take (length (list_at s l)) (list_at a l))
    pub most : length (list_at s l) ≤ length (list_at a l)
    pub enough : min k (length (list_at a l)) ≤ length (list_at s l)

  pub not-shortened : (a : Lists T) (l k : ℕ) → IsLive a l → Shortened a a l k
  not-shortened a l k live = record {
    live = live;
    lists = with_list-same a a l live refl ∙ ap (with_list a l) (sym (take-length (list_at a l)));
    most = omega arith;
    enough = omega arith;
  }

  take-take-less : (m n : ℕ) (xs : List T) → m ≤ n → take m (take n xs) ≡ take m xs
  take-take-less zero n xs h = refl
  take-take-less (suc m) zero xs h = absurd (omega arith)
  take-take-less (suc m) (suc n) [] h = refl
  take-take-less (suc m) (suc n) (x ∷ xs) h = ap (λ ys. x ∷ ys) (take-take-less m n xs (omega arith))

  -- one more is taken off
  pub one-off : (a s t : Lists T) (l k : ℕ) (o : Option T) → Shortened a s l k → k < length (list_at s l) → (IsNone o ↔ (list_at s l ≡ [])) → OnSome o (t.lists ≡ with_list s l (take (length (list_at s l) - 1) (list_at s l)))
      → Shortened a t l k × (length (list_at t l) < length (list_at s l))
  one-off a s t l k None h more empty rest = absurd (let none : list_at s l ≡ [] = empty.0 refl in let e = ap length none in omega arith)
  one-off a s t l k (Some x) h more empty rest =
      let n = length (list_at s l) in
      let at_s : list_at s l ≡ take n (list_at a l) = list_same a s l (take n (list_at a l)) h.lists in
      let at_t : list_at t l ≡ take (n - 1) (list_at s l) = list_same s t l (take (n - 1) (list_at s l)) rest in
      let front : take (n - 1) (list_at s l) ≡ take (n - 1) (list_at a l) = ap (take (n - 1)) at_s ∙ take-take-less (n - 1) n (list_at a l) (omega arith) in
      let count : length (list_at t l) ≡ n - 1 = ap length at_t ∙ length-take-le (n - 1) (list_at s l) (omega arith) in
      let most = h.most in
      let enough = h.enough in (
        record {
          live = live_same s t l (take (n - 1) (list_at s l)) rest;
          lists = with_list-twice a s t l (take n (list_at a l)) (take (n - 1) (list_at s l)) h.lists rest ∙ ap (with_list a l) (front ∙ ap (λ i. take i (list_at a l)) (sym count));
          most = omega arith;
          enough = omega arith;
        },
        omega arith,
      )

  pub short-enough : (a s : Lists T) (l k : ℕ) → Shortened a s l k → length (list_at s l) ≤ k → s.lists ≡ with_list a l (take k (list_at a l))
  short-enough a s l k h less = h.lists ∙ ap (with_list a l) (ap (λ n. take n (list_at a l)) same ∙ take_min k (list_at a l))
    where
      same : length (list_at s l) ≡ min k (length (list_at a l))
      same = let e = h.enough in let m = h.most in omega arith
