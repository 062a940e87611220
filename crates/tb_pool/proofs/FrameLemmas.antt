-- 'Only these lists changed' is carried on from call to call.
use Rattle.std.proofs.Common.{sym, subst, ◌∙◌, ℕ, List, [], ◌∷◌, ◌++◌, IsSome}
use Rattle.tb_pool.specs.Lists.{Lists, IsLive}
use Rattle.tb_pool.specs.Frame.{IsNoneOf, OnlyChanged}

-- ---- none of these

pub none-front : (q : ℕ) (xs ys : List ℕ) → IsNoneOf q (xs ++ ys) → IsNoneOf q xs
none-front q [] ys h = tt
none-front q (x ∷ xs) ys h = (h.0, none-front q xs ys h.1)

pub none-back : (q : ℕ) (xs ys : List ℕ) → IsNoneOf q (xs ++ ys) → IsNoneOf q ys
none-back q [] ys h = h
none-back q (x ∷ xs) ys h = none-back q xs ys h.1

pub none-join : (q : ℕ) (xs ys : List ℕ) → IsNoneOf q xs → IsNoneOf q ys → IsNoneOf q (xs ++ ys)
none-join q [] ys h k = k
none-join q (x ∷ xs) ys h k = (h.0, none-join q xs ys h.1 k)

module _ {T : Type 0} where
  pub frame-live : (mine ours : List ℕ) (store new : Lists T) → OnlyChanged mine ours store new → (q : ℕ) → IsLive store q → IsNoneOf q mine → IsLive new q
  frame-live mine ours store new frame q live none = subst (λ o. IsSome o) (sym (frame q live none).0) live

  -- one call after another
  pub frame-then : (mine between ours : List ℕ) (store middle new : Lists T) → OnlyChanged mine between store middle → OnlyChanged between ours middle new → OnlyChanged mine ours store new
  frame-then mine between ours store middle new one two q live none =
      let first = one q live none in
      let second = two q (frame-live mine between store middle one q live none) first.1 in
      (second.0 ∙ first.0, second.1)
