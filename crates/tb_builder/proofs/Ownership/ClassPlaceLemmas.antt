-- The places of classes among those of a builder.
use Rattle.std.proofs.Common.{is_some, ◌≡◌, refl, sym, subst, ◌∙◌, ap, ℕ, suc, ◌<◌, ◌+◌, Bool, true, false, List, [], ◌∷◌, ◌++◌, length, Option, None, Some, cond, get_or-set_same, get_or-set_other, arith}
use Rattle.std.specs.Prelude.{◌==◌, position, slice_index_or, slice_set, replicate}
use Rattle.std.specs.List.{position_from}
use Rattle.std.proofs.lemmas.List.{get_or-replicate}
use Rattle.std.proofs.lemmas.Bool.{eqb-true, eqb-false}
use Rattle.std.proofs.lemmas.Iterator.Adapters.{position_from-zero}
use Rattle.tb_builder.specs.declared.ClassList.{ClassList}
use Rattle.tb_builder.specs.ClassPlaces.{ArePlaces}

pub none_placed : ArePlaces [] (replicate 256 None)
none_placed = λ number d lt. get_or-replicate 256 number None d lt

-- the first place, with one more at the end
abbrev found_more : Option ℕ → Bool → ℕ → Option ℕ
found_more (Some j) b k = Some j
found_more None b k = cond b (Some k) None

from_more : (t : ClassList → Bool) (i : ℕ) (xs : List ClassList) (x : ClassList) → position_from t i (xs ++ x ∷ []) ≡ found_more (position_from t i xs) (t x) (i + length xs)
from_more t i [] x = let same : i ≡ i + 0 = omega arith in ap (λ k. cond (t x) (Some k) None) same
from_more t i (y ∷ xs) x = by_test (t y) (from_more t (i + 1) xs x)
  where
    by_test : (b : Bool) → position_from t (i + 1) (xs ++ x ∷ []) ≡ found_more (position_from t (i + 1) xs) (t x) (i + 1 + length xs)
        → cond b (Some i) (position_from t (i + 1) (xs ++ x ∷ [])) ≡ found_more (cond b (Some i) (position_from t (i + 1) xs)) (t x) (i + suc (length xs))
    by_test true h = refl
    by_test false h = let same : i + 1 + length xs ≡ i + suc (length xs) = omega arith in h ∙ ap (found_more (position_from t (i + 1) xs) (t x)) same

unchanged : (o : Option ℕ) → (k : ℕ) → o ≡ found_more o false k
unchanged None k = refl
unchanged (Some j) k = refl

none_is : (o : Option ℕ) → is_some o ≡ false → o ≡ None
none_is None e = refl
none_is (Some k) e = cc

module _ (es : List ClassList) (x : ClassList) (places : List (Option ℕ)) (h : ArePlaces es places) where
  position_more : (number : ℕ) → position (λ e. e.class.number == number) (es ++ x ∷ []) ≡ found_more (position (λ e. e.class.number == number) es) (x.class.number == number) (length es)
  position_more number =
      let t : ClassList → Bool = λ e. e.class.number == number in
      let all : 0 + length es ≡ length es = omega arith in
      position_from-zero t (es ++ x ∷ []) ∙ from_more t 0 es x ∙ (λ j. found_more (sym (position_from-zero t es) j) (t x) (all j))

  -- it is the first of its number, k
  pub placed_first : (d : Option ℕ) (k place : ℕ) → k ≡ x.class.number → place ≡ length es → is_some (slice_index_or places k d) ≡ false → k < 256 → k < length places
      → ArePlaces (es ++ x ∷ []) (slice_set places k (Some place))
  placed_first d k place own last none lt within = λ number e small.
      ap (λ m. slice_index_or (slice_set places k (Some m)) number e) last
      ∙ by_test number e small (k == number) refl
      ∙ ap (λ c. found_more (position (λ y. y.class.number == number) es) (c == number) (length es)) own
      ∙ sym (position_more number)
    where
      first : position (λ e. e.class.number == k) es ≡ None
      first = none_is (position (λ e. e.class.number == k) es) (ap is_some (sym (h k d lt)) ∙ none)

      by_test : (number : ℕ) (e : Option ℕ) → number < 256 → (b : Bool) → (k == number) ≡ b
          → slice_index_or (slice_set places k (Some (length es))) number e ≡ found_more (position (λ y. y.class.number == number) es) b (length es)
      by_test number e small true t =
          let same = eqb-true k number t in
          ap (λ n. slice_index_or (slice_set places k (Some (length es))) n e) (sym same)
          ∙ get_or-set_same places k (Some (length es)) e within
          ∙ ap (λ o. found_more o true (length es)) (sym (subst (λ n. position (λ y. y.class.number == n) es ≡ None) same first))
      by_test number e small false t =
          get_or-set_other places k number (Some (length es)) e (λ f. eqb-false k number t (sym f))
          ∙ h number e small ∙ unchanged (position (λ y. y.class.number == number) es) (length es)
