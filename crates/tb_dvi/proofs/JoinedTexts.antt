-- Texts that are written piece by piece.
use Rattle.std.proofs.Common.{◌≡◌, refl, ◌∙◌, ap, sym, ℕ, suc, ◌+◌, ◌<◌, List, [], ◌∷◌, ◌++◌, length, drop, slice_index_or, append_assoc, zero, not-suc-le-zero, true≢false, is_some, unwrap_or, cond, Bool, true, false, ℤ, Some, None, Result, Ok, Err, OnOk, arith}
use Rattle.tb_text.specs.Fronts.{PutsAfter}
use Rattle.tb_dvi.specs.File.{near, is_far_down}
use Rattle.tb_dvi.specs.Listing.{shown, shown_byte}

-- one piece more
pub joins : (old mid new a b : List ℕ) → mid ≡ old ++ a → new ≡ mid ++ b → new ≡ old ++ (a ++ b)
joins old mid new a b p q = q ∙ ap (λ m. m ++ b) p ∙ append_assoc old a b

module _ {X E : Type 0} where
  -- the last piece
  pub joins-last : (r : Result X E) (old mid new a b : List ℕ) → mid ≡ old ++ a → PutsAfter r mid b new → OnOk r (new ≡ old ++ (a ++ b))
  joins-last (Ok v) old mid new a b p q = joins old mid new a b p q
  joins-last (Err v) old mid new a b p q = tt

pub drop-step : (xs : List ℕ) (i d : ℕ) → i < length xs → drop i xs ≡ slice_index_or xs i d ∷ drop (suc i) xs
drop-step [] i d h = absurd (not-suc-le-zero h)
drop-step (x ∷ xs) zero d h = refl
drop-step (x ∷ xs) (suc i) d h = drop-step xs i d (omega (arith, h))

-- one byte more of a special
pub shows : (text now new old : List ℕ) (i d : ℕ) → i < length text → now ++ shown (drop i text) ≡ old → new ≡ now ++ shown_byte (slice_index_or text i d) → new ++ shown (drop (i + 1) text) ≡ old
shows text now new old i d h so_far wrote =
    let b = slice_index_or text i d in
    let one : suc i ≡ i + 1 = omega arith in
    let e : shown (drop i text) ≡ shown_byte b ++ shown (drop (i + 1) text) = ap shown (drop-step text i d h) ∙ ap (λ k. shown_byte b ++ shown (drop k text)) one in
    ap (λ m. m ++ shown (drop (i + 1) text)) wrote ∙ append_assoc now (shown_byte b) (shown (drop (i + 1) text)) ∙ ap (λ t. now ++ t) (sym e) ∙ so_far

-- a place that is near
pub near-some : (v place : ℤ) → Some v ≡ near place → (v ≡ place) × (is_far_down place ≡ false)
near-some v place e = near-by (is_far_down place) v place e
  where
    near-by : (far : Bool) (v place : ℤ) → Some v ≡ cond far None (Some place) → (v ≡ place) × (far ≡ false)
    near-by true v place e = absurd (true≢false (ap is_some e))
    near-by false v place e = (ap (λ o. unwrap_or o place) e, refl)
