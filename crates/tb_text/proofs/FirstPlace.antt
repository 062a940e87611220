-- The first place whose byte passes a test, as a search of the bytes finds it.
use Rattle.std.proofs.Common.{◌≡◌, ℕ, ◌<◌, Bool, List, length, get_or, Some, None, arith}
use Rattle.std.proofs.lemmas.Bool.{false_from_ne_true}
use Rattle.std.specs.List.{position_or_len}
use Rattle.std.proofs.lemmas.List.Sums.{position_or_len_is}
use Rattle.memchr.specs.Find.{IsFirstByte}

module _ (test : ℕ → Bool) (bytes : List ℕ) where
  pub place_of_none : IsFirstByte test bytes None → position_or_len test bytes ≡ length bytes
  place_of_none h =
      position_or_len_is test bytes (length bytes) 0 (omega arith) (λ k lt. false_from_ne_true (test (get_or bytes k 0)) (h k (omega arith) lt)) (λ lt. absurd (omega arith))

  pub place_of_some : (k : ℕ) → IsFirstByte test bytes (Some k) → (position_or_len test bytes ≡ k) × (k < length bytes)
  place_of_some k h = (
    position_or_len_is test bytes k 0 (omega (arith, h.0.high)) (λ j lt. false_from_ne_true (test (get_or bytes j 0)) (h.0.before j (omega arith) lt)) (λ lt. h.1),
    h.0.high,
  )
