-- What is kept of an unfinished line.
use Rattle.std.proofs.Common.{◌≡◌, ℕ, zero, suc, ◌+◌, ◌-◌, ◌≤◌, min, List, [], ◌∷◌, ◌++◌, length, take, refl, ap, ◌∙◌, sym, arith}
use Rattle.std.proofs.lemmas.List.{length-take, take_all, take_min}
use Rattle.std.proofs.lemmas.Slice.{take-put_mid}
use Rattle.std.proofs.Math.Seq.{take-append-add}
use borrow.Rule.Slice.PartMut.{put_mid}
use Rattle.tb_galley.specs.Unfinished.{kept_line}

take-append-take : (n : ℕ) (a b : List ℕ) → take n (take n a ++ b) ≡ take n (a ++ b)
take-append-take zero a b = refl
take-append-take (suc n) [] b = refl
take-append-take (suc n) (x ∷ a) b = ap (λ l. x ∷ l) (take-append-take n a b)

pub kept-append : (a b : List ℕ) → kept_line (kept_line a ++ b) ≡ kept_line (a ++ b)
unfolding kept_line
kept-append a b = take-append-take 257 a b

pub kept_short : (a : List ℕ) → length a ≤ 257 → kept_line a ≡ a
unfolding kept_line
kept_short a h = take_all 257 a h

pub kept_nothing : kept_line [] ≡ []
kept_nothing = kept_short [] (omega arith)

pub length-kept : (a : List ℕ) → length (kept_line a) ≡ min 257 (length a)
unfolding kept_line
length-kept a = length-take 257 a

pub kept_view : (buffer : List ℕ) (n : ℕ) → n ≤ 257 → kept_line (take n buffer) ≡ take n buffer
kept_view buffer n h = kept_short (take n buffer) (omega (arith, length-take n buffer))

take_min_left : (l : List ℕ) (n : ℕ) → take (min (length l) n) l ≡ take n l
take_min_left l n = let e : min (length l) n ≡ min n (length l) = omega arith in ap (λ m. take m l) e ∙ take_min n l

-- the first n places of a buffer, and a copy of as much of a piece as there is room for
pub kept_copy : (buffer piece copy : List ℕ) (n count k : ℕ) → length buffer ≡ 257 → n ≤ 257 → count ≡ min (length piece) (257 - n) → copy ≡ take count piece
    → take (n + count) (put_mid n k buffer copy) ≡ kept_line (take n buffer ++ piece)
unfolding kept_line
kept_copy buffer piece copy n count k size fits is copied =
    let size_of : length copy ≡ count = ap length copied ∙ (omega (arith, length-take count piece)) in
    let front : length (take n buffer) ≡ n = omega (arith, length-take n buffer) in
    let room : length (take n buffer) + (257 - n) ≡ 257 = omega arith in
    take-put_mid n k buffer copy (n + count) (omega arith) (omega arith)
    ∙ ap (λ l. take n buffer ++ l) (copied ∙ ap (λ m. take m piece) is ∙ take_min_left piece (257 - n))
    ∙ sym (take-append-add (take n buffer) piece (257 - n))
    ∙ ap (λ m. take m (take n buffer ++ piece)) room
