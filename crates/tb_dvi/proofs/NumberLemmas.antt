-- Numbers that are read byte by byte.
use Rattle.std.proofs.Common.{◌≡◌, ◌∙◌, ap, sym, ℕ, zero, suc, ◌+◌, ◌*◌, ◌^◌, ◌<◌, ◌≤◌, List, length, drop, slice_index_or, arith, pow-suc}
use Rattle.tb_dvi.specs.Machine.{number_after}
use Rattle.tb_dvi.proofs.JoinedTexts.{drop-step}

-- what at most three bytes gave
pub small-now : (n i len : ℕ) → i < len → len ≤ 4 → n < 256 ^ i → n < 16777216
small-now n zero len h k s = omega (arith, s)
small-now n (suc zero) len h k s = omega (arith, s)
small-now n (suc (suc zero)) len h k s = omega (arith, s)
small-now n (suc (suc (suc zero))) len h k s = omega (arith, s)
small-now n (suc (suc (suc (suc i)))) len h k s = absurd (omega (arith, h, k))

-- what at most four bytes gave
pub small-end : (n i : ℕ) → i ≤ 4 → n < 256 ^ i → n < 4294967296
small-end n zero h s = omega (arith, s)
small-end n (suc zero) h s = omega (arith, s)
small-end n (suc (suc zero)) h s = omega (arith, s)
small-end n (suc (suc (suc zero))) h s = omega (arith, s)
small-end n (suc (suc (suc (suc zero)))) h s = omega (arith, s)
small-end n (suc (suc (suc (suc (suc i))))) h s = absurd (omega (arith, h))

pub small-next : (n i b : ℕ) → n < 256 ^ i → b < 256 → n * 256 + b < 256 ^ (i + 1)
small-next n i b h s =
    let e : 256 ^ suc i ≡ 256 ^ i * 256 = pow-suc 256 i in
    let f : suc i ≡ i + 1 = omega arith in
    let g : 256 ^ (i + 1) ≡ 256 ^ i * 256 = ap (λ k. 256 ^ k) (sym f) ∙ e in
    omega (arith, h, s, g)

pub number-next : (bs : List ℕ) (n i d all : ℕ) → i < length bs → number_after n (drop i bs) ≡ all → number_after (n * 256 + slice_index_or bs i d) (drop (i + 1) bs) ≡ all
number-next bs n i d all h e =
    let one : i + 1 ≡ suc i = omega arith in
    ap (λ k. number_after (n * 256 + slice_index_or bs i d) (drop k bs)) one ∙ ap (number_after n) (sym (drop-step bs i d h)) ∙ e

pub ruleset number_steps = (small-now, small-end, small-next, number-next)
