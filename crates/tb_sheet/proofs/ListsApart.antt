-- Ids of lists that are apart.
use Rattle.std.proofs.Common.{ℕ, List, [], ◌∷◌, ◌++◌, sym}
use Rattle.tb_break.proofs.EachLemmas.{all-map}
use Rattle.tb_pool.specs.Frame.{IsNoneOf}
use Rattle.tb_pool.proofs.FrameLemmas.{none-front, none-back, none-join}
use Rattle.tb_column.specs.Notes.{AreDistinct}
use Rattle.tb_sheet.specs.ApartLists.{AreNoneOf}

-- ---- none of these is any of those

pub apart-front : (ls xs ys : List ℕ) → AreNoneOf ls (xs ++ ys) → AreNoneOf ls xs
apart-front ls xs ys h = all-map (λ l. IsNoneOf l (xs ++ ys)) (λ l. IsNoneOf l xs) (λ l. none-front l xs ys) ls h

pub apart-back : (ls xs ys : List ℕ) → AreNoneOf ls (xs ++ ys) → AreNoneOf ls ys
apart-back ls xs ys h = all-map (λ l. IsNoneOf l (xs ++ ys)) (λ l. IsNoneOf l ys) (λ l. none-back l xs ys) ls h

pub apart-join : (ls xs ys : List ℕ) → AreNoneOf ls xs → AreNoneOf ls ys → AreNoneOf ls (xs ++ ys)
apart-join [] xs ys h k = tt
apart-join (l ∷ ls) xs ys h k = (none-join l xs ys h.0 k.0, apart-join ls xs ys h.1 k.1)

pub apart-none : (ls : List ℕ) → AreNoneOf ls []
apart-none [] = tt
apart-none (l ∷ ls) = (tt, apart-none ls)

-- one of them is none of those
pub apart-cons : (ls : List ℕ) (x : ℕ) (xs : List ℕ) → IsNoneOf x ls → AreNoneOf ls xs → AreNoneOf ls (x ∷ xs)
apart-cons [] x xs h k = tt
apart-cons (l ∷ ls) x xs h k = (((λ e. h.0 (sym e)), k.0), apart-cons ls x xs h.1 k.1)

pub apart-swap : (xs ys : List ℕ) → AreNoneOf xs ys → AreNoneOf ys xs
apart-swap [] ys h = apart-none ys
apart-swap (x ∷ xs) ys h = apart-cons ys x xs h.0 (apart-swap xs ys h.1)

-- ---- no two are the same

pub distinct-front : (xs ys : List ℕ) → AreDistinct (xs ++ ys) → AreDistinct xs
distinct-front [] ys h = tt
distinct-front (x ∷ xs) ys h = (none-front x xs ys h.0, distinct-front xs ys h.1)

pub distinct-back : (xs ys : List ℕ) → AreDistinct (xs ++ ys) → AreDistinct ys
distinct-back [] ys h = h
distinct-back (x ∷ xs) ys h = distinct-back xs ys h.1

pub distinct-apart : (xs ys : List ℕ) → AreDistinct (xs ++ ys) → AreNoneOf xs ys
distinct-apart [] ys h = tt
distinct-apart (x ∷ xs) ys h = (none-back x xs ys h.0, distinct-apart xs ys h.1)

pub distinct-join : (xs ys : List ℕ) → AreDistinct xs → AreDistinct ys → AreNoneOf xs ys → AreDistinct (xs ++ ys)
distinct-join [] ys h k a = k
distinct-join (x ∷ xs) ys h k a = (none-join x xs ys h.0 a.0, distinct-join xs ys h.1 k a.1)
