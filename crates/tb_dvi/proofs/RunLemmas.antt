-- Registers kept as six stacks of numbers.
use Rattle.std.proofs.Common.{◌≡◌, refl, sym, ◌∙◌, ap, ℕ, suc, ℤ, arith, false, ◌||◌, ◌==◌, List, [], ◌∷◌, length}
use Rattle.std.specs.Prelude.{reverse}
use Rattle.std.proofs.lemmas.Bool.Decides.{nat_tests}
use Rattle.std.proofs.lemmas.List.{length-reverse}
use Rattle.tb_dvi.specs.declared.runs.Run.{Run}
use Rattle.tb_dvi.specs.Machine.{is_empty}
use Rattle.tb_dvi.specs.Runs.{are_none, numbers_of, levels}

by-length : (rs : List Run) → are_none (numbers_of rs) ≡ (length rs == 0)
by-length [] = refl
by-length (r ∷ rs) = sym (never (length rs))
  where
    never : (n : ℕ) → (suc n == 0) ≡ false
    never n = grind (arith, nat_tests)

-- there is no number if there is no run
pub no_number : (rs : List Run) → are_none (numbers_of (reverse rs)) ≡ (length rs == 0)
no_number rs = by-length (reverse rs) ∙ ap (λ n. n == 0) (length-reverse rs)

-- there is no level if a register has none
pub no_level : (hs vs ws xs ys zs : List ℤ) → is_empty (levels hs vs ws xs ys zs) ≡ (are_none hs || (are_none vs || (are_none ws || (are_none xs || (are_none ys || are_none zs)))))
no_level [] vs ws xs ys zs = refl
no_level (h ∷ hs) [] ws xs ys zs = refl
no_level (h ∷ hs) (v ∷ vs) [] xs ys zs = refl
no_level (h ∷ hs) (v ∷ vs) (w ∷ ws) [] ys zs = refl
no_level (h ∷ hs) (v ∷ vs) (w ∷ ws) (x ∷ xs) [] zs = refl
no_level (h ∷ hs) (v ∷ vs) (w ∷ ws) (x ∷ xs) (y ∷ ys) [] = refl
no_level (h ∷ hs) (v ∷ vs) (w ∷ ws) (x ∷ xs) (y ∷ ys) (z ∷ zs) = refl
