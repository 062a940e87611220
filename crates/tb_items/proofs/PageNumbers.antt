-- The number of pages that were shipped, by that of the next page.
use Rattle.std.proofs.Common.{◌≡◌, sym, ◌∙◌, ℕ, ◌+◌, sub-one, arith}
use Rattle.std.specs.Prelude.{pred}

pub pred-is : (a b : ℕ) → a + 1 ≡ b → pred b ≡ a
pred-is a b e = sym (sub-one b) ∙ omega (arith, e)
