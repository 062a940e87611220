-- The flag of a state that is known to be the one after a plain page.
use Rattle.std.proofs.Common.{◌≡◌, sym, ◌∙◌, subst, ℕ, Bool, false, true≢false}
use Rattle.tb_galley.specs.declared.Galley.{Galley}
use Rattle.tb_search.specs.declared.branch.Branch.{Branch}
use Rattle.tb_search.specs.Branches.{shown, IsBranch}
use Rattle.tb_search.specs.PlainStarts.{IsPlainStart, PlainIfSet}

-- where the flag is not set nothing is to be known
pub flag-off : (g : Galley) (left : ℕ) (b : Branch) → b.plain ≡ false → PlainIfSet g left b
flag-off g left b off = λ is. absurd (true≢false (sym is ∙ off))

-- a copy takes it over
pub flag-copied : (g : Galley) (left : ℕ) (b c : Branch) → shown c ≡ shown b → c.plain ≡ b.plain → PlainIfSet g left b → PlainIfSet g left c
flag-copied g left b c state flag h = λ is. subst (IsPlainStart g left) (sym state) (h (sym flag ∙ is))

-- states that differ in it alone are alike
pub flag-apart : (b : Branch) (p : Bool) → IsBranch b → IsBranch (record b { plain = p })
flag-apart b p h = record { ready = h.ready; none = h.none; items = h.items; served = h.served; few = h.few }
