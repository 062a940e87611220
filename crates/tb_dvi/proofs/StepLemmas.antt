-- One command of the lister.
use Rattle.std.proofs.Common.{◌≡◌, ◌∙◌, ap, sym, ℕ, List, [], ◌∷◌, ◌++◌, flat_map, append-nil, suc, ◌+◌, ◌≤◌, arith}
use Rattle.tb_dvi.specs.declared.lister.Lister.{Lister}
use Rattle.tb_dvi.specs.Machine.{Item, Step}
use Rattle.tb_dvi.specs.Listing.{item_line}
use Rattle.tb_dvi.specs.Lister.{IsInBounds, Takes, CommandPasses}
use Rattle.tb_dvi.proofs.BoundLemmas.{more}

-- one line is listed
pub one_line : (item : Item) (old new : List ℕ) → new ≡ old ++ item_line item → new ≡ old ++ flat_map item_line (item ∷ [])
one_line item old new e = e ∙ ap (λ t. old ++ t) (sym (append-nil (item_line item)))

-- the next command follows the bytes of this one
pub passes : (place next len size : ℕ) (old new : Lister) (step : Step) → size ≤ len → next ≡ place + 1 + size → Takes size old new step → IsInBounds (suc place) new → CommandPasses place next len old new step
passes place next len size old new step enough after takes bounds =
    record { size = size; enough = enough; after = after; takes = takes; bounds = more (suc place) next new (omega (arith, after)) bounds }
