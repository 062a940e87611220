use Rattle.std.proofs.Common.{◌+◌, ◌<◌, ℕ, ℤ, IfSome, Option, Some, None, arith}
use Rattle.tb_lines.specs.Prepared.{IsSmallTotal}
use Rattle.tb_lines.proofs.table.Prepared.with_row.Goals as goal

-- what is small for an earlier break is so for a later one
small_later : (from to : ℕ) (o : Option ℤ) → from < to → IfSome o (λ d. IsSmallTotal (from + 2) d) → IfSome o (λ d. IsSmallTotal (to + 1) d)
small_later from to None h s = tt
small_later from to (Some d) h s = record { low = let l = s.low in grind (arith, h); high = let l = s.high in grind (arith, h) }

pub with_offer-requires-clause-offer : goal.with_offer-requires-clause-offer
with_offer-requires-clause-offer c = small_later c.args.from c.args.to _ c.requires.within c.sum_of_both-offer.ensures.small
