use Rattle.std.proofs.Common.{subst, arith}
use Rattle.std.specs.Prelude.{ℤ, pos, ◌+ℤ◌, ◌≤ℤ◌}
use Rattle.std.proofs.lemmas.Int.{ints}
use Rattle.tb_search.specs.Plain.{CostsAbove}
use Rattle.tb_search.proofs.SumLemmas.{rest-is}
use Rattle.tb_search.proofs.table.Table.is_too_dear.Goals as goal

pub returns : goal.returns
returns c dear =
    let a = c.args.way.now.demerits in
    let b = c.args.self.now.bound in
    subst (λ m. CostsAbove c.args.line m c.args.prices.now) (rest-is a b c.requires.low (within a b c.requires.high) c.requires.table.range c.requires.high) (c.are_above.ensures dear)
  where
    within : (a b : ℤ) → (a +ℤ pos 1000) ≤ℤ b → a ≤ℤ b
    within a b h = omega (arith, ints, h)
