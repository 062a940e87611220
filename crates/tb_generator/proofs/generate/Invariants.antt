use Rattle.std.proofs.Common.{◌≡◌, ◌+◌, ◌-◌, ◌<◌, ◌++◌}
use Rattle.tb_generator.specs.GeneratedGalleys.{made_items}
use Rattle.tb_generator.specs.BoxNames.{IsBoxName}
use Rattle.tb_generator.proofs.generate.Given as goal

abbrev pub invariant-loop-k : goal.invariant-loop-k
invariant-loop-k l = record {
  small : l.seed < 2147483648;
  named : IsBoxName l.last;
  made : l.items ++ made_items (l.fn.n + 1 - l.k) l.k l.seed ≡ made_items l.fn.n 1 l.fn.n;
}
