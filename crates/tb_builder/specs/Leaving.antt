-- The frame of a step inside a call: what it leaves of the lists that are not the builder's.
use Rattle.std.specs.Prelude.{◌≡◌, ℕ}
use Rattle.std.specs.FinMap.{get}
use Rattle.tb_pool.specs.Lists.{Lists}
use Rattle.tb_node.specs.declared.Node.{Node}
use Rattle.tb_builder.specs.Ownership.{Lacks, Ids, owned}

-- lists that are not the builder's stay as they are, and are still not its own, whether they are live or not
pub record LeavesOthers (b : Ids) (s : Lists Node) (d : Ids) (t : Lists Node) : Type 0 where
  pub others : (q : ℕ) → Lacks q (owned b s) → get t.lists q ≡ get s.lists q
  pub apart : (q : ℕ) → Lacks q (owned b s) → Lacks q (owned d t)
