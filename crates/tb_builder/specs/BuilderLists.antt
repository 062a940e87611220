-- The lists of a builder in a store.
use Rattle.std.specs.Prelude.{ℕ, List}
use Rattle.tb_pool.specs.Lists.{Lists}
use Rattle.tb_node.specs.declared.Node.{Node}
use Rattle.tb_builder.specs.declared.Builder.{Builder}
use Rattle.tb_builder.specs.Ownership.{ids_of, owned}

-- the lists of a builder
abbrev pub builder_lists : Builder → Lists Node → List ℕ
builder_lists b store = owned (ids_of b) store
