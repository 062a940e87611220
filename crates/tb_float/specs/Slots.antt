-- A slot of the pool as proofs see it. No public clause cites this module.
use Rattle.std.specs.Prelude.{Bool}
use Rattle.tb_float.specs.declared.Entry.{Entry}

-- an entry, and whether it is marked
pub record SlotView : Type 0 where
  pub entry : Entry
  pub marked : Bool
