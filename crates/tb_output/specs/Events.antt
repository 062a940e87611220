-- The queue of events as the machine sees it. No public clause cites this module.
use Rattle.std.specs.Prelude.{ℕ, ◌+◌, ◌≤◌, List}
use Rattle.tb_float.specs.Lists.{live_count}
use Rattle.tb_float.specs.Pool.{FloatPool}
use Rattle.tb_sheet.specs.declared.Sent.{Sent}

-- the events that were not taken yet, the oldest first, and for how many more there is room
pub record EventQueue : Type 0 where
  pub sent : List Sent
  pub room : ℕ

-- for each box that the pool may still take there is room for a warning
abbrev pub HasRoomFor : FloatPool → ℕ → Type 0
HasRoomFor v room = v.size ≤ live_count v.lists + room
