-- States that are the same but for their counts and for the left column that is kept.
use Rattle.std.specs.Prelude.{None}
use Rattle.tb_output.specs.State.{State}

-- the state without its counts and its left column
abbrev pub without_counts : State → State
without_counts s = record s { left_column = None; page = 0; number = 0; dead_cycles = 0 }
