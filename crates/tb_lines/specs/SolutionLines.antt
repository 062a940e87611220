-- The lines that may be in a solution, by the last forced break before their end.
use Rattle.std.specs.Prelude.{ℕ, zero, suc, ℤ, Bool, true, false, ◌&&◌, nat_lt, nat_le, List, Option, Some, None, if◌then◌else◌}
use Rattle.tb_lines.specs.declared.entries.Entry.{Entry}
use Rattle.tb_lines.specs.declared.text.LineParams.{LineParams}
use Rattle.tb_lines.specs.Entries.{is_legal, is_forced}
use Rattle.tb_lines.specs.Demerits.{line_demerits}

-- the last forced break before this place
abbrev pub last_forced : List Entry → ℕ → Option ℕ
last_forced es zero = None
last_forced es (suc j) = if is_forced es j then Some j else last_forced es j

-- a line begins before it ends
abbrev pub is_within : Option ℕ → ℕ → Bool
is_within None j = true
is_within (Some i) j = nat_lt i j

-- the first is not after the second; the start is before all breaks
abbrev pub is_up_to : Option ℕ → Option ℕ → Bool
is_up_to None q = true
is_up_to (Some k) None = false
is_up_to (Some k) (Some i) = nat_le k i

-- the line from here to break j passes over no forced break
abbrev pub is_step : List Entry → Option ℕ → ℕ → Bool
is_step es q j = is_legal es j && is_within q j && is_up_to (last_forced es j) q

-- the demerits of such a line; none if it is not feasible
abbrev pub step_demerits : LineParams → List Entry → Option ℕ → ℕ → Option ℤ
step_demerits ps es q j = if is_step es q j then line_demerits ps es q j else None
