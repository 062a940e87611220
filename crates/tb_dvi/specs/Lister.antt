-- What the lister keeps while it reads a file, and what it promises of each command.
use Rattle.std.specs.Prelude.{◌≡◌, ℕ, ◌+◌, ◌*◌, ◌≤◌, ℤ, pos, neg_ℤ, ◌≤ℤ◌, List, ◌++◌, flat_map, Result, Ok, Err}
use Rattle.std.specs.List.{AllByRecursion}
use Rattle.tb_dvi.specs.declared.command.Op.{Op}
use Rattle.tb_dvi.specs.declared.command.Op.TheVariants as ops
use Rattle.tb_dvi.specs.declared.command.Registers.{Registers}
use Rattle.tb_dvi.specs.declared.command.Mode.{Mode}
use Rattle.tb_dvi.specs.declared.command.Mode.TheVariants as modes
use Rattle.tb_dvi.specs.declared.lister.Lister.{Lister}
use Rattle.tb_dvi.specs.declared.lister.Next.{Next}
use Rattle.tb_dvi.specs.declared.lister.Next.TheVariants as nexts
use Rattle.tb_dvi.specs.declared.lister.ListFault.{ListFault}
use Rattle.tb_dvi.specs.declared.lister.ListFault.TheVariants as faults
use Rattle.tb_dvi.specs.Machine.{Item, ended, State, Step, fails, goes, ends}
use Rattle.tb_dvi.specs.Listing.{item_line}

-- ---- ranges

-- a number that k commands can have made: each adds less than 2^32
pub record IsWithin (k : ℕ) (z : ℤ) : Type 0 where
  pub low : neg_ℤ (pos (4294967296 * k)) ≤ℤ z
  pub high : z ≤ℤ pos (4294967296 * k)

-- registers after k commands: a place is a sum, the others are numbers of the file
pub record IsBounded (k : ℕ) (r : Registers) : Type 0 where
  pub h : IsWithin k r.h
  pub v : IsWithin k r.v
  pub w : IsWithin 1 r.w
  pub x : IsWithin 1 r.x
  pub y : IsWithin 1 r.y
  pub z : IsWithin 1 r.z

-- the registers of an open page
abbrev pub IsBoundedMode : ℕ → Mode → Type 0
IsBoundedMode k modes.Between = Unit {0}
IsBoundedMode k (modes.OnPage r) = IsBounded k r
IsBoundedMode k (modes.AfterPost place) = Unit {0}

-- the lister after at most k commands
pub record IsInBounds (k : ℕ) (l : Lister) : Type 0 where
  pub pages : l.pages ≤ k
  pub mode : IsBoundedMode k l.mode
  pub stack : AllByRecursion (IsBounded k) l.stack

-- the number of a move, or the length of a special, has at most four bytes
abbrev pub IsShort : Op → Type 0
IsShort ops.Font = Unit {0}
IsShort ops.Unknown = Unit {0}
IsShort (ops.Rule moves) = Unit {0}
IsShort ops.Idle = Unit {0}
IsShort ops.Opens = Unit {0}
IsShort ops.Closes = Unit {0}
IsShort ops.Pushes = Unit {0}
IsShort ops.Pops = Unit {0}
IsShort (ops.Moves slot size) = size ≤ 4
IsShort (ops.Special size) = size ≤ 4
IsShort ops.Post = Unit {0}
IsShort ops.PostPost = Unit {0}

-- ---- steps

-- the machine that the lister is
abbrev pub state_of : Lister → State
state_of l = record { mode = l.mode; stack = l.stack; pages = l.pages }

-- the lister took a command of this many bytes after its first: it listed its items, and is in its state
pub record Takes (size : ℕ) (old new : Lister) (step : Step) : Type 0 where
  pub items : List Item
  pub does : step ≡ goes size items (state_of new)
  pub listed : new.out.items ≡ old.out.items ++ flat_map item_line items

-- the command at this place fails, or there was no memory
abbrev pub CommandStops : ListFault → ℕ → Step → Type 0
CommandStops (faults.At byte cause) place step = (byte ≡ place) × (step ≡ fails cause)
CommandStops faults.Memory place step = Unit {0}

-- the command at this place is taken, or fails
abbrev pub TakesOr : Result (Unit {0}) ListFault → ℕ → ℕ → Lister → Lister → Step → Type 0
TakesOr (Ok u) place size old new step = Takes size old new step
TakesOr (Err e) place size old new step = CommandStops e place step

-- the next command is at this place
pub record CommandPasses (place next len : ℕ) (old new : Lister) (step : Step) : Type 0 where
  pub size : ℕ
  pub enough : size ≤ len
  pub after : next ≡ place + 1 + size
  pub takes : Takes size old new step
  pub bounds : IsInBounds next new

-- the command ends the file, and the last line is listed
pub record Ends (old new : Lister) (step : Step) : Type 0 where
  pub does : step ≡ ends
  pub listed : new.out.items ≡ old.out.items ++ item_line (ended old.pages)

-- the command at this place ends the file, or fails
abbrev pub EndsOr : Result (Unit {0}) ListFault → ℕ → Lister → Lister → Step → Type 0
EndsOr (Ok u) place old new step = Ends old new step
EndsOr (Err e) place old new step = CommandStops e place step

-- the command at this place, with this many bytes after its first, is taken, or ends the file, or fails
abbrev pub Steps : Result Next ListFault → ℕ → ℕ → Lister → Lister → Step → Type 0
Steps (Ok (nexts.At next)) place len old new step = CommandPasses place next len old new step
Steps (Ok nexts.End) place len old new step = Ends old new step
Steps (Err e) place len old new step = CommandStops e place step
