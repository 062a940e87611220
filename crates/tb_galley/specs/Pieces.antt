-- Reading a galley in pieces, byte by byte.
use Rattle.std.specs.Prelude.{◌≡◌, ℕ, ◌+◌, ◌-◌, ◌^◌, ◌≤◌, min, Bool, true, false, nat_lt, List, [], ◌∷◌, ◌++◌, length, if◌then◌else◌}
use Rattle.std.specs.List.{fold}
use Rattle.std.specs.Str.Lines.{strip_carriage_return}
use Rattle.tb_text.specs.Lines.{is_feed}
use Rattle.tb_galley.specs.Grammar.{input_limit}
use Rattle.tb_galley.specs.GalleyReader.{State, start, take_said}
use Rattle.tb_galley.specs.Unfinished.{kept_line}
pub use Rattle.tb_galley.specs.declared.pieces.Progress.{Progress}
use Rattle.tb_galley.specs.declared.pieces.Progress.TheVariants.{Lines, TooLong, OutOfMemory}

-- a reader as callers see it: how many bytes it was fed, and what they gave
pub record Reading : Type 0 where
  pub taken : ℕ
  pub progress : Progress

-- one more byte of a line; the test says whether it ends the line
abbrev pub with_byte : State → List ℕ → ℕ → Bool → Progress
with_byte s line b true = Lines (take_said s (strip_carriage_return line)) []
with_byte s line b false = Lines s (kept_line (line ++ b ∷ []))

-- one more byte
abbrev pub take_byte : Progress → ℕ → Progress
take_byte (Lines s line) b = with_byte s line b (is_feed b)
take_byte TooLong b = TooLong
take_byte OutOfMemory b = OutOfMemory

-- the line that ends with these bytes, by what is kept of it; if nothing is, it lies whole in its piece
abbrev pub line_ended : List ℕ → List ℕ → List ℕ
line_ended [] end = end
line_ended (b ∷ line) end = b ∷ line

-- the lines with the one that ends with the text; if nothing was read of it, there is none
abbrev pub with_last : State → List ℕ → State
with_last s [] = s
with_last s (b ∷ line) = take_said s (strip_carriage_return (b ∷ line))

-- one more piece, with which this many bytes were taken
abbrev pub progress_to : Progress → ℕ → List ℕ → Progress
progress_to p n piece = if nat_lt input_limit n then TooLong else fold take_byte p piece

-- this many more bytes; the count saturates at the last value of a `u64`
abbrev pub count_after : ℕ → ℕ → ℕ
count_after n more = min (n + more) (2 ^ 64 - 1)

-- one more piece
abbrev pub fed_more : Reading → List ℕ → Reading
fed_more r piece = record { taken = count_after r.taken (length piece); progress = progress_to r.progress (count_after r.taken (length piece)) piece }

-- before the first piece
abbrev pub unfed : Reading
unfed = record { taken = 0; progress = Lines start [] }

-- after pieces that are these bytes together
abbrev pub fed : List ℕ → Reading
fed bytes = fed_more unfed bytes

-- memory ran out
abbrev pub without_memory : Reading → Reading
without_memory r = record r { progress = OutOfMemory }

-- memory ran out in an earlier call
abbrev pub IsOutOfMemory : Reading → Type 0
IsOutOfMemory r = r.progress ≡ OutOfMemory

-- what this many bytes may have given: no more lines and no more lines of items, and it is what some lines give
pub record Reaches (n : ℕ) (s : State) : Type 0 where
  pub size : n ≤ 8388608
  pub lines : s.lines ≤ n
  pub count : s.count ≤ n
  pub read : (ls : List (List ℕ)) × (s ≡ fold take_said start ls)

-- the same of what a reader keeps
abbrev pub IsReached : ℕ → Progress → Type 0
IsReached n (Lines s line) = Reaches n s
IsReached n TooLong = Unit {0}
IsReached n OutOfMemory = Unit {0}

-- with this many more bytes the counts of lines stay within the limit of an input
abbrev pub HasRoom : Progress → ℕ → Type 0
HasRoom (Lines s line) more = (s.lines + more ≤ 8388608) × (s.count + more ≤ 8388608)
HasRoom TooLong more = Unit {0}
HasRoom OutOfMemory more = Unit {0}
