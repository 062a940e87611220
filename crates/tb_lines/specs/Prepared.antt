-- What is known of a paragraph's list before its breaks are looked for.
use Rattle.std.specs.Prelude.{◌≡◌, ℕ, ◌<◌, ◌≤◌, ◌+◌, ◌-◌, ◌*◌, ℤ, pos, neg_ℤ, ◌≤ℤ◌, true, List, length, take, Option, Some, slice_get, slice_index_or}
use Rattle.tb_lines.specs.declared.entries.Entry.{Entry}
use Rattle.tb_lines.specs.declared.sums.Sums.{Sums}
use Rattle.tb_lines.specs.declared.table.Best.{Best}
use Rattle.tb_lines.specs.Entries.{first_word, is_legal}
use Rattle.tb_lines.specs.Demerits.{sums_of}
use Rattle.tb_lines.specs.Table.{row_at}

-- sums of at most k entries
pub record AreSmall (k : ℕ) (s : Sums) : Type 0 where
  pub width : s.width ≤ 4294967295 * k
  pub stretch : s.stretch ≤ 4294967295 * k
  pub shrink : s.shrink ≤ 4294967295 * k
  pub fills : s.fills ≤ k

-- the sums of what is before each place
pub record AreRunning (es : List Entry) (sums : List Sums) : Type 0 where
  pub long : length sums ≡ length es + 1
  pub each : (k : ℕ) → k ≤ length es → slice_get sums k ≡ Some (sums_of (take k es))
  pub small : (k : ℕ) → k ≤ length es → AreSmall k (sums_of (take k es))

-- the first word from each place on
pub record AreFirstWords (es : List Entry) (starts : List ℕ) : Type 0 where
  pub long : length starts ≡ length es + 1
  pub each : (k : ℕ) → k ≤ length es → slice_get starts k ≡ Some (first_word es k)

-- the width with all shrink taken off, in sp, plus 2^48, so that it is never below 0
abbrev pub least_width : Sums → ℕ
least_width s = s.width + (281474976710656 - s.shrink)

-- from each place on, no legal break has a lesser width before it
pub record AreFloors (es : List Entry) (floors : List ℕ) : Type 0 where
  pub long : length floors ≡ length es + 1
  pub each : (j k d : ℕ) → j ≤ k → k < length es → is_legal es k ≡ true → slice_index_or floors j d ≤ least_width (sums_of (take k es))

-- the demerits of at most k lines
pub record IsSmallTotal (k : ℕ) (t : ℤ) : Type 0 where
  pub low : neg_ℤ (pos (8589934592 * k)) ≤ℤ t
  pub high : t ≤ℤ pos (8589934592 * k)

-- the totals of a table
abbrev pub HasSmallTotals : List (Option Best) → Type 0
HasSmallTotals rows = (k : ℕ) (b : Best) → row_at rows k ≡ Some b → IsSmallTotal (k + 1) b.total
