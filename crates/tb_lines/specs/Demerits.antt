-- The badness and the demerits of a line.
use Rattle.std.specs.Prelude.{ℕ, ℤ, pos, negsuc, ◌+◌, ◌-◌, ◌+ℤ◌, ◌-ℤ◌, ◌*ℤ◌, ◌&&◌, List, [], ◌∷◌, Option, Some, None, nat_lt, int_lt, int_le, if◌then◌else◌}
use Rattle.tb_scaled.specs.Scaled.{badness_of}
use Rattle.tb_lines.specs.declared.text.Item.{Item}
use Rattle.tb_lines.specs.declared.text.Item.TheVariants.{Word as word, Space as space, Penalty as penalty}
use Rattle.tb_lines.specs.declared.entries.Entry.{Entry}
use Rattle.tb_lines.specs.declared.entries.Entry.TheVariants.{Item as item, Fill as fill}
use Rattle.tb_lines.specs.declared.text.LineParams.{LineParams}
use Rattle.tb_lines.specs.declared.sums.Sums.{Sums}
use Rattle.tb_lines.specs.Entries.{line_between, penalty_at}

-- the sums of nothing
abbrev pub no_sums : Sums
no_sums = record { width = 0; stretch = 0; shrink = 0; fills = 0 }

-- the sums of one item
abbrev pub item_sums : Item → Sums
item_sums (word w h d) = record { width = w; stretch = 0; shrink = 0; fills = 0 }
item_sums (space w st sh) = record { width = w; stretch = st; shrink = sh; fills = 0 }
item_sums (penalty p) = no_sums

-- the sums of an entry; the glue at the end counts as one fil
abbrev pub entry_sums : Entry → Sums
entry_sums (item i) = item_sums i
entry_sums fill = record { width = 0; stretch = 0; shrink = 0; fills = 1 }

-- two sums together
abbrev pub plus_sums : Sums → Sums → Sums
plus_sums a b = record { width = a.width + b.width; stretch = a.stretch + b.stretch; shrink = a.shrink + b.shrink; fills = a.fills + b.fills }

-- the sums of a list
abbrev pub sums_of : List Entry → Sums
sums_of [] = no_sums
sums_of (e ∷ es) = plus_sums (entry_sums e) (sums_of es)

-- how badly a line with these sums fits the width; none if it is too wide for its shrink
unfoldable pub line_badness : ℕ → Sums → Option ℤ
line_badness hsize s =
    if nat_lt s.width hsize
    then Some (if nat_lt 0 s.fills then pos 0 else badness_of (pos (hsize - s.width)) (pos s.stretch))
    else (if nat_lt s.shrink (s.width - hsize) then None else Some (badness_of (pos (s.width - hsize)) (pos s.shrink)))

-- the demerits of a badness: the square of the line penalty and the badness, or 100000000 if the sum is 10000 or more
abbrev pub badness_demerits : ℕ → ℤ → ℤ
badness_demerits lp b = if int_le (pos 10000) (pos lp +ℤ b) then pos 100000000 else (pos lp +ℤ b) *ℤ (pos lp +ℤ b)

-- what the penalty of the break adds: its square, below 0 taken away; a forced break adds nothing
abbrev pub penalty_demerits : ℤ → ℤ
penalty_demerits p =
    if int_lt (pos 0) p then p *ℤ p
    else (if int_lt (negsuc 9999) p && int_lt p (pos 0) then pos 0 -ℤ p *ℤ p else pos 0)

-- the demerits of a line whose badness is within the tolerance, with what the penalty of its break adds
abbrev pub feasible_demerits : LineParams → ℤ → Option ℤ → Option ℤ
feasible_demerits ps ending None = None
feasible_demerits ps ending (Some b) =
    if int_le b (pos ps.tolerance) then Some (badness_demerits ps.line_penalty b +ℤ ending) else None

-- the demerits of a line with these sums, with what the penalty of its break adds; none if it is not feasible
unfoldable pub sums_demerits : LineParams → Sums → ℤ → Option ℤ
sums_demerits ps s ending = feasible_demerits ps ending (line_badness ps.hsize s)

-- the demerits of the line from one break, or the paragraph's start, to the next; none if it is not feasible
abbrev pub line_demerits : LineParams → List Entry → Option ℕ → ℕ → Option ℤ
line_demerits ps es i j = sums_demerits ps (sums_of (line_between es i j)) (penalty_demerits (penalty_at es j))
