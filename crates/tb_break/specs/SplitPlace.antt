-- Finding the split place in one pass (TeX: The Program §970 to §977): what a node says of the place before it.
use Rattle.std.specs.Prelude.{ℕ, ℤ, pos, ◌+ℤ◌, Bool, false, true, Option, None, Some, int_le, int_lt, if◌then◌else◌}
use Rattle.tb_scaled.specs.Scaled.{inf_penalty}
use Rattle.tb_node.specs.Shape.{Shape, box, glue, kern, penalty, other}
pub use Rattle.tb_node.specs.Fit.{shapes, NodesFit, SumsFit}
use Rattle.tb_break.specs.declared.PlaceKind.{PlaceKind}
use Rattle.tb_break.specs.declared.PlaceKind.TheVariants.{Skip, Kern, Penalty, Last}
use Rattle.tb_break.specs.declared.Found.{Found}
use Rattle.tb_break.specs.Best.{Breakpoint, is_stop}
use Rattle.tb_break.specs.Split.{breakpoint_at}
use Rattle.tb_break.specs.Scan.{Scanned, better_best, least_so_far}

-- the penalty of the place before a node, by whether a lasting node comes before it and whether glue comes after it
abbrev pub penalty_by : Bool → Bool → Shape → Option ℤ
penalty_by lasting glue_next (box h d) = None
penalty_by lasting glue_next (glue g) = if lasting then Some (pos 0) else None
penalty_by lasting glue_next (kern w) = if glue_next then Some (pos 0) else None
penalty_by lasting glue_next (penalty p) = if int_lt p inf_penalty then Some p else None
penalty_by lasting glue_next other = None

-- the node is glue
abbrev pub is_glue : Shape → Bool
is_glue (box h d) = false
is_glue (glue g) = true
is_glue (kern w) = false
is_glue (penalty p) = false
is_glue other = false

-- what is at the place before a node
abbrev pub kind_of_shape : Shape → PlaceKind
kind_of_shape (box h d) = Last
kind_of_shape (glue g) = Skip
kind_of_shape (kern w) = Kern
kind_of_shape (penalty p) = Penalty
kind_of_shape other = Last

-- the place after what the scan has
abbrev pub scan_place : Scanned → ℕ → ℤ → ℤ → Breakpoint
scan_place s index height p = breakpoint_at index s.sums height p (pos 0)

-- what `find` returns for a place before a node of this kind
abbrev pub found_of : PlaceKind → Breakpoint → Found
found_of kind b = record { index = b.place; kind = kind; penalty = b.penalty; size = b.sums.total +ℤ b.sums.depth; cost = b.cost }

-- the scan after the place was offered, if it is legal
abbrev pub scan_after : Scanned → ℕ → ℤ → Option ℤ → Scanned
scan_after s index height None = s
scan_after s index height (Some p) = record s { best = better_best s.best (scan_place s index height p) }

-- the best so far after the place: the place itself if it costs no more than the least so far
abbrev pub found_after : Scanned → Found → ℕ → ℤ → PlaceKind → Option ℤ → Found
found_after s f index height kind None = f
found_after s f index height kind (Some p) = if int_le (scan_place s index height p).cost (least_so_far s.best) then found_of kind (scan_place s index height p) else f

-- the search stops at the place
abbrev pub stops_after : Scanned → ℕ → ℤ → Option ℤ → Bool
stops_after s index height None = false
stops_after s index height (Some p) = is_stop (scan_place s index height p)
