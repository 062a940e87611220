-- What a text column costs, from the place at which its page broke.
use Rattle.std.specs.Prelude.{◌<ℤ◌, ◌≤ℤ◌, ℕ, ◌+◌, ◌*◌, ℤ, pos, ◌+ℤ◌, ◌-ℤ◌, ◌*ℤ◌, Bool, true, false, ◌&&◌, List, Option, Some, None, int_lt, int_le, int_div, if◌then◌else◌}
use Rattle.tb_scaled.specs.Scaled.{awful_bad, inf_bad, eject_penalty, max_dimen, min_ℤ, badness_of}
use Rattle.tb_param.specs.declared.Choice.{Choice}
use Rattle.tb_param.specs.declared.Choice.TheVariants as choices
use Rattle.tb_param.specs.declared.Params.{Params}
use Rattle.tb_break.specs.Cost.{finite_stretch, stretches_infinitely}
use Rattle.tb_builder.specs.declared.Try.{Try}
use Rattle.tb_rate.specs.declared.Rating.{Rating}
use Rattle.tb_rate.specs.declared.PlacePenalty.{PlacePenalty}
use Rattle.tb_rate.specs.Places.{own_penalty}

-- how much of the goal is left at a place
abbrev pub missing : Try → ℤ
missing t = t.goal -ℤ t.sums.total

-- ---- the badness

-- a column is filled out at its bottom
abbrev pub is_ragged : Choice → Bool
is_ragged choices.Ragged = true
is_ragged _ = false

-- the badness of a ragged column that is too short: one line more or less of it would be as bad as glue that stretches as far as it can
abbrev pub ragged_badness : Params → Try → ℤ
ragged_badness p t =
    if stretches_infinitely t.sums.stretch then pos 0 else badness_of (missing t) (finite_stretch t.sums.stretch +ℤ p.baselineskip)

-- the badness of a column: that of the place, but a ragged column that is too short has one of its own
abbrev pub rated_badness : Params → Try → ℤ
rated_badness p t = if is_ragged p.bottom && int_lt (pos 0) (missing t) then ragged_badness p t else t.badness

-- ---- the penalty

-- the penalty of the place, or, where the break was forced, what the galley has there for a penalty of its own
abbrev pub rated_penalty : List PlacePenalty → Try → ℤ
rated_penalty places t = if int_le t.penalty eject_penalty then own_penalty places t.line else t.penalty

-- ---- the demerits

abbrev pub square : ℤ → ℤ
square v = v *ℤ v

-- a size within 0 and the greatest dimension
abbrev pub within_dimen : ℤ → ℤ
within_dimen v = if int_le v (pos 0) then pos 0 else (if int_le max_dimen v then max_dimen else v)

-- how many whole points of the goal are left
abbrev pub points_left : Try → ℤ
points_left t = int_div (within_dimen (missing t)) (pos 65536)

-- the cost of a column without its penalty: that of an overfull one, that of one that is past all badness by the points that are left, or the square of 10 more than its badness
abbrev pub base : Try → ℤ → ℤ
base t b =
    if int_le awful_bad t.cost then pos 1000000000
    else (if int_le inf_bad (pos 10 +ℤ b) then pos 100000000 +ℤ pos 1000 *ℤ square (points_left t)
    else square (pos 10 +ℤ b))

-- with the square of its penalty; a place that invites a break costs less by that, but never less than nothing
abbrev pub with_penalty : ℤ → ℤ → ℤ
with_penalty d q = if int_lt (pos 0) q then d +ℤ square q else d -ℤ min_ℤ (square q) d

-- the rating of a column of this page, which broke at this place; afterwards so many floats wait, and so many insertions that it had no room for
abbrev pub rated : Params → List PlacePenalty → ℕ → Try → ℕ → ℕ → Rating
rated p places page t waiting held =
    let b = rated_badness p t in
    let q = rated_penalty places t in
    record { page = page; badness = b; penalty = q; waiting = waiting; held = held; demerits = with_penalty (base t b) q +ℤ pos (10000 * (waiting + held)) }

-- a break at a penalty below -10000 asks for something else than a column
abbrev pub rating : Params → List PlacePenalty → ℕ → Option Try → ℕ → ℕ → Option Rating
rating p places page None waiting held = None
rating p places page (Some t) waiting held = if int_lt t.penalty eject_penalty then None else Some (rated p places page t waiting held)

-- ---- ranges

-- a place as the page builder tries it
pub record IsTried (t : Try) : Type 0 where
  pub badness : pos 0 ≤ℤ t.badness
  pub penalty : t.penalty <ℤ pos 10000
