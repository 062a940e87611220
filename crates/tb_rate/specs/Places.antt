-- The places of a galley at which a break may be put in and that have a penalty of their own.
use Rattle.std.specs.Prelude.{ℕ, ℤ, pos, negsuc, neg_ℤ, ◌==◌, Bool, ◌&&◌, ◌<ℤ◌, List, [], ◌∷◌, ◌++◌, Option, Some, None, int_lt, if◌then◌else◌}
use Rattle.tb_galley.specs.declared.Item.{Item}
use Rattle.tb_galley.specs.declared.ItemKind.{ItemKind}
use Rattle.tb_galley.specs.declared.ItemKind.TheVariants as items
use Rattle.tb_galley.specs.GalleyNodes.{break_strength}
use Rattle.tb_scaled.specs.Scaled.{inf_penalty, eject_penalty}
use Rattle.tb_rate.specs.declared.PlacePenalty.{PlacePenalty}

-- the penalty that an item is
abbrev pub item_penalty : ItemKind → Option ℤ
item_penalty (items.Penalty v) = Some v
item_penalty (items.PageBreak n) = Some (neg_ℤ (break_strength n))
item_penalty (items.NoPageBreak n) = Some (break_strength n)
item_penalty _ = None

-- the penalty neither forces a break nor forbids one
abbrev pub is_mild : ℤ → Bool
is_mild v = int_lt eject_penalty v && int_lt v inf_penalty

-- a place with this penalty, if it allows a break
abbrev pub place_by : ℕ → Option ℤ → List PlacePenalty
place_by line None = []
place_by line (Some v) = if is_mild v then record { line = line; penalty = v } ∷ [] else []

-- the places of items
abbrev pub places_among : List Item → List PlacePenalty
places_among [] = []
places_among (i ∷ is) = place_by i.line (item_penalty i.kind) ++ places_among is

-- the places of a galley's items; before its first item no break can be put in
abbrev pub place_penalties : List Item → List PlacePenalty
place_penalties [] = []
place_penalties (i ∷ is) = places_among is

-- the penalty of the place on this line, or 0 if none of these is there
abbrev pub own_penalty : List PlacePenalty → ℕ → ℤ
own_penalty [] line = pos 0
own_penalty (q ∷ qs) line = if q.line == line then q.penalty else own_penalty qs line

-- the penalty of a place neither forces a break nor forbids one
pub record IsMildPlace (q : PlacePenalty) : Type 0 where
  pub low : negsuc 9999 <ℤ q.penalty
  pub high : q.penalty <ℤ pos 10000
