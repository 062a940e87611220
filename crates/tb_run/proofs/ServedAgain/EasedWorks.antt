-- The steps of a column leave the classes and how far down notes reach, or no note is in the next column.
use Rattle.std.proofs.Common.{◌≡◌, refl, ◌∙◌, ℤ, pos, inl, inr, ◌⊎◌, Bool, true, false, [], ◌∷◌, ◌++◌}
use Rattle.std.specs.Prelude.{if◌then◌else◌}
use Rattle.tb_node.specs.declared.Float.{Float}
use Rattle.tb_node.specs.declared.Where.{Where}
use Rattle.tb_node.specs.declared.Where.TheVariants as places
use Rattle.tb_param.specs.declared.Params.{Params}
use Rattle.tb_float.specs.Lists.{FloatLists, with_floats_of, wide_part, with_wide_waiting}
use Rattle.tb_float.specs.Rooms.{column_height_of}
use Rattle.tb_fpage.specs.Company.{left_floats}
use Rattle.tb_column.specs.Column.{PlainColumn}
use Rattle.tb_sheet.specs.Sheet.{PlainSheet, PlainSent, one, pair_sheet}
use Rattle.tb_output.specs.State.{Work, Recorded, placed, output, sends, records_also, with_floats}
use Rattle.tb_output.specs.FloatMoves
use Rattle.tb_output.specs.Pages
use Rattle.tb_output.specs.Columns
use Rattle.tb_area.specs.Area.{where_of}
use Rattle.tb_output.proofs.StepLaws.RefusedSteps.{by-records, by-any-ship}
use Rattle.tb_output.proofs.StepLaws.Moves.{Hand, ColumnMove, records_column, ships_column, ships_pair, ends_column, ships_wide, places_double, FillMove, places_next, Moves, goes-on}
use Rattle.tb_output.proofs.StepLaws.FiringTree.{all_wide-moves, put_out-moves, all_columns-moves, fill_column-moves}

pub record Eases (a c : Work) : Type 0 where
  pub classes : c.state.classes ≡ a.state.classes
  pub bottom : (c.state.note_bottom ≡ a.state.note_bottom) ⊎ (c.state.note_bottom ≡ pos 0)

lower-then : (x y z : ℤ) → (y ≡ x) ⊎ (y ≡ pos 0) → (z ≡ y) ⊎ (z ≡ pos 0) → (z ≡ x) ⊎ (z ≡ pos 0)
lower-then x y z (inl a) (inl b) = inl (b ∙ a)
lower-then x y z (inr a) (inl b) = inr (b ∙ a)
lower-then x y z h (inr b) = inr b

pub eases-then : (a b c : Work) → Eases a b → Eases b c → Eases a c
eases-then a b c h k = record { classes = k.classes ∙ h.classes; bottom = lower-then a.state.note_bottom b.state.note_bottom c.state.note_bottom h.bottom k.bottom }

pub eases-if : (a : Work) (t : Bool) (c d : Work) → Eases a c → Eases a d → Eases a (if t then c else d)
eases-if a true c d h k = h
eases-if a false c d h k = k

pub eases-same : (a : Work) → Eases a a
eases-same a = record { classes = refl; bottom = inl refl }

records-eases : (r : Recorded) (w : Work) → Eases w (records_also r w)
records-eases r w = by-records (Eases w) r w (eases-same w) (record { classes = refl; bottom = inl refl })

pub sends-eases : (e : PlainSent) (w : Work) → Eases w (sends e w)
sends-eases e w = eases-if w w.refused w (record w { sent = w.sent ++ e ∷ [] }) (eases-same w) (record { classes = refl; bottom = inl refl })

pub floats-eases : (l : FloatLists) (w : Work) → Eases w (with_floats l w)
floats-eases l w = record { classes = refl; bottom = inl refl }

ship-eases : (p : Params) (sheet : PlainSheet) (w : Work) → Eases w (Pages.ship p sheet w)
ship-eases p sheet w = by-any-ship (Eases w) p sheet w (eases-same w) (record { classes = refl; bottom = inl refl }) (record { classes = refl; bottom = inl refl })

-- ---- floats move

pub placed-eases : (p : Params) (place : Where) (f : Float) (left : FloatLists) (w : Work) → Eases w (FloatMoves.place_float p place f left w)
placed-eases p place f left w =
    let r = records_also (placed p f place w.state.floats (column_height_of p w.state.floats)) w in
    let c : Work = if FloatMoves.is_placed place then r else w in
    eases-then w c (FloatMoves.place_float p place f left w) (eases-if w (FloatMoves.is_placed place) r w (records-eases _ w) (eases-same w)) (floats-eases (FloatMoves.joined_to place f left) c)

-- ---- each move

column-eases : {p : Params} {h : Hand} {a : Work} {i : Hand} {b : Work} → ColumnMove p h a i b → Eases a b
column-eases {p} (records_column c w) = records-eases (output c) w
column-eases {p} (ships_column c w t) = ship-eases p (one c) w
column-eases {p} (ships_pair c w t f) = eases-then w (Pages.ship p (pair_sheet p w.state.floats (Pages.left_or c w.state.left_column) c) w) _ (ship-eases p _ w) (record { classes = refl; bottom = inl refl })
column-eases {p} (ends_column w) = record { classes = refl; bottom = inr refl }
column-eases {p} (ships_wide clearing cs w e) = let a = with_floats (with_wide_waiting p (left_floats cs) w.state.floats) w in eases-then w a (Pages.ship_wide p cs w) (floats-eases _ w) (ship-eases p _ a)
column-eases {p} (places_double f before rest w t e i) = placed-eases p places.Double f (with_floats_of (wide_part p) (before ++ rest) w.state.floats) w
column-eases m = record { classes = refl; bottom = inl refl }

columns-ease : {p : Params} {h i : Hand} {a b : Work} → Moves (ColumnMove p) h a i b → Eases a b
columns-ease x = goes-on (λ h a i b. Eases a b) (λ h w. eases-same w) (λ h i j a b c x y. eases-then a b c x y) (λ h i a b m. column-eases m) x

pub all_wide-eases : (p : Params) (clearing : Bool) (w : Work) → Eases w (Pages.all_wide_pages p clearing w)
all_wide-eases p clearing w = columns-ease (all_wide-moves p clearing w)

pub put_out-eases : (p : Params) (c : PlainColumn) (w : Work) → Eases w (Pages.put_out p c w)
put_out-eases p c w = columns-ease (put_out-moves p c w)

pub all_columns-eases : (p : Params) (clearing : Bool) (w : Work) → Eases w (Columns.all_float_columns p clearing w)
all_columns-eases p clearing w = columns-ease (all_columns-moves p clearing w)

fill-eases : {p : Params} {h : Hand} {a : Work} {i : Hand} {b : Work} → FillMove p h a i b → Eases a b
fill-eases {p} (places_next a f before rest w c e i) = placed-eases p (where_of a) f (record w.state.floats { deferred = before ++ rest }) w

pub fill_column-eases : (p : Params) (w : Work) → Eases w (Columns.fill_column p w)
fill_column-eases p w = goes-on (λ h a i b. Eases a b) (λ h w. eases-same w) (λ h i j a b c x y. eases-then a b c x y) (λ h i a b m. fill-eases m) (fill_column-moves p w)
