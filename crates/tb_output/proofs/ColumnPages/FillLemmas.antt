-- The walks over the deferred floats change the lists alone, as the lists' own walks do.
use Rattle.std.proofs.Common.{◌≡◌, refl, ◌∙◌, ap, subst, Bool, true, false, List, [], ◌∷◌, ◌++◌}
use Rattle.std.specs.Prelude.{if◌then◌else◌}
use Rattle.tb_node.specs.declared.Float.{Float}
use Rattle.tb_node.specs.declared.Where.TheVariants as places
use Rattle.tb_param.specs.declared.Params.{Params}
use Rattle.tb_float.specs.declared.Part.{Part}
use Rattle.tb_float.specs.declared.Part.TheVariants as parts
use Rattle.tb_float.specs.Lists.{FloatLists, IsWaiting, wide_part, wide_waiting}
use Rattle.tb_float.proofs.WaitingLemmas.{wide-waits}
use Rattle.tb_float.specs.Rooms.{column_height_of}
use Rattle.tb_area.specs.Area.{AreaPlace, at_top, at_bottom, deferred, where_of, next_area_place, goes_double}
use Rattle.tb_area.specs.Deferred.{gone_to, still_before, filled, gone_double, still_single, doubled}
use Rattle.tb_output.specs.State.{State, Work, Recorded, placed, records_also, with_floats}
use Rattle.tb_output.specs.FloatMoves
use Rattle.tb_output.specs.Columns
use Rattle.tb_output.specs.Pages

-- the second work is the first with these lists, and more records
pub record HasLists (w v : Work) (l : FloatLists) : Type 0 where
  pub state : v.state ≡ record w.state { floats = l }
  pub put_back : v.put_back ≡ w.put_back
  pub sent : v.sent ≡ w.sent
  pub refused : v.refused ≡ w.refused

recorded : (r : Recorded) (w : Work) (l : FloatLists) → HasLists w (with_floats l (records_also r w)) l
recorded r w l = by_refused w.refused
  where
    by_refused : (t : Bool) → HasLists w (with_floats l (if t then w else record w { records = w.records ++ r ∷ [] })) l
    by_refused true = record { state = refl; put_back = refl; sent = refl; refused = refl }
    by_refused false = record { state = refl; put_back = refl; sent = refl; refused = refl }

-- a turn of the walk for the next column
gone : (p : Params) (a : AreaPlace) (f : Float) (before rest : List Float) (w : Work) → HasLists w (FloatMoves.place_waiting parts.Deferred p (where_of a) f before rest w) (gone_to a f before rest w.state.floats)
gone p at_top f before rest w = recorded (placed p f places.Top w.state.floats (column_height_of p w.state.floats)) w _
gone p at_bottom f before rest w = recorded (placed p f places.Bottom w.state.floats (column_height_of p w.state.floats)) w _
gone p deferred f before rest w = record { state = refl; put_back = refl; sent = refl; refused = refl }

stays : (a : AreaPlace) (f : Float) (before : List Float) → FloatMoves.still_deferred (where_of a) f before ≡ still_before a f before
stays at_top f before = refl
stays a f before = refl

chained : (w v u : Work) (l : FloatLists) (walk : State → FloatLists) → HasLists w v l → HasLists v u (walk v.state) → HasLists w u (walk (record w.state { floats = l }))
chained w v u l walk g t = record {
  state = t.state ∙ ap (λ (x : State). record x { floats = walk x }) g.state;
  put_back = t.put_back ∙ g.put_back;
  sent = t.sent ∙ g.sent;
  refused = t.refused ∙ g.refused;
}

-- each deferred float is tried for the next column
pub next-lists : (p : Params) (before fs : List Float) (w : Work) → HasLists w (FloatMoves.place_next p before fs w) (filled p w.state.suppress before fs w.state.floats)
next-lists p before [] w = record { state = refl; put_back = refl; sent = refl; refused = refl }
next-lists p before (f ∷ rest) w =
    let a = next_area_place p w.state.floats w.state.suppress before f in
    let v = FloatMoves.place_waiting parts.Deferred p (where_of a) f before rest w in
    let b = FloatMoves.still_deferred (where_of a) f before in
    let l = gone_to a f before rest w.state.floats in
    let all = chained w v (FloatMoves.place_next p b rest v) l (λ x. filled p x.suppress b rest x.floats) (gone p a f before rest w) (next-lists p b rest v) in
    subst (λ c. HasLists w (FloatMoves.place_next p b rest v) (filled p w.state.suppress c rest l)) (stays a f before) all

-- ---- the same above both columns

gone-double : (from : Part) → IsWaiting from → (p : Params) (b : Bool) (f : Float) (before rest : List Float) (w : Work) → HasLists w (FloatMoves.place_waiting from p (if b then places.Double else places.Deferred) f before rest w) (gone_double from b f before rest w.state.floats)
gone-double parts.Deferred q p true f before rest w = recorded (placed p f places.Double w.state.floats (column_height_of p w.state.floats)) w _
gone-double parts.Second q p true f before rest w = recorded (placed p f places.Double w.state.floats (column_height_of p w.state.floats)) w _
gone-double parts.Deferred q p false f before rest w = record { state = refl; put_back = refl; sent = refl; refused = refl }
gone-double parts.Second q p false f before rest w = record { state = refl; put_back = refl; sent = refl; refused = refl }
gone-double from q p b f before rest w = absurd q

stays-double : (b : Bool) (f : Float) (before : List Float) → FloatMoves.still_deferred (if b then places.Double else places.Deferred) f before ≡ still_single b f before
stays-double true f before = refl
stays-double false f before = refl

pub double-lists : (from : Part) → IsWaiting from → (p : Params) (before fs : List Float) (w : Work) → HasLists w (FloatMoves.place_double from p before fs w) (doubled from p w.state.suppress before fs w.state.floats)
double-lists from q p before [] w = record { state = refl; put_back = refl; sent = refl; refused = refl }
double-lists from q p before (f ∷ rest) w =
    let goes = goes_double p w.state.floats w.state.suppress before f in
    let place = if goes then places.Double else places.Deferred in
    let v = FloatMoves.place_waiting from p place f before rest w in
    let b = FloatMoves.still_deferred place f before in
    let l = gone_double from goes f before rest w.state.floats in
    let all = chained w v (FloatMoves.place_double from p b rest v) l (λ x. doubled from p x.suppress b rest x.floats) (gone-double from q p goes f before rest w) (double-lists from q p b rest v) in
    subst (λ c. HasLists w (FloatMoves.place_double from p b rest v) (doubled from p w.state.suppress c rest l)) (stays-double goes f before) all

-- what the routine does at the start of a column and of a pair of columns
pub fill_column-lists : (p : Params) (w : Work) → HasLists w (Columns.fill_column p w) (filled p w.state.suppress [] w.state.floats.deferred w.state.floats)
fill_column-lists p w = next-lists p [] w.state.floats.deferred w

pub fill_double-lists : (p : Params) (w : Work) → HasLists w (Pages.fill_double p w) (doubled (wide_part p) p w.state.suppress [] (wide_waiting p w.state.floats) w.state.floats)
fill_double-lists p w = double-lists (wide_part p) (wide-waits p) p [] (wide_waiting p w.state.floats) w
