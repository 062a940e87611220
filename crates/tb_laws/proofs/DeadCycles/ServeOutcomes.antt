-- What a firing at a float or note does to the lists of floats: the float goes to one of them, and what is put back brings no firing.
use Rattle.std.proofs.Common.{◌≡◌, refl, sym, ◌∙◌, ap, subst, ℕ, ℤ, ◌+◌, ◌≤◌, Bool, true, false, List, [], ◌∷◌, ◌++◌, drop, Option, Some, None, map, arith}
use Rattle.std.specs.Prelude.{int_le, if◌then◌else◌}
use Rattle.tb_scaled.specs.Scaled.{eject_penalty}
use Rattle.tb_scaled.specs.declared.Glue.{Glue}
use Rattle.std.specs.List.{AllByRecursion}
use Rattle.tb_break.proofs.EachLemmas.{all-push}
use Rattle.tb_node.specs.declared.Float.{Float}
use Rattle.tb_node.specs.declared.Margin.{Margin}
use Rattle.tb_node.specs.declared.Where.{Where}
use Rattle.tb_node.specs.declared.Where.TheVariants as places
use Rattle.tb_node.specs.PlainNodes.{pen, plain, PlainNode}
use Rattle.tb_break.specs.Places.{last_or}
use Rattle.tb_param.specs.declared.Params.{Params}
use Rattle.tb_float.specs.declared.Entry.{Entry}
use Rattle.tb_float.specs.declared.Entry.TheVariants as entries
use Rattle.tb_float.specs.Lists.{FloatLists}
use Rattle.tb_float.specs.Rooms.{column_height_of}
use Rattle.tb_margin.specs.declared.Placed.{Placed}
use Rattle.tb_column.specs.Column.{Notes}
use Rattle.tb_sheet.specs.Sheet.{warned, PlainSent}
use Rattle.tb_output.specs.State.{Work, Recorded, placed, puts, sends, records_also, with_floats, footnotes}
use Rattle.tb_output.specs.FloatMoves
use Rattle.tb_output.specs.Columns
use Rattle.tb_output.specs.Text
use Rattle.tb_output.proofs.StepLaws.FollowLemmas.{waiting_floats, AllWait, joined-count, joined-all, joined-current}
use Rattle.tb_laws.proofs.DeadCycles.ColumnOutcomes.{NotDouble, joined-single}
use Rattle.tb_laws.proofs.DeadCycles.WaitCosts.{wait_cost, cost-append}
use Rattle.tb_output.proofs.StepLaws.Moves.{Hand, nothing, of_text, of_column, of_float, of_note, IsInColumn, deferred_float, TextMove, goes_back, places_current, defers_current, takes_float, stands_here, takes_note, stands_beside, puts_penalty, warns, goes-on}
use Rattle.tb_output.proofs.StepLaws.FiringTree.{first-moves}

-- the floats among the entries of the current list, and what holds of them
abbrev pub current_floats : List Entry → ℕ
current_floats [] = 0
current_floats (entries.Float f ∷ es) = 1 + current_floats es
current_floats (entries.Left m ∷ es) = current_floats es
current_floats (entries.Right m ∷ es) = current_floats es

abbrev pub AllCurrent : (Float → Type 0) → List Entry → Type 0
AllCurrent P [] = Unit {0}
AllCurrent P (entries.Float f ∷ es) = P f × AllCurrent P es
AllCurrent P (entries.Left m ∷ es) = AllCurrent P es
AllCurrent P (entries.Right m ∷ es) = AllCurrent P es

-- the floats that were taken and are in no column or text yet
abbrev pub way_floats : FloatLists → ℕ
way_floats l = waiting_floats l + current_floats l.current

-- what holds of those that do not wait for a page
pub record NarrowWait (P : Float → Type 0) (l : FloatLists) : Type 0 where
  pub top : AllByRecursion P l.top
  pub bottom : AllByRecursion P l.bottom
  pub deferred : AllByRecursion P l.deferred

-- columns and dead cycles stay, no float comes, and what is put back costs nothing
pub record Served (P : Float → Type 0) (a b : Work) : Type 0 where
  pub goes : b.refused ≡ a.refused
  pub columns : b.state.two_columns ≡ a.state.two_columns
  pub first : b.state.first_column ≡ a.state.first_column
  pub cycles : b.state.dead_cycles ≡ a.state.dead_cycles
  pub boxes : b.state.boxes ≡ a.state.boxes
  pub double : b.state.floats.double ≡ a.state.floats.double
  pub second : b.state.floats.second ≡ a.state.floats.second
  pub narrow : NarrowWait P a.state.floats → AllCurrent P a.state.floats.current → NarrowWait P b.state.floats × AllCurrent P b.state.floats.current
  pub floats : way_floats b.state.floats ≤ way_floats a.state.floats
  pub all : AllWait P a.state.floats → AllCurrent P a.state.floats.current → AllWait P b.state.floats × AllCurrent P b.state.floats.current
  pub cost : wait_cost b.put_back ≡ wait_cost a.put_back

module _ (P : Float → Type 0) (topped : (f : Float) → P f → P (Text.with_top f)) (p : Params) (calm : int_le p.interlinepenalty eject_penalty ≡ false) where
  same : (a : Work) → Served P a a
  same a = record { goes = refl; columns = refl; first = refl; cycles = refl; boxes = refl; double = refl; second = refl; narrow = λ h k. (h, k); floats = omega arith; all = λ h k. (h, k); cost = refl }

  served-then : (a b c : Work) → Served P a b → Served P b c → Served P a c
  served-then a b c x y = record {
    goes = y.goes ∙ x.goes;
    columns = y.columns ∙ x.columns;
    first = y.first ∙ x.first;
    cycles = y.cycles ∙ x.cycles;
    boxes = y.boxes ∙ x.boxes;
    double = y.double ∙ x.double;
    second = y.second ∙ x.second;
    narrow = λ h k. let z = x.narrow h k in y.narrow z.0 z.1;
    floats = sums (way_floats a.state.floats) (way_floats b.state.floats) (way_floats c.state.floats) x.floats y.floats;
    all = λ h k. let z = x.all h k in y.all z.0 z.1;
    cost = y.cost ∙ x.cost;
  }
    where
      sums : (x y z : ℕ) → y ≤ x → z ≤ y → z ≤ x
      sums x y z h k = omega arith

  served_if : (a : Work) (t : Bool) (b c : Work) → Served P a b → Served P a c → Served P a (if t then b else c)
  served_if a true b c x y = x
  served_if a false b c x y = y

  served-puts : (ns : List PlainNode) (w : Work) → wait_cost ns ≡ 0 → Served P w (puts ns w)
  served-puts ns w h = record { goes = refl; columns = refl; first = refl; cycles = refl; boxes = refl; double = refl; second = refl; narrow = λ h k. (h, k); floats = omega arith; all = λ h k. (h, k); cost = (let e : wait_cost (w.put_back ++ ns) ≡ wait_cost w.put_back + wait_cost ns = cost-append w.put_back ns in omega (arith, h)) }

  served-sends : (e : PlainSent) (w : Work) → Served P w (sends e w)
  served-sends e w = served_if w w.refused w (record w { sent = w.sent ++ e ∷ [] }) (same w) (record { goes = refl; columns = refl; first = refl; cycles = refl; boxes = refl; double = refl; second = refl; narrow = λ h k. (h, k); floats = omega arith; all = λ h k. (h, k); cost = refl })

  penalty-free : (o : Option Glue) → wait_cost (Text.penalty_nodes p.interlinepenalty o) ≡ 0
  penalty-free None = rw calm refl
  penalty-free (Some g) = rw calm refl

  between-free : (nobreak : Bool) (ns : List PlainNode) → wait_cost (Text.penalty_between p.interlinepenalty nobreak ns) ≡ 0
  between-free true ns = refl
  between-free false ns = penalty-free (Text.glue_at_end (last_or (plain (pen p.interlinepenalty)) (map (λ m. m.kind) ns)))

  served-interline : (nobreak : Bool) (w : Work) → Served P w (Text.puts_interline p nobreak w)
  served-interline nobreak w = served-puts (Text.penalty_between p.interlinepenalty nobreak w.put_back) w (between-free nobreak w.put_back)

  -- ---- a float

  joined-second : (place : Where) (f : Float) (l : FloatLists) → (FloatMoves.joined_to place f l).second ≡ l.second
  joined-second places.Here f l = refl
  joined-second place f l = refl

  joined-narrow : (place : Where) (f : Float) (l : FloatLists) → P f → NarrowWait P l → NarrowWait P (FloatMoves.joined_to place f l)
  joined-narrow places.Here f l k h = record { top = h.top; bottom = h.bottom; deferred = h.deferred }
  joined-narrow places.Top f l k h = record { top = all-push P l.top f h.top k; bottom = h.bottom; deferred = h.deferred }
  joined-narrow places.Bottom f l k h = record { top = h.top; bottom = all-push P l.bottom f h.bottom k; deferred = h.deferred }
  joined-narrow places.Page f l k h = h
  joined-narrow places.Double f l k h = record { top = h.top; bottom = h.bottom; deferred = h.deferred }
  joined-narrow places.Deferred f l k h = record { top = h.top; bottom = h.bottom; deferred = all-push P l.deferred f h.deferred k }

  -- a float leaves the current list for another, or for the text
  served-placed : (place : Where) (f : Float) (left : FloatLists) (w : Work) → NotDouble place → left.double ≡ w.state.floats.double → left.second ≡ w.state.floats.second → way_floats left + 1 ≤ way_floats w.state.floats → (AllWait P w.state.floats → AllCurrent P w.state.floats.current → P f × AllWait P left × AllCurrent P left.current) → (NarrowWait P w.state.floats → AllCurrent P w.state.floats.current → P f × NarrowWait P left × AllCurrent P left.current) → Served P w (FloatMoves.place_float p place f left w)
  served-placed place f left w d e e2 h k k2 = by_record (FloatMoves.is_placed place)
    where
      l : FloatLists
      l = FloatMoves.joined_to place f left

      r : Recorded
      r = placed p f place w.state.floats (column_height_of p w.state.floats)

      counted : way_floats l ≤ way_floats w.state.floats
      counted =
          let j : waiting_floats (FloatMoves.joined_to place f left) ≤ waiting_floats left + 1 = joined-count P place f left in
          let c : (FloatMoves.joined_to place f left).current ≡ left.current = joined-current place f left in
          sums (way_floats w.state.floats) (waiting_floats left) (waiting_floats l) (current_floats left.current) (current_floats l.current) (ap current_floats c) j h
        where
          sums : (w a b x y : ℕ) → y ≡ x → b ≤ a + 1 → a + x + 1 ≤ w → b + y ≤ w
          sums w a b x y i j k = omega arith

      kept : AllWait P w.state.floats → AllCurrent P w.state.floats.current → AllWait P l × AllCurrent P l.current
      kept a b =
          let x : P f × AllWait P left × AllCurrent P left.current = k a b in
          (joined-all P place f left x.0 x.1, subst (AllCurrent P) (sym (joined-current place f left)) x.2)

      narrowed : NarrowWait P w.state.floats → AllCurrent P w.state.floats.current → NarrowWait P l × AllCurrent P l.current
      narrowed a b =
          let x : P f × NarrowWait P left × AllCurrent P left.current = k2 a b in
          (joined-narrow place f left x.0 x.1, subst (AllCurrent P) (sym (joined-current place f left)) x.2)

      here : (a : Work) → a.state ≡ w.state → a.refused ≡ w.refused → a.put_back ≡ w.put_back → Served P w (with_floats l a)
      here a s g b = record {
        goes = g;
        columns = ap (λ t. t.two_columns) s;
        first = ap (λ t. t.first_column) s;
        cycles = ap (λ t. t.dead_cycles) s;
        boxes = ap (λ t. t.boxes) s;
        double = joined-single place f left d ∙ e;
        second = joined-second place f left ∙ e2;
        narrow = narrowed;
        floats = counted;
        all = kept;
        cost = ap wait_cost b;
      }

      recorded : (t : Bool) → ((if t then w else record w { records = w.records ++ r ∷ [] }).state ≡ w.state) × ((if t then w else record w { records = w.records ++ r ∷ [] }).refused ≡ w.refused) × ((if t then w else record w { records = w.records ++ r ∷ [] }).put_back ≡ w.put_back)
      recorded true = (refl, refl, refl)
      recorded false = (refl, refl, refl)

      by_record : (t : Bool) → Served P w (with_floats l (if t then records_also r w else w))
      by_record true = let x = recorded w.refused in here (records_also r w) x.0 x.1 x.2
      by_record false = here w refl refl refl

  -- a float with the rest of the current list
  module _ (f : Float) (es : List Entry) (w : Work) (is : w.state.floats.current ≡ entries.Float f ∷ es) where
    abbrev left : FloatLists
    left = record w.state.floats { current = es }

    fewer : way_floats left + 1 ≤ way_floats w.state.floats
    fewer = let e : current_floats w.state.floats.current ≡ 1 + current_floats es = ap current_floats is in omega arith

    parts : AllWait P w.state.floats → AllCurrent P w.state.floats.current → P f × AllWait P left × AllCurrent P es
    parts a b = let c : P f × AllCurrent P es = subst (AllCurrent P) is b in (c.0, record { top = a.top; bottom = a.bottom; deferred = a.deferred; double = a.double; second = a.second }, c.1)

    narrow-parts : NarrowWait P w.state.floats → AllCurrent P w.state.floats.current → P f × NarrowWait P left × AllCurrent P es
    narrow-parts a b = let c : P f × AllCurrent P es = subst (AllCurrent P) is b in (c.0, record { top = a.top; bottom = a.bottom; deferred = a.deferred }, c.1)

    goes-to : (place : Where) → NotDouble place → Served P w (FloatMoves.place_float p place f left w)
    goes-to place d = served-placed place f left w d refl refl fewer parts narrow-parts

    deferred-to : (t : Bool) → Served P w (FloatMoves.place_float p places.Deferred (deferred_float t f) left w)
    deferred-to true = served-placed places.Deferred (Text.with_top f) left w tt refl refl fewer (λ x y. let z = parts x y in (topped f z.0, z.1, z.2)) (λ x y. let z = narrow-parts x y in (topped f z.0, z.1, z.2))
    deferred-to false = goes-to places.Deferred tt

  here-free : (vert : Bool) (f : Float) → wait_cost (Text.here_nodes p vert f) ≡ 0
  here-free true f = rw calm refl
  here-free false f = rw calm refl

  in-column : (place : Where) → IsInColumn place → NotDouble place
  in-column places.Double c = absurd c
  in-column place c = tt

  -- ---- a note

  rest-count : (e : Entry) (es : List Entry) → current_floats es ≤ current_floats (e ∷ es)
  rest-count (entries.Float f) es = omega arith
  rest-count e es = omega arith

  rest-all : (e : Entry) (es : List Entry) → AllCurrent P (e ∷ es) → AllCurrent P es
  rest-all (entries.Float f) es h = h.1
  rest-all (entries.Left m) es h = h
  rest-all (entries.Right m) es h = h

  note-taken : (m : Margin) (es : List Entry) (at : Placed) (w : Work) → current_floats (drop 1 es) ≤ current_floats w.state.floats.current → (AllCurrent P w.state.floats.current → AllCurrent P (drop 1 es)) → Served P w (Text.with_note_bottom at.bottom (with_floats (record w.state.floats { current = drop 1 es }) w))
  note-taken m es at w h k = record { goes = refl; columns = refl; first = refl; cycles = refl; boxes = refl; double = refl; second = refl; narrow = λ x y. (record { top = x.top; bottom = x.bottom; deferred = x.deferred }, k y); floats = omega arith; all = λ x y. (record { top = x.top; bottom = x.bottom; deferred = x.deferred; double = x.double; second = x.second }, k y); cost = refl }

  served-note : (m : Margin) (es : List Entry) (at : Placed) (w : Work) → w.state.floats.current ≡ entries.Left m ∷ es → Served P w (Text.with_note_bottom at.bottom (with_floats (record w.state.floats { current = drop 1 es }) w))
  served-note m [] at w e = note-taken m [] at w (omega arith) (λ h. tt)
  served-note m (x ∷ es) at w e = note-taken m (x ∷ es) at w (subst (λ (z : List Entry). current_floats es ≤ current_floats z) (sym e) (rest-count x es)) (λ h. rest-all x es (subst (AllCurrent P) e h))

  -- ---- each move once the page's list went back

  abbrev NoText : Hand → Type 0
  NoText nothing = Unit {0}
  NoText (of_text body) = ⊥
  NoText (of_column c) = Unit {0}
  NoText (of_float f) = Unit {0}
  NoText (of_note m at) = Unit {0}

  served-text : {h : Hand} {a : Work} {i : Hand} {b : Work} → TextMove p h a i b → NoText h → NoText i × Served P a b
  served-text (goes_back body w) n = absurd n
  served-text (places_current place f es height w c e i) n = (tt, goes-to f es w e place (in-column place c))
  served-text (defers_current t f es w e i) n = (tt, deferred-to f es w e t)
  served-text (takes_float f es w e) n = (tt, goes-to f es w e places.Here tt)
  served-text (stands_here vert f w) n = (tt, served-puts (Text.here_nodes p vert f) w (here-free vert f))
  served-text (takes_note height m es at w e i) n = (tt, served-note m es at w e)
  served-text (stands_beside depth m at w) n = (tt, served-puts (Text.note_nodes depth m at) w refl)
  served-text (puts_penalty nobreak h w) n = (n, served-interline nobreak w)
  served-text (warns h e w) n = (n, served-sends (warned e) w)

  served-first : (vert : Bool) (height depth page_height : ℤ) (es : List Entry) (w : Work) → w.state.floats.current ≡ es → Served P w (Text.first_goes p vert height depth page_height es w)
  served-first vert height depth page_height es w e =
      (goes-on (λ h a i b. NoText h → NoText i × Served P a b) (λ h w n. (n, same w)) (λ h i j a b c x y n. let k = x n in let l = y k.0 in (l.0, served-then a b c k.1 l.1)) (λ h i a b m. served-text m) (first-moves p vert height depth page_height es w e) tt).1

  -- the list so far and the footnotes go back, and then the float or note goes to its place
  pub served : (vert : Bool) (body : List PlainNode) (w : Work) → wait_cost (w.state.held_page ++ Text.without_firing_box body) ≡ 0 → Served P (record w { state = record w.state { held_page = []; boxes = Columns.emptied_boxes w.state.boxes } }) (Text.float_or_note p vert body w)
  served vert body w h =
      let ns = w.state.held_page ++ Text.without_firing_box body in
      let v : Work = record w { state = record w.state { held_page = []; boxes = Columns.emptied_boxes w.state.boxes } } in
      let a = Text.list_back p ns w in
      served-then v a (Text.float_or_note p vert body w) (served-puts (ns ++ Text.notes_nodes p (footnotes w.state)) v (notes (footnotes w.state))) (served-first vert _ _ _ w.state.floats.current a refl)
    where
      free : (ns : List Notes) → wait_cost (Text.notes_nodes p ns) ≡ 0
      free [] = refl
      free (n ∷ ns) = let h : wait_cost (Text.notes_nodes p ns) ≡ 0 = free ns in omega (arith, h)

      notes : (o : List Notes) → wait_cost ((w.state.held_page ++ Text.without_firing_box body) ++ Text.notes_nodes p o) ≡ 0
      notes o =
          let e : wait_cost ((w.state.held_page ++ Text.without_firing_box body) ++ Text.notes_nodes p o) ≡ wait_cost (w.state.held_page ++ Text.without_firing_box body) + wait_cost (Text.notes_nodes p o) = cost-append (w.state.held_page ++ Text.without_firing_box body) (Text.notes_nodes p o) in
          let k : wait_cost (Text.notes_nodes p o) ≡ 0 = free o in
          omega (arith, h)
