-- What the steps of a column do to the lists of floats, the columns and the dead cycles.
use Rattle.std.proofs.Common.{◌≡◌, refl, sym, ◌∙◌, ap, subst, ℕ, suc, ◌+◌, ◌≤◌, inl, inr, ◌⊎◌, Bool, true, false, List, [], ◌∷◌, ◌++◌, length, Some, length-append, arith}
use Rattle.std.specs.Prelude.{if◌then◌else◌}
use Rattle.std.specs.List.{AllByRecursion}
use Rattle.tb_break.proofs.EachLemmas.{all-front, all-back, all-join, all-push}
use Rattle.tb_node.specs.declared.Float.{Float}
use Rattle.tb_node.specs.declared.Where.{Where}
use Rattle.tb_node.specs.declared.Where.TheVariants as places
use Rattle.tb_param.specs.declared.Params.{Params}
use Rattle.tb_float.specs.declared.Part.{Part}
use Rattle.tb_float.specs.declared.Part.TheVariants as parts
use Rattle.tb_float.specs.Lists.{FloatLists, floats_of, with_floats_of, IsWaiting, wide_part, wide_waiting, with_wide_waiting}
use Rattle.tb_float.specs.Rooms.{column_height_of}
use Rattle.tb_float.proofs.WaitingLemmas.{wide-waits}
use Rattle.tb_fpage.specs.declared.Wanted.{Wanted}
use Rattle.tb_fpage.specs.Company.{Choice, company, chosen_floats, left_floats}
use Rattle.tb_fpage.proofs.FirstLemmas.{company-takes, company-leaves}
use Rattle.tb_column.specs.Column.{PlainColumn, wide_floats_column, single_floats_column}
use Rattle.tb_sheet.specs.Sheet.{PlainSheet, one, wide, pair_sheet}
use Rattle.tb_output.specs.State.{State, Work, Recorded, placed, output, records_also, with_floats}
use Rattle.tb_output.specs.FloatMoves
use Rattle.tb_output.specs.Pages
use Rattle.tb_output.specs.Columns
use Rattle.tb_area.specs.Area.{where_of}
use Rattle.tb_output.proofs.StepLaws.RefusedSteps.{by-records, by-any-ship}
use Rattle.tb_output.proofs.StepLaws.Moves.{Hand, ColumnMove, takes_company, records_column, ships_column, ships_pair, ships_wide, places_double, FillMove, places_next, Moves, goes-on}
use Rattle.tb_output.proofs.StepLaws.FiringTree.{next-moves, wide-moves, pair_rest-moves, put_out-moves, float_columns-moves}

-- the floats that wait for a place or a column; those in the text are there as boxes
abbrev pub waiting_floats : FloatLists → ℕ
waiting_floats l = length l.top + length l.bottom + length l.deferred + length l.double + length l.second

-- what holds of all of them
pub record AllWait (P : Float → Type 0) (l : FloatLists) : Type 0 where
  pub top : AllByRecursion P l.top
  pub bottom : AllByRecursion P l.bottom
  pub deferred : AllByRecursion P l.deferred
  pub double : AllByRecursion P l.double
  pub second : AllByRecursion P l.second

-- a step that is not refused: no float comes, all that held of the floats still holds, a page sets the dead cycles to 0, and the rest stays
pub record Follows (P : Float → Type 0) (a b : Work) : Type 0 where
  pub goes : b.refused ≡ false → a.refused ≡ false
  pub columns : b.state.two_columns ≡ a.state.two_columns
  pub boxes : b.state.boxes ≡ a.state.boxes
  pub back : b.put_back ≡ a.put_back
  pub page : b.state.held_page ≡ a.state.held_page
  pub current : b.state.floats.current ≡ a.state.floats.current
  pub floats : waiting_floats b.state.floats ≤ waiting_floats a.state.floats
  pub all : AllWait P a.state.floats → AllWait P b.state.floats
  pub cycles : b.refused ≡ false → (b.state.dead_cycles ≡ a.state.dead_cycles) ⊎ (b.state.dead_cycles ≡ 0)

-- what is recorded leaves the state as it is
pub records-state : (r : Recorded) (w : Work) → (records_also r w).state ≡ w.state
records-state r w = by-records (λ v. v.state ≡ w.state) r w refl refl

-- the current list stays when a float joins a list
pub joined-current : (place : Where) (f : Float) (l : FloatLists) → (FloatMoves.joined_to place f l).current ≡ l.current
joined-current places.Here f l = refl
joined-current place f l = refl

-- the current list stays when other floats wait
pub part-current : (from : Part) → IsWaiting from → (gs : List Float) (l : FloatLists) → (with_floats_of from gs l).current ≡ l.current
part-current parts.Deferred q gs l = refl
part-current parts.Second q gs l = refl
part-current from q gs l = absurd q

module _ (P : Float → Type 0) where
  pub follows-same : (a : Work) → Follows P a a
  follows-same a = record { goes = λ h. h; columns = refl; boxes = refl; back = refl; page = refl; current = refl; floats = omega arith; all = λ h. h; cycles = λ h. inl refl }

  later-cycles : (a b c : ℕ) → (b ≡ a) ⊎ (b ≡ 0) → (c ≡ b) ⊎ (c ≡ 0) → (c ≡ a) ⊎ (c ≡ 0)
  later-cycles a b c x (inr k) = inr k
  later-cycles a b c (inl h) (inl k) = inl (k ∙ h)
  later-cycles a b c (inr h) (inl k) = inr (k ∙ h)

  at-most : (x y z : ℕ) → y ≤ x → z ≤ y → z ≤ x
  at-most x y z h k = omega arith

  pub follows-then : (a b c : Work) → Follows P a b → Follows P b c → Follows P a c
  follows-then a b c x y = record {
    goes = λ h. x.goes (y.goes h);
    columns = y.columns ∙ x.columns;
    boxes = y.boxes ∙ x.boxes;
    back = y.back ∙ x.back;
    page = y.page ∙ x.page;
    current = y.current ∙ x.current;
    floats = at-most (waiting_floats a.state.floats) (waiting_floats b.state.floats) (waiting_floats c.state.floats) x.floats y.floats;
    all = λ h. y.all (x.all h);
    cycles = λ h. later-cycles a.state.dead_cycles b.state.dead_cycles c.state.dead_cycles (x.cycles (y.goes h)) (y.cycles h);
  }

  follows-records : (r : Recorded) (w : Work) → Follows P w (records_also r w)
  follows-records r w = by-records (Follows P w) r w (follows-same w) (record { goes = λ h. h; columns = refl; boxes = refl; back = refl; page = refl; current = refl; floats = omega arith; all = λ h. h; cycles = λ h. inl refl })

  follows-ship : (p : Params) (sheet : PlainSheet) (w : Work) → Follows P w (Pages.ship p sheet w)
  follows-ship p sheet w =
      by-any-ship (Follows P w) p sheet w (follows-same w)
      (record { goes = λ h. let no : ⊥ = grind (arith, h) in absurd no; columns = refl; boxes = refl; back = refl; page = refl; current = refl; floats = omega arith; all = λ h. h; cycles = λ h. inl refl })
      (record { goes = λ h. h; columns = refl; boxes = refl; back = refl; page = refl; current = refl; floats = omega arith; all = λ h. h; cycles = λ h. inr refl })

  -- ---- floats

  pub joined-count : (place : Where) (f : Float) (l : FloatLists) → waiting_floats (FloatMoves.joined_to place f l) ≤ waiting_floats l + 1
  joined-count places.Here f l = omega arith
  joined-count places.Top f l = let h : length (l.top ++ f ∷ []) ≡ length l.top + 1 = length-append l.top (f ∷ []) in omega arith
  joined-count places.Bottom f l = let h : length (l.bottom ++ f ∷ []) ≡ length l.bottom + 1 = length-append l.bottom (f ∷ []) in omega arith
  joined-count places.Page f l = omega arith
  joined-count places.Double f l = let h : length (l.double ++ f ∷ []) ≡ length l.double + 1 = length-append l.double (f ∷ []) in omega arith
  joined-count places.Deferred f l = let h : length (l.deferred ++ f ∷ []) ≡ length l.deferred + 1 = length-append l.deferred (f ∷ []) in omega arith

  pub joined-all : (place : Where) (f : Float) (l : FloatLists) → P f → AllWait P l → AllWait P (FloatMoves.joined_to place f l)
  joined-all places.Here f l k h = record { top = h.top; bottom = h.bottom; deferred = h.deferred; double = h.double; second = h.second }
  joined-all places.Top f l k h = record { top = all-push P l.top f h.top k; bottom = h.bottom; deferred = h.deferred; double = h.double; second = h.second }
  joined-all places.Bottom f l k h = record { top = h.top; bottom = all-push P l.bottom f h.bottom k; deferred = h.deferred; double = h.double; second = h.second }
  joined-all places.Page f l k h = h
  joined-all places.Double f l k h = record { top = h.top; bottom = h.bottom; deferred = h.deferred; double = all-push P l.double f h.double k; second = h.second }
  joined-all places.Deferred f l k h = record { top = h.top; bottom = h.bottom; deferred = all-push P l.deferred f h.deferred k; double = h.double; second = h.second }

  -- the lists change, and nothing else
  with-lists : (l : FloatLists) (w : Work) → l.current ≡ w.state.floats.current → waiting_floats l ≤ waiting_floats w.state.floats → (AllWait P w.state.floats → AllWait P l) → Follows P w (with_floats l w)
  with-lists l w c h k = record { goes = λ r. r; columns = refl; boxes = refl; back = refl; page = refl; current = c; floats = h; all = k; cycles = λ r. inl refl }

  -- a float that left the lists goes to one of them
  pub follows-placed : (p : Params) (place : Where) (f : Float) (left : FloatLists) (w : Work) → left.current ≡ w.state.floats.current → waiting_floats left + 1 ≤ waiting_floats w.state.floats → (AllWait P w.state.floats → P f × AllWait P left) → Follows P w (FloatMoves.place_float p place f left w)
  follows-placed p place f left w c h k = by_record (FloatMoves.is_placed place)
    where
      l : FloatLists
      l = FloatMoves.joined_to place f left

      r : Recorded
      r = placed p f place w.state.floats (column_height_of p w.state.floats)

      counted : waiting_floats l ≤ waiting_floats w.state.floats
      counted = let j : waiting_floats (FloatMoves.joined_to place f left) ≤ waiting_floats left + 1 = joined-count place f left in at-most (waiting_floats w.state.floats) (waiting_floats left + 1) (waiting_floats l) h j

      kept : AllWait P w.state.floats → AllWait P l
      kept a = let x : P f × AllWait P left = k a in joined-all place f left x.0 x.1

      here : (a : Work) → a.state ≡ w.state → Follows P a (with_floats l a)
      here a e = with-lists l a (joined-current place f left ∙ c ∙ sym (ap (λ s. s.floats.current) e)) (subst (λ (s : State). waiting_floats l ≤ waiting_floats s.floats) (sym e) counted) (λ x. kept (subst (λ (s : State). AllWait P s.floats) e x))

      by_record : (t : Bool) → Follows P w (with_floats l (if t then records_also r w else w))
      by_record true = follows-then w (records_also r w) (with_floats l (records_also r w)) (follows-records r w) (here (records_also r w) (records-state r w))
      by_record false = here w refl

  -- ---- the list in which floats wait

  -- other floats are in it
  pub part-count : (from : Part) → IsWaiting from → (gs : List Float) (l : FloatLists) → waiting_floats (with_floats_of from gs l) + length (floats_of from l) ≡ waiting_floats l + length gs
  part-count parts.Deferred q gs l = omega arith
  part-count parts.Second q gs l = omega arith
  part-count from q gs l = absurd q

  pub part-all : (from : Part) → IsWaiting from → (l : FloatLists) → AllWait P l → AllByRecursion P (floats_of from l)
  part-all parts.Deferred q l h = h.deferred
  part-all parts.Second q l h = h.second
  part-all from q l h = absurd q

  pub all-part : (from : Part) → IsWaiting from → (gs : List Float) (l : FloatLists) → AllWait P l → AllByRecursion P gs → AllWait P (with_floats_of from gs l)
  all-part parts.Deferred q gs l h k = record { top = h.top; bottom = h.bottom; deferred = k; double = h.double; second = h.second }
  all-part parts.Second q gs l h k = record { top = h.top; bottom = h.bottom; deferred = h.deferred; double = h.double; second = k }
  all-part from q gs l h k = absurd q

  -- a float of it goes to its place
  follows-leaving : (from : Part) → IsWaiting from → (p : Params) (place : Where) (f : Float) (before rest : List Float) (w : Work) → floats_of from w.state.floats ≡ before ++ f ∷ rest → Follows P w (FloatMoves.place_float p place f (with_floats_of from (before ++ rest) w.state.floats) w)
  follows-leaving from q p place f before rest w e = follows-placed p place f (with_floats_of from (before ++ rest) w.state.floats) w (part-current from q (before ++ rest) w.state.floats) fewer parts-of
    where
      fewer : waiting_floats (with_floats_of from (before ++ rest) w.state.floats) + 1 ≤ waiting_floats w.state.floats
      fewer =
          let c : waiting_floats (with_floats_of from (before ++ rest) w.state.floats) + length (floats_of from w.state.floats) ≡ waiting_floats w.state.floats + length (before ++ rest) = part-count from q (before ++ rest) w.state.floats in
          sums (waiting_floats (with_floats_of from (before ++ rest) w.state.floats)) (waiting_floats w.state.floats) (length (floats_of from w.state.floats)) (length (before ++ rest)) (length (before ++ f ∷ rest)) (length before) (length rest) (length (f ∷ rest)) c (ap length e) (length-append before rest) (length-append before (f ∷ rest)) refl
        where
          sums : (x y a b c i j d : ℕ) → x + a ≡ y + b → a ≡ c → b ≡ i + j → c ≡ i + d → d ≡ suc j → x + 1 ≤ y
          sums x y a b c i j d h k m n o = omega arith

      parts-of : AllWait P w.state.floats → P f × AllWait P (with_floats_of from (before ++ rest) w.state.floats)
      parts-of h =
          let d : AllByRecursion P (before ++ f ∷ rest) = subst (AllByRecursion P) e (part-all from q w.state.floats h) in
          ((all-back P before (f ∷ rest) d).0, all-part from q (before ++ rest) w.state.floats h (all-join P before rest (all-front P before (f ∷ rest) d) (all-back P before (f ∷ rest) d).1))

  follows-fill : {p : Params} {h : Hand} {a : Work} {i : Hand} {b : Work} → FillMove p h a i b → Follows P a b
  follows-fill {p} (places_next a f before rest w c e i) = follows-leaving parts.Deferred tt p (where_of a) f before rest w e

  pub follows-next : (p : Params) (before fs : List Float) (w : Work) → w.state.floats.deferred ≡ before ++ fs → Follows P w (FloatMoves.place_next p before fs w)
  follows-next p before fs w e = goes-on (λ h a i b. Follows P a b) (λ h w. follows-same w) (λ h i j a b c x y. follows-then a b c x y) (λ h i a b m. follows-fill m) (next-moves p before fs w e)

  -- ---- companies

  -- the floats that a company leaves; there is one fewer at least
  pub company-left : (z : Wanted) (w : Work) (cs : List Choice) → company z w.state.floats.deferred ≡ Some cs → Follows P w (Pages.with_deferred (left_floats cs) w) × (waiting_floats (Pages.with_deferred (left_floats cs) w).state.floats + 1 ≤ waiting_floats w.state.floats)
  company-left z w cs e =
      let h : length (left_floats cs) + 1 ≤ length w.state.floats.deferred = company-takes z w.state.floats.deferred cs e in
      (with-lists (record w.state.floats { deferred = left_floats cs }) w refl (omega arith) (λ x. record { top = x.top; bottom = x.bottom; deferred = company-leaves P z w.state.floats.deferred cs e x.deferred; double = x.double; second = x.second }), omega arith)

  -- the wide floats that a company leaves
  pub wide-left : (z : Wanted) (p : Params) (w : Work) (cs : List Choice) → company z (wide_waiting p w.state.floats) ≡ Some cs → Follows P w (with_floats (with_wide_waiting p (left_floats cs) w.state.floats) w) × (waiting_floats (with_wide_waiting p (left_floats cs) w.state.floats) + 1 ≤ waiting_floats w.state.floats)
  wide-left z p w cs e =
      let h : length (left_floats cs) + 1 ≤ length (wide_waiting p w.state.floats) = company-takes z (wide_waiting p w.state.floats) cs e in
      let c : waiting_floats (with_wide_waiting p (left_floats cs) w.state.floats) + length (wide_waiting p w.state.floats) ≡ waiting_floats w.state.floats + length (left_floats cs) = part-count (wide_part p) (wide-waits p) (left_floats cs) w.state.floats in
      let k : waiting_floats (with_wide_waiting p (left_floats cs) w.state.floats) + 1 ≤ waiting_floats w.state.floats = sums (waiting_floats (with_wide_waiting p (left_floats cs) w.state.floats)) (waiting_floats w.state.floats) (length (wide_waiting p w.state.floats)) (length (left_floats cs)) c h in
      (with-lists (with_wide_waiting p (left_floats cs) w.state.floats) w (part-current (wide_part p) (wide-waits p) (left_floats cs) w.state.floats) (fewer (waiting_floats (with_wide_waiting p (left_floats cs) w.state.floats)) (waiting_floats w.state.floats) k) (λ x. all-part (wide_part p) (wide-waits p) (left_floats cs) w.state.floats x (company-leaves P z (wide_waiting p w.state.floats) cs e (part-all (wide_part p) (wide-waits p) w.state.floats x))), k)
    where
      sums : (x y a b : ℕ) → x + a ≡ y + b → b + 1 ≤ a → x + 1 ≤ y
      sums x y a b h k = omega arith

      fewer : (x y : ℕ) → x + 1 ≤ y → x ≤ y
      fewer x y h = omega arith

  pub follows-wide : (p : Params) (clearing : Bool) (w : Work) (cs : List Choice) → company (Pages.wide_wanted p clearing) (wide_waiting p w.state.floats) ≡ Some cs → Follows P w (Pages.ship_wide p cs w) × (waiting_floats (Pages.ship_wide p cs w).state.floats + 1 ≤ waiting_floats w.state.floats)
  follows-wide p clearing w cs e =
      let a = with_floats (with_wide_waiting p (left_floats cs) w.state.floats) w in
      let c : Follows P w (with_floats (with_wide_waiting p (left_floats cs) w.state.floats) w) × (waiting_floats (with_wide_waiting p (left_floats cs) w.state.floats) + 1 ≤ waiting_floats w.state.floats) = wide-left (Pages.wide_wanted p clearing) p w cs e in
      let x : Follows P (with_floats (with_wide_waiting p (left_floats cs) w.state.floats) w) (Pages.ship_wide p cs w) = follows-ship p (wide (wide_floats_column p p.textheight (chosen_floats cs))) a in
      (follows-then w a (Pages.ship_wide p cs w) c.0 x, one-fewer (waiting_floats w.state.floats) (waiting_floats (with_wide_waiting p (left_floats cs) w.state.floats)) (waiting_floats (Pages.ship_wide p cs w).state.floats) c.1 x.floats)
    where
      one-fewer : (x y z : ℕ) → y + 1 ≤ x → z ≤ y → z + 1 ≤ x
      one-fewer x y z h k = omega arith

  -- ---- columns

  none-left : AllByRecursion P []
  none-left = tt

  -- the double floats are gone
  pub follows-undoubled : (w : Work) → Follows P w (Pages.without_double w) × (waiting_floats (Pages.without_double w).state.floats + length w.state.floats.double ≤ waiting_floats w.state.floats)
  follows-undoubled w = (record { goes = λ r. r; columns = refl; boxes = refl; back = refl; page = refl; current = refl; floats = omega arith; all = λ x. record { top = x.top; bottom = x.bottom; deferred = x.deferred; double = none-left; second = x.second }; cycles = λ r. inl refl }, omega arith)

  -- ---- each move

  follows-move : {p : Params} {h : Hand} {a : Work} {i : Hand} {b : Work} → ColumnMove p h a i b → Follows P a b
  follows-move {p} (takes_company clearing cs w e) = (company-left (Columns.single_wanted p w.state.floats clearing) w cs e).0
  follows-move {p} (records_column c w) = follows-records (output c) w
  follows-move {p} (ships_column c w t) = follows-ship p (one c) w
  follows-move {p} (ships_pair c w t f) = let sheet = pair_sheet p w.state.floats (Pages.left_or c w.state.left_column) c in follows-then w (Pages.ship p sheet w) _ (follows-ship p sheet w) (follows-undoubled (Pages.ship p sheet w)).0
  follows-move {p} (ships_wide clearing cs w e) = (follows-wide p clearing w cs e).0
  follows-move {p} (places_double f before rest w t e i) = follows-leaving (wide_part p) (wide-waits p) p places.Double f before rest w e
  follows-move m = record { goes = λ r. r; columns = refl; boxes = refl; back = refl; page = refl; current = refl; floats = omega arith; all = λ h. h; cycles = λ r. inl refl }

  follows-moves : {p : Params} {h i : Hand} {a b : Work} → Moves (ColumnMove p) h a i b → Follows P a b
  follows-moves x = goes-on (λ h a i b. Follows P a b) (λ h w. follows-same w) (λ h i j a b c x y. follows-then a b c x y) (λ h i a b m. follows-move m) x

  -- ---- the parts of a page

  pub follows-wide_pages : (p : Params) (clearing : Bool) (n : ℕ) (w : Work) → Follows P w (Pages.wide_pages p clearing n w)
  follows-wide_pages p clearing n w = follows-moves (wide-moves p clearing n w)

  -- what follows the page of two columns
  pub follows-pair_rest : (p : Params) (c : PlainColumn) (w : Work) → w.state.two_columns ≡ true → Follows P (Pages.without_double (Pages.ship p (pair_sheet p w.state.floats (Pages.left_or c w.state.left_column) c) w)) (Pages.ship_pair p c w)
  follows-pair_rest p c w t = follows-moves (pair_rest-moves p c w t)

  pub follows-put_out : (p : Params) (c : PlainColumn) (w : Work) → Follows P w (Pages.put_out p c w)
  follows-put_out p c w = follows-moves (put_out-moves p c w)

  pub follows-company : (p : Params) (clearing : Bool) (w : Work) (cs : List Choice) → company (Columns.single_wanted p w.state.floats clearing) w.state.floats.deferred ≡ Some cs → Follows P w (Columns.put_out_company p cs w) × (waiting_floats (Columns.put_out_company p cs w).state.floats + 1 ≤ waiting_floats w.state.floats)
  follows-company p clearing w cs e =
      let a = Pages.with_deferred (left_floats cs) w in
      let c : Follows P w (Pages.with_deferred (left_floats cs) w) × (waiting_floats (Pages.with_deferred (left_floats cs) w).state.floats + 1 ≤ waiting_floats w.state.floats) = company-left (Columns.single_wanted p w.state.floats clearing) w cs e in
      let x : Follows P (Pages.with_deferred (left_floats cs) w) (Columns.put_out_company p cs w) = follows-put_out p (single_floats_column p (column_height_of p w.state.floats) (chosen_floats cs)) a in
      (follows-then w a (Columns.put_out_company p cs w) c.0 x, one-fewer (waiting_floats w.state.floats) (waiting_floats (Pages.with_deferred (left_floats cs) w).state.floats) (waiting_floats (Columns.put_out_company p cs w).state.floats) c.1 x.floats)
    where
      one-fewer : (x y z : ℕ) → y + 1 ≤ x → z ≤ y → z + 1 ≤ x
      one-fewer x y z h k = omega arith

  pub follows-float_columns : (p : Params) (clearing : Bool) (n : ℕ) (w : Work) → Follows P w (Columns.float_columns p clearing n w)
  follows-float_columns p clearing n w = follows-moves (float_columns-moves p clearing n w)
