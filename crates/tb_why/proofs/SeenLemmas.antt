-- What is told of a firing depends on what is seen of it alone: each definition of `Firing` is that of `Seen` over what is seen.
use Rattle.std.proofs.Common.{◌≡◌, ℕ, zero, suc, pos, Bool, true, false, List, [], ◌∷◌, ◌++◌, length, Some, None, refl, ap, ◌∙◌}
use Rattle.std.specs.Prelude.{ℤ, ◌+◌, not, Option, int_le, int_lt, if◌then◌else◌}
use Rattle.tb_scaled.specs.Scaled.{eject_penalty}
use Rattle.tb_scaled.specs.Glue.{filling_glue}
use Rattle.tb_node.specs.declared.Float.{Float}
use Rattle.tb_node.specs.declared.Where.TheVariants as places
use Rattle.tb_node.specs.PlainNodes.{PlainNode, skip, made}
use Rattle.tb_param.specs.declared.Params.{Params}
use Rattle.tb_builder.specs.FiredPages.{Fired}
use Rattle.tb_float.specs.declared.Entry.{Entry}
use Rattle.tb_float.specs.declared.Entry.TheVariants as entries
use Rattle.tb_float.specs.declared.Part.{Part}
use Rattle.tb_float.specs.declared.Part.TheVariants as parts
use Rattle.tb_float.specs.declared.Suppress.{Suppress}
use Rattle.tb_float.specs.Lists.{FloatLists, IsWaiting, wide_part, wide_waiting, with_wide_waiting}
use Rattle.tb_float.specs.Rooms.{column_height_of}
use Rattle.tb_float.proofs.WaitingLemmas.{wide-waits}
use Rattle.tb_area.specs.Area.{AreaPlace, at_top, at_bottom, deferred, where_of, next_area_place, goes_double}
use Rattle.tb_area.specs.Deferred.{gone_to, still_before, gone_double, still_single, doubled}
use Rattle.tb_fpage.specs.Company.{Choice, company, chosen_floats, left_floats}
use Rattle.tb_column.specs.Column.{PlainColumn, Notes, standing_notes, single_floats_column, wide_floats_column}
use Rattle.tb_sheet.specs.Sheet.{PlainSheet, PlainSent, shipped, one, wide, pair_sheet}
use Rattle.tb_sheet.specs.Asked.{clear_penalty, par_penalty, vert_penalty}
use Rattle.tb_output.specs.declared.reading.Reading.{Reading}
use Rattle.tb_output.specs.State.{State, Work, Recorded, placed, output, begun, footnotes, puts, sends, records_also, with_floats}
use Rattle.tb_output.specs.FloatMoves
use Rattle.tb_output.specs.Pages
use Rattle.tb_output.specs.Columns
use Rattle.tb_output.specs.Clear
use Rattle.tb_output.specs.Text.{without_firing_box, list_back}
use Rattle.tb_output.specs.Output.{is_int, after_page}
use Rattle.tb_output.specs.Reading.{any_notes}
use Rattle.tb_output.proofs.ColumnPages.FillLemmas.{HasLists, fill_double-lists}
use Rattle.tb_told.specs.declared.Piece.{Piece}
use Rattle.tb_told.specs.AreaTold.{told_next, told_wide}
use Rattle.tb_told.specs.Filled.{filled_pieces, none_suppressed, doubled_pieces}
use Rattle.tb_told.specs.Tales.{tales, decisions, back_tales, and_here, here_lines}
use Rattle.tb_why.specs.Firing
use Rattle.tb_why.specs.Firing.{unless_over}
use Rattle.tb_why.specs.Seen

-- ---- pieces

join : {a b c d : List Piece} → a ≡ c → b ≡ d → a ++ b ≡ c ++ d
join {a} {b} {c} {d} x y = ap (λ z. z ++ b) x ∙ ap (λ z. c ++ z) y

-- nothing is told once the page limit was met, neither now nor later
told_both : (b : Bool) (xs ys : List Piece) → Seen.told_unless b xs ++ Seen.told_unless b ys ≡ Seen.told_unless b (xs ++ ys)
told_both true xs ys = refl
told_both false xs ys = refl

told_none : (b : Bool) → [] ≡ Seen.told_unless b []
told_none true = refl
told_none false = refl

-- ---- what is seen

-- what is seen of a state
abbrev seen_at : State → Bool → Seen.Seen
seen_at s over = record {
  floats = s.floats;
  page = s.page;
  number = s.number;
  two_columns = s.two_columns;
  first_column = s.first_column;
  suppress = s.suppress;
  note_bottom = s.note_bottom;
  over = over;
}

lists-seen : (w v : Work) (l : FloatLists) → HasLists w v l → Seen.seen_of v ≡ Seen.with_lists l (Seen.seen_of w)
lists-seen w v l h = ap (λ (s : State). seen_at s v.refused) h.state ∙ ap (λ (b : Bool). seen_at (record w.state { floats = l }) b) h.refused

-- what is sent and what is recorded is not seen
sends-seen : (e : PlainSent) (w : Work) → Seen.seen_of (sends e w) ≡ Seen.seen_of w
sends-seen e w = by_refused w.refused
  where
    by_refused : (t : Bool) → Seen.seen_of (if t then w else record w { sent = w.sent ++ e ∷ [] }) ≡ Seen.seen_of w
    by_refused true = refl
    by_refused false = refl

recorded-seen : (r : Recorded) (w : Work) → Seen.seen_of (records_also r w) ≡ Seen.seen_of w
recorded-seen r w = by_refused w.refused
  where
    by_refused : (t : Bool) → Seen.seen_of (if t then w else record w { records = w.records ++ r ∷ [] }) ≡ Seen.seen_of w
    by_refused true = refl
    by_refused false = refl

-- ---- floats that wait are tried for the next column

gone-seen : (p : Params) (a : AreaPlace) (f : Float) (before rest : List Float) (w : Work) →
    Seen.seen_of (FloatMoves.place_waiting parts.Deferred p (where_of a) f before rest w) ≡ Seen.with_lists (gone_to a f before rest w.state.floats) (Seen.seen_of w)
gone-seen p at_top f before rest w = ap (Seen.with_lists (gone_to at_top f before rest w.state.floats)) (recorded-seen (placed p f places.Top w.state.floats (column_height_of p w.state.floats)) w)
gone-seen p at_bottom f before rest w = ap (Seen.with_lists (gone_to at_bottom f before rest w.state.floats)) (recorded-seen (placed p f places.Bottom w.state.floats (column_height_of p w.state.floats)) w)
gone-seen p deferred f before rest w = refl

still-seen : (a : AreaPlace) (f : Float) (before : List Float) → FloatMoves.still_deferred (where_of a) f before ≡ still_before a f before
still-seen at_top f before = refl
still-seen at_bottom f before = refl
still-seen deferred f before = refl

-- what is told of these floats, by what is seen
abbrev next_told : Params → List Float → List Float → Seen.Seen → List Piece
next_told p before fs v = Seen.told_unless v.over (filled_pieces p v.suppress before fs v.floats)

next-told : (p : Params) (before fs : List Float) (w : Work) → Firing.next_pieces p before fs w ≡ next_told p before fs (Seen.seen_of w)
next-told p before [] w = told_none w.refused
next-told p before (f ∷ rest) w =
    let l = w.state.floats in
    let s = w.state.suppress in
    let a = next_area_place p l s before f in
    let u = FloatMoves.place_waiting parts.Deferred p (where_of a) f before rest w in
    let still = FloatMoves.still_deferred (where_of a) f before in
    let gone = gone_to a f before rest l in
    let now = tales (decisions f (told_next p l s before f)) in
    ap (λ xs. unless_over w now ++ xs)
    (next-told p still rest u
    ∙ ap (λ (v : Seen.Seen). next_told p still rest v) (gone-seen p a f before rest w)
    ∙ ap (λ fs. next_told p fs rest (Seen.with_lists gone (Seen.seen_of w))) (still-seen a f before))
    ∙ told_both w.refused now (filled_pieces p s (still_before a f before) rest gone)

fill-told : (p : Params) (w : Work) → Firing.fill_pieces p w ≡ Seen.fill_told p (Seen.seen_of w)
fill-told p w = next-told p [] w.state.floats.deferred w

-- ---- the same above both columns; no area is suppressed there

free-doubled : (from : Part) (p : Params) (s : Suppress) (before fs : List Float) (l : FloatLists) → doubled from p s before fs l ≡ doubled from p none_suppressed before fs l
free-doubled from p s before [] l = refl
free-doubled from p s before (f ∷ rest) l =
    let goes = goes_double p l none_suppressed before f in
    free-doubled from p s (still_single goes f before) rest (gone_double from goes f before rest l)

gone_double-seen : (from : Part) → IsWaiting from → (p : Params) (b : Bool) (f : Float) (before rest : List Float) (w : Work) →
    Seen.seen_of (FloatMoves.place_waiting from p (if b then places.Double else places.Deferred) f before rest w) ≡ Seen.with_lists (gone_double from b f before rest w.state.floats) (Seen.seen_of w)
gone_double-seen parts.Deferred q p true f before rest w = ap (Seen.with_lists (gone_double parts.Deferred true f before rest w.state.floats)) (recorded-seen (placed p f places.Double w.state.floats (column_height_of p w.state.floats)) w)
gone_double-seen parts.Second q p true f before rest w = ap (Seen.with_lists (gone_double parts.Second true f before rest w.state.floats)) (recorded-seen (placed p f places.Double w.state.floats (column_height_of p w.state.floats)) w)
gone_double-seen parts.Deferred q p false f before rest w = refl
gone_double-seen parts.Second q p false f before rest w = refl
gone_double-seen from q p b f before rest w = absurd q

still_double-seen : (b : Bool) (f : Float) (before : List Float) → FloatMoves.still_deferred (if b then places.Double else places.Deferred) f before ≡ still_single b f before
still_double-seen true f before = refl
still_double-seen false f before = refl

-- what is told of these floats, by what is seen
abbrev double_told : Part → Params → List Float → List Float → Seen.Seen → List Piece
double_told from p before fs v = Seen.told_unless v.over (doubled_pieces from p before fs v.floats)

double-told : (from : Part) → IsWaiting from → (p : Params) (before fs : List Float) (w : Work) → Firing.double_pieces from p before fs w ≡ double_told from p before fs (Seen.seen_of w)
double-told from q p before [] w = told_none w.refused
double-told from q p before (f ∷ rest) w =
    let l = w.state.floats in
    let goes = goes_double p l none_suppressed before f in
    let place = if goes then places.Double else places.Deferred in
    let u = FloatMoves.place_waiting from p place f before rest w in
    let still = FloatMoves.still_deferred place f before in
    let gone = gone_double from goes f before rest l in
    let now = tales (decisions f (told_wide p l none_suppressed before f)) in
    ap (λ xs. unless_over w now ++ xs)
    (double-told from q p still rest u
    ∙ ap (λ (v : Seen.Seen). double_told from p still rest v) (gone_double-seen from q p goes f before rest w)
    ∙ ap (λ fs. double_told from p fs rest (Seen.with_lists gone (Seen.seen_of w))) (still_double-seen goes f before))
    ∙ told_both w.refused now (doubled_pieces from p (still_single goes f before) rest gone)

fill_double-told : (p : Params) (w : Work) → Firing.fill_double_pieces p w ≡ Seen.fill_double_told p (Seen.seen_of w)
fill_double-told p w = double-told (wide_part p) (wide-waits p) p [] (wide_waiting p w.state.floats) w

fill_double-seen : (p : Params) (w : Work) → Seen.seen_of (Pages.fill_double p w) ≡ Seen.fill_double_seen p (Seen.seen_of w)
fill_double-seen p w =
    let fs = wide_waiting p w.state.floats in
    lists-seen w (Pages.fill_double p w) (doubled (wide_part p) p w.state.suppress [] fs w.state.floats) (fill_double-lists p w)
    ∙ ap (λ l. Seen.with_lists l (Seen.seen_of w)) (free-doubled (wide_part p) p w.state.suppress [] fs w.state.floats)

-- ---- pages

ship-seen : (p : Params) (sheet : PlainSheet) (w : Work) → Seen.seen_of (Pages.ship p sheet w) ≡ Seen.ship_seen p (Seen.seen_of w)
ship-seen p sheet w = by_refused w.refused (int_lt p.maxpages (pos w.state.page))
  where
    v : Seen.Seen
    v = Seen.seen_of w

    by_refused : (t u : Bool) → Seen.seen_of (if t then w else (if u then record w { refused = true } else Pages.ship_now sheet w)) ≡ (if t then v else (if u then record v { over = true } else record v { page = v.page + 1; number = v.number + 1 }))
    by_refused true u = refl
    by_refused false true = refl
    by_refused false false = sends-seen (shipped w.state.number sheet) (record w { state = record w.state { page = w.state.page + 1; number = w.state.number + 1; dead_cycles = 0 } })

wide_page-seen : (p : Params) (cs : List Choice) (w : Work) → Seen.seen_of (Pages.ship_wide p cs w) ≡ Seen.wide_page_seen p cs (Seen.seen_of w)
wide_page-seen p cs w = ship-seen p (wide (wide_floats_column p p.textheight (chosen_floats cs))) (with_floats (with_wide_waiting p (left_floats cs) w.state.floats) w)

wide-seen : (p : Params) (clearing : Bool) (n : ℕ) (w : Work) → Seen.seen_of (Pages.wide_pages p clearing n w) ≡ Seen.wide_seen p clearing n (Seen.seen_of w)
wide-seen p clearing zero w = refl
wide-seen p clearing (suc n) w = by_company (λ v. wide-seen p clearing n v) (company (Pages.wide_wanted p clearing) (wide_waiting p w.state.floats))
  where
    by_company : ((v : Work) → Seen.seen_of (Pages.wide_pages p clearing n v) ≡ Seen.wide_seen p clearing n (Seen.seen_of v)) → (o : Option (List Choice)) →
        Seen.seen_of (Pages.wide_pages_by (λ w'. Pages.wide_pages p clearing n w') p w o) ≡ Seen.wide_seen_by (λ u. Seen.wide_seen p clearing n u) p (Seen.seen_of w) o
    by_company again None = refl
    by_company again (Some cs) = again (Pages.ship_wide p cs w) ∙ ap (λ u. Seen.wide_seen p clearing n u) (wide_page-seen p cs w)

wide-told : (p : Params) (clearing : Bool) (n : ℕ) (w : Work) → Firing.wide_pieces p clearing n w ≡ Seen.wide_told p clearing n (Seen.seen_of w)
wide-told p clearing zero w = refl
wide-told p clearing (suc n) w =
    ap (λ xs. Seen.wide_looked_told p clearing (Seen.seen_of w) ++ xs)
    (by_company (λ v. wide-told p clearing n v) (company (Pages.wide_wanted p clearing) (wide_waiting p w.state.floats)))
  where
    by_company : ((v : Work) → Firing.wide_pieces p clearing n v ≡ Seen.wide_told p clearing n (Seen.seen_of v)) → (o : Option (List Choice)) →
        Firing.wide_pieces_by (λ w'. Firing.wide_pieces p clearing n w') p w o ≡ Seen.wide_told_by (λ u. Seen.wide_told p clearing n u) p (Seen.seen_of w) o
    by_company again None = refl
    by_company again (Some cs) =
        ap (λ xs. Seen.put_told (Seen.seen_of w) ++ (Seen.ship_told p (Seen.seen_of w) ++ xs))
        (again (Pages.ship_wide p cs w) ∙ ap (λ u. Seen.wide_told p clearing n u) (wide_page-seen p cs w))

all_wide-seen : (p : Params) (clearing : Bool) (w : Work) → Seen.seen_of (Pages.all_wide_pages p clearing w) ≡ Seen.all_wide_seen p clearing (Seen.seen_of w)
all_wide-seen p clearing w = wide-seen p clearing (length (wide_waiting p w.state.floats)) w

all_wide-told : (p : Params) (clearing : Bool) (w : Work) → Firing.all_wide_pieces p clearing w ≡ Seen.all_wide_told p clearing (Seen.seen_of w)
all_wide-told p clearing w = wide-told p clearing (length (wide_waiting p w.state.floats)) w

after_pair-told : (p : Params) (w : Work) → Firing.after_pair p w ≡ Seen.after_pair_told p (Seen.seen_of w)
after_pair-told p w =
    join (all_wide-told p false w)
    (fill_double-told p (Pages.all_wide_pages p false w) ∙ ap (λ u. Seen.fill_double_told p u) (all_wide-seen p false w))

-- the page of two columns was shipped, and its floats are gone
undoubled-seen : (p : Params) (sheet : PlainSheet) (w : Work) → Seen.seen_of (Pages.without_double (Pages.ship p sheet w)) ≡ Seen.without_double_seen (Seen.ship_seen p (Seen.seen_of w))
undoubled-seen p sheet w = ap (λ u. Seen.without_double_seen u) (ship-seen p sheet w)

pair-told : (p : Params) (c : PlainColumn) (w : Work) → Firing.pair_pieces p c w ≡ Seen.pair_told p (Seen.seen_of w)
pair-told p c w =
    let sheet = pair_sheet p w.state.floats (Pages.left_or c w.state.left_column) c in
    ap (λ xs. Seen.ship_told p (Seen.seen_of w) ++ xs)
    (after_pair-told p (Pages.without_double (Pages.ship p sheet w)) ∙ ap (λ u. Seen.after_pair_told p u) (undoubled-seen p sheet w))

pair-seen : (p : Params) (c : PlainColumn) (w : Work) → Seen.seen_of (Pages.ship_pair p c w) ≡ Seen.pair_seen p (Seen.seen_of w)
pair-seen p c w =
    let sheet = pair_sheet p w.state.floats (Pages.left_or c w.state.left_column) c in
    let v = Pages.without_double (Pages.ship p sheet w) in
    fill_double-seen p (Pages.all_wide_pages p false v)
    ∙ ap (λ u. Seen.fill_double_seen p u) (all_wide-seen p false v)
    ∙ ap (λ u. Seen.fill_double_seen p (Seen.all_wide_seen p false u)) (undoubled-seen p sheet w)

put_by-told : (p : Params) (c : PlainColumn) (w : Work) → Firing.put_out_pieces_by p c w ≡ Seen.put_out_told_by p (Seen.seen_of w)
put_by-told p c w = by_columns w.state.two_columns w.state.first_column
  where
    by_columns : (t u : Bool) → (if not t then Firing.ship_pieces p w else (if u then [] else Firing.pair_pieces p c w)) ≡ (if not t then Seen.ship_told p (Seen.seen_of w) else (if u then [] else Seen.pair_told p (Seen.seen_of w)))
    by_columns false u = refl
    by_columns true true = refl
    by_columns true false = pair-told p c w

put_by-seen : (p : Params) (c : PlainColumn) (w : Work) → Seen.seen_of (Pages.put_out_by p c w) ≡ Seen.put_out_seen_by p (Seen.seen_of w)
put_by-seen p c w = by_columns w.state.two_columns w.state.first_column
  where
    v : Seen.Seen
    v = Seen.seen_of w

    by_columns : (t u : Bool) → Seen.seen_of (if not t then Pages.ship p (one c) w else (if u then Pages.keep_left c w else Pages.ship_pair p c w)) ≡ (if not t then Seen.ship_seen p v else (if u then record v { first_column = false } else Seen.pair_seen p v))
    by_columns false u = ship-seen p (one c) w
    by_columns true true = refl
    by_columns true false = pair-seen p c w

put_out-told : (p : Params) (c : PlainColumn) (w : Work) → Firing.put_out_pieces p c w ≡ Seen.put_out_told p (Seen.seen_of w)
put_out-told p c w =
    ap (λ xs. Seen.put_told (Seen.seen_of w) ++ xs)
    (put_by-told p c (records_also (output c) w) ∙ ap (λ u. Seen.put_out_told_by p u) (recorded-seen (output c) w))

put_out-seen : (p : Params) (c : PlainColumn) (w : Work) → Seen.seen_of (Pages.put_out p c w) ≡ Seen.put_out_seen p (Seen.seen_of w)
put_out-seen p c w =
    ap (λ u. Seen.after_column_seen u)
    (put_by-seen p c (records_also (output c) w) ∙ ap (λ u. Seen.put_out_seen_by p u) (recorded-seen (output c) w))

-- ---- columns

text-told : (p : Params) (body : List PlainNode) (w : Work) → Firing.text_pieces p body w ≡ Seen.text_told p (here_lines body) (Seen.seen_of w)
text-told p body w =
    ap (λ xs. Seen.stands_told (here_lines body) (Seen.seen_of w) ++ xs)
    (put_out-told p (Columns.text_of p w.state body) (Columns.without_column_floats w))

text-seen : (p : Params) (body : List PlainNode) (w : Work) → Seen.seen_of (Columns.put_out_text p body w) ≡ Seen.text_seen p (Seen.seen_of w)
text-seen p body w = put_out-seen p (Columns.text_of p w.state body) (Columns.without_column_floats w)

-- a column of the company is put out
company-told : (p : Params) (cs : List Choice) (w : Work) → Firing.company_pieces p cs w ≡ Seen.put_out_told p (Seen.without_company_seen cs (Seen.seen_of w))
company-told p cs w = put_out-told p (single_floats_column p (column_height_of p w.state.floats) (chosen_floats cs)) (Pages.with_deferred (left_floats cs) w)

company-seen : (p : Params) (cs : List Choice) (w : Work) → Seen.seen_of (Columns.put_out_company p cs w) ≡ Seen.put_out_seen p (Seen.without_company_seen cs (Seen.seen_of w))
company-seen p cs w = put_out-seen p (single_floats_column p (column_height_of p w.state.floats) (chosen_floats cs)) (Pages.with_deferred (left_floats cs) w)

columns-seen : (p : Params) (clearing : Bool) (n : ℕ) (w : Work) → Seen.seen_of (Columns.float_columns p clearing n w) ≡ Seen.float_seen p clearing n (Seen.seen_of w)
columns-seen p clearing zero w = refl
columns-seen p clearing (suc n) w = by_company (λ v. columns-seen p clearing n v) (company (Columns.single_wanted p w.state.floats clearing) w.state.floats.deferred)
  where
    by_company : ((v : Work) → Seen.seen_of (Columns.float_columns p clearing n v) ≡ Seen.float_seen p clearing n (Seen.seen_of v)) → (o : Option (List Choice)) →
        Seen.seen_of (Columns.float_columns_by (λ w'. Columns.float_columns p clearing n w') p w o) ≡ Seen.float_seen_by (λ u. Seen.float_seen p clearing n u) p (Seen.seen_of w) o
    by_company again None = refl
    by_company again (Some cs) = again (Columns.put_out_company p cs w) ∙ ap (λ u. Seen.float_seen p clearing n u) (company-seen p cs w)

columns-told : (p : Params) (clearing : Bool) (n : ℕ) (w : Work) → Firing.float_pieces p clearing n w ≡ Seen.float_told p clearing n (Seen.seen_of w)
columns-told p clearing zero w = refl
columns-told p clearing (suc n) w =
    ap (λ xs. Seen.column_looked_told p clearing (Seen.seen_of w) ++ xs)
    (by_company (λ v. columns-told p clearing n v) (company (Columns.single_wanted p w.state.floats clearing) w.state.floats.deferred))
  where
    by_company : ((v : Work) → Firing.float_pieces p clearing n v ≡ Seen.float_told p clearing n (Seen.seen_of v)) → (o : Option (List Choice)) →
        Firing.float_pieces_by (λ w'. Firing.float_pieces p clearing n w') p w o ≡ Seen.float_told_by (λ u. Seen.float_told p clearing n u) p (Seen.seen_of w) o
    by_company again None = refl
    by_company again (Some cs) =
        join (company-told p cs w) (again (Columns.put_out_company p cs w) ∙ ap (λ u. Seen.float_told p clearing n u) (company-seen p cs w))

all_columns-seen : (p : Params) (clearing : Bool) (w : Work) → Seen.seen_of (Columns.all_float_columns p clearing w) ≡ Seen.all_float_seen p clearing (Seen.seen_of w)
all_columns-seen p clearing w = columns-seen p clearing (length w.state.floats.deferred) w

all_columns-told : (p : Params) (clearing : Bool) (w : Work) → Firing.all_float_pieces p clearing w ≡ Seen.all_float_told p clearing (Seen.seen_of w)
all_columns-told p clearing w = columns-told p clearing (length w.state.floats.deferred) w

start-told : (p : Params) (w : Work) → Firing.start_pieces p w ≡ Seen.start_told p (Seen.seen_of w)
start-told p w =
    join (all_columns-told p false w)
    (fill-told p (Columns.all_float_columns p false w) ∙ ap (λ u. Seen.fill_told p u) (all_columns-seen p false w))

ordinary-told : (p : Params) (body : List PlainNode) (w : Work) → Firing.ordinary_pieces p body w ≡ Seen.ordinary_told p (here_lines body) (Seen.seen_of w)
ordinary-told p body w =
    join (text-told p body w)
    (start-told p (Columns.put_out_text p body w) ∙ ap (λ u. Seen.start_told p u) (text-seen p body w))

-- ---- a clear

clear_wide-told : (p : Params) (w : Work) → Firing.clear_wide_pieces p w ≡ Seen.clear_wide_told p (Seen.seen_of w)
clear_wide-told p w = by_columns w.state.two_columns w.state.first_column
  where
    v : Seen.Seen
    v = Seen.seen_of w

    u : Work
    u = with_floats (Clear.double_again p w.state.floats) w

    by_columns : (s t : Bool) → (if not s then [] else (if t then unless_over w (tales (back_tales places.Double w.state.floats.double)) ++ Firing.all_wide_pieces p true u else []))
        ≡ (if not s then [] else (if t then Seen.double_back_told v ++ Seen.all_wide_told p true (Seen.with_lists (Clear.double_again p v.floats) v) else []))
    by_columns false t = refl
    by_columns true true = ap (λ xs. Seen.double_back_told v ++ xs) (all_wide-told p true u)
    by_columns true false = refl

clear_columns-told : (p : Params) (w : Work) → Firing.clear_columns_pieces p w ≡ Seen.clear_columns_told p (Seen.seen_of w)
clear_columns-told p w =
    join (all_columns-told p true w)
    (clear_wide-told p (Columns.all_float_columns p true w) ∙ ap (λ u. Seen.clear_wide_told p u) (all_columns-seen p true w))

clear_floats-told : (p : Params) (body : List PlainNode) (w : Work) → Firing.clear_floats_pieces p body w ≡ Seen.clear_floats_told p (Seen.seen_of w)
clear_floats-told p body w =
    ap (λ xs. Seen.areas_back_told (Seen.seen_of w) ++ xs)
    (clear_columns-told p (with_floats (Clear.deferred_again w.state.floats) (puts (Clear.cleared_front p body) w)))

-- the glue that fills a page is no float
filled-here : (body : List PlainNode) → here_lines (body ++ made (skip filling_glue) ∷ []) ≡ here_lines body
filled-here [] = refl
filled-here (n ∷ ns) = ap (λ later. and_here n.kind later) (filled-here ns)

clear-told : (p : Params) (body : List PlainNode) (w : Work) →
    Firing.clear_pieces p body w ≡ (if any_notes (standing_notes (footnotes w.state)) then Seen.text_told p (here_lines body) (Seen.seen_of w) else Seen.clear_floats_told p (Seen.seen_of w))
clear-told p body w = by_notes (standing_notes (footnotes w.state))
  where
    by_notes : (ns : List Notes) → Firing.clear_pieces_by p body w ns ≡ (if any_notes ns then Seen.text_told p (here_lines body) (Seen.seen_of w) else Seen.clear_floats_told p (Seen.seen_of w))
    by_notes [] = clear_floats-told p body (Clear.without_notes w)
    by_notes (n ∷ ns) = text-told p (body ++ made (skip filling_glue) ∷ []) w ∙ ap (λ here. Seen.text_told p here (Seen.seen_of w)) (filled-here body)

-- ---- floats and notes in the text

first-told : (p : Params) (height page_height : ℤ) (es : List Entry) (s : State) (over : Bool) → Firing.first_tales p height page_height es s ≡ Seen.first_seen p height page_height es (seen_at s over)
first-told p height page_height (entries.Float f ∷ es) s over = refl
first-told p height page_height (entries.Left m ∷ es) s over = refl
first-told p height page_height (entries.Right m ∷ es) s over = refl
first-told p height page_height [] s over = refl

-- ---- the firing

-- what is told of a firing depends on what is read from its page and on what is seen alone
pub seen-firing : (p : Params) (s : State) (f : Fired) → Firing.firing_pieces p s f ≡ Seen.seen_pieces p f.penalty (here_lines f.body) (Seen.reading_of s f) (Seen.seen_of (begun (after_page s f)))
unfolding Firing.firing_pieces Seen.seen_pieces
seen-firing p s f = by_penalty (int_le eject_penalty f.penalty) (is_int f.penalty clear_penalty) (is_int f.penalty par_penalty) (is_int f.penalty vert_penalty)
  where
    w : Work
    w = begun (after_page s f)

    v : Seen.Seen
    v = Seen.seen_of w

    r : Reading
    r = Seen.reading_of s f

    at_text : Firing.text_float_pieces p f.body w ≡ Seen.text_float_told p r v
    at_text = ap tales (first-told p r.height r.page_height s.floats.current (list_back p (s.held_page ++ without_firing_box f.body) w).state false)

    by_penalty : (a b c d : Bool) →
        (if a then Firing.ordinary_pieces p f.body w else (if b then Firing.clear_pieces p f.body w else (if c then Firing.text_float_pieces p f.body w else (if d then Firing.text_float_pieces p f.body w else []))))
        ≡ (if a then Seen.ordinary_told p (here_lines f.body) v else (if b then Seen.clear_told p (here_lines f.body) r v else (if c then Seen.text_float_told p r v else (if d then Seen.text_float_told p r v else []))))
    by_penalty true b c d = ordinary-told p f.body w
    by_penalty false true c d = clear-told p f.body w
    by_penalty false false true d = at_text
    by_penalty false false false true = at_text
    by_penalty false false false false = refl
