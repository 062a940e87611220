-- A step of a run puts out few sheets: two for each page up to the page limit at most, and four more.
use Rattle.std.proofs.Common.{◌≡◌, refl, sym, subst, ap, ◌∙◌, ℕ, zero, suc, ◌+◌, ◌-◌, ◌*◌, ◌≤◌, ℤ, pos, negsuc, Bool, true, false, List, [], ◌∷◌, ◌++◌, map, length, Option, Some, None, arith}
use Rattle.std.specs.Prelude.{nat_abs, not, int_le, int_lt, drop, if◌then◌else◌}
use Rattle.std.proofs.lemmas.Int.{ints}
use Rattle.tb_scaled.specs.Scaled.{awful_bad, eject_penalty}
use Rattle.tb_node.specs.declared.Float.{Float}
use Rattle.tb_node.specs.declared.Where.TheVariants as places
use Rattle.tb_node.specs.declared.Act.{Act}
use Rattle.tb_param.specs.declared.Params.{Params}
use Rattle.tb_builder.specs.declared.Ask.{Ask}
use Rattle.tb_builder.specs.FiredPages.{Fired, reach_of, fired_of}
use Rattle.tb_builder.specs.Reach.{Reached, Reach}
use Rattle.tb_float.specs.declared.Entry.{Entry}
use Rattle.tb_float.specs.declared.Entry.TheVariants as entries
use Rattle.tb_float.specs.declared.Part.{Part}
use Rattle.tb_float.specs.declared.Suppress.{Suppress}
use Rattle.tb_float.specs.Lists.{FloatLists, wide_part, wide_waiting, with_wide_waiting}
use Rattle.tb_area.specs.Area.{next_area_place, goes_double}
use Rattle.tb_area.specs.Deferred.{gone_to, still_before, gone_double, still_single}
use Rattle.tb_fpage.specs.declared.Wanted.{Wanted}
use Rattle.tb_fpage.specs.Company.{Choice, left_floats}
use Rattle.tb_sheet.specs.Asked.{clear_penalty, par_penalty, vert_penalty}
use Rattle.tb_sheet.specs.Sheet.{PlainSent}
use Rattle.tb_sheet.specs.declared.Warn.{Warn}
use Rattle.tb_output.specs.declared.reading.Reading.{Reading}
use Rattle.tb_output.specs.State.{State, Recorded, begun}
use Rattle.tb_output.specs.Pages.{wide_wanted}
use Rattle.tb_output.specs.Columns.{single_wanted}
use Rattle.tb_output.specs.Clear.{deferred_again, double_again}
use Rattle.tb_output.specs.Output.{is_int, after_page, out}
use Rattle.tb_items.specs.RunEvents.{RunEvent}
use Rattle.tb_steps.specs.Run.{Progress, progress, ask_for}
use Rattle.tb_steps.proofs.RunTree.{ActMove, sets_parameter, page-is}
use Rattle.tb_steps.proofs.RunFolds.{nothing_shown, PageLaw, progress-holds}
use Rattle.tb_told.specs.declared.Spot.{Spot}
use Rattle.tb_told.specs.declared.Tale.{Tale}
use Rattle.tb_told.specs.declared.Tale.TheVariants.{Waits, Decides, Begins, InColumn, Back, Stands, PutOut}
use Rattle.tb_told.specs.declared.Piece.{Piece}
use Rattle.tb_told.specs.declared.Piece.TheVariants.{Says, NextSent}
use Rattle.tb_told.specs.AreaTold.{told_call, told_next, told_wide}
use Rattle.tb_told.specs.ColumnTold.{told_column}
use Rattle.tb_told.specs.Filled.{filled_pieces, none_suppressed, doubled_pieces}
use Rattle.tb_told.specs.Tales.{tales, decisions, has_width, column_tales, here_lines}
use Rattle.tb_why.specs.Firing.{firing_pieces, spot_of, all_sent, woven}
use Rattle.tb_why.specs.WhyRun.{Shown, tells, all_happen, all_shown, wait_tales, firing_shown, fired_shown, step_shown}
use Rattle.tb_why.specs.SummaryLaws.{sheets_after, sheets_of}
use Rattle.tb_why.specs.Seen
use Rattle.tb_why.proofs.SeenLemmas.{seen-firing}

-- ---- the sheets that are put out among pieces

abbrev put_in : Piece → ℕ
put_in (Says PutOut) = 1
put_in q = 0

abbrev put_among : List Piece → ℕ
put_among [] = 0
put_among (q ∷ ps) = put_in q + put_among ps

put-join : (ps qs : List Piece) → put_among (ps ++ qs) ≡ put_among ps + put_among qs
put-join [] qs = omega arith
put-join (q ∷ ps) qs = let e = put-join ps qs in omega (arith, e)

-- tales none of which puts out a sheet
none-mapped : {X : Type 0} (c : X → Tale) → ((x : X) → put_in (Says (c x)) ≡ 0) → (xs : List X) → put_among (tales (map c xs)) ≡ 0
none-mapped c none [] = refl
none-mapped c none (x ∷ xs) = let a = none x in let b = none-mapped c none xs in omega (arith, a, b)

none-both : (ts us : List Tale) → put_among (tales ts) ≡ 0 → put_among (tales us) ≡ 0 → put_among (tales (ts ++ us)) ≡ 0
none-both [] us a b = b
none-both (t ∷ ts) us a b = let c = none-both ts us (omega (arith, a)) b in omega (arith, a, c)

none-column : (at : Spot) (z : Wanted) (fs : List Float) → put_among (tales (column_tales at z fs)) ≡ 0
none-column at z fs = by_width (has_width z.wide fs)
  where
    by_width : (t : Bool) → put_among (tales (if t then Begins at z ∷ map (λ x. InColumn x) (told_column z fs) else [])) ≡ 0
    by_width true = let e = none-mapped (λ x. InColumn x) (λ x. refl) (told_column z fs) in omega (arith, e)
    by_width false = refl

none-filled : (p : Params) (s : Suppress) (before fs : List Float) (l : FloatLists) → put_among (filled_pieces p s before fs l) ≡ 0
none-filled p s before [] l = refl
none-filled p s before (f ∷ rest) l =
    let place = next_area_place p l s before f in
    let a = none-mapped (λ x. Decides f x) (λ x. refl) (told_next p l s before f) in
    let b = none-filled p s (still_before place f before) rest (gone_to place f before rest l) in
    let e = put-join (tales (decisions f (told_next p l s before f))) (filled_pieces p s (still_before place f before) rest (gone_to place f before rest l)) in
    omega (arith, a, b, e)

none-doubled : (from : Part) (p : Params) (before fs : List Float) (l : FloatLists) → put_among (doubled_pieces from p before fs l) ≡ 0
none-doubled from p before [] l = refl
none-doubled from p before (f ∷ rest) l =
    let goes = goes_double p l none_suppressed before f in
    let a = none-mapped (λ x. Decides f x) (λ x. refl) (told_wide p l none_suppressed before f) in
    let b = none-doubled from p (still_single goes f before) rest (gone_double from goes f before rest l) in
    let e = put-join (tales (decisions f (told_wide p l none_suppressed before f))) (doubled_pieces from p (still_single goes f before) rest (gone_double from goes f before rest l)) in
    omega (arith, a, b, e)

none-unless : (over : Bool) (ps : List Piece) → put_among ps ≡ 0 → put_among (Seen.told_unless over ps) ≡ 0
none-unless true ps e = refl
none-unless false ps e = e

-- ---- the sheets that may still be put out

-- a page up to the limit
up-to : (n : ℕ) (limit : ℤ) → int_lt limit (pos n) ≡ false → n ≤ nat_abs limit
up-to n (pos m) e = grind (arith, ints, e)
up-to n (negsuc m) e = cc

module _ (p : Params) where
  -- for the page that is made: one at its second column, else two
  abbrev left_of_page : Bool → Bool → ℕ
  left_of_page true false = 1
  left_of_page two first = 2

  -- and two for each page after it; none once the limit was met
  abbrev left_at : Bool → ℕ → Bool → Bool → ℕ
  left_at true page two first = 0
  left_at false page two first = 2 * (nat_abs p.maxpages + 1 - page) + left_of_page two first

  abbrev left : Seen.Seen → ℕ
  left v = left_at v.over v.page v.two_columns v.first_column

  some-left : (two first : Bool) → 1 ≤ left_of_page two first
  some-left true true = omega arith
  some-left true false = omega arith
  some-left false first = omega arith

  -- what is put out on the way from one to the other is no longer left
  record Spends (v u : Seen.Seen) (ps : List Piece) : Type 0 where
    few : put_among ps + left u ≤ left v

  rests : (v u : Seen.Seen) (ps : List Piece) → put_among ps ≡ 0 → left u ≡ left v → Spends v u ps
  rests v u ps none same = record { few = omega (arith, none, same) }

  joins : {v u w : Seen.Seen} (ps qs : List Piece) → Spends v u ps → Spends u w qs → Spends v w (ps ++ qs)
  joins ps qs a b = let e = put-join ps qs in let x = a.few in let y = b.few in record { few = omega (arith, e, x, y) }

  joins-third : {v u w : Seen.Seen} (ps qs rs : List Piece) → Spends v u (ps ++ qs) → Spends u w rs → Spends v w (ps ++ (qs ++ rs))
  joins-third ps qs rs a b =
      let d = put-join ps qs in let e = put-join ps (qs ++ rs) in let f = put-join qs rs in let x = a.few in let y = b.few in
      record { few = omega (arith, d, e, f, x, y) }

  -- ---- a page is shipped

  -- with these in place of its own
  abbrev seen_with : Seen.Seen → Bool → Bool → Bool → Seen.Seen
  seen_with v over two first = record v { over = over; two_columns = two; first_column = first }

  ships : (v : Seen.Seen) (over two first : Bool) →
      Spends (seen_with v over two first) (Seen.ship_seen p (seen_with v over two first)) (Seen.put_told (seen_with v over two first) ++ Seen.ship_told p (seen_with v over two first))
  ships v true two first = record { few = omega arith }
  ships v false two first = by_limit (int_lt p.maxpages (pos v.page)) refl
    where
      u : Seen.Seen
      u = seen_with v false two first

      by_limit : (t : Bool) → int_lt p.maxpages (pos v.page) ≡ t →
          Spends u (if t then record u { over = true } else record u { page = v.page + 1; number = v.number + 1 }) (Says PutOut ∷ (if t then [] else NextSent ∷ []))
      by_limit true e = let k = some-left two first in record { few = omega (arith, k) }
      by_limit false e = let k = up-to v.page p.maxpages e in record { few = omega (arith, k) }

  -- with the second of two columns
  ships-pair : (v : Seen.Seen) (over : Bool) →
      Spends (seen_with v over true false) (Seen.without_double_seen (Seen.ship_seen p (seen_with v over true false))) (Seen.put_told (seen_with v over true false) ++ Seen.ship_told p (seen_with v over true false))
  ships-pair v true = record { few = omega arith }
  ships-pair v false = by_limit (int_lt p.maxpages (pos v.page)) refl
    where
      u : Seen.Seen
      u = seen_with v false true false

      by_limit : (t : Bool) → int_lt p.maxpages (pos v.page) ≡ t →
          Spends u (Seen.without_double_seen (if t then record u { over = true } else record u { page = v.page + 1; number = v.number + 1 })) (Says PutOut ∷ (if t then [] else NextSent ∷ []))
      by_limit true e = record { few = omega arith }
      by_limit false e = let k = up-to v.page p.maxpages e in record { few = omega (arith, k) }

  -- ---- columns and wide pages

  wides : (clearing : Bool) (n : ℕ) (v : Seen.Seen) → Spends v (Seen.wide_seen p clearing n v) (Seen.wide_told p clearing n v)
  wides clearing zero v = rests v v [] refl refl
  wides clearing (suc n) v =
      joins (Seen.wide_looked_told p clearing v) _ (rests v v _ (none-unless v.over _ (none-column (Seen.spot_seen v) (wide_wanted p clearing) (wide_waiting p v.floats))) refl) (by_company (λ u. wides clearing n u) (Seen.wide_company p clearing v))
    where
      by_company : ((u : Seen.Seen) → Spends u (Seen.wide_seen p clearing n u) (Seen.wide_told p clearing n u)) → (o : Option (List Choice)) → Spends v (Seen.wide_seen_by (λ u. Seen.wide_seen p clearing n u) p v o) (Seen.wide_told_by (λ u. Seen.wide_told p clearing n u) p v o)
      by_company again None = rests v v [] refl refl
      by_company again (Some cs) =
          let u = Seen.wide_page_seen p cs v in
          let page = ships (Seen.with_lists (with_wide_waiting p (left_floats cs) v.floats) v) v.over v.two_columns v.first_column in
          joins-third {v = v} {u = u} (Seen.put_told v) (Seen.ship_told p v) _ (record { few = page.few }) (again u)

  all-wides : (clearing : Bool) (v : Seen.Seen) → Spends v (Seen.all_wide_seen p clearing v) (Seen.all_wide_told p clearing v)
  all-wides clearing v = wides clearing (length (wide_waiting p v.floats)) v

  after-pair : (v : Seen.Seen) → Spends v (Seen.fill_double_seen p (Seen.all_wide_seen p false v)) (Seen.after_pair_told p v)
  after-pair v =
      let u = Seen.all_wide_seen p false v in
      joins (Seen.all_wide_told p false v) (Seen.fill_double_told p u) (all-wides false v)
      (rests u (Seen.fill_double_seen p u) _ (none-unless u.over _ (none-doubled (wide_part p) p [] (wide_waiting p u.floats) u.floats)) refl)

  puts-out : (v : Seen.Seen) → Spends v (Seen.put_out_seen p v) (Seen.put_out_told p v)
  puts-out v = by_columns v.two_columns v.first_column v.over
    where
      by_columns : (two first over : Bool) → Spends (seen_with v over two first) (Seen.put_out_seen p (seen_with v over two first)) (Seen.put_out_told p (seen_with v over two first))
      by_columns false first over = record { few = (ships v over false first).few }
      by_columns true true true = record { few = omega arith }
      by_columns true true false = record { few = omega arith }
      by_columns true false over =
          let u = seen_with v over true false in
          record { few = (joins-third (Seen.put_told u) (Seen.ship_told p u) _ (ships-pair v over) (after-pair (Seen.without_double_seen (Seen.ship_seen p u)))).few }

  texts : (here : List ℕ) (v : Seen.Seen) → Spends v (Seen.text_seen p v) (Seen.text_told p here v)
  texts here v =
      joins (Seen.stands_told here v) _ (rests v (Seen.without_column_seen v) _ (none-unless v.over _ (none-mapped (λ l. Stands l) (λ l. refl) here)) refl)
      (puts-out (Seen.without_column_seen v))

  floats : (clearing : Bool) (n : ℕ) (v : Seen.Seen) → Spends v (Seen.float_seen p clearing n v) (Seen.float_told p clearing n v)
  floats clearing zero v = rests v v [] refl refl
  floats clearing (suc n) v =
      joins (Seen.column_looked_told p clearing v) _ (rests v v _ (none-unless v.over _ (none-column (Seen.spot_seen v) (single_wanted p v.floats clearing) v.floats.deferred)) refl) (by_company (λ u. floats clearing n u) (Seen.column_company p clearing v))
    where
      by_company : ((u : Seen.Seen) → Spends u (Seen.float_seen p clearing n u) (Seen.float_told p clearing n u)) → (o : Option (List Choice)) → Spends v (Seen.float_seen_by (λ u. Seen.float_seen p clearing n u) p v o) (Seen.float_told_by (λ u. Seen.float_told p clearing n u) p v o)
      by_company again None = rests v v [] refl refl
      by_company again (Some cs) =
          let u = Seen.without_company_seen cs v in
          joins {v = v} {u = Seen.put_out_seen p u} (Seen.put_out_told p u) _ (record { few = (puts-out u).few }) (again (Seen.put_out_seen p u))

  all-floats : (clearing : Bool) (v : Seen.Seen) → Spends v (Seen.all_float_seen p clearing v) (Seen.all_float_told p clearing v)
  all-floats clearing v = floats clearing (length v.floats.deferred) v

  -- ---- a firing

  fills : (v : Seen.Seen) → Spends v v (Seen.fill_told p v)
  fills v = rests v v _ (none-unless v.over _ (none-filled p v.suppress [] v.floats.deferred v.floats)) refl

  fewer : {v u : Seen.Seen} (ps : List Piece) → Spends v u ps → put_among ps ≤ left v
  fewer ps a = let x = a.few in omega (arith, x)

  ordinary-few : (here : List ℕ) (v : Seen.Seen) → put_among (Seen.ordinary_told p here v) ≤ left v
  ordinary-few here v =
      let u = Seen.text_seen p v in
      fewer (Seen.ordinary_told p here v)
      (joins (Seen.text_told p here v) (Seen.start_told p u) (texts here v)
      (joins (Seen.all_float_told p false u) _ (all-floats false u) (fills (Seen.all_float_seen p false u))))

  clear-floats : (v : Seen.Seen) → put_among (Seen.clear_floats_told p v) ≤ left v
  clear-floats v = fewer (Seen.clear_floats_told p v) (joins (Seen.areas_back_told v) _ back (joins (Seen.all_float_told p true u) _ (all-floats true u) (wide_again w.two_columns w.first_column)))
    where
      u : Seen.Seen
      u = Seen.with_lists (deferred_again v.floats) v

      w : Seen.Seen
      w = Seen.all_float_seen p true u

      back : Spends v u (Seen.areas_back_told v)
      back =
          let a = none-mapped (λ f. Back f places.Top) (λ f. refl) v.floats.top in
          let b = none-mapped (λ f. Back f places.Bottom) (λ f. refl) v.floats.bottom in
          rests v u _ (none-unless v.over _ (none-both _ _ a b)) refl

      -- where it leads is not asked
      after : Bool → Bool → Seen.Seen
      after two first = if not two then w else (if first then Seen.all_wide_seen p true (Seen.with_lists (double_again p w.floats) w) else w)

      wide_again : (two first : Bool) → Spends w (after two first) (if not two then [] else (if first then Seen.double_back_told w ++ Seen.all_wide_told p true (Seen.with_lists (double_again p w.floats) w) else []))
      wide_again false first = rests w w [] refl refl
      wide_again true false = rests w w [] refl refl
      wide_again true true =
          let x = Seen.with_lists (double_again p w.floats) w in
          joins (Seen.double_back_told w) _ (rests w x _ (none-unless w.over _ (none-mapped (λ f. Back f places.Double) (λ f. refl) w.floats.double)) refl) (all-wides true x)

  clear-few : (here : List ℕ) (r : Reading) (v : Seen.Seen) → put_among (Seen.clear_told p here r v) ≤ left v
  clear-few here r v = by_notes r.has_notes
    where
      by_notes : (t : Bool) → put_among (if t then Seen.text_told p here v else Seen.clear_floats_told p v) ≤ left v
      by_notes true = fewer (Seen.text_told p here v) (texts here v)
      by_notes false = clear-floats v

  none-first : (height page_height : ℤ) (es : List Entry) (v : Seen.Seen) → put_among (tales (Seen.first_seen p height page_height es v)) ≡ 0
  none-first height page_height (entries.Float f ∷ es) v = let e = none-mapped (λ x. Decides f x) (λ x. refl) (told_call p v.floats v.suppress page_height f) in omega (arith, e)
  none-first height page_height (entries.Left m ∷ es) v = refl
  none-first height page_height (entries.Right m ∷ es) v = refl
  none-first height page_height [] v = refl

  text-float : (r : Reading) (v : Seen.Seen) → put_among (Seen.text_float_told p r v) ≤ left v
  text-float r v = let e = none-unless v.over _ (none-first r.height r.page_height v.floats.current v) in omega (arith, e)

  seen-few : (penalty : ℤ) (here : List ℕ) (r : Reading) (v : Seen.Seen) → put_among (Seen.seen_pieces p penalty here r v) ≤ left v
  unfolding Seen.seen_pieces
  seen-few penalty here r v = by_penalty (int_le eject_penalty penalty) (is_int penalty clear_penalty) (is_int penalty par_penalty) (is_int penalty vert_penalty)
    where
      by_penalty : (a b c d : Bool) →
          put_among (if a then Seen.ordinary_told p here v else (if b then Seen.clear_told p here r v else (if c then Seen.text_float_told p r v else (if d then Seen.text_float_told p r v else [])))) ≤ left v
      by_penalty true b c d = ordinary-few here v
      by_penalty false true c d = clear-few here r v
      by_penalty false false true d = text-float r v
      by_penalty false false false true = text-float r v
      by_penalty false false false false = omega arith

  most-left : (page : ℕ) (two first : Bool) → left_at false page two first ≤ 2 * nat_abs p.maxpages + 4
  most-left page true true = omega arith
  most-left page true false = omega arith
  most-left page false first = omega arith

  firing-few : (s : State) (f : Fired) → put_among (firing_pieces p s f) ≤ 2 * nat_abs p.maxpages + 4
  firing-few s f =
      let v = Seen.seen_of (begun (after_page s f)) in
      let few = seen-few f.penalty (here_lines f.body) (Seen.reading_of s f) v in
      let most = most-left v.page v.two_columns v.first_column in
      let e = ap put_among (seen-firing p s f) in
      omega (arith, few, most, e)

-- ---- the sheets among what is shown

sheets-join : (n : ℕ) (xs ys : List Shown) → sheets_of n (xs ++ ys) ≡ sheets_of (sheets_of n xs) ys
sheets-join n [] ys = refl
sheets-join n (x ∷ xs) ys = sheets-join (sheets_after x n) xs ys

-- there are no fewer later on
pub sheets-rise : (n : ℕ) (xs : List Shown) → n ≤ sheets_of n xs
sheets-rise n [] = omega arith
sheets-rise n (x ∷ xs) = let a = after-rises x in let b = sheets-rise (sheets_after x n) xs in omega (arith, a, b)
  where
    after-rises : (y : Shown) → n ≤ sheets_after y n
    after-rises (tells PutOut) = omega arith
    after-rises y = omega arith

happen-sheets : (n : ℕ) (es : List RunEvent) → sheets_of n (all_happen es) ≡ n
happen-sheets n [] = refl
happen-sheets n (e ∷ es) = happen-sheets n es

sent-sheets : (n : ℕ) (es : List PlainSent) → sheets_of n (all_shown (all_sent es)) ≡ n
sent-sheets n [] = refl
sent-sheets n (e ∷ es) = sent-sheets n es

wait-sheets : (n : ℕ) (s : State) (fs : List Float) → sheets_of n (map (λ f. tells (Waits (spot_of s) f)) fs) ≡ n
wait-sheets n s [] = refl
wait-sheets n s (f ∷ fs) = wait-sheets n s fs

tale-sheets : (n : ℕ) (t : Tale) → sheets_after (tells t) n ≡ n + put_in (Says t)
tale-sheets n PutOut = refl
tale-sheets n t = omega arith

woven-sheets : (n : ℕ) (ps : List Piece) (es : List PlainSent) → sheets_of n (all_shown (woven ps es)) ≡ n + put_among ps
woven-sheets n [] es = sent-sheets n es ∙ (omega arith)
woven-sheets n (Says t ∷ ps) es = let a = tale-sheets n t in let b = woven-sheets (sheets_after (tells t) n) ps es in omega (arith, a, b)
woven-sheets n (NextSent ∷ ps) [] = let a = woven-sheets n ps [] in omega (arith, a)
woven-sheets n (NextSent ∷ ps) (e ∷ es) = let a = woven-sheets n ps es in omega (arith, a)

-- ---- a step

-- the page limit is a parameter of the whole galley: no act changes it
act-limit : {k : ℤ} {s t : State} {a : Act} {ws : List Warn} {rs : List Recorded} → ActMove s.params s a t ws rs → s.params.maxpages ≡ k → t.params.maxpages ≡ k
act-limit (sets_parameter c) e = e
act-limit m e = e

abbrev keeps_limit : ℤ → PageLaw
keeps_limit k = record {
  shows = nothing_shown;
  holds = λ rs s. s.params.maxpages ≡ k;
  tries = λ line b least rs s e. (tt, e);
  acts = λ s t a ws records rs m e. (tt, act-limit m e);
}

page-limit : (rs : List Reached) (least : ℤ) (s : State) → (progress rs least s).state.params.maxpages ≡ s.params.maxpages
page-limit rs least s = (progress-holds (keeps_limit s.params.maxpages) (page-is rs least s) refl).1.1

-- a step puts out few sheets
pub step-few : (s : State) (n : ℕ) → sheets_of n (step_shown s) ≤ n + (2 * nat_abs s.params.maxpages + 4)
unfolding step_shown
step-few s n =
    let made = ask_for s in
    let w = reach_of made s.classes s.boxes [] s.waiting in
    let q = progress w.reached awful_bad s in
    let fired = by_fault made w q (page-limit w.reached awful_bad s) q.fault in
    let events = all_happen q.events in
    let waits = wait_tales s q.state in
    let a = sheets-join n events (waits ++ fired_shown made w q q.fault) in
    let b = sheets-join n waits (fired_shown made w q q.fault) in
    let c = happen-sheets n q.events in
    let d = wait-sheets n q.state (drop (length s.floats.second) q.state.floats.second) in
    subst (λ k. k ≤ n + (2 * nat_abs s.params.maxpages + 4)) (sym (a ∙ ap (λ k. sheets_of k (waits ++ fired_shown made w q q.fault)) c ∙ b ∙ ap (λ k. sheets_of k (fired_shown made w q q.fault)) d)) fired
  where
    allowed : (t : Bool) (u : State) (f : Fired) → sheets_of n (if t then all_shown (woven (firing_pieces u.params u f) (out u.params u f).sent) else []) ≤ n + (2 * nat_abs u.params.maxpages + 4)
    allowed true u f = let e = woven-sheets n (firing_pieces u.params u f) (out u.params u f).sent in let few = firing-few u.params u f in omega (arith, e, few)
    allowed false u f = omega arith

    by_fires : (t : Bool) (u : State) (f : Fired) → sheets_of n (if t then firing_shown u f else []) ≤ n + (2 * nat_abs u.params.maxpages + 4)
    by_fires true u f = allowed (int_lt (pos u.dead_cycles) u.params.maxdeadcycles) u f
    by_fires false u f = omega arith

    by_fault : (a : Ask) (w : Reach) (q : Progress) → q.state.params.maxpages ≡ s.params.maxpages → (o : Option (ℕ × ℕ)) → sheets_of n (fired_shown a w q o) ≤ n + (2 * nat_abs s.params.maxpages + 4)
    by_fault a w q e None = subst (λ k. sheets_of n (fired_shown a w q None) ≤ n + (2 * nat_abs k + 4)) e (by_fires w.fires q.state (fired_of a q.state.classes q.state.boxes w))
    by_fault a w q e (Some f) = omega arith
