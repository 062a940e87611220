-- A firing's columns and pages, put out one after another, keep the order of a class.
use Rattle.std.proofs.Common.{◌≡◌, refl, sym, ◌∙◌, ap, subst, ℕ, zero, suc, ◌+◌, Bool, true, false, List, [], ◌∷◌, ◌++◌, length, Option, Some, None, append_assoc, append-nil}
use Rattle.std.specs.Prelude.{not, if◌then◌else◌}
use Rattle.std.specs.List.{AllByRecursion}
use Rattle.std.proofs.lemmas.Bool.{both_ways}
use Rattle.tb_break.proofs.EachLemmas.{all-front}
use Rattle.tb_node.specs.declared.Where.TheVariants as places
use Rattle.tb_param.specs.declared.Params.{Params}
use Rattle.tb_float.specs.Lists.{FloatLists, wide_part, wide_waiting, with_wide_waiting}
use Rattle.tb_float.proofs.WaitingLemmas.{wide-waits}
use Rattle.tb_float.specs.Rooms.{column_height_of}
use Rattle.tb_area.specs.Deferred.{doubled}
use Rattle.tb_fpage.specs.declared.Wanted.{Wanted}
use Rattle.tb_fpage.specs.Company.{Choice, company, chosen_floats, left_floats}
use Rattle.tb_fpage.proofs.FirstLemmas.{company-all}
use Rattle.tb_column.specs.Column.{PlainColumn, wide_floats_column, single_floats_column, pair_rule}
use Rattle.tb_sheet.specs.Sheet.{PlainSheet, PlainSent, shipped, one, wide, pair_sheet}
use Rattle.tb_output.specs.State.{State, Work, Recorded, output, records_also, sends, with_floats}
use Rattle.tb_output.specs.Pages
use Rattle.tb_output.specs.Columns
use Rattle.tb_output.proofs.StepLaws.RefusedSteps.{by-ship}
use Rattle.tb_output.proofs.StepLaws.ColumnSteps.{no_law, put_out-step, put_out_by-step, wide_pages-step, place_double-step, float_columns-step}
use Rattle.tb_output.proofs.StepLaws.WorkSteps.{column-unrefused}
use Rattle.tb_output.proofs.ColumnPages.FillLemmas.{HasLists, fill_double-lists}
use Rattle.tb_laws.proofs.ClassesRise.RisingLists.{IsMissing}
use Rattle.tb_laws.proofs.ClassesRise.ClassLines.{FloatKind, IsReleased, wide-from, class_lines, float_lines, left_lines, sheet_lines, sent_lines, sent-append, floats_above-lines, floats_column-lines}
use Rattle.tb_laws.proofs.StepLaws.QuietLemmas.{AddsQuiet, double-added}
use Rattle.tb_laws.proofs.Closed.SparedLists.{waiting-double}
use Rattle.tb_laws.proofs.ClassesRise.SpreadLemmas.{IsBehind, Spread, no-left, left-lines, behind-missing}
use Rattle.tb_laws.proofs.ClassesRise.SpreadSteps.{recorded, shipped_alone, kept_left, shipped_pair, chosen, chosen_wide, filled_double}

-- ---- steps that no limit stops

pub records-now : (r : Recorded) (w : Work) → w.refused ≡ false → records_also r w ≡ record w { records = w.records ++ r ∷ [] }
records-now r w e = ap (λ t. if t then w else record w { records = w.records ++ r ∷ [] }) e

pub sends-now : (e : PlainSent) (w : Work) → w.refused ≡ false → sends e w ≡ record w { sent = w.sent ++ e ∷ [] }
sends-now e w h = ap (λ t. if t then w else record w { sent = w.sent ++ e ∷ [] }) h

pub ship-is : (p : Params) (sheet : PlainSheet) (w : Work) → (Pages.ship p sheet w).refused ≡ false → Pages.ship p sheet w ≡ record w { state = record w.state { page = w.state.page + 1; number = w.state.number + 1; dead_cycles = 0 }; sent = w.sent ++ shipped w.state.number sheet ∷ [] }
ship-is p sheet w ok =
    by-ship (λ v. v.refused ≡ false → v ≡ record w { state = record w.state { page = w.state.page + 1; number = w.state.number + 1; dead_cycles = 0 }; sent = w.sent ++ shipped w.state.number sheet ∷ [] }) p sheet w
    (λ r k. absurd (both_ways w.refused k r)) (λ r k. cc) (λ r e k. refl) ok

-- ---- a firing at work

module _ (k : FloatKind) (Known : ℕ → Type 0) (text takes past : List ℕ) (old : List Recorded) where
  abbrev pub InHand : List ℕ → Work → Type 0
  InHand mid w = Spread k Known text takes (past ++ sent_lines k w.sent) (old ++ w.records) mid w.state.floats w.state.two_columns w.state.first_column w.state.left_column

  ship-hand : (p : Params) (sheet : PlainSheet) (w : Work) → (Pages.ship p sheet w).refused ≡ false
      → Spread k Known text takes ((past ++ sent_lines k w.sent) ++ sheet_lines k sheet) (old ++ w.records) [] w.state.floats w.state.two_columns w.state.first_column w.state.left_column → InHand [] (Pages.ship p sheet w)
  ship-hand p sheet w ok h =
      subst (λ x. InHand [] x) (sym (ship-is p sheet w ok))
      (subst (λ b. Spread k Known text takes b (old ++ w.records) [] w.state.floats w.state.two_columns w.state.first_column w.state.left_column) (sent_more sheet w) h)
    where
      sent_more : (sheet : PlainSheet) (w : Work) → (past ++ sent_lines k w.sent) ++ sheet_lines k sheet ≡ past ++ sent_lines k (w.sent ++ shipped w.state.number sheet ∷ [])
      sent_more sheet w = append_assoc past (sent_lines k w.sent) (sheet_lines k sheet) ∙ ap (λ y. past ++ (sent_lines k w.sent ++ y)) (sym (append-nil (sheet_lines k sheet))) ∙ ap (λ y. past ++ y) (sym (sent-append k w.sent (shipped w.state.number sheet ∷ [])))

  -- ---- wide pages

  -- nothing is above the two columns that come next
  pub record IsOpen (w : Work) : Type 0 where
    pub hand : InHand [] w
    pub double : w.state.floats.double ≡ []
    pub left : left_lines k w.state.left_column ≡ []
    pub two : w.state.two_columns ≡ true

  ship_wide-open : (p : Params) (r : IsReleased k p) (z : Wanted) (cs : List Choice) (w : Work) → company z (wide_waiting p w.state.floats) ≡ Some cs → (Pages.ship_wide p cs w).refused ≡ false → IsOpen w → IsOpen (Pages.ship_wide p cs w)
  ship_wide-open p r z cs w is ok h =
      let v = with_floats (with_wide_waiting p (left_floats cs) w.state.floats) w in
      let none = waiting-double (wide_part p) (wide-waits p) (left_floats cs) w.state.floats ∙ h.double in
      let sheet = wide (wide_floats_column p p.textheight (chosen_floats cs)) in
      let e = ship-is p sheet v ok in
      let s = shipped_alone k Known text takes (past ++ sent_lines k w.sent) (float_lines k (chosen_floats cs)) (old ++ w.records) v.state.floats w.state.first_column w.state.left_column w.state.two_columns none h.left
      (chosen_wide k Known text takes (wide_part p) (wide-waits p) (wide-from k p r) (past ++ sent_lines k w.sent) (old ++ w.records) z cs w.state.floats w.state.two_columns w.state.first_column w.state.left_column is h.hand) in
      record {
        hand = ship-hand p sheet v ok (subst (λ y. Spread k Known text takes ((past ++ sent_lines k w.sent) ++ y) (old ++ w.records) [] v.state.floats w.state.two_columns w.state.first_column w.state.left_column) (sym (floats_column-lines k p.textheight p.dblfptop p.dblfpsep p.dblfpbot (chosen_floats cs))) s);
        double = ap (λ (x : Work). x.state.floats.double) e ∙ none;
        left = ap (λ (x : Work). left_lines k x.state.left_column) e ∙ h.left;
        two = ap (λ (x : Work). x.state.two_columns) e ∙ h.two;
      }

  wide_pages-open : (p : Params) (r : IsReleased k p) (clearing : Bool) (n : ℕ) (w : Work) → (Pages.wide_pages p clearing n w).refused ≡ false → IsOpen w → IsOpen (Pages.wide_pages p clearing n w)
  wide_pages-open p r clearing zero w ok h = h
  wide_pages-open p r clearing (suc n) w ok h = by_company (company (Pages.wide_wanted p clearing) (wide_waiting p w.state.floats)) refl ok (λ v x y. wide_pages-open p r clearing n v x y)
    where
      by_company : (o : Option (List Choice)) → company (Pages.wide_wanted p clearing) (wide_waiting p w.state.floats) ≡ o → (Pages.wide_pages_by (λ v. Pages.wide_pages p clearing n v) p w o).refused ≡ false
          → ((v : Work) → (Pages.wide_pages p clearing n v).refused ≡ false → IsOpen v → IsOpen (Pages.wide_pages p clearing n v)) → IsOpen (Pages.wide_pages_by (λ v. Pages.wide_pages p clearing n v) p w o)
      by_company None is ok again = h
      by_company (Some cs) is ok again =
          let v = Pages.ship_wide p cs w in
          again v ok (ship_wide-open p r (Pages.wide_wanted p clearing) cs w is (column-unrefused (wide_pages-step p (no_law p) clearing n v) ok) h)

  pub all_wide-open : (p : Params) (r : IsReleased k p) (clearing : Bool) (w : Work) → (Pages.all_wide_pages p clearing w).refused ≡ false → IsOpen w → IsOpen (Pages.all_wide_pages p clearing w)
  all_wide-open p r clearing w ok h = wide_pages-open p r clearing (length (wide_waiting p w.state.floats)) w ok h

  -- ---- a page of two columns, and what follows it

  fill_double-hand : (p : Params) (r : IsReleased k p) (w : Work) → IsOpen w → InHand [] (Pages.fill_double p w)
  fill_double-hand p r w h = lists (Pages.fill_double p w) (fill_double-lists p w) (double-added (wide_part p) p [] (wide_waiting p w.state.floats) w)
    where
      l : FloatLists
      l = doubled (wide_part p) p w.state.suppress [] (wide_waiting p w.state.floats) w.state.floats

      lists : (v : Work) → HasLists w v l → AddsQuiet w v → InHand [] v
      lists v g a =
          subst (λ (x : State). Spread k Known text takes (past ++ sent_lines k v.sent) (old ++ v.records) [] x.floats x.two_columns x.first_column x.left_column) (sym g.state)
          (subst (λ x. Spread k Known text takes (past ++ sent_lines k x) (old ++ v.records) [] l w.state.two_columns w.state.first_column w.state.left_column) (sym g.sent)
          (subst (λ x. Spread k Known text takes (past ++ sent_lines k w.sent) x [] l w.state.two_columns w.state.first_column w.state.left_column) (append_assoc old w.records a.more ∙ ap (λ x. old ++ x) (sym a.whole))
          (filled_double k Known text takes (wide_part p) (wide-waits p) (wide-from k p r) (past ++ sent_lines k w.sent) (old ++ w.records) a.more p w.state.suppress w.state.floats w.state.two_columns w.state.first_column w.state.left_column h.two h.left a.quiet h.hand)))

  ship_pair-hand : (p : Params) (r : IsReleased k p) (c : PlainColumn) (w : Work) → w.state.two_columns ≡ true → w.state.first_column ≡ false → (Pages.ship_pair p c w).refused ≡ false → InHand (class_lines k c.nodes) w → InHand [] (Pages.ship_pair p c w)
  ship_pair-hand p r c w t f ok h =
      let l = w.state.floats in
      let sheet = pair_sheet p l (Pages.left_or c w.state.left_column) c in
      let a = Pages.ship p sheet w in
      let b = Pages.without_double a in
      let d = Pages.all_wide_pages p false b in
      let d_ok = column-unrefused (place_double-step p (no_law p) (wide_part p) [] (wide_waiting p d.state.floats) d) ok in
      let b_ok = column-unrefused (wide_pages-step p (no_law p) false (length (wide_waiting p b.state.floats)) b) d_ok in
      let lines = ap (λ y. y ++ (class_lines k (Pages.left_or c w.state.left_column).nodes ++ class_lines k c.nodes)) (floats_above-lines k places.Double p.dblfloatsep (pair_rule p w.state.floats) p.dbltextfloatsep l.double)
      ∙ ap (λ y. float_lines k l.double ++ (y ++ class_lines k c.nodes)) (left-lines k w.state.two_columns w.state.first_column w.state.left_column c t f h.columns) in
      let gone = shipped_pair k Known text takes (past ++ sent_lines k w.sent) (class_lines k c.nodes) (old ++ w.records) l w.state.two_columns w.state.first_column w.state.left_column h in
      let e = ship-is p sheet w b_ok in
      fill_double-hand p r d (all_wide-open p r false b d_ok (record {
        hand = subst (λ (x : Work). InHand [] (Pages.without_double x)) (sym e) (subst (λ y. Spread k Known text takes y (old ++ w.records) [] (record l { double = [] }) w.state.two_columns true None) (more sheet w (float_lines k l.double ++ (left_lines k w.state.left_column ++ class_lines k c.nodes)) lines) gone);
        double = refl;
        left = refl;
        two = ap (λ (x : Work). x.state.two_columns) e ∙ t;
      }))
    where
      more : (sheet : PlainSheet) (w : Work) (ys : List ℕ) → sheet_lines k sheet ≡ ys → (past ++ sent_lines k w.sent) ++ ys ≡ past ++ sent_lines k (w.sent ++ shipped w.state.number sheet ∷ [])
      more sheet w ys e = append_assoc past (sent_lines k w.sent) ys ∙ ap (λ y. past ++ (sent_lines k w.sent ++ y)) (sym e ∙ sym (append-nil (sheet_lines k sheet))) ∙ ap (λ y. past ++ y) (sym (sent-append k w.sent (shipped w.state.number sheet ∷ [])))

  -- ---- a column

  -- a column that is recorded and in hand goes to its page
  pub put_out_by-hand : (p : Params) (r : IsReleased k p) (c : PlainColumn) (w : Work) → (Pages.put_out_by p c w).refused ≡ false → InHand (class_lines k c.nodes) w → InHand [] (Pages.put_out_by p c w)
  put_out_by-hand p r c w ok h = by_columns w.state.two_columns w.state.first_column refl refl ok
    where
      by_columns : (t f : Bool) → w.state.two_columns ≡ t → w.state.first_column ≡ f → (if not t then Pages.ship p (one c) w else (if f then Pages.keep_left c w else Pages.ship_pair p c w)).refused ≡ false → InHand [] (if not t then Pages.ship p (one c) w else (if f then Pages.keep_left c w else Pages.ship_pair p c w))
      by_columns false f t_is f_is ok = ship-hand p (one c) w ok (shipped_alone k Known text takes (past ++ sent_lines k w.sent) (class_lines k c.nodes) (old ++ w.records) w.state.floats w.state.first_column w.state.left_column w.state.two_columns (h.single t_is) (no-left k w.state.two_columns w.state.first_column w.state.left_column t_is h.columns) h)
      by_columns true true t_is f_is ok = kept_left k Known text takes (past ++ sent_lines k w.sent) (old ++ w.records) c w.state.floats w.state.two_columns w.state.first_column w.state.left_column t_is f_is h
      by_columns true false t_is f_is ok = ship_pair-hand p r c w t_is f_is ok h

  -- a column in hand, whose floats are none of the text, is put out
  pub put_out-hand : (p : Params) (r : IsReleased k p) (c : PlainColumn) (w : Work) → AllByRecursion (λ n. IsMissing n (class_lines k c.nodes)) text → (Pages.put_out p c w).refused ≡ false → InHand (class_lines k c.nodes) w → InHand [] (Pages.put_out p c w)
  put_out-hand p r c w apart ok h =
      let v = records_also (output c) w in
      let v_ok = column-unrefused (put_out_by-step p (no_law p) c v) ok in
      let w_ok = column-unrefused (put_out-step p (no_law p) c w) ok in
      put_out_by-hand p r c v ok (subst (λ (x : Work). InHand (class_lines k c.nodes) x) (sym (records-now (output c) w w_ok))
      (subst (λ x. Spread k Known text takes (past ++ sent_lines k w.sent) x (class_lines k c.nodes) w.state.floats w.state.two_columns w.state.first_column w.state.left_column) (append_assoc old w.records (output c ∷ []))
      (recorded k Known text takes (past ++ sent_lines k w.sent) (old ++ w.records) c w.state.floats w.state.two_columns w.state.first_column w.state.left_column apart h)))

  -- ---- columns of floats

  company-hand : (p : Params) (r : IsReleased k p) (z : Wanted) (cs : List Choice) (w : Work) → company z w.state.floats.deferred ≡ Some cs → (Columns.put_out_company p cs w).refused ≡ false → InHand [] w → InHand [] (Columns.put_out_company p cs w)
  company-hand p r z cs w is ok h =
      let c = single_floats_column p (column_height_of p w.state.floats) (chosen_floats cs) in
      let e = floats_column-lines k (column_height_of p w.state.floats) p.fptop p.fpsep p.fpbot (chosen_floats cs) in
      put_out-hand p r c (Pages.with_deferred (left_floats cs) w)
      (subst (λ y. AllByRecursion (λ n. IsMissing n y) text) (sym e) (behind-missing k text (chosen_floats cs) (company-all (IsBehind k text) z w.state.floats.deferred cs is (all-front (IsBehind k text) w.state.floats.deferred w.state.floats.second h.behind)).0)) ok
      (subst (λ y. InHand y (Pages.with_deferred (left_floats cs) w)) (sym e) (chosen k Known text takes (past ++ sent_lines k w.sent) (old ++ w.records) z cs w.state.floats w.state.two_columns w.state.first_column w.state.left_column is h))

  pub float_columns-hand : (p : Params) (r : IsReleased k p) (clearing : Bool) (n : ℕ) (w : Work) → (Columns.float_columns p clearing n w).refused ≡ false → InHand [] w → InHand [] (Columns.float_columns p clearing n w)
  float_columns-hand p r clearing zero w ok h = h
  float_columns-hand p r clearing (suc n) w ok h = by_company (company (Columns.single_wanted p w.state.floats clearing) w.state.floats.deferred) refl ok (λ v x y. float_columns-hand p r clearing n v x y)
    where
      by_company : (o : Option (List Choice)) → company (Columns.single_wanted p w.state.floats clearing) w.state.floats.deferred ≡ o → (Columns.float_columns_by (λ v. Columns.float_columns p clearing n v) p w o).refused ≡ false
          → ((v : Work) → (Columns.float_columns p clearing n v).refused ≡ false → InHand [] v → InHand [] (Columns.float_columns p clearing n v)) → InHand [] (Columns.float_columns_by (λ v. Columns.float_columns p clearing n v) p w o)
      by_company None is ok again = h
      by_company (Some cs) is ok again =
          let v = Columns.put_out_company p cs w in
          again v ok (company-hand p r (Columns.single_wanted p w.state.floats clearing) cs w is (column-unrefused (float_columns-step p (no_law p) clearing n v) ok) h)
