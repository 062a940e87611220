-- Each step of a firing continues the work before it.
use Rattle.std.proofs.Common.{◌≡◌, refl, sym, ◌∙◌, ap, Bool, true, false, List, [], ◌∷◌, ◌++◌, append_assoc, append-nil, length, arith}
use Rattle.std.specs.Prelude.{ℕ, ℤ, ◌&&◌, not, ◌||◌, if◌then◌else◌}
use Rattle.tb_node.specs.declared.Float.{Float}
use Rattle.tb_node.specs.declared.Margin.{Margin}
use Rattle.tb_node.specs.declared.Where.{Where}
use Rattle.tb_node.specs.PlainNodes.{PlainNode}
use Rattle.tb_param.specs.declared.Params.{Params}
use Rattle.tb_builder.specs.FiredPages.{Fired}
use Rattle.tb_float.specs.declared.Entry.{Entry}
use Rattle.tb_float.specs.Lists.{FloatLists, wide_part, wide_waiting}
use Rattle.tb_fpage.specs.Company.{Choice}
use Rattle.tb_margin.specs.declared.Placed.{Placed}
use Rattle.tb_column.specs.Column.{PlainColumn}
use Rattle.tb_sheet.specs.Sheet.{PlainSheet, PlainSent, shipped, warned}
use Rattle.tb_sheet.specs.declared.Warn.TheVariants as warnings
use Rattle.tb_output.specs.State.{Work, Recorded, puts, sends, records_also, has_floats}
use Rattle.tb_output.specs.FloatMoves
use Rattle.tb_output.specs.Pages
use Rattle.tb_output.specs.Columns
use Rattle.tb_output.specs.Text
use Rattle.tb_output.specs.Clear
use Rattle.tb_output.specs.Output
use Rattle.tb_output.specs.FiringWork.{Continues}
use Rattle.tb_output.proofs.StepLaws.RefusedSteps.{unless-stopped, by-records, by-ship}
use Rattle.tb_output.proofs.StepLaws.ColumnSteps.{RecordLaw, no_law, course, ColumnStep, still, in_turn, records_one, ships_one, place_next-step, place_double-step, ship_wide-step, wide_pages-step, all_wide_pages-step, ship_pair-step, put_out_company-step, float_columns-step}
use Rattle.tb_output.proofs.StepLaws.FiringSteps.{FiringStep, by_columns, warns_one, changes, fewer, afterwards, put_out_text-step, defer-step, float_goes-step, note_goes-step, first_goes-step, clear_wide-step, output_by-step, next_goal-step}

-- what is sent, the refusal, the page, the parameters, the classes and what waits are as they were
pub continues-same : {w next : Work} → next.sent ≡ w.sent → next.refused ≡ w.refused → next.state.page ≡ w.state.page → next.state.params ≡ w.state.params → next.state.classes ≡ w.state.classes → next.state.waiting ≡ w.state.waiting → Continues w next
continues-same {w} {next} s r q p c n = record { more = []; sent = s ∙ sym (append-nil w.sent); refused = λ h. (r ∙ h, s, q); params = p; classes = c; waiting = n }

pub continues-then : {a b c : Work} → Continues a b → Continues b c → Continues a c
continues-then {a} {b} {c} x y = record {
  more = x.more ++ y.more;
  sent = y.sent ∙ ap (λ l. l ++ y.more) x.sent ∙ append_assoc a.sent x.more y.more;
  refused = λ h.
      let k : (b.refused ≡ true) × (b.sent ≡ a.sent) × (b.state.page ≡ a.state.page) = x.refused h in
      let l : (c.refused ≡ true) × (c.sent ≡ b.sent) × (c.state.page ≡ b.state.page) = y.refused k.0 in
      (l.0, l.1 ∙ k.1, l.2 ∙ k.2);
  params = y.params ∙ x.params;
  classes = y.classes ∙ x.classes;
  waiting = y.waiting ∙ x.waiting;
}

pub continues_if : (w : Work) (t : Bool) (b c : Work) → Continues w b → Continues w c → Continues w (if t then b else c)
continues_if w true b c x y = x
continues_if w false b c x y = y

-- anything follows if a work both was and was not refused
unrefused : {X : Type 0} {t : Bool} → t ≡ false → t ≡ true → X
unrefused r h = absurd (grind (arith, r, h))

pub continues-puts : (ns : List PlainNode) (w : Work) → Continues w (puts ns w)
continues-puts ns w = continues-same refl refl refl refl refl refl

pub continues-sends : (e : PlainSent) (w : Work) → Continues w (sends e w)
continues-sends e w = unless-stopped (Continues w) w (record w { sent = w.sent ++ e ∷ [] }) (λ r. continues-same refl refl refl refl refl refl) (λ r. record { more = e ∷ []; sent = refl; refused = λ h. unrefused r h; params = refl; classes = refl; waiting = refl })

pub continues-records : (r : Recorded) (w : Work) → Continues w (records_also r w)
continues-records r w = by-records (Continues w) r w (continues-same refl refl refl refl refl refl) (continues-same refl refl refl refl refl refl)

pub continues-ship : (p : Params) (sheet : PlainSheet) (w : Work) → Continues w (Pages.ship p sheet w)
continues-ship p sheet w =
    by-ship (Continues w) p sheet w (λ r. continues-same refl refl refl refl refl refl)
    (λ r. record { more = []; sent = sym (append-nil w.sent); refused = λ h. unrefused r h; params = refl; classes = refl; waiting = refl })
    (λ r e. record { more = shipped w.state.number sheet ∷ []; sent = refl; refused = λ k. unrefused r k; params = refl; classes = refl; waiting = refl })

continues-course : {w next : Work} → course next ≡ course w → Continues w next
continues-course c = continues-same (ap (λ x. x.sent) c) (ap (λ x. x.refused) c) (ap (λ x. x.page) c) (ap (λ x. x.params) c) (ap (λ x. x.classes) c) (ap (λ x. x.waiting) c)

pub column-continues : {p : Params} {law : RecordLaw p} {a b : Work} → ColumnStep p law a b → Continues a b
column-continues (still c f) = continues-course c
column-continues (in_turn x y) = continues-then (column-continues x) (column-continues y)
column-continues (records_one r w h) = continues-records r w
column-continues {p} (ships_one sheet w) = continues-ship p sheet w

pub continues : {p : Params} {law : RecordLaw p} {k : ℕ} {a b : Work} → FiringStep p law k a b → Continues a b
continues (by_columns x) = column-continues x
continues (warns_one e w) = continues-sends (warned e) w
continues (changes c) = continues-course c
continues (fewer h x) = continues x
continues (afterwards x y) = continues-then (continues x) (continues y)

-- a step that is not refused comes after no refusal
pub unrefused-before : {a b : Work} → Continues a b → b.refused ≡ false → a.refused ≡ false
unrefused-before {a} {b} x h = by_refused a.refused refl
  where
    by_refused : (t : Bool) → a.refused ≡ t → t ≡ false
    by_refused true r = unrefused h (x.refused r).0
    by_refused false r = refl

pub column-unrefused : {p : Params} {law : RecordLaw p} {a b : Work} → ColumnStep p law a b → b.refused ≡ false → a.refused ≡ false
column-unrefused x h = unrefused-before (column-continues x) h

pub firing-unrefused : {p : Params} {law : RecordLaw p} {k : ℕ} {a b : Work} → FiringStep p law k a b → b.refused ≡ false → a.refused ≡ false
firing-unrefused x h = unrefused-before (continues x) h

-- ---- floats

pub continues-place_next : (p : Params) (before fs : List Float) (w : Work) → Continues w (FloatMoves.place_next p before fs w)
continues-place_next p before fs w = column-continues (place_next-step p (no_law p) before fs w)

-- ---- pages and columns

pub continues-ship_wide : (p : Params) (cs : List Choice) (w : Work) → Continues w (Pages.ship_wide p cs w)
continues-ship_wide p cs w = column-continues (ship_wide-step p (no_law p) cs w)

pub continues-wide_pages : (p : Params) (clearing : Bool) (n : ℕ) (w : Work) → Continues w (Pages.wide_pages p clearing n w)
continues-wide_pages p clearing n w = column-continues (wide_pages-step p (no_law p) clearing n w)

pub continues-all_wide_pages : (p : Params) (clearing : Bool) (w : Work) → Continues w (Pages.all_wide_pages p clearing w)
continues-all_wide_pages p clearing w = column-continues (all_wide_pages-step p (no_law p) clearing w)

pub continues-fill_double : (p : Params) (w : Work) → Continues w (Pages.fill_double p w)
continues-fill_double p w = column-continues (place_double-step p (no_law p) (wide_part p) [] (wide_waiting p w.state.floats) w)

pub continues-ship_pair : (p : Params) (c : PlainColumn) (w : Work) → Continues w (Pages.ship_pair p c w)
continues-ship_pair p c w = column-continues (ship_pair-step p (no_law p) c w)

pub continues-after_column : (w : Work) → Continues w (Pages.after_column w)
continues-after_column w = continues-same refl refl refl refl refl refl

pub continues-put_out_text : (p : Params) (body : List PlainNode) (w : Work) → Continues w (Columns.put_out_text p body w)
continues-put_out_text p body w = continues (put_out_text-step p (no_law p) body w)

pub continues-put_out_company : (p : Params) (cs : List Choice) (w : Work) → Continues w (Columns.put_out_company p cs w)
continues-put_out_company p cs w = column-continues (put_out_company-step p (no_law p) cs w)

pub continues-float_columns : (p : Params) (clearing : Bool) (n : ℕ) (w : Work) → Continues w (Columns.float_columns p clearing n w)
continues-float_columns p clearing n w = column-continues (float_columns-step p (no_law p) clearing n w)

pub continues-all_float_columns : (p : Params) (clearing : Bool) (w : Work) → Continues w (Columns.all_float_columns p clearing w)
continues-all_float_columns p clearing w = continues-float_columns p clearing (length w.state.floats.deferred) w

pub continues-fill_column : (p : Params) (w : Work) → Continues w (Columns.fill_column p w)
continues-fill_column p w = continues-place_next p [] w.state.floats.deferred w

-- ---- floats and notes in the text

pub continues-puts_interline : (p : Params) (nobreak : Bool) (w : Work) → Continues w (Text.puts_interline p nobreak w)
continues-puts_interline p nobreak w = continues-same refl refl refl refl refl refl

pub continues-list_back : (p : Params) (ns : List PlainNode) (w : Work) → Continues w (Text.list_back p ns w)
continues-list_back p ns w = continues-same refl refl refl refl refl refl

pub continues-defer : (p : Params) (f : Float) (left : FloatLists) (w : Work) → Continues w (Text.defer p f left w)
continues-defer p f left w = continues (defer-step p (no_law p) f left w)

pub continues-float_goes : (p : Params) (vert : Bool) (f : Float) (left : FloatLists) (w : Work) (place : Where) → Continues w (Text.float_goes p vert f left w place)
continues-float_goes p vert f left w place = continues (float_goes-step p (no_law p) vert f left w place tt)

pub continues-note_goes : (p : Params) (depth : ℤ) (m : Margin) (left : FloatLists) (w : Work) (at : Placed) → Continues w (Text.note_goes p depth m left w at)
continues-note_goes p depth m left w at = continues (note_goes-step p (no_law p) depth m left w at)

pub continues-first_goes : (p : Params) (vert : Bool) (height depth page_height : ℤ) (es : List Entry) (w : Work) → Continues w (Text.first_goes p vert height depth page_height es w)
continues-first_goes p vert height depth page_height es w = continues (first_goes-step p (no_law p) vert height depth page_height es w)

-- ---- a clear

pub continues-clear_wide : (p : Params) (w : Work) → Continues w (Clear.clear_wide p w)
continues-clear_wide p w = continues (clear_wide-step p (no_law p) w)

pub continues-clear_rest : (w : Work) → Continues w (Clear.clear_rest w)
continues-clear_rest w = continues_if w (has_floats w.state.floats.deferred || has_floats w.state.floats.second) (puts Clear.clear_again w) w (continues-puts Clear.clear_again w) (continues-same refl refl refl refl refl refl)

-- ---- a firing

pub continues-output_by : (p : Params) (f : Fired) (w : Work) → Continues w (Output.output_by p f w)
continues-output_by p f w = continues (output_by-step p (no_law p) f w)

pub continues-leave_column : (w : Work) → Continues w (Output.leave_column w)
continues-leave_column w =
    continues-then (continues-sends (warned (warnings.Floats w.state.number)) w) (continues-puts (if w.state.two_columns && not w.state.first_column then Output.blank_column ++ Output.blank_column else Output.blank_column) _)

pub continues-next_goal : (p : Params) (n : ℤ) (w : Work) → Continues w (Output.next_goal p n w)
continues-next_goal p n w = continues (next_goal-step p (no_law p) n w)
