-- After a firing the boxes and rules of the galley are in their order in what was sent, what is kept, and what waits.
use Rattle.std.proofs.Common.{◌≡◌, refl, sym, ◌∙◌, ap, subst, ℕ, ℤ, Bool, true, false, List, [], ◌∷◌, ◌++◌, append-nil, append_assoc}
use Rattle.std.specs.Prelude.{int_le, ◌||◌, ◌&&◌, not, if◌then◌else◌}
use Rattle.std.specs.List.{AllByRecursion}
use Rattle.tb_scaled.specs.Scaled.{eject_penalty, max_dimen}
use Rattle.tb_node.specs.declared.What.TheVariants as what
use Rattle.tb_node.specs.PlainNodes.{hbox, rule, PlainKind, plain, PlainNode, without_insertions}
use Rattle.tb_param.specs.declared.Params.{Params}
use Rattle.tb_break.specs.PageTop.{pruned_nodes}
use Rattle.tb_builder.specs.FiredPages.{Fired, spent_kind, with_spent_break}
use Rattle.tb_builder.proofs.Cutting.CutLemmas.{AllCalm, AllFree, ActFree}
use Rattle.tb_float.specs.Rooms.{column_room_of}
use Rattle.tb_sheet.specs.Sheet.{warned}
use Rattle.tb_sheet.specs.declared.Warn.TheVariants as warnings
use Rattle.tb_column.specs.Column.{standing_notes}
use Rattle.tb_output.specs.State.{State, Work, begun, footnotes}
use Rattle.tb_output.specs.Columns
use Rattle.tb_output.specs.Text
use Rattle.tb_output.specs.Clear
use Rattle.tb_sheet.specs.Asked
use Rattle.tb_output.specs.Output
use Rattle.tb_laws.proofs.NothingLost.StateWeights.{Paired}
use Rattle.tb_laws.proofs.Closed.Sorts.{sorts-calm, seen_all}
use Rattle.tb_laws.proofs.Closed.SortLemmas.{none, one, BreakStands, pen_sort, sorts}
use Rattle.tb_laws.proofs.Closed.Closings.{Quiet, kind_token, tokens}
use Rattle.tb_laws.proofs.StepLaws.BreakSorts.{at-clear, at-serve, at-hold}
use Rattle.tb_laws.proofs.DeadCycles.BoxesFirst.{HasReal, one-unreal, unreal-quiet}
use Rattle.tb_laws.proofs.Closed.SparedLists.{ordinary-takes}
use Rattle.tb_laws.proofs.Closed.ServedLists.{float_or_note-serves}
use Rattle.tb_column.proofs.Within.{Within, itself, within-same, within-within, both-within, within-front, before-within}
use Rattle.tb_column.proofs.PrintedLines.{printed, prints, left_prints, prints-append, AllPlain, body-plain}
use Rattle.tb_sheet.proofs.PrintedSheets.{sent_prints}
use Rattle.tb_laws.proofs.InOrder.PrintedFirings.{shown, Fits, WorkPlain, Prints, fewer, ordinary-prints, clear_by-prints, float_or_note-prints, goal-prints}

-- ---- what the steps of a page show

what-prints : (l : ℕ) (k : PlainKind) → Quiet (kind_token k) → printed l k ≡ []
what-prints l (plain (hbox (what.Text name) h d)) q = absurd q
what-prints l (plain (rule name h d)) q = absurd q
what-prints l k q = refl

-- quiet nodes show nothing
pub quiet-prints : (ns : List PlainNode) → AllByRecursion Quiet (tokens ns) → prints ns ≡ []
quiet-prints [] q = refl
quiet-prints (n ∷ ns) q = λ i. what-prints n.line n.kind q.0 i ++ quiet-prints ns q.1 i

-- the top of a page
node-pruned : (t : ℤ) (ns : List PlainNode) → prints (pruned_nodes t ns) ≡ prints ns → (l : ℕ) (k : PlainKind) → prints (pruned_nodes t (record { line = l; kind = k } ∷ ns)) ≡ printed l k ++ prints ns
node-pruned t ns h l (plain (hbox w a d)) = refl
node-pruned t ns h l (plain (rule name a d)) = refl
node-pruned t ns h l k = h

pub pruned-prints : (t : ℤ) (ns : List PlainNode) → prints (pruned_nodes t ns) ≡ prints ns
pruned-prints t [] = refl
pruned-prints t (n ∷ ns) = node-pruned t ns (pruned-prints t ns) n.line n.kind

spent-kind : (l : ℕ) (k : PlainKind) → printed l (spent_kind k) ≡ printed l k
spent-kind l (plain (hbox w a d)) = refl
spent-kind l k = refl

pub spent-prints : (ns : List PlainNode) → prints (with_spent_break ns) ≡ prints ns
spent-prints [] = refl
spent-prints (n ∷ ns) = ap (λ z. z ++ prints ns) (spent-kind n.line n.kind)

-- ---- a firing

-- what was shown, the held page and the page's list are in what is shown, the held page and what is put back
pub record Reads (f : Fired) (w c : Work) : Type 0 where
  pub goes : c.refused ≡ false → w.refused ≡ false
  pub fit : Fits w → Fits c
  pub lines : c.refused ≡ false → Fits w → Within ((shown w ++ prints w.state.held_page) ++ prints f.body) ((shown c ++ prints c.state.held_page) ++ prints c.put_back)
  pub plain : WorkPlain w → WorkPlain c

-- lists of lines in three parts
three : (a b c x y z : List ℕ) → Within a x → Within b y → Within c z → Within ((a ++ b) ++ c) ((x ++ y) ++ z)
three a b c x y z h k l = both-within (a ++ b) (x ++ y) c z (both-within a x b y h k) l

module _ (p : Params) (calm : int_le p.interlinepenalty eject_penalty ≡ false) (f : Fired) (before : List PlainNode) (is_body : f.body ≡ without_insertions before) (calm_before : AllCalm before) (free_before : AllFree before) (b : Bool) (stands : BreakStands b (seen_all none (sorts before)) f.rest (pen_sort f.penalty)) (unreal : b ≡ true → HasReal (sorts before) → ⊥) (w : Work) (begun : w.put_back ≡ []) (free : b ≡ false → w.state.held_page ≡ []) (paired : Paired w.state.floats.current) (fits : Fits w) where
  plain_body : AllPlain f.body
  plain_body = subst AllPlain (sym is_body) (body-plain ActFree (λ a h. h) before free_before)

  no-body : (HasReal (sorts before) → ⊥) → prints f.body ≡ []
  no-body n = ap prints is_body ∙ quiet-prints (without_insertions before) (unreal-quiet before (sorts-calm before calm_before) free_before n)

  one-body : seen_all none (sorts before) ≡ one → prints f.body ≡ []
  one-body e = no-body (λ h. one-unreal (sorts before) none (sorts-calm before calm_before) e h)

  no-page : b ≡ false → prints w.state.held_page ≡ []
  no-page e = ap prints (free e)

  -- a step that shows some lines of the page's list, if that is all
  shows-all : (t : List ℕ) (c : Work) → Prints t w c → Within ((shown w ++ prints w.state.held_page) ++ prints f.body) (shown w ++ t) → Reads f w c
  shows-all t c x h = record {
    goes = x.goes;
    fit = x.fit;
    lines = λ r k. within-within ((shown w ++ prints w.state.held_page) ++ prints f.body) (shown c) ((shown c ++ prints c.state.held_page) ++ prints c.put_back) (within-within ((shown w ++ prints w.state.held_page) ++ prints f.body) (shown w ++ t) (shown c) h (x.shows r k)) (within-within (shown c) (shown c ++ prints c.state.held_page) ((shown c ++ prints c.state.held_page) ++ prints c.put_back) (within-front (shown c) (prints c.state.held_page)) (within-front (shown c ++ prints c.state.held_page) (prints c.put_back)));
    plain = x.plain;
  }

  -- a step that shows nothing of the page's list, if that shows nothing
  shows-none : (c : Work) → Prints [] w c → prints f.body ≡ [] → Within (prints w.state.held_page) (prints c.state.held_page ++ prints c.put_back) → Reads f w c
  shows-none c x e h = record {
    goes = x.goes;
    fit = x.fit;
    lines = λ r k.
        let old = shown w ++ prints w.state.held_page in
        let new = shown c ++ (prints c.state.held_page ++ prints c.put_back) in
        let g : Within (shown w) (shown c) = subst (λ l. Within l (shown c)) (append-nil (shown w)) (x.shows r k) in
        let d : Within old new = both-within (shown w) (shown c) (prints w.state.held_page) (prints c.state.held_page ++ prints c.put_back) g h in
        subst (λ l. Within (old ++ l) ((shown c ++ prints c.state.held_page) ++ prints c.put_back)) (sym e) (subst (λ l. Within l ((shown c ++ prints c.state.held_page) ++ prints c.put_back)) (sym (append-nil old)) (subst (Within old) (sym (append_assoc (shown c) (prints c.state.held_page) (prints c.put_back))) d));
    plain = x.plain;
  }

  ordinary-reads : Reads f w (Columns.ordinary p f.body w)
  ordinary-reads = by_held b refl
    where
      c : Work
      c = Columns.ordinary p f.body w

      by_held : (t : Bool) → b ≡ t → Reads f w (Columns.ordinary p f.body w)
      by_held true e = shows-none (Columns.ordinary p f.body w) (fewer [] (prints f.body) w (Columns.ordinary p f.body w) tt (ordinary-prints p f.body w plain_body)) (no-body (unreal e)) (subst (λ l. Within (prints w.state.held_page) (prints l ++ prints (Columns.ordinary p f.body w).put_back)) (sym (ordinary-takes p f.body w).page) (within-front (prints w.state.held_page) (prints (Columns.ordinary p f.body w).put_back)))
      by_held false e = shows-all (prints f.body) (Columns.ordinary p f.body w) (ordinary-prints p f.body w plain_body) (within-same ((shown w ++ prints w.state.held_page) ++ prints f.body) (shown w ++ prints f.body) (ap (λ l. (shown w ++ l) ++ prints f.body) (no-page e) ∙ ap (λ l. l ++ prints f.body) (append-nil (shown w))))

  hold-reads : int_le eject_penalty f.penalty ≡ false → Output.is_int f.penalty Asked.clear_penalty ≡ false → (Output.is_int f.penalty Asked.par_penalty || Output.is_int f.penalty Asked.vert_penalty) ≡ false → Reads f w (Output.hold f.body w)
  hold-reads h k l = at-hold (Reads f w (Output.hold f.body w)) (BreakStands b (seen_all none (sorts before)) f.rest) f.penalty h k l (λ x. held x.0) (λ x. absurd x) stands
    where
      held : b ≡ false → Reads f w (Output.hold f.body w)
      held e = record {
        goes = λ r. r;
        fit = λ h. h;
        lines = λ r k. subst (λ z. Within ((shown w ++ z) ++ prints f.body) ((shown w ++ prints f.body) ++ prints w.put_back)) (sym (no-page e)) (subst (λ z. Within (z ++ prints f.body) ((shown w ++ prints f.body) ++ prints w.put_back)) (sym (append-nil (shown w))) (within-front (shown w ++ prints f.body) (prints w.put_back)));
        plain = λ h. h;
      }

  serve-reads : (vert : Bool) → int_le eject_penalty f.penalty ≡ false → Output.is_int f.penalty Asked.clear_penalty ≡ false → (Output.is_int f.penalty Asked.par_penalty || Output.is_int f.penalty Asked.vert_penalty) ≡ true → Reads f w (Text.float_or_note p vert f.body w)
  serve-reads vert h k l = at-serve (Reads f w (Text.float_or_note p vert f.body w)) (BreakStands b (seen_all none (sorts before)) f.rest) f.penalty h k l (λ x. served x.0) stands
    where
      back : (c : Work) (ms ns : List PlainNode) → c.put_back ≡ (w.state.held_page ++ ms) ++ ns → Within (prints w.state.held_page) (prints c.state.held_page ++ prints c.put_back)
      back c ms ns e = before-within (prints c.state.held_page) (prints w.state.held_page) (prints c.put_back) (subst (Within (prints w.state.held_page)) (sym (ap prints (e ∙ append_assoc w.state.held_page ms ns) ∙ prints-append w.state.held_page (ms ++ ns))) (within-front (prints w.state.held_page) (prints (ms ++ ns))))

      served : seen_all none (sorts before) ≡ one → Reads f w (Text.float_or_note p vert f.body w)
      served e =
          let c = Text.float_or_note p vert f.body w in
          let y = float_or_note-serves p calm vert f.body w paired in
          shows-none c (float_or_note-prints p vert f.body w plain_body) (one-body e) (back c (Text.without_firing_box f.body) y.ns (y.back ∙ ap (λ l. l ++ ((w.state.held_page ++ Text.without_firing_box f.body) ++ y.ns)) begun))

  clear-reads : int_le eject_penalty f.penalty ≡ false → Output.is_int f.penalty Asked.clear_penalty ≡ true → Reads f w (Clear.clear p f.body w)
  clear-reads h k = at-clear (Reads f w (Clear.clear p f.body w)) (BreakStands b (seen_all none (sorts before)) f.rest) f.penalty h k (λ x. cleared x.0 x.1) stands
    where
      cleared : seen_all none (sorts before) ≡ one → b ≡ false → Reads f w (Clear.clear p f.body w)
      cleared e g = shows-none (Clear.clear p f.body w) (clear_by-prints p f.body w (standing_notes (footnotes w.state)) refl plain_body) (one-body e) (subst (λ l. Within l (prints (Clear.clear p f.body w).state.held_page ++ prints (Clear.clear p f.body w).put_back)) (sym (no-page g)) tt)

  pub output-reads : Reads f w (Output.output_by p f w)
  output-reads = by_penalty (int_le eject_penalty f.penalty) (Output.is_int f.penalty Asked.clear_penalty) (Output.is_int f.penalty Asked.par_penalty) (Output.is_int f.penalty Asked.vert_penalty) ordinary-reads clear-reads (serve-reads false) (serve-reads true) hold-reads
    where
      by_penalty : (t c x y : Bool) → Reads f w (Columns.ordinary p f.body w) → (t ≡ false → c ≡ true → Reads f w (Clear.clear p f.body w)) → (t ≡ false → c ≡ false → (x || y) ≡ true → Reads f w (Text.float_or_note p false f.body w)) → (t ≡ false → c ≡ false → (x || y) ≡ true → Reads f w (Text.float_or_note p true f.body w)) → (t ≡ false → c ≡ false → (x || y) ≡ false → Reads f w (Output.hold f.body w)) → Reads f w (if t then Columns.ordinary p f.body w else (if c then Clear.clear p f.body w else (if x then Text.float_or_note p false f.body w else (if y then Text.float_or_note p true f.body w else Output.hold f.body w))))
      by_penalty true c x y h i j k l = h
      by_penalty false true x y h i j k l = i refl refl
      by_penalty false false true y h i j k l = j refl refl refl
      by_penalty false false false true h i j k l = k refl refl refl
      by_penalty false false false false h i j k l = l refl refl refl

-- ---- the goal of the next page, and what waits

-- the held page is kept, and what is put back stays in front
record Tells (w c : Work) : Type 0 where
  page : c.state.held_page ≡ w.state.held_page
  more : List PlainNode
  back : c.put_back ≡ w.put_back ++ more

tells_if : (a : Work) (t : Bool) (c d : Work) → Tells a c → Tells a d → Tells a (if t then c else d)
tells_if a true c d x y = x
tells_if a false c d x y = y

with_goal-tells : (g : ℤ) (w : Work) → Tells w (Output.with_goal g w)
with_goal-tells g w = record { page = refl; more = []; back = sym (append-nil w.put_back) }

goal-tells : (p : Params) (n : ℤ) (w : Work) → Tells w (Output.next_goal p n w)
goal-tells p n w =
    tells_if w (Output.is_int n Asked.hold_penalty) (Output.with_goal max_dimen w) (Output.goal_by p (column_room_of p w.state.floats) w) (with_goal-tells max_dimen w)
    (tells_if w (Output.is_crowded p (column_room_of p w.state.floats)) (Output.leave_column w) (Output.with_goal (column_room_of p w.state.floats) w) crowded (with_goal-tells (column_room_of p w.state.floats) w))
  where
    blank : List PlainNode
    blank = if w.state.two_columns && not w.state.first_column then Output.blank_column ++ Output.blank_column else Output.blank_column

    kept : (t : Bool) → ((if t then w else record w { sent = w.sent ++ warned (warnings.Floats w.state.number) ∷ [] }).state ≡ w.state) × ((if t then w else record w { sent = w.sent ++ warned (warnings.Floats w.state.number) ∷ [] }).put_back ≡ w.put_back)
    kept true = (refl, refl)
    kept false = (refl, refl)

    crowded : Tells w (Output.leave_column w)
    crowded =
        let ns = if w.state.two_columns && not w.state.first_column then Output.blank_column ++ Output.blank_column else Output.blank_column in
        record { page = ap (λ s. s.held_page) (kept w.refused).0; more = ns; back = ap (λ l. l ++ ns) (kept w.refused).1 }

-- the boxes and rules that are kept and that wait, in the order in which they will ship
abbrev pub state_prints : State → List ℕ
state_prints s = (left_prints s.left_column ++ prints s.held_page) ++ prints s.waiting

-- what a firing sends and leaves shows what was kept, the page's list and the rest
pub record OutReads (f : Fired) (s : State) (o : Work) : Type 0 where
  pub fit : Fits o
  pub lines : o.refused ≡ false → Within ((left_prints s.left_column ++ prints s.held_page) ++ (prints f.body ++ prints f.rest)) (sent_prints o.sent ++ state_prints o.state)
  pub plain : WorkPlain o

parts-within : (L H B R S C G P W : List ℕ) → Within ((L ++ H) ++ B) (((S ++ C) ++ G) ++ P) → Within (P ++ R) W → Within ((L ++ H) ++ (B ++ R)) (S ++ ((C ++ G) ++ W))
parts-within L H B R S C G P W h k =
    let new = (S ++ C) ++ G in
    let a : Within (((L ++ H) ++ B) ++ R) ((new ++ P) ++ R) = both-within ((L ++ H) ++ B) (new ++ P) R R h (itself R) in
    let b : Within ((new ++ P) ++ R) (new ++ W) = subst (λ l. Within l (new ++ W)) (sym (append_assoc new P R)) (both-within new new (P ++ R) W (itself new) k) in
    let c : Within (((L ++ H) ++ B) ++ R) (new ++ W) = within-within (((L ++ H) ++ B) ++ R) ((new ++ P) ++ R) (new ++ W) a b in
    subst (λ l. Within l (S ++ ((C ++ G) ++ W))) (append_assoc (L ++ H) B R)
    (subst (Within (((L ++ H) ++ B) ++ R)) (ap (λ l. l ++ W) (append_assoc S C G) ∙ append_assoc S (C ++ G) W) c)

pub out-reads : (p : Params) → int_le p.interlinepenalty eject_penalty ≡ false → (st : State) (f : Fired) (before : List PlainNode) → f.body ≡ without_insertions before → AllCalm before → AllFree before → (b : Bool) → BreakStands b (seen_all none (sorts before)) f.rest (pen_sort f.penalty) → (b ≡ true → HasReal (sorts before) → ⊥) → (b ≡ false → st.held_page ≡ []) → Paired st.floats.current → Fits (begun st) → WorkPlain (begun st) → OutReads f st (Output.out p st f)
unfolding Output.out
out-reads p calm st f before is_body calm_before free_before b stands unreal free paired fits kept_plain =
    all (Output.output_by p f w) (output-reads p calm f before is_body calm_before free_before b stands unreal w refl free paired fits) (Output.next_goal p f.penalty (Output.output_by p f w)) (goal-prints p f.penalty (Output.output_by p f w)) (goal-tells p f.penalty (Output.output_by p f w))
  where
    w : Work
    w = begun (Output.after_page st f)

    all : (c : Work) → Reads f (begun (Output.after_page st f)) c → (e : Work) → Prints [] c e → Tells c e → OutReads f st (Output.waiting_again f e)
    all c x e z y = record {
      fit = z.fit (x.fit fits);
      lines = λ r. parts-within (left_prints st.left_column) (prints st.held_page) (prints f.body) (prints f.rest) (sent_prints e.sent) (left_prints e.state.left_column) (prints e.state.held_page) (prints e.put_back) (prints (f.held ++ e.put_back ++ f.rest)) (told (x.lines (z.goes r) fits) r) waits;
      plain = z.plain (x.plain kept_plain);
    }
      where
        waits : Within (prints e.put_back ++ prints f.rest) (prints (f.held ++ e.put_back ++ f.rest))
        waits = subst (Within (prints e.put_back ++ prints f.rest)) (sym (ap prints (append_assoc f.held e.put_back f.rest) ∙ prints-append f.held (e.put_back ++ f.rest))) (before-within (prints f.held) (prints e.put_back ++ prints f.rest) (prints (e.put_back ++ f.rest)) (within-same (prints e.put_back ++ prints f.rest) (prints (e.put_back ++ f.rest)) (sym (prints-append e.put_back f.rest))))

        told : Within ((left_prints st.left_column ++ prints st.held_page) ++ prints f.body) ((shown c ++ prints c.state.held_page) ++ prints c.put_back) → e.refused ≡ false → Within ((left_prints st.left_column ++ prints st.held_page) ++ prints f.body) ((shown e ++ prints e.state.held_page) ++ prints e.put_back)
        told h r = within-within ((left_prints st.left_column ++ prints st.held_page) ++ prints f.body) ((shown c ++ prints c.state.held_page) ++ prints c.put_back) ((shown e ++ prints e.state.held_page) ++ prints e.put_back) h
            (three (shown c) (prints c.state.held_page) (prints c.put_back) (shown e) (prints e.state.held_page) (prints e.put_back)
            (subst (λ l. Within l (shown e)) (append-nil (shown c)) (z.shows r (x.fit fits)))
            (within-same (prints c.state.held_page) (prints e.state.held_page) (ap prints (sym y.page)))
            (subst (Within (prints c.put_back)) (sym (ap prints y.back ∙ prints-append c.put_back y.more)) (within-front (prints c.put_back) (prints y.more))))
