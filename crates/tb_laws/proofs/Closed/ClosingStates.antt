-- What holds between two firings of what waits and of the float lists: floats and notes that were taken are owed a firing,
-- and if nothing came since a clear nothing is kept.
use Rattle.std.proofs.Common.{◌≡◌, refl, sym, ◌∙◌, ap, subst, ℕ, ◌+◌, ◌≤◌, ◌⊎◌, inl, inr, ℤ, Bool, true, false, List, [], ◌∷◌, ◌++◌, arith, append-nil, append_assoc}
use Rattle.std.specs.Prelude.{int_le, ◌&&◌, not, if◌then◌else◌}
use Rattle.std.specs.List.{AllByRecursion}
use Rattle.tb_scaled.specs.Scaled.{eject_penalty, max_dimen}
use Rattle.tb_node.specs.PlainNodes.{PlainKind, plain, ins, act, PlainNode, without_insertions}
use Rattle.tb_node.proofs.Weights.{Weight, nodes_weight}
use Rattle.tb_param.specs.declared.Params.{Params}
use Rattle.tb_param.specs.Release.{has_second}
use Rattle.tb_builder.specs.FiredPages.{Fired}
use Rattle.tb_builder.proofs.FiredPages.PageWeights.{boxes_weight}
use Rattle.tb_builder.proofs.Cutting.CutLemmas.{AllCalm, AllFree, IsIns, AllIns}
use Rattle.tb_float.specs.Rooms.{column_room_of}
use Rattle.tb_sheet.specs.Sheet.{PlainSent, warned}
use Rattle.tb_sheet.specs.declared.Warn.TheVariants as warnings
use Rattle.tb_column.specs.Column.{standing_notes}
use Rattle.tb_output.specs.State.{State, Work, begun, puts, sends, notes_in}
use Rattle.tb_output.specs.Output
use Rattle.tb_output.specs.Clear
use Rattle.tb_sheet.specs.Asked
use Rattle.tb_laws.proofs.NothingLost.StateWeights.{BoxesFit, Paired, ColumnsFit, lists_weight, left_weight}
use Rattle.tb_laws.proofs.NothingLost.PutOutWeights.{emptied-weight}
use Rattle.tb_laws.proofs.Closed.Sorts.{seen_all}
use Rattle.tb_laws.proofs.Closed.SortLemmas.{Sort, none, Steady, BreakStands, pen_sort, kind_sort, sorts, sorts-append}
use Rattle.tb_laws.proofs.Closed.PlaceLemmas.{AllSteady}
use Rattle.tb_laws.proofs.Closed.Closings.{Ways, Token, Closes, Quiet, quiet-between, harmless-between, tokens, tokens-append, steady-harmless}
use Rattle.tb_laws.proofs.Closed.ClosingPages.{BreakCloses}
use Rattle.tb_laws.proofs.DeadCycles.BoxesFirst.{RealFirst, HasReal, BreakReal, steady-then}
use Rattle.tb_laws.proofs.Closed.SparedLists.{Single}
use Rattle.tb_laws.proofs.Closed.ServedLists.{entry_items}
use Rattle.tb_laws.proofs.Closed.ClearedLists.{Emptied, tokens-parts}
use Rattle.tb_laws.proofs.Closed.ClosingFirings.{HereFits, Closed, output-closed}

-- nothing that has to ship is kept, whatever is counted
pub record Clean (s : State) : Type 0 where
  pub weightless : (v : Weight) → boxes_weight v s.boxes + nodes_weight v s.held_page + lists_weight v s.floats + left_weight v s.left_column ≡ 0
  pub here : s.floats.here ≡ []

-- if a float is in the text, its box is on the held page or comes before the next forced break
abbrev pub HereKept : State → Type 0
HereKept s = (s.floats.here ≡ []) ⊎ (HasReal (sorts s.held_page) ⊎ RealFirst (sorts s.waiting))

-- how floats are taken in a state
abbrev pub ways_of : State → Ways
ways_of s = record { second = has_second s.params; two = s.two_columns }

-- what waits closes: so many firings are owed, at least as many as floats and notes wait to be served; and if nothing came since a clear nothing is kept
pub record Closing (s : State) : Type 0 where
  pub owed : ℕ
  pub done : Bool
  pub closes : Closes (ways_of s) owed done (tokens s.waiting)
  pub items : entry_items s.floats.current ≤ owed
  pub single : Single s
  pub here : HereKept s
  pub clean : done ≡ true → Clean s

-- ---- the goal of the next page

-- quiet nodes are put back, and the state but for its goal is kept
record Told (a c : Work) : Type 0 where
  blank : List PlainNode
  back : c.put_back ≡ a.put_back ++ blank
  quiet : AllByRecursion Quiet (tokens blank)
  floats : c.state.floats ≡ a.state.floats
  boxes : c.state.boxes ≡ a.state.boxes
  page : c.state.held_page ≡ a.state.held_page
  left : c.state.left_column ≡ a.state.left_column
  columns : c.state.two_columns ≡ a.state.two_columns

told_if : (a : Work) (t : Bool) (c d : Work) → Told a c → Told a d → Told a (if t then c else d)
told_if a true c d x y = x
told_if a false c d x y = y

with_goal-told : (g : ℤ) (w : Work) → Told w (Output.with_goal g w)
with_goal-told g w = record { blank = []; back = sym (append-nil w.put_back); quiet = tt; floats = refl; boxes = refl; page = refl; left = refl; columns = refl }

warned-told : (e : PlainSent) (ns : List PlainNode) (w : Work) → AllByRecursion Quiet (tokens ns) → Told w (puts ns (sends e w))
warned-told e ns w q = by_refused w.refused
  where
    by_refused : (t : Bool) → Told w (puts ns (if t then w else record w { sent = w.sent ++ e ∷ [] }))
    by_refused true = record { blank = ns; back = refl; quiet = q; floats = refl; boxes = refl; page = refl; left = refl; columns = refl }
    by_refused false = record { blank = ns; back = refl; quiet = q; floats = refl; boxes = refl; page = refl; left = refl; columns = refl }

goal-told : (p : Params) (n : ℤ) (w : Work) → Told w (Output.next_goal p n w)
goal-told p n w =
    told_if w (Output.is_int n Asked.hold_penalty) (Output.with_goal max_dimen w) (Output.goal_by p (column_room_of p w.state.floats) w) (with_goal-told max_dimen w)
    (told_if w (Output.is_crowded p (column_room_of p w.state.floats)) (Output.leave_column w) (Output.with_goal (column_room_of p w.state.floats) w) (crowded (w.state.two_columns && not w.state.first_column)) (with_goal-told (column_room_of p w.state.floats) w))
  where
    crowded : (t : Bool) → Told w (puts (if t then Output.blank_column ++ Output.blank_column else Output.blank_column) (sends (warned (warnings.Floats w.state.number)) w))
    crowded true = warned-told (warned (warnings.Floats w.state.number)) (Output.blank_column ++ Output.blank_column) w (tt, (tt, (tt, (tt, tt))))
    crowded false = warned-told (warned (warnings.Floats w.state.number)) Output.blank_column w (tt, (tt, tt))

-- ---- held insertions

ins-steady : (ks : List ℕ) (ns : List PlainNode) → AllIns ks ns → AllSteady ns
ins-steady ks [] i = tt
ins-steady ks (n ∷ ns) i = (by_kind n.kind i.0, ins-steady ks ns i.1)
  where
    by_kind : (k : PlainKind) → IsIns ks k → Steady (kind_sort k)
    by_kind (plain m) i = absurd i
    by_kind (ins x) i = tt
    by_kind (act a) i = absurd i

held-closes : (ks : List ℕ) (z : Ways) (n : ℕ) (o : Bool) (held : List PlainNode) (ys : List Token) → AllIns ks held → (o ≡ true → AllByRecursion Quiet (tokens held)) → Closes z n o ys → Closes z n o (tokens held ++ ys)
held-closes ks z n true held ys i e h = quiet-between z n true (tokens held) ys (e refl) h
held-closes ks z n false held ys i e h = harmless-between z n false (tokens held) ys (steady-harmless held (ins-steady ks held i)) h

-- ---- a firing

-- the state after a firing: what waits closes; if nothing came since a clear nothing is kept, or the firing was an ordinary one and nothing came up to its stop
pub record OutClosed (z : Ways) (d : Bool) (rest : List PlainNode) (s : State) : Type 0 where
  pub owed : ℕ
  pub done : Bool
  pub closes : Closes z owed done (tokens s.waiting)
  pub items : entry_items s.floats.current ≤ owed
  pub single : Single s
  pub here : HereKept s
  pub clean : done ≡ true → ((d ≡ true) × (s.floats.here ≡ [])) ⊎ Clean s
  pub front : List PlainNode
  pub whole : s.waiting ≡ front ++ rest

pub out-closed : (ks : List ℕ) (p : Params) → int_le p.interlinepenalty eject_penalty ≡ false → (st : State) (f : Fired) (before : List PlainNode) → f.body ≡ without_insertions before → AllCalm before → AllFree before → (b : Bool) → BreakStands b (seen_all none (sorts before)) f.rest (pen_sort f.penalty) → (z : Ways) (m : ℕ) (d : Bool) → BreakCloses z m d f.rest (pen_sort f.penalty) → (b ≡ false → st.held_page ≡ []) → AllSteady st.held_page → AllSteady f.body → entry_items st.floats.current ≤ m → Paired st.floats.current → Single st → ColumnsFit st.two_columns st.first_column st.left_column → (st.floats.here ≡ []) ⊎ (HasReal (sorts st.held_page) ⊎ BreakReal (sorts before) (pen_sort f.penalty)) → AllIns ks f.held → (d ≡ true → AllByRecursion Quiet (tokens f.held)) → (standing_notes (notes_in st.classes f.boxes) ≡ [] → AllByRecursion Quiet (tokens f.held)) → BoxesFit st.classes f.boxes → OutClosed z d f.rest (Output.out p st f).state × ((Output.out p st f).state.two_columns ≡ st.two_columns)
unfolding Output.out
out-closed ks p calm st f before is_body calm_before free_before b stands z m d breaks free steady_page steady_body items paired single fit here held quiet_held void_held box =
    all (Output.output_by p f w) (output-closed p calm f before is_body calm_before free_before b stands z m d breaks w refl free steady_page steady_body items paired single fit here) (Output.next_goal p f.penalty (Output.output_by p f w)) (goal-told p f.penalty (Output.output_by p f w))
  where
    w : Work
    w = begun (Output.after_page st f)

    all : (c : Work) → Closed z f d (begun (Output.after_page st f)) c → (e : Work) → Told c e → OutClosed z d f.rest (Output.waiting_again f e).state × ((Output.waiting_again f e).state.two_columns ≡ st.two_columns)
    all c x e y = (
      record {
        owed = x.owed;
        done = x.done;
        closes = subst (Closes z x.owed x.done) (sym parts) (held-closes ks z x.owed x.done f.held (tokens c.put_back ++ (tokens y.blank ++ tokens f.rest)) held no_held (x.closes (tokens y.blank) y.quiet));
        items = subst (λ l. entry_items l.current ≤ x.owed) (sym y.floats) x.items;
        single = λ t. ap (λ l. l.double) y.floats ∙ x.single (sym y.columns ∙ t);
        here = by_here x.here;
        clean = λ t. by_clean (x.clean t);
        front = f.held ++ e.put_back;
        whole = refl;
      },
      y.columns ∙ x.columns,
    )
      where
        parts : tokens (f.held ++ e.put_back ++ f.rest) ≡ tokens f.held ++ (tokens c.put_back ++ (tokens y.blank ++ tokens f.rest))
        parts = tokens-append (f.held ++ e.put_back) f.rest ∙ tokens-parts f.held e.put_back (tokens f.rest) ∙ ap (λ l. tokens f.held ++ (tokens l ++ tokens f.rest)) y.back ∙ ap (λ l. tokens f.held ++ l) (tokens-parts c.put_back y.blank (tokens f.rest))

        no_held : x.done ≡ true → AllByRecursion Quiet (tokens f.held)
        no_held t = by_reason (x.clean t)
          where
            by_reason : ((d ≡ true) × (c.state.floats.here ≡ []) × (c.put_back ≡ [])) ⊎ ((standing_notes (notes_in st.classes f.boxes) ≡ []) × Emptied (Clear.without_notes (begun (Output.after_page st f))) c × (st.held_page ≡ [])) → AllByRecursion Quiet (tokens f.held)
            by_reason (inl r) = quiet_held r.0
            by_reason (inr r) = void_held r.0

        by_here : (c.state.floats.here ≡ []) ⊎ HereFits (sorts c.state.held_page) (sorts c.put_back) → HereKept (Output.waiting_again f e).state
        by_here (inl n) = inl (ap (λ l. l.here) y.floats ∙ n)
        by_here (inr (inl r)) = inr (inl (subst (λ l. HasReal (sorts l)) (sym y.page) r))
        by_here (inr (inr r)) = inr (inr (subst RealFirst (sym sorted) (steady-then (sorts f.held) (sorts c.put_back ++ (sorts y.blank ++ sorts f.rest)) (ins-steady ks f.held held) (r (sorts y.blank ++ sorts f.rest)))))
          where
            pieces : (ms ns : List PlainNode) (xs : List Sort) → sorts (ms ++ ns) ++ xs ≡ sorts ms ++ (sorts ns ++ xs)
            pieces ms ns xs = ap (λ l. l ++ xs) (sorts-append ms ns) ∙ append_assoc (sorts ms) (sorts ns) xs

            sorted : sorts (f.held ++ e.put_back ++ f.rest) ≡ sorts f.held ++ (sorts c.put_back ++ (sorts y.blank ++ sorts f.rest))
            sorted = sorts-append (f.held ++ e.put_back) f.rest ∙ pieces f.held e.put_back (sorts f.rest) ∙ ap (λ l. sorts f.held ++ (sorts l ++ sorts f.rest)) y.back ∙ ap (λ l. sorts f.held ++ l) (pieces c.put_back y.blank (sorts f.rest))

        by_clean : ((d ≡ true) × (c.state.floats.here ≡ []) × (c.put_back ≡ [])) ⊎ ((standing_notes (notes_in st.classes f.boxes) ≡ []) × Emptied (Clear.without_notes (begun (Output.after_page st f))) c × (st.held_page ≡ [])) → ((d ≡ true) × (e.state.floats.here ≡ [])) ⊎ Clean (Output.waiting_again f e).state
        by_clean (inl r) = inl (r.0, ap (λ l. l.here) y.floats ∙ r.1)
        by_clean (inr r) = inr (record { weightless = nothing; here = ap (λ l. l.here) (y.floats ∙ r.1.lists) })
          where
            sums : (q h l k : ℕ) → q ≡ 0 → h ≡ 0 → l ≡ 0 → k ≡ 0 → q + h + l + k ≡ 0
            sums q h l k a b c d = omega arith

            nothing : (v : Weight) → boxes_weight v e.state.boxes + nodes_weight v e.state.held_page + lists_weight v e.state.floats + left_weight v e.state.left_column ≡ 0
            nothing v = sums (boxes_weight v e.state.boxes) (nodes_weight v e.state.held_page) (lists_weight v e.state.floats) (left_weight v e.state.left_column)
                (ap (boxes_weight v) (y.boxes ∙ r.1.boxes) ∙ emptied-weight v f.boxes)
                (ap (nodes_weight v) (y.page ∙ r.1.page ∙ r.2))
                (ap (lists_weight v) (y.floats ∙ r.1.lists))
                (ap (left_weight v) (y.left ∙ r.1.left))
