-- After a firing what waits closes again.
use Rattle.std.proofs.Common.{◌≡◌, refl, sym, ◌∙◌, ap, subst, ℕ, ◌≤◌, ◌⊎◌, inl, inr, pos, Bool, true, false, List, [], ◌∷◌, ◌++◌, map, length, arith}
use Rattle.std.specs.Prelude.{int_le, ◌||◌, ◌-◌, if◌then◌else◌}
use Rattle.std.specs.List.{AllByRecursion}
use Rattle.tb_scaled.specs.Scaled.{eject_penalty}
use Rattle.tb_scaled.specs.Glue.{filling_glue}
use Rattle.tb_node.specs.PlainNodes.{PlainNode, node_shape, made, skip, without_insertions}
use Rattle.tb_break.specs.Split.{split_of}
use Rattle.tb_param.specs.declared.Params.{Params}
use Rattle.tb_builder.specs.FiredPages.{Fired}
use Rattle.tb_builder.proofs.Cutting.CutLemmas.{AllCalm, AllFree}
use Rattle.tb_column.specs.Column.{Notes}
use Rattle.tb_output.specs.State.{Work, puts, footnotes}
use Rattle.tb_output.specs.Columns
use Rattle.tb_output.specs.Text
use Rattle.tb_output.specs.Clear
use Rattle.tb_output.specs.Output
use Rattle.tb_sheet.specs.Asked
use Rattle.tb_column.specs.Column.{standing_notes}
use Rattle.tb_laws.proofs.NothingLost.StateWeights.{Paired, ColumnsFit}
use Rattle.tb_laws.proofs.Closed.Sorts.{sorts-calm, seen_all}
use Rattle.tb_laws.proofs.Closed.SortLemmas.{Sort, hold, serve, clear, none, one, BreakStands, pen_sort, sorts, sorts-append}
use Rattle.tb_laws.proofs.Closed.PlaceLemmas.{AllSteady, take-steady}
use Rattle.tb_laws.proofs.Closed.Closings.{Ways, never, Token, Closes, Quiet, quiet-between, harmless-between, tokens, steady-harmless}
use Rattle.tb_laws.proofs.StepLaws.BreakSorts.{at-ordinary, at-clear, at-serve, at-hold}
use Rattle.tb_laws.proofs.Closed.ClosingPages.{BreakCloses, tokens-take}
use Rattle.tb_laws.proofs.DeadCycles.BoxesFirst.{RealFirst, HasReal, BreakReal, steady-first, real-left, real-right, body-real, one-unreal, unreal-quiet}
use Rattle.tb_laws.proofs.Closed.SparedLists.{Single, TakesText, put_out_text-takes, ordinary-takes}
use Rattle.tb_laws.proofs.Closed.ServedLists.{entry_items, no-items, steady-both, Serves, float_or_note-serves}
use Rattle.tb_laws.proofs.Closed.ClearedLists.{Emptied, Cleared, Pending, again-pending, clear_floats-cleared}

-- if a float is in the text, its box is on the held page or comes before the next forced break
abbrev pub HereFits : List Sort → List Sort → Type 0
HereFits page first = HasReal page ⊎ ((ys : List Sort) → RealFirst (first ++ ys))

-- the work of a firing, before the goal is set: how what waits closes after what is put back
pub record Closed (z : Ways) (f : Fired) (d : Bool) (w c : Work) : Type 0 where
  pub owed : ℕ
  pub done : Bool
  pub closes : (blank : List Token) → AllByRecursion Quiet blank → Closes z owed done (tokens c.put_back ++ (blank ++ tokens f.rest))
  pub items : entry_items c.state.floats.current ≤ owed
  pub columns : c.state.two_columns ≡ w.state.two_columns
  pub single : Single c.state
  pub here : (c.state.floats.here ≡ []) ⊎ HereFits (sorts c.state.held_page) (sorts c.put_back)
  pub clean : done ≡ true → ((d ≡ true) × (c.state.floats.here ≡ []) × (c.put_back ≡ [])) ⊎ ((standing_notes (footnotes w.state) ≡ []) × Emptied (Clear.without_notes w) c × (w.state.held_page ≡ []))

module _ (p : Params) (calm : int_le p.interlinepenalty eject_penalty ≡ false) (f : Fired) (before : List PlainNode) (is_body : f.body ≡ without_insertions before) (calm_before : AllCalm before) (free_before : AllFree before) (b : Bool) (stands : BreakStands b (seen_all none (sorts before)) f.rest (pen_sort f.penalty)) (z : Ways) (m : ℕ) (d : Bool) (breaks : BreakCloses z m d f.rest (pen_sort f.penalty)) (w : Work) (begun : w.put_back ≡ []) (free : b ≡ false → w.state.held_page ≡ []) (steady_page : AllSteady w.state.held_page) (steady_body : AllSteady f.body) (items : entry_items w.state.floats.current ≤ m) (paired : Paired w.state.floats.current) (single : Single w.state) (fit : ColumnsFit w.state.two_columns w.state.first_column w.state.left_column) (here : (w.state.floats.here ≡ []) ⊎ (HasReal (sorts w.state.held_page) ⊎ BreakReal (sorts before) (pen_sort f.penalty))) where
  no-put : (c : Work) → c.put_back ≡ w.put_back → (n : ℕ) (o : Bool) → Closes z n o (tokens f.rest) → (blank : List Token) → AllByRecursion Quiet blank → Closes z n o (tokens c.put_back ++ (blank ++ tokens f.rest))
  no-put c e n o h blank q = subst (λ l. Closes z n o (tokens l ++ (blank ++ tokens f.rest))) (sym (e ∙ begun)) (quiet-between z n o blank (tokens f.rest) q h)

  ordinary-closed : int_le eject_penalty f.penalty ≡ true → Closed z f d w (Columns.ordinary p f.body w)
  ordinary-closed h =
      let x : TakesText w (Columns.ordinary p f.body w) = ordinary-takes p f.body w in
      let r : Closes z m d (tokens f.rest) = at-ordinary (Closes z m d (tokens f.rest)) (BreakCloses z m d f.rest) f.penalty h (λ r. r) (λ r. r) breaks in
      record {
        owed = m;
        done = d;
        closes = no-put (Columns.ordinary p f.body w) x.put_back m d r;
        items = subst (λ l. entry_items l ≤ m) (sym x.current) items;
        columns = x.columns;
        single = x.single single;
        here = inl x.here;
        clean = λ e. inl (e, x.here, x.put_back ∙ begun);
      }

  -- what is known of the break, by its sort
  abbrev Broken : Sort → Type 0
  Broken x = BreakStands b (seen_all none (sorts before)) f.rest x × BreakCloses z m d f.rest x × ((w.state.floats.here ≡ []) ⊎ (HasReal (sorts w.state.held_page) ⊎ BreakReal (sorts before) x))

  no-real : seen_all none (sorts before) ≡ one → HasReal (sorts before) → ⊥
  no-real e h = one-unreal (sorts before) none (sorts-calm before calm_before) e h

  held-real : b ≡ false → HasReal (sorts w.state.held_page) → ⊥
  held-real e h = subst (λ l. HasReal (sorts l)) (free e) h

  hold-closed : int_le eject_penalty f.penalty ≡ false → Output.is_int f.penalty Asked.clear_penalty ≡ false → (Output.is_int f.penalty Asked.par_penalty || Output.is_int f.penalty Asked.vert_penalty) ≡ false → Closed z f d w (Output.hold f.body w)
  hold-closed h k l = at-hold (Closed z f d w (Output.hold f.body w)) Broken f.penalty h k l at_hold (λ x. absurd x.0) (stands, breaks, here)
    where
      by_here : b ≡ false → (w.state.floats.here ≡ []) ⊎ (HasReal (sorts w.state.held_page) ⊎ BreakReal (sorts before) hold) → (w.state.floats.here ≡ []) ⊎ HereFits (sorts f.body) (sorts w.put_back)
      by_here e (inl n) = inl n
      by_here e (inr (inl r)) = absurd (held-real e r)
      by_here e (inr (inr r)) = inr (inl (subst (λ l. HasReal (sorts l)) (sym is_body) (body-real before r)))

      at_hold : Broken hold → Closed z f d w (Output.hold f.body w)
      at_hold x = record {
        owed = m;
        done = false;
        closes = no-put (Output.hold f.body w) refl m false x.1;
        items = items;
        columns = refl;
        single = single;
        here = by_here x.0.0 x.2;
        clean = λ e. never e;
      }

  serve-closed : (vert : Bool) → int_le eject_penalty f.penalty ≡ false → Output.is_int f.penalty Asked.clear_penalty ≡ false → (Output.is_int f.penalty Asked.par_penalty || Output.is_int f.penalty Asked.vert_penalty) ≡ true → Closed z f d w (Text.float_or_note p vert f.body w)
  serve-closed vert h k l = at-serve (Closed z f d w (Text.float_or_note p vert f.body w)) Broken f.penalty h k l at_serve (stands, breaks, here)
    where
      text : List PlainNode
      text = Text.without_firing_box f.body

      all : (ns : List PlainNode) → AllSteady ns → AllSteady ((w.state.held_page ++ Text.without_firing_box f.body) ++ ns)
      all ns h = steady-both (w.state.held_page ++ Text.without_firing_box f.body) ns (steady-both w.state.held_page (Text.without_firing_box f.body) steady_page (take-steady (length f.body - 2) f.body steady_body)) h

      page-real : (ns : List PlainNode) → HasReal (sorts w.state.held_page) → HasReal (sorts ((w.state.held_page ++ Text.without_firing_box f.body) ++ ns))
      page-real ns r = subst HasReal (sym (sorts-append (w.state.held_page ++ Text.without_firing_box f.body) ns)) (real-left (sorts (w.state.held_page ++ Text.without_firing_box f.body)) (sorts ns) (subst HasReal (sym (sorts-append w.state.held_page (Text.without_firing_box f.body))) (real-left (sorts w.state.held_page) (sorts (Text.without_firing_box f.body)) r)))

      more-real : (ns : List PlainNode) → HasReal (sorts ns) → HasReal (sorts ((w.state.held_page ++ Text.without_firing_box f.body) ++ ns))
      more-real ns r = subst HasReal (sym (sorts-append (w.state.held_page ++ Text.without_firing_box f.body) ns)) (real-right (sorts (w.state.held_page ++ Text.without_firing_box f.body)) (sorts ns) r)

      first : (c : Work) (ns : List PlainNode) → c.put_back ≡ (w.state.held_page ++ Text.without_firing_box f.body) ++ ns → AllSteady ns → HasReal (sorts ((w.state.held_page ++ Text.without_firing_box f.body) ++ ns)) → HereFits (sorts c.state.held_page) (sorts c.put_back)
      first c ns e s r = inr (subst (λ l. (ys : List Sort) → RealFirst (sorts l ++ ys)) (sym e) (λ ys. steady-first (sorts ((w.state.held_page ++ Text.without_firing_box f.body) ++ ns)) ys (all ns s) r))

      by_here : (c : Work) (ns : List PlainNode) → c.put_back ≡ (w.state.held_page ++ Text.without_firing_box f.body) ++ ns → AllSteady ns → seen_all none (sorts before) ≡ one → (c.state.floats.here ≡ w.state.floats.here) ⊎ HasReal (sorts ns) → (w.state.floats.here ≡ []) ⊎ (HasReal (sorts w.state.held_page) ⊎ BreakReal (sorts before) serve) → (c.state.floats.here ≡ []) ⊎ HereFits (sorts c.state.held_page) (sorts c.put_back)
      by_here c ns e s o (inr r) h = inr (first c ns e s (more-real ns r))
      by_here c ns e s o (inl g) (inl n) = inl (g ∙ n)
      by_here c ns e s o (inl g) (inr (inl r)) = inr (first c ns e s (page-real ns r))
      by_here c ns e s o (inl g) (inr (inr r)) = absurd (no-real o r)

      at_serve : Broken serve → Closed z f d w (Text.float_or_note p vert f.body w)
      at_serve x =
          let c = Text.float_or_note p vert f.body w in
          let j = x.1.0 in
          let y : Serves p calm w c (w.state.held_page ++ Text.without_firing_box f.body) = float_or_note-serves p calm vert f.body w paired in
          let e : c.put_back ≡ (w.state.held_page ++ Text.without_firing_box f.body) ++ y.ns = y.back ∙ ap (λ l. l ++ ((w.state.held_page ++ Text.without_firing_box f.body) ++ y.ns)) begun in
          record {
            owed = j;
            done = false;
            closes = λ blank q. harmless-between z j false (tokens c.put_back) (blank ++ tokens f.rest) (steady-harmless c.put_back (subst AllSteady (sym e) (all y.ns y.steady))) (quiet-between z j false blank (tokens f.rest) q x.1.2);
            columns = y.columns;
            items = y.items j (subst (λ n. entry_items w.state.floats.current ≤ n) x.1.1 items);
            single = y.single single;
            here = by_here c y.ns e y.steady x.0.0 y.here x.2;
            clean = λ e. never e;
          }

  clear-closed : int_le eject_penalty f.penalty ≡ false → Output.is_int f.penalty Asked.clear_penalty ≡ true → Closed z f d w (Clear.clear p f.body w)
  clear-closed h k = at-clear (Closed z f d w (Clear.clear p f.body w)) Broken f.penalty h k at_it (stands, breaks, here)
    where
      by_here : seen_all none (sorts before) ≡ one → b ≡ false → (w.state.floats.here ≡ []) ⊎ (HasReal (sorts w.state.held_page) ⊎ BreakReal (sorts before) clear) → w.state.floats.here ≡ []
      by_here o e (inl n) = n
      by_here o e (inr (inl r)) = absurd (held-real e r)
      by_here o e (inr (inr r)) = absurd (no-real o r)

      quiet_body : seen_all none (sorts before) ≡ one → AllByRecursion Quiet (tokens f.body)
      quiet_body o = subst (λ l. AllByRecursion Quiet (tokens l)) (sym is_body) (unreal-quiet before (sorts-calm before calm_before) free_before (no-real o))

      pending : (c : Work) → c.state.two_columns ≡ w.state.two_columns → Pending c.put_back → c.state.floats.current ≡ [] → c.state.floats.here ≡ [] → Single c.state → Closes z 0 true (tokens f.rest) → Closed z f d w c
      pending c t k n h s r = record {
        owed = 0;
        columns = t;
        done = false;
        closes = λ blank q. k z (blank ++ tokens f.rest) (quiet-between z 0 true blank (tokens f.rest) q r);
        items = subst (λ l. entry_items l ≤ 0) (sym n) (omega arith);
        single = s;
        here = inl h;
        clean = λ e. never e;
      }

      by_outcome : standing_notes (footnotes w.state) ≡ [] → b ≡ false → (c : Work) → Cleared (Clear.without_notes w) c (Clear.cleared_front p f.body) → AllByRecursion Quiet (tokens (Clear.cleared_front p f.body)) → Closes z 0 true (tokens f.rest) → Pending c.put_back ⊎ ((c.put_back ≡ Clear.cleared_front p f.body) × Emptied (Clear.without_notes w) c) → Closed z f d w c
      by_outcome o e c x q r (inl k) = pending c x.columns k x.current x.here x.single r
      by_outcome o e c x q r (inr k) = record {
        owed = 0;
        columns = x.columns;
        done = true;
        closes = λ blank y. subst (λ l. Closes z 0 true (tokens l ++ (blank ++ tokens f.rest))) (sym k.0) (quiet-between z 0 true (tokens (Clear.cleared_front p f.body)) (blank ++ tokens f.rest) q (quiet-between z 0 true blank (tokens f.rest) y r));
        items = subst (λ l. entry_items l ≤ 0) (sym x.current) (omega arith);
        single = x.single;
        here = inl x.here;
        clean = λ y. inr (o, k.1, free e);
      }

      by_notes : (o : List Notes) → standing_notes (footnotes w.state) ≡ o → b ≡ false → seen_all none (sorts before) ≡ one → w.state.floats.current ≡ [] → w.state.floats.here ≡ [] → Closes z 0 true (tokens f.rest) → Closed z f d w (Clear.clear_by p f.body w o)
      by_notes [] o g e n y r =
          let q = tokens-take Quiet (split_of (pos 0) p.splitmaxdepth (map node_shape f.body)).index f.body (quiet_body e) in
          let x = clear_floats-cleared p f.body (Clear.without_notes w) q n y begun single fit in
          by_outcome o g (Clear.clear_floats p f.body (Clear.without_notes w)) x q r x.outcome
      by_notes (n₀ ∷ ns₀) o g e n y r =
          let ns = f.body ++ made (skip filling_glue) ∷ [] in
          let x : TakesText w (Columns.put_out_text p ns w) = put_out_text-takes p ns w in
          pending (puts Clear.clear_again (Columns.put_out_text p ns w)) x.columns (subst (λ l. Pending (l ++ Clear.clear_again)) (sym (x.put_back ∙ begun)) (again-pending [] tt)) (x.current ∙ n) x.here (x.single single) r

      at_it : Broken clear → Closed z f d w (Clear.clear p f.body w)
      at_it x = by_notes (standing_notes (footnotes w.state)) refl x.0.1 x.0.0 (no-items w.state.floats.current paired (subst (λ n. entry_items w.state.floats.current ≤ n) x.1.0 items)) (by_here x.0.0 x.0.1 x.2) x.1.1

  pub output-closed : Closed z f d w (Output.output_by p f w)
  output-closed = by_penalty (int_le eject_penalty f.penalty) (Output.is_int f.penalty Asked.clear_penalty) (Output.is_int f.penalty Asked.par_penalty) (Output.is_int f.penalty Asked.vert_penalty) ordinary-closed clear-closed (serve-closed false) (serve-closed true) hold-closed
    where
      by_penalty : (t c x y : Bool) → (t ≡ true → Closed z f d w (Columns.ordinary p f.body w)) → (t ≡ false → c ≡ true → Closed z f d w (Clear.clear p f.body w)) → (t ≡ false → c ≡ false → (x || y) ≡ true → Closed z f d w (Text.float_or_note p false f.body w)) → (t ≡ false → c ≡ false → (x || y) ≡ true → Closed z f d w (Text.float_or_note p true f.body w)) → (t ≡ false → c ≡ false → (x || y) ≡ false → Closed z f d w (Output.hold f.body w)) → Closed z f d w (if t then Columns.ordinary p f.body w else (if c then Clear.clear p f.body w else (if x then Text.float_or_note p false f.body w else (if y then Text.float_or_note p true f.body w else Output.hold f.body w))))
      by_penalty true c x y h i j k l = h refl
      by_penalty false true x y h i j k l = i refl refl
      by_penalty false false true y h i j k l = j refl refl refl
      by_penalty false false false true h i j k l = k refl refl refl
      by_penalty false false false false h i j k l = l refl refl refl
