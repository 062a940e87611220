-- An act leaves a state that can be served.
use Rattle.std.proofs.Common.{◌≡◌, refl, sym, subst, ◌∙◌, ap, ℕ, ◌+◌, ◌≤◌, pos, Bool, true, false, List, [], ◌∷◌, ◌++◌, arith}
use Rattle.std.specs.Prelude.{All, ◌&&◌, int_le, int_lt, if◌then◌else◌, not, IsTrue}
use Rattle.std.specs.List.{AllByRecursion}
use Rattle.std.proofs.lemmas.List.Elements.{All-from_recursion, recursion_from_All}
use Rattle.tb_break.proofs.EachLemmas.{all-join, all-front, all-back}
use Rattle.tb_node.specs.declared.Act.{Act}
use Rattle.tb_node.specs.declared.Act.TheVariants as acts
use Rattle.tb_node.specs.declared.Float.{Float}
use Rattle.tb_node.specs.Fit.{IsExtent}
use Rattle.tb_node.proofs.FitLemmas.{limited_extent}
use Rattle.tb_node.specs.PlainNodes.{hbox, rule, PlainKind, plain, ins, act, PlainNode}
use Rattle.tb_param.specs.Release.{has_second}
use Rattle.tb_param.specs.Changes.{changed}
use Rattle.tb_param.specs.Ranges.{are_params}
use Rattle.tb_param.proofs.RangeLemmas.{changed-in-range}
use Rattle.tb_insert.specs.declared.Class.{Class}
use Rattle.tb_builder.specs.Contents.{node_count}
use Rattle.tb_builder.specs.PageEvents.{Without}
use Rattle.tb_builder.specs.Pageable.{IsSizedBox}
use Rattle.tb_builder.proofs.Ranges.PageableLemmas.{count-append}
use Rattle.tb_float.specs.declared.Entry.{Entry}
use Rattle.tb_float.specs.declared.Entry.TheVariants as entries
use Rattle.tb_float.specs.Lists.{live_count}
use Rattle.tb_float.specs.Ranges.{IsWithin, IsSizedEntry}
use Rattle.tb_sheet.specs.declared.Warn.{Warn}
use Rattle.tb_output.specs.State.{State, Recorded}
use Rattle.tb_output.specs.Act.{Acted, went, full, taken_float, large_warning, with_taken, act_on, has_head_room, taken_head, with_head}
use Rattle.tb_sheet.specs.Asked.{IsSizedAct}
use Rattle.tb_items.specs.GalleyNodes.{IsGalleyNode}
use Rattle.tb_steps.specs.Run.{led_by, led_through, led}
use Rattle.tb_steps.specs.Runnable.{AreRunnable}
use Rattle.tb_steps.proofs.RunParams.{params-runnable}
use Rattle.tb_steps.proofs.RunTree.{it_went, ActIs, act-is}
use Rattle.tb_steps.proofs.RunFolds.{act-in-range}
use Rattle.tb_run.specs.ServedStates.{IsTextKind, act_notes, notes_waiting, notes_taken, notes_left, IsServed}
use Rattle.tb_run.proofs.ServedAgain.FiredNodes.{notes-append}
use Rattle.tb_run.proofs.ServedAgain.ServedFirings.{reach_where}

-- what acts leave of a state
pub record ActKeeps (s t : State) : Type 0 where
  pub waiting : t.waiting ≡ s.waiting
  pub classes : t.classes ≡ s.classes
  pub boxes : t.boxes ≡ s.boxes
  pub held : t.held_page ≡ s.held_page
  pub bottom : t.note_bottom ≡ s.note_bottom

pub keeps-same : (s : State) → ActKeeps s s
keeps-same s = record { waiting = refl; classes = refl; boxes = refl; held = refl; bottom = refl }

pub keeps-then : (s t u : State) → ActKeeps s t → ActKeeps t u → ActKeeps s u
keeps-then s t u h k = record {
  waiting = k.waiting ∙ h.waiting;
  classes = k.classes ∙ h.classes;
  boxes = k.boxes ∙ h.boxes;
  held = k.held ∙ h.held;
  bottom = k.bottom ∙ h.bottom;
}

pub taken-append : (xs ys : List Entry) → notes_taken (xs ++ ys) ≡ notes_taken xs + notes_taken ys
taken-append [] ys = omega arith
taken-append (x ∷ xs) ys = let e = taken-append xs ys in omega (arith, e)

-- the next state keeps what an act leaves, its parameters are in their ranges, its entries are sized, and it has this many more notes in its current list
record Goes (n : ℕ) (s t : State) : Type 0 where
  keeps : ActKeeps s t
  runs : AreRunnable t.params
  entries : AllByRecursion IsSizedEntry t.floats.current
  notes : notes_taken t.floats.current ≡ notes_taken s.floats.current + n

went-state : (s t : State) (ws vs : List Warn) (rs qs : List Recorded) → went s ws rs ≡ went t vs qs → s ≡ t
went-state s t ws vs rs qs e = ap of e
  where
    of : Acted → State
    of (went u xs ys) = u
    of (full l n) = s

full-went : (l n : ℕ) (t : State) (ws : List Warn) (rs : List Recorded) → full l n ≡ went t ws rs → ⊥
full-went l n t ws rs e = cc

module _ (s : State) (runs : AreRunnable s.params) (sized : AllByRecursion IsSizedEntry s.floats.current) where
  taken-goes : (f : Float) (b : Bool) → IsExtent f.height
      → Goes 0 s (record s { floats = if b then record s.floats { second = s.floats.second ++ f ∷ [] } else record s.floats { current = s.floats.current ++ entries.Float f ∷ [] } })
  taken-goes f true h = record { keeps = record { waiting = refl; classes = refl; boxes = refl; held = refl; bottom = refl }; runs = runs; entries = sized; notes = omega arith }
  taken-goes f false h = record {
    keeps = record { waiting = refl; classes = refl; boxes = refl; held = refl; bottom = refl };
    runs = runs;
    entries = all-join IsSizedEntry s.floats.current (entries.Float f ∷ []) sized (h, tt);
    notes = let e = taken-append s.floats.current (entries.Float f ∷ []) in omega (arith, e);
  }

  goes-is : (n : ℕ) (t u : State) → t ≡ u → Goes n s t → Goes n s u
  goes-is n t u e h = subst (Goes n s) e h

  -- if an act was done
  acted-goes : (a : Act) (t : State) (ws : List Warn) (rs : List Recorded) → IsSizedAct a → act_on s.params s a ≡ went t ws rs → Goes (act_notes a) s t
  acted-goes (acts.Take f) t ws rs h e = by_room (int_le s.params.pool (pos (live_count s.floats))) e
    where
      by_room : (b : Bool) → (if b then full f.line (live_count s.floats) else went (with_taken s.params s (taken_float s.params s f)) (large_warning s.params f) []) ≡ went t ws rs → Goes 0 s t
      by_room true e = absurd (full-went f.line (live_count s.floats) t ws rs e)
      by_room false e =
          goes-is 0 (with_taken s.params s (taken_float s.params s f)) t (went-state (with_taken s.params s (taken_float s.params s f)) t (large_warning s.params f) ws [] rs e)
          (taken-goes (taken_float s.params s f) (has_second s.params && (f.wide && s.two_columns)) (limited_extent s.params.textheight f.height runs.output.columns.floats.textheight.low h))
  acted-goes (acts.TakeMargin m) t ws rs h e = by_room (int_lt s.params.pool (pos (live_count s.floats + 2))) e
    where
      next : State
      next = record s { floats = record s.floats { current = s.floats.current ++ entries.Left m ∷ entries.Right m ∷ [] } }

      by_room : (b : Bool) → (if b then full m.line (live_count s.floats) else went next [] []) ≡ went t ws rs → Goes 1 s t
      by_room true e = absurd (full-went m.line (live_count s.floats) t ws rs e)
      by_room false e = goes-is 1 next t (went-state next t [] ws [] rs e) (record {
        keeps = record { waiting = refl; classes = refl; boxes = refl; held = refl; bottom = refl };
        runs = runs;
        entries = all-join IsSizedEntry s.floats.current (entries.Left m ∷ entries.Right m ∷ []) sized (h, (h, tt));
        notes = let e = taken-append s.floats.current (entries.Left m ∷ entries.Right m ∷ []) in omega (arith, e);
      })
  acted-goes (acts.Suppress area) t ws rs h e =
      goes-is 0 _ t (went-state _ t [] ws [] rs e) (record { keeps = record { waiting = refl; classes = refl; boxes = refl; held = refl; bottom = refl }; runs = runs; entries = sized; notes = omega arith })
  acted-goes (acts.Page n) t ws rs h e =
      goes-is 0 _ t (went-state _ t [] ws [] rs e) (record { keeps = record { waiting = refl; classes = refl; boxes = refl; held = refl; bottom = refl }; runs = runs; entries = sized; notes = omega arith })
  acted-goes (acts.Head f) t ws rs h e = by_room (has_head_room s.params s) e
    where
      by_room : (b : Bool) → (if not b then full f.line (live_count s.floats) else went (with_head s.params s (taken_head s.params f)) [] []) ≡ went t ws rs → Goes 0 s t
      by_room false e = absurd (full-went f.line (live_count s.floats) t ws rs e)
      by_room true e =
          goes-is 0 (with_head s.params s (taken_head s.params f)) t (went-state (with_head s.params s (taken_head s.params f)) t [] ws [] rs e)
          (record { keeps = record { waiting = refl; classes = refl; boxes = refl; held = refl; bottom = refl }; runs = runs; entries = sized; notes = omega arith })
  acted-goes (acts.Columns two) t ws rs h e =
      goes-is 0 _ t (went-state _ t [] ws _ rs e) (record { keeps = record { waiting = refl; classes = refl; boxes = refl; held = refl; bottom = refl }; runs = runs; entries = sized; notes = omega arith })
  acted-goes (acts.Set c) t ws rs h e =
      goes-is 0 _ t (went-state _ t [] ws _ rs e)
      (record {
        keeps = record { waiting = refl; classes = refl; boxes = refl; held = refl; bottom = refl };
        runs = params-runnable (changed s.params c) (changed-in-range s.params c runs.output.all);
        entries = sized;
        notes = omega arith;
      })

-- the act is a node that can be served
without-act : (cs : List Class) (a : Act) (ns ms : List PlainNode) (w : Without a ns ms) → AllByRecursion (IsGalleyNode cs) ns → IsSizedAct a × AllByRecursion (IsGalleyNode cs) ms
without-act cs a ns ms w h =
    let here : PlainNode = record { line = w.line; kind = act a } in
    let whole = subst (AllByRecursion (IsGalleyNode cs)) w.was h in
    let back = all-back (IsGalleyNode cs) w.before (here ∷ w.after) whole in
    (back.0.servable, subst (AllByRecursion (IsGalleyNode cs)) (sym w.left) (all-join (IsGalleyNode cs) w.before w.after (all-front (IsGalleyNode cs) w.before (here ∷ w.after) whole) back.1))

without-notes : (a : Act) (ns ms : List PlainNode) → Without a ns ms → notes_waiting ns ≡ notes_waiting ms + act_notes a
without-notes a ns ms w =
    let here : PlainNode = record { line = w.line; kind = act a } in
    let e = ap notes_waiting w.was in
    let f = ap notes_waiting w.left in
    let g = notes-append w.before (here ∷ w.after) in
    let h = notes-append w.before w.after in
    omega (arith, e, f, g, h)

pub without-count : (a : Act) (ns ms : List PlainNode) → Without a ns ms → node_count ms ≤ node_count ns
without-count a ns ms w =
    let here : PlainNode = record { line = w.line; kind = act a } in
    let e = ap node_count w.was in
    let f = ap node_count w.left in
    let g = count-append w.before (here ∷ w.after) in
    let h = count-append w.before w.after in
    omega (arith, e, f, g, h)

-- the amounts of an act that is reached
pub act-sized : (a : Act) (ns ms : List PlainNode) (s : State) → Without a ns ms → IsServed ns s → IsSizedAct a
act-sized a ns ms s w h = (without-act s.classes a ns ms w (recursion_from_All (IsGalleyNode s.classes) ns h.nodes)).0

pub act-keeps : (a : Act) (ns ms : List PlainNode) (s t : State) (ws : List Warn) (rs : List Recorded) → AreRunnable s.params → Without a ns ms → IsServed ns s → act_on s.params s a ≡ went t ws rs → ActKeeps s t
act-keeps a ns ms s t ws rs runs w h e = (acted-goes s runs h.entries a t ws rs (act-sized a ns ms s w h) e).keeps

-- the parameters that hold after it are in their ranges
pub act-runs : (a : Act) (ns ms : List PlainNode) (s t : State) (ws : List Warn) (rs : List Recorded) → AreRunnable s.params → Without a ns ms → IsServed ns s → act_on s.params s a ≡ went t ws rs → AreRunnable t.params
act-runs a ns ms s t ws rs runs w h e = (acted-goes s runs h.entries a t ws rs (act-sized a ns ms s w h) e).runs

-- as many marginal notes have no place yet
pub act-notes : (a : Act) (ns ms : List PlainNode) (s t : State) (ws : List Warn) (rs : List Recorded) → AreRunnable s.params → Without a ns ms → IsServed ns s → act_on s.params s a ≡ went t ws rs → notes_left ms t ≡ notes_left ns s
act-notes a ns ms s t ws rs runs w h e =
    let x = without-notes a ns ms w in
    let y = (acted-goes s runs h.entries a t ws rs (act-sized a ns ms s w h) e).notes in
    omega (arith, x, y)

-- the state after the act
pub act-served : (a : Act) (ns ms : List PlainNode) (s t : State) (ws : List Warn) (rs : List Recorded) → AreRunnable s.params → Without a ns ms → IsServed ns s → act_on s.params s a ≡ went t ws rs → IsServed ms t
act-served a ns ms s t ws rs runs w h e =
    let both = without-act s.classes a ns ms w (recursion_from_All (IsGalleyNode s.classes) ns h.nodes) in
    let g = acted-goes s runs h.entries a t ws rs both.0 e in
    let same = act-notes a ns ms s t ws rs runs w h e in
    record {
      nodes = subst (λ cs. All (IsGalleyNode cs) ms) (sym g.keeps.classes) (All-from_recursion (IsGalleyNode s.classes) ms both.1);
      held = subst (AllByRecursion (λ (n : PlainNode). IsTextKind n.kind)) (sym g.keeps.held) h.held;
      boxes = subst (All IsSizedBox) (sym g.keeps.boxes) h.boxes;
      entries = g.entries;
      notes = let n = h.notes in omega (arith, n, same);
      bottom = subst (λ k. IsWithin (reach_where k) t.note_bottom) (sym same) (subst (IsWithin (reach_where (notes_left ns s))) (sym g.keeps.bottom) h.bottom);
    }

-- ---- the acts before the first box, rule or insertion of a page

range-kind : (ns : List PlainNode) → ((t : State) → IsTrue (are_params t.params) → IsTrue (are_params (led_through ns t).params)) → (s : State) → IsTrue (are_params s.params) → (l : ℕ) (k : PlainKind)
    → (let n : PlainNode = record { line = l; kind = k } in IsTrue (are_params (led_through (n ∷ ns) s).params))
range-kind ns ih s h l (plain (hbox w x d)) = h
range-kind ns ih s h l (plain (rule w x d)) = h
range-kind ns ih s h l (plain m) = ih s h
range-kind ns ih s h l (ins i) = h
range-kind ns ih s h l (act a) = by_act (act_on s.params s a) (act-is s.params s a)
  where
    by_act : (o : Acted) → ActIs s.params s a o → IsTrue (are_params (led_by (λ t. led_through ns t) s o).params)
    by_act (went t ws rs) (it_went m) = ih t (act-in-range m h)
    by_act (full line live) x = h

led-in-range : (ns : List PlainNode) (s : State) → IsTrue (are_params s.params) → IsTrue (are_params (led_through ns s).params)
led-in-range [] s h = h
led-in-range (n ∷ ns) s h = range-kind ns (λ t. led-in-range ns t) s h n.line n.kind

-- the parameters that hold after them are in their ranges
pub led-runs : (s : State) → AreRunnable s.params → AreRunnable (led s).params
led-runs s h = params-runnable (led s).params (led-in-range s.waiting s h.output.all)
