-- After a firing each clear that waits comes after a flat box again, and after a node that lasts at the top of a page.
use Rattle.std.proofs.Common.{◌≡◌, refl, sym, ap, subst, ℕ, ◌+◌, ◌*◌, ◌≤◌, Bool, true, false, List, [], ◌∷◌, ◌++◌}
use Rattle.std.specs.Prelude.{int_le}
use Rattle.tb_scaled.specs.Scaled.{eject_penalty}
use Rattle.tb_scaled.specs.Glue.{filling_glue}
use Rattle.tb_node.specs.PlainNodes.{PlainNode, made, skip}
use Rattle.tb_param.specs.declared.Params.{Params}
use Rattle.tb_builder.specs.FiredPages.{Fired}
use Rattle.tb_column.specs.Column.{Notes, standing_notes}
use Rattle.tb_output.specs.State.{State, Work, begun, footnotes}
use Rattle.tb_output.specs.Columns
use Rattle.tb_output.specs.Text
use Rattle.tb_output.specs.Clear
use Rattle.tb_output.specs.Output
use Rattle.tb_sheet.specs.Asked
use Rattle.tb_laws.proofs.DeadCycles.WaitCosts.{wait_cost, ins-free}
use Rattle.tb_output.proofs.StepLaws.FollowLemmas.{follows-same}
use Rattle.tb_laws.proofs.DeadCycles.ColumnOutcomes.{ordinary-out, text-out}
use Rattle.tb_laws.proofs.DeadCycles.ClearOutcomes.{Fits}
use Rattle.tb_laws.proofs.DeadCycles.ServeOutcomes.{Served, served, way_floats}
use Rattle.tb_laws.proofs.DeadCycles.EndedLemmas.{Ended, ended-both, free-ended}
use Rattle.tb_laws.proofs.DeadCycles.CycleStates.{Kind, credit, Holds, Phase, phase_cost, PhaseHolds, FloatsFit, goal-out}
use Rattle.tb_laws.proofs.DeadCycles.CycleBreaks.{FiresWell, after, waits, output-cases}
use Rattle.tb_laws.proofs.DeadCycles.SpacedLemmas.{Spaced, spaced-true, spaced-both, free-alone}
use Rattle.tb_laws.proofs.DeadCycles.HighStates.{spaced-free, spaced-back}
use Rattle.tb_laws.proofs.DeadCycles.CycleVoids.{half_nodes, rest_nodes, v-back, c}

again-ended : Ended false Clear.clear_again
again-ended = (tt, (λ h. cc, (tt, (tt, (λ h. refl, tt)))))

half-ended : (t : Bool) → Ended false (half_nodes t)
half-ended true = (tt, again-ended)
half-ended false = tt

rest-ended : (t : Bool) → Ended false (rest_nodes t)
rest-ended true = again-ended
rest-ended false = tt

again-spaced : (b : Bool) → Spaced b Clear.clear_again
again-spaced b = (tt, (λ h. cc, (tt, (tt, (λ h. refl, tt)))))

pub half-spaced : (t : Bool) → Spaced false (half_nodes t)
half-spaced true = (tt, again-spaced false)
half-spaced false = tt

pub rest-spaced : (t : Bool) → Spaced false (rest_nodes t)
rest-spaced true = again-spaced false
rest-spaced false = tt

module _ (p : Params) (m : ℕ) (s : State) (total a : ℕ) (kind : Kind) (phase : Phase) (f : Fired) (calm : int_le p.interlinepenalty eject_penalty ≡ false)
    (holds : Holds p s a kind) (at : PhaseHolds s phase) (floats : FloatsFit p s)
    (weight : total + 2 * way_floats s.floats + credit kind ≤ m + 2 * a)
    (bound : s.dead_cycles + total + 2 * way_floats s.floats + credit kind + phase_cost phase ≤ m + 3 + 2 * a)
    (well : FiresWell p s total a kind phase f) where
  abbrev begins : Work
  begins = begun (Output.after_page s f)

  module _ (rest : Ended false f.rest) where
    abbrev Keeps : Work → Type 0
    Keeps w = Ended false (Output.waiting_again f (Output.next_goal p f.penalty w)).state.waiting

    keeps : (w : Work) → Ended false w.put_back → Keeps w
    keeps w e =
        let g = goal-out p f.penalty w in
        subst (Ended false) (sym (waits p m f well.held w)) (ended-both false f.held ((w.put_back ++ g.blanks) ++ f.rest) (free-ended false f.held (ins-free f.held well.held)) (ended-both false (w.put_back ++ g.blanks) f.rest (ended-both false w.put_back g.blanks e (free-ended false g.blanks g.cost)) rest))

    keeps-ordinary : Keeps (Columns.ordinary p f.body begins)
    keeps-ordinary = keeps (Columns.ordinary p f.body begins) (subst (Ended false) (sym (ordinary-out (Fits p) p f.body begins).back) tt)

    keeps-serve : (vert : Bool) → Keeps (Text.float_or_note p vert f.body begins)
    keeps-serve vert =
        let x : Served (Fits p) (record begins { state = record begins.state { held_page = []; boxes = Columns.emptied_boxes begins.state.boxes } }) (Text.float_or_note p vert f.body begins) = served (Fits p) (λ f h. h) p calm vert f.body begins well.body in
        keeps (Text.float_or_note p vert f.body begins) (free-ended false (Text.float_or_note p vert f.body begins).put_back x.cost)

    keeps-clear : int_le eject_penalty f.penalty ≡ false → Output.is_int f.penalty Asked.clear_penalty ≡ true → Keeps (Clear.clear p f.body begins)
    keeps-clear h k = by_notes (standing_notes (footnotes (record s { boxes = f.boxes }))) refl
      where
        by_notes : (o : List Notes) → standing_notes (footnotes (record s { boxes = f.boxes })) ≡ o → Keeps (Clear.clear_by p f.body begins o)
        by_notes [] e =
            let z = well.blank k e in
            let o = c p m s total a kind phase f calm holds at floats weight bound well h k e in
            keeps (Clear.clear_floats p f.body (Clear.without_notes begins)) (subst (Ended false) (sym (v-back p m s total a kind phase f calm holds at floats weight bound well h k e)) (ended-both false (Clear.cleared_front p f.body) (half_nodes o.half ++ rest_nodes o.rest) (free-ended false (Clear.cleared_front p f.body) z.3) (ended-both false (half_nodes o.half) (rest_nodes o.rest) (half-ended o.half) (rest-ended o.rest))))
        by_notes (head ∷ notes) e =
            let q = Columns.put_out_text p (f.body ++ made (skip filling_glue) ∷ []) begins in
            keeps (Clear.clear_by p f.body begins (head ∷ notes)) (subst (λ (ns : List PlainNode). Ended false (ns ++ Clear.clear_again)) (sym (text-out (Fits p) p (f.body ++ made (skip filling_glue) ∷ []) begins q (follows-same (Fits p) q)).back) again-ended)

    pub out-ended : Ended false (Output.out p s f).state.waiting
    unfolding Output.out
    out-ended = output-cases p f begins Keeps well.regular (λ e. keeps-ordinary) (λ e k. keeps-clear e k) (λ vert e x. keeps-serve vert) (λ e x. keeps (Output.hold f.body begins) tt)

  module _ (rest : Spaced true f.rest) (behind : Output.is_int f.penalty Asked.clear_penalty ≡ true → Spaced false f.rest) where
    abbrev KeepsSpaced : Work → Type 0
    KeepsSpaced w = Spaced true (Output.waiting_again f (Output.next_goal p f.penalty w)).state.waiting

    light : (w : Work) → wait_cost w.put_back ≡ 0 → KeepsSpaced w
    light w e = spaced-free p m f well.held w true e rest

    cleared : Output.is_int f.penalty Asked.clear_penalty ≡ true → (w : Work) → Spaced false w.put_back → KeepsSpaced w
    cleared k w e = spaced-true false (after p m f well.held w).waiting (spaced-back p m f well.held w e (behind k))

    spaced-serve : (vert : Bool) → KeepsSpaced (Text.float_or_note p vert f.body begins)
    spaced-serve vert =
        let x : Served (Fits p) (record begins { state = record begins.state { held_page = []; boxes = Columns.emptied_boxes begins.state.boxes } }) (Text.float_or_note p vert f.body begins) = served (Fits p) (λ f h. h) p calm vert f.body begins well.body in
        light (Text.float_or_note p vert f.body begins) x.cost

    spaced-clear : int_le eject_penalty f.penalty ≡ false → Output.is_int f.penalty Asked.clear_penalty ≡ true → KeepsSpaced (Clear.clear p f.body begins)
    spaced-clear h k = by_notes (standing_notes (footnotes (record s { boxes = f.boxes }))) refl
      where
        by_notes : (o : List Notes) → standing_notes (footnotes (record s { boxes = f.boxes })) ≡ o → KeepsSpaced (Clear.clear_by p f.body begins o)
        by_notes [] e =
            let z = well.blank k e in
            let o = c p m s total a kind phase f calm holds at floats weight bound well h k e in
            cleared k (Clear.clear_floats p f.body (Clear.without_notes begins)) (subst (Spaced false) (sym (v-back p m s total a kind phase f calm holds at floats weight bound well h k e)) (spaced-both false (Clear.cleared_front p f.body) (half_nodes o.half ++ rest_nodes o.rest) (free-alone false (Clear.cleared_front p f.body) z.3) (spaced-both false (half_nodes o.half) (rest_nodes o.rest) (half-spaced o.half) (rest-spaced o.rest))))
        by_notes (head ∷ notes) e =
            let q = Columns.put_out_text p (f.body ++ made (skip filling_glue) ∷ []) begins in
            cleared k (Clear.clear_by p f.body begins (head ∷ notes)) (subst (λ (ns : List PlainNode). Spaced false (ns ++ Clear.clear_again)) (sym (text-out (Fits p) p (f.body ++ made (skip filling_glue) ∷ []) begins q (follows-same (Fits p) q)).back) (again-spaced false))

    pub out-spaced : Spaced true (Output.out p s f).state.waiting
    unfolding Output.out
    out-spaced = output-cases p f begins KeepsSpaced well.regular (λ e. light (Columns.ordinary p f.body begins) (ap wait_cost (ordinary-out (Fits p) p f.body begins).back)) (λ e k. spaced-clear e k) (λ vert e x. spaced-serve vert) (λ e x. light (Output.hold f.body begins) refl)
