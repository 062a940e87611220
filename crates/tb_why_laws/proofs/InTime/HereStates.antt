-- Along the run of each galley the boxes of floats in what waits are those of floats in the text.
use Rattle.std.proofs.Common.{◌≡◌, sym, subst, ℕ, Bool, true, false, List, [], ◌∷◌, map, None}
use Rattle.std.specs.Prelude.{◌&&◌, if◌then◌else◌}
use Rattle.tb_node.specs.declared.Act.TheVariants as acts
use Rattle.tb_node.specs.PlainNodes.{act, on_line, clearpage_kinds}
use Rattle.tb_param.specs.declared.Params.{Params}
use Rattle.tb_param.specs.Release.{has_second}
use Rattle.tb_galley.specs.declared.Leaf.{Leaf}
use Rattle.tb_galley.specs.declared.LeafKind.{LeafKind}
use Rattle.tb_galley.specs.declared.LeafKind.TheVariants as leaves
use Rattle.tb_galley.specs.declared.Item.{Item}
use Rattle.tb_galley.specs.declared.ItemKind.{ItemKind}
use Rattle.tb_galley.specs.declared.ItemKind.TheVariants as items
use Rattle.tb_galley.specs.declared.Galley.{Galley}
use Rattle.tb_galley.specs.GalleyNodes.{plain_leaf, with_firings, item_kinds, two_after, params_after, item_nodes, expanded}
use Rattle.tb_insert.specs.declared.Class.{Class}
use Rattle.tb_insert.specs.Account.{terms_after}
use Rattle.tb_break.specs.PageTop.{pruned_nodes}
use Rattle.tb_builder.specs.FiredPages.{frozen_for}
use Rattle.tb_items.specs.Classes.{classes_of}
use Rattle.tb_items.specs.RunEvents.{RunEvent}
use Rattle.tb_output.specs.State.{State, Recorded, first_state, void_boxes, begun}
use Rattle.tb_output.specs.Output.{after_page}
use Rattle.tb_steps.specs.Run.{goes_on, step, ask_for}
use Rattle.tb_laws.proofs.NothingLost.RunWeights.{page_of}
use Rattle.tb_why_laws.proofs.OnePlace.Once.{of_line}
use Rattle.tb_why_laws.proofs.OnePlace.OnceStates.{Running, now, progressed, fires}
use Rattle.tb_why_laws.proofs.InTime.GoingOn.{going-on}
use Rattle.tb_why_laws.proofs.InTime.HereNodes.{IsFloatless, FloatlessLeaves, AllHere, nodes-join, nodes-pruned, HereReach, reached-here, FloatlessBoxes, HereFired, fired-here}
use Rattle.tb_why_laws.proofs.InTime.HereWorks.{Here, HereState, out-here}

-- ---- a step

module _ (s : State) (o : Running s) (h : HereState s) where
  page-here : HereReach (page_of s)
  page-here = reached-here (ask_for s).max_depth (terms_after (frozen_for (ask_for s) s.classes s.boxes)) [] (pruned_nodes (ask_for s).top_skip s.waiting) tt (nodes-pruned (ask_for s).top_skip s.waiting h.waiting)

  module _ (e : (now s o).fault ≡ None) where
    -- once the page is filled
    pub filled-here : HereState (now s o).state
    filled-here =
        let a = (progressed s o (of_line 0)).after e in
        record { waiting = subst AllHere (sym a.waiting) h.waiting; boxes = subst FloatlessBoxes (sym a.boxes) h.boxes; held = subst AllHere (sym a.held) h.held }

    -- the page that fires
    pub fires-here : HereFired (fires s o)
    fires-here = fired-here (frozen_for (ask_for s) (now s o).state.classes (now s o).state.boxes) (now s o).state.boxes (page_of s) filled-here.boxes page-here

    -- where its firing begins
    pub begins-here : Here (begun (after_page (now s o).state (fires s o)))
    begins-here = record { boxes = fires-here.boxes; held = filled-here.held; back = tt }

  pub step-here : (es : List RunEvent) (rs : List Recorded) (t : State) → step s ≡ goes_on es rs t → HereState t
  step-here es rs t e =
      let g = going-on s o es rs t e in
      subst HereState (sym g.state) (out-here (now s o).state.params (now s o).state (fires s o) (filled-here g.fault) (fires-here g.fault))

-- ---- the start

-- the leaves of a foot
foot-leaves : (ls : List Leaf) → FloatlessLeaves (map plain_leaf ls)
foot-leaves [] = tt
foot-leaves (l ∷ ls) = (by_kind l.line l.kind, foot-leaves ls)
  where
    by_kind : (n : ℕ) (k : LeafKind) → IsFloatless (plain_leaf (record { line = n; kind = k })).matter
    by_kind n (leaves.Hbox name h d) = tt
    by_kind n k = tt

item-here : (p : Params) (two : Bool) (n : ℕ) (k : ItemKind) → AllHere (on_line n (item_kinds p two k))
item-here p two n (items.Margin m vert) = (tt, (tt, (tt, (tt, tt))))
item-here p two n items.NewPage = (tt, (tt, tt))
item-here p two n items.ClearPage = (tt, (tt, (tt, (tt, (tt, tt)))))
item-here p two n items.OneColumn = (tt, (tt, (tt, (tt, (tt, (tt, tt))))))
item-here p two n items.TwoColumn = (tt, (tt, (tt, (tt, (tt, (tt, tt))))))
item-here p two n (items.Foot class ls) = (foot-leaves ls, tt)
item-here p two n (items.Enlarge by true) = ((tt, (tt, tt)), tt)
item-here p two n (items.Enlarge by false) = ((tt, tt), tt)
item-here p two n (items.Float f vert) = by_taking (has_second p && two && f.wide)
  where
    by_taking : (t : Bool) → AllHere (on_line n (if t then act (acts.Take f) ∷ [] else with_firings (acts.Take f) vert))
    by_taking true = (tt, tt)
    by_taking false = (tt, (tt, (tt, (tt, tt))))
item-here p two n k = (tt, tt)

items-here : (p : Params) (two : Bool) (ns : List Item) → AllHere (item_nodes p two ns)
items-here p two [] = tt
items-here p two (n ∷ ns) = nodes-join (on_line n.line (item_kinds p two n.kind)) (item_nodes (params_after p n.kind) (two_after two n.kind) ns) (item-here p two n.line n.kind) (items-here (params_after p n.kind) (two_after two n.kind) ns)

void-here : (cs : List Class) → FloatlessBoxes (void_boxes cs)
void-here [] = tt
void-here (c ∷ cs) = (tt, void-here cs)

-- a galley has no boxes of floats
pub starts-here : (g : Galley) → HereState (first_state g.params (classes_of g) (expanded g))
unfolding expanded
starts-here g = record { waiting = nodes-join (item_nodes g.params false g.items) (on_line g.end_line clearpage_kinds) (items-here g.params false g.items) (tt, (tt, (tt, (tt, (tt, tt))))); boxes = void-here (classes_of g); held = tt }
