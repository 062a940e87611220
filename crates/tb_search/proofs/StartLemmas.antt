-- The state in which the search begins.
use Rattle.std.proofs.Common.{◌≡◌, sym, subst, ap, ◌++◌, false, List, [], None, Some, arith}
use Rattle.std.specs.Global.{Box}
use Rattle.tb_node.specs.PlainNodes.{PlainNode}
use Rattle.tb_param.specs.declared.Params.{Params}
use Rattle.tb_insert.specs.declared.Class.{Class}
use Rattle.tb_galley.specs.declared.Galley.{Galley}
use Rattle.tb_galley.specs.GalleyNodes.{expanded}
use Rattle.tb_builder.specs.Contents.{node_count}
use Rattle.tb_output.specs.State.{State, first_state}
use Rattle.tb_items.specs.declared.items_left.ItemsLeft.{ItemsLeft}
use Rattle.tb_items.specs.ItemsLeft.{nodes_left}
use Rattle.tb_items.specs.Classes.{classes_of}
use Rattle.tb_items.specs.GalleyNodes.{AreGalleyNodes}
use Rattle.tb_items.specs.WaitingNodes.{AreItems}
use Rattle.tb_run.specs.declared.routine.Routine.{Routine}
use Rattle.tb_run.specs.Routine.{state_of, IsReady}
use Rattle.tb_run.specs.ServedStates.{IsServed}
use Rattle.tb_run.proofs.Turns.BeginLemmas.{first-served}
use Rattle.tb_search.specs.Branches.{IsBranch}

-- all items of a galley are ahead of a routine in which nothing waits
pub start-branch : (g : Galley) (r : Box Routine) (l : ItemsLeft) → IsReady r.value → r.value.left ≡ None → state_of r.value ≡ first_state g.params (classes_of g) [] → nodes_left (Some l) ≡ expanded g → l.items.now ≡ g.items → AreItems (classes_of g) g.items → AreGalleyNodes (classes_of g) (expanded g)
    → IsBranch (record { routine = r; ahead = Some l; plain = false })
start-branch g r l ready none state nodes items each all = record {
  ready = ready;
  none = none;
  items = subst (λ (t : State). AreItems t.classes l.items.now) (sym state) (subst (AreItems (classes_of g)) (sym items) each);
  served =
      subst (λ (t : State). IsServed (t.waiting ++ nodes_left (Some l)) t) (sym state)
      (subst (λ ns. IsServed ns (first_state g.params (classes_of g) [])) (sym nodes) (served-alone g.params (classes_of g) (expanded g) (first-served g.params (classes_of g) (expanded g) all)));
  few = let a = ap node_count nodes in let b = all.few in omega (arith, a, b);
}
  where
    served-alone : (p : Params) (cs : List Class) (ns : List PlainNode) → IsServed ns (first_state p cs ns) → IsServed ns (first_state p cs [])
    served-alone p cs ns h = record { nodes = h.nodes; held = h.held; boxes = h.boxes; entries = h.entries; notes = h.notes; bottom = h.bottom }
