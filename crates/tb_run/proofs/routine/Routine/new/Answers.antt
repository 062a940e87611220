use Rattle.std.proofs.Common.{◌≡◌, ◌∙◌, sym, subst, List}
use Rattle.std.specs.Prelude.{IfOk}
use Rattle.tb_insert.specs.declared.Class.{Class}
use Rattle.tb_galley.specs.GalleyNodes.{expanded}
use Rattle.tb_output.specs.State.{first_state}
use Rattle.tb_run.specs.declared.routine.Routine.{Routine}
use Rattle.tb_items.specs.GalleyNodes.{AreGalleyNodes}
use Rattle.tb_steps.specs.Runnable.{AreRunClasses}
use Rattle.tb_galley.specs.declared.Item.{Item}
use Rattle.tb_node.specs.PlainNodes.{PlainNode}
use Rattle.tb_items.specs.Classes.{classes_of}
use Rattle.tb_items.specs.ItemsLeft.{nodes_of}
use Rattle.tb_items.specs.WaitingNodes.{AreItems}
use Rattle.tb_run.specs.Routine.{state_of}
use Rattle.tb_run.proofs.routine.Routine.new.Goals as goal

pub begun-requires-clause-classes : goal.begun-requires-clause-classes
begun-requires-clause-classes c = subst AreRunClasses (sym (c.as_slice.ensures.value ∙ c.in_ok-classes.ensures)) c.requires.classes

pub begun-requires-clause-items : goal.begun-requires-clause-items
begun-requires-clause-items c =
    subst (λ (is : List Item). AreItems c.as_slice.result.now is) (sym c.all_items.ensures.items)
    (subst (λ (cs : List Class). AreItems cs c.args.galley.now.items) (sym (c.as_slice.ensures.value ∙ c.in_ok-classes.ensures)) c.requires.items)

pub begun-requires-clause-nodes : goal.begun-requires-clause-nodes
begun-requires-clause-nodes c =
    subst (λ (ns : List PlainNode). AreGalleyNodes c.as_slice.result.now ns) (sym c.all_items.ensures.nodes)
    (subst (λ (cs : List Class). AreGalleyNodes cs (expanded c.args.galley.now)) (sym (c.as_slice.ensures.value ∙ c.in_ok-classes.ensures)) c.requires.nodes)

pub returns-clause-state : goal.returns-clause-state
returns-clause-state c =
    subst (λ (ns : List PlainNode). IfOk c.begun.result (λ (r : Routine). state_of r ≡ first_state c.args.galley.now.params (classes_of c.args.galley.now) ns)) c.all_items.ensures.nodes
    (subst (λ (cs : List Class). IfOk c.begun.result (λ (r : Routine). state_of r ≡ first_state c.args.galley.now.params cs (nodes_of c.all_items.result))) (c.as_slice.ensures.value ∙ c.in_ok-classes.ensures) c.begun.ensures.state)
