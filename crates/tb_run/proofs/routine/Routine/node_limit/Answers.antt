use Rattle.std.proofs.Common.{◌∙◌, ap, pos, sym, ◌+◌, ◌≤◌, FitsSigned, w64, rules, arith}
use Rattle.std.specs.Prelude.{int_lt}
use Rattle.std.proofs.lemmas.Int.{to_z-of_z}
use Rattle.tb_steps.specs.Run.{held_count}
use Rattle.tb_run.specs.Routine.{state_of}
use Rattle.tb_run.proofs.Turns.CountedLemmas.{none-over, some-over, left-few, counted-all, counted-few, counted-fits}
use Rattle.tb_run.proofs.routine.Routine.node_limit.Goals as goal

pub returns-then-not-exceeds-clause-limit : goal.returns-then-not-exceeds-clause-limit
returns-then-not-exceeds-clause-limit c =
    let limit : FitsSigned w64 c.max_nodes-limit.result = search rules in
    let test = simp to_z-of_z at c.exceeds.ensures in
    none-over c.args.self.now.machine.params _ c.args.self.now.most c.requires.bounded.held (ap (λ z. int_lt z (pos c.args.self.now.most)) (sym c.max_nodes-limit.ensures) ∙ sym test ∙ c.if-not-exceeds.true)

pub nodes_left-requires : goal.nodes_left-requires
nodes_left-requires c = left-few c.args.self.now c.requires.bounded

pub overflow_add-self : goal.overflow_add-self
overflow_add-self c =
    let few = counted-few c.args.self.now c.requires.whole c.requires.bounded c.nodes.result c.held_nodes.result c.nodes.ensures c.held_nodes.ensures in
    let fits : c.nodes.result + c.held_nodes.result ≤ 8388608 = omega (arith, few) in
    search rules

pub overflow_add-self-2 : goal.overflow_add-self-2
overflow_add-self-2 c =
    let few = counted-fits c.args.self.now c.requires.whole c.requires.bounded c.nodes.result c.held_nodes.result c.nodes_left.result c.nodes.ensures c.held_nodes.ensures c.nodes_left.ensures in
    search rules

pub returns-then-exceeds-clause-limit : goal.returns-then-exceeds-clause-limit
returns-then-exceeds-clause-limit c =
    let limit : FitsSigned w64 c.max_nodes-limit.result = search rules in
    let test = simp to_z-of_z at c.exceeds-2.ensures in
    some-over c.args.self.now.machine.params (held_count (state_of c.args.self.now)) (c.nodes.result + c.held_nodes.result + c.nodes_left.result)
    (counted-all c.args.self.now c.requires.whole c.requires.bounded c.nodes.result c.held_nodes.result c.nodes_left.result c.nodes.ensures c.held_nodes.ensures c.nodes_left.ensures)
    (ap (λ z. int_lt z (pos (c.nodes.result + c.held_nodes.result + c.nodes_left.result))) (sym c.max_nodes-limit.ensures) ∙ sym test ∙ c.if-exceeds.true)

pub returns-then-exceeds-clause-bounded : goal.returns-then-exceeds-clause-bounded
returns-then-exceeds-clause-bounded c =
    let same = counted-all c.args.self.now c.requires.whole c.requires.bounded c.nodes.result c.held_nodes.result c.nodes_left.result c.nodes.ensures c.held_nodes.ensures c.nodes_left.ensures in
    let held = c.requires.bounded.held in
    let few = c.requires.bounded.few in
    record { held = omega (arith, same); few = omega (arith, same, held, few) }

pub returns-clause-limit : goal.returns-clause-limit
returns-clause-limit c =
    let limit : FitsSigned w64 c.max_nodes-limit.result = search rules in
    let test = simp to_z-of_z at c.exceeds-2.ensures in
    let same = counted-all c.args.self.now c.requires.whole c.requires.bounded c.nodes.result c.held_nodes.result c.nodes_left.result c.nodes.ensures c.held_nodes.ensures c.nodes_left.ensures in
    none-over c.args.self.now.machine.params _ (c.nodes.result + c.held_nodes.result + c.nodes_left.result) (omega (arith, same)) (ap (λ z. int_lt z (pos (c.nodes.result + c.held_nodes.result + c.nodes_left.result))) (sym c.max_nodes-limit.ensures) ∙ sym test ∙ c.if-exceeds.false)

pub returns-clause-bounded : goal.returns-clause-bounded
returns-clause-bounded c =
    let same = counted-all c.args.self.now c.requires.whole c.requires.bounded c.nodes.result c.held_nodes.result c.nodes_left.result c.nodes.ensures c.held_nodes.ensures c.nodes_left.ensures in
    let held = c.requires.bounded.held in
    let few = c.requires.bounded.few in
    record { held = omega (arith, same); few = omega (arith, same, held, few) }
