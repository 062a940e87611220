use Rattle.std.proofs.Common.{◌≡◌, sym, subst, ap, ◌∙◌, List, append-nil}
use Rattle.std.specs.Prelude.{OnOk, IfErr}
use Rattle.tb_pool.specs.Lists.{Lists}
use Rattle.tb_node.specs.declared.Node.{Node}
use Rattle.tb_node.specs.PlainNodes.{PlainNode}
use Rattle.tb_builder.specs.FiredPages.{Boxed}
use Rattle.tb_builder.specs.Pageable.{IsGoal}
use Rattle.tb_sheet.specs.ApartLists.{AreNoneOf}
use Rattle.tb_sheet.specs.Asked.{IsSizedAct}
use Rattle.tb_output.specs.Machine.{MachineView, IsMachine, machine_lists, state_shown}
use Rattle.tb_output.specs.Act.{full}
use Rattle.tb_output.specs.ActCalls.{IsActed, acted_in, line_of, dropped_lists, params_acted}
use Rattle.tb_output.proofs.Acts.ActingLemmas.{float-stands, float-takes, columns-drop, machine-numbered, machine-set, title-stands, title-takes, title-acted, title-full}
use Rattle.tb_output.proofs.FiringWork.ResultLemmas.{ok-map, err-map}
use Rattle.tb_output.proofs.Machine.act.Goals as goal

pub returns-in-Take-clause-machine : goal.returns-in-Take-clause-machine
returns-in-Take-clause-machine c = float-stands c.args.self.now c.take_float.new.self c.in-Take.f c.take_float.result c.take_float.ensures.ok c.take_float.ensures.err

pub returns-in-Take-clause-lists : goal.returns-in-Take-clause-lists
returns-in-Take-clause-lists c = float-takes c.args.self.now c.take_float.new.self c.in-Take.f c.take_float.result c.take_float.ensures.ok c.take_float.ensures.err

pub returns-in-Columns-clause-dropped : goal.returns-in-Columns-clause-dropped
returns-in-Columns-clause-dropped c = λ store is.
    subst (λ a. AreNoneOf (dropped_lists a c.args.self.now.left_column) (machine_lists c.begin_columns.new.self)) (sym c.in-Columns.is) (columns-drop c.in-Columns.two c.args.self.now c.begin_columns.new.self c.begin_columns.ensures store is)

pub returns-in-Suppress-clause-acted : goal.returns-in-Suppress-clause-acted
returns-in-Suppress-clause-acted c = λ store boxes waiting.
    subst (λ a. IsActed store boxes waiting c.args.self.now c.suppress_in.new.self (acted_in store boxes waiting c.args.self.now a)) (sym c.in-Suppress.is)
    (record { state = ap (state_shown store boxes waiting) c.suppress_in.ensures; sent = ap (λ (m : MachineView). m.events) c.suppress_in.ensures ∙ sym (append-nil c.args.self.now.events) })

pub returns-in-Columns-clause-acted : goal.returns-in-Columns-clause-acted
returns-in-Columns-clause-acted c = λ store boxes waiting.
    subst (λ a. IsActed store boxes waiting c.args.self.now c.begin_columns.new.self (acted_in store boxes waiting c.args.self.now a)) (sym c.in-Columns.is)
    (record { state = ap (state_shown store boxes waiting) c.begin_columns.ensures; sent = ap (λ (m : MachineView). m.events) c.begin_columns.ensures ∙ sym (append-nil c.args.self.now.events) })

pub returns-in-Page-clause-acted : goal.returns-in-Page-clause-acted
returns-in-Page-clause-acted c = λ store boxes waiting.
    subst (λ a. IsActed store boxes waiting c.args.self.now c.set_number.new.self (acted_in store boxes waiting c.args.self.now a)) (sym c.in-Page.is)
    (record { state = ap (state_shown store boxes waiting) c.set_number.ensures; sent = ap (λ (m : MachineView). m.events) c.set_number.ensures ∙ sym (append-nil c.args.self.now.events) })

pub returns-in-Page-clause-machine : goal.returns-in-Page-clause-machine
returns-in-Page-clause-machine c = λ store is.
    subst (λ m. IsMachine m store) (sym c.set_number.ensures) (machine-numbered c.in-Page.number c.args.self.now store is (subst IsSizedAct c.in-Page.is c.requires.act))

pub returns-in-Head-clause-machine : goal.returns-in-Head-clause-machine
returns-in-Head-clause-machine c = title-stands c.args.self.now c.take_title.new.self c.in-Head.f c.take_title.result c.take_title.ensures.ok c.take_title.ensures.err

pub returns-in-Head-clause-lists : goal.returns-in-Head-clause-lists
returns-in-Head-clause-lists c = title-takes c.args.self.now c.take_title.new.self c.in-Head.f c.take_title.result c.take_title.ensures.ok c.take_title.ensures.err

pub returns-in-Head-clause-acted : goal.returns-in-Head-clause-acted
returns-in-Head-clause-acted c =
    subst (λ a. OnOk c.take_title.result ((store : Lists Node) (boxes : List Boxed) (waiting : List PlainNode) → IsActed store boxes waiting c.args.self.now c.take_title.new.self (acted_in store boxes waiting c.args.self.now a))) (sym c.in-Head.is)
    (ok-map c.take_title.result _ _ (λ h store boxes waiting. title-acted c.args.self.now c.take_title.new.self c.in-Head.f c.requires.pool store boxes waiting h) c.take_title.ensures.ok)

pub returns-in-Head-clause-full : goal.returns-in-Head-clause-full
returns-in-Head-clause-full c =
    subst (λ a. IfErr c.take_title.result (λ e. (store : Lists Node) (boxes : List Boxed) (waiting : List PlainNode) → acted_in store boxes waiting c.args.self.now a ≡ full (line_of a) e.live)) (sym c.in-Head.is)
    (err-map c.take_title.result _ _ (λ e h store boxes waiting. title-full c.args.self.now c.take_title.new.self c.in-Head.f c.requires.pool store boxes waiting e.live h) c.take_title.ensures.err)

pub returns-in-Set-clause-acted : goal.returns-in-Set-clause-acted
returns-in-Set-clause-acted c = λ store boxes waiting.
    subst (λ a. IsActed store boxes waiting c.args.self.now c.set_parameter.new.self (acted_in store boxes waiting c.args.self.now a)) (sym c.in-Set.is)
    (record { state = ap (state_shown store boxes waiting) c.set_parameter.ensures.set; sent = ap (λ (m : MachineView). m.events) c.set_parameter.ensures.set ∙ sym (append-nil c.args.self.now.events) })

pub returns-in-Set-clause-machine : goal.returns-in-Set-clause-machine
returns-in-Set-clause-machine c = λ store is.
    subst (λ m. IsMachine m store) (sym c.set_parameter.ensures.set)
    (machine-set c.in-Set.change c.args.self.now store is (subst (λ (m : MachineView). IsGoal m.goal) c.set_parameter.ensures.set c.set_parameter.ensures.goal))

pub returns-in-Set-clause-params : goal.returns-in-Set-clause-params
returns-in-Set-clause-params c = ap (λ (m : MachineView). m.params) c.set_parameter.ensures.set ∙ ap (params_acted c.args.self.now.params) (sym c.in-Set.is)
