use Rattle.std.proofs.Common.{◌∙◌, [], ap, sym, subst}
use Rattle.std.specs.FinMap.{get, remove}
use Rattle.tb_pool.specs.Lists.{with_list}
use Rattle.tb_pool.proofs.CallerLemmas.{list_same, live_same}
use Rattle.tb_output.specs.State.{void_boxes}
use Rattle.tb_output.specs.Machine.{MachineView, state_shown, IsMachine}
use Rattle.tb_output.proofs.Acts.StartLemmas.{new-state, new-stands, opened-closed}
use Rattle.tb_output.proofs.state.new_machine.Goals as goal

pub close-requires-clause-live : goal.close-requires-clause-live
close-requires-clause-live c = live_same c.args.store.now c.add_list.new.self c.in_ok-held_page.held_page [] c.in_ok-held_page.ensures.opened

pub close-requires-clause-empty : goal.close-requires-clause-empty
close-requires-clause-empty c = list_same c.args.store.now c.add_list.new.self c.in_ok-held_page.held_page [] c.in_ok-held_page.ensures.opened

pub returns-in-Ok-clause-state : goal.returns-in-Ok-clause-state
returns-in-Ok-clause-state c = λ waiting.
    ap (state_shown c.add_list.new.self (void_boxes c.args.classes.now) waiting) c.in-Ok.ensures
    ∙ new-state c.args.p.now c.args.classes.now c.args.store.now c.add_list.new.self c.in_ok-held_page.held_page c.in_ok-held_page.ensures.opened waiting

pub returns-in-Ok-clause-machine : goal.returns-in-Ok-clause-machine
returns-in-Ok-clause-machine c =
    subst (λ (m : MachineView). IsMachine m c.add_list.new.self) (sym c.in-Ok.ensures)
    (new-stands c.args.p.now c.args.classes.now c.args.store.now c.add_list.new.self c.in_ok-held_page.held_page c.in_ok-held_page.ensures.opened c.requires.params c.requires.classes)

pub returns-in-Ok-clause-params : goal.returns-in-Ok-clause-params
returns-in-Ok-clause-params c = ap (λ (m : MachineView). m.params) c.in-Ok.ensures

pub returns-in-Ok-clause-classes : goal.returns-in-Ok-clause-classes
returns-in-Ok-clause-classes c = ap (λ (m : MachineView). m.classes) c.in-Ok.ensures

pub returns-in-Ok-clause-events : goal.returns-in-Ok-clause-events
returns-in-Ok-clause-events c = ap (λ (m : MachineView). m.events) c.in-Ok.ensures

pub returns-in-Ok-clause-fault : goal.returns-in-Ok-clause-fault
returns-in-Ok-clause-fault c = ap (λ (m : MachineView). m.fault) c.in-Ok.ensures

pub returns-in-Ok-clause-fresh : goal.returns-in-Ok-clause-fresh
returns-in-Ok-clause-fresh c = ap (λ (m : MachineView). get c.args.store.now.lists m.held_page) c.in-Ok.ensures ∙ c.in_ok-held_page.ensures.fresh

pub returns-in-Ok-clause-opened : goal.returns-in-Ok-clause-opened
returns-in-Ok-clause-opened c = c.in_ok-held_page.ensures.opened ∙ sym (ap (λ (m : MachineView). with_list c.args.store.now m.held_page []) c.in-Ok.ensures)

-- the list that was opened is closed
pub returns-in-Err-clause-err : goal.returns-in-Err-clause-err
returns-in-Err-clause-err c =
    c.close.ensures.closed
    ∙ ap (λ m. remove m c.in_ok-held_page.held_page) c.in_ok-held_page.ensures.opened
    ∙ opened-closed c.args.store.now.lists c.in_ok-held_page.held_page c.in_ok-held_page.ensures.fresh
