use Rattle.std.proofs.Common.{refl}
use Rattle.tb_items.specs.ItemsLeft.{nodes_left}
use Rattle.tb_run.proofs.Turns.BeginLemmas.{begin-state, begin-ready}
use Rattle.tb_run.proofs.routine.begun.Goals as goal

pub new_machine-requires-clause-classes : goal.new_machine-requires-clause-classes
new_machine-requires-clause-classes c = c.requires.classes.rising

pub new_builder-requires : goal.new_builder-requires
new_builder-requires c = c.requires.classes.fit

pub returns-clause-state : goal.returns-clause-state
returns-clause-state c =
    let e = c.in_ok-machine.ensures in
    begin-state c.args.galley.now.params c.in_ok-machine.machine c.new_builder.new.store c.new_machine.new.store c.in_ok-builder.builder c.args.served.now (nodes_left c.args.left) e.state e.machine e.params e.classes e.fault e.events e.fresh e.opened
    c.in_ok-builder.ensures.sound c.in_ok-builder.ensures.contents c.args.left refl c.requires.items

pub returns-clause-ready : goal.returns-clause-ready
returns-clause-ready c =
    let e = c.in_ok-machine.ensures in
    begin-ready c.args.galley.now.params c.in_ok-machine.machine c.new_builder.new.store c.new_machine.new.store c.in_ok-builder.builder c.args.served.now (nodes_left c.args.left) e.state e.machine e.params e.classes e.fault e.events e.fresh e.opened
    c.in_ok-builder.ensures.sound c.in_ok-builder.ensures.contents c.args.left refl c.requires.items c.requires.params c.requires.classes c.requires.nodes
