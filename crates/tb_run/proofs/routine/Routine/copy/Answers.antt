use Rattle.std.proofs.Common.{refl}
use Rattle.tb_run.specs.declared.routine.Routine.{Routine}
use Rattle.tb_run.proofs.Turns.CopyLemmas.{state-copied, ready-copied}
use Rattle.tb_run.proofs.routine.Routine.copy.Goals as goal

pub returns : goal.returns
returns c =
    let r = c.args.self.now in
    let q : Routine = record { store = c.in_ok-store.store; builder = c.in_ok-builder.builder; machine = c.in_ok-machine.machine; most = r.most; left = r.left } in
    let e = c.in_ok-builder.ensures in
    record {
      ready = ready-copied r q c.in_ok-store.ensures.same c.in_ok-machine.ensures refl refl e.ids e.contents e.sound c.requires;
      state = state-copied r q c.in_ok-store.ensures.same c.in_ok-machine.ensures refl refl e.ids e.contents e.sound;
      machine = c.in_ok-machine.ensures;
      left = refl;
    }
