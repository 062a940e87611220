use Rattle.std.proofs.Common.{refl}
use Rattle.tb_run.specs.declared.routine.Routine.{Routine}
use Rattle.tb_run.proofs.Turns.CopyLemmas.{state-copied, ready-copied}
use Rattle.tb_search.proofs.copies.copy_routine.Goals as goal

pub returns : goal.returns
returns c =
    let r = c.args.other.now in
    let q : Routine = record { store = c.copy_from.new.self; builder = c.copy_from-2.new.self; machine = c.copy_from-3.new.self; most = r.most; left = r.left } in
    let store = c.in_ok-copy_from.ensures.same in
    let e = c.in_ok-copy_from-2.ensures in
    let machine = c.in_ok-copy_from-3.ensures in
    record {
      ready = ready-copied r q store machine refl refl e.ids e.contents e.sound c.requires;
      state = state-copied r q store machine refl refl e.ids e.contents e.sound;
      machine = machine;
      left = refl;
    }
