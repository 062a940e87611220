use Rattle.std.proofs.Common.{◌+◌, ◌≤◌, [], length, take}
use Rattle.tb_output.specs.BackList.{insertions_again}
use Rattle.tb_output.specs.MachineFrame.{HasGrown}
use Rattle.tb_output.proofs.texts.insertions_back.Given as goal

abbrev pub invariant-loop-note : goal.invariant-loop-note
invariant-loop-note l = record {
  grown : HasGrown l.back (insertions_again l.p l.fn.store (take l.note-index l.notes)) [] l.fn.store l.store;
  room : length l.notes ≤ l.store.spare + l.note-index;
}
