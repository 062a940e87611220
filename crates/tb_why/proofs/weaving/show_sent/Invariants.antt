use Rattle.std.proofs.Common.{◌≡◌, ◌≤◌, ◌++◌, length, drop}
use Rattle.tb_why.specs.ShownTurns.{woven_shown}
use Rattle.tb_why.proofs.weaving.show_sent.Given as goal

abbrev pub invariant-loop-piece : goal.invariant-loop-piece
invariant-loop-piece l = record {
  within : l.next ≤ length l.sent;
  shown : l.shown.items ++ woven_shown (drop l.piece-index l.pieces) (drop l.next l.sent) ≡ l.fn.shown.items ++ woven_shown l.pieces l.sent;
}
