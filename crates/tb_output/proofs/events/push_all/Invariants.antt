use Rattle.std.proofs.Common.{◌≡◌, ◌+◌, ◌++◌, take}
use Rattle.std.specs.VecDeque.{deque_len, deque_capacity}
use Rattle.tb_output.proofs.events.push_all.Given as goal

-- the first k events were put behind the others
abbrev pub invariant-loop-k : goal.invariant-loop-k
invariant-loop-k l = record {
  items : l.queue.items ≡ l.fn.queue.items ++ take l.k l.other.items;
  len : deque_len l.queue ≡ deque_len l.fn.queue + l.k;
  capacity : deque_capacity l.queue ≡ deque_capacity l.fn.queue;
}
