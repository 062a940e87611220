use Rattle.std.proofs.Common.{arith}
use Rattle.std.proofs.lemmas.List.{length-map}
use Rattle.tb_pool.specs.Lists.{list_at}
use Rattle.tb_float.specs.Shelves.{marks_in}
use Rattle.tb_float.proofs.MarkLemmas.{first_marked-le}
use Rattle.tb_float.proofs.slots.take_first_marked.Goals as goal

pub take_slot-requires-clause-within : goal.take_slot-requires-clause-within
take_slot-requires-clause-within c =
    let ss = list_at c.args.store.now c.args.from in
    omega (arith, c.first_marked-k.ensures, c.len.ensures, first_marked-le (marks_in ss), length-map ss (λ s. s.marked))
