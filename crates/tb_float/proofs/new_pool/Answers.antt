use Rattle.std.proofs.Common.{ap}
use Rattle.tb_float.specs.Lists.{no_floats}
use Rattle.tb_float.specs.Shelves.{seen_pool}
use Rattle.tb_float.proofs.SoundLemmas.{stored-new}
use Rattle.tb_float.specs.Classes.{IsTracked}
use Rattle.tb_float.proofs.TrackLemmas.{pooled, tracked-new}
use Rattle.tb_float.proofs.new_pool.Goals as goal

pub invariant_of-result : goal.invariant_of-result
invariant_of-result c =
    let made = stored-new c.open_shelves.new.store c.reserve.new.self c.in_ok-shelves.shelves c.all.result c.args.size c.in_ok-shelves.ensures.0 c.in_ok-shelves.ensures.1 c.in_ok-reserve.ensures.lists c.in_ok-reserve.ensures.room c.requires c.all.ensures in
    pooled c.reserve.new.self c.in_ok-shelves.shelves c.all.result c.args.size c.none.result 0 _ c.in_ok-firsts.firsts _ made.stored (ap (λ at. seen_pool at c.args.size) made.slots) (tracked-new (IsTracked c.none.result.flags _) c.args.size) (c.in_ok-firsts.ensures no_floats)

pub returns : goal.returns
returns c =
    let made = stored-new c.open_shelves.new.store c.reserve.new.self c.in_ok-shelves.shelves c.all.result c.args.size c.in_ok-shelves.ensures.0 c.in_ok-shelves.ensures.1 c.in_ok-reserve.ensures.lists c.in_ok-reserve.ensures.room c.requires c.all.ensures in
    ap (λ at. seen_pool at c.args.size) made.slots
