use Rattle.std.proofs.Common.{◌<◌, ap, arith}
use Rattle.tb_float.specs.Lists.{live_count}
use Rattle.tb_float.specs.Shelves.{slots_of}
use Rattle.tb_float.proofs.SoundLemmas.{live_count-seen}
use Rattle.tb_float.proofs.Pool.take.Goals.{Else-live-self}
use Rattle.tb_float.proofs.Pool.take.Goals as goal

-- fewer boxes live than may
room : (c : Else-live-self) → live_count c.args.self.now.lists < c.args.self.now.size
room c =
    let i = c.self.inside in
    let live = live_count-seen (slots_of i.store i.shelves) c.self.invariant.stored.sound.slots in
    let seen = ap (λ v. live_count v.lists) c.self.view_is in
    let size = ap (λ v. v.size) c.self.view_is in
    let places = c.self.invariant.stored.places in
    omega (arith, c.live-live.ensures)

pub put-requires-clause-room : goal.put-requires-clause-room
put-requires-clause-room c = room (goal.at.put-requires-clause-room c).Else-live-self

pub returns-clause-room : goal.returns-clause-room
returns-clause-room c = room (goal.at.returns-clause-room c).Else-live-self
