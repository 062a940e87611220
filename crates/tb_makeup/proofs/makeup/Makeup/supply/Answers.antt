use Rattle.std.proofs.Common.{refl}
use Rattle.tb_makeup.proofs.makeup.Makeup.supply.Goals as goal

pub hand_over-requires-clause-can : goal.hand_over-requires-clause-can
hand_over-requires-clause-can c = record { sound = c.requires.sound; no_kern = c.requires.no_kern }

pub returns : goal.returns
returns c =
    let h = c.in_ok-self.ensures in
    record { nodes = h.nodes; contents = h.waits.contents; all = h.all; ends = h.ends; items = h.items; fewer = h.fewer; sound = h.waits.sound; same = record { plain = refl; ask = refl; limit = refl; bound = refl } }
