use Rattle.std.proofs.Common.{take, sym, ap, ◌∙◌}
use Rattle.tb_float.specs.Lists.{has_class, floats_of}
use Rattle.tb_float.specs.Shelves.{slots_of}
use Rattle.tb_float.proofs.SoundLemmas.{floats_in-take, floats_of-seen}
use Rattle.tb_float.proofs.WaitingLemmas.{waiting-floats}
use Rattle.tb_float.proofs.Pool.has_class_before.Goals as goal

pub class_stands-requires : goal.class_stands-requires
class_stands-requires c = rw c.of.ensures (c.self.invariant.stored.shelves_are.live c.args.from)

pub returns : goal.returns
returns c =
    let i = c.self.inside in
    let at = slots_of i.store i.shelves in
    let stands = rw c.of.ensures at c.class_stands.ensures in
    stands ∙ ap (has_class c.args.class) (floats_in-take c.args.from c.args.k (at c.args.from) (waiting-floats c.args.from c.requires) (c.self.invariant.stored.sound.slots c.args.from) ∙ ap (take c.args.k) (sym (floats_of-seen c.args.from at)))
    ∙ ap (λ v. has_class c.args.class (take c.args.k (floats_of c.args.from v.lists))) c.self.view_is
