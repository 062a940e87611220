use Rattle.std.proofs.Common.{sym, ap, ◌∙◌}
use Rattle.tb_pool.specs.Lists.{list_at}
use Rattle.tb_float.specs.Lists.{entries_of}
use Rattle.tb_float.specs.Shelves.{slots_of, entries_in}
use Rattle.tb_float.proofs.SoundLemmas.{entries_of-seen}
use Rattle.tb_float.proofs.Pool.entries.Goals as goal

pub returns : goal.returns
returns c =
    let i = c.self.inside in
    let at = slots_of i.store i.shelves in
    ap entries_in (c.iter.ensures ∙ ap (list_at i.store) c.of.ensures) ∙ sym (entries_of-seen c.args.p at (c.self.invariant.stored.sound.slots c.args.p)) ∙ ap (λ v. entries_of c.args.p v.lists) c.self.view_is
