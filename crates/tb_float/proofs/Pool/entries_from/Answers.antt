use Rattle.std.proofs.Common.{drop, sym, ap, ◌∙◌}
use Rattle.std.proofs.lemmas.List.{drop-map}
use Rattle.tb_pool.specs.Lists.{list_at}
use Rattle.tb_float.specs.Lists.{entries_of}
use Rattle.tb_float.specs.Shelves.{slots_of, entries_in}
use Rattle.tb_float.proofs.SoundLemmas.{entries_of-seen}
use Rattle.tb_float.proofs.Pool.entries_from.Goals as goal

pub returns : goal.returns
returns c =
    let i = c.self.inside in
    let k = c.args.k in
    let at = slots_of i.store i.shelves in
    ap entries_in (c.iter_from.ensures ∙ ap (λ l. drop k (list_at i.store l)) c.of.ensures)
    ∙ sym (drop-map (λ s. s.entry) k (at c.args.p))
    ∙ ap (drop k) (sym (entries_of-seen c.args.p at (c.self.invariant.stored.sound.slots c.args.p)) ∙ ap (λ v. entries_of c.args.p v.lists) c.self.view_is)
