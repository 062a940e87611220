use Rattle.std.proofs.Common.{◌≡◌, length, sym, ap, subst, ◌∙◌, arith}
use Rattle.std.specs.Prelude.{All}
use Rattle.tb_pool.specs.Lists.{list_at}
use Rattle.tb_float.specs.Lists.{entry_count}
use Rattle.tb_float.specs.Ranges.{IsSizedFloat}
use Rattle.tb_float.specs.Shelves.{slots_of}
use Rattle.tb_float.proofs.SlotLemmas.{floats-sized}
use Rattle.tb_float.proofs.SoundLemmas.{entry_count-seen, count-of, floats_of-seen}
use Rattle.tb_float.proofs.PoolLemmas.{all-marks}
use Rattle.tb_float.proofs.Pool.len.Goals as goal

pub returns : goal.returns
returns c =
    let i = c.self.inside in
    let at = slots_of i.store i.shelves in
    let slots = c.self.invariant.stored.sound.slots in
    let length_is : c.len.result ≡ length (at c.args.p) = c.len.ensures ∙ ap (λ l. length (list_at i.store l)) c.of.ensures in
    let marked = all-marks at i.size slots in
    let places = c.self.invariant.stored.places in
    record {
      value = length_is ∙ sym (entry_count-seen c.args.p at (slots c.args.p)) ∙ ap (λ v. entry_count c.args.p v.lists) c.self.view_is;
      marks = rw (← c.self.view_is) marked.deferred;
      second_marks = rw (← c.self.view_is) marked.second;
      small = omega (arith, length_is, count-of c.args.p at, places.within, places.small);
      sized = rw (← c.self.view_is) (subst (All IsSizedFloat) (sym (floats_of-seen c.args.p at)) (floats-sized c.args.p (at c.args.p) (slots c.args.p)));
    }
