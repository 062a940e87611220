use Rattle.std.proofs.Common.{◌≡◌, ◌∙◌, ap, sym, refl, length, drop, None, Option, List, [], ◌∷◌, arith}
use Rattle.std.proofs.Math.Seq.{drop-length}
use Rattle.tb_pool.specs.Lists.{Lists}
use Rattle.tb_node.specs.declared.Node.{Node}
use Rattle.tb_builder.specs.declared.Try.{Try}
use Rattle.tb_items.specs.declared.happenings.Happening.{Happening}
use Rattle.tb_items.specs.declared.happenings.Happening.TheVariants as happenings
use Rattle.tb_items.specs.Happenings.{events_of}
use Rattle.tb_rate.specs.Tries.{later_champion, champion_or, champion_among}
use Rattle.tb_rate.proofs.tries.last_champion.Goals as goal

-- among the events of what happened it is the same
among-events : (store : Lists Node) (best : Option Try) (hs : List Happening) → champion_among best hs ≡ champion_or best (events_of store hs)
among-events store best [] = refl
among-events store best (happenings.Tried t ∷ hs) = among-events store (later_champion best t) hs
among-events store best (happenings.Sent e ∷ hs) = among-events store best hs

pub returns : goal.returns
returns c = λ store.
    let e : c.loop-happening.happening-index ≡ length c.args.happened.now = omega arith in
    ap (champion_among c.loop-happening.best) (sym (ap (λ k. drop k c.args.happened.now) e ∙ drop-length c.args.happened.now)) ∙ c.loop-happening.invariant ∙ among-events store None c.args.happened.now
