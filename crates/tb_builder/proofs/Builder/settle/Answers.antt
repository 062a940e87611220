use Rattle.std.proofs.Common.{sym, subst, map}
use Rattle.tb_pool.specs.Lists.{list_at}
use Rattle.tb_node.specs.PlainNodes.{shape_of}
use Rattle.tb_builder.specs.Sizes.{RoomFits}
use Rattle.tb_builder.specs.Firing.{SharesOut}
use Rattle.tb_builder.proofs.Sorting.RestLemmas.{room-rest}
use Rattle.tb_builder.proofs.Sorting.SettleLemmas.{settles_all, settles_front, settles_none}
use Rattle.tb_builder.proofs.Builder.settle.Goals as goal

pub keep_rest-requires-clause-fits : goal.keep_rest-requires-clause-fits
keep_rest-requires-clause-fits c =
    subst (λ ns. RoomFits (map shape_of ns)) (sym c.give_part.ensures.gives.left)
    (room-rest c.args.i.now.split_top c.in-Front.place (list_at c.args.store.now c.args.i.now.list) c.requires.top c.requires.nodes c.requires.sizes)

pub returns-in-All-clause-settles : goal.returns-in-All-clause-settles
returns-in-All-clause-settles c =
    subst (SharesOut c.args.self.now c.args.store.now c.give_all.new.self c.drop_insertion.new.store c.args.n.now c.args.i.now) (sym c.in-All.is)
    (settles_all c.args.self.now c.give_all.new.self c.args.store.now c.give_all.new.store c.drop_insertion.new.store c.args.n.now c.args.i.now c.give_all.ensures.gives c.drop_insertion.ensures.drops)

pub returns-in-Front-clause-settles : goal.returns-in-Front-clause-settles
returns-in-Front-clause-settles c =
    subst (SharesOut c.args.self.now c.args.store.now c.give_part.new.self c.keep_rest.new.store c.args.n.now c.args.i.now) (sym c.in-Front.is)
    (settles_front c.args.self.now c.give_part.new.self c.args.store.now c.give_part.new.store c.keep_rest.new.store c.args.n.now c.args.i.now c.in-Front.place c.give_part.ensures.gives c.keep_rest.ensures.drops)

pub returns-in-Nothing-clause-settles : goal.returns-in-Nothing-clause-settles
returns-in-Nothing-clause-settles c =
    subst (SharesOut c.args.self.now c.args.store.now c.args.self.now c.hold_whole.new.store c.args.n.now c.args.i.now) (sym c.in-Nothing.is)
    (settles_none c.args.self.now c.args.store.now c.hold_whole.new.store c.args.n.now c.args.i.now c.requires.insertion c.hold_whole.ensures.drops)
