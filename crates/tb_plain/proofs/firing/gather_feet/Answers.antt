use Rattle.std.proofs.Common.{sym, subst}
use Rattle.tb_pool.proofs.CallerLemmas.{live_same}
use Rattle.tb_builder.specs.Ownership.{Lacks}
use Rattle.tb_builder.specs.Contributions.{NoPage}
use Rattle.tb_plain.specs.StoredLists.{above_feet}
use Rattle.tb_plain.proofs.GrowLemmas.{put-sound, put-contents, put-owned, box-grows, feet-grow}
use Rattle.tb_plain.proofs.firing.gather_feet.Goals as goal

pub take_box-requires-clause-sound : goal.take_box-requires-clause-sound
take_box-requires-clause-sound c = put-sound c.args.b.now c.args.store.now c.push_above_feet.new.store c.args.list c.requires.sound c.requires.free (above_feet c.args.p.now c.is_void-void.result) c.push_above_feet.ensures.lists

pub take_box-requires-clause-empty : goal.take_box-requires-clause-empty
take_box-requires-clause-empty c = subst NoPage (sym (put-contents c.args.b.now c.args.store.now c.push_above_feet.new.store c.args.list c.requires.sound c.requires.free (above_feet c.args.p.now c.is_void-void.result) c.push_above_feet.ensures.lists)) c.requires.awaits

pub take_box-requires-clause-live : goal.take_box-requires-clause-live
take_box-requires-clause-live c = live_same c.args.store.now c.push_above_feet.new.store c.args.list _ c.push_above_feet.ensures.lists

pub take_box-requires-clause-apart : goal.take_box-requires-clause-apart
take_box-requires-clause-apart c = subst (Lacks c.args.list) (sym (put-owned c.args.b.now c.args.store.now c.push_above_feet.new.store c.args.list c.requires.sound c.requires.free (above_feet c.args.p.now c.is_void-void.result) c.push_above_feet.ensures.lists)) c.requires.free

pub returns-clause-grows : goal.returns-clause-grows
returns-clause-grows c =
    feet-grow c.args.p.now c.args.b.now c.take_box.new.self c.args.store.now c.push_above_feet.new.store c.take_box.new.store c.args.list c.is_void-void.result c.requires.sound c.requires.free c.push_above_feet.ensures.lists
    (c.is_void-void.ensures c.args.store.now)
    (box-grows c.args.b.now c.take_box.new.self c.push_above_feet.new.store c.take_box.new.store c.args.list 254 c.take_box.ensures.sound c.take_box.ensures.contents c.take_box.ensures.taken c.take_box.ensures.others c.take_box.ensures.keeps)
