use Rattle.std.proofs.Common.{[]}
use Rattle.tb_builder.proofs.Turns.MoveLemmas.{wrote_two}
use Rattle.tb_builder.proofs.Handover.FirstLemmas.{before_it, first_contents, first_sound, first_others, first_kept, first_owned}
use Rattle.tb_builder.proofs.Builder.put_first.Goals as goal

pub append-requires-2-clause-first_live : goal.append-requires-2-clause-first_live
append-requires-2-clause-first_live c = (wrote_two c.args.store.now c.append.new.self c.args.list c.args.self.now.waiting _ [] c.requires.joins.apart.1.0 c.append.ensures.joined).second_live

pub append-requires-2-clause-second_live : goal.append-requires-2-clause-second_live
append-requires-2-clause-second_live c = (wrote_two c.args.store.now c.append.new.self c.args.list c.args.self.now.waiting _ [] c.requires.joins.apart.1.0 c.append.ensures.joined).first_live

pub returns-clause-sound : goal.returns-clause-sound
returns-clause-sound c =
    let w = before_it c.args.store.now c.append.new.self c.append-2.new.self c.args.list c.args.self.now.waiting c.requires.joins.apart.1.0 c.append.ensures.joined c.append-2.ensures.joined in
    first_sound c.args.self.now c.args.store.now c.append-2.new.self c.args.list c.requires.sound c.requires.joins w c.requires.no_kern c.requires.going

pub returns-clause-contents : goal.returns-clause-contents
returns-clause-contents c =
    let w = before_it c.args.store.now c.append.new.self c.append-2.new.self c.args.list c.args.self.now.waiting c.requires.joins.apart.1.0 c.append.ensures.joined c.append-2.ensures.joined in
    first_contents c.args.self.now c.args.store.now c.append-2.new.self c.args.list c.requires.sound c.requires.joins w

pub returns-clause-emptied : goal.returns-clause-emptied
returns-clause-emptied c = (before_it c.args.store.now c.append.new.self c.append-2.new.self c.args.list c.args.self.now.waiting c.requires.joins.apart.1.0 c.append.ensures.joined c.append-2.ensures.joined).emptied

pub returns-clause-others : goal.returns-clause-others
returns-clause-others c = λ q ne h.
    let w = before_it c.args.store.now c.append.new.self c.append-2.new.self c.args.list c.args.self.now.waiting c.requires.joins.apart.1.0 c.append.ensures.joined c.append-2.ensures.joined in
    first_others c.args.self.now c.args.store.now c.append-2.new.self c.args.list c.requires.sound c.requires.joins w q ne h

pub returns-clause-keeps : goal.returns-clause-keeps
returns-clause-keeps c = λ q h.
    let w = before_it c.args.store.now c.append.new.self c.append-2.new.self c.args.list c.args.self.now.waiting c.requires.joins.apart.1.0 c.append.ensures.joined c.append-2.ensures.joined in
    first_kept c.args.self.now c.args.store.now c.append-2.new.self c.args.list c.requires.sound c.requires.joins w q h

pub returns-clause-owns : goal.returns-clause-owns
returns-clause-owns c = λ q h.
    let w = before_it c.args.store.now c.append.new.self c.append-2.new.self c.args.list c.args.self.now.waiting c.requires.joins.apart.1.0 c.append.ensures.joined c.append-2.ensures.joined in
    first_owned c.args.self.now c.args.store.now c.append-2.new.self c.args.list c.requires.sound c.requires.joins w q h
