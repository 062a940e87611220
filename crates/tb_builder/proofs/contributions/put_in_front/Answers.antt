use Rattle.std.proofs.Common.{sym, ap, ◌∙◌, is_some, []}
use Rattle.tb_builder.proofs.Turns.MoveLemmas.{wrote_two}
use Rattle.tb_builder.proofs.Handover.FrontLemmas.{none_in_front, in_front}
use Rattle.tb_builder.proofs.contributions.put_in_front.Goals as goal

pub returns-then-len-eq0-2-clause-front : goal.returns-then-len-eq0-2-clause-front
returns-then-len-eq0-2-clause-front c = none_in_front c.args.store.now c.args.a c.args.b c.args.c c.requires.first_live c.requires.second_live c.requires.third_live (sym c.len.ensures ∙ c.if-len-eq0.true) (sym c.len-then-len-eq0.ensures ∙ c.if-len-eq0-2.true)

pub append-requires-2-clause-first_live : goal.append-requires-2-clause-first_live
append-requires-2-clause-first_live c = (wrote_two c.args.store.now c.append.new.self c.args.a c.args.b _ [] c.requires.apart c.append.ensures.joined).first_live

pub append-requires-2-clause-second_live : goal.append-requires-2-clause-second_live
append-requires-2-clause-second_live c =
    ap is_some ((wrote_two c.args.store.now c.append.new.self c.args.a c.args.b _ [] c.requires.apart c.append.ensures.joined).others c.args.c (λ e. c.requires.first_apart (sym e)) (λ e. c.requires.second_apart (sym e)))
    ∙ c.requires.third_live

pub append-requires-3-clause-first_live : goal.append-requires-3-clause-first_live
append-requires-3-clause-first_live c = (wrote_two c.append.new.self c.append-2.new.self c.args.a c.args.c _ [] c.requires.first_apart c.append-2.ensures.joined).second_live

pub append-requires-3-clause-second_live : goal.append-requires-3-clause-second_live
append-requires-3-clause-second_live c = (wrote_two c.append.new.self c.append-2.new.self c.args.a c.args.c _ [] c.requires.first_apart c.append-2.ensures.joined).first_live

pub returns-clause-front : goal.returns-clause-front
returns-clause-front c = in_front c.args.store.now c.append.new.self c.append-2.new.self c.append-3.new.self c.args.a c.args.b c.args.c c.requires.apart c.requires.first_apart c.requires.second_apart c.append.ensures.joined c.append-2.ensures.joined c.append-3.ensures.joined
