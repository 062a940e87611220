use Rattle.std.proofs.Common.{sym}
use Rattle.tb_pool.proofs.CallerLemmas.{live_other}
use Rattle.tb_column.specs.TextColumns.{class_above}
use Rattle.tb_column.proofs.StoreLemmas.{joined}
use Rattle.tb_column.proofs.notes.join_class.Goals as goal

pub append-requires-clause-second_live : goal.append-requires-clause-second_live
append-requires-clause-second_live c =
    live_other c.args.store.now c.push_class.new.store c.args.body _ c.args.note.now.list (λ e. c.requires.apart (sym e)) c.push_class.ensures.lists c.requires.note

pub returns-clause-lists : goal.returns-clause-lists
returns-clause-lists c =
    joined c.args.store.now c.push_class.new.store c.append.new.self c.args.body c.args.note.now.list (class_above c.args.p.now c.args.kern c.args.note.now) (λ e. c.requires.apart (sym e)) c.push_class.ensures.lists c.append.ensures.joined
