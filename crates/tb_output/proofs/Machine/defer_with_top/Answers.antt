use Rattle.tb_output.proofs.InText.TextSteps.{deferred-with_top, warned-first, set-there}
use Rattle.tb_output.proofs.Machine.defer_with_top.Goals as goal

pub let_top-requires : goal.let_top-requires
let_top-requires c = warned-first c.args.self.now c.warn.new.self c.args.f.now _ c.requires c.in_ok-warn.ensures.ok

pub move_first-requires-clause-first : goal.move_first-requires-clause-first
move_first-requires-clause-first c = set-there c.warn.new.self c.let_top.new.self c.args.f.now (warned-first c.args.self.now c.warn.new.self c.args.f.now _ c.requires c.in_ok-warn.ensures.ok) c.let_top.ensures

pub returns-clause-ok : goal.returns-clause-ok
returns-clause-ok c = deferred-with_top c.args.self.now c.move_first.new.self c.warn.new.self c.let_top.new.self c.args.f.now c.requires c.in_ok-warn.ensures.ok c.let_top.ensures c.move_first.ensures
