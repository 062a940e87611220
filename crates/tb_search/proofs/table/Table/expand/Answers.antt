use Rattle.std.proofs.Common.{◌∙◌}
use Rattle.std.proofs.lemmas.Result.{on_ok_weaker}
use Rattle.tb_search.proofs.CalmLemmas.{taken-joined}
use Rattle.tb_search.proofs.ExpandLemmas.{inside-now, level-now}
use Rattle.tb_search.proofs.table.Table.expand.Goals as goal

pub step_on-requires-clause-level : goal.step_on-requires-clause-level
step_on-requires-clause-level c = level-now c.args.self.now c.args.left c.args.start c.pass.new.self c.in_ok-behind.behind c.in_ok-behind.last c.in_ok-behind.ensures.taken c.requires.level

pub step_on-requires-clause-inside : goal.step_on-requires-clause-inside
step_on-requires-clause-inside c = inside-now c.args.self.now c.args.left c.args.start c.pass.new.self c.in_ok-behind.behind c.in_ok-behind.last c.in_ok-behind.ensures.taken c.requires.inside

pub returns-clause-levels : goal.returns-clause-levels
returns-clause-levels c = on_ok_weaker c.step_on.result (λ e. e ∙ c.in_ok-behind.ensures.taken.levels) c.step_on.ensures.levels

pub returns-clause-searched : goal.returns-clause-searched
returns-clause-searched c =
    on_ok_weaker c.step_on.result (taken-joined c.args.self.now c.args.left c.args.start c.pass.new.self c.in_ok-behind.behind c.in_ok-behind.last c.in_ok-behind.ensures.taken c.step_on.new.self) c.step_on.ensures.searched
