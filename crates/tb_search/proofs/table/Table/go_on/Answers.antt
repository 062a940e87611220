use Rattle.std.specs.Prelude.{reverse}
use Rattle.std.proofs.lemmas.Result.{on_ok_weaker}
use Rattle.std.proofs.Common.{subst}
use Rattle.tb_search.specs.Branches.{shown}
use Rattle.tb_search.specs.AheadInCode.{items_ahead}
use Rattle.tb_search.specs.Continues.{IsSearchedAsGoodBy}
use Rattle.tb_search.proofs.CalmLemmas.{reached-copy}
use Rattle.tb_search.proofs.LaterLemmas.{continues-itself, later-itself}
use Rattle.tb_search.proofs.SearchSteps.{kept-searched}
use Rattle.tb_search.proofs.table.Table.go_on.Goals as goal

pub settle-requires-clause-reached : goal.settle-requires-clause-reached
settle-requires-clause-reached c =
    let copy = c.in_ok-next.ensures in
    reached-copy c.args.self.now.galley.now c.args.left (record { branch = c.args.trials.now.page; way = c.args.way }) c.in_ok-next.next c.requires.reached copy.branch copy.state copy.ahead copy.plain

pub returns-then-is_known-clause-continues : goal.returns-then-is_known-clause-continues
returns-then-is_known-clause-continues c = continues-itself c.args.self.now

pub returns-then-is_known-clause-searched : goal.returns-then-is_known-clause-searched
returns-then-is_known-clause-searched c =
    kept-searched c.args.self.now c.args.self.now (later-itself c.args.self.now) c.args.left (shown c.args.trials.now.page) c.args.way (c.is_known.ensures.known c.if-is_known.true)

pub returns-clause-searched : goal.returns-clause-searched
returns-clause-searched c =
    on_ok_weaker c.settle.result
    (subst (λ s. IsSearchedAsGoodBy c.settle.new.self s (items_ahead c.args.self.now.galley.now c.args.left) c.args.way.demerits (reverse c.args.way.breaks.items)) c.in_ok-next.ensures.state)
    c.settle.ensures.searched
