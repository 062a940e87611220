use Rattle.std.proofs.Common.{sym, ◌∙◌, true≢false}
use Rattle.std.proofs.lemmas.Result.{on_ok_weaker}
use Rattle.tb_search.specs.Branches.{shown}
use Rattle.tb_search.proofs.LaterLemmas.{continues-itself}
use Rattle.tb_search.proofs.SearchedLemmas.{as-good-itself}
use Rattle.tb_search.proofs.table.Table.keep.Goals as goal

pub returns-then-is_known-clause-continues : goal.returns-then-is_known-clause-continues
returns-then-is_known-clause-continues c = continues-itself c.args.self.now

pub returns-then-is_known-clause-known : goal.returns-then-is_known-clause-known
returns-then-is_known-clause-known c = c.is_known.ensures.known c.if-is_known.true

pub returns-then-is_known-clause-first : goal.returns-then-is_known-clause-first
returns-then-is_known-clause-first c none = absurd (true≢false (sym c.if-is_known.true ∙ c.is_known.ensures.first none))

pub returns-clause-known : goal.returns-clause-known
returns-clause-known c =
    on_ok_weaker c.insert.result (λ h. (shown c.args.branch, as-good-itself c.insert.new.self.galley.now (shown c.args.branch), h)) c.insert.ensures.known
