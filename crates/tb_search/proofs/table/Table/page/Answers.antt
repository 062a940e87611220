use Rattle.std.proofs.Common.{subst}
use Rattle.tb_rate.specs.Places.{place_penalties}
use Rattle.tb_search.specs.FilledBranches.{FillsTo}
use Rattle.tb_search.proofs.ReachedWays.{fills-copy}
use Rattle.tb_search.proofs.table.Table.page.Goals as goal

pub returns : goal.returns
returns c =
    let copy = c.in_ok-copy_from.ensures in
    fills-copy (place_penalties c.args.self.now.galley.now.items) c.args.branch.now c.copy_from.new.self c.fill.new.self c.in_ok-filled.filled copy.state copy.ahead
    (subst (λ ps. FillsTo ps c.copy_from.new.self c.in_ok-filled.filled c.fill.new.self) c.requires.table.penalties c.in_ok-filled.ensures)
