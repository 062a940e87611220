use Rattle.std.proofs.Common.{◌<◌, ◌+◌, arith}
use Rattle.std.proofs.lemmas.Bool.Decides.{nat_tests}
use Rattle.tb_lines.specs.Prepared.{least_width}
use Rattle.tb_lines.proofs.ActiveBreaks.{too_wide_read}
use Rattle.tb_lines.proofs.table.Prepared.is_too_wide.Goals as goal

pub returns-then-start-to : goal.returns-then-start-to
returns-then-start-to c = λ e j le.
    let s = c.args.self.now in
    let over : c.args.self.now.params.now.hsize + least_width c.index.result.now < c.index-then-start-to.result.now =
    let lt : c.from.result + c.least_width.result < c.index-then-start-to.result.now = grind (arith, nat_tests) in
    let hsize = c.from.ensures in
    let width = c.least_width.ensures.value in
    omega arith in
    too_wide_read s.params.now s.entries.now s.sums.items s.starts.items s.floors.items c.args.from c.args.to c.index-start.result.now c.index.result.now c.index.result.now c.index-then-start-to.result.now c.index-then-start-to.result.now c.index-start.result.now
    s.running s.words s.narrow s.few c.requires.within c.requires.inside c.index-start.ensures c.index.ensures c.index-then-start-to.ensures c.if-start-to.true over j le
