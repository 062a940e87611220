use Rattle.std.proofs.Common.{◌<◌, length, arith}
use Rattle.std.proofs.lemmas.List.{length-map}
use Rattle.tb_pool.specs.Lists.{list_at}
use Rattle.tb_node.specs.PlainNodes.{PlainNode, plain_list}
use Rattle.tb_column.specs.StoredColumns.{column_shown}
use Rattle.tb_report.specs.RunTotals.{no_totals}
use Rattle.tb_report.proofs.CountLemmas.{page_counts}
use Rattle.tb_text_tests.proofs.report.writes_a_page_and_the_end.Goals as goal

pub count-requires-clause-room : goal.count-requires-clause-room
count-requires-clause-room g c =
    let few : length (plain_list c.put-3.new.lists c.column.result.list) < 5 =
    omega (arith, length-map {B = PlainNode} (list_at c.put-3.new.lists c.column.result.list), c.column.ensures.few) in
    rw c.new-totals.ensures (page_counts no_totals 1 (column_shown c.put-3.new.lists c.column.result) (omega arith) (omega arith) (omega arith) (omega arith))
