use Rattle.tb_column.proofs.StoreLemmas.{with_list-added}
use Rattle.tb_output.proofs.InText.PushLemmas.{pushed-first}
use Rattle.tb_output.proofs.back_list.push_blanks.Goals as goal

pub returns-then-both-clause-ok : goal.returns-then-both-clause-ok
returns-then-both-clause-ok c =
    let one = pushed-first c.args.store.now c.reserve.new.self c.push_blank.new.store c.args.l _ c.in_ok-reserve.ensures.lists c.push_blank.ensures.lists in
    rw c.if-both.true (with_list-added c.args.store.now c.push_blank.new.store c.push_blank-then-both.new.store c.args.l _ _ one c.push_blank-then-both.ensures.lists)

pub returns-else-both-clause-ok : goal.returns-else-both-clause-ok
returns-else-both-clause-ok c =
    rw c.if-both.false (pushed-first c.args.store.now c.reserve.new.self c.push_blank.new.store c.args.l _ c.in_ok-reserve.ensures.lists c.push_blank.ensures.lists)
