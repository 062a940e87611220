use Rattle.tb_items.proofs.WaitsLemmas.{lone-joins, lone-may, lone-waits, on-ok}
use Rattle.tb_items.proofs.lone_nodes.put.Goals as goal

pub contribute-requires-clause-joins : goal.contribute-requires-clause-joins
contribute-requires-clause-joins c = lone-joins c.args.builder.now c.args.store.now c.args.line c.args.kind c.requires.can c.requires.lone

pub contribute-requires-clause-may_wait : goal.contribute-requires-clause-may_wait
contribute-requires-clause-may_wait c = lone-may c.args.builder.now c.args.store.now c.args.line c.args.kind c.requires.can c.requires.lone

pub returns : goal.returns
returns c = on-ok c.contribute.result (λ contents. lone-waits c.args.builder.now c.args.store.now c.args.line c.args.kind c.requires.can c.requires.lone c.contribute.new.self c.contribute.new.store c.contribute.ensures.sound contents c.contribute.ensures.others c.contribute.ensures.keeps) c.contribute.ensures.contents
