use Rattle.std.proofs.Common.{sym, ◌∙◌, arith}
use Rattle.tb_float.specs.Lists.{floats_of}
use Rattle.tb_float.proofs.WaitingLemmas.{waiting-count}
use Rattle.tb_told.proofs.CompanyLemmas.{no-column, column-ok}
use Rattle.tb_told.proofs.company.tell_column.Goals as goal

pub returns-then-not-has_width : goal.returns-then-not-has_width
returns-then-not-has_width c = no-column c.args.at c.args.wanted.now (floats_of c.args.from c.args.pool.now.lists) c.args.pieces.now.items (sym c.has_width.ensures ∙ c.if-not-has_width.true)

pub tell_floats-requires-clause-few : goal.tell_floats-requires-clause-few
tell_floats-requires-clause-few c = omega (arith, c.len-few.ensures.value, c.len-few.ensures.small, waiting-count c.args.from c.requires c.args.pool.now.lists)

pub returns : goal.returns
returns c =
    column-ok c.tell_floats.result c.args.at c.args.wanted.now (floats_of c.args.from c.args.pool.now.lists) c.args.pieces.now.items c.push.new.self.items c.tell_floats.new.pieces.items (sym c.has_width.ensures ∙ c.if-not-has_width.false) c.in_ok-push.ensures.items c.tell_floats.ensures
