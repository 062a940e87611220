use Rattle.std.proofs.Common.{arith}
use Rattle.tb_float.specs.Lists.{floats_of}
use Rattle.tb_column.proofs.MovingLemmas.{area_none, area_count, above-none, above-put}
use Rattle.tb_column.proofs.areas.push_above.Goals as goal

pub returns-then-len-eq0-clause-lists : goal.returns-then-len-eq0-clause-lists
returns-then-len-eq0-clause-lists c =
    above-none c.args.store.now c.args.l c.requires.live c.args.place c.args.gaps.now.between c.args.gaps.now.rule c.args.gaps.now.text _ (area_none c.args.area c.requires.area c.args.pool.now (omega (arith, c.len.ensures.value, c.if-len-eq0.true)))

pub returns-clause-lists : goal.returns-clause-lists
returns-clause-lists c =
    above-put c.args.store.now c.push_floats.new.store c.push_made.new.store c.push_rule.new.store c.push_made-2.new.store c.args.l c.args.place c.args.gaps.now.between c.args.gaps.now.rule c.args.gaps.now.text (floats_of c.args.area c.args.pool.now.lists)
    (λ e. c.if-len-eq0.false (omega (arith, e, c.len.ensures.value, area_count c.args.area c.requires.area c.args.pool.now)))
    c.push_floats.ensures.lists (rw c.negate.ensures at c.push_made.ensures.lists) c.push_rule.ensures.lists c.push_made-2.ensures.lists
