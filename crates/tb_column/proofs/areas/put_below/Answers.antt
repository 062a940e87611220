use Rattle.std.proofs.Common.{arith}
use Rattle.std.proofs.lemmas.List.{nil_from_length}
use Rattle.tb_node.specs.declared.Where.TheVariants as places
use Rattle.tb_column.proofs.MovingLemmas.{below-none, below-put}
use Rattle.tb_column.proofs.areas.put_below.Goals as goal

pub returns-then-len-eq0-clause-lists : goal.returns-then-len-eq0-clause-lists
returns-then-len-eq0-clause-lists c =
    below-none c.args.store.now c.args.body c.requires.live places.Bottom c.args.p.now.floatsep c.args.p.now.bottomrule c.args.p.now.textfloatsep c.args.pool.now.lists.bottom
    (nil_from_length c.args.pool.now.lists.bottom (omega (arith, c.len.ensures.value, c.if-len-eq0.true)))

pub returns-clause-lists : goal.returns-clause-lists
returns-clause-lists c =
    below-put c.args.store.now c.push_made.new.store c.push_rule.new.store c.push_floats.new.store c.push_made-2.new.store c.args.body places.Bottom c.args.p.now.floatsep c.args.p.now.bottomrule c.args.p.now.textfloatsep c.args.pool.now.lists.bottom
    (λ e. c.if-len-eq0.false (omega (arith, e, c.len.ensures.value)))
    c.push_made.ensures.lists c.push_rule.ensures.lists c.push_floats.ensures.lists (rw c.negate.ensures at c.push_made-2.ensures.lists)
