use Rattle.std.proofs.Common.{suc, take, drop, sym, ◌∙◌}
use Rattle.tb_float.specs.Lists.{floats_of}
use Rattle.tb_told.proofs.CompanyLemmas.{narrow-told, no-head-told, head-ok}
use Rattle.tb_told.proofs.company.tell_float.Goals as goal

pub returns-then-not-is_of_width : goal.returns-then-not-is_of_width
returns-then-not-is_of_width c = λ later.
    let all = floats_of c.args.from c.args.pool.now.lists in
    narrow-told c.args.wanted.now (take c.args.place all) c.args.f.now (drop (suc c.args.place) all) later c.args.pieces.now.items (sym c.is_of_width.ensures ∙ c.if-not-is_of_width.true)

pub returns-then-is_some : goal.returns-then-is_some
returns-then-is_some c = λ later.
    let all = floats_of c.args.from c.args.pool.now.lists in
    no-head-told c.args.wanted.now (take c.args.place all) c.args.f.now (drop (suc c.args.place) all) later c.args.pieces.now.items c.tell.new.pieces.items c.alone_at-alone.result
    (sym c.is_of_width.ensures ∙ c.if-not-is_of_width.false) c.alone_at-alone.ensures (sym c.is_some.ensures ∙ c.if-is_some.true) c.in_ok-tell.ensures

pub returns : goal.returns
returns c =
    let all = floats_of c.args.from c.args.pool.now.lists in
    head-ok c.tell_head.result c.args.wanted.now (take c.args.place all) c.args.f.now (drop (suc c.args.place) all) c.args.pieces.now.items c.tell.new.pieces.items c.tell_head.new.pieces.items c.alone_at-alone.result
    (sym c.is_of_width.ensures ∙ c.if-not-is_of_width.false) c.alone_at-alone.ensures (sym c.is_some.ensures ∙ c.if-is_some.false) c.in_ok-tell.ensures c.tell_head.ensures
