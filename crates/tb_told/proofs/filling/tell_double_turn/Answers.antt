use Rattle.std.proofs.Common.{take, ap, ◌∙◌, add-one}
use Rattle.tb_float.specs.Lists.{floats_of}
use Rattle.tb_area.specs.Area.{goes_double}
use Rattle.tb_area.proofs.DeferredLemmas.{waiting_stands, waiting_entry}
use Rattle.tb_area.proofs.DeferredWalks.{is_double, gone-double}
use Rattle.tb_told.specs.Filled.{none_suppressed}
use Rattle.tb_told.proofs.DoublingLemmas.{is-single, double-moved, double-stayed}
use Rattle.tb_told.proofs.filling.tell_double_turn.Goals as goal

pub move_to-requires-clause-float : goal.move_to-requires-clause-float
move_to-requires-clause-float c = waiting_stands c.args.from c.requires.waiting c.args.pool.now.lists c.args.kept c.requires.within

pub returns-in-Double-clause-turn : goal.returns-in-Double-clause-turn
returns-in-Double-clause-turn c =
    let from = c.args.from in
    let p = c.args.p.now in
    let v = c.args.pool.now in
    let k = c.args.kept in
    let f = c.wide_waiting-f.result in
    let there = c.wide_waiting-f.ensures in
    let moved = c.move_to.ensures.moved f (waiting_entry from c.requires.waiting v.lists k f there) in
    double-moved from c.requires.waiting p k f v.lists c.move_to.new.self.lists c.args.pieces.now.items c.tell_double.new.pieces.items there
    (is_double (goes_double p v.lists none_suppressed (take k (floats_of from v.lists)) f) (c.in-Double.ensures.place none_suppressed f there))
    (ap (λ u. u.lists) moved ∙ gone-double from c.requires.waiting k f v) (c.in_ok-tell_double.ensures none_suppressed)

pub returns-in_default-clause-turn : goal.returns-in_default-clause-turn
returns-in_default-clause-turn c =
    let from = c.args.from in
    let p = c.args.p.now in
    let l = c.args.pool.now.lists in
    let k = c.args.kept in
    let f = c.wide_waiting-f.result in
    let there = c.wide_waiting-f.ensures in
    let stays = is-single c.add_double.result (goes_double p l none_suppressed (take k (floats_of from l)) f) (c.add_double.ensures.place none_suppressed f there) c.in_default.not-Double in
    rw (c.one_more_wide.ensures, add-one) (double-stayed from p k f l c.args.pieces.now.items c.tell_double.new.pieces.items there stays (c.in_ok-tell_double.ensures none_suppressed))
