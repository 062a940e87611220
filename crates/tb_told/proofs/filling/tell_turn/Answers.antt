use Rattle.std.proofs.Common.{take, add-one}
use Rattle.tb_float.specs.declared.Part.TheVariants as parts
use Rattle.tb_area.specs.Area.{at_top, at_bottom, next_area_place}
use Rattle.tb_area.proofs.DeferredLemmas.{waiting_entry}
use Rattle.tb_area.proofs.DeferredWalks.{moved-top, moved-bottom}
use Rattle.tb_told.proofs.FillingLemmas.{is-kept, turn-moved, turn-kept}
use Rattle.tb_told.proofs.filling.tell_turn.Goals as goal

pub returns-in-Top-clause-turn : goal.returns-in-Top-clause-turn
returns-in-Top-clause-turn c =
    let p = c.args.p.now in
    let s = c.args.s.now in
    let v = c.args.pool.now in
    let k = c.args.kept in
    let f = c.waiting-f.result in
    let there = c.waiting-f.ensures.value in
    let moved = c.move_to.ensures.moved f (waiting_entry parts.Deferred tt v.lists k f there) in
    turn-moved p s k f at_top v c.move_to.new.self c.args.pieces.now.items c.tell_next.new.pieces.items
    (moved-top p s k f v c.move_to.new.self there (c.in-Top.ensures.place f there) moved c.move_to.ensures.unmarked) c.in_ok-tell_next.ensures

pub returns-in-Bottom-clause-turn : goal.returns-in-Bottom-clause-turn
returns-in-Bottom-clause-turn c =
    let p = c.args.p.now in
    let s = c.args.s.now in
    let v = c.args.pool.now in
    let k = c.args.kept in
    let f = c.waiting-f.result in
    let there = c.waiting-f.ensures.value in
    let moved = c.move_to-in-Bottom.ensures.moved f (waiting_entry parts.Deferred tt v.lists k f there) in
    turn-moved p s k f at_bottom v c.move_to-in-Bottom.new.self c.args.pieces.now.items c.tell_next.new.pieces.items
    (moved-bottom p s k f v c.move_to-in-Bottom.new.self there (c.in-Bottom.ensures.place f there) moved c.move_to-in-Bottom.ensures.unmarked) c.in_ok-tell_next.ensures

pub returns-in_default-clause-turn : goal.returns-in_default-clause-turn
returns-in_default-clause-turn c =
    let p = c.args.p.now in
    let s = c.args.s.now in
    let l = c.args.pool.now.lists in
    let k = c.args.kept in
    let f = c.waiting-f.result in
    let there = c.waiting-f.ensures.value in
    let stays = is-kept c.add_next.result (next_area_place p l s (take k l.deferred) f) (c.add_next.ensures.place f there) c.in_default.not-Top c.in_default.not-Bottom in
    rw (c.one_more.ensures, add-one) (turn-kept p s k f l c.args.pieces.now.items c.tell_next.new.pieces.items there stays c.in_ok-tell_next.ensures)
