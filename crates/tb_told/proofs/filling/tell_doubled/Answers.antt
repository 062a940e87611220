use Rattle.std.proofs.Common.{◌≤◌, length, refl, ◌∙◌, arith}
use Rattle.tb_float.specs.Lists.{floats_of}
use Rattle.tb_float.proofs.WaitingLemmas.{waiting-count}
use Rattle.tb_told.proofs.FillingLemmas.{told-last}
use Rattle.tb_told.proofs.DoublingLemmas.{doubled-over}
use Rattle.tb_told.proofs.filling.tell_doubled.Goals as goal

pub loop-turn-init : goal.loop-turn-init
loop-turn-init c = record { lists = refl; told = refl; left = refl; unmarked = λ h. h }

pub loop-turn-preserved : goal.loop-turn-preserved
loop-turn-preserved c =
    let t = c.in_ok-kept.ensures.turn in
    record { lists = c.loop-turn.invariant.lists ∙ t.lists; told = t.pieces ∙ c.loop-turn.invariant.told; left = omega (arith, t.left, c.loop-turn.invariant.left); unmarked = λ h. c.in_ok-kept.ensures.unmarked (c.loop-turn.invariant.unmarked h) }

pub returns-clause-told : goal.returns-clause-told
returns-clause-told c =
    let from = c.args.from in
    let m = c.loop-turn.pool.lists in
    let waits = waiting-count from c.requires.waiting c.args.pool.now.lists in
    let over : length (floats_of from m) ≤ c.loop-turn.kept = omega (arith, c.loop-turn.invariant.left, c.loop-turn-test.false, c.len-turn-end.ensures.value, waits) in
    told-last c.args.pieces.now.items c.loop-turn.pieces.items _ _ (doubled-over from c.args.p.now c.loop-turn.kept m over) c.loop-turn.invariant.told
