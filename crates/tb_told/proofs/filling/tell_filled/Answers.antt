use Rattle.std.proofs.Common.{◌≤◌, length, refl, ◌∙◌, arith}
use Rattle.tb_told.proofs.FillingLemmas.{told-last, pieces-over}
use Rattle.tb_told.proofs.filling.tell_filled.Goals as goal

pub loop-turn-init : goal.loop-turn-init
loop-turn-init c = record { lists = refl; told = refl; left = refl; unmarked = λ h. h }

pub loop-turn-preserved : goal.loop-turn-preserved
loop-turn-preserved c =
    let t = c.in_ok-kept.ensures.turn in
    record { lists = c.loop-turn.invariant.lists ∙ t.lists; told = t.pieces ∙ c.loop-turn.invariant.told; left = omega (arith, t.left, c.loop-turn.invariant.left); unmarked = λ h. c.in_ok-kept.ensures.unmarked (c.loop-turn.invariant.unmarked h) }

pub returns-clause-told : goal.returns-clause-told
returns-clause-told c =
    let m = c.loop-turn.pool.lists in
    let over : length m.deferred ≤ c.loop-turn.kept = omega (arith, c.loop-turn.invariant.left, c.loop-turn-test.false) in
    told-last c.args.pieces.now.items c.loop-turn.pieces.items _ _ (pieces-over c.args.p.now c.args.s.now c.loop-turn.kept m over) c.loop-turn.invariant.told
