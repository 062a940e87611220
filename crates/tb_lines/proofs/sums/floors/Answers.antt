use Rattle.std.proofs.Common.{◌-◌, ℕ, subst, refl, ◌∙◌, arith}
use Rattle.tb_lines.proofs.FloorSteps.{FloorsFrom, floors_start, floors_more, floors_done}
use Rattle.tb_lines.proofs.sums.floors.Goals as goal

pub loop-k-init : goal.loop-k-init
loop-k-init c = floors_start c.args.entries.now c.in_ok-floors.floors.items _ (c.in_ok-floors.ensures.items_if_clones_equal (λ y e. e))

pub loop-k-preserved : goal.loop-k-preserved
loop-k-preserved c =
    floors_more c.args.entries.now c.args.sums.now c.loop-k.floors.items c.loop-k.k (c.loop-k.k - 1) c.floor_at.result c.index.result.now c.least_width.result c.index.result.now _ _
    c.requires.running c.loop-k-test.true refl (omega arith) c.loop-k.invariant refl c.least_width.ensures.value c.index.ensures c.floor_at.ensures.next (λ legal. c.floor_at.ensures.here (c.is_legal.ensures ∙ legal))

pub returns : goal.returns
returns c = floors_done c.args.entries.now c.loop-k.floors.items (subst (λ (k : ℕ). FloorsFrom c.args.entries.now c.loop-k.floors.items k) (omega arith) c.loop-k.invariant)
