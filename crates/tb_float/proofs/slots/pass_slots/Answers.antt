use Rattle.std.proofs.Common.{◌≡◌, ◌<◌, ◌+◌, ℕ, refl, Bool, false, List, [], ◌∷◌, ◌++◌, length, drop, sym, ap, ◌∙◌, suc, get_or, unwrap_or, append_assoc, arith}
use Rattle.std.proofs.Math.Seq.{drop-cons}
use Rattle.std.proofs.Math.ListN.{drop_of_length-le}
use Rattle.tb_pool.specs.Lists.{list_at}
use Rattle.tb_pool.proofs.MapLemmas.{list_steps}
use Rattle.tb_float.specs.Slots.{SlotView}
use Rattle.tb_float.specs.Shelves.{flagged_slot, flagged_slots}
use Rattle.tb_float.proofs.slots.pass_slots.Goals.{In-loop-flag}
use Rattle.tb_float.proofs.slots.pass_slots.Goals as goal

-- a list that is not empty has a first slot
parts : (ss : List SlotView) → 0 < length ss → (s : SlotView) × (ts : List SlotView) × (ss ≡ s ∷ ts)
parts [] lt = absurd (omega (arith, lt))
parts (s ∷ ss) lt = (s, ss, refl)

-- one slot went
passed-once : (bs cs : List Bool) (from to from_now to_now ss : List SlotView) (b : Bool) (s : SlotView) → bs ≡ b ∷ cs → from ≡ s ∷ ss → to_now ≡ to ++ flagged_slot b s ∷ [] → from_now ≡ ss
    → to_now ++ flagged_slots cs from_now ≡ to ++ flagged_slots bs from
passed-once bs cs from to from_now to_now ss b s flags first last rest =
    (λ i. last i ++ flagged_slots cs (rest i)) ∙ append_assoc to (flagged_slot b s ∷ []) (flagged_slots cs ss) ∙ (λ i. to ++ flagged_slots (sym flags i) (sym first i))

-- the flags from the one at a place on
next-flag : (bs : List Bool) (i : ℕ) → i < length bs → drop i bs ≡ get_or bs i false ∷ drop (i + 1) bs
next-flag bs i lt =
    let one : suc i ≡ i + 1 = omega arith in
    drop-cons bs i false lt ∙ ap (λ n. get_or bs i false ∷ drop n bs) one

-- there is a slot for the flag
some : (c : In-loop-flag) → 0 < length (list_at c.loop-flag.store c.args.from)
some c = omega (arith, ap length (next-flag c.args.flags.now c.loop-flag.flag-index c.loop-flag-test.true), c.loop-flag.invariant.few)

pub mark_if-requires-clause-some : goal.mark_if-requires-clause-some
mark_if-requires-clause-some c = some (goal.at.mark_if-requires-clause-some c).In-loop-flag

pub move_first-requires-clause-some : goal.move_first-requires-clause-some
move_first-requires-clause-some c =
    let first = parts (list_at c.loop-flag.store c.args.from) (some (goal.at.move_first-requires-clause-some c).In-loop-flag) in
    let marked = c.mark_if.ensures.marked first.0 first.1 first.2 in
    omega (arith, ap length marked)

pub loop-flag-preserved : goal.loop-flag-preserved
loop-flag-preserved c =
    let fl = c.args.flags.now in
    let i = c.loop-flag.flag-index in
    let b = get_or fl i false in
    let from = c.args.from in
    let to = c.args.to in
    let old = c.loop-flag.store in
    let mid = c.mark_if.new.store in
    let new = c.move_first.new.self in
    let first = parts (list_at old from) (some (goal.at.loop-flag-preserved c).In-loop-flag) in
    let marked : list_at mid from ≡ flagged_slot b first.0 ∷ first.1 = c.mark_if.ensures.marked first.0 first.1 first.2 in
    let still : list_at mid to ≡ list_at old to = ap (λ o. unwrap_or o []) (c.mark_if.ensures.others to (λ e. c.requires.apart (sym e))) in
    let moved = c.move_first.ensures.moved (flagged_slot b first.0) first.1 marked in
    let from_now : list_at new from ≡ first.1 = grind (arith, list_steps) in
    let to_now : list_at new to ≡ list_at mid to ++ flagged_slot b first.0 ∷ [] = grind (arith, list_steps) in
    let next = next-flag fl i c.loop-flag-test.true in
    record {
      from_live = grind (arith, list_steps);
      to_live = grind (arith, list_steps);
      few = omega (arith, ap length next, ap length first.2, ap length from_now, c.loop-flag.invariant.few);
      passed = passed-once (drop i fl) (drop (i + 1) fl) (list_at old from) (list_at old to) (list_at new from) (list_at new to) first.1 b first.0 next first.2 (to_now ∙ ap (λ ts. ts ++ flagged_slot b first.0 ∷ []) still) from_now ∙ c.loop-flag.invariant.passed;
      others = λ q f t. grind (arith, list_steps, c.mark_if.ensures.others q f, c.loop-flag.invariant.others q f t);
      spare = grind arith;
    }

pub returns-clause-passed : goal.returns-clause-passed
returns-clause-passed c =
    let fl = c.args.flags.now in
    let none : drop c.loop-flag.flag-index fl ≡ [] = drop_of_length-le fl (omega (arith, c.loop-flag-test.false)) in
    ap (λ bs. list_at c.loop-flag.store c.args.to ++ flagged_slots bs (list_at c.loop-flag.store c.args.from)) (sym none) ∙ c.loop-flag.invariant.passed
