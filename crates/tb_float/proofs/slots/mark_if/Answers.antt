use Rattle.std.proofs.Common.{◌≡◌, ◌∷◌, slice_get, sym, ap, ◌∙◌, arith}
use Rattle.std.specs.Prelude.{slice_set}
use Rattle.std.specs.FinMap.{get}
use Rattle.tb_pool.specs.Lists.{list_at, with_list}
use Rattle.tb_pool.proofs.MapLemmas.{list_steps, get-insert_other}
use Rattle.tb_float.specs.Shelves.{flagged_slot, marked_slot}
use Rattle.tb_float.proofs.ListLemmas.{some-at}
use Rattle.tb_float.proofs.slots.mark_if.Goals as goal

pub returns-then-flag-clause-marked : goal.returns-then-flag-clause-marked
returns-then-flag-clause-marked c = λ s ss e.
    let old = c.args.store.now in
    let l = c.args.l in
    let set : c.mark_first.new.store.lists ≡ with_list old l (slice_set (list_at old l) 0 (marked_slot s)) = c.mark_first.ensures.marked s (ap (λ ts. slice_get ts 0) e) in
    let at : list_at c.mark_first.new.store l ≡ slice_set (list_at old l) 0 (marked_slot s) = grind (arith, list_steps) in
    at ∙ ap (λ ts. slice_set ts 0 (marked_slot s)) e ∙ ap (λ b. flagged_slot b s ∷ ss) (sym c.if-flag.true)

pub returns-then-flag-clause-others : goal.returns-then-flag-clause-others
returns-then-flag-clause-others c = λ q ne.
    let old = c.args.store.now in
    let s = some-at (list_at old c.args.l) 0 c.requires.some in
    ap (λ m. get m q) (c.mark_first.ensures.marked s.0 s.1) ∙ get-insert_other old.lists c.args.l _ q ne
