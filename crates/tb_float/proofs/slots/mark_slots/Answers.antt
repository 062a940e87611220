use Rattle.std.proofs.Common.{◌≡◌, inl, inr, ◌++◌, [], Some, length, take, drop, sym, ap, ◌∙◌, length-drop, arith}
use Rattle.std.specs.FinMap.{get}
use Rattle.tb_pool.specs.Lists.{list_at, with_list}
use Rattle.tb_pool.proofs.MapLemmas.{list_steps, insert_from_get, get-insert_other, get-insert_tells}
use Rattle.tb_float.specs.Shelves.{flagged_slots}
use Rattle.tb_float.proofs.ListLemmas.{some-list}
use Rattle.tb_float.proofs.slots.mark_slots.Goals as goal

pub pass_slots-requires-clause-few : goal.pass_slots-requires-clause-few
pass_slots-requires-clause-few c =
    let behind : list_at c.cut.new.self c.args.one ≡ drop c.args.k (list_at c.args.store.now c.args.l) = grind (arith, list_steps) in
    omega (arith, ap length behind, length-drop c.args.k (list_at c.args.store.now c.args.l), c.requires.within)

pub returns-clause-marked : goal.returns-clause-marked
returns-clause-marked c =
    let s0 = c.args.store.now in
    let s1 = c.cut.new.self in
    let s2 = c.pass_slots.new.store in
    let s3 = c.append.new.self in
    let l = c.args.l in
    let one = c.args.one in
    let k = c.args.k in
    let bs = c.args.flags.now in
    let xs = list_at s0 l in
    let front : list_at s1 l ≡ take k xs = grind (arith, list_steps) in
    let behind : list_at s1 one ≡ drop k xs = grind (arith, list_steps) in
    let both : list_at s2 l ++ list_at s2 one ≡ take k xs ++ flagged_slots bs (drop k xs) = c.pass_slots.ensures.passed ∙ (λ i. front i ++ flagged_slots bs (behind i)) in
    let at : get s3.lists l ≡ Some (list_at s2 l ++ list_at s2 one) = grind (arith, list_steps) in
    let parted = c.cut.ensures.parted in
    let joined = c.append.ensures.joined in
    let m = with_list s2 l (list_at s2 l ++ list_at s2 one) in
    insert_from_get s0.lists s3.lists l (take k xs ++ flagged_slots bs (drop k xs)) (at ∙ ap Some both)
    (λ q ne. elim (get-insert_tells m one [] q).1 [
      | inl is ↦ ap (λ n. get n q) joined ∙ is.1 ∙ sym (ap (get s0.lists) is.0 ∙ some-list (get s0.lists one) c.requires.one_live ∙ ap Some c.requires.one_empty)
      | inr out ↦ ap (λ n. get n q) joined ∙ out.1 ∙ get-insert_other s2.lists l _ q ne ∙ c.pass_slots.ensures.others q out.0 ne ∙ ap (λ n. get n q) parted ∙ get-insert_other _ one _ q out.0 ∙ get-insert_other s0.lists l _ q ne
    ])
