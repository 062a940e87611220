use Rattle.std.proofs.Common.{◌≡◌, ◌||◌, true, false, take, drop, sym, ap, ◌∙◌, arith}
use Rattle.std.proofs.Math.Seq.{take_all}
use Rattle.std.proofs.lemmas.List.{length-drop}
use Rattle.tb_pool.specs.Lists.{list_at}
use Rattle.tb_float.specs.Lists.{has_class}
use Rattle.tb_float.specs.Shelves.{floats_in}
use Rattle.tb_float.proofs.SlotLemmas.{class-parts}
use Rattle.tb_float.proofs.slots.is_class_in.Goals as goal

pub returns-then-class_stands : goal.returns-then-class_stands
returns-then-class_stands c =
    let k = c.args.class in
    let ss = list_at c.args.store.now c.args.l in
    let n = c.if-count-lt-LATE.before in
    let late : has_class k (floats_in (drop n ss)) ≡ true = ap (λ ts. has_class k (floats_in ts)) (sym (take_all c.len-count.result (drop n ss) (omega (arith, length-drop n ss, c.len-count.ensures)))) ∙ sym c.class_stands.ensures ∙ c.if-class_stands.true in
    c.if-class_stands.true ∙ sym (sym (class-parts k n ss) ∙ ap (λ b. b || has_class k (floats_in (take n ss))) late)

pub returns-else-class_stands : goal.returns-else-class_stands
returns-else-class_stands c =
    let k = c.args.class in
    let ss = list_at c.args.store.now c.args.l in
    let n = c.if-count-lt-LATE.before in
    let late : has_class k (floats_in (drop n ss)) ≡ false = ap (λ ts. has_class k (floats_in ts)) (sym (take_all c.len-count.result (drop n ss) (omega (arith, length-drop n ss, c.len-count.ensures)))) ∙ sym c.class_stands.ensures ∙ c.if-class_stands.false in
    c.class_stands-else-class_stands.ensures ∙ sym (sym (class-parts k n ss) ∙ ap (λ b. b || has_class k (floats_in (take n ss))) late)
