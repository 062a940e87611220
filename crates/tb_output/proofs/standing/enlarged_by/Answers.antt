use Rattle.std.proofs.Common.{◌≡◌, sym, ap, ◌∙◌, neg_ℤ, map, true, false, FitsSigned, w64, rules}
use Rattle.std.specs.Prelude.{if◌then◌else◌}
use Rattle.std.proofs.lemmas.Int.{to_z-of_z}
use Rattle.tb_pool.specs.Lists.{list_at}
use Rattle.tb_node.specs.PlainNodes.{leaf_of, leaf_shape}
use Rattle.tb_node.specs.Sums.{size_of}
use Rattle.tb_insert.proofs.AccountLemmas.{leaf_shapes}
use Rattle.tb_column.specs.declared.Enlarged.TheVariants as enlarged
use Rattle.tb_column.specs.Column.{has_box}
use Rattle.tb_output.proofs.ColumnPages.SizeLemmas.{has_box-is}
use Rattle.tb_output.proofs.standing.enlarged_by.Goals as goal

pub returns-then-has_box-clause-value : goal.returns-then-has_box-clause-value
returns-then-has_box-clause-value c =
    let shrink : FitsSigned w64 c.args.shrink = c.ranges.shrink in
    let ns = map leaf_of (list_at c.args.store.now c.args.l) in
    let some : has_box ns ≡ true = sym (c.has_box.ensures ∙ has_box-is (list_at c.args.store.now c.args.l)) ∙ c.if-has_box.true in
    ap enlarged.Shrunk (to_z-of_z w64 c.args.shrink shrink)
    ∙ ap (λ t. if t then enlarged.Shrunk c.args.shrink else enlarged.By (neg_ℤ (size_of (map leaf_shape ns)))) (sym some)

pub returns-clause-value : goal.returns-clause-value
returns-clause-value c =
    let ns = map leaf_of (list_at c.args.store.now c.args.l) in
    let none : has_box ns ≡ false = sym (c.has_box.ensures ∙ has_box-is (list_at c.args.store.now c.args.l)) ∙ c.if-has_box.false in
    let size : FitsSigned w64 c.list_height.result = search rules in
    let by : FitsSigned w64 c.negated.result = search rules in
    let value = simp to_z-of_z at c.negated.ensures.value in
    ap enlarged.By (to_z-of_z w64 c.negated.result by ∙ value ∙ ap neg_ℤ (c.list_height.ensures.value ∙ ap size_of (sym (leaf_shapes (list_at c.args.store.now c.args.l)))))
    ∙ ap (λ t. if t then enlarged.Shrunk c.args.shrink else enlarged.By (neg_ℤ (size_of (map leaf_shape ns)))) (sym none)
