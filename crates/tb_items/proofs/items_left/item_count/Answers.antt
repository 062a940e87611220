use Rattle.std.proofs.Common.{◌≤◌, subst, rules, arith}
use Rattle.std.proofs.lemmas.List.{length-map}
use Rattle.tb_node.specs.PlainNodes.{Leaf, on_line}
use Rattle.tb_builder.specs.Contents.{node_count}
use Rattle.tb_galley.specs.GalleyNodes.{item_kinds}
use Rattle.tb_items.proofs.items_left.item_count.Goals as goal

pub overflow_add-result : goal.overflow_add-result
overflow_add-result c =
    let h = subst (λ k. node_count (on_line c.args.item.now.line (item_kinds c.args.p.now c.args.two k)) ≤ 8388608) c.in-Foot.is c.requires in
    let e = length-map {B = Leaf} c.in-Foot.leaves in
    let few : c.len.result ≤ 8388608 = omega (arith, h, e) in
    search rules
