use Rattle.std.proofs.Common.{◌≤◌, subst, rules, arith}
use Rattle.std.proofs.lemmas.List.{length-map}
use Rattle.tb_node.specs.PlainNodes.{Leaf, on_line}
use Rattle.tb_builder.specs.Contents.{node_count}
use Rattle.tb_plain.specs.GalleyNodes.{makeup_kinds}
use Rattle.tb_makeup.proofs.makeup_left.MakeupLeft.item_nodes.Goals as goal

pub overflow_add-result : goal.overflow_add-result
overflow_add-result c =
    let h = subst (λ k. node_count (on_line c.args.item.now.line (makeup_kinds c.args.self.now.galley.now.params k)) ≤ 8388608) c.in-Foot.is c.requires in
    let e = length-map {B = Leaf} c.in-Foot.leaves in
    let few : c.len.result ≤ 8388608 = omega (arith, h, e) in
    search rules
