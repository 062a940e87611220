use Rattle.std.proofs.Common.{sym, ap, ◌∙◌, refl}
use Rattle.tb_node.specs.declared.Node.{Node}
use Rattle.tb_builder.proofs.SameLemmas.{same_inserted, same_material}
use Rattle.tb_builder.proofs.same.same_nodes.Goals as goal

pub returns-then-is_same_but_list : goal.returns-then-is_same_but_list
returns-then-is_same_but_list c =
    let s = c.args.store.now in
    let t = c.args.other_store.now in
    let n = c.args.node.now in
    let m = c.args.other.now in
    let n_is = ap (λ (x : Node). x.kind) (sym c.node.view_is) ∙ c.in-Ins.is in
    let m_is = ap (λ (x : Node). x.kind) (sym c.other.view_is) ∙ c.in-Ins-kind.is in
    let line = ap (λ (x : Node). x.line) (sym c.node.view_is) ∙ c.if-node-other.false ∙ ap (λ (x : Node). x.line) c.other.view_is in (
      λ yes. same_inserted s t n m c.in-Ins.a c.in-Ins-kind.b n_is m_is line (c.if-is_same_but_list.ensures.0 refl) (c.same_lists.ensures.0 yes),
      λ e. c.same_lists.ensures.1 (same_material s t n m c.in-Ins.a c.in-Ins-kind.b n_is m_is c.requires.plain c.requires.other_plain e),
    )
