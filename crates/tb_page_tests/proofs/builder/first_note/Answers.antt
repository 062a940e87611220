use Rattle.std.proofs.Common.{sym, ap, ◌∙◌}
use Rattle.std.specs.Prelude.{slice_get}
use Rattle.tb_pool.specs.Lists.{list_at}
use Rattle.tb_node.specs.NodeView.{NodeView}
use Rattle.tb_node.specs.Roles.{insertion_of_kind}
use Rattle.tb_builder.specs.Ownership.{ids_of}
use Rattle.tb_builder.proofs.Turns.FillLemmas.{first_is}
use Rattle.tb_builder.proofs.Turns.FreezeLemmas.{first_inner}
use Rattle.tb_page_tests.proofs.builder.first_note.Goals as goal

pub told_list-requires : goal.told_list-requires
told_list-requires c =
    let s = c.args.p.now.store in
    let first = sym (ap (λ l. slice_get (list_at s l) 0) c.waiting.ensures) ∙ sym c.in-Some.ensures in
    let f = first_is (list_at s c.args.p.now.builder.waiting) c.in-Some.n.now first in
    first_inner (ids_of c.args.p.now.builder) s c.in-Some.n.now f.0 c.in-Ins.i c.requires.own f.1 (sym (ap (λ (m : NodeView). insertion_of_kind m.kind) c.n.view_is) ∙ ap insertion_of_kind c.in-Ins.is)
