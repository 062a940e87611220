use Rattle.std.proofs.Common.{sym, ap, ◌∙◌, ◌-◌}
use Rattle.std.specs.List.{slice_get}
use Rattle.tb_pool.specs.Lists.{list_at}
use Rattle.tb_node.specs.declared.Node.{Node}
use Rattle.tb_output.specs.BackList.{glue_of_kind}
use Rattle.tb_output.proofs.InText.PushLemmas.{last-glue_is, last-there}
use Rattle.tb_output.proofs.back_list.last_glue.Goals as goal

pub returns-in-Some : goal.returns-in-Some
returns-in-Some c =
    let ns = list_at c.args.store.now c.args.l in
    c.wide_glue.ensures ∙ ap (λ (n : Node). glue_of_kind n.kind) c.node.view_is
    ∙ sym (last-glue_is ns c.in-Some.node.now (sym (ap (λ k. slice_get ns (k - 1)) c.len-count.ensures) ∙ sym c.in-Some.ensures))

pub returns-in-None : goal.returns-in-None
returns-in-None c =
    let ns = list_at c.args.store.now c.args.l in
    sym (last-there ns (λ e. c.if-count-eq0.false (c.len-count.ensures ∙ e)) (c.in-None.ensures ∙ ap (λ k. slice_get ns (k - 1)) c.len-count.ensures))
