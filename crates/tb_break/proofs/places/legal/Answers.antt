use Rattle.std.proofs.Common.{◌≡◌, ◌∙◌, ◌+◌, ap, suc, arith, drop}
use Rattle.std.specs.Prelude.{nat_eq, Some, None, if◌then◌else◌}
use Rattle.tb_scaled.specs.Scaled.{eject_penalty}
use Rattle.tb_pool.specs.Lists.{list_at}
use Rattle.tb_node.specs.PlainNodes.{shape_of}
use Rattle.tb_break.specs.Places.{begins_with_glue}
use Rattle.tb_break.specs.SplitPlace.{shapes, penalty_by}
use Rattle.tb_break.proofs.LegalLemmas.{legal_end, legal_before, node_within}
use Rattle.tb_break.proofs.places.legal.Goals as goal

pub returns-in_default : goal.returns-in_default
returns-in_default c =
    c.end_penalty.ensures ∙ ap (λ n. if nat_eq c.args.index n then Some eject_penalty else None) c.len-len.ensures
    ∙ legal_end (list_at c.args.store.now c.args.l) c.args.index c.in_default.ensures

pub lasts_before-requires-clause-within : goal.lasts_before-requires-clause-within
lasts_before-requires-clause-within c = omega (arith, node_within (list_at c.args.store.now c.args.l) c.args.index c.in-Some.n.now c.in-Some.ensures)

pub overflow_add-index : goal.overflow_add-index
overflow_add-index c = omega (arith, node_within (list_at c.args.store.now c.args.l) c.args.index c.in-Some.n.now c.in-Some.ensures, c.len-len.ensures)

pub returns : goal.returns
returns c =
    let next : c.args.index + 1 ≡ suc c.args.index = omega arith in
    let glue = c.glue_at.ensures ∙ ap (λ k. begins_with_glue (drop k (shapes c.args.store.now c.args.l))) next in
    c.penalty_before.ensures ∙ (λ i. penalty_by (c.lasts_before.ensures i) (glue i) (shape_of c.in-Some.n.now))
    ∙ legal_before (list_at c.args.store.now c.args.l) c.args.index c.in-Some.n.now c.in-Some.ensures
