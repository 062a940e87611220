use Rattle.std.proofs.Common.{◌≡◌, sym, ap, ◌∙◌, ◌∷◌, [], ◌++◌, Some, FitsSigned, w64, rules}
use Rattle.std.proofs.lemmas.Int.{to_z-of_z}
use Rattle.tb_scaled.specs.declared.Glue.{Glue}
use Rattle.tb_pool.specs.Lists.{list_at, with_list}
use Rattle.tb_node.specs.declared.Kind.TheVariants as kinds
use Rattle.tb_column.specs.FloatColumns.{made_node}
use Rattle.tb_column.proofs.StoreLemmas.{with_list-added}
use Rattle.tb_output.specs.BackList.{last_glue, interline_by}
use Rattle.tb_output.proofs.InText.PushLemmas.{pushed-first, list-reserved, last-sized}
use Rattle.tb_output.proofs.back_list.push_interline.Goals as goal
use Rattle.tb_node.proofs.FitLemmas.{dimension_small}

pub negate-requires-clause-width : goal.negate-requires-clause-width
negate-requires-clause-width c =
    let same = list-reserved c.args.store.now c.reserve.new.self c.args.l c.in_ok-reserve.ensures.lists in
    dimension_small _ (last-sized (list_at c.args.store.now c.args.l) c.in-Some.glue c.requires.sized (sym (c.in-Some.ensures ∙ ap last_glue same))).width

pub negate-requires-clause-stretch : goal.negate-requires-clause-stretch
negate-requires-clause-stretch c =
    let same = list-reserved c.args.store.now c.reserve.new.self c.args.l c.in_ok-reserve.ensures.lists in
    dimension_small _ (last-sized (list_at c.args.store.now c.args.l) c.in-Some.glue c.requires.sized (sym (c.in-Some.ensures ∙ ap last_glue same))).stretch

pub negate-requires-clause-shrink : goal.negate-requires-clause-shrink
negate-requires-clause-shrink c =
    let same = list-reserved c.args.store.now c.reserve.new.self c.args.l c.in_ok-reserve.ensures.lists in
    dimension_small _ (last-sized (list_at c.args.store.now c.args.l) c.in-Some.glue c.requires.sized (sym (c.in-Some.ensures ∙ ap last_glue same))).shrink

pub returns-in-Some-clause-ok : goal.returns-in-Some-clause-ok
returns-in-Some-clause-ok c =
    let same = list-reserved c.args.store.now c.reserve.new.self c.args.l c.in_ok-reserve.ensures.lists in
    let glue : last_glue (list_at c.args.store.now c.args.l) ≡ Some c.in-Some.glue = sym (c.in-Some.ensures ∙ ap last_glue same) in
    let one = pushed-first c.args.store.now c.reserve.new.self c.push_made.new.store c.args.l _ c.in_ok-reserve.ensures.lists
    (c.push_made.ensures.lists ∙ ap (λ (g : Glue). with_list c.reserve.new.self c.args.l (list_at c.reserve.new.self c.args.l ++ made_node (kinds.Skip g) ∷ [])) c.negate.ensures) in
    let fits : FitsSigned w64 c.args.penalty = search rules in
    let pen = simp to_z-of_z at c.push_made-in-Some.ensures.lists in
    let two = with_list-added c.args.store.now c.push_made.new.store c.push_made-in-Some.new.store c.args.l _ _ one pen in
    with_list-added c.args.store.now c.push_made-in-Some.new.store c.push_made-in-Some-2.new.store c.args.l _ _ two c.push_made-in-Some-2.ensures.lists
    ∙ ap (λ o. with_list c.args.store.now c.args.l (list_at c.args.store.now c.args.l ++ interline_by c.args.penalty o)) (sym glue)
