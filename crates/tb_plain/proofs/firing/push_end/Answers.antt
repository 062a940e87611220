use Rattle.std.proofs.Common.{◌≡◌, sym, ap, ◌∙◌, ◌++◌, ◌∷◌, [], neg_ℤ, rules, FitsSigned, w64}
use Rattle.std.proofs.lemmas.Int.{to_z-of_z}
use Rattle.tb_scaled.specs.declared.Glue.{Glue}
use Rattle.tb_pool.specs.Lists.{list_at, with_list}
use Rattle.tb_node.specs.declared.Kind.{Kind}
use Rattle.tb_node.specs.declared.Kind.TheVariants as kinds
use Rattle.tb_column.specs.FloatColumns.{made_node}
use Rattle.tb_column.proofs.StoreLemmas.{with_list-added}
use Rattle.tb_plain.specs.StoredLists.{end_list}
use Rattle.tb_plain.proofs.GrowLemmas.{none-put}
use Rattle.tb_plain.proofs.FireLemmas.{end-none, end-both}
use Rattle.tb_plain.proofs.firing.push_end.Goals as goal

pub returns-then-not-is_ragged-clause-lists : goal.returns-then-not-is_ragged-clause-lists
returns-then-not-is_ragged-clause-lists c =
    none-put c.args.store.now c.args.list (end_list c.args.p.now c.args.depth) c.requires.live (end-none c.args.p.now c.args.depth (sym c.is_ragged.ensures ∙ search rules))

pub returns-clause-lists : goal.returns-clause-lists
returns-clause-lists c =
    let fits : FitsSigned w64 c.args.depth = search rules in
    let kern : c.kern_back.result ≡ kinds.Kern (neg_ℤ c.args.depth) = simp to_z-of_z at c.kern_back.ensures in
    let first = c.push_made.ensures.lists ∙ ap (λ (k : Kind). with_list c.args.store.now c.args.list (list_at c.args.store.now c.args.list ++ made_node k ∷ [])) kern in
    let second = c.push_made-2.ensures.lists ∙ ap (λ (g : Glue). with_list c.push_made.new.store c.args.list (list_at c.push_made.new.store c.args.list ++ made_node (kinds.Skip g) ∷ [])) c.filling_glue.ensures in
    with_list-added c.args.store.now c.push_made.new.store c.push_made-2.new.store c.args.list _ _ first second
    ∙ ap (λ xs. with_list c.args.store.now c.args.list (list_at c.args.store.now c.args.list ++ xs)) (sym (end-both c.args.p.now c.args.depth (sym c.is_ragged.ensures ∙ search rules)))
