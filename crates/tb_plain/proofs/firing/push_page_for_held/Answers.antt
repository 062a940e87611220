use Rattle.std.proofs.Common.{◌≡◌, ap, ◌∙◌, ◌++◌, ◌∷◌, [], neg_ℤ, rules, FitsSigned, w64}
use Rattle.std.proofs.lemmas.Int.{to_z-of_z}
use Rattle.tb_node.specs.declared.Kind.{Kind}
use Rattle.tb_node.specs.declared.Kind.TheVariants as kinds
use Rattle.tb_scaled.specs.declared.Glue.{Glue}
use Rattle.tb_pool.specs.Lists.{list_at, with_list}
use Rattle.tb_column.specs.FloatColumns.{made_node}
use Rattle.tb_column.proofs.StoreLemmas.{with_list-added}
use Rattle.tb_plain.proofs.firing.push_page_for_held.Goals as goal

pub returns : goal.returns
returns c =
    let fits : FitsSigned w64 c.args.p.now.topskip = search rules in
    let kern : c.kern_back.result ≡ kinds.Kern (neg_ℤ c.args.p.now.topskip) = simp to_z-of_z at c.kern_back.ensures in
    let second = c.push_made-2.ensures.lists ∙ ap (λ (k : Kind). with_list c.push_made.new.store c.args.l (list_at c.push_made.new.store c.args.l ++ made_node k ∷ [])) kern in
    let fourth = c.push_made-4.ensures.lists ∙ ap (λ (g : Glue). with_list c.push_made-3.new.store c.args.l (list_at c.push_made-3.new.store c.args.l ++ made_node (kinds.Skip g) ∷ [])) c.clearing_glue.ensures in
    let two = with_list-added c.args.store.now c.push_made.new.store c.push_made-2.new.store c.args.l _ _ c.push_made.ensures.lists second in
    let three = with_list-added c.args.store.now c.push_made-2.new.store c.push_made-3.new.store c.args.l _ _ two c.push_made-3.ensures.lists in
    let four = with_list-added c.args.store.now c.push_made-3.new.store c.push_made-4.new.store c.args.l _ _ three fourth in
    with_list-added c.args.store.now c.push_made-4.new.store c.push_made-5.new.store c.args.l _ _ four c.push_made-5.ensures.lists
