use Rattle.std.proofs.Common.{◌≡◌, ap, ◌∙◌, pos, neg_ℤ, ◌∷◌, [], ◌++◌, FitsSigned, w64}
use Rattle.std.proofs.lemmas.Int.{to_z-of_z}
use Rattle.tb_node.specs.declared.Kind.TheVariants as kinds
use Rattle.tb_node.specs.declared.What.TheVariants as what
use Rattle.tb_pool.specs.Lists.{list_at, with_list}
use Rattle.tb_node.specs.declared.Node.{Node}
use Rattle.tb_node.specs.declared.Kind.{Kind}
use Rattle.tb_column.specs.FloatColumns.{made_node}
use Rattle.tb_column.proofs.StoreLemmas.{with_list-added}
use Rattle.tb_output.specs.BackList.{note_list}
use Rattle.tb_output.proofs.InText.PushLemmas.{pushed-first, grown-of}
use Rattle.tb_output.proofs.margins.push_note.Goals as goal

pub returns-clause-ok : goal.returns-clause-ok
returns-clause-ok c =
    let s = c.args.store.now in
    let l = c.args.back in
    let d : FitsSigned w64 c.args.depth = c.ranges.depth in
    let up : made_node c.up_kind.result ≡ made_node (kinds.Kern (neg_ℤ c.args.depth)) = simp to_z-of_z at c.up_kind.ensures in
    let down : made_node c.down_kind.result ≡ made_node (kinds.Hbox what.Blank (pos 0) c.args.depth) = simp to_z-of_z at c.down_kind.ensures in
    let one = pushed-first s c.reserve.new.self c.push_made.new.store l _ c.in_ok-reserve.ensures.lists (c.push_made.ensures.lists ∙ ap (λ (n : Node). with_list c.reserve.new.self l (list_at c.reserve.new.self l ++ n ∷ [])) up) in
    let two = with_list-added s c.push_made.new.store c.push_made-2.new.store l _ _ one (c.push_made-2.ensures.lists ∙ ap (λ (k : Kind). with_list c.push_made.new.store l (list_at c.push_made.new.store l ++ made_node k ∷ [])) c.note_kind.ensures) in
    let three = with_list-added s c.push_made-2.new.store c.push_made-3.new.store l _ _ two (c.push_made-3.ensures.lists ∙ ap (λ (n : Node). with_list c.push_made-2.new.store l (list_at c.push_made-2.new.store l ++ n ∷ [])) down) in
    grown-of s c.push_made-3.new.store l (note_list c.args.depth c.args.m.now c.args.at.now) [] three
