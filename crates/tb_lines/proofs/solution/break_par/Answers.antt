use Rattle.std.proofs.Common.{◌≡◌, ap, ◌∙◌, subst, List, get_or, IfOk, MatchOption}
use Rattle.std.proofs.lemmas.Option.{get_or_from_slice_get}
use Rattle.tb_lines.specs.declared.text.Item.{Item}
use Rattle.tb_lines.specs.declared.text.Paragraph.{Paragraph}
use Rattle.tb_lines.specs.Entries.{list_of}
use Rattle.tb_lines.specs.LeastSolution.{IsLeastOf, HasNone}
use Rattle.tb_lines.proofs.solution.break_par.Goals as goal

pub returns : goal.returns
returns c = λ p e.
    let at = c.index-as_slice-n.result in
    let same : at ≡ p = c.index-as_slice-n.is ∙ ap (λ xs. get_or xs c.args.n at) c.as_slice.ensures ∙ get_or_from_slice_get c.args.text.now.paragraphs c.args.n p at e in
    let items : c.as_slice-2.result.now ≡ p.items = c.as_slice-2.ensures.items ∙ ap (λ (q : Paragraph). q.items) same in
    let P : List Item → Type 0 = λ xs. IfOk c.break_items.result (λ o. MatchOption o (HasNone c.args.text.now.params (list_of xs)) (λ s. IsLeastOf c.args.text.now.params xs s)) in
    subst P items c.break_items.ensures
