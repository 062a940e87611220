use Rattle.std.proofs.Common.{rules, pos, [], ◌∷◌, sym, subst, OnErr, FitsSigned, w64}
use Rattle.std.proofs.lemmas.Int.{to_z-of_z}
use Rattle.std.proofs.lemmas.List.Elements.{All-cons}
use Rattle.tb_dvi.specs.declared.page.Part.{Part}
use Rattle.tb_sheet.specs.declared.Sheet.{Sheet}
use Rattle.tb_sheet.specs.StoredSheets.{sheet_shown}
use Rattle.tb_text.specs.Fronts.{PutsFront}
use Rattle.tb_dvi.specs.File.{sheet_page, page_bytes}
use Rattle.tb_dvi.specs.Page.{IsShowable}
use Rattle.tb_dvi.proofs.PlacementLemmas.{column-showable}
use Rattle.tb_dvi.proofs.page.put_sheet.Goals as goal

pub put_page-requires-clause-parts : goal.put_page-requires-clause-parts
put_page-requires-clause-parts c =
    let store = c.args.store.now in
    let sheet = rw c.in-Two.is at c.requires.sheet in
    let at : FitsSigned w64 c.in-Two.at = search rules in
    let first : Part = record { h = pos 0; at = pos 0; list = c.in-Two.tops; set = c.unset.result } in
    let tops : IsShowable store first = record { list = sheet.0; share = search rules; right = search rules } in
    let left : IsShowable store c.column_part.result = rw c.column_part.ensures (column-showable store c.in-Two.left (pos 0) _ (search rules) sheet.1) in
    let right : IsShowable store c.column_part-in-Two.result = rw c.column_part-in-Two.ensures (column-showable store c.in-Two.right (pos 19660800) _ (search rules) sheet.2) in
    All-cons (IsShowable store) first (c.column_part.result ∷ c.column_part-in-Two.result ∷ []) tops
    (All-cons (IsShowable store) c.column_part.result (c.column_part-in-Two.result ∷ []) left
    (All-cons (IsShowable store) c.column_part-in-Two.result [] right (search rules)))

pub returns-in-Two-clause-err : goal.returns-in-Two-clause-err
returns-in-Two-clause-err c =
    let at : FitsSigned w64 c.in-Two.at = search rules in
    let last : FitsSigned w64 c.args.last = c.ranges.last in
    let put = simp (to_z-of_z, c.unset.ensures, c.column_part.ensures, c.column_part-in-Two.ensures) at c.put_page.ensures.err in
    subst (λ (s : Sheet). OnErr c.put_page.result (PutsFront c.args.out.now.items (page_bytes c.args.last (sheet_page c.args.number (sheet_shown c.args.store.now s))) c.put_page.new.out.items))
    (sym c.in-Two.is) put
