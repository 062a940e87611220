use Rattle.std.proofs.Common.{refl, subst, ◌≡◌, List, [], ℕ, ◌++◌, codes, append_assoc, FitsSigned, w64, rules}
use Rattle.std.proofs.lemmas.Int.{to_z-of_z}
use Rattle.tb_text.specs.Fields.{and_number, and_count, line}
use Rattle.tb_text.specs.Fronts.{PutsFront, PutsAfter}
use Rattle.tb_node.specs.PlainNodes.{plain_list}
use Rattle.tb_column.specs.StoredColumns.{column_shown}
use Rattle.tb_report.specs.Lines.{item_lines, column_lines, unset}
use Rattle.tb_text.proofs.FrontLemmas.{cut, past, fails, on_joined}
use Rattle.tb_report.proofs.sheets.put_sheet.Goals as goal

pub returns-in_err-put_page-in-One : goal.returns-in_err-put_page-in-One
returns-in_err-put_page-in-One c = rw c.in-One.is (fails _ _ _ _ c.from_residual.ensures.0 (cut _ c.in_err-put_page-in-One.ensures))

pub returns-in_ok-put_page-in-One : goal.returns-in_ok-put_page-in-One
returns-in_ok-put_page-in-One c = rw c.in-One.is (on_joined c.put_column.result c.args.out.now.items c.put_page.new.out.items c.put_column.new.out.items _ _ _ refl c.in_ok-put_page-in-One.ensures c.put_column.ensures)

pub returns-in_err-put_page-in-Wide : goal.returns-in_err-put_page-in-Wide
returns-in_err-put_page-in-Wide c = rw c.in-Wide.is (fails _ _ _ _ c.from_residual-in_err-put_page-in-Wide.ensures.0 (cut _ c.in_err-put_page-in-Wide.ensures))

pub returns-in_ok-put_page-in-Wide : goal.returns-in_ok-put_page-in-Wide
returns-in_ok-put_page-in-Wide c = rw c.in-Wide.is (on_joined c.put_column-in-Wide.result c.args.out.now.items c.put_page-in-Wide.new.out.items c.put_column-in-Wide.new.out.items _ _ _ refl c.in_ok-put_page-in-Wide.ensures c.put_column-in-Wide.ensures)

-- the parts, one after another
joined : (a b d e : List ℕ) → a ++ (b ++ (d ++ e)) ≡ a ++ b ++ d ++ e
joined a b d e = simp append_assoc

pub returns-in_err-put_pair-in-Two : goal.returns-in_err-put_pair-in-Two
returns-in_err-put_pair-in-Two c =
    let at : FitsSigned w64 c.in-Two.at = search rules in
    let head : List ℕ = line (codes "page" ++ and_count c.args.page ++ codes " two at" ++ and_number c.in-Two.at) in
    let items : List ℕ = item_lines unset [] (plain_list c.args.store.now c.in-Two.tops) in
    let left : List ℕ = column_lines 1 (column_shown c.args.store.now c.in-Two.left) in
    let right : List ℕ = column_lines 2 (column_shown c.args.store.now c.in-Two.right) in
    rw c.in-Two.is (fails _ _ _ _ c.from_residual-in_err-put_pair-in-Two.ensures.0
    (subst (λ (t : List ℕ). PutsFront c.args.out.now.items t c.put_pair.new.out.items) (joined head items left right)
    (cut (items ++ (left ++ right)) (simp to_z-of_z at c.in_err-put_pair-in-Two.ensures))))

pub returns-in_err-put_items-in-Two : goal.returns-in_err-put_items-in-Two
returns-in_err-put_items-in-Two c =
    let at : FitsSigned w64 c.in-Two.at = search rules in
    let head : List ℕ = line (codes "page" ++ and_count c.args.page ++ codes " two at" ++ and_number c.in-Two.at) in
    let items : List ℕ = item_lines unset [] (plain_list c.args.store.now c.in-Two.tops) in
    let left : List ℕ = column_lines 1 (column_shown c.args.store.now c.in-Two.left) in
    let right : List ℕ = column_lines 2 (column_shown c.args.store.now c.in-Two.right) in
    rw c.in-Two.is (fails _ _ _ _ c.from_residual-in_err-put_items-in-Two.ensures.0
    (subst (λ (t : List ℕ). PutsFront c.args.out.now.items t c.put_items.new.out.items) (joined head items left right)
    (past _ (simp to_z-of_z at c.in_ok-put_pair-in-Two.ensures) (cut (left ++ right) (rw c.unset.ensures at c.in_err-put_items-in-Two.ensures)))))

pub returns-in_ok-put_items-in-Two : goal.returns-in_ok-put_items-in-Two
returns-in_ok-put_items-in-Two c =
    let at : FitsSigned w64 c.in-Two.at = search rules in
    let head : List ℕ = line (codes "page" ++ and_count c.args.page ++ codes " two at" ++ and_number c.in-Two.at) in
    let items : List ℕ = item_lines unset [] (plain_list c.args.store.now c.in-Two.tops) in
    let left : List ℕ = column_lines 1 (column_shown c.args.store.now c.in-Two.left) in
    let right : List ℕ = column_lines 2 (column_shown c.args.store.now c.in-Two.right) in
    rw c.in-Two.is
    (subst (λ (t : List ℕ). PutsAfter c.put_columns.result c.args.out.now.items t c.put_columns.new.out.items) (joined head items left right)
    (on_joined c.put_columns.result c.args.out.now.items c.put_pair.new.out.items c.put_columns.new.out.items _ _ _ refl (simp to_z-of_z at c.in_ok-put_pair-in-Two.ensures)
    (on_joined c.put_columns.result c.put_pair.new.out.items c.put_items.new.out.items c.put_columns.new.out.items _ _ _ refl (rw c.unset.ensures at c.in_ok-put_items-in-Two.ensures) c.put_columns.ensures)))
