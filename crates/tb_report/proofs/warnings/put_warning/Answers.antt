use Rattle.std.proofs.Common.{◌≡◌, ◌++◌, sym, subst, FitsSigned, w64, rules}
use Rattle.tb_text.specs.Fronts.{PutsAfter}
use Rattle.std.proofs.lemmas.Int.{to_z-of_z}
use Rattle.tb_sheet.specs.declared.Warn.{Warn}
use Rattle.tb_report.specs.Lines.{warn_line}
use Rattle.tb_report.proofs.warnings.put_warning.Goals as goal

pub returns-in-Large : goal.returns-in-Large
returns-in-Large c =
    let by : FitsSigned w64 c.in-Large.by = search rules in
    let put = simp to_z-of_z at c.put_by.ensures in
    subst (λ (w : Warn). PutsAfter c.put_by.result c.args.out.now.items (warn_line w) c.put_by.new.out.items) (sym c.in-Large.is) put

pub returns-in-Ht : goal.returns-in-Ht
returns-in-Ht c =
    let put = rw c.as_bytes.ensures at c.put_line.ensures in
    subst (λ (w : Warn). PutsAfter c.put_line.result c.args.out.now.items (warn_line w) c.put_line.new.out.items) (sym c.in-Ht.is) put

pub returns-in-Moved : goal.returns-in-Moved
returns-in-Moved c =
    let shift : FitsSigned w64 c.in-Moved.shift = search rules in
    let put = simp to_z-of_z at c.put_by-in-Moved.ensures in
    subst (λ (w : Warn). PutsAfter c.put_by-in-Moved.result c.args.out.now.items (warn_line w) c.put_by-in-Moved.new.out.items) (sym c.in-Moved.is) put

pub returns-in-Floats : goal.returns-in-Floats
returns-in-Floats c =
    subst (λ (w : Warn). PutsAfter c.put_number_line.result c.args.out.now.items (warn_line w) c.put_number_line.new.out.items) (sym c.in-Floats.is) c.put_number_line.ensures
