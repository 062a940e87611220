use Rattle.std.proofs.Common.{FitsSigned, w32}
use Rattle.std.proofs.lemmas.Int.{to_z-of_z}
use Rattle.std.proofs.lemmas.Result.{err_from_is_err_and}
use Rattle.tb_text.proofs.FrontLemmas.{cut, past}
use Rattle.tb_dvi.specs.Page.{parts_page}
use Rattle.tb_dvi.proofs.PageLemmas.{page-stops}
use Rattle.tb_dvi.proofs.page.put_whole.Goals as goal

pub returns-in_err-put_start : goal.returns-in_err-put_start
returns-in_err-put_start c =
    let l : FitsSigned w32 c.args.last = c.ranges.last in
    let p = err_from_is_err_and c.from_residual.result c.from_residual.ensures.1 in
    rw (p.1, p.2) (cut _ (simp to_z-of_z at c.in_err-put_start.ensures))

pub returns-in_err-put_parts : goal.returns-in_err-put_parts
returns-in_err-put_parts c =
    let l : FitsSigned w32 c.args.last = c.ranges.last in
    let p = err_from_is_err_and c.from_residual-in_err-put_parts.result c.from_residual-in_err-put_parts.ensures.1 in
    rw (p.1, p.2) (page-stops _ _ _ _ _ (parts_page c.args.store.now c.args.number c.args.parts.now) (simp to_z-of_z at c.in_ok-put_start.ensures) c.in_err-put_parts.ensures)

pub returns-in_err-put : goal.returns-in_err-put
returns-in_err-put c =
    let l : FitsSigned w32 c.args.last = c.ranges.last in
    let p = err_from_is_err_and c.from_residual-in_err-put.result c.from_residual-in_err-put.ensures.1 in
    rw (p.1, p.2) (past _ (simp to_z-of_z at c.in_ok-put_start.ensures) (past _ c.in_ok-put_parts.ensures.0 c.in_err-put.ensures))
