use Rattle.std.proofs.Common.{◌≡◌, sym, ap, subst, ◌<◌, ◌+◌, ◌-◌, length, get_or, arith}
use Rattle.tb_column.specs.declared.NoteBox.{NoteBox}
use Rattle.tb_output.proofs.ColumnPages.StandingBoxes.{all-standing, front-standing}
use Rattle.tb_output.proofs.standing.standing_notes.Goals as goal

pub returns-then-notes-count : goal.returns-then-notes-count
returns-then-notes-count c =
    let n = c.index-notes-count.result in
    let some : (length c.args.notes.now - 1) + 1 ≡ length c.args.notes.now = omega (arith, c.if-count-eq0.false) in
    sym (front-standing 0 c.args.notes.now (length c.args.notes.now - 1) n c.requires some c.if-notes-count.true)

pub returns-else-notes-count : goal.returns-else-notes-count
returns-else-notes-count c =
    let n = c.index-notes-count.result in
    let some : (length c.args.notes.now - 1) + 1 ≡ length c.args.notes.now = omega (arith, c.if-count-eq0.false) in
    let same : n.class ≡ (get_or c.args.notes.now (length c.args.notes.now - 1) n).class = ap (λ (x : NoteBox). x.class) c.index-notes-count.is in
    let less : n.class < 255 = omega (arith, same, c.if-notes-count.false, c.index-notes-count.element_fits.fits) in
    sym (all-standing 0 c.args.notes.now (length c.args.notes.now - 1) n c.requires some (subst (λ (x : NoteBox). x.class < 255) c.index-notes-count.is less))
