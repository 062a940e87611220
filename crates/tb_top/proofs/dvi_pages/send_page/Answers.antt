use Rattle.std.proofs.Common.{◌≡◌, ◌∙◌, sym, subst, [], ◌∷◌, ◌++◌}
use Rattle.std.proofs.lemmas.Result.{err_from_is_err_and}
use Rattle.std.specs.Io.KnownBytes.{Appends, append_known}
use Rattle.tb_io.specs.Sink.{AppendsPrefix}
use Rattle.tb_sheet.specs.StoredSheets.{sheet_shown}
use Rattle.tb_dvi.specs.File.{Page, sheet_page, page_bytes}
use Rattle.tb_dvi.specs.Progress.{with_page}
use Rattle.tb_top.specs.DviWritten.{HoldsPages, FailsAmong}
use Rattle.tb_top.proofs.Written.KeptLemmas.{more-kept, keeps-longer, keeps-appends}
use Rattle.tb_why.proofs.PrintablePages.{printable-sheet}
use Rattle.tb_top.proofs.DviFiles.DviSending.{holds-more, holds-short, holds-written, short-before, short-written, misses-page, as-before}
use Rattle.tb_top.proofs.dvi_pages.send_page.Goals as goal

pub put_next-requires-clause-sheet : goal.put_next-requires-clause-sheet
put_next-requires-clause-sheet g c = printable-sheet c.args.store.now c.args.sheet.now c.requires.sheet

-- ---- the page has no bytes: what was kept before is written

pub returns-in_err-write_all-clause-sent : goal.returns-in_err-write_all-clause-sent
returns-in_err-write_all-clause-sent g c start ps more h =
    let p = err_from_is_err_and c.from_residual.result c.from_residual.ensures.1 in
    let page : Page = sheet_page c.args.number (sheet_shown c.args.store.now c.args.sheet.now) in
    let held = g.K.Sink.held c.args.out.now in
    let kept = c.args.kept.now.items in
    let text : c.as_slice.result.now ≡ kept = c.as_slice.ensures.value ∙ as-before kept _ c.put_next.new.out.items c.truncate.new.self.items c.len-before.result c.in-Err.ensures.front (c.len-before.ensures ∙ c.args.kept.now.ok.0) c.truncate.ensures.items in
    let part = subst (AppendsPrefix held (g.K.Sink.held c.write_all.new.out)) text c.in_err-write_all.ensures.err in
    rw (p.1, p.2) (short-written start held (g.K.Sink.held c.write_all.new.out) kept (ps ++ page ∷ []) more part (short-before start (append_known held kept) c.args.progress.now ps h page))

pub returns-in-Err-clause-sent : goal.returns-in-Err-clause-sent
returns-in-Err-clause-sent g c start ps more h =
    let page : Page = sheet_page c.args.number (sheet_shown c.args.store.now c.args.sheet.now) in
    let held = g.K.Sink.held c.args.out.now in
    let new = g.K.Sink.held c.write_all.new.out in
    let kept = c.args.kept.now.items in
    let text : c.as_slice.result.now ≡ kept = c.as_slice.ensures.value ∙ as-before kept _ c.put_next.new.out.items c.truncate.new.self.items c.len-before.result c.in-Err.ensures.front (c.len-before.ensures ∙ c.args.kept.now.ok.0) c.truncate.ensures.items in
    let whole = subst (Appends held new) text c.in_ok-write_all.ensures.ok in
    subst (λ e. FailsAmong e start new (ps ++ page ∷ [])) (sym c.into.ensures)
    (misses-page start new c.args.progress.now ps (holds-written start held new kept ps c.args.progress.now h whole) page c.in-Err.fault c.in-Err.ensures.page)

-- ---- the page is kept

pub returns-in_err-write_long-clause-sent : goal.returns-in_err-write_long-clause-sent
returns-in_err-write_long-clause-sent g c start ps more h =
    let p = err_from_is_err_and c.from_residual-in_err-write_long.result c.from_residual-in_err-write_long.ensures.1 in
    let page : Page = sheet_page c.args.number (sheet_shown c.args.store.now c.args.sheet.now) in
    let held = g.K.Sink.held c.args.out.now in
    let kept = c.args.kept.now.items in
    let all = c.put_next.new.out.items in
    let w = c.args.progress.now in
    let bytes = page_bytes w.last page in
    let longer = subst (λ l. Appends (append_known held kept) (append_known held l) bytes) (sym c.in_default.ensures.page.0) (more-kept held kept bytes) in
    let holds = holds-more start (append_known held kept) w ps h page c.in_default.ensures.page.1 (append_known held all) longer in
    rw (p.1, p.2)
    (short-written start held (g.K.Sink.held c.write_long.new.out) all (ps ++ page ∷ []) more c.in_err-write_long.ensures.err (holds-short start (append_known held all) (with_page page w) (ps ++ page ∷ []) holds))

pub returns-clause-sent : goal.returns-clause-sent
returns-clause-sent g c start ps more h =
    let page : Page = sheet_page c.args.number (sheet_shown c.args.store.now c.args.sheet.now) in
    let held = g.K.Sink.held c.args.out.now in
    let new = g.K.Sink.held c.write_long.new.out in
    let kept = c.args.kept.now.items in
    let left = c.write_long.new.kept.items in
    let w = c.args.progress.now in
    let bytes = page_bytes w.last page in
    let keeps = keeps-longer held new kept c.put_next.new.out.items left bytes c.in_default.ensures.page.0 c.in_ok-write_long.ensures.ok in
    subst (λ u. HoldsPages start (append_known new left) u (ps ++ page ∷ [])) (sym c.in_default.ensures.ok)
    (holds-more start (append_known held kept) w ps h page c.in_default.ensures.page.1 (append_known new left) (keeps-appends held new kept left bytes keeps))
