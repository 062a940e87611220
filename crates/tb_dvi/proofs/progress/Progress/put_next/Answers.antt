use Rattle.std.proofs.Common.{rules, ◌≡◌, ◌∙◌, ap, pos, ◌+◌, ◌-◌, ◌||◌, nat_lt, length, FitsSigned, w64, arith}
use Rattle.std.proofs.lemmas.Int.{to_z-of_z}
use Rattle.tb_sheet.specs.StoredSheets.{sheet_shown}
use Rattle.tb_dvi.specs.File.{sheet_page, page_bytes}
use Rattle.tb_dvi.proofs.PageLemmas.{appended}
use Rattle.tb_dvi.proofs.ProgressLemmas.{shows_any}
use Rattle.tb_dvi.proofs.progress.Progress.put_next.Goals as goal

pub returns-clause-ok : goal.returns-clause-ok
returns-clause-ok c =
    let w = c.args.self.now in
    let p = sheet_page c.args.number (sheet_shown c.args.store.now c.args.sheet.now) in
    let last : FitsSigned w64 w.last = search rules in
    let wrote = simp to_z-of_z at c.in_ok-put_sheet.ensures.bytes in
    let size : c.len.result - c.len-before.result ≡ length (page_bytes w.last p) =
    omega (arith, c.len.ensures, c.len-before.ensures, c.put_sheet.new.out.ok.0, c.args.out.now.ok.0, appended c.args.out.now.items c.put_sheet.new.out.items (page_bytes w.last p) wrote.0) in
    let any : nat_lt 46 (c.len.result - c.len-before.result) ≡ nat_lt 0 (length p.placed) = ap (λ n. nat_lt 46 n) size ∙ shows_any w.last p in
    c.pass.ensures.value ∙ (λ i. record { place = w.place + size i; last = pos w.place; pages = w.pages + 1; any = w.any || any i })
