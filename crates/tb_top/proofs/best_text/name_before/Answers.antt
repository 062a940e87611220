use Rattle.std.proofs.Common.{◌≡◌, sym, ◌∙◌, ap, suc, ◌-◌, ◌<◌, length, get_or, codes, arith}
use Rattle.tb_best.specs.BestLines.{name_before}
use Rattle.tb_top.proofs.Best.BestLineLemmas.{no-name, own-name, name-next}
use Rattle.tb_top.proofs.best_text.name_before.Goals as goal

pub returns-in-Some : goal.returns-in-Some
returns-in-Some c =
    let ns = c.args.items.now in
    let i = c.loop-i.i in
    let d = c.index-items-i.result in
    let n = get_or ns (i - 1) d in
    let later = c.loop-i-test.true in
    let inside = c.loop-i.invariant.within in
    let one : suc (i - 1) ≡ i = omega (arith, later) in
    let within : i - 1 < length ns = omega (arith, later, inside) in
    sym (own-name (name_before (codes "-") (i - 1) ns) c.in-Some.name.now n.kind c.in-Some.ensures)
    ∙ sym (name-next (codes "-") (i - 1) ns d within)
    ∙ ap (λ m. name_before (codes "-") m ns) one
    ∙ c.loop-i.invariant.name

pub loop-i-preserved : goal.loop-i-preserved
loop-i-preserved c =
    let ns = c.args.items.now in
    let i = c.loop-i.i in
    let d = c.index-items-i.result in
    let n = get_or ns (i - 1) d in
    let later = c.loop-i-test.true in
    let inside = c.loop-i.invariant.within in
    let one : suc (i - 1) ≡ i = omega (arith, later) in
    let within : i - 1 < length ns = omega (arith, later, inside) in
    record {
      within = omega (arith, inside);
      name = sym (no-name (name_before (codes "-") (i - 1) ns) n.kind c.in_default.ensures)
          ∙ sym (name-next (codes "-") (i - 1) ns d within)
          ∙ ap (λ m. name_before (codes "-") m ns) one
          ∙ c.loop-i.invariant.name;
    }
