use Rattle.std.proofs.Common.{◌≡◌, ap, ◌∙◌, get_or, arith, rules, FitsSigned, w64}
use Rattle.std.proofs.lemmas.Int.{to_z-of_z}
use Rattle.tb_lines.specs.Entries.{line_between}
use Rattle.tb_lines.specs.Demerits.{sums_of, sums_demerits}
use Rattle.tb_lines.proofs.LineSums.{same_rest}
use Rattle.tb_lines.proofs.RunLemmas.{line_bounds, start_below, line_small}
use Rattle.tb_lines.proofs.table.Prepared.line_demerits.Goals as goal

pub between-sums-requires : goal.between-sums-requires
between-sums-requires c =
    let at = c.index.ensures ∙ ap (λ k. get_or c.args.self.now.sums.items k c.index.result.now) c.line_start-start.ensures in
    let b = line_bounds c.args.self.now.entries.now c.args.self.now.sums.items c.args.from c.args.to c.index.result.now c.index-2.result.now c.index.result.now c.index-2.result.now
    c.args.self.now.running c.args.self.now.few c.requires.within (omega arith) at c.index-2.ensures in
    let p = start_below c.args.self.now.entries.now c.args.from c.args.to c.index.result.now c.index-2.result.now b in
    record { width = p.width; stretch = p.stretch; shrink = p.shrink; fills = p.fills }

pub sums_demerits-requires-clause-width : goal.sums_demerits-requires-clause-width
sums_demerits-requires-clause-width c =
    let at = c.index.ensures ∙ ap (λ k. get_or c.args.self.now.sums.items k c.index.result.now) c.line_start-start.ensures in
    let b = line_bounds c.args.self.now.entries.now c.args.self.now.sums.items c.args.from c.args.to c.index.result.now c.index-2.result.now c.index.result.now c.index-2.result.now
    c.args.self.now.running c.args.self.now.few c.requires.within (omega arith) at c.index-2.ensures in
    let s = line_small c.args.self.now.entries.now c.args.from c.args.to c.index.result.now c.index-2.result.now c.between-sums.result b c.between-sums.ensures in
    let h = s.width in omega arith

pub sums_demerits-requires-clause-stretch : goal.sums_demerits-requires-clause-stretch
sums_demerits-requires-clause-stretch c =
    let at = c.index.ensures ∙ ap (λ k. get_or c.args.self.now.sums.items k c.index.result.now) c.line_start-start.ensures in
    let b = line_bounds c.args.self.now.entries.now c.args.self.now.sums.items c.args.from c.args.to c.index.result.now c.index-2.result.now c.index.result.now c.index-2.result.now
    c.args.self.now.running c.args.self.now.few c.requires.within (omega arith) at c.index-2.ensures in
    let s = line_small c.args.self.now.entries.now c.args.from c.args.to c.index.result.now c.index-2.result.now c.between-sums.result b c.between-sums.ensures in
    let h = s.stretch in omega arith

pub sums_demerits-requires-clause-shrink : goal.sums_demerits-requires-clause-shrink
sums_demerits-requires-clause-shrink c =
    let at = c.index.ensures ∙ ap (λ k. get_or c.args.self.now.sums.items k c.index.result.now) c.line_start-start.ensures in
    let b = line_bounds c.args.self.now.entries.now c.args.self.now.sums.items c.args.from c.args.to c.index.result.now c.index-2.result.now c.index.result.now c.index-2.result.now
    c.args.self.now.running c.args.self.now.few c.requires.within (omega arith) at c.index-2.ensures in
    let s = line_small c.args.self.now.entries.now c.args.from c.args.to c.index.result.now c.index-2.result.now c.between-sums.result b c.between-sums.ensures in
    let h = s.shrink in omega arith

pub returns : goal.returns
returns c =
    let at = c.index.ensures ∙ ap (λ k. get_or c.args.self.now.sums.items k c.index.result.now) c.line_start-start.ensures in
    let b = line_bounds c.args.self.now.entries.now c.args.self.now.sums.items c.args.from c.args.to c.index.result.now c.index-2.result.now c.index.result.now c.index-2.result.now
    c.args.self.now.running c.args.self.now.few c.requires.within (omega arith) at c.index-2.ensures in
    let same : c.between-sums.result ≡ sums_of (line_between c.args.self.now.entries.now c.args.from c.args.to) =
    same_rest c.index.result.now c.between-sums.result (sums_of (line_between c.args.self.now.entries.now c.args.from c.args.to)) c.index-2.result.now c.between-sums.ensures b.whole in
    let f : FitsSigned w64 c.args.ending = search rules in
    let v = simp to_z-of_z at c.sums_demerits.ensures.value in
    record {
      value = v
          ∙ ap (λ s. sums_demerits c.args.self.now.params.now s c.args.ending) same
          ∙ ap (sums_demerits c.args.self.now.params.now (sums_of (line_between c.args.self.now.entries.now c.args.from c.args.to))) c.requires.ending;
      low = c.sums_demerits.ensures.low;
      high = c.sums_demerits.ensures.high;
    }
