use Rattle.std.proofs.Common.{◌≡◌, sym, ◌∙◌, true, inr, arith}
use Rattle.std.specs.Prelude.{reverse}
use Rattle.std.proofs.lemmas.Int.{ints}
use Rattle.tb_lines.specs.LeastSolution.{is_greater}
use Rattle.tb_search.proofs.OrderLemmas.{not-both}
use Rattle.tb_search.proofs.table.Way.is_better.Goals as goal

pub returns-then-self-other-2-clause-better : goal.returns-then-self-other-2-clause-better
returns-then-self-other-2-clause-better c = λ h.
    let a = c.as_slice.ensures.value in
    let b = c.as_slice-then-self-other-2.ensures.value in
    let greater : is_greater (reverse c.args.self.now.breaks.items) (reverse c.args.other.now.breaks.items) ≡ true =
    (λ i. is_greater (reverse (sym a i)) (reverse (sym b i))) ∙ sym c.is_greater.ensures ∙ h in
    inr (omega (arith, ints), not-both (reverse c.args.self.now.breaks.items) (reverse c.args.other.now.breaks.items) greater)
