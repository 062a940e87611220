use Rattle.std.proofs.Common.{subst, sym}
use Rattle.std.specs.Prelude.{ℤ, pos, ◌≤ℤ◌}
use Rattle.tb_search.proofs.BeginLemmas.{plan-low}
use Rattle.tb_search.proofs.SumLemmas.{in-range}
use Rattle.tb_search.proofs.beam.beam_bound.Goals as goal

pub returns-then-found-bound-clause-low : goal.returns-then-found-bound-clause-low
returns-then-found-bound-clause-low c =
    let t = c.search_beam.new.self in
    let table = c.in_ok-search_beam.ensures.table in
    let low = plan-low t.galley.now t.best.breaks.items t.best.demerits table.best.sum in
    subst (λ (d : ℤ). pos 0 ≤ℤ d) (sym (in-range t.best.demerits low table.bounded)) low
