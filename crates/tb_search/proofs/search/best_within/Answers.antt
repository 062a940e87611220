use Rattle.std.proofs.Common.{◌≡◌, refl, sym, ap, subst, ◌∙◌, inl, inr, to_z, of_z, arith}
use Rattle.std.specs.Prelude.{ℕ, ℤ, ◌≤ℤ◌, List, reverse, FitsSigned}
use Rattle.std.specs.Int.{w128}
use Rattle.std.proofs.lemmas.Int.{ints, to_z-of_z}
use Rattle.std.specs.Borrow.{Bor}
use Rattle.tb_galley.specs.declared.Galley.{Galley}
use Rattle.tb_best.specs.BestPlan.{IsBest}
use Rattle.tb_best.specs.ClosedTables.{IsNoBetter}
use Rattle.tb_search.specs.declared.table.Table.{Table}
use Rattle.tb_search.specs.Continues.{IsNoWorse}
use Rattle.tb_search.proofs.BeginLemmas.{end-best, plan-low}
use Rattle.tb_search.proofs.SumLemmas.{in-range}
use Rattle.tb_search.proofs.search.best_within.Goals as goal

-- what is no worse has no more demerits
no-more : (a b : ℤ) (xs ys : List ℕ) → IsNoBetter a xs b ys → a ≤ℤ b
no-more a b xs ys (inl less) = omega (arith, ints, less)
no-more a b xs ys (inr same) = let is = same.0 in omega (arith, ints, is)

fewer-later : (t u : Table) → IsNoWorse t u → u.best.demerits ≤ℤ t.best.demerits
fewer-later t u h = no-more u.best.demerits t.best.demerits (reverse u.best.breaks.items) (reverse t.best.breaks.items) h

pub returns-clause-best : goal.returns-clause-best
returns-clause-best c = λ within.
    let t = c.search.new.self in
    let galley : c.begin.new.self.galley.now ≡ c.args.galley.now = ap (λ (x : Bor Galley). x.now) c.in_ok-begin.ensures.later.galley ∙ c.in_ok-table.ensures.galley in
    let table = c.in_ok-search.ensures.table in
    let searched = c.in_ok-search.ensures.searched in
    let same = in-range t.best.demerits (plan-low t.galley.now t.best.breaks.items t.best.demerits table.best.sum) table.bounded in
    let bound = searched.later.bound ∙ c.in_ok-begin.ensures.later.bound ∙ c.in_ok-table.ensures.bound in
    let fits : FitsSigned w128 c.args.bound = c.ranges.bound in
    let arg : to_z w128 (of_z w128 c.args.bound) ≡ c.args.bound = simp to_z-of_z refl in
    let in-bound : t.best.demerits ≤ℤ t.bound = subst (λ (z : ℤ). t.best.demerits ≤ℤ z) (sym (bound ∙ arg)) (subst (λ (z : ℤ). z ≤ℤ c.args.bound) same within) in
    subst (λ (d : ℤ). IsBest c.args.galley.now t.best.breaks.items d) (sym same) (end-best c.args.galley.now c.begin.new.self t galley table searched c.in_ok-search.ensures.none c.in_ok-begin.ensures.begun in-bound)

pub returns-clause-fewer : goal.returns-clause-fewer
returns-clause-fewer c =
    let t = c.search.new.self in
    let table = c.in_ok-search.ensures.table in
    let same = in-range t.best.demerits (plan-low t.galley.now t.best.breaks.items t.best.demerits table.best.sum) table.bounded in
    let first = fewer-later c.in_ok-table.table c.begin.new.self c.in_ok-begin.ensures.later.better in
    let second = fewer-later c.begin.new.self t c.in_ok-search.ensures.searched.later.better in
    let greedy = c.in_ok-table.ensures.greedy in
    subst (λ (z : ℤ). z ≤ℤ c.args.greedy) (sym same) (omega (arith, ints, first, second, greedy))
