use Rattle.std.proofs.Common.{◌≡◌, rules, ◌-◌, ◌∷◌, ℕ, ℤ, ap, sym, ◌∙◌, subst, arith, length, Option, List, FitsSigned, w64}
use Rattle.std.specs.Prelude.{reverse}
use Rattle.std.proofs.lemmas.Int.{to_z-of_z}
use Rattle.std.proofs.lemmas.List.{reverse-reverse}
use Rattle.tb_lines.specs.declared.table.Best.{Best}
use Rattle.tb_lines.specs.declared.entries.Entry.{Entry}
use Rattle.tb_lines.specs.declared.text.LineParams.{LineParams}
use Rattle.tb_lines.specs.Solution.{SolutionView}
use Rattle.tb_lines.specs.LeastSolution.{IsLeast}
use Rattle.tb_lines.specs.Table.{AreLinked, row_at, Follows}
use Rattle.tb_lines.proofs.LeastWays.{linked_rows, least_by_table, none_by_table}
use Rattle.tb_lines.proofs.solution.solution_by.Goals as goal

-- the solution of falling breaks that are least
rising_least : (ps : LineParams) (es : List Entry) (fs vs : List ℕ) (t u : ℤ) (s : SolutionView) → IsLeast ps es fs t → vs ≡ fs → u ≡ t → s ≡ record { breaks = reverse vs; total = u } → IsLeast ps es (reverse s.breaks) s.total
rising_least ps es fs vs t u s least e f is =
    let breaks : fs ≡ reverse s.breaks = sym e ∙ sym (reverse-reverse vs) ∙ ap reverse (ap (λ (x : SolutionView). x.breaks) (sym is)) in
    let total : t ≡ s.total = sym f ∙ ap (λ (x : SolutionView). x.total) (sym is) in
    subst (λ js. IsLeast ps es js s.total) breaks (subst (λ x. IsLeast ps es fs x) total least)

pub named_breaks-requires-clause-linked : goal.named_breaks-requires-clause-linked
named_breaks-requires-clause-linked c =
    let P : List (Option Best) → Type 0 = λ rows. AreLinked rows in
    subst P (sym c.requires.rows) (linked_rows c.args.params.now c.args.entries.now (length c.args.entries.now))

pub named_breaks-requires-clause-inside : goal.named_breaks-requires-clause-inside
named_breaks-requires-clause-inside c = λ i e.
    let P : List (Option Best) → Type 0 = λ rows. AreLinked rows in
    let linked : AreLinked c.args.rows.now = subst P (sym c.requires.rows) (linked_rows c.args.params.now c.args.entries.now (length c.args.entries.now)) in
    (linked (length c.args.entries.now - 1) c.in-Some.best i (sym c.in-Some.ensures) e).1

pub returns-in_ok-breaks-in-Some : goal.returns-in_ok-breaks-in-Some
returns-in_ok-breaks-in-Some c =
    let h = c.in_ok-breaks-in-Some.ensures in
    let row = ap (λ rows. row_at rows (length c.args.entries.now - 1)) (sym c.requires.rows) ∙ sym c.in-Some.ensures in
    let P : List (Option Best) → Type 0 = λ rows. Follows (row_at rows) c.in-Some.best.from h.0 in
    let least = least_by_table c.args.params.now c.args.entries.now (length c.args.entries.now - 1) (omega arith) c.in-Some.best row h.0 (subst P c.requires.rows h.1) in
    let f : FitsSigned w64 c.in-Some.best.total = search rules in
    rising_least c.args.params.now c.args.entries.now ((length c.args.entries.now - 1) ∷ h.0) c.in_ok-breaks-in-Some.breaks.items c.in-Some.best.total _ c.of_falling.result least h.2 (to_z-of_z w64 c.in-Some.best.total f) c.of_falling.ensures

pub returns-in-None : goal.returns-in-None
returns-in-None c =
    let row = ap (λ rows. row_at rows (length c.args.entries.now - 1)) (sym c.requires.rows) ∙ sym c.in-None.ensures in
    none_by_table c.args.params.now c.args.entries.now (length c.args.entries.now - 1) (omega arith) row
