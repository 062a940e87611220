use Rattle.std.proofs.Common.{◌≡◌, refl, sym, ap, subst, ◌∙◌, List, [], ◌∷◌, ◌++◌, length, Some, arith}
use Rattle.tb_lines.specs.declared.text.LineParams.{LineParams}
use Rattle.tb_lines.specs.declared.text.Paragraph.{Paragraph}
use Rattle.tb_lines.specs.Solution.{SolutionView}
use Rattle.tb_lines.specs.LineText.{AreLeast}
use Rattle.tb_lines.proofs.SolveSteps.{IsBroken}
use Rattle.tb_galley_tests.proofs.lines.writes_the_lines_of_a_solution.Goals as goal

one_least : (ps : LineParams) (pars : List Paragraph) (s : SolutionView) (ss : List SolutionView) → length pars ≡ 1 → IsBroken ps pars 0 (Some s) → ss ≡ s ∷ [] → AreLeast ps pars ss
one_least ps [] s ss one b e = absurd (omega arith)
one_least ps (p ∷ []) s ss one b e = subst (AreLeast ps (p ∷ [])) (sym e) (b p refl, tt)
one_least ps (p ∷ q ∷ pars) s ss one b e = absurd (omega arith)

pub line_text-requires : goal.line_text-requires
line_text-requires c = λ d.
    let t = d.in-Ok.text in
    let s = d.in-Some.solution in
    let one : length t.paragraphs ≡ 1 = omega (arith, d.if-paragraphs-ne1.false, d.paragraphs.ensures) in
    let broken : IsBroken t.params t.paragraphs 0 d.in_ok-solution.field-0 = λ p e. d.in_ok-solution.ensures p e in
    let all : d.as_slice.result.now ≡ s ∷ [] = d.as_slice.ensures.value ∙ d.in_ok-push.ensures.items ∙ ap (λ l. l ++ s ∷ []) d.new-solutions.ensures.items in
    one_least t.params t.paragraphs s d.as_slice.result.now one (subst (IsBroken t.params t.paragraphs 0) d.in-Some.is broken) all
