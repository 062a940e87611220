use Rattle.std.proofs.Common.{subst, arith}
use Rattle.tb_lines.specs.Galley.{solutions_from}
use Rattle.tb_lines.proofs.SolveSteps.{IsBroken, solve_start, solve_more, solve_none, solve_done}
use Rattle.tb_lines.proofs.galley.solve.Goals as goal

pub loop-n-init : goal.loop-n-init
loop-n-init c = solve_start (solutions_from c.args.text.now.params 1 c.args.text.now.paragraphs) c.new-solutions.result.items c.new-solutions.ensures.items

pub loop-n-preserved : goal.loop-n-preserved
loop-n-preserved c =
    let t = c.args.text.now in
    let broken : IsBroken t.params t.paragraphs c.loop-n.n c.in_ok-solution.field-0 = λ p e. c.in_ok-solution.ensures p e in
    let end = c.paragraphs-n-end.ensures in
    solve_more t.params t.paragraphs c.loop-n.n c.loop-n.solutions.items c.push.new.self.items c.in-Some.solution (omega arith)
    (subst (λ o. IsBroken t.params t.paragraphs c.loop-n.n o) c.in-Some.is broken) c.loop-n.invariant c.in-Ok.ensures.items

pub returns-in_default : goal.returns-in_default
returns-in_default c =
    let t = c.args.text.now in
    let broken : IsBroken t.params t.paragraphs c.loop-n.n c.in_ok-solution.field-0 = λ p e. c.in_ok-solution.ensures p e in
    let end = c.paragraphs-n-end.ensures in
    solve_none t.params t.paragraphs c.loop-n.n c.loop-n.solutions.items (omega arith) (subst (λ o. IsBroken t.params t.paragraphs c.loop-n.n o) c.in_default.is broken) c.loop-n.invariant

pub returns : goal.returns
returns c =
    let t = c.args.text.now in
    let end = c.paragraphs-n-end.ensures in
    solve_done t.params t.paragraphs c.loop-n.n c.loop-n.solutions.items (omega arith) c.loop-n.invariant
