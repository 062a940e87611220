use Rattle.std.proofs.Common.{FitsSigned, w64, arith, rules, refl}
use Rattle.std.proofs.lemmas.Int.{ints}
use Rattle.tb_fpage.specs.Company.{left_floats}
use Rattle.tb_fpage.proofs.WalkLemmas.{visited-joined, visited-passed}
use Rattle.tb_fpage.proofs.walk.Walk.visit.Goals as goal

pub returns-then-joins-clause-stands : goal.returns-then-joins-clause-stands
returns-then-joins-clause-stands c = λ before h.
    let z = c.args.wanted.now in
    let f = c.args.f.now in
    let fits_sep : FitsSigned w64 z.sep = search rules in
    let fits : FitsSigned w64 f.height = search rules in
    visited-joined c.args.self.now c.take.new.self z.sep before f _ c.take.ensures (omega (arith, ints)) fits_sep fits h

pub returns-else-joins-clause-stands : goal.returns-else-joins-clause-stands
returns-else-joins-clause-stands c = λ before h.
    let f = c.args.f.now in
    visited-passed c.args.self.now c.pass.new.self c.args.wanted.now.sep before f c.pass.ensures.walk (c.pass.ensures.failed (left_floats before) f refl h.failed) h
