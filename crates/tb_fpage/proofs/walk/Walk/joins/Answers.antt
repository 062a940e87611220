use mir.Syntax.{w128}
use mir.Val.{to_z, of_z}
use Rattle.std.proofs.Common.{◌≡◌, arith, FitsSigned, w64, not, true, sym, ap, ◌∙◌, rules}
use Rattle.std.proofs.lemmas.Int.{ints}
use Rattle.tb_fpage.specs.Company.{suits, left_floats}
use Rattle.tb_fpage.proofs.WalkLemmas.{joins-fits, joins-failed, joins-unsuited}
use Rattle.tb_fpage.proofs.walk.Walk.joins.Goals as goal
use Rattle.tb_fpage.proofs.walk.Walk.joins.Goals.{then-not-has, else-not-has}

pub returns-then-suits : goal.returns-then-suits
returns-then-suits c = λ before h. elim c.if-not-has.branch [
  | then-not-has w ↦
      let z = c.args.wanted.now in
      let f = c.args.f.now in
      let fits_sep : FitsSigned w64 z.sep = search rules in
      let fits_most : FitsSigned w64 z.height = search rules in
      let fits_height : FitsSigned w64 f.height = search rules in
      let suit : suits z f ≡ true = sym w.suits.ensures ∙ sym w.value-is ∙ c.if-suits.true in
      joins-fits z c.args.self.now before f c.has.result (to_z w128 (of_z w128 c.higher.result)) (to_z w128 (of_z w128 c.from.result)) (c.has.ensures (left_floats before) h.failed) suit (ap not w.if-not-has.true) (omega (arith, ints)) (omega (arith, ints)) h
  | else-not-has w ↦ absurd cc
]

pub returns-else-suits : goal.returns-else-suits
returns-else-suits c = λ before h.
    let z = c.args.wanted.now in
    let f = c.args.f.now in
    c.if-suits.false ∙ sym (elim c.if-not-has.branch [
      | then-not-has w ↦ joins-unsuited z before f (sym w.suits.ensures ∙ sym w.value-is ∙ c.if-suits.false)
      | else-not-has w ↦ joins-failed z c.args.self.now before f c.has.result h (c.has.ensures (left_floats before) h.failed) (ap not w.if-not-has.false)
    ])
