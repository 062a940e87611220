use Rattle.std.proofs.Common.{◌∙◌}
use Rattle.tb_node.specs.Shape.{glue}
use Rattle.tb_break.proofs.ScanLemmas.{stands-add_glued, added_is, added_small, added_glue_is}
use Rattle.tb_break.proofs.Scan.add_glue.Goals as goal

pub returns-clause-stands : goal.returns-clause-stands
returns-clause-stands c = λ limit ns gs h.
    let is = c.add_glue.ensures ∙ added_glue_is c.self.inside.max_depth c.self.inside.sums c.args.g c.self.invariant.3 in
    stands-add_glued c.args.self.now _ limit ns gs (glue c.args.g) (added_is c.args.self.now _ _ _ _ (glue c.args.g) c.self.view_is is) h

pub invariant_of-self : goal.invariant_of-self
invariant_of-self c =
    let is = c.add_glue.ensures ∙ added_glue_is c.self.inside.max_depth c.self.inside.sums c.args.g c.self.invariant.3 in
    (c.self.invariant.0, added_small c.args.self.now _ _ _ _ (glue c.args.g) c.self.view_is is c.requires.fits, c.self.invariant.2, c.self.invariant.3)
