use Rattle.std.proofs.Common.{FitsSigned, w64, rules}
use Rattle.std.proofs.lemmas.Int.{to_z-of_z}
use Rattle.tb_node.specs.Shape.{box}
use Rattle.tb_break.proofs.ScanLemmas.{stands-add_glued, added_is, added_small}
use Rattle.tb_break.proofs.Scan.add_box.Goals as goal

pub returns-clause-stands : goal.returns-clause-stands
returns-clause-stands c = λ limit ns gs stands.
    let m : FitsSigned w64 c.self.inside.max_depth = search rules in
    let h : FitsSigned w64 c.args.height = c.ranges.height in
    let d : FitsSigned w64 c.args.depth = c.ranges.depth in
    let is = simp to_z-of_z at c.add_box.ensures in
    stands-add_glued c.args.self.now _ limit ns gs (box c.args.height c.args.depth) (added_is c.args.self.now _ _ _ _ (box c.args.height c.args.depth) c.self.view_is is) stands

pub invariant_of-self : goal.invariant_of-self
invariant_of-self c =
    let m : FitsSigned w64 c.self.inside.max_depth = search rules in
    let h : FitsSigned w64 c.args.height = c.ranges.height in
    let d : FitsSigned w64 c.args.depth = c.ranges.depth in
    let is = simp to_z-of_z at c.add_box.ensures in
    (c.self.invariant.0, added_small c.args.self.now _ _ _ _ (box c.args.height c.args.depth) c.self.view_is is c.requires.fits, c.self.invariant.2, c.self.invariant.3)
