use Rattle.std.proofs.Common.{sym, subst, FitsSigned, w64, rules}
use Rattle.std.proofs.lemmas.Int.{to_z-of_z}
use Rattle.tb_float.specs.Ranges.{IsWithin}
use Rattle.tb_float.proofs.RoomLemmas.{fraction-within}
use Rattle.tb_float.proofs.rooms.share_of.Goals as goal

pub returns-clause-within : goal.returns-clause-within
returns-clause-within c =
    let s = c.ranges.share in
    let a = c.ranges.amount in
    let r : FitsSigned w64 c.frac.result = search rules in
    let value = simp to_z-of_z at c.frac.ensures in
    simp to_z-of_z (subst (IsWithin 35184372088832) (sym value) (fraction-within c.args.share c.args.amount 35184372088832 c.requires.share c.requires.amount))
