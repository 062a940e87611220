use Rattle.std.proofs.Common.{FitsSigned, w64, rules}
use Rattle.std.proofs.lemmas.Int.{to_z-of_z}
use Rattle.tb_pack.proofs.PackLemmas.{packed-by}
use Rattle.tb_pack.proofs.pack_wide.Goals as goal

pub returns : goal.returns
returns c = record {
  value = λ limit ns is.
      let h : FitsSigned w64 c.args.height = c.ranges.height in
      let total : FitsSigned w64 c.args.sums.now.total = search rules in
      let depth : FitsSigned w64 c.args.sums.now.depth = search rules in
      let excess : FitsSigned w64 c.difference.result = search rules in
      let difference = simp to_z-of_z at c.difference.ensures in
      let set = simp to_z-of_z at c.set_glue.ensures in
      packed-by c.args.height limit ns c.args.sums.now c.set_glue.result is (rw difference at set);
}
