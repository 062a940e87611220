use Rattle.std.proofs.Common.{◌≡◌, ◌++◌, subst}
use Rattle.tb_float.specs.declared.Part.TheVariants as parts
use Rattle.tb_fpage.specs.declared.Wanted.{Wanted}
use Rattle.tb_output.proofs.ColumnPages.FloatTurns.{when-more}
use Rattle.tb_told.specs.Tales.{tales, column_tales}
use Rattle.tb_why.specs.Seen.{spot_seen, told_unless}
use Rattle.tb_why.specs.SeenSteps.{TakesCompany}
use Rattle.tb_why.proofs.TellingLemmas.{float-put}
use Rattle.tb_why.proofs.Seen.float_column.Goals as goal

pub returns : goal.returns
returns c =
    let v = c.args.self.now in
    let u = c.take.new.self in
    let old = c.args.pieces.now.items in
    let mid = c.look.new.pieces.items in
    let took = subst (λ (z : Wanted). TakesCompany z parts.Deferred v u) c.wanted-wanted.ensures (when-more c.take.result _ _ c.if-not-take.false c.take.ensures) in
    let looked = subst (λ (z : Wanted). mid ≡ old ++ told_unless v.over (tales (column_tales (spot_seen v) z v.floats.deferred))) c.wanted-wanted.ensures c.in_ok-look.ensures in
    float-put c.args.p.now c.args.clearing v u c.put_out.new.self old mid c.put_out.new.pieces.items took looked c.in_ok-put_out.ensures.told c.in_ok-put_out.ensures.seen
