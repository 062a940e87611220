use Rattle.std.proofs.Common.{[], ◌∷◌}
use Rattle.std.proofs.lemmas.Int.{to_z-of_z}
use Rattle.tb_told.specs.declared.Told.TheVariants.{TestsBottom, Goes}
use Rattle.tb_told.specs.AreaTold.{told_bottom}
use Rattle.tb_told.proofs.TellingLemmas.{told-on, bottom-goes}
use Rattle.tb_told.proofs.telling.tell_bottom.Goals as goal

pub returns : goal.returns
returns c =
    let p = c.args.p.now in
    let l = c.args.pool.now.lists in
    let f = c.args.f.now in
    let s = c.args.s.now in
    let r = c.args.required in
    let rr = c.ranges.required in
    let told = simp to_z-of_z at c.at_bottom-told.ensures in
    told-on c.tell-2.result f c.args.pieces.now.items c.tell.new.pieces.items c.tell-2.new.pieces.items (TestsBottom c.at_bottom-told.result) (Goes c.place_if.result ∷ []) (told_bottom p l s r f)
    (bottom-goes p l s r f c.at_bottom-told.result c.place_if.result told c.place_if.ensures) c.in_ok-tell.ensures c.tell-2.ensures
