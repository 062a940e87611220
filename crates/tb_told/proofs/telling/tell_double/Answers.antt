use Rattle.std.proofs.Common.{[], ◌∷◌, take}
use Rattle.tb_float.specs.Lists.{floats_of}
use Rattle.tb_told.specs.declared.Told.TheVariants.{TestsWide, Goes}
use Rattle.tb_told.specs.AreaTold.{told_wide}
use Rattle.tb_told.proofs.TellingLemmas.{told-on, told-none, single-not-asked, wide-goes}
use Rattle.tb_told.proofs.telling.tell_double.Goals as goal

pub returns-then-not-f : goal.returns-then-not-f
returns-then-not-f c = λ s.
    let f = c.args.f.now in
    told-none f c.args.pieces.now.items _ (single-not-asked f.wide _ c.if-not-f.true)

pub returns : goal.returns
returns c = λ s.
    let p = c.args.p.now in
    let l = c.args.pool.now.lists in
    let f = c.args.f.now in
    let before = take c.args.k (floats_of c.args.from l) in
    told-on c.tell-2.result f c.args.pieces.now.items c.tell.new.pieces.items c.tell-2.new.pieces.items (TestsWide c.above_both-told.result) (Goes c.place_if.result ∷ []) (told_wide p l s before f)
    (wide-goes p l s before f c.above_both-told.result c.place_if.result c.if-not-f.false (c.above_both-told.ensures s) c.place_if.ensures) c.in_ok-tell.ensures c.tell-2.ensures
