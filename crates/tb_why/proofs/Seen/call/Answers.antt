use Rattle.std.proofs.Common.{◌≡◌, [], ◌∷◌, ◌++◌, subst, OnOk, FitsSigned, w64, rules}
use Rattle.std.proofs.lemmas.Int.{to_z-of_z}
use Rattle.tb_told.specs.AreaTold.{told_call}
use Rattle.tb_told.specs.declared.Tale.{Tale}
use Rattle.tb_told.specs.declared.Tale.TheVariants.{Calls}
use Rattle.tb_told.specs.declared.Piece.TheVariants.{Says}
use Rattle.tb_told.specs.Tales.{tales, decisions}
use Rattle.tb_why.specs.Seen.{Seen, spot_seen}
use Rattle.tb_why.proofs.TellingLemmas.{told-after}
use Rattle.tb_why.proofs.Seen.call.Goals as goal

pub returns : goal.returns
returns c =
    let p = c.args.p.now in
    let f = c.args.f.now in
    let h = c.args.page_height in
    let r = c.tell_called.result in
    let old = c.args.pieces.now.items in
    let mid = c.tell.new.pieces.items in
    let new = c.tell_called.new.pieces.items in
    let fits : FitsSigned w64 h = search rules in
    let first = subst (λ (t : Tale). mid ≡ old ++ Says t ∷ []) (simp to_z-of_z at c.called.ensures) c.in_ok-tell.ensures in
    let later = simp to_z-of_z at c.tell_called.ensures in
    subst (λ (v : Seen). OnOk r (new ≡ old ++ tales (Calls (spot_seen c.args.self.now) f h ∷ decisions f (told_call p v.floats v.suppress h f)))) c.self.view_is
    (told-after r old mid new (Says (Calls (spot_seen c.args.self.now) f h) ∷ [])
    (tales (decisions f (told_call p c.self.inside.pool.lists c.self.inside.suppress h f))) first later)
