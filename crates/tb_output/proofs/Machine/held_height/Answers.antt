use Rattle.std.proofs.Common.{◌≡◌, sym, subst, ◌∙◌, ap, length}
use Rattle.tb_pool.specs.Lists.{list_at}
use Rattle.tb_scaled.specs.Amount.{IsAmount}
use Rattle.tb_output.specs.Machine.{MachineView}
use Rattle.tb_output.proofs.InText.ExtentLemmas.{room-there, page-amount}
use Rattle.tb_output.proofs.ColumnPages.SizeLemmas.{amount-passed}
use Rattle.tb_output.proofs.Machine.held_height.Goals as goal

pub returns-clause-small : goal.returns-clause-small
returns-clause-small c =
    let m = c.args.self.now in
    let ns = list_at c.args.store.now m.held_page in
    let same : c.self.inside.held_room ≡ m.held_room = ap (λ (v : MachineView). v.held_room) c.self.view_is in
    let page : c.self.inside.held_page ≡ m.held_page = ap (λ (v : MachineView). v.held_page) c.self.view_is in
    let some : length ns ≡ 0 → ⊥ = λ e. c.if-len-eq0.false (c.len.ensures ∙ ap (λ q. length (list_at c.args.store.now q)) page ∙ e) in
    amount-passed c.self.inside.held_room (subst IsAmount (sym (same ∙ room-there ns m.held_room c.requires.room some)) (page-amount c.args.store.now m.held_page c.requires.held))
