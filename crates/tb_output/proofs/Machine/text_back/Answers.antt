use Rattle.std.proofs.Common.{◌≡◌, ◌≢◌, sym, subst, ap, ◌∙◌, ◌-◌, length, take, arith}
use Rattle.tb_pool.specs.Lists.{IsLive, list_at, with_list}
use Rattle.tb_pool.proofs.CallerLemmas.{live_other, live_same}
use Rattle.tb_output.specs.Machine.{MachineView}
use Rattle.tb_output.specs.FiringParts.{HasTextBack}
use Rattle.tb_output.proofs.InText.ExtentLemmas.{page-cut, held-cut, room-cut, room-back, depth-back}
use Rattle.tb_output.proofs.InText.BackLemmas.{first-live, second-live, second-empty, other-live, text-joined}
use Rattle.tb_output.proofs.Machine.text_back.Goals as goal
use Rattle.tb_output.proofs.Machine.text_back.Goals.{then-count-lt2, else-count-lt2}

pub append-requires-clause-first_live : goal.append-requires-clause-first_live
append-requires-clause-first_live c = live_other c.args.store.now c.shorten.new.store c.args.body _ c.args.back c.requires.body_apart c.shorten.ensures c.requires.back

pub append-requires-clause-second_live : goal.append-requires-clause-second_live
append-requires-clause-second_live c =
    subst (λ (m : MachineView). IsLive c.shorten.new.store m.held_page) (sym c.self.view_is)
    (live_other c.args.store.now c.shorten.new.store c.args.body _ c.args.self.now.held_page c.requires.held_apart c.shorten.ensures c.requires.held.live)

pub append-requires-2-clause-first_live : goal.append-requires-2-clause-first_live
append-requires-2-clause-first_live c =
    let back_held : c.args.back ≢ c.self.inside.held_page = subst (λ (m : MachineView). c.args.back ≢ m.held_page) (sym c.self.view_is) c.requires.back_apart in
    first-live c.shorten.new.store c.append.new.self c.args.back c.self.inside.held_page back_held c.append.ensures.joined

pub append-requires-2-clause-second_live : goal.append-requires-2-clause-second_live
append-requires-2-clause-second_live c =
    let back_held : c.args.back ≢ c.self.inside.held_page = subst (λ (m : MachineView). c.args.back ≢ m.held_page) (sym c.self.view_is) c.requires.back_apart in
    let held_body : c.self.inside.held_page ≢ c.args.body = subst (λ (m : MachineView). m.held_page ≢ c.args.body) (sym c.self.view_is) c.requires.held_apart in
    other-live c.shorten.new.store c.append.new.self c.args.back c.self.inside.held_page back_held c.append.ensures.joined c.args.body (λ e. c.requires.body_apart (sym e)) (λ e. held_body (sym e))
    (live_same c.args.store.now c.shorten.new.store c.args.body _ c.shorten.ensures)

pub close-requires-clause-live : goal.close-requires-clause-live
close-requires-clause-live c = second-live c.append.new.self c.append-2.new.self c.args.back c.args.body c.requires.body_apart c.append-2.ensures.joined

pub close-requires-clause-empty : goal.close-requires-clause-empty
close-requires-clause-empty c = second-empty c.append.new.self c.append-2.new.self c.args.back c.args.body c.requires.body_apart c.append-2.ensures.joined

pub told-told-requires-clause-held : goal.told-told-requires-clause-held
told-told-requires-clause-held c = held-cut c.args.store.now c.shorten.new.store c.args.body _ c.shorten.ensures c.args.self.now.held_page c.requires.held_apart c.requires.held

pub told-told-requires-clause-held_room : goal.told-told-requires-clause-held_room
told-told-requires-clause-held_room c = room-cut c.args.store.now c.shorten.new.store c.args.body _ c.shorten.ensures c.args.self.now.held_page c.args.self.now.held_room c.requires.held_apart c.requires.held_room

pub told-told-requires-clause-body : goal.told-told-requires-clause-body
told-told-requires-clause-body c = page-cut c.args.store.now c.shorten.new.store c.args.body _ c.shorten.ensures c.requires.body

pub returns-clause-lists : goal.returns-clause-lists
returns-clause-lists c =
    let a = c.args.store.now in
    let ns = list_at a c.args.body in
    let back_held : c.args.back ≢ c.self.inside.held_page = subst (λ (m : MachineView). c.args.back ≢ m.held_page) (sym c.self.view_is) c.requires.back_apart in
    let held_body : c.self.inside.held_page ≢ c.args.body = subst (λ (m : MachineView). m.held_page ≢ c.args.body) (sym c.self.view_is) c.requires.held_apart in
    let count : c.if-count-lt2.shorten ≡ length ns - 2 = elim c.if-count-lt2.branch [ then-count-lt2 w ↦ omega (arith, c.len-count.ensures) | else-count-lt2 w ↦ omega (arith, c.len-count.ensures) ] in
    let cut : c.shorten.new.store.lists ≡ with_list a c.args.body (take (length ns - 2) ns) = c.shorten.ensures ∙ ap (λ k. with_list a c.args.body (take k ns)) count in
    let joined = text-joined a c.shorten.new.store c.append.new.self c.append-2.new.self c.close.new.self c.args.back c.self.inside.held_page c.args.body (take (length ns - 2) ns)
    held_body back_held c.requires.body_apart cut c.append.ensures.joined c.append-2.ensures.joined c.close.ensures.closed in
    subst (λ (m : MachineView). HasTextBack c.args.back m.held_page c.args.body a c.close.new.self) c.self.view_is (record { list = joined.0; emptied = joined.1; others = joined.2 })

pub returns-clause-room : goal.returns-clause-room
returns-clause-room c = λ empty.
    let a = c.args.store.now in
    let ns = list_at a c.args.body in
    let gone : HasTextBack c.args.back c.args.self.now.held_page c.args.body a c.close.new.self = returns-clause-lists c in
    let count : c.if-count-lt2.shorten ≡ length ns - 2 = elim c.if-count-lt2.branch [ then-count-lt2 w ↦ omega (arith, c.len-count.ensures) | else-count-lt2 w ↦ omega (arith, c.len-count.ensures) ] in
    let cut : c.shorten.new.store.lists ≡ with_list a c.args.body (take (length ns - 2) ns) = c.shorten.ensures ∙ ap (λ k. with_list a c.args.body (take k ns)) count in
    room-back a c.shorten.new.store c.args.body (length ns - 2) cut c.close.new.self c.args.self.now.held_page c.args.back c.told-told.result.room c.requires.held_apart c.told-told.ensures.room empty gone.list

pub returns-clause-depth : goal.returns-clause-depth
returns-clause-depth c = λ empty has.
    let a = c.args.store.now in
    let ns = list_at a c.args.body in
    let gone : HasTextBack c.args.back c.args.self.now.held_page c.args.body a c.close.new.self = returns-clause-lists c in
    let count : c.if-count-lt2.shorten ≡ length ns - 2 = elim c.if-count-lt2.branch [ then-count-lt2 w ↦ omega (arith, c.len-count.ensures) | else-count-lt2 w ↦ omega (arith, c.len-count.ensures) ] in
    let cut : c.shorten.new.store.lists ≡ with_list a c.args.body (take (length ns - 2) ns) = c.shorten.ensures ∙ ap (λ k. with_list a c.args.body (take k ns)) count in
    depth-back a c.shorten.new.store c.args.body (length ns - 2) cut c.close.new.self c.args.self.now.held_page c.args.back c.told-told.result.depth c.requires.held_apart c.told-told.ensures.depth (c.told-told.ensures.none_held has) empty gone.list
