use Rattle.std.proofs.Common.{pos, sym, ◌∙◌, rules, FitsSigned, w64}
use Rattle.std.proofs.lemmas.Int.{to_z-of_z}
use Rattle.tb_pool.proofs.CallerLemmas.{list_same, live_same}
use Rattle.tb_plain.proofs.FireLemmas.{open-can, open-free, has-fired, not-below}
use Rattle.tb_plain.proofs.Plain.fire.Goals as goal

pub make_column-column-requires-clause-page : goal.make_column-column-requires-clause-page
make_column-column-requires-clause-page c = open-can c.args.b.now c.args.store.now c.open_list.new.store c.args.page c.in_ok-list.list c.requires.page c.in_ok-list.ensures.fresh c.in_ok-list.ensures.opened

pub make_column-column-requires-clause-live : goal.make_column-column-requires-clause-live
make_column-column-requires-clause-live c = live_same c.args.store.now c.open_list.new.store c.in_ok-list.list _ c.in_ok-list.ensures.opened

pub make_column-column-requires-clause-empty : goal.make_column-column-requires-clause-empty
make_column-column-requires-clause-empty c = list_same c.args.store.now c.open_list.new.store c.in_ok-list.list _ c.in_ok-list.ensures.opened

pub make_column-column-requires-clause-free : goal.make_column-column-requires-clause-free
make_column-column-requires-clause-free c = open-free c.args.b.now c.args.store.now c.open_list.new.store c.args.page c.in_ok-list.list c.requires.page c.in_ok-list.ensures.fresh c.in_ok-list.ensures.opened

pub returns-clause-fires : goal.returns-clause-fires
returns-clause-fires c =
    let fits : FitsSigned w64 c.args.self.now.params.maxpages = search rules in
    let exceeds = simp to_z-of_z at c.exceeds.ensures in
    has-fired c.args.b.now c.args.store.now c.open_list.new.store c.args.page c.in_ok-list.list c.requires.page c.in_ok-list.ensures.fresh c.in_ok-list.ensures.opened
    c.args.self.now c.ship.new.self c.make_column-column.new.b c.make_column-column.new.store c.fill_back.new.store c.make_column-column.result c.ship.result
    c.make_column-column.ensures.grows c.make_column-column.ensures.column c.make_column-column.ensures.sized c.make_column-column.ensures.list c.make_column-column.ensures.emptied
    c.fill_back.ensures (not-below c.args.self.now.params.maxpages (pos c.args.self.now.page) (sym exceeds ∙ c.if-exceeds.false)) c.ship.ensures.page c.ship.ensures.next
