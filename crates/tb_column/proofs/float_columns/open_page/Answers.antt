use Rattle.std.proofs.Common.{◌≡◌, ◌≤◌, ◌∙◌, ap, length, arith}
use Rattle.tb_pool.specs.Lists.{with_list}
use Rattle.tb_pool.proofs.CallerLemmas.{live_same}
use Rattle.tb_float.specs.Ranges.{IsSizedFloat}
use Rattle.tb_float.specs.Lists.{floats_of}
use Rattle.tb_float.specs.Pool.{marks_of, marked_floats}
use Rattle.tb_column.specs.Page.{IsPageList}
use Rattle.tb_column.specs.FloatColumns.{page_list, page_glue}
use Rattle.tb_column.proofs.FloatLemmas.{marked-all}
use Rattle.tb_column.proofs.PageLemmas.{waiting-count, list-opened, fresh-before, page-list}
use Rattle.tb_column.proofs.float_columns.open_page.Goals as goal
use Rattle.tb_float.proofs.TrackLemmas.{marked-few}

pub push_page-requires-clause-live : goal.push_page-requires-clause-live
push_page-requires-clause-live c = live_same c.reserve.new.self c.add_list.new.self c.in_ok-list.list _ c.in_ok-list.ensures.opened

pub push_page-requires-clause-room : goal.push_page-requires-clause-room
push_page-requires-clause-room c =
    omega (
      arith,
      c.in_ok-reserve.ensures.room,
      c.add_list.ensures.spare,
      c.len.ensures.value,
      waiting-count c.args.from c.args.pool.now.lists c.requires.waiting,
      marked-few (marks_of c.args.from c.args.pool.now) (floats_of c.args.from c.args.pool.now.lists),
    )

-- what the store holds then
made_lists : (c : goal.After-push_page) → c.push_page.new.store.lists ≡ with_list c.args.store.now c.in_ok-list.list (page_list (page_glue c.args.wide c.args.p.now) (marked_floats c.args.from c.args.pool.now))
made_lists c =
    list-opened c.args.store.now c.reserve.new.self c.add_list.new.self c.push_page.new.store c.in_ok-list.list _ c.in_ok-reserve.ensures.lists c.in_ok-list.ensures.opened c.push_page.ensures.lists
    ∙ ap (λ g. with_list c.args.store.now c.in_ok-list.list (page_list g (marked_floats c.args.from c.args.pool.now))) c.page_glue-around.ensures

-- its list may be on a page
page_is : (c : goal.After-push_page) → IsPageList c.push_page.new.store c.in_ok-list.list
page_is c =
    let ms = marks_of c.args.from c.args.pool.now in
    let all = floats_of c.args.from c.args.pool.now.lists in
    let few : length (marked_floats c.args.from c.args.pool.now) ≤ 4096 =
    omega (arith, c.len.ensures.value, c.len.ensures.small, waiting-count c.args.from c.args.pool.now.lists c.requires.waiting, marked-few ms all) in
    page-list c.args.store.now c.push_page.new.store c.in_ok-list.list c.args.wide c.args.p.now (marked_floats c.args.from c.args.pool.now) (made_lists c)
    (fresh-before c.args.store.now c.reserve.new.self c.in_ok-list.list c.in_ok-reserve.ensures.lists c.in_ok-list.ensures.fresh) c.requires.params (marked-all IsSizedFloat ms all c.len.ensures.sized) few

pub returns-clause-fresh : goal.returns-clause-fresh
returns-clause-fresh c = fresh-before c.args.store.now c.reserve.new.self c.in_ok-list.list c.in_ok-reserve.ensures.lists c.in_ok-list.ensures.fresh

pub returns-clause-lists : goal.returns-clause-lists
returns-clause-lists c = made_lists c

pub returns-clause-page : goal.returns-clause-page
returns-clause-page c = page_is c
