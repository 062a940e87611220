use Rattle.std.proofs.Common.{◌≡◌, ◌+◌, arith}
use Rattle.tb_node.specs.PlainNodes.{plain_list}
use Rattle.tb_builder.specs.Firing.{EachFits, IsMarkedAt}
use Rattle.tb_builder.proofs.Sorting.SortingLemmas.{sorting_begins, index_by, still_body, no_insertion_there, none_remains, some_remains, run_fits, run_marked, InsertionWent, insertion_went, rest_sorts, rest_sorted, rest_empty}
use Rattle.tb_builder.proofs.Builder.sort_page.Goals.{After-insertion_place-ahead, After-sort_run, After-sort_first}
use Rattle.tb_builder.proofs.Builder.sort_page.Goals as goal

pub returns-in_default : goal.returns-in_default
returns-in_default c =
    let b = c.args.self.now in
    let s = c.args.store.now in
    let u = c.append.new.self in
    let r = c.requires in
    let h = sorting_begins b s c.args.body r.own r.body_live r.body_empty r.none_held r.room in
    let none = no_insertion_there b b s s c.args.body h r.marked c.last_insertion.result c.last_insertion.ensures c.in_default.is in
    record {
      sorts = rest_sorts b b s s u c.args.body h none r.body_apart c.append.ensures.spare c.append.ensures.joined;
      sorted = rest_sorted b b s s u c.args.body h none r.body_apart c.append.ensures.spare c.append.ensures.joined;
      empty = rest_empty b b s s u c.args.body h none r.body_apart c.append.ensures.spare c.append.ensures.joined;
    }

pub insertions-init : goal.insertions-init
insertions-init c = record {
  sorting = sorting_begins c.args.self.now c.args.store.now c.args.body c.requires.own c.requires.body_live c.requires.body_empty c.requires.none_held c.requires.room;
  sorted_is = omega (arith, c.len-count.ensures);
}

-- so many nodes of the page went
went_so_far : (c : After-insertion_place-ahead) → c.insertions.sorted ≡ c.insertions.invariant.sorting.index
went_so_far c = index_by c.args.self.now c.insertions.self c.args.store.now c.insertions.store c.args.body c.insertions.invariant.sorting c.insertions.sorted c.len-count.result c.len-count.ensures c.insertions.invariant.sorted_is

pub insertion_place-ahead-requires-clause-some : goal.insertion_place-ahead-requires-clause-some
insertion_place-ahead-requires-clause-some c =
    let b = c.args.self.now in
    let s = c.args.store.now in
    let d = c.insertions.self in
    let t = c.insertions.store in
    let h = c.insertions.invariant.sorting in
    let so = index_by b d s t c.args.body h c.insertions.sorted c.len-count.result c.len-count.ensures c.insertions.invariant.sorted_is in
    some_remains b d s t c.args.body h c.requires.marked c.last_insertion.result c.last_insertion.ensures c.in-Some.last c.insertions.sorted c.in-Some.is so (omega (arith, c.insertions-test.true))

pub sort_run-requires-clause-body : goal.sort_run-requires-clause-body
sort_run-requires-clause-body c = still_body c.args.self.now c.insertions.self c.args.store.now c.insertions.store c.args.body c.insertions.invariant.sorting c.requires.body_apart

-- the nodes before the insertion went, and the page begins with it
run_went : (c : After-sort_run) → c.insertions.sorted ≡ c.insertions.invariant.sorting.index → (let page = plain_list c.sort_run.new.store c.insertions.self.page in
    EachFits page × IsMarkedAt c.insertions.self.course.account (c.insertions.sorted + c.insertion_place-ahead.result) page)
run_went c so =
    let b = c.args.self.now in
    let s = c.args.store.now in
    let d = c.insertions.self in
    let t = c.insertions.store in
    let u = c.sort_run.new.store in
    let h = c.insertions.invariant.sorting in
    let e = c.sort_run.ensures in
    let n = c.insertion_place-ahead.result in
    let at = c.insertion_place-ahead.ensures in
    (run_fits b d s t u c.args.body n c.insertions.sorted h so at e.sorts e.sorted e.page e.spare c.requires.marked c.requires.fits, run_marked b d s t u c.args.body n c.insertions.sorted h so at e.sorts e.sorted e.page e.spare c.requires.marked)

pub sort_first-requires-clause-fits : goal.sort_first-requires-clause-fits
sort_first-requires-clause-fits c =
    let w = goal.at.sort_first-requires-clause-fits c in
    (run_went w.After-sort_run (went_so_far w.After-insertion_place-ahead)).0

pub sort_first-requires-clause-marked : goal.sort_first-requires-clause-marked
sort_first-requires-clause-marked c =
    let w = goal.at.sort_first-requires-clause-marked c in
    (run_went w.After-sort_run (went_so_far w.After-insertion_place-ahead)).1

-- the insertion went
insertion_is_sorted : (c : After-sort_first) → c.insertions.sorted ≡ c.insertions.invariant.sorting.index → InsertionWent c.args.self.now c.insertions.self c.args.store.now c.insertions.store c.args.body c.sort_first.new.self c.sort_first.new.store (c.insertions.sorted + c.insertion_place-ahead.result) c.insertions.sorted
insertion_is_sorted c so =
    let e = c.sort_run.ensures in
    let f = c.sort_first.ensures in
    insertion_went c.args.self.now c.insertions.self c.args.store.now c.insertions.store c.sort_run.new.store c.args.body c.insertion_place-ahead.result c.insertions.sorted c.insertions.invariant.sorting so c.insertion_place-ahead.ensures e.sorts e.sorted e.page e.spare c.requires.body_apart c.sort_first.new.self c.sort_first.new.store f.sorts f.left f.spare f.sorted

pub insertions-smaller : goal.insertions-smaller
insertions-smaller c =
    let w = goal.at.insertions-smaller c in
    (insertion_is_sorted w.After-sort_first (went_so_far w.After-insertion_place-ahead)).fewer

pub insertions-preserved : goal.insertions-preserved
insertions-preserved c =
    let w = goal.at.insertions-preserved c in
    let went = insertion_is_sorted w.After-sort_first (went_so_far w.After-insertion_place-ahead) in
    record { sorting = went.sorting; sorted_is = went.counted c.len-count.result c.insertions.invariant.sorted_is }

pub returns : goal.returns
returns c =
    let b = c.args.self.now in
    let s = c.args.store.now in
    let d = c.insertions.self in
    let t = c.insertions.store in
    let h = c.insertions.invariant.sorting in
    let so = index_by b d s t c.args.body h c.insertions.sorted c.len-count.result c.len-count.ensures c.insertions.invariant.sorted_is in
    let none = none_remains b d s t c.args.body h c.requires.marked c.last_insertion.result c.last_insertion.ensures c.in-Some.last c.insertions.sorted c.in-Some.is so c.insertions-test.false in
    let e = c.append-2.ensures in
    record {
      sorts = rest_sorts b d s t c.append-2.new.self c.args.body h none c.requires.body_apart e.spare e.joined;
      sorted = rest_sorted b d s t c.append-2.new.self c.args.body h none c.requires.body_apart e.spare e.joined;
      empty = rest_empty b d s t c.append-2.new.self c.args.body h none c.requires.body_apart e.spare e.joined;
    }
