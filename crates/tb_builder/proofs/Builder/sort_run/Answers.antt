use Rattle.std.proofs.Common.{sym, subst, ◌++◌, take, drop}
use Rattle.std.proofs.lemmas.List.{take-map, take-append-drop}
use Rattle.tb_pool.specs.Lists.{list_at}
use Rattle.tb_node.specs.PlainNodes.{plain_of, plain_list}
use Rattle.tb_builder.specs.Contents.{contents_of}
use Rattle.tb_builder.specs.Firing.{Sorted}
use Rattle.tb_builder.proofs.Sorting.SortLemmas.{run_sorts, run_left, run_sorted}
use Rattle.tb_builder.proofs.Builder.sort_run.Goals as goal

pub returns : goal.returns
returns c =
    let b = c.args.self.now in
    let s = c.args.store.now in
    let t = c.move_front.new.store in
    let body = c.args.body in
    let place = c.args.place in
    let page = list_at s b.page in
    let parts = sym (take-append-drop place page) in
    let r = c.requires in
    record {
      sorts = run_sorts b s t (take place page) (drop place page) body r.own parts r.plain r.body c.move_front.ensures.moved;
      sorted = λ z marked before boxes h. subst (λ ps. Sorted z boxes marked (contents_of b t) (plain_list t body) (before ++ ps)) (sym (take-map (plain_of (list_at s)) place page))
          (run_sorted b s t (take place page) (drop place page) body r.own parts r.plain r.body c.move_front.ensures.moved z boxes marked before h);
      page = run_left b s t (take place page) (drop place page) body r.own parts r.plain r.body c.move_front.ensures.moved;
      spare = c.move_front.ensures.spare;
    }
