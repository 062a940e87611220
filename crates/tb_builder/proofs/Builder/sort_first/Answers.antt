use Rattle.std.proofs.Common.{◌∙◌, sym, ap, ◌++◌}
use Rattle.std.specs.Option.{option_copied}
use Rattle.tb_pool.specs.Lists.{list_at}
use Rattle.tb_node.specs.PlainNodes.{plain_list}
use Rattle.tb_insert.specs.Account.{labelled}
use Rattle.tb_insert.specs.AccountEntries.{cut_in, last_let_in}
use Rattle.tb_builder.specs.Firing.{share_told}
use Rattle.tb_builder.specs.Contents.{contents_of}
use Rattle.tb_builder.proofs.Turns.FillLemmas.{first_is, no_insertion_role}
use Rattle.tb_builder.proofs.Events.FilledLemmas.{none_first}
use Rattle.tb_builder.proofs.Sorting.SortLemmas.{first_class, first_nodes, first_sizes, first_top, marked_within, sorted_insertion, settled_sorts, settled_body, settled_left, never_empty, first_insertion}
use Rattle.tb_builder.proofs.Builder.sort_first.Goals as goal

pub unreachable-requires : goal.unreachable-requires
unreachable-requires c =
    let ns = list_at c.args.store.now c.args.self.now.page in
    never_empty ns (none_first ns (sym c.first_in.ensures ∙ ap option_copied c.in_default.is)) c.requires.first

pub unreachable-requires-in_default-role : goal.unreachable-requires-in_default-role
unreachable-requires-in_default-role c =
    let s = c.args.store.now in
    let f = first_is (list_at s c.args.self.now.page) c.in-Some.n.now (sym c.in-Some.ensures) in
    first_insertion (list_at s c.args.self.now.page) c.in-Some.n.now f.0 f.1 c.requires.first (sym c.role.ensures.insertion ∙ no_insertion_role c.role.result c.in_default-role.not-Insertion)

pub share_at-share-requires : goal.share_at-share-requires
share_at-share-requires c =
    let b = c.args.self.now in
    let s = c.args.store.now in
    let f = first_is (list_at s b.page) c.in-Some.n.now (sym c.in-Some.ensures) in
    let is = sym c.in-Insertion.ensures.insertion in
    first_class b s c.in-Some.n.now f.0 c.in-Insertion.i c.requires.own f.1 is

pub settle-requires-clause-within : goal.settle-requires-clause-within
settle-requires-clause-within c =
    let b = c.args.self.now in
    let s = c.args.store.now in
    let f = first_is (list_at s b.page) c.in-Some.n.now (sym c.in-Some.ensures) in
    let is = sym c.in-Insertion.ensures.insertion in
    marked_within b s c.in-Some.n.now f.0 c.in-Insertion.i c.args.index c.share_at-share.result c.requires.own f.1 is c.requires.marked (c.share_at-share.ensures c.requires.marked.z c.requires.marked.page (c.requires.marked.before ++ plain_list s b.page) c.requires.marked.stands)

pub settle-requires-clause-top : goal.settle-requires-clause-top
settle-requires-clause-top c =
    let b = c.args.self.now in
    let s = c.args.store.now in
    let f = first_is (list_at s b.page) c.in-Some.n.now (sym c.in-Some.ensures) in
    let is = sym c.in-Insertion.ensures.insertion in
    first_top b s c.in-Some.n.now f.0 c.in-Insertion.i c.requires.own f.1 is c.requires.fits

pub settle-requires-clause-nodes : goal.settle-requires-clause-nodes
settle-requires-clause-nodes c =
    let b = c.args.self.now in
    let s = c.args.store.now in
    let f = first_is (list_at s b.page) c.in-Some.n.now (sym c.in-Some.ensures) in
    let is = sym c.in-Insertion.ensures.insertion in
    first_nodes b s c.in-Some.n.now f.0 c.in-Insertion.i c.requires.own f.1 is c.requires.fits

pub settle-requires-clause-sizes : goal.settle-requires-clause-sizes
settle-requires-clause-sizes c =
    let b = c.args.self.now in
    let s = c.args.store.now in
    let f = first_is (list_at s b.page) c.in-Some.n.now (sym c.in-Some.ensures) in
    let is = sym c.in-Insertion.ensures.insertion in
    first_sizes b s c.in-Some.n.now f.0 c.in-Insertion.i c.requires.own f.1 is c.requires.fits

pub returns : goal.returns
returns c =
    let b = c.args.self.now in
    let s = c.args.store.now in
    let f = first_is (list_at s b.page) c.in-Some.n.now (sym c.in-Some.ensures) in
    let is = sym c.in-Insertion.ensures.insertion in
    let settled = c.settle.ensures.settles in
    let d = c.settle.new.self in
    let t = c.settle.new.store in
    let n = c.in-Some.n.now in
    let i = c.in-Insertion.i in
    let share = c.share_at-share.result in
    record {
      sorts = λ body free. settled_sorts b d s t n i share body settled free;
      sorted = λ body free z page marked before boxes a e h.
          sorted_insertion b s n f.0 i c.requires.own f.1 is z before c.args.index share e
          (c.share_at-share.ensures z page marked a ∙ ap (λ ps. share_told (cut_in (labelled z ps) i.class) (last_let_in (labelled z ps) i.class) c.args.index) (sym h.whole))
          boxes marked (plain_list s body) (plain_list t body) (contents_of d t)
          (settled_body b d s t n i share body settled free)
          (settled.takes.page f.0 f.1) settled.boxes settled.takes.held h;
      left = settled_left b d s t n i share settled f.0 f.1;
      spare = c.settle.ensures.spare;
    }
