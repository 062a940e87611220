use Rattle.std.proofs.Common.{◌∙◌, sym, subst, ap, [], ◌++◌}
use Rattle.std.specs.FinMap.{insert}
use Rattle.tb_pool.specs.Lists.{list_at, IsLive, with_list}
use Rattle.tb_builder.specs.Ownership.{ids_of}
use Rattle.tb_builder.proofs.Turns.FillLemmas.{first_is}
use Rattle.tb_builder.proofs.Sorting.GiveLemmas.{class_there, box_is_live, list_live, list_plain, box_not_list}
use Rattle.tb_builder.proofs.Sorting.SettleLemmas.{gives_of}
use Rattle.tb_builder.proofs.Builder.give_all.Goals as goal

pub open_box-own-requires : goal.open_box-own-requires
open_box-own-requires c =
    let b = c.args.self.now in
    let s = c.args.store.now in
    let f = first_is (list_at s b.page) c.args.n.now c.requires.first in
    class_there (ids_of b) s c.args.n.now f.0 c.args.i.now c.requires.own f.1 c.requires.insertion

pub append-requires : goal.append-requires
append-requires c =
    let b = c.args.self.now in
    let s = c.args.store.now in
    let f = first_is (list_at s b.page) c.args.n.now c.requires.first in
    record {
      first_live = subst (IsLive s) (sym c.open_box-own.ensures.list) (box_is_live (ids_of b) s c.args.n.now f.0 c.args.i.now c.requires.own f.1 c.requires.insertion);
      second_live = list_live (ids_of b) s c.args.n.now f.0 c.args.i.now c.requires.own f.1 c.requires.insertion;
      apart = λ e. box_not_list (ids_of b) s c.args.n.now f.0 c.args.i.now c.requires.own f.1 c.requires.insertion (sym c.open_box-own.ensures.list ∙ e);
    }

pub returns : goal.returns
returns c =
    let b = c.args.self.now in
    let s = c.args.store.now in
    let f = first_is (list_at s b.page) c.args.n.now c.requires.first in
    record {
      gives = gives_of b c.open_box-own.new.self s c.append.new.self c.args.n.now f.0 c.args.i.now c.requires.own f.1 c.requires.insertion (list_at s c.args.i.now.list) []
          c.open_box-own.ensures.others c.open_box-own.ensures.boxes
          (c.append.ensures.joined ∙ ap (λ l. insert (with_list s l (list_at s l ++ list_at s c.args.i.now.list)) c.args.i.now.list []) c.open_box-own.ensures.list)
          (list_plain (ids_of b) s c.args.n.now f.0 c.args.i.now c.requires.own f.1 c.requires.insertion) tt;
      spare = c.append.ensures.spare;
    }
