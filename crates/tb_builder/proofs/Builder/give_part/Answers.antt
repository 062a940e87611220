use Rattle.std.proofs.Common.{◌∙◌, sym, subst, ap, ◌++◌, take, drop, FitsSigned, w64, rules}
use Rattle.std.proofs.lemmas.Int.{to_z-of_z}
use Rattle.std.specs.FinMap.{insert}
use Rattle.tb_pool.specs.Lists.{list_at, IsLive, with_list}
use Rattle.tb_node.specs.SmallAmounts.{IsAmount}
use Rattle.tb_break.specs.PageTop.{pruned_list}
use Rattle.tb_builder.specs.declared.Builder.{Builder}
use Rattle.tb_builder.specs.Ownership.{ids_of}
use Rattle.tb_builder.proofs.Turns.FillLemmas.{first_is}
use Rattle.tb_builder.proofs.Sorting.RestLemmas.{plain-take, plain-drop, plain-pruned}
use Rattle.tb_builder.proofs.Sorting.GiveLemmas.{class_there, box_is_live, list_live, list_plain, box_not_list, rest_not_box, rest_not_list}
use Rattle.tb_builder.proofs.Sorting.SettleLemmas.{gives_of}
use Rattle.tb_builder.proofs.Builder.give_part.Goals as goal

pub open_box-own-requires : goal.open_box-own-requires
open_box-own-requires c =
    let b = c.args.self.now in
    let s = c.args.store.now in
    let f = first_is (list_at s b.page) c.args.n.now c.requires.first in
    class_there (ids_of b) s c.args.n.now f.0 c.args.i.now c.requires.own f.1 c.requires.insertion

pub give_front-requires : goal.give_front-requires
give_front-requires c =
    let b = c.args.self.now in
    let s = c.args.store.now in
    let f = first_is (list_at s b.page) c.args.n.now c.requires.first in
    let rest = ap (λ (x : Builder). x.rest) c.open_box-own.ensures.others in
    let r : FitsSigned w64 c.args.i.now.split_top = search rules in
    record {
      to_live = subst (IsLive s) (sym c.open_box-own.ensures.list) (box_is_live (ids_of b) s c.args.n.now f.0 c.args.i.now c.requires.own f.1 c.requires.insertion);
      from_live = list_live (ids_of b) s c.args.n.now f.0 c.args.i.now c.requires.own f.1 c.requires.insertion;
      between_live = subst (IsLive s) (sym rest) c.requires.own.live.1.1.1.0;
      to_apart = λ e. box_not_list (ids_of b) s c.args.n.now f.0 c.args.i.now c.requires.own f.1 c.requires.insertion (sym c.open_box-own.ensures.list ∙ e);
      between_apart = λ e. rest_not_box (ids_of b) s c.args.n.now f.0 c.args.i.now c.requires.own f.1 c.requires.insertion (sym rest ∙ e ∙ c.open_box-own.ensures.list);
      between_from = λ e. rest_not_list (ids_of b) s c.args.n.now f.0 c.args.i.now c.requires.own f.1 c.requires.insertion (sym rest ∙ e);
      between_empty = ap (list_at s) rest ∙ c.requires.own.between;
      within = c.requires.within;
      room = c.requires.room;
      top_skip = subst IsAmount (sym (to_z-of_z w64 c.args.i.now.split_top r)) c.requires.top;
      nodes = c.requires.nodes;
      vanishes = c.requires.vanishes;
    }

pub returns : goal.returns
returns c =
    let b = c.args.self.now in
    let s = c.args.store.now in
    let f = first_is (list_at s b.page) c.args.n.now c.requires.first in
    let l = list_at s c.args.i.now.list in
    let r : FitsSigned w64 c.args.i.now.split_top = search rules in
    let plain = list_plain (ids_of b) s c.args.n.now f.0 c.args.i.now c.requires.own f.1 c.requires.insertion in
    record {
      gives = gives_of b c.open_box-own.new.self s c.give_front.new.store c.args.n.now f.0 c.args.i.now c.requires.own f.1 c.requires.insertion (take c.args.place l) (pruned_list c.args.i.now.split_top (drop c.args.place l))
          c.open_box-own.ensures.others c.open_box-own.ensures.boxes
          (c.give_front.ensures.given
          ∙ ap (λ x. insert (with_list s c.open_box-own.result (list_at s c.open_box-own.result ++ take c.args.place l)) c.args.i.now.list (pruned_list x (drop c.args.place l))) (to_z-of_z w64 c.args.i.now.split_top r)
          ∙ ap (λ x. insert (with_list s x (list_at s x ++ take c.args.place l)) c.args.i.now.list (pruned_list c.args.i.now.split_top (drop c.args.place l))) c.open_box-own.ensures.list)
          (plain-take c.args.place l plain) (plain-pruned c.args.i.now.split_top (drop c.args.place l) (plain-drop c.args.place l plain));
      spare = c.give_front.ensures.spare;
    }
