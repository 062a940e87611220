use Rattle.std.proofs.Common.{◌∙◌, sym, ap, FitsSigned, w64, to_z, of_z, rules, arith}
use Rattle.std.proofs.lemmas.Int.{to_z-of_z}
use Rattle.std.proofs.lemmas.List.{nil_from_length}
use Rattle.tb_pool.specs.Lists.{list_at}
use Rattle.tb_node.specs.declared.Node.{Node}
use Rattle.tb_builder.specs.Ownership.{ids_of, inner_of, is_known, classes_of}
use Rattle.tb_builder.proofs.Turns.FillLemmas.{first_is}
use Rattle.tb_builder.proofs.Sorting.GiveLemmas.{list_live, class_there, first_list}
use Rattle.tb_builder.proofs.Sorting.SettleLemmas.{dropped_nothing, held_again}
use Rattle.tb_builder.proofs.Builder.keep_rest.Goals as goal

pub len-requires : goal.len-requires
len-requires c =
    let b = c.args.self.now in
    let s = c.args.store.now in
    let f = first_is (list_at s b.page) c.args.n.now c.requires.first in
    list_live (ids_of b) s c.args.n.now f.0 c.args.i.now c.requires.own f.1 c.requires.insertion

pub drop_insertion-requires-clause-empty : goal.drop_insertion-requires-clause-empty
drop_insertion-requires-clause-empty c = nil_from_length (list_at c.args.store.now c.args.i.now.list) (sym c.len.ensures ∙ c.if-len-eq0.true)

pub pruned_size-requires-clause-live : goal.pruned_size-requires-clause-live
pruned_size-requires-clause-live c =
    let b = c.args.self.now in
    let s = c.args.store.now in
    let f = first_is (list_at s b.page) c.args.n.now c.requires.first in
    list_live (ids_of b) s c.args.n.now f.0 c.args.i.now c.requires.own f.1 c.requires.insertion

pub hold-requires-clause-same : goal.hold-requires-clause-same
hold-requires-clause-same c =
    let b = c.args.self.now in
    let s = c.args.store.now in
    let f = first_is (list_at s b.page) c.args.n.now c.requires.first in
    ap (λ (m : Node). inner_of m.kind) c.with_height-rest.ensures ∙ sym (first_list (ids_of b) s c.args.n.now f.0 c.args.i.now c.requires.own f.1 c.requires.insertion)

pub hold-requires-clause-known : goal.hold-requires-clause-known
hold-requires-clause-known c =
    let b = c.args.self.now in
    let s = c.args.store.now in
    let f = first_is (list_at s b.page) c.args.n.now c.requires.first in
    ap (λ (m : Node). is_known (classes_of (ids_of b)) m.kind) c.with_height-rest.ensures ∙ class_there (ids_of b) s c.args.n.now f.0 c.args.i.now c.requires.own f.1 c.requires.insertion

pub returns-then-len-eq0-clause-drops : goal.returns-then-len-eq0-clause-drops
returns-then-len-eq0-clause-drops c =
    dropped_nothing c.args.self.now c.args.store.now c.drop_insertion.new.store c.args.n.now c.args.i.now (nil_from_length (list_at c.args.store.now c.args.i.now.list) (sym c.len.ensures ∙ c.if-len-eq0.true)) c.drop_insertion.ensures.drops

pub returns : goal.returns
returns c =
    let r : FitsSigned w64 c.pruned_size.result = search rules in
    record {
      drops = held_again c.args.self.now c.args.store.now c.hold.new.store c.args.n.now c.with_height-rest.result c.args.i.now (to_z w64 (of_z w64 c.pruned_size.result)) (λ e. c.if-len-eq0.false (c.len.ensures ∙ e))
          (to_z-of_z w64 c.pruned_size.result r ∙ c.pruned_size.ensures) c.with_height-rest.ensures c.hold.ensures.drops;
      spare = omega (arith, c.hold.ensures.spare);
    }
