use Rattle.std.proofs.Common.{◌∙◌, ap, sym, subst, ◌+ℤ◌, FitsSigned, w64, to_z, rules}
use Rattle.std.proofs.lemmas.Int.{to_z-of_z, ints}
use Rattle.tb_pool.specs.Lists.{list_at}
use Rattle.tb_builder.specs.Sizes.{IsWide}
use Rattle.tb_builder.proofs.Ownership.SizeLemmas.{Sized, sized_room, sized_sum, sized_next}
use Rattle.tb_builder.proofs.sizes.pruned_size.Goals as goal

pub room_in-requires : goal.room_in-requires
room_in-requires c =
    let s = subst (λ it. Sized (list_at c.args.store.now c.args.l) it (to_z w64 c.loop-n.total-bits)) c.in-Some.ensures.steps c.loop-n.invariant.sized in
    let w = sized_room (list_at c.args.store.now c.args.l) c.in-Some.n.now c.next.new.self (to_z w64 c.loop-n.total-bits) s c.requires.fits in
    search (rules, ints, w.low, w.high)

pub sum-total-requires : goal.sum-total-requires
sum-total-requires c =
    let s = subst (λ it. Sized (list_at c.args.store.now c.args.l) it (to_z w64 c.loop-n.total-bits)) c.in-Some.ensures.steps c.loop-n.invariant.sized in
    let r : FitsSigned w64 c.room_in.result = search rules in
    let w = subst (λ x. IsWide (to_z w64 c.loop-n.total-bits +ℤ x)) (sym (to_z-of_z w64 c.room_in.result r ∙ c.room_in.ensures)) (sized_sum (list_at c.args.store.now c.args.l) c.in-Some.n.now c.next.new.self (to_z w64 c.loop-n.total-bits) s c.requires.fits) in
    search (rules, ints, w.low, w.high)

pub loop-n-preserved : goal.loop-n-preserved
loop-n-preserved c =
    let s = subst (λ it. Sized (list_at c.args.store.now c.args.l) it (to_z w64 c.loop-n.total-bits)) c.in-Some.ensures.steps c.loop-n.invariant.sized in
    let r : FitsSigned w64 c.room_in.result = search rules in
    let t : FitsSigned w64 c.sum-total.result = search rules in
    record {
      can_next = tt;
      is_finite = tt;
      sized = subst (Sized (list_at c.args.store.now c.args.l) c.next.new.self) (sym (to_z-of_z w64 c.sum-total.result t ∙ c.sum-total.ensures ∙ ap (λ x. to_z w64 c.loop-n.total-bits +ℤ x) (to_z-of_z w64 c.room_in.result r ∙ c.room_in.ensures)))
          (sized_next (list_at c.args.store.now c.args.l) c.in-Some.n.now c.next.new.self (to_z w64 c.loop-n.total-bits) s);
    }
