use Rattle.std.proofs.Common.{◌≡◌, ◌+◌, ◌≤◌, ℕ, None, length, arith}
use Rattle.std.specs.FinMap as map
use Rattle.slab.specs.Slab.{get}
use Rattle.tb_pool.specs.declared.Ends.{Ends}
use Rattle.tb_pool.specs.Lists.{IsLive, list_at, total}
use Rattle.tb_pool.specs.Links.{values_of}
use Rattle.tb_pool.proofs.MapLemmas.{has_value}
use Rattle.tb_pool.proofs.RefillLemmas.{copying_begins, copying_none, copying_live, copying_room, copying_goes_on, copying_ends, listed_live, listed_none, listed_past, listed_len, none_there}
use Rattle.tb_pool.proofs.Lists.copy_from.Goals.{then-contains+in_ok-push_all, else-contains}
use Rattle.tb_pool.proofs.Lists.copy_from.Goals as goal

pub loop-index-init : goal.loop-index-init
loop-index-init g c =
    let o = c.other.inside in
    let all : c.args.other.now.spare + total (λ (e : Ends). e.len) o.heads ≡ o.places = rw (← c.other.view_is) c.other.invariant.1.places_is in
    copying_begins o.heads c.args.other.now c.empty_like.new.self o.places c.in_ok-empty_like.ensures.emptied c.in_ok-empty_like.ensures.spare all

pub push_all-requires-clause-other_live : goal.push_all-requires-clause-other_live
push_all-requires-clause-other_live g c = rw (← c.other.view_is) (listed_live (values_of c.other.inside.nodes) c.other.inside.heads c.loop-index.index (c.contains.ensures.0 c.if-contains.true))

pub push_all-requires-clause-live : goal.push_all-requires-clause-live
push_all-requires-clause-live g c = copying_live c.other.inside.heads c.args.other.now c.loop-index.self c.loop-index.index c.loop-index.invariant
    (rw (← c.other.view_is) (listed_live (values_of c.other.inside.nodes) c.other.inside.heads c.loop-index.index (c.contains.ensures.0 c.if-contains.true)))

pub push_all-requires-clause-room : goal.push_all-requires-clause-room
push_all-requires-clause-room g c =
    let o = c.other.inside in
    let k = c.loop-index.index in
    let e = has_value (get o.heads k) (c.contains.ensures.0 c.if-contains.true) in
    let len : length (list_at c.args.other.now k) ≡ e.0.len = rw (← c.other.view_is) (listed_len o.nodes o.heads o.spare o.places k c.other.invariant e.0 e.1) in
    copying_room o.heads c.args.other.now c.loop-index.self k c.loop-index.invariant e.0 e.1 len

pub loop-index-preserved : goal.loop-index-preserved
loop-index-preserved g c = elim c.if-contains.branch [
  | then-contains+in_ok-push_all w ↦
      let o = c.other.inside in
      let k = c.loop-index.index in
      let e = has_value (get o.heads k) (c.contains.ensures.0 w.if-contains.true) in
      let len : length (list_at c.args.other.now k) ≡ e.0.len = rw (← c.other.view_is) (listed_len o.nodes o.heads o.spare o.places k c.other.invariant e.0 e.1) in
      let live : IsLive c.args.other.now k = rw (← c.other.view_is) (listed_live (values_of o.nodes) o.heads k (c.contains.ensures.0 w.if-contains.true)) in
      rw w.self-is (copying_goes_on o.heads c.args.other.now c.loop-index.self k c.loop-index.invariant w.push_all.new.self e.0 e.1 len live w.in_ok-push_all.ensures.pushed w.in_ok-push_all.ensures.spare)
  | else-contains w ↦
      let o = c.other.inside in
      let vacant = none_there (get o.heads c.loop-index.index) c.contains.result c.contains.ensures w.if-contains.false in
      let none : map.get c.args.other.now.lists c.loop-index.index ≡ None = rw (← c.other.view_is) (listed_none (values_of o.nodes) o.heads c.loop-index.index vacant) in
      rw w.self-is (copying_none o.heads c.args.other.now c.loop-index.self c.loop-index.index c.loop-index.invariant vacant none)
]

pub returns-clause-same : goal.returns-clause-same
returns-clause-same g c =
    let o = c.other.inside in
    let k = c.loop-index.index in
    let all : length o.heads.slots ≤ k = omega (arith, c.capacity-index-end.ensures.slots) in
    let past = λ (q : ℕ) (above : k ≤ q). listed_past (values_of o.nodes) o.heads q (omega (arith, above, all)) in
    copying_ends o.heads c.args.other.now c.loop-index.self k c.loop-index.invariant all (rw (← c.other.view_is) past)
