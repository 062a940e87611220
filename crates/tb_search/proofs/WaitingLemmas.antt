-- Nodes are handed to a routine in which nothing is left.
use Rattle.std.proofs.Common.{◌≡◌, sym, subst, ◌∙◌, ap, ℕ, ◌+◌, ◌≤◌, List, None, append-nil, arith}
use Rattle.tb_pool.specs.Lists.{Lists}
use Rattle.tb_node.specs.declared.Node.{Node}
use Rattle.tb_node.specs.PlainNodes.{PlainNode}
use Rattle.tb_builder.specs.declared.Builder.{Builder}
use Rattle.tb_builder.specs.Contents.{Contents, node_count}
use Rattle.tb_builder.specs.Ownership.{ids_of, KeepsOthers}
use Rattle.tb_builder.specs.Contributions.{ends_in_kern}
use Rattle.tb_builder.proofs.Ranges.PageableLemmas.{count-append}
use Rattle.tb_output.specs.Machine.{MachineView, state_shown}
use Rattle.tb_items.specs.ItemsLeft.{nodes_left, AreItemsLeft, with_more, IsOpen}
use Rattle.tb_items.specs.WaitingNodes.{CanTake, Waits}
use Rattle.tb_steps.specs.Run.{held_count}
use Rattle.tb_steps.specs.Runnable.{AreRunnable, AreRunClasses}
use Rattle.tb_run.specs.declared.routine.Routine.{Routine}
use Rattle.tb_run.specs.Routine.{built_in, held_in, state_of, between_pages, IsBounded, IsReady}
use Rattle.tb_run.specs.ServedStates.{IsServed}
use Rattle.tb_run.proofs.Turns.WholeLemmas.{built-shown, built-whole}
use Rattle.tb_best.specs.ItemsAhead.{state_with}
use Rattle.tb_search.specs.Branches.{NowWait}

-- with nothing left, what waits is all
held-alone : (r : Routine) → r.left ≡ None → held_in r ≡ built_in r
held-alone r none = ap (λ o. with_more (nodes_left o) (built_in r)) none ∙ ap (λ ns. record (built_in r) { waiting = ns }) (append-nil (built_in r).waiting)

-- a page that is empty ends with no kern
pub can-take : (r : Routine) → IsReady r → CanTake r.builder r.store
can-take r h = record {
  sound = h.settled.whole.builder;
  no_kern = ap (λ (c : Contents). ends_in_kern c.page) h.settled.between;
}

module _ (ns : List PlainNode) (r q : Routine) (ready : IsReady r) (none : r.left ≡ None) (w : Waits ns r.builder r.store q.builder q.store) (machine : q.machine ≡ r.machine) (left : q.left ≡ r.left) where
  keeps : KeepsOthers (ids_of r.builder) r.store (ids_of q.builder) q.store
  keeps = record { others = w.others; apart = w.apart }

  none-left : q.left ≡ None
  none-left = left ∙ none

  held-is : held_in q ≡ with_more ns (held_in r)
  held-is = held-alone q none-left ∙ w.contents ∙ ap (with_more ns) (sym (held-alone r none))

  state-is : state_of q ≡ state_with ns (state_of r)
  state-is =
      ap (λ m. state_shown q.store (held_in q).boxes (held_in q).waiting m) machine
      ∙ (built-shown r q ready.settled.whole keeps w.sound machine).state (held_in q).boxes (held_in q).waiting
      ∙ (λ i. state_shown r.store (held-is i).boxes (held-is i).waiting r.machine)

  pub now-wait : (k : ℕ) → q.most ≡ r.most + k → node_count ns ≤ k → k ≤ 600006 → NowWait ns r q
  now-wait k most count few = record {
    state = state-is;
    whole = built-whole r q ready.settled.whole keeps w.sound machine (subst (AreItemsLeft (built_in q).classes) (sym none-left) tt);
    between = held-is ∙ ap (with_more ns) ready.settled.between ∙ ap between_pages (sym state-is);
    machine = machine;
    left = none-left;
    bounded = record {
      held =
          let a = ready.settled.bounded.held in
          let b = count-append (state_of r).waiting ns in
          let e = ap held_count state-is in
          omega (arith, a, b, e, most, count);
      few = let a = ready.settled.bounded.few in omega (arith, a, most, few);
    };
  }

-- a builder whose page is the same can take more nodes
pub can-still : (ns : List PlainNode) (r : Routine) (b : Builder) (s : Lists Node) → IsReady r → Waits ns r.builder r.store b s → CanTake b s
can-still ns r b s h w = record { sound = w.sound; no_kern = ap (λ (c : Contents). ends_in_kern c.page) w.contents ∙ (can-take r h).no_kern }

-- the next page can be made, if the nodes are few and can be served
module _ (ns : List PlainNode) (r q : Routine) (ready : IsReady r) (w : NowWait ns r q) (m : Routine) (same : m ≡ record q { most = m.most }) where
  pub wait-ready : IsBounded 4194304 m → IsServed (state_of q).waiting (state_of q) → IsReady m
  wait-ready few served = subst IsReady (sym same) (record {
    settled = record {
      whole = record { builder = w.whole.builder; machine = w.whole.machine; fault = w.whole.fault; apart = w.whole.apart; items = w.whole.items };
      params = subst (λ (v : MachineView). AreRunnable v.params) (sym w.machine) ready.settled.params;
      classes = subst (λ (v : MachineView). AreRunClasses v.classes) (sym w.machine) ready.settled.classes;
      between = w.between;
      served = subst (λ ns. IsServed ns (state_of q)) (sym (ap (λ (c : Contents). c.waiting) w.between)) served;
      bounded = subst (IsBounded 4194304) same few;
      ends = subst (λ o. IsOpen o (built_in q).waiting) (sym w.left) tt;
    };
    events = ap (λ (v : MachineView). v.events) w.machine ∙ ready.events;
  })
