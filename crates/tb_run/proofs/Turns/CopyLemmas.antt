-- A routine whose parts show what those of another one show is ready if that one is, and shows the same state.
use Rattle.std.proofs.Common.{◌≡◌, sym, ◌∙◌, ap, subst, ℕ, ◌≤◌, List, Option}
use Rattle.tb_pool.specs.Lists.{Lists}
use Rattle.tb_node.specs.declared.Node.{Node}
use Rattle.tb_node.specs.PlainNodes.{PlainNode}
use Rattle.tb_insert.specs.declared.Class.{Class}
use Rattle.tb_builder.specs.Contents.{contents_of}
use Rattle.tb_builder.specs.Courses.{IsSound}
use Rattle.tb_builder.specs.Ownership.{ids_of, owned}
use Rattle.tb_output.specs.State.{State}
use Rattle.tb_output.specs.Machine.{MachineView, state_shown, machine_lists, IsMachine}
use Rattle.tb_sheet.specs.ApartLists.{AreNoneOf}
use Rattle.tb_items.specs.declared.items_left.ItemsLeft.{ItemsLeft}
use Rattle.tb_items.specs.ItemsLeft.{nodes_left, AreItemsLeft, with_more, IsOpen}
use Rattle.tb_steps.specs.Runnable.{AreRunnable, AreRunClasses}
use Rattle.tb_steps.specs.Run.{held_count}
use Rattle.tb_run.specs.declared.routine.Routine.{Routine}
use Rattle.tb_run.specs.ServedStates.{IsServed}
use Rattle.tb_run.specs.Routine.{built_in, held_in, state_of, IsConsistent, IsBounded, between_pages, IsBetweenFirings, IsReady}

-- what holds of the second holds of the first
back : {A : Type 0} (P : A → Type 0) {x y : A} → x ≡ y → P y → P x
back P e h = subst P (sym e) h

module _ (r q : Routine) (store : q.store ≡ r.store) (machine : q.machine ≡ r.machine) (most : q.most ≡ r.most) (left : q.left ≡ r.left)
    (ids : ids_of q.builder ≡ ids_of r.builder) (contents : (s : Lists Node) → contents_of q.builder s ≡ contents_of r.builder s) (sound : (s : Lists Node) → IsSound r.builder s → IsSound q.builder s) where
  built_same : built_in q ≡ built_in r
  built_same = ap (contents_of q.builder) store ∙ contents r.store

  held_same : held_in q ≡ held_in r
  held_same = λ j. with_more (nodes_left (left j)) (built_same j)

  pub state-copied : state_of q ≡ state_of r
  state-copied = λ j. state_shown (store j) (held_same j).boxes (held_same j).waiting (machine j)

  consistent : IsConsistent r → IsConsistent q
  consistent h = record {
    builder = back (IsSound q.builder) store (sound r.store h.builder);
    machine = back (λ (x : MachineView × Lists Node). IsMachine x.0 x.1) (λ j. (machine j, store j)) h.machine;
    fault = ap (λ (m : MachineView). m.fault) machine ∙ h.fault;
    apart = back (λ (x : List ℕ × List ℕ). AreNoneOf x.0 x.1) (λ j. (machine_lists (machine j), owned (ids j) (store j))) h.apart;
    items = back (λ (x : List Class × Option ItemsLeft). AreItemsLeft x.0 x.1) (λ j. ((built_same j).classes, left j)) h.items;
  }

  bounded : (limit : ℕ) → IsBounded limit r → IsBounded limit q
  bounded limit h = record {
    held = back (λ (x : State × ℕ). held_count x.0 ≤ x.1) (λ j. (state-copied j, most j)) h.held;
    few = back (λ (n : ℕ). n ≤ limit) most h.few;
  }

  between : IsBetweenFirings r → IsBetweenFirings q
  between h = record {
    whole = consistent h.whole;
    params = back (λ (m : MachineView). AreRunnable m.params) machine h.params;
    classes = back (λ (m : MachineView). AreRunClasses m.classes) machine h.classes;
    between = held_same ∙ h.between ∙ ap between_pages (sym state-copied);
    served = back (λ (x : List PlainNode × State). IsServed x.0 x.1) (λ j. ((held_same j).waiting, state-copied j)) h.served;
    bounded = bounded 4194304 h.bounded;
    ends = back (λ (x : Option ItemsLeft × List PlainNode). IsOpen x.0 x.1) (λ j. (left j, (built_same j).waiting)) h.ends;
  }

  pub ready-copied : IsReady r → IsReady q
  ready-copied h = record { settled = between h.settled; events = ap (λ (m : MachineView). m.events) machine ∙ h.events }
