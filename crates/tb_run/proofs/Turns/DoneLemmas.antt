-- The routine once what was sent is done with.
use Rattle.std.proofs.Common.{◌≡◌, sym, subst, ◌∙◌, ap, ℕ, ◌≤◌, List}
use Rattle.std.specs.FinMap.{get}
use Rattle.tb_pool.specs.Lists.{Lists}
use Rattle.tb_pool.specs.Frame.{IsNoneOf}
use Rattle.tb_node.specs.declared.Node.{Node}
use Rattle.tb_output.specs.State.{State}
use Rattle.tb_output.specs.Machine.{state_shown, machine_lists}
use Rattle.tb_sheet.specs.ApartLists.{AreNoneOf}
use Rattle.tb_output.proofs.FiringWork.StandLemmas.{IsShownBy}
use Rattle.tb_items.specs.declared.happenings.Happening.{Happening}
use Rattle.tb_run.specs.declared.routine.Routine.{Routine}
use Rattle.tb_steps.specs.Run.{held_count}
use Rattle.tb_run.specs.ServedStates.{IsServed}
use Rattle.tb_builder.specs.Contents.{Contents}
use Rattle.tb_items.specs.ItemsLeft.{nodes_left, with_more, IsOpen}
use Rattle.tb_items.specs.Happenings.{happened_lists}
use Rattle.tb_run.specs.Routine.{built_in, held_in, state_of, IsConsistent, between_pages, IsReady, AreHappened}
use Rattle.tb_items.proofs.ClosedLists.{closed-owned, closed-contents, closed-sound}
use Rattle.tb_run.proofs.Turns.WholeLemmas.{closed-shown}

module _ (r : Routine) (new : Lists Node) (hs : List Happening) (ready : IsReady r) (h : AreHappened r hs) (others : (q : ℕ) → IsNoneOf q (happened_lists hs) → get new.lists q ≡ get r.store.lists q) where
  abbrev after : Routine
  after = record r { store = new }

  abbrev closed : List ℕ
  closed = happened_lists hs

  whole : IsConsistent r
  whole = ready.settled.whole

  built : built_in after ≡ built_in r
  built = closed-contents r.builder r.store new closed whole.builder others h.builder

  contents : held_in after ≡ held_in r
  contents = ap (with_more (nodes_left r.left)) built

  shown : IsShownBy r.machine r.store new
  shown = closed-shown r.machine r.store new closed whole.machine others h.machine

  -- it shows the same state
  pub done-state : state_of after ≡ state_of r
  done-state = (λ i. state_shown new (contents i).boxes (contents i).waiting r.machine) ∙ shown.state (held_in r).boxes (held_in r).waiting

  done-whole : IsConsistent after
  done-whole = record {
    builder = closed-sound r.builder r.store new closed whole.builder others h.builder;
    machine = shown.machine;
    fault = whole.fault;
    apart = subst (AreNoneOf (machine_lists r.machine)) (sym (closed-owned r.builder r.store new closed whole.builder others h.builder)) whole.apart;
    items = whole.items;
  }

  -- and is ready for its next turn
  pub done-ready : IsReady after
  done-ready = record {
    settled = record {
      whole = done-whole;
      params = ready.settled.params;
      classes = ready.settled.classes;
      between = contents ∙ ready.settled.between ∙ ap between_pages (sym done-state);
      served = subst (λ (t : State). IsServed t.waiting t) (sym done-state) ready.settled.served;
      bounded = record { held = subst (λ (t : State). held_count t ≤ r.most) (sym done-state) ready.settled.bounded.held; few = ready.settled.bounded.few };
      ends = subst (λ (c : Contents). IsOpen r.left c.waiting) (sym built) ready.settled.ends;
    };
    events = ready.events;
  }
