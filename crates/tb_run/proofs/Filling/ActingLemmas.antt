-- The routine after an act.
use Rattle.std.proofs.Common.{◌≡◌, refl, sym, subst, ◌∙◌, ℕ, List, [], ◌∷◌}
use Rattle.std.specs.List.{AllByRecursion}
use Rattle.std.specs.FinMap.{get}
use Rattle.tb_break.proofs.EachLemmas.{all-front}
use Rattle.tb_pool.specs.Lists.{Lists, IsLive}
use Rattle.tb_pool.specs.Frame.{IsNoneOf}
use Rattle.tb_node.specs.declared.Act.{Act}
use Rattle.tb_node.specs.declared.Act.TheVariants as acts
use Rattle.tb_node.specs.declared.Node.{Node}
use Rattle.tb_node.specs.PlainNodes.{PlainNode}
use Rattle.tb_builder.specs.FiredPages.{Boxed}
use Rattle.tb_output.specs.Act.{Acted, went, full}
use Rattle.tb_output.specs.ActCalls.{IsActed, acted_in, TakesNoList, dropped_lists}
use Rattle.tb_output.specs.Machine.{MachineView, state_shown, machine_lists, left_lists, event_lists, IsMachine}
use Rattle.tb_builder.specs.BuilderLists.{builder_lists}
use Rattle.tb_sheet.specs.ApartLists.{AreNoneOf}
use Rattle.tb_sheet.proofs.ListsApart.{apart-swap}
use Rattle.tb_output.proofs.FiringWork.StandLemmas.{machine-live, IsShownBy}
use Rattle.tb_run.specs.declared.routine.Routine.{Routine}
use Rattle.tb_run.specs.Routine.{IsConsistent}
use Rattle.tb_run.specs.RoutinePages.{HasDone, HasActed}
use Rattle.tb_items.proofs.ClosedLists.{closed-owned, closed-contents, closed-sound}
use Rattle.tb_run.proofs.Turns.WholeLemmas.{closed-shown}

-- what holds of the machine's lists holds of the one that is dropped
pub dropped-all : (P : ℕ → Type 0) (a : Act) (m : MachineView) → AllByRecursion P (machine_lists m) → AllByRecursion P (dropped_lists a m.left_column)
dropped-all P (acts.Columns two) m h = all-front P (left_lists m.left_column) (event_lists m.events) h.1
dropped-all P a m h = tt

module _ (r : Routine) (m : MachineView) (a : Act) (whole : IsConsistent r) (machine : (store : Lists Node) → IsMachine r.machine store → IsMachine m store) (fault : m.fault ≡ r.machine.fault) (takes : TakesNoList r.machine m)
    (dropped : (store : Lists Node) → IsMachine r.machine store → AreNoneOf (dropped_lists a r.machine.left_column) (machine_lists m))
    (acted : (store : Lists Node) (boxes : List Boxed) (waiting : List PlainNode) → IsActed store boxes waiting r.machine m (acted_in store boxes waiting r.machine a)) where
  -- the dropped list is live, and none of the builder's or the machine's
  pub dropped-live : AllByRecursion (IsLive r.store) (dropped_lists a r.machine.left_column)
  dropped-live = dropped-all (IsLive r.store) a r.machine (machine-live r.machine r.store whole.machine)

  dropped-free : AreNoneOf (dropped_lists a r.machine.left_column) (builder_lists r.builder r.store)
  dropped-free = dropped-all (λ l. IsNoneOf l (builder_lists r.builder r.store)) a r.machine whole.apart

  is : IsMachine m r.store
  is = machine r.store whole.machine

  taken-by : (xs : List ℕ) → AreNoneOf xs (machine_lists r.machine) → AreNoneOf xs (machine_lists m)
  taken-by [] h = tt
  taken-by (x ∷ xs) h = (takes x h.0, taken-by xs h.1)

  apart : AreNoneOf (machine_lists m) (builder_lists r.builder r.store)
  apart = apart-swap (builder_lists r.builder r.store) (machine_lists m) (taken-by (builder_lists r.builder r.store) (apart-swap (machine_lists r.machine) (builder_lists r.builder r.store) whole.apart))

  done-by : (store : Lists Node) (boxes : List Boxed) (waiting : List PlainNode) → state_shown store boxes waiting m ≡ state_shown r.store boxes waiting m → (o : Acted) → IsActed r.store boxes waiting r.machine m o
      → HasDone boxes waiting r (record { store = store; builder = r.builder; machine = m; most = r.most; left = r.left }) o
  done-by store boxes waiting same (went s ws rs) h = (same ∙ h.state, h.sent)
  done-by store boxes waiting same (full line live) h = h

  -- if it was closed
  module _ (new : Lists Node) (others : (q : ℕ) → IsNoneOf q (dropped_lists a r.machine.left_column) → get new.lists q ≡ get r.store.lists q) where
    shown : IsShownBy m r.store new
    shown = closed-shown m r.store new (dropped_lists a r.machine.left_column) is others (dropped r.store whole.machine)

    pub has-acted : HasActed a r (record { store = new; builder = r.builder; machine = m; most = r.most; left = r.left })
    has-acted = record {
      whole = record {
        builder = closed-sound r.builder r.store new (dropped_lists a r.machine.left_column) whole.builder others dropped-free;
        machine = shown.machine;
        fault = fault ∙ whole.fault;
        apart = subst (AreNoneOf (machine_lists m)) (sym (closed-owned r.builder r.store new (dropped_lists a r.machine.left_column) whole.builder others dropped-free)) apart;
        items = whole.items;
      };
      acted = λ boxes waiting. done-by new boxes waiting (shown.state boxes waiting) (acted_in r.store boxes waiting r.machine a) (acted r.store boxes waiting);
      built = closed-contents r.builder r.store new (dropped_lists a r.machine.left_column) whole.builder others dropped-free;
      builder = refl;
      most = refl;
      left = refl;
    }
