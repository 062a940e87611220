-- The routine stays whole when lists that are not its own change.
use Rattle.std.proofs.Common.{◌≡◌, ◌≢◌, sym, subst, ◌∙◌, ap, ℕ, List, [], ◌∷◌, ◌++◌, Some}
use Rattle.std.specs.List.{AllByRecursion}
use Rattle.std.specs.FinMap.{get, remove}
use Rattle.tb_pool.specs.Lists.{Lists, IsLive, list_at}
use Rattle.tb_pool.specs.Frame.{IsNoneOf}
use Rattle.tb_node.specs.declared.Node.{Node}
use Rattle.tb_builder.specs.declared.Builder.{Builder}
use Rattle.tb_builder.specs.Contents.{Contents, contents_of}
use Rattle.tb_builder.specs.Ownership.{Lacks, inner_ids, ids_of, owned, KeepsOthers}
use Rattle.tb_builder.specs.Courses.{IsSound}
use Rattle.tb_builder.proofs.Ownership.FrameLemmas.{frame_owned, frame_contents, frame_sound}
use Rattle.tb_builder.proofs.Ownership.OwnedLemmas.{AllSame, lacks-append}
use Rattle.tb_output.specs.Machine.{MachineView, state_shown, machine_lists, IsMachine}
use Rattle.tb_builder.specs.BuilderLists.{builder_lists}
use Rattle.tb_output.specs.Firing.{CanGoBack}
use Rattle.tb_sheet.specs.ApartLists.{AreNoneOf}
use Rattle.tb_output.specs.MachineFrame.{back_lists}
use Rattle.tb_sheet.proofs.ListsApart.{apart-swap, distinct-apart}
use Rattle.tb_builder.proofs.Ownership.LackLemmas.{none-lacks, lacks-none}
use Rattle.tb_sheet.proofs.StandLemmas.{Stands}
use Rattle.tb_output.proofs.FiringWork.StandLemmas.{machine-live, IsShownBy, stands-shown}
use Rattle.tb_items.specs.declared.items_left.ItemsLeft.{ItemsLeft}
use Rattle.tb_items.specs.WaitingNodes.{AreItems}
use Rattle.tb_items.specs.ItemsLeft.{AreItemsLeft, IsHandedOver}
use Rattle.tb_items.proofs.ClosedLists.{closed-other, all-other}
use Rattle.tb_run.specs.declared.routine.Routine.{Routine}
use Rattle.tb_run.specs.Routine.{built_in, IsConsistent}
use Rattle.tb_run.specs.RoutinePages.{IsSupplied}

-- ---- a call of the builder

module _ (s t : Lists Node) (b d : Builder) (k : KeepsOthers (ids_of b) s (ids_of d) t) where
  kept-stand : (ls : List ℕ) → AllByRecursion (IsLive s) ls → AreNoneOf ls (builder_lists b s) → AllByRecursion (Stands s t) ls
  kept-stand [] live none = tt
  kept-stand (l ∷ ls) live none = (k.others l live.0 (none-lacks l (builder_lists b s) none.0), kept-stand ls live.1 none.1)

  kept-free : (ls : List ℕ) → AllByRecursion (IsLive s) ls → AreNoneOf ls (builder_lists b s) → AreNoneOf ls (builder_lists d t)
  kept-free [] live none = tt
  kept-free (l ∷ ls) live none = (lacks-none l (builder_lists d t) (k.apart l live.0 (none-lacks l (builder_lists b s) none.0)), kept-free ls live.1 none.1)

-- the machine shows the same, and the routine is whole
module _ (q d : Routine) (whole : IsConsistent q) (k : KeepsOthers (ids_of q.builder) q.store (ids_of d.builder) d.store) (sound : IsSound d.builder d.store) (same : d.machine ≡ q.machine) where
  live : AllByRecursion (IsLive q.store) (machine_lists q.machine)
  live = machine-live q.machine q.store whole.machine

  pub built-shown : IsShownBy q.machine q.store d.store
  built-shown = stands-shown q.machine q.store d.store whole.machine (kept-stand q.store d.store q.builder d.builder k (machine_lists q.machine) live whole.apart)

  pub built-whole : AreItemsLeft (contents_of d.builder d.store).classes d.left → IsConsistent d
  built-whole items = record {
    builder = sound;
    machine = subst (λ m. IsMachine m d.store) (sym same) built-shown.machine;
    fault = ap (λ (m : MachineView). m.fault) same ∙ whole.fault;
    apart = subst (λ (m : MachineView). AreNoneOf (machine_lists m) (builder_lists d.builder d.store)) (sym same) (kept-free q.store d.store q.builder d.builder k (machine_lists q.machine) live whole.apart);
    items = items;
  }

-- ---- more of the items that are left wait

-- the items that are left
pub items-of : (r : Routine) (l : ItemsLeft) → IsConsistent r → r.left ≡ Some l → AreItems (built_in r).classes l.items.now
items-of r l whole left = subst (AreItemsLeft (built_in r).classes) left whole.items

module _ (r q : Routine) (l : ItemsLeft) (whole : IsConsistent r) (left : r.left ≡ Some l) (h : IsHandedOver l q.left r.builder r.store q.builder q.store) (same : q.machine ≡ r.machine) (most : q.most ≡ r.most) where
  keeps-others : KeepsOthers (ids_of r.builder) r.store (ids_of q.builder) q.store
  keeps-others = record { others = h.waits.others; apart = h.waits.apart }

  pub supplied-so : IsSupplied l r q
  supplied-so = record {
    nodes = h.nodes;
    contents = h.waits.contents;
    all = h.all;
    ends = h.ends;
    fewer = h.fewer;
    whole = built-whole r q whole keeps-others h.waits.sound same (subst (λ cs. AreItemsLeft cs q.left) (sym (ap (λ (c : Contents). c.classes) h.waits.contents)) (h.items (built_in r).classes (items-of r l whole left)));
    machine = same;
    most = most;
    state = λ boxes waiting. ap (λ (m : MachineView). state_shown q.store boxes waiting m) same ∙ (built-shown r q whole keeps-others h.waits.sound same).state boxes waiting;
  }

-- ---- lists that are closed

pub stand-others : (store new : Lists Node) (closed : List ℕ) → ((q : ℕ) → IsNoneOf q closed → get new.lists q ≡ get store.lists q) → (ls : List ℕ) → AreNoneOf ls closed → AllByRecursion (Stands store new) ls
stand-others store new closed others [] h = tt
stand-others store new closed others (l ∷ ls) h = (others l h.0, stand-others store new closed others ls h.1)

pub closed-shown : (m : MachineView) (store new : Lists Node) (closed : List ℕ) → IsMachine m store → ((q : ℕ) → IsNoneOf q closed → get new.lists q ≡ get store.lists q) → AreNoneOf closed (machine_lists m) → IsShownBy m store new
closed-shown m store new closed is others free = stands-shown m store new is (stand-others store new closed others (machine_lists m) (apart-swap closed (machine_lists m) free))

-- ---- what goes back before what waits

module _ (r : Routine) (t u : Lists Node) (d : Builder) (l : ℕ) (whole : IsConsistent r) (back : CanGoBack l r.machine r.builder r.store) (sound : IsSound d t)
    (others : (q : ℕ) → q ≢ l → Lacks q (owned (ids_of r.builder) r.store) → get t.lists q ≡ get r.store.lists q) (keeps : (q : ℕ) → Lacks q (owned (ids_of r.builder) r.store ++ inner_ids (list_at r.store l)) → Lacks q (owned (ids_of d) t))
    (closed : u.lists ≡ remove t.lists l) where
  same-kept : AllSame t u (owned (ids_of d) t)
  same-kept = all-other t u l closed (owned (ids_of d) t) (keeps l back.joins.apart)

  abbrev after : Routine
  after = record { store = u; builder = d; machine = r.machine; most = r.most; left = r.left }

  pub back-contents : built_in after ≡ contents_of d t
  back-contents = frame_contents d t u sound same-kept

  apart-back : AreNoneOf (machine_lists r.machine) (back_lists r.store l)
  apart-back = apart-swap (back_lists r.store l) (machine_lists r.machine) (distinct-apart (back_lists r.store l) (machine_lists r.machine) back.back.apart)

  lists-stand : (ls : List ℕ) → AreNoneOf ls (back_lists r.store l) → AreNoneOf ls (builder_lists r.builder r.store) → AllByRecursion (Stands r.store u) ls × AreNoneOf ls (builder_lists d u)
  lists-stand [] h k = (tt, tt)
  lists-stand (q ∷ ls) h k =
      let rest = lists-stand ls h.1 k.1 in
      let ne : q ≢ l = (λ e. h.0.0 (sym e)) in
      let lacks = none-lacks q (builder_lists r.builder r.store) k.0 in (
        (closed-other t u l closed q ne ∙ others q ne lacks, rest.0),
        (
          lacks-none q (builder_lists d u)
              (subst (Lacks q) (sym (frame_owned d t u sound same-kept)) (keeps q (lacks-append q (owned (ids_of r.builder) r.store) (inner_ids (list_at r.store l)) lacks (none-lacks q (inner_ids (list_at r.store l)) h.0.1)))),
          rest.1,
        ),
      )

  stand : AllByRecursion (Stands r.store u) (machine_lists r.machine) × AreNoneOf (machine_lists r.machine) (builder_lists d u)
  stand = lists-stand (machine_lists r.machine) apart-back whole.apart

  pub back-shown : IsShownBy r.machine r.store u
  back-shown = stands-shown r.machine r.store u whole.machine stand.0

  pub back-whole : (contents_of d t).classes ≡ (built_in r).classes → IsConsistent after
  back-whole classes = record {
    builder = frame_sound d t u sound same-kept;
    machine = back-shown.machine;
    fault = whole.fault;
    apart = stand.1;
    items = subst (λ cs. AreItemsLeft cs r.left) (sym (ap (λ (c : Contents). c.classes) back-contents ∙ classes)) whole.items;
  }
