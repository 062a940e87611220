-- The routine before the first page.
use Rattle.std.proofs.Common.{◌≡◌, refl, sym, subst, ◌∙◌, ap, ◌≤◌, List, [], ◌∷◌, ◌++◌, Option, None, Some, arith}
use Rattle.std.specs.List.{AllByRecursion}
use Rattle.std.specs.FinMap.{get}
use Rattle.std.proofs.lemmas.Int.{ints}
use Rattle.std.proofs.lemmas.List.Elements.{All-from_recursion}
use Rattle.tb_pool.specs.Lists.{Lists, with_list}
use Rattle.tb_node.specs.declared.Act.{Act}
use Rattle.tb_node.specs.declared.Act.TheVariants as acts
use Rattle.tb_node.specs.declared.Node.{Node}
use Rattle.tb_node.specs.Fit.{IsSizedLeaf}
use Rattle.tb_node.specs.PlainNodes.{PlainKind, plain, ins, act, PlainNode}
use Rattle.tb_param.specs.declared.Params.{Params}
use Rattle.tb_insert.specs.declared.Class.{Class}
use Rattle.tb_builder.specs.declared.Builder.{Builder}
use Rattle.tb_builder.specs.Contents.{Contents, contents_of, nothing_yet, kind_count, node_count, box_count}
use Rattle.tb_builder.specs.Ownership.{ids_of, owned}
use Rattle.tb_builder.specs.Courses.{IsSound}
use Rattle.tb_builder.proofs.Ownership.OwnedLemmas.{AllSame}
use Rattle.tb_builder.proofs.Ownership.FrameLemmas.{opened_same, opened_apart, frame_contents, frame_sound}
use Rattle.tb_column.specs.declared.Column.{Column}
use Rattle.tb_builder.specs.Pageable.{IsSizedBox}
use Rattle.tb_output.specs.State.{State, void_boxes, first_state}
use Rattle.tb_output.specs.Machine.{MachineView, left_shown, left_lists, state_shown, event_lists, machine_lists, IsMachine}
use Rattle.tb_builder.specs.BuilderLists.{builder_lists}
use Rattle.tb_sheet.specs.ApartLists.{AreNoneOf}
use Rattle.tb_builder.proofs.Ownership.LackLemmas.{lacks-none}
use Rattle.tb_run.specs.declared.routine.Routine.{Routine}
use Rattle.tb_items.specs.declared.items_left.ItemsLeft.{ItemsLeft}
use Rattle.tb_items.specs.ItemsLeft.{nodes_left, with_more, AreItemsLeft, IsOpen}
use Rattle.tb_items.specs.GalleyNodes.{AreGalleyNodes}
use Rattle.tb_steps.specs.Run.{held_count}
use Rattle.tb_steps.specs.Runnable.{AreRunnable, AreRunClasses}
use Rattle.tb_run.specs.ServedStates.{kind_notes, notes_waiting, IsServed}
use Rattle.tb_run.specs.Routine.{built_in, held_in, state_of, between_pages, IsReady}

-- ---- the first state

act-few : (a : Act) → kind_notes (act a) ≤ 1
act-few (acts.Take f) = omega arith
act-few a = omega arith

kind-few : (k : PlainKind) → kind_notes k ≤ kind_count k
kind-few (plain m) = omega arith
kind-few (ins i) = omega arith
kind-few (act a) = act-few a

notes-few : (ns : List PlainNode) → notes_waiting ns ≤ node_count ns
notes-few [] = omega arith
notes-few (n ∷ ns) = let a = kind-few n.kind in let b = notes-few ns in omega (arith, a, b)

void-sized : (cs : List Class) → AllByRecursion IsSizedBox (void_boxes cs)
void-sized [] = tt
void-sized (c ∷ cs) = (All-from_recursion IsSizedLeaf [] tt, void-sized cs)

void-count : (cs : List Class) → box_count (void_boxes cs) ≡ 0
void-count [] = refl
void-count (c ∷ cs) = let e = void-count cs in omega (arith, e)

pub first-served : (p : Params) (cs : List Class) (ns : List PlainNode) → AreGalleyNodes cs ns → IsServed ns (first_state p cs ns)
first-served p cs ns h = record {
  nodes = h.nodes;
  held = tt;
  boxes = All-from_recursion IsSizedBox (void_boxes cs) (void-sized cs);
  entries = tt;
  notes = let a = notes-few ns in let b = h.few in omega (arith, a, b);
  bottom = record { low = omega (arith, ints); high = omega (arith, ints) };
}

first-count : (p : Params) (cs : List Class) (ns : List PlainNode) → AreGalleyNodes cs ns → held_count (first_state p cs ns) ≤ 600005
first-count p cs ns h = let a = h.few in let b = void-count cs in omega (arith, a, b)

-- ---- the routine

no-left : (store : Lists Node) (o : Option Column) → left_shown store o ≡ None → left_lists o ≡ []
no-left store None is = refl
no-left store (Some c) is = cc

-- whatever is left comes behind nothing
open-first : (o : Option ItemsLeft) → IsOpen o []
open-first None = tt
open-first (Some l) = refl

-- a machine that opened a list for its held page, beside a builder for which nothing waits; what is left has these nodes
module _ (p : Params) (m : MachineView) (v w : Lists Node) (d : Builder) (cs : List Class) (ns : List PlainNode) (begins : (waiting : List PlainNode) → state_shown w (void_boxes cs) waiting m ≡ first_state p cs waiting) (machine : IsMachine m w) (params : m.params ≡ p) (classes : m.classes ≡ cs)
    (fault : m.fault ≡ None) (taken : m.events ≡ []) (fresh : get v.lists m.held_page ≡ None) (opened : w.lists ≡ with_list v m.held_page []) (sound : IsSound d v) (holds : contents_of d v ≡ nothing_yet cs)
    (o : Option ItemsLeft) (nodes_are : nodes_left o ≡ ns) (items : AreItemsLeft cs o) where
  abbrev begun : Routine
  begun = record { store = w; builder = d; machine = m; most = 600005; left = o }

  same : AllSame v w (owned (ids_of d) v)
  same = opened_same d v w m.held_page sound fresh opened

  built : built_in begun ≡ nothing_yet cs
  built = frame_contents d v w sound same ∙ holds

  begun-holds : held_in begun ≡ record (nothing_yet cs) { waiting = ns }
  begun-holds = ap (with_more (nodes_left o)) built ∙ ap (λ xs. record (nothing_yet cs) { waiting = xs }) nodes_are

  pub begin-state : state_of begun ≡ first_state p cs ns
  begin-state = (λ i. state_shown w (begun-holds i).boxes (begun-holds i).waiting m) ∙ begins ns

  -- the held page is the machine's one list
  one-list : left_lists m.left_column ++ event_lists m.events ≡ []
  one-list = (λ i. no-left w m.left_column (ap (λ (s : State). s.left_column) (begins [])) i ++ event_lists (taken i))

  apart : AreNoneOf (machine_lists m) (builder_lists d w)
  apart = (lacks-none m.held_page (builder_lists d w) (opened_apart d v w m.held_page sound fresh opened), subst (λ ls. AreNoneOf ls (builder_lists d w)) (sym one-list) tt)

  pub begin-ready : AreRunnable p → AreRunClasses cs → AreGalleyNodes cs ns → IsReady begun
  begin-ready runs known nodes = record {
    settled = record {
      whole = record { builder = frame_sound d v w sound same; machine = machine; fault = fault; apart = apart; items = subst (λ (c : Contents). AreItemsLeft c.classes o) (sym built) items };
      params = subst AreRunnable (sym params) runs;
      classes = subst AreRunClasses (sym classes) known;
      between = begun-holds ∙ ap between_pages (sym begin-state);
      served = subst (λ (s : State). IsServed s.waiting s) (sym begin-state) (first-served p cs ns nodes);
      bounded = record { held = subst (λ (s : State). held_count s ≤ 600005) (sym begin-state) (first-count p cs ns nodes); few = omega arith };
      ends = subst (λ (c : Contents). IsOpen o c.waiting) (sym built) (open-first o);
    };
    events = taken;
  }
