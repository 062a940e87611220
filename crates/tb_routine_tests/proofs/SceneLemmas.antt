-- Worked firings: what stays of a scene, and why a page may fire in it.
use Rattle.std.proofs.Common.{◌≡◌, refl, sym, subst, ◌∙◌, ap, ℕ, ◌+◌, ◌≤◌, ◌<◌, ℤ, pos, Bool, true, false, List, [], ◌∷◌, ◌++◌, length, Option, None, Some, IsSome, IfNone, arith}
use Rattle.std.specs.Prelude.{All, IsTrue, nat_le, if◌then◌else◌}
use Rattle.std.specs.List.{AllByRecursion}
use Rattle.std.specs.FinMap.{get}
use Rattle.std.proofs.lemmas.Int.{ints}
use Rattle.std.proofs.lemmas.List.Elements.{All-from_recursion}
use Rattle.tb_builder.proofs.Events.NextLemmas.{fresh_apart}
use Rattle.tb_break.proofs.EachLemmas.{all-map}
use Rattle.tb_scaled.specs.Glue.{fixed_glue}
use Rattle.tb_pool.specs.Lists.{Lists, IsLive, list_at, with_list}
use Rattle.tb_pool.specs.Frame.{IsNoneOf}
use Rattle.tb_pool.proofs.CallerLemmas.{list_same, live_same, get_other, length-pushed, All-pushed}
use Rattle.tb_node.specs.declared.Node.{Node}
use Rattle.tb_node.specs.declared.Kind.{Kind}
use Rattle.tb_node.specs.declared.Act.{Act}
use Rattle.tb_node.specs.declared.Act.TheVariants as acts
use Rattle.tb_node.specs.PlainNodes.{PlainNode}
use Rattle.tb_node.specs.Fit.{IsDimension, IsSizedNode, IsSizedLeaf}
use Rattle.tb_builder.specs.declared.Builder.{Builder}
use Rattle.tb_builder.specs.declared.Page.{Page}
use Rattle.tb_builder.specs.FiredPages.{Boxed}
use Rattle.tb_builder.specs.Contents.{Contents, contents_of, box_count, nothing_yet}
use Rattle.tb_builder.specs.Ownership.{Lacks, ClassesFit, ids_of, owned}
use Rattle.tb_builder.specs.Contributions.{NoPage}
use Rattle.tb_sheet.specs.declared.Sent.{Sent}
use Rattle.tb_sheet.specs.declared.Warn.{Warn}
use Rattle.tb_column.specs.Notes.{AreDistinct}
use Rattle.tb_column.specs.Ranges.{IsSizedGlue}
use Rattle.tb_column.specs.FloatColumns.{made_node}
use Rattle.tb_column.specs.Page.{is_leaf_kind, AreLeaves, IsPageList}
use Rattle.tb_column.proofs.FloatLemmas.{leaves-append}
use Rattle.tb_output.specs.State.{State, Recorded}
use Rattle.tb_output.specs.Act.{went, full}
use Rattle.tb_output.specs.ActCalls.{IsActed, acted_in}
use Rattle.tb_output.specs.Machine.{MachineView, left_lists, event_lists, machine_lists, AreClassesFrom}
use Rattle.tb_sheet.specs.StoredSheets.{sent_lists}
use Rattle.tb_builder.specs.BuilderLists.{builder_lists}
use Rattle.tb_scaled.specs.Amount.{IsAmount}
use Rattle.tb_output.specs.Firing.{AreSizedBoxes, CanFire}
use Rattle.tb_routine_tests.specs.Scenes.{scene_classes, IsScene, IsReady, IsTextKind, LeavesAll}
use Rattle.tb_sheet.proofs.ListsApart.{apart-back, distinct-front, distinct-back, distinct-apart, distinct-join}
use Rattle.tb_output.proofs.FiringWork.ApartLemmas.{fresh-none}
use Rattle.tb_builder.proofs.Ownership.LackLemmas.{lacks-none}
use Rattle.tb_sheet.proofs.StandLemmas.{Stands, list-same, live-same, list-stands}
use Rattle.tb_output.proofs.FiringWork.StandLemmas.{machine-live, stands-shown}

-- a scene whose lists are as before is one
pub scene-stays : (m : MachineView) (store new : Lists Node) → IsScene m store → LeavesAll store new → IsScene m new
scene-stays m store new is leaves = record {
  machine = (stands-shown m store new is.machine (all-map (IsLive store) (Stands store new) leaves (machine_lists m) (machine-live m store is.machine))).machine;
  classes = is.classes;
}

-- ---- the classes

no-glue : (w : ℤ) → IsDimension w → IsSizedGlue (fixed_glue w)
no-glue w h = record { width = h; stretch = record { low = omega (arith, ints); high = omega (arith, ints) }; shrink = record { low = omega (arith, ints); high = omega (arith, ints) } }

pub classes-rise : AreClassesFrom 0 scene_classes
classes-rise =
    (omega arith, no-glue (pos 4) (record { low = omega (arith, ints); high = omega (arith, ints) }), (omega arith, no-glue (pos 0) (record { low = omega (arith, ints); high = omega (arith, ints) }), tt, tt), tt)

pub classes-fit : ClassesFit scene_classes
classes-fit = (
  refl,
  omega arith,
  record { factor = record { low = omega (arith, ints); high = omega (arith, ints) }; stretch = record { low = omega (arith, ints); high = omega (arith, ints) }; shrink = record { low = omega (arith, ints); high = omega (arith, ints) } },
  (refl, omega arith, record { factor = record { low = omega (arith, ints); high = omega (arith, ints) }; stretch = record { low = omega (arith, ints); high = omega (arith, ints) }; shrink = record { low = omega (arith, ints); high = omega (arith, ints) } }, tt),
)

-- ---- an event

distinct-without : (xs ms ys : List ℕ) → AreDistinct (xs ++ (ms ++ ys)) → AreDistinct (xs ++ ys)
distinct-without xs ms ys h =
    distinct-join xs ys (distinct-front xs (ms ++ ys) h) (distinct-back ms ys (distinct-back xs (ms ++ ys) h)) (apart-back xs ms ys (distinct-apart xs (ms ++ ys) h))

-- a machine whose first event was taken
pub without-event : (m : MachineView) (e : Sent) (store : Lists Node) → IsScene (record m { events = e ∷ m.events }) store → IsScene m store
without-event m e store is = record {
  machine = record {
    params = is.machine.params;
    classes = is.machine.classes;
    goal = is.machine.goal;
    first = is.machine.first;
    last = is.machine.last;
    numbered = is.machine.numbered;
    shrink = is.machine.shrink;
    pool = is.machine.pool;
    unmarked = is.machine.unmarked;
    left = is.machine.left;
    held_page = is.machine.held_page;
    held_room = is.machine.held_room;
    left_column = is.machine.left_column;
    events = is.machine.events.1;
    apart = distinct-without (m.held_page ∷ left_lists m.left_column) (sent_lists e) (event_lists m.events) is.machine.apart;
  };
  classes = is.classes;
}

-- ---- an act

taken-classes : (t : Bool) (n k : ℕ) (s : State) (ws : List Warn) (rs : List Recorded) (store : Lists Node) (boxes : List Boxed) (waiting : List PlainNode) (m now : MachineView)
    → s.classes ≡ m.classes → IsActed store boxes waiting m now (if t then full n k else went s ws rs) → now.classes ≡ m.classes
taken-classes true n k s ws rs store boxes waiting m now same h = absurd h
taken-classes false n k s ws rs store boxes waiting m now same h = ap (λ (v : State). v.classes) h.state ∙ same

-- the classes are as before
pub acted-classes : (store : Lists Node) (boxes : List Boxed) (waiting : List PlainNode) (m now : MachineView) (a : Act) → IsActed store boxes waiting m now (acted_in store boxes waiting m a) → now.classes ≡ m.classes
acted-classes store boxes waiting m now (acts.Take f) h = taken-classes _ _ _ _ _ _ store boxes waiting m now refl h
acted-classes store boxes waiting m now (acts.TakeMargin n) h = taken-classes _ _ _ _ _ _ store boxes waiting m now refl h
acted-classes store boxes waiting m now (acts.Suppress area) h = ap (λ (v : State). v.classes) h.state
acted-classes store boxes waiting m now (acts.Page n) h = ap (λ (v : State). v.classes) h.state
acted-classes store boxes waiting m now (acts.Set c) h = ap (λ (v : State). v.classes) h.state
acted-classes store boxes waiting m now (acts.Head f) h = taken-classes _ _ _ _ _ _ store boxes waiting m now refl h
acted-classes store boxes waiting m now (acts.Columns two) h = ap (λ (v : State). v.classes) h.state

-- ---- a page over a builder that holds nothing

none-shrunk : IsAmount (pos 0)
none-shrunk = record { low = omega (arith, ints); high = omega (arith, ints) }

few-nodes : (a b u v n : ℕ) → a ≡ u → u ≤ 201 → b ≡ v → v ≤ 1000 → n ≡ 0 → a + b + n ≤ 8355839
few-nodes a b u v n p h q k z = omega (arith, p, h, q, k, z)

module _ (m : MachineView) (b : Builder) (s t u : Lists Node) (page : Page) (scene : IsScene m s) (before : LeavesAll s t) (after : LeavesAll t u) where
  -- what it holds
  module _ (nothing : contents_of b u ≡ nothing_yet scene_classes) where
    no-page : NoPage (contents_of b u)
    no-page = subst NoPage (sym nothing) (record { page = refl; frozen = refl })

    known : (contents_of b u).classes ≡ m.classes
    known = ap (λ (c : Contents). c.classes) nothing ∙ sym scene.classes

    void-sized : AreSizedBoxes (contents_of b u).boxes
    void-sized = subst (λ (c : Contents). AreSizedBoxes c.boxes) (sym nothing) (All-from_recursion IsSizedLeaf [] tt, (All-from_recursion IsSizedLeaf [] tt, tt))

    none-boxed : box_count (contents_of b u).boxes ≡ 0
    none-boxed = ap (λ (c : Contents). box_count c.boxes) nothing

    pub may-fire : IsReady m s page.penalty → IsPageList t page.body → length (list_at t page.body) ≤ 201 → get s.lists page.body ≡ None → ((q : ℕ) → IsLive t q → Lacks q (owned (ids_of b) u)) → page.shrink ≡ pos 0 → CanFire m b u page
    may-fire ready body few fresh free no_shrink = record {
      awaits = no-page;
      classes = known;
      penalty = ready.penalty_low;
      shrink = subst IsAmount (sym no_shrink) none-shrunk;
      note_bottom = ready.note_bottom;
      body = list-stands t u page.body (after page.body body.live) body;
      boxes = void-sized;
      few = few-nodes _ _ _ _ _ (ap (λ (ns : List Node). length ns) (list-same t u page.body (after page.body body.live))) few held-same ready.held none-boxed;
      body_apart = fresh-none s page.body (machine_lists m) fresh live;
      body_free = lacks-none page.body (builder_lists b u) (free page.body body.live);
      machine_free = all-map (IsLive s) (λ q. IsNoneOf q (builder_lists b u)) (λ q h. lacks-none q (builder_lists b u) (free q (live-same s t q (before q h) h))) (machine_lists m) live;
    }
      where
        live : AllByRecursion (IsLive s) (machine_lists m)
        live = machine-live m s scene.machine

        held-live : IsLive s m.held_page
        held-live = scene.machine.held_page.live

        held-same : length (list_at u m.held_page) ≡ length (list_at s m.held_page)
        held-same =
            ap (λ (ns : List Node). length ns)
            (list-same t u m.held_page (after m.held_page (live-same s t m.held_page (before m.held_page held-live) held-live)) ∙ list-same s t m.held_page (before m.held_page held-live))

-- ---- a list of a page

leaves-more : (k : Kind) → is_leaf_kind k → AreLeaves (made_node k ∷ [])
leaves-more k h = (h, tt)

-- a node was put at its end
pub page-more : (s t : Lists Node) (l : ℕ) (k : Kind) → IsPageList s l → length (list_at s l) < 1000 → t.lists ≡ with_list s l (list_at s l ++ made_node k ∷ []) → IsTextKind k → IsPageList t l
page-more s t l k page few e kind = record {
  live = live_same s t l _ e;
  leaves = subst AreLeaves (sym (list_same s t l _ e)) (leaves-append (list_at s l) (made_node k ∷ []) page.leaves (leaves-more k kind.leaf));
  sized = All-pushed s t l (made_node k) IsSizedNode e page.sized kind.sized;
  few = let count = length-pushed s t l (made_node k) e in omega (arith, count, few);
}

-- a new list, after memory was taken
pub record OpenedEmpty (s t : Lists Node) (l : ℕ) : Type 0 where
  pub page : IsPageList t l
  pub none : length (list_at t l) ≡ 0
  pub others : LeavesAll s t

pub opened-empty : (s r t : Lists Node) (l : ℕ) → r.lists ≡ s.lists → get r.lists l ≡ None → t.lists ≡ with_list r l [] → OpenedEmpty s t l
opened-empty s r t l same fresh e = record {
  page = record {
    live = live_same r t l [] e;
    leaves = subst AreLeaves (sym empty) tt;
    sized = subst (All IsSizedNode) (sym empty) (All-from_recursion IsSizedNode [] tt);
    few = let k = ap (λ (ns : List Node). length ns) empty in omega (arith, k);
  };
  none = ap (λ (ns : List Node). length ns) empty;
  others = λ q live. get_other r t l [] q (fresh_apart r l q fresh (subst (λ o. IsSome o) (sym (before q)) live)) e ∙ before q;
}
  where
    empty : list_at t l ≡ []
    empty = list_same r t l [] e

    before : (q : ℕ) → get r.lists q ≡ get s.lists q
    before q = ap (λ m. get m q) same

-- ---- a fault

pub if-none : {E : Type 0} (o : Option E) (P : Type 0) → P → IfNone o P
if-none None P p = p
if-none (Some e) P p = tt

-- ---- a page that may fire

pub few-held : (n k : ℕ) → n ≡ k → IsTrue (nat_le n 1000) → k ≤ 1000
few-held n k e h = grind (arith, e, h)
