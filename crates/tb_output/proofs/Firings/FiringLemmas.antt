-- A firing: a list is opened for what goes back, the routine works, and the goal of the next page is set.
use Rattle.std.proofs.Common.{◌≡◌, ◌≢◌, refl, sym, subst, ◌∙◌, ap, ℕ, ◌+◌, ◌≤◌, ℤ, List, [], ◌∷◌, ◌++◌, map, length, Option, Some, None, IsSome, true, arith}
use Rattle.std.specs.Prelude.{All}
use Rattle.std.specs.List.{AllByRecursion}
use Rattle.std.specs.FinMap.{get}
use Rattle.std.proofs.lemmas.List.Elements.{All-nil}
use Rattle.tb_builder.proofs.Events.NextLemmas.{fresh_apart}
use Rattle.tb_break.proofs.EachLemmas.{all-front, all-back}
use Rattle.tb_pool.specs.Lists.{Lists, IsLive, list_at, with_list}
use Rattle.tb_pool.specs.Frame.{IsNoneOf, OnlyChanged}
use Rattle.tb_pool.proofs.FrameLemmas.{none-front, none-back, none-join}
use Rattle.tb_pool.proofs.MapLemmas.{get-insert_same, get-insert_other}
use Rattle.tb_node.specs.declared.Node.{Node}
use Rattle.tb_node.specs.declared.Kind.{Kind}
use Rattle.tb_node.specs.declared.Kind.TheVariants as kinds
use Rattle.tb_node.specs.Fit.{IsSizedNode, shapes}
use Rattle.tb_node.specs.PlainNodes.{plain_list, shape_of}
use Rattle.tb_node.specs.Sums.{size_of}
use Rattle.tb_builder.specs.declared.Builder.{Builder}
use Rattle.tb_builder.specs.declared.Page.{Page}
use Rattle.tb_builder.specs.Contents.{Contents, contents_of, box_count}
use Rattle.tb_builder.specs.Ownership.{is_plain, AllPlain, HoldPlain, AllKnown, AllLive, inner_ids}
use Rattle.tb_builder.specs.Courses.{IsSound}
use Rattle.tb_builder.specs.Contributions.{NoPage}
use Rattle.tb_builder.proofs.Ownership.OwnedLemmas.{Apart, differ-append}
use Rattle.tb_column.specs.Page.{is_leaf_kind, AreLeaves, IsPageList}
use Rattle.tb_column.specs.Notes.{AreDistinct}
use Rattle.tb_output.specs.Machine.{MachineView, machine_lists, IsMachine}
use Rattle.tb_sheet.specs.ApartLists.{AreNoneOf}
use Rattle.tb_output.specs.MachineFrame.{IsBack, back_lists, KeepsBack}
use Rattle.tb_builder.specs.BuilderLists.{builder_lists}
use Rattle.tb_output.specs.Firing.{fired_in, AreSizedBoxes, CanFire, CanGoBack, KeepsAll, KeepsServing}
use Rattle.tb_sheet.proofs.StandLemmas.{Stands, list-same, live-same, list-stands, nodes-stand}
use Rattle.tb_output.proofs.FiringWork.StandLemmas.{machine-live, IsShownBy, stands-shown}
use Rattle.tb_sheet.proofs.ListsApart
use Rattle.tb_builder.proofs.Ownership.LackLemmas
use Rattle.tb_output.proofs.FiringWork.ApartLemmas
use Rattle.tb_output.proofs.FiringWork.KeepLemmas.{fields-then}
use Rattle.tb_output.proofs.FiringWork.BuilderLemmas.{live-all, beside-owned, beside-sound, beside-contents, beside-free}

-- ---- the goal is set after the routine worked

module _ (body l : ℕ) (m mid now : MachineView) (b later : Builder) (store middle new : Lists Node) (x : KeepsServing body l m mid b later store middle) (y : KeepsBack l [] mid now middle new) where
  mid-free : AreNoneOf (builder_lists later middle) (back_lists middle l ++ machine_lists mid)
  mid-free = ListsApart.apart-swap (back_lists middle l ++ machine_lists mid) (builder_lists later middle) x.apart

  then-owned : builder_lists later new ≡ builder_lists later middle
  then-owned = beside-owned later (back_lists middle l ++ machine_lists mid) (back_lists new l ++ machine_lists now) middle new x.builder y.frame mid-free

  pub then-contents : contents_of later new ≡ contents_of later middle
  then-contents = beside-contents later (back_lists middle l ++ machine_lists mid) (back_lists new l ++ machine_lists now) middle new x.builder y.frame mid-free

  pub serving-then : KeepsServing body l m now b later store new
  serving-then = record {
    machine = y.machine;
    builder = beside-sound later (back_lists middle l ++ machine_lists mid) (back_lists new l ++ machine_lists now) middle new x.builder y.frame mid-free;
    back = y.back;
    apart = ListsApart.apart-swap (builder_lists later new) (back_lists new l ++ machine_lists now)
        (beside-free later (back_lists middle l ++ machine_lists mid) (back_lists new l ++ machine_lists now) middle new x.builder y.frame mid-free);
    frame = λ q live none.
        let first = x.frame q live none in
        let still : IsLive middle q = subst (λ (o : Option (List Node)). IsSome o) (sym first.0) live in
        let second = y.frame q still (none-back q (builder_lists later middle) (back_lists middle l ++ machine_lists mid) first.1) in (
          second.0 ∙ first.0,
          none-join q (builder_lists later new) (back_lists new l ++ machine_lists now)
              (subst (IsNoneOf q) (sym then-owned) (none-front q (builder_lists later middle) (back_lists middle l ++ machine_lists mid) first.1)) second.1,
        );
    fields = fields-then m mid now x.fields y.fields;
  }

-- ---- a list was opened

module _ (store opened : Lists Node) (l : ℕ) (fresh : get store.lists l ≡ None) (e : opened.lists ≡ with_list store l []) where
  opened-others : (q : ℕ) → q ≢ l → Stands store opened q
  opened-others q ne = ap (λ x. get x q) e ∙ get-insert_other store.lists l [] q ne

  pub opened-stand : (q : ℕ) → IsLive store q → Stands store opened q
  opened-stand q live = opened-others q (fresh_apart store l q fresh live)

  pub opened-all : (ls : List ℕ) → AllByRecursion (IsLive store) ls → AllByRecursion (Stands store opened) ls
  opened-all [] live = tt
  opened-all (q ∷ ls) live = (opened-stand q live.0, opened-all ls live.1)

  opened-get : get opened.lists l ≡ Some []
  opened-get = ap (λ x. get x l) e ∙ get-insert_same store.lists l []

  pub opened-live : IsLive opened l
  opened-live = subst (λ (o : Option (List Node)). IsSome o) (sym opened-get) refl

  pub opened-empty : list_at opened l ≡ []
  opened-empty = rw opened-get refl

  opened-frame : (ls : List ℕ) → OnlyChanged ls ls store opened
  opened-frame ls = λ q live none. (opened-stand q live, none)

  module _ (m : MachineView) (b : Builder) (page : Page) (is : IsMachine m store) (sound : IsSound b store) where
    pub opened-machine : IsShownBy m store opened
    opened-machine = stands-shown m store opened is (opened-all (machine_lists m) (machine-live m store is))

    builder-none : AreNoneOf (builder_lists b store) []
    builder-none = ListsApart.apart-none (builder_lists b store)

    pub opened-owned : builder_lists b opened ≡ builder_lists b store
    opened-owned = beside-owned b [] [] store opened sound (opened-frame []) builder-none

    pub opened-sound : IsSound b opened
    opened-sound = beside-sound b [] [] store opened sound (opened-frame []) builder-none

    pub opened-contents : contents_of b opened ≡ contents_of b store
    opened-contents = beside-contents b [] [] store opened sound (opened-frame []) builder-none

    -- it may go back
    pub opened-back : IsBack l m opened
    opened-back = record {
      live = opened-live;
      sized = subst (All IsSizedNode) (sym opened-empty) (All-nil IsSizedNode);
      known = subst (AllKnown m.classes) (sym opened-empty) tt;
      inner = subst (λ ns. AllByRecursion (IsPageList opened) (inner_ids ns)) (sym opened-empty) tt;
      apart = subst (λ ns. AreDistinct (l ∷ inner_ids ns ++ machine_lists m)) (sym opened-empty) (ApartLemmas.fresh-none store l (machine_lists m) fresh (machine-live m store is), is.apart);
    }

    pub opened-lists : back_lists opened l ≡ l ∷ []
    opened-lists = ap (λ ns. l ∷ inner_ids ns) opened-empty

    -- and is none of the builder's
    pub opened-free : IsNoneOf l (builder_lists b opened)
    opened-free = subst (IsNoneOf l) (sym opened-owned) (ApartLemmas.fresh-none store l (builder_lists b store) fresh (live-all store (builder_lists b store) sound.own.live))

    module _ (fire : CanFire m b store page) where
      page-stands : Stands store opened page.body
      page-stands = opened-stand page.body fire.body.live

      pub opened-page : plain_list opened page.body ≡ plain_list store page.body
      opened-page = nodes-stand store opened page.body page-stands fire.body.leaves

      pub opened-fired : fired_in b opened page ≡ fired_in b store page
      opened-fired = λ i. record {
        body = opened-page i;
        boxes = (opened-contents i).boxes;
        held = (opened-contents i).held;
        rest = (opened-contents i).waiting;
        penalty = page.penalty;
        cost = page.cost;
        size = page.size;
        shrink = page.shrink;
        line = page.line;
      }

      -- the page takes the same room
      pub opened-room : (room : ℤ) → room ≡ size_of (shapes store page.body) → room ≡ size_of (shapes opened page.body)
      opened-room room is = is ∙ ap (λ (ns : List Node). size_of (map shape_of ns)) (sym (list-same store opened page.body page-stands))

      -- the page can be fired still
      pub opened-fire : CanFire m b opened page
      opened-fire = record {
        awaits = subst NoPage (sym opened-contents) fire.awaits;
        classes = ap (λ (c : Contents). c.classes) opened-contents ∙ fire.classes;
        penalty = fire.penalty;
        shrink = fire.shrink;
        note_bottom = fire.note_bottom;
        body = list-stands store opened page.body page-stands fire.body;
        boxes = subst AreSizedBoxes (sym (ap (λ (c : Contents). c.boxes) opened-contents)) fire.boxes;
        few = counted (ap length (list-same store opened page.body page-stands)) (ap length (list-same store opened m.held_page (opened-stand m.held_page is.held_page.live))) (ap (λ (c : Contents). box_count c.boxes) opened-contents) fire.few;
        body_apart = fire.body_apart;
        body_free = subst (IsNoneOf page.body) (sym opened-owned) fire.body_free;
        machine_free = subst (AreNoneOf (machine_lists m)) (sym opened-owned) fire.machine_free;
      }
        where
          counted : {x y z u v w : ℕ} → u ≡ x → v ≡ y → w ≡ z → x + y + z ≤ 8355839 → u + v + w ≤ 8355839
          counted p q r h = omega arith

    -- what the firing keeps, but for the list
    pub serving-all : (now : MachineView) (later : Builder) (new : Lists Node) (body : ℕ) → KeepsServing body l m now b later opened new → KeepsAll body m now b later store new
    serving-all now later new body x = record {
      machine = x.machine;
      builder = x.builder;
      frame = λ q live none.
          let same = opened-stand q live in
          let mine = subst (λ ls. IsNoneOf q ls) (sym opened-owned) (none-front q (builder_lists b store) (machine_lists m) none.1) in
          let own = none-back q (builder_lists b store) (machine_lists m) none.1 in
          let other : q ≢ l = fresh_apart store l q fresh live in
          let back : IsNoneOf q (back_lists opened l) = subst (IsNoneOf q) (sym opened-lists) ((λ h. other (sym h)), tt) in
          let step = x.frame q (live-same store opened q same live)
          (none.0, none-join q (builder_lists b opened) (back_lists opened l ++ machine_lists m) mine (none-join q (back_lists opened l) (machine_lists m) back own)) in (
            step.0 ∙ same,
            none-join q (builder_lists later new) (machine_lists now) (none-front q (builder_lists later new) (back_lists new l ++ machine_lists now) step.1)
                (none-back q (back_lists new l) (machine_lists now) (none-back q (builder_lists later new) (back_lists new l ++ machine_lists now) step.1)),
          );
      params = x.fields.params;
      classes = x.fields.classes;
    }

-- ---- what goes back can be handed to the builder

leaf-plain : (k : Kind) → is_leaf_kind k → is_plain k ≡ true
leaf-plain (kinds.Ins i) s = absurd s
leaf-plain (kinds.Act a) s = absurd s
leaf-plain k s = refl

pub leaves-plain : (ns : List Node) → AreLeaves ns → AllPlain ns
leaves-plain [] h = tt
leaves-plain (n ∷ ns) h = (leaf-plain n.kind h.0, leaves-plain ns h.1)

pages-plain : (store : Lists Node) (ls : List ℕ) → AllByRecursion (IsPageList store) ls → HoldPlain store ls
pages-plain store [] h = tt
pages-plain store (l ∷ ls) h = (leaves-plain (list_at store l) h.0.leaves, pages-plain store ls h.1)

pages-live : (store : Lists Node) (ls : List ℕ) → AllByRecursion (IsPageList store) ls → AllLive store ls
pages-live store [] h = tt
pages-live store (l ∷ ls) h = (h.0.live, pages-live store ls h.1)

apart-of : (xs ys : List ℕ) → AreNoneOf xs ys → Apart xs ys
apart-of [] ys h = tt
apart-of (x ∷ xs) ys h = (LackLemmas.none-lacks x ys h.0, apart-of xs ys h.1)

pub goes-back : (l : ℕ) (m : MachineView) (b : Builder) (store : Lists Node) → IsSound b store → IsBack l m store → AreNoneOf (back_lists store l ++ machine_lists m) (builder_lists b store) → NoPage (contents_of b store) → (contents_of b store).classes ≡ m.classes → CanGoBack l m b store
goes-back l m b store sound back free awaits known = record {
  back = back;
  awaits = awaits;
  joins = record {
    live = back.live;
    apart = LackLemmas.none-lacks l (builder_lists b store ++ inner) (none-join l (builder_lists b store) inner free.0 (none-front l inner (machine_lists m) back.apart.0));
    nodes = record {
      live = pages-live store inner back.inner;
      differ = differ-append (builder_lists b store) inner sound.own.differ (ApartLemmas.distinct-differ inner (ListsApart.distinct-front inner (machine_lists m) back.apart.1))
          (apart-of (builder_lists b store) inner (ListsApart.apart-swap inner (builder_lists b store) (all-front (λ q. IsNoneOf q (builder_lists b store)) inner (machine_lists m) free.1)));
      plain_lists = pages-plain store inner back.inner;
      known = subst (λ cs. AllKnown cs (list_at store l)) (sym known) back.known;
    };
  };
  machine_free = all-back (λ q. IsNoneOf q (builder_lists b store)) (back_lists store l) (machine_lists m) free;
}
  where
    inner : List ℕ
    inner = inner_ids (list_at store l)
