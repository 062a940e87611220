-- How what a call changes goes on from call to call.
use Rattle.std.proofs.Common.{◌≡◌, refl, sym, subst, ◌∙◌, ap, ℕ, List, [], ◌∷◌, ◌++◌, map, append-nil, Option, None, IsSome, true}
use Rattle.std.specs.Prelude.{All, option_to_list}
use Rattle.std.specs.FinMap.{get}
use Rattle.std.specs.List.{AllByRecursion}
use Rattle.std.proofs.lemmas.List.{map-append}
use Rattle.std.proofs.lemmas.List.Elements.{All-append}
use Rattle.tb_output.proofs.FiringWork.BuilderLemmas.{stand-same}
use Rattle.tb_break.proofs.EachLemmas.{all-front, all-back}
use Rattle.tb_pool.specs.Lists.{Lists, IsLive, list_at}
use Rattle.tb_pool.specs.Frame.{IsNoneOf}
use Rattle.tb_pool.proofs.FrameLemmas.{none-front, none-back, none-join}
use Rattle.tb_node.specs.declared.Node.{Node}
use Rattle.tb_node.specs.declared.Kind.{Kind}
use Rattle.tb_node.specs.declared.Kind.TheVariants as kinds
use Rattle.tb_node.specs.PlainNodes.{plain_of, plain_list}
use Rattle.tb_node.specs.Fit.{IsSizedNode}
use Rattle.tb_insert.specs.declared.Class.{Class}
use Rattle.tb_builder.specs.Ownership.{inner_of, inner_ids, is_known, AllKnown}
use Rattle.tb_builder.proofs.Ownership.OwnedLemmas.{view_same, inner-append, known-append}
use Rattle.tb_column.specs.Page.{is_leaf_kind, AreLeaves, IsPageList}
use Rattle.tb_column.specs.Notes.{AreDistinct}
use Rattle.tb_output.specs.Machine.{MachineView, machine_lists, IsMachine}
use Rattle.tb_sheet.specs.ApartLists.{AreNoneOf}
use Rattle.tb_output.specs.MachineFrame.{KeepsFields, KeepsMachine, HasGrown, back_lists, IsBack, KeepsBack}
use Rattle.tb_sheet.proofs.StandLemmas.{Stands, list-same, live-same, list-stands, leaves-shown}
use Rattle.tb_output.proofs.FiringWork.StandLemmas.{frame-stands, frame-free, IsShownBy, stands-shown, lists-shown}
use Rattle.tb_sheet.proofs.ListsApart

-- ---- the fields

pub fields-same : (m : MachineView) → KeepsFields m m
fields-same m = record { params = refl; classes = refl; fault = refl }

pub fields-then : (m mid now : MachineView) → KeepsFields m mid → KeepsFields mid now → KeepsFields m now
fields-then m mid now x y = record { params = y.params ∙ x.params; classes = y.classes ∙ x.classes; fault = y.fault ∙ x.fault }

-- ---- the machine

-- nothing changed
pub keeps-same : (args : List ℕ) (m : MachineView) (store new : Lists Node) → IsMachine m store → new.lists ≡ store.lists → KeepsMachine args m m store new
keeps-same args m store new is same = record {
  machine = (lists-shown m store new is same).machine;
  frame = λ q live none. (ap (λ x. get x q) same, none-back q args (machine_lists m) none);
  fields = fields-same m;
}

-- one call after another, whose arguments are those of the first or lists that were opened
pub keeps-then : (args more : List ℕ) (m mid now : MachineView) (store middle new : Lists Node) → KeepsMachine args m mid store middle → KeepsMachine more mid now middle new → ((q : ℕ) → IsLive store q → IsNoneOf q args → IsNoneOf q more) → KeepsMachine args m now store new
keeps-then args more m mid now store middle new x y among = record {
  machine = y.machine;
  frame = λ q live none.
      let first = x.frame q live none in
      let still : IsLive middle q = subst (λ (o : Option (List Node)). IsSome o) (sym first.0) live in
      let second = y.frame q still (none-join q more (machine_lists mid) (among q live (none-front q args (machine_lists m) none)) first.1) in
      (second.0 ∙ first.0, second.1);
  fields = fields-then m mid now x.fields y.fields;
}

-- more arguments
pub keeps-more : (args more : List ℕ) (m now : MachineView) (store new : Lists Node) → KeepsMachine args m now store new → ((q : ℕ) → IsNoneOf q more → IsNoneOf q args) → KeepsMachine more m now store new
keeps-more args more m now store new x fewer = record {
  machine = x.machine;
  frame = λ q live none. x.frame q live (none-join q args (machine_lists m) (fewer q (none-front q more (machine_lists m) none)) (none-back q more (machine_lists m) none));
  fields = x.fields;
}

-- ---- the list that goes back

-- it depends on the machine's classes and lists alone
pub back-of : (l : ℕ) (m now : MachineView) (store : Lists Node) → now.classes ≡ m.classes → machine_lists now ≡ machine_lists m → IsBack l m store → IsBack l now store
back-of l m now store classes lists h = record {
  live = h.live;
  sized = h.sized;
  known = subst (λ cs. AllKnown cs (list_at store l)) (sym classes) h.known;
  inner = h.inner;
  apart = subst (λ ls. AreDistinct (back_lists store l ++ ls)) (sym lists) h.apart;
}

page-live : (store : Lists Node) (ls : List ℕ) → AllByRecursion (IsPageList store) ls → AllByRecursion (IsLive store) ls
page-live store [] h = tt
page-live store (l ∷ ls) h = (h.0.live, page-live store ls h.1)

pub back-live : (l : ℕ) (m : MachineView) (store : Lists Node) → IsBack l m store → AllByRecursion (IsLive store) (back_lists store l)
back-live l m store h = (h.live, page-live store (inner_ids (list_at store l)) h.inner)

pub pages-stand : (store new : Lists Node) (ls : List ℕ) → AllByRecursion (Stands store new) ls → AllByRecursion (IsPageList store) ls → AllByRecursion (IsPageList new) ls
pages-stand store new [] e h = tt
pages-stand store new (l ∷ ls) e h = (list-stands store new l e.0 h.0, pages-stand store new ls e.1 h.1)

module _ (store new : Lists Node) (l : ℕ) (e : AllByRecursion (Stands store new) (back_lists store l)) where
  pub back-list : list_at new l ≡ list_at store l
  back-list = list-same store new l e.0

  pub back-lists_same : back_lists new l ≡ back_lists store l
  back-lists_same = ap (λ ns. l ∷ inner_ids ns) back-list

  -- it shows the same nodes
  pub back-shows : plain_list new l ≡ plain_list store l
  back-shows = ap (map (plain_of (list_at new))) back-list ∙ view_same store new (list_at store l) (stand-same store new (inner_ids (list_at store l)) e.1)

  -- and is still the list that goes back, if it is apart from the machine's lists
  pub back-stands : (m now : MachineView) → now.classes ≡ m.classes → AreDistinct (machine_lists now) → AreNoneOf (back_lists store l) (machine_lists now) → IsBack l m store → IsBack l now new
  back-stands m now classes distinct apart h = record {
    live = live-same store new l e.0 h.live;
    sized = subst (All IsSizedNode) (sym back-list) h.sized;
    known = subst (AllKnown now.classes) (sym back-list) (subst (λ cs. AllKnown cs (list_at store l)) (sym classes) h.known);
    inner = subst (λ ns. AllByRecursion (IsPageList new) (inner_ids ns)) (sym back-list) (pages-stand store new (inner_ids (list_at store l)) e.1 h.inner);
    apart = subst (λ ls. AreDistinct (ls ++ machine_lists now)) (sym back-lists_same)
        (ListsApart.distinct-join (back_lists store l) (machine_lists now) (ListsApart.distinct-front (back_lists store l) (machine_lists m) h.apart) distinct apart);
  }

-- a call that was handed none of its lists leaves it
module _ (args : List ℕ) (m now : MachineView) (store new : Lists Node) (l : ℕ) (h : IsBack l m store) (k : KeepsMachine args m now store new) (apart : AreNoneOf (back_lists store l) args) where
  back-none : AreNoneOf (back_lists store l) (args ++ machine_lists m)
  back-none = ListsApart.apart-join (back_lists store l) args (machine_lists m) apart (ListsApart.distinct-apart (back_lists store l) (machine_lists m) h.apart)

  beside-stand : AllByRecursion (Stands store new) (back_lists store l)
  beside-stand = frame-stands (args ++ machine_lists m) (machine_lists now) store new k.frame (back_lists store l) (back-live l m store h) back-none

  pub beside-shows : plain_list new l ≡ plain_list store l
  beside-shows = back-shows store new l beside-stand

  pub keeps-beside : KeepsBack l args m now store new
  keeps-beside = record {
    machine = k.machine;
    back = back-stands store new l beside-stand m now k.fields.classes k.machine.apart
        (frame-free (args ++ machine_lists m) (machine_lists now) store new k.frame (back_lists store l) (back-live l m store h) back-none) h;
    frame = λ q live none.
        let back = none-front q (back_lists store l) (machine_lists m) (none-back q args (back_lists store l ++ machine_lists m) none) in
        let own = none-back q (back_lists store l) (machine_lists m) (none-back q args (back_lists store l ++ machine_lists m) none) in
        let step = k.frame q live (none-join q args (machine_lists m) (none-front q args (back_lists store l ++ machine_lists m) none) own) in
        (step.0, none-join q (back_lists new l) (machine_lists now) (subst (IsNoneOf q) (sym (back-lists_same store new l beside-stand)) back) step.1);
    fields = k.fields;
  }

-- ---- with the list that goes back

pub keeps-back_same : (l : ℕ) (args : List ℕ) (m : MachineView) (store new : Lists Node) → IsMachine m store → IsBack l m store → new.lists ≡ store.lists → AreNoneOf (back_lists store l) args → KeepsBack l args m m store new
keeps-back_same l args m store new is back same apart = keeps-beside args m m store new l back (keeps-same args m store new is same) apart

pub keeps-back_then : (l : ℕ) (args more : List ℕ) (m mid now : MachineView) (store middle new : Lists Node) → KeepsBack l args m mid store middle → KeepsBack l more mid now middle new → ((q : ℕ) → IsLive store q → IsNoneOf q args → IsNoneOf q more) → KeepsBack l args m now store new
keeps-back_then l args more m mid now store middle new x y among = record {
  machine = y.machine;
  back = y.back;
  frame = λ q live none.
      let first = x.frame q live none in
      let still : IsLive middle q = subst (λ (o : Option (List Node)). IsSome o) (sym first.0) live in
      let second = y.frame q still (none-join q more (back_lists middle l ++ machine_lists mid) (among q live (none-front q args (back_lists store l ++ machine_lists m) none)) first.1) in
      (second.0 ∙ first.0, second.1);
  fields = fields-then m mid now x.fields y.fields;
}

-- the machine changed alone, and owns the same lists
pub keeps-back_alone : (l : ℕ) (m now : MachineView) (store : Lists Node) → IsMachine now store → KeepsFields m now → machine_lists now ≡ machine_lists m → IsBack l m store → KeepsBack l [] m now store store
keeps-back_alone l m now store is fields lists back = record {
  machine = is;
  back = back-of l m now store fields.classes lists back;
  frame = λ q live none. (refl, subst (λ ls. IsNoneOf q (back_lists store l ++ ls)) (sym lists) none);
  fields = fields;
}

-- ---- nodes were put at its end

-- nodes that are neither insertions nor acts, and sized
pub record MayGoBack (ns : List Node) : Type 0 where
  pub leaves : AreLeaves ns
  pub sized : All IsSizedNode ns

leaf-inner : (k : Kind) → is_leaf_kind k → inner_of k ≡ None
leaf-inner (kinds.Ins i) s = absurd s
leaf-inner (kinds.Act a) s = absurd s
leaf-inner k s = refl

pub leaves-inner : (ns : List Node) → AreLeaves ns → inner_ids ns ≡ []
leaves-inner [] h = refl
leaves-inner (n ∷ ns) h = ap (λ o. option_to_list o ++ inner_ids ns) (leaf-inner n.kind h.0) ∙ leaves-inner ns h.1

leaf-known : (cs : List Class) (k : Kind) → is_leaf_kind k → is_known cs k ≡ true
leaf-known cs (kinds.Ins i) s = absurd s
leaf-known cs (kinds.Act a) s = absurd s
leaf-known cs k s = refl

pub leaves-known : (cs : List Class) (ns : List Node) → AreLeaves ns → AllKnown cs ns
leaves-known cs [] h = tt
leaves-known cs (n ∷ ns) h = (leaf-known cs n.kind h.0, leaves-known cs ns h.1)

module _ (l : ℕ) (ns : List Node) (args : List ℕ) (m : MachineView) (store new : Lists Node) (is : IsMachine m store) (h : IsBack l m store) (grown : HasGrown l ns args store new) (apart : AreNoneOf (inner_ids (list_at store l) ++ machine_lists m) args) where
  grown-list : list_at new l ≡ list_at store l ++ ns
  grown-list = rw grown.list refl

  grown-live : IsLive new l
  grown-live = subst (λ (o : Option (List Node)). IsSome o) (sym grown.list) refl

  -- the other lists are as they were
  grown-stand : (ls : List ℕ) → IsNoneOf l ls → AreNoneOf ls args → AllByRecursion (Stands store new) ls
  grown-stand [] none away = tt
  grown-stand (q ∷ ls) none away = (grown.others q none.0 away.0, grown-stand ls none.1 away.1)

  own-apart : AreNoneOf (machine_lists m) args
  own-apart = all-back (λ q. IsNoneOf q args) (inner_ids (list_at store l)) (machine_lists m) apart

  own-none : IsNoneOf l (machine_lists m)
  own-none = (ListsApart.distinct-apart (back_lists store l) (machine_lists m) h.apart).0

  -- what the machine shows is as before
  pub grown-machine : IsShownBy m store new
  grown-machine = stands-shown m store new is (grown-stand (machine_lists m) own-none own-apart)

  inner-stand : AllByRecursion (Stands store new) (inner_ids (list_at store l))
  inner-stand =
      grown-stand (inner_ids (list_at store l)) (none-front l (inner_ids (list_at store l)) (machine_lists m) h.apart.0)
      (all-front (λ q. IsNoneOf q args) (inner_ids (list_at store l)) (machine_lists m) apart)

  -- the nodes come after those that it showed
  pub grown-shows : AreLeaves ns → plain_list new l ≡ plain_list store l ++ map (plain_of (list_at store)) ns
  grown-shows leaves =
      ap (map (plain_of (list_at new))) grown-list
      ∙ map-append (plain_of (list_at new)) (list_at store l) ns
      ∙ (λ i. view_same store new (list_at store l) (stand-same store new (inner_ids (list_at store l)) inner-stand) i ++ leaves-shown (list_at new) (list_at store) ns leaves i)

  pub grown-keeps : MayGoBack ns → KeepsBack l args m m store new
  grown-keeps may = record {
    machine = grown-machine.machine;
    back = record {
      live = grown-live;
      sized = subst (All IsSizedNode) (sym grown-list) (All-append IsSizedNode (list_at store l) ns h.sized may.sized);
      known = subst (AllKnown m.classes) (sym grown-list) (known-append m.classes (list_at store l) ns h.known (leaves-known m.classes ns may.leaves));
      inner = subst (AllByRecursion (IsPageList new)) (sym inner-is) (pages-stand store new (inner_ids (list_at store l)) inner-stand h.inner);
      apart = subst (λ ls. AreDistinct (l ∷ ls ++ machine_lists m)) (sym inner-is) h.apart;
    };
    frame = λ q live none.
        let back = none-back q args (back_lists store l ++ machine_lists m) none in
        (grown.others q (λ e. back.0 (sym e)) (none-front q args (back_lists store l ++ machine_lists m) none), subst (λ ls. IsNoneOf q (l ∷ ls ++ machine_lists m)) (sym inner-is) back);
    fields = fields-same m;
  }
    where
      inner-is : inner_ids (list_at new l) ≡ inner_ids (list_at store l)
      inner-is = ap inner_ids grown-list ∙ inner-append (list_at store l) ns ∙ ap (λ ls. inner_ids (list_at store l) ++ ls) (leaves-inner ns may.leaves) ∙ append-nil (inner_ids (list_at store l))
