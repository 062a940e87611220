-- A valid galley with the breaks of a plan can be run, and the numbers of a plan are those of its items.
use Rattle.std.proofs.Common.{◌≡◌, refl, sym, subst, ℕ, suc, ◌+◌, ◌*◌, ◌≤◌, ◌==◌, pos, Bool, true, false, List, [], ◌∷◌, ◌++◌, length, arith}
use Rattle.std.specs.Prelude.{All, IsTrue, nat_lt, neg_ℤ, ◌&&◌, if◌then◌else◌}
use Rattle.std.specs.List.{list_all}
use Rattle.std.proofs.lemmas.Int.{ints}
use Rattle.std.proofs.lemmas.Bool.Decides.{nat_tests}
use Rattle.std.proofs.lemmas.List.{length-map}
use Rattle.std.proofs.lemmas.List.Elements.{All-nil, All-cons, All-head, All-tail, All-append}
use Rattle.tb_node.specs.declared.Float.{Float}
use Rattle.tb_node.specs.declared.Act.TheVariants as acts
use Rattle.tb_node.specs.PlainNodes.{Leaf as PlainLeaf, plain, pen, act, on_line, clearpage_kinds}
use Rattle.tb_param.specs.declared.Params.{Params}
use Rattle.tb_param.specs.Release.{has_second}
use Rattle.tb_insert.specs.declared.Class.{Class}
use Rattle.tb_builder.specs.Contents.{node_count}
use Rattle.tb_builder.proofs.Ranges.PageableLemmas.{count-append}
use Rattle.tb_galley.specs.declared.Item.{Item}
use Rattle.tb_galley.specs.declared.ItemKind.{ItemKind}
use Rattle.tb_galley.specs.declared.ItemKind.TheVariants as items
use Rattle.tb_galley.specs.declared.Galley.{Galley}
use Rattle.tb_galley.specs.GalleyNodes.{plain_leaf, with_firings, item_kinds, item_nodes, two_after, params_after}
use Rattle.tb_galley.specs.Valid.{weight_of, weight, IsValid}
use Rattle.tb_items.specs.Classes.{classes_of}
use Rattle.tb_items.specs.WaitingNodes.{IsItem}
use Rattle.tb_items.specs.GalleyNodes.{IsGalleyNode, AreGalleyNodes}
use Rattle.tb_items.proofs.GalleyItems.{galley-items, most}
use Rattle.tb_items.proofs.GalleyNodeLemmas.{galley-nodes}
use Rattle.tb_items.proofs.ItemLemmas.{expanded-is}
use Rattle.tb_run.proofs.ServedAgain.GalleyRuns.{galley-classes}
use Rattle.tb_steps.proofs.RunParams.{params-runnable}
use Rattle.tb_plans.specs.declared.walk.Before.{Before}
use Rattle.tb_plans.specs.declared.walk.Before.TheVariants as befores
use Rattle.tb_plans.specs.Places.{is_later, is_glue_next, is_place, before_after, if_place, places_from, places_of}
use Rattle.tb_plans.specs.Plans.{IsPlan, is_part, break_before, broken, with_breaks}
use Rattle.tb_best.proofs.PlanMarks.{not-before}
use Rattle.tb_top.specs.BestText.{AreNumbersOf}
use Rattle.tb_top.specs.CanRun.{CanRun}

-- ---- all elements

all-left : {A : Type 0} (P : A → Type 0) (xs ys : List A) → All P (xs ++ ys) → All P xs
all-left P [] ys h = All-nil P
all-left P (x ∷ xs) ys h = All-cons P x xs (All-head P x (xs ++ ys) h) (all-left P xs ys (All-tail P x (xs ++ ys) h))

all-right : {A : Type 0} (P : A → Type 0) (xs ys : List A) → All P (xs ++ ys) → All P ys
all-right P [] ys h = h
all-right P (x ∷ xs) ys h = all-right P xs ys (All-tail P x (xs ++ ys) h)

both : (a b : Bool) → IsTrue a → IsTrue b → IsTrue (a && b)
both true b h k = k
both false b h k = cc

-- ---- the items

either-items : (P : Item → Type 0) (n : Item) (t : Bool) (with_it without : List Item) → P (break_before n) → P n → All P with_it → All P without → All P (if t then break_before n ∷ n ∷ with_it else n ∷ without)
either-items P n true with_it without b h x y = All-cons P (break_before n) (n ∷ with_it) b (All-cons P n with_it h x)
either-items P n false with_it without b h x y = All-cons P n without h y

items-broken : (P : Item → Type 0) → ((n : Item) → P (break_before n)) → (k : ℕ) (ns : List Item) (bs : List ℕ) → All P ns → All P (broken k ns bs)
items-broken P here k [] bs h = h
items-broken P here k (n ∷ ns) [] h = h
items-broken P here k (n ∷ ns) (b ∷ bs) h =
    let rest = All-tail P n ns h in
    either-items P n (b == k) (broken (suc k) ns bs) (broken (suc k) ns (b ∷ bs)) (here n) (All-head P n ns h) (items-broken P here (suc k) ns bs rest) (items-broken P here (suc k) ns (b ∷ bs) rest)

-- ---- the nodes

module _ (cs : List Class) where
  -- the node of a break
  break-node : (line : ℕ) → IsGalleyNode cs (record { line = line; kind = plain (pen (neg_ℤ (pos 10000))) })
  break-node line = record { sized = record { shape = record { low = omega (arith, ints); high = omega (arith, ints) }; kind = tt }; servable = omega (arith, ints) }

  either-nodes : (p : Params) (two : Bool) (n : Item) (t : Bool) (with_it without : List Item) → All (IsGalleyNode cs) (on_line n.line (item_kinds p two n.kind))
      → All (IsGalleyNode cs) (item_nodes (params_after p n.kind) (two_after two n.kind) with_it) → All (IsGalleyNode cs) (item_nodes (params_after p n.kind) (two_after two n.kind) without)
      → All (IsGalleyNode cs) (item_nodes p two (if t then break_before n ∷ n ∷ with_it else n ∷ without))
  either-nodes p two n true with_it without h x y =
      let own = on_line n.line (item_kinds p two n.kind) in
      let rest = item_nodes (params_after p n.kind) (two_after two n.kind) with_it in
      All-cons (IsGalleyNode cs) (record { line = n.line; kind = plain (pen (neg_ℤ (pos 10000))) }) (own ++ rest) (break-node n.line) (All-append (IsGalleyNode cs) own rest h x)
  either-nodes p two n false with_it without h x y =
      All-append (IsGalleyNode cs) (on_line n.line (item_kinds p two n.kind)) (item_nodes (params_after p n.kind) (two_after two n.kind) without) h y

  nodes-broken : (p : Params) (two : Bool) (k : ℕ) (ns : List Item) (bs : List ℕ) → All (IsGalleyNode cs) (item_nodes p two ns) → All (IsGalleyNode cs) (item_nodes p two (broken k ns bs))
  nodes-broken p two k [] bs h = h
  nodes-broken p two k (n ∷ ns) [] h = h
  nodes-broken p two k (n ∷ ns) (b ∷ bs) h =
      let q = params_after p n.kind in
      let after = two_after two n.kind in
      let own = on_line n.line (item_kinds p two n.kind) in
      let rest = all-right (IsGalleyNode cs) own (item_nodes q after ns) h in
      either-nodes p two n (b == k) (broken (suc k) ns bs) (broken (suc k) ns (b ∷ bs)) (all-left (IsGalleyNode cs) own (item_nodes q after ns) h) (nodes-broken q after (suc k) ns bs rest) (nodes-broken q after (suc k) ns (b ∷ bs) rest)

-- ---- how many nodes there are

no-place : (b : Before) → (is_later b && false) ≡ true → ⊥
no-place befores.Nothing h = cc
no-place b h = cc

module _ (p : Params) where
  float-few : (alone : Bool) (l : ℕ) (f : Float) (vert : Bool) → node_count (on_line l (if alone then act (acts.Take f) ∷ [] else with_firings (acts.Take f) vert)) ≤ 6
  float-few true l f vert = omega arith
  float-few false l f vert = omega arith

  -- six for each line of items at most
  item-few : (two : Bool) (l : ℕ) (k : ItemKind) → node_count (on_line l (item_kinds p two k)) ≤ 6 * weight_of k
  item-few two l (items.Foot class ls) = let e = length-map {B = PlainLeaf} ls plain_leaf in omega (arith, e)
  item-few two l (items.Float f vert) = let few = float-few (has_second p && two && f.wide) l f vert in omega (arith, few)
  item-few two l (items.Enlarge by true) = omega arith
  item-few two l (items.Enlarge by false) = omega arith
  item-few two l k = omega arith

  -- before an item with more than five for each line there is no place
  place-few : (next two : Bool) (b : Before) (l : ℕ) (k : ItemKind) → is_place next b k ≡ true → 1 + node_count (on_line l (item_kinds p two k)) ≤ 6 * weight_of k
  place-few next two b l (items.Foot class ls) h = let e = length-map {B = PlainLeaf} ls plain_leaf in omega (arith, e)
  place-few next two b l (items.Float f vert) h = absurd (no-place b h)
  place-few next two b l (items.Margin m vert) h = absurd (no-place b h)
  place-few next two b l items.NewPage h = absurd (no-place b h)
  place-few next two b l items.ClearPage h = absurd (no-place b h)
  place-few next two b l items.OneColumn h = absurd (no-place b h)
  place-few next two b l items.TwoColumn h = absurd (no-place b h)
  place-few next two b l (items.Suppress area) h = absurd (no-place b h)
  place-few next two b l (items.Page n) h = absurd (no-place b h)
  place-few next two b l (items.Head f) h = absurd (no-place b h)
  place-few next two b l (items.Enlarge by true) h = omega arith
  place-few next two b l (items.Enlarge by false) h = omega arith
  place-few next two b l k h = omega arith

items-few : (p : Params) (two : Bool) (ns : List Item) → node_count (item_nodes p two ns) ≤ 6 * weight ns
items-few p two [] = omega arith
items-few p two (n ∷ ns) =
    let q = params_after p n.kind in
    let after = two_after two n.kind in
    let one = item-few p two n.line n.kind in
    let more = items-few q after ns in
    let e = count-append (on_line n.line (item_kinds p two n.kind)) (item_nodes q after ns) in
    omega (arith, one, more, e)

-- ---- one item of a galley with breaks

-- the release, by which places are found, holds in the whole galley
module _ (p : Params) (two : Bool) (b : Before) (k : ℕ) (n : Item) (ns : List Item) where
  -- the places of the items after it
  abbrev rest : List ℕ
  rest = places_from p (two_after two n.kind) (before_after p two b n.kind) (suc k) ns

  -- the parameters that hold before it
  module _ (r : Params) where
    -- with these breaks the items after it have few nodes
    abbrev IsFew : List ℕ → Type 0
    IsFew es = IsTrue (is_part es rest) → node_count (item_nodes (params_after r n.kind) (two_after two n.kind) (broken (suc k) ns es)) ≤ 6 * weight ns

    few-by : (d : ℕ) (ds : List ℕ) (u t : Bool) → is_place (is_glue_next p two ns) b n.kind ≡ u → (d == k) ≡ t → IsFew ds → IsFew (d ∷ ds) → (IsTrue (is_part (d ∷ ds) rest) → suc k ≤ d)
        → IsTrue (is_part (d ∷ ds) (if_place k u ++ rest))
        → node_count (item_nodes r two (if t then break_before n ∷ n ∷ broken (suc k) ns ds else n ∷ broken (suc k) ns (d ∷ ds))) ≤ 6 * weight (n ∷ ns)
    few-by d ds true true e f with_it without later x =
        let own = on_line n.line (item_kinds r two n.kind) in
        let one = place-few r (is_glue_next p two ns) two b n.line n.kind e in
        let more = with_it (subst (λ t. IsTrue (if t then is_part ds rest else is_part (d ∷ ds) rest)) f x) in
        let sum = count-append own (item_nodes (params_after r n.kind) (two_after two n.kind) (broken (suc k) ns ds)) in
        omega (arith, one, more, sum)
    few-by d ds true false e f with_it without later x =
        let own = on_line n.line (item_kinds r two n.kind) in
        let one = item-few r two n.line n.kind in
        let more = without (subst (λ t. IsTrue (if t then is_part ds rest else is_part (d ∷ ds) rest)) f x) in
        let sum = count-append own (item_nodes (params_after r n.kind) (two_after two n.kind) (broken (suc k) ns (d ∷ ds))) in
        omega (arith, one, more, sum)
    few-by d ds false true e f with_it without later x = let above = later x in absurd (grind (arith, f, above))
    few-by d ds false false e f with_it without later x =
        let own = on_line n.line (item_kinds r two n.kind) in
        let one = item-few r two n.line n.kind in
        let more = without x in
        let sum = count-append own (item_nodes (params_after r n.kind) (two_after two n.kind) (broken (suc k) ns (d ∷ ds))) in
        omega (arith, one, more, sum)

  -- its numbers are below this
  within-by : (m d : ℕ) (ds : List ℕ) (u t : Bool) → (d == k) ≡ t → suc k ≤ m → (IsTrue (is_part ds rest) → IsTrue (list_all (λ j. nat_lt j m) ds)) → (IsTrue (is_part (d ∷ ds) rest) → IsTrue (list_all (λ j. nat_lt j m) (d ∷ ds)))
      → IsTrue (is_part (d ∷ ds) (if_place k u ++ rest)) → IsTrue (list_all (λ j. nat_lt j m) (d ∷ ds))
  within-by m d ds true true f below with_it without x =
      let here : IsTrue (nat_lt d m) = grind (arith, nat_tests, f, below) in
      both (nat_lt d m) (list_all (λ j. nat_lt j m) ds) here (with_it (subst (λ t. IsTrue (if t then is_part ds rest else is_part (d ∷ ds) rest)) f x))
  within-by m d ds true false f below with_it without x = without (subst (λ t. IsTrue (if t then is_part ds rest else is_part (d ∷ ds) rest)) f x)
  within-by m d ds false t f below with_it without x = without x

module _ (p : Params) where
  nodes-few : (r : Params) (two : Bool) (b : Before) (k : ℕ) (ns : List Item) (ds : List ℕ) → IsTrue (is_part ds (places_from p two b k ns)) → node_count (item_nodes r two (broken k ns ds)) ≤ 6 * weight ns
  nodes-few r two b k [] ds h = omega arith
  nodes-few r two b k (n ∷ ns) [] h = items-few r two (n ∷ ns)
  nodes-few r two b k (n ∷ ns) (d ∷ ds) h =
      let q = params_after r n.kind in
      let after = two_after two n.kind in
      let then_before = before_after p two b n.kind in
      few-by p two b k n ns r d ds (is_place (is_glue_next p two ns) b n.kind) (d == k) refl refl (λ x. nodes-few q after then_before (suc k) ns ds x) (λ x. nodes-few q after then_before (suc k) ns (d ∷ ds) x)
      (λ x. not-before p after then_before (suc k) ns d ds x) h

  numbers-within : (m : ℕ) (two : Bool) (b : Before) (k : ℕ) (ns : List Item) (ds : List ℕ) → k + length ns ≤ m → IsTrue (is_part ds (places_from p two b k ns)) → IsTrue (list_all (λ j. nat_lt j m) ds)
  numbers-within m two b k ns [] all h = refl
  numbers-within m two b k [] (d ∷ ds) all h = cc
  numbers-within m two b k (n ∷ ns) (d ∷ ds) all h =
      let after = two_after two n.kind in
      let then_before = before_after p two b n.kind in
      within-by p two b k n ns m d ds (is_place (is_glue_next p two ns) b n.kind) (d == k) refl (omega (arith, all))
      (λ x. numbers-within m after then_before (suc k) ns ds (omega (arith, all)) x) (λ x. numbers-within m after then_before (suc k) ns (d ∷ ds) (omega (arith, all)) x) h

-- ---- a galley

-- the numbers of a plan are those of items
pub plan-numbers : (g : Galley) (plan : List ℕ) → IsPlan g plan → AreNumbersOf g.items plan
unfolding places_of
plan-numbers g plan h = numbers-within g.params (length g.items) false befores.Nothing 0 g.items plan (omega arith) h

places-few : (g : Galley) (plan : List ℕ) → IsPlan g plan → node_count (item_nodes g.params false (broken 0 g.items plan)) ≤ 6 * weight g.items
unfolding places_of
places-few g plan h = nodes-few g.params g.params false befores.Nothing 0 g.items plan h

-- with the breaks of a plan it can be run
pub broken-runs : (g : Galley) (plan : List ℕ) → IsValid g → IsPlan g plan → CanRun (with_breaks g plan)
broken-runs g plan v h =
    let p = g.params in
    let cs = classes_of g in
    let runnable = params-runnable p v.params in
    let end = on_line g.end_line clearpage_kinds in
    let own = galley-nodes g runnable.foot v in
    let all = subst (All (IsGalleyNode cs)) (sym (expanded-is g)) own.nodes in
    let few = places-few g plan h in
    let w = most (weight g.items) v.count in
    let e = count-append (item_nodes p false (broken 0 g.items plan)) end in
    record {
      params = v.params;
      classes = galley-classes g runnable v;
      items = items-broken (λ (n : Item). IsItem cs n.kind) (λ n. tt) 0 g.items plan (galley-items g v);
      nodes = subst (AreGalleyNodes cs) (expanded-is (with_breaks g plan)) (record {
        nodes = All-append (IsGalleyNode cs) (item_nodes p false (broken 0 g.items plan)) end (nodes-broken cs p false 0 g.items plan (all-left (IsGalleyNode cs) (item_nodes p false g.items) end all)) (all-right (IsGalleyNode cs) (item_nodes p false g.items) end all);
        few = omega (arith, few, w, e);
      });
    }
