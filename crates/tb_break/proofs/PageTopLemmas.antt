-- Pruning in place, node by node.
use Rattle.std.proofs.Common.{◌≡◌, refl, sym, subst, ◌∙◌, ap, ℕ, suc, ◌+◌, ◌<◌, ◌≤◌, ℤ, true, false, List, [], ◌∷◌, ◌++◌, length, map, Option, None, Some, append_assoc, length-append, arith}
use Rattle.std.proofs.lemmas.List.{append-nil, same_from_push, nil_from_length}
use Rattle.std.specs.Prelude.{not}
use Rattle.tb_scaled.specs.declared.Glue.{Glue}
use Rattle.tb_pool.specs.Lists.{Lists, list_at, with_list}
use Rattle.tb_pool.specs.declared.ListId.{ListId}
use Rattle.tb_node.specs.declared.Node.{Node}
use Rattle.tb_node.specs.declared.Kind.{Kind}
use Rattle.tb_node.specs.declared.Kind.TheVariants as kinds
use Rattle.tb_node.specs.Shape.{Shape, box, other, is_discardable, is_box}
use Rattle.tb_node.specs.PlainNodes.{leaf_shape, shape_of, leaf_of, plain_kind, matter_of, matter_shape, kind_shape, shape_of_kind, skip}
use Rattle.tb_node.specs.SmallAmounts.{IsSmallShape}
use Rattle.tb_break.specs.SplitPlace.{NodesFit}
use Rattle.tb_break.specs.PageTop.{pruned_at, pruned_by, pruned_list, pruned_leaves, glue_before, top_glue}
use Rattle.tb_break.specs.PageTopTurns.{kept_at, before_box, boxed_at, from_box, turned_at, turned, moved_at, moved, top_at, with_front, topped}
use Rattle.tb_pool.proofs.CallerLemmas.{list_same, with_list-twice}

-- ---- the definition under a map of the nodes

module _ {N M : Type 0} (f : N → M) (shape : N → Shape) (shape' : M → Shape) (new : N → Glue → N) (new' : M → Glue → M) where
  pruned_at-map : (t : ℤ) (s : Shape) (n : N) (ns pruned : List N) → ((g : Glue) → f (new n g) ≡ new' (f n) g) → map f (pruned_at new t s n ns pruned) ≡ pruned_at new' t s (f n) (map f ns) (map f pruned)
  pruned_at-map t (box h d) n ns pruned e = ap (λ m. m ∷ f n ∷ map f ns) (e (top_glue t h))
  pruned_at-map t s n ns pruned e = refl

  pub pruned_by-map : (t : ℤ) → ((n : N) → shape' (f n) ≡ shape n) → ((n : N) (g : Glue) → f (new n g) ≡ new' (f n) g) → (ns : List N) → map f (pruned_by shape new t ns) ≡ pruned_by shape' new' t (map f ns)
  pruned_by-map t same made [] = refl
  pruned_by-map t same made (n ∷ ns) =
      pruned_at-map t (shape n) n ns (pruned_by shape new t ns) (made n)
      ∙ ap (λ s. pruned_at new' t s (f n) (map f ns) (map f (pruned_by shape new t ns))) (sym (same n))
      ∙ ap (λ ms. pruned_at new' t (shape' (f n)) (f n) (map f ns) ms) (pruned_by-map t same made ns)

plain_shape : (held : ListId → List Node) (k : Kind) → kind_shape (plain_kind held k) ≡ shape_of_kind k
plain_shape held (kinds.Hbox what h d) = refl
plain_shape held k = refl

matter_shape-of : (k : Kind) → matter_shape (matter_of k) ≡ shape_of_kind k
matter_shape-of (kinds.Hbox what h d) = refl
matter_shape-of k = refl

-- a pruned list of a store, in leaves
pub leaf-pruned_list : (t : ℤ) (ns : List Node) → map leaf_of (pruned_list t ns) ≡ pruned_leaves t (map leaf_of ns)
leaf-pruned_list t ns = pruned_by-map leaf_of shape_of leaf_shape glue_before (λ n g. record { line = n.line; matter = skip g }) t (λ n. matter_shape-of n.kind) (λ n g. refl) ns

-- ---- the parts of a pruned list

pruned_at-parts : (t : ℤ) (s : Shape) (n : Node) (ns : List Node) → shape_of n ≡ s → before_box ns ++ topped t (from_box ns) ≡ pruned_list t ns
    → kept_at s n (before_box ns) ++ topped t (boxed_at s (n ∷ ns) (from_box ns)) ≡ pruned_at glue_before t s n ns (pruned_list t ns)
pruned_at-parts t (box h d) n ns e later = ap (λ s. with_front (top_at t s n) (n ∷ ns)) e
pruned_at-parts t other n ns e later = ap (λ ms. n ∷ ms) later
pruned_at-parts t s n ns e later = later

-- first what does not vanish before the first box, then the list from there on with its top glue
pub pruned_list-parts : (t : ℤ) (ns : List Node) → before_box ns ++ topped t (from_box ns) ≡ pruned_list t ns
pruned_list-parts t [] = refl
pruned_list-parts t (n ∷ ns) = pruned_at-parts t (shape_of n) n ns refl (pruned_list-parts t ns)

parts_at-length : (s : Shape) (n : Node) (ns : List Node) → length (before_box ns) + length (from_box ns) ≤ length ns → length (kept_at s n (before_box ns)) + length (boxed_at s (n ∷ ns) (from_box ns)) ≤ suc (length ns)
parts_at-length (box h d) n ns e = omega arith
parts_at-length s n ns e = omega arith

-- the two parts are no longer than the list
pub parts-length : (ns : List Node) → length (before_box ns) + length (from_box ns) ≤ length ns
parts-length [] = omega arith
parts-length (n ∷ ns) = parts_at-length (shape_of n) n ns (parts-length ns)

with_front-length : (o : Option Node) (ns : List Node) → length (with_front o ns) ≤ length ns + 1
with_front-length None ns = omega arith
with_front-length (Some n) ns = omega arith

topped-length : (t : ℤ) (ns : List Node) → length (topped t ns) ≤ length ns + 1
topped-length t [] = omega arith
topped-length t (n ∷ ns) = with_front-length (top_at t (shape_of n) n) (n ∷ ns)

-- no top glue comes before a node that is no box or rule
pub untopped : (t : ℤ) (s : Shape) (n : Node) → is_box s ≡ false → top_at t s n ≡ None
untopped t (box h d) n e = cc
untopped t s n e = refl

-- a pruned list has at most one more node
pub length-pruned_list : (t : ℤ) (ns : List Node) → length (pruned_list t ns) ≤ length ns + 1
length-pruned_list t ns =
    let whole : length (pruned_list t ns) ≡ length (before_box ns) + length (topped t (from_box ns)) = ap length (sym (pruned_list-parts t ns)) ∙ length-append (before_box ns) (topped t (from_box ns)) in
    omega (arith, whole, topped-length t (from_box ns), parts-length ns)

-- ---- one node

-- what a node before the first box does to the list: this goes to its end
pub record Steps (s : Shape) (n : Node) (k : ℕ) : Type 0 where
  pub more : List Node
  pub count : length more ≡ k
  pub few : length more ≤ 1
  pub turned_is : (ns : List Node) → turned_at s n ns ≡ ns ++ more
  pub kept_is : (later : List Node) → kept_at s n later ≡ more ++ later
  pub boxed_is : (ns later : List Node) → boxed_at s ns later ≡ later

vanishes : (s : Shape) (n : Node) (k : ℕ) → Some 0 ≡ Some k → ((ns : List Node) → turned_at s n ns ≡ ns) → ((later : List Node) → kept_at s n later ≡ later) → ((ns later : List Node) → boxed_at s ns later ≡ later) → Steps s n k
vanishes s n k e t a b = record { more = []; count = cc; few = omega arith; turned_is = λ ns. t ns ∙ sym (append-nil ns); kept_is = a; boxed_is = b }

pub steps : (s : Shape) (n : Node) (k : ℕ) → moved_at s ≡ Some k → Steps s n k
steps (box h d) n k e = cc
steps other n k e = record { more = n ∷ []; count = cc; few = omega arith; turned_is = λ ns. refl; kept_is = λ later. refl; boxed_is = λ ns later. refl }
steps s n k e = vanishes s n k e (λ ns. refl) (λ later. refl) (λ ns later. refl)

-- a node that is no box vanishes if it does not last, else it goes to the end
pub vanishing : (s : Shape) (n : Node) (ns : List Node) → is_box s ≡ false → not (is_discardable s) ≡ false → turned_at s n ns ≡ ns
vanishing (box h d) n ns b e = cc
vanishing other n ns b e = cc
vanishing s n ns b e = refl

pub boxed_turn : (s : Shape) (n : Node) (ns : List Node) → is_box s ≡ true → turned_at s n ns ≡ n ∷ ns
boxed_turn (box h d) n ns e = refl
boxed_turn s n ns e = cc

-- the list after this many nodes were looked at: these are left, and these went to the end
pub record Turning (old now : Lists Node) (l : ℕ) (turn all count : ℕ) : Type 0 where
  pub rest : List Node
  pub aside : List Node
  pub lists : now.lists ≡ with_list old l (rest ++ aside)
  pub before : before_box (list_at old l) ≡ aside ++ before_box rest
  pub onward : from_box (list_at old l) ≡ from_box rest
  pub count_is : count ≡ length aside
  pub left_is : length rest + turn ≡ all
  pub few : length aside ≤ turn
  pub places : now.spare + length (list_at now l) ≡ old.spare + length (list_at old l)

pub begins : (old now : Lists Node) (l all : ℕ) → now ≡ old → old.lists ≡ with_list old l (list_at old l) → length (list_at old l) ≡ all → Turning old now l 0 all 0
begins old now l all e same len = record {
  rest = list_at old l;
  aside = [];
  lists = ap (λ (s : Lists Node). s.lists) e ∙ same ∙ ap (with_list old l) (sym (append-nil (list_at old l)));
  before = refl;
  onward = refl;
  count_is = refl;
  left_is = omega arith;
  few = omega arith;
  places = ap (λ (s : Lists Node). s.spare + length (list_at s l)) e;
}

module _ (old now new : Lists Node) (l turn all count : ℕ) where
  -- one more node was looked at, and was no box
  pub turns : (k : ℕ) → turn < all → Turning old now l turn all count → new.lists ≡ with_list now l (turned (list_at now l)) → moved (list_at now l) ≡ Some k
      → new.spare + length (list_at new l) ≡ now.spare + length (list_at now l) → Turning old new l (turn + 1) all (count + k)
  turns k lt g e m p = by_rest g.rest refl
    where
      at : list_at now l ≡ g.rest ++ g.aside
      at = list_same old now l (g.rest ++ g.aside) g.lists

      by_rest : (rest : List Node) → g.rest ≡ rest → Turning old new l (turn + 1) all (count + k)
      by_rest [] r = absurd (omega (arith, g.left_is, ap length r))
      by_rest (n ∷ rest) r =
          let is : list_at now l ≡ n ∷ (rest ++ g.aside) = at ∙ ap (λ ns. ns ++ g.aside) r in
          let s = steps (shape_of n) n k (ap moved (sym is) ∙ m) in
          record {
            rest = rest;
            aside = g.aside ++ s.more;
            lists = with_list-twice old now new l (g.rest ++ g.aside) (turned (list_at now l)) g.lists e ∙ ap (λ ns. with_list old l (turned ns)) is ∙ ap (with_list old l) (s.turned_is (rest ++ g.aside) ∙ append_assoc rest g.aside s.more);
            before = g.before ∙ ap (λ ns. g.aside ++ before_box ns) r ∙ ap (λ ns. g.aside ++ ns) (s.kept_is (before_box rest)) ∙ sym (append_assoc g.aside s.more (before_box rest));
            onward = g.onward ∙ ap from_box r ∙ s.boxed_is (n ∷ rest) (from_box rest);
            count_is = omega (arith, g.count_is, s.count, length-append g.aside s.more);
            left_is = omega (arith, g.left_is, ap length r);
            few = omega (arith, g.few, s.few, length-append g.aside s.more);
            places = p ∙ g.places;
          }

  -- the list when a box is met
  pub record Stopped : Type 0 where
    pub lists : new.lists ≡ with_list old l (from_box (list_at old l) ++ before_box (list_at old l))
    pub count_is : count ≡ length (before_box (list_at old l))

  boxed : (s : Shape) (n : Node) → moved_at s ≡ None → (ns later : List Node) → (turned_at s n ns ≡ n ∷ ns) × (kept_at s n later ≡ []) × (boxed_at s ns later ≡ ns)
  boxed (box h d) n e ns later = (refl, refl, refl)
  boxed s n e ns later = cc

  pub stops : turn < all → Turning old now l turn all count → new.lists ≡ with_list now l (turned (list_at now l)) → moved (list_at now l) ≡ None → Stopped
  stops lt g e m = by_rest g.rest refl
    where
      at : list_at now l ≡ g.rest ++ g.aside
      at = list_same old now l (g.rest ++ g.aside) g.lists

      by_rest : (rest : List Node) → g.rest ≡ rest → Stopped
      by_rest [] r = absurd (omega (arith, g.left_is, ap length r))
      by_rest (n ∷ rest) r =
          let is : list_at now l ≡ n ∷ (rest ++ g.aside) = at ∙ ap (λ ns. ns ++ g.aside) r in
          let none = ap moved (sym is) ∙ m in
          let whole = boxed (shape_of n) n none (rest ++ g.aside) (before_box rest) in
          let here = boxed (shape_of n) n none (n ∷ rest) (from_box rest) in
          let kept : before_box (list_at old l) ≡ g.aside = g.before ∙ ap (λ ns. g.aside ++ before_box ns) r ∙ ap (λ ns. g.aside ++ ns) whole.1 ∙ append-nil g.aside in
          let onward : from_box (list_at old l) ≡ n ∷ rest = g.onward ∙ ap from_box r ∙ here.2 in
          record {
            lists = with_list-twice old now new l (g.rest ++ g.aside) (turned (list_at now l)) g.lists e ∙ ap (λ ns. with_list old l (turned ns)) is ∙ ap (with_list old l) (whole.0 ∙ sym (λ i. onward i ++ kept i));
            count_is = g.count_is ∙ ap length (sym kept);
          }

-- no box was met
pub ends : (old now : Lists Node) (l turn all count : ℕ) → all ≤ turn → Turning old now l turn all count → Stopped old now now l turn all count
ends old now l turn all count le g =
    let none : g.rest ≡ [] = nil_from_length g.rest (omega (arith, g.left_is)) in
    let kept : before_box (list_at old l) ≡ g.aside = g.before ∙ ap (λ ns. g.aside ++ before_box ns) none ∙ append-nil g.aside in
    let onward : from_box (list_at old l) ≡ [] = g.onward ∙ ap from_box none in
    record {
      lists = g.lists ∙ ap (with_list old l) (ap (λ ns. ns ++ g.aside) none ∙ sym (λ i. onward i ++ kept i));
      count_is = g.count_is ∙ ap length (sym kept);
    }

-- ---- the nodes at the end come back to the front

last_apart : {X : Type 0} (xs : List X) → 0 < length xs → (front : List X) × (v : X) × (xs ≡ front ++ v ∷ [])
last_apart [] h = absurd (omega arith)
last_apart (x ∷ []) h = ([], x, refl)
last_apart (x ∷ y ∷ ys) h = let r = last_apart (y ∷ ys) (omega arith) in (x ∷ r.0, r.1, ap (λ zs. x ∷ zs) r.2)

pub record Returned (old now : Lists Node) (l : ℕ) (front aside : List Node) (turn : ℕ) : Type 0 where
  pub left : List Node
  pub back : List Node
  pub whole : aside ≡ left ++ back
  pub back_is : length back ≡ turn
  pub lists : now.lists ≡ with_list old l (back ++ (front ++ left))

pub starts_back : (old now : Lists Node) (l : ℕ) → now ≡ old → old.lists ≡ with_list old l (list_at old l) → (front aside : List Node) → list_at old l ≡ front ++ aside → Returned old now l front aside 0
starts_back old now l e same front aside is = record {
  left = aside;
  back = [];
  whole = sym (append-nil aside);
  back_is = refl;
  lists = ap (λ (s : Lists Node). s.lists) e ∙ same ∙ ap (with_list old l) is;
}

-- one more node was brought back
pub comes_back : (old now mid new : Lists Node) (l : ℕ) (front aside : List Node) (turn : ℕ) (n : Node) (init : List Node) → turn < length aside → Returned old now l front aside turn
    → list_at now l ≡ init ++ n ∷ [] → mid.lists ≡ with_list now l init → new.lists ≡ with_list mid l (n ∷ list_at mid l) → Returned old new l front aside (turn + 1)
comes_back old now mid new l front aside turn n init lt g last popped pushed =
    let apart = last_apart g.left (omega (arith, ap length g.whole, length-append g.left g.back, g.back_is)) in
    let all : init ++ n ∷ [] ≡ (g.back ++ (front ++ apart.0)) ++ apart.1 ∷ [] =
    sym last ∙ list_same old now l (g.back ++ (front ++ g.left)) g.lists ∙ ap (λ ns. g.back ++ (front ++ ns)) apart.2
    ∙ ap (λ ns. g.back ++ ns) (sym (append_assoc front apart.0 (apart.1 ∷ []))) ∙ sym (append_assoc g.back (front ++ apart.0) (apart.1 ∷ [])) in
    let same = same_from_push init (g.back ++ (front ++ apart.0)) n apart.1 all in
    record {
      left = apart.0;
      back = n ∷ g.back;
      whole = g.whole ∙ ap (λ ns. ns ++ g.back) apart.2 ∙ append_assoc apart.0 (apart.1 ∷ []) g.back ∙ ap (λ v. apart.0 ++ v ∷ g.back) (sym same.1);
      back_is = omega (arith, g.back_is);
      lists = with_list-twice old mid new l init (n ∷ list_at mid l) (with_list-twice old now mid l (g.back ++ (front ++ g.left)) init g.lists popped) pushed
          ∙ ap (λ ns. with_list old l (n ∷ ns)) (list_same now mid l init popped ∙ same.0);
    }

pub all_back : (old now : Lists Node) (l : ℕ) (front aside : List Node) (turn : ℕ) → length aside ≤ turn → Returned old now l front aside turn → now.lists ≡ with_list old l (aside ++ front)
all_back old now l front aside turn le g =
    let none : g.left ≡ [] = nil_from_length g.left (omega (arith, ap length g.whole, length-append g.left g.back, g.back_is)) in
    g.lists ∙ ap (with_list old l) (ap (λ ns. g.back ++ (front ++ ns)) none ∙ ap (λ ns. g.back ++ ns) (append-nil front) ∙ ap (λ ns. ns ++ front) (sym (g.whole ∙ ap (λ ns. ns ++ g.back) none)))

-- until all are back, the list is not empty
pub some_left : (old now : Lists Node) (l : ℕ) (front aside : List Node) (turn : ℕ) → turn < length aside → Returned old now l front aside turn → list_at now l ≡ [] → ⊥
some_left old now l front aside turn lt g none =
    let is : [] ≡ g.back ++ (front ++ g.left) = sym none ∙ list_same old now l (g.back ++ (front ++ g.left)) g.lists in
    omega (arith, ap length is, ap length g.whole, length-append g.left g.back, length-append g.back (front ++ g.left), length-append front g.left, g.back_is)

-- ---- the whole

-- no node that is kept is a box or rule
kept-untopped : (t : ℤ) (s : Shape) (n : Node) (ns : List Node) → shape_of n ≡ s → topped t (before_box ns) ≡ before_box ns → topped t (kept_at s n (before_box ns)) ≡ kept_at s n (before_box ns)
kept-untopped t (box h d) n ns e later = refl
kept-untopped t other n ns e later = ap (λ s. with_front (top_at t s n) (n ∷ before_box ns)) e
kept-untopped t s n ns e later = later

before-untopped : (t : ℤ) (ns : List Node) → topped t (before_box ns) ≡ before_box ns
before-untopped t [] = refl
before-untopped t (n ∷ ns) = kept-untopped t (shape_of n) n ns refl (before-untopped t ns)

front-append : (o : Option Node) (xs ys : List Node) → with_front o (xs ++ ys) ≡ with_front o xs ++ ys
front-append None xs ys = refl
front-append (Some n) xs ys = refl

topped-parts : (t : ℤ) (ns : List Node) (boxes : List Node) → topped t (boxes ++ before_box ns) ≡ topped t boxes ++ before_box ns
topped-parts t ns [] = before-untopped t ns
topped-parts t ns (m ∷ ms) = front-append (top_at t (shape_of m) m) (m ∷ ms) (before_box ns)

Each : List Node → Type 0
Each ns = (before : List Shape) (n : Shape) (rest : List Shape) → before ++ n ∷ rest ≡ map shape_of ns → IsSmallShape n

fits_later : (m : Node) (ms : List Node) → Each (m ∷ ms) → Each ms
unfolding Each
fits_later m ms fit before n rest e = fit (shape_of m ∷ before) n rest (ap (λ ns. shape_of m ∷ ns) e)

fits_first : (m : Node) (ms : List Node) → Each (m ∷ ms) → (n : Node) → m ≡ n → IsSmallShape (shape_of n)
unfolding Each
fits_first m ms fit n e = subst (λ (x : Node). IsSmallShape (shape_of x)) e (fit [] (shape_of m) (map shape_of ms) refl)

first_is : (m n : Node) (ms ns : List Node) → m ∷ ms ≡ n ∷ ns → m ≡ n
first_is m n ms ns e = cc

box_at-fits : (s : Shape) (m : Node) (ms : List Node) (n : Node) (ns : List Node) → Each (m ∷ ms) → (from_box ms ≡ n ∷ ns → IsSmallShape (shape_of n)) → boxed_at s (m ∷ ms) (from_box ms) ≡ n ∷ ns → IsSmallShape (shape_of n)
box_at-fits (box h d) m ms n ns fit later e = fits_first m ms fit n (first_is m n ms ns e)
box_at-fits s m ms n ns fit later e = later e

box_fits : (ms : List Node) (n : Node) (ns : List Node) → Each ms → from_box ms ≡ n ∷ ns → IsSmallShape (shape_of n)
box_fits [] n ns fit e = cc
box_fits (m ∷ ms) n ns fit e = box_at-fits (shape_of m) m ms n ns fit (box_fits ms n ns (fits_later m ms fit)) e

kept_at-fits : (s : Shape) (m : Node) (ms : List Node) (n : Node) (ns : List Node) → Each (m ∷ ms) → (before_box ms ≡ n ∷ ns → IsSmallShape (shape_of n)) → kept_at s m (before_box ms) ≡ n ∷ ns → IsSmallShape (shape_of n)
kept_at-fits (box h d) m ms n ns fit later e = cc
kept_at-fits other m ms n ns fit later e = fits_first m ms fit n (first_is m n (before_box ms) ns e)
kept_at-fits s m ms n ns fit later e = later e

kept_fits : (ms : List Node) (n : Node) (ns : List Node) → Each ms → before_box ms ≡ n ∷ ns → IsSmallShape (shape_of n)
kept_fits [] n ns fit e = cc
kept_fits (m ∷ ms) n ns fit e = kept_at-fits (shape_of m) m ms n ns fit (kept_fits ms n ns (fits_later m ms fit)) e

-- the first node, after all that vanishes was taken off
pub first_fits : (ms : List Node) → NodesFit (map shape_of ms) → (n : Node) (ns : List Node) → from_box ms ++ before_box ms ≡ n ∷ ns → IsSmallShape (shape_of n)
unfolding Each
first_fits ms fit n ns e = by_boxes (from_box ms) refl
  where
    by_boxes : (boxes : List Node) → from_box ms ≡ boxes → IsSmallShape (shape_of n)
    by_boxes [] is = kept_fits ms n ns fit (ap (λ xs. xs ++ before_box ms) (sym is) ∙ e)
    by_boxes (x ∷ xs) is = box_fits ms n xs fit (is ∙ ap (λ y. y ∷ xs) (first_is x n (xs ++ before_box ms) ns (ap (λ zs. zs ++ before_box ms) (sym is) ∙ e)))

module _ (a b c d : Lists Node) (l : ℕ) (t : ℤ) (count : ℕ) where
  -- after the three steps of pruning
  pub record Pruned : Type 0 where
    pub lists : d.lists ≡ with_list a l (pruned_list t (list_at a l))
    pub places : d.spare + length (list_at d l) ≡ a.spare + length (list_at a l)
    pub spare : a.spare ≤ d.spare + 1

  pub prunes : b.lists ≡ with_list a l (from_box (list_at a l) ++ before_box (list_at a l)) → count ≡ length (before_box (list_at a l))
      → b.spare + length (list_at b l) ≡ a.spare + length (list_at a l)
      → c.lists ≡ with_list b l (topped t (list_at b l)) → c.spare + length (list_at c l) ≡ b.spare + length (list_at b l)
      → ((front aside : List Node) → list_at c l ≡ front ++ aside → length aside ≡ count → d.lists ≡ with_list c l (aside ++ front)) → d.spare ≡ c.spare → Pruned
  prunes e count_is p f q h s =
      let kept = before_box (list_at a l) in
      let boxes = from_box (list_at a l) in
      let at_b : list_at b l ≡ boxes ++ kept = list_same a b l (boxes ++ kept) e in
      let at_c : list_at c l ≡ topped t boxes ++ kept = list_same b c l (topped t (list_at b l)) f ∙ ap (topped t) at_b ∙ topped-parts t (list_at a l) boxes in
      let from_c : d.lists ≡ with_list c l (kept ++ topped t boxes) = h (topped t boxes) kept at_c (sym count_is) in
      let from_a : d.lists ≡ with_list a l (kept ++ topped t boxes) = with_list-twice a b d l (boxes ++ kept) (kept ++ topped t boxes) e (with_list-twice b c d l (topped t (list_at b l)) (kept ++ topped t boxes) f from_c) in
      let at_d : list_at d l ≡ kept ++ topped t boxes = list_same a d l (kept ++ topped t boxes) from_a in
      let places : d.spare + length (list_at d l) ≡ a.spare + length (list_at a l) =
      omega (arith, s, p, q, ap length at_d, ap length at_c, length-append (topped t boxes) kept, length-append kept (topped t boxes)) in
      record {
        lists = from_a ∙ ap (with_list a l) (pruned_list-parts t (list_at a l));
        places = places;
        spare = omega (arith, places, ap length at_d, ap length (pruned_list-parts t (list_at a l)), length-pruned_list t (list_at a l));
      }
