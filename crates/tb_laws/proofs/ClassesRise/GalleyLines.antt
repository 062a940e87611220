-- The floats of a valid galley: their lines rise, each of one class, and a run begins with them in order.
use Rattle.std.proofs.Common.{◌≡◌, refl, sym, ◌∙◌, ap, subst, ℕ, ◌<◌, ◌≤◌, ◌==◌, ◌&&◌, inl, inr, Bool, true, false, List, [], ◌∷◌, ◌++◌, map, None, append_assoc, append-nil, arith}
use Rattle.std.specs.Prelude.{ℤ, IsTrue, if◌then◌else◌, not, ◌||◌}
use Rattle.std.specs.List.{AllByRecursion, list_all}
use Rattle.std.proofs.lemmas.Bool.{eqb-true, and_parts, true≢false}
use Rattle.tb_break.proofs.EachLemmas.{all-front, all-back, all-join, all-map, all-of}
use Rattle.tb_node.specs.declared.Float.{Float}
use Rattle.tb_node.specs.declared.Act.{Act}
use Rattle.tb_node.specs.declared.Act.TheVariants as acts
use Rattle.tb_node.specs.PlainNodes.{act, PlainNode, on_line, clearpage_kinds}
use Rattle.tb_param.specs.declared.Params.{Params}
use Rattle.tb_param.specs.Release.{has_second}
use Rattle.tb_galley.specs.declared.Leaf.{Leaf}
use Rattle.tb_galley.specs.declared.LeafKind.{LeafKind}
use Rattle.tb_galley.specs.declared.LeafKind.TheVariants as leaves
use Rattle.tb_galley.specs.declared.Item.{Item}
use Rattle.tb_galley.specs.declared.ItemKind.{ItemKind}
use Rattle.tb_galley.specs.declared.ItemKind.TheVariants as items
use Rattle.tb_galley.specs.declared.Galley.{Galley}
use Rattle.tb_galley.specs.GalleyNodes.{plain_leaf, with_firings, enlarge_list, two_after, params_after, item_kinds, item_nodes, expanded}
use Rattle.tb_galley.specs.Valid.{is_item, leaf_lines, lines_of_item, named_lines, rise_from, IsValid, is_head, is_top_alone, is_size, Behind, behind_nothing, behind_after, may_head, may_come, do_items_stand}
use Rattle.tb_float.specs.Lists.{no_floats}
use Rattle.tb_output.specs.State.{first_state, void_boxes}
use Rattle.tb_insert.specs.declared.Class.{Class}
use Rattle.tb_items.specs.Classes.{classes_of}
use Rattle.tb_laws.proofs.ClassesRise.RisingLists.{all-among, all-at, IsAmong, among-back, MayPrecede, Rises}
use Rattle.tb_laws.proofs.ClassesRise.ClassLines.{FloatKind, Side, alike, narrow, wider, PartedBy, is_of, line_if, class_lines, float_lines, lines-append, floats-append, AreFloatless}
use Rattle.tb_laws.proofs.ClassesRise.RecordLines.{IsCarried}
use Rattle.tb_laws.proofs.ClassesRise.FloatlessFeet.{HoldsFloatless, HoldFloatless, BoxesFloatless}
use Rattle.tb_laws.proofs.ClassesRise.PageLines.{deeds, deeds-append, take_lines, takes-append, early-none}
use Rattle.tb_laws.proofs.ClassesRise.ClassOrder.{kind-class, AreInText}
use Rattle.tb_laws.proofs.ClassesRise.OutOrder.{IsOnSide, Suits, InOrder}
use Rattle.tb_laws.specs.Laws.{float_of, as_taken, taken_floats, galley_floats}
use Rattle.tb_laws.proofs.ClassesRise.NamedLines.{rise-first, rise-behind}
use Rattle.tb_node.specs.Names.{is_name}

-- ---- the nodes of a galley

-- items have no float's box, and take their floats
item-lines : (k : FloatKind) (p : Params) (two : Bool) (n : ℕ) (d : ItemKind) → class_lines k (on_line n (item_kinds p two d)) ≡ []
item-lines k p two n (items.Float f vert) = by_taking (has_second p && two && f.wide)
  where
    by_taking : (t : Bool) → class_lines k (on_line n (if t then act (acts.Take f) ∷ [] else with_firings (acts.Take f) vert)) ≡ []
    by_taking true = refl
    by_taking false = refl
item-lines k p two n d = refl

item-takes : (k : FloatKind) (p : Params) (two : Bool) (n : ℕ) (d : ItemKind) → take_lines k (on_line n (item_kinds p two d)) ≡ float_lines k (float_of d)
item-takes k p two n (items.Float f vert) = by_taking (has_second p && two && f.wide)
  where
    by_taking : (t : Bool) → take_lines k (on_line n (if t then act (acts.Take f) ∷ [] else with_firings (acts.Take f) vert)) ≡ line_if (is_of k f.class f.line) f.line ++ []
    by_taking true = refl
    by_taking false = refl
item-takes k p two n d = refl

leaf-floatless : (k : FloatKind) (l : ℕ) (d : LeafKind) (ls : List Leaf) → AreFloatless k (map plain_leaf ls) → AreFloatless k (map plain_leaf (record { line = l; kind = d } ∷ ls))
leaf-floatless k l (leaves.Hbox name h d) ls f = (refl, f)
leaf-floatless k l d ls f = (refl, f)

leaves-floatless : (k : FloatKind) (ls : List Leaf) → AreFloatless k (map plain_leaf ls)
leaves-floatless k [] = tt
leaves-floatless k (l ∷ ls) = leaf-floatless k l.line l.kind ls (leaves-floatless k ls)

enlarge-floatless : (k : FloatKind) (by : ℤ) (star : Bool) → AreFloatless k (enlarge_list by star)
enlarge-floatless k by true = (refl, (refl, tt))
enlarge-floatless k by false = (refl, tt)

item-feet : (k : FloatKind) (p : Params) (two : Bool) (n : ℕ) (d : ItemKind) → HoldFloatless k (on_line n (item_kinds p two d))
item-feet k p two n (items.Foot class ls) = (leaves-floatless k ls, tt)
item-feet k p two n (items.Enlarge by star) = (enlarge-floatless k by star, tt)
item-feet k p two n (items.Float f vert) = by_taking (has_second p && two && f.wide)
  where
    by_taking : (t : Bool) → HoldFloatless k (on_line n (if t then act (acts.Take f) ∷ [] else with_firings (acts.Take f) vert))
    by_taking true = (tt, tt)
    by_taking false = (tt, (tt, (tt, (tt, tt))))
item-feet k p two n (items.Margin m vert) = (tt, (tt, (tt, (tt, tt))))
item-feet k p two n items.NewPage = (tt, (tt, tt))
item-feet k p two n items.ClearPage = (tt, (tt, (tt, (tt, (tt, tt)))))
item-feet k p two n items.OneColumn = (tt, (tt, (tt, (tt, (tt, (tt, tt))))))
item-feet k p two n items.TwoColumn = (tt, (tt, (tt, (tt, (tt, (tt, tt))))))
item-feet k p two n d = (tt, tt)

items-lines : (k : FloatKind) (p : Params) (two : Bool) (ns : List Item) → class_lines k (item_nodes p two ns) ≡ []
items-lines k p two [] = refl
items-lines k p two (n ∷ ns) =
    let after = item_nodes (params_after p n.kind) (two_after two n.kind) ns in
    lines-append k (on_line n.line (item_kinds p two n.kind)) after ∙ ap (λ l. l ++ class_lines k after) (item-lines k p two n.line n.kind) ∙ items-lines k (params_after p n.kind) (two_after two n.kind) ns

items-takes : (k : FloatKind) (p : Params) (two : Bool) (ns : List Item) → take_lines k (item_nodes p two ns) ≡ float_lines k (galley_floats ns)
items-takes k p two [] = refl
items-takes k p two (n ∷ ns) =
    let after = item_nodes (params_after p n.kind) (two_after two n.kind) ns in
    takes-append k (on_line n.line (item_kinds p two n.kind)) after ∙ ap (λ l. l ++ take_lines k after) (item-takes k p two n.line n.kind) ∙ ap (λ l. float_lines k (float_of n.kind) ++ l) (items-takes k (params_after p n.kind) (two_after two n.kind) ns)
    ∙ sym (floats-append k (float_of n.kind) (galley_floats ns))

items-feet : (k : FloatKind) (p : Params) (two : Bool) (ns : List Item) → HoldFloatless k (item_nodes p two ns)
items-feet k p two [] = tt
items-feet k p two (n ∷ ns) = all-join (λ (x : PlainNode). HoldsFloatless k x.kind) (on_line n.line (item_kinds p two n.kind)) (item_nodes (params_after p n.kind) (two_after two n.kind) ns) (item-feet k p two n.line n.kind) (items-feet k (params_after p n.kind) (two_after two n.kind) ns)

galley-lines : (k : FloatKind) (g : Galley) → class_lines k (expanded g) ≡ []
unfolding expanded
galley-lines k g = lines-append k (item_nodes g.params false g.items) (on_line g.end_line clearpage_kinds) ∙ ap (λ l. l ++ []) (items-lines k g.params false g.items)

galley-takes : (k : FloatKind) (g : Galley) → take_lines k (expanded g) ≡ float_lines k (galley_floats g.items)
unfolding expanded
galley-takes k g = takes-append k (item_nodes g.params false g.items) (on_line g.end_line clearpage_kinds) ∙ append-nil (take_lines k (item_nodes g.params false g.items)) ∙ items-takes k g.params false g.items

galley-feet : (k : FloatKind) (g : Galley) → HoldFloatless k (expanded g)
unfolding expanded
galley-feet k g = all-join (λ (x : PlainNode). HoldsFloatless k x.kind) (item_nodes g.params false g.items) (on_line g.end_line clearpage_kinds) (items-feet k g.params false g.items) (tt, (tt, (tt, (tt, (tt, tt)))))

-- ---- the lines of floats rise

abbrev pub LinesRise : ℕ → List Float → Type 0
LinesRise n [] = Unit {0}
LinesRise n (f ∷ fs) = (n < f.line) × LinesRise f.line fs

weaker : (n m : ℕ) (fs : List Float) → n ≤ m → LinesRise m fs → LinesRise n fs
weaker n m [] l h = tt
weaker n m (f ∷ fs) l h = let a : m < f.line = h.0 in (omega arith, h.1)

item-rise : (n l : ℕ) (d : ItemKind) (ns : List Item) (tail : List ℕ) → IsTrue (is_item l d) → ((m : ℕ) → IsTrue (rise_from m (named_lines ns ++ tail)) → LinesRise m (galley_floats ns)) → IsTrue (rise_from n (lines_of_item l d ++ (named_lines ns ++ tail))) → LinesRise n (float_of d ++ galley_floats ns)
item-rise n l (items.Hbox name h d) ns tail v k r = let x = rise-behind n (l ∷ []) (named_lines ns ++ tail) r in weaker n x.0 (galley_floats ns) x.1.0 (k x.0 x.1.1)
item-rise n l (items.Rule name h d) ns tail v k r = let x = rise-behind n (l ∷ []) (named_lines ns ++ tail) r in weaker n x.0 (galley_floats ns) x.1.0 (k x.0 x.1.1)
item-rise n l (items.Foot class ls) ns tail v k r = let x = rise-behind n (leaf_lines ls) (named_lines ns ++ tail) r in weaker n x.0 (galley_floats ns) x.1.0 (k x.0 x.1.1)
item-rise n l (items.Float f vert) ns tail v k r =
    let same : f.line ≡ l = eqb-true f.line l (and_parts (f.line == l) _ v).0 in
    let first = rise-first n l (named_lines ns ++ tail) r in
    let a : n < l = first.0 in
    (omega arith, subst (λ m. LinesRise m (galley_floats ns)) (sym same) (k l first.1))
item-rise n l (items.Head f) ns tail v k r =
    let same : f.line ≡ l = eqb-true f.line l (and_parts (f.line == l) _ v).0 in
    let first = rise-first n l (named_lines ns ++ tail) r in
    let a : n < l = first.0 in
    (omega arith, subst (λ m. LinesRise m (galley_floats ns)) (sym same) (k l first.1))
item-rise n l (items.Margin m vert) ns tail v k r = let x = rise-behind n (l ∷ []) (named_lines ns ++ tail) r in weaker n x.0 (galley_floats ns) x.1.0 (k x.0 x.1.1)
item-rise n l d ns tail v k r = k n r

items-rise : (n : ℕ) (ns : List Item) (tail : List ℕ) → IsTrue (list_all (λ n. is_item n.line n.kind) ns) → IsTrue (rise_from n (named_lines ns ++ tail)) → LinesRise n (galley_floats ns)
items-rise n [] tail v r = tt
items-rise n (i ∷ ns) tail v r =
    item-rise n i.line i.kind ns tail (and_parts (is_item i.line i.kind) (list_all (λ n. is_item n.line n.kind) ns) v).0 (λ m x. items-rise m ns tail (and_parts (is_item i.line i.kind) (list_all (λ n. is_item n.line n.kind) ns) v).1 x)
    (subst (λ l. IsTrue (rise_from n l)) (append_assoc (lines_of_item i.line i.kind) (named_lines ns) tail) r)

pub galley-rise : (g : Galley) → IsValid g → LinesRise 0 (galley_floats g.items)
galley-rise g v = items-rise 0 g.items (g.end_line ∷ []) v.items v.lines

-- all later ones are above
pub later-above : (n : ℕ) (fs : List Float) → LinesRise n fs → AllByRecursion (λ f. n < f.line) fs
later-above n [] h = tt
later-above n (f ∷ fs) h = (h.0, all-map (λ (x : Float). f.line < x.line) (λ (x : Float). n < x.line) (λ x l. let a : n < f.line = h.0 in omega (arith, l)) fs (later-above f.line fs h.1))

lines-above : (k : FloatKind) (n : ℕ) (fs : List Float) → AllByRecursion (λ f. n < f.line) fs → AllByRecursion (λ x. n < x) (float_lines k fs)
lines-above k n [] h = tt
lines-above k n (f ∷ fs) h = by_class (is_of k f.class f.line) (lines-above k n fs h.1)
  where
    by_class : (t : Bool) → AllByRecursion (λ x. n < x) (float_lines k fs) → AllByRecursion (λ x. n < x) (line_if t f.line ++ float_lines k fs)
    by_class true m = (h.0, m)
    by_class false m = m

class-rises : (k : FloatKind) (n : ℕ) (fs : List Float) → LinesRise n fs → Rises (λ x. Unit {0}) (λ x. ⊥) (float_lines k fs)
class-rises k n [] h = tt
class-rises k n (f ∷ fs) h = by_class (is_of k f.class f.line) (class-rises k f.line fs h.1) (lines-above k f.line fs (later-above f.line fs h.1))
  where
    by_class : (t : Bool) → Rises (λ x. Unit {0}) (λ x. ⊥) (float_lines k fs) → AllByRecursion (λ x. f.line < x) (float_lines k fs) → Rises (λ x. Unit {0}) (λ x. ⊥) (line_if t f.line ++ float_lines k fs)
    by_class true r a = (tt, all-map (λ x. f.line < x) (MayPrecede (λ x. ⊥) f.line) (λ x l. inl l) (float_lines k fs) a, r)
    by_class false r a = r

known-rises : (Known Excused : ℕ → Type 0) (xs : List ℕ) → Rises (λ x. Unit {0}) (λ x. ⊥) xs → AllByRecursion Known xs → Rises Known Excused xs
known-rises Known Excused [] r a = tt
known-rises Known Excused (x ∷ xs) r a = (a.0, all-map (MayPrecede (λ x. ⊥) x) (MayPrecede Excused x) (λ y m. strict y m) xs r.1, known-rises Known Excused xs r.2 a.1)
  where
    strict : (y : ℕ) → MayPrecede (λ x. ⊥) x y → MayPrecede Excused x y
    strict y (inl l) = inl l
    strict y (inr n) = absurd n

-- ---- a run begins in order

-- the line is that of a float of the kind
abbrev pub IsOfClass : Galley → FloatKind → ℕ → Type 0
IsOfClass g k n = IsAmong n (float_lines k (galley_floats g.items))

nothing-parted : (k : FloatKind) (d : Side) → PartedBy d k no_floats
nothing-parted k alike = refl
nothing-parted k narrow = (refl, refl)
nothing-parted k wider = (refl, refl)

void-floatless : (k : FloatKind) (cs : List Class) → BoxesFloatless k (void_boxes cs)
void-floatless k [] = tt
void-floatless k (c ∷ cs) = (tt, void-floatless k cs)

pub start-order : (g : Galley) (k : FloatKind) → IsValid g → Suits k false (deeds (expanded g)) → InOrder k (IsOfClass g k) [] [] (first_state g.params (classes_of g) (expanded g))
start-order g k v suits =
    let takes = galley-takes k g in
    let rises = known-rises (IsOfClass g k) (λ n. IsCarried k n []) (float_lines k (galley_floats g.items)) (class-rises k 0 (galley_floats g.items) (galley-rise g v)) (all-among (float_lines k (galley_floats g.items))) in
    record {
      ordered = record {
        order = subst (Rises (IsOfClass g k) (λ n. IsCarried k n [])) (sym takes) rises;
        rising = subst (Rises (IsOfClass g k) (λ n. ⊥)) (sym (galley-lines k g)) tt;
        held = subst (AreInText k [] [] no_floats None) (sym (galley-lines k g)) tt;
        bottom = tt;
        deferred = tt;
        parted = nothing-parted k k.side;
        later = subst (λ t. AllByRecursion (λ n. AllByRecursion (λ x. x < n) t) (take_lines k (expanded g))) (sym (galley-lines k g)) (all-of (λ n. AllByRecursion (λ x. x < n) []) (λ n. tt) (take_lines k (expanded g)));
        unseen = all-of _ (λ n. record { placed = λ w. w; missing = tt }) (take_lines k (expanded g));
        known = tt;
        columns = tt;
        single = λ e. refl;
      };
      early = early-none k (expanded g) (galley-lines k g);
      suits = suits;
      feet = galley-feet k g;
      held = record { takes = refl; does = refl; feet = tt; endless = tt };
      boxes = void-floatless k (classes_of g);
    }

-- ---- one class of a line

-- the floats of a class on lines of which something holds, on this side
abbrev pub of_kind : (ℕ → Bool) → Side → ℕ → FloatKind
of_kind has d c = record { class = c; has = has; side = d }

pub own-line : (has : ℕ → Bool) (d : Side) (c n : ℕ) → has n ≡ true → line_if (is_of (of_kind has d c) c n) n ≡ n ∷ []
own-line has d c n t = ap (λ b. line_if (b && has n) n) (itself c) ∙ ap (λ b. line_if b n) t
  where
    itself : (c : ℕ) → (c == c) ≡ true
    itself c = grind arith

-- each line is in one class alone
pub one-class : (has : ℕ → Bool) (d : Side) (m n a b : ℕ) (fs : List Float) → LinesRise m fs → IsAmong n (float_lines (of_kind has d a) fs) → IsAmong n (float_lines (of_kind has d b) fs) → a ≡ b
one-class has d m n a b [] h i j = absurd i
one-class has d m n a b (f ∷ fs) h i j =
    by_class (is_of (of_kind has d a) f.class f.line) (is_of (of_kind has d b) f.class f.line) refl refl i j (λ x y. one-class has d f.line n a b fs h.1 x y) (λ c. lines-above (of_kind has d c) f.line fs (later-above f.line fs h.1))
  where
    head-tail : (c : ℕ) → f.line ≡ n → IsAmong n (float_lines (of_kind has d c) fs) → AllByRecursion (λ x. f.line < x) (float_lines (of_kind has d c) fs) → ⊥
    head-tail c e i a = let l : f.line < n = all-at (λ x. f.line < x) n (float_lines (of_kind has d c) fs) i a in let never : ⊥ = omega (arith, l, e) in never

    by_class : (t u : Bool) → is_of (of_kind has d a) f.class f.line ≡ t → is_of (of_kind has d b) f.class f.line ≡ u → IsAmong n (line_if t f.line ++ float_lines (of_kind has d a) fs) → IsAmong n (line_if u f.line ++ float_lines (of_kind has d b) fs)
        → (IsAmong n (float_lines (of_kind has d a) fs) → IsAmong n (float_lines (of_kind has d b) fs) → a ≡ b) → ((c : ℕ) → AllByRecursion (λ x. f.line < x) (float_lines (of_kind has d c) fs)) → a ≡ b
    by_class true true x y (inl e) (inl g) k l = sym (kind-class (of_kind has d a) f.class f.line x) ∙ kind-class (of_kind has d b) f.class f.line y
    by_class true true x y (inl e) (inr j) k l = absurd (head-tail b e j (l b))
    by_class true true x y (inr i) (inl g) k l = absurd (head-tail a g i (l a))
    by_class true true x y (inr i) (inr j) k l = k i j
    by_class true false x y (inl e) j k l = absurd (head-tail b e j (l b))
    by_class true false x y (inr i) j k l = k i j
    by_class false true x y i (inl g) k l = absurd (head-tail a g i (l a))
    by_class false true x y i (inr j) k l = k i j
    by_class false false x y i j k l = k i j

-- each float is one of its class
pub floats-among : (has : ℕ → Bool) (d : Side) (fs : List Float) → AllByRecursion (λ f. has f.line ≡ true → IsAmong f.line (float_lines (of_kind has d f.class) fs)) fs
floats-among has d [] = tt
floats-among has d (f ∷ fs) = (
  λ t. subst (λ ys. IsAmong f.line (ys ++ float_lines (of_kind has d f.class) fs)) (sym (own-line has d f.class f.line t)) (inl refl),
  all-map (λ (x : Float). has x.line ≡ true → IsAmong x.line (float_lines (of_kind has d x.class) fs)) (λ (x : Float). has x.line ≡ true → IsAmong x.line (float_lines (of_kind has d x.class) (f ∷ fs)))
      (λ x i t. among-back x.line (line_if (is_of (of_kind has d x.class) f.class f.line) f.line) (float_lines (of_kind has d x.class) fs) (i t)) fs (floats-among has d fs),
)

-- ---- what is taken suits a kind at the start

-- behind a change to two columns, and parameters that are set there, there are two
abbrev HasTwo : Behind → Bool → Type 0
HasTwo b two = may_head b ≡ true → two ≡ true

two-columns : (b : Behind) (two : Bool) (d : ItemKind) → HasTwo b two → HasTwo (behind_after b d) (two_after two d)
two-columns b two items.TwoColumn h e = refl
two-columns b two (items.Set c) h e = h e
two-columns b two d h e = absurd (true≢false (sym e))

item-suits : (k : FloatKind) (p : Params) (two : Bool) (after : Behind) (n : ℕ) (d : ItemKind) (ys : List Act) → HasTwo after two → IsTrue (may_come after d) → IsTrue (is_item n d)
    → AllByRecursion (λ f. is_of k f.class f.line ≡ true → IsOnSide k.side f.wide) (map (as_taken two) (float_of d)) → Suits k (two_after two d) ys → Suits k two (deeds (on_line n (item_kinds p two d)) ++ ys)
item-suits k p two after n (items.Float x vert) ys t c v f s = by_taking (has_second p && two && x.wide)
  where
    by_taking : (t : Bool) → Suits k two (deeds (on_line n (if t then act (acts.Take x) ∷ [] else with_firings (acts.Take x) vert)) ++ ys)
    by_taking true = (f.0, s)
    by_taking false = (f.0, s)
item-suits k p two after n (items.Head x) ys t c v f s = (λ e. subst (IsOnSide k.side) (both x.wide two (head-wide x (and_parts (x.line == n) (is_head x) v).1) (t c)) (f.0 e), s)
  where
    both : (a b : Bool) → a ≡ true → b ≡ true → (a && b) ≡ true
    both true b e g = g
    both false b e g = e

    head-wide : (x : Float) → IsTrue (is_head x) → x.wide ≡ true
    head-wide x v =
        let rest = (and_parts (is_name x.name && is_size x.height) ((x.class == 0) && x.wide && is_top_alone x.places && x.bang && not (x.deep || x.nobreak)) v).1 in
        let a = and_parts ((x.class == 0) && x.wide && is_top_alone x.places && x.bang) (not (x.deep || x.nobreak)) rest in
        let b = and_parts ((x.class == 0) && x.wide && is_top_alone x.places) x.bang a.0 in
        let d = and_parts ((x.class == 0) && x.wide) (is_top_alone x.places) b.0 in
        (and_parts (x.class == 0) x.wide d.0).1
item-suits k p two after n d ys t c v f s = s

items-suit : (k : FloatKind) (p : Params) (two : Bool) (after : Behind) (ns : List Item) → HasTwo after two → IsTrue (do_items_stand after ns) → IsTrue (list_all (λ n. is_item n.line n.kind) ns)
    → AllByRecursion (λ f. is_of k f.class f.line ≡ true → IsOnSide k.side f.wide) (taken_floats two ns) → Suits k two (deeds (item_nodes p two ns))
items-suit k p two after [] t c v h = tt
items-suit k p two after (n ∷ ns) t c v h =
    let behind = item_nodes (params_after p n.kind) (two_after two n.kind) ns in
    let here = map (as_taken two) (float_of n.kind) in
    let later = taken_floats (two_after two n.kind) ns in
    let stands = and_parts (may_come after n.kind) (do_items_stand (behind_after after n.kind) ns) c in
    let valid = and_parts (is_item n.line n.kind) (list_all (λ n. is_item n.line n.kind) ns) v in
    subst (Suits k two) (sym (deeds-append (on_line n.line (item_kinds p two n.kind)) behind))
    (item-suits k p two after n.line n.kind (deeds behind) t stands.0 valid.0 (all-front (λ f. is_of k f.class f.line ≡ true → IsOnSide k.side f.wide) here later h)
    (items-suit k (params_after p n.kind) (two_after two n.kind) (behind_after after n.kind) ns (two-columns after two n.kind t) stands.1 valid.1 (all-back (λ f. is_of k f.class f.line ≡ true → IsOnSide k.side f.wide) here later h)))

pub galley-suits : (g : Galley) (k : FloatKind) → IsValid g → AllByRecursion (λ f. is_of k f.class f.line ≡ true → IsOnSide k.side f.wide) (taken_floats false g.items) → Suits k false (deeds (expanded g))
unfolding expanded
galley-suits g k v h =
    subst (Suits k false) (sym (deeds-append (item_nodes g.params false g.items) (on_line g.end_line clearpage_kinds) ∙ append-nil (deeds (item_nodes g.params false g.items))))
    (items-suit k g.params false behind_nothing g.items (λ e. e) v.order v.items h)
