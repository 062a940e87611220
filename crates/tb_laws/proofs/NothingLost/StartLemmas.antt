-- The nodes of a galley are in an allowed order, and weigh as its items.
use Rattle.std.proofs.Common.{◌≡◌, refl, sym, ◌∙◌, ap, subst, ℕ, zero, suc, ◌+◌, Bool, true, false, List, [], ◌∷◌, ◌++◌, map, arith, append_assoc, ◌==◌}
use Rattle.std.specs.Prelude.{ℤ, int_le, ◌||◌, ◌&&◌, if◌then◌else◌}
use Rattle.std.specs.List.{AllByRecursion}
use Rattle.std.proofs.lemmas.Int.{ints}
use Rattle.tb_scaled.specs.Scaled.{eject_penalty}
use Rattle.tb_node.specs.PlainNodes.{act, on_line, clearpage_kinds}
use Rattle.tb_node.specs.declared.Act.TheVariants as acts
use Rattle.tb_node.proofs.Weights.{Weight, leaves_weight, nodes_weight, weight-append}
use Rattle.tb_param.specs.declared.Params.{Params}
use Rattle.tb_param.specs.Release.{has_second}
use Rattle.tb_param.specs.Ranges.{are_params}
use Rattle.tb_galley.specs.declared.Leaf.{Leaf}
use Rattle.tb_galley.specs.declared.LeafKind.{LeafKind}
use Rattle.tb_galley.specs.declared.LeafKind.TheVariants as leaves
use Rattle.tb_galley.specs.declared.Item.{Item}
use Rattle.tb_galley.specs.declared.ItemKind.{ItemKind}
use Rattle.tb_galley.specs.declared.ItemKind.TheVariants as items
use Rattle.tb_galley.specs.declared.Galley.{Galley}
use Rattle.tb_galley.specs.GalleyNodes.{plain_leaf, enlarge_list, with_firings, item_kinds, item_nodes, two_after, params_after, expanded}
use Rattle.tb_insert.specs.declared.Class.{Class}
use Rattle.tb_builder.proofs.FiredPages.PageWeights.{hits, IsOnce, boxes_weight}
use Rattle.tb_items.specs.Classes.{classes_of}
use Rattle.tb_output.specs.State.{first_state, void_boxes}
use Rattle.tb_output.specs.Output.{is_int}
use Rattle.tb_sheet.specs.Asked.{clear_penalty, par_penalty, vert_penalty, hold_penalty}
use Rattle.tb_laws.proofs.Closed.Closings.{never}
use Rattle.tb_laws.proofs.Closed.BareFeet.{AreBare, placed-both, void-bare}
use Rattle.tb_laws.proofs.NothingLost.WorkWeights.{class_numbers, BoxesFit, state_weight}
use Rattle.tb_laws.proofs.Closed.SortLemmas.{Sort, light, pause, hold, serve, clear, odd, none, many, Stands, pen_sort, sorts, sorts-append, fewer}
use Rattle.tb_laws.proofs.Closed.PutLemmas.{Extends}
use Rattle.tb_laws.proofs.NothingLost.RunWeights.{Kept}

-- no penalty of an item is below that of a page's end, the class of a footnote is one of these numbers and not 255, and this is one of them if a page is made higher
abbrev pub ItemFits : List ℕ → ItemKind → Type 0
ItemFits ks (items.Penalty n) = int_le eject_penalty n ≡ true
ItemFits ks (items.Foot class ls) = IsOnce ks class × ((class == 255) ≡ false)
ItemFits ks (items.Enlarge by star) = IsOnce ks 255
ItemFits ks _ = Unit {0}

-- such a penalty is the end of a page, or light
high-penalty : (q : ℤ) → int_le eject_penalty q ≡ true → (ys : List Sort) → Stands many false ys → Stands many false (pen_sort q ∷ ys)
high-penalty q h ys s = by_tests (int_le q eject_penalty) (is_int q eject_penalty) (is_int q clear_penalty) (is_int q par_penalty || is_int q vert_penalty) (is_int q hold_penalty) (λ k. grind (arith, ints, h, k))
  where
    by_tests : (t e c x z : Bool) → (t ≡ true → e ≡ true) → Stands many false ((if t then (if e then pause else (if c then clear else (if x then serve else (if z then hold else odd)))) else light) ∷ ys)
    by_tests true true c x z u = (tt, fewer none false ys s)
    by_tests true false c x z u = let no : ⊥ = grind (arith, u refl) in absurd no
    by_tests false e c x z u = (tt, s)

-- the list of a page that is made higher holds nothing that weighs
list-bare : (by : ℤ) (star : Bool) → AreBare (enlarge_list by star)
list-bare by true = ((λ v. refl), ((λ v. refl), tt))
list-bare by false = ((λ v. refl), tt)

item-extends : (ks : List ℕ) (p : Params) (two : Bool) (line : ℕ) (k : ItemKind) → ItemFits ks k → Extends ks many false (on_line line (item_kinds p two k))
item-extends ks p two line (items.Penalty n) f = record { by = λ ys s. high-penalty n f ys s; feet = (tt, tt) }
item-extends ks p two line (items.Foot class foot) f = record { by = λ ys s. (tt, s); feet = ((f.0, λ e. never (sym f.1 ∙ e)), tt) }
item-extends ks p two line (items.Enlarge by star) f = record { by = λ ys s. (tt, s); feet = ((f, λ e. list-bare by star), tt) }
item-extends ks p two line (items.Float x vert) f = by_taking (has_second p && two && x.wide) vert
  where
    by_taking : (t u : Bool) → Extends ks many false (on_line line (if t then act (acts.Take x) ∷ [] else with_firings (acts.Take x) u))
    by_taking true u = record { by = λ ys s. (tt, s); feet = (tt, tt) }
    by_taking false true = record { by = λ ys s. (tt, (tt, (tt, (tt, s)))); feet = (tt, (tt, (tt, (tt, tt)))) }
    by_taking false false = record { by = λ ys s. (tt, (tt, (tt, (tt, s)))); feet = (tt, (tt, (tt, (tt, tt)))) }
item-extends ks p two line (items.Margin x true) f = record { by = λ ys s. (tt, (tt, (tt, (tt, s)))); feet = (tt, (tt, (tt, (tt, tt)))) }
item-extends ks p two line (items.Margin x false) f = record { by = λ ys s. (tt, (tt, (tt, (tt, s)))); feet = (tt, (tt, (tt, (tt, tt)))) }
item-extends ks p two line items.NewPage f = record { by = λ ys s. (tt, (tt, fewer none false ys s)); feet = (tt, (tt, tt)) }
item-extends ks p two line items.ClearPage f = record { by = λ ys s. (tt, (tt, (tt, (tt, (tt, s))))); feet = (tt, (tt, (tt, (tt, (tt, tt))))) }
item-extends ks p two line (items.PageBreak n) f = record { by = by_strength n; feet = (tt, tt) }
  where
    by_strength : (n : ℕ) (ys : List Sort) → Stands many false ys → Stands many false (sorts (on_line line (item_kinds p two (items.PageBreak n))) ++ ys)
    by_strength zero ys s = (tt, s)
    by_strength (suc zero) ys s = (tt, s)
    by_strength (suc (suc zero)) ys s = (tt, s)
    by_strength (suc (suc (suc zero))) ys s = (tt, s)
    by_strength (suc (suc (suc (suc n)))) ys s = (tt, fewer none false ys s)
item-extends ks p two line (items.NoPageBreak n) f = record { by = by_strength n; feet = (tt, tt) }
  where
    by_strength : (n : ℕ) (ys : List Sort) → Stands many false ys → Stands many false (sorts (on_line line (item_kinds p two (items.NoPageBreak n))) ++ ys)
    by_strength zero ys s = (tt, s)
    by_strength (suc zero) ys s = (tt, s)
    by_strength (suc (suc zero)) ys s = (tt, s)
    by_strength (suc (suc (suc zero))) ys s = (tt, s)
    by_strength (suc (suc (suc (suc n)))) ys s = (tt, s)
item-extends ks p two line items.OneColumn f = record { by = λ ys s. (tt, (tt, (tt, (tt, (tt, (tt, s)))))); feet = (tt, (tt, (tt, (tt, (tt, (tt, tt)))))) }
item-extends ks p two line items.TwoColumn f = record { by = λ ys s. (tt, (tt, (tt, (tt, (tt, (tt, s)))))); feet = (tt, (tt, (tt, (tt, (tt, (tt, tt)))))) }
item-extends ks p two line k f = record { by = λ ys s. (tt, s); feet = (tt, tt) }

abbrev pub ItemsFit : List ℕ → List Item → Type 0
ItemsFit ks = AllByRecursion (λ n. ItemFits ks n.kind)

items-stand : (ks : List ℕ) (p : Params) (two : Bool) (ns : List Item) → ItemsFit ks ns → Extends ks many false (item_nodes p two ns)
items-stand ks p two [] f = record { by = λ ys s. s; feet = tt }
items-stand ks p two (n ∷ ns) f =
    let later = params_after p n.kind in
    let after = two_after two n.kind in
    let x = item-extends ks p two n.line n.kind f.0 in
    let y = items-stand ks later after ns f.1 in
    record { by = λ ys s. subst (Stands many false) (sym (ap (λ l. l ++ ys) (sorts-append (on_line n.line (item_kinds p two n.kind)) (item_nodes later after ns)) ∙ append_assoc (sorts (on_line n.line (item_kinds p two n.kind))) (sorts (item_nodes later after ns)) ys)) (x.by (sorts (item_nodes later after ns) ++ ys) (y.by ys s)); feet = placed-both ks (on_line n.line (item_kinds p two n.kind)) (item_nodes later after ns) x.feet y.feet }

-- no two classes have one number
abbrev pub NumbersDiffer : List Class → Type 0
NumbersDiffer [] = Unit {0}
NumbersDiffer (c ∷ cs) = (hits c.number (class_numbers cs) ≡ 0) × NumbersDiffer cs

pub void-fit : (cs : List Class) → NumbersDiffer cs → BoxesFit cs (void_boxes cs)
void-fit [] h = tt
void-fit (c ∷ cs) h = (refl, h.0, void-fit cs h.1)

-- a run begins with a state that keeps what runs keep
pub start-kept : (g : Galley) → are_params g.params ≡ true → NumbersDiffer (classes_of g) → ItemsFit (class_numbers (classes_of g)) g.items → Kept (first_state g.params (classes_of g) (expanded g))
unfolding expanded
start-kept g r d f =
    let ks = class_numbers (classes_of g) in
    let x = items-stand ks g.params false g.items f in
    record {
      ranges = r;
      sound = record { box = void-fit (classes_of g) d; bare = void-bare (classes_of g); columns = tt; entries = tt };
      placed = record {
        held = false;
        stands = fewer none false _ (subst (Stands many false) (sym (sorts-append (item_nodes g.params false g.items) (on_line g.end_line clearpage_kinds))) (x.by (sorts (on_line g.end_line clearpage_kinds)) (tt, (tt, (tt, (tt, (tt, tt)))))));
        free = λ h. refl;
        steady = tt;
        feet = placed-both ks (item_nodes g.params false g.items) (on_line g.end_line clearpage_kinds) x.feet (tt, (tt, (tt, (tt, (tt, tt)))));
        held_feet = tt;
      };
    }

-- ---- what a galley weighs

abbrev pub leaf_line : Weight → ℕ → LeafKind → ℕ
leaf_line v n (leaves.Hbox name h d) = v.box n
leaf_line v n (leaves.Rule name h d) = v.box n
leaf_line v n (leaves.Skip g) = 0
leaf_line v n (leaves.Kern w) = 0
leaf_line v n (leaves.Penalty p) = 0

abbrev pub foot_weight : Weight → List Leaf → ℕ
foot_weight v [] = 0
foot_weight v (l ∷ ls) = leaf_line v l.line l.kind + foot_weight v ls

abbrev pub item_weight : Weight → ℕ → ItemKind → ℕ
item_weight v n (items.Hbox name h d) = v.box n
item_weight v n (items.Rule name h d) = v.box n
item_weight v n (items.Foot class ls) = foot_weight v ls
item_weight v n (items.Float f vert) = v.float f.line
item_weight v n (items.Head f) = v.float f.line
item_weight v n (items.Margin m vert) = v.margin m.line
item_weight v n _ = 0

abbrev pub items_weight : Weight → List Item → ℕ
items_weight v [] = 0
items_weight v (n ∷ ns) = item_weight v n.line n.kind + items_weight v ns

leaf-expanded : (v : Weight) (l : ℕ) (k : LeafKind) (r : ℕ) → leaves_weight v (plain_leaf (record { line = l; kind = k }) ∷ []) + r ≡ leaf_line v l k + r
leaf-expanded v l (leaves.Hbox name h d) r = omega arith
leaf-expanded v l k r = omega arith

foot-expanded : (v : Weight) (ls : List Leaf) → leaves_weight v (map plain_leaf ls) ≡ foot_weight v ls
foot-expanded v [] = refl
foot-expanded v (l ∷ ls) =
    let h : leaves_weight v (map plain_leaf ls) ≡ foot_weight v ls = foot-expanded v ls in
    let e : leaves_weight v (plain_leaf l ∷ []) + foot_weight v ls ≡ leaf_line v l.line l.kind + foot_weight v ls = leaf-expanded v l.line l.kind (foot_weight v ls) in
    omega arith

pub item-expanded : (v : Weight) (p : Params) (two : Bool) (n : ℕ) (k : ItemKind) → nodes_weight v (on_line n (item_kinds p two k)) ≡ item_weight v n k
item-expanded v p two n (items.Hbox name h d) = omega arith
item-expanded v p two n (items.Rule name h d) = omega arith
item-expanded v p two n (items.Foot class ls) = let h : leaves_weight v (map plain_leaf ls) ≡ foot_weight v ls = foot-expanded v ls in omega arith
item-expanded v p two n (items.Float f vert) = by_taking (has_second p && two && f.wide)
  where
    by_taking : (t : Bool) → nodes_weight v (on_line n (if t then act (acts.Take f) ∷ [] else with_firings (acts.Take f) vert)) ≡ v.float f.line
    by_taking true = omega arith
    by_taking false = omega arith
item-expanded v p two n (items.Margin m vert) = omega arith
item-expanded v p two n (items.Head f) = omega arith
item-expanded v p two n (items.Enlarge by true) = refl
item-expanded v p two n (items.Enlarge by false) = refl
item-expanded v p two n k = refl

items-expanded : (v : Weight) (p : Params) (two : Bool) (ns : List Item) → nodes_weight v (item_nodes p two ns) ≡ items_weight v ns
items-expanded v p two [] = refl
items-expanded v p two (n ∷ ns) =
    let e : nodes_weight v (on_line n.line (item_kinds p two n.kind) ++ item_nodes (params_after p n.kind) (two_after two n.kind) ns) ≡ nodes_weight v (on_line n.line (item_kinds p two n.kind)) + nodes_weight v (item_nodes (params_after p n.kind) (two_after two n.kind) ns) = weight-append v (on_line n.line (item_kinds p two n.kind)) (item_nodes (params_after p n.kind) (two_after two n.kind) ns) in
    let a : nodes_weight v (on_line n.line (item_kinds p two n.kind)) ≡ item_weight v n.line n.kind = item-expanded v p two n.line n.kind in
    let h : nodes_weight v (item_nodes (params_after p n.kind) (two_after two n.kind) ns) ≡ items_weight v ns = items-expanded v (params_after p n.kind) (two_after two n.kind) ns in
    omega arith

void-weight : (v : Weight) (cs : List Class) → boxes_weight v (void_boxes cs) ≡ 0
void-weight v [] = refl
void-weight v (c ∷ cs) = let h : boxes_weight v (void_boxes cs) ≡ 0 = void-weight v cs in omega arith

-- a run begins with what the items weigh
pub start-weight : (v : Weight) (g : Galley) → state_weight v (first_state g.params (classes_of g) (expanded g)) ≡ items_weight v g.items
unfolding expanded
start-weight v g =
    let e : nodes_weight v (item_nodes g.params false g.items ++ on_line g.end_line clearpage_kinds) ≡ nodes_weight v (item_nodes g.params false g.items) + 0 = weight-append v (item_nodes g.params false g.items) (on_line g.end_line clearpage_kinds) in
    let d : boxes_weight v (void_boxes (classes_of g)) ≡ 0 = void-weight v (classes_of g) in
    let h : nodes_weight v (item_nodes g.params false g.items) ≡ items_weight v g.items = items-expanded v g.params false g.items in
    omega arith
