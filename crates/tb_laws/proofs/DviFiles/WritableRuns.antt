-- Each page that a run of a valid galley ships has bytes in a DVI file.
use Rattle.std.proofs.Common.{◌≡◌, refl, ℕ, suc, ℤ, pos, negsuc, ◌+◌, ◌+ℤ◌, ◌≤◌, ◌<◌, Bool, true, false, List, [], ◌∷◌, ◌++◌, map, length, FitsSigned, arith}
use Rattle.std.specs.Prelude.{◌&&◌, ◌||◌, ◌==◌, nat_le, nat_abs, int_le, IsTrue, codes, decimal, if◌then◌else◌, not}
use Rattle.std.specs.Int.{w32}
use Rattle.std.specs.List.{AllByRecursion, list_all}
use Rattle.std.proofs.lemmas.Int.{ints}
use Rattle.std.proofs.lemmas.Bool.{and_parts}
use Rattle.std.proofs.lemmas.Bool.Decides.{nat_tests}
use Rattle.std.proofs.lemmas.Fmt.{length-decimal-le}
use Rattle.std.proofs.lemmas.List.{length-append}
use Rattle.tb_break.proofs.EachLemmas.{all-join}
use Rattle.tb_scaled.specs.Scaled.{min_ℤ}
use Rattle.tb_node.specs.declared.Act.{Act}
use Rattle.tb_node.specs.declared.Act.TheVariants as acts
use Rattle.tb_node.specs.declared.Float.{Float}
use Rattle.tb_node.specs.declared.Margin.{Margin}
use Rattle.tb_node.specs.declared.Side.{Side}
use Rattle.tb_node.specs.declared.Side.TheVariants as sides
use Rattle.tb_node.specs.declared.Where.{Where}
use Rattle.tb_node.specs.declared.Where.TheVariants as places
use Rattle.tb_node.specs.Names.{is_name, is_alphanumeric, is_name_byte, is_between}
use Rattle.tb_node.specs.PlainNodes.{act, on_line, clearpage_kinds}
use Rattle.tb_param.specs.declared.Params.{Params}
use Rattle.tb_param.specs.Release.{has_second}
use Rattle.tb_galley.specs.declared.Leaf.{Leaf}
use Rattle.tb_galley.specs.declared.LeafKind.{LeafKind}
use Rattle.tb_galley.specs.declared.LeafKind.TheVariants as leaves
use Rattle.tb_galley.specs.declared.Item.{Item}
use Rattle.tb_galley.specs.declared.ItemKind.{ItemKind}
use Rattle.tb_galley.specs.declared.ItemKind.TheVariants as items
use Rattle.tb_galley.specs.declared.Galley.{Galley}
use Rattle.tb_galley.specs.GalleyNodes.{plain_leaf, with_firings, enlarge_list, item_kinds, two_after, params_after, item_nodes, expanded}
use Rattle.tb_galley.specs.declared.ClassLine.{ClassLine}
use Rattle.tb_galley.specs.Valid.{is_size, is_leaf, is_float, is_margin, is_item, IsValid, may_stand, do_all_stand, is_head, is_top_alone}
use Rattle.tb_insert.specs.declared.Class.{Class}
use Rattle.tb_insert.specs.Account.{terms_after}
use Rattle.tb_break.specs.PageTop.{pruned_nodes}
use Rattle.tb_builder.specs.FiredPages.{frozen_for}
use Rattle.tb_float.specs.declared.Entry.TheVariants as entries
use Rattle.tb_float.specs.Lists.{FloatLists}
use Rattle.tb_margin.specs.Margin.{note_height, note_depth}
use Rattle.tb_report.specs.Lines.{where_text, side_text}
use Rattle.tb_text.specs.Fields.{and_count, and_text}
use Rattle.tb_sheet.specs.declared.Warn.{Warn}
use Rattle.tb_sheet.specs.Sheet.{PlainSent, warned, shipped}
use Rattle.tb_column.proofs.RangeLemmas.{column-params}
use Rattle.tb_output.specs.State.{State, Recorded, first_state, void_boxes}
use Rattle.tb_output.specs.Act.{taken_float, lists_with_taken, taken_head}
use Rattle.tb_steps.specs.Run.{run_of, ask_for}
use Rattle.tb_steps.proofs.RunTree.{ActMove, page_of, fired_at, served_at, galley-is, takes_float, takes_note, sets_flag, changes_columns, sets_number, takes_title, sets_parameter}
use Rattle.tb_steps.proofs.RunParams.{params-runnable, few-firings, height-fits}
use Rattle.tb_steps.proofs.RunFolds.{each_event, RangedLaw, with_ranges, run-holds}
use Rattle.tb_items.specs.RunEvents.{RunEvent, offered, sent}
use Rattle.tb_items.specs.Classes.{classes_of, foot_class, enlarging_class, class_of}
use Rattle.tb_laws.proofs.DviFiles.WritableNodes.{WritableLeaves, WritableSheet, WritableFloat, WritableNote, WritableAct, WritableNodes, nodes-join, nodes-pruned, WritableReached, WritableReach, reached-writable, WritableBoxes, fired-writable}
use Rattle.tb_items.proofs.GalleyClasses.{standing-rule}
use Rattle.tb_laws.proofs.DviFiles.WritableWorks.{WritableLists, WritableState, WritableSent, out-writable, WritableClasses}

-- ---- acts

min-fits : (a b : ℤ) → FitsSigned w32 a → FitsSigned w32 b → FitsSigned w32 (min_ℤ a b)
min-fits a b f g = by_order (int_le a b)
  where
    by_order : (t : Bool) → FitsSigned w32 (if t then a else b)
    by_order true = f
    by_order false = g

module _ (p : Params) (height : FitsSigned w32 p.textheight) where
  taken : (f : Float) (l : FloatLists) → WritableFloat f → WritableLists l → WritableLists (lists_with_taken p f l)
  taken f l h k = by_list (has_second p && f.wide)
    where
      by_list : (t : Bool) → WritableLists (if t then record l { second = l.second ++ f ∷ [] } else record l { current = l.current ++ entries.Float f ∷ [] })
      by_list true = (k.0, k.1, k.2, k.3, k.4, all-join WritableFloat l.second (f ∷ []) k.5 (h, tt))
      by_list false = (all-join _ l.current (entries.Float f ∷ []) k.0 (h, tt), k.1, k.2, k.3, k.4, k.5)

  acts-on : {s u : State} {a : Act} {ws : List Warn} {rs : List Recorded} → ActMove p s a u ws rs → WritableState s → WritableAct a → WritableState u
  acts-on (takes_float {s = s} f r) h g = (h.0, h.1, h.2, taken (taken_float p s f) s.floats (g.0, min-fits f.height p.textheight g.1 height) h.3, h.4, h.5, h.6)
  acts-on (takes_note {s = s} m r) h g = (h.0, h.1, h.2, (all-join _ s.floats.current (entries.Left m ∷ entries.Right m ∷ []) h.3.0 (g, (tt, tt)), h.3.1, h.3.2, h.3.3, h.3.4, h.3.5), h.4, h.5, h.6)
  acts-on (sets_flag area) h g = h
  acts-on (sets_number n) h g = let fits : n ≤ 1000000 = g in (h.0, h.1, h.2, h.3, h.4, omega (arith, fits), h.6)
  acts-on (takes_title {s = s} f r) h g = (h.0, h.1, h.2, (h.3.0, h.3.1, h.3.2, h.3.3, all-join WritableFloat s.floats.double (taken_head p f ∷ []) h.3.4 ((g.0, min-fits f.height p.textheight g.1 height), tt), h.3.5), h.4, h.5, h.6)
  acts-on (changes_columns two) h g = (h.0, h.1, h.2, h.3, tt, h.5, h.6)
  acts-on (sets_parameter c) h g = h

-- ---- events

-- a page has a number up to 2000000: it is at most the page limit and 1000000
abbrev pub WritableEvent : RunEvent → Type 0
WritableEvent (offered t) = Unit {0}
WritableEvent (sent (warned w)) = Unit {0}
WritableEvent (sent (shipped number sheet)) = (number ≤ 2000000) × WritableSheet sheet

abbrev pub WritableEvents : List RunEvent → Type 0
WritableEvents es = AllByRecursion WritableEvent es

warnings : (ws : List Warn) → WritableEvents (map (λ w. sent (warned w)) ws)
warnings [] = tt
warnings (w ∷ ws) = (tt, warnings ws)

number-fits : (n limit : ℕ) → n ≤ limit + 1000000 → limit ≤ 1000000 → n ≤ 2000000
number-fits n limit e h = omega (arith, e, h)

sent-events : (p : Params) → nat_abs p.maxpages ≤ 1000000 → (es : List PlainSent) → AllByRecursion (WritableSent p) es → WritableEvents (map sent es)
sent-events p few [] h = tt
sent-events p few (warned w ∷ es) h = (tt, sent-events p few es h.1)
sent-events p few (shipped number sheet ∷ es) h = ((number-fits number (nat_abs p.maxpages) h.0.0 few, h.0.1), sent-events p few es h.1)

-- ---- a run

page-reached : (s : State) → WritableState s → WritableReach (page_of s)
page-reached s h = reached-writable (ask_for s).max_depth (terms_after (frozen_for (ask_for s) s.classes s.boxes)) [] (pruned_nodes (ask_for s).top_skip s.waiting) tt (nodes-pruned (ask_for s).top_skip s.waiting h.0)

abbrev writing : RangedLaw
writing = record {
  shows = each_event WritableEvent;
  between = WritableState;
  within = λ o rs s. AllByRecursion WritableReached rs × WritableState s × WritableReach (page_of o);
  begins = λ s r h. let x = page-reached s h in (x.reached, h, x);
  tries = λ o line b least rs s r h. ((tt, tt), (h.0.1, h.1, h.2));
  acts = λ o s t a ws records rs r m h. (warnings ws, (h.0.1, acts-on s.params (height-fits s.params (params-runnable s.params r)) m h.1 h.0.0, h.2));
  fires = λ o s r h.
      let x = out-writable s.params (column-params s.params r) s (fired_at o s) h.1 (fired-writable (frozen_for (ask_for o) s.classes s.boxes) s.boxes (page_of o) h.1.1 h.2) in
      (sent-events s.params (few-firings s.params r).pages (served_at o s).sent x.2, x.0);
  stops = λ o s r h. tt;
}

-- ---- the nodes of a valid galley

-- a name has at most 63 bytes
name-short : (name : List ℕ) → IsTrue (is_name name) → length name ≤ 63
name-short [] v = cc
name-short (b ∷ bs) v =
    let short = (and_parts (is_alphanumeric b && list_all is_name_byte bs) (nat_le (length bs) 62) v).1 in
    fits (length bs) short
  where
    fits : (n : ℕ) → IsTrue (nat_le n 62) → suc n ≤ 63
    fits n h = grind (arith, h)

size-fits : (h d : ℤ) → IsTrue (is_size h) → IsTrue (is_size d) → FitsSigned w32 (h +ℤ d)
size-fits (pos h) (pos d) a b = record { sfits = grind (arith, ints, a, b) }
size-fits (pos h) (negsuc d) a b = cc
size-fits (negsuc h) (pos d) a b = cc
size-fits (negsuc h) (negsuc d) a b = cc

one-fits : (h : ℤ) → IsTrue (is_size h) → FitsSigned w32 h
one-fits (pos h) a = record { sfits = grind (arith, ints, a) }
one-fits (negsuc h) a = cc

-- a name, and the sizes of a box
sized : (name : List ℕ) (h d : ℤ) → IsTrue (is_name name && is_size h && is_size d) → (length name ≤ 63) × FitsSigned w32 (h +ℤ d)
sized name h d v =
    let parts = and_parts (is_name name && is_size h) (is_size d) v in
    let front = and_parts (is_name name) (is_size h) parts.0 in
    (name-short name front.0, size-fits h d front.1 parts.1)

-- the label of a box, rule, mark or note of a short name
short : (front name : List ℕ) → length front ≤ 100 → length name ≤ 63 → length (front ++ name) < 256
short front name f n = omega (arith, f, n, length-append front name)

leaf-kinds : (k : LeafKind) (n : ℕ) → IsTrue (is_leaf k) → WritableLeaves (plain_leaf (record { line = n; kind = k }) ∷ [])
leaf-kinds (leaves.Hbox name h d) n v = let s = sized name h d v in ((short (codes "box ") name (omega arith) s.0, s.1), tt)
leaf-kinds (leaves.Rule name h d) n v = let s = sized name h d v in ((short (codes "rule ") name (omega arith) s.0, s.1), tt)
leaf-kinds k n v = (tt, tt)

all-leaves : (ls : List Leaf) → IsTrue (list_all (λ l. is_leaf l.kind) ls) → WritableLeaves (map plain_leaf ls)
all-leaves [] v = tt
all-leaves (l ∷ ls) v = let parts = and_parts (is_leaf l.kind) (list_all (λ l. is_leaf l.kind) ls) v in ((leaf-kinds l.kind l.line parts.0).0, all-leaves ls parts.1)

-- the word of a place and of a side is short
where-short : (place : Where) → length (where_text place) ≤ 8
where-short places.Here = omega arith
where-short place = omega arith

side-short : (side : Side) → length (side_text side) ≤ 5
side-short sides.Left = omega arith
side-short sides.Right = omega arith

class-small : (k : ℕ) → IsTrue (is_between 1 26 k) → k < 100
class-small k v = grind (arith, v)

-- a float with such a class has bytes, and so has a title
named-writable : (f : Float) → IsTrue (is_name f.name) → f.class < 100 → IsTrue (is_size f.height) → WritableFloat f
named-writable f name k size =
    let n : length f.name ≤ 63 = name-short f.name name in
    let d : length (decimal f.class) ≤ 2 = length-decimal-le 2 f.class (omega arith) k (omega arith) in
    ((λ place. label place n d (f.class == 0)), one-fits f.height size)
  where
    label : (place : Where) → length f.name ≤ 63 → length (decimal f.class) ≤ 2 → (b : Bool) → length (if b then codes "head " ++ f.name else codes "float " ++ f.name ++ and_count f.class ++ and_text (where_text place)) < 256
    label place n d true = omega (arith, n, length-append (codes "head ") f.name)
    label place n d false =
        let w = where-short place in
        omega (arith, n, d, w, length-append (codes "float " ++ f.name ++ and_count f.class) (and_text (where_text place)), length-append (codes "float " ++ f.name) (and_count f.class), length-append (codes "float ") f.name)

float-writable : (f : Float) → IsTrue (is_float f) → WritableFloat f
float-writable f v =
    let a = and_parts (is_name f.name && is_between 1 26 f.class && (f.places.h || f.places.t || f.places.b || f.places.p)) (is_size f.height) v in
    let b = and_parts (is_name f.name && is_between 1 26 f.class) (f.places.h || f.places.t || f.places.b || f.places.p) a.0 in
    let c = and_parts (is_name f.name) (is_between 1 26 f.class) b.0 in
    named-writable f c.0 (class-small f.class c.1) a.1

head-writable : (f : Float) → IsTrue (is_head f) → WritableFloat f
head-writable f v =
    let a = and_parts (is_name f.name && is_size f.height) ((f.class == 0) && f.wide && is_top_alone f.places && f.bang && not (f.deep || f.nobreak)) v in
    let b = and_parts (is_name f.name) (is_size f.height) a.0 in
    named-writable f b.0 (none-small f.class (first-of (f.class == 0) f.wide (is_top_alone f.places) f.bang (not (f.deep || f.nobreak)) a.1)) b.1
  where
    first-of : (a b c d e : Bool) → (a && b && c && d && e) ≡ true → a ≡ true
    first-of true b c d e h = refl
    first-of false b c d e h = h

    none-small : (k : ℕ) → (k == 0) ≡ true → k < 100
    none-small k e = grind (arith, nat_tests, e)

note-writable : (m : Margin) → IsTrue (is_margin m) → WritableNote m
note-writable m v =
    let a = and_parts (is_name m.name && is_size m.left_height && is_size m.left_depth && is_size m.right_height) (is_size m.right_depth) v in
    let b = and_parts (is_name m.name && is_size m.left_height && is_size m.left_depth) (is_size m.right_height) a.0 in
    let c = and_parts (is_name m.name && is_size m.left_height) (is_size m.left_depth) b.0 in
    let d = and_parts (is_name m.name) (is_size m.left_height) c.0 in
    ((λ side. label side (name-short m.name d.0)), by_side (size-fits m.left_height m.left_depth d.1 c.1) (size-fits m.right_height m.right_depth b.1 a.1))
  where
    label : (side : Side) → length m.name ≤ 63 → length (codes "margin " ++ m.name ++ and_text (side_text side)) < 256
    label side n = let w = side-short side in omega (arith, n, w, length-append (codes "margin " ++ m.name) (and_text (side_text side)), length-append (codes "margin ") m.name)

    by_side : FitsSigned w32 (m.left_height +ℤ m.left_depth) → FitsSigned w32 (m.right_height +ℤ m.right_depth) → (side : Side) → FitsSigned w32 (note_height side m +ℤ note_depth side m)
    by_side l r sides.Left = l
    by_side l r sides.Right = r

item-writable : (p : Params) (two : Bool) (n : ℕ) (k : ItemKind) → IsTrue (is_item n k) → WritableNodes (on_line n (item_kinds p two k))
item-writable p two n (items.Hbox name h d) v = let s = sized name h d v in ((short (codes "box ") name (omega arith) s.0, s.1), tt)
item-writable p two n (items.Rule name h d) v = let s = sized name h d v in ((short (codes "rule ") name (omega arith) s.0, s.1), tt)
item-writable p two n (items.Skip g) v = (tt, tt)
item-writable p two n (items.Kern w) v = (tt, tt)
item-writable p two n (items.Penalty q) v = (tt, tt)
item-writable p two n (items.Mark name) v = ((short (codes "mark ") name (omega arith) (name-short name v), tt), tt)
item-writable p two n (items.Note name) v = ((short (codes "note ") name (omega arith) (name-short name v), tt), tt)
item-writable p two n (items.Foot class ls) v = (all-leaves ls v, tt)
item-writable p two n (items.Enlarge by star) v = (enlarge-writable star, tt)
  where
    enlarge-writable : (t : Bool) → WritableLeaves (enlarge_list by t)
    enlarge-writable true = (tt, (tt, tt))
    enlarge-writable false = (tt, tt)
item-writable p two n (items.Float f vert) v = by_taking (has_second p && two && f.wide)
  where
    float : WritableFloat f
    float = float-writable f (and_parts (f.line == n) (is_float f) v).1

    by_taking : (t : Bool) → WritableNodes (on_line n (if t then act (acts.Take f) ∷ [] else with_firings (acts.Take f) vert))
    by_taking true = (float, tt)
    by_taking false = (float, (tt, (tt, (tt, tt))))
item-writable p two n (items.Margin m vert) v = (note-writable m (and_parts (m.line == n) (is_margin m) v).1, (tt, (tt, (tt, tt))))
item-writable p two n items.NewPage v = (tt, (tt, tt))
item-writable p two n items.ClearPage v = (tt, (tt, (tt, (tt, (tt, tt)))))
item-writable p two n (items.PageBreak q) v = (tt, tt)
item-writable p two n (items.NoPageBreak q) v = (tt, tt)
item-writable p two n items.OneColumn v = (tt, (tt, (tt, (tt, (tt, (tt, tt))))))
item-writable p two n items.TwoColumn v = (tt, (tt, (tt, (tt, (tt, (tt, tt))))))
item-writable p two n (items.Suppress area) v = (tt, tt)
item-writable p two n (items.Page k) v = let fits : k ≤ 1000000 = grind (arith, nat_tests, v) in (fits, tt)
item-writable p two n (items.Head f) v = (head-writable f (and_parts (f.line == n) (is_head f) v).1, tt)
item-writable p two n (items.Set c) v = (tt, tt)

items-writable : (p : Params) (two : Bool) (ns : List Item) → IsTrue (list_all (λ n. is_item n.line n.kind) ns) → WritableNodes (item_nodes p two ns)
items-writable p two [] v = tt
items-writable p two (n ∷ ns) v =
    let parts = and_parts (is_item n.line n.kind) (list_all (λ n. is_item n.line n.kind) ns) v in
    nodes-join (on_line n.line (item_kinds p two n.kind)) (item_nodes (params_after p n.kind) (two_after two n.kind) ns) (item-writable p two n.line n.kind parts.0) (items-writable (params_after p n.kind) (two_after two n.kind) ns parts.1)

expanded-writable : (g : Galley) → IsValid g → WritableNodes (expanded g)
unfolding expanded
expanded-writable g v = nodes-join (item_nodes g.params false g.items) (on_line g.end_line clearpage_kinds) (items-writable g.params false g.items v.items) (tt, (tt, (tt, (tt, (tt, tt)))))

void : (cs : List Class) → WritableBoxes (void_boxes cs)
void [] = tt
void (c ∷ cs) = (tt, void cs)

foot-writable : (p : Params) → WritableClasses (foot_class p ∷ enlarging_class ∷ [])
foot-writable p = (tt, (tt, tt))

lines-writable : (version : ℕ) (p : Params) (cs : List ClassLine) → IsTrue (do_all_stand version cs) → WritableClasses (map class_of cs ++ foot_class p ∷ enlarging_class ∷ [])
lines-writable version p [] v = foot-writable p
lines-writable version p (c ∷ cs) v =
    let parts = and_parts (may_stand version c.below) (do_all_stand version cs) v in (standing-rule version c.below parts.0, lines-writable version p cs parts.1)

-- the classes of a valid galley have rules in their ranges
classes-writable : (g : Galley) → IsValid g → WritableClasses (classes_of g)
classes-writable g v = lines-writable g.version g.params g.classes v.standing

-- each page of the run of a valid galley has bytes
pub run-writable : (g : Galley) → IsValid g → WritableEvents (run_of g).events
run-writable g v =
    let start : WritableState (first_state g.params (classes_of g) (expanded g)) = (expanded-writable g v, void (classes_of g), tt, (tt, tt, tt, tt, tt, tt), tt, omega arith, classes-writable g v) in
    run-holds (with_ranges writing) (galley-is g) (v.params, start)
