-- Nodes that have bytes in a DVI file: the label of each is short, and the height of its rule has four bytes. The page
-- builder and the columns only move nodes of the galley, and make nodes that have bytes.
use Rattle.std.proofs.Common.{ℕ, ℤ, pos, negsuc, ◌≤ℤ◌, ◌+ℤ◌, ◌≤◌, ◌<◌, Bool, true, false, List, [], ◌∷◌, ◌++◌, length, map, filter, take, drop, Option, Some, None, FitsSigned, IfSome, arith, unwrap_or}
use Rattle.std.specs.Prelude.{◌==◌, not, if◌then◌else◌, codes}
use Rattle.std.specs.Int.{w32}
use Rattle.std.proofs.lemmas.Int.{ints}
use Rattle.std.specs.List.{AllByRecursion}
use Rattle.tb_break.proofs.EachLemmas.{all-join, all-take, all-drop}
use Rattle.tb_scaled.specs.declared.Glue.{Glue}
use Rattle.tb_scaled.specs.Glue.{negated_glue}
use Rattle.tb_node.specs.declared.RuleOf.TheVariants.{Footnotes, Floats}
use Rattle.tb_node.specs.Fit.{IsExtent}
use Rattle.tb_node.specs.declared.Act.{Act}
use Rattle.tb_node.specs.declared.Act.TheVariants as acts
use Rattle.tb_node.specs.declared.Float.{Float}
use Rattle.tb_node.specs.declared.Margin.{Margin}
use Rattle.tb_node.specs.declared.Side.{Side}
use Rattle.tb_node.specs.declared.Where.{Where}
use Rattle.tb_node.specs.declared.Where.TheVariants as places
use Rattle.tb_node.specs.PlainNodes.{Matter, hbox, rule, skip, kerned, pen, mark, note, whatsit, Leaf, leaf_node, Inserted, PlainKind, plain, ins, act, PlainNode, is_act_kind, is_insertion_kind, without_acts, without_insertions, on_line, node_shape, made}
use Rattle.tb_param.specs.declared.Params.{Params}
use Rattle.tb_param.specs.declared.Rule.{Rule}
use Rattle.tb_break.specs.Best.{Breakpoint, is_stop}
use Rattle.tb_break.specs.PageTop.{pruned_leaves, pruned_nodes}
use Rattle.tb_insert.specs.Terms.{Terms}
use Rattle.tb_insert.specs.Account.{Frozen, Labelled, Label, whole, split, late, label_of, labelled_with, labelled_from, labelled}
use Rattle.tb_builder.specs.Reach.{Reached, acted, tried, Reach, also_reached, page_place, stopped_at, reach_at_place, reach_at, reach_node, reach_from}
use Rattle.tb_builder.specs.FiredPages.{Boxed, Fired, page_break, from_break, spent_kind, with_spent_break, given_by, given_to, is_given, content_of, box_after, unless_empty, held_of, held_insertions, fired_by}
use Rattle.tb_float.specs.Lists.{FloatLists}
use Rattle.tb_margin.specs.Margin.{note_height, note_depth}
use Rattle.tb_report.specs.Lines.{float_label, side_text}
use Rattle.tb_text.specs.Fields.{and_text}
use Rattle.tb_column.specs.declared.Enlarged.{Enlarged}
use Rattle.tb_column.specs.Column.{Notes, is_no_glue, glue_if_any, rule_if_any, kern_if_any, foot_kern, floats_with, floats_above, floats_below, floats_after, floats_column, feet_above, above_class, class_below, notes_below, notes_among, text_above_feet, text_nodes, closing_glue, text_column, pair_floats, pair_rule}
use Rattle.tb_column.specs.Ranges.{IsSizedRule, AreColumnParams}
use Rattle.tb_column.proofs.ColumnParts.{below-has, among-have}
use Rattle.tb_sheet.specs.Sheet.{PlainSheet, one, wide, two}
use Rattle.tb_dvi.specs.Placement.{Spot, matter_spot}
use Rattle.tb_column.proofs.PageLemmas.{pair_rule-sized}

-- ---- what has bytes

abbrev pub WritableSpot : Option Spot → Type 0
WritableSpot None = Unit {0}
WritableSpot (Some s) = (length s.label < 256) × IfSome s.rule (λ height. FitsSigned w32 height)

abbrev pub WritableMatter : Matter → Type 0
WritableMatter m = WritableSpot (matter_spot m)

abbrev pub WritableLeaves : List Leaf → Type 0
WritableLeaves ls = AllByRecursion (λ l. WritableMatter l.matter) ls

-- a float has bytes wherever it is placed
abbrev pub WritableFloat : Float → Type 0
WritableFloat f = ((place : Where) → length (float_label f.name f.class place) < 256) × FitsSigned w32 f.height

abbrev pub WritableFloats : List Float → Type 0
WritableFloats fs = AllByRecursion WritableFloat fs

-- a marginal note has bytes on each side
abbrev pub WritableNote : Margin → Type 0
WritableNote m = ((side : Side) → length (codes "margin " ++ m.name ++ and_text (side_text side)) < 256) × ((side : Side) → FitsSigned w32 (note_height side m +ℤ note_depth side m))

abbrev pub WritableAct : Act → Type 0
WritableAct (acts.Take f) = WritableFloat f
WritableAct (acts.TakeMargin m) = WritableNote m
WritableAct (acts.Suppress area) = Unit {0}
WritableAct (acts.Page n) = n ≤ 1000000
WritableAct (acts.Head f) = WritableFloat f
WritableAct (acts.Columns pair) = Unit {0}
WritableAct (acts.Set c) = Unit {0}

abbrev pub WritableKind : PlainKind → Type 0
WritableKind (plain m) = WritableMatter m
WritableKind (ins i) = WritableLeaves i.inner
WritableKind (act a) = WritableAct a

abbrev pub WritableNodes : List PlainNode → Type 0
WritableNodes ns = AllByRecursion (λ n. WritableKind n.kind) ns

-- ---- lists

all-filtered : {X : Type 0} (P : X → Type 0) (f : X → Bool) (xs : List X) → AllByRecursion P xs → AllByRecursion P (filter f xs)
all-filtered P f [] h = tt
all-filtered P f (x ∷ xs) h = by_test (f x) (all-filtered P f xs h.1)
  where
    by_test : (t : Bool) → AllByRecursion P (filter f xs) → AllByRecursion P (if t then x ∷ filter f xs else filter f xs)
    by_test true k = (h.0, k)
    by_test false k = k

pub nodes-join : (xs ys : List PlainNode) → WritableNodes xs → WritableNodes ys → WritableNodes (xs ++ ys)
nodes-join xs ys h k = all-join (λ n. WritableKind n.kind) xs ys h k

pub nodes-take : (k : ℕ) (ns : List PlainNode) → WritableNodes ns → WritableNodes (take k ns)
nodes-take k ns h = all-take (λ n. WritableKind n.kind) k ns h

actless : (ns : List PlainNode) → WritableNodes ns → WritableNodes (without_acts ns)
actless ns h = all-filtered (λ n. WritableKind n.kind) (λ n. not (is_act_kind n.kind)) ns h

insertless : (ns : List PlainNode) → WritableNodes ns → WritableNodes (without_insertions ns)
insertless ns h = all-filtered (λ n. WritableKind n.kind) (λ n. not (is_insertion_kind n.kind)) ns h

leaves-join : (xs ys : List Leaf) → WritableLeaves xs → WritableLeaves ys → WritableLeaves (xs ++ ys)
leaves-join xs ys h k = all-join (λ l. WritableMatter l.matter) xs ys h k

leaf-nodes : (ls : List Leaf) → WritableLeaves ls → WritableNodes (map leaf_node ls)
leaf-nodes [] h = tt
leaf-nodes (l ∷ ls) h = (h.0, leaf-nodes ls h.1)

-- ---- the top of a page

leaf-pruned : (t : ℤ) (ls : List Leaf) → WritableLeaves ls → WritableLeaves (pruned_leaves t ls) → (n : ℕ) (m : Matter) → WritableMatter m → WritableLeaves (pruned_leaves t (record { line = n; matter = m } ∷ ls))
leaf-pruned t ls h k n (hbox w a d) g = (tt, (g, h))
leaf-pruned t ls h k n (rule of a d) g = (tt, (g, h))
leaf-pruned t ls h k n (mark name) g = (g, k)
leaf-pruned t ls h k n (note name) g = (g, k)
leaf-pruned t ls h k n whatsit g = (g, k)
leaf-pruned t ls h k n m g = k

leaves-pruned : (t : ℤ) (ls : List Leaf) → WritableLeaves ls → WritableLeaves (pruned_leaves t ls)
leaves-pruned t [] h = tt
leaves-pruned t (l ∷ ls) h = leaf-pruned t ls h.1 (leaves-pruned t ls h.1) l.line l.matter h.0

node-pruned : (t : ℤ) (ns : List PlainNode) → WritableNodes ns → WritableNodes (pruned_nodes t ns) → (n : ℕ) (k : PlainKind) → WritableKind k → WritableNodes (pruned_nodes t (record { line = n; kind = k } ∷ ns))
node-pruned t ns h k n (plain (hbox w a d)) g = (tt, (g, h))
node-pruned t ns h k n (plain (rule of a d)) g = (tt, (g, h))
node-pruned t ns h k n (plain (skip x)) g = k
node-pruned t ns h k n (plain (kerned w)) g = k
node-pruned t ns h k n (plain (pen p)) g = k
node-pruned t ns h k n x g = (g, k)

pub nodes-pruned : (t : ℤ) (ns : List PlainNode) → WritableNodes ns → WritableNodes (pruned_nodes t ns)
nodes-pruned t [] h = tt
nodes-pruned t (n ∷ ns) h = node-pruned t ns h.1 (nodes-pruned t ns h.1) n.line n.kind h.0

-- ---- what is reached

abbrev pub WritableReached : Reached → Type 0
WritableReached (acted a) = WritableAct a
WritableReached (tried line b) = Unit {0}

pub record WritableReach (w : Reach) : Type 0 where
  pub reached : AllByRecursion WritableReached w.reached
  pub passed : WritableNodes w.passed
  pub beyond : WritableNodes w.beyond

module _ (limit : ℤ) (terms : List PlainNode → Terms) where
  place-reached : (before : List PlainNode) (n : PlainNode) (rest : List PlainNode) (later : Reach) (b : Breakpoint) → WritableNodes before → WritableNodes (n ∷ rest) → WritableReach later → WritableReach (reach_at_place before n rest later b)
  place-reached before n rest later b front here h = by_stop (is_stop b)
    where
      by_stop : (t : Bool) → WritableReach (if t then stopped_at before n rest b else also_reached (tried n.line b) later)
      by_stop true = record { reached = (tt, tt); passed = front; beyond = here }
      by_stop false = record { reached = (tt, h.reached); passed = h.passed; beyond = h.beyond }

  at-reached : (before : List PlainNode) (n : PlainNode) (rest : List PlainNode) (later : Reach) (o : Option ℤ) → WritableNodes before → WritableNodes (n ∷ rest) → WritableReach later → WritableReach (reach_at limit terms before n rest later o)
  at-reached before n rest later None front here h = h
  at-reached before n rest later (Some p) front here h = place-reached before n rest later (page_place limit terms before p) front here h

  node-reached : (before : List PlainNode) (l : ℕ) (k : PlainKind) (rest : List PlainNode) (later : Reach) → WritableNodes before → WritableKind k → WritableNodes rest → WritableReach later → WritableReach (reach_node limit terms before (record { line = l; kind = k }) rest later k)
  node-reached before l (plain m) rest later front here behind h = at-reached before (record { line = l; kind = plain m }) rest later _ front (here, behind) h
  node-reached before l (ins i) rest later front here behind h = h
  node-reached before l (act a) rest later front here behind h = record { reached = (here, h.reached); passed = h.passed; beyond = h.beyond }

  pub reached-writable : (before rest : List PlainNode) → WritableNodes before → WritableNodes rest → WritableReach (reach_from limit terms before rest)
  reached-writable before [] front h = record { reached = tt; passed = front; beyond = tt }
  reached-writable before (n ∷ rest) front h =
      node-reached before n.line n.kind rest (reach_from limit terms (before ++ without_acts (n ∷ [])) rest) front h.0 h.1
      (reached-writable (before ++ without_acts (n ∷ [])) rest (nodes-join before (without_acts (n ∷ [])) front (actless (n ∷ []) (h.0, tt))) h.1)

-- ---- the insertions of a page

abbrev pub WritableLabels : List Labelled → Type 0
WritableLabels ls = AllByRecursion (λ l. WritableLeaves l.inserted.inner) ls

with-labelled : (z : Frozen) (ls : List Labelled) (before : List PlainNode) (line : ℕ) (k : PlainKind) → WritableLabels ls → WritableKind k → WritableLabels (labelled_with z ls before line k)
with-labelled z ls before line (plain m) h g = h
with-labelled z ls before line (ins i) h g = all-join (λ l. WritableLeaves l.inserted.inner) ls (record { index = length before; line = line; inserted = i; label = label_of z ls before i } ∷ []) h (g, tt)
with-labelled z ls before line (act a) h g = h

from-labelled : (z : Frozen) (ls : List Labelled) (before ns : List PlainNode) → WritableLabels ls → WritableNodes ns → WritableLabels (labelled_from z ls before ns)
from-labelled z ls before [] h g = h
from-labelled z ls before (n ∷ ns) h g = from-labelled z (labelled_with z ls before n.line n.kind) (before ++ n ∷ []) ns (with-labelled z ls before n.line n.kind h g.0) g.1

given : (t : Label) (i : Inserted) → WritableLeaves i.inner → WritableLeaves (given_by t i)
given whole i h = h
given (split f) i h = all-take (λ l. WritableMatter l.matter) f.index i.inner h
given late i h = tt

all-given : (k : ℕ) (ls : List Labelled) → WritableLabels ls → WritableLeaves (given_to k ls)
all-given k [] h = tt
all-given k (l ∷ ls) h = by_class (l.inserted.class == k) (all-given k ls h.1)
  where
    by_class : (t : Bool) → WritableLeaves (given_to k ls) → WritableLeaves (if t then given_by l.label l.inserted ++ given_to k ls else given_to k ls)
    by_class true g = leaves-join (given_by l.label l.inserted) (given_to k ls) (given l.label l.inserted h.0) g
    by_class false g = g

unless-empty : (line : ℕ) (i : Inserted) (ls : List Leaf) → WritableLeaves ls → WritableNodes (on_line line (unless_empty i ls))
unless-empty line i [] h = tt
unless-empty line i (l ∷ ls) h = (h, tt)

held : (line : ℕ) (t : Label) (i : Inserted) → WritableLeaves i.inner → WritableNodes (on_line line (held_of t i))
held line whole i h = tt
held line (split f) i h = unless-empty line i (pruned_leaves i.split_top (drop f.index i.inner)) (leaves-pruned i.split_top (drop f.index i.inner) (all-drop (λ l. WritableMatter l.matter) f.index i.inner h))
held line late i h = (h, tt)

all-held : (ls : List Labelled) → WritableLabels ls → WritableNodes (held_insertions ls)
all-held [] h = tt
all-held (l ∷ ls) h = nodes-join (on_line l.line (held_of l.label l.inserted)) (held_insertions ls) (held l.line l.label l.inserted h.0) (all-held ls h.1)

-- ---- the boxes of the classes

abbrev pub WritableContent : Option (List Leaf) → Type 0
WritableContent None = Unit {0}
WritableContent (Some ls) = WritableLeaves ls

abbrev pub WritableBoxes : List Boxed → Type 0
WritableBoxes bs = AllByRecursion (λ b. WritableContent b.content) bs

content-leaves : (o : Option (List Leaf)) → WritableContent o → WritableLeaves (content_of o)
content-leaves None h = tt
content-leaves (Some ls) h = h

box-given : (ls : List Labelled) (b : Boxed) → WritableLabels ls → WritableContent b.content → WritableContent (box_after ls b).content
box-given ls b h g = by_given (is_given b.number ls)
  where
    by_given : (t : Bool) → WritableContent (if t then record b { content = Some (content_of b.content ++ given_to b.number ls) } else b).content
    by_given true = leaves-join (content_of b.content) (given_to b.number ls) (content-leaves b.content g) (all-given b.number ls h)
    by_given false = g

boxes-given : (ls : List Labelled) (bs : List Boxed) → WritableLabels ls → WritableBoxes bs → WritableBoxes (map (box_after ls) bs)
boxes-given ls [] h g = tt
boxes-given ls (b ∷ bs) h g = (box-given ls b h g.0, boxes-given ls bs h g.1)

-- ---- the page that fires

spent : (k : PlainKind) → WritableKind k → WritableKind (spent_kind k)
spent (plain (pen p)) h = tt
spent k h = h

spent-break : (ns : List PlainNode) → WritableNodes ns → WritableNodes (with_spent_break ns)
spent-break [] h = tt
spent-break (n ∷ ns) h = (spent n.kind h.0, h.1)

pub record WritableFired (f : Fired) : Type 0 where
  pub body : WritableNodes f.body
  pub boxes : WritableBoxes f.boxes
  pub held : WritableNodes f.held
  pub rest : WritableNodes f.rest

pub fired-writable : (z : Frozen) (bs : List Boxed) (w : Reach) → WritableBoxes bs → WritableReach w → WritableFired (fired_by (labelled z (take (page_break w).place w.passed)) bs w)
fired-writable z bs w g h =
    let k = (page_break w).place in
    let before = nodes-take k w.passed h.passed in
    let ls = from-labelled z [] [] (take k w.passed) tt before in
    record {
      body = insertless (take k w.passed) before;
      boxes = boxes-given (labelled z (take k w.passed)) bs ls g;
      held = all-held (labelled z (take k w.passed)) ls;
      rest = spent-break (from_break w) (nodes-join (drop k w.passed) w.beyond (all-drop (λ n. WritableKind n.kind) k w.passed h.passed) h.beyond);
    }

-- ---- columns

pub floats-with : (place : Where) (sep : Glue) (fs : List Float) → WritableFloats fs → WritableNodes (floats_with place sep fs)
floats-with place sep [] h = tt
floats-with place sep (f ∷ fs) h = ((h.0.0 place, h.0.1), (tt, floats-with place sep fs h.1))

-- a rule of the parameters has bytes
rule-fits : (h : ℤ) → IsExtent h → FitsSigned w32 (h +ℤ pos 0)
rule-fits (pos h) k = let high : pos h ≤ℤ pos 1073741823 = k.high in record { sfits = grind (arith, ints, high) }
rule-fits (negsuc h) k = let low : pos 0 ≤ℤ negsuc h = k.low in let no : ⊥ = omega (arith, ints, low) in absurd no

foot-rule : (r : Option Rule) → IsSizedRule r → WritableNodes (rule_if_any Footnotes r)
foot-rule None h = tt
foot-rule (Some r) h = (tt, ((omega arith, rule-fits r.height h.1), (tt, tt)))

float-rule : (r : Option Rule) → IsSizedRule r → WritableNodes (rule_if_any Floats r)
float-rule None h = tt
float-rule (Some r) h = (tt, ((omega arith, rule-fits r.height h.1), (tt, tt)))

glue-if : (g : Glue) → WritableNodes (glue_if_any g)
glue-if g = by_test (is_no_glue g)
  where
    by_test : (t : Bool) → WritableNodes (if t then [] else made (skip g) ∷ [])
    by_test true = tt
    by_test false = (tt, tt)

kern-if : (kern : Option ℤ) → WritableNodes (kern_if_any kern)
kern-if None = tt
kern-if (Some w) = (tt, tt)

floats-above : (place : Where) (sep : Glue) (across : Option Rule) (last : Glue) (fs : List Float) → IsSizedRule across → WritableFloats fs → WritableNodes (floats_above place sep across last fs)
floats-above place sep across last [] r h = tt
floats-above place sep across last (f ∷ fs) r h =
    let gap = made (skip (negated_glue sep)) ∷ rule_if_any Floats across in
    nodes-join (floats_with place sep (f ∷ fs) ++ gap) _ (nodes-join (floats_with place sep (f ∷ fs)) gap (floats-with place sep (f ∷ fs) h) (tt, float-rule across r)) (tt, tt)

floats-below : (place : Where) (sep : Glue) (across : Option Rule) (first : Glue) (fs : List Float) → IsSizedRule across → WritableFloats fs → WritableNodes (floats_below place sep across first fs)
floats-below place sep across first [] r h = tt
floats-below place sep across first (f ∷ fs) r h =
    let gap = made (skip first) ∷ rule_if_any Floats across in
    nodes-join (gap ++ floats_with place sep (f ∷ fs)) _ (nodes-join gap (floats_with place sep (f ∷ fs)) (tt, float-rule across r) (floats-with place sep (f ∷ fs) h)) (tt, tt)

floats-after : (sep : Glue) (fs : List Float) → WritableFloats fs → WritableNodes (floats_after sep fs)
floats-after sep [] h = tt
floats-after sep (f ∷ fs) h = (tt, ((h.0.0 places.Page, h.0.1), floats-after sep fs h.1))

pub floats-column : (height : ℤ) (above between below : Glue) (fs : List Float) → WritableFloats fs → WritableNodes (floats_column height above between below fs).nodes
floats-column height above between below fs h = (tt, (tt, nodes-join (floats_after between fs) _ (floats-after between fs h) (tt, tt)))

-- insertions that have bytes, under a rule that has some
abbrev pub WritableClass : Notes → Type 0
WritableClass n = WritableLeaves n.inner × IsSizedRule (unwrap_or n.below None)

abbrev pub WritableNotes : List Notes → Type 0
WritableNotes ns = AllByRecursion WritableClass ns

class-notes : (p : Params) (ranges : AreColumnParams p) (kern : Option ℤ) (n : Notes) → WritableClass n → WritableNodes (class_below p kern n)
class-notes p ranges kern n h = by_class (n.class == 254)
  where
    feet : WritableNodes (feet_above p kern)
    feet = nodes-join (kern_if_any kern ++ glue_if_any p.footfill) _ (nodes-join (kern_if_any kern) (glue_if_any p.footfill) (kern-if kern) (glue-if p.footfill)) (tt, foot-rule p.footrule ranges.footrule)

    by_class : (t : Bool) → WritableNodes (if t then feet_above p kern ++ map leaf_node n.inner else above_class n.skip n.below ++ map leaf_node n.inner)
    by_class true = nodes-join (feet_above p kern) (map leaf_node n.inner) feet (leaf-nodes n.inner h.0)
    by_class false = nodes-join (above_class n.skip n.below) (map leaf_node n.inner) (tt, foot-rule (unwrap_or n.below None) h.1) (leaf-nodes n.inner h.0)

all-notes : (p : Params) (ranges : AreColumnParams p) (kern : Option ℤ) (ns : List Notes) → WritableNotes ns → WritableNodes (notes_below p kern ns)
all-notes p ranges kern [] h = tt
all-notes p ranges kern (n ∷ ns) h = nodes-join (class_below p kern n) (notes_below p kern ns) (class-notes p ranges kern n h.0) (all-notes p ranges kern ns h.1)

pub text-writable : (p : Params) → AreColumnParams p → (l : FloatLists) (body : List PlainNode) (notes : List Notes) (higher : Enlarged) → WritableFloats l.top → WritableFloats l.bottom → WritableNodes body → WritableNotes notes → WritableNodes (text_column p l body notes higher).nodes
text-writable p ranges l body notes higher top bottom h g =
    let texts = text_nodes p l body notes in
    let tops = floats_above places.Top p.floatsep p.toprule p.textfloatsep l.top in
    let bottoms = floats_below places.Bottom p.floatsep p.bottomrule p.textfloatsep l.bottom in
    let some = λ (feet : Bool). among-have WritableClass feet notes g in
    nodes-join (texts ++ made (skip (closing_glue p texts)) ∷ []) (glue_if_any p.textbottom)
    (nodes-join texts (made (skip (closing_glue p texts)) ∷ [])
    (below-has p l notes WritableNodes (text_above_feet p l body notes)
    (λ ns k. nodes-join ns _ k (all-notes p ranges (foot_kern p (length l.bottom) (map node_shape ns)) (notes_among true notes) (some true)))
    (λ ns k. nodes-join ns bottoms k (floats-below places.Bottom p.floatsep p.bottomrule p.textfloatsep l.bottom ranges.bottomrule bottom))
    (nodes-join (glue_if_any p.texttop ++ (tops ++ body)) (notes_below p None (notes_among false notes))
    (nodes-join (glue_if_any p.texttop) (tops ++ body) (glue-if p.texttop) (nodes-join tops body (floats-above places.Top p.floatsep p.toprule p.textfloatsep l.top ranges.toprule top) h))
    (all-notes p ranges None (notes_among false notes) (some false)))) (tt, tt))
    (glue-if p.textbottom)

pub pair-writable : (p : Params) → AreColumnParams p → (l : FloatLists) → WritableFloats l.double → WritableNodes (pair_floats p l)
pair-writable p ranges l h = floats-above places.Double p.dblfloatsep (pair_rule p l) p.dbltextfloatsep l.double (pair_rule-sized p l ranges.dblrule) h

abbrev pub WritableSheet : PlainSheet → Type 0
WritableSheet (one c) = WritableNodes c.nodes
WritableSheet (wide c) = WritableNodes c.nodes
WritableSheet (two tops at left right) = WritableNodes tops × WritableNodes left.nodes × WritableNodes right.nodes
