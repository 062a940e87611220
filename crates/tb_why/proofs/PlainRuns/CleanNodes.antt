-- Nodes whose names have no line feed. The page builder and the columns only move nodes of the galley, and make nodes that
-- have no name or that of a float.
use Rattle.std.proofs.Common.{ℕ, ℤ, Bool, true, false, List, [], ◌∷◌, ◌++◌, length, map, filter, take, drop, Option, Some, None, unwrap_or}
use Rattle.std.specs.Prelude.{◌==◌, not, if◌then◌else◌}
use Rattle.std.specs.List.{AllByRecursion}
use Rattle.tb_break.proofs.EachLemmas.{all-join, all-take, all-drop}
use Rattle.tb_scaled.specs.declared.Glue.{Glue}
use Rattle.tb_scaled.specs.Glue.{negated_glue}
use Rattle.tb_node.specs.declared.RuleOf.TheVariants.{Footnotes, Floats}
use Rattle.tb_node.specs.declared.Act.{Act}
use Rattle.tb_node.specs.declared.Act.TheVariants as acts
use Rattle.tb_node.specs.declared.Float.{Float}
use Rattle.tb_node.specs.declared.Margin.{Margin}
use Rattle.tb_node.specs.declared.Where.{Where}
use Rattle.tb_node.specs.declared.Where.TheVariants as places
use Rattle.tb_node.specs.PlainNodes.{Matter, hbox, rule, skip, kerned, pen, mark, note, whatsit, Leaf, leaf_node, Inserted, PlainKind, plain, ins, act, PlainNode, is_act_kind, is_insertion_kind, without_acts, without_insertions, on_line, node_shape, made}
use Rattle.tb_param.specs.declared.Params.{Params}
use Rattle.tb_param.specs.declared.Rule.{Rule}
use Rattle.tb_break.specs.Best.{Breakpoint, is_stop}
use Rattle.tb_break.specs.PageTop.{pruned_leaves, pruned_nodes}
use Rattle.tb_insert.specs.Terms.{Terms}
use Rattle.tb_insert.specs.Account.{Frozen, Labelled, Label, whole, split, late, label_of, labelled_with, labelled_from, labelled}
use Rattle.tb_builder.specs.Reach.{Reached, acted, tried, Reach, also_reached, page_place, stopped_at, reach_at_place, reach_at, reach_node, reach_from}
use Rattle.tb_builder.specs.FiredPages.{Boxed, Fired, page_break, from_break, spent_kind, with_spent_break, given_by, given_to, is_given, content_of, box_after, unless_empty, held_of, held_insertions, fired_by}
use Rattle.tb_float.specs.Lists.{FloatLists}
use Rattle.tb_column.specs.declared.Enlarged.{Enlarged}
use Rattle.tb_column.specs.Column.{Notes, is_enlarging, standing_notes, is_no_glue, glue_if_any, rule_if_any, kern_if_any, foot_kern, floats_with, floats_above, floats_below, floats_after, floats_column, feet_above, above_class, class_below, notes_below, notes_among, text_above_feet, text_nodes, closing_glue, text_column, pair_floats, pair_rule}
use Rattle.tb_column.proofs.ColumnParts.{below-has, among-have}
use Rattle.tb_sheet.specs.Sheet.{PlainSheet, one, wide, two}
use Rattle.tb_text.specs.Lines.{IsUnended}
use Rattle.tb_why.specs.PlainNames.{IsPlainMatter, IsPlainFloat}

-- ---- names without a line feed

abbrev pub CleanLeaves : List Leaf → Type 0
CleanLeaves ls = AllByRecursion (λ l. IsPlainMatter l.matter) ls

abbrev pub CleanFloats : List Float → Type 0
CleanFloats fs = AllByRecursion IsPlainFloat fs

abbrev pub CleanNote : Margin → Type 0
CleanNote m = IsUnended m.name

abbrev pub CleanAct : Act → Type 0
CleanAct (acts.Take f) = IsPlainFloat f
CleanAct (acts.TakeMargin m) = CleanNote m
CleanAct (acts.Suppress area) = Unit {0}
CleanAct (acts.Page n) = Unit {0}
CleanAct (acts.Set c) = Unit {0}
CleanAct (acts.Head f) = IsPlainFloat f
CleanAct (acts.Columns pair) = Unit {0}

abbrev pub CleanKind : PlainKind → Type 0
CleanKind (plain m) = IsPlainMatter m
CleanKind (ins i) = CleanLeaves i.inner
CleanKind (act a) = CleanAct a

abbrev pub CleanNodes : List PlainNode → Type 0
CleanNodes ns = AllByRecursion (λ n. CleanKind n.kind) ns

-- ---- lists

all-filtered : {X : Type 0} (P : X → Type 0) (f : X → Bool) (xs : List X) → AllByRecursion P xs → AllByRecursion P (filter f xs)
all-filtered P f [] h = tt
all-filtered P f (x ∷ xs) h = by_test (f x) (all-filtered P f xs h.1)
  where
    by_test : (t : Bool) → AllByRecursion P (filter f xs) → AllByRecursion P (if t then x ∷ filter f xs else filter f xs)
    by_test true k = (h.0, k)
    by_test false k = k

pub nodes-join : (xs ys : List PlainNode) → CleanNodes xs → CleanNodes ys → CleanNodes (xs ++ ys)
nodes-join xs ys h k = all-join (λ n. CleanKind n.kind) xs ys h k

pub nodes-take : (k : ℕ) (ns : List PlainNode) → CleanNodes ns → CleanNodes (take k ns)
nodes-take k ns h = all-take (λ n. CleanKind n.kind) k ns h

actless : (ns : List PlainNode) → CleanNodes ns → CleanNodes (without_acts ns)
actless ns h = all-filtered (λ n. CleanKind n.kind) (λ n. not (is_act_kind n.kind)) ns h

insertless : (ns : List PlainNode) → CleanNodes ns → CleanNodes (without_insertions ns)
insertless ns h = all-filtered (λ n. CleanKind n.kind) (λ n. not (is_insertion_kind n.kind)) ns h

leaves-join : (xs ys : List Leaf) → CleanLeaves xs → CleanLeaves ys → CleanLeaves (xs ++ ys)
leaves-join xs ys h k = all-join (λ l. IsPlainMatter l.matter) xs ys h k

leaf-nodes : (ls : List Leaf) → CleanLeaves ls → CleanNodes (map leaf_node ls)
leaf-nodes [] h = tt
leaf-nodes (l ∷ ls) h = (h.0, leaf-nodes ls h.1)

-- ---- the top of a page

leaf-pruned : (t : ℤ) (ls : List Leaf) → CleanLeaves ls → CleanLeaves (pruned_leaves t ls) → (n : ℕ) (m : Matter) → IsPlainMatter m → CleanLeaves (pruned_leaves t (record { line = n; matter = m } ∷ ls))
leaf-pruned t ls h k n (hbox w a d) g = (tt, (g, h))
leaf-pruned t ls h k n (rule of a d) g = (tt, (g, h))
leaf-pruned t ls h k n (mark name) g = (g, k)
leaf-pruned t ls h k n (note name) g = (g, k)
leaf-pruned t ls h k n whatsit g = (g, k)
leaf-pruned t ls h k n m g = k

leaves-pruned : (t : ℤ) (ls : List Leaf) → CleanLeaves ls → CleanLeaves (pruned_leaves t ls)
leaves-pruned t [] h = tt
leaves-pruned t (l ∷ ls) h = leaf-pruned t ls h.1 (leaves-pruned t ls h.1) l.line l.matter h.0

node-pruned : (t : ℤ) (ns : List PlainNode) → CleanNodes ns → CleanNodes (pruned_nodes t ns) → (n : ℕ) (k : PlainKind) → CleanKind k → CleanNodes (pruned_nodes t (record { line = n; kind = k } ∷ ns))
node-pruned t ns h k n (plain (hbox w a d)) g = (tt, (g, h))
node-pruned t ns h k n (plain (rule of a d)) g = (tt, (g, h))
node-pruned t ns h k n (plain (skip x)) g = k
node-pruned t ns h k n (plain (kerned w)) g = k
node-pruned t ns h k n (plain (pen p)) g = k
node-pruned t ns h k n x g = (g, k)

pub nodes-pruned : (t : ℤ) (ns : List PlainNode) → CleanNodes ns → CleanNodes (pruned_nodes t ns)
nodes-pruned t [] h = tt
nodes-pruned t (n ∷ ns) h = node-pruned t ns h.1 (nodes-pruned t ns h.1) n.line n.kind h.0

-- ---- what is reached

abbrev pub CleanReached : Reached → Type 0
CleanReached (acted a) = CleanAct a
CleanReached (tried line b) = Unit {0}

pub record CleanReach (w : Reach) : Type 0 where
  pub reached : AllByRecursion CleanReached w.reached
  pub passed : CleanNodes w.passed
  pub beyond : CleanNodes w.beyond

module _ (limit : ℤ) (terms : List PlainNode → Terms) where
  place-reached : (before : List PlainNode) (n : PlainNode) (rest : List PlainNode) (later : Reach) (b : Breakpoint) → CleanNodes before → CleanNodes (n ∷ rest) → CleanReach later → CleanReach (reach_at_place before n rest later b)
  place-reached before n rest later b front here h = by_stop (is_stop b)
    where
      by_stop : (t : Bool) → CleanReach (if t then stopped_at before n rest b else also_reached (tried n.line b) later)
      by_stop true = record { reached = (tt, tt); passed = front; beyond = here }
      by_stop false = record { reached = (tt, h.reached); passed = h.passed; beyond = h.beyond }

  at-reached : (before : List PlainNode) (n : PlainNode) (rest : List PlainNode) (later : Reach) (o : Option ℤ) → CleanNodes before → CleanNodes (n ∷ rest) → CleanReach later → CleanReach (reach_at limit terms before n rest later o)
  at-reached before n rest later None front here h = h
  at-reached before n rest later (Some p) front here h = place-reached before n rest later (page_place limit terms before p) front here h

  node-reached : (before : List PlainNode) (l : ℕ) (k : PlainKind) (rest : List PlainNode) (later : Reach) → CleanNodes before → CleanKind k → CleanNodes rest → CleanReach later → CleanReach (reach_node limit terms before (record { line = l; kind = k }) rest later k)
  node-reached before l (plain m) rest later front here behind h = at-reached before (record { line = l; kind = plain m }) rest later _ front (here, behind) h
  node-reached before l (ins i) rest later front here behind h = h
  node-reached before l (act a) rest later front here behind h = record { reached = (here, h.reached); passed = h.passed; beyond = h.beyond }

  pub reached-clean : (before rest : List PlainNode) → CleanNodes before → CleanNodes rest → CleanReach (reach_from limit terms before rest)
  reached-clean before [] front h = record { reached = tt; passed = front; beyond = tt }
  reached-clean before (n ∷ rest) front h =
      node-reached before n.line n.kind rest (reach_from limit terms (before ++ without_acts (n ∷ [])) rest) front h.0 h.1
      (reached-clean (before ++ without_acts (n ∷ [])) rest (nodes-join before (without_acts (n ∷ [])) front (actless (n ∷ []) (h.0, tt))) h.1)

-- ---- the insertions of a page

abbrev pub CleanLabels : List Labelled → Type 0
CleanLabels ls = AllByRecursion (λ l. CleanLeaves l.inserted.inner) ls

with-labelled : (z : Frozen) (ls : List Labelled) (before : List PlainNode) (line : ℕ) (k : PlainKind) → CleanLabels ls → CleanKind k → CleanLabels (labelled_with z ls before line k)
with-labelled z ls before line (plain m) h g = h
with-labelled z ls before line (ins i) h g = all-join (λ l. CleanLeaves l.inserted.inner) ls (record { index = length before; line = line; inserted = i; label = label_of z ls before i } ∷ []) h (g, tt)
with-labelled z ls before line (act a) h g = h

from-labelled : (z : Frozen) (ls : List Labelled) (before ns : List PlainNode) → CleanLabels ls → CleanNodes ns → CleanLabels (labelled_from z ls before ns)
from-labelled z ls before [] h g = h
from-labelled z ls before (n ∷ ns) h g = from-labelled z (labelled_with z ls before n.line n.kind) (before ++ n ∷ []) ns (with-labelled z ls before n.line n.kind h g.0) g.1

given : (t : Label) (i : Inserted) → CleanLeaves i.inner → CleanLeaves (given_by t i)
given whole i h = h
given (split f) i h = all-take (λ l. IsPlainMatter l.matter) f.index i.inner h
given late i h = tt

all-given : (k : ℕ) (ls : List Labelled) → CleanLabels ls → CleanLeaves (given_to k ls)
all-given k [] h = tt
all-given k (l ∷ ls) h = by_class (l.inserted.class == k) (all-given k ls h.1)
  where
    by_class : (t : Bool) → CleanLeaves (given_to k ls) → CleanLeaves (if t then given_by l.label l.inserted ++ given_to k ls else given_to k ls)
    by_class true g = leaves-join (given_by l.label l.inserted) (given_to k ls) (given l.label l.inserted h.0) g
    by_class false g = g

unless-empty : (line : ℕ) (i : Inserted) (ls : List Leaf) → CleanLeaves ls → CleanNodes (on_line line (unless_empty i ls))
unless-empty line i [] h = tt
unless-empty line i (l ∷ ls) h = (h, tt)

held : (line : ℕ) (t : Label) (i : Inserted) → CleanLeaves i.inner → CleanNodes (on_line line (held_of t i))
held line whole i h = tt
held line (split f) i h = unless-empty line i (pruned_leaves i.split_top (drop f.index i.inner)) (leaves-pruned i.split_top (drop f.index i.inner) (all-drop (λ l. IsPlainMatter l.matter) f.index i.inner h))
held line late i h = (h, tt)

all-held : (ls : List Labelled) → CleanLabels ls → CleanNodes (held_insertions ls)
all-held [] h = tt
all-held (l ∷ ls) h = nodes-join (on_line l.line (held_of l.label l.inserted)) (held_insertions ls) (held l.line l.label l.inserted h.0) (all-held ls h.1)

-- ---- the boxes of the classes

abbrev pub CleanContent : Option (List Leaf) → Type 0
CleanContent None = Unit {0}
CleanContent (Some ls) = CleanLeaves ls

abbrev pub CleanBoxes : List Boxed → Type 0
CleanBoxes bs = AllByRecursion (λ b. CleanContent b.content) bs

content-leaves : (o : Option (List Leaf)) → CleanContent o → CleanLeaves (content_of o)
content-leaves None h = tt
content-leaves (Some ls) h = h

box-given : (ls : List Labelled) (b : Boxed) → CleanLabels ls → CleanContent b.content → CleanContent (box_after ls b).content
box-given ls b h g = by_given (is_given b.number ls)
  where
    by_given : (t : Bool) → CleanContent (if t then record b { content = Some (content_of b.content ++ given_to b.number ls) } else b).content
    by_given true = leaves-join (content_of b.content) (given_to b.number ls) (content-leaves b.content g) (all-given b.number ls h)
    by_given false = g

boxes-given : (ls : List Labelled) (bs : List Boxed) → CleanLabels ls → CleanBoxes bs → CleanBoxes (map (box_after ls) bs)
boxes-given ls [] h g = tt
boxes-given ls (b ∷ bs) h g = (box-given ls b h g.0, boxes-given ls bs h g.1)

-- ---- the page that fires

spent : (k : PlainKind) → CleanKind k → CleanKind (spent_kind k)
spent (plain (pen p)) h = tt
spent k h = h

spent-break : (ns : List PlainNode) → CleanNodes ns → CleanNodes (with_spent_break ns)
spent-break [] h = tt
spent-break (n ∷ ns) h = (spent n.kind h.0, h.1)

pub record CleanFired (f : Fired) : Type 0 where
  pub body : CleanNodes f.body
  pub boxes : CleanBoxes f.boxes
  pub held : CleanNodes f.held
  pub rest : CleanNodes f.rest

pub fired-clean : (z : Frozen) (bs : List Boxed) (w : Reach) → CleanBoxes bs → CleanReach w → CleanFired (fired_by (labelled z (take (page_break w).place w.passed)) bs w)
fired-clean z bs w g h =
    let k = (page_break w).place in
    let before = nodes-take k w.passed h.passed in
    let ls = from-labelled z [] [] (take k w.passed) tt before in
    record {
      body = insertless (take k w.passed) before;
      boxes = boxes-given (labelled z (take k w.passed)) bs ls g;
      held = all-held (labelled z (take k w.passed)) ls;
      rest = spent-break (from_break w) (nodes-join (drop k w.passed) w.beyond (all-drop (λ n. CleanKind n.kind) k w.passed h.passed) h.beyond);
    }

-- ---- columns

pub floats-with : (place : Where) (sep : Glue) (fs : List Float) → CleanFloats fs → CleanNodes (floats_with place sep fs)
floats-with place sep [] h = tt
floats-with place sep (f ∷ fs) h = (h.0, (tt, floats-with place sep fs h.1))

foot-rule : (r : Option Rule) → CleanNodes (rule_if_any Footnotes r)
foot-rule None = tt
foot-rule (Some r) = (tt, (tt, (tt, tt)))

float-rule : (r : Option Rule) → CleanNodes (rule_if_any Floats r)
float-rule None = tt
float-rule (Some r) = (tt, (tt, (tt, tt)))

glue-if : (g : Glue) → CleanNodes (glue_if_any g)
glue-if g = by_test (is_no_glue g)
  where
    by_test : (t : Bool) → CleanNodes (if t then [] else made (skip g) ∷ [])
    by_test true = tt
    by_test false = (tt, tt)

kern-if : (kern : Option ℤ) → CleanNodes (kern_if_any kern)
kern-if None = tt
kern-if (Some w) = (tt, tt)

floats-above : (place : Where) (sep : Glue) (across : Option Rule) (last : Glue) (fs : List Float) → CleanFloats fs → CleanNodes (floats_above place sep across last fs)
floats-above place sep across last [] h = tt
floats-above place sep across last (f ∷ fs) h =
    let gap = made (skip (negated_glue sep)) ∷ rule_if_any Floats across in
    nodes-join (floats_with place sep (f ∷ fs) ++ gap) _ (nodes-join (floats_with place sep (f ∷ fs)) gap (floats-with place sep (f ∷ fs) h) (tt, float-rule across)) (tt, tt)

floats-below : (place : Where) (sep : Glue) (across : Option Rule) (first : Glue) (fs : List Float) → CleanFloats fs → CleanNodes (floats_below place sep across first fs)
floats-below place sep across first [] h = tt
floats-below place sep across first (f ∷ fs) h =
    let gap = made (skip first) ∷ rule_if_any Floats across in
    nodes-join (gap ++ floats_with place sep (f ∷ fs)) _ (nodes-join gap (floats_with place sep (f ∷ fs)) (tt, float-rule across) (floats-with place sep (f ∷ fs) h)) (tt, tt)

floats-after : (sep : Glue) (fs : List Float) → CleanFloats fs → CleanNodes (floats_after sep fs)
floats-after sep [] h = tt
floats-after sep (f ∷ fs) h = (tt, (h.0, floats-after sep fs h.1))

pub floats-column : (height : ℤ) (above between below : Glue) (fs : List Float) → CleanFloats fs → CleanNodes (floats_column height above between below fs).nodes
floats-column height above between below fs h = (tt, (tt, nodes-join (floats_after between fs) _ (floats-after between fs h) (tt, tt)))

abbrev pub CleanNotes : List Notes → Type 0
CleanNotes ns = AllByRecursion (λ n. CleanLeaves n.inner) ns

class-notes : (p : Params) (kern : Option ℤ) (n : Notes) → CleanLeaves n.inner → CleanNodes (class_below p kern n)
class-notes p kern n h = by_class (n.class == 254)
  where
    feet : CleanNodes (feet_above p kern)
    feet = nodes-join (kern_if_any kern ++ glue_if_any p.footfill) _ (nodes-join (kern_if_any kern) (glue_if_any p.footfill) (kern-if kern) (glue-if p.footfill)) (tt, foot-rule p.footrule)

    by_class : (t : Bool) → CleanNodes (if t then feet_above p kern ++ map leaf_node n.inner else above_class n.skip n.below ++ map leaf_node n.inner)
    by_class true = nodes-join (feet_above p kern) (map leaf_node n.inner) feet (leaf-nodes n.inner h)
    by_class false = nodes-join (above_class n.skip n.below) (map leaf_node n.inner) (tt, foot-rule (unwrap_or n.below None)) (leaf-nodes n.inner h)

all-notes : (p : Params) (kern : Option ℤ) (ns : List Notes) → CleanNotes ns → CleanNodes (notes_below p kern ns)
all-notes p kern [] h = tt
all-notes p kern (n ∷ ns) h = nodes-join (class_below p kern n) (notes_below p kern ns) (class-notes p kern n h.0) (all-notes p kern ns h.1)

pub text-clean : (p : Params) (l : FloatLists) (body : List PlainNode) (notes : List Notes) (e : Enlarged) → CleanFloats l.top → CleanFloats l.bottom → CleanNodes body → CleanNotes notes → CleanNodes (text_column p l body notes e).nodes
text-clean p l body notes e top bottom h g =
    let texts = text_nodes p l body notes in
    let tops = floats_above places.Top p.floatsep p.toprule p.textfloatsep l.top in
    let bottoms = floats_below places.Bottom p.floatsep p.bottomrule p.textfloatsep l.bottom in
    let some = λ (feet : Bool). among-have (λ n. CleanLeaves n.inner) feet notes g in
    nodes-join (texts ++ made (skip (closing_glue p texts)) ∷ []) (glue_if_any p.textbottom)
    (nodes-join texts (made (skip (closing_glue p texts)) ∷ [])
    (below-has p l notes CleanNodes (text_above_feet p l body notes)
    (λ ns k. nodes-join ns _ k (all-notes p (foot_kern p (length l.bottom) (map node_shape ns)) (notes_among true notes) (some true)))
    (λ ns k. nodes-join ns bottoms k (floats-below places.Bottom p.floatsep p.bottomrule p.textfloatsep l.bottom bottom))
    (nodes-join (glue_if_any p.texttop ++ (tops ++ body)) (notes_below p None (notes_among false notes))
    (nodes-join (glue_if_any p.texttop) (tops ++ body) (glue-if p.texttop) (nodes-join tops body (floats-above places.Top p.floatsep p.toprule p.textfloatsep l.top top) h))
    (all-notes p None (notes_among false notes) (some false)))) (tt, tt))
    (glue-if p.textbottom)

pub pair-clean : (p : Params) (l : FloatLists) → CleanFloats l.double → CleanNodes (pair_floats p l)
pair-clean p l h = floats-above places.Double p.dblfloatsep (pair_rule p l) p.dbltextfloatsep l.double h

-- what holds of all insertions holds of those that stand
pub standing-clean : (ns : List Notes) → CleanNotes ns → CleanNotes (standing_notes ns)
standing-clean [] h = tt
standing-clean (n ∷ ns) h = by_test (not (is_enlarging n)) (standing-clean ns h.1)
  where
    by_test : (b : Bool) → CleanNotes (standing_notes ns) → CleanNotes (if b then n ∷ standing_notes ns else standing_notes ns)
    by_test true k = (h.0, k)
    by_test false k = k

abbrev pub CleanSheet : PlainSheet → Type 0
CleanSheet (one c) = CleanNodes c.nodes
CleanSheet (wide c) = CleanNodes c.nodes
CleanSheet (two tops at left right) = CleanNodes tops × CleanNodes left.nodes × CleanNodes right.nodes
