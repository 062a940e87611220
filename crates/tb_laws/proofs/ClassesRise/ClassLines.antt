-- The lines of the floats of a kind, in their order in lists, columns, pages and events.
use Rattle.std.proofs.Common.{◌≡◌, refl, sym, ◌∙◌, ap, ℕ, ◌==◌, ℤ, Bool, true, false, cond, List, [], ◌∷◌, ◌++◌, map, length, Option, Some, None, append_assoc, append-nil, unwrap_or}
use Rattle.std.specs.Prelude.{◌&&◌, if◌then◌else◌}
use Rattle.std.specs.List.{AllByRecursion}
use Rattle.tb_scaled.specs.declared.Glue.{Glue}
use Rattle.tb_scaled.specs.Glue.{negated_glue}
use Rattle.tb_node.specs.declared.RuleOf.{RuleOf}
use Rattle.tb_node.specs.declared.RuleOf.TheVariants.{Footnotes, Floats}
use Rattle.tb_node.specs.declared.What.TheVariants as what
use Rattle.tb_node.specs.declared.Where.{Where}
use Rattle.tb_node.specs.declared.Where.TheVariants as places
use Rattle.tb_node.specs.declared.Float.{Float}
use Rattle.tb_node.specs.PlainNodes.{hbox, skip, made, Leaf, leaf_node, PlainKind, plain, PlainNode, node_shape}
use Rattle.tb_param.specs.declared.Params.{Params}
use Rattle.tb_param.specs.declared.Rule.{Rule}
use Rattle.tb_param.specs.Release.{has_second}
use Rattle.tb_float.specs.declared.Suppress.{Suppress}
use Rattle.tb_float.specs.declared.Part.{Part}
use Rattle.tb_float.specs.declared.Part.TheVariants as parts
use Rattle.tb_float.specs.Lists.{FloatLists, floats_among, IsWaiting, floats_of, wide_part, of_class}
use Rattle.tb_area.specs.Deferred.{filled, doubled}
use Rattle.tb_area.proofs.OrderLemmas.{fill-order, double-order}
use Rattle.tb_fpage.specs.declared.Wanted.{Wanted}
use Rattle.tb_fpage.specs.Company.{Choice, company, chosen_floats, left_floats}
use Rattle.tb_fpage.proofs.LawLemmas.{order-company}
use Rattle.tb_column.specs.declared.Enlarged.{Enlarged}
use Rattle.tb_column.specs.Column.{Notes, is_no_glue, glue_if_any, rule_if_any, kern_if_any, is_below, foot_kern, feet_above, above_class, class_below, PlainColumn, floats_with, floats_above, floats_below, notes_below, notes_among, text_above_feet, with_feet, with_bottoms, with_below, text_nodes, closing_glue, text_column, floats_after, floats_column}
use Rattle.tb_column.proofs.ColumnParts.{among-have}
use Rattle.tb_sheet.specs.Sheet.{PlainSheet, PlainSent, warned, shipped, one, wide, two}

-- by where they wait: in release 2015 all wait among the deferred ones; in release 2014 the wide ones wait in the second list, and the others do not
pub data Side : Type 0 where
  alike : Side
  narrow : Side
  wider : Side

-- a kind of floats, within which order is kept: those of a class, on lines of which something holds (of all lines, if the class alone counts)
pub record FloatKind : Type 0 where
  pub class : ℕ
  pub has : ℕ → Bool
  pub side : Side

-- a float of this class and line is of the kind
abbrev pub is_of : FloatKind → ℕ → ℕ → Bool
is_of k class line = (class == k.class) && k.has line

-- the line, if a test holds
abbrev pub line_if : Bool → ℕ → List ℕ
line_if true n = n ∷ []
line_if false n = []

-- the line of a float's box, if it is of the kind
abbrev pub kind_lines : FloatKind → PlainKind → List ℕ
kind_lines k (plain (hbox (what.Float name class place item) h d)) = line_if (is_of k class item) item
kind_lines k _ = []

abbrev pub class_lines : FloatKind → List PlainNode → List ℕ
class_lines k [] = []
class_lines k (n ∷ ns) = kind_lines k n.kind ++ class_lines k ns

abbrev pub float_lines : FloatKind → List Float → List ℕ
float_lines k [] = []
float_lines k (f ∷ fs) = line_if (is_of k f.class f.line) f.line ++ float_lines k fs

-- ---- lists that wait

-- the floats that wait for a later column or page
abbrev pub waits : FloatLists → List Float
waits l = l.deferred ++ l.second

-- by the side of the kind: in release 2015 none is in the second list; in release 2014 a kind of wide floats has none among those for a column, and another none above two columns and in the second list
abbrev pub PartedBy : Side → FloatKind → FloatLists → Type 0
PartedBy alike k l = l.second ≡ []
PartedBy narrow k l = (float_lines k l.double ≡ []) × (float_lines k l.second ≡ [])
PartedBy wider k l = (float_lines k (floats_among l.current) ≡ []) × (float_lines k (l.top ++ l.bottom ++ l.deferred) ≡ [])

abbrev pub Parted : FloatKind → FloatLists → Type 0
Parted k l = PartedBy k.side k l

-- the list from which wide floats go, by the side
abbrev pub WideFrom : Side → Part → Type 0
WideFrom alike parts.Deferred = Unit {0}
WideFrom narrow parts.Second = Unit {0}
WideFrom wider parts.Second = Unit {0}
WideFrom alike parts.Current = ⊥
WideFrom alike parts.Here = ⊥
WideFrom alike parts.Top = ⊥
WideFrom alike parts.Bottom = ⊥
WideFrom alike parts.Double = ⊥
WideFrom alike parts.Second = ⊥
WideFrom narrow parts.Current = ⊥
WideFrom narrow parts.Here = ⊥
WideFrom narrow parts.Top = ⊥
WideFrom narrow parts.Bottom = ⊥
WideFrom narrow parts.Double = ⊥
WideFrom narrow parts.Deferred = ⊥
WideFrom wider parts.Current = ⊥
WideFrom wider parts.Here = ⊥
WideFrom wider parts.Top = ⊥
WideFrom wider parts.Bottom = ⊥
WideFrom wider parts.Double = ⊥
WideFrom wider parts.Deferred = ⊥

-- the kind is one of the release
abbrev pub is_new : Side → Bool
is_new alike = false
is_new narrow = true
is_new wider = true

abbrev pub IsReleased : FloatKind → Params → Type 0
IsReleased k p = has_second p ≡ is_new k.side

pub wide-from : (k : FloatKind) (p : Params) → IsReleased k p → WideFrom k.side (wide_part p)
wide-from k p r = by_side (has_second p) k.side r
  where
    by_side : (t : Bool) (d : Side) → t ≡ is_new d → WideFrom d (if t then parts.Second else parts.Deferred)
    by_side true alike e = cc
    by_side false alike e = tt
    by_side true narrow e = tt
    by_side false narrow e = cc
    by_side true wider e = tt
    by_side false wider e = cc

abbrev pub left_lines : FloatKind → Option PlainColumn → List ℕ
left_lines k None = []
left_lines k (Some c) = class_lines k c.nodes

-- the double floats of a page come first, and then its columns from left to right
abbrev pub sheet_lines : FloatKind → PlainSheet → List ℕ
sheet_lines k (one c) = class_lines k c.nodes
sheet_lines k (wide c) = class_lines k c.nodes
sheet_lines k (two tops at left right) = class_lines k tops ++ (class_lines k left.nodes ++ class_lines k right.nodes)

abbrev pub sent_lines : FloatKind → List PlainSent → List ℕ
sent_lines k [] = []
sent_lines k (warned w ∷ es) = sent_lines k es
sent_lines k (shipped page sheet ∷ es) = sheet_lines k sheet ++ sent_lines k es

-- ---- lists joined

pub lines-append : (k : FloatKind) (xs ys : List PlainNode) → class_lines k (xs ++ ys) ≡ class_lines k xs ++ class_lines k ys
lines-append k [] ys = refl
lines-append k (x ∷ xs) ys = ap (λ l. kind_lines k x.kind ++ l) (lines-append k xs ys) ∙ sym (append_assoc (kind_lines k x.kind) (class_lines k xs) (class_lines k ys))

pub floats-append : (k : FloatKind) (xs ys : List Float) → float_lines k (xs ++ ys) ≡ float_lines k xs ++ float_lines k ys
floats-append k [] ys = refl
floats-append k (x ∷ xs) ys = ap (λ l. line_if (is_of k x.class x.line) x.line ++ l) (floats-append k xs ys) ∙ sym (append_assoc (line_if (is_of k x.class x.line) x.line) (float_lines k xs) (float_lines k ys))

pub sent-append : (k : FloatKind) (xs ys : List PlainSent) → sent_lines k (xs ++ ys) ≡ sent_lines k xs ++ sent_lines k ys
sent-append k [] ys = refl
sent-append k (warned w ∷ xs) ys = sent-append k xs ys
sent-append k (shipped page sheet ∷ xs) ys = ap (λ l. sheet_lines k sheet ++ l) (sent-append k xs ys) ∙ sym (append_assoc (sheet_lines k sheet) (sent_lines k xs) (sent_lines k ys))

-- ---- the floats of a class

filtered-lines : (k : FloatKind) (fs : List Float) → float_lines k fs ≡ float_lines k (of_class k.class fs)
filtered-lines k [] = refl
filtered-lines k (f ∷ fs) = by_test (f.class == k.class) refl (filtered-lines k fs)
  where
    by_test : (t : Bool) → (f.class == k.class) ≡ t → float_lines k fs ≡ float_lines k (of_class k.class fs) → line_if ((f.class == k.class) && k.has f.line) f.line ++ float_lines k fs ≡ float_lines k (cond t (f ∷ of_class k.class fs) (of_class k.class fs))
    by_test true e h = ap (λ l. line_if ((f.class == k.class) && k.has f.line) f.line ++ l) h
    by_test false e h = ap (λ t. line_if (t && k.has f.line) f.line ++ float_lines k fs) e ∙ h

-- floats in the same order of a class have the same lines
pub ordered-lines : (k : FloatKind) (fs gs : List Float) → of_class k.class fs ≡ of_class k.class gs → float_lines k fs ≡ float_lines k gs
ordered-lines k fs gs e = filtered-lines k fs ∙ ap (float_lines k) e ∙ sym (filtered-lines k gs)

-- the floats at the top, at the bottom and deferred keep their order when a column is filled
pub filled-lines : (k : FloatKind) (p : Params) (s : Suppress) (l : FloatLists) → let m = filled p s [] l.deferred l in float_lines k (m.top ++ m.bottom ++ m.deferred) ≡ float_lines k (l.top ++ l.bottom ++ l.deferred)
filled-lines k p s l = ordered-lines k _ _ (fill-order k.class p s l)

-- so do the double ones and those of the list from which the space above two columns is filled
pub doubled-lines : (from : Part) → IsWaiting from → (k : FloatKind) (p : Params) (s : Suppress) (l : FloatLists) → let m = doubled from p s [] (floats_of from l) l in float_lines k (m.double ++ floats_of from m) ≡ float_lines k (l.double ++ floats_of from l)
doubled-lines from i k p s l = ordered-lines k _ _ (double-order from i k.class p s l)

-- a company comes before the floats that are left
pub company-lines : (k : FloatKind) (z : Wanted) (fs : List Float) (cs : List Choice) → company z fs ≡ Some cs → float_lines k fs ≡ float_lines k (chosen_floats cs) ++ float_lines k (left_floats cs)
company-lines k z fs cs is =
    filtered-lines k fs
    ∙ ap (float_lines k) (order-company z fs cs (chosen_floats cs) (left_floats cs) is refl refl k.class)
    ∙ floats-append k (of_class k.class (chosen_floats cs)) (of_class k.class (left_floats cs))
    ∙ ap (λ l. l ++ float_lines k (of_class k.class (left_floats cs))) (sym (filtered-lines k (chosen_floats cs)))
    ∙ ap (λ l. float_lines k (chosen_floats cs) ++ l) (sym (filtered-lines k (left_floats cs)))

-- ---- columns

floats_with-lines : (k : FloatKind) (place : Where) (sep : Glue) (fs : List Float) → class_lines k (floats_with place sep fs) ≡ float_lines k fs
floats_with-lines k place sep [] = refl
floats_with-lines k place sep (f ∷ fs) = ap (λ l. line_if (is_of k f.class f.line) f.line ++ l) (floats_with-lines k place sep fs)

-- rules, glue and kerns are no floats
across-lines : (k : FloatKind) (of : RuleOf) (r : Option Rule) → class_lines k (rule_if_any of r) ≡ []
across-lines k of None = refl
across-lines k of (Some r) = refl

glue-lines : (k : FloatKind) (g : Glue) → class_lines k (glue_if_any g) ≡ []
glue-lines k g = by_test (is_no_glue g)
  where
    by_test : (t : Bool) → class_lines k (if t then [] else made (skip g) ∷ []) ≡ []
    by_test true = refl
    by_test false = refl

kern-lines : (k : FloatKind) (kern : Option ℤ) → class_lines k (kern_if_any kern) ≡ []
kern-lines k None = refl
kern-lines k (Some w) = refl

-- a list with one behind it that has no floats, and the other way round
lines-front : (k : FloatKind) (xs ys : List PlainNode) → class_lines k ys ≡ [] → class_lines k (xs ++ ys) ≡ class_lines k xs
lines-front k xs ys none = lines-append k xs ys ∙ ap (λ l. class_lines k xs ++ l) none ∙ append-nil (class_lines k xs)

lines-back : (k : FloatKind) (xs ys : List PlainNode) → class_lines k xs ≡ [] → class_lines k (xs ++ ys) ≡ class_lines k ys
lines-back k xs ys none = lines-append k xs ys ∙ ap (λ l. l ++ class_lines k ys) none

pub floats_above-lines : (k : FloatKind) (place : Where) (sep : Glue) (across : Option Rule) (last : Glue) (fs : List Float) → class_lines k (floats_above place sep across last fs) ≡ float_lines k fs
floats_above-lines k place sep across last [] = refl
floats_above-lines k place sep across last (f ∷ fs) =
    let gap = made (skip (negated_glue sep)) ∷ rule_if_any Floats across in
    lines-front k (floats_with place sep (f ∷ fs) ++ gap) (made (skip last) ∷ []) refl
    ∙ lines-front k (floats_with place sep (f ∷ fs)) gap (across-lines k Floats across)
    ∙ floats_with-lines k place sep (f ∷ fs)

floats_below-lines : (k : FloatKind) (place : Where) (sep : Glue) (across : Option Rule) (first : Glue) (fs : List Float) → class_lines k (floats_below place sep across first fs) ≡ float_lines k fs
floats_below-lines k place sep across first [] = refl
floats_below-lines k place sep across first (f ∷ fs) =
    let gap = made (skip first) ∷ rule_if_any Floats across in
    lines-front k (gap ++ floats_with place sep (f ∷ fs)) (made (skip (negated_glue sep)) ∷ []) refl
    ∙ lines-back k gap (floats_with place sep (f ∷ fs)) (across-lines k Floats across)
    ∙ floats_with-lines k place sep (f ∷ fs)

floats_after-lines : (k : FloatKind) (sep : Glue) (fs : List Float) → class_lines k (floats_after sep fs) ≡ float_lines k fs
floats_after-lines k sep [] = refl
floats_after-lines k sep (f ∷ fs) = ap (λ l. line_if (is_of k f.class f.line) f.line ++ l) (floats_after-lines k sep fs)

pub floats_column-lines : (k : FloatKind) (height : ℤ) (above between below : Glue) (fs : List Float) → class_lines k (floats_column height above between below fs).nodes ≡ float_lines k fs
floats_column-lines k height above between below fs = lines-append k (floats_after between fs) _ ∙ append-nil (class_lines k (floats_after between fs)) ∙ floats_after-lines k between fs

-- a leaf that is no float's box
abbrev pub IsFloatless : FloatKind → Leaf → Type 0
IsFloatless k l = kind_lines k (plain l.matter) ≡ []

abbrev pub AreFloatless : FloatKind → List Leaf → Type 0
AreFloatless k ls = AllByRecursion (IsFloatless k) ls

leaves-lines : (k : FloatKind) (ls : List Leaf) → AreFloatless k ls → class_lines k (map leaf_node ls) ≡ []
leaves-lines k [] h = refl
leaves-lines k (l ∷ ls) h = ap (λ x. x ++ class_lines k (map leaf_node ls)) h.0 ∙ leaves-lines k ls h.1

-- insertions of all classes that hold no float's box
abbrev pub NotesFloatless : FloatKind → List Notes → Type 0
NotesFloatless k = AllByRecursion (λ n. AreFloatless k n.inner)

feet-lines : (k : FloatKind) (p : Params) (kern : Option ℤ) → class_lines k (feet_above p kern) ≡ []
feet-lines k p kern =
    lines-front k (kern_if_any kern ++ glue_if_any p.footfill) (made (skip p.skipfootins) ∷ rule_if_any Footnotes p.footrule) (across-lines k Footnotes p.footrule)
    ∙ lines-front k (kern_if_any kern) (glue_if_any p.footfill) (glue-lines k p.footfill)
    ∙ kern-lines k kern

class_below-lines : (k : FloatKind) (p : Params) (kern : Option ℤ) (n : Notes) → AreFloatless k n.inner → class_lines k (class_below p kern n) ≡ []
class_below-lines k p kern n h = by_class (n.class == 254)
  where
    by_class : (t : Bool) → class_lines k (if t then feet_above p kern ++ map leaf_node n.inner else above_class n.skip n.below ++ map leaf_node n.inner) ≡ []
    by_class true = lines-back k (feet_above p kern) (map leaf_node n.inner) (feet-lines k p kern) ∙ leaves-lines k n.inner h
    by_class false = lines-back k (above_class n.skip n.below) (map leaf_node n.inner) (across-lines k Footnotes (unwrap_or n.below None)) ∙ leaves-lines k n.inner h

notes_below-lines : (k : FloatKind) (p : Params) (kern : Option ℤ) (ns : List Notes) → NotesFloatless k ns → class_lines k (notes_below p kern ns) ≡ []
notes_below-lines k p kern [] h = refl
notes_below-lines k p kern (n ∷ ns) h = lines-back k (class_below p kern n) (notes_below p kern ns) (class_below-lines k p kern n h.0) ∙ notes_below-lines k p kern ns h.1

module _ (k : FloatKind) (p : Params) (l : FloatLists) (notes : List Notes) (h : NotesFloatless k notes) where
  feet-none : (kern : Option ℤ) (feet : Bool) → class_lines k (notes_below p kern (notes_among feet notes)) ≡ []
  feet-none kern feet = notes_below-lines k p kern (notes_among feet notes) (among-have (λ n. AreFloatless k n.inner) feet notes h)

  with_feet-lines : (ns : List PlainNode) → class_lines k (with_feet p l notes ns) ≡ class_lines k ns
  with_feet-lines ns = lines-front k ns (notes_below p (foot_kern p (length l.bottom) (map node_shape ns)) (notes_among true notes)) (feet-none (foot_kern p (length l.bottom) (map node_shape ns)) true)

  with_bottoms-lines : (ns : List PlainNode) → class_lines k (with_bottoms p l ns) ≡ class_lines k ns ++ float_lines k l.bottom
  with_bottoms-lines ns =
      lines-append k ns (floats_below places.Bottom p.floatsep p.bottomrule p.textfloatsep l.bottom)
      ∙ ap (λ x. class_lines k ns ++ x) (floats_below-lines k places.Bottom p.floatsep p.bottomrule p.textfloatsep l.bottom)

  with_below-lines : (ns : List PlainNode) → class_lines k (with_below p l notes ns) ≡ class_lines k ns ++ float_lines k l.bottom
  with_below-lines ns = by_place (is_below p.footplace)
    where
      by_place : (t : Bool) → class_lines k (if t then with_feet p l notes (with_bottoms p l ns) else with_bottoms p l (with_feet p l notes ns)) ≡ class_lines k ns ++ float_lines k l.bottom
      by_place true = with_feet-lines (with_bottoms p l ns) ∙ with_bottoms-lines ns
      by_place false = with_bottoms-lines (with_feet p l notes ns) ∙ ap (λ x. x ++ float_lines k l.bottom) (with_feet-lines ns)

  text_above-lines : (body : List PlainNode) → class_lines k (text_above_feet p l body notes) ≡ float_lines k l.top ++ class_lines k body
  text_above-lines body =
      let tops = floats_above places.Top p.floatsep p.toprule p.textfloatsep l.top in
      lines-front k (glue_if_any p.texttop ++ (tops ++ body)) (notes_below p None (notes_among false notes)) (feet-none None false)
      ∙ lines-back k (glue_if_any p.texttop) (tops ++ body) (glue-lines k p.texttop)
      ∙ lines-append k tops body
      ∙ ap (λ x. x ++ class_lines k body) (floats_above-lines k places.Top p.floatsep p.toprule p.textfloatsep l.top)

-- a text column has the floats at the top, those in its text, and those at the bottom
pub text_column-lines : (k : FloatKind) (p : Params) (l : FloatLists) (body : List PlainNode) (notes : List Notes) (higher : Enlarged) → NotesFloatless k notes → class_lines k (text_column p l body notes higher).nodes ≡ float_lines k l.top ++ (class_lines k body ++ float_lines k l.bottom)
text_column-lines k p l body notes higher h =
    let texts = text_nodes p l body notes in
    let last = made (skip (closing_glue p texts)) ∷ [] in
    lines-front k (texts ++ last) (glue_if_any p.textbottom) (glue-lines k p.textbottom)
    ∙ lines-front k texts last refl
    ∙ with_below-lines k p l notes h (text_above_feet p l body notes)
    ∙ ap (λ x. x ++ float_lines k l.bottom) (text_above-lines k p l notes h body)
    ∙ append_assoc (float_lines k l.top) (class_lines k body) (float_lines k l.bottom)
