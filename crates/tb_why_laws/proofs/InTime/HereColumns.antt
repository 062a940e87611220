-- Which floats are in a column: in a text column those that stand in its text and those of the top and bottom, in a column of
-- floats those of its company.
use Rattle.std.proofs.Common.{inl, inr, ◌⊎◌, ℕ, ℤ, Bool, true, false, List, [], ◌∷◌, ◌++◌, length, map, Option, Some, None, unwrap_or}
use Rattle.std.specs.Prelude.{◌==◌, if◌then◌else◌}
use Rattle.tb_scaled.specs.declared.Glue.{Glue}
use Rattle.tb_scaled.specs.Glue.{negated_glue}
use Rattle.tb_node.specs.declared.RuleOf.{RuleOf}
use Rattle.tb_node.specs.declared.RuleOf.TheVariants.{Footnotes, Floats}
use Rattle.tb_node.specs.declared.Float.{Float}
use Rattle.tb_node.specs.declared.What.TheVariants as what
use Rattle.tb_node.specs.declared.Where.{Where}
use Rattle.tb_node.specs.declared.Where.TheVariants as places
use Rattle.tb_node.specs.PlainNodes.{Matter, hbox, Leaf, leaf_node, PlainKind, plain, PlainNode, node_shape, made, skip}
use Rattle.tb_param.specs.declared.Params.{Params}
use Rattle.tb_param.specs.declared.Rule.{Rule}
use Rattle.tb_float.specs.Lists.{FloatLists}
use Rattle.tb_column.specs.declared.Enlarged.{Enlarged}
use Rattle.tb_column.specs.Column.{Notes, is_no_glue, glue_if_any, rule_if_any, kern_if_any, foot_kern, floats_with, floats_above, floats_below, feet_above, above_class, class_below, notes_below, notes_among, text_above_feet, text_nodes, closing_glue, text_column, floats_after, single_floats_column}
use Rattle.tb_column.proofs.ColumnParts.{among-have}
use Rattle.tb_column.proofs.ColumnParts as parts
use Rattle.tb_told.specs.Tales.{and_here, here_lines}
use Rattle.tb_why.specs.SummaryLaws.{IsNodeOf, HasFloat}
use Rattle.tb_laws.specs.Laws.{float_lines}
use Rattle.tb_laws.proofs.ClassesRise.RisingLists.{IsAmong}
use Rattle.tb_why_laws.proofs.InTime.HereNodes.{IsFloatless, FloatlessLeaves, IsHereKind, AllHere}
use Rattle.tb_why_laws.proofs.InTime.HereWorks.{FloatlessNotes}

-- a float of two lists is in one of them
pub has-parts : (n : ℕ) (place : Where) (xs ys : List PlainNode) → HasFloat n place (xs ++ ys) → HasFloat n place xs ⊎ HasFloat n place ys
has-parts n place [] ys i = inr i
has-parts n place (x ∷ xs) ys (inl a) = inl (inl a)
has-parts n place (x ∷ xs) ys (inr i) = by_part (has-parts n place xs ys i)
  where
    by_part : HasFloat n place xs ⊎ HasFloat n place ys → HasFloat n place (x ∷ xs) ⊎ HasFloat n place ys
    by_part (inl a) = inl (inr a)
    by_part (inr b) = inr b

-- ---- the text

-- in nodes in which each box of a float is in the text, it is among the floats that stand there
pub here-has : (n : ℕ) (place : Where) (ns : List PlainNode) → AllHere ns → HasFloat n place ns → IsAmong n (here_lines ns)
here-has n place [] h i = absurd i
here-has n place (m ∷ ms) h (inr i) = later m.kind (here-has n place ms h.1 i)
  where
    later : (k : PlainKind) → IsAmong n (here_lines ms) → IsAmong n (and_here k (here_lines ms))
    later (plain (hbox (what.Float name class places.Here item) a d)) j = inr j
    later k j = j
here-has n place (m ∷ ms) h (inl i) = this m.kind h.0 i
  where
    this : (k : PlainKind) → IsHereKind k → IsNodeOf n place k → IsAmong n (and_here k (here_lines ms))
    this (plain (hbox (what.Float name class places.Here item) a d)) g j = inl j.1
    this (plain (hbox (what.Float name class at item) a d)) g j = cc
    this (plain (hbox w a d)) g j = absurd j
    this k g j = absurd j

-- ---- the insertions

leaves-none : (n : ℕ) (place : Where) (ls : List Leaf) → FloatlessLeaves ls → HasFloat n place (map leaf_node ls) → ⊥
leaves-none n place [] h i = i
leaves-none n place (l ∷ ls) h (inr i) = leaves-none n place ls h.1 i
leaves-none n place (l ∷ ls) h (inl i) = this l.matter h.0 i
  where
    this : (m : Matter) → IsFloatless m → IsNodeOf n place (plain m) → ⊥
    this (hbox (what.Float name class at item) a d) g j = g
    this (hbox w a d) g j = j
    this m g j = j

-- rules, glue and kerns are no floats
rule-none : (n : ℕ) (place : Where) (of : RuleOf) (r : Option Rule) → HasFloat n place (rule_if_any of r) → ⊥
rule-none n place of None i = i
rule-none n place of (Some r) (inl i) = i
rule-none n place of (Some r) (inr (inl i)) = i
rule-none n place of (Some r) (inr (inr (inl i))) = i
rule-none n place of (Some r) (inr (inr (inr i))) = i

glue-none : (n : ℕ) (place : Where) (g : Glue) → HasFloat n place (glue_if_any g) → ⊥
glue-none n place g i = by_test (is_no_glue g) i
  where
    by_test : (t : Bool) → HasFloat n place (if t then [] else made (skip g) ∷ []) → ⊥
    by_test true j = j
    by_test false (inl j) = j
    by_test false (inr j) = j

kern-none : (n : ℕ) (place : Where) (kern : Option ℤ) → HasFloat n place (kern_if_any kern) → ⊥
kern-none n place None i = i
kern-none n place (Some w) (inl i) = i
kern-none n place (Some w) (inr i) = i

-- a glue and a rule behind it
gap-none : (n : ℕ) (place : Where) (g : Glue) (of : RuleOf) (r : Option Rule) → HasFloat n place (made (skip g) ∷ rule_if_any of r) → ⊥
gap-none n place g of r (inl i) = i
gap-none n place g of r (inr i) = rule-none n place of r i

-- neither of two lists has a float
neither : (n : ℕ) (place : Where) (xs ys : List PlainNode) → (HasFloat n place xs → ⊥) → (HasFloat n place ys → ⊥) → HasFloat n place (xs ++ ys) → ⊥
neither n place xs ys a b i = by_part (has-parts n place xs ys i)
  where
    by_part : HasFloat n place xs ⊎ HasFloat n place ys → ⊥
    by_part (inl j) = a j
    by_part (inr j) = b j

feet-none : (n : ℕ) (place : Where) (p : Params) (kern : Option ℤ) → HasFloat n place (feet_above p kern) → ⊥
feet-none n place p kern i =
    neither n place (kern_if_any kern ++ glue_if_any p.footfill) _ (λ j. neither n place (kern_if_any kern) (glue_if_any p.footfill) (λ k. kern-none n place kern k) (λ k. glue-none n place p.footfill k) j)
    (λ j. gap-none n place p.skipfootins Footnotes p.footrule j) i

class-none : (n : ℕ) (place : Where) (p : Params) (kern : Option ℤ) (c : Notes) → FloatlessLeaves c.inner → HasFloat n place (class_below p kern c) → ⊥
class-none n place p kern c h i = by_class (c.class == 254) i
  where
    by_class : (t : Bool) → HasFloat n place (if t then feet_above p kern ++ map leaf_node c.inner else above_class c.skip c.below ++ map leaf_node c.inner) → ⊥
    by_class true j = neither n place (feet_above p kern) (map leaf_node c.inner) (λ k. feet-none n place p kern k) (λ k. leaves-none n place c.inner h k) j
    by_class false j = neither n place (above_class c.skip c.below) (map leaf_node c.inner) (λ k. gap-none n place c.skip Footnotes (unwrap_or c.below None) k) (λ k. leaves-none n place c.inner h k) j

notes-none : (n : ℕ) (place : Where) (p : Params) (kern : Option ℤ) (cs : List Notes) → FloatlessNotes cs → HasFloat n place (notes_below p kern cs) → ⊥
notes-none n place p kern [] h i = i
notes-none n place p kern (c ∷ cs) h i = by_part (λ j. notes-none n place p kern cs h.1 j) (has-parts n place (class_below p kern c) (notes_below p kern cs) i)
  where
    by_part : (HasFloat n place (notes_below p kern cs) → ⊥) → HasFloat n place (class_below p kern c) ⊎ HasFloat n place (notes_below p kern cs) → ⊥
    by_part again (inl j) = class-none n place p kern c h.0 j
    by_part again (inr j) = again j

-- ---- the areas

with-has : (n : ℕ) (place at : Where) (sep : Glue) (fs : List Float) → HasFloat n place (floats_with at sep fs) → IsAmong n (float_lines fs)
with-has n place at sep [] i = absurd i
with-has n place at sep (f ∷ fs) (inl j) = inl j.1
with-has n place at sep (f ∷ fs) (inr (inl j)) = absurd j
with-has n place at sep (f ∷ fs) (inr (inr i)) = inr (with-has n place at sep fs i)

above-has : (n : ℕ) (place at : Where) (sep : Glue) (across : Option Rule) (last : Glue) (fs : List Float) → HasFloat n place (floats_above at sep across last fs) → IsAmong n (float_lines fs)
above-has n place at sep across last [] i = absurd i
above-has n place at sep across last (f ∷ fs) i = by_part (has-parts n place (floats_with at sep (f ∷ fs) ++ (made (skip (negated_glue sep)) ∷ rule_if_any Floats across)) (made (skip last) ∷ []) i)
  where
    by_front : HasFloat n place (floats_with at sep (f ∷ fs)) ⊎ HasFloat n place (made (skip (negated_glue sep)) ∷ rule_if_any Floats across) → IsAmong n (float_lines (f ∷ fs))
    by_front (inl j) = with-has n place at sep (f ∷ fs) j
    by_front (inr j) = absurd (gap-none n place (negated_glue sep) Floats across j)

    by_part : HasFloat n place (floats_with at sep (f ∷ fs) ++ (made (skip (negated_glue sep)) ∷ rule_if_any Floats across)) ⊎ (⊥ ⊎ ⊥) → IsAmong n (float_lines (f ∷ fs))
    by_part (inl j) = by_front (has-parts n place (floats_with at sep (f ∷ fs)) (made (skip (negated_glue sep)) ∷ rule_if_any Floats across) j)
    by_part (inr (inl j)) = absurd j
    by_part (inr (inr j)) = absurd j

below-has : (n : ℕ) (place at : Where) (sep : Glue) (across : Option Rule) (first : Glue) (fs : List Float) → HasFloat n place (floats_below at sep across first fs) → IsAmong n (float_lines fs)
below-has n place at sep across first [] i = absurd i
below-has n place at sep across first (f ∷ fs) i = by_part (has-parts n place ((made (skip first) ∷ rule_if_any Floats across) ++ floats_with at sep (f ∷ fs)) (made (skip (negated_glue sep)) ∷ []) i)
  where
    by_front : HasFloat n place (made (skip first) ∷ rule_if_any Floats across) ⊎ HasFloat n place (floats_with at sep (f ∷ fs)) → IsAmong n (float_lines (f ∷ fs))
    by_front (inl j) = absurd (gap-none n place first Floats across j)
    by_front (inr j) = with-has n place at sep (f ∷ fs) j

    by_part : HasFloat n place ((made (skip first) ∷ rule_if_any Floats across) ++ floats_with at sep (f ∷ fs)) ⊎ (⊥ ⊎ ⊥) → IsAmong n (float_lines (f ∷ fs))
    by_part (inl j) = by_front (has-parts n place (made (skip first) ∷ rule_if_any Floats across) (floats_with at sep (f ∷ fs)) j)
    by_part (inr (inl j)) = absurd j
    by_part (inr (inr j)) = absurd j

-- ---- whole columns

-- a text column
pub text-has : (n : ℕ) (place : Where) (p : Params) (l : FloatLists) (body : List PlainNode) (notes : List Notes) (higher : Enlarged) → AllHere body → FloatlessNotes notes → HasFloat n place (text_column p l body notes higher).nodes
    → IsAmong n (here_lines body) ⊎ (IsAmong n (float_lines l.top) ⊎ IsAmong n (float_lines l.bottom))
text-has n place p l body notes higher h g i =
    by_end (has-parts n place (text_nodes p l body notes ++ made (skip (closing_glue p (text_nodes p l body notes))) ∷ []) (glue_if_any p.textbottom) i)
  where
    by_floats : HasFloat n place (floats_above places.Top p.floatsep p.toprule p.textfloatsep l.top) ⊎ HasFloat n place body → IsAmong n (here_lines body) ⊎ (IsAmong n (float_lines l.top) ⊎ IsAmong n (float_lines l.bottom))
    by_floats (inl j) = inr (inl (above-has n place places.Top p.floatsep p.toprule p.textfloatsep l.top j))
    by_floats (inr j) = inl (here-has n place body h j)

    by_glue : HasFloat n place (glue_if_any p.texttop) ⊎ HasFloat n place (floats_above places.Top p.floatsep p.toprule p.textfloatsep l.top ++ body) → IsAmong n (here_lines body) ⊎ (IsAmong n (float_lines l.top) ⊎ IsAmong n (float_lines l.bottom))
    by_glue (inl j) = absurd (glue-none n place p.texttop j)
    by_glue (inr j) = by_floats (has-parts n place (floats_above places.Top p.floatsep p.toprule p.textfloatsep l.top) body j)

    by_others : HasFloat n place (glue_if_any p.texttop ++ (floats_above places.Top p.floatsep p.toprule p.textfloatsep l.top ++ body)) ⊎ HasFloat n place (notes_below p None (notes_among false notes))
        → IsAmong n (here_lines body) ⊎ (IsAmong n (float_lines l.top) ⊎ IsAmong n (float_lines l.bottom))
    by_others (inl j) = by_glue (has-parts n place (glue_if_any p.texttop) (floats_above places.Top p.floatsep p.toprule p.textfloatsep l.top ++ body) j)
    by_others (inr j) = absurd (notes-none n place p None (notes_among false notes) (among-have (λ c. FloatlessLeaves c.inner) false notes g) j)

    by_feet : (ms : List PlainNode) → (HasFloat n place ms → IsAmong n (here_lines body) ⊎ (IsAmong n (float_lines l.top) ⊎ IsAmong n (float_lines l.bottom)))
        → HasFloat n place ms ⊎ HasFloat n place (notes_below p (foot_kern p (length l.bottom) (map node_shape ms)) (notes_among true notes)) → IsAmong n (here_lines body) ⊎ (IsAmong n (float_lines l.top) ⊎ IsAmong n (float_lines l.bottom))
    by_feet ms k (inl j) = k j
    by_feet ms k (inr j) = absurd (notes-none n place p (foot_kern p (length l.bottom) (map node_shape ms)) (notes_among true notes) (among-have (λ c. FloatlessLeaves c.inner) true notes g) j)

    by_bottoms : (ms : List PlainNode) → (HasFloat n place ms → IsAmong n (here_lines body) ⊎ (IsAmong n (float_lines l.top) ⊎ IsAmong n (float_lines l.bottom)))
        → HasFloat n place ms ⊎ HasFloat n place (floats_below places.Bottom p.floatsep p.bottomrule p.textfloatsep l.bottom) → IsAmong n (here_lines body) ⊎ (IsAmong n (float_lines l.top) ⊎ IsAmong n (float_lines l.bottom))
    by_bottoms ms k (inl j) = k j
    by_bottoms ms k (inr j) = inr (inr (below-has n place places.Bottom p.floatsep p.bottomrule p.textfloatsep l.bottom j))

    texts : HasFloat n place (text_nodes p l body notes) → IsAmong n (here_lines body) ⊎ (IsAmong n (float_lines l.top) ⊎ IsAmong n (float_lines l.bottom))
    texts =
        parts.below-has p l notes (λ ms. HasFloat n place ms → IsAmong n (here_lines body) ⊎ (IsAmong n (float_lines l.top) ⊎ IsAmong n (float_lines l.bottom))) (text_above_feet p l body notes)
        (λ ms k j. by_feet ms k (has-parts n place ms (notes_below p (foot_kern p (length l.bottom) (map node_shape ms)) (notes_among true notes)) j))
        (λ ms k j. by_bottoms ms k (has-parts n place ms (floats_below places.Bottom p.floatsep p.bottomrule p.textfloatsep l.bottom) j))
        (λ j. by_others (has-parts n place (glue_if_any p.texttop ++ (floats_above places.Top p.floatsep p.toprule p.textfloatsep l.top ++ body)) (notes_below p None (notes_among false notes)) j))

    by_last : HasFloat n place (text_nodes p l body notes) ⊎ (⊥ ⊎ ⊥) → IsAmong n (here_lines body) ⊎ (IsAmong n (float_lines l.top) ⊎ IsAmong n (float_lines l.bottom))
    by_last (inl j) = texts j
    by_last (inr (inl j)) = absurd j
    by_last (inr (inr j)) = absurd j

    by_end : HasFloat n place (text_nodes p l body notes ++ made (skip (closing_glue p (text_nodes p l body notes))) ∷ []) ⊎ HasFloat n place (glue_if_any p.textbottom)
        → IsAmong n (here_lines body) ⊎ (IsAmong n (float_lines l.top) ⊎ IsAmong n (float_lines l.bottom))
    by_end (inl j) = by_last (has-parts n place (text_nodes p l body notes) (made (skip (closing_glue p (text_nodes p l body notes))) ∷ []) j)
    by_end (inr j) = absurd (glue-none n place p.textbottom j)

after-has : (n : ℕ) (place : Where) (sep : Glue) (fs : List Float) → HasFloat n place (floats_after sep fs) → IsAmong n (float_lines fs)
after-has n place sep [] i = absurd i
after-has n place sep (f ∷ fs) (inl i) = absurd i
after-has n place sep (f ∷ fs) (inr (inl i)) = inl i.1
after-has n place sep (f ∷ fs) (inr (inr i)) = inr (after-has n place sep fs i)

-- a column of floats
pub floats-has : (n : ℕ) (place : Where) (p : Params) (height : ℤ) (fs : List Float) → HasFloat n place (single_floats_column p height fs).nodes → IsAmong n (float_lines fs)
floats-has n place p height fs (inl i) = absurd i
floats-has n place p height fs (inr (inl i)) = absurd i
floats-has n place p height fs (inr (inr i)) = by_part (has-parts n place (floats_after p.fpsep fs) _ i)
  where
    by_part : HasFloat n place (floats_after p.fpsep fs) ⊎ (⊥ ⊎ ⊥) → IsAmong n (float_lines fs)
    by_part (inl j) = after-has n place p.fpsep fs j
    by_part (inr (inl j)) = absurd j
    by_part (inr (inr j)) = absurd j
