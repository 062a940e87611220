-- What columns and companies of floats weigh.
use Rattle.std.proofs.Common.{◌≡◌, refl, ℕ, ◌+◌, Bool, true, false, List, [], ◌∷◌, ◌++◌, map, length, Option, Some, None, arith, unwrap_or}
use Rattle.std.specs.Prelude.{ℤ, ◌==◌, ◌&&◌, if◌then◌else◌}
use Rattle.tb_scaled.specs.declared.Glue.{Glue}
use Rattle.tb_scaled.specs.Glue.{negated_glue}
use Rattle.tb_node.specs.declared.Float.{Float}
use Rattle.tb_node.specs.declared.Where.{Where}
use Rattle.tb_node.specs.declared.Where.TheVariants as places
use Rattle.tb_node.specs.declared.RuleOf.TheVariants.{Footnotes, Floats}
use Rattle.tb_node.specs.PlainNodes.{leaf_node, PlainNode, node_shape, made, skip}
use Rattle.tb_node.proofs.Weights.{Weight, leaves_weight, nodes_weight, weight-append, leaf_nodes-weight}
use Rattle.tb_param.specs.declared.Params.{Params}
use Rattle.tb_param.specs.declared.Rule.{Rule}
use Rattle.tb_float.specs.Lists.{FloatLists}
use Rattle.tb_fpage.specs.declared.Wanted.{Wanted}
use Rattle.tb_fpage.specs.Company.{Choice, passed_over, joins, choices_from, company_of_head, is_head, is_made, company_from, company, chosen_floats, left_floats}
use Rattle.tb_column.specs.declared.Standing.{Standing}
use Rattle.tb_column.specs.declared.Standing.TheVariants as standings
use Rattle.tb_column.specs.declared.Enlarged.{Enlarged}
use Rattle.tb_column.specs.Column.{Notes, is_no_glue, glue_if_any, rule_if_any, kern_if_any, is_below, foot_kern, floats_with, floats_above, floats_below, feet_above, above_class, class_below, notes_below, standing_of, is_at, notes_at, notes_among, text_above_feet, with_feet, with_bottoms, with_below, text_nodes, closing_glue, text_column, floats_after, floats_column}
use Rattle.tb_laws.proofs.NothingLost.StateWeights.{floats_weight, floats-append}

-- ---- columns

floats_with-weight : (v : Weight) (place : Where) (sep : Glue) (fs : List Float) → nodes_weight v (floats_with place sep fs) ≡ floats_weight v fs
floats_with-weight v place sep [] = refl
floats_with-weight v place sep (f ∷ fs) = let h : nodes_weight v (floats_with place sep fs) ≡ floats_weight v fs = floats_with-weight v place sep fs in omega arith

-- a rule beside floats and that above footnotes weigh nothing, nor do glue and kerns
across-weight : (v : Weight) (r : Option Rule) → nodes_weight v (rule_if_any Floats r) ≡ 0
across-weight v None = refl
across-weight v (Some r) = refl

foot_rule-weight : (v : Weight) (r : Option Rule) → nodes_weight v (rule_if_any Footnotes r) ≡ 0
foot_rule-weight v None = refl
foot_rule-weight v (Some r) = refl

glue-weight : (v : Weight) (g : Glue) → nodes_weight v (glue_if_any g) ≡ 0
glue-weight v g = by_test (is_no_glue g)
  where
    by_test : (t : Bool) → nodes_weight v (if t then [] else made (skip g) ∷ []) ≡ 0
    by_test true = refl
    by_test false = refl

kern-weight : (v : Weight) (kern : Option ℤ) → nodes_weight v (kern_if_any kern) ≡ 0
kern-weight v None = refl
kern-weight v (Some w) = refl

feet_above-weight : (v : Weight) (p : Params) (kern : Option ℤ) → nodes_weight v (feet_above p kern) ≡ 0
feet_above-weight v p kern =
    let a : nodes_weight v (feet_above p kern) ≡ nodes_weight v (kern_if_any kern ++ glue_if_any p.footfill) + nodes_weight v (made (skip p.skipfootins) ∷ rule_if_any Footnotes p.footrule) = weight-append v (kern_if_any kern ++ glue_if_any p.footfill) (made (skip p.skipfootins) ∷ rule_if_any Footnotes p.footrule) in
    let b : nodes_weight v (kern_if_any kern ++ glue_if_any p.footfill) ≡ nodes_weight v (kern_if_any kern) + nodes_weight v (glue_if_any p.footfill) = weight-append v (kern_if_any kern) (glue_if_any p.footfill) in
    let k : nodes_weight v (kern_if_any kern) ≡ 0 = kern-weight v kern in
    let g : nodes_weight v (glue_if_any p.footfill) ≡ 0 = glue-weight v p.footfill in
    let r : nodes_weight v (rule_if_any Footnotes p.footrule) ≡ 0 = foot_rule-weight v p.footrule in
    omega arith

pub floats_above-weight : (v : Weight) (place : Where) (sep : Glue) (across : Option Rule) (last : Glue) (fs : List Float) → nodes_weight v (floats_above place sep across last fs) ≡ floats_weight v fs
floats_above-weight v place sep across last [] = refl
floats_above-weight v place sep across last (f ∷ fs) =
    let gap = made (skip (negated_glue sep)) ∷ rule_if_any Floats across in
    let h : nodes_weight v (floats_with place sep fs) ≡ floats_weight v fs = floats_with-weight v place sep fs in
    let e : nodes_weight v (floats_above place sep across last (f ∷ fs)) ≡ nodes_weight v (floats_with place sep (f ∷ fs) ++ gap) + 0 = weight-append v (floats_with place sep (f ∷ fs) ++ gap) (made (skip last) ∷ []) in
    let d : nodes_weight v (floats_with place sep (f ∷ fs) ++ gap) ≡ nodes_weight v (floats_with place sep (f ∷ fs)) + nodes_weight v gap = weight-append v (floats_with place sep (f ∷ fs)) gap in
    let r : nodes_weight v (rule_if_any Floats across) ≡ 0 = across-weight v across in
    omega arith

floats_below-weight : (v : Weight) (place : Where) (sep : Glue) (across : Option Rule) (first : Glue) (fs : List Float) → nodes_weight v (floats_below place sep across first fs) ≡ floats_weight v fs
floats_below-weight v place sep across first [] = refl
floats_below-weight v place sep across first (f ∷ fs) =
    let gap = made (skip first) ∷ rule_if_any Floats across in
    let h : nodes_weight v (floats_with place sep fs) ≡ floats_weight v fs = floats_with-weight v place sep fs in
    let e : nodes_weight v (floats_below place sep across first (f ∷ fs)) ≡ nodes_weight v (gap ++ floats_with place sep (f ∷ fs)) + 0 = weight-append v (gap ++ floats_with place sep (f ∷ fs)) (made (skip (negated_glue sep)) ∷ []) in
    let d : nodes_weight v (gap ++ floats_with place sep (f ∷ fs)) ≡ nodes_weight v gap + nodes_weight v (floats_with place sep (f ∷ fs)) = weight-append v gap (floats_with place sep (f ∷ fs)) in
    let r : nodes_weight v (rule_if_any Floats across) ≡ 0 = across-weight v across in
    omega arith

-- what class boxes held
abbrev pub notes_weight : Weight → List Notes → ℕ
notes_weight v [] = 0
notes_weight v (n ∷ ns) = leaves_weight v n.inner + notes_weight v ns

class_below-weight : (v : Weight) (p : Params) (kern : Option ℤ) (n : Notes) → nodes_weight v (class_below p kern n) ≡ leaves_weight v n.inner
class_below-weight v p kern n = by_class (n.class == 254)
  where
    by_class : (t : Bool) → nodes_weight v (if t then feet_above p kern ++ map leaf_node n.inner else above_class n.skip n.below ++ map leaf_node n.inner) ≡ leaves_weight v n.inner
    by_class true =
        let h : nodes_weight v (map leaf_node n.inner) ≡ leaves_weight v n.inner = leaf_nodes-weight v n.inner in
        let a : nodes_weight v (feet_above p kern ++ map leaf_node n.inner) ≡ nodes_weight v (feet_above p kern) + nodes_weight v (map leaf_node n.inner) = weight-append v (feet_above p kern) (map leaf_node n.inner) in
        let f : nodes_weight v (feet_above p kern) ≡ 0 = feet_above-weight v p kern in
        omega arith
    by_class false =
        let h : nodes_weight v (map leaf_node n.inner) ≡ leaves_weight v n.inner = leaf_nodes-weight v n.inner in
        let a : nodes_weight v (above_class n.skip n.below ++ map leaf_node n.inner) ≡ nodes_weight v (above_class n.skip n.below) + nodes_weight v (map leaf_node n.inner) = weight-append v (above_class n.skip n.below) (map leaf_node n.inner) in
        let f : nodes_weight v (rule_if_any Footnotes (unwrap_or n.below None)) ≡ 0 = foot_rule-weight v (unwrap_or n.below None) in
        omega arith

notes_below-weight : (v : Weight) (p : Params) (kern : Option ℤ) (ns : List Notes) → nodes_weight v (notes_below p kern ns) ≡ notes_weight v ns
notes_below-weight v p kern [] = refl
notes_below-weight v p kern (n ∷ ns) =
    let a : nodes_weight v (class_below p kern n ++ notes_below p kern ns) ≡ nodes_weight v (class_below p kern n) + nodes_weight v (notes_below p kern ns) = weight-append v (class_below p kern n) (notes_below p kern ns) in
    let b : nodes_weight v (class_below p kern n) ≡ leaves_weight v n.inner = class_below-weight v p kern n in
    let h : nodes_weight v (notes_below p kern ns) ≡ notes_weight v ns = notes_below-weight v p kern ns in
    omega arith

-- what stands above footnotes, footnotes and what stands below them weigh together what all weigh
places-weight : (v : Weight) (ns : List Notes) → notes_weight v (notes_at standings.Above ns) + notes_weight v (notes_at standings.Feet ns) + notes_weight v (notes_at standings.Below ns) ≡ notes_weight v ns
places-weight v [] = refl
places-weight v (n ∷ ns) = by_place (standing_of n.class n.below) (places-weight v ns)
  where
    by_place : (x : Standing) → notes_weight v (notes_at standings.Above ns) + notes_weight v (notes_at standings.Feet ns) + notes_weight v (notes_at standings.Below ns) ≡ notes_weight v ns
        → notes_weight v (if is_at standings.Above x then n ∷ notes_at standings.Above ns else notes_at standings.Above ns) + notes_weight v (if is_at standings.Feet x then n ∷ notes_at standings.Feet ns else notes_at standings.Feet ns)
        + notes_weight v (if is_at standings.Below x then n ∷ notes_at standings.Below ns else notes_at standings.Below ns) ≡ leaves_weight v n.inner + notes_weight v ns
    by_place standings.Above h = omega arith
    by_place standings.Feet h = omega arith
    by_place standings.Below h = omega arith

both-weigh : (v : Weight) (xs ys : List Notes) → notes_weight v (xs ++ ys) ≡ notes_weight v xs + notes_weight v ys
both-weigh v [] ys = omega arith
both-weigh v (x ∷ xs) ys = let h : notes_weight v (xs ++ ys) ≡ notes_weight v xs + notes_weight v ys = both-weigh v xs ys in omega arith

among-weight : (v : Weight) (ns : List Notes) → notes_weight v (notes_among false ns) + notes_weight v (notes_among true ns) ≡ notes_weight v ns
among-weight v ns =
    let h : notes_weight v (notes_at standings.Above ns) + notes_weight v (notes_at standings.Feet ns) + notes_weight v (notes_at standings.Below ns) ≡ notes_weight v ns = places-weight v ns in
    let b : notes_weight v (notes_among true ns) ≡ notes_weight v (notes_at standings.Feet ns) + notes_weight v (notes_at standings.Below ns) = both-weigh v (notes_at standings.Feet ns) (notes_at standings.Below ns) in
    omega arith

with_feet-weight : (v : Weight) (p : Params) (l : FloatLists) (notes : List Notes) (ns : List PlainNode) → nodes_weight v (with_feet p l notes ns) ≡ nodes_weight v ns + notes_weight v (notes_among true notes)
with_feet-weight v p l notes ns =
    let kern = foot_kern p (length l.bottom) (map node_shape ns) in
    let a : nodes_weight v (with_feet p l notes ns) ≡ nodes_weight v ns + nodes_weight v (notes_below p kern (notes_among true notes)) = weight-append v ns (notes_below p kern (notes_among true notes)) in
    let n : nodes_weight v (notes_below p kern (notes_among true notes)) ≡ notes_weight v (notes_among true notes) = notes_below-weight v p kern (notes_among true notes) in
    omega arith

with_bottoms-weight : (v : Weight) (p : Params) (l : FloatLists) (ns : List PlainNode) → nodes_weight v (with_bottoms p l ns) ≡ nodes_weight v ns + floats_weight v l.bottom
with_bottoms-weight v p l ns =
    let bottoms = floats_below places.Bottom p.floatsep p.bottomrule p.textfloatsep l.bottom in
    let a : nodes_weight v (with_bottoms p l ns) ≡ nodes_weight v ns + nodes_weight v bottoms = weight-append v ns bottoms in
    let u : nodes_weight v bottoms ≡ floats_weight v l.bottom = floats_below-weight v places.Bottom p.floatsep p.bottomrule p.textfloatsep l.bottom in
    omega arith

with_below-weight : (v : Weight) (p : Params) (l : FloatLists) (notes : List Notes) (ns : List PlainNode) → nodes_weight v (with_below p l notes ns) ≡ nodes_weight v ns + notes_weight v (notes_among true notes) + floats_weight v l.bottom
with_below-weight v p l notes ns = by_place (is_below p.footplace)
  where
    by_place : (t : Bool) → nodes_weight v (if t then with_feet p l notes (with_bottoms p l ns) else with_bottoms p l (with_feet p l notes ns)) ≡ nodes_weight v ns + notes_weight v (notes_among true notes) + floats_weight v l.bottom
    by_place true =
        let a : nodes_weight v (with_feet p l notes (with_bottoms p l ns)) ≡ nodes_weight v (with_bottoms p l ns) + notes_weight v (notes_among true notes) = with_feet-weight v p l notes (with_bottoms p l ns) in
        let b : nodes_weight v (with_bottoms p l ns) ≡ nodes_weight v ns + floats_weight v l.bottom = with_bottoms-weight v p l ns in
        omega arith
    by_place false =
        let a : nodes_weight v (with_bottoms p l (with_feet p l notes ns)) ≡ nodes_weight v (with_feet p l notes ns) + floats_weight v l.bottom = with_bottoms-weight v p l (with_feet p l notes ns) in
        let b : nodes_weight v (with_feet p l notes ns) ≡ nodes_weight v ns + notes_weight v (notes_among true notes) = with_feet-weight v p l notes ns in
        omega arith

text_above-weight : (v : Weight) (p : Params) (l : FloatLists) (body : List PlainNode) (notes : List Notes) → nodes_weight v (text_above_feet p l body notes) ≡ floats_weight v l.top + nodes_weight v body + notes_weight v (notes_among false notes)
text_above-weight v p l body notes =
    let tops = floats_above places.Top p.floatsep p.toprule p.textfloatsep l.top in
    let others = notes_below p None (notes_among false notes) in
    let a : nodes_weight v (text_above_feet p l body notes) ≡ nodes_weight v (glue_if_any p.texttop ++ (tops ++ body)) + nodes_weight v others = weight-append v (glue_if_any p.texttop ++ (tops ++ body)) others in
    let b : nodes_weight v (glue_if_any p.texttop ++ (tops ++ body)) ≡ nodes_weight v (glue_if_any p.texttop) + nodes_weight v (tops ++ body) = weight-append v (glue_if_any p.texttop) (tops ++ body) in
    let c : nodes_weight v (tops ++ body) ≡ nodes_weight v tops + nodes_weight v body = weight-append v tops body in
    let g : nodes_weight v (glue_if_any p.texttop) ≡ 0 = glue-weight v p.texttop in
    let t : nodes_weight v tops ≡ floats_weight v l.top = floats_above-weight v places.Top p.floatsep p.toprule p.textfloatsep l.top in
    let n : nodes_weight v others ≡ notes_weight v (notes_among false notes) = notes_below-weight v p None (notes_among false notes) in
    omega arith

pub text_column-weight : (v : Weight) (p : Params) (l : FloatLists) (body : List PlainNode) (notes : List Notes) (higher : Enlarged) → nodes_weight v (text_column p l body notes higher).nodes ≡ floats_weight v l.top + nodes_weight v body + notes_weight v notes + floats_weight v l.bottom
text_column-weight v p l body notes higher =
    let texts = text_nodes p l body notes in
    let last = made (skip (closing_glue p texts)) ∷ [] in
    let e : nodes_weight v (text_column p l body notes higher).nodes ≡ nodes_weight v (texts ++ last) + nodes_weight v (glue_if_any p.textbottom) = weight-append v (texts ++ last) (glue_if_any p.textbottom) in
    let d : nodes_weight v (texts ++ last) ≡ nodes_weight v texts + 0 = weight-append v texts last in
    let g : nodes_weight v (glue_if_any p.textbottom) ≡ 0 = glue-weight v p.textbottom in
    let a : nodes_weight v texts ≡ nodes_weight v (text_above_feet p l body notes) + notes_weight v (notes_among true notes) + floats_weight v l.bottom = with_below-weight v p l notes (text_above_feet p l body notes) in
    let b : nodes_weight v (text_above_feet p l body notes) ≡ floats_weight v l.top + nodes_weight v body + notes_weight v (notes_among false notes) = text_above-weight v p l body notes in
    let n : notes_weight v (notes_among false notes) + notes_weight v (notes_among true notes) ≡ notes_weight v notes = among-weight v notes in
    omega arith

floats_after-weight : (v : Weight) (sep : Glue) (fs : List Float) → nodes_weight v (floats_after sep fs) ≡ floats_weight v fs
floats_after-weight v sep [] = refl
floats_after-weight v sep (f ∷ fs) = let h : nodes_weight v (floats_after sep fs) ≡ floats_weight v fs = floats_after-weight v sep fs in omega arith

pub floats_column-weight : (v : Weight) (height : ℤ) (above between below : Glue) (fs : List Float) → nodes_weight v (floats_column height above between below fs).nodes ≡ floats_weight v fs
floats_column-weight v height above between below fs =
    let h : nodes_weight v (floats_after between fs) ≡ floats_weight v fs = floats_after-weight v between fs in
    let e : nodes_weight v (floats_after between fs ++ made (skip below) ∷ []) ≡ nodes_weight v (floats_after between fs) + 0 = weight-append v (floats_after between fs) (made (skip below) ∷ []) in
    omega arith

-- ---- companies

abbrev pub choices_weight : Weight → List Choice → ℕ
choices_weight v [] = 0
choices_weight v (c ∷ cs) = v.float c.float.line + choices_weight v cs

choices-append : (v : Weight) (xs ys : List Choice) → choices_weight v (xs ++ ys) ≡ choices_weight v xs + choices_weight v ys
choices-append v [] ys = omega arith
choices-append v (x ∷ xs) ys = let h : choices_weight v (xs ++ ys) ≡ choices_weight v xs + choices_weight v ys = choices-append v xs ys in omega arith

passed_over-weight : (v : Weight) (fs : List Float) → choices_weight v (passed_over fs) ≡ floats_weight v fs
passed_over-weight v [] = refl
passed_over-weight v (f ∷ fs) = let h : choices_weight v (passed_over fs) ≡ floats_weight v fs = passed_over-weight v fs in omega arith

choices_from-weight : (v : Weight) (z : Wanted) (before : List Choice) (fs : List Float) → choices_weight v (choices_from z before fs) ≡ choices_weight v before + floats_weight v fs
choices_from-weight v z before [] = omega arith
choices_from-weight v z before (f ∷ fs) =
    let h : choices_weight v (choices_from z (before ++ record { float = f; chosen = joins z before f } ∷ []) fs) ≡ choices_weight v (before ++ record { float = f; chosen = joins z before f } ∷ []) + floats_weight v fs = choices_from-weight v z (before ++ record { float = f; chosen = joins z before f } ∷ []) fs in
    let e : choices_weight v (before ++ record { float = f; chosen = joins z before f } ∷ []) ≡ choices_weight v before + (v.float f.line + 0) = choices-append v before (record { float = f; chosen = joins z before f } ∷ []) in
    omega arith

head-weight : (v : Weight) (z : Wanted) (before : List Float) (f : Float) (fs : List Float) → choices_weight v (company_of_head z before f fs) ≡ floats_weight v before + floats_weight v (f ∷ fs)
head-weight v z before f fs =
    let h : choices_weight v (company_of_head z before f fs) ≡ choices_weight v (passed_over before ++ record { float = f; chosen = true } ∷ []) + floats_weight v fs = choices_from-weight v z (passed_over before ++ record { float = f; chosen = true } ∷ []) fs in
    let e : choices_weight v (passed_over before ++ record { float = f; chosen = true } ∷ []) ≡ choices_weight v (passed_over before) + (v.float f.line + 0) = choices-append v (passed_over before) (record { float = f; chosen = true } ∷ []) in
    let d : choices_weight v (passed_over before) ≡ floats_weight v before = passed_over-weight v before in
    omega arith

-- the choices of a company are of floats that weigh this
abbrev pub CompanyOf : Weight → ℕ → Option (List Choice) → Type 0
CompanyOf v n None = Unit {0}
CompanyOf v n (Some cs) = choices_weight v cs ≡ n

company_from-weight : (v : Weight) (z : Wanted) (before fs : List Float) → CompanyOf v (floats_weight v before + floats_weight v fs) (company_from z before fs)
company_from-weight v z before [] = tt
company_from-weight v z before (f ∷ fs) =
    company-more v (floats_weight v before + floats_weight v (f ∷ fs)) (is_head z before f && is_made z (company_of_head z before f fs)) (company_of_head z before f fs) (company_from z (before ++ f ∷ []) fs) (head-weight v z before f fs) (moved (company_from z (before ++ f ∷ []) fs) (company_from-weight v z (before ++ f ∷ []) fs))
  where
    company-more : (v : Weight) (n : ℕ) (t : Bool) (cs : List Choice) (later : Option (List Choice)) → choices_weight v cs ≡ n → CompanyOf v n later → CompanyOf v n (if t then Some cs else later)
    company-more v n true cs later a b = a
    company-more v n false cs later a b = b

    moved : (o : Option (List Choice)) → CompanyOf v (floats_weight v (before ++ f ∷ []) + floats_weight v fs) o → CompanyOf v (floats_weight v before + floats_weight v (f ∷ fs)) o
    moved None h = tt
    moved (Some cs) h = let e : floats_weight v (before ++ f ∷ []) ≡ floats_weight v before + (v.float f.line + 0) = floats-append v before (f ∷ []) in omega arith

pub company-weight : (v : Weight) (z : Wanted) (fs : List Float) → CompanyOf v (floats_weight v fs) (company z fs)
company-weight v z fs = moved (company z fs) (company_from-weight v z [] fs)
  where
    moved : (o : Option (List Choice)) → CompanyOf v (0 + floats_weight v fs) o → CompanyOf v (floats_weight v fs) o
    moved None h = tt
    moved (Some cs) h = omega arith

pub parted-weight : (v : Weight) (cs : List Choice) → floats_weight v (chosen_floats cs) + floats_weight v (left_floats cs) ≡ choices_weight v cs
parted-weight v [] = refl
parted-weight v (c ∷ cs) = by_choice c.float c.chosen (parted-weight v cs)
  where
    by_choice : (f : Float) (t : Bool) → floats_weight v (chosen_floats cs) + floats_weight v (left_floats cs) ≡ choices_weight v cs → floats_weight v (if t then f ∷ chosen_floats cs else chosen_floats cs) + floats_weight v (if t then left_floats cs else f ∷ left_floats cs) ≡ v.float f.line + choices_weight v cs
    by_choice f true h = omega arith
    by_choice f false h = omega arith
