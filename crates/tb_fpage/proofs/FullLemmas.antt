-- If no class is left, or too little room, no later float joins a company; if no class is left, none is a head.
use Rattle.std.proofs.Common.{◌≡◌, ◌⊎◌, inl, inr, ℕ, zero, suc, ◌≤◌, Bool, true, false, not, ◌&&◌, List, [], ◌∷◌, ◌++◌, length, take, drop, Some, None, refl, sym, ap, ◌∙◌, subst, arith}
use Rattle.std.specs.Prelude.{ℤ, ◌+ℤ◌, ◌<ℤ◌, ◌≤ℤ◌, int_le, Option, if◌then◌else◌}
use Rattle.std.proofs.lemmas.Int.{ints}
use Rattle.std.proofs.lemmas.List.{append-nil, append_assoc, length-append}
use Rattle.tb_node.specs.declared.Float.{Float}
use Rattle.tb_float.specs.declared.classes.ClassSet.{ClassSet}
use Rattle.tb_float.specs.Lists.{has_class}
use Rattle.tb_float.specs.Classes.{AreAtLeast, AreClassesOf, AreOfClasses, HasLeft}
use Rattle.tb_float.proofs.HasLemmas.{has-first, has-later, has-more, has-drop}
use Rattle.tb_fpage.specs.declared.Wanted.{Wanted}
use Rattle.tb_fpage.specs.declared.walk.Walk.{Walk}
use Rattle.tb_fpage.specs.Company.{Choice, passed_over, all_chosen, company_height, suits, joins, choices_from, left_floats, is_made, company_of_head, company_from, company}
use Rattle.tb_fpage.specs.Walk.{has_chosen, EndsBy, IsOnWay, AreTried}
use Rattle.tb_fpage.proofs.WalkLemmas.{all-chosen, left-append, company-chosen, company-passed, chosen-passed, ends-passed}

-- ---- classes in lists

pub has-left : (fs rest : List Float) (n : ℕ) (f : Float) → f ∷ rest ≡ drop n fs → has_class f.class fs ≡ true
has-left fs rest n f left = has-drop f.class n fs (ap (has_class f.class) (sym left) ∙ has-first f rest)

classes-after : (fs all : List Float) (n : ℕ) → AreOfClasses fs all → AreOfClasses fs (drop n all)
classes-after fs all n h = λ k e. h k (has-drop k n all e)

classes-next : (before fs : List Float) (f : Float) → AreOfClasses before (f ∷ fs) → AreOfClasses (before ++ f ∷ []) fs
classes-next before fs f h = λ k e. has-more k before (f ∷ []) (h k (has-later k f fs e))

-- ---- no later float joins

joins-closed : (z : Wanted) (before : List Choice) (f : Float) → has_class f.class (left_floats before) ≡ true → joins z before f ≡ false
joins-closed z before f h =
    ap (λ a. suits z f && a && int_le (company_height z.sep (before ++ record { float = f; chosen = true } ∷ [])) z.height) (all-chosen f.class before ∙ ap not h)
    ∙ and-false (suits z f) (int_le (company_height z.sep (before ++ record { float = f; chosen = true } ∷ [])) z.height)
  where
    and-false : (a b : Bool) → (a && false && b) ≡ false
    and-false true b = refl
    and-false false b = refl

choices-closed : (z : Wanted) (before : List Choice) (fs : List Float) → AreOfClasses (left_floats before) fs → choices_from z before fs ≡ before ++ passed_over fs
choices-closed z before [] h = sym (append-nil before)
choices-closed z before (f ∷ fs) h =
    let c : Choice = record { float = f; chosen = false } in
    ap (λ b. choices_from z (before ++ record { float = f; chosen = b } ∷ []) fs) (joins-closed z before f (h f.class (has-first f fs)))
    ∙ choices-closed z (before ++ c ∷ []) fs (subst (λ gs. AreOfClasses gs fs) (sym (left-append before (c ∷ []))) (classes-next (left_floats before) fs f h))
    ∙ append_assoc before (c ∷ []) (passed_over fs)

height-closed : (sep : ℤ) (before : List Choice) (fs : List Float) → company_height sep (before ++ passed_over fs) ≡ company_height sep before
height-closed sep before [] = ap (company_height sep) (append-nil before)
height-closed sep before (f ∷ fs) =
    let c : Choice = record { float = f; chosen = false } in
    ap (company_height sep) (sym (append_assoc before (c ∷ []) (passed_over fs))) ∙ height-closed sep (before ++ c ∷ []) fs ∙ company-passed sep before f

ends-closed : (last : ℕ) (before : List Choice) (fs : List Float) → last ≤ length before → EndsBy last before → EndsBy last (before ++ passed_over fs)
ends-closed last before [] le h = subst (EndsBy last) (sym (append-nil before)) h
ends-closed last before (f ∷ fs) le h =
    let c : Choice = record { float = f; chosen = false } in
    subst (EndsBy last) (append_assoc before (c ∷ []) (passed_over fs)) (ends-closed last (before ++ c ∷ []) fs (omega (arith, le, length-append before (c ∷ []))) (ends-passed last before f le h))

-- ---- what is left is too low

not-le : (a b : ℤ) → a <ℤ b → int_le b a ≡ false
not-le a b h = grind (arith, ints, h)

joins-high : (z : Wanted) (least : ℤ) (before : List Choice) (f : Float) → has_chosen before ≡ true → z.height <ℤ (company_height z.sep before +ℤ z.sep +ℤ least) → least ≤ℤ f.height → joins z before f ≡ false
joins-high z least before f some high low =
    let above : z.height <ℤ (company_height z.sep before +ℤ z.sep +ℤ f.height) = omega (arith, ints, high, low) in
    ap (λ b. suits z f && all_chosen f.class before && b) (ap (λ y. int_le y z.height) (company-chosen z.sep before f some) ∙ not-le z.height _ above) ∙ and-false (suits z f) (all_chosen f.class before)
  where
    and-false : (a b : Bool) → (a && b && false) ≡ false
    and-false true true = refl
    and-false true false = refl
    and-false false b = refl

choices-high : (z : Wanted) (least : ℤ) (before : List Choice) (fs : List Float) → has_chosen before ≡ true → z.height <ℤ (company_height z.sep before +ℤ z.sep +ℤ least) → AreAtLeast least fs → choices_from z before fs ≡ before ++ passed_over fs
choices-high z least before [] some high low = sym (append-nil before)
choices-high z least before (f ∷ fs) some high low =
    let c : Choice = record { float = f; chosen = false } in
    ap (λ b. choices_from z (before ++ record { float = f; chosen = b } ∷ []) fs) (joins-high z least before f some high low.0)
    ∙ choices-high z least (before ++ c ∷ []) fs (chosen-passed before f ∙ some) (subst (λ (y : ℤ). z.height <ℤ (y +ℤ z.sep +ℤ least)) (sym (company-passed z.sep before f)) high) low.1
    ∙ append_assoc before (c ∷ []) (passed_over fs)

low-drop : (least : ℤ) (n : ℕ) (fs : List Float) → AreAtLeast least fs → AreAtLeast least (drop n fs)
low-drop least zero fs h = h
low-drop least (suc n) [] h = tt
low-drop least (suc n) (f ∷ fs) h = low-drop least n fs h.1

-- ---- the walk is over

-- if no float that is left joins, the walk has the height and the last float of the company
closed-height : (z : Wanted) (w : Walk) (all : List Float) (choices : List Choice) (way : IsOnWay w z all choices) → choices_from z way.before (drop w.seen all) ≡ way.before ++ passed_over (drop w.seen all) → w.height ≡ company_height z.sep choices
closed-height z w all choices way h =
    way.stands.height ∙ sym (height-closed z.sep way.before (drop w.seen all)) ∙ ap (company_height z.sep) (sym h ∙ way.ends)

closed-ends : (z : Wanted) (w : Walk) (all : List Float) (choices : List Choice) (way : IsOnWay w z all choices) → choices_from z way.before (drop w.seen all) ≡ way.before ++ passed_over (drop w.seen all) → EndsBy w.last choices
closed-ends z w all choices way h =
    subst (EndsBy w.last) (sym h ∙ way.ends) (ends-closed w.last way.before (drop w.seen all) way.stands.last_within way.stands.last)

-- what the end of a walk knows: it has the height and the last float of the company
pub record HasEnded (w : Walk) (z : Wanted) (choices : List Choice) : Type 0 where
  pub height : w.height ≡ company_height z.sep choices
  pub last : EndsBy w.last choices

-- a walk with no class left, or with too little room for any float
pub has-ended : (z : Wanted) (w : Walk) (least : ℤ) (all : List Float) (choices : List Choice) → (((fs gs : List Float) → AreClassesOf w.failed fs → HasLeft w.failed gs → AreOfClasses fs gs) ⊎ (z.height <ℤ (w.height +ℤ z.sep +ℤ least))) → HasLeft w.failed all → AreAtLeast least all → IsOnWay w z all choices → HasEnded w z choices
has-ended z w least all choices over left low way =
    let closed : choices_from z way.before (drop w.seen all) ≡ way.before ++ passed_over (drop w.seen all) = elim over [
      | inl full ↦ choices-closed z way.before (drop w.seen all) (classes-after (left_floats way.before) all w.seen (full (left_floats way.before) all way.stands.failed left))
      | inr high ↦ choices-high z least way.before (drop w.seen all) way.stands.head (subst (λ (y : ℤ). z.height <ℤ (y +ℤ z.sep +ℤ least)) way.stands.height high) (low-drop least w.seen all low)
    ] in
    record { height = closed-height z w all choices way closed; last = closed-ends z w all choices way closed }

-- ---- none is a head

pub company-closed : (z : Wanted) (before fs : List Float) → AreOfClasses before fs → company_from z before fs ≡ None
company-closed z before [] h = refl
company-closed z before (f ∷ fs) h =
    let cs = company_of_head z before f fs in
    let later = company_from z (before ++ f ∷ []) fs in
    ap (λ b. if (suits z f && not b) && is_made z cs then Some cs else later) (h f.class (has-first f fs))
    ∙ no-head (suits z f) (is_made z cs) (Some cs) later ∙ company-closed z (before ++ f ∷ []) fs (classes-next before fs f h)
  where
    no-head : (s m : Bool) (x y : Option (List Choice)) → (if (s && not true) && m then x else y) ≡ y
    no-head true m x y = refl
    no-head false m x y = refl

pub tried-full : (z : Wanted) (earlier : ClassSet) (place : ℕ) (all left : List Float) → AreTried z earlier place all left → AreOfClasses (take place all) all → company z all ≡ None
tried-full z earlier place all left t h =
    sym t.later ∙ ap (company_from z (take place all)) t.left_are ∙ company-closed z (take place all) (drop place all) (classes-after (take place all) all place h)
