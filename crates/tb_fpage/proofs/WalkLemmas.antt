-- A walk over the floats after a head: what it holds after each.
use Rattle.std.proofs.Common.{◌≡◌, ℕ, zero, suc, ◌+◌, ◌<◌, ◌≤◌, ◌==◌, Bool, true, false, not, ◌||◌, ◌&&◌, List, [], ◌∷◌, ◌++◌, length, drop, refl, sym, ap, ◌∙◌, subst, arith, FitsSigned, w64}
use Rattle.std.specs.Prelude.{ℤ, ◌+ℤ◌, int_le, if◌then◌else◌}
use Rattle.std.proofs.Math.ListN.{drop_of_length-le}
use Rattle.std.proofs.lemmas.Int.{ints}
use Rattle.std.proofs.lemmas.List.{append-nil, length-append, length-map}
use Rattle.std.proofs.Math.Bool.{or-true}
use Rattle.tb_node.specs.declared.Float.{Float}
use Rattle.tb_float.specs.declared.Entry.{Entry}
use Rattle.tb_float.specs.declared.Entry.TheVariants as entries
use Rattle.tb_float.specs.Lists.{float_entries, has_class}
use Rattle.tb_float.specs.declared.classes.ClassSet.{ClassSet}
use Rattle.tb_float.specs.Classes.{AreClassesOf}
use Rattle.tb_float.specs.Ranges.{IsWithin}
use Rattle.tb_fpage.specs.declared.Wanted.{Wanted}
use Rattle.tb_fpage.specs.declared.walk.Walk.{Walk}
use Rattle.tb_fpage.specs.Company.{Choice, passed_over, all_chosen, separated, company_height, suits, joins, choices_from, left_floats}
use Rattle.tb_fpage.specs.Walk.{has_chosen, EndsBy, head_choices, after_head, IsWalkOf, IsOnWay, taken, passed}

-- ---- one more choice at the end

separated-chosen : (sep : ℤ) (cs : List Choice) (f : Float) → separated sep (cs ++ record { float = f; chosen = true } ∷ []) ≡ separated sep cs +ℤ sep +ℤ f.height
separated-chosen sep [] f = omega (arith, ints)
separated-chosen sep (c ∷ cs) f = by_choice c.chosen _ _ (separated-chosen sep cs f)
  where
    by_choice : (b : Bool) (x y : ℤ) → x ≡ y +ℤ sep +ℤ f.height → (if b then sep +ℤ c.float.height +ℤ x else x) ≡ (if b then sep +ℤ c.float.height +ℤ y else y) +ℤ sep +ℤ f.height
    by_choice true x y is = omega (arith, ints, is)
    by_choice false x y is = is

separated-passed : (sep : ℤ) (cs : List Choice) (f : Float) → separated sep (cs ++ record { float = f; chosen = false } ∷ []) ≡ separated sep cs
separated-passed sep [] f = refl
separated-passed sep (c ∷ cs) f = ap (λ z. if c.chosen then sep +ℤ c.float.height +ℤ z else z) (separated-passed sep cs f)

pub company-chosen : (sep : ℤ) (cs : List Choice) (f : Float) → has_chosen cs ≡ true → company_height sep (cs ++ record { float = f; chosen = true } ∷ []) ≡ company_height sep cs +ℤ sep +ℤ f.height
company-chosen sep [] f some = cc
company-chosen sep (c ∷ cs) f some = by_choice c.chosen _ _ _ _ (separated-chosen sep cs f) (λ is. company-chosen sep cs f is) some
  where
    by_choice : (b : Bool) (x y v w : ℤ) → x ≡ y +ℤ sep +ℤ f.height → (has_chosen cs ≡ true → v ≡ w +ℤ sep +ℤ f.height) → (b || has_chosen cs) ≡ true → (if b then c.float.height +ℤ x else v) ≡ (if b then c.float.height +ℤ y else w) +ℤ sep +ℤ f.height
    by_choice true x y v w is more h = omega (arith, ints, is)
    by_choice false x y v w is more h = more h

pub company-passed : (sep : ℤ) (cs : List Choice) (f : Float) → company_height sep (cs ++ record { float = f; chosen = false } ∷ []) ≡ company_height sep cs
company-passed sep [] f = refl
company-passed sep (c ∷ cs) f =
    ap (λ z. if c.chosen then c.float.height +ℤ z else company_height sep (cs ++ record { float = f; chosen = false } ∷ [])) (separated-passed sep cs f)
    ∙ ap (λ z. if c.chosen then c.float.height +ℤ separated sep cs else z) (company-passed sep cs f)

-- the first of a company
pub company-first : (sep : ℤ) (cs : List Choice) (f : Float) → has_chosen cs ≡ false → company_height sep (cs ++ record { float = f; chosen = true } ∷ []) ≡ f.height
company-first sep [] f none = omega (arith, ints)
company-first sep (c ∷ cs) f none = by_choice c.chosen _ _ (λ is. company-first sep cs f is) none
  where
    by_choice : (b : Bool) (x v : ℤ) → (has_chosen cs ≡ false → v ≡ f.height) → (b || has_chosen cs) ≡ false → (if b then c.float.height +ℤ x else v) ≡ f.height
    by_choice true x v is h = cc
    by_choice false x v is h = is h

pub chosen-passed : (cs : List Choice) (f : Float) → has_chosen (cs ++ record { float = f; chosen = false } ∷ []) ≡ has_chosen cs
chosen-passed [] f = refl
chosen-passed (d ∷ cs) f = ap (λ b. d.chosen || b) (chosen-passed cs f)

chosen-last : (cs : List Choice) (f : Float) → has_chosen (cs ++ record { float = f; chosen = true } ∷ []) ≡ true
chosen-last [] f = refl
chosen-last (d ∷ cs) f = ap (λ b. d.chosen || b) (chosen-last cs f) ∙ or-true d.chosen

-- each float of a class is in the company if none of them is left
pub all-chosen : (k : ℕ) (cs : List Choice) → all_chosen k cs ≡ not (has_class k (left_floats cs))
all-chosen k [] = refl
all-chosen k (c ∷ cs) = by_choice c.chosen (c.float.class == k) refl (all-chosen k cs)
  where
    by_choice : (b t : Bool) → (c.float.class == k) ≡ t → all_chosen k cs ≡ not (has_class k (left_floats cs)) → ((not t || b) && all_chosen k cs) ≡ not (has_class k (if b then left_floats cs else c.float ∷ left_floats cs))
    by_choice true true e rest = rest
    by_choice true false e rest = rest
    by_choice false true e rest = ap (λ t. not (t || has_class k (left_floats cs))) (sym e)
    by_choice false false e rest = rest ∙ ap (λ t. not (t || has_class k (left_floats cs))) (sym e)

pub left-append : (cs ds : List Choice) → left_floats (cs ++ ds) ≡ left_floats cs ++ left_floats ds
left-append [] ds = refl
left-append (c ∷ cs) ds = by_choice c.chosen _ _ _ (left-append cs ds)
  where
    by_choice : (b : Bool) (x y z : List Float) → x ≡ y ++ z → (if b then x else c.float ∷ x) ≡ (if b then y else c.float ∷ y) ++ z
    by_choice true x y z is = is
    by_choice false x y z is = ap (λ fs. c.float ∷ fs) is

-- a float that joins leaves the classes of those that stay behind as they are, and one that stays adds its own
failed-chosen : (failed : ClassSet) (before : List Choice) (f : Float) → AreClassesOf failed (left_floats before) → AreClassesOf failed (left_floats (before ++ record { float = f; chosen = true } ∷ []))
failed-chosen failed before f h = subst (AreClassesOf failed) (sym (left-append before (record { float = f; chosen = true } ∷ []) ∙ append-nil (left_floats before))) h

failed-passed : (failed : ClassSet) (before : List Choice) (f : Float) → AreClassesOf failed (left_floats before ++ f ∷ []) → AreClassesOf failed (left_floats (before ++ record { float = f; chosen = false } ∷ []))
failed-passed failed before f h = subst (AreClassesOf failed) (sym (left-append before (record { float = f; chosen = false } ∷ []))) h

-- floats that were passed over before a head
pub passed-left : (fs : List Float) → left_floats (passed_over fs) ≡ fs
passed-left [] = refl
passed-left (f ∷ fs) = ap (λ gs. f ∷ gs) (passed-left fs)

pub passed-none : (fs : List Float) → has_chosen (passed_over fs) ≡ false
passed-none [] = refl
passed-none (f ∷ fs) = passed-none fs

-- ---- the last of a company

drop-within : {X : Type 0} (k : ℕ) (xs ys : List X) → k ≤ length xs → drop k (xs ++ ys) ≡ drop k xs ++ ys
drop-within zero xs ys le = refl
drop-within (suc k) [] ys le = absurd (omega (arith, le))
drop-within (suc k) (x ∷ xs) ys le = drop-within k xs ys (omega (arith, le))

-- a float that stays behind is not the last, and one that joins is
pub ends-passed : (last : ℕ) (cs : List Choice) (f : Float) → last ≤ length cs → EndsBy last cs → EndsBy last (cs ++ record { float = f; chosen = false } ∷ [])
ends-passed last cs f le h = ap has_chosen (drop-within last cs (record { float = f; chosen = false } ∷ []) le) ∙ chosen-passed (drop last cs) f ∙ h

ends-all : (last : ℕ) (cs : List Choice) → length cs ≤ last → EndsBy last cs
ends-all last cs le = ap has_chosen (drop_of_length-le cs le)

-- ---- the walk

-- the head is in its company
pub head-stands : (earlier : ClassSet) (sep : ℤ) (before : List Float) (f : Float) (place : ℕ) (height : ℤ) → place ≡ length before → height ≡ f.height → FitsSigned w64 f.height → AreClassesOf earlier before → IsWalkOf (after_head place height earlier) sep (head_choices before f)
head-stands earlier sep before f place height at is fits classes =
    let c : Choice = record { float = f; chosen = true } in
    let many : length (passed_over before) ≡ length before = length-map before (λ g. record { float = g; chosen = false }) in
    let more = length-append (passed_over before) (c ∷ []) in
    let size = fits.sfits in
    record {
      seen = omega arith;
      last = ends-all (place + 1) (head_choices before f) (omega arith);
      last_within = omega arith;
      height = is ∙ sym (company-first sep (passed_over before) f (passed-none before));
      within = record { low = omega (arith, ints); high = omega (arith, ints) };
      failed = failed-chosen earlier (passed_over before) f (subst (AreClassesOf earlier) (sym (passed-left before)) classes);
      head = chosen-last (passed_over before) f;
    }

-- a later float joins
joined-stands : (w : Walk) (sep : ℤ) (before : List Choice) (f : Float) (height : ℤ) → height ≡ w.height +ℤ sep +ℤ f.height → FitsSigned w64 sep → FitsSigned w64 f.height → IsWalkOf w sep before → IsWalkOf (taken height w) sep (before ++ record { float = f; chosen = true } ∷ [])
joined-stands w sep before f height is fits fits_height h =
    let c : Choice = record { float = f; chosen = true } in
    let more = length-append before (c ∷ []) in
    let seen = h.seen in
    let low = h.within.low in
    let high = h.within.high in
    let between = fits.sfits in
    let size = fits_height.sfits in
    record {
      seen = omega arith;
      last = ends-all (w.seen + 1) (before ++ c ∷ []) (omega arith);
      last_within = omega arith;
      height = is ∙ ap (λ z. z +ℤ sep +ℤ f.height) h.height ∙ sym (company-chosen sep before f h.head);
      within = record { low = omega (arith, ints); high = omega (arith, ints) };
      failed = failed-chosen w.failed before f h.failed;
      head = chosen-last before f;
    }

pub visited-joined : (w v : Walk) (sep : ℤ) (before : List Choice) (f : Float) (height : ℤ) → v ≡ taken height w → height ≡ w.height +ℤ sep +ℤ f.height → FitsSigned w64 sep → FitsSigned w64 f.height → IsWalkOf w sep before → IsWalkOf v sep (before ++ record { float = f; chosen = true } ∷ [])
visited-joined w v sep before f height new is fits fits_height h =
    subst (λ (u : Walk). IsWalkOf u sep (before ++ record { float = f; chosen = true } ∷ [])) (sym new) (joined-stands w sep before f height is fits fits_height h)

-- a float stays behind
passed-stands : (w : Walk) (failed : ClassSet) (sep : ℤ) (before : List Choice) (f : Float) → AreClassesOf failed (left_floats before ++ f ∷ []) → IsWalkOf w sep before → IsWalkOf (passed failed w) sep (before ++ record { float = f; chosen = false } ∷ [])
passed-stands w failed sep before f classes h =
    let c : Choice = record { float = f; chosen = false } in
    let more = length-append before (c ∷ []) in
    let seen = h.seen in
    let low = h.within.low in
    let high = h.within.high in
    let within = h.last_within in
    record {
      seen = omega arith;
      last = ends-passed w.last before f h.last_within h.last;
      last_within = omega arith;
      height = h.height ∙ sym (company-passed sep before f);
      within = record { low = omega (arith, ints); high = omega (arith, ints) };
      failed = failed-passed failed before f classes;
      head = chosen-passed before f ∙ h.head;
    }

pub visited-passed : (w v : Walk) (sep : ℤ) (before : List Choice) (f : Float) → v ≡ passed v.failed w → AreClassesOf v.failed (left_floats before ++ f ∷ []) → IsWalkOf w sep before → IsWalkOf v sep (before ++ record { float = f; chosen = false } ∷ [])
visited-passed w v sep before f new classes h =
    subst (λ (u : Walk). IsWalkOf u sep (before ++ record { float = f; chosen = false } ∷ [])) (sym new) (passed-stands w v.failed sep before f classes h)

-- whether a later float joins, by what the walk holds
joins-is : (z : Wanted) (w : Walk) (before : List Choice) (f : Float) (b : Bool) → IsWalkOf w z.sep before → b ≡ has_class f.class (left_floats before)
    → joins z before f ≡ (suits z f && not b && int_le (w.height +ℤ z.sep +ℤ f.height) z.height)
joins-is z w before f b h failed =
    let all : all_chosen f.class before ≡ not b = all-chosen f.class before ∙ ap not (sym failed) in
    let height = company-chosen z.sep before f h.head ∙ ap (λ y. y +ℤ z.sep +ℤ f.height) (sym h.height) in
    ap (λ a. suits z f && a && int_le (company_height z.sep (before ++ record { float = f; chosen = true } ∷ [])) z.height) all ∙ ap (λ y. suits z f && not b && int_le y z.height) height

-- one whose class failed does not, nor one that does not suit
pub joins-failed : (z : Wanted) (w : Walk) (before : List Choice) (f : Float) (b : Bool) → IsWalkOf w z.sep before → b ≡ has_class f.class (left_floats before) → not b ≡ false → joins z before f ≡ false
joins-failed z w before f b h failed not_may =
    joins-is z w before f b h failed ∙ ap (λ a. suits z f && a && int_le (w.height +ℤ z.sep +ℤ f.height) z.height) not_may ∙ and-false (suits z f) (int_le (w.height +ℤ z.sep +ℤ f.height) z.height)
  where
    and-false : (a b : Bool) → (a && false && b) ≡ false
    and-false true b = refl
    and-false false b = refl

pub joins-unsuited : (z : Wanted) (before : List Choice) (f : Float) → suits z f ≡ false → joins z before f ≡ false
joins-unsuited z before f not_suited = ap (λ a. a && all_chosen f.class before && int_le (company_height z.sep (before ++ record { float = f; chosen = true } ∷ [])) z.height) not_suited

-- a later float that suits, and whose class did not fail, joins if it fits
pub joins-fits : (z : Wanted) (w : Walk) (before : List Choice) (f : Float) (b : Bool) (height most : ℤ) → b ≡ has_class f.class (left_floats before) → suits z f ≡ true → not b ≡ true → height ≡ w.height +ℤ z.sep +ℤ f.height → most ≡ z.height → IsWalkOf w z.sep before → int_le height most ≡ joins z before f
joins-fits z w before f b height most failed suit may is at h =
    ap (λ y. int_le y most) is ∙ ap (λ y. int_le (w.height +ℤ z.sep +ℤ f.height) y) at ∙ sym (joins-is z w before f b h failed ∙ ap (λ s. s && not b && int_le (w.height +ℤ z.sep +ℤ f.height) z.height) suit ∙ ap (λ s. s && int_le (w.height +ℤ z.sep +ℤ f.height) z.height) may)

-- ---- the way

module _ {X : Type 0} where
  next-after : (k : ℕ) (xs rest : List X) (x : X) → x ∷ rest ≡ drop k xs → rest ≡ drop (suc k) xs
  next-after zero [] rest x is = cc
  next-after (suc k) [] rest x is = cc
  next-after zero (y ∷ xs) rest x is = cc
  next-after (suc k) (y ∷ xs) rest x is = next-after k xs rest x is

  pub within-drop : (k : ℕ) (xs rest : List X) (x : X) → x ∷ rest ≡ drop k xs → k < length xs
  within-drop zero [] rest x is = cc
  within-drop (suc k) [] rest x is = cc
  within-drop zero (y ∷ xs) rest x is = omega arith
  within-drop (suc k) (y ∷ xs) rest x is = omega (arith, within-drop k xs rest x is)

-- what is left after the next float
pub left-next : (w v : Walk) (all rest : List Float) (f : Float) → v.seen ≡ w.seen + 1 → f ∷ rest ≡ drop w.seen all → rest ≡ drop v.seen all
left-next w v all rest f further left =
    let one : suc w.seen ≡ v.seen = omega (arith, further) in
    next-after w.seen all rest f left ∙ ap (λ n. drop n all) one

pub on-way-ends : (z : Wanted) (w v : Walk) (all rest : List Float) (f : Float) (b : Bool) (choices : List Choice) → v.seen ≡ w.seen + 1 → f ∷ rest ≡ drop w.seen all → (way : IsOnWay w z all choices) → b ≡ joins z way.before f → choices_from z (way.before ++ record { float = f; chosen = b } ∷ []) (drop v.seen all) ≡ choices
on-way-ends z w v all rest f b choices further left way decided =
    ap (λ d. choices_from z (way.before ++ record { float = f; chosen = d } ∷ []) (drop v.seen all)) decided
    ∙ ap (λ fs. choices_from z (way.before ++ record { float = f; chosen = joins z way.before f } ∷ []) fs) (sym (left-next w v all rest f further left))
    ∙ ap (choices_from z way.before) left ∙ way.ends

pub on-way-next : (z : Wanted) (w v : Walk) (all rest : List Float) (f : Float) (b : Bool) (choices : List Choice) → v.seen ≡ w.seen + 1 → f ∷ rest ≡ drop w.seen all → ((before : List Choice) → IsWalkOf w z.sep before → b ≡ joins z before f) → ((before : List Choice) → IsWalkOf w z.sep before → IsWalkOf v z.sep (before ++ record { float = f; chosen = b } ∷ [])) → IsOnWay w z all choices → IsOnWay v z all choices
on-way-next z w v all rest f b choices further left decided stands way = record {
  before = way.before ++ record { float = f; chosen = b } ∷ [];
  stands = stands way.before way.stands;
  ends = on-way-ends z w v all rest f b choices further left way (decided way.before way.stands);
}

-- if none is left, the choices so far are all of them
pub on-way-end : (z : Wanted) (w : Walk) (all : List Float) (choices : List Choice) → [] ≡ drop w.seen all → (way : IsOnWay w z all choices) → way.before ≡ choices
on-way-end z w all choices none way = ap (choices_from z way.before) none ∙ way.ends

-- there is room for the next float, and its height does not overflow
pub on-way-room : (z : Wanted) (w : Walk) (all rest : List Float) (f : Float) (choices : List Choice) → length all ≤ 4096 → f ∷ rest ≡ drop w.seen all → IsOnWay w z all choices → (w.seen < 4096) × IsWithin 151115727451828646838272 w.height
on-way-room z w all rest f choices few left way =
    let seen = way.stands.seen in
    let low = way.stands.within.low in
    let high = way.stands.within.high in
    let less = within-drop w.seen all rest f left in
    (omega arith, record { low = omega (arith, ints); high = omega (arith, ints) })

-- so many floats are not too high for a sum
pub on-way-within : (z : Wanted) (w : Walk) (all : List Float) (choices : List Choice) → length all ≤ 4096 → w.seen ≤ length all → IsOnWay w z all choices → IsWithin 151115727451828646838272 w.height
on-way-within z w all choices few some way =
    let seen = way.stands.seen in
    let low = way.stands.within.low in
    let high = way.stands.within.high in
    record { low = omega (arith, ints); high = omega (arith, ints) }

-- ---- the entries

-- the float is the next of those that are left, and these are the entries of the others
abbrev pub IsNextFloat : List Float → Float → List Entry → Type 0
IsNextFloat left f es = (fs : List Float) × (es ≡ float_entries fs) × (left ≡ f ∷ fs)

pub next-float : (e : Entry) (es : List Entry) (left : List Float) (f : Float) → e ∷ es ≡ float_entries left → e ≡ entries.Float f → IsNextFloat left f es
next-float e es [] f is it = cc
next-float e es (g ∷ fs) f is it = (fs, cc, cc)

pub no-float : (left : List Float) → [] ≡ float_entries left → left ≡ []
no-float [] is = refl
no-float (f ∷ fs) is = cc
