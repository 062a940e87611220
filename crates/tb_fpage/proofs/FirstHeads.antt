-- The floats that are the first of their class are tried as heads, and no others.
use Rattle.std.proofs.Common.{◌≡◌, ℕ, zero, suc, ◌+◌, ◌-◌, ◌<◌, ◌≤◌, ◌==◌, Bool, true, false, not, ◌&&◌, List, [], ◌∷◌, ◌++◌, length, take, drop, Some, None, slice_get, refl, sym, ap, subst, ◌∙◌, get_or, arith}
use Rattle.std.proofs.Math.Seq.{drop-cons}
use Rattle.std.proofs.Math.ListN.{drop_of_length-le}
use Rattle.std.proofs.lemmas.Bool.{eqb-true}
use Rattle.std.proofs.lemmas.Option.{slice_get_within}
use Rattle.tb_node.specs.declared.Float.{Float}
use Rattle.tb_float.specs.declared.classes.ClassSet.{ClassSet}
use Rattle.tb_float.specs.declared.firsts.First.{First}
use Rattle.tb_float.specs.Classes.{AreClassesOf, AreOfClasses}
use Rattle.tb_float.specs.Firsts.{firsts_from, firsts_of}
use Rattle.tb_float.specs.Lists.{has_class}
use Rattle.tb_float.proofs.ClassLemmas.{has-same, has-other}
use Rattle.tb_float.proofs.FirstLemmas.{NextFirst, next-first, no-first}
use Rattle.tb_float.proofs.HasLemmas.{has-more, has-there}
use Rattle.tb_float.proofs.ListLemmas.{slice_get-drop, some-at, take-at}
use Rattle.tb_fpage.specs.declared.Wanted.{Wanted}
use Rattle.tb_fpage.specs.Company.{company, suits, is_made}
use Rattle.tb_fpage.specs.Walk.{AreTried, company_of_place, is_made_at}
use Rattle.tb_fpage.proofs.CompanyLemmas.{tried-next}
use Rattle.tb_fpage.proofs.FullLemmas.{company-closed}

-- ---- floats of classes that come before

-- a float of a class that is there brings no new one
same-classes : (before : List Float) (f : Float) (k : ℕ) → has_class f.class before ≡ true → has_class k (before ++ f ∷ []) ≡ has_class k before
same-classes before f k has = by_class (f.class == k) refl
  where
    by_class : (t : Bool) → (f.class == k) ≡ t → has_class k (before ++ f ∷ []) ≡ has_class k before
    by_class true e = has-same before f k e ∙ sym (subst (λ j. has_class j before ≡ true) (eqb-true f.class k e) has)
    by_class false e = has-other before f k e

-- and is no head
no-head : (z : Wanted) (place : ℕ) (all : List Float) (f : Float) → has_class f.class (take place all) ≡ true → is_made_at z place all f ≡ false
no-head z place all f has =
    let cs = company_of_place z place all f in
    ap (λ b. (suits z f && not b) && is_made z cs) has ∙ never (suits z f) (is_made z cs)
  where
    never : (s m : Bool) → ((s && not true) && m) ≡ false
    never true m = refl
    never false m = refl

passed-one : (z : Wanted) (earlier : ClassSet) (place : ℕ) (all : List Float) (f : Float) → AreTried z earlier place all (drop place all) → slice_get all place ≡ Some f → has_class f.class (take place all) ≡ true → AreTried z earlier (suc place) all (drop (suc place) all)
passed-one z earlier place all f t there has =
    let here = subst (λ (fs : List Float). AreTried z earlier place all fs) (slice_get-drop place all f there) t in
    let next = tried-next z earlier earlier place all (drop (suc place) all) f here (no-head z place all f has) (λ k lt. t.classes k lt ∙ ap Some (sym (same-classes (take place all) f k has))) in
    let one : place + 1 ≡ suc place = omega arith in
    subst (λ n. AreTried z earlier n all (drop (suc place) all)) one next

get-taken : (all : List Float) (place end : ℕ) (f : Float) → place < end → slice_get all place ≡ Some f → slice_get (take end all) place ≡ Some f
get-taken all place zero f lt got = absurd (omega (arith, lt))
get-taken [] place (suc end) f lt got = cc
get-taken (g ∷ all) zero (suc end) f lt got = got
get-taken (g ∷ all) (suc place) (suc end) f lt got = get-taken all place end f (omega (arith, lt)) got

-- so many of them are passed
passed-many : (n : ℕ) (z : Wanted) (earlier : ClassSet) (place end : ℕ) (all : List Float) → place + n ≡ end → end ≤ length all → AreTried z earlier place all (drop place all) → AreOfClasses (take place all) (take end all) → AreTried z earlier end all (drop end all)
passed-many zero z earlier place end all many within t of =
    let same : place ≡ end = omega (arith, many) in
    subst (λ k. AreTried z earlier k all (drop k all)) same t
passed-many (suc n) z earlier place end all many within t of =
    let at = some-at all place (omega (arith, many, within)) in
    let has = of at.0.class (has-there (take end all) place at.0 (get-taken all place end at.0 (omega (arith, many)) at.1)) in
    passed-many n z earlier (suc place) end all (omega (arith, many)) within (passed-one z earlier place all at.0 t at.1 has) (λ k h. subst (λ b. has_class k b ≡ true) (sym (take-at all place at.0 at.1)) (has-more k (take place all) (at.0 ∷ []) (of k h)))

-- ---- the first floats

-- no head before a place has a company that is made, and these are the first of their class from there on
pub record AreFirstsTried (z : Wanted) (earlier : ClassSet) (all : List Float) (left : List First) : Type 0 where
  pub place : ℕ
  pub tried : AreTried z earlier place all (drop place all)
  pub firsts : firsts_from (take place all) (drop place all) ≡ left

pub firsts-start : (z : Wanted) (none : ClassSet) (all : List Float) → AreClassesOf none [] → AreFirstsTried z none all (firsts_of all)
firsts-start z none all classes = record {
  place = zero;
  tried = record { left_are = refl; within = omega arith; classes = classes; later = refl };
  firsts = refl;
}

-- the next one, as the code walks over them
module _ (z : Wanted) (earlier : ClassSet) (all : List Float) (xs : List First) (i : ℕ) (x : First) (lt : i < length xs) (is : x ≡ get_or xs i x) (t : AreFirstsTried z earlier all (drop i xs)) where
  next : NextFirst all t.place x (drop (i + 1) xs)
  next =
      let one : suc i ≡ i + 1 = omega arith in
      next-first all t.place (drop t.place all) x (drop (i + 1) xs) refl (t.firsts ∙ drop-cons xs i x lt ∙ ap (λ y. y ∷ drop (suc i) xs) (sym is) ∙ ap (λ n. x ∷ drop n xs) one)

  -- no head before it has a company that is made
  pub first-tried : AreTried z earlier x.place all (x.float ∷ drop (suc x.place) all)
  first-tried =
      let within : x.place ≤ length all = omega (arith, slice_get_within all x.place x.float next.there) in
      subst (λ (fs : List Float). AreTried z earlier x.place all fs) (slice_get-drop x.place all x.float next.there)
      (passed-many (x.place - t.place) z earlier t.place x.place all (omega (arith, next.within)) within t.tried next.passed)

  pub first-there : slice_get all x.place ≡ Some x.float
  first-there = next.there

  pub first-within : x.place < length all
  first-within = slice_get_within all x.place x.float next.there

  pub first-passed : (later : ClassSet) → is_made_at z x.place all x.float ≡ false → AreClassesOf later (take x.place all ++ x.float ∷ []) → AreFirstsTried z later all (drop (i + 1) xs)
  first-passed later none classes =
      let one : x.place + 1 ≡ suc x.place = omega arith in
      record {
        place = suc x.place;
        tried = subst (λ k. AreTried z later k all (drop (suc x.place) all)) one (tried-next z earlier later x.place all (drop (suc x.place) all) x.float first-tried none classes);
        firsts = sym next.later;
      }

-- if none is left, none was found
pub firsts-end : (z : Wanted) (earlier : ClassSet) (all : List Float) (xs : List First) (i : ℕ) → length xs ≤ i → AreFirstsTried z earlier all (drop i xs) → company z all ≡ None
firsts-end z earlier all xs i le t =
    sym t.tried.later ∙ company-closed z (take t.place all) (drop t.place all) (no-first (take t.place all) (drop t.place all) (t.firsts ∙ drop_of_length-le xs le))
