-- The company of the first head whose company is made, place by place.
use Rattle.std.proofs.Common.{◌≡◌, ℕ, zero, suc, ◌+◌, ◌≤◌, Bool, true, false, List, [], ◌∷◌, ◌++◌, length, take, drop, Some, None, slice_get, refl, sym, ap, subst, ◌∙◌, add-one, arith, FitsSigned, w64}
use Rattle.std.specs.Prelude.{ℤ, if◌then◌else◌}
use Rattle.std.proofs.lemmas.List.{length-append, length-take-le}
use Rattle.std.proofs.lemmas.Option.{slice_get_within, same_Some}
use Rattle.tb_node.specs.declared.Float.{Float}
use Rattle.tb_float.proofs.ListLemmas.{slice_get-drop, take-at}
use Rattle.tb_float.specs.declared.classes.ClassSet.{ClassSet}
use Rattle.tb_float.specs.Classes.{AreClassesOf}
use Rattle.tb_fpage.specs.declared.Wanted.{Wanted}
use Rattle.tb_fpage.specs.Company.{Choice, wanted_of, choices_from, company, company_from, joins}
use Rattle.tb_fpage.specs.Walk.{company_of_place, is_made_at, after_head, head_choices, EndsBy, CompanyEndsBy, IsWalkOf, IsOnWay, AreTried, IsAfterHead}
use Rattle.tb_fpage.specs.declared.walk.Walk.{Walk}
use Rattle.tb_fpage.proofs.WalkLemmas.{head-stands}

-- ---- the company

pub length-choices : (z : Wanted) (before : List Choice) (fs : List Float) → length (choices_from z before fs) ≡ length before + length fs
length-choices z before [] = omega arith
length-choices z before (f ∷ fs) =
    let c : Choice = record { float = f; chosen = joins z before f } in
    omega (arith, length-choices z (before ++ c ∷ []) fs, length-append before (c ∷ []))

-- the company from a place on: that of the float there, or one from the next place on
company-step : (z : Wanted) (place : ℕ) (fs : List Float) (f : Float) → slice_get fs place ≡ Some f
    → company_from z (take place fs) (drop place fs) ≡ (if is_made_at z place fs f then Some (company_of_place z place fs f) else company_from z (take (suc place) fs) (drop (suc place) fs))
company-step z place fs f got =
    ap (company_from z (take place fs)) (slice_get-drop place fs f got) ∙ ap (λ t. if is_made_at z place fs f then Some (company_of_place z place fs f) else company_from z t (drop (suc place) fs)) (sym (take-at fs place f got))

company-here : (z : Wanted) (place : ℕ) (fs : List Float) (f : Float) → slice_get fs place ≡ Some f → is_made_at z place fs f ≡ true → company_from z (take place fs) (drop place fs) ≡ Some (company_of_place z place fs f)
company-here z place fs f got made =
    company-step z place fs f got ∙ ap (λ b. if b then Some (company_of_place z place fs f) else company_from z (take (suc place) fs) (drop (suc place) fs)) made

company-later : (z : Wanted) (place : ℕ) (fs : List Float) (f : Float) → slice_get fs place ≡ Some f → is_made_at z place fs f ≡ false → company_from z (take (place + 1) fs) (drop (place + 1) fs) ≡ company_from z (take place fs) (drop place fs)
company-later z place fs f got not_made =
    rw add-one (sym (company-step z place fs f got ∙ ap (λ b. if b then Some (company_of_place z place fs f) else company_from z (take (suc place) fs) (drop (suc place) fs)) not_made))

-- what is wanted, as the code keeps it
pub wanted-is : (h h' m m' s s' : ℤ) (clearing wide : Bool) → h' ≡ h → m' ≡ m → s' ≡ s
    → wanted_of h' m' s' clearing wide ≡ wanted_of h m s clearing wide
wanted-is h h' m m' s s' clearing wide high low between =
    ap (λ x. wanted_of x m' s' clearing wide) high
    ∙ ap (λ x. wanted_of h x s' clearing wide) low
    ∙ ap (λ x. wanted_of h m x clearing wide) between

-- ---- the floats that were tried as heads

get-dropped : (fs rest : List Float) (k : ℕ) (f : Float) → f ∷ rest ≡ drop k fs → slice_get fs k ≡ Some f
get-dropped [] rest zero f is = cc
get-dropped [] rest (suc k) f is = cc
get-dropped (g ∷ fs) rest zero f is = let same : g ≡ f = cc in ap Some same
get-dropped (g ∷ fs) rest (suc k) f is = get-dropped fs rest k f is

-- the next one is at the place
pub tried-there : (z : Wanted) (earlier : ClassSet) (place : ℕ) (all rest : List Float) (f : Float) → AreTried z earlier place all (f ∷ rest) → slice_get all place ≡ Some f
tried-there z earlier place all rest f t = get-dropped all rest place f t.left_are

-- its company is made, or that of a later one
pub tried-found : (z : Wanted) (earlier : ClassSet) (place : ℕ) (all rest : List Float) (f : Float) → AreTried z earlier place all (f ∷ rest) → is_made_at z place all f ≡ true → company z all ≡ Some (company_of_place z place all f)
tried-found z earlier place all rest f t made =
    sym t.later ∙ ap (company_from z (take place all)) t.left_are ∙ company-here z place all f (tried-there z earlier place all rest f t) made

pub tried-ends : (z : Wanted) (earlier : ClassSet) (place : ℕ) (all rest : List Float) (f : Float) (last : ℕ) → AreTried z earlier place all (f ∷ rest) → is_made_at z place all f ≡ true → EndsBy last (company_of_place z place all f) → CompanyEndsBy last z all
tried-ends z earlier place all rest f last t made ends = λ choices is.
    subst (EndsBy last) (same_Some _ _ (sym (tried-found z earlier place all rest f t made) ∙ is)) ends

pub tried-next : (z : Wanted) (earlier next : ClassSet) (place : ℕ) (all rest : List Float) (f : Float) → AreTried z earlier place all (f ∷ rest) → is_made_at z place all f ≡ false → AreClassesOf next (take place all ++ f ∷ []) → AreTried z next (place + 1) all rest
tried-next z earlier next place all rest f t none classes =
    let got = tried-there z earlier place all rest f t in
    let dropped : f ∷ rest ≡ f ∷ drop (suc place) all = t.left_are ∙ slice_get-drop place all f got in
    let behind : rest ≡ drop (suc place) all = cc in
    let one : suc place ≡ place + 1 = omega arith in
    let left = behind ∙ ap (λ n. drop n all) one in
    record {
      left_are = left;
      within = omega (arith, slice_get_within all place f got);
      classes = subst (AreClassesOf next) (sym (take-at all place f got) ∙ ap (λ n. take n all) one) classes;
      later = ap (company_from z (take (place + 1) all)) left ∙ company-later z place all f got none ∙ ap (company_from z (take place all)) (sym t.left_are) ∙ t.later;
    }

pub tried-end : (z : Wanted) (earlier : ClassSet) (place : ℕ) (all : List Float) → AreTried z earlier place all [] → company z all ≡ None
tried-end z earlier place all t = sym t.later

-- ---- a walk starts at a head

pub on-way-start : (z : Wanted) (w : Walk) (earlier : ClassSet) (place : ℕ) (all : List Float) (f : Float) (height : ℤ) → w ≡ after_head place height earlier → slice_get all place ≡ Some f → height ≡ f.height → FitsSigned w64 f.height → AreClassesOf earlier (take place all) → IsOnWay w z all (company_of_place z place all f)
on-way-start z w earlier place all f height new there is fits classes =
    let within : place ≤ length all = omega (arith, slice_get_within all place f there) in
    let one : place + 1 ≡ suc place = omega arith in
    record {
      before = head_choices (take place all) f;
      stands = subst (λ (u : Walk). IsWalkOf u z.sep (head_choices (take place all) f)) (sym new) (head-stands earlier z.sep (take place all) f place height (sym (length-take-le place all within)) is fits classes);
      ends = ap (λ (u : Walk). choices_from z (head_choices (take place all) f) (drop u.seen all)) new ∙ ap (λ n. choices_from z (head_choices (take place all) f) (drop n all)) one;
    }

-- a walk that has passed the head whose company is made
pub tried-head : (z : Wanted) (earlier : ClassSet) (place : ℕ) (all rest : List Float) (f : Float) (height : ℤ) → AreTried z earlier place all (f ∷ rest) → is_made_at z place all f ≡ true → height ≡ f.height → FitsSigned w64 f.height → IsAfterHead (after_head place height earlier) z all
tried-head z earlier place all rest f height t made is fits =
    let there = tried-there z earlier place all rest f t in
    let many : length (take place all) ≡ place = length-take-le place all t.within in
    record {
      place = place;
      head = f;
      there = there;
      seen = refl;
      stands = head-stands earlier z.sep (take place all) f place height (sym many) is fits t.classes;
      made = tried-found z earlier place all rest f t made;
    }
