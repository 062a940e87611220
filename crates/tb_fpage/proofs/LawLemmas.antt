-- What holds of every company: it has each float once, keeps the order of each class, fits, and is high enough.
use Rattle.std.proofs.Common.{◌≡◌, ℕ, ◌==◌, Bool, true, false, not, ◌||◌, ◌&&◌, List, [], ◌∷◌, ◌++◌, map, Some, refl, sym, ap, ◌∙◌, subst, inl, inr, arith}
use Rattle.std.specs.Cmp.{second_so}
use Rattle.std.specs.Prelude.{ℤ, pos, ◌+ℤ◌, ◌≤ℤ◌, int_le, int_lt, IsTrue, if◌then◌else◌}
use Rattle.std.specs.Bool.{beq}
use Rattle.std.proofs.lemmas.Int.{ints}
use Rattle.std.proofs.lemmas.List.{map-append, append_assoc, append-nil}
use Rattle.std.proofs.lemmas.Bool.{cases_eq, ne_eqb, and_parts, not-true}
use Rattle.std.proofs.lemmas.Option.{same_Some}
use Rattle.tb_node.specs.declared.Float.{Float}
use Rattle.tb_float.specs.Lists.{has_class, of_class}
use Rattle.tb_float.specs.Pool.{marked_among, unmarked_among}
use Rattle.tb_float.specs.Rooms.{floats_room, later_room}
use Rattle.tb_fpage.specs.declared.Wanted.{Wanted}
use Rattle.tb_fpage.specs.Company.{Choice, suits, passed_over, all_chosen, separated, company_height, joins, choices_from, company_of_head, is_head, is_made, company_from, company, chosen_floats, left_floats}
use Rattle.tb_fpage.proofs.WalkLemmas.{left-append, company-passed, company-first, passed-left, passed-none}
use Rattle.tb_float.proofs.ClassLemmas.{of_class-append}
use Rattle.tb_float.proofs.MarkLemmas.{unmarked-all}

abbrev floats_of : List Choice → List Float
floats_of cs = map (λ c. c.float) cs

-- ---- the floats that are chosen and those that are left

pub marked-chosen : (cs : List Choice) → marked_among (map (λ c. c.chosen) cs) (floats_of cs) ≡ chosen_floats cs
marked-chosen [] = refl
marked-chosen (c ∷ cs) = ap (λ fs. if c.chosen then c.float ∷ fs else marked_among (map (λ d. d.chosen) cs) (floats_of cs)) (marked-chosen cs) ∙ ap (λ fs. if c.chosen then c.float ∷ chosen_floats cs else fs) (marked-chosen cs)

pub unmarked-left : (cs : List Choice) → unmarked_among (map (λ c. c.chosen) cs) (floats_of cs) ≡ left_floats cs
unmarked-left [] = refl
unmarked-left (c ∷ cs) = ap (λ fs. if c.chosen then fs else c.float ∷ unmarked_among (map (λ d. d.chosen) cs) (floats_of cs)) (unmarked-left cs) ∙ ap (λ fs. if c.chosen then left_floats cs else c.float ∷ fs) (unmarked-left cs)

chosen-append : (cs ds : List Choice) → chosen_floats (cs ++ ds) ≡ chosen_floats cs ++ chosen_floats ds
chosen-append [] ds = refl
chosen-append (c ∷ cs) ds = by_choice c.chosen _ _ _ (chosen-append cs ds)
  where
    by_choice : (b : Bool) (x y z : List Float) → x ≡ y ++ z → (if b then c.float ∷ x else x) ≡ (if b then c.float ∷ y else y) ++ z
    by_choice true x y z is = ap (λ fs. c.float ∷ fs) is
    by_choice false x y z is = is

-- the height of a company is the room of its floats
later-separated : (sep : ℤ) (cs : List Choice) → separated sep cs ≡ later_room sep (chosen_floats cs)
later-separated sep [] = refl
later-separated sep (c ∷ cs) = by_choice c.chosen _ _ (later-separated sep cs)
  where
    by_choice : (b : Bool) (x : ℤ) (fs : List Float) → x ≡ later_room sep fs → (if b then sep +ℤ c.float.height +ℤ x else x) ≡ later_room sep (if b then c.float ∷ fs else fs)
    by_choice true x fs is = omega (arith, ints, is)
    by_choice false x fs is = is

pub height-room : (sep : ℤ) (cs : List Choice) → company_height sep cs ≡ floats_room (pos 0) sep (chosen_floats cs)
height-room sep [] = refl
height-room sep (c ∷ cs) = by_choice c.chosen _ _ (chosen_floats cs) (later-separated sep cs) (height-room sep cs)
  where
    by_choice : (b : Bool) (x v : ℤ) (fs : List Float) → x ≡ later_room sep fs → v ≡ floats_room (pos 0) sep fs → (if b then c.float.height +ℤ x else v) ≡ floats_room (pos 0) sep (if b then c.float ∷ fs else fs)
    by_choice true x v fs is at = omega (arith, ints, is)
    by_choice false x v fs is at = at

-- ---- the order of a class

-- of each class, the chosen floats come before those that are left
abbrev InOrder : List Choice → Type 0
InOrder cs = (k : ℕ) → of_class k (floats_of cs) ≡ of_class k (chosen_floats cs) ++ of_class k (left_floats cs)

none-left : (k : ℕ) (cs : List Choice) → all_chosen k cs ≡ true → of_class k (left_floats cs) ≡ []
none-left k [] all = refl
none-left k (c ∷ cs) all = by_choice c.chosen (c.float.class == k) refl (λ h. none-left k cs h) all
  where
    by_test : (t : Bool) → (c.float.class == k) ≡ t → (all_chosen k cs ≡ true → of_class k (left_floats cs) ≡ []) → ((not t || false) && all_chosen k cs) ≡ true → of_class k (c.float ∷ left_floats cs) ≡ []
    by_test true e ih h = cc
    by_test false e ih h = ap (λ t. if t then c.float ∷ of_class k (left_floats cs) else of_class k (left_floats cs)) e ∙ ih h

    by_choice : (b t : Bool) → (c.float.class == k) ≡ t → (all_chosen k cs ≡ true → of_class k (left_floats cs) ≡ []) → ((not t || b) && all_chosen k cs) ≡ true → of_class k (if b then left_floats cs else c.float ∷ left_floats cs) ≡ []
    by_choice true t e ih h = ih (second_so (not t || true) (all_chosen k cs) h)
    by_choice false t e ih h = by_test t e ih h

floats-more : (k : ℕ) (before : List Choice) (f : Float) (b : Bool) → InOrder before
    → of_class k (floats_of (before ++ record { float = f; chosen = b } ∷ [])) ≡ (of_class k (chosen_floats before) ++ of_class k (left_floats before)) ++ of_class k (f ∷ [])
floats-more k before f b h =
    ap (of_class k) (map-append (λ c. c.float) before (record { float = f; chosen = b } ∷ [])) ∙ of_class-append k (floats_of before) (f ∷ []) ∙ ap (λ fs. fs ++ of_class k (f ∷ [])) (h k)

in-order-left : (before : List Choice) (f : Float) → InOrder before → InOrder (before ++ record { float = f; chosen = false } ∷ [])
in-order-left before f h = λ k.
    let c : Choice = record { float = f; chosen = false } in
    let chosen = ap (of_class k) (chosen-append before (c ∷ []) ∙ append-nil (chosen_floats before)) in
    let left = ap (of_class k) (left-append before (c ∷ [])) ∙ of_class-append k (left_floats before) (f ∷ []) in
    floats-more k before f false h ∙ append_assoc (of_class k (chosen_floats before)) (of_class k (left_floats before)) (of_class k (f ∷ []))
    ∙ ap (λ fs. of_class k (chosen_floats before) ++ fs) (sym left) ∙ ap (λ fs. fs ++ of_class k (left_floats (before ++ c ∷ []))) (sym chosen)

swap-none-left : (xs ys zs : List Float) → ys ≡ [] → (xs ++ ys) ++ zs ≡ (xs ++ zs) ++ ys
swap-none-left xs ys zs is = ap (λ hs. (xs ++ hs) ++ zs) is ∙ ap (λ hs. hs ++ zs) (append-nil xs) ∙ sym (append-nil (xs ++ zs)) ∙ ap (λ hs. (xs ++ zs) ++ hs) (sym is)

swap-none-more : (xs ys zs : List Float) → zs ≡ [] → (xs ++ ys) ++ zs ≡ (xs ++ zs) ++ ys
swap-none-more xs ys zs is = ap (λ hs. (xs ++ ys) ++ hs) is ∙ append-nil (xs ++ ys) ∙ ap (λ hs. hs ++ ys) (sym (append-nil xs)) ∙ ap (λ hs. (xs ++ hs) ++ ys) (sym is)

in-order-chosen : (before : List Choice) (f : Float) → InOrder before → all_chosen f.class before ≡ true → InOrder (before ++ record { float = f; chosen = true } ∷ [])
in-order-chosen before f h all = λ k.
    let c : Choice = record { float = f; chosen = true } in
    let xs = of_class k (chosen_floats before) in
    let ys = of_class k (left_floats before) in
    let zs = of_class k (f ∷ []) in
    let chosen = ap (of_class k) (chosen-append before (c ∷ [])) ∙ of_class-append k (chosen_floats before) (f ∷ []) in
    let left = ap (of_class k) (left-append before (c ∷ []) ∙ append-nil (left_floats before)) in
    let same : (xs ++ ys) ++ zs ≡ (xs ++ zs) ++ ys = elim (cases_eq f.class k) [
      | inl is ↦ swap-none-left xs ys zs (none-left k before (ap (λ j. all_chosen j before) (sym is) ∙ all))
      | inr ne ↦ swap-none-more xs ys zs (ap (λ t. if t then f ∷ [] else []) (ne_eqb f.class k ne))
    ] in
    floats-more k before f true h ∙ same ∙ ap (λ fs. fs ++ ys) (sym chosen) ∙ ap (λ fs. of_class k (chosen_floats (before ++ c ∷ [])) ++ fs) (sym left)

passed-floats : (fs : List Float) → floats_of (passed_over fs) ≡ fs
passed-floats [] = refl
passed-floats (f ∷ fs) = ap (λ gs. f ∷ gs) (passed-floats fs)

passed-chosen : (fs : List Float) → chosen_floats (passed_over fs) ≡ []
passed-chosen [] = refl
passed-chosen (f ∷ fs) = passed-chosen fs

in-order-passed : (fs : List Float) → InOrder (passed_over fs)
in-order-passed fs = λ k.
    ap (of_class k) (passed-floats fs ∙ sym (passed-left fs)) ∙ ap (λ gs. of_class k gs ++ of_class k (left_floats (passed_over fs))) (sym (passed-chosen fs))

no-class : (k : ℕ) (fs : List Float) → has_class k fs ≡ false → all_chosen k (passed_over fs) ≡ true
no-class k [] none = refl
no-class k (f ∷ fs) none = by_test (f.class == k) (λ h. no-class k fs h) none
  where
    by_test : (t : Bool) → (has_class k fs ≡ false → all_chosen k (passed_over fs) ≡ true) → (t || has_class k fs) ≡ false → ((not t || false) && all_chosen k (passed_over fs)) ≡ true
    by_test true ih h = cc
    by_test false ih h = ih h

-- ---- a company

joined-class : (z : Wanted) (before : List Choice) (f : Float) → joins z before f ≡ true → all_chosen f.class before ≡ true
joined-class z before f h = (and_parts (suits z f) (all_chosen f.class before) (and_parts (suits z f && all_chosen f.class before) (int_le (company_height z.sep (before ++ record { float = f; chosen = true } ∷ [])) z.height) h).0).1

joined-height : (z : Wanted) (before : List Choice) (f : Float) → joins z before f ≡ true → int_le (company_height z.sep (before ++ record { float = f; chosen = true } ∷ [])) z.height ≡ true
joined-height z before f h = (and_parts (suits z f && all_chosen f.class before) (int_le (company_height z.sep (before ++ record { float = f; chosen = true } ∷ [])) z.height) h).1

le-true : (a b : ℤ) → int_le a b ≡ true → a ≤ℤ b
le-true a b h = grind (arith, ints, h)

choices-floats : (z : Wanted) (before : List Choice) (fs : List Float) → floats_of (choices_from z before fs) ≡ floats_of before ++ fs
choices-floats z before [] = sym (append-nil (floats_of before))
choices-floats z before (f ∷ fs) =
    let c : Choice = record { float = f; chosen = joins z before f } in
    choices-floats z (before ++ c ∷ []) fs ∙ ap (λ gs. gs ++ fs) (map-append (λ d. d.float) before (c ∷ [])) ∙ append_assoc (floats_of before) (f ∷ []) fs

in-order-more : (z : Wanted) (before : List Choice) (f : Float) (b : Bool) → joins z before f ≡ b → InOrder before → InOrder (before ++ record { float = f; chosen = b } ∷ [])
in-order-more z before f true e h = in-order-chosen before f h (joined-class z before f e)
in-order-more z before f false e h = in-order-left before f h

choices-in-order : (z : Wanted) (before : List Choice) (fs : List Float) → InOrder before → InOrder (choices_from z before fs)
choices-in-order z before [] h = h
choices-in-order z before (f ∷ fs) h = choices-in-order z (before ++ record { float = f; chosen = joins z before f } ∷ []) fs (in-order-more z before f (joins z before f) refl h)

fits-more : (z : Wanted) (before : List Choice) (f : Float) (b : Bool) → joins z before f ≡ b → company_height z.sep before ≤ℤ z.height → company_height z.sep (before ++ record { float = f; chosen = b } ∷ []) ≤ℤ z.height
fits-more z before f true e h = le-true _ _ (joined-height z before f e)
fits-more z before f false e h = subst (λ (y : ℤ). y ≤ℤ z.height) (sym (company-passed z.sep before f)) h

choices-fit : (z : Wanted) (before : List Choice) (fs : List Float) → company_height z.sep before ≤ℤ z.height → company_height z.sep (choices_from z before fs) ≤ℤ z.height
choices-fit z before [] h = h
choices-fit z before (f ∷ fs) h = choices-fit z (before ++ record { float = f; chosen = joins z before f } ∷ []) fs (fits-more z before f (joins z before f) refl h)

pub record IsLawful (z : Wanted) (fs : List Float) (cs : List Choice) : Type 0 where
  pub floats : floats_of cs ≡ fs
  pub order : InOrder cs
  pub fits : company_height z.sep cs ≤ℤ z.height
  pub made : is_made z cs ≡ true

head-lawful : (z : Wanted) (before : List Float) (f : Float) (fs : List Float) → is_head z before f ≡ true → is_made z (company_of_head z before f fs) ≡ true → IsLawful z (before ++ f ∷ fs) (company_of_head z before f fs)
head-lawful z before f fs head made =
    let c : Choice = record { float = f; chosen = true } in
    let suit : suits z f ≡ true = (and_parts (suits z f) (not (has_class f.class before)) head).0 in
    let none : has_class f.class before ≡ false = not-true (has_class f.class before) (and_parts (suits z f) (not (has_class f.class before)) head).1 in
    let low : f.height ≤ℤ z.height = le-true _ _ (and_parts ((f.places.p || z.clearing) && beq f.wide z.wide) (int_le f.height z.height) suit).1 in
    let first : company_height z.sep (passed_over before ++ c ∷ []) ≤ℤ z.height = subst (λ (y : ℤ). y ≤ℤ z.height) (sym (company-first z.sep (passed_over before) f (passed-none before))) low in
    record {
      floats = choices-floats z (passed_over before ++ c ∷ []) fs ∙ ap (λ gs. gs ++ fs) (map-append (λ d. d.float) (passed_over before) (c ∷ []) ∙ ap (λ gs. gs ++ f ∷ []) (passed-floats before)) ∙ append_assoc before (f ∷ []) fs;
      order = choices-in-order z (passed_over before ++ c ∷ []) fs (in-order-chosen (passed_over before) f (in-order-passed before) (no-class f.class before none));
      fits = choices-fit z (passed_over before ++ c ∷ []) fs first;
      made = made;
    }

company-lawful : (z : Wanted) (before fs : List Float) (cs : List Choice) → company_from z before fs ≡ Some cs → IsLawful z (before ++ fs) cs
company-lawful z before [] cs is = cc
company-lawful z before (f ∷ fs) cs is = by_test (is_head z before f && is_made z (company_of_head z before f fs)) refl (λ h. company-lawful z (before ++ f ∷ []) fs cs h) is
  where
    by_test : (t : Bool) → (is_head z before f && is_made z (company_of_head z before f fs)) ≡ t → (company_from z (before ++ f ∷ []) fs ≡ Some cs → IsLawful z ((before ++ f ∷ []) ++ fs) cs) → (if t then Some (company_of_head z before f fs) else company_from z (before ++ f ∷ []) fs) ≡ Some cs → IsLawful z (before ++ f ∷ fs) cs
    by_test true e ih h = subst (λ (ds : List Choice). IsLawful z (before ++ f ∷ fs) ds) (same_Some (company_of_head z before f fs) cs h) (head-lawful z before f fs (and_parts (is_head z before f) (is_made z (company_of_head z before f fs)) e).0 (and_parts (is_head z before f) (is_made z (company_of_head z before f fs)) e).1)
    by_test false e ih h = subst (λ (gs : List Float). IsLawful z gs cs) (append_assoc before (f ∷ []) fs) (ih h)

pub company-is-lawful : (z : Wanted) (fs : List Float) (cs : List Choice) → company z fs ≡ Some cs → IsLawful z fs cs
company-is-lawful z fs cs is = company-lawful z [] fs cs is

-- ---- the marks of a company

pub marked-company : (z : Wanted) (fs : List Float) (cs : List Choice) → company z fs ≡ Some cs → marked_among (map (λ c. c.chosen) cs) fs ≡ chosen_floats cs
marked-company z fs cs is = ap (marked_among (map (λ c. c.chosen) cs)) (sym (company-is-lawful z fs cs is).floats) ∙ marked-chosen cs

pub unmarked-company : (z : Wanted) (fs : List Float) (cs : List Choice) → company z fs ≡ Some cs → unmarked_among (map (λ c. c.chosen) cs) fs ≡ left_floats cs
unmarked-company z fs cs is = ap (unmarked_among (map (λ c. c.chosen) cs)) (sym (company-is-lawful z fs cs is).floats) ∙ unmarked-left cs

pub order-company : (z : Wanted) (fs : List Float) (cs : List Choice) (marked unmarked : List Float) → company z fs ≡ Some cs → marked ≡ chosen_floats cs → unmarked ≡ left_floats cs → (k : ℕ) → of_class k fs ≡ of_class k marked ++ of_class k unmarked
order-company z fs cs marked unmarked is chosen left = λ k.
    ap (of_class k) (sym (company-is-lawful z fs cs is).floats) ∙ (company-is-lawful z fs cs is).order k ∙ ap (λ gs. of_class k gs ++ of_class k (left_floats cs)) (sym chosen) ∙ ap (λ gs. of_class k marked ++ of_class k gs) (sym left)

pub fits-company : (z : Wanted) (fs : List Float) (cs : List Choice) (marked : List Float) → company z fs ≡ Some cs → marked ≡ chosen_floats cs → floats_room (pos 0) z.sep marked ≤ℤ z.height
fits-company z fs cs marked is chosen = subst (λ (y : ℤ). y ≤ℤ z.height) (height-room z.sep cs ∙ ap (floats_room (pos 0) z.sep) (sym chosen)) (company-is-lawful z fs cs is).fits

pub high-company : (z : Wanted) (fs : List Float) (cs : List Choice) (marked : List Float) → company z fs ≡ Some cs → marked ≡ chosen_floats cs → IsTrue (z.clearing || int_lt z.minimum (floats_room (pos 0) z.sep marked))
high-company z fs cs marked is chosen = ap (λ y. z.clearing || int_lt z.minimum y) (sym (height-room z.sep cs ∙ ap (floats_room (pos 0) z.sep) (sym chosen))) ∙ (company-is-lawful z fs cs is).made

-- if nothing is marked, all floats stay
pub order-unmarked : (ms : List Bool) (fs : List Float) → marked_among ms fs ≡ [] → (k : ℕ) → of_class k fs ≡ of_class k (marked_among ms fs) ++ of_class k (unmarked_among ms fs)
order-unmarked ms fs none = λ k.
    ap (of_class k) (sym (unmarked-all ms fs none)) ∙ ap (λ gs. of_class k gs ++ of_class k (unmarked_among ms fs)) (sym none)
