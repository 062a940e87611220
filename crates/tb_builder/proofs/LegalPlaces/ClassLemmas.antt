-- The class of a number among the classes, and its box.
use Rattle.std.proofs.Common.{◌≡◌, refl, sym, subst, ◌∙◌, ap, ℕ, zero, suc, ◌+◌, ◌<◌, Bool, true, false, List, [], ◌∷◌, length, map, Some, None, get_or, cond, arith}
use Rattle.std.specs.Prelude.{◌==◌, ◌||◌, position, slice_index_or, if◌then◌else◌}
use Rattle.std.specs.List.{position_from}
use Rattle.std.proofs.lemmas.Iterator.Adapters.{position_from-zero}
use Rattle.std.proofs.lemmas.List.Quantifiers.{position-Some}
use Rattle.std.proofs.lemmas.Bool.{eqb-true, true≢false}
use Rattle.tb_pool.specs.Lists.{Lists, IsLive, list_at}
use Rattle.tb_node.specs.declared.Node.{Node}
use Rattle.tb_node.specs.PlainNodes.{leaf_shape, shape_of}
use Rattle.tb_node.specs.Fit.{shapes}
use Rattle.tb_node.specs.Sums.{size_of}
use Rattle.tb_insert.specs.declared.Class.{Class}
use Rattle.tb_insert.specs.Account.{ClassBox, class_box}
use Rattle.tb_insert.specs.Arrival.{ClassFits}
use Rattle.tb_insert.specs.AccountEntries.{numbered, Differ, boxed}
use Rattle.tb_insert.proofs.AccountLemmas.{leaf_shapes}
use Rattle.tb_builder.specs.declared.Ask.{Ask}
use Rattle.tb_builder.specs.declared.ClassList.{ClassList}
use Rattle.tb_builder.specs.FiredPages.{box_content, box_size, class_for, class_boxes, content_of}
use Rattle.tb_builder.specs.Contents.{boxed_of, content_by, leaf_list}
use Rattle.tb_builder.specs.Ownership.{VoidEmpty, box_ids, AllLive, has_class, ClassesFit, has_number, IsFirst, IsClassList}
use Rattle.tb_builder.specs.PageEvents.{SizesFit, BoxesFit}

pub first_at : (es : List ClassList) (number k : ℕ) (d : ClassList) → position (λ e. e.class.number == number) es ≡ Some k → IsFirst es number k d
first_at es number k d e =
    let h = position-Some (λ e. e.class.number == number) es k d e in
    record { within = h.0; there = h.1; before = h.2 }

pub found_within : (es : List ClassList) (number k : ℕ) → position (λ e. e.class.number == number) es ≡ Some k → k < length es
found_within [] number k h = cc
found_within (e ∷ es) number k h = (first_at (e ∷ es) number k e h).within

pub behind_first : (e : ClassList) (es : List ClassList) (number k : ℕ) (d : ClassList) → IsFirst (e ∷ es) number (suc k) d → IsFirst es number k d
behind_first e es number k d h = record { within = let w : suc k < length (e ∷ es) = h.within in omega arith; there = h.there; before = λ j lt. h.before (suc j) (omega arith) }

module _ (f : Class → ClassBox) (same : (c : Class) → (f c).class.number ≡ c.number) where
  pub class_found : (es : List ClassList) (number k : ℕ) (d : ClassList) → IsFirst es number k d → class_box (map f (map (λ e. e.class) es)) number ≡ f (get_or es k d).class
  class_found [] number k d h = let w : k < 0 = h.within in absurd (omega arith)
  class_found (e ∷ es) number zero d h = ap (λ n. if n == number then f e.class else class_box (map f (map (λ x. x.class) es)) number) (same e.class) ∙ ap (λ b. if b then f e.class else class_box (map f (map (λ x. x.class) es)) number) h.there
  class_found (e ∷ es) number (suc k) d h =
      ap (λ n. if n == number then f e.class else class_box (map f (map (λ x. x.class) es)) number) (same e.class)
      ∙ ap (λ b. if b then f e.class else class_box (map f (map (λ x. x.class) es)) number) (h.before 0 (omega arith))
      ∙ class_found es number k d (behind_first e es number k d h)

  pub numbered_found : (cs : List Class) (number : ℕ) → numbered (map f cs) number ≡ has_class cs number
  numbered_found [] number = refl
  numbered_found (c ∷ cs) number = (λ i. same c i == number || numbered_found cs number i)

  pub differ_found : (cs : List Class) → ClassesFit cs → Differ (map f cs)
  differ_found [] h = tt
  differ_found (c ∷ cs) h = (ap (numbered (map f cs)) (same c) ∙ numbered_found cs c.number ∙ h.0, differ_found cs h.3)

pub content_found : (s : Lists Node) (es : List ClassList) (number k : ℕ) (d : ClassList) → IsFirst es number k d → box_content (map (boxed_of s) es) number ≡ (boxed_of s (get_or es k d)).content
content_found s [] number k d h = let w : k < 0 = h.within in absurd (omega arith)
content_found s (e ∷ es) number zero d h = ap (λ b. if b then (boxed_of s e).content else box_content (map (boxed_of s) es) number) h.there
content_found s (e ∷ es) number (suc k) d h =
    ap (λ b. if b then (boxed_of s e).content else box_content (map (boxed_of s) es) number) (h.before 0 (omega arith))
    ∙ content_found s es number k d (behind_first e es number k d h)

-- if no class has the number
none_from : (es : List ClassList) (number i : ℕ) → position_from (λ e. e.class.number == number) i es ≡ None → has_class (map (λ e. e.class) es) number ≡ false
none_from [] number i h = refl
none_from (e ∷ es) number i h = by_test (e.class.number == number) refl (λ k. none_from es number (i + 1) k)
  where
    by_test : (t : Bool) → (e.class.number == number) ≡ t → (position_from (λ e. e.class.number == number) (i + 1) es ≡ None → has_class (map (λ e. e.class) es) number ≡ false) → ((e.class.number == number) || has_class (map (λ e. e.class) es) number) ≡ false
    by_test true t later = let no : Some i ≡ None = sym (ap (λ b. cond b (Some i) (position_from (λ e. e.class.number == number) (i + 1) es)) t) ∙ h in cc
    by_test false t later = ap (λ b. b || has_class (map (λ e. e.class) es) number) t ∙ later (sym (ap (λ b. cond b (Some i) (position_from (λ e. e.class.number == number) (i + 1) es)) t) ∙ h)

pub none_at : (es : List ClassList) (number : ℕ) → position (λ e. e.class.number == number) es ≡ None → has_class (map (λ e. e.class) es) number ≡ false
none_at es number e = none_from es number 0 (sym (position_from-zero (λ (x : ClassList). x.class.number == number) es) ∙ e)

pub void_at : (s : Lists Node) (es : List ClassList) (k : ℕ) (d : ClassList) → k < length es → VoidEmpty s es → (get_or es k d).void ≡ true → list_at s (get_or es k d).list ≡ []
void_at s [] k d w h = absurd (omega arith)
void_at s (e ∷ es) zero d w h = h.0
void_at s (e ∷ es) (suc k) d w h = void_at s es k d (omega arith) h.1

-- the size of a box is that of its list
pub size_found : (s : Lists Node) (e : ClassList) → (e.void ≡ true → list_at s e.list ≡ []) → box_size (content_by e.void (leaf_list s e.list)) ≡ size_of (shapes s e.list)
size_found s e h = by_void e.void h
  where
    by_void : (v : Bool) → (v ≡ true → list_at s e.list ≡ []) → box_size (content_by v (leaf_list s e.list)) ≡ size_of (shapes s e.list)
    by_void true h = sym (ap (λ ns. size_of (map shape_of ns)) (h refl))
    by_void false h = ap size_of (leaf_shapes (list_at s e.list))

-- what is required of the boxes' contents holds of their lists
pub fits_at : (s : Lists Node) (es : List ClassList) (k : ℕ) (d : ClassList) → k < length es → VoidEmpty s es → BoxesFit (map (boxed_of s) es) → SizesFit (shapes s (get_or es k d).list)
fits_at s [] k d w v h = absurd (omega arith)
fits_at s (e ∷ es) zero d w v h = subst SizesFit (by_void e.void v.0) h.0
  where
    by_void : (b : Bool) → (b ≡ true → list_at s e.list ≡ []) → map leaf_shape (content_of (content_by b (leaf_list s e.list))) ≡ shapes s e.list
    by_void true h = sym (ap (map shape_of) (h refl))
    by_void false h = leaf_shapes (list_at s e.list)
fits_at s (e ∷ es) (suc k) d w v h = fits_at s es k d (omega arith) v.1 h.1

pub class_fits_at : (es : List ClassList) (k : ℕ) (d : ClassList) → k < length es → ClassesFit (map (λ e. e.class) es) → ((get_or es k d).class.number < 256) × ClassFits (get_or es k d).class
class_fits_at [] k d w h = absurd (omega arith)
class_fits_at (e ∷ es) zero d w h = (h.1, h.2)
class_fits_at (e ∷ es) (suc k) d w h = class_fits_at es k d (omega arith) h.3

pub live_at : (s : Lists Node) (es : List ClassList) (k : ℕ) (d : ClassList) → k < length es → AllLive s (box_ids es) → IsLive s (get_or es k d).list
live_at s [] k d w h = absurd (omega arith)
live_at s (e ∷ es) zero d w h = h.0
live_at s (e ∷ es) (suc k) d w h = live_at s es k d (omega arith) h.1

-- one of the classes that has a number is the first of them
pub class_there : (es : List ClassList) (number : ℕ) → has_class (map (λ e. e.class) es) number ≡ true → (e : ClassList) × IsClassList es number e
class_there [] number h = absurd (true≢false (sym h))
class_there (x ∷ es) number h = by_test (x.class.number == number) refl (λ later. class_there es number later)
  where
    behind : (e : ClassList) × IsClassList es number e → (x.class.number == number) ≡ false → (e : ClassList) × IsClassList (x ∷ es) number e
    behind rest t = (rest.0, record { place = suc rest.1.place; first = record { within = omega (arith, rest.1.first.within); there = rest.1.first.there; before = before }; is = rest.1.is })
      where
        before : (j : ℕ) → j < suc rest.1.place → has_number number (slice_index_or (x ∷ es) j rest.0) ≡ false
        before zero w = t
        before (suc j) w = rest.1.first.before j (omega arith)

    by_test : (t : Bool) → (x.class.number == number) ≡ t → (has_class (map (λ e. e.class) es) number ≡ true → (e : ClassList) × IsClassList es number e) → (e : ClassList) × IsClassList (x ∷ es) number e
    by_test true t later = (x, record { place = 0; first = record { within = omega arith; there = t; before = λ j w. absurd (omega arith) }; is = refl })
    by_test false t later = behind (later (sym (ap (λ b. b || has_class (map (λ e. e.class) es) number) t) ∙ h)) t

-- ---- facts about the class with a number and its box

module _ (s : Lists Node) (es : List ClassList) (number : ℕ) (e : ClassList) (h : IsClassList es number e) where
  pub list_live : AllLive s (box_ids es) → IsLive s e.list
  list_live live = subst (λ x. IsLive s x.list) h.is (live_at s es h.place e h.first.within live)

  pub list_fits : VoidEmpty s es → BoxesFit (map (boxed_of s) es) → SizesFit (shapes s e.list)
  list_fits v fits = subst (λ x. SizesFit (shapes s x.list)) h.is (fits_at s es h.place e h.first.within v fits)

  pub class_known : ClassesFit (map (λ e. e.class) es) → (e.class.number < 256) × ClassFits e.class
  class_known fits = subst (λ x. (x.class.number < 256) × ClassFits x.class) h.is (class_fits_at es h.place e h.first.within fits)

  pub number_is : e.class.number ≡ number
  number_is = eqb-true e.class.number number (ap (has_number number) (sym h.is) ∙ h.first.there)

  -- the class box of the page's classes
  pub box_is : (made : Ask) → VoidEmpty s es → class_box (class_boxes made (map (λ e. e.class) es) (map (boxed_of s) es)) number ≡ boxed (class_for made e.class) (size_of (shapes s e.list))
  box_is made v =
      class_found (λ c. record { class = class_for made c; size = box_size (box_content (map (boxed_of s) es) c.number) }) (λ c. refl) es number h.place e h.first
      ∙ ap (λ (x : ClassList). boxed (class_for made x.class) (box_size (box_content (map (boxed_of s) es) x.class.number))) h.is
      ∙ ap (λ k. boxed (class_for made e.class) (box_size (box_content (map (boxed_of s) es) k))) number_is
      ∙ ap (λ o. boxed (class_for made e.class) (box_size o)) (content_found s es number h.place e h.first)
      ∙ ap (λ (x : ClassList). boxed (class_for made e.class) (box_size (boxed_of s x).content)) h.is
      ∙ ap (boxed (class_for made e.class)) (size_found s e (subst (λ x. x.void ≡ true → list_at s x.list ≡ []) h.is (void_at s es h.place e h.first.within v)))
