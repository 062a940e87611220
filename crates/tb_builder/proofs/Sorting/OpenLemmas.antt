-- The box of a class is given something.
use Rattle.std.proofs.Common.{◌≡◌, ◌≢◌, refl, sym, subst, ◌∙◌, ap, ℕ, zero, suc, ◌<◌, Bool, true, false, List, [], ◌∷◌, ◌++◌, map, Some, get_or, arith}
use Rattle.std.specs.Prelude.{◌==◌, ◌||◌, slice_set, if◌then◌else◌}
use Rattle.std.specs.FinMap.{get}
use Rattle.std.proofs.lemmas.Bool.{true≢false}
use Rattle.std.proofs.lemmas.Bool.Decides.{nat_tests}
use Rattle.std.proofs.lemmas.List.{map-append}
use Rattle.tb_builder.proofs.LegalPlaces.ClassLemmas.{behind_first}
use Rattle.tb_pool.specs.Lists.{Lists, IsLive, list_at}
use Rattle.tb_node.specs.declared.Node.{Node}
use Rattle.tb_node.specs.PlainNodes.{Leaf, leaf_of}
use Rattle.tb_insert.specs.declared.Class.{Class}
use Rattle.tb_builder.specs.declared.ClassList.{ClassList}
use Rattle.tb_builder.specs.FiredPages.{Boxed, content_of}
use Rattle.tb_builder.specs.Contents.{boxed_of, content_by, leaf_list}
use Rattle.tb_builder.specs.Ownership.{Lacks, AllDiffer, AllLive, AllPlain, HoldPlain, VoidEmpty, box_ids, has_class, ClassesFit, IsFirst}
use Rattle.tb_builder.specs.Firing.{opened, box_list, box_with}
use Rattle.tb_builder.proofs.Ownership.OwnedLemmas.{lists_same, lacks-right}

-- the first box of the class, with something in it
pub opened_at : (es : List ClassList) (number k : ℕ) (e : ClassList) → IsFirst es number k e → e ≡ get_or es k e → slice_set es k (record e { void = false }) ≡ opened number es
opened_at [] number k e h is = let w : k < 0 = h.within in absurd (omega arith)
opened_at (x ∷ es) number zero e h is =
    ap (λ (y : ClassList). record y { void = false } ∷ es) is
    ∙ sym (ap (λ t. if t then record x { void = false } ∷ es else x ∷ opened number es) h.there)
opened_at (x ∷ es) number (suc k) e h is =
    ap (λ ys. x ∷ ys) (opened_at es number k e (behind_first x es number k e h) is)
    ∙ sym (ap (λ t. if t then record x { void = false } ∷ es else x ∷ opened number es) (h.before 0 (omega arith)))

-- its list
pub list_first : (es : List ClassList) (number k : ℕ) (e : ClassList) → IsFirst es number k e → (get_or es k e).list ≡ box_list number es
list_first [] number k e h = let w : k < 0 = h.within in absurd (omega arith)
list_first (x ∷ es) number zero e h = sym (ap (λ t. if t then x.list else box_list number es) h.there)
list_first (x ∷ es) number (suc k) e h = list_first es number k e (behind_first x es number k e h) ∙ sym (ap (λ t. if t then x.list else box_list number es) (h.before 0 (omega arith)))

-- ---- what stays

pub opened-classes : (k : ℕ) (es : List ClassList) → map (λ e. e.class) (opened k es) ≡ map (λ e. e.class) es
opened-classes k [] = refl
opened-classes k (e ∷ es) = by_class (e.class.number == k) (opened-classes k es)
  where
    by_class : (t : Bool) → map (λ e. e.class) (opened k es) ≡ map (λ e. e.class) es → map (λ e. e.class) (if t then record e { void = false } ∷ es else e ∷ opened k es) ≡ e.class ∷ map (λ e. e.class) es
    by_class true h = refl
    by_class false h = ap (λ cs. e.class ∷ cs) h

pub opened-ids : (k : ℕ) (es : List ClassList) → box_ids (opened k es) ≡ box_ids es
opened-ids k [] = refl
opened-ids k (e ∷ es) = by_class (e.class.number == k) (opened-ids k es)
  where
    by_class : (t : Bool) → box_ids (opened k es) ≡ box_ids es → box_ids (if t then record e { void = false } ∷ es else e ∷ opened k es) ≡ e.list ∷ box_ids es
    by_class true h = refl
    by_class false h = ap (λ ids. e.list ∷ ids) h

-- ---- the list of the box is one of the boxes'

pub box_live : (s : Lists Node) (k : ℕ) (es : List ClassList) → has_class (map (λ e. e.class) es) k ≡ true → AllLive s (box_ids es) → IsLive s (box_list k es)
box_live s k [] h l = absurd (true≢false (sym h))
box_live s k (e ∷ es) h l = by_class (e.class.number == k) h (λ x. box_live s k es x l.1)
  where
    by_class : (t : Bool) → (t || has_class (map (λ e. e.class) es) k) ≡ true → (has_class (map (λ e. e.class) es) k ≡ true → IsLive s (box_list k es)) → IsLive s (if t then e.list else box_list k es)
    by_class true h later = l.0
    by_class false h later = later h

pub box_apart : (q k : ℕ) (es : List ClassList) → has_class (map (λ e. e.class) es) k ≡ true → Lacks q (box_ids es) → q ≢ box_list k es
box_apart q k [] h l = absurd (true≢false (sym h))
box_apart q k (e ∷ es) h l = by_class (e.class.number == k) h (λ x. box_apart q k es x l.1)
  where
    by_class : (t : Bool) → (t || has_class (map (λ e. e.class) es) k) ≡ true → (has_class (map (λ e. e.class) es) k ≡ true → q ≢ box_list k es) → q ≢ (if t then e.list else box_list k es)
    by_class true h later = l.0
    by_class false h later = later h

-- ---- what the boxes hold, if the list of one grew and no other changed

-- no other box's list changed
abbrev pub OthersSame : Lists Node → Lists Node → ℕ → List ℕ → Type 0
OthersSame s t own [] = Unit {0}
OthersSame s t own (x ∷ xs) = (x ≢ own → get t.lists x ≡ get s.lists x) × OthersSame s t own xs

pub others_from : (s t : Lists Node) (own l : ℕ) (ids : List ℕ) → ((q : ℕ) → q ≢ own → q ≢ l → get t.lists q ≡ get s.lists q) → Lacks l ids → OthersSame s t own ids
others_from s t own l [] h a = tt
others_from s t own l (x ∷ xs) h a = ((λ ne. h x ne (λ e. a.0 (sym e))), others_from s t own l xs h a.1)

void_behind : (s t : Lists Node) (own : ℕ) (es : List ClassList) → Lacks own (box_ids es) → OthersSame s t own (box_ids es) → VoidEmpty s es → VoidEmpty t es
void_behind s t own [] l o v = tt
void_behind s t own (e ∷ es) l o v = ((λ x. lists_same s t e.list (o.0 (λ y. l.0 (sym y))) ∙ v.0 x), void_behind s t own es l.1 o.1 v.1)

pub opened-void : (s t : Lists Node) (k : ℕ) (es : List ClassList) → has_class (map (λ e. e.class) es) k ≡ true → AllDiffer (box_ids es) → OthersSame s t (box_list k es) (box_ids es) → VoidEmpty s es → VoidEmpty t (opened k es)
opened-void s t k [] h d o v = tt
opened-void s t k (e ∷ es) h d o v = by_class (e.class.number == k) h o (λ x y. opened-void s t k es x d.1 y v.1)
  where
    by_class : (b : Bool) → (b || has_class (map (λ e. e.class) es) k) ≡ true → OthersSame s t (if b then e.list else box_list k es) (e.list ∷ box_ids es)
        → (has_class (map (λ e. e.class) es) k ≡ true → OthersSame s t (box_list k es) (box_ids es) → VoidEmpty t (opened k es)) → VoidEmpty t (if b then record e { void = false } ∷ es else e ∷ opened k es)
    by_class true h o later = ((λ x. absurd (true≢false (sym x))), void_behind s t e.list es d.0 o.1 v.1)
    by_class false h o later = ((λ x. lists_same s t e.list (o.0 (box_apart e.list k es h d.0)) ∙ v.0 x), later h o.1)

abbrev boxed_with : ClassList → List Node → Boxed
boxed_with e ns = record { number = e.class.number; content = content_by e.void (map leaf_of ns) }

-- the boxes of other classes
boxes_behind : (s t : Lists Node) (own k : ℕ) (ls : List Leaf) (es : List ClassList) → has_class (map (λ e. e.class) es) k ≡ false → Lacks own (box_ids es) → OthersSame s t own (box_ids es)
    → map (boxed_of t) es ≡ map (box_with k ls) (map (boxed_of s) es)
boxes_behind s t own k ls [] h l o = refl
boxes_behind s t own k ls (e ∷ es) h l o = by_class (e.class.number == k) refl h (λ x. boxes_behind s t own k ls es x l.1 o.1)
  where
    by_class : (b : Bool) → (e.class.number == k) ≡ b → (b || has_class (map (λ e. e.class) es) k) ≡ false → (has_class (map (λ e. e.class) es) k ≡ false → map (boxed_of t) es ≡ map (box_with k ls) (map (boxed_of s) es))
        → boxed_of t e ∷ map (boxed_of t) es ≡ (if e.class.number == k then record (boxed_of s e) { content = Some (content_of (boxed_of s e).content ++ ls) } else boxed_of s e) ∷ map (box_with k ls) (map (boxed_of s) es)
    by_class true is h later = absurd (true≢false h)
    by_class false is h later = (λ i.
        (ap (boxed_with e) (lists_same s t e.list (o.0 (λ y. l.0 (sym y))))
        ∙ sym (ap (λ b. if b then record (boxed_of s e) { content = Some (content_of (boxed_of s e).content ++ ls) } else boxed_of s e) is)) i
        ∷ later h i)

-- what a box holds is its list, if a void one holds nothing
held_content : (s : Lists Node) (e : ClassList) → (e.void ≡ true → list_at s e.list ≡ []) → leaf_list s e.list ≡ content_of (boxed_of s e).content
held_content s e h = by_void e.void h
  where
    by_void : (v : Bool) → (v ≡ true → list_at s e.list ≡ []) → leaf_list s e.list ≡ content_of (content_by v (leaf_list s e.list))
    by_void true h = ap (map leaf_of) (h refl)
    by_void false h = refl

no_class : (cs : List Class) (number k : ℕ) → (number == k) ≡ true → has_class cs number ≡ false → has_class cs k ≡ false
no_class cs number k e h = let same : number ≡ k = grind (arith, nat_tests, e) in subst (λ x. has_class cs x ≡ false) same h

pub opened-boxes : (s t : Lists Node) (k : ℕ) (more : List Node) (es : List ClassList) → has_class (map (λ e. e.class) es) k ≡ true → ClassesFit (map (λ e. e.class) es) → AllDiffer (box_ids es) → OthersSame s t (box_list k es) (box_ids es) → VoidEmpty s es
    → list_at t (box_list k es) ≡ list_at s (box_list k es) ++ more → map (boxed_of t) (opened k es) ≡ map (box_with k (map leaf_of more)) (map (boxed_of s) es)
opened-boxes s t k more [] h c d o v grown = refl
opened-boxes s t k more (e ∷ es) h c d o v grown = by_class (e.class.number == k) refl h o grown (λ x y z. opened-boxes s t k more es x c.3 d.1 y v.1 z)
  where
    by_class : (b : Bool) → (e.class.number == k) ≡ b → (b || has_class (map (λ e. e.class) es) k) ≡ true → OthersSame s t (if b then e.list else box_list k es) (e.list ∷ box_ids es)
        → list_at t (if b then e.list else box_list k es) ≡ list_at s (if b then e.list else box_list k es) ++ more
        → (has_class (map (λ e. e.class) es) k ≡ true → OthersSame s t (box_list k es) (box_ids es) → list_at t (box_list k es) ≡ list_at s (box_list k es) ++ more → map (boxed_of t) (opened k es) ≡ map (box_with k (map leaf_of more)) (map (boxed_of s) es))
        → map (boxed_of t) (if b then record e { void = false } ∷ es else e ∷ opened k es)
        ≡ (if e.class.number == k then record (boxed_of s e) { content = Some (content_of (boxed_of s e).content ++ map leaf_of more) } else boxed_of s e) ∷ map (box_with k (map leaf_of more)) (map (boxed_of s) es)
    by_class true is h o grown later =
        (λ i. ((ap (λ ns. record { number = e.class.number; content = Some ns }) (ap (map leaf_of) grown ∙ map-append leaf_of (list_at s e.list) more ∙ ap (λ ns. ns ++ map leaf_of more) (held_content s e v.0))
        ∙ sym (ap (λ b. if b then record (boxed_of s e) { content = Some (content_of (boxed_of s e).content ++ map leaf_of more) } else boxed_of s e) is)) i)
        ∷ boxes_behind s t e.list k (map leaf_of more) es (no_class (map (λ e. e.class) es) e.class.number k is c.0) d.0 o.1 i)
    by_class false is h o grown later =
        (λ i. ((ap (boxed_with e) (lists_same s t e.list (o.0 (box_apart e.list k es h d.0)))
        ∙ sym (ap (λ b. if b then record (boxed_of s e) { content = Some (content_of (boxed_of s e).content ++ map leaf_of more) } else boxed_of s e) is)) i)
        ∷ later h o.1 grown i)

-- if the lists of all boxes differ from these, so does the list of one
pub box_lacks : (k : ℕ) (es : List ClassList) (ids : List ℕ) → has_class (map (λ e. e.class) es) k ≡ true → AllDiffer (box_ids es ++ ids) → Lacks (box_list k es) ids
box_lacks k [] ids h d = absurd (true≢false (sym h))
box_lacks k (e ∷ es) ids h d = by_class (e.class.number == k) h (λ x. box_lacks k es ids x d.1)
  where
    by_class : (b : Bool) → (b || has_class (map (λ e. e.class) es) k) ≡ true → (has_class (map (λ e. e.class) es) k ≡ true → Lacks (box_list k es) ids) → Lacks (if b then e.list else box_list k es) ids
    by_class true h later = lacks-right e.list (box_ids es) ids d.0
    by_class false h later = later h

pub box_holds_plain : (s : Lists Node) (k : ℕ) (es : List ClassList) → has_class (map (λ e. e.class) es) k ≡ true → HoldPlain s (box_ids es) → AllPlain (list_at s (box_list k es))
box_holds_plain s k [] h p = absurd (true≢false (sym h))
box_holds_plain s k (e ∷ es) h p = by_class (e.class.number == k) h (λ x. box_holds_plain s k es x p.1)
  where
    by_class : (b : Bool) → (b || has_class (map (λ e. e.class) es) k) ≡ true → (has_class (map (λ e. e.class) es) k ≡ true → AllPlain (list_at s (box_list k es))) → AllPlain (list_at s (if b then e.list else box_list k es))
    by_class true h later = p.0
    by_class false h later = later h
