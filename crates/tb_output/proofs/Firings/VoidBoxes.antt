-- Boxes of classes that are void, one after another.
use Rattle.std.proofs.Common.{◌≡◌, ◌≢◌, refl, sym, ◌∙◌, ap, ℕ, zero, suc, ◌<◌, ◌≤◌, Bool, true, false, List, [], ◌∷◌, ◌++◌, length, take, get_or, Option, Some, None, arith}
use Rattle.std.specs.Prelude.{◌==◌, ◌||◌, if◌then◌else◌}
use Rattle.std.specs.List.{AllByRecursion}
use Rattle.std.proofs.lemmas.Bool.{or_parts}
use Rattle.std.proofs.lemmas.Bool.Decides.{nat_tests}
use Rattle.std.proofs.Math.Bool.{or-true}
use Rattle.tb_builder.proofs.Handover.CallLemmas.{voided_number, voids_boxed}
use Rattle.tb_node.specs.PlainNodes.{Leaf}
use Rattle.tb_insert.specs.declared.Class.{Class}
use Rattle.tb_builder.specs.FiredPages.{Boxed, box_content}
use Rattle.tb_builder.specs.Ownership.{has_class, ClassesFit}
use Rattle.tb_builder.specs.Contributions.{voided, with_void}
use Rattle.tb_builder.specs.SizedContents.{AreBoxesOf}
use Rattle.tb_column.specs.Column.{Notes}
use Rattle.tb_output.specs.State.{with_notes, notes_in}
use Rattle.tb_output.specs.Columns.{emptied_boxes}
use Rattle.tb_output.specs.Machine.{AreClassesFrom}
use Rattle.tb_output.specs.Notes.{with_voids}

-- a void box
abbrev void : ℕ → Boxed
void n = record { number = n; content = None }

-- ---- one class

emptied-void : (k : ℕ) (bs : List Boxed) → emptied_boxes (with_void k bs) ≡ emptied_boxes bs
emptied-void k [] = refl
emptied-void k (b ∷ bs) = λ i. void (voided_number k b i) ∷ emptied-void k bs i

voided-own : (k : ℕ) (b : Boxed) → b.number ≡ k → voided k b ≡ void b.number
voided-own k b e = let same : (b.number == k) ≡ true = grind (arith, nat_tests, e) in ap (λ t. if t then void b.number else b) same

voided-other : (k : ℕ) (b : Boxed) → (b.number == k) ≡ false → voided k b ≡ b
voided-other k b e = ap (λ t. if t then void b.number else b) e

void-again : (k n : ℕ) → voided k (void n) ≡ void n
void-again k n = by_number (n == k)
  where
    by_number : (t : Bool) → (if t then void n else void n) ≡ void n
    by_number true = refl
    by_number false = refl

-- ---- all classes

void-stays : (cs : List Class) (n : ℕ) (bs : List Boxed) → with_voids cs (void n ∷ bs) ≡ void n ∷ with_voids cs bs
void-stays [] n bs = refl
void-stays (c ∷ cs) n bs = ap (λ b. with_voids cs (b ∷ with_void c.number bs)) (void-again c.number n) ∙ void-stays cs n (with_void c.number bs)

pub all-voids : (cs : List Class) (bs : List Boxed) → AreBoxesOf cs bs → with_voids cs bs ≡ emptied_boxes bs
all-voids [] [] h = refl
all-voids [] (b ∷ bs) h = absurd h
all-voids (c ∷ cs) [] h = absurd h
all-voids (c ∷ cs) (b ∷ bs) h =
    ap (λ x. with_voids cs (x ∷ with_void c.number bs)) (voided-own c.number b h.0)
    ∙ void-stays cs b.number (with_void c.number bs)
    ∙ ap (λ xs. void b.number ∷ xs) (all-voids cs (with_void c.number bs) (voids_boxed c.number cs bs h.1) ∙ emptied-void c.number bs)

pub voids-after : (cs : List Class) (c : Class) (bs : List Boxed) → with_voids (cs ++ c ∷ []) bs ≡ with_void c.number (with_voids cs bs)
voids-after [] c bs = refl
voids-after (d ∷ cs) c bs = voids-after cs c (with_void d.number bs)

-- ---- what the box of another class holds

pick-same : (t : Bool) (x y z : Option (List Leaf)) → (t ≡ true → x ≡ y) → (if t then x else z) ≡ (if t then y else z)
pick-same true x y z f = f refl
pick-same false x y z f = refl

content-other : (n k : ℕ) → n ≢ k → (bs : List Boxed) → box_content (with_void n bs) k ≡ box_content bs k
content-other n k differ [] = refl
content-other n k differ (b ∷ bs) =
    (λ i. if voided_number n b i == k then (voided n b).content else content-other n k differ bs i)
    ∙ pick-same (b.number == k) (voided n b).content b.content (box_content bs k) (λ e. let other : (b.number == n) ≡ false = grind (arith, nat_tests, e, differ) in ap (λ (x : Boxed). x.content) (voided-other n b other))

pub contents-other : (cs : List Class) (k : ℕ) → AllByRecursion (λ c. c.number ≢ k) cs → (bs : List Boxed) → box_content (with_voids cs bs) k ≡ box_content bs k
contents-other [] k h bs = refl
contents-other (c ∷ cs) k h bs = contents-other cs k h.1 (with_void c.number bs) ∙ content-other c.number k h.0 bs

-- ---- a box that is void already

other-void : (cs : List Class) (bs : List Boxed) (n : ℕ) → has_class cs n ≡ false → AreBoxesOf cs bs → with_void n bs ≡ bs
other-void [] [] n lacks h = refl
other-void [] (b ∷ bs) n lacks h = absurd h
other-void (c ∷ cs) [] n lacks h = absurd h
other-void (c ∷ cs) (b ∷ bs) n lacks h =
    let no_class = or_parts (c.number == n) (has_class cs n) lacks in
    λ i. voided-other n b (ap (λ m. m == n) h.0 ∙ no_class.0) i ∷ other-void cs bs n no_class.1 h.1 i

pub void-same : (cs : List Class) (bs : List Boxed) (n : ℕ) → ClassesFit cs → AreBoxesOf cs bs → box_content bs n ≡ None → with_void n bs ≡ bs
void-same [] [] n fit h none = refl
void-same [] (b ∷ bs) n fit h none = absurd h
void-same (c ∷ cs) [] n fit h none = absurd h
void-same (c ∷ cs) (b ∷ bs) n fit h none = by_number (b.number == n) refl (void-same cs bs n fit.3 h.1)
  where
    by_number : (t : Bool) → (b.number == n) ≡ t → (box_content bs n ≡ None → with_void n bs ≡ bs) → voided n b ∷ with_void n bs ≡ b ∷ bs
    by_number true e later =
        let own : b.number ≡ n = grind (arith, nat_tests, e) in
        let empty : b.content ≡ None = sym (ap (λ t. if t then b.content else box_content bs n) e) ∙ none in
        let other : has_class cs n ≡ false = ap (has_class cs) (sym own ∙ h.0) ∙ fit.0 in
        λ i. (voided-own n b own ∙ (λ j. record b { content = sym empty j })) i ∷ other-void cs bs n other h.1 i
    by_number false e later = λ i. voided-other n b e i ∷ later (sym (ap (λ t. if t then b.content else box_content bs n) e) ∙ none) i

-- ---- the insertions

with-join : (c : Class) (o : Option (List Leaf)) (xs ys : List Notes) → with_notes c o (xs ++ ys) ≡ with_notes c o xs ++ ys
with-join c None xs ys = refl
with-join c (Some inner) xs ys = refl

pub notes-after : (cs : List Class) (c : Class) (bs : List Boxed) → notes_in (cs ++ c ∷ []) bs ≡ notes_in cs bs ++ notes_in (c ∷ []) bs
notes-after [] c bs = refl
notes-after (d ∷ cs) c bs = ap (with_notes d (box_content bs d.number)) (notes-after cs c bs) ∙ with-join d (box_content bs d.number) (notes_in cs bs) (notes_in (c ∷ []) bs)

-- ---- the classes of a walk

-- those before a class have other numbers
pub differ-before : (j : ℕ) (cs : List Class) (k : ℕ) (d : Class) → AreClassesFrom j cs → k < length cs → AllByRecursion (λ c. c.number ≢ (get_or cs k d).number) (take k cs) × (j ≤ (get_or cs k d).number)
differ-before j [] k d h lt = absurd (omega (arith, lt))
differ-before j (c ∷ cs) zero d h lt = (tt, h.0)
differ-before j (c ∷ cs) (suc k) d h lt =
    let later = differ-before (suc c.number) cs k d h.2 (omega (arith, lt)) in
    (((λ e. less (get_or cs k d).number later.1 e), later.0), let first = h.0 in let above = later.1 in omega (arith, first, above))
  where
    less : (m : ℕ) → suc c.number ≤ m → c.number ≡ m → ⊥
    less m h e = omega (arith, h, e)

-- each of them is known
pub known-at : (cs : List Class) (k : ℕ) (d : Class) → k < length cs → has_class cs (get_or cs k d).number ≡ true
known-at [] k d lt = absurd (omega (arith, lt))
known-at (c ∷ cs) zero d lt = let same : (c.number == c.number) ≡ true = grind (arith, nat_tests) in ap (λ t. t || has_class cs c.number) same
known-at (c ∷ cs) (suc k) d lt = ap (λ t. (c.number == (get_or cs k d).number) || t) (known-at cs k d (omega (arith, lt))) ∙ or-true (c.number == (get_or cs k d).number)
