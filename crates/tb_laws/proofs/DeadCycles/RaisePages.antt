-- A page raises no more than what waited and its box did: what the box holds as it fires, what is held, and the rest.
use Rattle.std.proofs.Common.{◌≡◌, refl, sym, ◌∙◌, ap, subst, ℕ, suc, ◌+◌, ◌≤◌, ◌==◌, ℤ, Bool, true, false, List, [], ◌∷◌, ◌++◌, map, take, drop, length, Option, Some, None, arith}
use Rattle.std.specs.Prelude.{◌||◌, if◌then◌else◌}
use Rattle.std.proofs.lemmas.Bool.{eq-eqb, eqb-true, both_ways}
use Rattle.tb_node.specs.PlainNodes.{Leaf, Inserted, PlainKind, plain, ins, act, PlainNode, without_acts, on_line}
use Rattle.tb_break.specs.PageTop.{pruned_leaves, pruned_nodes}
use Rattle.tb_insert.specs.declared.Class.{Class}
use Rattle.tb_insert.specs.Account.{Frozen, Labelled, Label, whole, split, late, label_of, labelled_with, labelled_from, labelled}
use Rattle.tb_builder.specs.Reach.{Reach}
use Rattle.tb_builder.specs.FiredPages.{Boxed, with_spent_break, gives, given_by, given_to, is_given, content_of, box_content, box_after, unless_empty, held_of, held_insertions}
use Rattle.tb_builder.proofs.Cutting.CutLemmas.{CutAt}
use Rattle.tb_builder.proofs.FiredPages.PageWeights.{hits, LabelsOfClass}
use Rattle.tb_laws.proofs.NothingLost.StateWeights.{BoxesFit, class_numbers}
use Rattle.tb_laws.proofs.NothingLost.RunWeights.{box_after-number}
use Rattle.tb_laws.proofs.NothingLost.LastLabels.{LabelsLast, GivenAll}
use Rattle.tb_laws.proofs.DeadCycles.RaiseCounts.{leaves_count, list_raises, kind_raises, raises, content_raises, box_raises, raises-append, raises-parts, raises-pruned, raises-actless, raises-spent}
use Rattle.tb_laws.proofs.DeadCycles.RaiseSplits.{rest_raises, given_raises, held_raises, Parted, AllParted, all-parted}

-- ---- the insertions of a page

abbrev labels_raises : List Labelled → ℕ
labels_raises [] = 0
labels_raises (l ∷ ls) = kind_raises (ins l.inserted) + labels_raises ls

labels-append : (xs ys : List Labelled) → labels_raises (xs ++ ys) ≡ labels_raises xs + labels_raises ys
labels-append [] ys = omega arith
labels-append (x ∷ xs) ys = let h : labels_raises (xs ++ ys) ≡ labels_raises xs + labels_raises ys = labels-append xs ys in omega arith

with-raises : (z : Frozen) (ls : List Labelled) (before : List PlainNode) (line : ℕ) (k : PlainKind) → labels_raises (labelled_with z ls before line k) ≡ labels_raises ls + kind_raises k
with-raises z ls before line (plain m) = omega arith
with-raises z ls before line (ins i) =
    let y : Labelled = record { index = length before; line = line; inserted = i; label = label_of z ls before i } in
    let h : labels_raises (ls ++ y ∷ []) ≡ labels_raises ls + labels_raises (y ∷ []) = labels-append ls (y ∷ []) in
    omega arith
with-raises z ls before line (act a) = omega arith

-- the labelled insertions raise as the nodes do
labelled-raises : (z : Frozen) (ls : List Labelled) (before ns : List PlainNode) → labels_raises (labelled_from z ls before ns) ≡ labels_raises ls + raises ns
labelled-raises z ls before [] = omega arith
labelled-raises z ls before (n ∷ ns) =
    let a : labels_raises (labelled_with z ls before n.line n.kind) ≡ labels_raises ls + kind_raises n.kind = with-raises z ls before n.line n.kind in
    let h : labels_raises (labelled_from z (labelled_with z ls before n.line n.kind) (before ++ n ∷ []) ns) ≡ labels_raises (labelled_with z ls before n.line n.kind) + raises ns = labelled-raises z (labelled_with z ls before n.line n.kind) (before ++ n ∷ []) ns in
    omega arith

-- if an insertion is of class 255
abbrev last_of : Inserted → ℕ → ℕ
last_of i n = if i.class == 255 then n else 0

-- what is given to the box of class 255 raises
abbrev all_given : List Labelled → ℕ
all_given [] = 0
all_given (l ∷ ls) = last_of l.inserted (given_raises l.label l.inserted) + all_given ls

of-none : (i : Inserted) → last_of i 0 ≡ 0
of-none i = by_class (i.class == 255)
  where
    by_class : (t : Bool) → ◌≡◌ {A = ℕ} (if t then 0 else 0) 0
    by_class true = refl
    by_class false = refl

unless-raises : (line : ℕ) (i : Inserted) (ls : List Leaf) → raises (on_line line (unless_empty i ls)) ≡ last_of i (rest_raises ls)
unless-raises line i [] = sym (of-none i)
unless-raises line i (l ∷ ls) = omega arith

held_of-raises : (line : ℕ) (t : Label) (i : Inserted) → raises (on_line line (held_of t i)) ≡ last_of i (held_raises t i)
held_of-raises line whole i = sym (of-none i)
held_of-raises line (split f) i = unless-raises line i (pruned_leaves i.split_top (drop f.index i.inner))
held_of-raises line late i = omega arith

one-parted : (t : Label) (i : Inserted) → Parted t i → last_of i (given_raises t i) + last_of i (held_raises t i) ≤ kind_raises (ins i)
one-parted t i h = by_class (i.class == 255)
  where
    by_class : (b : Bool) → (if b then given_raises t i else 0) + (if b then held_raises t i else 0) ≤ (if b then list_raises i.inner else 0)
    by_class true = h
    by_class false = omega arith

-- what is given and what is held raise no more than the insertions
held-raises : (ls : List Labelled) → AllParted ls → all_given ls + raises (held_insertions ls) ≤ labels_raises ls
held-raises [] h = omega arith
held-raises (l ∷ ls) h =
    let a : raises (on_line l.line (held_of l.label l.inserted) ++ held_insertions ls) ≡ raises (on_line l.line (held_of l.label l.inserted)) + raises (held_insertions ls) = raises-append (on_line l.line (held_of l.label l.inserted)) (held_insertions ls) in
    sums (last_of l.inserted (given_raises l.label l.inserted)) (last_of l.inserted (held_raises l.label l.inserted)) (kind_raises (ins l.inserted)) (all_given ls) (raises (held_insertions ls)) (labels_raises ls) (raises (on_line l.line (held_of l.label l.inserted))) (raises (held_insertions (l ∷ ls)))
    (one-parted l.label l.inserted h.0) (held-raises ls h.1) (held_of-raises l.line l.label l.inserted) a
  where
    sums : (g h k gs hs ks x y : ℕ) → g + h ≤ k → gs + hs ≤ ks → x ≡ h → y ≡ x + hs → g + gs + y ≤ k + ks
    sums g h k gs hs ks x y a b c d = omega arith

-- ---- the box of class 255

given-count : (t : Label) (i : Inserted) → leaves_count (given_by t i) ≤ given_raises t i
given-count whole i = omega arith
given-count (split f) i = omega arith
given-count late i = omega arith

count-append : (xs ys : List Leaf) → leaves_count (xs ++ ys) ≡ leaves_count xs + leaves_count ys
count-append [] ys = omega arith
count-append (x ∷ xs) ys = let h : leaves_count (xs ++ ys) ≡ leaves_count xs + leaves_count ys = count-append xs ys in omega arith

to-count : (ls : List Labelled) → leaves_count (given_to 255 ls) ≤ all_given ls
to-count [] = omega arith
to-count (l ∷ ls) = by_class (l.inserted.class == 255) (to-count ls)
  where
    by_class : (t : Bool) → leaves_count (given_to 255 ls) ≤ all_given ls → leaves_count (if t then given_by l.label l.inserted ++ given_to 255 ls else given_to 255 ls) ≤ (if t then given_raises l.label l.inserted else 0) + all_given ls
    by_class true h =
        let a : leaves_count (given_by l.label l.inserted ++ given_to 255 ls) ≡ leaves_count (given_by l.label l.inserted) + leaves_count (given_to 255 ls) = count-append (given_by l.label l.inserted) (given_to 255 ls) in
        let b : leaves_count (given_by l.label l.inserted) ≤ given_raises l.label l.inserted = given-count l.label l.inserted in
        omega arith
    by_class false h = omega arith

gives-some : (t : Label) (i : Inserted) → gives t ≡ true → 1 ≤ given_raises t i
gives-some whole i e = omega arith
gives-some (split f) i e = omega arith
gives-some late i e = cc

given-some : (ls : List Labelled) → is_given 255 ls ≡ true → 1 ≤ all_given ls
given-some [] e = cc
given-some (l ∷ ls) e = by_class (l.inserted.class == 255) (gives l.label) (gives-some l.label l.inserted) (given-some ls) e
  where
    by_class : (c g : Bool) → (g ≡ true → 1 ≤ given_raises l.label l.inserted) → (is_given 255 ls ≡ true → 1 ≤ all_given ls) → ((if c then g else false) || is_given 255 ls) ≡ true → 1 ≤ (if c then given_raises l.label l.inserted else 0) + all_given ls
    by_class true true h k e = let a : 1 ≤ given_raises l.label l.inserted = h refl in omega arith
    by_class true false h k e = let a : 1 ≤ all_given ls = k e in omega arith
    by_class false g h k e = let a : 1 ≤ all_given ls = k e in omega arith

-- the box takes what is given
box-takes : (ls : List Labelled) (b : Boxed) (n : ℕ) → b.number ≡ n → n ≡ 255 → content_raises (box_after ls b).content ≤ content_raises b.content + all_given ls
box-takes ls b n e f = subst (λ k. content_raises (if is_given k ls then record b { content = Some (content_of b.content ++ given_to k ls) } else b).content ≤ content_raises b.content + all_given ls) (sym (e ∙ f)) (by_given (is_given 255 ls) refl)
  where
    joined : (o : Option (List Leaf)) → 1 ≤ all_given ls → list_raises (content_of o ++ given_to 255 ls) ≤ content_raises o + all_given ls
    joined None h = let k : leaves_count (given_to 255 ls) ≤ all_given ls = to-count ls in omega arith
    joined (Some xs) h =
        let k : leaves_count (given_to 255 ls) ≤ all_given ls = to-count ls in
        let a : leaves_count (xs ++ given_to 255 ls) ≡ leaves_count xs + leaves_count (given_to 255 ls) = count-append xs (given_to 255 ls) in
        omega arith

    by_given : (t : Bool) → is_given 255 ls ≡ t → content_raises (if t then record b { content = Some (content_of b.content ++ given_to 255 ls) } else b).content ≤ content_raises b.content + all_given ls
    by_given true e = joined b.content (given-some ls e)
    by_given false e = omega arith

number-after : (ls : List Labelled) (b : Boxed) → ((box_after ls b).number == 255) ≡ (b.number == 255)
number-after ls b = ap (λ n. n == 255) (box_after-number ls b)

boxes-take : (ls : List Labelled) (bs : List Boxed) → box_raises (map (box_after ls) bs) ≤ box_raises bs + all_given ls
boxes-take ls [] = omega arith
boxes-take ls (b ∷ bs) = subst (λ t. content_raises (if t then (box_after ls b).content else box_content (map (box_after ls) bs) 255) ≤ box_raises (b ∷ bs) + all_given ls) (sym (number-after ls b)) (by_number (b.number == 255) refl (boxes-take ls bs))
  where
    by_number : (t : Bool) → (b.number == 255) ≡ t → box_raises (map (box_after ls) bs) ≤ box_raises bs + all_given ls → content_raises (if t then (box_after ls b).content else box_content (map (box_after ls) bs) 255) ≤ content_raises (if t then b.content else box_content bs 255) + all_given ls
    by_number true e h = box-takes ls b 255 (eqb-true b.number 255 e) refl
    by_number false e h = h

-- ---- the page

module _ (t : ℤ) (waiting : List PlainNode) (w : Reach) (cut : CutAt [] (pruned_nodes t waiting) w) (z : Frozen) (k : ℕ) (bs : List Boxed) where
  abbrev labels : List Labelled
  labels = labelled z (take k w.passed)

  pub page-raises : raises (held_insertions (labelled z (take k w.passed))) + box_raises (map (box_after (labelled z (take k w.passed))) bs) + raises (with_spent_break (drop k w.passed ++ w.beyond)) ≤ raises waiting + box_raises bs
  page-raises =
      sums (raises waiting) (raises (pruned_nodes t waiting)) (raises (cut.front ++ w.beyond)) (raises cut.front) (raises w.beyond) (raises (without_acts cut.front)) (raises w.passed) (raises (take k w.passed)) (raises (drop k w.passed)) (raises (drop k w.passed ++ w.beyond)) (raises (with_spent_break (drop k w.passed ++ w.beyond))) (labels_raises labels) (all_given labels) (raises (held_insertions labels)) (box_raises (map (box_after labels) bs)) (box_raises bs)
      (raises-pruned t waiting) (ap raises cut.whole) (raises-append cut.front w.beyond) (raises-actless cut.front) (ap raises cut.passed) (raises-parts k w.passed) (raises-append (drop k w.passed) w.beyond) (raises-spent (drop k w.passed ++ w.beyond)) (labelled-raises z [] [] (take k w.passed)) (held-raises labels (all-parted z [] [] (take k w.passed) tt)) (boxes-take labels bs)
    where
      sums : (n p q f b f' d x y g r l a h o c : ℕ) → p ≡ n → p ≡ q → q ≡ f + b → f' ≡ f → d ≡ f' → x + y ≡ d → g ≡ y + b → r ≡ g → l ≡ 0 + x → a + h ≤ l → o ≤ c + a → h + o + r ≤ n + c
      sums n p q f b f' d x y g r l a h o c i1 i2 i3 i4 i5 i6 i7 i8 i9 i10 i11 = omega arith

-- ---- a page whose box stays void

after-some : (ls : List Labelled) (b : Boxed) → b.number ≡ 255 → is_given 255 ls ≡ true → 1 ≤ content_raises (box_after ls b).content
after-some ls b e g = by_given (is_given b.number ls) (ap (λ n. is_given n ls) e ∙ g)
  where
    by_given : (t : Bool) → t ≡ true → 1 ≤ content_raises (if t then record b { content = Some (content_of b.content ++ given_to b.number ls) } else b).content
    by_given true i = omega arith
    by_given false i = cc

-- if the class is there once, what is given is in its box
given-box : (ls : List Labelled) (cs : List Class) (bs : List Boxed) → BoxesFit cs bs → hits 255 (class_numbers cs) ≡ 1 → is_given 255 ls ≡ true → 1 ≤ box_raises (map (box_after ls) bs)
given-box ls [] [] f o g = absurd (omega (arith, o))
given-box ls [] (b ∷ bs) f o g = absurd f
given-box ls (c ∷ cs) [] f o g = absurd f
given-box ls (c ∷ cs) (b ∷ bs) f o g = subst (λ t. 1 ≤ content_raises (if t then (box_after ls b).content else box_content (map (box_after ls) bs) 255)) (sym (number-after ls b)) (by_number (b.number == 255) refl (λ h. given-box ls cs bs f.2 h g))
  where
    later : (t : Bool) → (255 == c.number) ≡ t → (b.number == 255) ≡ false → (if t then suc (hits 255 (class_numbers cs)) else hits 255 (class_numbers cs)) ≡ 1 → hits 255 (class_numbers cs) ≡ 1
    later true i e h = absurd (both_ways (b.number == 255) e (eq-eqb b.number 255 (f.0 ∙ sym (eqb-true 255 c.number i))))
    later false i e h = h

    by_number : (t : Bool) → (b.number == 255) ≡ t → (hits 255 (class_numbers cs) ≡ 1 → 1 ≤ box_raises (map (box_after ls) bs)) → 1 ≤ content_raises (if t then (box_after ls b).content else box_content (map (box_after ls) bs) 255)
    by_number true e h = after-some ls b (eqb-true b.number 255 e) g
    by_number false e h = h (later (255 == c.number) refl e o)

-- a page whose insertions are all of class 255, and whose box raises nothing, has none
pub none-given : (cs : List Class) (bs : List Boxed) → BoxesFit cs bs → (all ls : List Labelled) → LabelsOfClass (class_numbers cs) ls → LabelsLast ls → GivenAll all ls → box_raises (map (box_after all) bs) ≡ 0 → ls ≡ []
none-given cs bs f all [] o h g e = refl
none-given cs bs f all (l ∷ ls) o h g e =
    let last : l.inserted.class ≡ 255 = eqb-true l.inserted.class 255 h.0 in
    let one : 1 ≤ box_raises (map (box_after all) bs) = given-box all cs bs f (subst (λ k. hits k (class_numbers cs) ≡ 1) last o.0) (subst (λ k. is_given k all ≡ true) last g.0) in
    absurd (omega (arith, one, e))
