-- A page that fires has no more nodes than there were: what goes into a class box leaves its insertion, and the glue at
-- the top of a held rest takes the place of the node at which the insertion was split.

use Rattle.std.proofs.Common.{◌≡◌, refl, subst, ◌∙◌, ap, ℕ, zero, suc, ◌+◌, ◌≤◌, ℤ, Bool, true, false, List, [], ◌∷◌, ◌++◌, length, length-append, take, drop, map, Some, arith}
use Rattle.std.specs.Prelude.{if◌then◌else◌, ◌==◌}
use Rattle.std.proofs.lemmas.Bool.{or_parts, eqb-true}
use Rattle.tb_node.specs.PlainNodes.{hbox, Leaf, leaf_shape, Inserted, PlainKind, plain, ins, act, PlainNode, without_acts, without_insertions, on_line}
use Rattle.tb_break.specs.PageTop.{pruned_leaves}
use Rattle.tb_insert.specs.declared.Class.{Class}
use Rattle.tb_insert.specs.Terms.{Terms}
use Rattle.tb_insert.specs.Account.{Frozen, Label, whole, split, late, Labelled, label_of, labelled_with, labelled_from, labelled, terms_after}
use Rattle.tb_insert.proofs.AccountLemmas.{same_number}
use Rattle.tb_builder.specs.declared.Ask.{Ask}
use Rattle.tb_builder.specs.Reach.{Reach, reach_from}
use Rattle.tb_builder.specs.FiredPages.{Boxed, page_break, from_break, spent_kind, with_spent_break, given_by, given_to, is_given, content_of, box_after, unless_empty, held_of, held_insertions, fired_by}
use Rattle.tb_builder.specs.Contents.{Contents, frozen_of, kind_count, node_count, box_count}
use Rattle.tb_builder.specs.Ownership.{has_class, ClassesFit}
use Rattle.tb_builder.specs.PageEvents.{fired_page}
use Rattle.tb_builder.specs.SizedContents.{AreBoxesOf, fired_count}
use Rattle.tb_builder.proofs.Cutting.CutLemmas.{CutAt, reach-cut}
use Rattle.tb_builder.proofs.Ranges.PageableLemmas.{count-append}
use Rattle.tb_builder.proofs.Cutting.VanishLemmas.{BeginsVanishing, VanishesBehind, AllVanish, labels_vanish}
use Rattle.tb_builder.proofs.Ranges.PrunedLemmas.{pruned_no_longer}

-- ---- what is reached

acts_fewer : (l : ℕ) (k : PlainKind) (ns : List PlainNode) → node_count (without_acts ns) ≤ node_count ns → node_count (without_acts (record { line = l; kind = k } ∷ ns)) ≤ kind_count k + node_count ns
acts_fewer l (plain m) ns h = omega (arith, h)
acts_fewer l k ns h = omega (arith, h)

without_acts_fewer : (ns : List PlainNode) → node_count (without_acts ns) ≤ node_count ns
without_acts_fewer [] = omega arith
without_acts_fewer (n ∷ ns) = acts_fewer n.line n.kind ns (without_acts_fewer ns)

-- the nodes passed, and those beyond
pub reached_fewer : (limit : ℤ) (terms : List PlainNode → Terms) (ns : List PlainNode) → node_count (reach_from limit terms [] ns).passed + node_count (reach_from limit terms [] ns).beyond ≤ node_count ns
reached_fewer limit terms ns =
    let cut : CutAt [] ns (reach_from limit terms [] ns) = reach-cut limit terms [] ns in
    let a = ap node_count cut.passed in
    let b = without_acts_fewer cut.front in
    let c = ap node_count cut.whole in
    let d = count-append cut.front (reach_from limit terms [] ns).beyond in
    omega (arith, a, b, c, d)

-- ---- the insertions of a page

-- the number of the insertions of a list and of their nodes
abbrev pub kind_inserted : PlainKind → ℕ
kind_inserted (plain m) = 0
kind_inserted (ins i) = 1 + length i.inner
kind_inserted (act a) = 0

abbrev pub inserted_count : List PlainNode → ℕ
inserted_count [] = 0
inserted_count (n ∷ ns) = kind_inserted n.kind + inserted_count ns

abbrev pub label_count : List Labelled → ℕ
label_count [] = 0
label_count (l ∷ ls) = 1 + length l.inserted.inner + label_count ls

labels-append : (xs ys : List Labelled) → label_count (xs ++ ys) ≡ label_count xs + label_count ys
labels-append [] ys = omega arith
labels-append (x ∷ xs) ys = let h : label_count (xs ++ ys) ≡ label_count xs + label_count ys = labels-append xs ys in omega arith

with_count : (z : Frozen) (ls : List Labelled) (before : List PlainNode) (line : ℕ) (k : PlainKind) → label_count (labelled_with z ls before line k) ≡ label_count ls + kind_inserted k
with_count z ls before line (plain m) = omega arith
with_count z ls before line (ins i) =
    let e : label_count (ls ++ record { index = length before; line = line; inserted = i; label = label_of z ls before i } ∷ []) ≡ label_count ls + label_count (record { index = length before; line = line; inserted = i; label = label_of z ls before i } ∷ []) = labels-append ls (record { index = length before; line = line; inserted = i; label = label_of z ls before i } ∷ []) in
    omega arith
with_count z ls before line (act a) = omega arith

from_count : (z : Frozen) (ls : List Labelled) (before ns : List PlainNode) → label_count (labelled_from z ls before ns) ≡ label_count ls + inserted_count ns
from_count z ls before [] = omega arith
from_count z ls before (n ∷ ns) =
    let e : label_count (labelled_with z ls before n.line n.kind) ≡ label_count ls + kind_inserted n.kind = with_count z ls before n.line n.kind in
    let h : label_count (labelled_from z (labelled_with z ls before n.line n.kind) (before ++ n ∷ []) ns) ≡ label_count (labelled_with z ls before n.line n.kind) + inserted_count ns = from_count z (labelled_with z ls before n.line n.kind) (before ++ n ∷ []) ns in
    omega arith

pub labelled_count : (z : Frozen) (ns : List PlainNode) → label_count (labelled z ns) ≡ inserted_count ns
labelled_count z ns = let h : label_count (labelled z ns) ≡ 0 + inserted_count ns = from_count z [] [] ns in omega arith

-- ---- the body and the rest

apart : (l : ℕ) (k : PlainKind) (ns : List PlainNode) → node_count (without_insertions ns) + inserted_count ns ≡ node_count ns → node_count (without_insertions (record { line = l; kind = k } ∷ ns)) + (kind_inserted k + inserted_count ns) ≡ kind_count k + node_count ns
apart l (plain m) ns h = omega arith
apart l k ns h = omega arith

-- a list has as many nodes as it has without its insertions, and in them
pub insertions_apart : (ns : List PlainNode) → node_count (without_insertions ns) + inserted_count ns ≡ node_count ns
insertions_apart [] = refl
insertions_apart (n ∷ ns) = apart n.line n.kind ns (insertions_apart ns)

pub count-split : (k : ℕ) (ns : List PlainNode) → node_count (take k ns) + node_count (drop k ns) ≡ node_count ns
count-split zero ns = omega arith
count-split (suc k) [] = omega arith
count-split (suc k) (n ∷ ns) = let h : node_count (take k ns) + node_count (drop k ns) ≡ node_count ns = count-split k ns in omega arith

spent_kind_count : (k : PlainKind) → kind_count (spent_kind k) ≡ kind_count k
spent_kind_count (plain (hbox w a b)) = refl
spent_kind_count k = refl

pub spent_count : (ns : List PlainNode) → node_count (with_spent_break ns) ≡ node_count ns
spent_count [] = refl
spent_count (n ∷ ns) = ap (λ k. k + node_count ns) (spent_kind_count n.kind)

-- ---- what an insertion gives, and what is held of it

abbrev given_total : List Labelled → ℕ
given_total [] = 0
given_total (l ∷ ls) = length (given_by l.label l.inserted) + given_total ls

cut_length : (k : ℕ) (ls : List Leaf) → length (take k ls) + length (drop k ls) ≡ length ls
cut_length zero ls = omega arith
cut_length (suc k) [] = omega arith
cut_length (suc k) (l ∷ ls) = let h : length (take k ls) + length (drop k ls) ≡ length ls = cut_length k ls in omega arith

drop_shapes : (k : ℕ) (ls : List Leaf) → drop k (map leaf_shape ls) ≡ map leaf_shape (drop k ls)
drop_shapes zero ls = refl
drop_shapes (suc k) [] = refl
drop_shapes (suc k) (l ∷ ls) = drop_shapes k ls

held_most : (line : ℕ) (i : Inserted) (ls : List Leaf) → node_count (on_line line (unless_empty i ls)) ≤ 1 + length ls
held_most line i [] = omega arith
held_most line i (l ∷ ls) = omega arith

label_fewer : (line : ℕ) (t : Label) (i : Inserted) → VanishesBehind t i → length (given_by t i) + node_count (on_line line (held_of t i)) ≤ 1 + length i.inner
label_fewer line whole i h = omega arith
label_fewer line (split f) i h =
    let a = held_most line i (pruned_leaves i.split_top (drop f.index i.inner)) in
    let b = pruned_no_longer i.split_top (drop f.index i.inner) (subst BeginsVanishing (drop_shapes f.index i.inner) h) in
    let c = cut_length f.index i.inner in
    omega (arith, a, b, c)
label_fewer line late i h = omega arith

labels_fewer : (ls : List Labelled) → AllVanish ls → given_total ls + node_count (held_insertions ls) ≤ label_count ls
labels_fewer [] h = omega arith
labels_fewer (l ∷ ls) h =
    let a = label_fewer l.line l.label l.inserted h.0 in
    let b = count-append (on_line l.line (held_of l.label l.inserted)) (held_insertions ls) in
    let c = labels_fewer ls h.1 in
    omega (arith, a, b, c)

-- ---- the boxes

-- how much is given to these boxes
abbrev given_boxes : List Labelled → List Boxed → ℕ
given_boxes ls [] = 0
given_boxes ls (b ∷ bs) = length (given_to b.number ls) + given_boxes ls bs

box_most : (ls : List Labelled) (b : Boxed) → length (content_of (box_after ls b).content) ≤ length (content_of b.content) + length (given_to b.number ls)
box_most ls b = by_given (is_given b.number ls)
  where
    by_given : (t : Bool) → length (content_of (if t then record b { content = Some (content_of b.content ++ given_to b.number ls) } else b).content) ≤ length (content_of b.content) + length (given_to b.number ls)
    by_given true = let e = length-append (content_of b.content) (given_to b.number ls) in omega (arith, e)
    by_given false = omega arith

boxes_most : (ls : List Labelled) (bs : List Boxed) → box_count (map (box_after ls) bs) ≤ box_count bs + given_boxes ls bs
boxes_most ls [] = omega arith
boxes_most ls (b ∷ bs) = let h = box_most ls b in let k = boxes_most ls bs in omega (arith, h, k)

-- boxes with other numbers are given nothing of an insertion
not_given : (l : Labelled) (ls : List Labelled) (cs : List Class) (bs : List Boxed) → AreBoxesOf cs bs → has_class cs l.inserted.class ≡ false → given_boxes (l ∷ ls) bs ≡ given_boxes ls bs
not_given l ls [] [] h e = refl
not_given l ls [] (b ∷ bs) h e = absurd h
not_given l ls (c ∷ cs) [] h e = absurd h
not_given l ls (c ∷ cs) (b ∷ bs) h e =
    ap (λ t. length (if t then given_by l.label l.inserted ++ given_to b.number ls else given_to b.number ls) + given_boxes (l ∷ ls) bs) (ap (λ k. l.inserted.class == k) h.0 ∙ same_number l.inserted.class c.number ∙ (or_parts (c.number == l.inserted.class) (has_class cs l.inserted.class) e).0)
    ∙ ap (λ n. length (given_to b.number ls) + n) (not_given l ls cs bs h.1 (or_parts (c.number == l.inserted.class) (has_class cs l.inserted.class) e).1)

-- an insertion gives to at most one box
given_once : (l : Labelled) (ls : List Labelled) (cs : List Class) (bs : List Boxed) → ClassesFit cs → AreBoxesOf cs bs → given_boxes (l ∷ ls) bs ≤ length (given_by l.label l.inserted) + given_boxes ls bs
given_once l ls [] [] r h = omega arith
given_once l ls [] (b ∷ bs) r h = absurd h
given_once l ls (c ∷ cs) [] r h = absurd h
given_once l ls (c ∷ cs) (b ∷ bs) r h = by_test (l.inserted.class == b.number) refl (given_once l ls cs bs r.3 h.1)
  where
    others : (l.inserted.class == b.number) ≡ true → given_boxes (l ∷ ls) bs ≡ given_boxes ls bs
    others e = not_given l ls cs bs h.1 (ap (has_class cs) (eqb-true l.inserted.class b.number e ∙ h.0) ∙ r.0)

    by_test : (t : Bool) → (l.inserted.class == b.number) ≡ t → given_boxes (l ∷ ls) bs ≤ length (given_by l.label l.inserted) + given_boxes ls bs
        → length (if t then given_by l.label l.inserted ++ given_to b.number ls else given_to b.number ls) + given_boxes (l ∷ ls) bs ≤ length (given_by l.label l.inserted) + (length (given_to b.number ls) + given_boxes ls bs)
    by_test true e later = let o = others e in let a = length-append (given_by l.label l.inserted) (given_to b.number ls) in omega (arith, o, a)
    by_test false e later = omega (arith, later)

nothing_given : (bs : List Boxed) → given_boxes [] bs ≡ 0
nothing_given [] = refl
nothing_given (b ∷ bs) = let h : given_boxes [] bs ≡ 0 = nothing_given bs in omega arith

given_most : (ls : List Labelled) (cs : List Class) (bs : List Boxed) → ClassesFit cs → AreBoxesOf cs bs → given_boxes ls bs ≤ given_total ls
given_most [] cs bs r h = let e = nothing_given bs in omega (arith, e)
given_most (l ∷ ls) cs bs r h = let a = given_once l ls cs bs r h in let b = given_most ls cs bs r h in omega (arith, a, b)

-- ---- the page

module _ (limit : ℤ) (terms : List PlainNode → Terms) (z : Frozen) (cs : List Class) (bs : List Boxed) (ns : List PlainNode) (classes : ClassesFit cs) (boxed : AreBoxesOf cs bs) where
  abbrev w : Reach
  w = reach_from limit terms [] ns

  abbrev front : List PlainNode
  front = take (page_break w).place w.passed

  pub fired_by-fewer : fired_count (fired_by (labelled z front) bs w) ≤ node_count ns + box_count bs
  fired_by-fewer =
      let a = insertions_apart front in
      let b = labelled_count z front in
      let c = labels_fewer (labelled z front) (labels_vanish z front) in
      let d = boxes_most (labelled z front) bs in
      let e = given_most (labelled z front) cs bs classes boxed in
      let f = spent_count (from_break w) in
      let g = count-append (drop (page_break w).place w.passed) w.beyond in
      let i = count-split (page_break w).place w.passed in
      let j = reached_fewer limit terms ns in
      omega (arith, a, b, c, d, e, f, g, i, j)

-- a page that fires has no more nodes than there were, if the numbers of the classes differ
pub fired_fewer : (c : Contents) (ask : Ask) → ClassesFit c.classes → AreBoxesOf c.classes c.boxes → fired_count (fired_page c ask) ≤ node_count (c.page ++ c.waiting) + box_count c.boxes
fired_fewer c ask classes boxed = fired_by-fewer (frozen_of c ask).limit (terms_after (frozen_of c ask)) (frozen_of c ask) c.classes c.boxes (c.page ++ c.waiting) classes boxed
