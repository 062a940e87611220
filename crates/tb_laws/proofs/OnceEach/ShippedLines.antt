-- In a valid galley no box of the text is on a line of a foot.
use Rattle.std.proofs.Common.{◌≡◌, refl, subst, ℕ, ◌<◌, false, List, [], ◌∷◌, ◌++◌, arith, append_assoc}
use Rattle.std.specs.Prelude.{◌==◌, IsTrue}
use Rattle.std.specs.List.{AllByRecursion}
use Rattle.std.proofs.lemmas.Bool.{or_from, or_parts}
use Rattle.tb_break.proofs.EachLemmas.{all-front, all-back, all-join}
use Rattle.tb_galley.specs.declared.Leaf.{Leaf}
use Rattle.tb_galley.specs.declared.LeafKind.{LeafKind}
use Rattle.tb_galley.specs.declared.LeafKind.TheVariants as leaves
use Rattle.tb_galley.specs.declared.Item.{Item}
use Rattle.tb_galley.specs.declared.ItemKind.{ItemKind}
use Rattle.tb_galley.specs.declared.ItemKind.TheVariants as items
use Rattle.tb_galley.specs.Valid.{leaf_lines, lines_of_item, named_lines, rise_from}
use Rattle.tb_laws.proofs.ClassesRise.NamedLines.{AllAbove, rise-first, rise-above, rise-behind}
use Rattle.tb_laws.specs.Laws.{leaf_boxes, foot_boxes, text_line, foot_line, lines_by, is_in}

-- behind a front, all lines are above
rise-on : (k : ℕ) (xs ys : List ℕ) → IsTrue (rise_from k (xs ++ ys)) → AllAbove k ys
rise-on k xs ys h = all-back (λ x. k < x) xs ys (rise-above k (xs ++ ys) h)

-- ---- the lines of text boxes and of feet are among the named lines

item-text : (k n : ℕ) (x : ItemKind) → AllAbove k (lines_of_item n x) → AllAbove k (text_line n x)
item-text k n (items.Hbox name h d) a = a
item-text k n (items.Rule name h d) a = a
item-text k n x a = tt

text-above : (k : ℕ) (ns : List Item) → AllAbove k (named_lines ns) → AllAbove k (lines_by text_line ns)
text-above k [] a = tt
text-above k (n ∷ ns) a = all-join (λ x. k < x) (text_line n.line n.kind) (lines_by text_line ns) (item-text k n.line n.kind (all-front (λ x. k < x) (lines_of_item n.line n.kind) (named_lines ns) a)) (text-above k ns (all-back (λ x. k < x) (lines_of_item n.line n.kind) (named_lines ns) a))

leaf-above : (k n : ℕ) (x : LeafKind) → k < n → AllAbove k (leaf_boxes n x)
leaf-above k n (leaves.Hbox name h d) l = (l, tt)
leaf-above k n (leaves.Rule name h d) l = (l, tt)
leaf-above k n x l = tt

leaves-above : (k : ℕ) (ls : List Leaf) → AllAbove k (leaf_lines ls) → AllAbove k (foot_boxes ls)
leaves-above k [] a = tt
leaves-above k (l ∷ ls) a = all-join (λ x. k < x) (leaf_boxes l.line l.kind) (foot_boxes ls) (leaf-above k l.line l.kind a.0) (leaves-above k ls a.1)

item-foot : (k n : ℕ) (x : ItemKind) → AllAbove k (lines_of_item n x) → AllAbove k (foot_line n x)
item-foot k n (items.Foot class ls) a = leaves-above k ls a
item-foot k n x a = tt

feet-above : (k : ℕ) (ns : List Item) → AllAbove k (named_lines ns) → AllAbove k (lines_by foot_line ns)
feet-above k [] a = tt
feet-above k (n ∷ ns) a = all-join (λ x. k < x) (foot_line n.line n.kind) (lines_by foot_line ns) (item-foot k n.line n.kind (all-front (λ x. k < x) (lines_of_item n.line n.kind) (named_lines ns) a)) (feet-above k ns (all-back (λ x. k < x) (lines_of_item n.line n.kind) (named_lines ns) a))

-- ---- lines that are in no foot

-- none of these lines is in the list
abbrev pub AllOut : List ℕ → List ℕ → Type 0
AllOut fs ts = AllByRecursion (λ t. is_in fs t ≡ false) ts

-- a line below all of them
out-above : (t : ℕ) (fs : List ℕ) → AllAbove t fs → is_in fs t ≡ false
out-above t [] a = refl
out-above t (f ∷ fs) a =
    let l : t < f = a.0 in
    or_from (f == t) (is_in fs t) (grind (arith, l)) (out-above t fs a.1)

out-either : (t : ℕ) (xs ys : List ℕ) → is_in xs t ≡ false → is_in ys t ≡ false → is_in (xs ++ ys) t ≡ false
out-either t [] ys a b = b
out-either t (x ∷ xs) ys a b =
    let none = or_parts (x == t) (is_in xs t) a in
    or_from (x == t) (is_in (xs ++ ys) t) none.0 (out-either t xs ys none.1 b)

outs-either : (ts xs ys : List ℕ) → AllOut xs ts → AllOut ys ts → AllOut (xs ++ ys) ts
outs-either [] xs ys a b = tt
outs-either (t ∷ ts) xs ys a b = (out-either t xs ys a.0 b.0, outs-either ts xs ys a.1 b.1)

-- lines above a line are not that line
outs-line : (n : ℕ) (ts : List ℕ) → AllAbove n ts → AllOut (n ∷ []) ts
outs-line n [] a = tt
outs-line n (t ∷ ts) a = (let l : n < t = a.0 in or_from (n == t) false (grind (arith, l)) refl, outs-line n ts a.1)

outs-none : (ts : List ℕ) → AllOut [] ts
outs-none [] = tt
outs-none (t ∷ ts) = (refl, outs-none ts)

outs-leaf : (n : ℕ) (x : LeafKind) (ts : List ℕ) → AllAbove n ts → AllOut (leaf_boxes n x) ts
outs-leaf n (leaves.Hbox name h d) ts a = outs-line n ts a
outs-leaf n (leaves.Rule name h d) ts a = outs-line n ts a
outs-leaf n x ts a = outs-none ts

-- lines behind a foot are not in it
outs-foot : (k : ℕ) (ls : List Leaf) (rest ts : List ℕ) → ((j : ℕ) → AllAbove j rest → AllAbove j ts) → IsTrue (rise_from k (leaf_lines ls ++ rest)) → AllOut (foot_boxes ls) ts
outs-foot k [] rest ts f h = outs-none ts
outs-foot k (l ∷ ls) rest ts f h =
    let r : IsTrue (rise_from l.line (leaf_lines ls ++ rest)) = (rise-first k l.line (leaf_lines ls ++ rest) h).1 in
    outs-either ts (leaf_boxes l.line l.kind) (foot_boxes ls) (outs-leaf l.line l.kind ts (f l.line (rise-on l.line (leaf_lines ls) rest r))) (outs-foot l.line ls rest ts f r)

-- the line of one more box below all feet
outs-more : (n : ℕ) (fs ts : List ℕ) → AllAbove n fs → AllOut fs ts → AllOut fs (n ∷ ts)
outs-more n fs ts a h = (out-above n fs a, h)

item-outs : (k n : ℕ) (x : ItemKind) (ns : List Item) (last : List ℕ) → IsTrue (rise_from k (lines_of_item n x ++ (named_lines ns ++ last))) → AllOut (lines_by foot_line ns) (lines_by text_line ns) → AllOut (foot_line n x ++ lines_by foot_line ns) (text_line n x ++ lines_by text_line ns)
item-outs k n (items.Hbox name h d) ns last r o = outs-more n (lines_by foot_line ns) (lines_by text_line ns) (feet-above n ns (all-front (λ x. n < x) (named_lines ns) last (rise-above n (named_lines ns ++ last) (rise-first k n (named_lines ns ++ last) r).1))) o
item-outs k n (items.Rule name h d) ns last r o = outs-more n (lines_by foot_line ns) (lines_by text_line ns) (feet-above n ns (all-front (λ x. n < x) (named_lines ns) last (rise-above n (named_lines ns ++ last) (rise-first k n (named_lines ns ++ last) r).1))) o
item-outs k n (items.Foot class ls) ns last r o = outs-either (lines_by text_line ns) (foot_boxes ls) (lines_by foot_line ns) (outs-foot k ls (named_lines ns ++ last) (lines_by text_line ns) (λ j a. text-above j ns (all-front (λ x. j < x) (named_lines ns) last a)) r) o
item-outs k n x ns last r o = o

-- the lines of the text are in no foot, if the named lines rise
pub text-out : (k : ℕ) (ns : List Item) (last : List ℕ) → IsTrue (rise_from k (named_lines ns ++ last)) → AllOut (lines_by foot_line ns) (lines_by text_line ns)
text-out k [] last r = tt
text-out k (n ∷ ns) last r =
    let q : IsTrue (rise_from k (lines_of_item n.line n.kind ++ (named_lines ns ++ last))) = subst (λ l. IsTrue (rise_from k l)) (append_assoc (lines_of_item n.line n.kind) (named_lines ns) last) r in
    let j = rise-behind k (lines_of_item n.line n.kind) (named_lines ns ++ last) q in
    item-outs k n.line n.kind ns last q (text-out j.0 ns last j.1.1)
