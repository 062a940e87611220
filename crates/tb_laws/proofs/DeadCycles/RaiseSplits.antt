-- What an insertion gives to its box and what is held of it raise no more than the insertion: a list is split behind a node that counts, or at one.
use Rattle.std.proofs.Common.{◌≡◌, refl, sym, ◌∙◌, subst, ℕ, zero, suc, ◌+◌, ◌≤◌, ℤ, Bool, true, false, max, List, [], ◌∷◌, ◌++◌, map, take, drop, length, Some, None, arith}
use Rattle.std.specs.Prelude.{pos, ◌+ℤ◌, ◌-ℤ◌, ◌||◌, ◌&&◌, int_le, not, nat_le, if◌then◌else◌}
use Rattle.std.specs.List.{AllByRecursion}
use Rattle.std.proofs.lemmas.List.{take-map, drop-map}
use Rattle.tb_scaled.specs.Scaled.{min_ℤ}
use Rattle.tb_node.specs.declared.Sums.{Sums}
use Rattle.tb_node.specs.Shape.{is_discardable}
use Rattle.tb_node.specs.Sums.{sums_of, list_shrink}
use Rattle.tb_node.specs.PlainNodes.{Matter, hbox, skip, kerned, pen, Leaf, leaf_shape, node_shape, Inserted, PlainKind, plain, ins, act, PlainNode}
use Rattle.tb_break.specs.Places.{last_or, ends_lasting, split_penalty, legal_at}
use Rattle.tb_break.specs.PageTop.{pruned_leaves}
use Rattle.tb_break.specs.Split.{split_of}
use Rattle.tb_break.proofs.EachLemmas.{all-join}
use Rattle.tb_break.proofs.LastLemmas.{split-last_least}
use Rattle.tb_insert.specs.Account.{scaled_by, clamped, unscaled_room, class_box, goal_after, class_height, skip_shapes, met_classes, insertions, ClassBox, Frozen, Labelled, Label, whole, split, late, has_split, label_where, label_of, labelled_with, labelled_from}
use Rattle.tb_laws.proofs.DeadCycles.RaiseCounts.{leaf_count, leaves_count, list_raises}

-- ---- a list that is split

-- what is held of a list raises as it does, unless it is empty
abbrev pub rest_raises : List Leaf → ℕ
rest_raises [] = 0
rest_raises (l ∷ ls) = list_raises (l ∷ ls)

-- of a rest that is pruned fewer nodes count, and if it is not empty one does
record Pruned (t : ℤ) (ls : List Leaf) : Type 0 where
  count : leaves_count (pruned_leaves t ls) ≤ leaves_count ls
  rest : rest_raises (pruned_leaves t ls) ≤ leaves_count ls

pruned-leaf : (t : ℤ) (ls : List Leaf) → Pruned t ls → (n : ℕ) (m : Matter) → Pruned t (record { line = n; matter = m } ∷ ls)
pruned-leaf t ls h n m = by_matter m h.count h.rest
  where
    by_matter : (m : Matter) → leaves_count (pruned_leaves t ls) ≤ leaves_count ls → rest_raises (pruned_leaves t ls) ≤ leaves_count ls → Pruned t (record { line = n; matter = m } ∷ ls)
    by_matter (hbox w a d) c r = record { count = omega arith; rest = omega arith }
    by_matter m c r = record { count = omega arith; rest = omega arith }

pruned : (t : ℤ) (ls : List Leaf) → Pruned t ls
pruned t [] = record { count = omega arith; rest = omega arith }
pruned t (l ∷ ls) = pruned-leaf t ls (pruned t ls) l.line l.matter

lasting-leaf : (d : Bool) (n : ℕ) (ls : List Leaf) → (d ≡ true → 1 ≤ n) → last_or d (map (λ s. not (is_discardable s)) (map leaf_shape ls)) ≡ true → 1 ≤ n + leaves_count ls
lasting-leaf d n [] h e = let k : 1 ≤ n = h e in omega arith
lasting-leaf d n (l ∷ ls) h e =
    let k : 1 ≤ n + leaf_count l.matter + leaves_count ls = lasting-leaf (not (is_discardable (leaf_shape l))) (n + leaf_count l.matter) ls (one l.matter) e in
    omega arith
  where
    one : (m : Matter) → not (is_discardable (leaf_shape (record { line = l.line; matter = m }))) ≡ true → 1 ≤ n + leaf_count m
    one (skip g) i = cc
    one m i = omega arith

-- a list that ends with a box, a rule, a mark, a note or a whatsit counts
lasting : (ls : List Leaf) → ends_lasting (map leaf_shape ls) ≡ true → 1 ≤ leaves_count ls
lasting ls e = let h : 1 ≤ 0 + leaves_count ls = lasting-leaf false 0 ls (λ k. cc) e in omega arith

-- at a legal place
legal-raises : (t : ℤ) (before rest : List Leaf) (p : ℤ) → split_penalty (map leaf_shape before) (map leaf_shape rest) ≡ Some p → list_raises before + rest_raises (pruned_leaves t rest) ≤ max 1 (leaves_count before + leaves_count rest)
legal-raises t before [] p e = omega arith
legal-raises t before (l ∷ ls) p e = by_matter l.matter e (pruned t ls).rest
  where
    at_glue : (b : Bool) → ends_lasting (map leaf_shape before) ≡ b → (if b then Some (pos 0) else None) ≡ Some p → 1 ≤ leaves_count before
    at_glue true i e = lasting before i
    at_glue false i e = cc

    by_matter : (m : Matter) → split_penalty (map leaf_shape before) (leaf_shape (record { line = l.line; matter = m }) ∷ map leaf_shape ls) ≡ Some p → rest_raises (pruned_leaves t ls) ≤ leaves_count ls → list_raises before + rest_raises (pruned_leaves t (record { line = l.line; matter = m } ∷ ls)) ≤ max 1 (leaves_count before + (leaf_count m + leaves_count ls))
    by_matter (skip g) e h = let k : 1 ≤ leaves_count before = at_glue (ends_lasting (map leaf_shape before)) refl e in omega arith
    by_matter (kerned w) e h = omega arith
    by_matter (pen q) e h = omega arith
    by_matter m e h = cc

leaves-parts : (k : ℕ) (ls : List Leaf) → leaves_count (take k ls) + leaves_count (drop k ls) ≡ leaves_count ls
leaves-parts zero ls = omega arith
leaves-parts (suc k) [] = omega arith
leaves-parts (suc k) (l ∷ ls) = let h : leaves_count (take k ls) + leaves_count (drop k ls) ≡ leaves_count ls = leaves-parts k ls in omega arith

-- where a list is split
split-raises : (h d t : ℤ) (ls : List Leaf) → list_raises (take (split_of h d (map leaf_shape ls)).index ls) + rest_raises (pruned_leaves t (drop (split_of h d (map leaf_shape ls)).index ls)) ≤ list_raises ls
split-raises h d t ls = at (split_of h d (map leaf_shape ls)).index (split_of h d (map leaf_shape ls)).penalty (split-last_least h d (map leaf_shape ls)).legal
  where
    at : (k : ℕ) (p : ℤ) → legal_at (map leaf_shape ls) k ≡ Some p → list_raises (take k ls) + rest_raises (pruned_leaves t (drop k ls)) ≤ list_raises ls
    at k p e = subst (λ n. list_raises (take k ls) + rest_raises (pruned_leaves t (drop k ls)) ≤ max 1 n) (leaves-parts k ls) (legal-raises t (take k ls) (drop k ls) p (by_length (nat_le k (length (map leaf_shape ls))) e))
      where
        same : split_penalty (map leaf_shape (take k ls)) (map leaf_shape (drop k ls)) ≡ split_penalty (take k (map leaf_shape ls)) (drop k (map leaf_shape ls))
        same = λ i. split_penalty (sym (take-map leaf_shape k ls) i) (sym (drop-map leaf_shape k ls) i)

        by_length : (b : Bool) → (if b then split_penalty (take k (map leaf_shape ls)) (drop k (map leaf_shape ls)) else None) ≡ Some p → split_penalty (map leaf_shape (take k ls)) (map leaf_shape (drop k ls)) ≡ Some p
        by_length true e = same ∙ e
        by_length false e = cc

-- ---- a label

-- what an insertion with this label gives to its box raises
abbrev pub given_raises : Label → Inserted → ℕ
given_raises whole i = list_raises i.inner
given_raises (split f) i = list_raises (take f.index i.inner)
given_raises late i = 0

-- what is held of it raises
abbrev pub held_raises : Label → Inserted → ℕ
held_raises whole i = 0
held_raises (split f) i = rest_raises (pruned_leaves i.split_top (drop f.index i.inner))
held_raises late i = list_raises i.inner

-- both together raise no more than the insertion
abbrev pub Parted : Label → Inserted → Type 0
Parted t i = given_raises t i + held_raises t i ≤ list_raises i.inner

where-parted : (c : ClassBox) (goal height : ℤ) (s : Sums) (shrink : ℤ) (i : Inserted) → Parted (label_where c goal height s shrink i) i
where-parted c goal height s shrink i =
    by_room ((int_le (scaled_by c.class.factor i.height) (pos 0) || int_le (scaled_by c.class.factor i.height) ((goal -ℤ s.total -ℤ s.depth) +ℤ shrink)) && int_le (height +ℤ i.height) c.class.limit) (clamped (min_ℤ (unscaled_room c.class.factor (goal -ℤ s.total -ℤ s.depth)) (c.class.limit -ℤ height)))
  where
    by_room : (b : Bool) (h : ℤ) → Parted (if b then whole else split (split_of h i.split_depth (map leaf_shape i.inner))) i
    by_room true h = omega arith
    by_room false h = split-raises h i.split_depth i.split_top i.inner

label-parted : (z : Frozen) (ls : List Labelled) (before : List PlainNode) (i : Inserted) → Parted (label_of z ls before i) i
label-parted z ls before i = by_split (has_split ls i.class)
  where
    s : Sums
    s = sums_of z.limit (map node_shape before)

    met : List Inserted
    met = i ∷ insertions ls

    by_split : (b : Bool) → Parted (if b then late else label_where (class_box z.classes i.class) (goal_after z ls (i ∷ insertions ls)) (class_height z.classes ls i.class) (sums_of z.limit (map node_shape before)) ((sums_of z.limit (map node_shape before)).shrink +ℤ list_shrink (skip_shapes (met_classes z.classes (i ∷ insertions ls)))) i) i
    by_split true = omega arith
    by_split false = where-parted (class_box z.classes i.class) (goal_after z ls met) (class_height z.classes ls i.class) s (s.shrink +ℤ list_shrink (skip_shapes (met_classes z.classes met))) i

abbrev pub AllParted : List Labelled → Type 0
AllParted = AllByRecursion (λ l. Parted l.label l.inserted)

with-parted : (z : Frozen) (ls : List Labelled) (before : List PlainNode) (line : ℕ) (k : PlainKind) → AllParted ls → AllParted (labelled_with z ls before line k)
with-parted z ls before line (plain m) h = h
with-parted z ls before line (ins i) h = all-join (λ (l : Labelled). Parted l.label l.inserted) ls (record { index = length before; line = line; inserted = i; label = label_of z ls before i } ∷ []) h (label-parted z ls before i, tt)
with-parted z ls before line (act a) h = h

pub all-parted : (z : Frozen) (ls : List Labelled) (before ns : List PlainNode) → AllParted ls → AllParted (labelled_from z ls before ns)
all-parted z ls before [] h = h
all-parted z ls before (n ∷ ns) h = all-parted z (labelled_with z ls before n.line n.kind) (before ++ n ∷ []) ns (with-parted z ls before n.line n.kind h)
