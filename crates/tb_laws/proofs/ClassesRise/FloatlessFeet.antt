-- Insertions hold no floats: neither those that wait, nor the footnotes in a box, nor those that are held.
use Rattle.std.proofs.Common.{◌≡◌, refl, ℕ, ◌==◌, ℤ, Bool, true, false, List, [], ◌∷◌, ◌++◌, map, drop, length, Some}
use Rattle.std.specs.Prelude.{if◌then◌else◌}
use Rattle.std.specs.List.{AllByRecursion}
use Rattle.tb_break.proofs.EachLemmas.{all-join, all-take, all-drop}
use Rattle.tb_node.specs.PlainNodes.{Matter, hbox, rule, skip, kerned, pen, mark, note, whatsit, Leaf, Inserted, PlainKind, plain, ins, act, PlainNode, without_acts, without_insertions, on_line}
use Rattle.tb_break.specs.PageTop.{pruned_leaves, pruned_nodes}
use Rattle.tb_insert.specs.Account.{Frozen, Labelled, Label, whole, split, late, label_of, labelled_with, labelled_from}
use Rattle.tb_builder.specs.FiredPages.{Boxed, spent_kind, with_spent_break, given_by, given_to, is_given, content_of, box_after, unless_empty, held_of, held_insertions}
use Rattle.tb_laws.proofs.ClassesRise.ClassLines.{FloatKind, kind_lines, IsFloatless, AreFloatless}

abbrev pub HoldsFloatless : FloatKind → PlainKind → Type 0
HoldsFloatless k (plain m) = Unit {0}
HoldsFloatless k (ins i) = AreFloatless k i.inner
HoldsFloatless k (act a) = Unit {0}

abbrev pub HoldFloatless : FloatKind → List PlainNode → Type 0
HoldFloatless k = AllByRecursion (λ n. HoldsFloatless k n.kind)

abbrev pub BoxesFloatless : FloatKind → List Boxed → Type 0
BoxesFloatless k = AllByRecursion (λ b. AreFloatless k (content_of b.content))

abbrev pub LabelsFloatless : FloatKind → List Labelled → Type 0
LabelsFloatless k = AllByRecursion (λ l. AreFloatless k l.inserted.inner)

leaf-pruned : (k : FloatKind) (t : ℤ) (ls : List Leaf) → AreFloatless k ls → AreFloatless k (pruned_leaves t ls) → (n : ℕ) (m : Matter) → kind_lines k (plain m) ≡ [] → AreFloatless k (pruned_leaves t (record { line = n; matter = m } ∷ ls))
leaf-pruned k t ls h i n (hbox w a d) e = (refl, (e, h))
leaf-pruned k t ls h i n (rule name a d) e = (refl, (e, h))
leaf-pruned k t ls h i n (mark name) e = (e, i)
leaf-pruned k t ls h i n (note name) e = (e, i)
leaf-pruned k t ls h i n whatsit e = (e, i)
leaf-pruned k t ls h i n m e = i

leaves-pruned : (k : FloatKind) (t : ℤ) (ls : List Leaf) → AreFloatless k ls → AreFloatless k (pruned_leaves t ls)
leaves-pruned k t [] h = tt
leaves-pruned k t (l ∷ ls) h = leaf-pruned k t ls h.1 (leaves-pruned k t ls h.1) l.line l.matter h.0

with-floatless : (k : FloatKind) (z : Frozen) (ls : List Labelled) (before : List PlainNode) (line : ℕ) (d : PlainKind) → LabelsFloatless k ls → HoldsFloatless k d → LabelsFloatless k (labelled_with z ls before line d)
with-floatless k z ls before line (plain m) h c = h
with-floatless k z ls before line (ins i) h c = all-join (λ (l : Labelled). AreFloatless k l.inserted.inner) ls (record { index = length before; line = line; inserted = i; label = label_of z ls before i } ∷ []) h (c, tt)
with-floatless k z ls before line (act a) h c = h

pub labelled-floatless : (k : FloatKind) (z : Frozen) (ls : List Labelled) (before ns : List PlainNode) → LabelsFloatless k ls → HoldFloatless k ns → LabelsFloatless k (labelled_from z ls before ns)
labelled-floatless k z ls before [] h c = h
labelled-floatless k z ls before (n ∷ ns) h c = labelled-floatless k z (labelled_with z ls before n.line n.kind) (before ++ n ∷ []) ns (with-floatless k z ls before n.line n.kind h c.0) c.1

given-floatless : (k : FloatKind) (t : Label) (i : Inserted) → AreFloatless k i.inner → AreFloatless k (given_by t i)
given-floatless k whole i h = h
given-floatless k (split f) i h = all-take (IsFloatless k) f.index i.inner h
given-floatless k late i h = tt

given-to-floatless : (k : FloatKind) (c : ℕ) (ls : List Labelled) → LabelsFloatless k ls → AreFloatless k (given_to c ls)
given-to-floatless k c [] h = tt
given-to-floatless k c (l ∷ ls) h = by_class (l.inserted.class == c) (given-to-floatless k c ls h.1)
  where
    by_class : (t : Bool) → AreFloatless k (given_to c ls) → AreFloatless k (if t then given_by l.label l.inserted ++ given_to c ls else given_to c ls)
    by_class true g = all-join (IsFloatless k) (given_by l.label l.inserted) (given_to c ls) (given-floatless k l.label l.inserted h.0) g
    by_class false g = g

box-floatless : (k : FloatKind) (ls : List Labelled) (b : Boxed) → LabelsFloatless k ls → AreFloatless k (content_of b.content) → AreFloatless k (content_of (box_after ls b).content)
box-floatless k ls b h c = by_given (is_given b.number ls)
  where
    by_given : (t : Bool) → AreFloatless k (content_of (if t then record b { content = Some (content_of b.content ++ given_to b.number ls) } else b).content)
    by_given true = all-join (IsFloatless k) (content_of b.content) (given_to b.number ls) c (given-to-floatless k b.number ls h)
    by_given false = c

pub boxes-floatless : (k : FloatKind) (ls : List Labelled) (bs : List Boxed) → LabelsFloatless k ls → BoxesFloatless k bs → BoxesFloatless k (map (box_after ls) bs)
boxes-floatless k ls [] h c = tt
boxes-floatless k ls (b ∷ bs) h c = (box-floatless k ls b h c.0, boxes-floatless k ls bs h c.1)

unless-floatless : (k : FloatKind) (line : ℕ) (i : Inserted) (ls : List Leaf) → AreFloatless k ls → HoldFloatless k (on_line line (unless_empty i ls))
unless-floatless k line i [] h = tt
unless-floatless k line i (l ∷ ls) h = (h, tt)

held-of-floatless : (k : FloatKind) (line : ℕ) (t : Label) (i : Inserted) → AreFloatless k i.inner → HoldFloatless k (on_line line (held_of t i))
held-of-floatless k line whole i h = tt
held-of-floatless k line (split f) i h = unless-floatless k line i _ (leaves-pruned k i.split_top (drop f.index i.inner) (all-drop (IsFloatless k) f.index i.inner h))
held-of-floatless k line late i h = (h, tt)

pub held-floatless : (k : FloatKind) (ls : List Labelled) → LabelsFloatless k ls → HoldFloatless k (held_insertions ls)
held-floatless k [] h = tt
held-floatless k (l ∷ ls) h = all-join (λ (n : PlainNode). HoldsFloatless k n.kind) (on_line l.line (held_of l.label l.inserted)) (held_insertions ls) (held-of-floatless k l.line l.label l.inserted h.0) (held-floatless k ls h.1)

prune-floatless-more : (k : FloatKind) (l : ℕ) (t : ℤ) (d : PlainKind) (ns : List PlainNode) → HoldsFloatless k d → HoldFloatless k ns → HoldFloatless k (pruned_nodes t ns) → HoldFloatless k (pruned_nodes t (record { line = l; kind = d } ∷ ns))
prune-floatless-more k l t (plain (hbox w a d)) ns c g h = (tt, (tt, g))
prune-floatless-more k l t (plain (rule w a d)) ns c g h = (tt, (tt, g))
prune-floatless-more k l t (plain (skip g)) ns c i h = h
prune-floatless-more k l t (plain (kerned g)) ns c i h = h
prune-floatless-more k l t (plain (pen g)) ns c i h = h
prune-floatless-more k l t (ins x) ns c i h = (c, h)
prune-floatless-more k l t d ns c g h = (tt, h)

pub pruned-floatless : (k : FloatKind) (t : ℤ) (ns : List PlainNode) → HoldFloatless k ns → HoldFloatless k (pruned_nodes t ns)
pruned-floatless k t [] h = tt
pruned-floatless k t (n ∷ ns) h = prune-floatless-more k n.line t n.kind ns h.0 h.1 (pruned-floatless k t ns h.1)

acts-floatless-more : (k : FloatKind) (l : ℕ) (d : PlainKind) (ns : List PlainNode) → HoldsFloatless k d → HoldFloatless k (without_acts ns) → HoldFloatless k (without_acts (record { line = l; kind = d } ∷ ns))
acts-floatless-more k l (plain m) ns c h = (c, h)
acts-floatless-more k l (ins i) ns c h = (c, h)
acts-floatless-more k l (act a) ns c h = h

pub acts-floatless : (k : FloatKind) (ns : List PlainNode) → HoldFloatless k ns → HoldFloatless k (without_acts ns)
acts-floatless k [] h = tt
acts-floatless k (n ∷ ns) h = acts-floatless-more k n.line n.kind ns h.0 (acts-floatless k ns h.1)

pub spent-floatless : (k : FloatKind) (ns : List PlainNode) → HoldFloatless k ns → HoldFloatless k (with_spent_break ns)
spent-floatless k [] h = tt
spent-floatless k (n ∷ ns) h = (by_kind n.kind h.0, h.1)
  where
    by_kind : (d : PlainKind) → HoldsFloatless k d → HoldsFloatless k (spent_kind d)
    by_kind (plain (hbox w a d)) h = tt
    by_kind (ins i) h = h
    by_kind d h = tt

no-insertions-more : (k : FloatKind) (ns : List PlainNode) → HoldFloatless k (without_insertions ns) → (l : ℕ) (d : PlainKind) → HoldFloatless k (without_insertions (record { line = l; kind = d } ∷ ns))
no-insertions-more k ns h l (plain m) = (tt, h)
no-insertions-more k ns h l (ins i) = h
no-insertions-more k ns h l (act a) = (tt, h)

pub no-insertions-floatless : (k : FloatKind) (ns : List PlainNode) → HoldFloatless k (without_insertions ns)
no-insertions-floatless k [] = tt
no-insertions-floatless k (n ∷ ns) = no-insertions-more k ns (no-insertions-floatless k ns) n.line n.kind
