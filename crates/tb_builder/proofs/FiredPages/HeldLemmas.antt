-- If nothing is given to the boxes of the classes, no insertion came before the break, and nothing is held.
use Rattle.std.proofs.Common.{◌≡◌, refl, ℕ, ℤ, Bool, true, false, List, [], ◌∷◌, ◌++◌, arith}
use Rattle.std.specs.Prelude.{map, pos, ◌+ℤ◌, ◌-ℤ◌, ◌==◌, ◌||◌, ◌&&◌, int_le, if◌then◌else◌}
use Rattle.tb_node.specs.declared.Sums.{Sums}
use Rattle.tb_scaled.specs.Scaled.{min_ℤ}
use Rattle.tb_node.specs.Sums.{sums_of, list_shrink}
use Rattle.tb_break.specs.declared.Found.{Found}
use Rattle.tb_break.specs.Split.{split_of}
use Rattle.tb_node.specs.PlainNodes.{leaf_shape, node_shape, Inserted, PlainKind, plain, ins, act, PlainNode}
use Rattle.tb_insert.specs.Account.{scaled_by, clamped, unscaled_room, class_box, goal_after, class_height, skip_shapes, met_classes, ClassBox, Frozen, Labelled, whole, split, label_where, label_of, labelled_with, labelled_from, labelled}
use Rattle.tb_builder.specs.FiredPages.{gives, is_given}
use Rattle.tb_builder.proofs.FiredPages.PageWeights.{IsOnce, LabelsOfClass}
use Rattle.std.proofs.lemmas.Bool.{eq-eqb}

by_room : (t : Bool) (f : Found) → gives (if t then whole else split f) ≡ true
by_room true f = refl
by_room false f = refl

where-gives : (c : ClassBox) (goal height : ℤ) (s : Sums) (shrink : ℤ) (i : Inserted) → gives (label_where c goal height s shrink i) ≡ true
where-gives c goal height s shrink i =
    by_room ((int_le (scaled_by c.class.factor i.height) (pos 0) || int_le (scaled_by c.class.factor i.height) ((goal -ℤ s.total -ℤ s.depth) +ℤ shrink)) && int_le (height +ℤ i.height) c.class.limit) (split_of (clamped (min_ℤ (unscaled_room c.class.factor (goal -ℤ s.total -ℤ s.depth)) (c.class.limit -ℤ height))) i.split_depth (map leaf_shape i.inner))

-- the first insertion of a page is given whole or split
abbrev pub FirstGives : List Labelled → Type 0
FirstGives [] = Unit {0}
FirstGives (l ∷ ls) = gives l.label ≡ true

first-of : (z : Frozen) (before : List PlainNode) (i : Inserted) → gives (label_of z [] before i) ≡ true
first-of z before i =
    let s = sums_of z.limit (map node_shape before) in
    where-gives (class_box z.classes i.class) (goal_after z [] (i ∷ [])) (class_height z.classes [] i.class) s (s.shrink +ℤ list_shrink (skip_shapes (met_classes z.classes (i ∷ [])))) i

with-first : (z : Frozen) (ls : List Labelled) (before : List PlainNode) (line : ℕ) (k : PlainKind) → FirstGives ls → FirstGives (labelled_with z ls before line k)
with-first z ls before line (plain m) h = h
with-first z [] before line (ins i) h = first-of z before i
with-first z (l ∷ ls) before line (ins i) h = h
with-first z ls before line (act a) h = h

from-first : (z : Frozen) (ls : List Labelled) (before ns : List PlainNode) → FirstGives ls → FirstGives (labelled_from z ls before ns)
from-first z ls before [] h = h
from-first z ls before (n ∷ ns) h = from-first z (labelled_with z ls before n.line n.kind) (before ++ n ∷ []) ns (with-first z ls before n.line n.kind h)

-- nothing is given to any of the boxes
abbrev pub GivesNone : List ℕ → List Labelled → Type 0
GivesNone ks ls = (k : ℕ) → IsOnce ks k → is_given k ls ≡ false

none-of : (ks : List ℕ) (ls : List Labelled) → LabelsOfClass ks ls → FirstGives ls → GivesNone ks ls → ls ≡ []
none-of ks [] c f e = refl
none-of ks (l ∷ ls) c f e = absurd (no (l.inserted.class == l.inserted.class) (gives l.label) (is_given l.inserted.class ls) (eq-eqb l.inserted.class l.inserted.class refl) f (e l.inserted.class c.0))
  where
    no : (t g r : Bool) → t ≡ true → g ≡ true → ((if t then g else false) || r) ≡ false → ⊥
    no true true r a b e = grind (arith, e)
    no true false r a b e = grind (arith, b)
    no false g r a b e = grind (arith, a)

-- if all insertions are of these classes and nothing is given to their boxes, there are none
pub none-labelled : (ks : List ℕ) (z : Frozen) (ns : List PlainNode) → LabelsOfClass ks (labelled z ns) → GivesNone ks (labelled z ns) → labelled z ns ≡ []
none-labelled ks z ns c e = none-of ks (labelled z ns) c (from-first z [] [] ns tt) e
