-- A list of a page without one of its acts: its labels are the same but for their places, and it fits if the list did.
use Rattle.std.proofs.Common.{◌≡◌, ◌⊎◌, inl, inr, refl, sym, subst, ◌∙◌, ap, ℕ, ℤ, pos, ◌+ℤ◌, ◌-ℤ◌, Bool, List, [], ◌∷◌, ◌++◌, length, append_assoc, append-nil, arith}
use Rattle.std.specs.Prelude.{map, ◌==◌, ◌||◌, ◌&&◌, if◌then◌else◌}
use Rattle.std.proofs.lemmas.List.{map-append}
use Rattle.std.proofs.lemmas.Int.{ints}
use Rattle.tb_scaled.specs.Scaled.{min_ℤ}
use Rattle.tb_scaled.specs.declared.Order.{Order}
use Rattle.tb_scaled.specs.declared.Order.TheVariants.{Normal, Fil, Fill, Filll}
use Rattle.tb_node.specs.declared.Act.{Act}
use Rattle.tb_node.specs.declared.Sums.{Sums}
use Rattle.tb_node.specs.SmallAmounts.{IsAmount, IsSmall}
use Rattle.tb_node.specs.Shape.{Shape, other}
use Rattle.tb_node.specs.PlainNodes.{PlainKind, plain, ins, act, PlainNode, node_shape, Inserted}
use Rattle.tb_node.specs.Sums.{sums_of, size_of, depth_from, list_stretch, list_shrink, depth_after, room_of, stretch_of, shrink_of}
use Rattle.tb_insert.specs.Terms.{Terms, sums_with}
use Rattle.tb_insert.specs.Account.{ClassBox, Frozen, Label, late, Labelled, class_box, taken, scaled_by, insertions, met_classes, class_charge, insertion_charge, skip_shapes, class_height, is_split, has_split, label_where, label_of, labelled_with, labelled_from, labelled, penalty_of, penalties_of, terms_of_labels, terms_after}
use Rattle.tb_insert.specs.Arrival.{PageFits}
use Rattle.tb_builder.specs.PageEvents.{NodeFits, LaidFits, Without}

-- ---- sums without a node that takes no room

none_more : (a : ℤ) → pos 0 +ℤ a ≡ a
none_more a = omega (arith, ints)

size_without : (xs ys : List Shape) → size_of (xs ++ other ∷ ys) ≡ size_of (xs ++ ys)
size_without [] ys = none_more (size_of ys)
size_without (x ∷ xs) ys = ap (λ z. room_of x +ℤ z) (size_without xs ys)

depth_without : (d : ℤ) (xs ys : List Shape) → depth_from d (xs ++ other ∷ ys) ≡ depth_from d (xs ++ ys)
depth_without d [] ys = refl
depth_without d (x ∷ xs) ys = depth_without (depth_after d x) xs ys

stretch_without : (o : Order) (xs ys : List Shape) → list_stretch o (xs ++ other ∷ ys) ≡ list_stretch o (xs ++ ys)
stretch_without o [] ys = none_more (list_stretch o ys)
stretch_without o (x ∷ xs) ys = ap (λ z. stretch_of o x +ℤ z) (stretch_without o xs ys)

shrink_without : (xs ys : List Shape) → list_shrink (xs ++ other ∷ ys) ≡ list_shrink (xs ++ ys)
shrink_without [] ys = none_more (list_shrink ys)
shrink_without (x ∷ xs) ys = ap (λ z. shrink_of x +ℤ z) (shrink_without xs ys)

sums_without : (limit : ℤ) (xs ys : List Shape) → sums_of limit (xs ++ other ∷ ys) ≡ sums_of limit (xs ++ ys)
sums_without limit xs ys = λ i. record {
  total = size_without xs ys i -ℤ min_ℤ (depth_without (pos 0) xs ys i) limit;
  depth = min_ℤ (depth_without (pos 0) xs ys i) limit;
  stretch = stretch_without Normal xs ys i ∷ stretch_without Fil xs ys i ∷ stretch_without Fill xs ys i ∷ stretch_without Filll xs ys i ∷ [];
  shrink = shrink_without xs ys i;
}

-- ---- labels without their places

abbrev bare : Labelled → Labelled
bare l = record l { index = 0; line = 0 }

split_bare : (ls : List Labelled) (k : ℕ) → has_split (map bare ls) k ≡ has_split ls k
split_bare [] k = refl
split_bare (l ∷ ls) k = ap (λ b. ((l.inserted.class == k) && is_split l.label) || b) (split_bare ls k)

height_bare : (cs : List ClassBox) (ls : List Labelled) (k : ℕ) → class_height cs (map bare ls) k ≡ class_height cs ls k
height_bare cs [] k = refl
height_bare cs (l ∷ ls) k = ap (λ h. if l.inserted.class == k then taken l +ℤ h else h) (height_bare cs ls k)

charge_bare : (cs : List ClassBox) (ls : List Labelled) → insertion_charge cs (map bare ls) ≡ insertion_charge cs ls
charge_bare cs [] = refl
charge_bare cs (l ∷ ls) = ap (λ h. scaled_by (class_box cs l.inserted.class).class.factor (taken l) +ℤ h) (charge_bare cs ls)

insertions_bare : (ls : List Labelled) → insertions (map bare ls) ≡ insertions ls
insertions_bare [] = refl
insertions_bare (l ∷ ls) = ap (λ is. l.inserted ∷ is) (insertions_bare ls)

penalties_bare : (ls : List Labelled) → penalties_of (map bare ls) ≡ penalties_of ls
penalties_bare [] = refl
penalties_bare (l ∷ ls) = ap (λ p. penalty_of l.label l.inserted +ℤ p) (penalties_bare ls)

terms_bare : (z : Frozen) (ls : List Labelled) → terms_of_labels z (map bare ls) ≡ terms_of_labels z ls
terms_bare z ls = λ i. terms_with (charge_bare z.classes ls i) (insertions_bare ls i) (penalties_bare ls i)
  where
    terms_with : ℤ → List Inserted → ℤ → Terms
    terms_with charge met penalties = record {
      goal = z.goal -ℤ class_charge (met_classes z.classes met) -ℤ charge;
      penalties = penalties;
      stretch = list_stretch Normal (skip_shapes (met_classes z.classes met)) ∷ list_stretch Fil (skip_shapes (met_classes z.classes met)) ∷ list_stretch Fill (skip_shapes (met_classes z.classes met)) ∷ list_stretch Filll (skip_shapes (met_classes z.classes met)) ∷ [];
      shrink = list_shrink (skip_shapes (met_classes z.classes met));
    }

-- the label, from the labels before and the sums
abbrev label_by : Frozen → Bool → ℤ → ℤ → List Inserted → Sums → Inserted → Label
label_by z sp charge height is s i =
    if sp then late
    else label_where (class_box z.classes i.class) (z.goal -ℤ class_charge (met_classes z.classes (i ∷ is)) -ℤ charge) height s (s.shrink +ℤ list_shrink (skip_shapes (met_classes z.classes (i ∷ is)))) i

label_bare : (z : Frozen) (ls : List Labelled) (before : List PlainNode) (i : Inserted) → label_of z (map bare ls) before i ≡ label_of z ls before i
label_bare z ls before i = λ j. label_by z (split_bare ls i.class j) (charge_bare z.classes ls j) (height_bare z.classes ls i.class j) (insertions_bare ls j) (sums_of z.limit (map node_shape before)) i

-- the same nodes have the same labels after lists with the same sums
label_same : (z : Frozen) (ls ms : List Labelled) (a b : List PlainNode) (i : Inserted) → map bare ls ≡ map bare ms → sums_of z.limit (map node_shape a) ≡ sums_of z.limit (map node_shape b) → label_of z ls a i ≡ label_of z ms b i
label_same z ls ms a b i e s = sym (label_bare z ls a i) ∙ (λ j. label_by z (has_split (e j) i.class) (insertion_charge z.classes (e j)) (class_height z.classes (e j) i.class) (insertions (e j)) (s j) i) ∙ label_bare z ms b i

with_same : (z : Frozen) (ls ms : List Labelled) (a b : List PlainNode) (line : ℕ) (k : PlainKind) → map bare ls ≡ map bare ms → sums_of z.limit (map node_shape a) ≡ sums_of z.limit (map node_shape b)
    → map bare (labelled_with z ls a line k) ≡ map bare (labelled_with z ms b line k)
with_same z ls ms a b line (plain m) e s = e
with_same z ls ms a b line (ins i) e s =
    map-append bare ls (record { index = length a; line = line; inserted = i; label = label_of z ls a i } ∷ [])
    ∙ (λ j. e j ++ record { index = 0; line = 0; inserted = i; label = label_same z ls ms a b i e s j } ∷ [])
    ∙ sym (map-append bare ms (record { index = length b; line = line; inserted = i; label = label_of z ms b i } ∷ []))
with_same z ls ms a b line (act x) e s = e

from_same : (z : Frozen) (ls ms : List Labelled) (a b ns : List PlainNode) → map bare ls ≡ map bare ms → ((xs : List PlainNode) → sums_of z.limit (map node_shape (a ++ xs)) ≡ sums_of z.limit (map node_shape (b ++ xs)))
    → map bare (labelled_from z ls a ns) ≡ map bare (labelled_from z ms b ns)
from_same z ls ms a b [] e s = e
from_same z ls ms a b (n ∷ ns) e s =
    from_same z (labelled_with z ls a n.line n.kind) (labelled_with z ms b n.line n.kind) (a ++ n ∷ []) (b ++ n ∷ []) ns
    (with_same z ls ms a b n.line n.kind e ((λ j. sums_of z.limit (map node_shape (sym (append-nil a) j))) ∙ s [] ∙ (λ j. sums_of z.limit (map node_shape (append-nil b j)))))
    (λ xs. (λ j. sums_of z.limit (map node_shape (append_assoc a (n ∷ []) xs j))) ∙ s (n ∷ xs) ∙ (λ j. sums_of z.limit (map node_shape (sym (append_assoc b (n ∷ []) xs) j))))

pub from_append : (z : Frozen) (ls : List Labelled) (before xs ys : List PlainNode) → labelled_from z ls before (xs ++ ys) ≡ labelled_from z (labelled_from z ls before xs) (before ++ xs) ys
from_append z ls before [] ys = ap (λ b. labelled_from z ls b ys) (sym (append-nil before))
from_append z ls before (x ∷ xs) ys =
    from_append z (labelled_with z ls before x.line x.kind) (before ++ x ∷ []) xs ys
    ∙ ap (λ b. labelled_from z (labelled_from z (labelled_with z ls before x.line x.kind) (before ++ x ∷ []) xs) b ys) (append_assoc before (x ∷ []) xs)

-- ---- a page without an act

module _ (z : Frozen) (before : List PlainNode) (line : ℕ) (a : Act) (after : List PlainNode) where
  shapes_without : sums_of z.limit (map node_shape (before ++ record { line = line; kind = act a } ∷ after)) ≡ sums_of z.limit (map node_shape (before ++ after))
  shapes_without =
      ap (sums_of z.limit) (map-append node_shape before (record { line = line; kind = act a } ∷ after))
      ∙ sums_without z.limit (map node_shape before) (map node_shape after)
      ∙ ap (sums_of z.limit) (sym (map-append node_shape before after))

module _ (z : Frozen) (before : List PlainNode) (line : ℕ) (a : Act) (after : List PlainNode) where
  labels_without : map bare (labelled z (before ++ record { line = line; kind = act a } ∷ after)) ≡ map bare (labelled z (before ++ after))
  labels_without =
      ap (map bare) (from_append z [] [] before (record { line = line; kind = act a } ∷ after))
      ∙ from_same z (labelled z before) (labelled z before) (before ++ record { line = line; kind = act a } ∷ []) before after refl
      (λ xs. ap (λ ns. sums_of z.limit (map node_shape ns)) (append_assoc before (record { line = line; kind = act a } ∷ []) xs) ∙ shapes_without z before line a xs)
      ∙ sym (ap (map bare) (from_append z [] [] before after))

  terms_without : terms_after z (before ++ record { line = line; kind = act a } ∷ after) ≡ terms_after z (before ++ after)
  terms_without =
      sym (terms_bare z (labelled z (before ++ record { line = line; kind = act a } ∷ after))) ∙ ap (terms_of_labels z) labels_without ∙ terms_bare z (labelled z (before ++ after))

  height_without : (k : ℕ) → class_height z.classes (labelled z (before ++ record { line = line; kind = act a } ∷ after)) k ≡ class_height z.classes (labelled z (before ++ after)) k
  height_without k =
      sym (height_bare z.classes (labelled z (before ++ record { line = line; kind = act a } ∷ after)) k) ∙ ap (λ ls. class_height z.classes ls k) labels_without ∙ height_bare z.classes (labelled z (before ++ after)) k

  page_without : PageFits z (before ++ record { line = line; kind = act a } ∷ after) → PageFits z (before ++ after)
  page_without f = record {
    sums = subst IsSmall (λ j. sums_with (shapes_without z before line a after j) (terms_without j)) f.sums;
    goal = subst (λ (t : Terms). IsAmount t.goal) terms_without f.goal;
    penalties = subst (λ (t : Terms). IsAmount t.penalties) terms_without f.penalties;
    heights = λ k known. subst IsAmount (height_without k) (f.heights k known);
  }

-- ---- the cuts of a list

-- of two cuts of one list, one comes first
pub record CutsFirst (p r b a : List PlainNode) : Type 0 where
  pub between : List PlainNode
  pub front : b ≡ p ++ between
  pub back : r ≡ between ++ a

cuts : (p r b a : List PlainNode) → p ++ r ≡ b ++ a → CutsFirst p r b a ⊎ CutsFirst b a p r
cuts [] r b a e = inl (record { between = b; front = refl; back = e })
cuts (x ∷ p) r [] a e = inr (record { between = x ∷ p; front = refl; back = sym e })
cuts (x ∷ p) r (y ∷ b) a e = elim (cuts p r b a (tail_same e)) [
  | inl c ↦ inl (record { between = c.between; front = (λ i. sym (head_same e) i ∷ c.front i); back = c.back })
  | inr c ↦ inr (record { between = c.between; front = (λ i. head_same e i ∷ c.front i); back = c.back })
]
  where
    head_same : (x ∷ (p ++ r)) ≡ (y ∷ (b ++ a)) → x ≡ y
    head_same e = cc

    tail_same : (x ∷ (p ++ r)) ≡ (y ∷ (b ++ a)) → p ++ r ≡ b ++ a
    tail_same e = cc

-- ---- what is laid out fits without the act

module _ (z : Frozen) (line : ℕ) (a : Act) (before after : List PlainNode) (f : LaidFits z (before ++ record { line = line; kind = act a } ∷ after)) where
  prefix_fits : (p r : List PlainNode) → p ++ r ≡ before ++ after → PageFits z p
  prefix_fits p r e = elim (cuts p r before after e) [
    | inl c ↦ f.pages p (c.between ++ record { line = line; kind = act a } ∷ after) (sym (append_assoc p c.between (record { line = line; kind = act a } ∷ after)) ∙ ap (λ b. b ++ record { line = line; kind = act a } ∷ after) (sym c.front))
    | inr c ↦ subst (PageFits z) (sym c.front) (page_without z before line a c.between (f.pages (before ++ record { line = line; kind = act a } ∷ c.between) r
        (append_assoc before (record { line = line; kind = act a } ∷ c.between) r ∙ ap (λ ns. before ++ record { line = line; kind = act a } ∷ ns) (sym c.back))))
  ]

  node_fits : (p : List PlainNode) (n : PlainNode) (r : List PlainNode) → p ++ n ∷ r ≡ before ++ after → NodeFits n
  node_fits p n r e = elim (cuts p (n ∷ r) before after e) [
    | inl c ↦ in_front c.between c.front c.back
    | inr c ↦ f.nodes (before ++ record { line = line; kind = act a } ∷ c.between) n r (append_assoc before (record { line = line; kind = act a } ∷ c.between) (n ∷ r) ∙ ap (λ ns. before ++ record { line = line; kind = act a } ∷ ns) (sym c.back))
  ]
    where
      in_front : (m : List PlainNode) → before ≡ p ++ m → n ∷ r ≡ m ++ after → NodeFits n
      in_front [] b t = f.nodes (before ++ record { line = line; kind = act a } ∷ []) n r (append_assoc before (record { line = line; kind = act a } ∷ []) (n ∷ r) ∙ ap (λ ns. before ++ record { line = line; kind = act a } ∷ ns) t)
      in_front (x ∷ m) b t =
          let same : n ≡ x = cc in
          subst NodeFits (sym same) (f.nodes p x (m ++ record { line = line; kind = act a } ∷ after) (sym (append_assoc p (x ∷ m) (record { line = line; kind = act a } ∷ after)) ∙ ap (λ ns. ns ++ record { line = line; kind = act a } ∷ after) (sym b)))

  pub laid_without : LaidFits z (before ++ after)
  laid_without = record { pages = prefix_fits; nodes = node_fits; classes = f.classes }

pub without_fits : (z : Frozen) (a : Act) (ns ms : List PlainNode) → LaidFits z ns → Without a ns ms → LaidFits z ms
without_fits z a ns ms f w = subst (LaidFits z) (sym w.left) (laid_without z w.line a w.before w.after (subst (LaidFits z) w.was f))
