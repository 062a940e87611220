-- The classes of a valid galley have different numbers, and each footnote's class is one of them.
use Rattle.std.proofs.Common.{◌≡◌, refl, ap, subst, ℕ, suc, ◌≤◌, ℤ, pos, Bool, true, false, ◌||◌, ◌==◌, List, [], ◌∷◌, map, arith}
use Rattle.std.specs.Prelude.{IsTrue, int_le, neg_ℤ, if◌then◌else◌}
use Rattle.std.specs.List.{list_all, list_any}
use Rattle.std.proofs.lemmas.Int.{ints}
use Rattle.std.proofs.lemmas.Bool.{eqb-true, and_parts}
use Rattle.std.proofs.lemmas.Bool.Decides.{nat_tests}
use Rattle.tb_scaled.specs.Scaled.{eject_penalty}
use Rattle.tb_param.specs.declared.Params.{Params}
use Rattle.tb_galley.specs.declared.ClassLine.{ClassLine}
use Rattle.tb_galley.specs.declared.Item.{Item}
use Rattle.tb_galley.specs.declared.ItemKind.{ItemKind}
use Rattle.tb_galley.specs.declared.ItemKind.TheVariants as items
use Rattle.tb_galley.specs.declared.Galley.{Galley}
use Rattle.tb_galley.specs.Fields.{is_class_among}
use Rattle.tb_galley.specs.Valid.{is_class, is_item, do_classes_rise, has_known_class, IsValid}
use Rattle.tb_param.specs.Table.{is_within}
use Rattle.tb_insert.specs.declared.Class.{Class}
use Rattle.tb_builder.proofs.FiredPages.PageWeights.{hits, IsOnce}
use Rattle.tb_output.specs.State.{void_boxes}
use Rattle.tb_laws.proofs.NothingLost.StateWeights.{class_numbers}
use Rattle.tb_laws.proofs.Closed.PutLemmas.{AreAmong}
use Rattle.tb_items.specs.Classes.{classes_of}
use Rattle.tb_items.proofs.GalleyClasses.{AreAbove, rising-above, rising-rest, class-small, with_foot}
use Rattle.tb_laws.proofs.NothingLost.RunWeights.{fit-among}
use Rattle.tb_laws.proofs.NothingLost.StartLemmas.{ItemFits, ItemsFit, NumbersDiffer, void-fit}

-- ---- the numbers differ

none-above : (p : Params) (n : ℕ) (cs : List ClassLine) → n ≤ 253 → AreAbove n cs → hits n (class_numbers (with_foot p cs)) ≡ 0
none-above p n [] h a = by_number (n == 254) (n == 255) (λ e. eqb-true n 254 e) (λ e. eqb-true n 255 e)
  where
    by_number : (t u : Bool) → (t ≡ true → n ≡ 254) → (u ≡ true → n ≡ 255) → (if t then suc (if u then suc (hits n []) else hits n []) else (if u then suc (hits n []) else hits n [])) ≡ 0
    by_number true u k l = absurd (omega (arith, h, k refl))
    by_number false true k l = absurd (omega (arith, h, l refl))
    by_number false false k l = refl
none-above p n (c ∷ cs) h a = by_number (n == c.number) (λ e. eqb-true n c.number e) (none-above p n cs h a.1)
  where
    by_number : (t : Bool) → (t ≡ true → n ≡ c.number) → hits n (class_numbers (with_foot p cs)) ≡ 0 → (if t then suc (hits n (class_numbers (with_foot p cs))) else hits n (class_numbers (with_foot p cs))) ≡ 0
    by_number true k e = absurd (omega (arith, a.0, k refl))
    by_number false k e = e

lines-differ : (p : Params) (cs : List ClassLine) → IsTrue (list_all is_class cs) → IsTrue (do_classes_rise cs) → NumbersDiffer (with_foot p cs)
lines-differ p [] v r = (refl, (refl, tt))
lines-differ p (c ∷ cs) v r =
    (none-above p c.number cs (class-small c (and_parts (is_class c) (list_all is_class cs) v).0) (rising-above c cs r), lines-differ p cs (and_parts (is_class c) (list_all is_class cs) v).1 (rising-rest c cs r))

pub valid-differ : (g : Galley) → IsValid g → NumbersDiffer (classes_of g)
valid-differ g v =
    lines-differ g.params g.classes (and_parts (list_all is_class g.classes) (do_classes_rise g.classes) v.classes).0 (and_parts (list_all is_class g.classes) (do_classes_rise g.classes) v.classes).1

-- ---- the class of a footnote

-- a number of one of the classes is once among them
one-of : (ks : List ℕ) (n : ℕ) (cs : List Class) → AreAmong ks cs → IsTrue (list_any (λ (c : Class). c.number == n) cs) → IsOnce ks n
one-of ks n [] a h = cc
one-of ks n (c ∷ cs) a h = by_number (c.number == n) (λ e. eqb-true c.number n e) (λ k. one-of ks n cs a.1 k) h
  where
    by_number : (t : Bool) → (t ≡ true → c.number ≡ n) → (IsTrue (list_any (λ (d : Class). d.number == n) cs) → IsOnce ks n) → IsTrue (t || list_any (λ (d : Class). d.number == n) cs) → IsOnce ks n
    by_number true e again h = subst (IsOnce ks) (e refl) a.0
    by_number false e again h = again h

swapped : (n : ℕ) → IsTrue (n == 254) → IsTrue (254 == n)
swapped n h = grind (arith, h)

is-declared : (p : Params) (n : ℕ) (cs : List ClassLine) → IsTrue (is_class_among (map (λ (c : ClassLine). c.number) cs) n) → IsTrue (list_any (λ (c : Class). c.number == n) (with_foot p cs))
is-declared p n [] h = by_foot (n == 254) (swapped n) h
  where
    by_foot : (t : Bool) → (IsTrue t → IsTrue (254 == n)) → IsTrue (t || false) → IsTrue ((254 == n) || ((255 == n) || false))
    by_foot true k h = ap (λ u. u || ((255 == n) || false)) (k refl)
    by_foot false k h = cc
is-declared p n (c ∷ cs) h = by_here (n == 254) (c.number == n) (list_any (λ (k : ℕ). k == n) (map (λ (d : ClassLine). d.number) cs)) (is-declared p n cs) h
  where
    by_here : (f t r : Bool) → (IsTrue (f || r) → IsTrue (list_any (λ (d : Class). d.number == n) (with_foot p cs))) → IsTrue (f || (t || r)) → IsTrue (t || list_any (λ (d : Class). d.number == n) (with_foot p cs))
    by_here f true r again h = refl
    by_here f false r again h = again h

-- class 255 is one of them
last-declared : (p : Params) (cs : List ClassLine) → IsTrue (list_any (λ (c : Class). c.number == 255) (with_foot p cs))
last-declared p [] = refl
last-declared p (c ∷ cs) = by_here (c.number == 255) (last-declared p cs)
  where
    by_here : (t : Bool) → IsTrue (list_any (λ (d : Class). d.number == 255) (with_foot p cs)) → IsTrue (t || list_any (λ (d : Class). d.number == 255) (with_foot p cs))
    by_here true h = refl
    by_here false h = h

-- no footnote is of class 255
below-last : (n : ℕ) → n ≤ 254 → (n == 255) ≡ false
below-last n h = grind (arith, nat_tests, h)

lines-below : (n : ℕ) (cs : List ClassLine) → IsTrue (list_all is_class cs) → IsTrue (list_any (λ (k : ℕ). k == n) (map (λ (c : ClassLine). c.number) cs)) → n ≤ 254
lines-below n [] v h = cc
lines-below n (c ∷ cs) v h = by_here (c.number == n) (λ e. eqb-true c.number n e) (λ k. lines-below n cs (and_parts (is_class c) (list_all is_class cs) v).1 k) h
  where
    by_here : (t : Bool) → (t ≡ true → c.number ≡ n) → (IsTrue (list_any (λ (k : ℕ). k == n) (map (λ (c : ClassLine). c.number) cs)) → n ≤ 254) → IsTrue (t || list_any (λ (k : ℕ). k == n) (map (λ (c : ClassLine). c.number) cs)) → n ≤ 254
    by_here true e again h = let small = class-small c (and_parts (is_class c) (list_all is_class cs) v).0 in omega (arith, small, e refl)
    by_here false e again h = again h

foot-below : (n : ℕ) (cs : List ClassLine) → IsTrue (list_all is_class cs) → IsTrue (is_class_among (map (λ (c : ClassLine). c.number) cs) n) → (n == 255) ≡ false
foot-below n cs v h = below-last n (by_foot (n == 254) (λ e. eqb-true n 254 e) h)
  where
    by_foot : (t : Bool) → (t ≡ true → n ≡ 254) → IsTrue (t || list_any (λ (k : ℕ). k == n) (map (λ (c : ClassLine). c.number) cs)) → n ≤ 254
    by_foot true e h = omega (arith, e refl)
    by_foot false e h = lines-below n cs v h

high : (n : ℤ) → IsTrue (is_within (neg_ℤ (pos 10000)) (pos 10000) n) → int_le eject_penalty n ≡ true
high n h = grind (arith, ints, h)

among : (g : Galley) → IsValid g → AreAmong (class_numbers (classes_of g)) (classes_of g)
among g v = fit-among (classes_of g) (void_boxes (classes_of g)) (void-fit (classes_of g) (valid-differ g v))

item-fits : (g : Galley) → IsValid g → (line : ℕ) (k : ItemKind) → IsTrue (is_item line k) → IsTrue (has_known_class (map (λ (c : ClassLine). c.number) g.classes) k) → ItemFits (class_numbers (classes_of g)) k
item-fits g v line (items.Penalty n) i c = high n i
item-fits g v line (items.Foot class ls) i c = (one-of (class_numbers (classes_of g)) class (classes_of g) (among g v) (is-declared g.params class g.classes c), foot-below class g.classes (and_parts (list_all is_class g.classes) (do_classes_rise g.classes) v.classes).0 c)
item-fits g v line (items.Enlarge by star) i c = one-of (class_numbers (classes_of g)) 255 (classes_of g) (among g v) (last-declared g.params g.classes)
item-fits g v line k i c = tt

items-fit : (g : Galley) → IsValid g → (ns : List Item) → IsTrue (list_all (λ (n : Item). is_item n.line n.kind) ns) → IsTrue (list_all (λ (n : Item). has_known_class (map (λ (c : ClassLine). c.number) g.classes) n.kind) ns) → ItemsFit (class_numbers (classes_of g)) ns
items-fit g v [] i c = tt
items-fit g v (n ∷ ns) i c =
    let ks = map (λ (c : ClassLine). c.number) g.classes in (
      item-fits g v n.line n.kind (and_parts (is_item n.line n.kind) (list_all (λ (m : Item). is_item m.line m.kind) ns) i).0 (and_parts (has_known_class ks n.kind) (list_all (λ (m : Item). has_known_class ks m.kind) ns) c).0,
      items-fit g v ns (and_parts (is_item n.line n.kind) (list_all (λ (m : Item). is_item m.line m.kind) ns) i).1 (and_parts (has_known_class ks n.kind) (list_all (λ (m : Item). has_known_class ks m.kind) ns) c).1,
    )

pub valid-fit : (g : Galley) → IsValid g → ItemsFit (class_numbers (classes_of g)) g.items
valid-fit g v = items-fit g v g.items v.items v.feet
