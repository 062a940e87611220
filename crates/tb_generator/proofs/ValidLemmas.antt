-- A generated galley is valid.
use Rattle.std.proofs.Common.{◌≡◌, ◌+◌, ◌*◌, ◌<◌, ◌≤◌, refl, sym, subst, arith, ℕ, zero, suc, Bool, true, false, nat_lt, List, [], ◌∷◌, ◌++◌, append_assoc}
use Rattle.std.specs.Prelude.{◌/◌, ◌%◌, ◌==◌, ◌||◌, nat_le}
use Rattle.std.specs.List.{list_all}
use Rattle.std.proofs.lemmas.Bool.Decides.{nat_tests}
use Rattle.std.proofs.lemmas.Int.{ints}
use Rattle.std.proofs.lemmas.Bool.{and_from}
use Rattle.tb_node.specs.declared.Places.{Places}
use Rattle.tb_node.specs.Names.{is_between}
use Rattle.tb_param.specs.Defaults.{default_params, points, glue_points}
use Rattle.tb_param.specs.Ranges.{are_params}
use Rattle.tb_param.specs.Table.{row_of}
use Rattle.tb_param.specs.declared.fields.Field.TheVariants as fields
use Rattle.tb_galley.specs.declared.Item.{Item}
use Rattle.tb_galley.specs.declared.ItemKind.{ItemKind}
use Rattle.tb_galley.specs.declared.ItemKind.TheVariants as items
use Rattle.tb_galley.specs.Valid.{is_item, is_size, weight_of, weight, lines_of_item, named_lines, rise_from, has_known_class, fits_word, fits_kind, OthersDefault, IsValid, Behind, behind_nothing, behind_after, may_come, do_items_stand}
use Rattle.tb_generator.specs.GeneratedGalleys.{next_seed, made_box, made_foot, made_float, made_by, made_item, made_items, made_params, generated, tbp, htp}
use Rattle.tb_generator.proofs.NameLemmas.{named}

-- the parameters that version 1 does not have have their defaults
others_default : OthersDefault 1 made_params
unfolding made_params default_params
others_default fields.Bottom lacks = cc
others_default fields.Pool lacks = cc
others_default fields.Maxdeadcycles lacks = cc
others_default field lacks = refl

params_valid : are_params made_params ≡ true
unfolding are_params made_params default_params row_of
params_valid = refl

small : (n : ℕ) → n ≤ 100 → is_size (points n) ≡ true
small n few = grind (arith, ints)

itself : (n : ℕ) → (n == n) ≡ true
itself n = grind (arith, nat_tests)

-- ---- one item

-- what is needed of an item in place k
record IsMade (k : ℕ) (i : ItemKind) : Type 0 where
  good : is_item k i ≡ true
  known : has_known_class [] i ≡ true
  fits : fits_word 1 i ≡ true
  kind : fits_kind 1 i ≡ true
  stands : (b : Behind) → may_come b i ≡ true
  light : weight_of i + 2 * (k % 2) ≤ 3
  rises : (j : ℕ) (rest : List ℕ) → j < k → ((i : ℕ) → i ≤ k → rise_from i rest ≡ true) → rise_from j (lines_of_item k i ++ rest) ≡ true

one-line : (j k : ℕ) (rest : List ℕ) → j < k → ((i : ℕ) → i ≤ k → rise_from i rest ≡ true) → rise_from j (k ∷ rest) ≡ true
one-line j k rest low later = and_from (nat_lt j k) _ (grind (arith, nat_tests)) (later k (omega arith))

no-line : (j k : ℕ) (rest : List ℕ) → j < k → ((i : ℕ) → i ≤ k → rise_from i rest ≡ true) → rise_from j rest ≡ true
no-line j k rest low later = later j (omega arith)

box_made : (k : ℕ) → k ≤ 40000 → IsMade k (made_box k)
box_made k few = record {
  good = and_from _ _ (and_from _ _ (named 98 k refl few) refl) refl;
  known = refl;
  fits = refl;
  kind = refl;
  stands = λ b. refl;
  light = omega arith;
  rises = λ j rest low later. one-line j k rest low later;
}

module _ (k : ℕ) (few : k ≤ 40000) (even : k % 2 ≡ 0) where
  glue_made : IsMade k (items.Skip (glue_points 3 1 0))
  glue_made = record { good = refl; known = refl; fits = refl; kind = refl; stands = λ b. refl; light = omega arith; rises = λ j rest low later. no-line j k rest low later }

  foot_made : IsMade k (made_foot k)
  foot_made = record {
    good = and_from _ _ (and_from _ _ (and_from _ _ (named 102 k refl few) refl) refl) refl;
    known = refl;
    fits = refl;
    kind = refl;
    stands = λ b. refl;
    light = omega arith;
    rises = λ j rest low later. one-line j k rest low later;
  }

  float_made : (class : ℕ) (places : Places) (height : ℕ) → is_between 1 26 class ≡ true → (places.h || places.t || places.b || places.p) ≡ true → height ≤ 100 → IsMade k (made_float k class places height)
  float_made class places height c p low = record {
    good = and_from _ _ (itself k) (and_from _ _ (and_from _ _ (and_from _ _ (named 120 k refl few) c) p) (small height low));
    known = refl;
    fits = refl;
    kind = refl;
    stands = λ b. refl;
    light = omega arith;
    rises = λ j rest lower later. one-line j k rest lower later;
  }

  by_made : (s r : ℕ) (a b c : Bool) → nat_lt r 28 ≡ a → nat_lt r 30 ≡ b → (r == 30) ≡ c → IsMade k (made_by k s r)
  by_made s r true b c e f g = rw e glue_made
  by_made s r false true c e f g = rw (e, f) foot_made
  by_made s r false false true e f g = rw (e, f, g) (float_made 1 tbp (50 + s % 50) refl refl (omega arith))
  by_made s r false false false e f g = rw (e, f, g) (float_made 2 htp (20 + s % 30) refl refl (omega arith))

item_made : (k s : ℕ) (t : Bool) → (k % 2 == 1) ≡ t → k ≤ 40000 → IsMade k (made_item k s)
item_made k s true e few = rw e (box_made k few)
item_made k s false e few =
    let even : k % 2 ≡ 0 = grind (arith, nat_tests, e) in
    let r = s / 65536 % 32 in
    rw e (by_made k few even s r (nat_lt r 28) (nat_lt r 30) (r == 30) refl refl refl)

-- ---- all of them

made : (k s : ℕ) → k ≤ 40000 → IsMade k (made_item k s)
made k s few = item_made k s (k % 2 == 1) refl few

items_good : (m k s : ℕ) → k + m ≤ 40001 → list_all (λ (n : Item). is_item n.line n.kind) (made_items m k s) ≡ true
items_good zero k s few = refl
items_good (suc m) k s few = and_from _ _ (made k (next_seed s) (omega arith)).good (items_good m (k + 1) (next_seed s) (omega arith))

feet_known : (m k s : ℕ) → k + m ≤ 40001 → list_all (λ (n : Item). has_known_class [] n.kind) (made_items m k s) ≡ true
feet_known zero k s few = refl
feet_known (suc m) k s few = and_from _ _ (made k (next_seed s) (omega arith)).known (feet_known m (k + 1) (next_seed s) (omega arith))

words_known : (m k s : ℕ) → k + m ≤ 40001 → list_all (λ (n : Item). fits_word 1 n.kind) (made_items m k s) ≡ true
words_known zero k s few = refl
words_known (suc m) k s few = and_from _ _ (made k (next_seed s) (omega arith)).fits (words_known m (k + 1) (next_seed s) (omega arith))

kinds_fit : (m k s : ℕ) → k + m ≤ 40001 → list_all (λ (n : Item). fits_kind 1 n.kind) (made_items m k s) ≡ true
kinds_fit zero k s few = refl
kinds_fit (suc m) k s few = and_from _ _ (made k (next_seed s) (omega arith)).kind (kinds_fit m (k + 1) (next_seed s) (omega arith))

items_stand : (b : Behind) (m k s : ℕ) → k + m ≤ 40001 → do_items_stand b (made_items m k s) ≡ true
items_stand b zero k s few = refl
items_stand b (suc m) k s few = and_from _ _ ((made k (next_seed s) (omega arith)).stands b) (items_stand (behind_after b (made_item k (next_seed s))) m (k + 1) (next_seed s) (omega arith))

items_light : (m k s : ℕ) → k + m ≤ 40001 → weight (made_items m k s) + k % 2 ≤ 2 * m + 1
items_light zero k s few = omega arith
items_light (suc m) k s few =
    let here = (made k (next_seed s) (omega arith)).light in
    let later = items_light m (k + 1) (next_seed s) (omega arith) in
    omega (arith, here, later)

items_rise : (m k s j : ℕ) → k + m ≤ 40001 → j < k → rise_from j (named_lines (made_items m k s) ++ (k + m) ∷ []) ≡ true
items_rise zero k s j few low = and_from (nat_lt j (k + 0)) true (grind (arith, nat_tests)) refl
items_rise (suc m) k s j few low =
    let i = made_item k (next_seed s) in
    let rest = named_lines (made_items m (k + 1) (next_seed s)) in
    let more : k + 1 + m ≡ k + suc m = omega arith in
    let later : (l : ℕ) → l ≤ k → rise_from l (rest ++ (k + suc m) ∷ []) ≡ true = λ l below. subst (λ z. rise_from l (rest ++ z ∷ []) ≡ true) more (items_rise m (k + 1) (next_seed s) l (omega arith) (omega arith)) in
    subst (λ ls. rise_from j ls ≡ true) (sym (append_assoc (lines_of_item k i) rest ((k + suc m) ∷ []))) ((made k (next_seed s) (omega arith)).rises j (rest ++ (k + suc m) ∷ []) low later)

-- a generated galley is valid
pub generated_valid : (n : ℕ) → n ≤ 40000 → IsValid (generated n)
generated_valid n few = record {
  params = params_valid;
  others = others_default;
  version = refl;
  words = words_known n 1 n (omega arith);
  classes = refl;
  standing = refl;
  items = items_good n 1 n (omega arith);
  feet = feet_known n 1 n (omega arith);
  kinds = kinds_fit n 1 n (omega arith);
  order = items_stand behind_nothing n 1 n (omega arith);
  count = let light = items_light n 1 n (omega arith) in fits (weight (made_items n 1 n)) (omega (arith, light));
  lines = subst (λ z. rise_from 0 (named_lines (made_items n 1 n) ++ z ∷ []) ≡ true) last (items_rise n 1 n 0 (omega arith) (omega arith));
}
  where
    last : 1 + n ≡ n + 1
    last = omega arith

    fits : (w : ℕ) → w ≤ 100000 → nat_le w 100000 ≡ true
    fits w low = grind (arith, nat_tests)
