-- The breaks of a plan leave each title directly behind its change to two columns, and each parameter that is set among the items where it may stand.
use Rattle.std.proofs.Common.{◌≡◌, refl, sym, subst, ℕ, suc, ◌≤◌, ◌==◌, ◌&&◌, Bool, true, false, List, [], ◌∷◌, ◌++◌, if◌then◌else◌, arith}
use Rattle.std.specs.Prelude.{IsTrue}
use Rattle.std.specs.Cmp.{first_so, second_so}
use Rattle.std.proofs.lemmas.Bool.{and_from}
use Rattle.tb_param.specs.declared.Params.{Params}
use Rattle.tb_galley.specs.declared.Galley.{Galley}
use Rattle.tb_galley.specs.declared.Item.{Item}
use Rattle.tb_galley.specs.declared.ItemKind.{ItemKind}
use Rattle.tb_galley.specs.declared.ItemKind.TheVariants as items
use Rattle.tb_galley.specs.GalleyNodes.{two_after}
use Rattle.tb_galley.specs.Valid.{IsValid, Behind, behind_nothing, behind_other, behind_after, may_come, do_items_stand}
use Rattle.tb_plans.specs.declared.walk.Before.{Before}
use Rattle.tb_plans.specs.declared.walk.Before.TheVariants as befores
use Rattle.tb_plans.specs.Places.{is_later, is_glue_next, is_place, before_after, if_place, places_from, places_of}
use Rattle.tb_plans.specs.Plans.{is_part, IsPlan, break_before, broken, with_breaks}

-- ---- a title and a parameter that is set are no places

never : (b : Before) → (is_later b && false) ≡ true → ⊥
never befores.Nothing h = cc
never b h = cc

-- a place may stand behind a break
comes-behind : (next : Bool) (b : Before) (k : ItemKind) → is_place next b k ≡ true → may_come behind_other k ≡ true
comes-behind next b (items.Head f) h = absurd (never b h)
comes-behind next b (items.Set c) h = absurd (never b h)
comes-behind next b k h = refl

-- what stands behind a place is behind it with a break before it too
same-behind : (next : Bool) (b : Before) (a : Behind) (k : ItemKind) → is_place next b k ≡ true → behind_after behind_other k ≡ behind_after a k
same-behind next b a (items.Set c) h = absurd (never b h)
same-behind next b a k h = refl

-- ---- one item

module _ (p : Params) (two : Bool) (b : Before) (k : ℕ) (n : Item) (ns : List Item) where
  -- the places of the items after it
  abbrev rest : List ℕ
  rest = places_from p (two_after two n.kind) (before_after p two b n.kind) (suc k) ns

  -- whether it is a place
  abbrev here : Bool
  here = is_place (is_glue_next p two ns) b n.kind

  -- the items after it stand with these breaks
  abbrev Stand : Behind → List ℕ → Type 0
  Stand after es = IsTrue (is_part es rest) → do_items_stand (behind_after after n.kind) (broken (suc k) ns es) ≡ true

  least-by : (d : ℕ) (ds : List ℕ) (u t : Bool) → (d == k) ≡ t → (IsTrue (is_part (d ∷ ds) rest) → suc k ≤ d) → IsTrue (is_part (d ∷ ds) (if_place k u ++ rest)) → k ≤ d
  least-by d ds true true f later x = grind (arith, f)
  least-by d ds true false f later x = let i = later (subst (λ t. IsTrue (if t then is_part ds rest else is_part (d ∷ ds) rest)) f x) in omega (arith, i)
  least-by d ds false t f later x = let i = later x in omega (arith, i)

  -- the item and those after it stand behind a break
  broken-stand : (after : Behind) (es : List ℕ) → here ≡ true → do_items_stand (behind_after after n.kind) (broken (suc k) ns es) ≡ true → do_items_stand after (break_before n ∷ n ∷ broken (suc k) ns es) ≡ true
  broken-stand after es e h =
      and_from (may_come behind_other n.kind) (do_items_stand (behind_after behind_other n.kind) (broken (suc k) ns es)) (comes-behind (is_glue_next p two ns) b n.kind e)
      (subst (λ a. do_items_stand a (broken (suc k) ns es) ≡ true) (sym (same-behind (is_glue_next p two ns) b after n.kind e)) h)

  stand-by : (after : Behind) (d : ℕ) (ds : List ℕ) (u t : Bool) → here ≡ u → (d == k) ≡ t → may_come after n.kind ≡ true → Stand after ds → Stand after (d ∷ ds)
      → (IsTrue (is_part (d ∷ ds) rest) → suc k ≤ d) → IsTrue (is_part (d ∷ ds) (if_place k u ++ rest))
      → do_items_stand after (if t then break_before n ∷ n ∷ broken (suc k) ns ds else n ∷ broken (suc k) ns (d ∷ ds)) ≡ true
  stand-by after d ds true true e f may with_it without later x = broken-stand after ds e (with_it (subst (λ t. IsTrue (if t then is_part ds rest else is_part (d ∷ ds) rest)) f x))
  stand-by after d ds true false e f may with_it without later x =
      and_from (may_come after n.kind) (do_items_stand (behind_after after n.kind) (broken (suc k) ns (d ∷ ds))) may
      (without (subst (λ t. IsTrue (if t then is_part ds rest else is_part (d ∷ ds) rest)) f x))
  stand-by after d ds false true e f may with_it without later x = let i = later x in absurd (grind (arith, f, i))
  stand-by after d ds false false e f may with_it without later x = and_from (may_come after n.kind) (do_items_stand (behind_after after n.kind) (broken (suc k) ns (d ∷ ds))) may (without x)

-- ---- all items

module _ (p : Params) where
  -- the places from an item on are at least its number
  least : (two : Bool) (b : Before) (k : ℕ) (ns : List Item) (d : ℕ) (ds : List ℕ) → IsTrue (is_part (d ∷ ds) (places_from p two b k ns)) → k ≤ d
  least two b k [] d ds h = let no : ⊥ = grind (arith, h) in absurd no
  least two b k (n ∷ ns) d ds h =
      least-by p two b k n ns d ds (is_place (is_glue_next p two ns) b n.kind) (d == k) refl (λ x. least (two_after two n.kind) (before_after p two b n.kind) (suc k) ns d ds x) h

  still-stand : (after : Behind) (two : Bool) (b : Before) (k : ℕ) (ns : List Item) (ds : List ℕ) → do_items_stand after ns ≡ true → IsTrue (is_part ds (places_from p two b k ns)) → do_items_stand after (broken k ns ds) ≡ true
  still-stand after two b k [] ds s h = refl
  still-stand after two b k (n ∷ ns) [] s h = s
  still-stand after two b k (n ∷ ns) (d ∷ ds) s h =
      let later = second_so (may_come after n.kind) (do_items_stand (behind_after after n.kind) ns) s in
      stand-by p two b k n ns after d ds (is_place (is_glue_next p two ns) b n.kind) (d == k) refl refl (first_so (may_come after n.kind) (do_items_stand (behind_after after n.kind) ns) s)
      (λ x. still-stand (behind_after after n.kind) (two_after two n.kind) (before_after p two b n.kind) (suc k) ns ds later x)
      (λ x. still-stand (behind_after after n.kind) (two_after two n.kind) (before_after p two b n.kind) (suc k) ns (d ∷ ds) later x)
      (λ x. least (two_after two n.kind) (before_after p two b n.kind) (suc k) ns d ds x) h

-- with the breaks of a plan the titles of a valid galley, and the parameters set among its items, stand where they may
pub plans-keep-order : (g : Galley) (plan : List ℕ) → IsValid g → IsPlan g plan → IsTrue (do_items_stand behind_nothing (with_breaks g plan).items)
unfolding places_of
plans-keep-order g plan v h = still-stand g.params behind_nothing false befores.Nothing 0 g.items plan v.order h
