-- The walk finds the places: what it found and what it has still to find are all of them.
use Rattle.std.proofs.Common.{◌≡◌, refl, sym, ◌∙◌, ap, ℕ, suc, ◌<◌, ◌≤◌, Bool, true, false, ◌&&◌, List, [], ◌∷◌, ◌++◌, append_assoc, append-nil, length, get_or, drop, if◌then◌else◌, Option, Some, None, arith}
use Rattle.std.proofs.Math.Seq.{drop-cons}
use Rattle.std.specs.Prelude.{IsTrue, nat_le}
use Rattle.std.proofs.lemmas.List.{drop_all}
use Rattle.std.proofs.lemmas.Bool.Decides.{nat_tests}
use Rattle.tb_param.specs.declared.Params.{Params}
use Rattle.tb_galley.specs.declared.Item.{Item}
use Rattle.tb_galley.specs.declared.ItemKind.{ItemKind}
use Rattle.tb_galley.specs.declared.ItemKind.TheVariants as items
use Rattle.tb_galley.specs.GalleyNodes.{two_after}
use Rattle.tb_galley.specs.declared.Galley.{Galley}
use Rattle.tb_galley.specs.Valid.{IsValid, weight, weight_of}
use Rattle.tb_plans.specs.declared.walk.Before.{Before}
use Rattle.tb_plans.specs.declared.walk.Before.TheVariants as befores
use Rattle.tb_plans.specs.declared.walk.Walk.{Walk}
use Rattle.tb_plans.specs.Places.{is_looked_past, before_by, past, is_later, is_glue, is_glue_next, is_place, if_place, places_from}
use Rattle.tb_plans.specs.Walk.{open_kern, passed, walked, kern_place, places_left}

-- ---- an item that is looked past is no place

no-place : (b : Before) → (is_later b && false) ≡ false
no-place befores.Nothing = refl
no-place _ = refl

module _ (p : Params) (w : Walk) (k : ℕ) (ns : List Item) where
  past-kind : (line : ℕ) (kind : ItemKind) → is_looked_past p w.two kind ≡ true → places_left p w k (record { line = line; kind = kind } ∷ ns) ≡ places_left p (passed w) (suc k) ns
  past-kind line (items.Suppress area) h =
      ap (λ t. kern_place w.kern (is_glue_next p w.two ns) ++ (if_place k t ++ places_from p w.two (past w.before) (suc k) ns)) (no-place w.before)
  past-kind line (items.Page n) h =
      ap (λ t. kern_place w.kern (is_glue_next p w.two ns) ++ (if_place k t ++ places_from p w.two (past w.before) (suc k) ns)) (no-place w.before)
  past-kind line (items.Head f) h =
      ap (λ t. kern_place w.kern (is_glue_next p w.two ns) ++ (if_place k t ++ places_from p w.two (past w.before) (suc k) ns)) (no-place w.before)
  past-kind line (items.Set c) h =
      ap (λ t. kern_place w.kern (is_glue_next p w.two ns) ++ (if_place k t ++ places_from p w.two (past w.before) (suc k) ns)) (no-place w.before)
  past-kind line (items.Float f vert) h =
      ap (λ t. kern_place w.kern (if t then is_glue_next p w.two ns else false) ++ (if_place k (is_later w.before && false) ++ places_from p w.two (if t then past w.before else befores.Call) (suc k) ns)) h
      ∙ ap (λ t. kern_place w.kern (is_glue_next p w.two ns) ++ (if_place k t ++ places_from p w.two (past w.before) (suc k) ns)) (no-place w.before)
  past-kind line kind h = let no : false ≡ true = h in cc

-- ---- another item

-- a place that is found at once, and one that waits for what follows, are the place of the item
place-of : (b : Before) (k : ℕ) (next : Bool) (kind : ItemKind) → if_place k (is_place next b kind) ≡ if_place k (is_place false b kind) ++ kern_place (open_kern b k kind) next
place-of befores.Nothing k next (items.Kern w) = refl
place-of befores.Call k true (items.Kern w) = refl
place-of befores.Call k false (items.Kern w) = refl
place-of befores.Nondiscardable k true (items.Kern w) = refl
place-of befores.Nondiscardable k false (items.Kern w) = refl
place-of befores.Other k true (items.Kern w) = refl
place-of befores.Other k false (items.Kern w) = refl
place-of b k next kind = sym (append-nil (if_place k (is_place false b kind)))

-- a kern leaves the columns as they are
same-next : (p : Params) (two : Bool) (b : Before) (k : ℕ) (ns : List Item) (kind : ItemKind) → kern_place (open_kern b k kind) (is_glue_next p two ns) ≡ kern_place (open_kern b k kind) (is_glue_next p (two_after two kind) ns)
same-next p two b k ns (items.Kern w) = refl
same-next p two b k ns kind = refl

module _ (p : Params) (w : Walk) (k : ℕ) (n : Item) (ns : List Item) (seen : is_looked_past p w.two n.kind ≡ false) where
  own : List ℕ
  own = if_place k (is_place false w.before n.kind)

  rest : List ℕ
  rest = places_from p (two_after w.two n.kind) (before_by n.kind) (suc k) ns

  found-left : places_left p w k (n ∷ ns) ≡ (kern_place w.kern (is_glue n.kind) ++ if_place k (is_place false w.before n.kind)) ++ places_left p (walked w k n.kind) (suc k) ns
  unfolding own rest
  found-left =
      ap (λ t. kern_place w.kern (if t then is_glue_next p w.two ns else is_glue n.kind)
      ++ (if_place k (is_place (is_glue_next p w.two ns) w.before n.kind) ++ places_from p (two_after w.two n.kind) (if t then past w.before else before_by n.kind) (suc k) ns)) seen
      ∙ ap (λ l. kern_place w.kern (is_glue n.kind) ++ (l ++ rest)) (place-of w.before k (is_glue_next p w.two ns) n.kind ∙ ap (λ l. own ++ l) (same-next p w.two w.before k ns n.kind))
      ∙ ap (λ l. kern_place w.kern (is_glue n.kind) ++ l) (append_assoc own (kern_place (open_kern w.before k n.kind) (is_glue_next p (two_after w.two n.kind) ns)) rest)
      ∙ sym (append_assoc (kern_place w.kern (is_glue n.kind)) own (kern_place (open_kern w.before k n.kind) (is_glue_next p (two_after w.two n.kind) ns) ++ rest))

-- ---- the walk

pub passes : (p : Params) (ns : List Item) (w : Walk) (k : ℕ) (n : Item) (found places : List ℕ) → k < length ns → n ≡ get_or ns k n → is_looked_past p w.two n.kind ≡ true
    → found ++ places_left p w k (drop k ns) ≡ places → found ++ places_left p (passed w) (suc k) (drop (suc k) ns) ≡ places
passes p ns w k n found places within is t h =
    ap (λ l. found ++ l) (sym (ap (λ l. places_left p w k l) (drop-cons ns k n within ∙ ap (λ m. m ∷ drop (suc k) ns) (sym is)) ∙ past-kind p w k (drop (suc k) ns) n.line n.kind t)) ∙ h

pub visits : (p : Params) (ns : List Item) (w : Walk) (k : ℕ) (n : Item) (found more places : List ℕ) → k < length ns → n ≡ get_or ns k n → is_looked_past p w.two n.kind ≡ false
    → more ≡ found ++ (kern_place w.kern (is_glue n.kind) ++ if_place k (is_place false w.before n.kind))
    → found ++ places_left p w k (drop k ns) ≡ places → more ++ places_left p (walked w k n.kind) (suc k) (drop (suc k) ns) ≡ places
visits p ns w k n found more places within is t m h =
    ap (λ l. l ++ places_left p (walked w k n.kind) (suc k) (drop (suc k) ns)) m
    ∙ append_assoc found (kern_place w.kern (is_glue n.kind) ++ if_place k (is_place false w.before n.kind)) (places_left p (walked w k n.kind) (suc k) (drop (suc k) ns))
    ∙ ap (λ l. found ++ l) (sym (ap (λ l. places_left p w k l) (drop-cons ns k n within ∙ ap (λ m. m ∷ drop (suc k) ns) (sym is)) ∙ found-left p w k n (drop (suc k) ns) t))
    ∙ h

-- a kern that still waits is no place if nothing follows
no-kern : (o : Option ℕ) → kern_place o false ≡ []
no-kern None = refl
no-kern (Some k) = refl

pub all-found : (p : Params) (ns : List Item) (w : Walk) (k : ℕ) (found places : List ℕ) → length ns ≤ k → found ++ places_left p w k (drop k ns) ≡ places → found ≡ places
all-found p ns w k found places end h =
    sym (append-nil found) ∙ ap (λ l. found ++ l) (sym (ap (λ l. places_left p w k l) (drop_all k ns end) ∙ append-nil (kern_place w.kern false) ∙ no-kern w.kern)) ∙ h

-- ---- how many items

items-weigh : (ns : List Item) → length ns ≤ weight ns
items-weigh [] = omega arith
items-weigh (n ∷ ns) = let more : length ns ≤ weight ns = items-weigh ns in let one : 1 ≤ weight_of n.kind = heavy n.kind in omega arith
  where
    heavy : (k : ItemKind) → 1 ≤ weight_of k
    heavy (items.Foot class ls) = omega arith
    heavy k = omega arith

-- a valid galley has at most 100000 items
pub few-items : (g : Galley) → IsValid g → length g.items ≤ 100000
few-items g v = let most : weight g.items ≤ 100000 = below (weight g.items) v.count in let all : length g.items ≤ weight g.items = items-weigh g.items in omega arith
  where
    below : (n : ℕ) → IsTrue (nat_le n 100000) → n ≤ 100000
    below n h = grind (arith, nat_tests, h)
