-- Marks at places are a plan: the numbers of the items that are marked.
use Rattle.std.proofs.Common.{◌≡◌, refl, sym, ◌∙◌, ap, subst, ℕ, suc, ◌≤◌, ◌==◌, Bool, true, false, List, [], ◌∷◌, ◌++◌, arith}
use Rattle.std.specs.Prelude.{IsTrue, if◌then◌else◌}
use Rattle.tb_param.specs.declared.Params.{Params}
use Rattle.tb_galley.specs.declared.Item.{Item}
use Rattle.tb_galley.specs.GalleyNodes.{two_after, params_after}
use Rattle.tb_plans.specs.declared.walk.Before.{Before}
use Rattle.tb_plans.specs.Places.{is_glue_next, is_place, before_after, if_place, places_from}
use Rattle.tb_plans.specs.Plans.{is_part}
use Rattle.tb_best.specs.ItemsAhead.{Ahead, ahead_from}
use Rattle.tb_best.proofs.Paths.{AreMarks}
use Rattle.tb_best.proofs.PlanMarks.{marks_of, not-before}

-- the numbers of the items that are marked
abbrev pub numbers_of : List Ahead → List Bool → List ℕ
numbers_of [] ms = []
numbers_of (c ∷ cs) [] = []
numbers_of (c ∷ cs) (true ∷ ms) = c.number ∷ numbers_of cs ms
numbers_of (c ∷ cs) (false ∷ ms) = numbers_of cs ms

pub same-number : (k : ℕ) → (k == k) ≡ true
same-number k = grind arith

later-number : (k n : ℕ) → suc k ≤ n → (n == k) ≡ false
later-number k n h = grind (arith, h)

-- a plan of the items after one is a plan with it
module _ (k : ℕ) (places : List ℕ) where
  with-number : (xs : List ℕ) → IsTrue (is_part xs places) → IsTrue (is_part (k ∷ xs) (k ∷ places))
  with-number xs h = ap (λ t. if t then is_part xs places else is_part (k ∷ xs) places) (same-number k) ∙ h

  without-number : (xs : List ℕ) (u : Bool) → ((n : ℕ) (ns : List ℕ) → IsTrue (is_part (n ∷ ns) places) → suc k ≤ n) → IsTrue (is_part xs places) → IsTrue (is_part xs (if_place k u ++ places))
  without-number [] u later h = refl
  without-number (n ∷ ns) true later h = ap (λ t. if t then is_part ns places else is_part (n ∷ ns) places) (later-number k n (later n ns h)) ∙ h
  without-number (n ∷ ns) false later h = h

marked-so : (k : ℕ) (i : Item) (is : List Item) (xs : List ℕ) (ms : List Bool) → marks_of (suc k) is xs ≡ ms → marks_of k (i ∷ is) (k ∷ xs) ≡ true ∷ ms
marked-so k i is xs ms h = ap (λ t. if t then true ∷ marks_of (suc k) is xs else false ∷ marks_of (suc k) is (k ∷ xs)) (same-number k) ∙ ap (λ l. true ∷ l) h

unmarked-so : (k : ℕ) (i : Item) (is : List Item) (places xs : List ℕ) (ms : List Bool) → ((n : ℕ) (ns : List ℕ) → IsTrue (is_part (n ∷ ns) places) → suc k ≤ n) → IsTrue (is_part xs places)
    → marks_of (suc k) is xs ≡ ms → marks_of k (i ∷ is) xs ≡ false ∷ ms
unmarked-so k i is places [] ms later p h = ap (λ l. false ∷ l) h
unmarked-so k i is places (n ∷ ns) ms later p h =
    ap (λ t. if t then true ∷ marks_of (suc k) is ns else false ∷ marks_of (suc k) is (n ∷ ns)) (later-number k n (later n ns p)) ∙ ap (λ l. false ∷ l) h

module _ (p : Params) (last : Ahead) (end : last.is_place ≡ false) where
  no-end : last.is_place ≡ true → ⊥
  no-end h = grind (arith, h, end)

  -- the numbers are a plan
  pub numbers-are-plan : (q : Params) (two : Bool) (b : Before) (k : ℕ) (ns : List Item) (ms : List Bool) → AreMarks (ahead_from p q last two b k ns) ms → IsTrue (is_part (numbers_of (ahead_from p q last two b k ns) ms) (places_from p two b k ns))
  numbers-are-plan q two b k [] [] h = absurd h
  numbers-are-plan q two b k [] (true ∷ ms) h = absurd (no-end h.0)
  numbers-are-plan q two b k [] (false ∷ []) h = refl
  numbers-are-plan q two b k [] (false ∷ m ∷ ms) h = absurd h
  numbers-are-plan q two b k (n ∷ ns) [] h = absurd h
  numbers-are-plan q two b k (n ∷ ns) (true ∷ ms) h =
      let rest = places_from p (two_after two n.kind) (before_after p two b n.kind) (suc k) ns in
      let xs = numbers_of (ahead_from p (params_after q n.kind) last (two_after two n.kind) (before_after p two b n.kind) (suc k) ns) ms in
      subst (λ u. IsTrue (is_part (k ∷ xs) (if_place k u ++ rest))) (sym h.0) (with-number k rest xs (numbers-are-plan (params_after q n.kind) (two_after two n.kind) (before_after p two b n.kind) (suc k) ns ms h.1))
  numbers-are-plan q two b k (n ∷ ns) (false ∷ ms) h =
      without-number k (places_from p (two_after two n.kind) (before_after p two b n.kind) (suc k) ns) (numbers_of (ahead_from p (params_after q n.kind) last (two_after two n.kind) (before_after p two b n.kind) (suc k) ns) ms)
      (is_place (is_glue_next p two ns) b n.kind) (not-before p (two_after two n.kind) (before_after p two b n.kind) (suc k) ns)
      (numbers-are-plan (params_after q n.kind) (two_after two n.kind) (before_after p two b n.kind) (suc k) ns ms h)

  -- and its marks are these
  pub numbers-are-marks : (q : Params) (two : Bool) (b : Before) (k : ℕ) (ns : List Item) (ms : List Bool) → AreMarks (ahead_from p q last two b k ns) ms → marks_of k ns (numbers_of (ahead_from p q last two b k ns) ms) ≡ ms
  numbers-are-marks q two b k [] [] h = absurd h
  numbers-are-marks q two b k [] (true ∷ ms) h = absurd (no-end h.0)
  numbers-are-marks q two b k [] (false ∷ []) h = refl
  numbers-are-marks q two b k [] (false ∷ m ∷ ms) h = absurd h
  numbers-are-marks q two b k (n ∷ ns) [] h = absurd h
  numbers-are-marks q two b k (n ∷ ns) (true ∷ ms) h =
      marked-so k n ns (numbers_of (ahead_from p (params_after q n.kind) last (two_after two n.kind) (before_after p two b n.kind) (suc k) ns) ms) ms (numbers-are-marks (params_after q n.kind) (two_after two n.kind) (before_after p two b n.kind) (suc k) ns ms h.1)
  numbers-are-marks q two b k (n ∷ ns) (false ∷ ms) h =
      unmarked-so k n ns (places_from p (two_after two n.kind) (before_after p two b n.kind) (suc k) ns) (numbers_of (ahead_from p (params_after q n.kind) last (two_after two n.kind) (before_after p two b n.kind) (suc k) ns) ms) ms
      (not-before p (two_after two n.kind) (before_after p two b n.kind) (suc k) ns)
      (numbers-are-plan (params_after q n.kind) (two_after two n.kind) (before_after p two b n.kind) (suc k) ns ms h)
      (numbers-are-marks (params_after q n.kind) (two_after two n.kind) (before_after p two b n.kind) (suc k) ns ms h)
