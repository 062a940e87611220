-- The last level of states is taken out of a table, and the last state of a level.
use Rattle.std.proofs.Common.{◌≡◌, refl, sym, ap, subst, ℕ, suc, ◌+◌, ℤ, List, [], ◌∷◌, ◌++◌, length, arith}
use Rattle.std.proofs.lemmas.List.{length-append}
use Rattle.std.specs.List.{AllByRecursion}
use Rattle.std.specs.declared.alloc.Global.{Global}
use Rattle.std.specs.declared.vec.Vec.{Vec}
use Rattle.tb_galley.specs.declared.Galley.{Galley}
use Rattle.tb_search.specs.declared.table.Start.{Start}
use Rattle.tb_search.specs.declared.table.Table.{Table}
use Rattle.tb_search.specs.Starts.{rows_from, rows_of, IsStart, AreStarts, IsTable}
use Rattle.tb_search.specs.Continues.{IsLater}

-- all but the last
pub front-all : {X : Type 0} (P : X → Type 0) (xs : List X) (x : X) → AllByRecursion P (xs ++ x ∷ []) → AllByRecursion P xs
front-all P [] x h = tt
front-all P (y ∷ ys) x h = (h.0, front-all P ys x h.1)

-- and the last
pub last-all : {X : Type 0} (P : X → Type 0) (xs : List X) (x : X) → AllByRecursion P (xs ++ x ∷ []) → P x
last-all P [] x h = h.0
last-all P (y ∷ ys) x h = last-all P ys x h.1

front-starts : (g : Galley) (bound : ℤ) (k : ℕ) (vs : List (Vec Start Global)) (v : Vec Start Global) → AreStarts g bound k (vs ++ v ∷ []) → AreStarts g bound k vs
front-starts g bound k [] v h = tt
front-starts g bound k (w ∷ vs) v h = (h.0, front-starts g bound (suc k) vs v h.1)

last-starts : (g : Galley) (bound : ℤ) (k : ℕ) (vs : List (Vec Start Global)) (v : Vec Start Global) → AreStarts g bound k (vs ++ v ∷ []) → AllByRecursion (IsStart g bound (k + length vs)) v.items
last-starts g bound k [] v h = subst (λ n. AllByRecursion (IsStart g bound n) v.items) (omega arith) h.0
last-starts g bound k (w ∷ vs) v h = subst (λ n. AllByRecursion (IsStart g bound n) v.items) (omega arith) (last-starts g bound (suc k) vs v h.1)

module _ (t : Table) (w : Vec (Vec Start Global) Global) (v : Vec Start Global) (h : IsTable t) (is : t.starts.items ≡ w.items ++ v ∷ []) where
  one-less : length t.starts.items ≡ suc (length w.items)
  one-less = let a = ap length is in let b = length-append w.items (v ∷ []) in omega (arith, a, b)

  -- a table without its last level
  pub without-last : IsTable (record t { starts = w })
  without-last = record {
    fit = h.fit;
    alternate = h.alternate;
    range = h.range;
    penalties = h.penalties;
    places = h.places;
    few = h.few;
    levels = let a = one-less in let b = h.levels in omega (arith, a, b);
    starts = front-starts t.galley.now t.bound 0 w.items v (subst (AreStarts t.galley.now t.bound 0) is h.starts);
    best = h.best;
    bounded = h.bounded;
  }

  -- the states of the last level
  pub last-level : AllByRecursion (IsStart t.galley.now t.bound (length w.items)) v.items
  last-level = subst (λ n. AllByRecursion (IsStart t.galley.now t.bound n) v.items) (omega arith) (last-starts t.galley.now t.bound 0 w.items v (subst (AreStarts t.galley.now t.bound 0) is h.starts))

-- without levels no state waits
pub none-waits : (t : Table) → length t.starts.items ≡ 0 → rows_of t ≡ []
none-waits t h = by t.starts.items h
  where
    by : (vs : List (Vec Start Global)) → length vs ≡ 0 → rows_from t.galley.now 0 vs ≡ []
    by [] e = refl
    by (v ∷ vs) e = let no : ⊥ = omega (arith, e) in absurd no

-- states of a table are states of a later one
pub starts-later : (t u : Table) (left : ℕ) (xs : List Start) → IsLater t u → AllByRecursion (IsStart t.galley.now t.bound left) xs → AllByRecursion (IsStart u.galley.now u.bound left) xs
starts-later t u left xs later h = subst (λ a. AllByRecursion (IsStart a.now u.bound left) xs) (sym later.galley) (subst (λ b. AllByRecursion (IsStart t.galley.now b left) xs) (sym later.bound) h)
