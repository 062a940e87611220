-- A table after parts of the search, one after the other.
use Rattle.std.proofs.Common.{◌≡◌, refl, sym, ◌∙◌, subst, ◌⊎◌, inl, inr, ℕ, suc, ◌+◌, ℤ, List, [], ◌∷◌, ◌++◌, map, length, arith}
use Rattle.std.specs.Prelude.{reverse}
use Rattle.std.specs.declared.alloc.Global.{Global}
use Rattle.std.specs.declared.vec.Vec.{Vec}
use Rattle.tb_galley.specs.declared.Galley.{Galley}
use Rattle.tb_output.specs.State.{State}
use Rattle.tb_best.specs.ItemsAhead.{Ahead}
use Rattle.tb_best.specs.ClosedTables.{Row, rows_know, IsAsGood, IsRowOf, IsNoBetter}
use Rattle.tb_search.specs.declared.table.Table.{Table}
use Rattle.tb_search.specs.declared.table.Start.{Start}
use Rattle.tb_search.specs.Starts.{row_of, rows_from, rows_of}
use Rattle.tb_search.specs.Searched.{IsSearched, waits, stands, KnowsMore}
use Rattle.tb_search.specs.Continues.{IsSearchedBy, IsLater, Continues, HasSearched}
use Rattle.tb_search.proofs.OrderLemmas.{no-better-same, no-better-through}
use Rattle.tb_search.proofs.SearchedLemmas.{as-good-itself, as-good-through, searched-worse, searched-later}

pub later-itself : (t : Table) → IsLater t t
later-itself t = record { galley = refl; bound = refl; better = no-better-same t.best.demerits (reverse t.best.breaks.items) }

pub later-through : (t u v : Table) → IsLater t u → IsLater u v → IsLater t v
later-through t u v h k = record {
  galley = k.galley ∙ h.galley;
  bound = k.bound ∙ h.bound;
  better = no-better-through v.best.demerits u.best.demerits t.best.demerits (reverse v.best.breaks.items) (reverse u.best.breaks.items) (reverse t.best.breaks.items) k.better h.better;
}

-- if what waited in a table is searched in a later one, so is what was searched up to it
pub searched-on : (rows : List Row) (t u : Table) → IsLater t u → ((s : State) (cs : List Ahead) (d : ℤ) (breaks : List ℕ) → rows_know rows s cs d breaks → IsSearchedBy u s cs d breaks)
    → (s : State) (cs : List Ahead) (d : ℤ) (breaks : List ℕ) → IsSearched t.galley.now t.bound t.best.demerits (reverse t.best.breaks.items) rows s cs d breaks → IsSearchedBy u s cs d breaks
searched-on rows t u h all s cs d breaks k =
    searched-later u.galley.now u.bound t.best.demerits u.best.demerits (reverse t.best.breaks.items) (reverse u.best.breaks.items) h.better rows (rows_of u) all s cs d breaks
    (subst (λ g. IsSearched g.now u.bound t.best.demerits (reverse t.best.breaks.items) rows s cs d breaks) (sym h.galley)
    (subst (λ b. IsSearched t.galley.now b t.best.demerits (reverse t.best.breaks.items) rows s cs d breaks) (sym h.bound) k))

pub continues-searched : (t u : Table) → Continues t u → HasSearched [] t u
continues-searched t u h = record {
  later = h.later;
  all = λ s cs d breaks k.
      let r = h.more s cs d breaks k in
      stands s r.0 cs d breaks (subst (λ g. IsAsGood g.now s r.0) (sym h.later.galley) r.1) (waits r.0 cs d breaks r.2);
}

pub searched-itself : (t : Table) → HasSearched [] t t
searched-itself t = record { later = later-itself t; all = λ s cs d breaks k. waits s cs d breaks k }

pub continues-itself : (t : Table) → Continues t t
continues-itself t = record { later = later-itself t; levels = refl; more = λ s cs d breaks k. (s, as-good-itself t.galley.now s, k) }

pub continues-through : (t u v : Table) → Continues t u → Continues u v → Continues t v
continues-through t u v h k = record {
  later = later-through t u v h.later k.later;
  levels = k.levels ∙ h.levels;
  more = λ s cs d breaks x.
      let a = h.more s cs d breaks x in
      let b = k.more a.0 cs d breaks a.2 in
      (b.0, as-good-through t.galley.now s a.0 b.0 a.1 (subst (λ g. IsAsGood g.now a.0 b.0) h.later.galley b.1), b.2);
}

-- what was searched stays searched
pub still-searched : (t u : Table) → HasSearched [] t u → (s : State) (cs : List Ahead) (d : ℤ) (breaks : List ℕ) → IsSearchedBy t s cs d breaks → IsSearchedBy u s cs d breaks
still-searched t u h = searched-on (rows_of t) t u h.later h.all

pub searched-through : (rows : List Row) (t u v : Table) → HasSearched rows t u → HasSearched [] u v → HasSearched rows t v
searched-through rows t u v h k = record { later = later-through t u v h.later k.later; all = λ s cs d breaks x. still-searched u v k s cs d breaks (h.all s cs d breaks x) }

-- ---- what rows know

pub know-both : (xs ys : List Row) (s : State) (cs : List Ahead) (d : ℤ) (breaks : List ℕ) → rows_know (xs ++ ys) s cs d breaks → rows_know xs s cs d breaks ⊎ rows_know ys s cs d breaks
know-both [] ys s cs d breaks h = inr h
know-both (x ∷ xs) ys s cs d breaks (inl h) = inl (inl h)
know-both (x ∷ xs) ys s cs d breaks (inr h) = by (know-both xs ys s cs d breaks h)
  where
    by : rows_know xs s cs d breaks ⊎ rows_know ys s cs d breaks → rows_know (x ∷ xs) s cs d breaks ⊎ rows_know ys s cs d breaks
    by (inl k) = inl (inr k)
    by (inr k) = inr k

pub know-first : (xs ys : List Row) → KnowsMore xs (xs ++ ys)
know-first [] ys s cs d breaks h = absurd h
know-first (x ∷ xs) ys s cs d breaks (inl h) = inl h
know-first (x ∷ xs) ys s cs d breaks (inr h) = inr (know-first xs ys s cs d breaks h)

pub know-second : (xs ys : List Row) → KnowsMore ys (xs ++ ys)
know-second [] ys s cs d breaks h = h
know-second (x ∷ xs) ys s cs d breaks h = inr (know-second xs ys s cs d breaks h)

-- a way to a row that is searched is searched
pub row-searched : (t : Table) (r : Row) → IsSearchedBy t r.state r.ahead r.demerits r.breaks → (s : State) (cs : List Ahead) (d : ℤ) (breaks : List ℕ) → IsRowOf r s cs d breaks → IsSearchedBy t s cs d breaks
row-searched t r h s cs d breaks k =
    subst (λ u. IsSearchedBy t u cs d breaks) k.0
    (subst (λ xs. IsSearchedBy t r.state xs d breaks) k.1
    (searched-worse t.galley.now t.bound t.best.demerits (reverse t.best.breaks.items) (rows_of t) r.state r.ahead r.demerits r.breaks h d breaks k.2))

-- one more row was searched
pub one-searched : (t u : Table) (r : Row) → HasSearched [] t u → IsSearchedBy u r.state r.ahead r.demerits r.breaks → HasSearched (r ∷ []) t u
one-searched t u r h k = record { later = h.later; all = by }
  where
    by : (s : State) (cs : List Ahead) (d : ℤ) (breaks : List ℕ) → rows_know (r ∷ rows_of t) s cs d breaks → IsSearchedBy u s cs d breaks
    by s cs d breaks (inl x) = row-searched u r k s cs d breaks x
    by s cs d breaks (inr x) = h.all s cs d breaks x

-- ---- the states of one level, from the last

module _ (g : Galley) (left : ℕ) where
  abbrev Rows : List Start → List Row
  Rows xs = map (row_of g left) xs

  -- all that was known is searched, up to these rows and those that wait
  pub record IsSearchedTo (rows : List Row) (rest : List Start) (t u : Table) : Type 0 where
    pub later : IsLater t u
    pub all : (s : State) (cs : List Ahead) (d : ℤ) (breaks : List ℕ) → rows_know (rows ++ rows_of t) s cs d breaks → IsSearched u.galley.now u.bound u.best.demerits (reverse u.best.breaks.items) (Rows rest ++ rows_of u) s cs d breaks

  pub none-yet : (xs : List Start) (t : Table) → IsSearchedTo (Rows xs) xs t t
  none-yet xs t = record { later = later-itself t; all = λ s cs d breaks h. waits s cs d breaks h }

  pub all-searched : (rows : List Row) (t u : Table) → IsSearchedTo rows [] t u → HasSearched rows t u
  all-searched rows t u h = record { later = h.later; all = h.all }

  rows-pop : (xs : List Start) (x : Start) (more : List Row) (s : State) (cs : List Ahead) (d : ℤ) (breaks : List ℕ) → rows_know (Rows (xs ++ x ∷ []) ++ more) s cs d breaks → rows_know (Rows xs) s cs d breaks ⊎ rows_know (row_of g left x ∷ more) s cs d breaks
  rows-pop [] x more s cs d breaks h = inr h
  rows-pop (y ∷ ys) x more s cs d breaks (inl h) = inl (inl h)
  rows-pop (y ∷ ys) x more s cs d breaks (inr h) = by (rows-pop ys x more s cs d breaks h)
    where
      by : rows_know (Rows ys) s cs d breaks ⊎ rows_know (row_of g left x ∷ more) s cs d breaks → rows_know (Rows (y ∷ ys)) s cs d breaks ⊎ rows_know (row_of g left x ∷ more) s cs d breaks
      by (inl k) = inl (inr k)
      by (inr k) = inr k

  -- one more of them was searched
  pub last-searched : (rows : List Row) (xs : List Start) (x : Start) (t u v : Table) → IsSearchedTo rows (xs ++ x ∷ []) t u → HasSearched (row_of g left x ∷ []) u v → IsSearchedTo rows xs t v
  last-searched rows xs x t u v h k = record {
    later = later-through t u v h.later k.later;
    all = λ s cs d breaks y.
        searched-later v.galley.now v.bound u.best.demerits v.best.demerits (reverse u.best.breaks.items) (reverse v.best.breaks.items) k.later.better (Rows (xs ++ x ∷ []) ++ rows_of u) (Rows xs ++ rows_of v) by s cs d breaks
        (subst (λ a. IsSearched a.now v.bound u.best.demerits (reverse u.best.breaks.items) (Rows (xs ++ x ∷ []) ++ rows_of u) s cs d breaks) (sym k.later.galley)
        (subst (λ b. IsSearched u.galley.now b u.best.demerits (reverse u.best.breaks.items) (Rows (xs ++ x ∷ []) ++ rows_of u) s cs d breaks) (sym k.later.bound) (h.all s cs d breaks y)));
  }
    where
      more-waits : (s : State) (cs : List Ahead) (d : ℤ) (breaks : List ℕ) → IsSearchedBy v s cs d breaks → IsSearched v.galley.now v.bound v.best.demerits (reverse v.best.breaks.items) (Rows xs ++ rows_of v) s cs d breaks
      more-waits =
          searched-later v.galley.now v.bound v.best.demerits v.best.demerits (reverse v.best.breaks.items) (reverse v.best.breaks.items) (no-better-same v.best.demerits (reverse v.best.breaks.items)) (rows_of v) (Rows xs ++ rows_of v)
          (λ s cs d breaks y. waits s cs d breaks (know-second (Rows xs) (rows_of v) s cs d breaks y))

      by-case : (s : State) (cs : List Ahead) (d : ℤ) (breaks : List ℕ) → rows_know (Rows xs) s cs d breaks ⊎ rows_know (row_of g left x ∷ rows_of u) s cs d breaks
          → IsSearched v.galley.now v.bound v.best.demerits (reverse v.best.breaks.items) (Rows xs ++ rows_of v) s cs d breaks
      by-case s cs d breaks (inl y) = waits s cs d breaks (know-first (Rows xs) (rows_of v) s cs d breaks y)
      by-case s cs d breaks (inr y) = more-waits s cs d breaks (k.all s cs d breaks y)

      by : (s : State) (cs : List Ahead) (d : ℤ) (breaks : List ℕ) → rows_know (Rows (xs ++ x ∷ []) ++ rows_of u) s cs d breaks → IsSearched v.galley.now v.bound v.best.demerits (reverse v.best.breaks.items) (Rows xs ++ rows_of v) s cs d breaks
      by s cs d breaks y = by-case s cs d breaks (rows-pop xs x (rows_of u) s cs d breaks y)

-- ---- the last of the levels

rows-last : (g : Galley) (k : ℕ) (vs : List (Vec Start Global)) (v : Vec Start Global) (s : State) (cs : List Ahead) (d : ℤ) (breaks : List ℕ) → rows_know (rows_from g k (vs ++ v ∷ [])) s cs d breaks
    → rows_know (map (row_of g (k + length vs)) v.items) s cs d breaks ⊎ rows_know (rows_from g k vs) s cs d breaks
rows-last g k [] v s cs d breaks h =
    by (know-both (map (row_of g k) v.items) [] s cs d breaks h)
  where
    by : rows_know (map (row_of g k) v.items) s cs d breaks ⊎ rows_know [] s cs d breaks → rows_know (map (row_of g (k + 0)) v.items) s cs d breaks ⊎ ⊥
    by (inl y) = inl (subst (λ n. rows_know (map (row_of g n) v.items) s cs d breaks) (omega arith) y)
    by (inr y) = inr y
rows-last g k (w ∷ vs) v s cs d breaks h = by (know-both (map (row_of g k) w.items) (rows_from g (suc k) (vs ++ v ∷ [])) s cs d breaks h) (rows-last g (suc k) vs v s cs d breaks)
  where
    by-rest : rows_know (map (row_of g (suc k + length vs)) v.items) s cs d breaks ⊎ rows_know (rows_from g (suc k) vs) s cs d breaks
        → rows_know (map (row_of g (k + suc (length vs))) v.items) s cs d breaks ⊎ rows_know (map (row_of g k) w.items ++ rows_from g (suc k) vs) s cs d breaks
    by-rest (inl y) = inl (subst (λ n. rows_know (map (row_of g n) v.items) s cs d breaks) (omega arith) y)
    by-rest (inr y) = inr (know-second (map (row_of g k) w.items) (rows_from g (suc k) vs) s cs d breaks y)

    by : rows_know (map (row_of g k) w.items) s cs d breaks ⊎ rows_know (rows_from g (suc k) (vs ++ v ∷ [])) s cs d breaks
        → (rows_know (rows_from g (suc k) (vs ++ v ∷ [])) s cs d breaks → rows_know (map (row_of g (suc k + length vs)) v.items) s cs d breaks ⊎ rows_know (rows_from g (suc k) vs) s cs d breaks)
        → rows_know (map (row_of g (k + suc (length vs))) v.items) s cs d breaks ⊎ rows_know (map (row_of g k) w.items ++ rows_from g (suc k) vs) s cs d breaks
    by (inl y) rest = inr (know-first (map (row_of g k) w.items) (rows_from g (suc k) vs) s cs d breaks y)
    by (inr y) rest = by-rest (rest y)

-- the states of the last level are those of the table that are not among the others
pub level-searched : (t before after : Table) (v : Vec Start Global) → before.galley ≡ t.galley → before.bound ≡ t.bound → before.best ≡ t.best → t.starts.items ≡ before.starts.items ++ v ∷ []
    → HasSearched (map (row_of before.galley.now (length before.starts.items)) v.items) before after → HasSearched [] t after
level-searched t before after v galley bound best starts h = record {
  later = record { galley = h.later.galley ∙ galley; bound = h.later.bound ∙ bound; better = subst (λ w. IsNoBetter after.best.demerits (reverse after.best.breaks.items) w.demerits (reverse w.breaks.items)) best h.later.better };
  all = λ s cs d breaks y.
      h.all s cs d breaks
      (by s cs d breaks (rows-last before.galley.now 0 before.starts.items v s cs d breaks (subst (λ xs. rows_know (rows_from before.galley.now 0 xs) s cs d breaks) starts (subst (λ a. rows_know (rows_from a.now 0 t.starts.items) s cs d breaks) (sym galley) y))));
}
  where
    by : (s : State) (cs : List Ahead) (d : ℤ) (breaks : List ℕ) → rows_know (map (row_of before.galley.now (0 + length before.starts.items)) v.items) s cs d breaks ⊎ rows_know (rows_of before) s cs d breaks
        → rows_know (map (row_of before.galley.now (length before.starts.items)) v.items ++ rows_of before) s cs d breaks
    by s cs d breaks (inl y) =
        know-first (map (row_of before.galley.now (length before.starts.items)) v.items) (rows_of before) s cs d breaks (subst (λ n. rows_know (map (row_of before.galley.now n) v.items) s cs d breaks) (omega arith) y)
    by s cs d breaks (inr y) = know-second (map (row_of before.galley.now (length before.starts.items)) v.items) (rows_of before) s cs d breaks y
