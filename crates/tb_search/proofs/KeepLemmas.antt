-- A state is kept among those that wait.
use Rattle.std.proofs.Common.{◌≡◌, refl, sym, ap, subst, ◌∙◌, inl, inr, ℕ, zero, suc, ◌+◌, ◌<◌, true, false, true≢false, List, [], ◌∷◌, ◌++◌, map, length, get_or, set, Option, Some, None, arith}
use Rattle.std.specs.Prelude.{ℤ, ◌<ℤ◌, pos, reverse, is_some, IfSome}
use Rattle.std.specs.List.{AllByRecursion}
use Rattle.std.specs.declared.alloc.Global.{Global}
use Rattle.std.specs.declared.vec.Vec.{Vec}
use Rattle.std.proofs.lemmas.List.{get_or-set_same, length-set}
use Rattle.tb_galley.specs.declared.Galley.{Galley}
use Rattle.tb_output.specs.State.{State}
use Rattle.tb_items.specs.Classes.{classes_of}
use Rattle.tb_best.specs.ItemsAhead.{Ahead}
use Rattle.tb_best.specs.ClosedTables.{Row, rows_know, IsAsGood}
use Rattle.tb_best.specs.Sides.{may_alternate, sides_of, KeepsSides}
use Rattle.tb_best.specs.Counts.{counts_of, AreNoGreater}
use Rattle.tb_best.proofs.CountedFirings.{counted}
use Rattle.tb_best.proofs.CountedStates.{counts-good}
use Rattle.tb_search.specs.declared.table.Way.{Way}
use Rattle.tb_search.specs.declared.table.Start.{Start}
use Rattle.tb_search.specs.declared.table.Table.{Table}
use Rattle.tb_search.specs.Branches.{shown, IsBranch}
use Rattle.tb_search.specs.AheadInCode.{items_ahead}
use Rattle.tb_search.specs.SameStates.{without_counts}
use Rattle.tb_search.specs.KeptStarts.{HasRowAsGood, IsNeedlessAt, IsNoWorseWay, MayStandFor, StandsAt}
use Rattle.std.proofs.lemmas.Int.{ints}
use Rattle.tb_search.specs.Plain.{IsLowStart}
use Rattle.tb_search.specs.Searched.{KnowsMore, KnowsAsMuch}
use Rattle.tb_search.specs.Continues.{Continues}
use Rattle.tb_search.specs.Starts.{row_of, rows_from, rows_of, IsStart, AreStarts, IsTable}
use Rattle.tb_search.proofs.OrderLemmas.{no-better-same, no-better-through}
use Rattle.tb_search.proofs.SearchedLemmas.{as-good-itself}
use Rattle.tb_search.proofs.LaterLemmas.{know-first, know-second}

-- ---- what holds of each element

pub all-at : {X : Type 0} (P : X → Type 0) (xs : List X) (k : ℕ) (d : X) → AllByRecursion P xs → k < length xs → P (get_or xs k d)
all-at P [] k d all h = absurd (omega (arith, h))
all-at P (x ∷ xs) zero d all h = all.0
all-at P (x ∷ xs) (suc k) d all h = all-at P xs k d all.1 (omega (arith, h))

pub all-set : {X : Type 0} (P : X → Type 0) (xs : List X) (k : ℕ) (y : X) → AllByRecursion P xs → P y → AllByRecursion P (set xs k y)
all-set P [] k y all h = tt
all-set P (x ∷ xs) zero y all h = (h, all.1)
all-set P (x ∷ xs) (suc k) y all h = (all.0, all-set P xs k y all.1 h)

pub all-with : {X : Type 0} (P : X → Type 0) (xs : List X) (y : X) → AllByRecursion P xs → P y → AllByRecursion P (xs ++ y ∷ [])
all-with P [] y all h = (h, tt)
all-with P (x ∷ xs) y all h = (all.0, all-with P xs y all.1 h)

pub all-more : {X : Type 0} (P Q : X → Type 0) (xs : List X) → ((x : X) → P x → Q x) → AllByRecursion P xs → AllByRecursion Q xs
all-more P Q [] f all = tt
all-more P Q (x ∷ xs) f all = (f x all.0, all-more P Q xs f all.1)

-- ---- what the rows of some states know

module _ (g : Galley) (left : ℕ) where
  -- one of the states, reached in a way that is no better, is known
  pub known-at : (xs : List Start) (k : ℕ) (x : Start) (w : Way) → k < length xs → get_or xs k x ≡ x → IsNoWorseWay x.way w → rows_know (map (row_of g left) xs) (shown x.branch) (items_ahead g left) w.demerits (reverse w.breaks.items)
  known-at [] k x w h e b = absurd (omega (arith, h))
  known-at (y ∷ xs) zero x w h e b = inl (ap (λ (z : Start). shown z.branch) e, refl, subst (λ (z : Start). IsNoWorseWay z.way w) (sym e) b)
  known-at (y ∷ xs) (suc k) x w h e b = inr (known-at xs k x w (omega (arith, h)) e b)

  -- the same at these demerits, which are more than those of its way
  pub known-fewer : (xs : List Start) (k : ℕ) (x : Start) (d : ℤ) (breaks : List ℕ) → k < length xs → get_or xs k x ≡ x → x.way.demerits <ℤ d → rows_know (map (row_of g left) xs) (shown x.branch) (items_ahead g left) d breaks
  known-fewer [] k x d breaks h e b = absurd (omega (arith, h))
  known-fewer (y ∷ xs) zero x d breaks h e b = inl (ap (λ (z : Start). shown z.branch) e, refl, inl (subst (λ (z : Start). z.way.demerits <ℤ d) (sym e) b))
  known-fewer (y ∷ xs) (suc k) x d breaks h e b = inr (known-fewer xs k x d breaks (omega (arith, h)) e b)

  -- with another state for one of them, which is as good and was reached in a way that is no worse, they know as much
  pub known-set : (xs : List Start) (k : ℕ) (y d : Start) → IsAsGood g (shown (get_or xs k d).branch) (shown y.branch) → IsNoWorseWay y.way (get_or xs k d).way → KnowsAsMuch g (map (row_of g left) xs) (map (row_of g left) (set xs k y))
  known-set [] k y d good b s cs t breaks h = absurd h
  known-set (x ∷ xs) zero y d good b s cs t breaks (inl h) = (
    shown y.branch,
    subst (λ (u : State). IsAsGood g u (shown y.branch)) h.0 good,
    inl (refl, h.1, no-better-through y.way.demerits x.way.demerits t (reverse y.way.breaks.items) (reverse x.way.breaks.items) breaks b h.2),
  )
  known-set (x ∷ xs) zero y d good b s cs t breaks (inr h) = (s, as-good-itself g s, inr h)
  known-set (x ∷ xs) (suc k) y d good b s cs t breaks (inl h) = (s, as-good-itself g s, inl h)
  known-set (x ∷ xs) (suc k) y d good b s cs t breaks (inr h) = let r = known-set xs k y d good b s cs t breaks h in (r.0, r.1, inr r.2)

  -- with one more they know what they knew
  pub known-with : (xs : List Start) (y : Start) → KnowsMore (map (row_of g left) xs) (map (row_of g left) (xs ++ y ∷ []))
  known-with [] y s cs t breaks h = absurd h
  known-with (x ∷ xs) y s cs t breaks (inl h) = inl h
  known-with (x ∷ xs) y s cs t breaks (inr h) = inr (known-with xs y s cs t breaks h)

  -- and that one
  pub known-last : (xs : List Start) (y : Start) → rows_know (map (row_of g left) (xs ++ y ∷ [])) (shown y.branch) (items_ahead g left) y.way.demerits (reverse y.way.breaks.items)
  known-last [] y = inl (refl, refl, no-better-same y.way.demerits (reverse y.way.breaks.items))
  known-last (x ∷ xs) y = inr (known-last xs y)

-- ---- the same of the states of all levels

pub as-much : (g : Galley) (xs ys : List Row) → KnowsMore xs ys → KnowsAsMuch g xs ys
as-much g xs ys f s cs d breaks h = (s, as-good-itself g s, f s cs d breaks h)

know-pair : (g : Galley) (xs zs ys ws : List Row) → KnowsAsMuch g xs zs → KnowsAsMuch g ys ws → KnowsAsMuch g (xs ++ ys) (zs ++ ws)
know-pair g [] zs ys ws f k s cs d breaks h = let r = k s cs d breaks h in (r.0, r.1, know-second zs ws r.0 cs d breaks r.2)
know-pair g (x ∷ xs) zs ys ws f k s cs d breaks (inl h) = let r = f s cs d breaks (inl h) in (r.0, r.1, know-first zs ws r.0 cs d breaks r.2)
know-pair g (x ∷ xs) zs ys ws f k s cs d breaks (inr h) = know-pair g xs zs ys ws (λ t es e bs i. f t es e bs (inr i)) k s cs d breaks h

module _ (g : Galley) (bound : ℤ) where
  -- the states of a level can be gone on from
  pub starts-at : (base : ℕ) (vs : List (Vec Start Global)) (k at : ℕ) (d : Vec Start Global) → at ≡ base + k → k < length vs → AreStarts g bound base vs → AllByRecursion (IsStart g bound at) (get_or vs k d).items
  starts-at base [] k at d e h all = absurd (omega (arith, h))
  starts-at base (v ∷ vs) zero at d e h all = let same : base ≡ at = omega (arith, e) in subst (λ n. AllByRecursion (IsStart g bound n) v.items) same all.0
  starts-at base (v ∷ vs) (suc k) at d e h all = starts-at (suc base) vs k at d (omega (arith, e)) (omega (arith, h)) all.1

  pub starts-set : (base : ℕ) (vs : List (Vec Start Global)) (k at : ℕ) (w : Vec Start Global) → at ≡ base + k → AreStarts g bound base vs → AllByRecursion (IsStart g bound at) w.items → AreStarts g bound base (set vs k w)
  starts-set base [] k at w e all h = tt
  starts-set base (v ∷ vs) zero at w e all h = let same : at ≡ base = omega (arith, e) in (subst (λ n. AllByRecursion (IsStart g bound n) w.items) same h, all.1)
  starts-set base (v ∷ vs) (suc k) at w e all h = (all.0, starts-set (suc base) vs k at w (omega (arith, e)) all.1 h)

  -- what a level knows all levels know
  pub level-known : (base : ℕ) (vs : List (Vec Start Global)) (k at : ℕ) (d : Vec Start Global) → at ≡ base + k → k < length vs → KnowsMore (map (row_of g at) (get_or vs k d).items) (rows_from g base vs)
  level-known base [] k at d e h s cs t breaks i = absurd (omega (arith, h))
  level-known base (v ∷ vs) zero at d e h s cs t breaks i =
      let same : at ≡ base = omega (arith, e) in
      know-first (map (row_of g base) v.items) (rows_from g (suc base) vs) s cs t breaks (subst (λ n. rows_know (map (row_of g n) v.items) s cs t breaks) same i)
  level-known base (v ∷ vs) (suc k) at d e h s cs t breaks i =
      know-second (map (row_of g base) v.items) (rows_from g (suc base) vs) s cs t breaks (level-known (suc base) vs k at d (omega (arith, e)) (omega (arith, h)) s cs t breaks i)

  -- with another level that knows as much as it did, all levels do
  pub levels-know : (base : ℕ) (vs : List (Vec Start Global)) (k at : ℕ) (w d : Vec Start Global) → at ≡ base + k → KnowsAsMuch g (map (row_of g at) (get_or vs k d).items) (map (row_of g at) w.items) → KnowsAsMuch g (rows_from g base vs) (rows_from g base (set vs k w))
  levels-know base [] k at w d e more = as-much g [] [] (λ x xs f bs h. h)
  levels-know base (v ∷ vs) zero at w d e more =
      let same : at ≡ base = omega (arith, e) in
      know-pair g (map (row_of g base) v.items) (map (row_of g base) w.items) (rows_from g (suc base) vs) (rows_from g (suc base) vs)
      (subst (λ n. KnowsAsMuch g (map (row_of g n) v.items) (map (row_of g n) w.items)) same more)
      (as-much g (rows_from g (suc base) vs) (rows_from g (suc base) vs) (λ x xs f bs h. h))
  levels-know base (v ∷ vs) (suc k) at w d e more =
      know-pair g (map (row_of g base) v.items) (map (row_of g base) v.items) (rows_from g (suc base) vs) (rows_from g (suc base) (set vs k w))
      (as-much g (map (row_of g base) v.items) (map (row_of g base) v.items) (λ x xs f bs h. h)) (levels-know (suc base) vs k at w d (omega (arith, e)) more)

-- a level that is set is known
pub set-known : (g : Galley) (vs : List (Vec Start Global)) (k : ℕ) (w : Vec Start Global) → k < length vs → KnowsMore (map (row_of g k) w.items) (rows_from g 0 (set vs k w))
set-known g vs k w h =
    subst (λ (v : Vec Start Global). KnowsMore (map (row_of g k) v.items) (rows_from g 0 (set vs k w))) (get_or-set_same vs k w w h)
    (level-known g (pos 0) 0 (set vs k w) k k w (omega arith) (let l = length-set vs k w in omega (arith, l, h)))

-- ---- a state that may stand for another

-- a state that is the same but for the left column and for counts that are no greater is as good
pub counts-as-good : (g : Galley) (s t : State) → without_counts t ≡ without_counts s → KeepsSides (sides_of g) s → AreNoGreater (may_alternate g) (counts_of t) (counts_of s) → IsAsGood g s t
counts-as-good g s t e keep h = subst (λ (u : State). IsAsGood g s u) (ap (λ (u : State). counted u.params.maxnodes t.left_column (counts_of t) u) (sym e)) (counts-good g s t.left_column (counts_of t) keep h)

pub stands-as-good : (g : Galley) (x y : Start) → KeepsSides (sides_of g) (shown y.branch) → MayStandFor (may_alternate g) x y → IsAsGood g (shown y.branch) (shown x.branch)
stands-as-good g x y keep h = counts-as-good g (shown y.branch) (shown x.branch) h.same keep h.counts

-- ---- a table of which one level is set

-- what stands at a place is one, whatever stands past the end
pub same-item : {X : Type 0} (xs : List X) (k : ℕ) (x y : X) → k < length xs → x ≡ get_or xs k x → y ≡ get_or xs k y → x ≡ y
same-item [] k x y h a b = absurd (omega (arith, h))
same-item (z ∷ xs) zero x y h a b = a ∙ sym b
same-item (z ∷ xs) (suc k) x y h a b = same-item xs k x y (omega (arith, h)) a b

-- no rows are known
pub none-known : (rows : List Row) (s : State) (cs : List Ahead) (d : ℤ) (breaks : List ℕ) → rows ≡ [] → rows_know rows s cs d breaks → ⊥
none-known rows s cs d breaks e h = subst (λ rs. rows_know rs s cs d breaks) e h

-- what stands at a place stands there whatever stands past the end
any-default : {X : Type 0} (xs : List X) (k : ℕ) (d e : X) → k < length xs → get_or xs k d ≡ get_or xs k e
any-default [] k d e h = absurd (omega (arith, h))
any-default (x ∷ xs) zero d e h = refl
any-default (x ∷ xs) (suc k) d e h = any-default xs k d e (omega (arith, h))

-- what stands at a place is what stands there whatever stands past the end
pub get-same : {X : Type 0} (xs : List X) (k : ℕ) (d : X) → k < length xs → get_or xs k d ≡ get_or xs k (get_or xs k d)
get-same xs k d h = any-default xs k d (get_or xs k d) h

module _ (t : Table) (left : ℕ) (inside : left < length t.starts.items) (table : IsTable t) where
  -- the states of this level can be gone on from
  pub level-starts : (v : Vec Start Global) → v ≡ get_or t.starts.items left v → AllByRecursion (IsStart t.galley.now t.bound left) v.items
  level-starts v is = subst (λ (x : Vec Start Global). AllByRecursion (IsStart t.galley.now t.bound left) x.items) (sym is) (starts-at t.galley.now t.bound 0 t.starts.items left left v (omega arith) inside table.starts)

  -- its rows are the table's
  pub level-rows : (v : Vec Start Global) → v ≡ get_or t.starts.items left v → KnowsMore (map (row_of t.galley.now left) v.items) (rows_of t)
  level-rows v is = subst (λ (x : Vec Start Global). KnowsMore (map (row_of t.galley.now left) x.items) (rows_of t)) (sym is) (level-known t.galley.now t.bound 0 t.starts.items left left v (omega arith) inside)

  module _ (v : Vec Start Global) (is : v ≡ get_or t.starts.items left v) (k : ℕ) (y : Start) (here : k < length v.items) where
    abbrev x : Start
    x = get_or v.items k y

    -- what this state of the level knows of itself and of worse ways the table knows
    item-known : (w : Way) → IsNoWorseWay x.way w → rows_know (rows_of t) (shown x.branch) (items_ahead t.galley.now left) w.demerits (reverse w.breaks.items)
    item-known w better =
        level-rows v is (shown x.branch) (items_ahead t.galley.now left) w.demerits (reverse w.breaks.items) (known-at t.galley.now left v.items k x w here (any-default v.items k x y here) better)

    -- so the table has rows
    pub some-rows : rows_of t ≡ [] → ⊥
    some-rows none =
        none-known (rows_of t) (shown x.branch) (items_ahead t.galley.now left) x.way.demerits (reverse x.way.breaks.items) none (item-known x.way (no-better-same x.way.demerits (reverse x.way.breaks.items)))

    -- if this state may stand for another, the table knows one that is as good as that
    pub stands-known : KeepsSides (sides_of t.galley.now) (shown y.branch) → MayStandFor t.may_alternate x y → HasRowAsGood t left (shown y.branch) y.way
    stands-known keep h = (
      shown x.branch,
      stands-as-good t.galley.now x y keep (subst (λ may. MayStandFor may x y) table.alternate h),
      item-known y.way h.way,
    )

  module _ (w : Vec Start Global) (vs : Vec (Vec Start Global) Global) (n : ℕ) (are : vs.items ≡ set t.starts.items left w) where
    abbrev after : Table
    after = record t { starts = vs; count = n }

    pub set-table : AllByRecursion (IsStart t.galley.now t.bound left) w.items → IsTable after
    set-table all = record {
      fit = table.fit;
      alternate = table.alternate;
      range = table.range;
      penalties = table.penalties;
      places = table.places;
      few = table.few;
      levels = let l = ap length are in let m = length-set t.starts.items left w in let o = table.levels in omega (arith, l, m, o);
      starts = subst (AreStarts t.galley.now t.bound 0) (sym are) (starts-set t.galley.now t.bound 0 t.starts.items left left w (omega arith) table.starts all);
      best = table.best;
      bounded = table.bounded;
    }

    pub set-continues : (v : Vec Start Global) → v ≡ get_or t.starts.items left v → KnowsAsMuch t.galley.now (map (row_of t.galley.now left) v.items) (map (row_of t.galley.now left) w.items) → Continues t after
    set-continues v is more = record {
      later = record { galley = refl; bound = refl; better = no-better-same t.best.demerits (reverse t.best.breaks.items) };
      levels = ap length are ∙ length-set t.starts.items left w;
      more = subst (λ xs. KnowsAsMuch t.galley.now (rows_of t) (rows_from t.galley.now 0 xs)) (sym are)
          (levels-know t.galley.now t.bound 0 t.starts.items left left w v (omega arith) (subst (λ (x : Vec Start Global). KnowsAsMuch t.galley.now (map (row_of t.galley.now left) x.items) (map (row_of t.galley.now left) w.items)) is more));
    }

    pub set-rows : KnowsMore (map (row_of t.galley.now left) w.items) (rows_of after)
    set-rows = subst (λ xs. KnowsMore (map (row_of t.galley.now left) w.items) (rows_from t.galley.now 0 xs)) (sym are) (set-known t.galley.now t.starts.items left w inside)

-- ---- the states of a level, as they are looked through

module _ (t : Table) (left : ℕ) (inside : left < length t.starts.items) (table : IsTable t) (v : Vec Start Global) (is : v ≡ get_or t.starts.items left v) (xs : List Start) (seen : xs ≡ v.items) where
  looked-through : AllByRecursion (IsStart t.galley.now t.bound left) xs
  looked-through = subst (AllByRecursion (IsStart t.galley.now t.bound left)) (sym seen) (level-starts t left inside table v is)

  pub looked-branches : AllByRecursion (λ (x : Start). IsBranch x.branch) xs
  looked-branches = all-more (IsStart t.galley.now t.bound left) (λ x. IsBranch x.branch) xs (λ x h. h.branch) looked-through

  pub looked-classes : (y : Start) → (shown y.branch).classes ≡ classes_of t.galley.now → AllByRecursion (λ (x : Start). (shown x.branch).classes ≡ (shown y.branch).classes) xs
  looked-classes y classes = all-more (IsStart t.galley.now t.bound left) (λ x. (shown x.branch).classes ≡ (shown y.branch).classes) xs (λ x h. h.classes ∙ sym classes) looked-through

  pub looked-low : AllByRecursion IsLowStart xs
  looked-low =
      all-more (IsStart t.galley.now t.bound left) IsLowStart xs
      (λ x h. let high = h.high in let range = table.range in record { branch = h.branch; way = record { low = h.low; high = omega (arith, ints, high, range) } }) looked-through

  here-too : (k : ℕ) → k < length xs → k < length v.items
  here-too k h = subst (λ zs. k < length zs) seen h

  -- one of them may stand for a state: the table knows one that is as good
  found-known : (y : Start) (k : ℕ) → KeepsSides (sides_of t.galley.now) (shown y.branch) → StandsAt t.may_alternate xs k y → HasRowAsGood t left (shown y.branch) y.way
  found-known y k keep h = stands-known t left inside table v is k y (here-too k h.inside) keep (subst (λ zs. MayStandFor t.may_alternate (get_or zs k y) y) seen (h.stands y))

  -- and it has rows
  found-rows : (y : Start) (k : ℕ) → StandsAt t.may_alternate xs k y → rows_of t ≡ [] → ⊥
  found-rows y k h none = some-rows t left inside table v is k y (here-too k h.inside) none

  -- the same of what was found, if anything was
  pub found-some : (y : Start) (o : Option ℕ) → KeepsSides (sides_of t.galley.now) (shown y.branch) → IfSome o (λ k. StandsAt t.may_alternate xs k y) → is_some o ≡ true → HasRowAsGood t left (shown y.branch) y.way
  found-some y (Some k) keep h some = found-known y k keep h
  found-some y None keep h some = absurd (true≢false (sym some))

  -- without rows nothing is found
  pub found-none : (y : Start) (o : Option ℕ) → IfSome o (λ k. StandsAt t.may_alternate xs k y) → rows_of t ≡ [] → is_some o ≡ false
  found-none y (Some k) h none = absurd (found-rows y k h none)
  found-none y None h none = refl

-- ---- a state is left out for one that may stand for it

module _ (g : Galley) (bound : ℤ) (left k : ℕ) (xs : List Start) (y : Start) (h : IsNeedlessAt (may_alternate g) xs k y) (start : IsStart g bound left y) where
  replaced-all : AllByRecursion (IsStart g bound left) xs → AllByRecursion (IsStart g bound left) (set xs k y)
  replaced-all all = all-set (IsStart g bound left) xs k y all start

  replaced-more : AllByRecursion (IsStart g bound left) xs → KnowsAsMuch g (map (row_of g left) xs) (map (row_of g left) (set xs k y))
  replaced-more all = known-set g left xs k y y (stands-as-good g y (get_or xs k y) (all-at (IsStart g bound left) xs k y all h.inside).sides (h.stands y)) (h.stands y).way

  replaced-known : rows_know (map (row_of g left) (set xs k y)) (shown y.branch) (items_ahead g left) y.way.demerits (reverse y.way.breaks.items)
  replaced-known =
      known-at g left (set xs k y) k y y.way (let l = length-set xs k y in let i = h.inside in omega (arith, l, i)) (get_or-set_same xs k y y h.inside) (no-better-same y.way.demerits (reverse y.way.breaks.items))

-- the same of the level that is changed, which is the one that was looked through
module _ (t : Table) (left : ℕ) (inside : left < length t.starts.items) (table : IsTable t) (u v : Vec Start Global) (first : u ≡ get_or t.starts.items left u) (is : v ≡ get_or t.starts.items left v) (xs : List Start) (seen : xs ≡ u.items)
    (k : ℕ) (y : Start) (found : IsNeedlessAt t.may_alternate xs k y) (start : IsStart t.galley.now t.bound left y) where
  needless : IsNeedlessAt (may_alternate t.galley.now) v.items k y
  needless = subst (λ may. IsNeedlessAt may v.items k y) table.alternate (subst (λ zs. IsNeedlessAt t.may_alternate zs k y) (seen ∙ ap (λ (w : Vec Start Global). w.items) (same-item t.starts.items left u v inside first is)) found)

  pub level-all : AllByRecursion (IsStart t.galley.now t.bound left) (set v.items k y)
  level-all = replaced-all t.galley.now t.bound left k v.items y needless start (level-starts t left inside table v is)

  pub level-more : KnowsAsMuch t.galley.now (map (row_of t.galley.now left) v.items) (map (row_of t.galley.now left) (set v.items k y))
  level-more = replaced-more t.galley.now t.bound left k v.items y needless start (level-starts t left inside table v is)

  pub level-keeps : rows_know (map (row_of t.galley.now left) (set v.items k y)) (shown y.branch) (items_ahead t.galley.now left) y.way.demerits (reverse y.way.breaks.items)
  level-keeps = replaced-known t.galley.now t.bound left k v.items y needless start

-- ---- levels without a state

pub none-start : (g : Galley) (bound : ℤ) (base : ℕ) (vs : List (Vec Start Global)) → AllByRecursion (λ (v : Vec Start Global). v.items ≡ []) vs → AreStarts g bound base vs
none-start g bound base [] all = tt
none-start g bound base (v ∷ vs) all = (subst (AllByRecursion (IsStart g bound base)) (sym all.0) tt, none-start g bound (suc base) vs all.1)

pub no-rows : (g : Galley) (base : ℕ) (vs : List (Vec Start Global)) → AllByRecursion (λ (v : Vec Start Global). v.items ≡ []) vs → rows_from g base vs ≡ []
no-rows g base [] all = refl
no-rows g base (v ∷ vs) all = ap (λ (xs : List Start). map (row_of g base) xs ++ rows_from g (suc base) vs) all.0 ∙ no-rows g (suc base) vs all.1
