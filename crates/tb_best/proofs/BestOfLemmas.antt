-- The best of all plans is the best plan, and there is one best plan.
use Rattle.std.proofs.Common.{◌≡◌, refl, sym, ◌∙◌, ap, subst, ◌⊎◌, inl, inr, ℕ, ◌≤◌, ◌==◌, ℤ, Bool, true, false, List, [], ◌∷◌, ◌++◌, map, Option, Some, None, arith}
use Rattle.std.specs.Prelude.{IsTrue, nat_lt, not, ◌&&◌, ◌||◌, ◌≤ℤ◌, int_lt, reverse, MatchOption, if◌then◌else◌}
use Rattle.std.proofs.lemmas.Int.{ints}
use Rattle.std.proofs.lemmas.List.{reverse-reverse}
use Rattle.std.proofs.lemmas.Bool.Decides.{nat_tests}
use Rattle.tb_galley.specs.declared.Galley.{Galley}
use Rattle.tb_lines.specs.LeastSolution.{is_greater}
use Rattle.tb_lines.proofs.BestWays.{greater_fails}
use Rattle.tb_lines.proofs.LeastOf.{greater_one}
use Rattle.tb_node.specs.PlainNodes.{PlainNode}
use Rattle.tb_steps.specs.Run.{done, run_of}
use Rattle.tb_plans.specs.Places.{places_of}
use Rattle.tb_plans.specs.Plans.{is_part}
use Rattle.tb_best.specs.PlanDemerits.{plan_demerits}
use Rattle.tb_best.specs.BestPlan.{IsBest, HasNoPlan}
use Rattle.tb_best.specs.BestOf.{RatedPlan, parts, is_better, better_if, best_among, best_of}
use Rattle.tb_best.proofs.Paths.{no-amount}
use Rattle.tb_best.proofs.PlanBreaks.{same-number}
use Rattle.tb_best.proofs.RatedPlans.{none-is-plan}

-- ---- the parts of a list

-- the list is one of these
abbrev IsIn : List ℕ → List (List ℕ) → Type 0
IsIn xs [] = ⊥
IsIn xs (l ∷ ls) = (xs ≡ l) ⊎ IsIn xs ls

in-first : (xs : List ℕ) (ls ms : List (List ℕ)) → IsIn xs ls → IsIn xs (ls ++ ms)
in-first xs [] ms h = absurd h
in-first xs (l ∷ ls) ms (inl h) = inl h
in-first xs (l ∷ ls) ms (inr h) = inr (in-first xs ls ms h)

in-second : (xs : List ℕ) (ls ms : List (List ℕ)) → IsIn xs ms → IsIn xs (ls ++ ms)
in-second xs [] ms h = h
in-second xs (l ∷ ls) ms h = inr (in-second xs ls ms h)

in-either : (xs : List ℕ) (ls ms : List (List ℕ)) → IsIn xs (ls ++ ms) → IsIn xs ls ⊎ IsIn xs ms
in-either xs [] ms h = inr h
in-either xs (l ∷ ls) ms (inl h) = inl (inl h)
in-either xs (l ∷ ls) ms (inr h) = by (in-either xs ls ms h)
  where
    by : IsIn xs ls ⊎ IsIn xs ms → IsIn xs (l ∷ ls) ⊎ IsIn xs ms
    by (inl k) = inl (inr k)
    by (inr k) = inr k

with-one : (k : ℕ) (xs : List ℕ) (ls : List (List ℕ)) → IsIn xs ls → IsIn (k ∷ xs) (map (λ l. k ∷ l) ls)
with-one k xs [] h = absurd h
with-one k xs (l ∷ ls) (inl h) = inl (ap (λ m. k ∷ m) h)
with-one k xs (l ∷ ls) (inr h) = inr (with-one k xs ls h)

-- what holds of each of these with a number before it holds of one of them
of-one : (P : List ℕ → Type 0) (k : ℕ) (xs : List ℕ) (ls : List (List ℕ)) → ((l : List ℕ) → IsIn l ls → P (k ∷ l)) → IsIn xs (map (λ l. k ∷ l) ls) → P xs
of-one P k xs [] h i = absurd i
of-one P k xs (l ∷ ls) h (inl i) = subst P (sym i) (h l (inl refl))
of-one P k xs (l ∷ ls) h (inr i) = of-one P k xs ls (λ m j. h m (inr j)) i

part-by : (k : ℕ) (bs ks : List ℕ) → ((b : ℕ) (cs : List ℕ) → IsTrue (is_part (b ∷ cs) ks) → IsTrue (is_part cs ks)) → IsTrue (is_part bs ks) → IsTrue (is_part bs (k ∷ ks))
part-by k [] ks less h = refl
part-by k (b ∷ bs) ks less h = by (b == k) (less b bs h)
  where
    by : (t : Bool) → IsTrue (is_part bs ks) → IsTrue (if t then is_part bs ks else is_part (b ∷ bs) ks)
    by true i = i
    by false i = h

part-less : (b : ℕ) (bs ks : List ℕ) → IsTrue (is_part (b ∷ bs) ks) → IsTrue (is_part bs ks)
part-less b bs [] h = let no : ⊥ = grind (arith, h) in absurd no
part-less b bs (k ∷ ks) h = by (b == k) h (part-less b bs ks) (part-by k bs ks (λ c cs i. part-less c cs ks i))
  where
    by : (t : Bool) → IsTrue (if t then is_part bs ks else is_part (b ∷ bs) ks) → (IsTrue (is_part (b ∷ bs) ks) → IsTrue (is_part bs ks)) → (IsTrue (is_part bs ks) → IsTrue (is_part bs (k ∷ ks))) → IsTrue (is_part bs (k ∷ ks))
    by true h less more = more h
    by false h less more = more (less h)

part-more : (k : ℕ) (bs ks : List ℕ) → IsTrue (is_part bs ks) → IsTrue (is_part bs (k ∷ ks))
part-more k bs ks h = part-by k bs ks (λ b cs i. part-less b cs ks i) h

part-with : (k : ℕ) (bs ks : List ℕ) → IsTrue (is_part bs ks) → IsTrue (is_part (k ∷ bs) (k ∷ ks))
part-with k bs ks h = ap (λ t. if t then is_part bs ks else is_part (k ∷ bs) ks) (same-number k) ∙ h

-- each of all parts is one
parts-are : (ks xs : List ℕ) → IsIn xs (parts ks) → IsTrue (is_part xs ks)
parts-are [] xs (inl h) = subst (λ l. IsTrue (is_part l [])) (sym h) refl
parts-are [] xs (inr h) = absurd h
parts-are (k ∷ ks) xs h = by (in-either xs (map (λ l. k ∷ l) (parts ks)) (parts ks) h) (λ l i. part-with k l ks (parts-are ks l i)) (λ i. part-more k xs ks (parts-are ks xs i))
  where
    by : IsIn xs (map (λ l. k ∷ l) (parts ks)) ⊎ IsIn xs (parts ks) → ((l : List ℕ) → IsIn l (parts ks) → IsTrue (is_part (k ∷ l) (k ∷ ks))) → (IsIn xs (parts ks) → IsTrue (is_part xs (k ∷ ks))) → IsTrue (is_part xs (k ∷ ks))
    by (inl i) with_it without = of-one (λ l. IsTrue (is_part l (k ∷ ks))) k xs (parts ks) with_it i
    by (inr i) with_it without = without i

-- and each part is one of them
all-parts : (ks xs : List ℕ) → IsTrue (is_part xs ks) → IsIn xs (parts ks)
all-parts [] [] h = inl refl
all-parts [] (b ∷ bs) h = let no : ⊥ = grind (arith, h) in absurd no
all-parts (k ∷ ks) [] h = in-second [] (map (λ l. k ∷ l) (parts ks)) (parts ks) (all-parts ks [] refl)
all-parts (k ∷ ks) (b ∷ bs) h = by (b == k) refl h (all-parts ks bs) (all-parts ks (b ∷ bs))
  where
    by : (t : Bool) → (b == k) ≡ t → IsTrue (if t then is_part bs ks else is_part (b ∷ bs) ks) → (IsTrue (is_part bs ks) → IsIn bs (parts ks)) → (IsTrue (is_part (b ∷ bs) ks) → IsIn (b ∷ bs) (parts ks)) → IsIn (b ∷ bs) (parts (k ∷ ks))
    by true e h with_it without =
        let same : k ≡ b = grind (arith, e) in
        in-first (b ∷ bs) (map (λ l. k ∷ l) (parts ks)) (parts ks) (subst (λ m. IsIn (m ∷ bs) (map (λ l. k ∷ l) (parts ks))) same (with-one k bs (parts ks) (with_it h)))
    by false e h with_it without = in-second (b ∷ bs) (map (λ l. k ∷ l) (parts ks)) (parts ks) (without h)

-- ---- the order of plans

not-first : (x y : ℕ) (g : Bool) → (nat_lt y x || ((x == y) && g)) ≡ false → (x ≤ y) × (x ≡ y → g ≡ false)
not-first x y false h = (grind (arith, nat_tests, h), λ e. refl)
not-first x y true h = (grind (arith, nat_tests, h), λ e. absurd (let no : ⊥ = grind (arith, nat_tests, h, e) in no))

is-first : (x y : ℕ) (g : Bool) → (nat_lt y x || ((x == y) && g)) ≡ true → (y ≤ x) × (x ≡ y → g ≡ true)
is-first x y true h = (grind (arith, nat_tests, h), λ e. refl)
is-first x y false h = (grind (arith, nat_tests, h), λ e. absurd (let no : ⊥ = grind (arith, nat_tests, h, e) in no))

not-greater-same : (xs : List ℕ) → is_greater xs xs ≡ false
not-greater-same [] = refl
not-greater-same (x ∷ xs) = greater_fails x x (is_greater xs xs) (omega arith) (λ e. not-greater-same xs)

not-both : (xs ys : List ℕ) → is_greater xs ys ≡ true → is_greater ys xs ≡ false
not-both [] ys h = let no : ⊥ = grind (arith, h) in absurd no
not-both (x ∷ xs) [] h = refl
not-both (x ∷ xs) (y ∷ ys) h =
    let first = is-first x y (is_greater xs ys) h in
    greater_fails x y (is_greater ys xs) first.0 (λ e. not-both xs ys (first.1 e))

not-greater-than : (xs ys zs : List ℕ) → is_greater xs ys ≡ false → is_greater ys zs ≡ false → is_greater xs zs ≡ false
not-greater-than [] ys zs h k = refl
not-greater-than (x ∷ xs) [] zs h k = let no : ⊥ = grind (arith, h) in absurd no
not-greater-than (x ∷ xs) (y ∷ ys) [] h k = let no : ⊥ = grind (arith, k) in absurd no
not-greater-than (x ∷ xs) (y ∷ ys) (z ∷ zs) h k =
    let a = not-first x y (is_greater xs ys) h in
    let b = not-first y z (is_greater ys zs) k in
    let le = a.0 in
    let less = b.0 in
    greater_fails z x (is_greater xs zs) (grind (arith, le, less)) (λ e. not-greater-than xs ys zs (a.1 (grind (arith, le, less, e))) (b.1 (grind (arith, le, less, e))))

-- no plan is better than this one
abbrev IsNoWorse : RatedPlan → RatedPlan → Type 0
IsNoWorse w x = (w.total ≤ℤ x.total) × (x.total ≡ w.total → is_greater (reverse x.plan) (reverse w.plan) ≡ false)

is-better : (a b : ℤ) (g : Bool) → (int_lt a b || (not (int_lt b a) && g)) ≡ true → (a ≤ℤ b) × (b ≡ a → g ≡ true)
is-better a b true h = (grind (arith, ints, h), λ e. refl)
is-better a b false h = (grind (arith, ints, h), λ e. absurd (let no : ⊥ = grind (arith, ints, h, e) in no))

not-better : (a b : ℤ) (g : Bool) → (int_lt a b || (not (int_lt b a) && g)) ≡ false → (b ≤ℤ a) × (a ≡ b → g ≡ false)
not-better a b false h = (grind (arith, ints, h), λ e. refl)
not-better a b true h = (grind (arith, ints, h), λ e. absurd (let no : ⊥ = grind (arith, ints, h, e) in no))

better-first : (a b : RatedPlan) → is_better a b ≡ true → IsNoWorse a b
better-first a b h =
    let k = is-better a.total b.total (is_greater (reverse a.plan) (reverse b.plan)) h in
    (k.0, λ e. not-both (reverse a.plan) (reverse b.plan) (k.1 e))

better-second : (a b : RatedPlan) → is_better a b ≡ false → IsNoWorse b a
better-second a b h = not-better a.total b.total (is_greater (reverse a.plan) (reverse b.plan)) h

through : (w x y : RatedPlan) → IsNoWorse w x → IsNoWorse x y → IsNoWorse w y
through w x y h k =
    let a = h.0 in
    let b = k.0 in
    (grind (arith, ints, a, b), λ e. not-greater-than (reverse y.plan) (reverse x.plan) (reverse w.plan) (k.1 (grind (arith, ints, a, b, e))) (h.1 (grind (arith, ints, a, b, e))))

as-good : (w x : RatedPlan) → x.plan ≡ w.plan → x.total ≡ w.total → IsNoWorse w x
as-good w x p t = (grind (arith, ints, t), λ e. ap (λ l. is_greater (reverse l) (reverse w.plan)) p ∙ not-greater-same (reverse w.plan))

-- ---- the best of some plans

module _ (g : Galley) where
  -- none of these plans has demerits
  abbrev HasNone : List (List ℕ) → Type 0
  HasNone plans = (others : List ℕ) (d : ℤ) → IsIn others plans → plan_demerits g others ≡ Some d → ⊥

  -- this plan is one of these, and none of them is better
  record IsBestIn (plans : List (List ℕ)) (w : RatedPlan) : Type 0 where
    is_in : IsIn w.plan plans
    sum : plan_demerits g w.plan ≡ Some w.total
    best : (others : List ℕ) (d : ℤ) → IsIn others plans → plan_demerits g others ≡ Some d → IsNoWorse w (record { plan = others; total = d })

  abbrev amount_of : Option ℤ → ℤ → ℤ
  amount_of None d = d
  amount_of (Some a) d = a

  same-amount : (plan others : List ℕ) (a d : ℤ) → plan_demerits g plan ≡ Some a → others ≡ plan → plan_demerits g others ≡ Some d → d ≡ a
  same-amount plan others a d h same k = ap (λ o. amount_of o d) (sym k ∙ ap (plan_demerits g) same ∙ h)

  one-more : (plan : List ℕ) (plans : List (List ℕ)) (o : Option ℤ) → plan_demerits g plan ≡ o → (rest : Option RatedPlan) → MatchOption rest (HasNone plans) (IsBestIn plans)
      → MatchOption (better_if plan o rest) (HasNone (plan ∷ plans)) (IsBestIn (plan ∷ plans))
  one-more plan plans None e None h = by
    where
      by : HasNone (plan ∷ plans)
      by others d (inl same) k = no-amount (sym e ∙ ap (plan_demerits g) (sym same) ∙ k)
      by others d (inr i) k = h others d i k
  one-more plan plans None e (Some w) h = record { is_in = inr h.is_in; sum = h.sum; best = by }
    where
      by : (others : List ℕ) (d : ℤ) → IsIn others (plan ∷ plans) → plan_demerits g others ≡ Some d → IsNoWorse w (record { plan = others; total = d })
      by others d (inl same) k = absurd (no-amount (sym e ∙ ap (plan_demerits g) (sym same) ∙ k))
      by others d (inr i) k = h.best others d i k
  one-more plan plans (Some a) e None h = record { is_in = inl refl; sum = e; best = by }
    where
      by : (others : List ℕ) (d : ℤ) → IsIn others (plan ∷ plans) → plan_demerits g others ≡ Some d → IsNoWorse (record { plan = plan; total = a }) (record { plan = others; total = d })
      by others d (inl same) k = as-good (record { plan = plan; total = a }) (record { plan = others; total = d }) same (same-amount plan others a d e same k)
      by others d (inr i) k = absurd (h others d i k)
  one-more plan plans (Some a) e (Some w) h = choose (is_better w (record { plan = plan; total = a })) refl
    where
      choose : (t : Bool) → is_better w (record { plan = plan; total = a }) ≡ t → MatchOption (if t then Some w else Some (record { plan = plan; total = a })) (HasNone (plan ∷ plans)) (IsBestIn (plan ∷ plans))
      choose true t = record { is_in = inr h.is_in; sum = h.sum; best = by }
        where
          by : (others : List ℕ) (d : ℤ) → IsIn others (plan ∷ plans) → plan_demerits g others ≡ Some d → IsNoWorse w (record { plan = others; total = d })
          by others d (inl same) k = through w (record { plan = plan; total = a }) (record { plan = others; total = d }) (better-first w (record { plan = plan; total = a }) t) (as-good (record { plan = plan; total = a }) (record { plan = others; total = d }) same (same-amount plan others a d e same k))
          by others d (inr i) k = h.best others d i k
      choose false t = record { is_in = inl refl; sum = e; best = by }
        where
          by : (others : List ℕ) (d : ℤ) → IsIn others (plan ∷ plans) → plan_demerits g others ≡ Some d → IsNoWorse (record { plan = plan; total = a }) (record { plan = others; total = d })
          by others d (inl same) k = as-good (record { plan = plan; total = a }) (record { plan = others; total = d }) same (same-amount plan others a d e same k)
          by others d (inr i) k = through (record { plan = plan; total = a }) w (record { plan = others; total = d }) (better-second w (record { plan = plan; total = a }) t) (h.best others d i k)

  among-is : (plans : List (List ℕ)) → MatchOption (best_among g plans) (HasNone plans) (IsBestIn plans)
  among-is [] = λ others d i k. i
  among-is (plan ∷ plans) = one-more plan plans (plan_demerits g plan) refl (best_among g plans) (among-is plans)

  -- ---- the best of all plans

  all-none : HasNone (parts (places_of g)) → HasNoPlan g
  all-none h plan d is k = h plan d (all-parts (places_of g) plan is) k

  all-best : (w : RatedPlan) → IsBestIn (parts (places_of g)) w → IsBest g w.plan w.total
  all-best w h = record {
    is_plan = parts-are (places_of g) w.plan h.is_in;
    sum = h.sum;
    least = λ others d is k. (h.best others d (all-parts (places_of g) others is) k).0;
    greatest = λ others is k. (h.best others w.total (all-parts (places_of g) others is) k).1 refl;
  }

  of-all : (o : Option RatedPlan) → MatchOption o (HasNone (parts (places_of g))) (IsBestIn (parts (places_of g))) → MatchOption o (HasNoPlan g) (λ w. IsBest g w.plan w.total)
  of-all None h = all-none h
  of-all (Some w) h = all-best w h

  -- the best of all plans is the best plan
  pub best-of-is : MatchOption (best_of g) (HasNoPlan g) (λ w. IsBest g w.plan w.total)
  unfolding best_of
  best-of-is = of-all (best_among g (parts (places_of g))) (among-is (parts (places_of g)))

  by-some : (o : Option RatedPlan) → MatchOption o (HasNoPlan g) (λ w. IsBest g w.plan w.total) → (HasNoPlan g → ⊥) → (w : RatedPlan) × (o ≡ Some w)
  by-some None h some = absurd (some h)
  by-some (Some w) h some = (w, refl)

  -- if the run of the galley ends well, there is a best plan
  pub best-there : (left : List PlainNode) → (run_of g).end ≡ done left → (w : RatedPlan) × (best_of g ≡ Some w)
  best-there left h = by-some (best_of g) best-of-is (none-is-plan g left h)

-- there is one best plan
pub best-one : (g : Galley) (plan other : List ℕ) (a b : ℤ) → IsBest g plan a → IsBest g other b → (plan ≡ other) × (a ≡ b)
best-one g plan other a b h k =
    let less = h.least other b k.is_plan k.sum in
    let more = k.least plan a h.is_plan h.sum in
    let same : a ≡ b = omega (arith, ints, less, more) in
    let one : reverse plan ≡ reverse other = greater_one (reverse plan) (reverse other) (k.greatest plan h.is_plan (h.sum ∙ ap Some same)) (h.greatest other k.is_plan (k.sum ∙ ap Some (sym same))) in
    (sym (reverse-reverse plan) ∙ ap reverse one ∙ reverse-reverse other, same)
