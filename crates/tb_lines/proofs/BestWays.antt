-- A table of one best break before each break gives a way of least demerits, and the greatest of several.
use Rattle.std.proofs.Common.{◌≡◌, refl, sym, ◌∙◌, ap, subst, ◌≢◌, ◌⊎◌, inl, inr, ℕ, zero, suc, ◌<◌, ◌≤◌, ℤ, pos, Bool, true, false, List, [], ◌∷◌, Option, None, Some, arith}
use Rattle.std.specs.Prelude.{◌+ℤ◌, ◌<ℤ◌, nat_lt, ◌==◌, ◌||◌, ◌&&◌}
use Rattle.std.proofs.lemmas.Int.{ints}
use Rattle.std.proofs.lemmas.Bool.{true≢false}
use Rattle.std.proofs.lemmas.Bool.Decides.{nat_tests}
use Rattle.tb_lines.specs.declared.table.Best.{Best}
use Rattle.tb_lines.specs.LeastSolution.{first_of, sum_of_both, is_greater}
use Rattle.tb_lines.specs.Table.{total_in, offer, Follows}

-- the cost of breaks, from the last to the first, when each line has a cost or none
abbrev pub cost : (Option ℕ → ℕ → Option ℤ) → List ℕ → Option ℤ
cost edge [] = Some (pos 0)
cost edge (j ∷ js) = sum_of_both (cost edge js) (edge (first_of js) j)

-- the first is not after the second; the start is before all breaks
abbrev pub IsUpTo : Option ℕ → Option ℕ → Type 0
IsUpTo None p = Unit {0}
IsUpTo (Some i) None = ⊥
IsUpTo (Some i) (Some k) = i ≤ k

-- a break is the last of least cost among all that offer one, or none does
abbrev pub Chosen : (Option ℕ → ℕ → Option ℤ) → (ℕ → Option Best) → ℕ → Option Best → Type 0
Chosen edge table j None = (q : Option ℕ) (d : ℤ) → offer edge table j q ≡ Some d → ⊥
Chosen edge table j (Some b) =
    (offer edge table j b.from ≡ Some b.total)
    × ((q : Option ℕ) (d : ℤ) → offer edge table j q ≡ Some d → (b.total <ℤ d) ⊎ ((b.total ≡ d) × IsUpTo q b.from))

-- the way to break j that the table names costs the total, and is the greatest of least cost
abbrev pub BestBy : (Option ℕ → ℕ → Option ℤ) → (ℕ → Option Best) → ℕ → ℤ → Option ℕ → Type 0
BestBy edge table j t p =
    (js : List ℕ) × Follows table p js × (cost edge (j ∷ js) ≡ Some t)
    × ((os : List ℕ) (d : ℤ) → cost edge (j ∷ os) ≡ Some d → (t <ℤ d) ⊎ ((t ≡ d) × (is_greater os js ≡ false)))

-- there is such a way, or none at all
abbrev pub IsBestWay : (Option ℕ → ℕ → Option ℤ) → (ℕ → Option Best) → ℕ → Option Best → Type 0
IsBestWay edge table j None = (js : List ℕ) (d : ℤ) → cost edge (j ∷ js) ≡ Some d → ⊥
IsBestWay edge table j (Some b) = BestBy edge table j b.total b.from

-- a line leads on
pub record LeadsOn (edge : Option ℕ → ℕ → Option ℤ) : Type 0 where
  pub on : (i j : ℕ) (d : ℤ) → edge (Some i) j ≡ Some d → i < j

-- both parts of a sum
pub both_parts : (a b : Option ℤ) (d : ℤ) → sum_of_both a b ≡ Some d → (x : ℤ) × (y : ℤ) × (a ≡ Some x) × (b ≡ Some y) × (x +ℤ y ≡ d)
both_parts None b d h = absurd (cc)
both_parts (Some a) None d h = absurd (cc)
both_parts (Some a) (Some b) d h = (a, b, refl, refl, cc)

-- what follows the table from one place is one list
pub follows_one : (table : ℕ → Option Best) (q : Option ℕ) (xs ys : List ℕ) → Follows table q xs → Follows table q ys → xs ≡ ys
follows_one table None [] [] f g = refl
follows_one table None [] (y ∷ ys) f g = absurd g
follows_one table None (x ∷ xs) ys f g = absurd f
follows_one table (Some i) [] ys f g = absurd f
follows_one table (Some i) (x ∷ xs) [] f g = absurd g
follows_one table (Some i) (x ∷ xs) (y ∷ ys) f g =
    let same : x ≡ y = sym f.0 ∙ g.0 in
    let e : table y ≡ Some f.1.0 = ap table (sym same) ∙ f.1.1 in
    let both : f.1.0 ≡ g.1.0 = cc in
    let f' : Follows table g.1.0.from xs = let P : Best → Type 0 = λ b. Follows table b.from xs in subst P both f.1.2 in
    let rest : xs ≡ ys = follows_one table g.1.0.from xs ys f' g.1.2 in
    cc

-- a table's entry and its total
pub entry_of_total : (b : Option Best) (x : ℤ) → total_in b ≡ Some x → (e : Best) × (b ≡ Some e) × (e.total ≡ x)
entry_of_total None x h = absurd (cc)
entry_of_total (Some b) x h = (b, refl, cc)

-- the way to a break that some breaks lead to
way_to : (edge : Option ℕ → ℕ → Option ℤ) (table : ℕ → Option Best) (i : ℕ) (os : List ℕ) (x : ℤ) (b : Option Best) → table i ≡ b → IsBestWay edge table i b
    → cost edge (i ∷ os) ≡ Some x → (e : Best) × (table i ≡ Some e) × BestBy edge table i e.total e.from
way_to edge table i os x None is way h = absurd (way os x h)
way_to edge table i os x (Some e) is way h = (e, is, way)

-- a way through i is no better than the way to i that the table names, with the same line after it
through : (edge : Option ℕ → ℕ → Option ℤ) (table : ℕ → Option Best) (j : ℕ) → LeadsOn edge
    → ((i : ℕ) → i < j → IsBestWay edge table i (table i))
    → (i : ℕ) (os : List ℕ) (d : ℤ) → cost edge (j ∷ i ∷ os) ≡ Some d
    → (e : Best) × (y : ℤ) × (x : ℤ) × (table i ≡ Some e) × BestBy edge table i e.total e.from × (offer edge table j (Some i) ≡ Some (e.total +ℤ y)) × (cost edge (i ∷ os) ≡ Some x) × (x +ℤ y ≡ d)
through edge table j leads before i os d h =
    let parts = both_parts (cost edge (i ∷ os)) (edge (Some i) j) d h in
    let lt : i < j = leads.on i j parts.1 parts.3 in
    let way = way_to edge table i os parts.0 (table i) refl (before i lt) parts.2 in
    let total : total_in (table i) ≡ Some way.0.total = ap total_in way.1 in
    let offered : offer edge table j (Some i) ≡ Some (way.0.total +ℤ parts.1) = ap (λ a. sum_of_both a (edge (Some i) j)) total ∙ ap (λ a. sum_of_both (Some way.0.total) a) parts.3 in
    (way.0, parts.1, parts.0, way.1, way.2, offered, parts.2, parts.4)

-- if the table has nothing, there is no way
no_way : (edge : Option ℕ → ℕ → Option ℤ) (table : ℕ → Option Best) (j : ℕ) → LeadsOn edge
    → ((i : ℕ) → i < j → IsBestWay edge table i (table i))
    → Chosen edge table j None → IsBestWay edge table j None
no_way edge table j leads before none [] d h = none None d h
no_way edge table j leads before none (i ∷ os) d h =
    let t = through edge table j leads before i os d h in
    none (Some i) (t.0.total +ℤ t.1) t.5

-- a test for a greater list fails if the first break is no later, and the others are not greater when it is the same
pub greater_fails : (a b : ℕ) (g : Bool) → b ≤ a → (a ≡ b → g ≡ false) → (nat_lt a b || ((b == a) && g)) ≡ false
greater_fails a b false le h = grind (arith, nat_tests)
greater_fails a b true le h = let ne : a ≢ b = λ e. true≢false (h e) in grind (arith, nat_tests)

-- of two ways of one cost, the one whose last break is no later is not greater
tied : (table : ℕ → Option Best) (i : ℕ) (os : List ℕ) (e : Best) (w : List ℕ) → table i ≡ Some e → Follows table e.from w → is_greater os w ≡ false
    → (p : Option ℕ) (js : List ℕ) → Follows table p js → IsUpTo (Some i) p → is_greater (i ∷ os) js ≡ false
tied table i os e w is way less None js f up = absurd up
tied table i os e w is way less (Some k) [] f up = absurd f
tied table i os e w is way less (Some k) (k' ∷ ks) f up =
    greater_fails k' i (is_greater os ks) (let same : k ≡ k' = f.0 in omega arith)
    (λ same.
    let both : f.1.0 ≡ e = let one : table i ≡ Some f.1.0 = ap table (sym same) ∙ f.1.1 in cc in
    let f' : Follows table e.from ks = let P : Best → Type 0 = λ b. Follows table b.from ks in subst P both f.1.2 in
    ap (is_greater os) (follows_one table e.from ks w f' way) ∙ less)

-- two comparisons of costs together
joined : (t a x y d : ℤ) (G : Type 0) → x +ℤ y ≡ d → (a <ℤ x) ⊎ ((a ≡ x) × G) → (H : Type 0) → (t <ℤ (a +ℤ y)) ⊎ ((t ≡ a +ℤ y) × H) → (t <ℤ d) ⊎ ((t ≡ d) × G × H)
joined t a x y d G e (inl l) H (inl m) = inl (omega (arith, ints))
joined t a x y d G e (inl l) H (inr m) = inl (let m' : t ≡ a +ℤ y = m.0 in omega (arith, ints))
joined t a x y d G e (inr l) H (inl m) = inl (let l' : a ≡ x = l.0 in omega (arith, ints))
joined t a x y d G e (inr l) H (inr m) = inr ((let l' : a ≡ x = l.0 in let m' : t ≡ a +ℤ y = m.0 in omega (arith, ints)), l.1, m.1)

-- the chosen way is no worse than another
not_worse : (edge : Option ℕ → ℕ → Option ℤ) (table : ℕ → Option Best) (j : ℕ) → LeadsOn edge
    → ((i : ℕ) → i < j → IsBestWay edge table i (table i))
    → (t : ℤ) (p : Option ℕ) (js : List ℕ) → Follows table p js
    → ((q : Option ℕ) (d : ℤ) → offer edge table j q ≡ Some d → (t <ℤ d) ⊎ ((t ≡ d) × IsUpTo q p))
    → (os : List ℕ) (d : ℤ) → cost edge (j ∷ os) ≡ Some d → (t <ℤ d) ⊎ ((t ≡ d) × (is_greater os js ≡ false))
not_worse edge table j leads before t p js f least [] d h =
    elim (least None d h) [ inl lt ↦ inl lt | inr e ↦ inr (e.0, refl) ]
not_worse edge table j leads before t p js f least (i ∷ os) d h =
    let w = through edge table j leads before i os d h in
    let G : Type 0 = is_greater os w.4.0 ≡ false in
    elim (joined t w.0.total w.2 w.1 d G w.7 (w.4.3 os w.2 w.6) (IsUpTo (Some i) p) (least (Some i) (w.0.total +ℤ w.1) w.5)) [
      | inl lt ↦ inl lt
      | inr e ↦ inr (e.0, tied table i os w.0 w.4.0 w.3 w.4.1 e.1 p js f e.2)
    ]

chosen_way : (edge : Option ℕ → ℕ → Option ℤ) (table : ℕ → Option Best) (j : ℕ) → LeadsOn edge
    → ((i : ℕ) → i < j → IsBestWay edge table i (table i))
    → (t : ℤ) (p : Option ℕ) → offer edge table j p ≡ Some t
    → ((q : Option ℕ) (d : ℤ) → offer edge table j q ≡ Some d → (t <ℤ d) ⊎ ((t ≡ d) × IsUpTo q p))
    → BestBy edge table j t p
chosen_way edge table j leads before t None offered least = ([], tt, offered, not_worse edge table j leads before t None [] tt least)
chosen_way edge table j leads before t (Some i) offered least =
    let parts = both_parts (total_in (table i)) (edge (Some i) j) t offered in
    let e = entry_of_total (table i) parts.0 parts.2 in
    let lt : i < j = leads.on i j parts.1 parts.3 in
    let way : BestBy edge table i e.0.total e.0.from = let P : Option Best → Type 0 = λ b. IsBestWay edge table i b in subst P e.1 (before i lt) in
    let f : Follows table (Some i) (i ∷ way.0) = (refl, (e.0, e.1, way.1)) in
    let sum : cost edge (j ∷ i ∷ way.0) ≡ Some t = ap (λ a. sum_of_both a (edge (Some i) j)) (way.2 ∙ ap Some e.2) ∙ ap (λ a. sum_of_both (Some parts.0) a) parts.3 ∙ ap Some parts.4 in
    (i ∷ way.0, f, sum, not_worse edge table j leads before t (Some i) (i ∷ way.0) f least)

one_way : (edge : Option ℕ → ℕ → Option ℤ) (table : ℕ → Option Best) (j : ℕ) → LeadsOn edge
    → ((i : ℕ) → i < j → IsBestWay edge table i (table i))
    → (b : Option Best) → Chosen edge table j b → IsBestWay edge table j b
one_way edge table j leads before None c = no_way edge table j leads before c
one_way edge table j leads before (Some b) c = chosen_way edge table j leads before b.total b.from c.0 c.1

-- if each break up to j has the last break of least cost before it, the table names the best way to j
pub best_way : (edge : Option ℕ → ℕ → Option ℤ) (table : ℕ → Option Best) → LeadsOn edge → (n j : ℕ) → j < n
    → ((k : ℕ) → k ≤ j → Chosen edge table k (table k)) → IsBestWay edge table j (table j)
best_way edge table leads zero j lt chosen = absurd (omega arith)
best_way edge table leads (suc n) j lt chosen =
    one_way edge table j leads (λ i less. best_way edge table leads n i (omega arith) (λ k le. chosen k (omega arith))) (table j) (chosen j (omega arith))
