-- The table names the least solution, and has nothing at the list's end exactly if no solution is feasible.
use Rattle.std.proofs.Common.{◌≡◌, refl, sym, ◌∙◌, ap, subst, ◌⊎◌, inl, inr, ℕ, zero, suc, ◌<◌, ◌≤◌, ◌+◌, ℤ, true, false, List, [], ◌∷◌, ◌++◌, length, Option, None, Some, arith, length-append}
use Rattle.std.specs.Prelude.{◌≤ℤ◌, ◌<ℤ◌}
use Rattle.std.proofs.lemmas.Int.{ints}
use Rattle.std.proofs.lemmas.Bool.{true≢false, cases_eq}
use Rattle.tb_lines.specs.declared.entries.Entry.{Entry}
use Rattle.tb_lines.specs.declared.table.Best.{Best}
use Rattle.tb_lines.specs.declared.text.LineParams.{LineParams}
use Rattle.tb_lines.specs.Entries.{is_forced}
use Rattle.tb_lines.specs.LeastSolution.{IsSolution, IsLeast, HasNone, sum_of_both, total_demerits, is_greater}
use Rattle.tb_lines.specs.SolutionLines.{step_demerits}
use Rattle.tb_lines.specs.Table.{total_in, offer, best_among, row_at, table_of, Follows, AreLinked}
use Rattle.tb_lines.proofs.BestWays.{cost, both_parts, entry_of_total, Chosen, IsBestWay, best_way, follows_one, greater_fails}
use Rattle.tb_lines.proofs.Solutions.{IsPart, part_cost, cost_total, cost_part, leads}
use Rattle.tb_lines.proofs.ChosenRows.{IsBefore, ChosenAmong, best_among-chosen}

-- ---- the rows of the table

row_before : (xs : List (Option Best)) (x : Option Best) (k : ℕ) → k < length xs → row_at (xs ++ x ∷ []) k ≡ row_at xs k
row_before [] x k lt = absurd (omega arith)
row_before (y ∷ xs) x zero lt = refl
row_before (y ∷ xs) x (suc k) lt = row_before xs x k (omega arith)

row_last : (xs : List (Option Best)) (x : Option Best) (k : ℕ) → k ≡ length xs → row_at (xs ++ x ∷ []) k ≡ x
row_last [] x zero e = refl
row_last [] x (suc k) e = absurd (omega arith)
row_last (y ∷ xs) x zero e = absurd (omega arith)
row_last (y ∷ xs) x (suc k) e = row_last xs x k (omega arith)

pub length-table_of : (ps : LineParams) (es : List Entry) (n : ℕ) → length (table_of ps es n) ≡ n
length-table_of ps es zero = refl
length-table_of ps es (suc j) = length-append (table_of ps es j) (best_among (offer (step_demerits ps es) (row_at (table_of ps es j)) j) j ∷ []) ∙ (let e : length (table_of ps es j) ≡ j = length-table_of ps es j in omega arith)

-- a longer table has the same rows
pub rows_agree : (ps : LineParams) (es : List Entry) (n k i : ℕ) → k ≤ n → i < k → row_at (table_of ps es n) i ≡ row_at (table_of ps es k) i
rows_agree ps es zero k i le lt = absurd (omega arith)
rows_agree ps es (suc m) k i le lt = elim (cases_eq k (suc m)) [
  | inl e ↦ ap (λ x. row_at (table_of ps es x) i) (sym e)
  | inr ne ↦ row_before (table_of ps es m) (best_among (offer (step_demerits ps es) (row_at (table_of ps es m)) m) m) i (let len = length-table_of ps es m in omega arith) ∙ rows_agree ps es m k i (omega arith) lt
]

row_of : (ps : LineParams) (es : List Entry) (n k : ℕ) → k < n → row_at (table_of ps es n) k ≡ best_among (offer (step_demerits ps es) (row_at (table_of ps es k)) k) k
row_of ps es n k lt = rows_agree ps es n (suc k) k (omega arith) (omega arith) ∙ row_last (table_of ps es k) (best_among (offer (step_demerits ps es) (row_at (table_of ps es k)) k) k) k (sym (length-table_of ps es k))

-- offers of earlier breaks are those of the table so far
same_offer : (ps : LineParams) (es : List Entry) (n k : ℕ) (q : Option ℕ) → k ≤ n → IsBefore q k
    → offer (step_demerits ps es) (row_at (table_of ps es n)) k q ≡ offer (step_demerits ps es) (row_at (table_of ps es k)) k q
same_offer ps es n k None le b = refl
same_offer ps es n k (Some i) le b = ap (λ r. sum_of_both (total_in r) (step_demerits ps es (Some i) k)) (rows_agree ps es n k i le b)

offer_before : (ps : LineParams) (es : List Entry) (table : ℕ → Option Best) (k : ℕ) (q : Option ℕ) (d : ℤ) → offer (step_demerits ps es) table k q ≡ Some d → IsBefore q k
offer_before ps es table k None d h = tt
offer_before ps es table k (Some i) d h =
    let parts = both_parts (total_in (table i)) (step_demerits ps es (Some i) k) d h in
    (leads ps es).on i k parts.1 parts.3

chosen_by : (ps : LineParams) (es : List Entry) (n k : ℕ) → k ≤ n → (b : Option Best)
    → ChosenAmong (offer (step_demerits ps es) (row_at (table_of ps es k)) k) k b → Chosen (step_demerits ps es) (row_at (table_of ps es n)) k b
chosen_by ps es n k le None c = λ q d h.
    let b = offer_before ps es (row_at (table_of ps es n)) k q d h in
    c q d b (sym (same_offer ps es n k q le b) ∙ h)
chosen_by ps es n k le (Some b) c = (
  same_offer ps es n k b.from le c.1 ∙ c.0,
  λ q d h.
      let before = offer_before ps es (row_at (table_of ps es n)) k q d h in
      c.2 q d before (sym (same_offer ps es n k q le before) ∙ h),
)

pub chosen_row : (ps : LineParams) (es : List Entry) (n k : ℕ) → k < n → Chosen (step_demerits ps es) (row_at (table_of ps es n)) k (row_at (table_of ps es n) k)
chosen_row ps es n k lt =
    let P : Option Best → Type 0 = λ b. Chosen (step_demerits ps es) (row_at (table_of ps es n)) k b in
    subst P (sym (row_of ps es n k lt)) (chosen_by ps es n k (omega arith) (best_among (offer (step_demerits ps es) (row_at (table_of ps es k)) k) k) (best_among-chosen (offer (step_demerits ps es) (row_at (table_of ps es k)) k) k))

-- ---- the end of the list

pub forced_within : (es : List Entry) (k : ℕ) → is_forced es k ≡ true → k < length es
forced_within [] k h = absurd (true≢false (sym h))
forced_within (e ∷ es) zero h = omega arith
forced_within (e ∷ es) (suc k) h = let lt : k < length es = forced_within es k h in omega arith

solution_part : (es : List Entry) (js : List ℕ) → IsSolution es js → IsPart es js
solution_part es js s = record { falling = s.falling; legal = s.legal; forced = λ j k e le f. s.forced k f }

-- a solution begins with the last place
solution_starts : (es : List Entry) (last : ℕ) → last + 1 ≡ length es → (js : List ℕ) → IsSolution es js → (os : List ℕ) × (js ≡ last ∷ os)
solution_starts es last e [] s = absurd (let h : None ≡ Some s.ends.0 = s.ends.1 in cc)
solution_starts es last e (j ∷ js) s = (js, let h : Some j ≡ Some s.ends.0 = s.ends.1 in let same : j ≡ s.ends.0 = cc in let at : s.ends.0 + 1 ≡ length es = s.ends.2 in let both : j ≡ last = omega arith in cc)

part_solution : (es : List Entry) (last : ℕ) → last + 1 ≡ length es → (js : List ℕ) → IsPart es (last ∷ js) → IsSolution es (last ∷ js)
part_solution es last e js p = record {
  falling = p.falling;
  legal = p.legal;
  forced = λ k f. p.forced last k refl (let lt : k < length es = forced_within es k f in omega arith) f;
  ends = (last, refl, e);
}

way_cost : (ps : LineParams) (es : List Entry) (last : ℕ) → last + 1 ≡ length es → (js : List ℕ) (d : ℤ) → IsSolution es js → total_demerits ps es js ≡ Some d
    → (os : List ℕ) × (js ≡ last ∷ os) × (cost (step_demerits ps es) (last ∷ os) ≡ Some d)
way_cost ps es last e js d s h =
    let starts = solution_starts es last e js s in
    (starts.0, starts.1, ap (cost (step_demerits ps es)) (sym starts.1) ∙ part_cost ps es js d (solution_part es js s) h)

no_solution : (ps : LineParams) (es : List Entry) (table : ℕ → Option Best) (last : ℕ) → last + 1 ≡ length es → IsBestWay (step_demerits ps es) table last None → HasNone ps es
no_solution ps es table last e way js d s h = let w = way_cost ps es last e js d s h in way w.0 d w.2

least_solution : (ps : LineParams) (es : List Entry) (table : ℕ → Option Best) (last : ℕ) → last + 1 ≡ length es → (b : Best) → IsBestWay (step_demerits ps es) table last (Some b)
    → (js : List ℕ) → Follows table b.from js → IsLeast ps es (last ∷ js) b.total
least_solution ps es table last e b way js f =
    let same : way.0 ≡ js = follows_one table b.from way.0 js way.1 f in
    let sum : cost (step_demerits ps es) (last ∷ js) ≡ Some b.total = ap (λ x. cost (step_demerits ps es) (last ∷ x)) (sym same) ∙ way.2 in
    record {
      solution = part_solution es last e js (cost_part ps es (last ∷ js) b.total sum);
      sum = cost_total ps es (last ∷ js) b.total sum;
      least = λ others d s h. let w = way_cost ps es last e others d s h in at_most b.total d (is_greater w.0 way.0 ≡ false) (way.3 w.0 d w.2);
      greatest = λ others s h.
          let w = way_cost ps es last e others b.total s h in
          let less : is_greater w.0 way.0 ≡ false = tie b.total (is_greater w.0 way.0 ≡ false) (way.3 w.0 b.total w.2) in
          ap (λ x. is_greater x (last ∷ js)) w.1 ∙ greater_fails last last (is_greater w.0 js) (omega arith) (λ _. ap (is_greater w.0) (sym same) ∙ less);
    }
  where
    at_most : (t d : ℤ) (G : Type 0) → (t <ℤ d) ⊎ ((t ≡ d) × G) → t ≤ℤ d
    at_most t d G (inl l) = omega (arith, ints)
    at_most t d G (inr m) = let m' : t ≡ d = m.0 in omega (arith, ints)

    tie : (t : ℤ) (G : Type 0) → (t <ℤ t) ⊎ ((t ≡ t) × G) → G
    tie t G (inl l) = absurd (omega (arith, ints))
    tie t G (inr m) = m.1

row_way : (ps : LineParams) (es : List Entry) (last : ℕ) → last + 1 ≡ length es → (b : Option Best) → row_at (table_of ps es (length es)) last ≡ b
    → IsBestWay (step_demerits ps es) (row_at (table_of ps es (length es))) last b
row_way ps es last e b h =
    let P : Option Best → Type 0 = λ b. IsBestWay (step_demerits ps es) (row_at (table_of ps es (length es))) last b in
    subst P h (best_way (step_demerits ps es) (row_at (table_of ps es (length es))) (leads ps es) (length es) last (omega arith) (λ k le. chosen_row ps es (length es) k (omega arith)))

-- the breaks that the table names are the least solution
pub least_by_table : (ps : LineParams) (es : List Entry) (last : ℕ) → last + 1 ≡ length es → (b : Best) → row_at (table_of ps es (length es)) last ≡ Some b
    → (js : List ℕ) → Follows (row_at (table_of ps es (length es))) b.from js → IsLeast ps es (last ∷ js) b.total
least_by_table ps es last e b h js f = least_solution ps es (row_at (table_of ps es (length es))) last e b (row_way ps es last e (Some b) h) js f

-- if the table has nothing, there is no feasible solution
pub none_by_table : (ps : LineParams) (es : List Entry) (last : ℕ) → last + 1 ≡ length es → row_at (table_of ps es (length es)) last ≡ None → HasNone ps es
none_by_table ps es last e h = no_solution ps es (row_at (table_of ps es (length es))) last e (row_way ps es last e None h)

-- the rows that the rows of a table name come earlier
pub table_linked : (ps : LineParams) (es : List Entry) (n k : ℕ) (b : Best) (i : ℕ) → k < n → row_at (table_of ps es n) k ≡ Some b → b.from ≡ Some i → (i < k) × ((c : Best) × (row_at (table_of ps es n) i ≡ Some c))
table_linked ps es n k b i lt h e =
    let P : Option Best → Type 0 = λ x. Chosen (step_demerits ps es) (row_at (table_of ps es n)) k x in
    let c = subst P h (chosen_row ps es n k lt) in
    let o : offer (step_demerits ps es) (row_at (table_of ps es n)) k (Some i) ≡ Some b.total = ap (offer (step_demerits ps es) (row_at (table_of ps es n)) k) (sym e) ∙ c.0 in
    let parts = both_parts (total_in (row_at (table_of ps es n) i)) (step_demerits ps es (Some i) k) b.total o in
    let row = entry_of_total (row_at (table_of ps es n) i) parts.0 parts.2 in
    ((leads ps es).on i k parts.1 parts.3, (row.0, row.1))

pub row_within : (rows : List (Option Best)) (k : ℕ) (b : Best) → row_at rows k ≡ Some b → k < length rows
row_within [] k b h = absurd (cc)
row_within (r ∷ rows) zero b h = omega arith
row_within (r ∷ rows) (suc k) b h = let lt : k < length rows = row_within rows k b h in omega arith

pub linked_rows : (ps : LineParams) (es : List Entry) (n : ℕ) → AreLinked (table_of ps es n)
linked_rows ps es n k b i h e = table_linked ps es n k b i (let lt : k < length (table_of ps es n) = row_within (table_of ps es n) k b h in let l : length (table_of ps es n) ≡ n = length-table_of ps es n in omega arith) h e
