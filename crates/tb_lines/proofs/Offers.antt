-- What the code offers is what the table's definition offers.
use Rattle.std.proofs.Common.{◌≡◌, refl, sym, ◌∙◌, ap, subst, ℕ, zero, suc, ◌<◌, ◌≤◌, ◌+◌, ℤ, true, false, List, [], ◌∷◌, length, get_or, Option, None, Some, IfSome, ◌++◌, ◌⊎◌, inl, inr, arith}
use Rattle.std.proofs.Math.Bool.{and-false}
use Rattle.std.specs.Prelude.{nat_lt, nat_le, ◌&&◌, unwrap_or, if◌then◌else◌}
use Rattle.std.proofs.lemmas.Bool.Decides.{nat_tests}
use Rattle.std.proofs.lemmas.Option.{slice_get-get_or}
use Rattle.tb_lines.specs.declared.entries.Entry.{Entry}
use Rattle.tb_lines.specs.declared.table.Best.{Best}
use Rattle.tb_lines.specs.declared.text.LineParams.{LineParams}
use Rattle.tb_lines.specs.Entries.{is_legal}
use Rattle.tb_lines.specs.Demerits.{line_demerits}
use Rattle.tb_lines.specs.LeastSolution.{sum_of_both}
use Rattle.tb_lines.specs.SolutionLines.{last_forced, is_within, is_up_to, step_demerits}
use Rattle.tb_lines.specs.Table.{total_in, reached, offer, with_offer, best_among, row_in, row_at, table_of}
use Rattle.tb_lines.specs.Prepared.{IsSmallTotal, HasSmallTotals}

-- breaks that offer nothing change nothing
pub skipped : (offers : Option ℕ → Option ℤ) (low : ℕ) → ((i : ℕ) → i < low → offers (Some i) ≡ None) → best_among offers low ≡ with_offer None None (offers None)
skipped offers zero none = refl
skipped offers (suc i) none =
    ap (with_offer (best_among offers i) (Some i)) (none i (omega arith)) ∙ skipped offers i (λ k lt. none k (omega arith))

none_right : (a : Option ℤ) → sum_of_both a None ≡ None
none_right None = refl
none_right (Some a) = refl

pub no_offer : (ps : LineParams) (es : List Entry) (table : ℕ → Option Best) (j : ℕ) (q : Option ℕ) → step_demerits ps es q j ≡ None → offer (step_demerits ps es) table j q ≡ None
no_offer ps es table j q h = ap (sum_of_both (reached table q)) h ∙ none_right (reached table q)

-- past the last forced break a line may be in a solution
pub step_is : (ps : LineParams) (es : List Entry) (j low i : ℕ) (forced : Option ℕ) → is_legal es j ≡ true → forced ≡ last_forced es j → is_up_to forced (Some low) ≡ true → low ≤ i → i < j
    → step_demerits ps es (Some i) j ≡ line_demerits ps es (Some i) j
step_is ps es j low i forced legal e up le lt =
    ap (λ t. if t then line_demerits ps es (Some i) j else None)
    (ap (λ a. (a && nat_lt i j) && is_up_to (last_forced es j) (Some i)) legal
    ∙ ap (λ a. a && is_up_to (last_forced es j) (Some i)) (let w : nat_lt i j ≡ true = grind (arith, nat_tests) in w)
    ∙ ap (λ f. is_up_to f (Some i)) (sym e) ∙ further forced up)
  where
    further : (forced : Option ℕ) → is_up_to forced (Some low) ≡ true → is_up_to forced (Some i) ≡ true
    further None up = refl
    further (Some k) up = let h : nat_le k low ≡ true = up in grind (arith, nat_tests)

pub row_read : (rows : List (Option Best)) (i : ℕ) (d r : Option Best) → i < length rows → r ≡ get_or rows i d → r ≡ row_at rows i
row_read rows i d r lt h = h ∙ ap row_in (sym (slice_get-get_or rows i d lt))

-- one more break
pub best_more : (ps : LineParams) (es : List Entry) (rows : List (Option Best)) (j low i : ℕ) (forced : Option ℕ) → is_legal es j ≡ true → forced ≡ last_forced es j → is_up_to forced (Some low) ≡ true → low ≤ i → i < j
    → (best row new d : Option Best) → i < length rows → row ≡ get_or rows i d
    → best ≡ best_among (offer (step_demerits ps es) (row_at rows) j) i
    → new ≡ with_offer best (Some i) (sum_of_both (total_in row) (line_demerits ps es (Some i) j))
    → new ≡ best_among (offer (step_demerits ps es) (row_at rows) j) (i + 1)
best_more ps es rows j low i forced legal e up le lt best row new d lt' r b h =
    let one : suc i ≡ i + 1 = omega arith in
    h ∙ ap (λ x. with_offer x (Some i) (sum_of_both (total_in row) (line_demerits ps es (Some i) j))) b
    ∙ ap (λ x. with_offer (best_among (offer (step_demerits ps es) (row_at rows) j) i) (Some i) (sum_of_both (total_in x) (line_demerits ps es (Some i) j))) (row_read rows i d row lt' r)
    ∙ ap (λ x. with_offer (best_among (offer (step_demerits ps es) (row_at rows) j) i) (Some i) (sum_of_both (total_in (row_at rows i)) x)) (sym (step_is ps es j low i forced legal e up le lt))
    ∙ ap (best_among (offer (step_demerits ps es) (row_at rows) j)) one

-- the total of a row that is read
pub row_small : (rows : List (Option Best)) (i : ℕ) (d r : Option Best) → HasSmallTotals rows → i < length rows → r ≡ get_or rows i d → IfSome r (λ b. IsSmallTotal (i + 1) b.total)
row_small rows i d r small lt h = at r (row_read rows i d r lt h)
  where
    at : (r : Option Best) → r ≡ row_at rows i → IfSome r (λ b. IsSmallTotal (i + 1) b.total)
    at None e = tt
    at (Some b) e = small i b (sym e)

-- no line ends at a place at which none may
pub not_legal : (ps : LineParams) (es : List Entry) (rows : List (Option Best)) (j : ℕ) → is_legal es j ≡ false → None ≡ best_among (offer (step_demerits ps es) (row_at rows) j) j
not_legal ps es rows j h = sym (all_none j)
  where
    none : (q : Option ℕ) → offer (step_demerits ps es) (row_at rows) j q ≡ None
    none q = no_offer ps es (row_at rows) j q (ap (λ a. if (a && is_within q j) && is_up_to (last_forced es j) q then line_demerits ps es q j else None) h)

    all_none : (i : ℕ) → best_among (offer (step_demerits ps es) (row_at rows) j) i ≡ None
    all_none zero = ap (with_offer None None) (none None)
    all_none (suc i) = ap (λ b. with_offer b (Some i) (offer (step_demerits ps es) (row_at rows) j (Some i))) (all_none i) ∙ ap (with_offer None (Some i)) (none (Some i))

-- before the last forced break no line begins
pub none_before_forced : (ps : LineParams) (es : List Entry) (j : ℕ) (forced : Option ℕ) → forced ≡ last_forced es j → (i : ℕ) → i < unwrap_or forced 0 → step_demerits ps es (Some i) j ≡ None
none_before_forced ps es j None e i lt = absurd (omega arith)
none_before_forced ps es j (Some k) e i lt =
    ap (λ t. if (is_legal es j && nat_lt i j) && t then line_demerits ps es (Some i) j else None)
    (ap (λ f. is_up_to f (Some i)) (sym e) ∙ (let no : nat_le k i ≡ false = grind (arith, nat_tests) in no))
    ∙ ap (λ t. if t then line_demerits ps es (Some i) j else None) (and-false (is_legal es j && nat_lt i j))

-- one more row
row_cases : (rows : List (Option Best)) (r : Option Best) (k : ℕ) (b : Best) → row_at (rows ++ r ∷ []) k ≡ Some b → (row_at rows k ≡ Some b) ⊎ ((k ≡ length rows) × (r ≡ Some b))
row_cases [] r zero b h = inr (refl, h)
row_cases [] r (suc k) b h = absurd (cc)
row_cases (x ∷ rows) r zero b h = inl h
row_cases (x ∷ rows) r (suc k) b h = elim (row_cases rows r k b h) [ inl g ↦ inl g | inr g ↦ inr (ap suc g.0, g.1) ]

of_some : (n : ℕ) (b : Best) (r : Option Best) → r ≡ Some b → IfSome r (λ x. IsSmallTotal (n + 1) x.total) → IsSmallTotal (n + 1) b.total
of_some n b None f h = absurd (cc)
of_some n b (Some x) f h = let same : x ≡ b = cc in let P : Best → Type 0 = λ y. IsSmallTotal (n + 1) y.total in subst P same h

pub small_more : (rows : List (Option Best)) (n : ℕ) (r : Option Best) → length rows ≡ n → HasSmallTotals rows → IfSome r (λ b. IsSmallTotal (n + 1) b.total) → HasSmallTotals (rows ++ r ∷ [])
small_more rows n r e small h k b at = elim (row_cases rows r k b at) [
  | inl g ↦ small k b g
  | inr g ↦ let P : ℕ → Type 0 = λ x. IsSmallTotal (x + 1) b.total in subst P (let same : n ≡ k = sym e ∙ sym g.0 in same) (of_some n b r g.1 h)
]

pub table_more : (ps : LineParams) (es : List Entry) (rows seen : List (Option Best)) (j : ℕ) (row : Option Best) (new : List (Option Best)) → rows ≡ table_of ps es j → seen ≡ rows
    → row ≡ best_among (offer (step_demerits ps es) (row_at seen) j) j → new ≡ rows ++ row ∷ [] → new ≡ table_of ps es (j + 1)
table_more ps es rows seen j row new e s r n =
    let one : suc j ≡ j + 1 = omega arith in
    n ∙ ap (λ xs. xs ++ row ∷ []) e
    ∙ ap (λ x. table_of ps es j ++ x ∷ []) (r ∙ ap (λ xs. best_among (offer (step_demerits ps es) (row_at xs) j) j) (s ∙ e))
    ∙ ap (table_of ps es) one
