-- Breaks that are left out begin no feasible line.
use Rattle.std.proofs.Common.{◌≡◌, refl, sym, ◌∙◌, ap, subst, inl, inr, ℕ, zero, suc, ◌<◌, ◌≤◌, ◌+◌, ◌-◌, min, ℤ, pos, Bool, true, false, List, [], ◌∷◌, length, take, get_or, Option, None, Some, arith}
use Rattle.std.specs.Prelude.{negsuc, nat_lt, nat_le, ◌&&◌, slice_get, if◌then◌else◌}
use Rattle.std.specs.Ordering.{int_eq}
use Rattle.std.proofs.lemmas.Option.{get_or_from_slice_get}
use Rattle.std.proofs.lemmas.Bool.{true≢false, cases_eq, and_parts}
use Rattle.std.proofs.lemmas.Bool.Decides.{nat_tests}
use Rattle.tb_scaled.specs.Scaled.{badness_of}
use Rattle.tb_lines.specs.declared.text.LineParams.{LineParams}
use Rattle.tb_lines.specs.declared.entries.Entry.{Entry}
use Rattle.tb_lines.specs.declared.sums.Sums.{Sums}
use Rattle.tb_lines.specs.declared.table.Best.{Best}
use Rattle.tb_lines.specs.declared.table.Active.{Active}
use Rattle.tb_lines.specs.Entries.{passes, after_word, is_legal_entry, is_legal, is_forced, entry_penalty, penalty_at, first_word, line_start, line_between}
use Rattle.tb_lines.specs.Demerits.{plus_sums, sums_of, line_badness, penalty_demerits, feasible_demerits, sums_demerits, line_demerits}
use Rattle.tb_lines.specs.LeastSolution.{sum_of_both}
use Rattle.tb_lines.specs.SolutionLines.{last_forced, is_within, is_up_to, is_step, step_demerits}
use Rattle.tb_lines.specs.Table.{total_in, offer, with_offer, best_among, row_at, table_of}
use Rattle.tb_lines.specs.ActiveBreaks.{IsPassedBy, IsPassed, IsActive}
use Rattle.tb_lines.specs.Prepared.{least_width, AreRunning, AreFirstWords, AreFloors}
use Rattle.tb_lines.proofs.LineSums.{line_sums}
use Rattle.tb_lines.proofs.RunLemmas.{read_sum, line_penalty}
use Rattle.tb_lines.proofs.Solutions.{forced_up_to}
use Rattle.tb_lines.proofs.LeastWays.{rows_agree, length-table_of}
use Rattle.tb_lines.proofs.Offers.{skipped, no_offer, none_before_forced, row_read}

-- ---- a line that is too wide

inside_by : (test : Entry → Bool) (es : List Entry) (k : ℕ) → passes test (slice_get es k) ≡ true → k < length es
inside_by test [] k h = absurd (true≢false (sym h))
inside_by test (e ∷ es) zero h = omega arith
inside_by test (e ∷ es) (suc k) h = let lt : k < length es = inside_by test es k h in omega arith

pub legal_inside : (es : List Entry) (k : ℕ) → is_legal es k ≡ true → k < length es
legal_inside es k h = inside_by (is_legal_entry (after_word es k)) es k h

no_badness : (hsize : ℕ) (s : Sums) → hsize + s.shrink < s.width → line_badness hsize s ≡ None
unfolding line_badness
no_badness hsize s h =
    let wide : nat_lt s.width hsize ≡ false = grind (arith, nat_tests) in
    let over : nat_lt s.shrink (s.width - hsize) ≡ true = grind (arith, nat_tests) in
    ap (λ t. if t then Some (if nat_lt 0 s.fills then pos 0 else badness_of (pos (hsize - s.width)) (pos s.stretch)) else (if nat_lt s.shrink (s.width - hsize) then None else Some (badness_of (pos (s.width - hsize)) (pos s.shrink)))) wide
    ∙ ap (λ t. if t then None else Some (badness_of (pos (s.width - hsize)) (pos s.shrink))) over

no_demerits : (ps : LineParams) (s : Sums) (p : ℤ) → ps.hsize + s.shrink < s.width → sums_demerits ps s p ≡ None
unfolding sums_demerits
no_demerits ps s p h = ap (feasible_demerits ps p) (no_badness ps.hsize s h)

wider : (h a b la lb ta tb f : ℕ) → a + la ≡ ta → b + lb ≡ tb → tb ≤ 281474976710656 → f ≤ ta + (281474976710656 - tb) → h + (a + (281474976710656 - b)) < f → h + lb < la
wider h a b la lb ta tb f w s few le lt = omega arith

-- a line that begins at this start is too wide for break `to` and all past it, whose least width before a break is f
pub too_wide : (ps : LineParams) (es : List Entry) (i to start : ℕ) (s : Sums) (f : ℕ) → start ≡ first_word es (i + 1) → start ≤ to → s ≡ sums_of (take start es)
    → ((j : ℕ) → to ≤ j → j < length es → is_legal es j ≡ true → f ≤ least_width (sums_of (take j es)))
    → ((j : ℕ) → j < length es → (sums_of (take j es)).shrink ≤ 281474976710656) → ps.hsize + least_width s < f → (j : ℕ) → to ≤ j → step_demerits ps es (Some i) j ≡ None
too_wide ps es i to start s f here within sums floor few over j le = by_step (is_step es (Some i) j) refl
  where
    wide : is_legal es j ≡ true → is_within (Some i) j ≡ true → ps.hsize + (sums_of (line_between es (Some i) j)).shrink < (sums_of (line_between es (Some i) j)).width
    wide legal after =
        let lt : j < length es = legal_inside es j legal in
        let first : line_start es (Some i) j ≡ start = ap (λ n. min n j) (sym here) ∙ (let m : min start j ≡ start = omega arith in m) in
        let whole : plus_sums s (sums_of (line_between es (Some i) j)) ≡ sums_of (take j es) =
        ap (λ x. plus_sums x (sums_of (line_between es (Some i) j))) (sums ∙ ap (λ n. sums_of (take n es)) (sym first)) ∙ line_sums es (Some i) j after (omega arith) in
        wider ps.hsize s.width s.shrink (sums_of (line_between es (Some i) j)).width (sums_of (line_between es (Some i) j)).shrink (sums_of (take j es)).width (sums_of (take j es)).shrink f
        (ap (λ x. x.width) whole) (ap (λ x. x.shrink) whole) (few j lt) (floor j le lt legal) over

    by_step : (t : Bool) → is_step es (Some i) j ≡ t → (if t then line_demerits ps es (Some i) j else None) ≡ None
    by_step false e = refl
    by_step true e =
        let a = and_parts (is_legal es j && is_within (Some i) j) (is_up_to (last_forced es j) (Some i)) e in
        let b = and_parts (is_legal es j) (is_within (Some i) j) a.0 in
        no_demerits ps (sums_of (line_between es (Some i) j)) (penalty_demerits (penalty_at es j)) (wide b.0 b.1)

-- the same from what the code reads
pub too_wide_read : (ps : LineParams) (es : List Entry) (sums : List Sums) (starts : List ℕ) (floors : List ℕ) (i to start : ℕ) (d s : Sums) (e f k : ℕ)
    → AreRunning es sums → AreFirstWords es starts → AreFloors es floors → length es ≤ 65536 → i < to → to < length es
    → start ≡ get_or starts (i + 1) k → s ≡ get_or sums start d → f ≡ get_or floors to e → start ≤ to → ps.hsize + least_width s < f
    → (j : ℕ) → to ≤ j → step_demerits ps es (Some i) j ≡ None
too_wide_read ps es sums starts floors i to start d s e f k running words narrow few lt in' here read floor within over =
    too_wide ps es i to start s f (here ∙ get_or_from_slice_get starts (i + 1) (first_word es (i + 1)) k (words.each (i + 1) (omega arith))) within
    (read_sum es sums start d s running (omega arith) read)
    (λ j le less legal. subst (λ x. x ≤ least_width (sums_of (take j es))) (sym floor) (narrow.each to j e le less legal))
    (λ j less. let s = (running.small j (omega arith)).shrink in omega arith) over

-- ---- the best before the first break that is tried

pub best_of_active : (ps : LineParams) (es : List Entry) (rows : List (Option Best)) (j low : ℕ) → ((i : ℕ) → i < low → IsPassedBy ps es j (row_at rows i) i) → (b : Option Best)
    → b ≡ with_offer None None (sum_of_both (Some (pos 0)) (step_demerits ps es None j)) → b ≡ best_among (offer (step_demerits ps es) (row_at rows) j) low
best_of_active ps es rows j low passed b h = h ∙ sym (skipped (offer (step_demerits ps es) (row_at rows) j) low (λ i lt. none i (passed i lt)))
  where
    none : (i : ℕ) → IsPassedBy ps es j (row_at rows i) i → offer (step_demerits ps es) (row_at rows) j (Some i) ≡ None
    none i (inl e) = ap (λ r. sum_of_both (total_in r) (step_demerits ps es (Some i) j)) e
    none i (inr f) = no_offer ps es (row_at rows) j (Some i) (f j (omega arith))

-- ---- from place to place

abbrev pub with_low : Active → ℕ → Active
with_low a n = record a { low = n }

further : (forced : Option ℕ) (low more : ℕ) → low ≤ more → is_up_to forced (Some low) ≡ true → is_up_to forced (Some more) ≡ true
further None low more le h = refl
further (Some k) low more le h = grind (arith, nat_tests)

-- one more break is left out
pub active_step : (ps : LineParams) (es : List Entry) (n low : ℕ) (a : Active) → IsActive ps es n (with_low a low) → low < n → IsPassed ps es n low → IsActive ps es n (with_low a (low + 1))
active_step ps es n low a h lt p = record {
  forced = h.forced;
  up_to = further a.forced low (low + 1) (omega arith) h.up_to;
  within = omega arith;
  passed = λ i less. elim (cases_eq i low) [ inl e ↦ subst (λ k. IsPassed ps es n k) (sym e) p | inr ne ↦ h.passed i (omega arith) ];
}

-- a break that was left out stays so
passed_on : (ps : LineParams) (es : List Entry) (n i : ℕ) → i < n → IsPassed ps es n i → IsPassed ps es (n + 1) i
passed_on ps es n i lt (inl e) = inl (rows_agree ps es (n + 1) n i (omega arith) lt ∙ e)
passed_on ps es n i lt (inr f) = inr (λ j le. f j (omega arith))

-- after a place at which no line must end
pub active_more : (ps : LineParams) (es : List Entry) (n : ℕ) (d : Entry) (a : Active) → n < length es → IsActive ps es n a → int_eq (entry_penalty (get_or es n d)) (negsuc 9999) ≡ false → IsActive ps es (n + 1) a
active_more ps es n d a in' h test =
    let free : is_forced es n ≡ false = ap (λ p. int_eq p (negsuc 9999)) (sym (line_penalty es n d (entry_penalty (get_or es n d)) in' refl)) ∙ test in
    let one : suc n ≡ n + 1 = omega arith in
    record {
      forced = h.forced ∙ ap (λ t. if t then Some n else last_forced es n) (sym free) ∙ ap (last_forced es) one;
      up_to = h.up_to;
      within = let w : a.low ≤ n = h.within in omega arith;
      passed = λ i lt. passed_on ps es n i (let w : a.low ≤ n = h.within in omega arith) (h.passed i lt);
    }

-- after a place at which a line must end
pub active_forced : (ps : LineParams) (es : List Entry) (n : ℕ) (d : Entry) (a : Active) → n < length es → a.forced ≡ Some n → a.low ≡ n → int_eq (entry_penalty (get_or es n d)) (negsuc 9999) ≡ true → IsActive ps es (n + 1) a
active_forced ps es n d a in' f l test =
    let must : is_forced es n ≡ true = ap (λ p. int_eq p (negsuc 9999)) (sym (line_penalty es n d (entry_penalty (get_or es n d)) in' refl)) ∙ test in
    let one : suc n ≡ n + 1 = omega arith in
    record {
      forced = f ∙ ap (λ t. if t then Some n else last_forced es n) (sym must) ∙ ap (last_forced es) one;
      up_to = ap (λ x. is_up_to x (Some a.low)) f ∙ (let h : nat_le n a.low ≡ true = grind (arith, nat_tests) in h);
      within = omega arith;
      passed = λ i lt. inr (λ j le.
          let m = forced_up_to es j n (omega arith) must in
          let le' : n ≤ m.0 = m.2 in
          none_before_forced ps es j (Some m.0) (sym m.1) i (omega arith));
    }

-- a row that the code reads is the table's
pub passed_read : (ps : LineParams) (es : List Entry) (rows : List (Option Best)) (n i : ℕ) (d r : Option Best) → rows ≡ table_of ps es n → i < n → r ≡ get_or rows i d → IsPassedBy ps es n r i → IsPassed ps es n i
passed_read ps es rows n i d r e lt h p =
    let l : length rows ≡ n = ap length e ∙ length-table_of ps es n in
    subst (λ x. IsPassedBy ps es n x i) (row_read rows i d r (omega arith) h ∙ ap (λ xs. row_at xs i) e) p
