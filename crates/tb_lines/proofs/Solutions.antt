-- The feasible solutions of a paragraph are the ways through the lines that may be in one.
use Rattle.std.proofs.Common.{◌≡◌, refl, sym, ◌∙◌, ap, inl, inr, ℕ, zero, suc, ◌<◌, ◌≤◌, ℤ, Bool, true, false, List, [], ◌∷◌, Option, None, Some, arith}
use Rattle.std.specs.Prelude.{nat_lt, ◌&&◌, if◌then◌else◌}
use Rattle.std.specs.List.{AllByRecursion}
use Rattle.std.proofs.lemmas.Bool.{true≢false, cases_eq, and_parts}
use Rattle.std.proofs.lemmas.Bool.Decides.{nat_tests}
use Rattle.tb_lines.specs.declared.entries.Entry.{Entry}
use Rattle.tb_lines.specs.declared.text.LineParams.{LineParams}
use Rattle.tb_lines.specs.Entries.{is_legal, is_forced}
use Rattle.tb_lines.specs.Demerits.{line_demerits}
use Rattle.tb_lines.specs.LeastSolution.{first_of, IsAfter, IsFalling, IsAmong, sum_of_both, total_demerits}
use Rattle.tb_lines.specs.SolutionLines.{last_forced, is_within, is_up_to, is_step, step_demerits}
use Rattle.tb_lines.proofs.BestWays.{cost, both_parts, LeadsOn}

-- a step that has demerits is one, and its line is feasible
if_some : (t : Bool) (x : Option ℤ) (d : ℤ) → (if t then x else None) ≡ Some d → (t ≡ true) × (x ≡ Some d)
if_some true x d h = (refl, h)
if_some false x d h = absurd (cc)

pub record IsStep (es : List Entry) (q : Option ℕ) (j : ℕ) : Type 0 where
  pub legal : is_legal es j ≡ true
  pub within : is_within q j ≡ true
  pub up_to : is_up_to (last_forced es j) q ≡ true

pub step_parts : (ps : LineParams) (es : List Entry) (q : Option ℕ) (j : ℕ) (d : ℤ) → step_demerits ps es q j ≡ Some d → IsStep es q j × (line_demerits ps es q j ≡ Some d)
step_parts ps es q j d h =
    let a = if_some (is_step es q j) (line_demerits ps es q j) d h in
    let b = and_parts (is_legal es j && is_within q j) (is_up_to (last_forced es j) q) a.0 in
    let c = and_parts (is_legal es j) (is_within q j) b.0 in
    (record { legal = c.0; within = c.1; up_to = b.1 }, a.1)

pub from_step_parts : (ps : LineParams) (es : List Entry) (q : Option ℕ) (j : ℕ) (d : ℤ) → IsStep es q j → line_demerits ps es q j ≡ Some d → step_demerits ps es q j ≡ Some d
from_step_parts ps es q j d s h =
    ap (λ t. if t then line_demerits ps es q j else None)
    (ap (λ a. (a && is_within q j) && is_up_to (last_forced es j) q) s.legal ∙ ap (λ a. a && is_up_to (last_forced es j) q) s.within ∙ s.up_to) ∙ h

pub leads : (ps : LineParams) (es : List Entry) → LeadsOn (step_demerits ps es)
leads ps es = record { on = λ i j d h. let w : nat_lt i j ≡ true = (step_parts ps es (Some i) j d h).0.within in grind (arith, nat_tests) }

-- ---- the last forced break

-- the last forced break before a place is one
pub last_forced_is : (es : List Entry) (j k : ℕ) → last_forced es j ≡ Some k → (k < j) × (is_forced es k ≡ true)
last_forced_is es zero k h = absurd (cc)
last_forced_is es (suc j) k h = tested (λ e. last_forced_is es j k e) (is_forced es j) refl h
  where
    tested : (last_forced es j ≡ Some k → (k < j) × (is_forced es k ≡ true)) → (t : Bool) → is_forced es j ≡ t → (if t then Some j else last_forced es j) ≡ Some k → (k < suc j) × (is_forced es k ≡ true)
    tested before true e h = let same : j ≡ k = cc in (omega arith, ap (is_forced es) (sym same) ∙ e)
    tested before false e h = let r = before h in (let lt : k < j = r.0 in omega arith, r.1)

-- no forced break is after it
pub forced_up_to : (es : List Entry) (j k : ℕ) → k < j → is_forced es k ≡ true → (m : ℕ) × (last_forced es j ≡ Some m) × (k ≤ m)
forced_up_to es zero k lt h = absurd (omega arith)
forced_up_to es (suc j) k lt h = tested (λ less. forced_up_to es j k less h) (is_forced es j) refl
  where
    tested : (k < j → (m : ℕ) × (last_forced es j ≡ Some m) × (k ≤ m)) → (t : Bool) → is_forced es j ≡ t → (m : ℕ) × ((if t then Some j else last_forced es j) ≡ Some m) × (k ≤ m)
    tested before true e = (j, refl, omega arith)
    tested before false e =
        let ne : (k ≡ j → ⊥) = λ same. true≢false (sym h ∙ ap (is_forced es) same ∙ e) in
        before (omega arith)

-- ---- from solutions to ways

-- a break is not after those that it is among
pub among_le : (k j : ℕ) (js : List ℕ) → IsFalling (j ∷ js) → IsAmong k (j ∷ js) → k ≤ j
among_le k j [] f (inl e) = omega arith
among_le k j [] f (inr a) = absurd a
among_le k j (i ∷ is) f (inl e) = omega arith
among_le k j (i ∷ is) f (inr a) = let le : k ≤ i = among_le k i is f.1 a in let lt : i < j = f.0 in omega arith

-- the breaks up to the first of these are legal, with all forced ones among them
pub record IsPart (es : List Entry) (js : List ℕ) : Type 0 where
  pub falling : IsFalling js
  pub legal : AllByRecursion (λ j. is_legal es j ≡ true) js
  pub forced : (j k : ℕ) → first_of js ≡ Some j → k ≤ j → is_forced es k ≡ true → IsAmong k js

-- among the breaks before j
later_among : (j k : ℕ) (js : List ℕ) → k < j → IsAmong k (j ∷ js) → IsAmong k js
later_among j k js lt (inl e) = absurd (omega arith)
later_among j k js lt (inr a) = a

tail_part : (es : List Entry) (j : ℕ) (js : List ℕ) → IsPart es (j ∷ js) → IsPart es js
tail_part es j [] p = record { falling = tt; legal = tt; forced = λ i k e. absurd (cc) }
tail_part es j (i ∷ is) p = record {
  falling = p.falling.1;
  legal = p.legal.1;
  forced = λ i' k e le f.
      let same : i ≡ i' = cc in let lt : i < j = p.falling.0 in
      later_among j k (i ∷ is) (omega arith) (p.forced j k refl (omega arith) f);
}

part_step : (es : List Entry) (j : ℕ) (js : List ℕ) → IsPart es (j ∷ js) → IsStep es (first_of js) j
part_step es j js p = record { legal = p.legal.0; within = within j js p.falling.0; up_to = last (last_forced es j) refl }
  where
    within : (j : ℕ) (js : List ℕ) → IsAfter j js → is_within (first_of js) j ≡ true
    within j [] a = refl
    within j (i ∷ is) a = let lt : i < j = a in grind (arith, nat_tests)

    up_to : (k : ℕ) (js : List ℕ) → IsFalling js → IsAmong k js → is_up_to (Some k) (first_of js) ≡ true
    up_to k [] f a = absurd a
    up_to k (i ∷ is) f a = let le : k ≤ i = among_le k i is f a in grind (arith, nat_tests)

    last : (l : Option ℕ) → last_forced es j ≡ l → is_up_to l (first_of js) ≡ true
    last None e = refl
    last (Some k) e =
        let is = last_forced_is es j k e in let lt : k < j = is.0 in
        up_to k js p.falling.1 (later_among j k js lt (p.forced j k refl (omega arith) is.1))

pub part_cost : (ps : LineParams) (es : List Entry) (js : List ℕ) (d : ℤ) → IsPart es js → total_demerits ps es js ≡ Some d → cost (step_demerits ps es) js ≡ Some d
part_cost ps es [] d p h = h
part_cost ps es (j ∷ js) d p h =
    let parts = both_parts (total_demerits ps es js) (line_demerits ps es (first_of js) j) d h in
    let before = part_cost ps es js parts.0 (tail_part es j js p) parts.2 in
    let step = from_step_parts ps es (first_of js) j parts.1 (part_step es j js p) parts.3 in
    ap (λ a. sum_of_both a (step_demerits ps es (first_of js) j)) before ∙ ap (λ a. sum_of_both (Some parts.0) a) step ∙ ap Some parts.4

-- ---- from ways to solutions

pub cost_total : (ps : LineParams) (es : List Entry) (js : List ℕ) (d : ℤ) → cost (step_demerits ps es) js ≡ Some d → total_demerits ps es js ≡ Some d
cost_total ps es [] d h = h
cost_total ps es (j ∷ js) d h =
    let parts = both_parts (cost (step_demerits ps es) js) (step_demerits ps es (first_of js) j) d h in
    let before = cost_total ps es js parts.0 parts.2 in
    let step = (step_parts ps es (first_of js) j parts.1 parts.3).1 in
    ap (λ a. sum_of_both a (line_demerits ps es (first_of js) j)) before ∙ ap (λ a. sum_of_both (Some parts.0) a) step ∙ ap Some parts.4

up_to_first : (m : ℕ) (js : List ℕ) → is_up_to (Some m) (first_of js) ≡ true → (i : ℕ) × (first_of js ≡ Some i) × (m ≤ i)
up_to_first m [] h = absurd (true≢false (sym h))
up_to_first m (i ∷ is) h = (i, refl, grind (arith, nat_tests))

within_after : (j : ℕ) (js : List ℕ) → is_within (first_of js) j ≡ true → IsAfter j js
within_after j [] h = tt
within_after j (i ∷ is) h = grind (arith, nat_tests)

pub cost_part : (ps : LineParams) (es : List Entry) (js : List ℕ) (d : ℤ) → cost (step_demerits ps es) js ≡ Some d → IsPart es js
cost_part ps es [] d h = record { falling = tt; legal = tt; forced = λ i k e. absurd (cc) }
cost_part ps es (j ∷ js) d h =
    let parts = both_parts (cost (step_demerits ps es) js) (step_demerits ps es (first_of js) j) d h in
    let p = cost_part ps es js parts.0 parts.2 in
    let s = (step_parts ps es (first_of js) j parts.1 parts.3).0 in
    record {
      falling = (within_after j js s.within, p.falling);
      legal = (s.legal, p.legal);
      forced = λ j' k e le f.
          let same : j ≡ j' = cc in
          held s p k (omega arith) f;
    }
  where
    earlier : IsStep es (first_of js) j → IsPart es js → (k : ℕ) → k < j → is_forced es k ≡ true → IsAmong k js
    earlier s p k lt f =
        let m = forced_up_to es j k lt f in
        let i = up_to_first m.0 js (ap (λ l. is_up_to l (first_of js)) (sym m.1) ∙ s.up_to) in
        let le : k ≤ m.0 = m.2 in let le' : m.0 ≤ i.0 = i.2 in
        p.forced i.0 k i.1 (omega arith) f

    held : IsStep es (first_of js) j → IsPart es js → (k : ℕ) → k ≤ j → is_forced es k ≡ true → IsAmong k (j ∷ js)
    held s p k le f = elim (cases_eq k j) [
      | inl e ↦ inl e
      | inr ne ↦ inr (earlier s p k (omega arith) f)
    ]
