-- The function that gives the least solution gives it, and there is no other.
use Rattle.std.proofs.Common.{◌≡◌, refl, sym, ◌∙◌, ap, subst, ℕ, suc, ◌<◌, ◌≤◌, ◌+◌, ℤ, Bool, true, false, List, [], ◌∷◌, length, Option, None, Some, Result, Ok, Err, arith}
use Rattle.std.specs.Prelude.{◌≤ℤ◌, nat_lt, ◌==◌, ◌&&◌, reverse, MatchOption}
use Rattle.std.proofs.lemmas.Int.{ints}
use Rattle.std.proofs.lemmas.Bool.{true≢false, or_parts}
use Rattle.std.proofs.lemmas.Bool.Decides.{nat_tests}
use Rattle.std.proofs.lemmas.List.{reverse-reverse}
use Rattle.tb_lines.specs.declared.text.Item.{Item}
use Rattle.tb_lines.specs.declared.text.LineParams.{LineParams}
use Rattle.tb_lines.specs.declared.text.Paragraph.{Paragraph}
use Rattle.tb_lines.specs.declared.entries.Entry.{Entry}
use Rattle.tb_lines.specs.Solution.{SolutionView}
use Rattle.tb_lines.specs.Entries.{list_of, is_forced}
use Rattle.tb_lines.specs.LeastSolution.{first_of, IsAfter, IsSolution, IsLeast, IsLeastOf, HasNone, is_greater}
use Rattle.tb_lines.specs.LineText.{AreLeast}
use Rattle.tb_lines.specs.Galley.{ways_before, first_least, solution_of, least_of, solved, solutions_from}
use Rattle.tb_lines.proofs.Solutions.{among_le}
use Rattle.tb_lines.proofs.LeastWays.{forced_within}
use Rattle.tb_lines.proofs.AllWays.{IsWay, ways_are, ways_all, ways_descend, FirstOf, first_is}

-- ---- ways to the end of a list that ends with a forced break

first_is_last : (es : List Entry) (last : ℕ) (js : List ℕ) → last + 1 ≡ length es → is_forced es last ≡ true → IsWay es (length es) js → first_of js ≡ Some last
first_is_last es last [] e f w = absurd (w.forced last (omega arith) f)
first_is_last es last (j ∷ js) e f w =
    let le : last ≤ j = among_le last j js w.falling (w.forced last (omega arith) f) in
    let lt : j < length es = w.after in
    ap Some (omega arith)

way_solution : (es : List Entry) (last : ℕ) (js : List ℕ) → last + 1 ≡ length es → is_forced es last ≡ true → IsWay es (length es) js → IsSolution es js
way_solution es last js e f w = record {
  falling = w.falling;
  legal = w.legal;
  forced = λ k h. w.forced k (forced_within es k h) h;
  ends = (last, first_is_last es last js e f w, e);
}

solution_way : (es : List Entry) (js : List ℕ) → IsSolution es js → IsWay es (length es) js
solution_way es js s = record { after = before_end js s.ends.1; falling = s.falling; legal = s.legal; forced = λ k lt f. s.forced k f }
  where
    before_end : (js : List ℕ) → first_of js ≡ Some s.ends.0 → IsAfter (length es) js
    before_end [] h = tt
    before_end (j ∷ js) h = let same : j ≡ s.ends.0 = cc in let last : s.ends.0 + 1 ≡ length es = s.ends.2 in omega arith

first_least_is : (ps : LineParams) (es : List Entry) (last : ℕ) (o : Option (List ℕ × ℤ)) → last + 1 ≡ length es → is_forced es last ≡ true → FirstOf ps es (ways_before es (length es)) o
    → MatchOption o (HasNone ps es) (λ w. IsLeast ps es w.0 w.1)
first_least_is ps es last None e f h = λ js d s t. h js d (ways_all es (length es) js (solution_way es js s)) t
first_least_is ps es last (Some w) e f h = record {
  solution = way_solution es last w.0 e f (ways_are es (length es) w.0 h.is_in);
  sum = h.total;
  least = λ js d s t. h.least js d (ways_all es (length es) js (solution_way es js s)) t;
  greatest = λ js s t. h.greatest js (ways_all es (length es) js (solution_way es js s)) t;
}

-- a paragraph's list ends with a forced break
forced_end : (items : List Item) → (last : ℕ) × (last + 1 ≡ length (list_of items)) × (is_forced (list_of items) last ≡ true)
forced_end [] = (2, refl, refl)
forced_end (i ∷ items) = let r = forced_end items in (suc r.0, (let e : r.0 + 1 ≡ length (list_of items) = r.1 in omega arith), r.2)

solution_least : (ps : LineParams) (items : List Item) (o : Option (List ℕ × ℤ)) → MatchOption o (HasNone ps (list_of items)) (λ w. IsLeast ps (list_of items) w.0 w.1)
    → MatchOption (solution_of o) (HasNone ps (list_of items)) (λ s. IsLeastOf ps items s)
solution_least ps items None h = h
solution_least ps items (Some w) h = subst (λ js. IsLeast ps (list_of items) js w.1) (sym (reverse-reverse w.0)) h

-- what the function gives is the least solution, or no way is feasible
pub least_is : (ps : LineParams) (items : List Item) → MatchOption (least_of ps items) (HasNone ps (list_of items)) (λ s. IsLeastOf ps items s)
unfolding least_of
least_is ps items =
    let es = list_of items in
    let last = forced_end items in
    solution_least ps items (first_least ps es (ways_before es (length es)))
    (first_least_is ps es last.0 (first_least ps es (ways_before es (length es))) last.1 last.2 (first_is ps es (ways_before es (length es)) (ways_descend es (length es))))

-- ---- there is one least solution

same_front : (x y : ℕ) → nat_lt y x ≡ false → nat_lt x y ≡ false → x ≡ y
same_front x y h k = grind (arith, nat_tests)

and_false : (a b : Bool) → a ≡ true → (a && b) ≡ false → b ≡ false
and_false true b e h = h
and_false false b e h = absurd (true≢false (sym e))

pub greater_one : (xs ys : List ℕ) → is_greater xs ys ≡ false → is_greater ys xs ≡ false → xs ≡ ys
greater_one [] [] h k = refl
greater_one [] (y ∷ ys) h k = absurd (true≢false k)
greater_one (x ∷ xs) [] h k = absurd (true≢false h)
greater_one (x ∷ xs) (y ∷ ys) h k =
    let a = or_parts (nat_lt y x) ((x == y) && is_greater xs ys) h in
    let b = or_parts (nat_lt x y) ((y == x) && is_greater ys xs) k in
    let same : x ≡ y = same_front x y a.0 b.0 in
    let rest : xs ≡ ys = greater_one xs ys (and_false (x == y) (is_greater xs ys) (grind (arith, nat_tests)) a.1) (and_false (y == x) (is_greater ys xs) (grind (arith, nat_tests)) b.1) in
    cc

same_amount : (a b : ℤ) → a ≤ℤ b → b ≤ℤ a → a ≡ b
same_amount a b h k = omega (arith, ints)

least_one : (ps : LineParams) (es : List Entry) (xs ys : List ℕ) (a b : ℤ) → IsLeast ps es xs a → IsLeast ps es ys b → (xs ≡ ys) × (a ≡ b)
least_one ps es xs ys a b h k =
    let same : a ≡ b = same_amount a b (h.least ys b k.solution k.sum) (k.least xs a h.solution h.sum) in
    (greater_one xs ys (k.greatest xs h.solution (h.sum ∙ ap Some same)) (h.greatest ys k.solution (k.sum ∙ ap Some (sym same))), same)

same_solution : (s t : SolutionView) → reverse s.breaks ≡ reverse t.breaks → s.total ≡ t.total → s ≡ t
same_solution s t e f =
    let breaks : s.breaks ≡ t.breaks = sym (reverse-reverse s.breaks) ∙ ap reverse e ∙ reverse-reverse t.breaks in
    ap (λ js. let r : SolutionView = record { breaks = js; total = s.total } in r) breaks ∙ ap (λ d. let r : SolutionView = record { breaks = t.breaks; total = d } in r) f

by_both : (ps : LineParams) (items : List Item) (o p : Option SolutionView) → MatchOption o (HasNone ps (list_of items)) (λ s. IsLeastOf ps items s) → MatchOption p (HasNone ps (list_of items)) (λ s. IsLeastOf ps items s) → o ≡ p
by_both ps items None None h k = refl
by_both ps items None (Some t) h k = absurd (h (reverse t.breaks) t.total k.solution k.sum)
by_both ps items (Some s) None h k = absurd (k (reverse s.breaks) s.total h.solution h.sum)
by_both ps items (Some s) (Some t) h k = let r = least_one ps (list_of items) (reverse s.breaks) (reverse t.breaks) s.total t.total h k in ap Some (same_solution s t r.0 r.1)

-- a least solution is what the function gives
pub least_exact : (ps : LineParams) (items : List Item) (o : Option SolutionView) → MatchOption o (HasNone ps (list_of items)) (λ s. IsLeastOf ps items s) → o ≡ least_of ps items
least_exact ps items o h = by_both ps items o (least_of ps items) h (least_is ps items)

-- ---- all paragraphs

-- the solutions of all paragraphs are least
pub solutions_least : (ps : LineParams) (n : ℕ) (pars : List Paragraph) (ss : List SolutionView) → solutions_from ps n pars ≡ Ok ss → AreLeast ps pars ss
solutions_least ps n [] [] h = tt
solutions_least ps n [] (s ∷ ss) h = absurd (cc)
solutions_least ps n (p ∷ pars) ss h = by_first (least_of ps p.items) (least_is ps p.items) (solutions_from ps (n + 1) pars) (λ ts e. solutions_least ps (n + 1) pars ts e) ss h
  where
    by_first : (o : Option SolutionView) → MatchOption o (HasNone ps (list_of p.items)) (λ s. IsLeastOf ps p.items s) → (later : Result (List SolutionView) ℕ) → ((ts : List SolutionView) → later ≡ Ok ts → AreLeast ps pars ts)
        → (ss : List SolutionView) → solved n o later ≡ Ok ss → AreLeast ps (p ∷ pars) ss
    by_first None l later f ss h = absurd (cc)
    by_first (Some s) l (Err m) f ss h = absurd (cc)
    by_first (Some s) l (Ok ts) f [] h = absurd (cc)
    by_first (Some s) l (Ok ts) f (u ∷ us) h =
        let same : s ∷ ts ≡ u ∷ us = cc in
        subst (λ (xs : List SolutionView). AreLeast ps (p ∷ pars) xs) same (l, f ts refl)
