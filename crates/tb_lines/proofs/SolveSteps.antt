-- Steps of the loop that solves all paragraphs.
use Rattle.std.proofs.Common.{◌≡◌, refl, sym, ◌∙◌, ap, ℕ, zero, suc, ◌<◌, ◌≤◌, ◌+◌, List, [], ◌∷◌, ◌++◌, length, drop, Option, None, Some, Result, Ok, Err, arith, append_assoc}
use Rattle.std.specs.Prelude.{slice_get, MatchOption}
use Rattle.std.proofs.lemmas.List.{at_drop_all}
use Rattle.tb_lines.specs.declared.text.LineParams.{LineParams}
use Rattle.tb_lines.specs.declared.text.Paragraph.{Paragraph}
use Rattle.tb_lines.specs.Solution.{SolutionView}
use Rattle.tb_lines.specs.Entries.{list_of}
use Rattle.tb_lines.specs.LeastSolution.{IsLeastOf, HasNone}
use Rattle.tb_lines.specs.Galley.{least_of, with_first, solved, solutions_from}
use Rattle.tb_lines.proofs.LeastOf.{least_exact}

-- solutions before those of the later paragraphs
abbrev pub after_these : List SolutionView → Result (List SolutionView) ℕ → Result (List SolutionView) ℕ
after_these ss (Ok ts) = Ok (ss ++ ts)
after_these ss (Err n) = Err n

pub solve_start : (r : Result (List SolutionView) ℕ) (ss : List SolutionView) → ss ≡ [] → after_these ss r ≡ r
solve_start (Ok ts) ss e = ap (λ xs. Ok (xs ++ ts)) e
solve_start (Err n) ss e = refl

-- the paragraph at a place, and what is left from there on
at_place : (pars : List Paragraph) (n : ℕ) → n < length pars → (p : Paragraph) × (slice_get pars n ≡ Some p) × (drop n pars ≡ p ∷ drop (suc n) pars)
at_place [] n lt = absurd (omega arith)
at_place (p ∷ pars) zero lt = (p, refl, refl)
at_place (p ∷ pars) (suc n) lt = at_place pars n (omega arith)

-- what the code's breaking of a paragraph says
abbrev pub IsBroken : LineParams → List Paragraph → ℕ → Option SolutionView → Type 0
IsBroken ps pars n o = (p : Paragraph) → slice_get pars n ≡ Some p → MatchOption o (HasNone ps (list_of p.items)) (λ s. IsLeastOf ps p.items s)

solved_at : (ps : LineParams) (pars : List Paragraph) (n : ℕ) (o : Option SolutionView) → n < length pars → IsBroken ps pars n o
    → solutions_from ps (n + 1) (drop n pars) ≡ solved (n + 1) o (solutions_from ps (n + 1 + 1) (drop (n + 1) pars))
solved_at ps pars n o lt b =
    let r = at_place pars n lt in
    let one : suc n ≡ n + 1 = omega arith in
    ap (solutions_from ps (n + 1)) r.2
    ∙ ap (λ k. solved (n + 1) (least_of ps r.0.items) (solutions_from ps (n + 1 + 1) (drop k pars))) one
    ∙ ap (λ x. solved (n + 1) x (solutions_from ps (n + 1 + 1) (drop (n + 1) pars))) (sym (least_exact ps r.0.items o (b r.0 r.1)))

first_after : (ss : List SolutionView) (s : SolutionView) (later : Result (List SolutionView) ℕ) → after_these ss (with_first s later) ≡ after_these (ss ++ s ∷ []) later
first_after ss s (Ok ts) = ap Ok (sym (append_assoc ss (s ∷ []) ts))
first_after ss s (Err n) = refl

-- one more solution
pub solve_more : (ps : LineParams) (pars : List Paragraph) (n : ℕ) (ss new : List SolutionView) (s : SolutionView) → n < length pars → IsBroken ps pars n (Some s)
    → after_these ss (solutions_from ps (n + 1) (drop n pars)) ≡ solutions_from ps 1 pars → new ≡ ss ++ s ∷ [] → after_these new (solutions_from ps (n + 1 + 1) (drop (n + 1) pars)) ≡ solutions_from ps 1 pars
solve_more ps pars n ss new s lt b h e =
    let later = solutions_from ps (n + 1 + 1) (drop (n + 1) pars) in
    ap (λ xs. after_these xs later) e ∙ sym (first_after ss s later) ∙ sym (ap (after_these ss) (solved_at ps pars n (Some s) lt b)) ∙ h

-- a paragraph that has none
pub solve_none : (ps : LineParams) (pars : List Paragraph) (n : ℕ) (ss : List SolutionView) → n < length pars → IsBroken ps pars n None
    → after_these ss (solutions_from ps (n + 1) (drop n pars)) ≡ solutions_from ps 1 pars → solutions_from ps 1 pars ≡ Err (n + 1)
solve_none ps pars n ss lt b h = sym h ∙ ap (after_these ss) (solved_at ps pars n None lt b)

nothing_more : (ss : List SolutionView) → ss ++ [] ≡ ss
nothing_more [] = refl
nothing_more (s ∷ ss) = ap (λ xs. s ∷ xs) (nothing_more ss)

-- all paragraphs are solved
pub solve_done : (ps : LineParams) (pars : List Paragraph) (n : ℕ) (ss : List SolutionView) → length pars ≤ n
    → after_these ss (solutions_from ps (n + 1) (drop n pars)) ≡ solutions_from ps 1 pars → solutions_from ps 1 pars ≡ Ok ss
solve_done ps pars n ss le h = sym h ∙ ap (after_these ss) (at_drop_all (solutions_from ps (n + 1)) pars n le) ∙ ap Ok (nothing_more ss)
