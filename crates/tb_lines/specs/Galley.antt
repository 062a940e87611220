-- The galley of a text's lines as a function of its bytes.
use Rattle.std.specs.Prelude.{◌≡◌, ℕ, ◌+◌, ℤ, int_le, List, [], ◌∷◌, ◌++◌, map, reverse, length, zero, suc, Option, Some, None, Result, Ok, Err, Vec, if◌then◌else◌}
use Rattle.std.specs.declared.alloc.Global.{Global}
use Rattle.tb_lines.specs.declared.text.Item.{Item}
use Rattle.tb_lines.specs.declared.text.LineParams.{LineParams}
use Rattle.tb_lines.specs.declared.text.Paragraph.{Paragraph}
use Rattle.tb_lines.specs.declared.text.Text.{Text}
use Rattle.tb_lines.specs.declared.entries.Entry.{Entry}
use Rattle.tb_lines.specs.declared.LinesFault.{LinesFault}
use Rattle.tb_lines.specs.declared.LinesFault.TheVariants as faults
use Rattle.tb_lines.specs.declared.LinesRefusal.{LinesRefusal}
use Rattle.tb_lines.specs.declared.LinesRefusal.TheVariants as refusals
use Rattle.tb_lines.specs.Solution.{SolutionView}
use Rattle.tb_lines.specs.Entries.{list_of, is_legal, is_forced}
use Rattle.tb_lines.specs.LeastSolution.{total_demerits}
use Rattle.tb_lines.specs.LineText.{line_text}
use Rattle.tb_galley.specs.declared.Fault.{Fault}
use Rattle.tb_galley.specs.Faults.{fault}
use Rattle.tb_lines.specs.Grammar.{reading}

-- all ways to break the list before place n, read from the last break, the lexicographically greatest first: a legal break is taken or not, a forced one is taken
abbrev pub ways_before : List Entry → ℕ → List (List ℕ)
ways_before es zero = [] ∷ []
ways_before es (suc n) =
    if is_legal es n then map (λ js. n ∷ js) (ways_before es n) ++ (if is_forced es n then [] else ways_before es n) else ways_before es n

-- a feasible way goes before the later ones if its total is no greater
abbrev pub chosen : List ℕ → Option ℤ → Option (List ℕ × ℤ) → Option (List ℕ × ℤ)
chosen js None later = later
chosen js (Some d) None = Some (js, d)
chosen js (Some d) (Some w) = if int_le d w.1 then Some (js, d) else Some w

-- the first feasible way of least total demerits, and its total
abbrev pub first_least : LineParams → List Entry → List (List ℕ) → Option (List ℕ × ℤ)
first_least ps es [] = None
first_least ps es (js ∷ ways) = chosen js (total_demerits ps es js) (first_least ps es ways)

-- a way as a solution, whose breaks rise
abbrev pub solution_of : Option (List ℕ × ℤ) → Option SolutionView
solution_of None = None
solution_of (Some w) = Some (record { breaks = reverse w.0; total = w.1 })

-- the least solution of a paragraph's items; none if no way to break them is feasible
unfoldable pub least_of : LineParams → List Item → Option SolutionView
least_of ps items = solution_of (first_least ps (list_of items) (ways_before (list_of items) (length (list_of items))))

-- a solution before those of the later paragraphs
abbrev pub with_first : SolutionView → Result (List SolutionView) ℕ → Result (List SolutionView) ℕ
with_first s (Ok ss) = Ok (s ∷ ss)
with_first s (Err n) = Err n

-- the solution of paragraph n, or its number, and those of the later paragraphs
abbrev pub solved : ℕ → Option SolutionView → Result (List SolutionView) ℕ → Result (List SolutionView) ℕ
solved n None later = Err n
solved n (Some s) later = with_first s later

-- the solutions of the paragraphs from number n on, or the number of the first that has none
abbrev pub solutions_from : LineParams → ℕ → List Paragraph → Result (List SolutionView) ℕ
solutions_from ps n [] = Ok []
solutions_from ps n (p ∷ pars) = solved n (least_of ps p.items) (solutions_from ps (n + 1) pars)

-- why an input has no galley of lines: its first fault, or the first paragraph that no way breaks, counted from 1
pub data NoGalley : Type 0 where
  faulty : Fault → NoGalley
  no_breaks : ℕ → NoGalley

-- the galley of solutions, or the number of a paragraph that has none
abbrev pub galley_by : Text → Result (List SolutionView) ℕ → Result (List ℕ) NoGalley
galley_by t (Ok ss) = Ok (line_text t ss)
galley_by t (Err n) = Err (no_breaks n)

-- the galley of the lines of a text
abbrev pub galley_of_text : Text → Result (List ℕ) NoGalley
galley_of_text t = galley_by t (solutions_from t.params 1 t.paragraphs)

-- the galley of a text, or its first fault
abbrev pub galley_of : Result Text Fault → Result (List ℕ) NoGalley
galley_of (Err f) = Err (faulty f)
galley_of (Ok t) = galley_of_text t

-- the galley of the lines of the text that an input spells, or why there is none
unfoldable pub lines_galley : List ℕ → Result (List ℕ) NoGalley
lines_galley bytes = galley_of (reading bytes)

-- a text that was not read has no galley
abbrev pub refusal_of : LinesFault → LinesRefusal
refusal_of (faults.At line field cause) = refusals.At line field cause
refusal_of faults.Memory = refusals.Memory

-- the solutions that the code gives are these, unless memory runs out
abbrev pub GivesSolutions : Result (Vec SolutionView Global) LinesRefusal → Result (List SolutionView) ℕ → Type 0
GivesSolutions (Ok v) answer = answer ≡ Ok v.items
GivesSolutions (Err (refusals.At line field cause)) answer = ⊥
GivesSolutions (Err (refusals.NoBreaks n)) answer = answer ≡ Err n
GivesSolutions (Err refusals.Memory) answer = Unit {0}

-- the galley that the code gives is this, unless memory runs out
abbrev pub GivesGalley : Result (Vec ℕ Global) LinesRefusal → Result (List ℕ) NoGalley → Type 0
GivesGalley (Ok v) answer = answer ≡ Ok v.items
GivesGalley (Err (refusals.At line field cause)) answer = answer ≡ Err (faulty (fault line field cause))
GivesGalley (Err (refusals.NoBreaks n)) answer = answer ≡ Err (no_breaks n)
GivesGalley (Err refusals.Memory) answer = Unit {0}
