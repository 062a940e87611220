use Rattle.std.proofs.Common.{◌≡◌, ◌∙◌, ap, sym, List, ℕ, Ok, Err}
use Rattle.std.proofs.lemmas.Result.{err_from_is_err_and}
use Rattle.tb_lines.specs.declared.text.Text.{Text}
use Rattle.tb_lines.specs.declared.LinesFault.{LinesFault}
use Rattle.tb_lines.specs.declared.LinesFault.TheVariants as faults
use Rattle.tb_lines.specs.declared.LinesRefusal.{LinesRefusal}
use Rattle.tb_lines.specs.declared.LinesRefusal.TheVariants as refusals
use Rattle.tb_lines.specs.Grammar.{reading}
use Rattle.tb_lines.specs.Reader.{Answers}
use Rattle.tb_lines.specs.LineText.{line_text}
use Rattle.tb_lines.specs.Solution.{SolutionView}
use Rattle.tb_lines.specs.Galley.{solutions_from, galley_by, galley_of, refusal_of, lines_galley, GivesSolutions, GivesGalley}
use Rattle.tb_lines.proofs.Accepted.{galley_accepted}
use Rattle.tb_lines.proofs.LeastOf.{solutions_least}
use Rattle.tb_lines.proofs.galley.lines_galley.Goals as goal

-- no text was read
unread : (bytes : List ℕ) (e : LinesFault) → Answers (Err e) (reading bytes) → GivesGalley (Err (refusal_of e)) (lines_galley bytes)
unfolding lines_galley
unread bytes (faults.At line field cause) h = ap galley_of h
unread bytes faults.Memory h = tt

-- a paragraph has no solution
unsolved : (bytes : List ℕ) (t : Text) (e : LinesRefusal) → reading bytes ≡ Ok t → GivesSolutions (Err e) (solutions_from t.params 1 t.paragraphs) → GivesGalley (Err e) (lines_galley bytes)
unfolding lines_galley
unsolved bytes t (refusals.At line field cause) read h = absurd h
unsolved bytes t (refusals.NoBreaks n) read h = ap galley_of read ∙ ap (galley_by t) h
unsolved bytes t refusals.Memory read h = tt

-- all paragraphs have one
solved : (bytes : List ℕ) (t : Text) (ss : List SolutionView) (text : List ℕ) → reading bytes ≡ Ok t → solutions_from t.params 1 t.paragraphs ≡ Ok ss → text ≡ line_text t ss → lines_galley bytes ≡ Ok text
unfolding lines_galley
solved bytes t ss text read h e = ap galley_of read ∙ ap (galley_by t) h ∙ ap Ok (sym e)

pub returns-in_err-text-clause-galley : goal.returns-in_err-text-clause-galley
returns-in_err-text-clause-galley c =
    let p = err_from_is_err_and c.from_residual.result c.from_residual.ensures.1 in
    rw (p.1, p.2) (unread c.args.bytes.now c.in_err-text.field-0.0 c.in_err-text.ensures.grammar)

pub returns-in_err-solutions-clause-galley : goal.returns-in_err-solutions-clause-galley
returns-in_err-solutions-clause-galley c =
    let p = err_from_is_err_and c.from_residual-in_err-solutions.result c.from_residual-in_err-solutions.ensures.1 in
    rw (p.1, p.2) (unsolved c.args.bytes.now c.in_ok-text.text c.in_err-solutions.field-0.0 c.in_ok-text.ensures.grammar c.in_err-solutions.ensures)

pub line_text-requires : goal.line_text-requires
line_text-requires c =
    let t = c.in_ok-text.text in
    solutions_least t.params 1 t.paragraphs c.as_slice.result.now (c.in_ok-solutions.ensures ∙ ap Ok (sym c.as_slice.ensures.value))

written : (c : goal.After-drop-text-2) → lines_galley c.args.bytes.now ≡ Ok c.in_ok-line_text.field-0.items
written c =
    solved c.args.bytes.now c.in_ok-text.text c.as_slice.result.now c.in_ok-line_text.field-0.items c.in_ok-text.ensures.grammar
    (c.in_ok-solutions.ensures ∙ ap Ok (sym c.as_slice.ensures.value)) c.in_ok-line_text.ensures

pub returns-clause-galley : goal.returns-clause-galley
returns-clause-galley c = written c

pub returns-clause-accepted : goal.returns-clause-accepted
returns-clause-accepted c = galley_accepted c.args.bytes.now c.in_ok-line_text.field-0.items (written c)
