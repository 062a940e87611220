use Rattle.std.proofs.Common.{◌≡◌, OnOk, length, ap, subst, ◌∙◌, ◌++◌}
use Rattle.std.specs.Str.Lines.{strip_carriage_return}
use Rattle.tb_galley.specs.GalleyReader.{take_said}
use Rattle.tb_galley.specs.Unfinished.{kept_line}
use Rattle.tb_galley.proofs.ByBytes.{no_length, some_length, whole_line, joined_line, kept_empty}
use Rattle.tb_galley.proofs.pieces.end_line.Goals as goal
use Rattle.tb_galley.proofs.pieces.end_line.Goals.{then-not-is_empty, else-not-is_empty}

pub returns-clause-step : goal.returns-clause-step
returns-clause-step c =
    let s = c.args.lines.now in
    let u = c.args.unfinished.now in
    let v = c.if-not-is_empty.unfinished in
    let end = c.args.end.now in
    let x = c.without_return.result.now in
    let line = c.without_return.ensures ∙ ap strip_carriage_return c.line_ended.ensures in
    let same : take_said s x ≡ take_said s (strip_carriage_return (kept_line (u ++ end))) =
    elim c.if-not-is_empty.branch [
      | then-not-is_empty w ↦ joined_line s u v end x (some_length (length u) w.if-not-is_empty.ensures) (w.unfinished-is ∙ w.append.ensures.kept) line
      | else-not-is_empty w ↦ whole_line s u v end x (no_length (length u) w.if-not-is_empty.ensures) w.unfinished-is line
    ] in
    subst (λ t. OnOk c.take-taken.result (c.take-taken.new.self ≡ t)) same c.take-taken.ensures.step

pub returns-clause-before : goal.returns-clause-before
returns-clause-before c =
    let u = c.args.unfinished.now in
    elim c.if-not-is_empty.branch [
      | then-not-is_empty w ↦ w.append.ensures.before
      | else-not-is_empty w ↦ kept_empty u (no_length (length u) w.if-not-is_empty.ensures)
    ]
