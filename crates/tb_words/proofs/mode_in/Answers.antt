use Rattle.std.proofs.Common.{◌≡◌, ◌∙◌, ap, codes, Some, None}
use Rattle.std.specs.Prelude.{option_and_then}
use Rattle.clap.specs.Words.{found_of, first_of, rows_of}
use Rattle.clap.proofs.WalkLemmas.{first_value-rows}
use Rattle.tb_words.specs.Words.{count_in, mode_named}
use Rattle.tb_words.proofs.mode_in.Goals as goal

pub returns-in_err-name-clause-mode : goal.returns-in_err-name-clause-mode
returns-in_err-name-clause-mode c =
    let f = found_of c.args.matches.now in
    let name : None ≡ first_of (codes "mode") (rows_of f) = c.in_err-name.ensures ∙ first_value-rows f (codes "mode") in
    c.from_residual.ensures ∙ ap (option_and_then (λ text. mode_named text (count_in (rows_of f)))) name

pub returns-clause-mode : goal.returns-clause-mode
returns-clause-mode c =
    let f = found_of c.args.matches.now in
    let name : Some c.in_ok-name.name.now ≡ first_of (codes "mode") (rows_of f) = c.in_ok-name.ensures ∙ first_value-rows f (codes "mode") in
    c.mode_named.ensures ∙ ap (mode_named c.in_ok-name.name.now) c.count_in-count.ensures.count ∙ ap (option_and_then (λ text. mode_named text (count_in (rows_of f)))) name
