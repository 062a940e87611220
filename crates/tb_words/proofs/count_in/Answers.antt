use Rattle.std.proofs.Common.{◌≡◌, ◌∙◌, ap, sym, codes, Some}
use Rattle.std.specs.Prelude.{option_map, unwrap_or}
use Rattle.clap.specs.Words.{found_of, one_of, rows_of, without_minus}
use Rattle.clap.proofs.WalkLemmas.{one_text-rows}
use Rattle.tb_words.specs.Words.{number_in}
use Rattle.tb_words.proofs.count_in.Goals as goal

pub returns-clause-count : goal.returns-clause-count
returns-clause-count c =
    let f = found_of c.args.matches.now in
    let text : one_of (codes "count") (rows_of f) ≡ Some (without_minus c.requires.text) = sym (one_text-rows f (codes "count")) ∙ c.requires.found in
    let read = c.in-Some.ensures.value (without_minus c.requires.text) c.requires.found in
    read.0.1 ∙ ap (λ o. unwrap_or (option_map number_in o) 0) (sym text)
