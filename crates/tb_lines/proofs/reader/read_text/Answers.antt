use Rattle.std.proofs.Common.{◌≡◌, ◌∙◌, ap, sym, true, false, nat_lt, length, Err, if◌then◌else◌, arith, rules}
use Rattle.std.proofs.lemmas.Bool.Decides.{nat_tests}
use Rattle.tb_text.specs.Lines.{lines_of}
use Rattle.tb_galley.specs.declared.Cause.TheVariants.{InputSize}
use Rattle.tb_galley.specs.Faults.{fault}
use Rattle.tb_lines.specs.Grammar.{reading, spelled_text}
use Rattle.tb_lines.specs.Reader.{verdict}
use Rattle.tb_lines.proofs.SameStep.{left_exact}
use Rattle.tb_lines.proofs.reader.read_text.Goals as goal

pub returns-then-bytes-gt-INPUT_LIMIT : goal.returns-then-bytes-gt-INPUT_LIMIT
unfolding reading
returns-then-bytes-gt-INPUT_LIMIT c =
    let long : nat_lt 8388608 (length c.args.bytes.now) ≡ true = search rules in
    sym (ap (λ t. if t then Err (fault 0 0 InputSize) else spelled_text (lines_of c.args.bytes.now)) long)

pub returns : goal.returns
unfolding reading
returns c =
    let short : nat_lt 8388608 (length c.args.bytes.now) ≡ false = grind (arith, nat_tests) in
    c.finish.ensures ∙ ap verdict c.in_ok-reader.ensures.read ∙ left_exact (lines_of c.args.bytes.now)
    ∙ sym (ap (λ t. if t then Err (fault 0 0 InputSize) else spelled_text (lines_of c.args.bytes.now)) short)
