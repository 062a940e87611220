use Rattle.std.proofs.Common.{ap, sym, ◌∙◌}
use Rattle.std.specs.List.{fold}
use Rattle.tb_galley.specs.Pieces.{take_byte}
use Rattle.tb_galley.proofs.ByBytes.{too_long_fold}
use Rattle.tb_galley.proofs.pieces.Progress.read.Goals as goal

pub returns-in-TooLong-clause-ok : goal.returns-in-TooLong-clause-ok
returns-in-TooLong-clause-ok c =
    let piece = c.args.piece.now in
    c.in-TooLong.is ∙ sym (too_long_fold piece) ∙ sym (ap (λ p. fold take_byte p piece) c.in-TooLong.is)
