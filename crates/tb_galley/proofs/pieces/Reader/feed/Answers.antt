use Rattle.std.proofs.Common.{ap, ◌∙◌}
use Rattle.tb_galley.proofs.Fed.{reached_more, reached_too_long}
use Rattle.tb_galley.proofs.pieces.Reader.feed.Goals as goal
use Rattle.tb_galley.proofs.pieces.Reader.feed.Goals.{then-taken-gt-INPUT_LIMIT+in_ok-exceed, else-taken-gt-INPUT_LIMIT+in_ok-read}

pub invariant_of-self-2 : goal.invariant_of-self-2
invariant_of-self-2 c =
    elim c.if-taken-gt-INPUT_LIMIT.branch [
      | then-taken-gt-INPUT_LIMIT+in_ok-exceed w ↦
          reached_too_long c.saturating_add-taken.result c.if-taken-gt-INPUT_LIMIT.self-inside.progress (ap (λ s. s.progress) w.self-inside-is ∙ w.in_ok-exceed.ensures.ok)
      | else-taken-gt-INPUT_LIMIT+in_ok-read w ↦
          reached_more c.self.inside.taken c.saturating_add-taken.result c.self.inside.progress c.if-taken-gt-INPUT_LIMIT.self-inside.progress c.args.piece.now
          c.saturating_add-taken.ensures w.if-taken-gt-INPUT_LIMIT.false c.self.invariant (ap (λ s. s.progress) w.self-inside-is ∙ w.in_ok-read.ensures.ok)
    ]
