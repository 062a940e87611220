use Rattle.std.proofs.Common.{sym, ◌∙◌}
use Rattle.tb_float.proofs.KnownLemmas.{known-of-others, known-with-more}
use Rattle.tb_float.proofs.firsts.Firsts.gain.Goals.{else-are_of-via-then-are_of+else-not-has_class_of, else-are_of-via-else-are_of}
use Rattle.tb_float.proofs.firsts.Firsts.gain.Goals as goal

pub returns-else-are_of : goal.returns-else-are_of
returns-else-are_of c = λ l m f is only more knows. elim c.else-are_of.branch [
  | else-are_of-via-then-are_of+else-not-has_class_of w ↦ known-with-more c.args.self.now c.args.p l m f only more (λ fs are. sym (w.has_class_of.ensures fs f is are) ∙ w.if-not-has_class_of.false) knows
  | else-are_of-via-else-are_of w ↦ known-of-others c.args.self.now c.args.p l m only (sym c.are_of.ensures ∙ w.if-are_of.false) knows
]
