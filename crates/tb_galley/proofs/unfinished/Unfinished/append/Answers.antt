use Rattle.std.proofs.Common.{ap, ◌∙◌, ◌++◌}
use Rattle.tb_galley.specs.Unfinished.{kept_line}
use Rattle.tb_galley.proofs.UnfinishedLines.{kept_copy, kept_view}
use Rattle.tb_galley.proofs.unfinished.Unfinished.append.Goals as goal

pub returns-clause-kept : goal.returns-clause-kept
returns-clause-kept c =
    kept_copy c.self.inside.bytes c.args.piece.now c.copy_from_slice.new.self c.self.inside.length c.min-count.result _ c.self.told c.self.invariant c.min-count.ensures c.copy_from_slice.ensures.after
    ∙ ap (λ l. kept_line (l ++ c.args.piece.now)) c.self.view_is

pub returns-clause-before : goal.returns-clause-before
returns-clause-before c = rw (← c.self.view_is) (kept_view c.self.inside.bytes c.self.inside.length c.self.invariant)
