use Rattle.std.proofs.Common.{refl, sym, ◌∙◌}
use Rattle.tb_lines.proofs.ActiveBreaks.{active_more, active_forced}
use Rattle.tb_lines.proofs.table.Prepared.past.Goals as goal

pub returns-then-is_forced_entry : goal.returns-then-is_forced_entry
returns-then-is_forced_entry c = active_forced c.args.self.now.params.now c.args.self.now.entries.now c.args.place _ _ c.requires.inside refl refl (sym c.is_forced_entry.ensures ∙ c.if-is_forced_entry.true)

pub returns-else-is_forced_entry : goal.returns-else-is_forced_entry
returns-else-is_forced_entry c = active_more c.args.self.now.params.now c.args.self.now.entries.now c.args.place _ c.args.active c.requires.inside c.requires.active (sym c.is_forced_entry.ensures ∙ c.if-is_forced_entry.false)
