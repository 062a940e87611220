use Rattle.tb_why.proofs.ShownTexts.{events_left, summary_left}
use Rattle.tb_why.proofs.byte_law.without_told_lines_the_events_are_left.Goals as goal

pub returns : goal.returns
returns c = record { events = events_left; summary = summary_left }
