use Rattle.tb_why.proofs.TimeLemmas.{sheets_are_put_out, stories_are_timed}
use Rattle.tb_why.proofs.summary_laws.times_are_sheets.Goals as goal

pub returns : goal.returns
returns c = record { sheets = sheets_are_put_out; times = stories_are_timed }
