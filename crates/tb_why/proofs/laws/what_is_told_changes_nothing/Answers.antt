use Rattle.tb_why.proofs.RunLemmas.{run_happens, lines_left}
use Rattle.tb_why.proofs.laws.what_is_told_changes_nothing.Goals as goal

pub returns : goal.returns
returns c = record { events = run_happens; lines = lines_left }
