use Rattle.std.proofs.Common.{sym}
use Rattle.std.proofs.lemmas.List.{take_rest}
use Rattle.tb_text.proofs.FirstLine.{unended_of_none, ended_of_some}
use Rattle.tb_text.proofs.line.split_at_feed.Goals as goal

pub returns-in-Some : goal.returns-in-Some
returns-in-Some c = rw take_rest (ended_of_some c.args.bytes.now c.in-Some.end (sym c.in-Some.ensures))

pub returns-in-None : goal.returns-in-None
returns-in-None c = unended_of_none c.args.bytes.now (sym c.in-None.ensures)
