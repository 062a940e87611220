use Rattle.tb_top.proofs.Ends.Outcomes.{Outcome-said, IsAnswer-stands, IsAnswer-said, refusal_status-refused}
use Rattle.tb_top.proofs.Ends.OutcomeCauses.{words-outcome, read-outcome, write-outcome, refused-outcome, decided-asked}
use Rattle.tb_top.proofs.top.run.Goals as goal

pub returns-in-Ok-clause-refused : goal.returns-in-Ok-clause-refused
returns-in-Ok-clause-refused g c none = absurd (decided-asked _ _ _ _ _ c.in-Ok.ensures.stands.0 none)

pub returns-in-Ok-clause-complete : goal.returns-in-Ok-clause-complete
returns-in-Ok-clause-complete g c mode well = IsAnswer-stands _ mode _ _ well _ _ c.in-Ok.ensures.stands

pub returns-in-Err-clause-outcome : goal.returns-in-Err-clause-outcome
returns-in-Err-clause-outcome g c = Outcome-said _ _ _ _ _ _ _ (refusal_status-refused c.in-Err.refusal) c.in-Err.ensures.stands c.tell.ensures

pub returns-in-Err-clause-words : goal.returns-in-Err-clause-words
returns-in-Err-clause-words g c is =
    words-outcome _ _ _ _ _ (Outcome-said _ _ _ _ _ _ _ (refusal_status-refused c.in-Err.refusal) c.in-Err.ensures.stands c.tell.ensures) is

pub returns-in-Err-clause-refused : goal.returns-in-Err-clause-refused
returns-in-Err-clause-refused g c none =
    refused-outcome _ _ _ _ _ (Outcome-said _ _ _ _ _ _ _ (refusal_status-refused c.in-Err.refusal) c.in-Err.ensures.stands c.tell.ensures) none

pub returns-in-Err-clause-read_fault : goal.returns-in-Err-clause-read_fault
returns-in-Err-clause-read_fault g c is =
    read-outcome _ _ _ _ _ (Outcome-said _ _ _ _ _ _ _ (refusal_status-refused c.in-Err.refusal) c.in-Err.ensures.stands c.tell.ensures) is

pub returns-in-Err-clause-write_fault : goal.returns-in-Err-clause-write_fault
returns-in-Err-clause-write_fault g c is =
    write-outcome _ _ _ _ _ (Outcome-said _ _ _ _ _ _ _ (refusal_status-refused c.in-Err.refusal) c.in-Err.ensures.stands c.tell.ensures) is

pub returns-in-Err-clause-complete : goal.returns-in-Err-clause-complete
returns-in-Err-clause-complete g c mode well = IsAnswer-said _ mode _ _ well _ _ _ _ c.in-Err.ensures.stands c.tell.ensures
