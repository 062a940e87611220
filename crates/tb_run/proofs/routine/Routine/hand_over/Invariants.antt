use Rattle.std.proofs.Common.{◌≡◌, ◌++◌, length}
use Rattle.tb_run.specs.Routine.{with_events}
use Rattle.tb_run.specs.FilledPages.{sent_happenings}
use Rattle.tb_run.proofs.routine.Routine.hand_over.Given as goal

-- what is left comes after what was handed over, and only events were taken
abbrev pub invariant-events : goal.invariant-events
invariant-events l = record {
  events : l.happened.items ++ sent_happenings l.self.machine.events ≡ l.fn.happened.items ++ sent_happenings l.fn.self.machine.events;
  same : l.self ≡ with_events l.self.machine.events l.fn.self;
}

abbrev pub decreases-events : goal.decreases-events
decreases-events l = length l.self.machine.events
