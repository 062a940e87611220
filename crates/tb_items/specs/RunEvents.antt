-- What a run shows, event by event.
use Rattle.tb_builder.specs.declared.Try.{Try}
use Rattle.tb_sheet.specs.Sheet.{PlainSent}

-- a try, or what the output routine sends
pub data RunEvent : Type 0 where
  offered : Try → RunEvent
  sent : PlainSent → RunEvent
