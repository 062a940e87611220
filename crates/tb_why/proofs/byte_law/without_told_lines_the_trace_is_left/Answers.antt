use Rattle.tb_why.proofs.TraceLeft.{trace_left, report_left}
use Rattle.tb_why.proofs.byte_law.without_told_lines_the_trace_is_left.Goals as goal

pub returns : goal.returns
returns c = record { events = trace_left; report = report_left }
