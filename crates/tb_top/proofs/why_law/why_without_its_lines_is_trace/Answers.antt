use Rattle.tb_top.proofs.Why.WhyTrace.{why_left}
use Rattle.tb_top.proofs.why_law.why_without_its_lines_is_trace.Goals as goal

pub returns : goal.returns
returns c = why_left
