use Rattle.std.specs.Fmt.{digits}
use Rattle.tb_trace.proofs.plain.write_infinite.Goals as goal

pub returns-then-stretch-eq0-3-clause-written : goal.returns-then-stretch-eq0-3-clause-written
unfolding digits
returns-then-stretch-eq0-3-clause-written c =
    rw (c.if-stretch-eq0.true, c.if-stretch-eq0-2.true, c.if-stretch-eq0-3.true) c.write_text.ensures.written
