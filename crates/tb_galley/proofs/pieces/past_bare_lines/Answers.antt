use Rattle.std.proofs.Common.{◌∙◌, arith}
use Rattle.tb_galley.proofs.BareLines.{bare_line, bare_length}
use Rattle.tb_galley.proofs.pieces.past_bare_lines.Goals as goal

pub lines-preserved : goal.lines-preserved
lines-preserved c =
    let size = bare_length c.lines.rest.now c.in-Some.after.now c.in-Some.ensures in
    record {
      read = bare_line c.lines.lines c.take_empty.new.self c.lines.rest.now c.in-Some.after.now c.take_empty.ensures.step c.in-Some.ensures ∙ c.lines.invariant.read;
      lines = omega (arith, size, c.take_empty.ensures.lines, c.lines.invariant.lines);
      count = c.take_empty.ensures.count ∙ c.lines.invariant.count;
      shorter = omega (arith, size, c.lines.invariant.shorter);
    }
