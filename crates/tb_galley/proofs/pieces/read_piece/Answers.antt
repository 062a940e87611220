use Rattle.std.proofs.Common.{◌∷◌, length, ap, sym, ◌∙◌, arith}
use Rattle.std.specs.List.{fold}
use Rattle.std.proofs.lemmas.List.{length-append}
use Rattle.tb_galley.specs.declared.pieces.Progress.TheVariants.{Lines}
use Rattle.tb_galley.specs.Pieces.{take_byte}
use Rattle.tb_galley.proofs.ByBytes.{line_step, last_step}
use Rattle.tb_galley.proofs.pieces.read_piece.Goals as goal

pub lines-preserved : goal.lines-preserved
lines-preserved c =
    let parts = c.in-Some.ensures in
    let w = c.in-Some.line.now in
    let after = c.in-Some.after.now in
    let size = ap length parts.1 ∙ length-append w (10 ∷ after) in
    record {
      read = ap (λ u. fold take_byte (Lines c.past_more_bare_lines-rest.new.lines u) c.past_more_bare_lines-rest.result.now) c.in_ok-end_line.ensures.next
          ∙ c.past_more_bare_lines-rest.ensures.read
          ∙ sym (ap (λ u. fold take_byte (Lines c.end_line.new.lines u) after) c.in_ok-end_line.ensures.next)
          ∙ line_step c.lines.lines c.end_line.new.lines c.lines.unfinished c.end_line.new.unfinished w after c.lines.rest.now
          c.in_ok-end_line.ensures.before parts.0 parts.1 c.in_ok-end_line.ensures.step c.in_ok-end_line.ensures.next ∙ c.lines.invariant.read;
      lines = omega (arith, size, c.in_ok-end_line.ensures.lines, c.past_more_bare_lines-rest.ensures.lines);
      count = omega (arith, size, c.in_ok-end_line.ensures.count, c.past_more_bare_lines-rest.ensures.count, c.past_more_bare_lines-rest.ensures.shorter);
    }

pub returns : goal.returns
returns c =
    record {
      read = last_step c.lines.lines c.lines.unfinished c.append.new.self c.lines.rest.now c.append.ensures.before c.in_default.ensures c.append.ensures.kept ∙ c.lines.invariant.read;
    }
