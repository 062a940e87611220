-- The lines of ratings.
use Rattle.std.specs.Prelude.{ℕ, ℤ, List, [], ◌++◌, codes, Option, Some, None}
use Rattle.tb_text.specs.Fields.{and_number, and_count, line}
use Rattle.tb_trace.specs.Lines.{and_cost}
use Rattle.tb_rate.specs.declared.Rating.{Rating}

-- the line of a column: its page, its badness, its penalty, the floats that wait after it, the insertions that it had no room for, and its demerits
abbrev pub rating_line : Rating → List ℕ
rating_line r = line (
    codes "rated" ++ and_count r.page ++ codes " badness" ++ and_cost r.badness ++ codes " penalty" ++ and_number r.penalty
    ++ codes " waiting" ++ and_count r.waiting ++ codes " held" ++ and_count r.held ++ codes " demerits" ++ and_number r.demerits)

-- the line of a rating, if there is one
abbrev pub rating_lines : Option Rating → List ℕ
rating_lines None = []
rating_lines (Some r) = rating_line r

-- the last line: the demerits of the run
abbrev pub demerits_line : ℤ → List ℕ
demerits_line d = line (codes "rated demerits" ++ and_number d)

-- the last line, if the run ends well
abbrev pub demerits_lines : Option ℤ → List ℕ
demerits_lines None = []
demerits_lines (Some d) = demerits_line d
