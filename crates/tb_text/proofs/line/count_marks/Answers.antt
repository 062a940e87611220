use Rattle.std.proofs.Common.{◌+◌, ◌∙◌, ap, arith}
use Rattle.std.specs.List.{prefix_len}
use Rattle.std.proofs.lemmas.List.Sums.{prefix_len-le-length}
use Rattle.tb_text.specs.Lines.{is_mark}
use Rattle.tb_text.proofs.FirstField.{near_marks, far_marks}
use Rattle.tb_text.proofs.line.count_marks.Goals as goal

pub returns-then-count-lt-NEAR_BYTES : goal.returns-then-count-lt-NEAR_BYTES
returns-then-count-lt-NEAR_BYTES c =
    let near = c.count_near_marks-count.ensures ∙ ap (prefix_len is_mark) c.split_at.ensures.front in
    near ∙ near_marks 6 c.args.line.now (omega (arith, near))

pub overflow_add-result : goal.overflow_add-result
overflow_add-result c = omega (arith, c.count_far_marks.ensures, prefix_len-le-length is_mark c.split_at.result.1.now, c.split_at.ensures.back_len)

pub returns : goal.returns
returns c =
    let near = c.count_near_marks-count.ensures ∙ ap (prefix_len is_mark) c.split_at.ensures.front in
    ap (λ n. 6 + n) (c.count_far_marks.ensures ∙ ap (prefix_len is_mark) c.split_at.ensures.back) ∙ far_marks 6 c.args.line.now (omega (arith, near))
