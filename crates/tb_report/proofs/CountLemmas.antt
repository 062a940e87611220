-- Counts over a list that is joined of two.
use Rattle.std.proofs.Common.{◌≡◌, ◌∙◌, ap, sym, ℕ, ◌+◌, ◌<◌, ◌≤◌, ◌^◌, Bool, true, false, List, [], ◌∷◌, ◌++◌, length, add_assoc, zero-add, arith}
use Rattle.tb_node.specs.PlainNodes.{PlainKind, PlainNode}
use Rattle.tb_column.specs.Column.{PlainColumn}
use Rattle.tb_sheet.specs.Sheet.{one, shipped}
use Rattle.tb_report.specs.declared.Totals.{Totals}
use Rattle.tb_report.specs.RunTotals.{one_if, count_kinds, is_item_box, is_float_box, with_sent, AreCounts}

pub count_kinds-append : (test : PlainKind → Bool) (a b : List PlainNode) → count_kinds test (a ++ b) ≡ count_kinds test a + count_kinds test b
count_kinds-append test [] b = sym (zero-add (count_kinds test b))
count_kinds-append test (n ∷ ns) b = ap (λ k. one_if (test n.kind) + k) (count_kinds-append test ns b) ∙ sym (add_assoc (one_if (test n.kind)) (count_kinds test ns) (count_kinds test b))

-- a page of two columns: its wide floats, its left column and its right one
pub boxes-three : (a b d : List PlainNode) → count_kinds is_item_box (a ++ b ++ d) ≡ count_kinds is_item_box a + count_kinds is_item_box b + count_kinds is_item_box d
boxes-three a b d = count_kinds-append is_item_box (a ++ b) d ∙ ap (λ k. k + count_kinds is_item_box d) (count_kinds-append is_item_box a b)

pub floats-three : (a b d : List PlainNode) → count_kinds is_float_box (a ++ b ++ d) ≡ count_kinds is_float_box a + count_kinds is_float_box b + count_kinds is_float_box d
floats-three a b d = count_kinds-append is_float_box (a ++ b) d ∙ ap (λ k. k + count_kinds is_float_box d) (count_kinds-append is_float_box a b)

pub ruleset count_steps = (boxes-three, floats-three)

-- at most all nodes of a list are counted
one_if-le : (b : Bool) → one_if b ≤ 1
one_if-le true = omega arith
one_if-le false = omega arith

pub count_kinds-le : (test : PlainKind → Bool) (ns : List PlainNode) → count_kinds test ns ≤ length ns
count_kinds-le test [] = omega arith
count_kinds-le test (n ∷ ns) = omega (arith, one_if-le (test n.kind), count_kinds-le test ns)

-- a page of one column can be counted
pub page_counts : (t : Totals) (page : ℕ) (c : PlainColumn) → t.pages + 1 < 2 ^ 64 → t.boxes + length c.nodes < 2 ^ 64 → t.floats + length c.nodes < 2 ^ 64 → t.warnings < 2 ^ 64 → AreCounts (with_sent (shipped page (one c)) t)
page_counts t page c pages boxes floats warnings = record {
  pages = pages;
  boxes = omega (arith, boxes, count_kinds-le is_item_box c.nodes);
  floats = omega (arith, floats, count_kinds-le is_float_box c.nodes);
  warnings = warnings;
}
