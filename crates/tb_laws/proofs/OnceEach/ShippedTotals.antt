-- The totals of a run that is done are those of its galley.
use Rattle.std.proofs.Common.{◌≡◌, refl, ◌∙◌, ℕ, ◌+◌, List, [], ◌∷◌, ◌++◌, length, arith, length-append}
use Rattle.tb_node.specs.declared.RuleOf.TheVariants.{Footnotes}
use Rattle.tb_node.specs.declared.What.TheVariants as what
use Rattle.tb_node.specs.declared.Float.{Float}
use Rattle.tb_node.specs.PlainNodes.{hbox, rule, PlainKind, plain, PlainNode}
use Rattle.tb_galley.specs.declared.Galley.{Galley}
use Rattle.tb_galley.specs.Valid.{IsValid}
use Rattle.tb_sheet.specs.Sheet.{warned, shipped}
use Rattle.tb_report.specs.RunTotals.{is_item_box, is_float_box, one_if, count_kinds, sheet_nodes}
use Rattle.tb_items.specs.RunEvents.{RunEvent, offered, sent}
use Rattle.tb_steps.specs.Run.{run_of}
use Rattle.tb_laws.specs.Totals.{totals_of}
use Rattle.tb_laws.specs.Laws.{galley_floats, float_lines, shipped_nodes, box_lines_of, float_lines_of, node_lines, EndsDone, HasTotals}
use Rattle.tb_laws.proofs.OnceEach.ShippedCounts.{Measure}
use Rattle.tb_laws.proofs.OnceEach.ShippedOnce.{boxes-shipped, floats-shipped}

-- a kind of node is counted if it has a line
kind-counted : (l : ℕ) (k : PlainKind) → one_if (is_item_box k) ≡ length (box_lines_of l k)
kind-counted l (plain (hbox (what.Text name) h d)) = refl
kind-counted l (plain (rule Footnotes h d)) = refl
kind-counted l k = refl

float-counted : (l : ℕ) (k : PlainKind) → one_if (is_float_box k) ≡ length (float_lines_of l k)
float-counted l (plain (hbox (what.Text name) h d)) = refl
float-counted l (plain (rule Footnotes h d)) = refl
float-counted l k = refl

pub boxes-counted : (ns : List PlainNode) → count_kinds is_item_box ns ≡ length (node_lines box_lines_of ns)
boxes-counted [] = refl
boxes-counted (n ∷ ns) =
    let a : one_if (is_item_box n.kind) ≡ length (box_lines_of n.line n.kind) = kind-counted n.line n.kind in
    let b : count_kinds is_item_box ns ≡ length (node_lines box_lines_of ns) = boxes-counted ns in
    let c : length (box_lines_of n.line n.kind ++ node_lines box_lines_of ns) ≡ length (box_lines_of n.line n.kind) + length (node_lines box_lines_of ns) = length-append (box_lines_of n.line n.kind) (node_lines box_lines_of ns) in
    omega arith

pub floats-counted : (ns : List PlainNode) → count_kinds is_float_box ns ≡ length (node_lines float_lines_of ns)
floats-counted [] = refl
floats-counted (n ∷ ns) =
    let a : one_if (is_float_box n.kind) ≡ length (float_lines_of n.line n.kind) = float-counted n.line n.kind in
    let b : count_kinds is_float_box ns ≡ length (node_lines float_lines_of ns) = floats-counted ns in
    let c : length (float_lines_of n.line n.kind ++ node_lines float_lines_of ns) ≡ length (float_lines_of n.line n.kind) + length (node_lines float_lines_of ns) = length-append (float_lines_of n.line n.kind) (node_lines float_lines_of ns) in
    omega arith

pub lines-apart : (lines : ℕ → PlainKind → List ℕ) (xs ys : List PlainNode) → length (node_lines lines (xs ++ ys)) ≡ length (node_lines lines xs) + length (node_lines lines ys)
lines-apart lines [] ys = omega arith
lines-apart lines (x ∷ xs) ys =
    let a : length (node_lines lines (xs ++ ys)) ≡ length (node_lines lines xs) + length (node_lines lines ys) = lines-apart lines xs ys in
    let b : length (lines x.line x.kind ++ node_lines lines (xs ++ ys)) ≡ length (lines x.line x.kind) + length (node_lines lines (xs ++ ys)) = length-append (lines x.line x.kind) (node_lines lines (xs ++ ys)) in
    let c : length (lines x.line x.kind ++ node_lines lines xs) ≡ length (lines x.line x.kind) + length (node_lines lines xs) = length-append (lines x.line x.kind) (node_lines lines xs) in
    omega arith

total-boxes : (es : List RunEvent) → (totals_of es).boxes ≡ length (node_lines box_lines_of (shipped_nodes es))
total-boxes [] = refl
total-boxes (offered t ∷ es) = total-boxes es
total-boxes (sent (warned w) ∷ es) = total-boxes es
total-boxes (sent (shipped page sheet) ∷ es) =
    let a : (totals_of es).boxes ≡ length (node_lines box_lines_of (shipped_nodes es)) = total-boxes es in
    let b : count_kinds is_item_box (sheet_nodes sheet) ≡ length (node_lines box_lines_of (sheet_nodes sheet)) = boxes-counted (sheet_nodes sheet) in
    let c : length (node_lines box_lines_of (sheet_nodes sheet ++ shipped_nodes es)) ≡ length (node_lines box_lines_of (sheet_nodes sheet)) + length (node_lines box_lines_of (shipped_nodes es)) = lines-apart box_lines_of (sheet_nodes sheet) (shipped_nodes es) in
    omega arith

total-floats : (es : List RunEvent) → (totals_of es).floats ≡ length (node_lines float_lines_of (shipped_nodes es))
total-floats [] = refl
total-floats (offered t ∷ es) = total-floats es
total-floats (sent (warned w) ∷ es) = total-floats es
total-floats (sent (shipped page sheet) ∷ es) =
    let a : (totals_of es).floats ≡ length (node_lines float_lines_of (shipped_nodes es)) = total-floats es in
    let b : count_kinds is_float_box (sheet_nodes sheet) ≡ length (node_lines float_lines_of (sheet_nodes sheet)) = floats-counted (sheet_nodes sheet) in
    let c : length (node_lines float_lines_of (sheet_nodes sheet ++ shipped_nodes es)) ≡ length (node_lines float_lines_of (sheet_nodes sheet)) + length (node_lines float_lines_of (shipped_nodes es)) = lines-apart float_lines_of (sheet_nodes sheet) (shipped_nodes es) in
    omega arith

pub float-lines : (fs : List Float) → length (float_lines fs) ≡ length fs
float-lines [] = refl
float-lines (f ∷ fs) = let h : length (float_lines fs) ≡ length fs = float-lines fs in omega arith

-- the length of a list of lines
abbrev pub how_many : Measure
how_many = record { of = λ xs. length xs; nothing = refl; adds = length-append }

pub totals-shown : (g : Galley) → IsValid g → EndsDone (run_of g).end → HasTotals g (totals_of (run_of g).events)
totals-shown g v d = record {
  boxes = total-boxes (run_of g).events ∙ boxes-shipped g v d how_many;
  floats = total-floats (run_of g).events ∙ floats-shipped g v d how_many ∙ float-lines (galley_floats g.items);
}
