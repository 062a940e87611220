-- What a run shipped: boxes and rules that came from items, and floats.
use Rattle.std.specs.Prelude.{ℕ, ◌+◌, ◌<◌, ◌^◌, Bool, true, false, List, [], ◌∷◌, ◌++◌, Some}
use Rattle.tb_node.specs.declared.RuleOf.TheVariants.{Item}
use Rattle.tb_node.specs.declared.What.TheVariants as what
use Rattle.tb_node.specs.PlainNodes.{hbox, rule, PlainKind, plain, PlainNode}
use Rattle.tb_sheet.specs.Sheet.{PlainSheet, one, wide, two, PlainSent, warned, shipped}
use Rattle.tb_report.specs.declared.Totals.{Totals}

-- a box of text, or a rule with a name: what came from a box or rule item
abbrev pub is_item_box : PlainKind → Bool
is_item_box (plain (hbox (what.Text name) h d)) = true
is_item_box (plain (rule (Item name) h d)) = true
is_item_box _ = false

-- the box of a float
abbrev pub is_float_box : PlainKind → Bool
is_float_box (plain (hbox (what.Float name class place item) h d)) = true
is_float_box _ = false

-- one if a test holds, else none
abbrev pub one_if : Bool → ℕ
one_if true = 1
one_if false = 0

-- how many nodes of a list pass a test
abbrev pub count_kinds : (PlainKind → Bool) → List PlainNode → ℕ
count_kinds test [] = 0
count_kinds test (n ∷ ns) = one_if (test n.kind) + count_kinds test ns

-- all nodes of a page, in the order in which they are reported
abbrev pub sheet_nodes : PlainSheet → List PlainNode
sheet_nodes (one c) = c.nodes
sheet_nodes (wide c) = c.nodes
sheet_nodes (two tops at left right) = tops ++ left.nodes ++ right.nodes

-- the totals of a run that shipped nothing
abbrev pub no_totals : Totals
no_totals = record { pages = 0; boxes = 0; floats = 0; warnings = 0 }

-- the totals with one warning or one page more
abbrev pub with_sent : PlainSent → Totals → Totals
with_sent (warned w) t = record t { warnings = t.warnings + 1 }
with_sent (shipped page sheet) t =
    record { pages = t.pages + 1; boxes = t.boxes + count_kinds is_item_box (sheet_nodes sheet); floats = t.floats + count_kinds is_float_box (sheet_nodes sheet); warnings = t.warnings }

-- each count is below 2^64
pub record AreCounts (t : Totals) : Type 0 where
  pub pages : t.pages < 2 ^ 64
  pub boxes : t.boxes < 2 ^ 64
  pub floats : t.floats < 2 ^ 64
  pub warnings : t.warnings < 2 ^ 64

-- the totals with one node more
abbrev pub with_kind : PlainKind → Totals → Totals
with_kind k t = record t { boxes = t.boxes + one_if (is_item_box k); floats = t.floats + one_if (is_float_box k) }

-- the totals with these nodes
abbrev pub with_nodes : List PlainNode → Totals → Totals
with_nodes ns t = record t { boxes = t.boxes + count_kinds is_item_box ns; floats = t.floats + count_kinds is_float_box ns }
