-- The lines of what happens are kept, and those that are told are left out, if no name in them has a line feed.
use Rattle.std.proofs.Common.{refl, ℕ, ℤ, Bool, true, false, List, [], ◌∷◌, ◌++◌, map}
use Rattle.std.specs.Prelude.{codes, int_le, ◌==◌, if◌then◌else◌}
use Rattle.std.proofs.lemmas.List.Folds.{list_all-append}
use Rattle.tb_scaled.specs.Scaled.{awful_bad, is_zero}
use Rattle.tb_scaled.specs.declared.Order.{Order}
use Rattle.tb_scaled.specs.declared.Order.TheVariants as orders
use Rattle.tb_text.specs.Lines.{IsUnended}
use Rattle.tb_text.specs.Fields.{and_number, and_count, and_text, line}
use Rattle.tb_node.specs.declared.RuleOf.{RuleOf}
use Rattle.tb_node.specs.declared.RuleOf.TheVariants.{Item, Footnotes, Floats}
use Rattle.tb_node.specs.declared.What.{What}
use Rattle.tb_node.specs.declared.What.TheVariants as what
use Rattle.tb_node.specs.declared.Where.{Where}
use Rattle.tb_node.specs.declared.Where.TheVariants as places
use Rattle.tb_node.specs.declared.Side.{Side}
use Rattle.tb_node.specs.declared.Side.TheVariants as sides
use Rattle.tb_node.specs.PlainNodes.{Matter, hbox, rule, mark, note, PlainKind, plain, ins, act, PlainNode, node_shape}
use Rattle.tb_pack.specs.declared.Set.{Set}
use Rattle.tb_pack.specs.declared.Sign.{Sign}
use Rattle.tb_pack.specs.declared.Sign.TheVariants as signs
use Rattle.tb_pack.specs.Pack.{top_after}
use Rattle.tb_column.specs.declared.ColumnKind.{ColumnKind}
use Rattle.tb_column.specs.declared.ColumnKind.TheVariants as kinds
use Rattle.tb_column.specs.Column.{PlainColumn}
use Rattle.tb_sheet.specs.declared.Warn.{Warn}
use Rattle.tb_sheet.specs.declared.Warn.TheVariants as warnings
use Rattle.tb_sheet.specs.Sheet.{PlainSheet, one, wide, two, warned, shipped}
use Rattle.tb_report.specs.Lines.{order_text, sign_text, over_text, set_text, where_text, side_text, box_line, rule_line, matter_line, node_line, item_lines, kind_text, column_lines, unset, sheet_lines, warn_line, left_line, left_lines}
use Rattle.tb_report.specs.declared.Totals.{Totals}
use Rattle.tb_steps.specs.Run.{End, done}
use Rattle.tb_builder.specs.declared.Try.{Try}
use Rattle.tb_trace.specs.Lines.{and_cost, and_numbers, champion_text, try_line}
use Rattle.tb_items.specs.RunEvents.{RunEvent, offered, sent}
use Rattle.tb_why.specs.ShownLines.{event_lines, ending_lines}
use Rattle.tb_why.specs.PlainNames.{HasPlainName, IsPlainRule, IsPlainMatter, IsPlainKind, ArePlainNodes, IsPlainSheet, IsPlainWarning, IsPlainEvent, IsPlainEnd}
use Rattle.tb_why.proofs.TextLines.{Kept, none-kept, both-kept, line-kept, count-plain, number-plain, plain-join}

pub where-plain : (place : Where) → IsUnended (where_text place)
where-plain places.Here = refl
where-plain place = refl

pub side-plain : (side : Side) → IsUnended (side_text side)
side-plain sides.Left = refl
side-plain sides.Right = refl

box-kept : (w : What) (top h d : ℤ) → HasPlainName w → Kept (box_line w top h d)
box-kept (what.Text name) top h d p = line-kept (codes "box " ++ name ++ and_number top ++ and_number h ++ and_number d) (simp (list_all-append, p, number-plain) refl) refl
box-kept what.Blank top h d p = none-kept
box-kept (what.Float name class place item) top h d p = by_title (class == 0)
  where
    by_title : (b : Bool) → Kept (line ((if b then codes "head " ++ name else codes "float " ++ name ++ and_count class ++ and_text (where_text place)) ++ and_number top ++ and_number h))
    by_title true = line-kept ((codes "head " ++ name) ++ and_number top ++ and_number h) (simp (list_all-append, p, number-plain) refl) refl
    by_title false = line-kept ((codes "float " ++ name ++ and_count class ++ and_text (where_text place)) ++ and_number top ++ and_number h) (simp (list_all-append, p, number-plain, count-plain, where-plain) refl) refl
box-kept (what.Margin name side item shift height depth) top h d p = line-kept (codes "margin " ++ name ++ and_text (side_text side) ++ and_number shift ++ and_number top ++ and_number height ++ and_number depth) (simp (list_all-append, p, number-plain, side-plain) refl) refl

rule-kept : (of : RuleOf) (top h d : ℤ) → IsPlainRule of → Kept (rule_line of top h d)
rule-kept Footnotes top h d p = line-kept (codes "footrule" ++ and_number top ++ and_number h ++ and_number d) (simp (list_all-append, number-plain) refl) refl
rule-kept Floats top h d p = line-kept (codes "floatrule" ++ and_number top ++ and_number h ++ and_number d) (simp (list_all-append, number-plain) refl) refl
rule-kept (Item name) top h d p = line-kept (codes "rule " ++ name ++ and_number top ++ and_number h ++ and_number d) (simp (list_all-append, p, number-plain) refl) refl

matter-kept : (m : Matter) (top : ℤ) → IsPlainMatter m → Kept (matter_line m top)
matter-kept (hbox content h d) top p = box-kept content top h d p
matter-kept (rule of h d) top p = rule-kept of top h d p
matter-kept (mark name) top p = line-kept (codes "mark " ++ name ++ and_number top) (simp (list_all-append, p, number-plain) refl) refl
matter-kept (note name) top p = line-kept (codes "note " ++ name ++ and_number top) (simp (list_all-append, p, number-plain) refl) refl
matter-kept m top p = none-kept

node-kept : (k : PlainKind) (top : ℤ) → IsPlainKind k → Kept (node_line k top)
node-kept (plain m) top p = matter-kept m top p
node-kept (ins i) top p = none-kept
node-kept (act a) top p = none-kept

items-kept : (s : Set) (before ns : List PlainNode) → ArePlainNodes ns → Kept (item_lines s before ns)
items-kept s before [] p = none-kept
items-kept s before (n ∷ ns) p =
    both-kept (node_line n.kind (top_after s (map node_shape before))) (item_lines s (before ++ n ∷ []) ns)
    (node-kept n.kind (top_after s (map node_shape before)) p.0) (items-kept s (before ++ n ∷ []) ns p.1)

-- ---- pages

order-plain : (o : Order) → IsUnended (order_text o)
order-plain orders.Normal = refl
order-plain o = refl

sign-plain : (g : Sign) (s : Set) → IsUnended (sign_text g s)
sign-plain signs.None s = refl
sign-plain signs.Stretch s = simp (list_all-append, order-plain, number-plain) refl
sign-plain signs.Shrink s = simp (list_all-append, number-plain) refl

over-plain : (over : ℤ) → IsUnended (over_text over)
over-plain over = by_test (is_zero over)
  where
    by_test : (t : Bool) → IsUnended (if t then [] else codes " overfull" ++ and_number over)
    by_test true = refl
    by_test false = number-plain over

kind-plain : (k : ColumnKind) → IsUnended (kind_text k)
kind-plain kinds.Text = refl
kind-plain kinds.Floats = refl

column-kept : (k : ℕ) (c : PlainColumn) → ArePlainNodes c.nodes → Kept (column_lines k c)
column-kept k c p =
    let text = codes "column" ++ and_count k ++ and_text (kind_text c.kind) ++ codes " height" ++ and_number c.set.height ++ codes " natural" ++ and_number c.set.natural ++ codes " set " ++ set_text c.set in
    both-kept (line text) (item_lines c.set [] c.nodes) (line-kept text (simp (list_all-append, count-plain, kind-plain, number-plain, sign-plain, over-plain) refl) refl) (items-kept c.set [] c.nodes p)

sheet-kept : (page : ℕ) (sheet : PlainSheet) → IsPlainSheet sheet → Kept (sheet_lines page sheet)
sheet-kept page (one c) p =
    let text = codes "page" ++ and_count page ++ codes " one" in
    both-kept (line text) (column_lines 1 c) (line-kept text (simp (list_all-append, count-plain) refl) refl) (column-kept 1 c p)
sheet-kept page (wide c) p =
    let text = codes "page" ++ and_count page ++ codes " wide" in
    both-kept (line text) (column_lines 1 c) (line-kept text (simp (list_all-append, count-plain) refl) refl) (column-kept 1 c p)
sheet-kept page (two tops at left right) p =
    let text = codes "page" ++ and_count page ++ codes " two at" ++ and_number at in
    let above = line text ++ item_lines unset [] tops in
    both-kept (above ++ column_lines 1 left) (column_lines 2 right)
    (both-kept above (column_lines 1 left)
    (both-kept (line text) (item_lines unset [] tops) (line-kept text (simp (list_all-append, count-plain, number-plain) refl) refl) (items-kept unset [] tops p.0)) (column-kept 1 left p.1))
    (column-kept 2 right p.2)

warning-kept : (w : Warn) → IsPlainWarning w → Kept (warn_line w)
warning-kept (warnings.Large name by) p = line-kept (codes "warn large " ++ name ++ and_number by) (simp (list_all-append, p, number-plain) refl) refl
warning-kept (warnings.Ht name) p = line-kept (codes "warn ht " ++ name) (simp (list_all-append, p) refl) refl
warning-kept (warnings.Moved name shift) p = line-kept (codes "warn moved " ++ name ++ and_number shift) (simp (list_all-append, p, number-plain) refl) refl
warning-kept (warnings.Floats page) p = line-kept (codes "warn floats" ++ and_count page) (count-plain page) refl

-- ---- tries

cost-plain : (c : ℤ) → IsUnended (and_cost c)
cost-plain c = by_test (int_le awful_bad c)
  where
    by_test : (t : Bool) → IsUnended (if t then codes " *" else and_number c)
    by_test true = refl
    by_test false = number-plain c

numbers-plain : (ns : List ℤ) → IsUnended (and_numbers ns)
numbers-plain [] = refl
numbers-plain (n ∷ ns) = plain-join (and_number n) (and_numbers ns) (number-plain n) (numbers-plain ns)

champion-plain : (t : Bool) → IsUnended (champion_text t)
champion-plain true = refl
champion-plain false = refl

try-kept : (t : Try) → Kept (try_line t)
try-kept t =
    let text =
    codes "try" ++ and_count t.line ++ codes " t" ++ and_number t.sums.total ++ codes " s" ++ and_numbers t.sums.stretch ++ codes " z" ++ and_number t.sums.shrink
    ++ codes " g" ++ and_number t.goal ++ codes " b" ++ and_cost t.badness ++ codes " p" ++ and_number t.penalty ++ codes " c" ++ and_cost t.cost
    ++ champion_text t.champion in
    line-kept text (simp (list_all-append, count-plain, number-plain, numbers-plain, cost-plain, champion-plain) refl) refl

-- the lines of an event are kept
pub event-kept : (e : RunEvent) → IsPlainEvent e → Kept (event_lines e)
event-kept (offered t) p = try-kept t
event-kept (sent (warned w)) p = warning-kept w p
event-kept (sent (shipped page sheet)) p = sheet-kept page sheet p

-- ---- the end of a report

left-kept : (k : PlainKind) → IsPlainKind k → Kept (left_line k)
left-kept (plain (mark name)) p = line-kept (codes "left mark " ++ name) p refl
left-kept (plain (note name)) p = line-kept (codes "left note " ++ name) p refl
left-kept k p = none-kept

lefts-kept : (ns : List PlainNode) → ArePlainNodes ns → Kept (left_lines ns)
lefts-kept [] p = none-kept
lefts-kept (n ∷ ns) p = both-kept (left_line n.kind) (left_lines ns) (left-kept n.kind p.0) (lefts-kept ns p.1)

-- the last lines are kept
pub ending-kept : (e : End) (t : Totals) → IsPlainEnd e → Kept (ending_lines e t)
ending-kept (done left) t p =
    let text = codes "end pages" ++ and_count t.pages ++ codes " boxes" ++ and_count t.boxes ++ codes " floats" ++ and_count t.floats ++ codes " warnings" ++ and_count t.warnings in
    both-kept (left_lines left) (line text) (lefts-kept left p) (line-kept text (simp (list_all-append, count-plain) refl) refl)
ending-kept e t p = none-kept
