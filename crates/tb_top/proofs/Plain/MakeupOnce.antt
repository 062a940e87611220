-- Plain TeX's page makeup ships each box, rule and float of a galley once, and the text in its order.
use Rattle.std.proofs.Common.{◌≡◌, refl, sym, ◌∙◌, subst, ℕ, ◌+◌, false, List, [], ◌∷◌, ◌++◌, length, arith, append-nil}
use Rattle.tb_node.specs.PlainNodes.{PlainNode, on_line}
use Rattle.tb_node.proofs.Weights.{Weight, nodes_weight, weight-append}
use Rattle.tb_param.specs.declared.Params.{Params}
use Rattle.tb_galley.specs.declared.Item.{Item}
use Rattle.tb_galley.specs.declared.ItemKind.{ItemKind}
use Rattle.tb_galley.specs.declared.ItemKind.TheVariants as items
use Rattle.tb_galley.specs.declared.Galley.{Galley}
use Rattle.tb_galley.specs.Valid.{IsValid}
use Rattle.tb_sheet.specs.Sheet.{PlainSent, warned, shipped}
use Rattle.tb_column.proofs.Within.{Within}
use Rattle.tb_column.proofs.PrintedLines.{prints, prints-append, AllPlain, plain-both}
use Rattle.tb_sheet.proofs.PrintedSheets.{sent_prints, sheet_weight, sent_weight, SentPlain}
use Rattle.tb_report.specs.RunTotals.{is_item_box, is_float_box, count_kinds, sheet_nodes}
use Rattle.tb_plain.specs.GalleyNodes.{clearing_kinds, makeup_kinds, makeup_nodes, made_up}
use Rattle.tb_plain.specs.Suitability.{IsSuited}
use Rattle.tb_plain.specs.Run.{done, makeup_of, sent_of}
use Rattle.tb_plain.specs.Report.{sent_totals}
use Rattle.tb_plain.proofs.WeightLemmas.{NoMargin}
use Rattle.tb_plain.proofs.GalleyLemmas.{ships-all}
use Rattle.tb_plain.proofs.PlainPages.{makeup-plain}
use Rattle.tb_laws.specs.Laws.{text_line, foot_line, lines_by, galley_floats, float_lines, box_lines_of, float_lines_of, node_lines}
use Rattle.tb_top.specs.MakeupLaws.{sent_nodes, MakesUpOnce}
use Rattle.tb_laws.proofs.NothingLost.StartLemmas.{item_weight, items_weight, item-expanded}
use Rattle.tb_laws.proofs.OnceEach.CountLemmas.{permutation-from-counts}
use Rattle.tb_laws.proofs.OnceEach.ShippedCounts.{Measure, of_boxes, of_floats, boxes-measure, floats-measure, galley-boxes, galley-has-floats, sheet-nodes, sheet-plain, sheet-lines, box-lines}
use Rattle.tb_laws.proofs.OnceEach.ShippedLines.{AllOut, text-out}
use Rattle.tb_laws.proofs.OnceEach.OnceLemmas.{counted, text-once, feet-once}
use Rattle.tb_laws.proofs.OnceEach.ShippedOnce.{item-prints}
use Rattle.tb_laws.proofs.OnceEach.ShippedTotals.{boxes-counted, floats-counted, lines-apart, float-lines, how_many}

-- ---- the nodes of the galley

item-weighs : (v : Weight) (p : Params) (n : ℕ) (k : ItemKind) → nodes_weight v (on_line n (makeup_kinds p k)) ≡ item_weight v n k
item-weighs v p n (items.Float f vert) = omega arith
item-weighs v p n items.ClearPage = refl
item-weighs v p n k = item-expanded v p false n k

items-weigh : (v : Weight) (p : Params) (ns : List Item) → nodes_weight v (makeup_nodes p ns) ≡ items_weight v ns
items-weigh v p [] = refl
items-weigh v p (n ∷ ns) =
    let e : nodes_weight v (on_line n.line (makeup_kinds p n.kind) ++ makeup_nodes p ns) ≡ nodes_weight v (on_line n.line (makeup_kinds p n.kind)) + nodes_weight v (makeup_nodes p ns) = weight-append v (on_line n.line (makeup_kinds p n.kind)) (makeup_nodes p ns) in
    let a : nodes_weight v (on_line n.line (makeup_kinds p n.kind)) ≡ item_weight v n.line n.kind = item-weighs v p n.line n.kind in
    let h : nodes_weight v (makeup_nodes p ns) ≡ items_weight v ns = items-weigh v p ns in
    omega arith

made-weighs : (v : Weight) (g : Galley) → nodes_weight v (made_up g) ≡ items_weight v g.items
unfolding made_up
made-weighs v g =
    let e : nodes_weight v (makeup_nodes g.params g.items ++ on_line g.end_line clearing_kinds) ≡ nodes_weight v (makeup_nodes g.params g.items) + 0 = weight-append v (makeup_nodes g.params g.items) (on_line g.end_line clearing_kinds) in
    let h : nodes_weight v (makeup_nodes g.params g.items) ≡ items_weight v g.items = items-weigh v g.params g.items in
    omega arith

item-shows : (p : Params) (n : ℕ) (k : ItemKind) → prints (on_line n (makeup_kinds p k)) ≡ text_line n k
item-shows p n (items.Margin m vert) = item-prints p false n (items.Margin m vert)
item-shows p n items.OneColumn = item-prints p false n items.OneColumn
item-shows p n items.TwoColumn = item-prints p false n items.TwoColumn
item-shows p n k = refl

items-show : (p : Params) (ns : List Item) → prints (makeup_nodes p ns) ≡ lines_by text_line ns
items-show p [] = refl
items-show p (n ∷ ns) = prints-append (on_line n.line (makeup_kinds p n.kind)) (makeup_nodes p ns) ∙ (λ i. item-shows p n.line n.kind i ++ items-show p ns i)

made-shows : (g : Galley) → prints (made_up g) ≡ lines_by text_line g.items
unfolding made_up
made-shows g = prints-append (makeup_nodes g.params g.items) (on_line g.end_line clearing_kinds) ∙ append-nil (prints (makeup_nodes g.params g.items)) ∙ items-show g.params g.items

-- ---- what is shipped, as a list of nodes

sent-weighs : (v : Weight) (es : List PlainSent) → sent_weight v es ≡ nodes_weight v (sent_nodes es)
sent-weighs v [] = refl
sent-weighs v (warned w ∷ es) = sent-weighs v es
sent-weighs v (shipped page sheet ∷ es) =
    let d : sheet_weight v sheet ≡ nodes_weight v (sheet_nodes sheet) = sheet-nodes v sheet in
    let h : sent_weight v es ≡ nodes_weight v (sent_nodes es) = sent-weighs v es in
    let e : nodes_weight v (sheet_nodes sheet ++ sent_nodes es) ≡ nodes_weight v (sheet_nodes sheet) + nodes_weight v (sent_nodes es) = weight-append v (sheet_nodes sheet) (sent_nodes es) in
    omega arith

sent-shows : (es : List PlainSent) → sent_prints es ≡ prints (sent_nodes es)
sent-shows [] = refl
sent-shows (warned w ∷ es) = sent-shows es
sent-shows (shipped page sheet ∷ es) = (λ i. sheet-lines sheet i ++ sent-shows es i) ∙ sym (prints-append (sheet_nodes sheet) (sent_nodes es))

sent-all : (es : List PlainSent) → SentPlain es → AllPlain (sent_nodes es)
sent-all [] h = tt
sent-all (warned w ∷ es) h = sent-all es h
sent-all (shipped page sheet ∷ es) h = plain-both (sheet_nodes sheet) (sent_nodes es) (sheet-plain sheet h.0) (sent-all es h.1)

total-boxes : (es : List PlainSent) → (sent_totals es).boxes ≡ length (node_lines box_lines_of (sent_nodes es))
total-boxes [] = refl
total-boxes (warned w ∷ es) = total-boxes es
total-boxes (shipped page sheet ∷ es) =
    let a : (sent_totals es).boxes ≡ length (node_lines box_lines_of (sent_nodes es)) = total-boxes es in
    let b : count_kinds is_item_box (sheet_nodes sheet) ≡ length (node_lines box_lines_of (sheet_nodes sheet)) = boxes-counted (sheet_nodes sheet) in
    let c : length (node_lines box_lines_of (sheet_nodes sheet ++ sent_nodes es)) ≡ length (node_lines box_lines_of (sheet_nodes sheet)) + length (node_lines box_lines_of (sent_nodes es)) = lines-apart box_lines_of (sheet_nodes sheet) (sent_nodes es) in
    omega arith

total-floats : (es : List PlainSent) → (sent_totals es).floats ≡ length (node_lines float_lines_of (sent_nodes es))
total-floats [] = refl
total-floats (warned w ∷ es) = total-floats es
total-floats (shipped page sheet ∷ es) =
    let a : (sent_totals es).floats ≡ length (node_lines float_lines_of (sent_nodes es)) = total-floats es in
    let b : count_kinds is_float_box (sheet_nodes sheet) ≡ length (node_lines float_lines_of (sheet_nodes sheet)) = floats-counted (sheet_nodes sheet) in
    let c : length (node_lines float_lines_of (sheet_nodes sheet ++ sent_nodes es)) ≡ length (node_lines float_lines_of (sheet_nodes sheet)) + length (node_lines float_lines_of (sent_nodes es)) = lines-apart float_lines_of (sheet_nodes sheet) (sent_nodes es) in
    omega arith

-- ---- the law

module _ (g : Galley) (valid : IsValid g) (suited : IsSuited g) (ended : (makeup_of g).end ≡ done) where
  abbrev nodes : List PlainNode
  nodes = sent_nodes (sent_of (makeup_of g))

  plain_nodes : AllPlain nodes
  plain_nodes = sent-all (sent_of (makeup_of g)) (makeup-plain g)

  shipped-weighs : (v : Weight) → NoMargin v → nodes_weight v nodes ≡ items_weight v g.items
  shipped-weighs v none = sym (sent-weighs v (sent_of (makeup_of g))) ∙ (ships-all g suited).weighs ended v none ∙ made-weighs v g

  -- what is shipped measures as the galley
  boxes-shipped : (m : Measure) → m.of (node_lines box_lines_of nodes) ≡ m.of (lines_by text_line g.items) + m.of (lines_by foot_line g.items)
  boxes-shipped m = sym (boxes-measure m nodes plain_nodes) ∙ shipped-weighs (of_boxes m) (λ l. refl) ∙ galley-boxes m g.items

  floats-shipped : (m : Measure) → m.of (node_lines float_lines_of nodes) ≡ m.of (float_lines (galley_floats g.items))
  floats-shipped m = sym (floats-measure m nodes plain_nodes) ∙ shipped-weighs (of_floats m) (λ l. refl) ∙ galley-has-floats m g.items

  text_outside : AllOut (lines_by foot_line g.items) (lines_by text_line g.items)
  text_outside = text-out 0 g.items (g.end_line ∷ []) valid.lines

  text_within : Within (lines_by text_line g.items) (node_lines box_lines_of nodes)
  text_within = subst (λ l. Within l (node_lines box_lines_of nodes)) (made-shows g) (subst (Within (prints (made_up g))) (sent-shows (sent_of (makeup_of g)) ∙ box-lines nodes) ((ships-all g suited).ordered ended))

  pub makes-up-once : MakesUpOnce g (makeup_of g)
  makes-up-once = record {
    text = text-once (lines_by foot_line g.items) (lines_by text_line g.items) (node_lines box_lines_of nodes) text_outside boxes-shipped text_within;
    feet = feet-once (lines_by foot_line g.items) (lines_by text_line g.items) (node_lines box_lines_of nodes) text_outside boxes-shipped text_within;
    floats = permutation-from-counts (node_lines float_lines_of nodes) (float_lines (galley_floats g.items)) (λ n. floats-shipped (counted n));
    totals = record {
      boxes = total-boxes (sent_of (makeup_of g)) ∙ boxes-shipped how_many;
      floats = total-floats (sent_of (makeup_of g)) ∙ floats-shipped how_many ∙ float-lines (galley_floats g.items);
    };
  }
