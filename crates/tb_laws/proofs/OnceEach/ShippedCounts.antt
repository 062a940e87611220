-- What is shipped and what a galley has, measured by lines: a measure of lists of lines that adds up gives a weight, by
-- which nodes without insertions and acts weigh what the lines of their boxes, floats or notes measure.
use Rattle.std.proofs.Common.{◌≡◌, refl, sym, ◌∙◌, ap, ℕ, ◌+◌, List, [], ◌∷◌, ◌++◌, arith}
use Rattle.std.specs.Prelude.{◌==◌, IsTrue}
use Rattle.std.specs.List.{list_all}
use Rattle.std.proofs.lemmas.Bool.{and_parts}
use Rattle.tb_node.specs.declared.RuleOf.TheVariants as rules
use Rattle.tb_node.specs.declared.What.TheVariants as what
use Rattle.tb_node.specs.PlainNodes.{hbox, rule, PlainKind, plain, ins, act, PlainNode}
use Rattle.tb_node.proofs.Weights.{Weight, kind_weight, nodes_weight, weight-append}
use Rattle.tb_node.specs.declared.Float.{Float}
use Rattle.tb_galley.specs.declared.Leaf.{Leaf}
use Rattle.tb_galley.specs.declared.LeafKind.{LeafKind}
use Rattle.tb_galley.specs.declared.LeafKind.TheVariants as leaves
use Rattle.tb_galley.specs.declared.Item.{Item}
use Rattle.tb_galley.specs.declared.ItemKind.{ItemKind}
use Rattle.tb_galley.specs.declared.ItemKind.TheVariants as items
use Rattle.tb_galley.specs.Valid.{is_item, is_margin}
use Rattle.tb_sheet.specs.Sheet.{PlainSheet, one, wide, two, warned, shipped}
use Rattle.tb_laws.proofs.NothingLost.StateWeights.{sheet_weight}
use Rattle.tb_items.specs.RunEvents.{RunEvent, offered, sent}
use Rattle.tb_report.specs.RunTotals.{sheet_nodes}
use Rattle.tb_laws.specs.Laws.{leaf_boxes, foot_boxes, text_line, foot_line, note_line, lines_by, float_of, galley_floats, float_lines, shipped_nodes, box_lines_of, float_lines_of, note_lines_of, node_lines}
use Rattle.tb_column.proofs.PrintedLines.{printed, prints, prints-append, IsPlain, AllPlain, plain-both}
use Rattle.tb_sheet.proofs.PrintedSheets.{sheet_prints, SheetPlain}
use Rattle.tb_laws.proofs.OnceEach.PrintedRuns.{events_prints, EventsPlain}
use Rattle.tb_laws.proofs.NothingLost.RunWeights.{events_weight}
use Rattle.tb_laws.proofs.NothingLost.StartLemmas.{leaf_line, foot_weight, item_weight, items_weight}

-- ---- what is shipped, as a list of nodes

pub sheet-nodes : (v : Weight) (s : PlainSheet) → sheet_weight v s ≡ nodes_weight v (sheet_nodes s)
sheet-nodes v (one c) = refl
sheet-nodes v (wide c) = refl
sheet-nodes v (two tops at left right) = sym (weight-append v (tops ++ left.nodes) right.nodes ∙ ap (λ n. n + nodes_weight v right.nodes) (weight-append v tops left.nodes))

pub events-nodes : (v : Weight) (es : List RunEvent) → events_weight v es ≡ nodes_weight v (shipped_nodes es)
events-nodes v [] = refl
events-nodes v (offered t ∷ es) = events-nodes v es
events-nodes v (sent (warned w) ∷ es) = events-nodes v es
events-nodes v (sent (shipped page sheet) ∷ es) =
    let a : sheet_weight v sheet ≡ nodes_weight v (sheet_nodes sheet) = sheet-nodes v sheet in
    let b : events_weight v es ≡ nodes_weight v (shipped_nodes es) = events-nodes v es in
    let c : nodes_weight v (sheet_nodes sheet ++ shipped_nodes es) ≡ nodes_weight v (sheet_nodes sheet) + nodes_weight v (shipped_nodes es) = weight-append v (sheet_nodes sheet) (shipped_nodes es) in
    omega arith

pub sheet-plain : (s : PlainSheet) → SheetPlain s → AllPlain (sheet_nodes s)
sheet-plain (one c) h = h
sheet-plain (wide c) h = h
sheet-plain (two tops at left right) h = plain-both (tops ++ left.nodes) right.nodes (plain-both tops left.nodes h.0 h.1) h.2

pub events-plain : (es : List RunEvent) → EventsPlain es → AllPlain (shipped_nodes es)
events-plain [] h = tt
events-plain (offered t ∷ es) h = events-plain es h
events-plain (sent (warned w) ∷ es) h = events-plain es h
events-plain (sent (shipped page sheet) ∷ es) h = plain-both (sheet_nodes sheet) (shipped_nodes es) (sheet-plain sheet h.0) (events-plain es h.1)

kind-lines : (l : ℕ) (k : PlainKind) → printed l k ≡ box_lines_of l k
kind-lines l (plain (hbox (what.Text name) h d)) = refl
kind-lines l (plain (rule rules.Footnotes h d)) = refl
kind-lines l k = refl

pub box-lines : (ns : List PlainNode) → prints ns ≡ node_lines box_lines_of ns
box-lines [] = refl
box-lines (n ∷ ns) = λ i. kind-lines n.line n.kind i ++ box-lines ns i

pub sheet-lines : (s : PlainSheet) → sheet_prints s ≡ prints (sheet_nodes s)
sheet-lines (one c) = refl
sheet-lines (wide c) = refl
sheet-lines (two tops at left right) = sym (prints-append (tops ++ left.nodes) right.nodes ∙ ap (λ l. l ++ prints right.nodes) (prints-append tops left.nodes))

events-shown : (es : List RunEvent) → events_prints es ≡ prints (shipped_nodes es)
events-shown [] = refl
events-shown (offered t ∷ es) = events-shown es
events-shown (sent (warned w) ∷ es) = events-shown es
events-shown (sent (shipped page sheet) ∷ es) = (λ i. sheet-lines sheet i ++ events-shown es i) ∙ sym (prints-append (sheet_nodes sheet) (shipped_nodes es))

-- what events show are the lines of the boxes and rules that they ship
pub events-lines : (es : List RunEvent) → events_prints es ≡ node_lines box_lines_of (shipped_nodes es)
events-lines es = events-shown es ∙ box-lines (shipped_nodes es)

-- ---- measures

-- a measure of lists that adds up
pub record Measure : Type 0 where
  pub of : List ℕ → ℕ
  pub nothing : of [] ≡ 0
  pub adds : (xs ys : List ℕ) → of (xs ++ ys) ≡ of xs + of ys

module _ (m : Measure) where
  -- by which boxes, floats or notes weigh
  abbrev pub of_boxes : Weight
  of_boxes = record { box = λ n. m.of (n ∷ []); float = λ n. 0; margin = λ n. 0 }

  abbrev pub of_floats : Weight
  of_floats = record { box = λ n. 0; float = λ n. m.of (n ∷ []); margin = λ n. 0 }

  abbrev pub of_notes : Weight
  of_notes = record { box = λ n. 0; float = λ n. 0; margin = λ n. m.of (n ∷ []) }

  box-measure : (l : ℕ) (k : PlainKind) → IsPlain k → kind_weight of_boxes l k ≡ m.of (box_lines_of l k)
  box-measure l (plain (hbox (what.Text name) h d)) q = refl
  box-measure l (plain (rule (rules.Item name) h d)) q = refl
  box-measure l (ins i) q = absurd q
  box-measure l (act a) q = absurd q
  box-measure l k q = sym m.nothing

  float-measure : (l : ℕ) (k : PlainKind) → IsPlain k → kind_weight of_floats l k ≡ m.of (float_lines_of l k)
  float-measure l (plain (hbox (what.Float name class place item) h d)) q = refl
  float-measure l (plain (rule rules.Footnotes h d)) q = sym m.nothing
  float-measure l (ins i) q = absurd q
  float-measure l (act a) q = absurd q
  float-measure l k q = sym m.nothing

  note-measure : (l : ℕ) (k : PlainKind) → IsPlain k → kind_weight of_notes l k ≡ m.of (note_lines_of l k)
  note-measure l (plain (hbox (what.Margin name side item shift height depth) h d)) q = refl
  note-measure l (plain (rule rules.Footnotes h d)) q = sym m.nothing
  note-measure l (ins i) q = absurd q
  note-measure l (act a) q = absurd q
  note-measure l k q = sym m.nothing

  nodes-measure : (v : Weight) (lines : ℕ → PlainKind → List ℕ) → ((l : ℕ) (k : PlainKind) → IsPlain k → kind_weight v l k ≡ m.of (lines l k)) → (ns : List PlainNode) → AllPlain ns → nodes_weight v ns ≡ m.of (node_lines lines ns)
  nodes-measure v lines h [] q = sym m.nothing
  nodes-measure v lines h (n ∷ ns) q =
      let a : kind_weight v n.line n.kind ≡ m.of (lines n.line n.kind) = h n.line n.kind q.0 in
      let b : nodes_weight v ns ≡ m.of (node_lines lines ns) = nodes-measure v lines h ns q.1 in
      let c : m.of (lines n.line n.kind ++ node_lines lines ns) ≡ m.of (lines n.line n.kind) + m.of (node_lines lines ns) = m.adds (lines n.line n.kind) (node_lines lines ns) in
      omega arith

  -- what is shipped weighs as its lines measure
  pub boxes-measure : (ns : List PlainNode) → AllPlain ns → nodes_weight of_boxes ns ≡ m.of (node_lines box_lines_of ns)
  boxes-measure = nodes-measure of_boxes box_lines_of box-measure

  pub floats-measure : (ns : List PlainNode) → AllPlain ns → nodes_weight of_floats ns ≡ m.of (node_lines float_lines_of ns)
  floats-measure = nodes-measure of_floats float_lines_of float-measure

  pub notes-measure : (ns : List PlainNode) → AllPlain ns → nodes_weight of_notes ns ≡ m.of (node_lines note_lines_of ns)
  notes-measure = nodes-measure of_notes note_lines_of note-measure

  -- ---- what a galley has

  -- one list before another
  two-parts : (a b : List ℕ) (n x y : ℕ) → n ≡ m.of a → x ≡ m.of b → y ≡ n + x → y ≡ m.of (a ++ b)
  two-parts a b n x y e f g = let c : m.of (a ++ b) ≡ m.of a + m.of b = m.adds a b in omega arith

  leaf-has : (n : ℕ) (k : LeafKind) → leaf_line of_boxes n k ≡ m.of (leaf_boxes n k)
  leaf-has n (leaves.Hbox name h d) = refl
  leaf-has n (leaves.Rule name h d) = refl
  leaf-has n k = sym m.nothing

  foot-has : (ls : List Leaf) → foot_weight of_boxes ls ≡ m.of (foot_boxes ls)
  foot-has [] = sym m.nothing
  foot-has (l ∷ ls) = two-parts (leaf_boxes l.line l.kind) (foot_boxes ls) (leaf_line of_boxes l.line l.kind) (foot_weight of_boxes ls) _ (leaf-has l.line l.kind) (foot-has ls) refl

  with-nothing : (t : ℕ) → t ≡ t + m.of []
  with-nothing t = let e : m.of [] ≡ 0 = m.nothing in omega arith

  after-nothing : (t : ℕ) → t ≡ m.of [] + t
  after-nothing t = let e : m.of [] ≡ 0 = m.nothing in omega arith

  both-nothing : 0 ≡ m.of [] + m.of []
  both-nothing = let e : m.of [] ≡ 0 = m.nothing in omega arith

  item-boxes : (n : ℕ) (k : ItemKind) → item_weight of_boxes n k ≡ m.of (text_line n k) + m.of (foot_line n k)
  item-boxes n (items.Hbox name h d) = with-nothing (m.of (n ∷ []))
  item-boxes n (items.Rule name h d) = with-nothing (m.of (n ∷ []))
  item-boxes n (items.Foot class ls) = foot-has ls ∙ after-nothing (m.of (foot_boxes ls))
  item-boxes n k = both-nothing

  pub galley-boxes : (ns : List Item) → items_weight of_boxes ns ≡ m.of (lines_by text_line ns) + m.of (lines_by foot_line ns)
  galley-boxes [] = both-nothing
  galley-boxes (n ∷ ns) =
      let a : item_weight of_boxes n.line n.kind ≡ m.of (text_line n.line n.kind) + m.of (foot_line n.line n.kind) = item-boxes n.line n.kind in
      let b : items_weight of_boxes ns ≡ m.of (lines_by text_line ns) + m.of (lines_by foot_line ns) = galley-boxes ns in
      let c : m.of (text_line n.line n.kind ++ lines_by text_line ns) ≡ m.of (text_line n.line n.kind) + m.of (lines_by text_line ns) = m.adds (text_line n.line n.kind) (lines_by text_line ns) in
      let d : m.of (foot_line n.line n.kind ++ lines_by foot_line ns) ≡ m.of (foot_line n.line n.kind) + m.of (lines_by foot_line ns) = m.adds (foot_line n.line n.kind) (lines_by foot_line ns) in
      omega arith

  no-leaf : (v : Weight) → ((n : ℕ) → v.box n ≡ 0) → (n : ℕ) (k : LeafKind) → leaf_line v n k ≡ 0
  no-leaf v h n (leaves.Hbox name x d) = h n
  no-leaf v h n (leaves.Rule name x d) = h n
  no-leaf v h n k = refl

  no-foot : (v : Weight) → ((n : ℕ) → v.box n ≡ 0) → (ls : List Leaf) → foot_weight v ls ≡ 0
  no-foot v h [] = refl
  no-foot v h (l ∷ ls) =
      let a : leaf_line v l.line l.kind ≡ 0 = no-leaf v h l.line l.kind in
      let b : foot_weight v ls ≡ 0 = no-foot v h ls in
      omega arith

  lines-append : (xs ys : List Float) → float_lines (xs ++ ys) ≡ float_lines xs ++ float_lines ys
  lines-append [] ys = refl
  lines-append (x ∷ xs) ys = ap (λ l. x.line ∷ l) (lines-append xs ys)

  item-floats : (n : ℕ) (k : ItemKind) → item_weight of_floats n k ≡ m.of (float_lines (float_of k))
  item-floats n (items.Foot class ls) = no-foot of_floats (λ n. refl) ls ∙ sym m.nothing
  item-floats n (items.Float f vert) = refl
  item-floats n (items.Head f) = refl
  item-floats n k = sym m.nothing

  pub galley-has-floats : (ns : List Item) → items_weight of_floats ns ≡ m.of (float_lines (galley_floats ns))
  galley-has-floats [] = sym m.nothing
  galley-has-floats (n ∷ ns) =
      two-parts (float_lines (float_of n.kind)) (float_lines (galley_floats ns)) (item_weight of_floats n.line n.kind) (items_weight of_floats ns) _ (item-floats n.line n.kind) (galley-has-floats ns) refl
      ∙ ap m.of (sym (lines-append (float_of n.kind) (galley_floats ns)))

  same-line : (a b : ℕ) → IsTrue (a == b) → a ≡ b
  same-line a b h = grind (arith, h)

  item-notes : (n : ℕ) (k : ItemKind) → IsTrue (is_item n k) → item_weight of_notes n k ≡ m.of (note_line n k)
  item-notes n (items.Foot class ls) v = no-foot of_notes (λ n. refl) ls ∙ sym m.nothing
  item-notes n (items.Margin x vert) v = ap (λ l. m.of (l ∷ [])) (same-line x.line n (and_parts (x.line == n) (is_margin x) v).0)
  item-notes n k v = sym m.nothing

  -- if each item is valid
  pub galley-has-notes : (ns : List Item) → IsTrue (list_all (λ n. is_item n.line n.kind) ns) → items_weight of_notes ns ≡ m.of (lines_by note_line ns)
  galley-has-notes [] v = sym m.nothing
  galley-has-notes (n ∷ ns) v =
      two-parts (note_line n.line n.kind) (lines_by note_line ns) (item_weight of_notes n.line n.kind) (items_weight of_notes ns) _
      (item-notes n.line n.kind (and_parts (is_item n.line n.kind) (list_all (λ n. is_item n.line n.kind) ns) v).0) (galley-has-notes ns (and_parts (is_item n.line n.kind) (list_all (λ n. is_item n.line n.kind) ns) v).1) refl
