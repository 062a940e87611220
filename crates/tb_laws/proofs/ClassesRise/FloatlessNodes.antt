-- The lines of a class in events, and nodes in which no float weighs.
use Rattle.std.proofs.Common.{◌≡◌, refl, sym, ◌∙◌, ap, ℕ, ◌+◌, List, [], ◌∷◌, ◌++◌, map, Option, Some, None, append_assoc, arith}
use Rattle.tb_node.specs.declared.RuleOf.TheVariants.{Footnotes}
use Rattle.tb_node.specs.declared.Act.{Act}
use Rattle.tb_node.specs.declared.Act.TheVariants as acts
use Rattle.tb_node.specs.declared.What.TheVariants as what
use Rattle.tb_node.specs.PlainNodes.{Matter, hbox, rule, Leaf, PlainKind, plain, ins, act, PlainNode}
use Rattle.tb_node.proofs.Weights.{Weight, matter_weight, leaves_weight, kind_weight, nodes_weight}
use Rattle.tb_sheet.specs.declared.Warn.{Warn}
use Rattle.tb_column.specs.Column.{PlainColumn}
use Rattle.tb_sheet.specs.Sheet.{PlainSent, warned, shipped}
use Rattle.tb_laws.proofs.NothingLost.StateWeights.{left_weight}
use Rattle.tb_laws.proofs.ClassesRise.ClassLines.{FloatKind, kind_lines, class_lines, sheet_lines, sent_lines}
use Rattle.tb_items.specs.RunEvents.{RunEvent, offered, sent}
use Rattle.tb_laws.proofs.NothingLost.RunWeights.{ActFits, ActsFit}

-- ---- events

-- the lines of a class in what events ship
abbrev pub events_lines : FloatKind → List RunEvent → List ℕ
events_lines k [] = []
events_lines k (offered t ∷ es) = events_lines k es
events_lines k (sent (warned w) ∷ es) = events_lines k es
events_lines k (sent (shipped page sheet) ∷ es) = sheet_lines k sheet ++ events_lines k es

pub events-lines-append : (k : FloatKind) (xs ys : List RunEvent) → events_lines k (xs ++ ys) ≡ events_lines k xs ++ events_lines k ys
events-lines-append k [] ys = refl
events-lines-append k (offered t ∷ xs) ys = events-lines-append k xs ys
events-lines-append k (sent (warned w) ∷ xs) ys = events-lines-append k xs ys
events-lines-append k (sent (shipped page sheet) ∷ xs) ys = ap (λ l. sheet_lines k sheet ++ l) (events-lines-append k xs ys) ∙ sym (append_assoc (sheet_lines k sheet) (events_lines k xs) (events_lines k ys))

pub sent-events-lines : (k : FloatKind) (es : List PlainSent) → events_lines k (map sent es) ≡ sent_lines k es
sent-events-lines k [] = refl
sent-events-lines k (warned w ∷ es) = sent-events-lines k es
sent-events-lines k (shipped page sheet ∷ es) = ap (λ l. sheet_lines k sheet ++ l) (sent-events-lines k es)

pub warnings-lines : (k : FloatKind) (ws : List Warn) → events_lines k (map (λ w. sent (warned w)) ws) ≡ []
warnings-lines k [] = refl
warnings-lines k (w ∷ ws) = warnings-lines k ws

-- ---- weights that count nothing, or each float

abbrev pub nothing_weighs : Weight
nothing_weighs = record { box = λ n. 0; float = λ n. 0; margin = λ n. 0 }

abbrev pub floats_count : Weight
floats_count = record { box = λ n. 0; float = λ n. 1; margin = λ n. 0 }

nothing-matter : (n : ℕ) (m : Matter) → matter_weight nothing_weighs n m ≡ 0
nothing-matter n (hbox (what.Text name) h d) = refl
nothing-matter n (rule Footnotes h d) = refl
nothing-matter n m = refl

nothing-leaves : (ls : List Leaf) → leaves_weight nothing_weighs ls ≡ 0
nothing-leaves [] = refl
nothing-leaves (l ∷ ls) =
    let a : matter_weight nothing_weighs l.line l.matter ≡ 0 = nothing-matter l.line l.matter in
    let b : leaves_weight nothing_weighs ls ≡ 0 = nothing-leaves ls in
    omega arith

nothing-kind : (n : ℕ) (d : PlainKind) → kind_weight nothing_weighs n d ≡ 0
nothing-kind n (plain m) = nothing-matter n m
nothing-kind n (ins i) = nothing-leaves i.inner
nothing-kind n (act (acts.Take f)) = refl
nothing-kind n d = refl

nothing-nodes : (ns : List PlainNode) → nodes_weight nothing_weighs ns ≡ 0
nothing-nodes [] = refl
nothing-nodes (n ∷ ns) =
    let a : kind_weight nothing_weighs n.line n.kind ≡ 0 = nothing-kind n.line n.kind in
    let b : nodes_weight nothing_weighs ns ≡ 0 = nothing-nodes ns in
    omega arith

nothing-left : (o : Option PlainColumn) → left_weight nothing_weighs o ≡ 0
nothing-left None = refl
nothing-left (Some c) = nothing-nodes c.nodes

-- if nothing weighs, a change of columns drops nothing that weighs
pub nothing-fits : (o : Option PlainColumn) (ds : List Act) → ActsFit nothing_weighs o ds
nothing-fits o [] = tt
nothing-fits o (a ∷ ds) = (by_act a, nothing-fits o ds)
  where
    by_act : (a : Act) → ActFits nothing_weighs o a
    by_act (acts.Columns two) = nothing-left o
    by_act a = tt

one-float : (k : FloatKind) (n l : ℕ) (d : PlainKind) → kind_weight floats_count l d + n ≡ 0 → kind_lines k d ≡ []
one-float k n l (plain (hbox (what.Float name class place item) h d)) e = let never : ⊥ = omega arith in absurd never
one-float k n l d e = refl

-- a list in which no float weighs has no float's box
pub no-floats : (k : FloatKind) (ns : List PlainNode) → nodes_weight floats_count ns ≡ 0 → class_lines k ns ≡ []
no-floats k [] e = refl
no-floats k (n ∷ ns) e =
    let a : kind_lines k n.kind ≡ [] = one-float k (nodes_weight floats_count ns) n.line n.kind e in
    ap (λ l. l ++ class_lines k ns) a ∙ no-floats k ns (second (kind_weight floats_count n.line n.kind) (nodes_weight floats_count ns) e)
  where
    second : (a b : ℕ) → a + b ≡ 0 → b ≡ 0
    second a b e = omega arith
