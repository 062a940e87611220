-- What is sent shows the boxes and rules of its columns, and has no insertions and no acts if they have none; and what it weighs.
use Rattle.std.proofs.Common.{◌≡◌, refl, sym, ◌∙◌, ap, ℕ, ◌+◌, List, [], ◌∷◌, ◌++◌, append_assoc, arith}
use Rattle.tb_node.proofs.Weights.{Weight, nodes_weight}
use Rattle.tb_column.proofs.PrintedLines.{prints, AllPlain}
use Rattle.tb_sheet.specs.Sheet.{PlainSheet, one, wide, two, PlainSent, warned, shipped}

abbrev pub sheet_prints : PlainSheet → List ℕ
sheet_prints (one c) = prints c.nodes
sheet_prints (wide c) = prints c.nodes
sheet_prints (two tops at left right) = prints tops ++ prints left.nodes ++ prints right.nodes

abbrev pub sent_prints : List PlainSent → List ℕ
sent_prints [] = []
sent_prints (warned w ∷ es) = sent_prints es
sent_prints (shipped page sheet ∷ es) = sheet_prints sheet ++ sent_prints es

pub sent-append : (xs ys : List PlainSent) → sent_prints (xs ++ ys) ≡ sent_prints xs ++ sent_prints ys
sent-append [] ys = refl
sent-append (warned w ∷ xs) ys = sent-append xs ys
sent-append (shipped page sheet ∷ xs) ys = ap (λ l. sheet_prints sheet ++ l) (sent-append xs ys) ∙ sym (append_assoc (sheet_prints sheet) (sent_prints xs) (sent_prints ys))

abbrev pub sheet_weight : Weight → PlainSheet → ℕ
sheet_weight v (one c) = nodes_weight v c.nodes
sheet_weight v (wide c) = nodes_weight v c.nodes
sheet_weight v (two tops at left right) = nodes_weight v tops + nodes_weight v left.nodes + nodes_weight v right.nodes

abbrev pub sent_weight : Weight → List PlainSent → ℕ
sent_weight v [] = 0
sent_weight v (warned w ∷ es) = sent_weight v es
sent_weight v (shipped page sheet ∷ es) = sheet_weight v sheet + sent_weight v es

pub sent_weight-append : (v : Weight) (xs ys : List PlainSent) → sent_weight v (xs ++ ys) ≡ sent_weight v xs + sent_weight v ys
sent_weight-append v [] ys = omega arith
sent_weight-append v (warned w ∷ xs) ys = sent_weight-append v xs ys
sent_weight-append v (shipped page sheet ∷ xs) ys = let h : sent_weight v (xs ++ ys) ≡ sent_weight v xs + sent_weight v ys = sent_weight-append v xs ys in omega arith

abbrev pub SheetPlain : PlainSheet → Type 0
SheetPlain (one c) = AllPlain c.nodes
SheetPlain (wide c) = AllPlain c.nodes
SheetPlain (two tops at left right) = AllPlain tops × AllPlain left.nodes × AllPlain right.nodes

abbrev pub SentPlain : List PlainSent → Type 0
SentPlain [] = Unit {0}
SentPlain (warned w ∷ es) = SentPlain es
SentPlain (shipped page sheet ∷ es) = SheetPlain sheet × SentPlain es

pub sent-plain : (xs ys : List PlainSent) → SentPlain xs → SentPlain ys → SentPlain (xs ++ ys)
sent-plain [] ys a b = b
sent-plain (warned w ∷ xs) ys a b = sent-plain xs ys a b
sent-plain (shipped page sheet ∷ xs) ys a b = (a.0, sent-plain xs ys a.1 b)
