-- What the parts of a state weigh, and by how much a step of a firing adds to it.
use Rattle.std.proofs.Common.{◌≡◌, refl, sym, ◌∙◌, ℕ, ◌+◌, Bool, true, false, List, [], ◌∷◌, ◌++◌, map, Option, Some, None, add-zero, zero-add, arith}
use Rattle.std.specs.Prelude.{if◌then◌else◌}
use Rattle.tb_node.specs.declared.Float.{Float}
use Rattle.tb_node.specs.PlainNodes.{PlainNode}
use Rattle.tb_node.proofs.Weights.{Weight, nodes_weight, weight-append}
use Rattle.tb_param.specs.declared.Params.{Params}
use Rattle.tb_insert.specs.declared.Class.{Class}
use Rattle.tb_builder.specs.FiredPages.{Boxed}
use Rattle.tb_builder.proofs.FiredPages.PageWeights.{boxes_weight, hits}
use Rattle.tb_float.specs.declared.Entry.{Entry}
use Rattle.tb_float.specs.declared.Entry.TheVariants as entries
use Rattle.tb_float.specs.Lists.{FloatLists}
use Rattle.tb_column.specs.Column.{PlainColumn}
use Rattle.tb_sheet.specs.Sheet.{PlainSheet, warned, shipped}
use Rattle.tb_sheet.specs.declared.Warn.{Warn}
use Rattle.tb_output.proofs.StepLaws.RefusedSteps.{by-sends, by-records, by-ship}
use Rattle.tb_output.proofs.StepLaws.Moves.{Hand, nothing, of_text, of_column, of_float, of_note}
pub use Rattle.tb_sheet.proofs.PrintedSheets.{sheet_weight, sent_weight}
use Rattle.tb_sheet.proofs.PrintedSheets.{sent_weight-append}
use Rattle.tb_laws.proofs.Closed.BareFeet.{BoxesBare}
use Rattle.tb_output.specs.State.{State, Work, Recorded, puts, sends, records_also}
use Rattle.tb_output.specs.Pages

-- ---- what the parts of a state weigh

abbrev pub floats_weight : Weight → List Float → ℕ
floats_weight v [] = 0
floats_weight v (f ∷ fs) = v.float f.line + floats_weight v fs

abbrev pub entries_weight : Weight → List Entry → ℕ
entries_weight v [] = 0
entries_weight v (entries.Float f ∷ es) = v.float f.line + entries_weight v es
entries_weight v (entries.Left m ∷ es) = v.margin m.line + entries_weight v es
entries_weight v (entries.Right m ∷ es) = entries_weight v es

-- a float of the here list is in the text as a box, which weighs
abbrev pub lists_weight : Weight → FloatLists → ℕ
lists_weight v l = entries_weight v l.current + floats_weight v l.top + floats_weight v l.bottom + floats_weight v l.deferred + floats_weight v l.double + floats_weight v l.second

abbrev pub left_weight : Weight → Option PlainColumn → ℕ
left_weight v None = 0
left_weight v (Some c) = nodes_weight v c.nodes

abbrev pub state_weight : Weight → State → ℕ
state_weight v s = nodes_weight v s.waiting + boxes_weight v s.boxes + nodes_weight v s.held_page + lists_weight v s.floats + left_weight v s.left_column

abbrev pub work_weight : Weight → Work → ℕ
work_weight v w = state_weight v w.state + nodes_weight v w.put_back + sent_weight v w.sent

pub floats-append : (v : Weight) (xs ys : List Float) → floats_weight v (xs ++ ys) ≡ floats_weight v xs + floats_weight v ys
floats-append v [] ys = omega arith
floats-append v (x ∷ xs) ys = let h : floats_weight v (xs ++ ys) ≡ floats_weight v xs + floats_weight v ys = floats-append v xs ys in omega arith

-- ---- the invariant of a state

-- the numbers of classes
abbrev pub class_numbers : List Class → List ℕ
class_numbers cs = map (λ (c : Class). c.number) cs

-- a box for each class, and no number twice
abbrev pub BoxesFit : List Class → List Boxed → Type 0
BoxesFit [] [] = Unit {0}
BoxesFit [] (b ∷ bs) = ⊥
BoxesFit (c ∷ cs) [] = ⊥
BoxesFit (c ∷ cs) (b ∷ bs) = (b.number ≡ c.number) × (hits c.number (class_numbers cs) ≡ 0) × BoxesFit cs bs

-- the second of two columns has a first one, and no other has
abbrev pub ColumnsFit : Bool → Bool → Option PlainColumn → Type 0
ColumnsFit t true None = Unit {0}
ColumnsFit t true (Some c) = ⊥
ColumnsFit true false None = ⊥
ColumnsFit true false (Some c) = Unit {0}
ColumnsFit false false o = ⊥

-- before the first of two columns, and in one column, none is kept
pub first-left : (t : Bool) (o : Option PlainColumn) → ColumnsFit t true o → o ≡ None
first-left t None h = refl
first-left t (Some c) h = absurd h

pub one-left : (f : Bool) (o : Option PlainColumn) → ColumnsFit false f o → o ≡ None
one-left true o h = first-left false o h
one-left false o h = absurd h

-- the two boxes of a note are side by side
abbrev pub Paired : List Entry → Type 0
Paired [] = Unit {0}
Paired (entries.Float f ∷ es) = Paired es
Paired (entries.Left m ∷ []) = ⊥
Paired (entries.Left m ∷ entries.Float f ∷ es) = ⊥
Paired (entries.Left m ∷ entries.Left n ∷ es) = ⊥
Paired (entries.Left m ∷ entries.Right n ∷ es) = Paired es
Paired (entries.Right m ∷ es) = ⊥

pub record Sound (s : State) : Type 0 where
  pub box : BoxesFit s.classes s.boxes
  pub bare : BoxesBare s.boxes
  pub columns : ColumnsFit s.two_columns s.first_column s.left_column
  pub entries : Paired s.floats.current

-- the nodes that wait and the classes are kept; if the second is not refused, the first is not; and the second is then sound if the first is, and weighs so much more
pub record Adds (v : Weight) (n : ℕ) (a b : Work) : Type 0 where
  pub waits : b.state.waiting ≡ a.state.waiting
  pub classes : b.state.classes ≡ a.state.classes
  pub goes : b.refused ≡ false → a.refused ≡ false
  pub by : b.refused ≡ false → Sound a.state → Sound b.state × (work_weight v b ≡ work_weight v a + n)

pub added : (v : Weight) (i j : ℕ) (a b c : Work) → Adds v i a b → Adds v j b c → Adds v (i + j) a c
added v i j a b c x y = record { waits = y.waits ∙ x.waits; classes = y.classes ∙ x.classes; goes = λ r. x.goes (y.goes r); by = λ r s. all r (x.by (y.goes r) s) }
  where
    all : c.refused ≡ false → Sound b.state × (work_weight v b ≡ work_weight v a + i) → Sound c.state × (work_weight v c ≡ work_weight v a + (i + j))
    all r h =
        let k = y.by r h.0 in
        let d : work_weight v b ≡ work_weight v a + i = h.1 in
        let e : work_weight v c ≡ work_weight v b + j = k.1 in
        (k.0, sums (work_weight v a) (work_weight v b) (work_weight v c) d e)
      where
        sums : (x y z : ℕ) → y ≡ x + i → z ≡ y + j → z ≡ x + (i + j)
        sums x y z d e = omega arith

-- the same, if the second adds nothing
pub then_kept : (v : Weight) (n : ℕ) (a b c : Work) → Adds v n a b → Adds v 0 b c → Adds v n a c
then_kept v n a b c x y = let h : Adds v (n + 0) a c = added v n 0 a b c x y in rw (add-zero n) at h

pub adds_if : (v : Weight) (n : ℕ) (a : Work) (t : Bool) (b c : Work) → Adds v n a b → Adds v n a c → Adds v n a (if t then b else c)
adds_if v n a true b c x y = x
adds_if v n a false b c x y = y

pub unchanged : (v : Weight) (a : Work) → Adds v 0 a a
unchanged v a = record { waits = refl; classes = refl; goes = λ r. r; by = λ r s. (s, omega arith) }

-- ---- the small steps

pub puts-adds : (v : Weight) (ns : List PlainNode) (w : Work) → Adds v (nodes_weight v ns) w (puts ns w)
puts-adds v ns w =
    let e : nodes_weight v (w.put_back ++ ns) ≡ nodes_weight v w.put_back + nodes_weight v ns = weight-append v w.put_back ns in
    record { waits = refl; classes = refl; goes = λ r. r; by = λ r s. (s, sums (state_weight v w.state) (nodes_weight v w.put_back) (nodes_weight v (w.put_back ++ ns)) (sent_weight v w.sent) (nodes_weight v ns) e) }
  where
    sums : (x p q y n : ℕ) → q ≡ p + n → x + q + y ≡ x + p + y + n
    sums x p q y n e = omega arith

pub records-adds : (v : Weight) (r : Recorded) (w : Work) → Adds v 0 w (records_also r w)
records-adds v r w = by-records (Adds v 0 w) r w (unchanged v w) (record { waits = refl; classes = refl; goes = λ k. k; by = λ k s. (s, omega arith) })

pub warns-adds : (v : Weight) (e : Warn) (w : Work) → Adds v 0 w (sends (warned e) w)
warns-adds v e w = by-sends (Adds v 0 w) (warned e) w (unchanged v w) (record { waits = refl; classes = refl; goes = λ k. k; by = λ k s. (s, sums (state_weight v w.state + nodes_weight v w.put_back) (sent_weight v w.sent) (sent_weight v (w.sent ++ warned e ∷ [])) (sent_weight-append v w.sent (warned e ∷ []))) })
  where
    sums : (x y z : ℕ) → z ≡ y + 0 → x + z ≡ x + y + 0
    sums x y z e = omega arith

-- a page that is shipped
pub shipped-adds : (v : Weight) (p : Params) (sheet : PlainSheet) (w : Work) → Adds v (sheet_weight v sheet) w (Pages.ship p sheet w)
shipped-adds v p sheet w =
    by-ship (Adds v (sheet_weight v sheet) w) p sheet w (λ h. record { waits = refl; classes = refl; goes = λ k. k; by = λ k s. let no : ⊥ = grind (arith, k, h) in absurd no })
    (λ h. record { waits = refl; classes = refl; goes = λ k. let no : ⊥ = grind (arith, k) in absurd no; by = λ k s. let no : ⊥ = grind (arith, k) in absurd no })
    (λ h e. record { waits = refl; classes = refl; goes = λ k. k; by = λ k s. (record { box = s.box; bare = s.bare; columns = s.columns; entries = s.entries }, sums (state_weight v w.state + nodes_weight v w.put_back) (sent_weight v w.sent) (sent_weight v (w.sent ++ shipped w.state.number sheet ∷ [])) (sheet_weight v sheet) (sent_weight-append v w.sent (shipped w.state.number sheet ∷ []))) })
  where
    sums : (x y z n : ℕ) → z ≡ y + (n + 0) → x + z ≡ x + y + n
    sums x y z n e = omega arith

-- ---- with something in hand

abbrev pub hand_weight : Weight → Hand → ℕ
hand_weight v nothing = 0
hand_weight v (of_text body) = nodes_weight v body
hand_weight v (of_column c) = nodes_weight v c.nodes
hand_weight v (of_float f) = v.float f.line
hand_weight v (of_note m at) = v.margin m.line

-- a page's list in hand weighs nothing
abbrev pub Light : Weight → Hand → Type 0
Light v nothing = Unit {0}
Light v (of_text body) = nodes_weight v body ≡ 0
Light v (of_column c) = Unit {0}
Light v (of_float f) = Unit {0}
Light v (of_note m at) = Unit {0}

-- between two moves nothing is lost, if a page's list in hand weighs nothing
pub record Weighs (v : Weight) (h : Hand) (a : Work) (i : Hand) (b : Work) : Type 0 where
  pub waits : b.state.waiting ≡ a.state.waiting
  pub classes : b.state.classes ≡ a.state.classes
  pub goes : b.refused ≡ false → a.refused ≡ false
  pub light : Light v h → Light v i
  pub by : b.refused ≡ false → Light v h → Sound a.state → Sound b.state × (work_weight v b + hand_weight v i ≡ work_weight v a + hand_weight v h)

-- what is in hand is lighter by what is added
pub gives : (v : Weight) (h i : Hand) (n : ℕ) (a b : Work) → Adds v n a b → (Light v h → (hand_weight v h ≡ n + hand_weight v i) × Light v i) → Weighs v h a i b
gives v h i n a b x k = record {
  waits = x.waits;
  classes = x.classes;
  goes = λ r. x.goes r;
  light = λ l. (k l).1;
  by = λ r l s. let y = x.by r s in (y.0, sums (work_weight v a) (work_weight v b) n (hand_weight v h) (hand_weight v i) y.1 (k l).0);
}
  where
    sums : (x y n h i : ℕ) → y ≡ x + n → h ≡ n + i → y + i ≡ x + h
    sums x y n h i d e = omega arith

-- what is in hand stays as it is
pub keeps : (v : Weight) (h : Hand) (a b : Work) → Adds v 0 a b → Weighs v h a h b
keeps v h a b x = gives v h h 0 a b x (λ l. (sym (zero-add (hand_weight v h)), l))

pub weighs-then : (v : Weight) (h i j : Hand) (a b c : Work) → Weighs v h a i b → Weighs v i b j c → Weighs v h a j c
weighs-then v h i j a b c x y = record {
  waits = y.waits ∙ x.waits;
  classes = y.classes ∙ x.classes;
  goes = λ r. x.goes (y.goes r);
  light = λ l. y.light (x.light l);
  by = λ r l s.
      let d = x.by (y.goes r) l s in
      let e = y.by r (x.light l) d.0 in
      (e.0, e.1 ∙ d.1);
}

-- all moves until nothing is in hand
pub all-added : (v : Weight) (h : Hand) (a b : Work) → Weighs v h a nothing b → Light v h → Adds v (hand_weight v h) a b
all-added v h a b x l = record { waits = x.waits; classes = x.classes; goes = λ r. x.goes r; by = λ r s. let d = x.by r l s in (d.0, sym (add-zero (work_weight v b)) ∙ d.1) }
