-- What follows for a float that is in one place at most: where it stands, or is shipped, it is not among those that wait.
use Rattle.std.proofs.Common.{◌≡◌, refl, ◌∙◌, ap, subst, ℕ, zero, suc, ◌+◌, ◌≤◌, ◌⊎◌, inl, inr, Bool, true, false, List, [], ◌∷◌, ◌++◌, Some, arith}
use Rattle.std.specs.Prelude.{◌==◌, if◌then◌else◌}
use Rattle.std.proofs.lemmas.Bool.{eqb-true, eq-eqb}
use Rattle.tb_node.specs.declared.Float.{Float}
use Rattle.tb_node.specs.declared.What.TheVariants as what
use Rattle.tb_node.specs.declared.Where.{Where}
use Rattle.tb_node.specs.declared.Where.TheVariants as places
use Rattle.tb_node.specs.PlainNodes.{hbox, PlainKind, plain, PlainNode}
use Rattle.tb_node.proofs.Weights.{Weight, kind_weight, nodes_weight}
use Rattle.tb_float.specs.declared.Part.{Part}
use Rattle.tb_float.specs.Lists.{FloatLists, floats_of, with_floats_of, IsWaiting}
use Rattle.tb_fpage.specs.declared.Wanted.{Wanted}
use Rattle.tb_fpage.specs.Company.{Choice, company, chosen_floats, left_floats}
use Rattle.tb_sheet.specs.Sheet.{PlainSheet, one, wide, two, PlainSent, shipped}
use Rattle.tb_sheet.proofs.PrintedSheets.{sheet_weight, sent_weight, sent_weight-append}
use Rattle.tb_output.specs.State.{Work}
use Rattle.tb_output.proofs.StepLaws.Moves.{Hand, of_text}
use Rattle.tb_told.specs.Tales.{and_here, here_lines}
use Rattle.tb_laws.specs.Laws.{float_lines}
use Rattle.tb_laws.proofs.ClassesRise.RisingLists.{IsAmong}
use Rattle.tb_laws.proofs.NothingLost.StateWeights.{floats_weight, lists_weight, floats-append, hand_weight, work_weight}
use Rattle.tb_laws.proofs.NothingLost.FloatWeights.{lists-with}
use Rattle.tb_laws.proofs.NothingLost.ColumnWeights.{CompanyOf, company-weight, parted-weight}
use Rattle.tb_why.specs.SummaryLaws.{IsNodeOf, HasFloat, HoldsFloat}
use Rattle.tb_why_laws.proofs.OnePlace.WaitingLines.{waiting_lines}
use Rattle.tb_why_laws.proofs.OnePlace.Once.{of_line, Once}

-- ---- what is there weighs one at least

-- a number of two lists together is in one of them
pub among-parts : (n : ℕ) (xs ys : List ℕ) → IsAmong n (xs ++ ys) → IsAmong n xs ⊎ IsAmong n ys
among-parts n [] ys i = inr i
among-parts n (x ∷ xs) ys (inl e) = inl (inl e)
among-parts n (x ∷ xs) ys (inr i) = by_part (among-parts n xs ys i)
  where
    by_part : IsAmong n xs ⊎ IsAmong n ys → IsAmong n (x ∷ xs) ⊎ IsAmong n ys
    by_part (inl a) = inl (inr a)
    by_part (inr b) = inr b

-- the float of a line weighs one
pub this : (m n : ℕ) → m ≡ n → (of_line n).float m ≡ 1
this m n e = ap (λ t. if t then 1 else 0) (eq-eqb m n e)

pub among-weight : (n : ℕ) (fs : List Float) → IsAmong n (float_lines fs) → 1 ≤ floats_weight (of_line n) fs
among-weight n [] i = absurd i
among-weight n (f ∷ fs) (inl e) = let h : (of_line n).float f.line ≡ 1 = this f.line n e in omega arith
among-weight n (f ∷ fs) (inr i) = let h : 1 ≤ floats_weight (of_line n) fs = among-weight n fs i in omega arith

pub weight-among : (n : ℕ) (fs : List Float) → 1 ≤ floats_weight (of_line n) fs → IsAmong n (float_lines fs)
weight-among n [] l = let no : ⊥ = omega arith in absurd no
weight-among n (f ∷ fs) l = by_line (f.line == n) refl (λ k. weight-among n fs k) l
  where
    by_line : (t : Bool) → (f.line == n) ≡ t → (1 ≤ floats_weight (of_line n) fs → IsAmong n (float_lines fs)) → 1 ≤ (if t then 1 else 0) + floats_weight (of_line n) fs → IsAmong n (float_lines (f ∷ fs))
    by_line true e again k = inl (eqb-true f.line n e)
    by_line false e again k = inr (again (omega arith))

-- one that waits
pub waiting-weight : (n : ℕ) (l : FloatLists) → IsAmong n (waiting_lines l) → 1 ≤ floats_weight (of_line n) l.deferred + floats_weight (of_line n) l.second
waiting-weight n l i = by_list (among-parts n (float_lines l.deferred) (float_lines l.second) i)
  where
    by_list : IsAmong n (float_lines l.deferred) ⊎ IsAmong n (float_lines l.second) → 1 ≤ floats_weight (of_line n) l.deferred + floats_weight (of_line n) l.second
    by_list (inl a) = let h : 1 ≤ floats_weight (of_line n) l.deferred = among-weight n l.deferred a in omega arith
    by_list (inr b) = let h : 1 ≤ floats_weight (of_line n) l.second = among-weight n l.second b in omega arith

-- so do the lists
pub listed-weight : (n : ℕ) (l : FloatLists) → IsAmong n (waiting_lines l) → 1 ≤ lists_weight (of_line n) l
listed-weight n l i = let h : 1 ≤ floats_weight (of_line n) l.deferred + floats_weight (of_line n) l.second = waiting-weight n l i in omega arith

-- one that stands in the text
pub here-weight : (n : ℕ) (ns : List PlainNode) → IsAmong n (here_lines ns) → 1 ≤ nodes_weight (of_line n) ns
here-weight n [] i = absurd i
here-weight n (m ∷ ms) i = by_kind m.line m.kind (λ k. here-weight n ms k) i
  where
    more : (a b : ℕ) → 1 ≤ b → 1 ≤ a + b
    more a b h = omega arith

    by_kind : (l : ℕ) (k : PlainKind) → (IsAmong n (here_lines ms) → 1 ≤ nodes_weight (of_line n) ms) → IsAmong n (and_here k (here_lines ms)) → 1 ≤ kind_weight (of_line n) l k + nodes_weight (of_line n) ms
    by_kind l (plain (hbox (what.Float name class places.Here item) h d)) again (inl e) = let x : (of_line n).float item ≡ 1 = this item n e in omega arith
    by_kind l (plain (hbox (what.Float name class places.Here item) h d)) again (inr j) = more ((of_line n).float item) (nodes_weight (of_line n) ms) (again j)
    by_kind l k again j = more (kind_weight (of_line n) l k) (nodes_weight (of_line n) ms) (again j)

-- one whose box is among nodes
pub has-weight : (n : ℕ) (place : Where) (ns : List PlainNode) → HasFloat n place ns → 1 ≤ nodes_weight (of_line n) ns
has-weight n place [] i = absurd i
has-weight n place (m ∷ ms) (inr i) = let h : 1 ≤ nodes_weight (of_line n) ms = has-weight n place ms i in omega arith
has-weight n place (m ∷ ms) (inl i) = by_kind m.line m.kind i
  where
    by_kind : (l : ℕ) (k : PlainKind) → IsNodeOf n place k → 1 ≤ kind_weight (of_line n) l k + nodes_weight (of_line n) ms
    by_kind l (plain (hbox (what.Float name class at item) h d)) x = let e : (of_line n).float item ≡ 1 = this item n x.1 in omega arith
    by_kind l (plain (hbox w h d)) x = absurd x
    by_kind l k x = absurd x

-- one whose box is on a page
pub holds-weight : (n : ℕ) (place : Where) (sheet : PlainSheet) → HoldsFloat n place sheet → 1 ≤ sheet_weight (of_line n) sheet
holds-weight n place (one c) i = has-weight n place c.nodes i
holds-weight n place (wide c) i = has-weight n place c.nodes i
holds-weight n place (two tops at left right) (inl i) = let h : 1 ≤ nodes_weight (of_line n) tops = has-weight n place tops i in omega arith
holds-weight n place (two tops at left right) (inr (inl i)) = let h : 1 ≤ nodes_weight (of_line n) left.nodes = has-weight n place left.nodes i in omega arith
holds-weight n place (two tops at left right) (inr (inr i)) = let h : 1 ≤ nodes_weight (of_line n) right.nodes = has-weight n place right.nodes i in omega arith

-- the lists weigh no more than the work
within : (h : Hand) (w : Work) (n : ℕ) → hand_weight (of_line n) h + work_weight (of_line n) w ≤ 1 → lists_weight (of_line n) w.state.floats ≤ 1
within h w n c = omega (arith, c)

-- what a company takes and what it leaves is what it was made of
parts-weight : (n : ℕ) (z : Wanted) (fs : List Float) (cs : List Choice) → company z fs ≡ Some cs → floats_weight (of_line n) (chosen_floats cs) + floats_weight (of_line n) (left_floats cs) ≡ floats_weight (of_line n) fs
parts-weight n z fs cs e = parted-weight (of_line n) cs ∙ subst (CompanyOf (of_line n) (floats_weight (of_line n) fs)) e (company-weight (of_line n) z fs)

-- ---- a float that waits is nowhere else

-- a float that stands in the text of the page in hand does not wait
pub stands-apart : (body : List PlainNode) (w : Work) → Once (of_text body) w → w.refused ≡ false → (n : ℕ) → IsAmong n (here_lines body) → IsAmong n (waiting_lines w.state.floats) → ⊥
stands-apart body w o r n i j =
    let a : 1 ≤ nodes_weight (of_line n) body = here-weight n body i in
    let b : 1 ≤ lists_weight (of_line n) w.state.floats = listed-weight n w.state.floats j in
    let c : nodes_weight (of_line n) body + work_weight (of_line n) w ≤ 1 = (o r).1 n in
    let no : ⊥ = omega arith in no

-- nor does one whose box is on the page that was sent last
pub sent-apart : (h : Hand) (w : Work) → Once h w → w.refused ≡ false → (es : List PlainSent) (page : ℕ) (sheet : PlainSheet) → w.sent ≡ es ++ shipped page sheet ∷ [] → (n : ℕ) (place : Where) → HoldsFloat n place sheet → IsAmong n (waiting_lines w.state.floats) → ⊥
sent-apart h w o r es page sheet e n place i j =
    let a : 1 ≤ sheet_weight (of_line n) sheet = holds-weight n place sheet i in
    let b : 1 ≤ lists_weight (of_line n) w.state.floats = listed-weight n w.state.floats j in
    let s : sent_weight (of_line n) w.sent ≡ sent_weight (of_line n) es + (sheet_weight (of_line n) sheet + 0) = ap (sent_weight (of_line n)) e ∙ sent_weight-append (of_line n) es (shipped page sheet ∷ []) in
    let c : hand_weight (of_line n) h + work_weight (of_line n) w ≤ 1 = (o r).1 n in
    let no : ⊥ = omega arith in no

-- nor one that leaves the list in which it waited
pub left-apart : (h : Hand) (w : Work) → Once h w → w.refused ≡ false → (from : Part) → IsWaiting from → (before rest : List Float) (f : Float) → floats_of from w.state.floats ≡ before ++ f ∷ rest → IsAmong f.line (waiting_lines (with_floats_of from (before ++ rest) w.state.floats)) → ⊥
left-apart h w o r from q before rest f e i =
    let v = of_line f.line in
    let b : 1 ≤ lists_weight v (with_floats_of from (before ++ rest) w.state.floats) = listed-weight f.line (with_floats_of from (before ++ rest) w.state.floats) i in
    let c : hand_weight v h + work_weight v w ≤ 1 = (o r).1 f.line in
    never (lists_weight v (with_floats_of from (before ++ rest) w.state.floats)) (floats_weight v (floats_of from w.state.floats)) (lists_weight v w.state.floats) (floats_weight v (before ++ rest)) (floats_weight v before) (v.float f.line) (floats_weight v rest)
    (lists-with v from q (before ++ rest) w.state.floats) (ap (floats_weight v) e ∙ floats-append v before (f ∷ rest)) (floats-append v before rest) (this f.line f.line refl) b (within h w f.line c)
  where
    never : (a b c d x y z : ℕ) → a + b ≡ c + d → b ≡ x + (y + z) → d ≡ x + z → y ≡ 1 → 1 ≤ a → c ≤ 1 → ⊥
    never a b c d x y z e g i j k l = omega arith

-- nor one that a company takes
pub company-apart : (h : Hand) (w : Work) → Once h w → w.refused ≡ false → (from : Part) → IsWaiting from → (z : Wanted) (cs : List Choice) → company z (floats_of from w.state.floats) ≡ Some cs → (n : ℕ) → IsAmong n (float_lines (chosen_floats cs)) → IsAmong n (waiting_lines (with_floats_of from (left_floats cs) w.state.floats)) → ⊥
company-apart h w o r from q z cs e n i j =
    let v = of_line n in
    let a : 1 ≤ floats_weight v (chosen_floats cs) = among-weight n (chosen_floats cs) i in
    let b : 1 ≤ lists_weight v (with_floats_of from (left_floats cs) w.state.floats) = listed-weight n (with_floats_of from (left_floats cs) w.state.floats) j in
    never (lists_weight v (with_floats_of from (left_floats cs) w.state.floats)) (floats_weight v (floats_of from w.state.floats)) (lists_weight v w.state.floats) (floats_weight v (left_floats cs)) (floats_weight v (chosen_floats cs))
    (lists-with v from q (left_floats cs) w.state.floats) (parts-weight n z (floats_of from w.state.floats) cs e) a b (within h w n ((o r).1 n))
  where
    never : (a b c d x : ℕ) → a + b ≡ c + d → x + d ≡ b → 1 ≤ x → 1 ≤ a → c ≤ 1 → ⊥
    never a b c d x e g i j k = omega arith

-- ---- the parts of a company

pub company-parts : (z : Wanted) (fs : List Float) (cs : List Choice) → company z fs ≡ Some cs → (n : ℕ) → (IsAmong n (float_lines fs) → IsAmong n (float_lines (chosen_floats cs)) ⊎ IsAmong n (float_lines (left_floats cs))) × (IsAmong n (float_lines (chosen_floats cs)) → IsAmong n (float_lines fs)) × (IsAmong n (float_lines (left_floats cs)) → IsAmong n (float_lines fs))
company-parts z fs cs e n = (λ i. by_part (one-of (floats_weight v (chosen_floats cs)) (floats_weight v (left_floats cs)) (floats_weight v fs) whole (among-weight n fs i)), λ i. weight-among n fs (more (floats_weight v (chosen_floats cs)) (floats_weight v (left_floats cs)) (floats_weight v fs) whole (inl (among-weight n (chosen_floats cs) i))), λ i. weight-among n fs (more (floats_weight v (chosen_floats cs)) (floats_weight v (left_floats cs)) (floats_weight v fs) whole (inr (among-weight n (left_floats cs) i))))
  where
    v : Weight
    v = of_line n

    whole : floats_weight v (chosen_floats cs) + floats_weight v (left_floats cs) ≡ floats_weight v fs
    whole = parts-weight n z fs cs e

    one-of : (a b c : ℕ) → a + b ≡ c → 1 ≤ c → (1 ≤ a) ⊎ (1 ≤ b)
    one-of zero b c e l = inr (omega arith)
    one-of (suc a) b c e l = inl (omega arith)

    more : (a b c : ℕ) → a + b ≡ c → (1 ≤ a) ⊎ (1 ≤ b) → 1 ≤ c
    more a b c e (inl l) = omega arith
    more a b c e (inr l) = omega arith

    by_part : (1 ≤ floats_weight v (chosen_floats cs)) ⊎ (1 ≤ floats_weight v (left_floats cs)) → IsAmong n (float_lines (chosen_floats cs)) ⊎ IsAmong n (float_lines (left_floats cs))
    by_part (inl l) = inl (weight-among n (chosen_floats cs) l)
    by_part (inr l) = inr (weight-among n (left_floats cs) l)
