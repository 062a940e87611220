-- Each move of a page keeps that each float is in one place of the work at most.
use Rattle.std.proofs.Common.{◌≡◌, refl, ap, ℕ, ◌+◌, ◌≤◌, false, List, [], ◌∷◌, ◌++◌, take, drop, map, pos, arith}
use Rattle.tb_scaled.specs.Glue.{filling_glue}
use Rattle.tb_node.specs.PlainNodes.{PlainNode, node_shape, made, blank_box, skip}
use Rattle.tb_node.proofs.Weights.{Weight, nodes_weight, weight-append, weight-split}
use Rattle.tb_break.specs.Split.{split_of}
use Rattle.tb_param.specs.declared.Params.{Params}
use Rattle.tb_float.specs.declared.Part.{Part}
use Rattle.tb_float.specs.declared.Part.TheVariants as parts
use Rattle.tb_float.specs.Lists.{FloatLists, floats_of, IsWaiting, wide_part, wide_waiting}
use Rattle.tb_float.proofs.WaitingLemmas.{wide-waits}
use Rattle.tb_output.specs.State.{Work, with_floats, puts}
use Rattle.tb_output.specs.Clear
use Rattle.tb_output.specs.Columns
use Rattle.tb_output.proofs.StepLaws.Moves.{Hand, nothing, of_text, ColumnMove, takes_company, records_column, ships_column, keeps_left, ships_pair, ends_column, ships_wide, places_double, places_next, PageMove, by_column, by_fill, takes_text, drops_notes, fills_text, keeps_front, gathers, gathers_wide, leaves_second, clears_again, Moves, goes-on}
use Rattle.tb_laws.proofs.NothingLost.StateWeights.{floats_weight, lists_weight, floats-append, work_weight, hand_weight, Light, Sound, Adds, puts-adds, unchanged}
use Rattle.tb_laws.proofs.NothingLost.FloatWeights.{lists-adds, lists-with, paired-with, next-adds}
use Rattle.tb_laws.proofs.NothingLost.PutOutWeights.{column-weighs, text-taken, notes-dropped}
use Rattle.tb_laws.proofs.NothingLost.TextWeights.{puts-nothing}
use Rattle.tb_why_laws.proofs.OnePlace.Once.{of_line, Once}

-- from one moment of a firing to another that the page limit does not stop nothing is added
pub record Lessens (h : Hand) (a : Work) (i : Hand) (b : Work) : Type 0 where
  pub goes : b.refused ≡ false → a.refused ≡ false
  pub by : b.refused ≡ false → Sound a.state → (v : Weight) → Sound b.state × (work_weight v b + hand_weight v i ≤ work_weight v a + hand_weight v h)

pub lessens-same : (h : Hand) (w : Work) → Lessens h w h w
lessens-same h w = record { goes = λ r. r; by = λ r s v. (s, omega arith) }

pub lessens-then : (h i j : Hand) (a b c : Work) → Lessens h a i b → Lessens i b j c → Lessens h a j c
lessens-then h i j a b c x y = record { goes = λ r. x.goes (y.goes r); by = λ r s v. all r v (x.by (y.goes r) s v) }
  where
    sums : (p q r : ℕ) → q ≤ p → r ≤ q → r ≤ p
    sums p q r d e = omega arith

    all : c.refused ≡ false → (v : Weight) → Sound b.state × (work_weight v b + hand_weight v i ≤ work_weight v a + hand_weight v h) → Sound c.state × (work_weight v c + hand_weight v j ≤ work_weight v a + hand_weight v h)
    all r v k =
        let l = y.by r k.0 v in
        (l.0, sums (work_weight v a + hand_weight v h) (work_weight v b + hand_weight v i) (work_weight v c + hand_weight v j) k.1 l.1)

-- what adds so much lessens, if that comes from the hand
pub lessened : (h i : Hand) (a b : Work) (n : Weight → ℕ) → ((v : Weight) → Adds v (n v) a b) → ((v : Weight) → n v + hand_weight v i ≤ hand_weight v h) → Lessens h a i b
lessened h i a b n x k = record { goes = λ r. (x none).goes r; by = λ r s v. let y = (x v).by r s in (y.0, sums (work_weight v a) (work_weight v b) (n v) (hand_weight v h) (hand_weight v i) y.1 (k v)) }
  where
    none : Weight
    none = record { box = λ m. 0; float = λ m. 0; margin = λ m. 0 }

    sums : (x y n h i : ℕ) → y ≡ x + n → n + i ≤ h → y + i ≤ x + h
    sums x y n h i d e = omega arith

-- what is in hand stays as it is
keeps : (h : Hand) (a b : Work) → ((v : Weight) → Adds v 0 a b) → Lessens h a h b
keeps h a b x = lessened h h a b (λ v. 0) x (λ v. omega arith)

-- ---- each move of a column

-- no text is in hand there
column-light : {p : Params} {h : Hand} {a : Work} {i : Hand} {b : Work} (v : Weight) → ColumnMove p h a i b → Light v h
column-light v (takes_company clearing cs w e) = tt
column-light v (records_column c w) = tt
column-light v (ships_column c w t) = tt
column-light v (keeps_left c w t f) = tt
column-light v (ships_pair c w t f) = tt
column-light v (ends_column w) = tt
column-light v (ships_wide clearing cs w e) = tt
column-light v (places_double f before rest w two e i) = tt

pub column-lessens : {p : Params} {h : Hand} {a : Work} {i : Hand} {b : Work} → ColumnMove p h a i b → Lessens h a i b
column-lessens {h = h} {a = a} {i = i} {b = b} m = record { goes = λ r. (column-weighs some m).goes r; by = λ r s v. let y = (column-weighs v m).by r (column-light v m) s in (y.0, sums (work_weight v b + hand_weight v i) (work_weight v a + hand_weight v h) y.1) }
  where
    some : Weight
    some = of_line 0

    sums : (x y : ℕ) → x ≡ y → x ≤ y
    sums x y e = omega arith

-- ---- floats wait again

gathered-adds : (v : Weight) (w : Work) → Adds v 0 w (with_floats (Clear.deferred_again w.state.floats) w)
gathered-adds v w =
    let l = w.state.floats in
    let a : floats_weight v (l.top ++ l.bottom ++ l.deferred) ≡ floats_weight v (l.top ++ l.bottom) + floats_weight v l.deferred = floats-append v (l.top ++ l.bottom) l.deferred in
    let b : floats_weight v (l.top ++ l.bottom) ≡ floats_weight v l.top + floats_weight v l.bottom = floats-append v l.top l.bottom in
    lists-adds v (Clear.deferred_again l) w (λ x. x) (omega arith)

wide-adds : (v : Weight) (p : Params) (w : Work) → Adds v 0 w (with_floats (Clear.double_again p w.state.floats) w)
wide-adds v p w =
    lists-adds v (Clear.double_again p l) w (λ x. paired-with (wide_part p) (wide-waits p) (l.double ++ wide_waiting p l) bare x)
    (sums (lists_weight v (Clear.double_again p l)) (floats_weight v (floats_of (wide_part p) bare)) (lists_weight v bare) (floats_weight v (l.double ++ wide_waiting p l)) (floats_weight v l.double) (floats_weight v (wide_waiting p l)) (lists_weight v l)
    (lists-with v (wide_part p) (wide-waits p) (l.double ++ wide_waiting p l) bare) (ap (floats_weight v) (waiting-without (wide_part p) (wide-waits p))) (floats-append v l.double (wide_waiting p l)) lighter)
  where
    l : FloatLists
    l = w.state.floats

    bare : FloatLists
    bare = record l { double = [] }

    lighter : lists_weight v bare + floats_weight v l.double ≡ lists_weight v l
    lighter = omega arith

    waiting-without : (from : Part) → IsWaiting from → floats_of from bare ≡ floats_of from l
    waiting-without parts.Deferred h = refl
    waiting-without parts.Second h = refl
    waiting-without from h = absurd h

    sums : (a y b d x z c : ℕ) → a + y ≡ b + d → y ≡ z → d ≡ x + z → b + x ≡ c → a ≡ c
    sums a y b d x z c e g i j = omega arith

-- ---- each move of a page

front-weight : (v : Weight) (k : ℕ) (body : List PlainNode) → nodes_weight v (take k body) + 0 ≤ nodes_weight v body
front-weight v k body = let e : nodes_weight v (take k body) + nodes_weight v (drop k body) ≡ nodes_weight v body = weight-split v k body in omega arith

pub page-lessens : {p : Params} {h : Hand} {a : Work} {i : Hand} {b : Work} → PageMove p h a i b → Lessens h a i b
page-lessens {p} (by_column m) = column-lessens m
page-lessens {p} (by_fill (places_next a f before rest w c e i)) = keeps nothing w _ (λ v. next-adds v p a f before rest w e)
page-lessens {p} (takes_text body w) = record { goes = λ r. r; by = λ r s v. let d = text-taken v p body w s in (d.0, same (work_weight v (Columns.without_column_floats w) + nodes_weight v (Columns.text_of p w.state body).nodes) (work_weight v w + nodes_weight v body) d.1) }
  where
    same : (x y : ℕ) → x ≡ y → x ≤ y
    same x y e = omega arith
page-lessens {p} (drops_notes body w e) = record { goes = λ r. r; by = λ r s v. let d = notes-dropped v w e s in (d.0, same (work_weight v (Clear.without_notes w)) (work_weight v w) (nodes_weight v body) d.1) }
  where
    same : (x y n : ℕ) → x ≡ y → x + n ≤ y + n
    same x y n e = omega arith
page-lessens {p} (fills_text body w) = lessened (of_text body) (of_text (body ++ made (skip filling_glue) ∷ [])) w w (λ v. 0) (λ v. unchanged v w) (λ v. let e : nodes_weight v (body ++ made (skip filling_glue) ∷ []) ≡ nodes_weight v body + 0 = weight-append v body (made (skip filling_glue) ∷ []) in omega arith)
page-lessens {p} (keeps_front body w) = lessened (of_text body) nothing w (puts (Clear.cleared_front p body) w) (λ v. nodes_weight v (Clear.cleared_front p body)) (λ v. puts-adds v (Clear.cleared_front p body) w) (λ v. front-weight v (split_of (pos 0) p.splitmaxdepth (map node_shape body)).index body)
page-lessens {p} (gathers w) = keeps nothing w _ (λ v. gathered-adds v w)
page-lessens {p} (gathers_wide w t f) = keeps nothing w _ (λ v. wide-adds v p w)
page-lessens {p} (leaves_second w t f) = keeps nothing w _ (λ v. puts-nothing v (made blank_box ∷ Clear.clear_again) w refl)
page-lessens {p} (clears_again w) = keeps nothing w _ (λ v. puts-nothing v Clear.clear_again w refl)

-- ---- each float is still in one place at most

pub once-after : {h : Hand} {a : Work} {i : Hand} {b : Work} → Lessens h a i b → Once h a → Once i b
once-after {h = h} {a = a} {i = i} {b = b} x o r = ((again (of_line 0)).0, λ n. less (hand_weight (of_line n) h) (work_weight (of_line n) a) (hand_weight (of_line n) i) (work_weight (of_line n) b) (again (of_line n)).1 (before.1 n))
  where
    before : Sound a.state × ((n : ℕ) → hand_weight (of_line n) h + work_weight (of_line n) a ≤ 1)
    before = o (x.goes r)

    again : (v : Weight) → Sound b.state × (work_weight v b + hand_weight v i ≤ work_weight v a + hand_weight v h)
    again v = x.by r before.0 v

    less : (h a i b : ℕ) → b + i ≤ a + h → h + a ≤ 1 → i + b ≤ 1
    less h a i b d e = omega arith

-- after a move, and after moves one after another
pub column-once : {p : Params} {h : Hand} {a : Work} {i : Hand} {b : Work} → ColumnMove p h a i b → Once h a → Once i b
column-once {p} m o = once-after (column-lessens m) o

pub page-once : {p : Params} {h : Hand} {a : Work} {i : Hand} {b : Work} → PageMove p h a i b → Once h a → Once i b
page-once {p} m o = once-after (page-lessens m) o

pub columns-once : {p : Params} {h : Hand} {a : Work} {i : Hand} {b : Work} → Moves (ColumnMove p) h a i b → Once h a → Once i b
columns-once {p} x o = once-after (goes-on Lessens lessens-same lessens-then (λ h i a b m. column-lessens m) x) o

pub pages-once : {p : Params} {h : Hand} {a : Work} {i : Hand} {b : Work} → Moves (PageMove p) h a i b → Once h a → Once i b
pages-once {p} x o = once-after (goes-on Lessens lessens-same lessens-then (λ h i a b m. page-lessens m) x) o
