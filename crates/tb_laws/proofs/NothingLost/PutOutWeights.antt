-- Putting out pages and columns loses nothing.
use Rattle.std.proofs.Common.{add-zero, subst, ◌≡◌, refl, sym, ◌∙◌, ap, ℕ, suc, ◌+◌, Bool, true, false, List, [], ◌∷◌, Option, Some, None, arith}
use Rattle.std.specs.Prelude.{◌==◌, not, if◌then◌else◌}
use Rattle.tb_node.specs.declared.Float.{Float}
use Rattle.tb_node.specs.declared.Where.TheVariants as places
use Rattle.tb_node.specs.PlainNodes.{Leaf, PlainNode}
use Rattle.std.proofs.lemmas.Bool.{eq-eqb}
use Rattle.tb_node.proofs.Weights.{Weight, leaves_weight, nodes_weight}
use Rattle.tb_param.specs.declared.Params.{Params}
use Rattle.tb_insert.specs.declared.Class.{Class}
use Rattle.tb_builder.specs.FiredPages.{Boxed, content_of, box_content}
use Rattle.tb_builder.proofs.FiredPages.PageWeights.{boxes_weight, hits}
use Rattle.tb_float.specs.declared.Part.{Part}
use Rattle.tb_float.specs.declared.Part.TheVariants as parts
use Rattle.tb_float.specs.Lists.{FloatLists, floats_of, with_floats_of, IsWaiting, wide_part, wide_waiting, with_wide_waiting}
use Rattle.tb_float.proofs.WaitingLemmas.{wide-waits}
use Rattle.tb_float.specs.Rooms.{column_height_of}
use Rattle.tb_fpage.specs.declared.Wanted.{Wanted}
use Rattle.tb_fpage.specs.Company.{Choice, company, chosen_floats, left_floats}
use Rattle.tb_column.specs.Column.{Notes, PlainColumn, is_enlarging, standing_notes, enlarged_of, floats_above, single_floats_column, wide_floats_column, pair_rule}
use Rattle.tb_sheet.specs.Sheet.{PlainSheet, one, wide, pair_sheet}
use Rattle.tb_output.specs.State.{Work, output, with_floats, with_notes, notes_in, footnotes}
use Rattle.tb_output.specs.Pages
use Rattle.tb_output.specs.Columns
use Rattle.tb_output.specs.Clear
use Rattle.tb_output.proofs.StepLaws.RefusedSteps.{by-any-ship}
use Rattle.tb_output.proofs.StepLaws.Moves.{Hand, nothing, of_column, ColumnMove, takes_company, records_column, ships_column, keeps_left, ships_pair, ends_column, ships_wide, places_double}
use Rattle.tb_laws.proofs.Closed.BareFeet.{NotesBare, bare-weight, emptied-bare, notes-bare}
use Rattle.tb_laws.proofs.NothingLost.StateWeights.{Paired, hand_weight, Light, Weighs, gives, keeps, weighs-then, class_numbers, BoxesFit, floats_weight, lists_weight, left_weight, sheet_weight, sent_weight, work_weight, ColumnsFit, Sound, Adds, records-adds, shipped-adds}
use Rattle.tb_laws.proofs.NothingLost.ColumnWeights.{floats_above-weight, notes_weight, text_column-weight, floats_column-weight, CompanyOf, company-weight, parted-weight}
use Rattle.tb_laws.proofs.NothingLost.FloatWeights.{double-adds, paired-with, lists-with}

-- ---- companies

-- floats leave the list in which they wait
taken-weight : (v : Weight) (from : Part) → IsWaiting from → (fs : List Float) (l : FloatLists) (n : ℕ) → n + floats_weight v fs ≡ floats_weight v (floats_of from l) → lists_weight v (with_floats_of from fs l) + n ≡ lists_weight v l
taken-weight v from q fs l n e = sums (lists_weight v (with_floats_of from fs l)) (floats_weight v (floats_of from l)) (lists_weight v l) (floats_weight v fs) (lists-with v from q fs l) e
  where
    sums : (a b c d : ℕ) → a + b ≡ c + d → n + d ≡ b → a + n ≡ c
    sums a b c d h k = omega arith

-- a company has a part of the floats, and leaves the others
parts-weight : (v : Weight) (z : Wanted) (fs : List Float) (cs : List Choice) → company z fs ≡ Some cs → (n : ℕ) → n ≡ floats_weight v (chosen_floats cs) → n + floats_weight v (left_floats cs) ≡ floats_weight v fs
parts-weight v z fs cs e n h = ap (λ m. m + floats_weight v (left_floats cs)) h ∙ parted-weight v cs ∙ subst (CompanyOf v (floats_weight v fs)) e (company-weight v z fs)

-- what leaves the lists comes into the hand
pub takes-weighs : (v : Weight) (i : Hand) (l : FloatLists) (w : Work) → Light v i → (Paired w.state.floats.current → Paired l.current) → lists_weight v l + hand_weight v i ≡ lists_weight v w.state.floats → Weighs v nothing w i (with_floats l w)
takes-weighs v i l w light h e = record {
  waits = refl;
  classes = refl;
  goes = λ r. r;
  light = λ u. light;
  by = λ r u s. (record { box = s.box; bare = s.bare; columns = s.columns; entries = h s.entries }, sums (nodes_weight v w.state.waiting + boxes_weight v w.state.boxes + nodes_weight v w.state.held_page) (lists_weight v w.state.floats) (lists_weight v l) (left_weight v w.state.left_column) (nodes_weight v w.put_back) (sent_weight v w.sent) (hand_weight v i) e);
}
  where
    sums : (a b c d x y n : ℕ) → c + n ≡ b → a + c + d + x + y + n ≡ a + b + d + x + y + 0
    sums a b c d x y n e = omega arith

-- ---- columns

-- a page is shipped beside the lists and the left column
pub ship-keeps : (p : Params) (sheet : PlainSheet) (w : Work) → ((Pages.ship p sheet w).state.floats ≡ w.state.floats) × ((Pages.ship p sheet w).state.left_column ≡ w.state.left_column)
ship-keeps p sheet w = by-any-ship (λ v. (v.state.floats ≡ w.state.floats) × (v.state.left_column ≡ w.state.left_column)) p sheet w (refl, refl) (refl, refl) (refl, refl)

without-weight : (v : Weight) (a : Work) → work_weight v (Pages.without_double a) + (floats_weight v a.state.floats.double + left_weight v a.state.left_column) ≡ work_weight v a
without-weight v a = omega arith

-- the two columns of a pair weigh as its left one and the second
left-weight : (v : Weight) (c : PlainColumn) (t f : Bool) (o : Option PlainColumn) → f ≡ false → ColumnsFit t f o → nodes_weight v (Pages.left_or c o).nodes ≡ left_weight v o
left-weight v c t true o e h = let no : ⊥ = grind (arith, e) in absurd no
left-weight v c true false None e h = absurd h
left-weight v c true false (Some d) e h = refl
left-weight v c false false o e h = absurd h

-- the double floats and the left column leave with the pair
pair-adds : (v : Weight) (p : Params) (c : PlainColumn) (w : Work) → w.state.first_column ≡ false → Adds v (nodes_weight v c.nodes) w (Pages.without_double (Pages.ship p (pair_sheet p w.state.floats (Pages.left_or c w.state.left_column) c) w))
pair-adds v p c w f =
    let sheet = pair_sheet p w.state.floats (Pages.left_or c w.state.left_column) c in
    let x : Adds v (sheet_weight v sheet) w (Pages.ship p sheet w) = shipped-adds v p sheet w in
    let d : nodes_weight v (floats_above places.Double p.dblfloatsep (pair_rule p w.state.floats) p.dbltextfloatsep w.state.floats.double) ≡ floats_weight v w.state.floats.double = floats_above-weight v places.Double p.dblfloatsep (pair_rule p w.state.floats) p.dbltextfloatsep w.state.floats.double in
    gone (nodes_weight v (floats_above places.Double p.dblfloatsep (pair_rule p w.state.floats) p.dbltextfloatsep w.state.floats.double)) (nodes_weight v (Pages.left_or c w.state.left_column).nodes) d (Pages.ship p sheet w) (ap (λ l. floats_weight v l.double) (ship-keeps p sheet w).0) (ap (left_weight v) (ship-keeps p sheet w).1) x
  where
    gone : (m n : ℕ) → m ≡ floats_weight v w.state.floats.double → (a : Work) → floats_weight v a.state.floats.double ≡ floats_weight v w.state.floats.double → left_weight v a.state.left_column ≡ left_weight v w.state.left_column → Adds v (m + nodes_weight v (Pages.left_or c w.state.left_column).nodes + nodes_weight v c.nodes) w a → Adds v (nodes_weight v c.nodes) w (Pages.without_double a)
    gone m n d a e l x = record { waits = x.waits; classes = x.classes; goes = λ r. x.goes r; by = λ r s. all s (x.by r s) }
      where
        all : Sound w.state → Sound a.state × (work_weight v a ≡ work_weight v w + (m + nodes_weight v (Pages.left_or c w.state.left_column).nodes + nodes_weight v c.nodes)) → Sound (Pages.without_double a).state × (work_weight v (Pages.without_double a) ≡ work_weight v w + nodes_weight v c.nodes)
        all s h =
            (record { box = h.0.box; bare = h.0.bare; columns = tt; entries = h.0.entries }, sums (work_weight v w) (work_weight v a) (work_weight v (Pages.without_double a)) (floats_weight v w.state.floats.double) (floats_weight v a.state.floats.double) (left_weight v w.state.left_column) (left_weight v a.state.left_column) (nodes_weight v (Pages.left_or c w.state.left_column).nodes) (nodes_weight v c.nodes) d e l (left-weight v c w.state.two_columns w.state.first_column w.state.left_column f s.columns) h.1 (without-weight v a))
          where
            sums : (W A B q q' y y' z k : ℕ) → m ≡ q → q' ≡ q → y' ≡ y → z ≡ y → A ≡ W + (m + z + k) → B + (q' + y') ≡ A → B ≡ W + k
            sums W A B q q' y y' z k d e l g h i = omega arith

keep_left-adds : (v : Weight) (c : PlainColumn) (w : Work) → w.state.two_columns ≡ true → w.state.first_column ≡ true → Adds v (nodes_weight v c.nodes) w (Pages.keep_left c w)
keep_left-adds v c w t f = record { waits = refl; classes = refl; goes = λ r. r; by = λ r s. by_left w.state.left_column s.columns s }
  where
    sums : (a x y n : ℕ) → a + n + x + y ≡ a + 0 + x + y + n
    sums a x y n = omega arith

    by_left : (o : Option PlainColumn) → ColumnsFit w.state.two_columns w.state.first_column o → Sound w.state → Sound (Pages.keep_left c w).state × (work_weight v (Pages.keep_left c w) ≡ nodes_weight v w.state.waiting + boxes_weight v w.state.boxes + nodes_weight v w.state.held_page + lists_weight v w.state.floats + left_weight v o + nodes_weight v w.put_back + sent_weight v w.sent + nodes_weight v c.nodes)
    by_left None h s = (record { box = s.box; bare = s.bare; columns = subst (λ x. ColumnsFit x false (Some c)) (sym t) tt; entries = s.entries }, sums (nodes_weight v w.state.waiting + boxes_weight v w.state.boxes + nodes_weight v w.state.held_page + lists_weight v w.state.floats) (nodes_weight v w.put_back) (sent_weight v w.sent) (nodes_weight v c.nodes))
    by_left (Some d) h s = absurd (subst (λ x. ColumnsFit w.state.two_columns x (Some d)) f h)

-- ---- each move

-- a column in hand leaves it
gone : (v : Weight) (c : PlainColumn) (a b : Work) → Adds v (nodes_weight v c.nodes) a b → Weighs v (of_column c) a nothing b
gone v c a b x = gives v (of_column c) nothing (nodes_weight v c.nodes) a b x (λ l. (sym (add-zero (nodes_weight v c.nodes)), tt))

pub column-weighs : {p : Params} {h : Hand} {a : Work} {i : Hand} {b : Work} (v : Weight) → ColumnMove p h a i b → Weighs v h a i b
column-weighs {p} v (takes_company clearing cs w e) =
    let height = column_height_of p w.state.floats in
    let c = single_floats_column p height (chosen_floats cs) in
    takes-weighs v (of_column c) (record w.state.floats { deferred = left_floats cs }) w tt (λ x. x)
    (taken-weight v parts.Deferred tt (left_floats cs) w.state.floats (nodes_weight v c.nodes) (parts-weight v (Columns.single_wanted p w.state.floats clearing) w.state.floats.deferred cs e (nodes_weight v c.nodes) (floats_column-weight v height p.fptop p.fpsep p.fpbot (chosen_floats cs))))
column-weighs {p} v (records_column c w) = keeps v (of_column c) w _ (records-adds v (output c) w)
column-weighs {p} v (ships_column c w t) = gone v c w _ (shipped-adds v p (one c) w)
column-weighs {p} v (keeps_left c w t f) = gone v c w _ (keep_left-adds v c w t f)
column-weighs {p} v (ships_pair c w t f) = gone v c w _ (pair-adds v p c w f)
column-weighs {p} v (ends_column w) = keeps v nothing w _ (record { waits = refl; classes = refl; goes = λ r. r; by = λ r s. (record { box = s.box; bare = s.bare; columns = s.columns; entries = s.entries }, omega arith) })
column-weighs {p} v (ships_wide clearing cs w e) =
    let c = wide_floats_column p p.textheight (chosen_floats cs) in
    let l = with_wide_waiting p (left_floats cs) w.state.floats in
    let a = with_floats l w in
    weighs-then v nothing (of_column c) nothing w a (Pages.ship_wide p cs w)
    (takes-weighs v (of_column c) l w tt (λ x. paired-with (wide_part p) (wide-waits p) (left_floats cs) w.state.floats x)
    (taken-weight v (wide_part p) (wide-waits p) (left_floats cs) w.state.floats (nodes_weight v c.nodes) (parts-weight v (Pages.wide_wanted p clearing) (wide_waiting p w.state.floats) cs e (nodes_weight v c.nodes) (floats_column-weight v p.textheight p.dblfptop p.dblfpsep p.dblfpbot (chosen_floats cs)))))
    (gone v c a _ (shipped-adds v p (wide c) a))
column-weighs {p} v (places_double f before rest w two e i) = keeps v nothing w _ (double-adds v p f before rest w e)

-- ---- the class boxes

-- a box of a number that none of the classes has is not looked at
pub other-box : (b : Boxed) (cs : List Class) (bs : List Boxed) → hits b.number (class_numbers cs) ≡ 0 → notes_in cs (b ∷ bs) ≡ notes_in cs bs
other-box b [] bs h = refl
other-box b (c ∷ cs) bs h = by_number (b.number == c.number) (λ e. other-box b cs bs e) h
  where
    by_number : (t : Bool) → (hits b.number (class_numbers cs) ≡ 0 → notes_in cs (b ∷ bs) ≡ notes_in cs bs) → (if t then suc (hits b.number (class_numbers cs)) else hits b.number (class_numbers cs)) ≡ 0 → with_notes c (if t then b.content else box_content bs c.number) (notes_in cs (b ∷ bs)) ≡ with_notes c (box_content bs c.number) (notes_in cs bs)
    by_number true again e = absurd (omega (arith, e))
    by_number false again e = ap (with_notes c (box_content bs c.number)) (again e)

with_notes-weight : (v : Weight) (c : Class) (o : Option (List Leaf)) (ns : List Notes) → notes_weight v (with_notes c o ns) ≡ leaves_weight v (content_of o) + notes_weight v ns
with_notes-weight v c None ns = omega arith
with_notes-weight v c (Some ls) ns = refl

-- what the boxes of the classes hold is what all boxes hold
pub box-weight : (v : Weight) (cs : List Class) (bs : List Boxed) → BoxesFit cs bs → notes_weight v (notes_in cs bs) ≡ boxes_weight v bs
box-weight v [] [] h = refl
box-weight v [] (b ∷ bs) h = absurd h
box-weight v (c ∷ cs) [] h = absurd h
box-weight v (c ∷ cs) (b ∷ bs) h =
    let again : notes_weight v (notes_in cs bs) ≡ boxes_weight v bs = box-weight v cs bs h.2 in
    let here : box_content (b ∷ bs) c.number ≡ b.content = ap (λ t. if t then b.content else box_content bs c.number) (eq-eqb b.number c.number h.0) in
    let others : notes_in cs (b ∷ bs) ≡ notes_in cs bs = other-box b cs bs (ap (λ n. hits n (class_numbers cs)) h.0 ∙ h.1) in
    let whole : notes_weight v (with_notes c (box_content (b ∷ bs) c.number) (notes_in cs (b ∷ bs))) ≡ notes_weight v (with_notes c b.content (notes_in cs bs)) = ap (λ o. notes_weight v (with_notes c o (notes_in cs (b ∷ bs)))) here ∙ ap (λ ns. notes_weight v (with_notes c b.content ns)) others in
    let parts : notes_weight v (with_notes c b.content (notes_in cs bs)) ≡ leaves_weight v (content_of b.content) + notes_weight v (notes_in cs bs) = with_notes-weight v c b.content (notes_in cs bs) in
    whole ∙ parts ∙ ap (λ n. leaves_weight v (content_of b.content) + n) again

pub emptied-weight : (v : Weight) (bs : List Boxed) → boxes_weight v (Columns.emptied_boxes bs) ≡ 0
emptied-weight v [] = refl
emptied-weight v (b ∷ bs) = let h : boxes_weight v (Columns.emptied_boxes bs) ≡ 0 = emptied-weight v bs in omega arith

pub emptied-box : (cs : List Class) (bs : List Boxed) → BoxesFit cs bs → BoxesFit cs (Columns.emptied_boxes bs)
emptied-box [] [] h = h
emptied-box [] (b ∷ bs) h = absurd h
emptied-box (c ∷ cs) [] h = absurd h
emptied-box (c ∷ cs) (b ∷ bs) h = (h.0, h.1, emptied-box cs bs h.2)

-- ---- a text column

-- the insertions that stand in it weigh as all
standing-weight : (v : Weight) (ns : List Notes) → NotesBare ns → notes_weight v (standing_notes ns) ≡ notes_weight v ns
standing-weight v [] h = refl
standing-weight v (n ∷ ns) h = by_test (is_enlarging n) (λ e. bare-weight v n.inner (h.0 e)) (standing-weight v ns h.1)
  where
    by_test : (t : Bool) → (t ≡ true → leaves_weight v n.inner ≡ 0) → notes_weight v (standing_notes ns) ≡ notes_weight v ns → notes_weight v (if not t then n ∷ standing_notes ns else standing_notes ns) ≡ leaves_weight v n.inner + notes_weight v ns
    by_test true k e = let z : leaves_weight v n.inner ≡ 0 = k refl in omega arith
    by_test false k e = omega arith

-- if none stand, the boxes hold nothing that weighs
none-stand : (v : Weight) (w : Work) → Sound w.state → standing_notes (footnotes w.state) ≡ [] → boxes_weight v w.state.boxes ≡ 0
none-stand v w s e = sym (box-weight v w.state.classes w.state.boxes s.box) ∙ sym (standing-weight v (footnotes w.state) (notes-bare w.state.classes w.state.boxes s.bare)) ∙ ap (notes_weight v) e

-- what made a page higher is dropped
pub notes-dropped : (v : Weight) (w : Work) → standing_notes (footnotes w.state) ≡ [] → Sound w.state → Sound (Clear.without_notes w).state × (work_weight v (Clear.without_notes w) ≡ work_weight v w)
notes-dropped v w e s =
    let z : boxes_weight v w.state.boxes ≡ 0 = none-stand v w s e in
    let m : boxes_weight v (Columns.emptied_boxes w.state.boxes) ≡ 0 = emptied-weight v w.state.boxes in
    (record { box = emptied-box w.state.classes w.state.boxes s.box; bare = emptied-bare w.state.boxes; columns = s.columns; entries = s.entries }, omega arith)

-- it takes its floats and the insertions with it
pub text-taken : (v : Weight) (p : Params) (body : List PlainNode) (w : Work) → Sound w.state → Sound (Columns.without_column_floats w).state × (work_weight v (Columns.without_column_floats w) + nodes_weight v (Columns.text_of p w.state body).nodes ≡ work_weight v w + nodes_weight v body)
text-taken v p body w s = (record { box = emptied-box w.state.classes w.state.boxes s.box; bare = emptied-bare w.state.boxes; columns = s.columns; entries = s.entries }, weight (nodes_weight v (Columns.text_of p w.state body).nodes) (text_column-weight v p w.state.floats body (standing_notes (footnotes w.state)) (enlarged_of w.state.shrink (footnotes w.state))))
  where
    weight : (n : ℕ) → n ≡ floats_weight v w.state.floats.top + nodes_weight v body + notes_weight v (standing_notes (footnotes w.state)) + floats_weight v w.state.floats.bottom → work_weight v (Columns.without_column_floats w) + n ≡ work_weight v w + nodes_weight v body
    weight n e =
        let b : notes_weight v (footnotes w.state) ≡ boxes_weight v w.state.boxes = box-weight v w.state.classes w.state.boxes s.box in
        let c : notes_weight v (standing_notes (footnotes w.state)) ≡ notes_weight v (footnotes w.state) = standing-weight v (footnotes w.state) (notes-bare w.state.classes w.state.boxes s.bare) in
        let m : boxes_weight v (Columns.emptied_boxes w.state.boxes) ≡ 0 = emptied-weight v w.state.boxes in
        omega (arith, e)
