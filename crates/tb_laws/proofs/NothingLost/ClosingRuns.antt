-- Each step of a run keeps that what waits closes; so all lists are empty at each change of columns and at the end, and
-- at the end nothing is left that has to ship.
use Rattle.std.proofs.Common.{◌≡◌, refl, sym, ◌∙◌, ap, subst, ℕ, suc, ◌+◌, ◌⊎◌, inl, inr, Bool, true, false, List, [], ◌∷◌, ◌++◌, map, take, drop, Option, Some, None, arith}
use Rattle.std.specs.Prelude.{ℤ, ◌==◌, if◌then◌else◌}
use Rattle.std.specs.List.{AllByRecursion}
use Rattle.tb_scaled.specs.Scaled.{awful_bad}
use Rattle.tb_node.specs.declared.RuleOf.TheVariants.{Item}
use Rattle.tb_node.specs.declared.Act.TheVariants as acts
use Rattle.tb_node.specs.declared.What.{What}
use Rattle.tb_node.specs.declared.What.TheVariants as what
use Rattle.tb_node.specs.PlainNodes.{Leaf, hbox, rule, PlainKind, plain, ins, act, PlainNode, without_acts, without_insertions}
use Rattle.tb_node.proofs.Weights.{Weight, nodes_weight, kind_weight, weight-append}
use Rattle.tb_insert.specs.Account.{Frozen, Labelled, labelled}
use Rattle.tb_break.specs.PageTop.{pruned_nodes}
use Rattle.tb_builder.specs.FiredPages.{Boxed, page_break, from_break, penalty_at, box_after, box_content, content_of, given_to, is_given, fired_by, frozen_for, held_insertions}
use Rattle.tb_builder.proofs.Cutting.CutLemmas.{acted_of, CutAt, held-ins}
use Rattle.tb_builder.proofs.FiredPages.HeldLemmas.{GivesNone}
use Rattle.tb_builder.proofs.FiredPages.PageWeights.{hits, IsOnce, AllOfClass, acted_weight, boxes_weight, fired-weight, labelled-class, LabelsOfClass}
use Rattle.tb_float.specs.declared.Entry.{Entry}
use Rattle.tb_float.specs.declared.Entry.TheVariants as entries
use Rattle.tb_float.specs.Lists.{FloatLists, no_floats}
use Rattle.tb_node.specs.declared.Float.{Float}
use Rattle.tb_output.specs.State.{State, Recorded, emptied, with_notes, notes_in}
use Rattle.tb_insert.specs.declared.Class.{Class}
use Rattle.tb_column.specs.Column.{Notes, PlainColumn}
use Rattle.tb_param.specs.Release.{has_second}
use Rattle.tb_laws.proofs.NothingLost.PutOutWeights.{other-box}
use Rattle.std.proofs.lemmas.Bool.{eq-eqb, eqb-true}
use Rattle.tb_output.specs.Output.{out}
use Rattle.tb_output.proofs.KeptParams.{out-keeps-params}
use Rattle.tb_laws.proofs.DeadCycles.ValidPenalties.{interline-calm}
use Rattle.tb_laws.proofs.NothingLost.StateWeights.{BoxesFit, class_numbers, Paired, entries_weight, floats_weight, lists_weight, left_weight, state_weight, sent_weight}
use Rattle.tb_laws.proofs.Closed.SortLemmas.{pen_sort, sorts, sorts-append, take-drop}
use Rattle.tb_laws.proofs.Closed.PlaceLemmas.{AllSteady, body-steady}
use Rattle.tb_column.proofs.PrintedLines.{printed, prints, left_prints}
use Rattle.tb_laws.proofs.Closed.Closings.{Closes, Quiet, kind_token, tokens, ins-last}
use Rattle.tb_laws.proofs.Closed.ClosingPages.{owed_acts, ways_acts, pruned-closes, PageCloses, cut-closes, break-closes, tokens-take}
use Rattle.tb_laws.proofs.DeadCycles.BoxesFirst.{RealFirst, HasReal, BreakReal, pruned-first, acts-first, break-real}
use Rattle.tb_laws.proofs.Closed.ClosingStates.{ways_of, Clean, HereKept, Closing, OutClosed, out-closed}
use Rattle.tb_laws.proofs.Limits.LimitLemmas.{out-records}
use Rattle.tb_laws.proofs.NothingLost.ClosingActs.{acts-fit, Acting, acting-starts, ActsClosed, ProgressClosed, progress-closed, page-emptied, page-closed, still-weight}
use Rattle.tb_laws.proofs.NothingLost.RunWeights.{ActsFit, After, whole-adds, box-fired, fit-numbers, box_after-number, Kept, page_of, cut, passed_bare, cut_bare, cut_feet, cut_stands, reached, fired-keeps}
use Rattle.tb_laws.proofs.NothingLost.LastLabels.{LabelsLast, GivesLast, quiet-last, same-boxes, held-quiet, void-last, clear-last}
use Rattle.tb_laws.proofs.Closed.BareFeet.{HoldsBare, HoldBare, LabelsBare, bare-weight, body-bare, labelled-bare, held-bare}
use Rattle.tb_items.specs.RunEvents.{RunEvent}
use Rattle.tb_break.proofs.EachLemmas.{all-join}
use Rattle.tb_builder.specs.Reach.{Reached}
use Rattle.tb_steps.specs.Run.{done, pool_full, dead_cycles, page_limit, node_limit, progress, Step, ends, goes_on, step, ask_for}
use Rattle.tb_steps.proofs.RunTree.{PageMoves, fired_at, served_at, WholePage, StepIs, step-is, fires_on, meets_page_limit, meets_node_limit, meets_cycle_limit, is_done, meets_full_pool}
use Rattle.tb_laws.specs.Laws.{IsEmptied}

-- ---- lists that weigh nothing

-- each box, float and note weighs one
abbrev pub ones : Weight
ones = record { box = λ n. 1; float = λ n. 1; margin = λ n. 1 }

no-float : (fs : List Float) → floats_weight ones fs ≡ 0 → fs ≡ []
no-float [] e = refl
no-float (f ∷ fs) e = let no : ⊥ = omega arith in absurd no

no-entry : (es : List Entry) → Paired es → entries_weight ones es ≡ 0 → es ≡ []
no-entry [] q e = refl
no-entry (entries.Float f ∷ es) q e = let no : ⊥ = omega arith in absurd no
no-entry (entries.Left m ∷ es) q e = let no : ⊥ = omega arith in absurd no
no-entry (entries.Right m ∷ es) q e = absurd q

-- lists in which nothing weighs are empty
weightless-lists : (l : FloatLists) → Paired l.current → l.here ≡ [] → lists_weight ones l ≡ 0 → l ≡ no_floats
weightless-lists l q h e =
    let a : l.current ≡ [] = no-entry l.current q (omega arith) in
    let b : l.top ≡ [] = no-float l.top (omega arith) in
    let c : l.bottom ≡ [] = no-float l.bottom (omega arith) in
    let d : l.deferred ≡ [] = no-float l.deferred (omega arith) in
    let g : l.double ≡ [] = no-float l.double (omega arith) in
    let j : l.second ≡ [] = no-float l.second (omega arith) in
    λ i. record { current = a i; here = h i; top = b i; bottom = c i; deferred = d i; double = g i; second = j i }

-- nodes that weigh nothing show nothing
kind-shows : (l : ℕ) (k : PlainKind) → kind_weight ones l k ≡ 0 → printed l k ≡ []
kind-shows l (plain (hbox (what.Text name) h d)) e = let no : ⊥ = omega arith in absurd no
kind-shows l (plain (rule (Item name) h d)) e = let no : ⊥ = omega arith in absurd no
kind-shows l k e = refl

pub weightless-prints : (ns : List PlainNode) → nodes_weight ones ns ≡ 0 → prints ns ≡ []
weightless-prints [] e = refl
weightless-prints (n ∷ ns) e =
    let a : printed n.line n.kind ≡ [] = kind-shows n.line n.kind (omega arith) in
    let b : prints ns ≡ [] = weightless-prints ns (omega arith) in
    λ i. a i ++ b i

pub weightless-left : (o : Option PlainColumn) → left_weight ones o ≡ 0 → left_prints o ≡ []
weightless-left None e = refl
weightless-left (Some c) e = weightless-prints c.nodes e

-- ---- quiet nodes

what-quiet : (v : Weight) (l : ℕ) (w : What) (h d : ℤ) → Quiet (kind_token (plain (hbox w h d))) → kind_weight v l (plain (hbox w h d)) ≡ 0
what-quiet v l what.Blank h d q = refl
what-quiet v l w h d q = absurd q

kind-quiet : (v : Weight) (l : ℕ) (k : PlainKind) → HoldsBare k → Quiet (kind_token k) → kind_weight v l k ≡ 0
kind-quiet v l (plain (hbox w h d)) b q = what-quiet v l w h d q
kind-quiet v l (plain (rule name h d)) b q = absurd q
kind-quiet v l (ins i) b q = bare-weight v i.inner (b (ins-last (i.class == 255) q))
kind-quiet v l (act (acts.Take f)) b q = absurd q
kind-quiet v l (act (acts.TakeMargin m)) b q = absurd q
kind-quiet v l (act (acts.Head f)) b q = absurd q
kind-quiet v l (act (acts.Columns two)) b q = absurd q
kind-quiet v l k b q = refl

-- they weigh nothing
quiet-weight : (v : Weight) (ns : List PlainNode) → HoldBare ns → AllByRecursion Quiet (tokens ns) → nodes_weight v ns ≡ 0
quiet-weight v [] b q = refl
quiet-weight v (n ∷ ns) b q =
    let a : kind_weight v n.line n.kind ≡ 0 = kind-quiet v n.line n.kind b.0 q.0 in
    let c : nodes_weight v ns ≡ 0 = quiet-weight v ns b.1 q.1 in
    omega arith

body-more : (l : ℕ) (k : PlainKind) (ns : List PlainNode) → Quiet (kind_token k) → AllByRecursion Quiet (tokens (without_insertions ns)) → AllByRecursion Quiet (tokens (without_insertions (record { line = l; kind = k } ∷ ns)))
body-more l (plain m) ns q h = (q, h)
body-more l (ins i) ns q h = h
body-more l (act a) ns q h = (q, h)

quiet-body : (ns : List PlainNode) → AllByRecursion Quiet (tokens ns) → AllByRecursion Quiet (tokens (without_insertions ns))
quiet-body [] q = tt
quiet-body (n ∷ ns) q = body-more n.line n.kind ns q.0 (quiet-body ns q.1)

-- what a class's box holds is None if it comes before what no class holds
void-first : (c : Class) (o : Option (List Leaf)) (ns : List Notes) → with_notes c o ns ≡ [] → (o ≡ None) × (ns ≡ [])
void-first c None ns e = (refl, e)
void-first c (Some ls) ns e = cc

-- a box that holds nothing was given nothing
void-box : (ls : List Labelled) (b : Boxed) → (box_after ls b).content ≡ None → is_given b.number ls ≡ false
void-box ls b e = by_given (is_given b.number ls) e
  where
    by_given : (t : Bool) → (if t then record b { content = Some (content_of b.content ++ given_to b.number ls) } else b).content ≡ None → t ≡ false
    by_given true e = cc
    by_given false e = refl

-- if all boxes are void, none of them was given anything
pub void-given : (ls : List Labelled) (cs : List Class) (bs : List Boxed) → BoxesFit cs bs → notes_in cs (map (box_after ls) bs) ≡ [] → GivesNone (class_numbers cs) ls
void-given ls [] [] h e k o = absurd (omega (arith, o))
void-given ls [] (b ∷ bs) h e k o = absurd h
void-given ls (c ∷ cs) [] h e k o = absurd h
void-given ls (c ∷ cs) (b ∷ bs) h e k o = by_number (k == c.number) refl o (λ x y z. void-given ls cs bs x y k z)
  where
    a : Boxed
    a = box_after ls b

    rest : List Boxed
    rest = map (box_after ls) bs

    same : a.number ≡ c.number
    same = box_after-number ls b ∙ h.0

    first : (box_content (a ∷ rest) c.number ≡ None) × (notes_in cs (a ∷ rest) ≡ [])
    first = void-first c (box_content (a ∷ rest) c.number) (notes_in cs (a ∷ rest)) e

    empty : a.content ≡ None
    empty = ap (λ t. if t then a.content else box_content rest c.number) (sym (eq-eqb a.number c.number same)) ∙ first.0

    others : notes_in cs rest ≡ []
    others = sym (other-box a cs rest (ap (λ n. hits n (class_numbers cs)) same ∙ h.1)) ∙ first.1

    by_number : (t : Bool) → (k == c.number) ≡ t → (if t then suc (hits k (class_numbers cs)) else hits k (class_numbers cs)) ≡ 1 → (BoxesFit cs bs → notes_in cs (map (box_after ls) bs) ≡ [] → IsOnce (class_numbers cs) k → is_given k ls ≡ false) → is_given k ls ≡ false
    by_number true u o again = subst (λ n. is_given n ls ≡ false) (h.0 ∙ sym (eqb-true k c.number u)) (void-box ls b empty)
    by_number false u o again = again h.2 others o

-- ---- a step

-- a step keeps that what waits closes, and records empty lists alone; if it ends well nothing is left that has to ship
abbrev pub StepCloses : State → Step → Type 0
StepCloses s (goes_on es rs t) = AllByRecursion IsEmptied rs × Closing t
StepCloses s (ends es rs (done left)) = AllByRecursion IsEmptied rs × ((v : Weight) → state_weight v s ≡ 0)
StepCloses s (ends es rs (pool_full line live)) = AllByRecursion IsEmptied rs
StepCloses s (ends es rs (dead_cycles n)) = AllByRecursion IsEmptied rs
StepCloses s (ends es rs (page_limit n)) = AllByRecursion IsEmptied rs
StepCloses s (ends es rs (node_limit n)) = AllByRecursion IsEmptied rs

module _ (s : State) (kept : Kept s) (closing : Closing s) where
  pub page_cut : CutAt [] (pruned_nodes (ask_for s).top_skip s.waiting) (page_of s)
  page_cut = cut ones s kept

  pub page_closes : PageCloses (ways_of s) closing.owed closing.done (page_break (page_of s)).place (page_of s)
  page_closes = cut-closes (pruned_nodes (ask_for s).top_skip s.waiting) (page_of s) (ways_of s) closing.owed closing.done (page_break (page_of s)).place page_cut (pruned-closes (ask_for s).top_skip s.waiting kept.placed.held (ways_of s) closing.owed closing.done kept.placed.stands closing.closes)

  left_fits : (v : Weight) → closing.done ≡ true → left_weight v s.left_column ≡ 0
  left_fits v e = let k : boxes_weight v s.boxes + nodes_weight v s.held_page + lists_weight v s.floats + left_weight v s.left_column ≡ 0 = (closing.clean e).weightless v in omega arith

  pub empty : closing.done ≡ true → s.floats ≡ no_floats
  empty e = let k : boxes_weight ones s.boxes + nodes_weight ones s.held_page + lists_weight ones s.floats + left_weight ones s.left_column ≡ 0 = (closing.clean e).weightless ones in weightless-lists s.floats kept.sound.entries (closing.clean e).here (omega arith)

  bare : closing.done ≡ true → left_prints s.left_column ≡ []
  bare e = weightless-left s.left_column (left_fits ones e)

  -- a change of columns drops nothing that weighs
  pub changes-fit : (v : Weight) → ActsFit v s.left_column (acted_of (page_of s).reached)
  changes-fit v = acts-fit v s.left_column closing.done (acted_of (page_of s).reached) (left_fits v) page_closes.acts_close

  -- at its beginning
  pub acting-begins : Acting closing.owed (acted_of (page_of s).reached) s (page_of s).reached s
  acting-begins = acting-starts (page_of s).reached closing.owed closing.done s empty bare closing.items closing.single page_closes.acts_close

  pub progressed : ProgressClosed closing.owed (acted_of (page_of s).reached) s (progress (page_of s).reached awful_bad s)
  progressed = progress-closed (page_of s).reached closing.owed closing.done s empty bare closing.items closing.single page_closes.acts_close awful_bad

  pub emptied-page : {qs : List Reached} {t : State} {es : List RunEvent} {rs : List Recorded} → PageMoves (page_of s).reached s es rs qs t → AllByRecursion IsEmptied rs
  emptied-page = page-emptied (page_of s).reached closing.owed closing.done s empty bare closing.items closing.single page_closes.acts_close

  -- the state after the acts of the page
  pub closed-page : {t : State} {es : List RunEvent} {rs : List Recorded} → WholePage s es rs t → ActsClosed closing.owed (acted_of (page_of s).reached) s t
  closed-page = page-closed (page_of s).reached closing.owed closing.done s empty bare closing.items closing.single page_closes.acts_close

  pub page-after : {t : State} {es : List RunEvent} {rs : List Recorded} → WholePage s es rs t → (v : Weight) → After v (acted_weight v (page_of s).reached) s t
  page-after x v = whole-adds v s kept (changes-fit v) x

  -- a box before the next forced break is on the page that breaks there
  first_break : RealFirst (sorts s.waiting) → BreakReal (sorts (take (page_break (page_of s)).place (page_of s).passed)) (pen_sort (penalty_at (from_break (page_of s))))
  first_break r =
      let w = page_of s in
      let k = (page_break w).place in
      let a : RealFirst (sorts (page_cut.front ++ w.beyond)) = subst (λ l. RealFirst (sorts l)) page_cut.whole (pruned-first (ask_for s).top_skip s.waiting r) in
      let b : RealFirst (sorts (without_acts page_cut.front) ++ sorts w.beyond) = acts-first page_cut.front (sorts w.beyond) (subst RealFirst (sorts-append page_cut.front w.beyond) a) in
      let c : RealFirst (sorts (without_acts page_cut.front ++ w.beyond)) = subst RealFirst (sym (sorts-append (without_acts page_cut.front) w.beyond)) b in
      let d : RealFirst (sorts (take k w.passed ++ (drop k w.passed ++ w.beyond))) = subst (λ l. RealFirst (sorts l)) (ap (λ l. l ++ w.beyond) (sym page_cut.passed) ∙ take-drop k w.passed w.beyond) c in
      break-real (sorts (take k w.passed)) (drop k w.passed ++ w.beyond) (subst RealFirst (sorts-append (take k w.passed) (drop k w.passed ++ w.beyond)) d)

  module _ (t : State) (after : (v : Weight) → After v (acted_weight v (page_of s).reached) s t) (acts_done : ActsClosed closing.owed (acted_of (page_of s).reached) s t) (z : Frozen) where
    here_now : HereKept s → (t.floats.here ≡ []) ⊎ (HasReal (sorts t.held_page) ⊎ BreakReal (sorts (take (page_break (page_of s)).place (page_of s).passed)) (pen_sort (penalty_at (from_break (page_of s)))))
    here_now (inl n) = inl (acts_done.here ∙ n)
    here_now (inr (inl r)) = inr (inl (subst (λ l. HasReal (sorts l)) (sym (after ones).held) r))
    here_now (inr (inr r)) = inr (inr (first_break r))

    ks : List ℕ
    ks = class_numbers s.classes

    same_classes : class_numbers t.classes ≡ class_numbers s.classes
    same_classes = ap class_numbers (after ones).classes

    fit_boxes : BoxesFit t.classes t.boxes
    fit_boxes = (after ones).sound.box

    labels_class : LabelsOfClass (class_numbers s.classes) (labelled z (take (page_break (page_of s)).place (page_of s).passed))
    labels_class = labelled-class (class_numbers s.classes) z [] [] (take (page_break (page_of s)).place (page_of s).passed) tt (cut_feet ones s kept).0

    labels_bare : LabelsBare (labelled z (take (page_break (page_of s)).place (page_of s).passed))
    labels_bare = labelled-bare z [] [] (take (page_break (page_of s)).place (page_of s).passed) tt (cut_bare ones s kept).0

    labels_last : page_closes.done ≡ true → LabelsLast (labelled z (take (page_break (page_of s)).place (page_of s).passed))
    labels_last e = quiet-last z (take (page_break (page_of s)).place (page_of s).passed) (tokens-take Quiet (page_break (page_of s)).place (page_of s).passed (page_closes.still e).1)

    -- the firing of the page in the state after its acts
    pub fired_closes : let f = fired_by (labelled z (take (page_break (page_of s)).place (page_of s).passed)) t.boxes (page_of s) in OutClosed (ways_acts (ways_of s) (acted_of (page_of s).reached)) page_closes.done f.rest (out t.params t f).state × ((out t.params t f).state.two_columns ≡ t.two_columns)
    fired_closes =
        let w = page_of s in
        let before = take (page_break w).place w.passed in
        let ls = labelled z before in
        let f = fired_by ls t.boxes w in
        let stands = cut_stands ones s kept in
        let a = after ones in
        out-closed (class_numbers s.classes) t.params (interline-calm t.params a.ranges) t f before refl stands.calm stands.free kept.placed.held stands.rest (ways_acts (ways_of s) (acted_of w.reached)) (owed_acts (ways_of s) closing.owed (acted_of w.reached)) page_closes.done
        (break-closes (from_break w) (ways_acts (ways_of s) (acted_of w.reached)) (owed_acts (ways_of s) closing.owed (acted_of w.reached)) page_closes.done page_closes.first page_closes.rest)
        (λ h. a.held ∙ kept.placed.free h) (subst AllSteady (sym a.held) kept.placed.steady) (body-steady before stands.calm stands.free)
        acts_done.items a.sound.entries acts_done.single a.sound.columns (here_now closing.here)
        (held-ins (class_numbers s.classes) ls labels_class) (λ e. held-quiet ls (labels_last e)) (λ e. held-quiet ls (clear-last (class_numbers s.classes) z before labels_class (subst (λ ks. GivesLast ks ls) same_classes (void-last ls t.classes t.boxes fit_boxes e)))) (box-fired ls t.classes t.boxes fit_boxes)

    -- if nothing came up to the stop, nothing is kept behind an ordinary firing
    nothing_kept : let f = fired_by (labelled z (take (page_break (page_of s)).place (page_of s).passed)) t.boxes (page_of s) in (out t.params t f).refused ≡ false → page_closes.done ≡ true → (v : Weight) → boxes_weight v (out t.params t f).state.boxes + nodes_weight v (out t.params t f).state.held_page + lists_weight v (out t.params t f).state.floats + left_weight v (out t.params t f).state.left_column ≡ 0
    nothing_kept r e v =
        let w = page_of s in
        let before = take (page_break w).place w.passed in
        let ls = labelled z before in
        let f = fired_by ls t.boxes w in
        let u = (out t.params t f).state in
        let q = page_closes.still e in
        let k : state_weight v u + sent_weight v (out t.params t f).sent ≡ state_weight v s = (fired-keeps v s kept t (after v) z r).1 in
        sums (nodes_weight v u.waiting) (boxes_weight v u.boxes) (nodes_weight v u.held_page) (lists_weight v u.floats) (left_weight v u.left_column) (sent_weight v (out t.params t f).sent)
        (nodes_weight v s.waiting) (boxes_weight v s.boxes) (nodes_weight v s.held_page) (lists_weight v s.floats) (left_weight v s.left_column)
        (nodes_weight v w.passed) (acted_weight v w.reached) (nodes_weight v w.beyond)
        (nodes_weight v f.body) (boxes_weight v f.boxes) (nodes_weight v f.held) (nodes_weight v f.rest) (boxes_weight v t.boxes) (nodes_weight v fired_closes.0.front)
        k ((closing.clean q.0).weightless v) (quiet-weight v w.passed (passed_bare ones s kept).0 q.1) (still-weight v w.reached q.2) (reached v s kept)
        (fired-weight v z t.boxes w (subst (λ ms. AllOfClass ms before) (sym same_classes ∙ fit-numbers t.classes t.boxes fit_boxes) (cut_feet ones s kept).0))
        (quiet-weight v f.body (body-bare before) (quiet-body before (tokens-take Quiet (page_break w).place w.passed q.1)))
        (same-boxes v ls t.boxes (labels_last e) labels_bare)
        (ap (boxes_weight v) (after ones).boxes)
        (quiet-weight v (held_insertions ls) (held-bare ls labels_bare) (held-quiet ls (labels_last e)))
        (ap (nodes_weight v) fired_closes.0.whole ∙ weight-append v fired_closes.0.front f.rest)
      where
        sums : (Wu Bu Hu Lu Ku S Ws B H L K P A Y Fb Fx Fh Fr Bt F : ℕ) → Wu + Bu + Hu + Lu + Ku + S ≡ Ws + B + H + L + K → B + H + L + K ≡ 0 → P ≡ 0 → A ≡ 0 → P + A + Y ≡ Ws → Fb + Fx + Fh + Fr ≡ Bt + (P + Y) → Fb ≡ 0 → Fx ≡ Bt → Bt ≡ B → Fh ≡ 0 → Wu ≡ F + Fr → Bu + Hu + Lu + Ku ≡ 0
        sums Wu Bu Hu Lu Ku S Ws B H L K P A Y Fb Fx Fh Fr Bt F a b c d e f g h i j k = omega arith

    fired_closing : let f = fired_by (labelled z (take (page_break (page_of s)).place (page_of s).passed)) t.boxes (page_of s) in (out t.params t f).refused ≡ false → Closing (out t.params t f).state
    fired_closing r =
        let x = fired_closes.0 in
        let f = fired_by (labelled z (take (page_break (page_of s)).place (page_of s).passed)) t.boxes (page_of s) in
        let ways : ways_acts (ways_of s) (acted_of (page_of s).reached) ≡ ways_of (out t.params t f).state = sym acts_done.ways ∙ (λ i. record { second = has_second (sym (out-keeps-params t.params t f) i); two = sym fired_closes.1 i }) in
        record { owed = x.owed; done = x.done; closes = subst (λ y. Closes y x.owed x.done (tokens (out t.params t f).state.waiting)) ways x.closes; items = x.items; single = x.single; here = x.here; clean = λ e. by_clean (nothing_kept r) (x.clean e) }
      where
        by_clean : {u : State} → (page_closes.done ≡ true → (v : Weight) → boxes_weight v u.boxes + nodes_weight v u.held_page + lists_weight v u.floats + left_weight v u.left_column ≡ 0) → ((page_closes.done ≡ true) × (u.floats.here ≡ [])) ⊎ Clean u → Clean u
        by_clean h (inl y) = record { weightless = h y.0; here = y.1 }
        by_clean h (inr y) = y

  -- at the end nothing is left that has to ship
  end-empty : (t : State) → ActsClosed closing.owed (acted_of (page_of s).reached) s t → (page_of s).fires ≡ false → (t.floats ≡ no_floats) × ((v : Weight) → state_weight v s ≡ 0)
  end-empty t d u =
      let w = page_of s in
      let e : page_closes.done ≡ true = subst (λ l. Closes (ways_acts (ways_of s) (acted_of w.reached)) (owed_acts (ways_of s) closing.owed (acted_of w.reached)) page_closes.done (tokens l)) (page_cut.ended u) page_closes.beyond in
      let q = page_closes.still e in
      (d.still q.2 ∙ empty q.0, λ v. sums (nodes_weight v s.waiting) (boxes_weight v s.boxes) (nodes_weight v s.held_page) (lists_weight v s.floats) (left_weight v s.left_column) (nodes_weight v w.passed) (acted_weight v w.reached) (nodes_weight v w.beyond) ((closing.clean q.0).weightless v) (quiet-weight v w.passed (passed_bare ones s kept).0 q.1) (still-weight v w.reached q.2) (ap (nodes_weight v) (page_cut.ended u)) (reached v s kept))
    where
      sums : (W B H L K P A Y : ℕ) → B + H + L + K ≡ 0 → P ≡ 0 → A ≡ 0 → Y ≡ 0 → P + A + Y ≡ W → W + B + H + L + K ≡ 0
      sums W B H L K P A Y b c d e f = omega arith

  firing-emptied : {t : State} {es : List RunEvent} {rs : List Recorded} → WholePage s es rs t → AllByRecursion IsEmptied (rs ++ (served_at s t).records)
  firing-emptied {t = t} {rs = rs} x = all-join IsEmptied rs (served_at s t).records (emptied-page x) (out-records t.params (record { holds = IsEmptied; at_place = λ g place l k. tt; at_output = λ c. tt }) t (fired_at s t))

  pub steps-close : {x : Step} → StepIs s x → StepCloses s x
  steps-close (fires_on {t = t} x f r) = (firing-emptied x, fired_closing t (page-after x) (closed-page x) (frozen_for (ask_for s) t.classes t.boxes) r)
  steps-close (meets_page_limit x f r) = firing-emptied x
  steps-close (meets_node_limit x f r n) = firing-emptied x
  steps-close (meets_cycle_limit x e c) = emptied-page x
  steps-close (is_done {rs = rs} {t = t} x u) = let k = end-empty t (closed-page x) u in (all-join IsEmptied rs (emptied t.floats ∷ []) (emptied-page x) (k.0, tt), k.1)
  steps-close (meets_full_pool x e) = emptied-page x

  pub step-closes : StepCloses s (step s)
  step-closes = steps-close (step-is s)
