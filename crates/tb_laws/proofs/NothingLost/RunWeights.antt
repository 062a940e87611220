-- A run loses nothing: what is sent and what is on the way weighs as much as the galley.
use Rattle.std.proofs.Common.{◌≡◌, refl, sym, ◌∙◌, ap, subst, ℕ, suc, ◌+◌, Bool, true, false, List, [], ◌∷◌, ◌++◌, map, take, drop, Option, Some, None, arith}
use Rattle.std.specs.Prelude.{ℤ, ◌==◌, ◌&&◌, if◌then◌else◌}
use Rattle.std.specs.List.{AllByRecursion}
use Rattle.tb_node.specs.declared.Act.{Act}
use Rattle.tb_node.specs.declared.Act.TheVariants as acts
use Rattle.tb_node.specs.declared.Float.{Float}
use Rattle.tb_node.proofs.Weights.{Weight, act_weight, nodes_weight}
use Rattle.tb_param.specs.declared.Params.{Params}
use Rattle.tb_param.specs.Release.{has_second}
use Rattle.tb_param.specs.Ranges.{are_params}
use Rattle.std.proofs.lemmas.Bool.{eq-eqb, eqb-true, ne_eqb, true≢false}
use Rattle.tb_insert.specs.declared.Class.{Class}
use Rattle.tb_insert.specs.Account.{terms_after, Frozen, Labelled, labelled}
use Rattle.tb_break.specs.PageTop.{pruned_nodes}
use Rattle.tb_builder.specs.Reach.{Reached}
use Rattle.tb_builder.specs.FiredPages.{with_spent_break, Boxed, page_break, box_after, is_given, fired_by, frozen_for, content_of, given_to}
use Rattle.tb_builder.proofs.FiredPages.PageWeights.{labelled-class, reach-weight, pruned_nodes-weight, acted_weight, boxes_weight, numbers, hits, IsOnce, fired_weight, fired-weight, AllOfClass}
use Rattle.tb_builder.proofs.Cutting.CutLemmas.{acted_of, CutAt, reach-cut, cut-class, class-pruned, held-ins}
use Rattle.tb_float.specs.declared.Entry.{Entry}
use Rattle.tb_float.specs.declared.Entry.TheVariants as entries
use Rattle.tb_float.specs.Lists.{FloatLists}
use Rattle.tb_sheet.specs.declared.Warn.{Warn}
use Rattle.tb_column.specs.Column.{PlainColumn}
use Rattle.tb_sheet.specs.Sheet.{PlainSent, warned, shipped}
use Rattle.tb_output.specs.State.{State, Recorded}
use Rattle.tb_output.specs.Act.{taken_float, lists_with_taken, taken_head}
use Rattle.tb_output.specs.Output.{out}
use Rattle.tb_output.proofs.KeptParams.{out-keeps-params}
use Rattle.tb_laws.proofs.DeadCycles.ValidPenalties.{interline-calm}
use Rattle.tb_laws.proofs.Closed.BareFeet.{HoldBare, LabelsBare, BoxesBare, AllPlaced, all-placed, placed-class, placed-bare, labelled-bare, boxes-bare, held-bare, pruned-bare, spent-bare, bare-passed, bare-take, bare-drop, bare-join}
use Rattle.tb_laws.proofs.NothingLost.StateWeights.{floats_weight, floats-append}
use Rattle.tb_laws.proofs.NothingLost.WorkWeights.{Sound, class_numbers, BoxesFit, Paired, entries_weight, lists_weight, left_weight, state_weight, sheet_weight, sent_weight, out-weight}
use Rattle.tb_laws.proofs.Closed.SortLemmas.{PageStands, cut-stands, pruned-stands, page-careful}
use Rattle.tb_laws.proofs.Closed.PutLemmas.{AreAmong}
use Rattle.tb_laws.proofs.Closed.PlaceLemmas.{AllSteady, WellPlaced, body-steady, body-class, out-placed}
use Rattle.tb_items.specs.RunEvents.{RunEvent, offered, sent}
pub use Rattle.tb_steps.proofs.RunTree.{page_of}
use Rattle.tb_steps.specs.Run.{done, pool_full, dead_cycles, page_limit, node_limit, Progress, progress, Step, ends, goes_on, step, ask_for}
use Rattle.tb_steps.proofs.RunTree.{ActMove, PageMoves, page-is, served_at, WholePage, StepIs, step-is, takes_float, takes_note, changes_columns, takes_title, fires_on, is_done}
use Rattle.tb_steps.proofs.RunFolds.{Shows, act-in-range, PageLaw, page-holds, progress-holds, whole-holds}

abbrev pub events_weight : Weight → List RunEvent → ℕ
events_weight v [] = 0
events_weight v (offered t ∷ es) = events_weight v es
events_weight v (sent (warned w) ∷ es) = events_weight v es
events_weight v (sent (shipped page sheet) ∷ es) = sheet_weight v sheet + events_weight v es

pub events-append : (v : Weight) (xs ys : List RunEvent) → events_weight v (xs ++ ys) ≡ events_weight v xs + events_weight v ys
events-append v [] ys = omega arith
events-append v (offered t ∷ xs) ys = events-append v xs ys
events-append v (sent (warned w) ∷ xs) ys = events-append v xs ys
events-append v (sent (shipped page sheet) ∷ xs) ys = let h : events_weight v (xs ++ ys) ≡ events_weight v xs + events_weight v ys = events-append v xs ys in omega arith

warnings-weight : (v : Weight) (ws : List Warn) → events_weight v (map (λ w. sent (warned w)) ws) ≡ 0
warnings-weight v [] = refl
warnings-weight v (w ∷ ws) = warnings-weight v ws

sent-events : (v : Weight) (es : List PlainSent) → events_weight v (map sent es) ≡ sent_weight v es
sent-events v [] = refl
sent-events v (warned w ∷ es) = sent-events v es
sent-events v (shipped page sheet ∷ es) = let h : events_weight v (map sent es) ≡ sent_weight v es = sent-events v es in omega arith

-- ---- acts

entries-append : (v : Weight) (xs ys : List Entry) → entries_weight v (xs ++ ys) ≡ entries_weight v xs + entries_weight v ys
entries-append v [] ys = omega arith
entries-append v (entries.Float f ∷ xs) ys = let h : entries_weight v (xs ++ ys) ≡ entries_weight v xs + entries_weight v ys = entries-append v xs ys in omega arith
entries-append v (entries.Left m ∷ xs) ys = let h : entries_weight v (xs ++ ys) ≡ entries_weight v xs + entries_weight v ys = entries-append v xs ys in omega arith
entries-append v (entries.Right m ∷ xs) ys = entries-append v xs ys

paired-append : (xs ys : List Entry) → Paired xs → Paired ys → Paired (xs ++ ys)
paired-append [] ys a b = b
paired-append (entries.Float f ∷ xs) ys a b = paired-append xs ys a b
paired-append (entries.Left m ∷ []) ys a b = absurd a
paired-append (entries.Left m ∷ entries.Float f ∷ xs) ys a b = absurd a
paired-append (entries.Left m ∷ entries.Left n ∷ xs) ys a b = absurd a
paired-append (entries.Left m ∷ entries.Right n ∷ xs) ys a b = paired-append xs ys a b
paired-append (entries.Right m ∷ xs) ys a b = absurd a

-- a change of columns, which drops a kept left column, comes only if that weighs nothing
abbrev pub ActFits : Weight → Option PlainColumn → Act → Type 0
ActFits v o (acts.Take f) = Unit {0}
ActFits v o (acts.TakeMargin m) = Unit {0}
ActFits v o (acts.Suppress area) = Unit {0}
ActFits v o (acts.Page n) = Unit {0}
ActFits v o (acts.Head f) = Unit {0}
ActFits v o (acts.Set c) = Unit {0}
ActFits v o (acts.Columns two) = left_weight v o ≡ 0

abbrev pub ActsFit : Weight → Option PlainColumn → List Act → Type 0
ActsFit v o = AllByRecursion (ActFits v o)

fits-none : (v : Weight) (ds : List Act) → ActsFit v None ds
fits-none v [] = tt
fits-none v (a ∷ ds) = (by_act a, fits-none v ds)
  where
    by_act : (a : Act) → ActFits v None a
    by_act (acts.Columns two) = refl
    by_act a = tt

-- the state after acts that weigh this much
pub record After (v : Weight) (n : ℕ) (s t : State) : Type 0 where
  pub ranges : are_params t.params ≡ true
  pub sound : Sound t
  pub waiting : t.waiting ≡ s.waiting
  pub held : t.held_page ≡ s.held_page
  pub boxes : t.boxes ≡ s.boxes
  pub classes : t.classes ≡ s.classes
  pub weight : lists_weight v t.floats + left_weight v t.left_column ≡ lists_weight v s.floats + left_weight v s.left_column + n

-- a float is taken into the current list or into the second
taken-weight : (v : Weight) (p : Params) (f : Float) (l : FloatLists) → lists_weight v (lists_with_taken p f l) ≡ lists_weight v l + v.float f.line
taken-weight v p f l = by_list (has_second p && f.wide)
  where
    by_list : (t : Bool) → lists_weight v (if t then record l { second = l.second ++ f ∷ [] } else record l { current = l.current ++ entries.Float f ∷ [] }) ≡ lists_weight v l + v.float f.line
    by_list true = let e : floats_weight v (l.second ++ f ∷ []) ≡ floats_weight v l.second + (v.float f.line + 0) = floats-append v l.second (f ∷ []) in omega arith
    by_list false = let e : entries_weight v (l.current ++ entries.Float f ∷ []) ≡ entries_weight v l.current + (v.float f.line + 0) = entries-append v l.current (entries.Float f ∷ []) in omega arith

taken-paired : (p : Params) (f : Float) (l : FloatLists) → Paired l.current → Paired (lists_with_taken p f l).current
taken-paired p f l h = by_list (has_second p && f.wide)
  where
    by_list : (t : Bool) → Paired (if t then record l { second = l.second ++ f ∷ [] } else record l { current = l.current ++ entries.Float f ∷ [] }).current
    by_list true = h
    by_list false = paired-append l.current (entries.Float f ∷ []) h tt

act-adds : (v : Weight) {s t : State} {a : Act} {ws : List Warn} {rs : List Recorded} (ds : List Act) → ActMove s.params s a t ws rs → are_params s.params ≡ true → Sound s → ActsFit v s.left_column (a ∷ ds) → After v (act_weight v a) s t × ActsFit v t.left_column ds
act-adds v ds (takes_float {s = s} f r) g d h =
    let p = s.params in
    let e : lists_weight v (lists_with_taken p (taken_float p s f) s.floats) ≡ lists_weight v s.floats + v.float f.line = taken-weight v p (taken_float p s f) s.floats in
    (record { ranges = g; sound = record { box = d.box; bare = d.bare; columns = d.columns; entries = taken-paired p (taken_float p s f) s.floats d.entries }; waiting = refl; held = refl; boxes = refl; classes = refl; weight = omega (arith, e) }, h.1)
act-adds v ds (takes_note {s = s} m r) g d h =
    let e : entries_weight v (s.floats.current ++ entries.Left m ∷ entries.Right m ∷ []) ≡ entries_weight v s.floats.current + (v.margin m.line + 0) = entries-append v s.floats.current (entries.Left m ∷ entries.Right m ∷ []) in
    (record { ranges = g; sound = record { box = d.box; bare = d.bare; columns = d.columns; entries = paired-append s.floats.current (entries.Left m ∷ entries.Right m ∷ []) d.entries tt }; waiting = refl; held = refl; boxes = refl; classes = refl; weight = omega arith }, h.1)
act-adds v ds (takes_title {s = s} f r) g d h =
    let p = s.params in
    let e : floats_weight v (s.floats.double ++ taken_head p f ∷ []) ≡ floats_weight v s.floats.double + (v.float f.line + 0) = floats-append v s.floats.double (taken_head p f ∷ []) in
    (record { ranges = g; sound = record { box = d.box; bare = d.bare; columns = d.columns; entries = d.entries }; waiting = refl; held = refl; boxes = refl; classes = refl; weight = omega arith }, h.1)
act-adds v ds (changes_columns {s = s} two) g d h =
    let e : left_weight v s.left_column ≡ 0 = h.0 in
    (record { ranges = g; sound = record { box = d.box; bare = d.bare; columns = tt; entries = d.entries }; waiting = refl; held = refl; boxes = refl; classes = refl; weight = omega arith }, fits-none v ds)
act-adds v ds m g d h = (record { ranges = act-in-range m g; sound = record { box = d.box; bare = d.bare; columns = d.columns; entries = d.entries }; waiting = refl; held = refl; boxes = refl; classes = refl; weight = omega arith }, h.1)

after-both : (v : Weight) (n m : ℕ) (o s t : State) → After v n o s → After v m s t → After v (n + m) o t
after-both v n m o s t x y =
    let i : lists_weight v s.floats + left_weight v s.left_column ≡ lists_weight v o.floats + left_weight v o.left_column + n = x.weight in
    let j : lists_weight v t.floats + left_weight v t.left_column ≡ lists_weight v s.floats + left_weight v s.left_column + m = y.weight in
    record { ranges = y.ranges; sound = y.sound; waiting = y.waiting ∙ x.waiting; held = y.held ∙ x.held; boxes = y.boxes ∙ x.boxes; classes = y.classes ∙ x.classes; weight = omega arith }

-- ---- the acts of a page

-- while a page is gone through: what was taken and what its acts still bring make up what all of them bring
record Taking (v : Weight) (m : ℕ) (o : State) (rs : List Reached) (s : State) : Type 0 where
  taken : ℕ
  after : After v taken o s
  all : taken + acted_weight v rs ≡ m
  fits : ActsFit v s.left_column (acted_of rs)

-- what is shown weighs nothing
abbrev weightless : Weight → Shows
weightless v = record {
  holds = λ es rs. events_weight v es ≡ 0;
  none = refl;
  both = λ es fs rs qs a b. events-append v es fs ∙ (λ i. a i + b i);
}

abbrev taking : (v : Weight) → ℕ → State → PageLaw
taking v m o = record {
  shows = weightless v;
  holds = Taking v m o;
  tries = λ line b least rs s h. (refl, record { taken = h.taken; after = h.after; all = h.all; fits = h.fits });
  acts = λ s t a ws records rs x h.
      let y = act-adds v (acted_of rs) x h.after.ranges h.after.sound h.fits in
      let e : h.taken + (act_weight v a + acted_weight v rs) ≡ m = h.all in
      (warnings-weight v ws, record { taken = h.taken + act_weight v a; after = after-both v h.taken (act_weight v a) o s t h.after y.0; all = omega (arith, e); fits = y.1 });
}

nothing-taken : (v : Weight) (rs : List Reached) (s : State) → are_params s.params ≡ true → Sound s → ActsFit v s.left_column (acted_of rs) → Taking v (acted_weight v rs) s rs s
nothing-taken v rs s g d h = record { taken = 0; after = record { ranges = g; sound = d; waiting = refl; held = refl; boxes = refl; classes = refl; weight = omega arith }; all = omega arith; fits = h }

all-taken : {v : Weight} {m : ℕ} {o s : State} → Taking v m o [] s → After v m o s
all-taken {v = v} {o = o} {s = s} h = subst (λ n. After v n o s) (omega (arith, h.all)) h.after

-- what is reached weighs nothing, and its acts bring what they take
pub record Progressed (v : Weight) (n : ℕ) (s : State) (q : Progress) : Type 0 where
  pub events : events_weight v q.events ≡ 0
  pub after : q.fault ≡ None → After v n s q.state

pub progress-adds : (v : Weight) (rs : List Reached) (least : ℤ) (s : State) → are_params s.params ≡ true → Sound s → ActsFit v s.left_column (acted_of rs) → Progressed v (acted_weight v rs) s (progress rs least s)
progress-adds v rs least s g d h =
    let start = nothing-taken v rs s g d h in
    record { events = (progress-holds (taking v (acted_weight v rs) s) (page-is rs least s) start).0; after = λ f. all-taken (whole-holds (taking v (acted_weight v rs) s) (page-is rs least s) start f) }

-- ---- a page and its firing

pub box_after-number : (ls : List Labelled) (b : Boxed) → (box_after ls b).number ≡ b.number
box_after-number ls b = by_given (is_given b.number ls)
  where
    by_given : (t : Bool) → (if t then record b { content = Some (content_of b.content ++ given_to b.number ls) } else b).number ≡ b.number
    by_given true = refl
    by_given false = refl

pub box-fired : (ls : List Labelled) (cs : List Class) (bs : List Boxed) → BoxesFit cs bs → BoxesFit cs (map (box_after ls) bs)
box-fired ls [] [] h = h
box-fired ls [] (b ∷ bs) h = absurd h
box-fired ls (c ∷ cs) [] h = absurd h
box-fired ls (c ∷ cs) (b ∷ bs) h = (box_after-number ls b ∙ h.0, h.1, box-fired ls cs bs h.2)

-- the boxes have the numbers of the classes
pub fit-numbers : (cs : List Class) (bs : List Boxed) → BoxesFit cs bs → class_numbers cs ≡ numbers bs
fit-numbers [] [] h = refl
fit-numbers [] (b ∷ bs) h = absurd h
fit-numbers (c ∷ cs) [] h = absurd h
fit-numbers (c ∷ cs) (b ∷ bs) h = λ i. sym h.0 i ∷ fit-numbers cs bs h.2 i

-- a class is once among numbers that differ from a number before them
once-more : (n : ℕ) (ks : List ℕ) (cs : List Class) → hits n (class_numbers cs) ≡ 0 → AreAmong ks cs → AreAmong (n ∷ ks) cs
once-more n ks [] h a = tt
once-more n ks (c ∷ cs) h a = by_number (c.number == n) refl (λ e. once-more n ks cs e a.1)
  where
    by_number : (t : Bool) → (c.number == n) ≡ t → (hits n (class_numbers cs) ≡ 0 → AreAmong (n ∷ ks) cs) → ((if t then suc (hits c.number ks) else hits c.number ks) ≡ 1) × AreAmong (n ∷ ks) cs
    by_number true e again = absurd (omega (arith, ap (λ u. if u then suc (hits n (class_numbers cs)) else hits n (class_numbers cs)) (sym (eq-eqb n c.number (sym (eqb-true c.number n e)))) ∙ h))
    by_number false e again = (a.0, again (ap (λ u. if u then suc (hits n (class_numbers cs)) else hits n (class_numbers cs)) (sym (ne_eqb n c.number (λ q. true≢false (sym (eq-eqb c.number n (sym q)) ∙ e)))) ∙ h))

-- each class is once among them all
pub fit-among : (cs : List Class) (bs : List Boxed) → BoxesFit cs bs → AreAmong (class_numbers cs) cs
fit-among [] [] h = tt
fit-among [] (b ∷ bs) h = absurd h
fit-among (c ∷ cs) [] h = absurd h
fit-among (c ∷ cs) (b ∷ bs) h =
    let once : IsOnce (class_numbers (c ∷ cs)) c.number = ap (λ t. if t then suc (hits c.number (class_numbers cs)) else hits c.number (class_numbers cs)) (eq-eqb c.number c.number refl) ∙ ap suc h.1 in
    (once, once-more c.number (class_numbers cs) cs h.1 (fit-among cs bs h.2))

-- ---- one page and the firing after it

-- what holds between two firings
pub record Kept (s : State) : Type 0 where
  pub ranges : are_params s.params ≡ true
  pub sound : Sound s
  pub placed : WellPlaced s

-- a step sends and keeps what was there; and at its end what is left on the page and what was taken from it is what waited
abbrev pub StepWeighs : Weight → State → Step → Type 0
StepWeighs v s (goes_on es rs t) = Kept t × (events_weight v es + state_weight v t ≡ state_weight v s)
StepWeighs v s (ends es rs (done left)) = (events_weight v es ≡ 0) × ((n : ℕ) × (nodes_weight v left + n ≡ nodes_weight v s.waiting))
StepWeighs v s (ends es rs (pool_full line live)) = Unit {0}
StepWeighs v s (ends es rs (dead_cycles n)) = Unit {0}
StepWeighs v s (ends es rs (page_limit n)) = Unit {0}
StepWeighs v s (ends es rs (node_limit n)) = Unit {0}

module _ (v : Weight) (s : State) (kept : Kept s) where
  -- the top of its page
  abbrev top : ℤ
  top = (ask_for s).top_skip

  limit : ℤ
  limit = (ask_for s).max_depth

  pub cut : CutAt [] (pruned_nodes top s.waiting) (page_of s)
  cut = reach-cut (ask_for s).max_depth (terms_after (frozen_for (ask_for s) s.classes s.boxes)) [] (pruned_nodes top s.waiting)

  pub cut_feet : AllOfClass (class_numbers s.classes) (take (page_break (page_of s)).place (page_of s).passed) × AllOfClass (class_numbers s.classes) (with_spent_break (drop (page_break (page_of s)).place (page_of s).passed ++ (page_of s).beyond))
  cut_feet = cut-class (class_numbers s.classes) (page_break (page_of s)).place (pruned_nodes top s.waiting) (page_of s) cut (class-pruned (class_numbers s.classes) top s.waiting (placed-class (class_numbers s.classes) s.waiting kept.placed.feet))

  pub passed_bare : HoldBare (page_of s).passed × HoldBare (page_of s).beyond
  passed_bare = bare-passed (pruned_nodes top s.waiting) (page_of s) cut (pruned-bare top s.waiting (placed-bare (class_numbers s.classes) s.waiting kept.placed.feet))

  -- the insertions on the page, and those behind its break
  pub cut_bare : HoldBare (take (page_break (page_of s)).place (page_of s).passed) × HoldBare (with_spent_break (drop (page_break (page_of s)).place (page_of s).passed ++ (page_of s).beyond))
  cut_bare =
      let w = page_of s in
      let b = passed_bare in
      (bare-take (page_break w).place w.passed b.0, spent-bare (drop (page_break w).place w.passed ++ w.beyond) (bare-join (drop (page_break w).place w.passed) w.beyond (bare-drop (page_break w).place w.passed b.0) b.1))

  pub cut_stands : PageStands kept.placed.held (page_break (page_of s)).place (page_of s)
  cut_stands = cut-stands (pruned_nodes top s.waiting) (page_of s) kept.placed.held (page_break (page_of s)).place cut (pruned-stands top s.waiting kept.placed.held kept.placed.stands)

  pub reached : nodes_weight v (page_of s).passed + acted_weight v (page_of s).reached + nodes_weight v (page_of s).beyond ≡ nodes_weight v s.waiting
  reached =
      let a : nodes_weight v (page_of s).passed + acted_weight v (page_of s).reached + nodes_weight v (page_of s).beyond ≡ 0 + nodes_weight v (pruned_nodes top s.waiting) = reach-weight v (ask_for s).max_depth (terms_after (frozen_for (ask_for s) s.classes s.boxes)) [] (pruned_nodes top s.waiting) in
      let b : nodes_weight v (pruned_nodes top s.waiting) ≡ nodes_weight v s.waiting = pruned_nodes-weight v top s.waiting in
      omega arith

  -- the firing of the page in the state after its acts
  pub fired-keeps : (t : State) → After v (acted_weight v (page_of s).reached) s t → (z : Frozen) → let f = fired_by (labelled z (take (page_break (page_of s)).place (page_of s).passed)) t.boxes (page_of s) in (out t.params t f).refused ≡ false → Kept (out t.params t f).state × (state_weight v (out t.params t f).state + sent_weight v (out t.params t f).sent ≡ state_weight v s)
  fired-keeps t a z r =
      let w = page_of s in
      let ls = labelled z (take (page_break w).place w.passed) in
      let f = fired_by ls t.boxes w in
      let free : kept.placed.held ≡ false → t.held_page ≡ [] = λ h. a.held ∙ kept.placed.free h in
      let ks = class_numbers s.classes in
      let same : class_numbers t.classes ≡ ks = ap class_numbers a.classes in
      let fit : BoxesFit t.classes t.boxes = a.sound.box in
      let whole : AllOfClass (numbers t.boxes) (take (page_break w).place w.passed) = subst (λ ms. AllOfClass ms (take (page_break w).place w.passed)) (sym same ∙ fit-numbers t.classes t.boxes fit) cut_feet.0 in
      let labels : LabelsBare ls = labelled-bare z [] [] (take (page_break w).place w.passed) tt cut_bare.0 in
      let boxed : BoxesBare f.boxes = boxes-bare ls t.boxes labels a.sound.bare in
      let x = out-weight v t.params t f (record { box = box-fired ls t.classes t.boxes fit; bare = boxed; columns = a.sound.columns; entries = a.sound.entries }) (page-careful v kept.placed.held ls t.boxes w t.held_page free cut_stands) r in
      let y = out-placed ks t.params (interline-calm t.params a.ranges) t f kept.placed.held _ free (subst AllSteady (sym a.held) kept.placed.steady) (subst (AllPlaced ks) (sym a.held) kept.placed.held_feet) (body-steady (take (page_break w).place w.passed) cut_stands.calm cut_stands.free) (body-class ks (take (page_break w).place w.passed)) (held-ins ks ls (labelled-class ks z [] [] (take (page_break w).place w.passed) tt cut_feet.0)) (held-bare ls labels) (all-placed ks (with_spent_break (drop (page_break w).place w.passed ++ w.beyond)) cut_feet.1 cut_bare.1) cut_stands.rest same (subst (λ ms. AreAmong ms t.classes) same (fit-among t.classes t.boxes fit)) boxed in
      let i : fired_weight v f ≡ boxes_weight v t.boxes + (nodes_weight v w.passed + nodes_weight v w.beyond) = fired-weight v z t.boxes w whole in
      let j : nodes_weight v w.passed + acted_weight v w.reached + nodes_weight v w.beyond ≡ nodes_weight v s.waiting = reached in
      let k : lists_weight v t.floats + left_weight v t.left_column ≡ lists_weight v s.floats + left_weight v s.left_column + acted_weight v w.reached = a.weight in
      let l : boxes_weight v t.boxes ≡ boxes_weight v s.boxes = ap (boxes_weight v) a.boxes in
      let m : nodes_weight v t.held_page ≡ nodes_weight v s.held_page = ap (nodes_weight v) a.held in
      let g : state_weight v (out t.params t f).state + sent_weight v (out t.params t f).sent ≡ fired_weight v f + (nodes_weight v t.held_page + lists_weight v t.floats + left_weight v t.left_column) = x.1 in
      (record { ranges = subst (λ q. are_params q ≡ true) (sym (out-keeps-params t.params t f)) a.ranges; sound = x.0; placed = y }, sums (state_weight v (out t.params t f).state + sent_weight v (out t.params t f).sent) (fired_weight v f) (nodes_weight v t.held_page) (lists_weight v t.floats) (left_weight v t.left_column) (boxes_weight v t.boxes) (nodes_weight v w.passed) (nodes_weight v w.beyond) (acted_weight v w.reached) (nodes_weight v s.waiting) (boxes_weight v s.boxes) (nodes_weight v s.held_page) (lists_weight v s.floats) (left_weight v s.left_column) g i j k l m)
    where
      sums : (G F Ht Lt Ct Bt P Y A W Bs Hs Ls Cs : ℕ) → G ≡ F + (Ht + Lt + Ct) → F ≡ Bt + (P + Y) → P + A + Y ≡ W → Lt + Ct ≡ Ls + Cs + A → Bt ≡ Bs → Ht ≡ Hs → G ≡ W + Bs + Hs + Ls + Cs
      sums G F Ht Lt Ct Bt P Y A W Bs Hs Ls Cs g i j k l m = omega arith

  module _ (h : ActsFit v s.left_column (acted_of (page_of s).reached)) where
    page-adds : {qs : List Reached} {t : State} {es : List RunEvent} {rs : List Recorded} → PageMoves (page_of s).reached s es rs qs t → (events_weight v es ≡ 0) × Taking v (acted_weight v (page_of s).reached) s qs t
    page-adds x = page-holds (taking v (acted_weight v (page_of s).reached) s) x (nothing-taken v (page_of s).reached s kept.ranges kept.sound h)

    -- the state after the acts of the page
    pub whole-adds : {t : State} {es : List RunEvent} {rs : List Recorded} → WholePage s es rs t → After v (acted_weight v (page_of s).reached) s t
    whole-adds x = all-taken (page-adds x).1

    -- a step keeps what there is, if a change of columns drops nothing that weighs
    pub weighs : {x : Step} → StepIs s x → StepWeighs v s x
    weighs (fires_on {es = es} {t = t} x f r) =
        let o = served_at s t in
        let k = fired-keeps t (whole-adds x) (frozen_for (ask_for s) t.classes t.boxes) r in
        (k.0, sums (state_weight v o.state) (sent_weight v o.sent) (events_weight v es) (events_weight v (map sent o.sent)) (events_weight v (es ++ map sent o.sent)) (state_weight v s) (page-adds x).0 (events-append v es (map sent o.sent)) (sent-events v o.sent) k.1)
      where
        sums : (S T Q M E U : ℕ) → Q ≡ 0 → E ≡ Q + M → M ≡ T → S + T ≡ U → E + S ≡ U
        sums S T Q M E U d a b c = omega arith
    weighs (is_done x u) =
        let i : nodes_weight v (page_of s).passed + acted_weight v (page_of s).reached + nodes_weight v (page_of s).beyond ≡ nodes_weight v s.waiting = reached in
        let j : nodes_weight v (page_of s).beyond ≡ 0 = ap (nodes_weight v) (cut.ended u) in
        ((page-adds x).0, (acted_weight v (page_of s).reached, omega arith))
    weighs x = tt

    pub step-weighs : StepWeighs v s (step s)
    step-weighs = weighs (step-is s)
