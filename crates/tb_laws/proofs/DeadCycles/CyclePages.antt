-- What is known of the page that fires, from what waited before it.
use Rattle.std.proofs.Common.{◌≡◌, refl, sym, ◌∙◌, ap, subst, ℕ, zero, suc, ℤ, pos, ◌+◌, ◌≤◌, Bool, true, false, List, [], ◌∷◌, ◌++◌, take, drop, length, arith, append_assoc}
use Rattle.std.specs.Prelude.{◌≤ℤ◌, ◌-◌, int_le, if◌then◌else◌}
use Rattle.std.proofs.lemmas.Int.{ints}
use Rattle.tb_scaled.specs.Scaled.{eject_penalty, inf_penalty}
use Rattle.tb_node.specs.declared.What.TheVariants as what
use Rattle.tb_node.specs.PlainNodes.{hbox, rule, skip, kerned, pen, mark, note, whatsit, PlainKind, plain, ins, act, PlainNode, made, blank_box, without_acts}
use Rattle.tb_break.specs.PageTop.{pruned_nodes}
use Rattle.tb_insert.specs.Account.{terms_after, Frozen, labelled}
use Rattle.tb_builder.specs.Reach.{Reach}
use Rattle.tb_builder.specs.FiredPages.{Fired, page_break, fired_by, fired_of, frozen_for, penalty_at, with_spent_break, held_insertions}
use Rattle.tb_builder.proofs.FiredPages.PageWeights.{AllOfClass, LabelsOfClass, labelled-class}
use Rattle.tb_builder.proofs.Cutting.CutLemmas.{acted_of, CutAt, reach-cut, cut-class, class-pruned, held-ins}
use Rattle.tb_laws.proofs.Closed.BareFeet.{placed-class}
use Rattle.tb_laws.proofs.PageBreaks.FittingFired.{Topmost, AllTopmost, Fitted, FiresAt, fitted-fires, flat_box, break_at}
use Rattle.tb_laws.proofs.PageBreaks.PausedPages.{Paused, paused-ordinary}
use Rattle.tb_steps.proofs.LedLemmas.{led-actless}
use Rattle.tb_column.specs.Column.{standing_notes}
use Rattle.tb_output.specs.State.{State, ask_of, notes_in, footnotes, has_floats}
use Rattle.tb_steps.specs.Run.{led_through, led, ask_for}
use Rattle.tb_output.specs.Text
use Rattle.tb_output.specs.Clear
use Rattle.tb_output.specs.Output
use Rattle.tb_sheet.specs.Asked
use Rattle.tb_laws.proofs.NothingLost.StateWeights.{BoxesFit, class_numbers}
use Rattle.tb_laws.proofs.Closed.Sorts.{Sort, odd, pen_sort, sorts, sorts-calm, none, seen_all}
use Rattle.tb_laws.proofs.Closed.SortLemmas.{sorts-append, take-drop, BreakStands, PageStands, cut-stands, pruned-stands}
use Rattle.tb_laws.proofs.Closed.PlaceLemmas.{body-steady}
use Rattle.tb_laws.proofs.DeadCycles.AgainLemmas.{Again, BreakAgain, again-pruned, again-behind, no-acts, acts-again, break-again}
use Rattle.tb_laws.proofs.DeadCycles.WaitCosts.{AllInserted, all-inserted, sort_cost, wait_cost, acts_cost, cost-append, steady-free, page-cost}
use Rattle.tb_laws.proofs.DeadCycles.EndedLemmas.{Ended, flat_last, ended-pruned, ended-acts, ended-behind, ended-spent}
use Rattle.tb_laws.proofs.DeadCycles.SpacedLemmas.{Spaced, spaced-pruned, spaced-acts, spaced-behind, spaced-spent, spaced-clear}
use Rattle.tb_laws.proofs.Closed.ClearPages.{OneFlat, one-flat, clear-ended, FrontFits, front-fits}
use Rattle.tb_laws.proofs.DeadCycles.CycleStates.{Kind, any, once, ready, halted, closed, Holds, Phase, starting, second, ending, PhaseHolds}
use Rattle.tb_laws.proofs.DeadCycles.CycleBreaks.{clear-sort, FiresWell}
use Rattle.tb_laws.proofs.NothingLost.RunWeights.{Kept, page_of}
use Rattle.tb_laws.proofs.NothingLost.LastLabels.{LabelsLast, GivesLast, void-last, clear-last, from-given}
use Rattle.tb_laws.proofs.DeadCycles.RaiseCounts.{box_raises}
use Rattle.tb_laws.proofs.DeadCycles.RaisePages.{none-given}

take-free : (k : ℕ) (ns : List PlainNode) → wait_cost ns ≡ 0 → wait_cost (take k ns) ≡ 0
take-free zero ns h = refl
take-free (suc k) [] h = refl
take-free (suc k) (n ∷ ns) h =
    let r : wait_cost (take k ns) ≡ 0 = take-free k ns (omega arith) in
    omega arith

-- no act comes before a page that fits
fitted-led : (q : ℤ) (tail ns : List PlainNode) (s : State) → Fitted q tail ns → led_through ns s ≡ s
fitted-led q tail ns s h = ap (λ xs. led_through xs s) (h.whole ∙ append_assoc h.top (flat_box h.box_line h.what ∷ h.behind) (break_at h.line q ∷ tail)) ∙ topmost-led h.top h.vanish
  where
    by_kind : (l : ℕ) (k : PlainKind) (xs ys : List PlainNode) → led_through (xs ++ ys) s ≡ s → Topmost k → led_through (record { line = l; kind = k } ∷ xs ++ ys) s ≡ s
    by_kind l (plain (hbox a b d)) xs ys e t = refl
    by_kind l (plain (rule a b d)) xs ys e t = refl
    by_kind l (plain (skip a)) xs ys e t = e
    by_kind l (plain (kerned a)) xs ys e t = e
    by_kind l (plain (pen a)) xs ys e t = e
    by_kind l (plain (mark a)) xs ys e t = e
    by_kind l (plain (note a)) xs ys e t = e
    by_kind l (plain whatsit) xs ys e t = e
    by_kind l (ins i) xs ys e t = refl
    by_kind l (act a) xs ys e t = absurd t

    topmost-led : (top : List PlainNode) → AllTopmost top → led_through (top ++ (flat_box h.box_line h.what ∷ h.behind ++ break_at h.line q ∷ tail)) s ≡ s
    topmost-led [] v = refl
    topmost-led (n ∷ ns) v = by_kind n.line n.kind ns (flat_box h.box_line h.what ∷ h.behind ++ break_at h.line q ∷ tail) (topmost-led ns v.1) v.0

is-special : (q : ℤ) → Output.is_int q Asked.clear_penalty ≡ true → int_le eject_penalty q ≡ false
is-special q h = grind (arith, ints, h)

module _ (s : State) (kept : Kept s) (ended : Ended false s.waiting) where
  abbrev pub w : Reach
  w = page_of s

  -- the top skip of the page, which is made for what is asked after the acts before its first box
  abbrev pub skip_asked : ℤ
  skip_asked = (ask_for s).top_skip

  abbrev pub k : ℕ
  k = (page_break (page_of s)).place

  pub cut : CutAt [] (pruned_nodes skip_asked s.waiting) w
  cut = reach-cut (ask_for s).max_depth (terms_after (frozen_for (ask_for s) s.classes s.boxes)) [] (pruned_nodes skip_asked s.waiting)

  feet : AllOfClass (class_numbers s.classes) (take k w.passed) × AllOfClass (class_numbers s.classes) (with_spent_break (drop k w.passed ++ w.beyond))
  feet = cut-class (class_numbers s.classes) k (pruned_nodes skip_asked s.waiting) w cut (class-pruned (class_numbers s.classes) skip_asked s.waiting (placed-class (class_numbers s.classes) s.waiting kept.placed.feet))

  stands : PageStands kept.placed.held k w
  stands = cut-stands (pruned_nodes skip_asked s.waiting) w kept.placed.held k cut (pruned-stands skip_asked s.waiting kept.placed.held kept.placed.stands)

  -- what was passed and lies beyond, as it was laid out but for acts
  laid-ended : Ended false (take k w.passed ++ (drop k w.passed ++ w.beyond))
  laid-ended = subst (Ended false) (ap (λ ns. ns ++ w.beyond) (sym cut.passed) ∙ take-drop k w.passed w.beyond) (ended-acts false cut.front w.beyond (subst (Ended false) cut.whole (ended-pruned skip_asked s.waiting ended)))

  pub rest-ended : Ended false (with_spent_break (drop k w.passed ++ w.beyond))
  rest-ended = ended-spent (flat_last false (take k w.passed)) (drop k w.passed ++ w.beyond) (ended-behind false (take k w.passed) (drop k w.passed ++ w.beyond) laid-ended)

  -- how the clears behind the page are spaced
  laid-spaced : (b : Bool) → Spaced b s.waiting → Spaced b (take k w.passed ++ (drop k w.passed ++ w.beyond))
  laid-spaced b h =
      let x = cut in
      subst (Spaced b) (ap (λ ns. ns ++ w.beyond) (sym x.passed) ∙ take-drop k w.passed w.beyond)
      (spaced-acts b x.front w.beyond (subst (Spaced b) x.whole (spaced-pruned skip_asked b s.waiting h)))

  pub rest-spaced : Spaced true s.waiting → Spaced true (with_spent_break (drop k w.passed ++ w.beyond))
  rest-spaced h = spaced-spent true (drop k w.passed ++ w.beyond) (spaced-behind true (take k w.passed) (drop k w.passed ++ w.beyond) (laid-spaced true h))

  pub behind-spaced : Spaced true s.waiting → Output.is_int (penalty_at (drop k w.passed ++ w.beyond)) Asked.clear_penalty ≡ true → Spaced false (with_spent_break (drop k w.passed ++ w.beyond))
  behind-spaced h c = spaced-clear true (drop k w.passed ++ w.beyond) c (spaced-behind true (take k w.passed) (drop k w.passed ++ w.beyond) (laid-spaced true h))

  laid-again : (n : ℕ) → Again n (sorts s.waiting) → Again n (sorts cut.front ++ sorts w.beyond)
  laid-again n a = subst (Again n) (ap sorts cut.whole ∙ sorts-append cut.front w.beyond) (again-pruned n skip_asked s.waiting kept.placed.held kept.placed.stands a)

  pub rest-again : (n : ℕ) → Again n (sorts s.waiting) → BreakAgain n (with_spent_break (drop k w.passed ++ w.beyond)) (pen_sort (penalty_at (drop k w.passed ++ w.beyond)))
  rest-again n a =
      break-again n (drop k w.passed ++ w.beyond)
      (again-behind n (sorts (take k w.passed)) (sorts (drop k w.passed ++ w.beyond)) (sorts-calm (take k w.passed) stands.calm)
      (subst (Again n) (sorts-append (take k w.passed) (drop k w.passed ++ w.beyond))
      (subst (λ (ns : List PlainNode). Again n (sorts ns)) (ap (λ ns. ns ++ w.beyond) (sym cut.passed) ∙ take-drop k w.passed w.beyond)
      (subst (Again n) (sym (sorts-append (without_acts cut.front) w.beyond)) (acts-again n cut.front (sorts w.beyond) (laid-again n a))))))

  -- while clears of the routine are to come, no act is reached
  pub none-reached : (n : ℕ) → Again (suc n) (sorts s.waiting) → acted_of w.reached ≡ []
  none-reached n a = cut.acts ∙ no-acts n cut.front (sorts w.beyond) cut.calm (laid-again (suc n) a)

  pub reached-cost : wait_cost (with_spent_break (drop k w.passed ++ w.beyond)) + sort_cost (pen_sort (penalty_at (drop k w.passed ++ w.beyond))) + acts_cost (acted_of w.reached) ≤ wait_cost s.waiting
  reached-cost = page-cost skip_asked s.waiting w k cut

  pub paused-ends : Paused s.waiting → int_le eject_penalty (penalty_at (drop k w.passed ++ w.beyond)) ≡ true
  paused-ends h = paused-ordinary skip_asked s.waiting w k h cut

  phase-ends : (x : Phase) → PhaseHolds s x → x ≡ ending → int_le eject_penalty (penalty_at (drop k w.passed ++ w.beyond)) ≡ true
  phase-ends starting h e = cc
  phase-ends second h e = cc
  phase-ends ending h e = paused-ends h.1

  pub limit-deep : led s ≡ s → pos 0 ≤ℤ s.params.maxdepth → pos 0 ≤ℤ (ask_for s).max_depth
  limit-deep e deep = subst (λ (t : State). pos 0 ≤ℤ (ask_of t.params t).max_depth) (sym e) (by_bottom (has_floats s.floats.bottom))
    where
      by_bottom : (b : Bool) → pos 0 ≤ℤ (if b then pos 0 else s.params.maxdepth)
      by_bottom true = grind (arith, ints)
      by_bottom false = deep

  -- if no act is reached, the page is made for what is asked now
  pub same-led : acted_of w.reached ≡ [] → led s ≡ s
  same-led quiet = led-actless (ask_for s).max_depth (terms_after (frozen_for (ask_for s) s.classes s.boxes)) skip_asked [] s.waiting s quiet

  -- ---- the page that fires, in a state with the same boxes and held page

  module _ (t : State) (same_classes : t.classes ≡ s.classes) (same_boxes : t.boxes ≡ s.boxes) (same_held : t.held_page ≡ s.held_page) (z : Frozen) where
    abbrev pub page : Fired
    page = fired_by (labelled z (take k w.passed)) t.boxes w

    fit : BoxesFit t.classes t.boxes
    fit = subst (λ cs. BoxesFit cs t.boxes) (sym same_classes) (subst (BoxesFit s.classes) (sym same_boxes) kept.sound.box)

    held : AllInserted page.held
    held = all-inserted (class_numbers s.classes) page.held (held-ins (class_numbers s.classes) (labelled z (take k w.passed)) (labelled-class (class_numbers s.classes) z [] [] (take k w.passed) tt feet.0))

    regular : pen_sort page.penalty ≡ odd → ⊥
    regular e = subst (λ (x : Sort). BreakStands kept.placed.held (seen_all none (sorts (take k w.passed))) (with_spent_break (drop k w.passed ++ w.beyond)) x) e stands.rest

    body : wait_cost (t.held_page ++ Text.without_firing_box page.body) ≡ 0
    body =
        let a : wait_cost (t.held_page ++ Text.without_firing_box page.body) ≡ wait_cost t.held_page + wait_cost (Text.without_firing_box page.body) = cost-append t.held_page (Text.without_firing_box page.body) in
        let b : wait_cost t.held_page ≡ 0 = ap wait_cost same_held ∙ steady-free s.held_page kept.placed.steady in
        let c : wait_cost (Text.without_firing_box page.body) ≡ 0 = take-free (length page.body - 2) page.body (steady-free page.body (body-steady (take k w.passed) stands.calm stands.free)) in
        sums (wait_cost (t.held_page ++ Text.without_firing_box page.body)) (wait_cost t.held_page) (wait_cost (Text.without_firing_box page.body)) a b c
      where
        sums : (x y v : ℕ) → x ≡ y + v → y ≡ 0 → v ≡ 0 → x ≡ 0
        sums x y v a b c = omega arith

    -- a clear without footnotes has no insertions on its page unless they raise it, and its front is light
    pub none-there : standing_notes (footnotes (record t { boxes = page.boxes })) ≡ [] → box_raises page.boxes ≡ 0 → labelled z (take k w.passed) ≡ []
    none-there h free =
        let ks = class_numbers s.classes in
        let ls = labelled z (take k w.passed) in
        let among : LabelsOfClass ks ls = labelled-class ks z [] [] (take k w.passed) tt feet.0 in
        let last : LabelsLast ls = clear-last ks z (take k w.passed) among (subst (λ cs. GivesLast (class_numbers cs) ls) same_classes (void-last ls t.classes t.boxes fit h)) in
        none-given t.classes t.boxes fit ls ls (subst (λ cs. LabelsOfClass (class_numbers cs) ls) (sym same_classes) among) last (from-given z [] [] (take k w.passed) tt) free

    pub flat : Output.is_int page.penalty Asked.clear_penalty ≡ true → OneFlat page.body
    flat h =
        let r = subst (λ (x : Sort). BreakStands kept.placed.held (seen_all none (sorts (take k w.passed))) (with_spent_break (drop k w.passed ++ w.beyond)) x) (clear-sort page.penalty (is-special page.penalty h) h) stands.rest in
        one-flat (take k w.passed) stands.calm stands.free r.0 (clear-ended (flat_last false (take k w.passed)) (drop k w.passed ++ w.beyond) h (ended-behind false (take k w.passed) (drop k w.passed ++ w.beyond) laid-ended))

    front : Output.is_int page.penalty Asked.clear_penalty ≡ true → FrontFits (Clear.cleared_front t.params page.body)
    front h = front-fits t.params page.body (flat h)

    -- if no more is known of the state than its phase
    pub any-well : (a : ℕ) (kind : Kind) (phase : Phase) → (kind ≡ halted → ⊥) → (kind ≡ once → ⊥) → (kind ≡ ready → ⊥) → (phase ≡ ending → int_le eject_penalty page.penalty ≡ true) → Again a (sorts s.waiting) → FiresWell t.params t (wait_cost page.rest + sort_cost (pen_sort page.penalty)) a kind phase page
    any-well a kind phase not_halted not_once not_ready ends r = record {
      region = rest-again a r;
      cost = omega arith;
      held = held;
      regular = regular;
      body = body;
      ending = ends;
      halted = λ i. absurd (not_halted i);
      once = λ i. absurd (not_once i);
      ready = λ i. absurd (not_ready i);
      blank = λ h i. let x = front h in ((λ n. ap held_insertions (none-there i n)), x.fits, x.idle, x.cost);
    }

    -- if no clear of the routine is to come
    pub closed-well : (a : ℕ) (phase : Phase) → a ≡ 0 → (phase ≡ ending → ⊥) → Again a (sorts s.waiting) → FiresWell t.params t (wait_cost page.rest + sort_cost (pen_sort page.penalty)) a closed phase page
    closed-well a phase e going r = any-well a closed phase (λ i. cc) (λ i. cc) (λ i. cc) (λ i. absurd (going i)) r

    -- if nothing else is known
    pub phase-well : (a : ℕ) (phase : Phase) → PhaseHolds s phase → Again a (sorts s.waiting) → FiresWell t.params t (wait_cost page.rest + sort_cost (pen_sort page.penalty)) a any phase page
    phase-well a phase at r = any-well a any phase (λ i. cc) (λ i. cc) (λ i. cc) (phase-ends phase at) r

  -- ---- while clears of the routine are to come, the state is the same

  module _ (low : pos 0 ≤ℤ s.params.topskip) (room : s.params.topskip ≤ℤ s.params.textheight) (deep : pos 0 ≤ℤ s.params.maxdepth) where
    abbrev fired : Fired
    fired = fired_of (ask_for s) s.classes s.boxes w

    fits : (q : ℤ) (tail : List PlainNode) → int_le q eject_penalty ≡ true → s.goal ≡ s.params.textheight → Fitted q tail s.waiting → FiresAt q tail s.boxes w fired
    fits q tail f g h =
        let e : led s ≡ s = fitted-led q tail s.waiting s h in
        fitted-fires (ask_for s).goal (ask_for s).max_depth skip_asked q _ (limit-deep e deep) f (subst (λ (t : State). pos 0 ≤ℤ t.params.topskip) (sym e) low) (subst (λ (t : State). t.params.topskip ≤ℤ t.goal) (sym e) (subst (λ (x : ℤ). s.params.topskip ≤ℤ x) (sym g) room)) s.waiting tail h s.boxes

    -- behind a blank column the clear's page fits
    behind-blank : (line : ℕ) (rest : List PlainNode) → Fitted Asked.clear_penalty rest (break_at line inf_penalty ∷ made whatsit ∷ made blank_box ∷ made (pen Asked.clear_penalty) ∷ rest)
    behind-blank line rest = record { top = break_at line inf_penalty ∷ made whatsit ∷ []; box_line = 0; what = what.Blank; behind = []; line = 0; whole = refl; vanish = (tt, (tt, tt)); slim = tt; flat = refl }

    known-once : Holds s.params s 0 once → (int_le eject_penalty fired.penalty ≡ true) × (fired.held ≡ []) × ((rest : List PlainNode) × Fitted Asked.clear_penalty rest fired.rest)
    known-once i =
        let x = fits eject_penalty (made whatsit ∷ made blank_box ∷ made (pen Asked.clear_penalty) ∷ i.2.rest) refl i.2.goal i.2.fit in
        (paused-ends i.1, x.held, (i.2.rest, subst (Fitted Asked.clear_penalty i.2.rest) (sym x.rest) (behind-blank x.line i.2.rest)))

    known-ready : Holds s.params s 0 ready → (Output.is_int fired.penalty Asked.clear_penalty ≡ true) × (standing_notes (footnotes (record s { boxes = fired.boxes })) ≡ [])
    known-ready i =
        let x = fits Asked.clear_penalty i.1.rest refl i.1.goal i.1.fit in
        (ap (λ q. Output.is_int q Asked.clear_penalty) x.penalty, ap (λ bs. standing_notes (notes_in s.classes bs)) x.boxes ∙ ap (λ ns. standing_notes ns) i.1.void)

    pub open-well : (a : ℕ) (kind : Kind) (phase : Phase) → Again a (sorts s.waiting) → Holds s.params s a kind → PhaseHolds s phase → FiresWell s.params s (wait_cost fired.rest + sort_cost (pen_sort fired.penalty)) a kind phase fired
    open-well a kind phase r holds at = record {
      region = rest-again a r;
      cost = omega arith;
      held = held s refl refl refl z;
      regular = regular s refl refl refl z;
      body = body s refl refl refl z;
      ending = phase-ends phase at;
      halted = by_halted kind holds;
      once = by_once kind holds;
      ready = by_ready kind holds;
      blank = λ h i. let x = front s refl refl refl z h in ((λ n. ap held_insertions (none-there s refl refl refl z i n)), x.fits, x.idle, x.cost);
    }
      where
        z : Frozen
        z = frozen_for (ask_for s) s.classes s.boxes

        by_halted : (x : Kind) → Holds s.params s a x → x ≡ halted → int_le eject_penalty fired.penalty ≡ true
        by_halted halted h e = paused-ends h.1
        by_halted x h e = cc

        by_once : (x : Kind) → Holds s.params s a x → x ≡ once → (int_le eject_penalty fired.penalty ≡ true) × (fired.held ≡ []) × ((rest : List PlainNode) × Fitted Asked.clear_penalty rest fired.rest)
        by_once once h e = known-once h
        by_once x h e = cc

        by_ready : (x : Kind) → Holds s.params s a x → x ≡ ready → (Output.is_int fired.penalty Asked.clear_penalty ≡ true) × (standing_notes (footnotes (record s { boxes = fired.boxes })) ≡ [])
        by_ready ready h e = known-ready h
        by_ready x h e = cc
