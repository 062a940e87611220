-- Along the run of a valid galley each float is in one place at most: at its start, between its firings, and where a firing begins.
use Rattle.std.proofs.Common.{[], ◌≡◌, sym, ◌∙◌, ap, subst, ℕ, ◌+◌, ◌≤◌, List, take, None, arith}
use Rattle.tb_scaled.specs.Scaled.{awful_bad}
use Rattle.tb_node.specs.PlainNodes.{PlainNode}
use Rattle.tb_node.proofs.Weights.{Weight, nodes_weight}
use Rattle.tb_galley.specs.declared.Galley.{Galley}
use Rattle.tb_galley.specs.Valid.{IsValid}
use Rattle.tb_galley.specs.GalleyNodes.{expanded}
use Rattle.tb_insert.specs.Account.{labelled}
use Rattle.tb_builder.specs.FiredPages.{Fired, page_break, fired_of, frozen_for}
use Rattle.tb_builder.proofs.FiredPages.PageWeights.{AllOfClass, acted_weight, boxes_weight, numbers, fired_weight, fired-weight}
use Rattle.tb_output.specs.State.{State, begun, first_state}
use Rattle.tb_output.specs.Output.{after_page}
use Rattle.tb_output.proofs.StepLaws.Moves.{of_text}
use Rattle.tb_items.specs.Classes.{classes_of}
use Rattle.tb_items.specs.RunEvents.{RunEvent}
use Rattle.tb_output.specs.State.{Recorded}
use Rattle.tb_steps.specs.Run.{Progress, progress, goes_on, step, ask_for}
use Rattle.tb_laws.proofs.Closed.BareFeet.{BoxesBare, labelled-bare, boxes-bare}
use Rattle.tb_laws.proofs.NothingLost.StateWeights.{state_weight, lists_weight, left_weight, class_numbers, BoxesFit}
use Rattle.tb_laws.proofs.NothingLost.RunWeights.{Kept, StepWeighs, After, Progressed, page_of, cut_feet, cut_bare, reached, step-weighs, progress-adds, box-fired, fit-numbers, events_weight}
use Rattle.tb_laws.proofs.NothingLost.ClosingRuns.{StepCloses, changes-fit, step-closes}
use Rattle.tb_laws.proofs.NothingLost.StartLemmas.{start-kept}
use Rattle.tb_laws.proofs.NothingLost.ClosingStarts.{start-closing}
use Rattle.tb_laws.proofs.NothingLost.ClassLemmas.{valid-differ, valid-fit}
use Rattle.tb_laws.proofs.Closed.ClosingStates.{Closing}
use Rattle.tb_why_laws.proofs.OnePlace.OnceStarts.{start-times}
use Rattle.tb_why_laws.proofs.OnePlace.Once.{of_line, Once}

-- between two firings: what runs keep, and each float is in one place at most
pub record Running (s : State) : Type 0 where
  pub kept : Kept s
  pub closing : Closing s
  pub times : (n : ℕ) → state_weight (of_line n) s ≤ 1

-- ---- a step

module _ (s : State) (o : Running s) where
  -- a step after which the run goes on keeps it
  pub goes : (es : List RunEvent) (rs : List Recorded) (t : State) → step s ≡ goes_on es rs t → Running t
  goes es rs t e = record {
    kept = (weighs (of_line 0)).0;
    closing = (subst (StepCloses s) e (step-closes s o.kept o.closing)).1;
    times = λ n. less (events_weight (of_line n) es) (state_weight (of_line n) t) (state_weight (of_line n) s) (weighs (of_line n)).1 (o.times n);
  }
    where
      weighs : (v : Weight) → StepWeighs v s (goes_on es rs t)
      weighs v = subst (StepWeighs v s) e (step-weighs v s o.kept (changes-fit s o.kept o.closing v))

      less : (a b c : ℕ) → a + b ≡ c → c ≤ 1 → b ≤ 1
      less a b c d e = omega arith

  -- what is reached of the page
  abbrev pub now : Progress
  now = progress (page_of s).reached awful_bad s

  pub progressed : (v : Weight) → Progressed v (acted_weight v (page_of s).reached) s now
  progressed v = progress-adds v (page_of s).reached awful_bad s o.kept.ranges o.kept.sound (changes-fit s o.kept o.closing v)

  -- the firing of the page
  abbrev pub fires : Fired
  fires = fired_of (ask_for s) now.state.classes now.state.boxes (page_of s)

  module _ (e : now.fault ≡ None) where
    after : (v : Weight) → After v (acted_weight v (page_of s).reached) s now.state
    after v = (progressed v).after e

    -- the page up to its break
    abbrev pub before : List PlainNode
    before = take (page_break (page_of s)).place (page_of s).passed

    fit : BoxesFit now.state.classes now.state.boxes
    fit = (after (of_line 0)).sound.box

    whole : AllOfClass (numbers now.state.boxes) before
    whole = subst (λ ms. AllOfClass ms before) (sym (ap class_numbers (after (of_line 0)).classes) ∙ fit-numbers now.state.classes now.state.boxes fit) (cut_feet (of_line 0) s o.kept).0

    -- each float is in one place at most of the page that fires and of what is left when it does
    pub fired-times : (n : ℕ) → fired_weight (of_line n) fires + (nodes_weight (of_line n) now.state.held_page + lists_weight (of_line n) now.state.floats + left_weight (of_line n) now.state.left_column) ≤ 1
    fired-times n =
        let v = of_line n in
        let w = page_of s in
        let b = after v in
        let i : fired_weight v fires ≡ boxes_weight v now.state.boxes + (nodes_weight v w.passed + nodes_weight v w.beyond) = fired-weight v (frozen_for (ask_for s) now.state.classes now.state.boxes) now.state.boxes w whole in
        let k : lists_weight v now.state.floats + left_weight v now.state.left_column ≡ lists_weight v s.floats + left_weight v s.left_column + acted_weight v w.reached = b.weight in
        let j : nodes_weight v w.passed + acted_weight v w.reached + nodes_weight v w.beyond ≡ nodes_weight v s.waiting = reached v s o.kept in
        let l : boxes_weight v now.state.boxes ≡ boxes_weight v s.boxes = ap (boxes_weight v) b.boxes in
        let m : nodes_weight v now.state.held_page ≡ nodes_weight v s.held_page = ap (nodes_weight v) b.held in
        sums (fired_weight v fires) (nodes_weight v now.state.held_page) (lists_weight v now.state.floats) (left_weight v now.state.left_column) (boxes_weight v now.state.boxes) (nodes_weight v w.passed) (nodes_weight v w.beyond) (acted_weight v w.reached) (nodes_weight v s.waiting) (boxes_weight v s.boxes) (nodes_weight v s.held_page) (lists_weight v s.floats) (left_weight v s.left_column) i k j l m (o.times n)
      where
        sums : (F Ht Lt Ct Bt P Y A W Bs Hs Ls Cs : ℕ) → F ≡ Bt + (P + Y) → Lt + Ct ≡ Ls + Cs + A → P + A + Y ≡ W → Bt ≡ Bs → Ht ≡ Hs → W + Bs + Hs + Ls + Cs ≤ 1 → F + (Ht + Lt + Ct) ≤ 1
        sums F Ht Lt Ct Bt P Y A W Bs Hs Ls Cs i k j l m x = omega arith

    -- what makes a page higher holds nothing that weighs
    boxed : BoxesBare fires.boxes
    boxed =
        let z = frozen_for (ask_for s) now.state.classes now.state.boxes in
        boxes-bare (labelled z before) now.state.boxes (labelled-bare z [] [] before tt (cut_bare (of_line 0) s o.kept).0) (after (of_line 0)).sound.bare

    -- where the firing begins, with the page in hand
    pub fires-once : Once (of_text fires.body) (begun (after_page now.state fires))
    fires-once r = (record { box = box-fired (labelled (frozen_for (ask_for s) now.state.classes now.state.boxes) before) now.state.classes now.state.boxes fit; bare = boxed; columns = (after (of_line 0)).sound.columns; entries = (after (of_line 0)).sound.entries }, λ n. all n)
      where
        sums : (F B H R Ht Lt Ct : ℕ) → B + F + H + R + (Ht + Lt + Ct) ≤ 1 → B + (0 + F + Ht + Lt + Ct + 0 + 0) ≤ 1
        sums F B H R Ht Lt Ct x = omega arith

        all : (n : ℕ) → nodes_weight (of_line n) fires.body + (state_weight (of_line n) (after_page now.state fires) + 0 + 0) ≤ 1
        all n =
            let v = of_line n in
            sums (boxes_weight v fires.boxes) (nodes_weight v fires.body) (nodes_weight v fires.held) (nodes_weight v fires.rest) (nodes_weight v now.state.held_page) (lists_weight v now.state.floats) (left_weight v now.state.left_column) (fired-times n)

-- ---- the start

-- a run of a valid galley begins so
pub starts : (g : Galley) → IsValid g → Running (first_state g.params (classes_of g) (expanded g))
starts g v = record { kept = start-kept g v.params (valid-differ g v) (valid-fit g v); closing = start-closing g v.order (valid-fit g v); times = start-times g v }
