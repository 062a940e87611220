-- The page that is filled fits, and so does the page that fires.
use Rattle.std.proofs.Common.{◌≡◌, refl, sym, subst, ap, ℕ, ◌+◌, ◌≤◌, pos, ◌≤ℤ◌, Bool, true, false, List, [], ◌∷◌, ◌++◌, map, take, drop, Some, arith}
use Rattle.std.specs.Prelude.{ℤ, All, None, if◌then◌else◌}
use Rattle.std.specs.List.{AllByRecursion}
use Rattle.std.proofs.lemmas.Int.{ints}
use Rattle.std.proofs.lemmas.List.{length-map}
use Rattle.std.proofs.lemmas.List.Elements.{All-nil, All-from_recursion, recursion_from_All}
use Rattle.tb_break.proofs.EachLemmas.{all-join, all-front, all-back, all-take, all-drop}
use Rattle.tb_node.specs.Fit.{IsExtent}
use Rattle.tb_node.specs.PlainNodes.{hbox, rule, skip, kerned, pen, PlainKind, plain, ins, act, PlainNode}
use Rattle.tb_insert.specs.declared.Class.{Class}
use Rattle.tb_insert.specs.Account.{ClassBox, Labelled, labelled}
use Rattle.tb_builder.specs.declared.Ask.{Ask}
use Rattle.tb_break.specs.PageTop.{pruned_nodes}
use Rattle.tb_builder.specs.Reach.{Reached, Reach, holds_box}
use Rattle.tb_builder.specs.FiredPages.{Boxed, Fired, page_break, content_of, given_to, box_after, is_given, frozen_for, fired_of}
use Rattle.tb_builder.specs.Contents.{Contents, frozen_of, frozen_or, laid, node_count, box_count}
use Rattle.tb_builder.specs.SizedContents.{IsSizedAsk, fired_count, AreBoxesOf}
use Rattle.tb_builder.specs.PageEvents.{BoxesFit, NextFits}
use Rattle.tb_builder.specs.PageProgress.{page_fired}
use Rattle.tb_builder.specs.Pageable.{IsSizedOnPage, IsGoal}
use Rattle.tb_builder.specs.LegalPlaces.{NoActs}
use Rattle.tb_builder.proofs.LegalPlaces.ChargeLemmas.{few_classes}
use Rattle.tb_builder.proofs.Ranges.PageableLemmas.{IsSizedFrozen, laid_fits, class_boxes_sized, class_boxes_total, glue_sized, count-append}
use Rattle.tb_builder.proofs.Ranges.SizedLemmas.{FiredSized}
use Rattle.tb_builder.proofs.Events.WholeLemmas.{between-fits, fired_of-sized, fired_of-fewer}
use Rattle.tb_builder.proofs.Turns.TurnLemmas.{start-frozen}
use Rattle.tb_output.specs.State.{State, ask_of, has_floats}
use Rattle.tb_sheet.specs.Asked.{hold_penalty}
use Rattle.tb_items.specs.GalleyNodes.{IsServable, IsGalleyNode}
use Rattle.tb_steps.specs.Run.{held_count, ask_for}
use Rattle.tb_steps.specs.Runnable.{AreRunnable, AreRunClasses}
use Rattle.tb_run.specs.ServedStates.{notes_waiting, notes_left, IsTextKind, IsServed, IsServedPage}
use Rattle.tb_run.specs.Routine.{between_pages}
use Rattle.tb_run.proofs.ServedAgain.FiredNodes.{no_acts-take, text-body, served-spent, mild-break, known-labels, held-known, nodes-both, nodes-sized, nodes-served, notes-append, notes-drop, notes-spent, notes-held}
use Rattle.tb_run.proofs.ServedAgain.ServedFirings.{reach_where, within-more}
use Rattle.tb_run.proofs.Filling.ComingLemmas.{IsComing, start, fired-is}

extent-zero : IsExtent (pos 0)
extent-zero = record { low = omega (arith, ints); high = omega (arith, ints) }

-- each class keeps its box
boxes-after : (ls : List Labelled) (cs : List Class) (bs : List Boxed) → AreBoxesOf cs bs → AreBoxesOf cs (map (box_after ls) bs)
boxes-after ls [] [] h = tt
boxes-after ls [] (b ∷ bs) h = absurd h
boxes-after ls (c ∷ cs) [] h = absurd h
boxes-after ls (c ∷ cs) (b ∷ bs) h = (by_test (is_given b.number ls), boxes-after ls cs bs h.1)
  where
    by_test : (t : Bool) → (if t then record b { content = Some (content_of b.content ++ given_to b.number ls) } else b).number ≡ c.number
    by_test true = h.0
    by_test false = h.0

-- what is asked in a state whose parameters and goal are in their ranges
pub sized-asked : (t : State) → AreRunnable t.params → IsGoal t.goal → IsSizedAsk (ask_of t.params t)
sized-asked t runs goal =
    let skip = runs.output.columns.skipfootins in
    record { goal = goal; depth = by_test (has_floats t.floats.bottom); top_skip = runs.topskip; foot_skip = (skip.width, skip.stretch, skip.shrink) }
  where
    by_test : (b : Bool) → IsExtent (if b then pos 0 else t.params.maxdepth)
    by_test true = extent-zero
    by_test false = runs.output.columns.maxdepth

-- ---- with another top skip

-- nodes that are pruned for one top skip are sized if they are so for another
other-sized : (t u : ℤ) (ns : List PlainNode) → IsExtent u → AllByRecursion IsSizedOnPage (pruned_nodes t ns) → AllByRecursion IsSizedOnPage (pruned_nodes u ns)
other-sized t u [] e h = tt
other-sized t u (n ∷ ns) e h = by_kind n.line n.kind h (other-sized t u ns e)
  where
    by_kind : (l : ℕ) (k : PlainKind) → AllByRecursion IsSizedOnPage (pruned_nodes t (record { line = l; kind = k } ∷ ns)) → (AllByRecursion IsSizedOnPage (pruned_nodes t ns) → AllByRecursion IsSizedOnPage (pruned_nodes u ns))
        → AllByRecursion IsSizedOnPage (pruned_nodes u (record { line = l; kind = k } ∷ ns))
    by_kind l (plain (hbox w a d)) h later = (record { shape = glue_sized u a e h.1.0.shape.0; kind = tt }, h.1)
    by_kind l (plain (rule w a d)) h later = (record { shape = glue_sized u a e h.1.0.shape.0; kind = tt }, h.1)
    by_kind l (plain (skip g)) h later = later h
    by_kind l (plain (kerned w)) h later = later h
    by_kind l (plain (pen q)) h later = later h
    by_kind l (plain m) h later = (h.0, later h.1)
    by_kind l (ins i) h later = (h.0, later h.1)
    by_kind l (act a) h later = (h.0, later h.1)

-- and they are as many
other-count : (t u : ℤ) (ns : List PlainNode) → node_count (pruned_nodes u ns) ≡ node_count (pruned_nodes t ns)
other-count t u [] = refl
other-count t u (n ∷ ns) = by_kind n.line n.kind (other-count t u ns)
  where
    by_kind : (l : ℕ) (k : PlainKind) → node_count (pruned_nodes u ns) ≡ node_count (pruned_nodes t ns) → node_count (pruned_nodes u (record { line = l; kind = k } ∷ ns)) ≡ node_count (pruned_nodes t (record { line = l; kind = k } ∷ ns))
    by_kind l (plain (hbox w a d)) h = refl
    by_kind l (plain (rule w a d)) h = refl
    by_kind l (plain (skip g)) h = h
    by_kind l (plain (kerned w)) h = h
    by_kind l (plain (pen q)) h = h
    by_kind l (plain m) h = omega (arith, h)
    by_kind l (ins i) h = omega (arith, h)
    by_kind l (act a) h = omega (arith, h)

-- ---- all that is added up fits

module _ (s : State) (classes : AreRunClasses s.classes) (served : IsServed s.waiting s) (few : held_count s ≤ 4194304) where
  module _ (ask : Ask) (sized : IsSizedAsk ask) where
    begins : NextFits (between_pages s) ask
    begins = between-fits s.classes s.boxes s.waiting classes.sized classes.fit served.boxes (nodes-sized s.classes s.waiting served.nodes) ask sized (omega (arith, few))

    frozen-sized : IsSizedFrozen (frozen_for ask s.classes s.boxes)
    frozen-sized = record {
      goal = sized.goal;
      limit = sized.depth;
      classes = class_boxes_sized ask s.classes s.boxes sized.foot_skip classes.sized served.boxes (omega (arith, few));
      few = let a = few_classes s.classes classes.fit in let b = length-map {B = ClassBox} s.classes in omega (arith, a, b);
      total = class_boxes_total ask s.classes s.boxes classes.fit served.boxes (omega (arith, few));
    }

  module _ (rs : List Reached) (c : Contents) (t : State) (h : IsComing s rs c t) where
    nodes-made : All IsSizedOnPage (laid c (ask_for s))
    nodes-made = nodes-sized s.classes (laid c (ask_for s)) (subst (λ cs. All (IsGalleyNode cs) (laid c (ask_for s))) h.keeps.classes h.served.nodes)

    fits-with : (ask : Ask) → IsSizedAsk ask → IsSizedFrozen (frozen_of c ask) → All IsSizedOnPage (laid c ask) → node_count (laid c ask) ≤ node_count s.waiting + 1 → NextFits c ask
    fits-with ask sized frozen nodes count = record {
      asked = (begins ask sized).asked;
      boxes = subst BoxesFit (sym h.come.stays.boxes) (begins ask sized).boxes;
      laid_fits = laid_fits (frozen_of c ask) (laid c ask) frozen nodes (omega (arith, count, few));
    }

    -- if what is asked is what the page is made for
    pub made-fits : IsSizedAsk (ask_for s) → NextFits c (ask_for s)
    made-fits sized = fits-with (ask_for s) sized (subst IsSizedFrozen (sym (start-frozen h.come.stays)) (frozen-sized (ask_for s) sized)) nodes-made h.few

    -- whatever is asked, if the page is not begun
    module _ (ask : Ask) (sized : IsSizedAsk ask) (none : c.frozen ≡ None) (bare : holds_box c.page ≡ false) where
      laid-is : (x : Ask) → laid c x ≡ c.page ++ pruned_nodes x.top_skip c.waiting
      laid-is x = ap (λ b. c.page ++ (if b then c.waiting else pruned_nodes x.top_skip c.waiting)) bare

      nodes-asked : AllByRecursion IsSizedOnPage (c.page ++ pruned_nodes ask.top_skip c.waiting)
      nodes-asked =
          let made = pruned_nodes (ask_for s).top_skip c.waiting in
          let all = recursion_from_All IsSizedOnPage (c.page ++ made) (subst (All IsSizedOnPage) (laid-is (ask_for s)) nodes-made) in
          all-join IsSizedOnPage c.page (pruned_nodes ask.top_skip c.waiting) (all-front IsSizedOnPage c.page made all)
          (other-sized (ask_for s).top_skip ask.top_skip c.waiting sized.top_skip (all-back IsSizedOnPage c.page made all))

      count-asked : node_count (laid c ask) ≡ node_count (laid c (ask_for s))
      count-asked =
          let a = ap node_count (laid-is ask) in
          let b = ap node_count (laid-is (ask_for s)) in
          let d = count-append c.page (pruned_nodes ask.top_skip c.waiting) in
          let e = count-append c.page (pruned_nodes (ask_for s).top_skip c.waiting) in
          let f = other-count (ask_for s).top_skip ask.top_skip c.waiting in
          omega (arith, a, b, d, e, f)

      pub asked-fits : NextFits c ask
      asked-fits =
          fits-with ask sized
          (subst IsSizedFrozen (sym (λ i. frozen_or (none i) ask (h.come.stays.classes i) (h.come.stays.boxes i))) (frozen-sized ask sized))
          (subst (All IsSizedOnPage) (sym (laid-is ask)) (All-from_recursion IsSizedOnPage (c.page ++ pruned_nodes ask.top_skip c.waiting) nodes-asked))
          (let f = h.few in let g = count-asked in omega (arith, f, g))

module _ (s : State) (classes : AreRunClasses s.classes) (sized-ask : IsSizedAsk (ask_for s)) (served : IsServed s.waiting s) (few : held_count s ≤ 4194304) where
  abbrev ask : Ask
  ask = ask_for s

  module _ (rs : List Reached) (c : Contents) (t : State) (h : IsComing s rs c t) where
    abbrev ns : List PlainNode
    ns = laid c ask

    same-classes : t.classes ≡ s.classes
    same-classes = h.keeps.classes

    ns-nodes : All (IsGalleyNode s.classes) ns
    ns-nodes = subst (λ cs. All (IsGalleyNode cs) ns) same-classes h.served.nodes

    -- ---- the page that fires

    module _ (off : c.stopped ≡ true) (quiet : NoActs c.page) (of : AreBoxesOf s.classes s.boxes) where
      abbrev f : Fired
      f = page_fired (start s) ask

      abbrev last : Reach
      last = record { reached = rs; passed = c.page; beyond = c.waiting; fires = true }

      abbrev k : ℕ
      k = (page_break last).place

      abbrev ls : List Labelled
      ls = labelled (frozen_for ask s.classes s.boxes) (take k c.page)

      nodes-are : ns ≡ c.page ++ c.waiting
      nodes-are = (h.come.stops off).whole

      both : All (IsGalleyNode s.classes) (c.page ++ c.waiting)
      both = subst (All (IsGalleyNode s.classes)) nodes-are ns-nodes

      both-served : AllByRecursion (λ n. IsServable s.classes n.kind) (c.page ++ c.waiting)
      both-served = nodes-served s.classes (c.page ++ c.waiting) both

      page-served : AllByRecursion (λ n. IsServable s.classes n.kind) c.page
      page-served = all-front (λ (n : PlainNode). IsServable s.classes n.kind) c.page c.waiting both-served

      waiting-served : AllByRecursion (λ n. IsServable s.classes n.kind) c.waiting
      waiting-served = all-back (λ (n : PlainNode). IsServable s.classes n.kind) c.page c.waiting both-served

      parts : FiredSized f
      parts = fired_of-sized ask s.classes s.boxes [] s.waiting sized-ask (All-nil IsSizedOnPage) (nodes-sized s.classes s.waiting served.nodes) served.boxes

      is : f ≡ fired_of ask s.classes s.boxes last
      is = fired-is s rs c t h off

      front-served : AllByRecursion (λ n. IsServable s.classes n.kind) (take k c.page)
      front-served = all-take (λ (n : PlainNode). IsServable s.classes n.kind) k c.page page-served

      rest-served : AllByRecursion (λ n. IsServable s.classes n.kind) (drop k c.page ++ c.waiting)
      rest-served = all-join (λ (n : PlainNode). IsServable s.classes n.kind) (drop k c.page) c.waiting (all-drop (λ (n : PlainNode). IsServable s.classes n.kind) k c.page page-served) waiting-served

      -- its penalty is not below those of the routine
      pub fired-mild : hold_penalty ≤ℤ f.penalty
      fired-mild = subst (λ (g : Fired). hold_penalty ≤ℤ g.penalty) (sym is) (mild-break s.classes (drop k c.page ++ c.waiting) rest-served)

      -- no more nodes than waited and were in boxes, and the top glue
      pub fired-few : fired_count f ≤ node_count s.waiting + 1 + box_count s.boxes
      fired-few =
          let most = fired_of-fewer ask s.classes s.boxes [] s.waiting sized-ask (All-nil IsSizedOnPage) (nodes-sized s.classes s.waiting served.nodes) classes.fit of in
          omega (arith, most)

      left-fewer : notes_waiting (f.held ++ f.rest) ≤ notes_waiting ns
      left-fewer =
          let a = notes-append f.held f.rest in
          let b = ap (λ (g : Fired). notes_waiting g.held) is in
          let d = notes-held ls in
          let e = ap (λ (g : Fired). notes_waiting g.rest) is in
          let g = notes-spent (drop k c.page ++ c.waiting) in
          let i = notes-append (drop k c.page) c.waiting in
          let j = notes-drop k c.page in
          let l = notes-append c.page c.waiting in
          let m = ap notes_waiting nodes-are in
          omega (arith, a, b, d, e, g, i, j, l, m)

      -- no more marginal notes have no place yet
      pub fired-notes : notes_left (f.held ++ f.rest) t ≤ notes_left s.waiting s
      fired-notes = let a = left-fewer in let b = h.notes in omega (arith, a, b)

      pub fired-served : IsServedPage t f
      fired-served =
          let e = sym same-classes in
          record {
            body = parts.body;
            text = subst (λ (g : Fired). AllByRecursion (λ n. IsTextKind n.kind) g.body) (sym is) (text-body s.classes (take k c.page) (no_acts-take k c.page quiet) front-served);
            back = subst (λ cs. All (IsGalleyNode cs) f.held) e (nodes-both s.classes f.held parts.held (subst (λ (g : Fired). AllByRecursion (λ n. IsServable s.classes n.kind) g.held) (sym is) (held-known s.classes ls (known-labels s.classes (frozen_for ask s.classes s.boxes) (take k c.page) front-served))));
            rest = subst (λ cs. All (IsGalleyNode cs) f.rest) e (nodes-both s.classes f.rest parts.rest (subst (λ (g : Fired). AllByRecursion (λ n. IsServable s.classes n.kind) g.rest) (sym is) (served-spent s.classes (drop k c.page ++ c.waiting) rest-served)));
            boxes = parts.boxes;
            boxes_of = subst (λ cs. AreBoxesOf cs f.boxes) e (subst (λ (g : Fired). AreBoxesOf s.classes g.boxes) (sym is) (boxes-after ls s.classes s.boxes of));
            held = h.served.held;
            entries = h.served.entries;
            notes = let a = h.served.notes in let b = left-fewer in omega (arith, a, b);
            bottom = within-more (reach_where (notes_left ns t)) (reach_where (notes_left (f.held ++ f.rest) t)) t.note_bottom (let b = left-fewer in omega (arith, b)) h.served.bottom;
          }
