-- What is known of the page that fires if the top skip is higher than a page: before a clear it breaks at its top glue, if a mark, note or whatsit comes first.
use Rattle.std.proofs.Common.{◌≡◌, refl, sym, ◌∙◌, ap, subst, ℕ, zero, suc, ℤ, pos, ◌+◌, ◌≤◌, true, false, List, [], ◌∷◌, ◌++◌, take, drop, length, length-append, arith}
use Rattle.std.specs.Prelude.{◌≤ℤ◌, ◌<ℤ◌}
use Rattle.std.proofs.lemmas.Int.{ints}
use Rattle.std.proofs.lemmas.List.{append_assoc}
use Rattle.tb_node.specs.declared.What.TheVariants as what
use Rattle.tb_node.specs.PlainNodes.{skip, pen, PlainKind, plain, ins, act, PlainNode, without_acts, without_insertions}
use Rattle.tb_break.specs.PageTop.{pruned_nodes, top_glue}
use Rattle.tb_insert.specs.Account.{Frozen, Labelled, labelled_from, labelled_with}
use Rattle.tb_builder.specs.Reach.{Reach}
use Rattle.tb_builder.specs.FiredPages.{penalty_at}
use Rattle.tb_builder.proofs.Cutting.CutLemmas.{acts_of}
use Rattle.tb_laws.proofs.PageBreaks.FittingFired.{flat_box, break_at}
use Rattle.tb_laws.proofs.PageBreaks.GuardedPages.{HasFirst, TopShape, pruned-shape, high-breaks}
use Rattle.tb_column.specs.Column.{standing_notes}
use Rattle.tb_output.specs.State.{State, footnotes}
use Rattle.tb_steps.specs.Run.{led, ask_for}
use Rattle.tb_output.specs.Output
use Rattle.tb_sheet.specs.Asked
use Rattle.tb_laws.proofs.Closed.Sorts.{sorts}
use Rattle.tb_laws.proofs.Closed.SortLemmas.{take-drop}
use Rattle.tb_laws.proofs.DeadCycles.AgainLemmas.{Again}
use Rattle.tb_laws.proofs.DeadCycles.EndedLemmas.{Ended}
use Rattle.tb_laws.proofs.DeadCycles.SpacedLemmas.{Spaced, spaced-pruned}
use Rattle.tb_laws.proofs.Closed.ClearPages.{OneFlat}
use Rattle.tb_laws.proofs.NothingLost.RunWeights.{Kept}
use Rattle.tb_laws.proofs.DeadCycles.RaiseCounts.{box_raises}
use Rattle.tb_laws.proofs.DeadCycles.CyclePages.{w, k, cut, none-reached, limit-deep, page, none-there, flat, same-led}

-- ---- lists without acts and insertions

no-acts : (l : ℕ) (x : PlainKind) (ns : List PlainNode) → acts_of (record { line = l; kind = x } ∷ ns) ≡ [] → (acts_of ns ≡ [] → without_acts ns ≡ ns) → without_acts (record { line = l; kind = x } ∷ ns) ≡ record { line = l; kind = x } ∷ ns
no-acts l (plain m) ns e h = ap (λ xs. record { line = l; kind = plain m } ∷ xs) (h e)
no-acts l (ins i) ns e h = ap (λ xs. record { line = l; kind = ins i } ∷ xs) (h e)
no-acts l (act a) ns e h = cc

actless : (ns : List PlainNode) → acts_of ns ≡ [] → without_acts ns ≡ ns
actless [] e = refl
actless (n ∷ ns) e = no-acts n.line n.kind ns e (λ i. actless ns i)

more-labels : (z : Frozen) (ls : List Labelled) (before : List PlainNode) (l : ℕ) (x : PlainKind) → labelled_with z ls before l x ≡ [] → ls ≡ []
more-labels z ls before l (plain m) e = e
more-labels z [] before l (ins i) e = refl
more-labels z (y ∷ ls) before l (ins i) e = cc
more-labels z ls before l (act a) e = e

none-before : (z : Frozen) (ls : List Labelled) (before ns : List PlainNode) → labelled_from z ls before ns ≡ [] → ls ≡ []
none-before z ls before [] e = e
none-before z ls before (n ∷ ns) e = more-labels z ls before n.line n.kind (none-before z (labelled_with z ls before n.line n.kind) (before ++ n ∷ []) ns e)

no-insertions : (z : Frozen) (ls : List Labelled) (before : List PlainNode) (l : ℕ) (x : PlainKind) (ns : List PlainNode) → labelled_with z ls before l x ≡ [] → without_insertions ns ≡ ns → without_insertions (record { line = l; kind = x } ∷ ns) ≡ record { line = l; kind = x } ∷ ns
no-insertions z ls before l (plain m) ns e h = ap (λ xs. record { line = l; kind = plain m } ∷ xs) h
no-insertions z [] before l (ins i) ns e h = cc
no-insertions z (y ∷ ls) before l (ins i) ns e h = cc
no-insertions z ls before l (act a) ns e h = ap (λ xs. record { line = l; kind = act a } ∷ xs) h

insertless : (z : Frozen) (ls : List Labelled) (before ns : List PlainNode) → labelled_from z ls before ns ≡ [] → without_insertions ns ≡ ns
insertless z ls before [] e = refl
insertless z ls before (n ∷ ns) e = no-insertions z ls before n.line n.kind ns (none-before z (labelled_with z ls before n.line n.kind) (before ++ n ∷ []) ns e) (insertless z (labelled_with z ls before n.line n.kind) (before ++ n ∷ []) ns e)

-- a list that breaks at a clear begins with its penalty
record AtClear (ns : List PlainNode) : Type 0 where
  pub line : ℕ
  pub tail : List PlainNode
  pub whole : ns ≡ break_at line Asked.clear_penalty ∷ tail

clear-int : (q : ℤ) → Output.is_int q Asked.clear_penalty ≡ true → q ≡ Asked.clear_penalty
clear-int q h = grind (arith, ints, h)

at-clear : (ns : List PlainNode) → Output.is_int (penalty_at ns) Asked.clear_penalty ≡ true → AtClear ns
at-clear [] h = let no : false ≡ true = h in cc
at-clear (n ∷ ns) h = by_kind n.line n.kind h
  where
    by_kind : (l : ℕ) (x : PlainKind) → Output.is_int (penalty_at (record { line = l; kind = x } ∷ ns)) Asked.clear_penalty ≡ true → AtClear (record { line = l; kind = x } ∷ ns)
    by_kind l (plain (pen q)) h = record { line = l; tail = ns; whole = ap (λ x. break_at l x ∷ ns) (clear-int q h) }
    by_kind l x h = let no : false ≡ true = h in cc

take-most : {X : Type 0} (i : ℕ) (xs : List X) → length (take i xs) ≤ i
take-most zero xs = omega arith
take-most (suc i) [] = omega arith
take-most (suc i) (x ∷ xs) = let h : length (take i xs) ≤ i = take-most i xs in omega arith

-- ---- the page

module _ (s : State) (kept : Kept s) (ended : Ended false s.waiting) where
  -- a page whose first clear has a lasting node before it does not break there without footnotes, unless it is raised
  module _ (deep : pos 0 ≤ℤ s.params.maxdepth) (base : pos 0 ≤ℤ s.params.textheight) (high : s.params.textheight <ℤ s.params.topskip) (n : ℕ) (again : Again (suc n) (sorts s.waiting)) (goal : s.goal ≡ s.params.textheight) (spaced : Spaced false s.waiting)
      (z : Frozen) (clears : Output.is_int (page s kept ended s refl refl refl z).penalty Asked.clear_penalty ≡ true) (void : standing_notes (footnotes (record s { boxes = (page s kept ended s refl refl refl z).boxes })) ≡ []) (none : box_raises (page s kept ended s refl refl refl z).boxes ≡ 0) where
    abbrev r : Reach
    r = w s kept ended

    abbrev i : ℕ
    i = k s kept ended

    abbrev before : List PlainNode
    before = take (k s kept ended) (w s kept ended).passed

    abbrev behind : List PlainNode
    behind = drop (k s kept ended) (w s kept ended).passed ++ (w s kept ended).beyond

    -- no act and no insertion comes before the clear, so what was laid out is the page and the rest
    laid : pruned_nodes (ask_for s).top_skip s.waiting ≡ before ++ behind
    laid =
        let x = cut s kept ended in
        let e : without_acts x.front ≡ x.front = actless x.front (sym x.acts ∙ none-reached s kept ended n again) in
        x.whole ∙ ap (λ ns. ns ++ r.beyond) (sym e ∙ sym x.passed) ∙ take-drop i r.passed r.beyond

    one : OneFlat (without_insertions before)
    one = flat s kept ended s refl refl refl z clears

    at : AtClear behind
    at = at-clear behind clears

    body : before ≡ one.front ++ flat_box one.line what.Blank ∷ []
    body = sym (insertless z [] [] before (none-there s kept ended s refl refl refl z void none)) ∙ one.whole

    whole : pruned_nodes (ask_for s).top_skip s.waiting ≡ one.front ++ flat_box one.line what.Blank ∷ break_at at.line Asked.clear_penalty ∷ at.tail
    whole = laid ∙ ap (λ ns. before ++ ns) at.whole ∙ ap (λ ns. ns ++ break_at at.line Asked.clear_penalty ∷ at.tail) body ∙ append_assoc one.front (flat_box one.line what.Blank ∷ []) (break_at at.line Asked.clear_penalty ∷ at.tail)

    top : TopShape (ask_for s).top_skip one.front
    top = pruned-shape (ask_for s).top_skip one.line what.Blank (break_at at.line Asked.clear_penalty ∷ at.tail) s.waiting one.front one.topmost whole

    abbrev glue_top : PlainNode
    glue_top = record { line = top.line; kind = plain (skip (top_glue (ask_for s).top_skip (pos 0))) }

    shaped : pruned_nodes (ask_for s).top_skip s.waiting ≡ top.lasting ++ record { line = top.line; kind = plain (skip (top_glue (ask_for s).top_skip (pos 0))) } ∷ flat_box one.line what.Blank ∷ break_at at.line Asked.clear_penalty ∷ at.tail
    shaped = whole ∙ ap (λ ns. ns ++ flat_box one.line what.Blank ∷ break_at at.line Asked.clear_penalty ∷ at.tail) top.whole ∙ append_assoc top.lasting (record { line = top.line; kind = plain (skip (top_glue (ask_for s).top_skip (pos 0))) } ∷ []) (flat_box one.line what.Blank ∷ break_at at.line Asked.clear_penalty ∷ at.tail)

    -- a lasting node comes before the clear
    has-first : HasFirst top.lasting
    has-first = by_list top.lasting (subst (Spaced false) shaped (spaced-pruned (ask_for s).top_skip false s.waiting spaced))
      where
        by_list : (ls : List PlainNode) → Spaced false (ls ++ record { line = top.line; kind = plain (skip (top_glue (ask_for s).top_skip (pos 0))) } ∷ flat_box one.line what.Blank ∷ break_at at.line Asked.clear_penalty ∷ at.tail) → HasFirst ls
        by_list [] h = let no : false ≡ true = h.1.1.0 refl in cc
        by_list (x ∷ ls) h = tt

    -- no act is reached, so the page is made for what is asked now
    same : led s ≡ s
    same = same-led s kept ended (none-reached s kept ended n again)

    asked-goal : (ask_for s).goal ≡ s.params.textheight
    asked-goal = ap (λ (t : State). t.goal) same ∙ goal

    -- so the page breaks before its top glue, and the clear is behind that
    place : i ≡ length top.lasting
    place = high-breaks (ask_for s).goal (ask_for s).max_depth (ask_for s).top_skip Asked.clear_penalty _ (limit-deep s kept ended same deep) refl (subst (λ (x : ℤ). pos 0 ≤ℤ x) (sym asked-goal) base) (subst (λ (t : State). t.goal <ℤ t.params.topskip) (sym same) (subst (λ (x : ℤ). x <ℤ s.params.topskip) (sym goal) high)) s.waiting top.lasting top.line one.line what.Blank at.line at.tail top.all has-first shaped

    longer : length before ≡ length top.lasting + 2
    longer = ap length (body ∙ ap (λ ns. ns ++ flat_box one.line what.Blank ∷ []) top.whole ∙ append_assoc top.lasting (record { line = top.line; kind = plain (skip (top_glue (ask_for s).top_skip (pos 0))) } ∷ []) (flat_box one.line what.Blank ∷ [])) ∙ length-append top.lasting (record { line = top.line; kind = plain (skip (top_glue (ask_for s).top_skip (pos 0))) } ∷ flat_box one.line what.Blank ∷ [])

    pub no-clear : ⊥
    no-clear = sums (length before) (length top.lasting) i (take-most i r.passed) longer place
      where
        sums : (x y i : ℕ) → x ≤ i → x ≡ y + 2 → i ≡ y → ⊥
        sums x y i h j l = omega arith
