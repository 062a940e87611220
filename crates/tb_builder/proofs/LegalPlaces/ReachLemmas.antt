-- The page and what waits as one list: its places are those of the page and then those that are reached past it.
use Rattle.std.proofs.Common.{◌≡◌, refl, sym, subst, ◌∙◌, ap, ℤ, List, [], ◌∷◌, ◌++◌, Option, None, Some, append_assoc, append-nil}
use Rattle.tb_node.specs.PlainNodes.{PlainNode}
use Rattle.tb_break.specs.Places.{ends_lasting}
use Rattle.tb_break.specs.Best.{Breakpoint}
use Rattle.tb_break.specs.Split.{with_place}
use Rattle.tb_insert.specs.Terms.{Terms}
use Rattle.tb_builder.specs.Reach.{Reach, reach_from, reach_at, breakpoints, page_place}
use Rattle.tb_builder.specs.LegalPlaces.{page_shapes, glue_first, glue_or, node_penalty, page_places, NoStop, NoActs}
use Rattle.tb_builder.proofs.LegalPlaces.PageLemmas.{reach_next, first_of, at_place_goes}

module _ (limit : ℤ) (terms : List PlainNode → Terms) where
  pub glue_after : (xs waiting : List PlainNode) → NoActs xs → glue_first (xs ++ waiting) ≡ glue_or (glue_first waiting) xs
  glue_after [] waiting h = refl
  glue_after (x ∷ xs) waiting h = first_of limit terms x.line x.kind (xs ++ waiting) h.0

  step : (page : List PlainNode) (x : PlainNode) (rest : List PlainNode) (later : Reach) (o : Option ℤ) (places : List Breakpoint) (bs : List Breakpoint)
      → breakpoints later.reached ≡ places ++ bs → NoStop (with_place o (page_place limit terms page) places)
      → breakpoints (reach_at limit terms page x rest later o).reached ≡ with_place o (page_place limit terms page) places ++ bs
  step page x rest later None places bs e h = e
  step page x rest later (Some p) places bs e h = ap (λ w. breakpoints w.reached) (at_place_goes limit terms page x rest later (page_place limit terms page p) h.0) ∙ ap (λ ys. page_place limit terms page p ∷ ys) e

  pub later_quiet : (o : Option ℤ) (at : ℤ → Breakpoint) (places : List Breakpoint) → NoStop (with_place o at places) → NoStop places
  later_quiet None at places h = h
  later_quiet (Some p) at places h = h.1

  pub whole_places : (before page waiting : List PlainNode) → NoActs page → NoStop (page_places limit terms before page (glue_first waiting))
      → breakpoints (reach_from limit terms before (page ++ waiting)).reached ≡ page_places limit terms before page (glue_first waiting) ++ breakpoints (reach_from limit terms (before ++ page) waiting).reached
  whole_places before [] waiting h q = ap (λ b. breakpoints (reach_from limit terms b waiting).reached) (sym (append-nil before))
  whole_places before (x ∷ xs) waiting h q =
      ap (λ w. breakpoints w.reached) (reach_next limit terms before (xs ++ waiting) x h.0)
      ∙ ap (λ g. breakpoints (reach_at limit terms before x (xs ++ waiting) (reach_from limit terms (before ++ x ∷ []) (xs ++ waiting)) (node_penalty (ends_lasting (page_shapes before)) g x)).reached) (glue_after xs waiting h.1)
      ∙ step before x (xs ++ waiting) (reach_from limit terms (before ++ x ∷ []) (xs ++ waiting)) (node_penalty (ends_lasting (page_shapes before)) (glue_or (glue_first waiting) xs) x) (page_places limit terms (before ++ x ∷ []) xs (glue_first waiting)) _
      (whole_places (before ++ x ∷ []) xs waiting h.1 (later_quiet (node_penalty (ends_lasting (page_shapes before)) (glue_or (glue_first waiting) xs) x) (page_place limit terms before) _ q)) q
      ∙ ap (λ b. page_places limit terms before (x ∷ xs) (glue_first waiting) ++ breakpoints (reach_from limit terms b waiting).reached) (append_assoc before (x ∷ []) xs)

  -- ---- what is passed, and what is beyond the stop

  -- the two reach the same place of the list
  pub record SameEnd (v w : Reach) : Type 0 where
    pub passed : v.passed ≡ w.passed
    pub beyond : v.beyond ≡ w.beyond
    pub fires : v.fires ≡ w.fires

  end_step : (page : List PlainNode) (x : PlainNode) (rest : List PlainNode) (later w : Reach) (o : Option ℤ) (places : List Breakpoint)
      → SameEnd later w → NoStop (with_place o (page_place limit terms page) places) → SameEnd (reach_at limit terms page x rest later o) w
  end_step page x rest later w None places e h = e
  end_step page x rest later w (Some p) places e h = record {
    passed = ap (λ v. v.passed) (at_place_goes limit terms page x rest later (page_place limit terms page p) h.0) ∙ e.passed;
    beyond = ap (λ v. v.beyond) (at_place_goes limit terms page x rest later (page_place limit terms page p) h.0) ∙ e.beyond;
    fires = ap (λ v. v.fires) (at_place_goes limit terms page x rest later (page_place limit terms page p) h.0) ∙ e.fires;
  }

  pub whole_end : (before page waiting : List PlainNode) → NoActs page → NoStop (page_places limit terms before page (glue_first waiting))
      → SameEnd (reach_from limit terms before (page ++ waiting)) (reach_from limit terms (before ++ page) waiting)
  whole_end before [] waiting h q = subst (λ b. SameEnd (reach_from limit terms before waiting) (reach_from limit terms b waiting)) (sym (append-nil before)) (record { passed = refl; beyond = refl; fires = refl })
  whole_end before (x ∷ xs) waiting h q =
      subst (λ v. SameEnd v (reach_from limit terms (before ++ x ∷ xs) waiting)) (sym (reach_next limit terms before (xs ++ waiting) x h.0 ∙ ap (λ g. reach_at limit terms before x (xs ++ waiting) (reach_from limit terms (before ++ x ∷ []) (xs ++ waiting)) (node_penalty (ends_lasting (page_shapes before)) g x)) (glue_after xs waiting h.1)))
      (end_step before x (xs ++ waiting) (reach_from limit terms (before ++ x ∷ []) (xs ++ waiting)) (reach_from limit terms (before ++ x ∷ xs) waiting) (node_penalty (ends_lasting (page_shapes before)) (glue_or (glue_first waiting) xs) x) (page_places limit terms (before ++ x ∷ []) xs (glue_first waiting))
      (subst (λ b. SameEnd (reach_from limit terms (before ++ x ∷ []) (xs ++ waiting)) (reach_from limit terms b waiting)) (append_assoc before (x ∷ []) xs)
      (whole_end (before ++ x ∷ []) xs waiting h.1 (later_quiet (node_penalty (ends_lasting (page_shapes before)) (glue_or (glue_first waiting) xs) x) (page_place limit terms before) _ q))) q)
