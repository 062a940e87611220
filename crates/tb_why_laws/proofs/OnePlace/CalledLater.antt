-- Of a running state once its page is filled: what came into its lists, and which floats are still to be called.
use Rattle.std.proofs.Common.{◌≡◌, refl, sym, ◌∙◌, ap, subst, inl, ℕ, ◌+◌, ◌≤◌, List, [], ◌∷◌, ◌++◌, take, drop, None, arith}
use Rattle.tb_node.specs.declared.Float.{Float}
use Rattle.tb_node.specs.PlainNodes.{PlainNode, without_insertions}
use Rattle.tb_node.proofs.Weights.{nodes_weight}
use Rattle.tb_break.specs.PageTop.{pruned_nodes}
use Rattle.tb_scaled.specs.Scaled.{awful_bad}
use Rattle.tb_builder.specs.FiredPages.{Fired, page_break, from_break}
use Rattle.tb_builder.specs.Reach.{Reach}
use Rattle.tb_builder.proofs.Cutting.CutLemmas.{acted_of, CutAt}
use Rattle.tb_builder.proofs.FiredPages.PageWeights.{boxes_weight}
use Rattle.tb_float.specs.declared.Entry.{Entry}
use Rattle.tb_float.specs.declared.Entry.TheVariants as entries
use Rattle.tb_output.specs.State.{State}
use Rattle.tb_steps.specs.Run.{ask_for}
use Rattle.tb_laws.specs.Laws.{float_lines}
use Rattle.tb_laws.proofs.ClassesRise.RisingLists.{IsAmong}
use Rattle.tb_laws.proofs.ClassesRise.PageLines.{deeds, deeds-append, pruned-deeds, spent-deeds, deeds-split, without-acts-deeds, deeds-of, without-insertions-deeds, append-none, none-front}
use Rattle.tb_laws.proofs.NothingLost.StateWeights.{floats_weight, floats-append, entries_weight, lists_weight, left_weight}
use Rattle.tb_laws.proofs.NothingLost.RunWeights.{page_of, cut}
use Rattle.tb_laws.proofs.NothingLost.ClosingRuns.{progressed}
use Rattle.tb_why_laws.proofs.OnePlace.WaitingLines.{waiting_lines, uncalled}
use Rattle.tb_why_laws.proofs.OnePlace.Once.{of_line}
use Rattle.tb_why_laws.proofs.OnePlace.OnceLists.{this, among-weight, waiting-weight}
use Rattle.tb_why_laws.proofs.OnePlace.OnceStates.{Running, now, fires, fired-times}
use Rattle.tb_why_laws.proofs.OnePlace.ActedLists.{ActedLists, progress-lists}
use Rattle.tb_why_laws.proofs.OnePlace.CallWeights.{deeds_weight, deeds_weight-append, deeds-within, called_later, later_weight, later-weighs, weighs-later}

-- ---- the acts of a page

module _ (t : List PlainNode) (w : Reach) (c : CutAt [] t w) where
  parts : deeds (take (page_break w).place w.passed) ++ deeds (drop (page_break w).place w.passed) ≡ []
  parts = deeds-split (page_break w).place w.passed ∙ ap deeds c.passed ∙ without-acts-deeds c.front

  -- none is left on it up to its break
  pub body-deeds : deeds (without_insertions (take (page_break w).place w.passed)) ≡ []
  body-deeds = without-insertions-deeds (take (page_break w).place w.passed) ∙ none-front (deeds (take (page_break w).place w.passed)) (deeds (drop (page_break w).place w.passed)) parts

  -- nor up to the stop
  rest-deeds : deeds (from_break w) ≡ deeds w.beyond
  rest-deeds = deeds-append (drop (page_break w).place w.passed) w.beyond ∙ ap (λ l. l ++ deeds w.beyond) (append-none (deeds (take (page_break w).place w.passed)) (deeds (drop (page_break w).place w.passed)) parts)

  pub all-deeds : deeds t ≡ acted_of w.reached ++ deeds w.beyond
  all-deeds = ap deeds c.whole ∙ deeds-append c.front w.beyond ∙ ap (λ l. l ++ deeds w.beyond) (deeds-of c.front ∙ sym c.acts)

module _ (s : State) (o : Running s) (e : (now s o).fault ≡ None) where
  abbrev next : State
  next = (now s o).state

  abbrev page : Fired
  page = fires s o

  page_cut : CutAt [] (pruned_nodes (ask_for s).top_skip s.waiting) (page_of s)
  page_cut = cut (of_line 0) s o.kept

  -- the acts that wait are those that were done and those behind the break
  pub does : deeds s.waiting ≡ acted_of (page_of s).reached ++ deeds page.rest
  does =
      sym (pruned-deeds (ask_for s).top_skip s.waiting) ∙ all-deeds (pruned_nodes (ask_for s).top_skip s.waiting) (page_of s) page_cut
      ∙ ap (λ l. acted_of (page_of s).reached ++ l) (sym (spent-deeds (from_break (page_of s)) ∙ rest-deeds (pruned_nodes (ask_for s).top_skip s.waiting) (page_of s) page_cut))

  -- the page that fires has none
  pub page-deeds : deeds page.body ≡ []
  page-deeds = body-deeds (pruned_nodes (ask_for s).top_skip s.waiting) (page_of s) page_cut

  -- ---- the lists

  -- the current and the second list have grown by what was taken, and the other lists are as before
  pub acts-lists : ActedLists (acted_of (page_of s).reached) s next
  acts-lists = progress-lists (page_of s).reached awful_bad s (progressed s o.kept o.closing).records e

  -- the float is in one place at most of these lists and of those that acts behind the break will take
  places : (n : ℕ) → (floats_weight (of_line n) next.floats.deferred + floats_weight (of_line n) next.floats.second) + later_weight (of_line n) next.floats.current (deeds page.rest) ≤ 1
  places n =
      let v = of_line n in
      let a : nodes_weight v page.body + boxes_weight v page.boxes + nodes_weight v page.held + nodes_weight v page.rest + (nodes_weight v next.held_page + lists_weight v next.floats + left_weight v next.left_column) ≤ 1 = fired-times s o e n in
      let b : deeds_weight v (deeds page.rest) ≤ nodes_weight v page.rest = deeds-within v page.rest in
      omega arith

  -- what was taken and what is still to be called was to be called before
  grows : (n : ℕ) → later_weight (of_line n) next.floats.current (deeds page.rest) + floats_weight (of_line n) acts-lists.news + floats_weight (of_line n) acts-lists.titles ≡ later_weight (of_line n) s.floats.current (deeds s.waiting)
  grows n =
      let v = of_line n in
      let a : entries_weight v next.floats.current + floats_weight v acts-lists.news + floats_weight v acts-lists.titles ≡ entries_weight v s.floats.current + deeds_weight v (acted_of (page_of s).reached) = acts-lists.taken v in
      let b : deeds_weight v (deeds s.waiting) ≡ deeds_weight v (acted_of (page_of s).reached) + deeds_weight v (deeds page.rest) = ap (deeds_weight v) does ∙ deeds_weight-append v (acted_of (page_of s).reached) (deeds page.rest) in
      omega arith

  -- ---- which floats are still to be called

  -- those that are to be called once the page is filled were to be called before
  pub still-uncalled : (n : ℕ) → IsAmong n (called_later next.floats.current (deeds page.rest)) → IsAmong n (uncalled s)
  still-uncalled n i =
      let a : 1 ≤ later_weight (of_line n) next.floats.current (deeds page.rest) = later-weighs n next.floats.current (deeds page.rest) i in
      weighs-later n s.floats.current (deeds s.waiting) (more (later_weight (of_line n) next.floats.current (deeds page.rest)) (floats_weight (of_line n) acts-lists.news) (floats_weight (of_line n) acts-lists.titles) (later_weight (of_line n) s.floats.current (deeds s.waiting)) (grows n) a)
    where
      more : (a b t c : ℕ) → a + b + t ≡ c → 1 ≤ a → 1 ≤ c
      more a b t c e l = omega arith

  -- and so were the wide floats that wait from now on
  pub news-uncalled : (n : ℕ) → IsAmong n (float_lines acts-lists.news) → IsAmong n (uncalled s)
  news-uncalled n i =
      let a : 1 ≤ floats_weight (of_line n) acts-lists.news = among-weight n acts-lists.news i in
      weighs-later n s.floats.current (deeds s.waiting) (more (later_weight (of_line n) next.floats.current (deeds page.rest)) (floats_weight (of_line n) acts-lists.news) (floats_weight (of_line n) acts-lists.titles) (later_weight (of_line n) s.floats.current (deeds s.waiting)) (grows n) a)
    where
      more : (a b t c : ℕ) → a + b + t ≡ c → 1 ≤ b → 1 ≤ c
      more a b t c e l = omega arith

  -- as were the titles that were taken
  pub titles-uncalled : (n : ℕ) → IsAmong n (float_lines acts-lists.titles) → IsAmong n (uncalled s)
  titles-uncalled n i =
      let a : 1 ≤ floats_weight (of_line n) acts-lists.titles = among-weight n acts-lists.titles i in
      weighs-later n s.floats.current (deeds s.waiting) (more (later_weight (of_line n) next.floats.current (deeds page.rest)) (floats_weight (of_line n) acts-lists.news) (floats_weight (of_line n) acts-lists.titles) (later_weight (of_line n) s.floats.current (deeds s.waiting)) (grows n) a)
    where
      more : (a b t c : ℕ) → a + b + t ≡ c → 1 ≤ t → 1 ≤ c
      more a b t c e l = omega arith

  -- which are not to be called any more
  pub news-apart : (n : ℕ) → IsAmong n (called_later next.floats.current (deeds page.rest)) → IsAmong n (float_lines acts-lists.news) → ⊥
  news-apart n i j =
      let v = of_line n in
      let a : 1 ≤ later_weight v next.floats.current (deeds page.rest) = later-weighs n next.floats.current (deeds page.rest) i in
      let b : 1 ≤ floats_weight v acts-lists.news = among-weight n acts-lists.news j in
      let c : floats_weight v next.floats.second ≡ floats_weight v s.floats.second + floats_weight v acts-lists.news = ap (floats_weight v) acts-lists.second ∙ floats-append v s.floats.second acts-lists.news in
      never (floats_weight v next.floats.deferred) (floats_weight v next.floats.second) (later_weight v next.floats.current (deeds page.rest)) (floats_weight v s.floats.second) (floats_weight v acts-lists.news) a b c (places n)
    where
      never : (d x l y z : ℕ) → 1 ≤ l → 1 ≤ z → x ≡ y + z → (d + x) + l ≤ 1 → ⊥
      never d x l y z a b c h = omega arith

  -- a float that is to be called does not wait
  pub later-apart : (n : ℕ) → IsAmong n (called_later next.floats.current (deeds page.rest)) → IsAmong n (waiting_lines next.floats) → ⊥
  later-apart n i j =
      let v = of_line n in
      let a : 1 ≤ later_weight v next.floats.current (deeds page.rest) = later-weighs n next.floats.current (deeds page.rest) i in
      let b : 1 ≤ floats_weight v next.floats.deferred + floats_weight v next.floats.second = waiting-weight n next.floats j in
      let c : (floats_weight v next.floats.deferred + floats_weight v next.floats.second) + later_weight v next.floats.current (deeds page.rest) ≤ 1 = places n in
      let no : ⊥ = omega arith in no

  -- ---- the float that is called

  module _ (g : Float) (es : List Entry) (first : next.floats.current ≡ entries.Float g ∷ es) where
    -- it does not wait before
    pub first-apart : IsAmong g.line (waiting_lines next.floats) → ⊥
    first-apart j = later-apart g.line (subst (λ c. IsAmong g.line (called_later c (deeds page.rest))) (sym first) (inl refl)) j

    -- and is not called again
    pub first-once : IsAmong g.line (called_later es (deeds page.rest)) → ⊥
    first-once i =
        let v = of_line g.line in
        let a : 1 ≤ later_weight v es (deeds page.rest) = later-weighs g.line es (deeds page.rest) i in
        let b : entries_weight v next.floats.current ≡ v.float g.line + entries_weight v es = ap (entries_weight v) first in
        let c : v.float g.line ≡ 1 = this g.line g.line refl in
        let d : (floats_weight v next.floats.deferred + floats_weight v next.floats.second) + later_weight v next.floats.current (deeds page.rest) ≤ 1 = places g.line in
        let no : ⊥ = omega arith in no
