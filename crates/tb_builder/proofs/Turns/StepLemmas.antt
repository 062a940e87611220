-- A waiting node goes on a page that is laid out, or its place is tried.
use Rattle.std.proofs.Common.{◌≡◌, refl, sym, subst, ◌∙◌, ap, ℕ, ℤ, Bool, true, false, List, [], ◌∷◌, ◌++◌, Option, None, Some, append_assoc}
use Rattle.std.specs.Prelude.{map, drop, negsuc, int_le, ◌||◌}
use Rattle.std.proofs.lemmas.Bool.{true≢false}
use Rattle.tb_scaled.specs.Scaled.{awful_bad}
use Rattle.tb_node.specs.declared.Node.{Node}
use Rattle.tb_node.specs.PlainNodes.{PlainNode, plain_of, node_shape, shape_of, is_act_kind}
use Rattle.tb_node.specs.declared.Sums.{Sums}
use Rattle.tb_node.specs.SmallAmounts.{IsSmall}
use Rattle.tb_node.specs.NodeSums.{added_node}
use Rattle.tb_node.specs.Roles.{act_of_kind}
use Rattle.tb_break.specs.Places.{ends_lasting}
use Rattle.tb_break.specs.Best.{Breakpoint, is_stop, least_cost}
use Rattle.tb_break.specs.SplitPlace.{penalty_by}
use Rattle.tb_insert.specs.Account.{Frozen, terms_after}
use Rattle.tb_insert.proofs.TermLemmas.{scan_plain}
use Rattle.tb_builder.specs.declared.Course.{Course}
use Rattle.tb_builder.specs.declared.Try.{Try}
use Rattle.tb_builder.specs.Reach.{tried, Reach, also_reached, reach_from, breakpoints, try_of}
use Rattle.tb_builder.specs.LegalPlaces.{page_shapes, glue_first, node_penalty, page_places, NoStop}
use Rattle.tb_builder.specs.Contents.{Contents}
use Rattle.tb_builder.specs.Courses.{IsCourseOf, Underway, places_by, nodes_glue_first}
use Rattle.tb_builder.specs.CourseOffers.{OfferIs, TermsFit, place_here}
use Rattle.tb_builder.specs.PageEvents.{stopped_with}
use Rattle.tb_builder.specs.PageTurns.{Shifted, reach_on, places_on, GoesUntried, GoesOn, StopsThere, TriesOn, StepFits, StepIs}
use Rattle.tb_builder.proofs.LegalPlaces.CourseLemmas.{shape_is, no_act, no_insertion, penalty_is, first_glue_is}
use Rattle.tb_builder.proofs.LegalPlaces.PageLemmas.{places_pass, reach_pass, places_try, reach_try, at_place_goes, at_place_stops, quiet-append}
use Rattle.tb_builder.proofs.LegalPlaces.ReachLemmas.{whole_places, whole_end}

-- ---- what is added up fits

module _ (z : Frozen) (k : Course) (page : List PlainNode) (bs : List Breakpoint) (held : ℕ → List Node) (n : Node) (h : IsCourseOf z k page bs) (f : StepFits z page held n) where
  pub step_sums : IsSmall (added_node k.scan.max_depth k.scan.sums (shape_of n))
  step_sums = subst (λ x. IsSmall (added_node k.scan.max_depth k.scan.sums x)) (shape_is held n)
      (subst IsSmall (sym (scan_plain z page k.scan (record k.scan { sums = added_node k.scan.max_depth k.scan.sums (node_shape (plain_of held n)) }) (plain_of held n) (no_insertion held n.kind f.no_insertion) h.scan refl).sums) f.there.sums)

  pub step_terms : TermsFit k
  step_terms = record { z = z; page = page; marked = h.marked; account = h.account; goal = f.here.goal; penalties = f.here.penalties }

-- ---- a step

module _ (z : Frozen) (k : Course) (c : Contents) (n : PlainNode) (ns : List PlainNode) (first : c.waiting ≡ n ∷ ns) (u : Underway z k c.page c.waiting) (no_act : is_act_kind n.kind ≡ false) where
  -- the places of the page in front of the node and what follows it
  places_first : places_on z c ≡ places_by z c.page (n ∷ ns)
  places_first = ap (λ w. places_by z c.page w) first

  reach_first : reach_on z c ≡ reach_from z.limit (terms_after z) c.page (n ∷ ns)
  reach_first = ap (reach_from z.limit (terms_after z) c.page) first

  lasting : k.lasting ≡ ends_lasting (page_shapes c.page)
  lasting = u.course.lasting_is

  module _ (d : Contents) (s : Shifted n c d) where
    rest : ns ≡ d.waiting
    rest = tail_same (sym first ∙ s.waiting)
      where
        tail_same : (n ∷ ns) ≡ (n ∷ d.waiting) → ns ≡ d.waiting
        tail_same e = cc

    whole : d.page ++ d.waiting ≡ c.page ++ c.waiting
    whole = ap (λ p. p ++ d.waiting) s.page ∙ append_assoc c.page (n ∷ []) d.waiting ∙ ap (λ w. c.page ++ w) (sym s.waiting)

    -- what is reached, and the places, of the page with the node
    reach_there : reach_from z.limit (terms_after z) (c.page ++ n ∷ []) ns ≡ reach_on z d
    reach_there = (λ i. reach_from z.limit (terms_after z) (sym s.page i) (rest i))

    places_there : places_on z d ≡ page_places z.limit (terms_after z) [] (c.page ++ n ∷ []) (glue_first ns)
    places_there = (λ i. page_places z.limit (terms_after z) [] (s.page i) (glue_first (sym rest i)))

    module _ (none : node_penalty k.lasting (glue_first ns) n ≡ None) where
      pub step_passes : GoesUntried z c d
      step_passes = record {
        reach = reach_first ∙ reach_pass z.limit (terms_after z) k.lasting c.page ns n lasting no_act none ∙ reach_there;
        places = places_there ∙ places_pass z.limit (terms_after z) k.lasting c.page ns n lasting no_act none ∙ sym places_first;
        whole = whole;
      }

      pub step_underway : (l : Course) → IsCourseOf z l (c.page ++ n ∷ []) (places_on z c) → Underway z l d.page d.waiting
      step_underway l h = record {
        course = subst (IsCourseOf z l d.page) (sym step_passes.places) (subst (λ p. IsCourseOf z l p (places_on z c)) (sym s.page) h);
        quiet = subst NoStop (sym step_passes.places) u.quiet;
      }

    module _ (p : ℤ) (some : node_penalty k.lasting (glue_first ns) n ≡ Some p) where
      pub step_goes : d.stopped ≡ false → is_stop (place_here z c.page p) ≡ false → GoesOn z n.line (place_here z c.page p) c d
      step_goes on go = record {
        reach = reach_first ∙ reach_try z.limit (terms_after z) k.lasting c.page ns n p lasting no_act some ∙ at_place_goes z.limit (terms_after z) c.page n ns _ (place_here z c.page p) go
            ∙ ap (also_reached (tried n.line (place_here z c.page p))) reach_there;
        places = places_there ∙ places_try z.limit (terms_after z) k.lasting c.page ns n p lasting no_act some ∙ ap (λ bs. bs ++ place_here z c.page p ∷ []) (sym places_first);
        whole = whole;
        stopped = on;
      }

      pub goes_underway : (l : Course) → d.stopped ≡ false → is_stop (place_here z c.page p) ≡ false → IsCourseOf z l (c.page ++ n ∷ []) (places_on z c ++ place_here z c.page p ∷ []) → Underway z l d.page d.waiting
      goes_underway l on go h = record {
        course = subst (IsCourseOf z l d.page) (sym (step_goes on go).places) (subst (λ q. IsCourseOf z l q (places_on z c ++ place_here z c.page p ∷ [])) (sym s.page) h);
        quiet = subst NoStop (sym (step_goes on go).places) (quiet-append z.limit (terms_after z) (places_on z c) (place_here z c.page p ∷ []) u.quiet (go, tt));
      }

  module _ (p : ℤ) (some : node_penalty k.lasting (glue_first ns) n ≡ Some p) (stop : is_stop (place_here z c.page p) ≡ true) where
    stop_reach : reach_on z c ≡ stopped_with c.page c.waiting n.line (place_here z c.page p)
    stop_reach = reach_first ∙ reach_try z.limit (terms_after z) k.lasting c.page ns n p lasting no_act some ∙ at_place_stops z.limit (terms_after z) c.page n ns _ (place_here z c.page p) stop
        ∙ ap (λ w. stopped_with c.page w n.line (place_here z c.page p)) (sym first)

    pub step_stops : (l : Course) (d : Contents) → d.page ≡ c.page → d.waiting ≡ c.waiting → d.stopped ≡ true → IsCourseOf z l c.page (places_on z c ++ place_here z c.page p ∷ []) → StopsThere z n.line (place_here z c.page p) l c d
    step_stops l d page waiting stopped h = record {
      reach = stop_reach ∙ (λ i. stopped_with (sym page i) (sym waiting i) n.line (place_here z c.page p));
      page = page;
      waiting = waiting;
      stopped = stopped;
      course = subst (λ q. IsCourseOf z l q (places_on z c ++ place_here z c.page p ∷ [])) (sym page) h;
      shrink = sym (ap (λ (x : Sums). x.shrink) h.scan.sums);
      reached = same_whole (λ w. breakpoints w.reached) ∙ whole_places z.limit (terms_after z) [] c.page c.waiting u.course.no_acts u.quiet ∙ ap (λ w. places_on z c ++ breakpoints w.reached) stop_reach;
      passed = same_whole (λ w. w.passed) ∙ (whole_end z.limit (terms_after z) [] c.page c.waiting u.course.no_acts u.quiet).passed ∙ ap (λ (w : Reach). w.passed) stop_reach ∙ sym page;
      beyond = same_whole (λ w. w.beyond) ∙ (whole_end z.limit (terms_after z) [] c.page c.waiting u.course.no_acts u.quiet).beyond ∙ ap (λ (w : Reach). w.beyond) stop_reach ∙ sym waiting;
    }
      where
        same_whole : {A : Type 0} (f : Reach → A) → f (reach_from z.limit (terms_after z) [] (d.page ++ d.waiting)) ≡ f (reach_from z.limit (terms_after z) [] (c.page ++ c.waiting))
        same_whole f = (λ i. f (reach_from z.limit (terms_after z) [] (page i ++ waiting i)))

-- ---- the place before a node is tried

module _ (z : Frozen) (k l : Course) (c : Contents) (held : ℕ → List Node) (n : Node) (p : ℤ) (t : Try) (line : ℕ) (u : Underway z k c.page c.waiting) (f : StepFits z c.page held n)
    (o : OfferIs z l c.page (places_on z c) t line p) (line_is : line ≡ n.line) where
  tried_made : t ≡ try_of n.line (place_here z c.page p) (least_cost (places_on z c))
  tried_made = o.made ∙ ap (λ i. try_of i (place_here z c.page p) (least_cost (places_on z c))) line_is

  stop_is : (int_le awful_bad t.cost || int_le t.penalty (negsuc 9999)) ≡ is_stop (place_here z c.page p)
  stop_is = ap (λ (x : Try). int_le awful_bad x.cost || int_le x.penalty (negsuc 9999)) tried_made

  pub tried_stops : (d : Contents) (ns : List PlainNode) → c.waiting ≡ plain_of held n ∷ ns → node_penalty k.lasting (glue_first ns) (plain_of held n) ≡ Some p → (int_le awful_bad t.cost || int_le t.penalty (negsuc 9999)) ≡ true
      → d.page ≡ c.page → d.waiting ≡ c.waiting → d.stopped ≡ true → TriesOn z t l c d
  tried_stops d ns first some stop page waiting stopped = record {
    line = n.line;
    place = place_here z c.page p;
    made = tried_made;
    goes = λ go. absurd (true≢false (sym (sym stop_is ∙ stop) ∙ go));
    stops = λ st. step_stops z k c (plain_of held n) ns first u (no_act held n.kind f.no_act) p some st l d page waiting stopped o.course;
  }

  pub tried_goes : (m : Course) (d : Contents) (ns : List PlainNode) → c.waiting ≡ plain_of held n ∷ ns → node_penalty k.lasting (glue_first ns) (plain_of held n) ≡ Some p → (int_le awful_bad t.cost || int_le t.penalty (negsuc 9999)) ≡ false
      → Shifted (plain_of held n) c d → d.stopped ≡ false → ((bs : List Breakpoint) → IsCourseOf z l c.page bs → IsCourseOf z m (c.page ++ plain_of held n ∷ []) bs) → TriesOn z t m c d
  tried_goes m d ns first some goes shifted on put = record {
    line = n.line;
    place = place_here z c.page p;
    made = tried_made;
    goes = λ go. (
      step_goes z k c (plain_of held n) ns first u (no_act held n.kind f.no_act) d shifted p some on go,
      goes_underway z k c (plain_of held n) ns first u (no_act held n.kind f.no_act) d shifted p some m on go (put (places_on z c ++ place_here z c.page p ∷ []) o.course),
    );
    stops = λ st. absurd (true≢false (sym st ∙ sym stop_is ∙ goes));
  }

-- the penalty of the place before the first waiting node
pub penalty_first : (held : ℕ → List Node) (lasting g : Bool) (o : Option ℤ) (xs ns : List Node) (n : Node) → xs ≡ n ∷ ns → act_of_kind n.kind ≡ None → g ≡ nodes_glue_first (drop 1 xs) → o ≡ penalty_by lasting g (shape_of n)
    → node_penalty lasting (glue_first (map (plain_of held) ns)) (plain_of held n) ≡ o
penalty_first held lasting g o xs ns n first none glue place =
    ap (λ b. node_penalty lasting b (plain_of held n)) (sym (glue ∙ ap (λ ys. nodes_glue_first (drop 1 ys)) first ∙ first_glue_is held ns)) ∙ penalty_is held lasting g n none ∙ sym place

-- the first waiting node, as the definitions see it
pub plain_first : (held : ℕ → List Node) (xs ns : List Node) (n : Node) → xs ≡ n ∷ ns → map (plain_of held) xs ≡ plain_of held n ∷ map (plain_of held) ns
plain_first held xs ns n e = ap (map (plain_of held)) e

-- the node passed
pub passed_step : (z : Frozen) (k l : Course) (c d : Contents) (held : ℕ → List Node) (n : Node) (ns : List PlainNode) → Underway z k c.page c.waiting → StepFits z c.page held n → c.waiting ≡ plain_of held n ∷ ns
    → node_penalty k.lasting (glue_first ns) (plain_of held n) ≡ None → Shifted (plain_of held n) c d → IsCourseOf z l (c.page ++ plain_of held n ∷ []) (places_on z c)
    → StepIs None z l c d
passed_step z k l c d held n ns u f first none shifted h = (
  step_passes z k c (plain_of held n) ns first u (no_act held n.kind f.no_act) d shifted none,
  step_underway z k c (plain_of held n) ns first u (no_act held n.kind f.no_act) d shifted none l h,
  shifted.stopped,
)
