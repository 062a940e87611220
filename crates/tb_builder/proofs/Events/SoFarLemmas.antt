-- What is reached of a page so far and what waits, for a page as the builder keeps it: its places, and then what is reached past it.
use Rattle.std.proofs.Common.{◌≡◌, refl, sym, subst, ◌∙◌, ap, ℕ, ℤ, Bool, true, false, List, [], ◌∷◌, ◌++◌, Option, None, Some, append_assoc, append-nil}
use Rattle.std.specs.Prelude.{if◌then◌else◌}
use Rattle.std.proofs.lemmas.Bool.{true≢false}
use Rattle.tb_pool.specs.Lists.{Lists}
use Rattle.tb_node.specs.declared.Node.{Node}
use Rattle.tb_node.specs.PlainNodes.{PlainNode}
use Rattle.tb_break.specs.Places.{ends_lasting}
use Rattle.tb_break.specs.Best.{Breakpoint}
use Rattle.tb_break.specs.Split.{with_place}
use Rattle.tb_break.specs.PageTop.{pruned_nodes}
use Rattle.tb_insert.specs.Terms.{Terms}
use Rattle.tb_insert.specs.Account.{Frozen, terms_after}
use Rattle.tb_builder.specs.declared.Ask.{Ask}
use Rattle.tb_builder.specs.declared.Builder.{Builder}
use Rattle.tb_builder.specs.declared.Course.{Course}
use Rattle.tb_builder.specs.Reach.{Reached, tried, acted, Reach, reach_from, reach_at, breakpoints, page_place, holds_box}
use Rattle.tb_builder.specs.LegalPlaces.{page_shapes, glue_first, glue_or, node_penalty, page_places, NoStop, NoActs}
use Rattle.tb_builder.specs.FiredPages.{frozen_for}
use Rattle.tb_builder.specs.Contents.{Contents, contents_of, frozen_or, frozen_of, ahead_of, places_of, frozen_with}
use Rattle.tb_builder.specs.Courses.{AllLasting, IsPageSoFar, IsSound}
use Rattle.tb_builder.specs.PageProgress.{after_all, HasCome}
use Rattle.tb_builder.proofs.LegalPlaces.PageLemmas.{reach_next, at_place_goes}
use Rattle.tb_builder.proofs.LegalPlaces.ReachLemmas.{glue_after, later_quiet}
use Rattle.tb_builder.proofs.Turns.TurnLemmas.{all_lasting, lasting_places}
use Rattle.tb_builder.proofs.LegalPlaces.CourseLemmas.{loose_acts}

-- only places, no act
abbrev pub AllTried : List Reached → Type 0
AllTried [] = Unit {0}
AllTried (acted a ∷ rs) = ⊥
AllTried (tried line b ∷ rs) = AllTried rs

module _ (limit : ℤ) (terms : List PlainNode → Terms) where
  -- the place before a node, if it is legal, and those after it
  abbrev tries_by : ℕ → (ℤ → Breakpoint) → List Reached → Option ℤ → List Reached
  tries_by line at rs None = rs
  tries_by line at rs (Some p) = tried line (at p) ∷ rs

  -- the legal places of a page, with their lines
  abbrev tries : List PlainNode → List PlainNode → Bool → List Reached
  tries before [] g = []
  tries before (x ∷ xs) g = tries_by x.line (page_place limit terms before) (tries (before ++ x ∷ []) xs g) (node_penalty (ends_lasting (page_shapes before)) (glue_or g xs) x)

  tries-places : (before page : List PlainNode) (g : Bool) → breakpoints (tries before page g) ≡ page_places limit terms before page g
  tries-places before [] g = refl
  tries-places before (x ∷ xs) g = by_penalty (node_penalty (ends_lasting (page_shapes before)) (glue_or g xs) x) (tries-places (before ++ x ∷ []) xs g)
    where
      by_penalty : (o : Option ℤ) → breakpoints (tries (before ++ x ∷ []) xs g) ≡ page_places limit terms (before ++ x ∷ []) xs g
          → breakpoints (tries_by x.line (page_place limit terms before) (tries (before ++ x ∷ []) xs g) o) ≡ with_place o (page_place limit terms before) (page_places limit terms (before ++ x ∷ []) xs g)
      by_penalty None e = e
      by_penalty (Some p) e = ap (λ bs. page_place limit terms before p ∷ bs) e

  tries-tried : (before page : List PlainNode) (g : Bool) → AllTried (tries before page g)
  tries-tried before [] g = tt
  tries-tried before (x ∷ xs) g = by_penalty (node_penalty (ends_lasting (page_shapes before)) (glue_or g xs) x) (tries-tried (before ++ x ∷ []) xs g)
    where
      by_penalty : (o : Option ℤ) → AllTried (tries (before ++ x ∷ []) xs g) → AllTried (tries_by x.line (page_place limit terms before) (tries (before ++ x ∷ []) xs g) o)
      by_penalty None e = e
      by_penalty (Some p) e = e

  step : (before : List PlainNode) (x : PlainNode) (rest : List PlainNode) (later w : Reach) (o : Option ℤ) (places : List Breakpoint) (rs : List Reached)
      → later ≡ after_all rs w → NoStop (with_place o (page_place limit terms before) places) → reach_at limit terms before x rest later o ≡ after_all (tries_by x.line (page_place limit terms before) rs o) w
  step before x rest later w None places rs e q = e
  step before x rest later w (Some p) places rs e q =
      at_place_goes limit terms before x rest later (page_place limit terms before p) q.0 ∙ ap (λ (v : Reach). with_try v) e
    where
      with_try : Reach → Reach
      with_try v = record v { reached = tried x.line (page_place limit terms before p) ∷ v.reached }

  -- a page without a stop is passed
  reach-past : (before page waiting : List PlainNode) → NoActs page → NoStop (page_places limit terms before page (glue_first waiting))
      → reach_from limit terms before (page ++ waiting) ≡ after_all (tries before page (glue_first waiting)) (reach_from limit terms (before ++ page) waiting)
  reach-past before [] waiting h q = ap (λ b. reach_from limit terms b waiting) (sym (append-nil before))
  reach-past before (x ∷ xs) waiting h q =
      reach_next limit terms before (xs ++ waiting) x h.0
      ∙ ap (λ g. reach_at limit terms before x (xs ++ waiting) (reach_from limit terms (before ++ x ∷ []) (xs ++ waiting)) (node_penalty (ends_lasting (page_shapes before)) g x)) (glue_after limit terms xs waiting h.1)
      ∙ step before x (xs ++ waiting) (reach_from limit terms (before ++ x ∷ []) (xs ++ waiting)) (reach_from limit terms (before ++ x ∷ xs) waiting) (node_penalty (ends_lasting (page_shapes before)) (glue_or (glue_first waiting) xs) x)
      (page_places limit terms (before ++ x ∷ []) xs (glue_first waiting)) (tries (before ++ x ∷ []) xs (glue_first waiting))
      (reach-past (before ++ x ∷ []) xs waiting h.1 (later_quiet limit terms (node_penalty (ends_lasting (page_shapes before)) (glue_or (glue_first waiting) xs) x) (page_place limit terms before) _ q)
      ∙ ap (λ b. after_all (tries (before ++ x ∷ []) xs (glue_first waiting)) (reach_from limit terms b waiting)) (append_assoc before (x ∷ []) xs)) q

-- ---- the page of a builder

-- these places were reached, and the rest is ahead
pub record ComesSoFar (c : Contents) (ask : Ask) : Type 0 where
  pub rs : List Reached
  pub come : HasCome c rs c ask
  pub tried : AllTried rs

module _ (c : Contents) (ask : Ask) (going : c.stopped ≡ false) (made : frozen_with c.frozen ask ≡ ask) (acts : NoActs c.page) (closed : holds_box c.page ≡ false → AllLasting c.page)
    (quiet : NoStop (places_of c ask)) where
  abbrev z : Frozen
  z = frozen_of c ask

  frozen : z ≡ frozen_for ask c.classes c.boxes
  frozen = ap (λ a. frozen_for a c.classes c.boxes) made

  same-places : page_places z.limit (terms_after z) [] c.page (glue_first (ahead_of c ask)) ≡ places_of c ask
  same-places = by_box (holds_box c.page) refl
    where
      by_box : (b : Bool) → holds_box c.page ≡ b → page_places z.limit (terms_after z) [] c.page (glue_first (if b then c.waiting else pruned_nodes ask.top_skip c.waiting)) ≡ page_places z.limit (terms_after z) [] c.page (glue_first c.waiting)
      by_box true e = refl
      by_box false e = lasting_places z.limit (terms_after z) [] c.page _ (closed e) ∙ sym (lasting_places z.limit (terms_after z) [] c.page _ (closed e))

  comes-quiet : ComesSoFar c ask
  comes-quiet = record {
    rs = tries z.limit (terms_after z) [] c.page (glue_first (ahead_of c ask));
    come = record {
      stays = record { classes = refl; boxes = refl; held = refl; made = made };
      goes = λ on. record {
        reach = (λ i. reach_from (sym frozen i).limit (terms_after (sym frozen i)) [] (c.page ++ ahead_of c ask)) ∙ reach-past z.limit (terms_after z) [] c.page (ahead_of c ask) acts (subst NoStop (sym same-places) quiet);
        places = sym (tries-places z.limit (terms_after z) [] c.page (glue_first (ahead_of c ask)) ∙ same-places);
      };
      stops = λ off. absurd (true≢false (sym off ∙ going));
    };
    tried = tries-tried z.limit (terms_after z) [] c.page (glue_first (ahead_of c ask));
  }

-- the places of a page that a builder keeps, by whether its goal is frozen
stands-quiet : (o : Option Ask) (k : Course) (c : Contents) (ask : Ask) → c.frozen ≡ o → IsPageSoFar o false k c → NoActs c.page × NoStop (places_of c ask)
stands-quiet None k c ask e st = (loose_acts c.page st.loose, subst NoStop (sym (lasting_places (frozen_of c ask).limit (terms_after (frozen_of c ask)) [] c.page (glue_first c.waiting) (all_lasting c.page st.loose))) tt)
stands-quiet (Some f) k c ask e st =
    (st.course.no_acts, subst (λ (o : Option Ask). NoStop (page_places (frozen_or o ask c.classes c.boxes).limit (terms_after (frozen_or o ask c.classes c.boxes)) [] c.page (glue_first c.waiting))) (sym e) st.quiet)

-- what is reached of the page so far and what waits
pub comes-so-far : (b : Builder) (s : Lists Node) (ask : Ask) → IsSound b s → b.stopped ≡ false → frozen_with b.frozen ask ≡ ask → ComesSoFar (contents_of b s) ask
comes-so-far b s ask sound going made =
    let quiet = stands-quiet b.frozen b.course (contents_of b s) ask refl (subst (λ x. IsPageSoFar b.frozen x b.course (contents_of b s)) going sound.page) in
    comes-quiet (contents_of b s) ask going made quiet.0 (λ e. sound.closed (sound.opened ∙ e)) quiet.1
