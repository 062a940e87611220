-- From the start of a page on, the events of a builder are those of the whole page, and the page that fires is its own.
use Rattle.std.proofs.Common.{◌≡◌, refl, sym, subst, ◌∙◌, ap, ℕ, ◌+◌, ◌<◌, Bool, true, false, length, arith, List, [], ◌∷◌, ◌++◌, None, take, drop, append_assoc, append-nil}
use Rattle.std.specs.Prelude.{map, if◌then◌else◌}
use Rattle.std.proofs.lemmas.Bool.{true≢false}
use Rattle.std.proofs.lemmas.List.{length-append}
use Rattle.tb_pool.specs.Lists.{Lists}
use Rattle.tb_node.specs.declared.Node.{Node}
use Rattle.tb_node.specs.PlainNodes.{PlainNode, without_insertions}
use Rattle.tb_break.specs.Best.{Breakpoint, is_stop, least_cost, best_or}
use Rattle.tb_break.specs.PageTop.{pruned_nodes}
use Rattle.tb_builder.specs.LegalPlaces.{page_places, glue_first}
use Rattle.tb_insert.specs.Account.{Frozen, labelled, terms_after}
use Rattle.tb_builder.specs.declared.Ask.{Ask}
use Rattle.tb_builder.specs.declared.Try.{Try}
use Rattle.tb_builder.specs.declared.Event.{Event}
use Rattle.tb_builder.specs.declared.Event.TheVariants as events
use Rattle.tb_builder.specs.Reach.{Reached, acted, tried, Reach, also_reached, reach_from, holds_box, laid_out, breakpoints, try_of}
use Rattle.tb_builder.specs.FiredPages.{Boxed, Fired, last_shrink, no_place, penalty_at, line_at, with_spent_break, box_after, held_insertions, frozen_for}
use Rattle.tb_builder.specs.Contents.{Contents, frozen_of, frozen_or, laid, reach_ahead, reach_whole, places_of, frozen_with}
use Rattle.tb_builder.specs.PageEvents.{IsTheStop, TriedIs, FirstIs, KeepsBoxes, PageIs, after_fired, FiresWith, NextIs}
use Rattle.tb_builder.specs.PageProgress.{page_reach, after_all, KeepsStart, HasCome, ComesToTry, ComesTo, IsNextOfPage}
use Rattle.tb_builder.proofs.Turns.TurnLemmas.{start-frozen}

breakpoints-append : (rs qs : List Reached) → breakpoints (rs ++ qs) ≡ breakpoints rs ++ breakpoints qs
breakpoints-append [] qs = refl
breakpoints-append (acted a ∷ rs) qs = breakpoints-append rs qs
breakpoints-append (tried line b ∷ rs) qs = ap (λ bs. b ∷ bs) (breakpoints-append rs qs)

-- one more was reached
also_after : (rs : List Reached) (r : Reached) (w : Reach) → after_all rs (also_reached r w) ≡ after_all (rs ++ r ∷ []) w
also_after rs r w = ap (λ qs. with_reached qs) (sym (append_assoc rs (r ∷ []) w.reached))
  where
    with_reached : List Reached → Reach
    with_reached qs = record w { reached = qs }

-- ---- the start of a page

pub paging_begins : (c : Contents) (ask : Ask) → c.page ≡ [] → c.frozen ≡ None → c.stopped ≡ false → HasCome c [] c ask
paging_begins c ask page frozen going = record {
  stays = record { classes = refl; boxes = refl; held = refl; made = ap (λ o. frozen_with o ask) frozen };
  goes = λ on. record {
    reach = (λ i. reach_from ask.max_depth (terms_after (frozen_for ask c.classes c.boxes)) [] (laid_out ask.top_skip (page i) c.waiting))
        ∙ sym (λ i. reach_from (same i).limit (terms_after (same i)) (page i) (if holds_box (page i) then c.waiting else pruned_nodes ask.top_skip c.waiting));
    places = (λ i. page_places (frozen_of c ask).limit (terms_after (frozen_of c ask)) [] (page i) (glue_first c.waiting));
  };
  stops = λ off. absurd (true≢false (sym off ∙ going));
}
  where
    same : frozen_of c ask ≡ frozen_for ask c.classes c.boxes
    same = ap (λ o. frozen_or o ask c.classes c.boxes) frozen

-- ---- the next event

-- the page that fires, by the places, the nodes passed and those beyond the stop
abbrev fired_with : Frozen → List Boxed → List Breakpoint → List PlainNode → List PlainNode → Fired
fired_with = λ z boxes bs passed beyond.
    let b = best_or no_place bs in
    let rest = drop b.place passed ++ beyond in
    let ls = labelled z (take b.place passed) in
    record {
      body = without_insertions (take b.place passed);
      boxes = map (box_after ls) boxes;
      held = held_insertions ls;
      rest = with_spent_break rest;
      penalty = penalty_at rest;
      cost = b.cost;
      size = b.goal;
      shrink = last_shrink bs;
      line = line_at rest;
    }

module _ (s : Contents) (rs : List Reached) (c d : Contents) (ask : Ask) (h : HasCome s rs c ask) where
  -- no stop was tried before
  module _ (on : c.stopped ≡ false) (k : KeepsBoxes c d ask) where
    stays_on : KeepsStart s d ask
    stays_on = record { classes = k.classes ∙ h.stays.classes; boxes = k.boxes ∙ h.stays.boxes; held = k.held ∙ h.stays.held; made = k.made ∙ h.stays.made }

    comes_on : (r : Reached) → reach_ahead c ask ≡ also_reached r (reach_ahead d ask) → places_of d ask ≡ breakpoints rs ++ breakpoints (r ∷ []) → d.stopped ≡ false → HasCome s (rs ++ r ∷ []) d ask
    comes_on r reach places going = record {
      stays = stays_on;
      goes = λ now. record {
        reach = (h.goes on).reach ∙ ap (after_all rs) reach ∙ also_after rs r (reach_ahead d ask);
        places = places ∙ sym (breakpoints-append rs (r ∷ []));
      };
      stops = λ off. absurd (true≢false (sym off ∙ going));
    }

    comes_stop : (line : ℕ) (b : Breakpoint) → IsTheStop (laid c ask) (reach_ahead c ask) (places_of c ask) ask line b d → HasCome s (rs ++ tried line b ∷ []) d ask
    comes_stop line b g = record {
      stays = stays_on;
      goes = λ going. absurd (true≢false (sym g.stopped ∙ going));
      stops = λ off. record {
        reach = whole;
        fired = (λ i. fired_with (start-frozen stays_on i) (stays_on.boxes i) (same_places i) (g.passed i) (g.beyond i))
            ∙ sym (λ i. fired_with (frozen_for ask s.classes s.boxes) s.boxes (breakpoints (whole i).reached) (whole i).passed (whole i).beyond);
        whole = g.still ∙ sym g.whole;
      };
    }
      where
        whole : page_reach s ask ≡ record { reached = rs ++ tried line b ∷ []; passed = d.page; beyond = d.waiting; fires = true }
        whole = (h.goes on).reach ∙ ap (after_all rs) g.reach

        same_places : breakpoints (reach_whole d ask).reached ≡ breakpoints (rs ++ tried line b ∷ [])
        same_places = g.reached ∙ ap (λ bs. bs ++ b ∷ []) (h.goes on).places ∙ sym (breakpoints-append rs (tried line b ∷ []))

    tries : (t : Try) (f : TriedIs t (laid c ask) (reach_ahead c ask) (places_of c ask) ask d) (b : Bool) → is_stop f.place ≡ b → ComesToTry t s rs c ask d
    tries t f true e = let g = f.stops e in record {
      line = f.line;
      place = f.place;
      made = f.made ∙ ap (λ bs. try_of f.line f.place (least_cost bs)) (h.goes on).places;
      come = comes_stop f.line f.place g;
      whole = g.still;
      going = on;
      stop = g.stopped ∙ sym e;
    }
    tries t f false e = let g = f.goes e in record {
      line = f.line;
      place = f.place;
      made = f.made ∙ ap (λ bs. try_of f.line f.place (least_cost bs)) (h.goes on).places;
      come = comes_on (tried f.line f.place) g.reach (g.places ∙ ap (λ bs. bs ++ f.place ∷ []) (h.goes on).places) g.stopped;
      whole = g.whole;
      going = on;
      stop = g.stopped ∙ sym e;
    }

    comes_first : (e : Event) (t : Lists Node) → FirstIs e (laid c ask) (reach_ahead c ask) (places_of c ask) ask d → ComesTo e s rs c ask d t
    comes_first (events.Try x) t f = tries x f (is_stop f.place) refl
    comes_first (events.Act a) t f = record {
      come = comes_on (acted a) f.reach (f.places ∙ (h.goes on).places ∙ sym (append-nil (breakpoints rs))) f.stopped;
      whole = f.whole;
      going = on;
      stop = f.stopped;
    }
    comes_first (events.Fired p) t f = absurd f
    comes_first events.Empty t f = record {
      reach = (h.goes on).reach ∙ ap (after_all rs) f.reach ∙ ap (λ qs. ended qs) (append-nil rs);
      waiting = f.waiting;
      stays = stays_on;
      whole = f.whole;
      going = on;
      stop = f.stopped;
    }
      where
        ended : List Reached → Reach
        ended qs = record { reached = qs; passed = d.page; beyond = []; fires = false }

  -- a stop was tried before
  comes_page : (e : Event) (t : Lists Node) → c.stopped ≡ true → FiresWith e c ask d t → ComesTo e s rs c ask d t
  comes_page (events.Fired p) t off f =
      let same = (h.stops off).fired in record { page = subst (λ x. PageIs p x t) same f.page; after = f.after ∙ ap (after_fired c) same; stopped = off }
  comes_page e t off f = absurd f

  comes_by : (b : Bool) (e : Event) (t : Lists Node) → c.stopped ≡ b → NextIs b e c ask d t → ComesTo e s rs c ask d t
  comes_by true e t off n = comes_page e t off n
  comes_by false e t on n = comes_first on n.1 e t n.0

-- what `next` returns is the next of the whole page
pub paging_next : (e : Event) (c d : Contents) (ask : Ask) (t : Lists Node) → NextIs c.stopped e c ask d t → IsNextOfPage e c ask d t
paging_next e c d ask t n s rs h = comes_by s rs c d ask h c.stopped e t refl n

-- ---- how much of the page is left

-- how many calls are left, at most, with so much ahead
abbrev pub calls_left : Bool → ℕ → ℕ
calls_left true n = 0
calls_left false n = n + 1

-- after one more event fewer are left
pub one_fewer : (s : Contents) (rs : List Reached) (r : Reached) (c d : Contents) (ask : Ask) → HasCome s rs c ask → c.stopped ≡ false → HasCome s (rs ++ r ∷ []) d ask
    → calls_left d.stopped (length (reach_ahead d ask).reached) < calls_left c.stopped (length (reach_ahead c ask).reached)
one_fewer s rs r c d ask h on k = subst (λ u. calls_left d.stopped (length (reach_ahead d ask).reached) < calls_left u (length (reach_ahead c ask).reached)) (sym on) (by_stop d.stopped refl)
  where
    by_stop : (u : Bool) → d.stopped ≡ u → calls_left u (length (reach_ahead d ask).reached) < length (reach_ahead c ask).reached + 1
    by_stop true off = omega arith
    by_stop false going =
        let a = ap (λ (w : Reach). length w.reached) (h.goes on).reach ∙ length-append rs (reach_ahead c ask).reached in
        let b = ap (λ (w : Reach). length w.reached) (k.goes going).reach ∙ length-append (rs ++ r ∷ []) (reach_ahead d ask).reached in
        let e = length-append rs (r ∷ []) in
        omega (arith, a, b, e)
