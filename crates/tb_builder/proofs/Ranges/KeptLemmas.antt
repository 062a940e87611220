-- The contents of a builder stay sized: `next` may be called, and each event that it returns, and a page that fires,
-- leave sized contents with no more nodes than before.
use Rattle.std.proofs.Common.{◌≡◌, refl, sym, subst, ◌∙◌, ap, ◌+◌, ◌≤◌, ℤ, pos, Bool, true, false, List, [], ◌∷◌, ◌++◌, map, Option, None, Some, append-nil, arith}
use Rattle.std.specs.Prelude.{All, if◌then◌else◌}
use Rattle.std.proofs.lemmas.List.{length-map}
use Rattle.std.proofs.lemmas.List.Elements.{All-append, All-tail}
use Rattle.tb_node.specs.declared.Act.{Act}
use Rattle.tb_node.specs.Fit.{IsExtent}
use Rattle.tb_node.specs.PlainNodes.{pen, PlainKind, plain, act, PlainNode, node_shape}
use Rattle.tb_break.specs.Best.{Breakpoint, is_stop}
use Rattle.tb_break.specs.PageTop.{pruned_nodes}
use Rattle.tb_insert.specs.Account.{ClassBox, terms_after}
use Rattle.tb_builder.specs.declared.Ask.{Ask}
use Rattle.tb_builder.specs.declared.Event.{Event}
use Rattle.tb_builder.specs.declared.Event.TheVariants as events
use Rattle.tb_builder.specs.Reach.{Reach, holds_box, laid_out, breakpoints}
use Rattle.tb_builder.specs.FiredPages.{spent_kind, with_spent_break, from_break}
use Rattle.tb_builder.specs.Contents.{Contents, frozen_with, frozen_of, laid, reach_ahead, reach_whole, places_of, node_count, box_count}
use Rattle.tb_builder.specs.Ownership.{ClassesFit}
use Rattle.tb_builder.specs.PageEvents.{AskFits, NextFits, KeepsBoxes, Without, FirstIs, fired_page, after_fired}
use Rattle.tb_builder.specs.Pageable.{IsSizedOnPage, IsSizedClass, IsSizedBox}
use Rattle.tb_builder.specs.SizedContents.{IsSizedAsk, IsSizedMake, IsSizedFreeze, laid_by, whole_list, IsSizedContents, whole_count, AreBoxesOf, fired_count}
use Rattle.tb_builder.proofs.LegalPlaces.ChargeLemmas.{few_classes}
use Rattle.tb_builder.proofs.Ranges.PageableLemmas.{count-append, IsSizedFrozen, class_boxes_sized, class_boxes_total, boxes_fit, laid_fits, pruned_sized, pruned_nodes_longer, goal_amount}
use Rattle.tb_builder.proofs.Cutting.VanishLemmas.{BeginsVanishing, break_vanishes}
use Rattle.tb_builder.proofs.Ranges.PrunedLemmas.{no_skip, pruned_again, pruned_same, nodes_no_longer, front-sized, back-sized, laid_with, whole_by, whole_by-is}
use Rattle.tb_builder.proofs.Ranges.SizedLemmas.{FiredSized, fired_sized}
use Rattle.tb_builder.proofs.FiredPages.FiredCounts.{fired_fewer}
use Rattle.tb_node.proofs.FitLemmas.{extent_small}

-- ---- what `next` requires

laid_again : (s t : Bool) (top : ℤ) (page waiting : List PlainNode) → IsExtent top → All IsSizedOnPage (whole_by s t page waiting)
    → All IsSizedOnPage (laid_with t top page waiting) × (node_count (laid_with t top page waiting) ≤ node_count (whole_by s t page waiting) + 1)
laid_again true true top page waiting d h = (h, omega arith)
laid_again true false top page waiting d h =
    let c = count-append page waiting in
    let e = count-append page (pruned_nodes top waiting) in
    let l = pruned_nodes_longer top waiting in
    (All-append IsSizedOnPage page (pruned_nodes top waiting) (front-sized page waiting h) (pruned_sized top waiting d (back-sized page waiting h)), omega (arith, c, e, l))
laid_again false true top page waiting d h = (h, omega arith)
laid_again false false top page waiting d h =
    let c = count-append page (pruned_nodes (pos 0) waiting) in
    let e = count-append page (pruned_nodes top waiting) in
    let l = pruned_same (pos 0) top waiting in
    (All-append IsSizedOnPage page (pruned_nodes top waiting) (front-sized page (pruned_nodes (pos 0) waiting) h) (pruned_again (pos 0) top d waiting (back-sized page (pruned_nodes (pos 0) waiting) h)), omega (arith, c, e, l))

asked_fits : (ask : Ask) → IsSizedAsk ask → AskFits ask
asked_fits ask h = record { goal = goal_amount ask.goal h.goal; depth = extent_small ask.max_depth h.depth; depth_low = h.depth.low; top_skip = extent_small ask.top_skip h.top_skip }

-- what the page is made for is sized
made_sized : (o : Option Ask) (ask : Ask) → IsSizedAsk ask → IsSizedFreeze o → IsSizedMake (frozen_with o ask)
made_sized None ask a h = record { goal = a.goal; depth = a.depth; foot_skip = a.foot_skip }
made_sized (Some f) ask a h = h

module _ (c : Contents) (ask : Ask) (sized : IsSizedContents c) (asked : IsSizedAsk ask) where
  laid_both : All IsSizedOnPage (laid c ask) × (node_count (laid c ask) ≤ node_count (whole_list c) + 1)
  laid_both =
      let e = sym (whole_by-is c.stopped c.page c.waiting) in
      let l = laid_again c.stopped (holds_box c.page) ask.top_skip c.page c.waiting asked.top_skip (subst (All IsSizedOnPage) e sized.nodes) in
      (l.0, omega (arith, l.1, ap node_count e))

  -- the page so far and what follows it
  pub laid-sized : All IsSizedOnPage (laid c ask)
  laid-sized = laid_both.0

  frozen_sized : box_count c.boxes ≤ 4194304 → IsSizedFrozen (frozen_of c ask)
  frozen_sized few =
      let made = frozen_with c.frozen ask in
      let fits = made_sized c.frozen ask asked sized.frozen in
      record {
        goal = fits.goal;
        limit = fits.depth;
        classes = class_boxes_sized made c.classes c.boxes fits.foot_skip sized.classes sized.boxes few;
        few = let a = few_classes c.classes sized.classes_fit in omega (arith, a, length-map {B = ClassBox} c.classes);
        total = class_boxes_total made c.classes c.boxes sized.classes_fit sized.boxes few;
      }

  -- what `next` requires, for at most 2^22 nodes and the glue at the top
  pub kept-fits : whole_count c ≤ 4194305 → box_count c.boxes ≤ 4194304 → NextFits c ask
  kept-fits few few_boxed = record {
    asked = asked_fits ask asked;
    boxes = boxes_fit c.boxes sized.boxes few_boxed;
    laid_fits = laid_fits (frozen_of c ask) (laid c ask) (frozen_sized few_boxed) laid_both.0 (omega (arith, laid_both.1, few));
  }

-- ---- the page so far and what follows it, under another top skip

other_sized : (t : Bool) (u v : ℤ) (page waiting : List PlainNode) → IsExtent v → All IsSizedOnPage (laid_with t u page waiting) → All IsSizedOnPage (laid_with t v page waiting)
other_sized true u v page waiting d h = h
other_sized false u v page waiting d h =
    All-append IsSizedOnPage page (pruned_nodes v waiting) (front-sized page (pruned_nodes u waiting) h) (pruned_again u v d waiting (back-sized page (pruned_nodes u waiting) h))

other_count : (t : Bool) (u v : ℤ) (page waiting : List PlainNode) → node_count (laid_with t v page waiting) ≡ node_count (laid_with t u page waiting)
other_count true u v page waiting = refl
other_count false u v page waiting = count-append page (pruned_nodes v waiting) ∙ ap (λ n. node_count page + n) (pruned_same v u waiting) ∙ sym (count-append page (pruned_nodes u waiting))

-- ---- what stays

frozen_by : (o : Option Ask) (ask : Ask) → IsSizedMake (frozen_with o ask) → IsSizedFreeze o
frozen_by None ask h = tt
frozen_by (Some f) ask h = h

stays_sized : (c d : Contents) (ask : Ask) → IsSizedAsk ask → IsSizedContents c → KeepsBoxes c d ask → All IsSizedOnPage (whole_list d) → IsSizedContents d
stays_sized c d ask a r s h = record {
  nodes = h;
  held = subst (All IsSizedOnPage) (sym s.held) r.held;
  boxes = subst (All IsSizedBox) (sym s.boxes) r.boxes;
  classes = subst (All IsSizedClass) (sym s.classes) r.classes;
  classes_fit = subst ClassesFit (sym s.classes) r.classes_fit;
  frozen = frozen_by d.frozen ask (subst IsSizedMake (sym s.made) (made_sized c.frozen ask a r.frozen));
}

stays_fewer : (c d : Contents) (ask : Ask) → KeepsBoxes c d ask → node_count (whole_list d) ≤ node_count (whole_list c) → whole_count d ≤ whole_count c
stays_fewer c d ask s h = let a = ap node_count s.held in let b = ap box_count s.boxes in omega (arith, a, b, h)

-- ---- an event

-- the page so far and what waits as one list are sized, and have at most as many nodes
abbrev IsNow : Contents → List PlainNode → Type 0
IsNow d ns = All IsSizedOnPage (whole_list d) × (node_count (whole_list d) ≤ node_count ns)

module _ (ask : Ask) (d : Contents) (ns : List PlainNode) (h : All IsSizedOnPage ns) where
  -- the page so far and what follows it are that list, perhaps without one act
  goes_now : (ms : List PlainNode) → d.stopped ≡ false → laid d ask ≡ ms → All IsSizedOnPage ms → node_count ms ≤ node_count ns → IsNow d ns
  goes_now ms going e r fewer =
      let same : laid_out (pos 0) d.page d.waiting ≡ whole_list d = sym (ap (λ t. laid_by t d.page d.waiting) going) in
      let a = other_count (holds_box d.page) ask.top_skip (pos 0) d.page d.waiting in
      let b = ap node_count e in
      let c = ap node_count same in
      (subst (All IsSizedOnPage) same (other_sized (holds_box d.page) ask.top_skip (pos 0) d.page d.waiting no_skip (subst (All IsSizedOnPage) (sym e) r)), omega (arith, a, b, c, fewer))

  stops_now : d.stopped ≡ true → d.page ++ d.waiting ≡ ns → IsNow d ns
  stops_now stop e =
      let same : ns ≡ whole_list d = sym (ap (λ t. laid_by t d.page d.waiting) stop ∙ e) in
      let a = ap node_count same in
      (subst (All IsSizedOnPage) same h, omega (arith, a))

  act_now : (a : Act) → d.stopped ≡ false → Without a ns (laid d ask) → IsNow d ns
  act_now a going w =
      let r : All IsSizedOnPage (w.before ++ record { line = w.line; kind = act a } ∷ w.after) = subst (All IsSizedOnPage) w.was h in
      let e = ap node_count w.was in
      let f = count-append w.before (record { line = w.line; kind = act a } ∷ w.after) in
      let g = count-append w.before w.after in
      goes_now (w.before ++ w.after) going w.left (All-append IsSizedOnPage w.before w.after (front-sized w.before (record { line = w.line; kind = act a } ∷ w.after) r) (All-tail IsSizedOnPage (record { line = w.line; kind = act a }) w.after (back-sized w.before (record { line = w.line; kind = act a } ∷ w.after) r))) (omega (arith, e, f, g))

  empty_now : d.stopped ≡ false → d.waiting ≡ [] → d.page ≡ ns → IsNow d ns
  empty_now going none e =
      goes_now ns going (ap (λ w. d.page ++ (if holds_box d.page then w else pruned_nodes ask.top_skip w)) none ∙ by_box (holds_box d.page) ∙ append-nil d.page ∙ e) h (omega arith)
    where
      by_box : (t : Bool) → d.page ++ (if t then [] else pruned_nodes ask.top_skip []) ≡ d.page ++ []
      by_box true = refl
      by_box false = refl

  first_now : (v : Event) (w : Reach) (bs : List Breakpoint) → FirstIs v ns w bs ask d → IsNow d ns
  first_now (events.Try t) w bs f = by_stop (is_stop f.place) refl
    where
      by_stop : (t : Bool) → is_stop f.place ≡ t → IsNow d ns
      by_stop true e = stops_now (f.stops e).stopped (f.stops e).whole
      by_stop false e = goes_now ns (f.goes e).stopped (f.goes e).whole h (omega arith)
  first_now (events.Act a) w bs f = act_now a f.stopped f.whole
  first_now (events.Fired p) w bs f = absurd f
  first_now events.Empty w bs f = empty_now f.stopped f.waiting f.whole

module _ (c d : Contents) (ask : Ask) (v : Event) (asked : IsSizedAsk ask) (r : IsSizedContents c) (going : c.stopped ≡ false) (first : FirstIs v (laid c ask) (reach_ahead c ask) (places_of c ask) ask d) (stays : KeepsBoxes c d ask) where
  now : IsNow d (laid c ask)
  now = first_now ask d (laid c ask) (laid-sized c ask r asked) v (reach_ahead c ask) (places_of c ask) first

  -- after a place was tried, an act was handed out or nothing waits any more
  pub event-sized : IsSizedContents d
  event-sized = stays_sized c d ask asked r stays now.0

  pub event-fewer : whole_count d ≤ whole_count c
  event-fewer =
      let a = other_count (holds_box c.page) (pos 0) ask.top_skip c.page c.waiting in
      let b = ap (λ t. node_count (laid_by t c.page c.waiting)) going in
      stays_fewer c d ask stays (omega (arith, now.1, a, b))

-- ---- a page fires

spent_vanishes : (ns : List PlainNode) → BeginsVanishing (map node_shape ns) → BeginsVanishing (map node_shape (with_spent_break ns))
spent_vanishes [] h = tt
spent_vanishes (n ∷ ns) h = by_kind n.kind h
  where
    by_kind : (k : PlainKind) → BeginsVanishing (map node_shape (record { line = n.line; kind = k } ∷ ns)) → BeginsVanishing (map node_shape (record { line = n.line; kind = spent_kind k } ∷ ns))
    by_kind (plain (pen p)) h = refl
    by_kind k h = h

module _ (c : Contents) (ask : Ask) (r : IsSizedContents c) (stopped : c.stopped ≡ true) where
  stands : All IsSizedOnPage (c.page ++ c.waiting)
  stands = subst (λ t. All IsSizedOnPage (laid_by t c.page c.waiting)) stopped r.nodes

  -- the page that fires after a stop
  pub stopped-sized : FiredSized (fired_page c ask)
  stopped-sized = fired_sized c ask (front-sized c.page c.waiting stands) (back-sized c.page c.waiting stands) r.boxes

  module _ (classes : ClassesFit c.classes) (boxed : AreBoxesOf c.classes c.boxes) where
    pub stopped-fewer : fired_count (fired_page c ask) + node_count c.held ≤ whole_count c
    stopped-fewer =
        let a = fired_fewer c ask classes boxed in
        let b = ap (λ t. node_count (laid_by t c.page c.waiting)) stopped in
        omega (arith, a, b)

    -- the body's nodes are no longer the builder's
    pub after-fewer : (breakpoints (reach_whole c ask).reached ≡ [] → ⊥) → node_count (fired_page c ask).body + whole_count (after_fired c (fired_page c ask)) + node_count c.held ≤ whole_count c
    after-fewer some =
        let a = stopped-fewer in
        let b = nodes_no_longer (pos 0) (fired_page c ask).rest (spent_vanishes (from_break (reach_whole c ask)) (break_vanishes (frozen_of c ask).limit (terms_after (frozen_of c ask)) [] (c.page ++ c.waiting) some)) in
        omega (arith, a, b)
