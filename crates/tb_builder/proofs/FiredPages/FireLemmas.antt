-- A page fires: what the builder held before, and what it holds afterwards.
use Rattle.std.proofs.Common.{◌≡◌, ◌≢◌, refl, sym, subst, ◌∙◌, ap, ℕ, ◌≤◌, ℤ, pos, ◌+ℤ◌, true, false, List, [], ◌∷◌, ◌++◌, map, length, take, drop, Option, Some, None, IsSome, append_assoc, arith}
use Rattle.std.specs.FinMap.{get}
use Rattle.std.proofs.lemmas.Bool.{true≢false}
use Rattle.std.proofs.lemmas.Int.{ints}
use Rattle.std.proofs.lemmas.List.{length-map, take-append-drop}
use Rattle.tb_pool.specs.Lists.{Lists, IsLive, list_at, with_list}
use Rattle.tb_node.specs.declared.Node.{Node}
use Rattle.tb_node.specs.PlainNodes.{PlainKind, plain, ins, act, PlainNode, matter_shape, plain_of, without_insertions, node_shape, plain_list}
use Rattle.tb_node.specs.Sums.{room_of, size_of}
use Rattle.tb_node.specs.SmallAmounts.{IsAmount}
use Rattle.tb_break.specs.declared.Best.{Best}
use Rattle.tb_break.specs.Best.{Breakpoint, best_or}
use Rattle.tb_break.specs.Scan.{best_of}
use Rattle.tb_insert.specs.Account.{Frozen, Labelled, labelled, terms_after}
use Rattle.tb_insert.specs.AccountEntries.{IsAccountOf}
use Rattle.tb_builder.specs.declared.Ask.{Ask}
use Rattle.tb_builder.specs.declared.Page.{Page}
use Rattle.tb_builder.specs.declared.Builder.{Builder}
use Rattle.tb_builder.specs.Reach.{Reach, holds_box, reach_from, breakpoints}
use Rattle.tb_builder.specs.FiredPages.{Fired, no_place, page_break, last_shrink, penalty_at, line_at, with_spent_break, box_after, held_insertions, fired_by, frozen_for}
use Rattle.tb_builder.specs.Contents.{Contents, contents_of, frozen_or, frozen_of, reach_whole}
use Rattle.tb_builder.specs.Ownership.{Lacks, inner_ids, Ids, ids_of, owned, IsOwned}
use Rattle.tb_builder.specs.Courses.{ChampionIs, AtStop, places_by, AllLoose, AllLasting, IsPageSoFar, IsSound}
use Rattle.tb_builder.specs.LegalPlaces.{page_shapes}
use Rattle.tb_break.specs.Places.{last_or, ends_lasting}
use Rattle.tb_builder.specs.PageEvents.{FiredIs, PageIs, fired_page, after_fired, best_room, fired_room}
use Rattle.tb_builder.specs.Firing.{SortsTo, Sorted, IsMarkedAt, EachFits, Cuts, Fires}
use Rattle.tb_builder.proofs.Ownership.OwnedLemmas.{AllSame}
use Rattle.tb_builder.proofs.Ownership.StoreMoves.{list_got, live_got, list_kept, one_got, one_other}
use Rattle.tb_builder.proofs.Ownership.RelistLemmas.{frame_own, frame_owned, frame_page, frame_waiting, frame_boxes, same_lacking}
use Rattle.tb_builder.proofs.Ownership.NewLemmas.{fresh_lacks}

-- ---- where the page breaks

-- the break of the page that fires, as the builder keeps it
pub record Breaks (b : Builder) (c : Contents) : Type 0 where
  pub f : Ask
  pub frozen : b.frozen ≡ Some f
  pub stop : AtStop (frozen_for f c.classes c.boxes) b.course c.page c.waiting

pub breaks : (b : Builder) (s : Lists Node) → IsSound b s → b.stopped ≡ true → Breaks b (contents_of b s)
breaks b s sound stopped = by_frozen b.frozen refl (subst (λ x. IsPageSoFar b.frozen x b.course (contents_of b s)) stopped sound.page)
  where
    by_frozen : (o : Option Ask) → b.frozen ≡ o → IsPageSoFar o true b.course (contents_of b s) → Breaks b (contents_of b s)
    by_frozen None e st = absurd st
    by_frozen (Some f) e st = record { f = f; frozen = e; stop = st }

not_nothing : (bs : List Breakpoint) (b : Breakpoint) → bs ++ b ∷ [] ≡ [] → ⊥
not_nothing [] b e = cc
not_nothing (x ∷ bs) b e = cc

-- the shrink at the last place
shrink_at_end : (bs : List Breakpoint) (b : Breakpoint) → last_shrink (bs ++ b ∷ []) ≡ b.sums.shrink
shrink_at_end bs b = ends (pos 0) bs
  where
    ends : (d : ℤ) (cs : List Breakpoint) → last_or d (map (λ (c : Breakpoint). c.sums.shrink) (cs ++ b ∷ [])) ≡ b.sums.shrink
    ends d [] = refl
    ends d (c ∷ cs) = ends c.sums.shrink cs

module _ (b : Builder) (c : Contents) (h : Breaks b c) where
  abbrev zee : Frozen
  zee = frozen_for h.f c.classes c.boxes

  abbrev places_all : List Breakpoint
  places_all = places_by zee c.page c.waiting ++ h.stop.stop ∷ []

  -- the last place of least cost
  abbrev place_of_break : Breakpoint
  place_of_break = best_or no_place places_all

  pub champion : ChampionIs b.course.scan.best b.course.best_goal h.stop.course.marked c.page place_of_break
  champion = h.stop.course.champion no_place (not_nothing (places_by zee c.page c.waiting) h.stop.stop)

  -- at its mark the account is of the nodes before the break
  pub break_account : IsAccountOf b.course.account zee c.page (take place_of_break.place c.page)
  break_account = subst (IsAccountOf b.course.account zee c.page) champion.marked_is h.stop.course.account

  -- the best place that the scan keeps
  module _ (x : Best) (is : b.course.scan.best ≡ Some x) where
    pub break_is : x ≡ best_of place_of_break
    break_is = let e : Some x ≡ Some (best_of place_of_break) = sym is ∙ champion.best in cc

    pub break_index : x.index ≡ place_of_break.place
    break_index = ap (λ (y : Best). y.index) break_is

    pub break_cost : x.cost ≡ place_of_break.cost
    break_cost = ap (λ (y : Best). y.cost) break_is

    -- the room up to the break
    pub break_room : x.size ≡ size_of (page_shapes (take place_of_break.place c.page))
    break_room = ap (λ (y : Best). y.size) break_is ∙ champion.room

-- an insertion takes no room on the page
pub body_room : (ns : List PlainNode) → size_of (page_shapes (without_insertions ns)) ≡ size_of (page_shapes ns)
body_room [] = refl
body_room (n ∷ ns) = by_kind n.kind (body_room ns)
  where
    by_kind : (k : PlainKind) → size_of (page_shapes (without_insertions ns)) ≡ size_of (page_shapes ns) → (let x : PlainNode = record { line = n.line; kind = k } in size_of (page_shapes (without_insertions (x ∷ ns))) ≡ size_of (page_shapes (x ∷ ns)))
    by_kind (plain m) ih = ap (λ z. room_of (matter_shape m) +ℤ z) ih
    by_kind (ins i) ih = omega (arith, ints, ih)
    by_kind (act a) ih = ap (λ z. pos 0 +ℤ z) ih

-- ---- a list is opened for the body

module _ (b : Builder) (s e : Lists Node) (body : ℕ) (own : IsOwned (ids_of b) s) (fresh : get s.lists body ≡ None) (opened : e.lists ≡ with_list s body []) where
  pub body_lacks : Lacks body (owned (ids_of b) s)
  body_lacks = fresh_lacks s body (owned (ids_of b) s) fresh own.live

  same : AllSame s e (owned (ids_of b) s)
  same = same_lacking s e body (owned (ids_of b) s) (λ q ne. one_other s e body q [] ne opened) body_lacks

  pub opened_own : IsOwned (ids_of b) e
  opened_own = frame_own (ids_of b) s e own same

  pub opened_owned : owned (ids_of b) e ≡ owned (ids_of b) s
  opened_owned = frame_owned (ids_of b) s e own same

  pub opened_page : plain_list e b.page ≡ plain_list s b.page
  opened_page = frame_page (ids_of b) s e own same

  pub opened_waiting : plain_list e b.waiting ≡ plain_list s b.waiting
  opened_waiting = frame_waiting (ids_of b) s e own same

  pub opened_boxes : (contents_of b e).boxes ≡ (contents_of b s).boxes
  opened_boxes = frame_boxes (ids_of b) s e own same

  pub opened_held : list_at e b.held ≡ list_at s b.held
  opened_held = list_kept s e b.held same.1.1.0

  pub opened_length : length (list_at e b.page) ≡ length (contents_of b s).page
  opened_length = ap length (list_kept s e b.page same.0) ∙ sym (length-map (list_at s b.page) (plain_of (list_at s)))

  pub body_there : get e.lists body ≡ Some []
  body_there = one_got s e body [] opened

-- ---- the page is cut, and its nodes can be sorted

each_front : (k : ℕ) (ns : List PlainNode) → EachFits ns → EachFits (take k ns)
each_front k ns fit before n rest e = fit before n (rest ++ drop k ns) (sym (append_assoc before (n ∷ rest) (drop k ns)) ∙ ap (λ xs. xs ++ drop k ns) e ∙ take-append-drop k ns)

module _ (b : Builder) (s e t : Lists Node) (body : ℕ) (x : Best) (sound : IsSound b s) (stopped : b.stopped ≡ true) (is : b.course.scan.best ≡ Some x)
    (fresh : get s.lists body ≡ None) (opened : e.lists ≡ with_list s body []) where
  abbrev at : Breaks b (contents_of b s)
  at = breaks b s sound stopped

  abbrev there : Breakpoint
  there = place_of_break b (contents_of b s) at

  pub index_is : x.index ≡ there.place
  index_is = break_index b (contents_of b s) at x is

  pub index_within : x.index ≤ length (list_at e b.page)
  index_within = subst (λ k. k ≤ length (list_at e b.page)) (sym index_is) (subst (λ k. there.place ≤ k) (sym (opened_length b s e body sound.own fresh opened)) (champion b (contents_of b s) at).within)

  module _ (cuts : Cuts b e t x.index) where
    pub cut_page : plain_list t b.page ≡ take there.place (contents_of b s).page
    cut_page = cuts.page ∙ (λ j. take (index_is j) (opened_page b s e body sound.own fresh opened j))

    lacks_then : Lacks body (owned (ids_of b) e)
    lacks_then = subst (Lacks body) (sym (opened_owned b s e body sound.own fresh opened)) (body_lacks b s e body sound.own fresh opened)

    body_then : get t.lists body ≡ Some []
    body_then = cuts.frame.others body lacks_then ∙ body_there b s e body sound.own fresh opened

    pub cut_live : IsLive t body
    cut_live = live_got t body [] body_then

    pub cut_apart : Lacks body (owned (ids_of b) t)
    cut_apart = cuts.frame.apart body lacks_then

    pub cut_empty : list_at t body ≡ []
    cut_empty = list_got t body [] body_then

    pub cut_held : list_at s b.held ≡ [] → list_at t b.held ≡ []
    cut_held none = cuts.held ∙ opened_held b s e body sound.own fresh opened ∙ none

    pub cut_fits : EachFits (contents_of b s).page → EachFits (plain_list t b.page)
    cut_fits fit = subst EachFits (sym cut_page) (each_front there.place (contents_of b s).page fit)

    pub cut_account : IsAccountOf b.course.account (zee b (contents_of b s) at) (contents_of b s).page (plain_list t b.page)
    cut_account = subst (IsAccountOf b.course.account (zee b (contents_of b s) at) (contents_of b s).page) (sym cut_page) (break_account b (contents_of b s) at)

    pub cut_marked : IsMarkedAt b.course.account 0 (plain_list t b.page)
    cut_marked = record { z = zee b (contents_of b s) at; page = (contents_of b s).page; before = []; stands = cut_account; index_is = refl }

    -- ---- the nodes were sorted, and the page is cleared

    module _ (d g : Builder) (u : Lists Node) (p : Page) (sorts : SortsTo b t g u body)
        (sorted : (z : Frozen) (page : List PlainNode) → IsAccountOf b.course.account z page (contents_of b t).page → Sorted z (contents_of b t).boxes (contents_of b t).page (contents_of g u) (plain_list u body) (contents_of b t).page)
        (empty : list_at u b.page ≡ []) (clear : d ≡ record g { frozen = None; opened = false; stopped = false; course = record g.course { lasting = false } })
        (body_is : p.body ≡ body) (cost : p.cost ≡ x.cost) (size : p.size ≡ b.course.best_goal) (shrink : p.shrink ≡ b.course.scan.sums.shrink) (amount : IsAmount p.shrink)
        (line : p.line ≡ line_at (drop x.index (contents_of b e).page ++ (contents_of b e).waiting))
        (penalty : p.penalty ≡ penalty_at (drop x.index (contents_of b e).page ++ (contents_of b e).waiting))
        (held : p.held ≡ length (list_at u g.held)) where
      ids : ids_of d ≡ ids_of g
      ids = ap ids_of clear

      abbrev done : Sorted (zee b (contents_of b s) at) (contents_of b t).boxes (contents_of b t).page (contents_of g u) (plain_list u body) (contents_of b t).page
      done = sorted (zee b (contents_of b s) at) (contents_of b s).page cut_account

      page_id : g.page ≡ b.page
      page_id = ap (λ (y : Builder). y.page) sorts.builder

      abbrev labels : List Labelled
      labels = labelled (zee b (contents_of b s) at) (take there.place (contents_of b s).page)

      labels_are : labelled (zee b (contents_of b s) at) (contents_of b t).page ≡ labels
      labels_are = ap (labelled (zee b (contents_of b s) at)) cut_page

      behind : drop x.index (contents_of b e).page ++ (contents_of b e).waiting ≡ drop there.place (contents_of b s).page ++ (contents_of b s).waiting
      behind = (λ j. drop (index_is j) (opened_page b s e body sound.own fresh opened j) ++ opened_waiting b s e body sound.own fresh opened j)

      -- the page that fires, from what the builder kept
      abbrev fired_here : Fired
      fired_here = record {
        body = without_insertions (take there.place (contents_of b s).page);
        boxes = map (box_after labels) (contents_of b s).boxes;
        held = held_insertions labels;
        rest = with_spent_break (drop there.place (contents_of b s).page ++ (contents_of b s).waiting);
        penalty = penalty_at (drop there.place (contents_of b s).page ++ (contents_of b s).waiting);
        cost = there.cost;
        size = there.goal;
        shrink = last_shrink (places_all b (contents_of b s) at);
        line = line_at (drop there.place (contents_of b s).page ++ (contents_of b s).waiting);
      }

      by_reach : (z : Frozen) (w : Reach) → z ≡ zee b (contents_of b s) at → breakpoints w.reached ≡ places_all b (contents_of b s) at → w.passed ≡ (contents_of b s).page → w.beyond ≡ (contents_of b s).waiting
          → fired_by (labelled z (take (page_break w).place w.passed)) (contents_of b s).boxes w ≡ fired_here
      by_reach z w e reached passed beyond = λ j.
          let place : Breakpoint = best_or no_place (reached j) in
          let rest : List PlainNode = drop place.place (passed j) ++ beyond j in
          let ls : List Labelled = labelled (e j) (take place.place (passed j)) in
          record {
            body = without_insertions (take place.place (passed j));
            boxes = map (box_after ls) (contents_of b s).boxes;
            held = held_insertions ls;
            rest = with_spent_break rest;
            penalty = penalty_at rest;
            cost = place.cost;
            size = place.goal;
            shrink = last_shrink (reached j);
            line = line_at rest;
          }

      frozen_is : (ask : Ask) → frozen_of (contents_of b s) ask ≡ zee b (contents_of b s) at
      frozen_is ask = ap (λ o. frozen_or o ask (contents_of b s).classes (contents_of b s).boxes) at.frozen

      page_fired : (ask : Ask) → fired_page (contents_of b s) ask ≡ fired_here
      page_fired ask =
          by_reach (frozen_of (contents_of b s) ask) (reach_whole (contents_of b s) ask) (frozen_is ask)
          (ap (λ (z : Frozen). breakpoints (reach_from z.limit (terms_after z) [] ((contents_of b s).page ++ (contents_of b s).waiting)).reached) (frozen_is ask) ∙ at.stop.reached)
          (ap (λ (z : Frozen). (reach_from z.limit (terms_after z) [] ((contents_of b s).page ++ (contents_of b s).waiting)).passed) (frozen_is ask) ∙ at.stop.passed)
          (ap (λ (z : Frozen). (reach_from z.limit (terms_after z) [] ((contents_of b s).page ++ (contents_of b s).waiting)).beyond) (frozen_is ask) ∙ at.stop.beyond)

      boxes_are : (contents_of g u).boxes ≡ fired_here.boxes
      boxes_are = done.boxes_are ∙ (λ j. map (box_after (labels_are j)) ((cuts.boxes ∙ opened_boxes b s e body sound.own fresh opened) j))

      held_are : (contents_of g u).held ≡ fired_here.held
      held_are = done.held_are ∙ ap held_insertions labels_are

      waiting_is : (contents_of g u).waiting ≡ fired_here.rest
      waiting_is = sorts.waiting ∙ cuts.waiting ∙ ap with_spent_break behind

      page_empty : (contents_of g u).page ≡ []
      page_empty = ap (plain_list u) page_id ∙ ap (map (plain_of (list_at u))) empty

      classes_are : (contents_of g u).classes ≡ (contents_of b s).classes
      classes_are = sorts.classes

      contents_are : contents_of d u ≡ after_fired (contents_of b s) fired_here
      contents_are =
          ap (λ (y : Builder). contents_of y u) clear
          ∙ (λ j. record { classes = classes_are j; boxes = boxes_are j; page = page_empty j; waiting = waiting_is j; held = held_are j; frozen = None; stopped = false })

      page_here : PageIs p fired_here u
      page_here = record {
        live = subst (IsLive u) (sym body_is) sorts.body_live;
        body = ap (plain_list u) body_is ∙ done.body_is ∙ ap without_insertions cut_page;
        penalty = penalty ∙ ap penalty_at behind;
        cost = cost ∙ break_cost b (contents_of b s) at x is;
        size = size ∙ (champion b (contents_of b s) at).goal_is;
        shrink = shrink ∙ sym at.stop.shrink ∙ sym (shrink_at_end (places_by (zee b (contents_of b s) at) (contents_of b s).page (contents_of b s).waiting) at.stop.stop);
        amount = amount;
        line = line ∙ ap line_at behind;
        held = held ∙ sym (length-map (list_at u g.held) (plain_of (list_at u))) ∙ ap length held_are;
      }

      room_told : fired_room d ≡ size_of (map node_shape (plain_list u p.body))
      room_told =
          ap fired_room clear ∙ ap (λ (y : Builder). best_room y.course.scan.best) sorts.builder ∙ ap best_room is
          ∙ break_room b (contents_of b s) at x is
          ∙ sym (body_room (take there.place (contents_of b s).page))
          ∙ ap (λ ns. size_of (map node_shape ns)) (sym page_here.body)

      fired_is : (ask : Ask) → FiredIs p (contents_of b s) ask (contents_of d u) u
      fired_is ask = record {
        page = subst (λ f. PageIs p f u) (sym (page_fired ask)) page_here;
        after = contents_are ∙ ap (after_fired (contents_of b s)) (sym (page_fired ask));
      }

      own_then : IsOwned (ids_of d) u
      own_then = subst (λ j. IsOwned j u) (sym ids) sorts.own

      page_then : (contents_of d u).page ≡ []
      page_then = ap (λ (j : Ids). plain_list u j.page) ids ∙ page_empty

      sound_then : IsSound d u
      sound_then = record {
        own = own_then;
        opened = ap (λ (y : Builder). y.opened) clear ∙ sym (ap holds_box page_then);
        closed = λ shut. subst AllLasting (sym page_then) tt;
        page = subst (λ (y : Builder). IsPageSoFar y.frozen y.stopped y.course (contents_of d u)) (sym clear) (record {
          loose = subst AllLoose (sym page_then) tt;
          lasting_is = sym (ap (λ ps. ends_lasting (page_shapes ps)) page_then);
        });
        met = λ some on. absurd (true≢false (sym (subst IsSome (ap (λ (y : Builder). y.frozen) clear) some)));
      }

      keeps_then : (q : ℕ) → Lacks q (owned (ids_of b) s) → Lacks q (owned (ids_of d) u)
      keeps_then q h = subst (λ j. Lacks q (owned j u)) (sym ids) (sorts.keeps q (cuts.frame.apart q (subst (Lacks q) (sym (opened_owned b s e body sound.own fresh opened)) h)))

      pub fires_of : Fires b s d u p
      fires_of = record {
        fired = fired_is;
        sound = sound_then;
        others = λ q ne h.
            let l = subst (Lacks q) (sym (opened_owned b s e body sound.own fresh opened)) h in
            let nb : q ≢ body = λ y. ne (y ∙ sym body_is) in
            sorts.others q nb (cuts.frame.apart q l) ∙ cuts.frame.others q l ∙ one_other s e body q [] nb opened;
        keeps = keeps_then;
        fresh = ap (get s.lists) body_is ∙ fresh;
        apart = subst (λ y. Lacks y (owned (ids_of d) u)) (sym body_is) (keeps_then body (body_lacks b s e body sound.own fresh opened));
        body_plain = ap (λ y. inner_ids (list_at u y)) body_is ∙ sorts.body_plain;
        room = room_told;
      }
