-- Worked pages: a builder with the classes of plain TeX, the page so far of a box, and the page that fires.
use Rattle.std.proofs.Common.{◌≡◌, refl, sym, subst, ◌∙◌, ap, ℕ, ◌≤◌, ℤ, pos, Bool, true, false, List, [], ◌∷◌, ◌++◌, length, map, take, None, Some, is_some, unwrap_or, ◌≢◌, arith}
use Rattle.std.specs.Prelude.{All, ◌+ℤ◌}
use Rattle.std.specs.FinMap.{get}
use Rattle.std.proofs.lemmas.Int.{ints}
use Rattle.std.proofs.lemmas.Bool.{true≢false}
use Rattle.std.proofs.lemmas.List.Elements.{All-nil, All-from_recursion}
use Rattle.tb_builder.proofs.Ranges.PageableLemmas.{extent_goal, class-fits}
use Rattle.tb_scaled.specs.declared.Glue.{Glue}
use Rattle.tb_scaled.specs.Glue.{fixed_glue}
use Rattle.tb_pool.specs.Lists.{Lists, IsLive, list_at, with_list}
use Rattle.tb_pool.proofs.CallerLemmas.{list_same, get_other}
use Rattle.tb_pool.proofs.MapLemmas.{get-insert_same}
use Rattle.tb_node.specs.declared.Node.{Node}
use Rattle.tb_node.specs.declared.Kind.{Kind}
use Rattle.tb_node.specs.declared.Kind.TheVariants as kinds
use Rattle.tb_node.specs.declared.What.{What}
use Rattle.tb_node.specs.Fit.{shapes, IsDimension, IsSizedLeaf}
use Rattle.tb_node.specs.PlainNodes.{plain_of, plain_kind, shape_of, shape_of_kind}
use Rattle.tb_node.specs.Sums.{size_of}
use Rattle.tb_param.specs.declared.Params.{Params}
use Rattle.tb_break.specs.PageTop.{pruned_nodes}
use Rattle.tb_insert.specs.Account.{labelled, terms_after}
use Rattle.tb_builder.specs.declared.Ask.{Ask}
use Rattle.tb_builder.specs.declared.Builder.{Builder}
use Rattle.tb_builder.specs.declared.Event.{Event}
use Rattle.tb_builder.specs.declared.Event.TheVariants as events
use Rattle.tb_builder.specs.declared.Page.{Page}
use Rattle.tb_builder.specs.FiredPages.{page_break}
use Rattle.tb_builder.specs.Contents.{Contents, contents_of, nothing_yet, frozen_of, laid, reach_whole, node_count, box_count}
use Rattle.tb_builder.specs.Contributions.{NoPage, ends_in_kern}
use Rattle.tb_builder.specs.SizedContents.{IsSizedAsk, IsSizedContents, IsSizedFreeze, fired_count, whole_count}
use Rattle.tb_builder.specs.PageEvents.{NextFits, NextIs, FiredIs, IsGivenOut, fired_page}
use Rattle.tb_builder.specs.Ownership.{ClassesFit, has_class, ids_of}
use Rattle.tb_builder.specs.Pageable.{IsSizedOnPage, IsSizedClass, IsSizedBox, IsPageable}
use Rattle.tb_builder.specs.Courses.{IsSound}
use Rattle.tb_builder.specs.WorkedPages.{IsReady}
use Rattle.tb_builder.proofs.Handover.CallLemmas.{list-sized, list-count}
use Rattle.tb_builder.proofs.Ranges.KeptLemmas.{kept-fits, event-sized, event-fewer, stopped-sized, stopped-fewer}
use Rattle.tb_builder.proofs.Ranges.SizedLemmas.{FiredSized}
use Rattle.tb_builder.proofs.Ownership.StoreSized.{list-back, list-length, matter-plain, boxes_of}
use Rattle.tb_builder.proofs.Events.WholeLemmas.{AreMatter, fired-matter}
use Rattle.tb_builder.proofs.WorkedPages.WorkedLemmas.{ready_asked}
use Rattle.tb_column.specs.Ranges.{IsSizedGlue}
use Rattle.tb_plain.specs.TakenFloats.{top_class}
use Rattle.tb_plain.specs.Run.{makeup_ask, makeup_classes, void_boxes}
use Rattle.tb_plain.specs.MakeupCalls.{AreMakeupParams, CanAct, CanFire}
use Rattle.tb_plain.proofs.BesideLemmas.{plain-leaves}

-- ---- a new builder

nothing : IsDimension (pos 0)
nothing = record { low = omega (arith, ints); high = omega (arith, ints) }

pub no_glue : (g : Glue) → g ≡ fixed_glue (pos 0) → IsSizedGlue g
no_glue g e = subst IsSizedGlue (sym e) (record { width = nothing; stretch = nothing; shrink = nothing })

module _ (p : Params) (h : AreMakeupParams p) where
  top_sized : IsSizedClass top_class
  top_sized = record { factor = record { low = omega (arith, ints); high = omega (arith, ints) }; width = nothing; stretch = nothing; shrink = nothing }

  foot_sized : IsSizedClass (record { number = 254; factor = pos 1000; limit = p.footlimit; below = None; skip = p.skipfootins })
  foot_sized = record { factor = record { low = omega (arith, ints); high = omega (arith, ints) }; width = h.skipfootins.width; stretch = h.skipfootins.stretch; shrink = h.skipfootins.shrink }

  pub classes_fit : ClassesFit (makeup_classes p)
  classes_fit = (refl, omega arith, class-fits top_class top_sized, (refl, omega arith, class-fits _ foot_sized, tt))

  pub open_ready : (b : Builder) (s : Lists Node) → IsSound b s → contents_of b s ≡ nothing_yet (makeup_classes p) → IsReady b s (makeup_ask p)
  open_ready b s sound e = record {
    rest = record {
      sound = sound;
      no_page = subst NoPage (sym e) (record { page = refl; frozen = refl });
      known = ap (λ (c : Contents). has_class c.classes 254) e;
    };
    none_held = ap (λ (c : Contents). c.held) e;
    pageable = subst (λ c. IsPageable c (makeup_ask p)) (sym e) (record {
      goal = extent_goal p.textheight h.textheight;
      limit = h.maxdepth;
      asked_goal = extent_goal p.textheight h.textheight;
      asked_depth = h.maxdepth;
      top_skip = h.topskip;
      feet = (h.skipfootins.width, h.skipfootins.stretch, h.skipfootins.shrink);
      classes = All-from_recursion IsSizedClass (makeup_classes p) (top_sized, (foot_sized, tt));
      classes_fit = classes_fit;
      boxes = All-from_recursion IsSizedBox void_boxes (All-nil IsSizedLeaf, (All-nil IsSizedLeaf, tt));
      page = All-nil IsSizedOnPage;
      waiting = All-nil IsSizedOnPage;
      few = omega arith;
    });
  }

-- ---- a list of one node

module _ (s r o t : Lists Node) (l : ℕ) (n : Node) (same : r.lists ≡ s.lists) (fresh : get r.lists l ≡ None) (opened : o.lists ≡ with_list r l []) (pushed : t.lists ≡ with_list o l (list_at o l ++ n ∷ [])) where
  pub list_made : get t.lists l ≡ Some (n ∷ [])
  list_made = ap (λ m. get m l) pushed ∙ get-insert_same o.lists l (list_at o l ++ n ∷ []) ∙ ap (λ xs. Some (xs ++ n ∷ [])) (list_same r o l [] opened)

  pub list_others : (q : ℕ) → IsLive s q → get t.lists q ≡ get s.lists q
  list_others q live =
      let ne : q ≢ l = λ e. true≢false (sym live ∙ ap (λ m. is_some (get m q)) (sym same) ∙ ap (λ k. is_some (get r.lists k)) e ∙ ap is_some fresh) in
      get_other o t l (list_at o l ++ n ∷ []) q ne pushed ∙ get_other r o l [] q ne opened ∙ ap (λ m. get m q) same

-- a box without depth is as high as its list
pub box_size : (t : Lists Node) (l : ℕ) (n : Node) (w : What) (h : ℤ) → get t.lists l ≡ Some (n ∷ []) → n.kind ≡ kinds.Hbox w h (pos 0) → h ≡ size_of (shapes t l)
box_size t l n w h made kind = same h ∙ ap (λ k. size_of (shape_of_kind k ∷ [])) (sym kind) ∙ ap (λ o. size_of (map shape_of (unwrap_or o []))) (sym made)
  where
    same : (z : ℤ) → z ≡ z +ℤ pos 0 +ℤ pos 0
    same z = grind (arith, ints)

-- ---- the page so far

box_ends : (t : ℤ) (line : ℕ) (held : ℕ → List Node) (k : Kind) (w : What) (h d : ℤ) → k ≡ kinds.Hbox w h d → ends_in_kern (pruned_nodes t (record { line = line; kind = plain_kind held k } ∷ [])) ≡ false
box_ends t line held k w h d e = ap (λ x. ends_in_kern (pruned_nodes t (record { line = line; kind = plain_kind held x } ∷ []))) e

module _ (p : Params) (b c d : Builder) (r s t : Lists Node) (ask : Ask) (n : Node) (opened : contents_of b r ≡ nothing_yet (makeup_classes p)) (given : contents_of c s ≡ record (contents_of b r) { waiting = (contents_of b r).waiting ++ plain_of (list_at r) n ∷ [] }) where
  one_waits : contents_of c s ≡ record (nothing_yet (makeup_classes p)) { waiting = plain_of (list_at r) n ∷ [] }
  one_waits = given ∙ ap (λ (x : Contents). record x { waiting = x.waiting ++ plain_of (list_at r) n ∷ [] }) opened

  -- a box came to the page, and nothing waits any more
  pub box_came : (w : What) (height depth : ℤ) → n.kind ≡ kinds.Hbox w height depth → IsSound d t → NextIs c.stopped events.Empty (contents_of c s) ask (contents_of d t) t → CanAct d t
  box_came w height depth kind sound h = by_event (subst (λ o. NextIs o events.Empty (contents_of c s) ask (contents_of d t) t) (ap (λ (x : Contents). x.stopped) one_waits) h)
    where
      by_event : NextIs false events.Empty (contents_of c s) ask (contents_of d t) t → CanAct d t
      by_event e = record {
        sound = sound;
        going = e.0.stopped;
        no_kern = ap ends_in_kern e.0.whole ∙ ap (λ x. ends_in_kern (laid x ask)) one_waits ∙ box_ends ask.top_skip n.line (list_at r) n.kind w height depth kind;
        known = ap (λ cs. has_class cs 253) e.1.classes ∙ ap (λ (x : Contents). has_class x.classes 253) one_waits;
      }

-- ---- a page is filled

-- the nodes are sized and few, nothing is held, and both classes are there
pub record IsFilling (c : Contents) (ask : Ask) : Type 0 where
  pub asked : IsSizedAsk ask
  pub sized : IsSizedContents c
  pub few : whole_count c ≤ 4194305
  pub boxed : box_count c.boxes ≤ 4194304
  pub none_held : c.held ≡ []
  pub top : has_class c.classes 253 ≡ true
  pub foot : has_class c.classes 254 ≡ true

pub filling_begins : (b : Builder) (s : Lists Node) (ask : Ask) → IsReady b s ask → has_class (contents_of b s).classes 253 ≡ true → IsFilling (contents_of b s) ask
filling_begins b s ask r top =
    let c = contents_of b s in
    record {
      asked = ready_asked b s ask r;
      sized = record {
        nodes = list-sized c.stopped c.page c.waiting r.pageable.page r.pageable.waiting;
        held = subst (All IsSizedOnPage) (sym r.none_held) (All-nil IsSizedOnPage);
        boxes = r.pageable.boxes;
        classes = r.pageable.classes;
        classes_fit = r.pageable.classes_fit;
        frozen = subst IsSizedFreeze (sym r.rest.no_page.frozen) tt;
      };
      few = let a = list-count c.stopped c.page c.waiting in let k = ap node_count r.none_held in let f = r.pageable.few in omega (arith, a, k, f);
      boxed = let f = r.pageable.few in omega (arith, f);
      none_held = r.none_held;
      top = top;
      foot = r.rest.known;
    }

pub filling_fits : (c : Contents) (ask : Ask) → IsFilling c ask → NextFits c ask
filling_fits c ask f = kept-fits c ask f.sized f.asked f.few f.boxed

abbrev pub is_page : Event → Bool
is_page (events.Try x) = false
is_page (events.Act a) = false
is_page (events.Fired page) = true
is_page events.Empty = false

-- unless the page fired
pub filling_again : (stopped : Bool) (v : Event) (c d : Contents) (ask : Ask) (t : Lists Node) → is_page v ≡ false → c.stopped ≡ stopped → IsFilling c ask → NextIs stopped v c ask d t → IsFilling d ask
filling_again true (events.Fired page) c d ask t on going f h = absurd (true≢false on)
filling_again true v c d ask t on going f h = absurd h
filling_again false v c d ask t on going f h = record {
  asked = f.asked;
  sized = event-sized c d ask v f.asked f.sized going h.0 h.1;
  few = let a = event-fewer c d ask v f.asked f.sized going h.0 h.1 in let k = f.few in omega (arith, a, k);
  boxed = let a = ap box_count h.1.boxes in let k = f.boxed in omega (arith, a, k);
  none_held = h.1.held ∙ f.none_held;
  top = ap (λ cs. has_class cs 253) h.1.classes ∙ f.top;
  foot = ap (λ cs. has_class cs 254) h.1.classes ∙ f.foot;
}

-- ---- the page fires

module _ (b d : Builder) (s t : Lists Node) (ask : Ask) (page : Page) (f : IsFilling (contents_of b s) ask) (sound : IsSound d t) (given : IsGivenOut (events.Fired page) s (ids_of d) t) where
  abbrev c : Contents
  c = contents_of b s

  at_stop : (o : Bool) → c.stopped ≡ o → NextIs o (events.Fired page) c ask (contents_of d t) t → (c.stopped ≡ true) × FiredIs page c ask (contents_of d t) t
  at_stop true e h = (e, h)
  at_stop false e h = absurd h.0

  module _ (stop : c.stopped ≡ true) (h : FiredIs page c ask (contents_of d t) t) where
    sized : FiredSized (fired_page c ask)
    sized = stopped-sized c ask f.sized stop

    matter : AreMatter (fired_page c ask).body
    matter = fired-matter (frozen_of c ask).limit (terms_after (frozen_of c ask)) (labelled (frozen_of c ask) (take (page_break (reach_whole c ask)).place (reach_whole c ask).passed)) c.boxes (c.page ++ c.waiting)

    counted : fired_count (fired_page c ask) ≤ 4194305
    counted = let a = stopped-fewer c ask f.sized stop f.sized.classes_fit (boxes_of s b.boxes) in let k = f.few in omega (arith, a, k)

    body_count : length (list_at t page.body) ≤ node_count (fired_page c ask).body
    body_count = let a = list-length t page.body in let e = ap node_count h.page.body in omega (arith, a, e)

    fired_can : CanFire d t page
    fired_can = record {
      sound = sound;
      awaits = subst NoPage (sym h.after) (record { page = refl; frozen = refl });
      top = ap (λ (x : Contents). has_class x.classes 253) h.after ∙ f.top;
      foot = ap (λ (x : Contents). has_class x.classes 254) h.after ∙ f.foot;
      held = h.page.held ∙ ap (λ (x : Contents). length x.held) (sym h.after);
      body = record {
        live = h.page.live;
        leaves = plain-leaves (list_at t page.body) (matter-plain (list_at t) (list_at t page.body) (subst AreMatter (sym h.page.body) matter));
        sized = list-back t page.body (subst (All IsSizedOnPage) (sym h.page.body) sized.body);
        few = let a = body_count in let k = counted in omega (arith, a, k);
      };
      free = given.2;
      boxes = subst (λ (x : Contents). All IsSizedBox x.boxes) (sym h.after) sized.boxes;
      few = let a = body_count in let k = counted in let e = ap (λ (x : Contents). box_count x.boxes) h.after in omega (arith, a, k, e);
    }

  pub can_fire : NextIs b.stopped (events.Fired page) c ask (contents_of d t) t → CanFire d t page
  can_fire h = let r = at_stop b.stopped refl h in fired_can r.0 r.1
