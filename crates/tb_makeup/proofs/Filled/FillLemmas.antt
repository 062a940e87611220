-- The nodes of a state while a page is filled: what is added up fits, and an act adds few nodes.
use Rattle.std.proofs.Common.{◌≡◌, refl, sym, ◌∙◌, ap, subst, ℕ, ◌+◌, ◌≤◌, ℤ, pos, negsuc, Bool, true, false, List, [], ◌∷◌, ◌++◌, length, arith, None}
use Rattle.std.specs.Prelude.{All, ◌||◌, int_lt, if◌then◌else◌}
use Rattle.std.proofs.lemmas.Int.{ints}
use Rattle.std.proofs.lemmas.Bool.{true≢false}
use Rattle.std.proofs.lemmas.List.Elements.{All-nil, All-append, All-from_recursion}
use Rattle.tb_builder.proofs.Turns.PastLemmas.{acts-both}
use Rattle.tb_node.specs.declared.Act.{Act}
use Rattle.tb_node.specs.declared.Act.TheVariants as acts
use Rattle.tb_node.specs.declared.Float.{Float}
use Rattle.tb_node.specs.Fit.{IsDimension, IsExtent, IsPenalty, IsSizedLeaf}
use Rattle.tb_node.specs.PlainNodes.{hbox, rule, skip, kerned, pen, Leaf, PlainKind, plain, act, PlainNode, is_act_kind}
use Rattle.tb_param.specs.declared.Params.{Params}
use Rattle.tb_break.specs.PageTop.{pruned_nodes}
use Rattle.tb_builder.specs.Reach.{holds_box, laid_out}
use Rattle.tb_builder.specs.FiredPages.{frozen_for}
use Rattle.tb_builder.specs.Contents.{Contents, frozen_of, laid, node_count, box_count}
use Rattle.tb_builder.specs.PageEvents.{NextFits}
use Rattle.tb_builder.specs.Ownership.{ClassesFit}
use Rattle.tb_builder.specs.Pageable.{IsSizedOnPage, IsSizedClass, IsSizedBox}
use Rattle.tb_builder.specs.LegalPlaces.{NoActs}
use Rattle.tb_builder.proofs.Ranges.PageableLemmas.{count-append, IsSizedFrozen, boxes_fit, class_boxes_sized, class_boxes_total, laid_fits, pruned_sized, extent_goal, pruned_nodes_longer, class-fits}
use Rattle.tb_builder.proofs.Ranges.PrunedLemmas.{front-sized, back-sized}
use Rattle.tb_builder.proofs.Turns.TurnLemmas.{start-frozen}
use Rattle.tb_builder.specs.declared.PageSums.{PageSums}
use Rattle.tb_items.specs.ItemsLeft.{kern_last}
use Rattle.tb_plain.specs.TakenFloats.{top_class, with_float, taken_nodes, act_nodes, here_nodes, top_leaves, page_leaves, top_insertion}
use Rattle.tb_plain.specs.Run.{MakeupState, builder_holds, makeup_ask, makeup_classes, void_boxes, act_count}
use Rattle.tb_plain.specs.MakeupCalls.{AreMakeupParams, IsTake}
use Rattle.tb_plain.proofs.StepLemmas.{acts-append, put-acts}
use Rattle.tb_makeup.specs.LedActs.{ActsAreLed}
use Rattle.tb_makeup.specs.Makeup.{AreRunNodes, node_total}
use Rattle.tb_builder.specs.PageProgress.{KeepsStart}
use Rattle.tb_makeup.proofs.Filled.LedLemmas.{led-both, led-none, led-takes}
use Rattle.tb_node.proofs.FitLemmas.{extent_small}

-- ---- what is laid out

pub laid-sized : (t : ℤ) (page waiting : List PlainNode) → IsExtent t → All IsSizedOnPage page → All IsSizedOnPage waiting → All IsSizedOnPage (laid_out t page waiting)
laid-sized t page waiting top a b = by_box (holds_box page)
  where
    by_box : (x : Bool) → All IsSizedOnPage (page ++ (if x then waiting else pruned_nodes t waiting))
    by_box true = All-append IsSizedOnPage page waiting a b
    by_box false = All-append IsSizedOnPage page (pruned_nodes t waiting) a (pruned_sized t waiting top b)

pub laid-count : (t : ℤ) (page waiting : List PlainNode) → node_count (laid_out t page waiting) ≤ node_count page + node_count waiting + 1
laid-count t page waiting = by_box (holds_box page)
  where
    by_box : (x : Bool) → node_count (page ++ (if x then waiting else pruned_nodes t waiting)) ≤ node_count page + node_count waiting + 1
    by_box true = let e = count-append page waiting in omega (arith, e)
    by_box false = let e = count-append page (pruned_nodes t waiting) in let l = pruned_nodes_longer t waiting in omega (arith, e, l)

none-kind : (t : ℤ) (ns : List PlainNode) → NoActs ns → NoActs (pruned_nodes t ns) → (l : ℕ) (k : PlainKind) → is_act_kind k ≡ false → (let n : PlainNode = record { line = l; kind = k } in NoActs (pruned_nodes t (n ∷ ns)))
none-kind t ns a h l (plain (hbox w x d)) e = (refl, (refl, a))
none-kind t ns a h l (plain (rule name x d)) e = (refl, (refl, a))
none-kind t ns a h l (plain (skip g)) e = h
none-kind t ns a h l (plain (kerned w)) e = h
none-kind t ns a h l (plain (pen p)) e = h
none-kind t ns a h l (act x) e = absurd (true≢false e)
none-kind t ns a h l k e = (refl, h)

none-pruned : (t : ℤ) (ns : List PlainNode) → NoActs ns → NoActs (pruned_nodes t ns)
none-pruned t [] h = tt
none-pruned t (n ∷ ns) h = none-kind t ns h.1 (none-pruned t ns h.1) n.line n.kind h.0

pub none-laid : (t : ℤ) (page waiting : List PlainNode) → NoActs page → NoActs waiting → NoActs (laid_out t page waiting)
none-laid t page waiting a b = by_box (holds_box page)
  where
    by_box : (x : Bool) → NoActs (page ++ (if x then waiting else pruned_nodes t waiting))
    by_box true = acts-both page waiting a b
    by_box false = acts-both page (pruned_nodes t waiting) a (none-pruned t waiting b)

-- ---- what is added up fits

pub zero-dimension : IsDimension (pos 0)
zero-dimension = record { low = omega (arith, ints); high = omega (arith, ints) }

pub zero-extent : IsExtent (pos 0)
zero-extent = record { low = omega (arith, ints); high = omega (arith, ints) }

module _ (p : Params) (h : AreMakeupParams p) where
  top-sized : IsSizedClass top_class
  top-sized = record { factor = record { low = omega (arith, ints); high = omega (arith, ints) }; width = zero-dimension; stretch = zero-dimension; shrink = zero-dimension }

  foot-sized : IsSizedClass (record { number = 254; factor = pos 1000; limit = p.footlimit; below = None; skip = p.skipfootins })
  foot-sized = record { factor = record { low = omega (arith, ints); high = omega (arith, ints) }; width = h.skipfootins.width; stretch = h.skipfootins.stretch; shrink = h.skipfootins.shrink }

  pub classes-sized : All IsSizedClass (makeup_classes p)
  classes-sized = All-from_recursion IsSizedClass (makeup_classes p) (top-sized, (foot-sized, tt))

  pub boxes-sized : All IsSizedBox void_boxes
  boxes-sized = All-from_recursion IsSizedBox void_boxes (All-nil IsSizedLeaf, (All-nil IsSizedLeaf, tt))

  pub classes-fit : ClassesFit (makeup_classes p)
  classes-fit = (refl, omega arith, class-fits top_class top-sized, (refl, omega arith, class-fits _ foot-sized, tt))

  frozen-sized : IsSizedFrozen (frozen_for (makeup_ask p) (makeup_classes p) void_boxes)
  frozen-sized = record {
    goal = extent_goal p.textheight h.textheight;
    limit = h.maxdepth;
    classes = class_boxes_sized (makeup_ask p) (makeup_classes p) void_boxes (h.skipfootins.width, h.skipfootins.stretch, h.skipfootins.shrink) classes-sized boxes-sized (omega arith);
    few = omega arith;
    total = class_boxes_total (makeup_ask p) (makeup_classes p) void_boxes classes-fit boxes-sized (omega arith);
  }

  pub run-fits : (s : MakeupState) (c : Contents) → AreRunNodes s → KeepsStart (builder_holds p s) c (makeup_ask p) → laid c (makeup_ask p) ≡ laid_out p.topskip s.page s.waiting → NextFits c (makeup_ask p)
  run-fits s c nodes holds all = record {
    asked = record { goal = extent_small p.textheight h.textheight; depth = extent_small p.maxdepth h.maxdepth; depth_low = h.maxdepth.low; top_skip = extent_small p.topskip h.topskip };
    boxes = boxes_fit c.boxes (subst (All IsSizedBox) (sym holds.boxes) boxes-sized) (let e = ap box_count holds.boxes in omega (arith, e));
    laid_fits =
        laid_fits (frozen_of c (makeup_ask p)) (laid c (makeup_ask p)) (subst IsSizedFrozen (sym (start-frozen holds)) frozen-sized)
        (subst (All IsSizedOnPage) (sym all) (laid-sized p.topskip s.page s.waiting h.topskip nodes.page nodes.waiting))
        (let a = ap node_count all in let b = laid-count p.topskip s.page s.waiting in let few = nodes.few in omega (arith, a, b, few));
  }

-- ---- what an act puts

module _ (p : Params) (h : AreMakeupParams p) (f : Float) (height : IsExtent f.height) where
  glue-sized : IsSizedOnPage (record { line = 0; kind = plain (skip p.intextsep) })
  glue-sized = record { shape = (h.intextsep.width, h.intextsep.stretch, h.intextsep.shrink); kind = tt }

  pen-sized : (q : ℤ) → IsPenalty q → IsSizedOnPage (record { line = 0; kind = plain (pen q) })
  pen-sized q k = record { shape = k; kind = tt }

  here-sized : All IsSizedOnPage (here_nodes p f)
  here-sized = All-from_recursion IsSizedOnPage (here_nodes p f) (glue-sized, (record { shape = (height, zero-extent); kind = tt }, (pen-sized (negsuc 199) (record { low = omega (arith, ints); high = omega (arith, ints) }), (glue-sized, tt))))

  inserted-sized : (ls : List Leaf) → All IsSizedLeaf ls → All IsSizedOnPage (top_insertion ls ∷ [])
  inserted-sized ls k = All-from_recursion IsSizedOnPage (top_insertion ls ∷ []) (
    record {
      shape = tt;
      kind = record { inner = k; height = refl; split_depth = record { low = omega (arith, ints); high = omega (arith, ints) }; split_top = zero-extent; floating = record { low = omega (arith, ints); high = omega (arith, ints) } };
    },
    tt,
  )

  top-leaves-sized : All IsSizedLeaf (top_leaves p f)
  top-leaves-sized = All-from_recursion IsSizedLeaf (top_leaves p f) (record { low = omega (arith, ints); high = omega (arith, ints) }, ((height, zero-extent), (record { low = omega (arith, ints); high = omega (arith, ints) }, ((h.intextsep.width, h.intextsep.stretch, h.intextsep.shrink), tt))))

  page-leaves-sized : All IsSizedLeaf (page_leaves p f)
  page-leaves-sized = All-from_recursion IsSizedLeaf (page_leaves p f) (record { low = omega (arith, ints); high = omega (arith, ints) }, ((h.textheight, zero-extent), tt))

  taken-sized : (s : PageSums) → All IsSizedOnPage (taken_nodes p s f)
  taken-sized s = by_places f.places.h (int_lt s.goal (with_float p s f)) (f.places.t || f.places.b)
    where
      by_places : (x g t : Bool) → All IsSizedOnPage (if x then (if g then top_insertion (top_leaves p f) ∷ [] else here_nodes p f) else (if t then top_insertion (top_leaves p f) ∷ [] else top_insertion (page_leaves p f) ∷ []))
      by_places true true t = inserted-sized (top_leaves p f) top-leaves-sized
      by_places true false t = here-sized
      by_places false g true = inserted-sized (top_leaves p f) top-leaves-sized
      by_places false g false = inserted-sized (page_leaves p f) page-leaves-sized

-- few nodes, no act among them, and no kern at their end
pub record IsFewPut (ns : List PlainNode) : Type 0 where
  pub count : node_count ns ≤ 5
  pub length_is : length ns ≤ 4
  pub none : NoActs ns
  pub ends : kern_last false ns ≡ false

taken-few : (p : Params) (s : PageSums) (f : Float) → IsFewPut (taken_nodes p s f)
taken-few p s f = by_places f.places.h (int_lt s.goal (with_float p s f)) (f.places.t || f.places.b)
  where
    by_places : (x g t : Bool) → IsFewPut (if x then (if g then top_insertion (top_leaves p f) ∷ [] else here_nodes p f) else (if t then top_insertion (top_leaves p f) ∷ [] else top_insertion (page_leaves p f) ∷ []))
    by_places true true t = record { count = omega arith; length_is = omega arith; none = (refl, tt); ends = refl }
    by_places true false t = record { count = omega arith; length_is = omega arith; none = (refl, (refl, (refl, (refl, tt)))); ends = refl }
    by_places false g true = record { count = omega arith; length_is = omega arith; none = (refl, tt); ends = refl }
    by_places false g false = record { count = omega arith; length_is = omega arith; none = (refl, tt); ends = refl }

pub put-few : (p : Params) (s : PageSums) (a : Act) → IsTake a → IsFewPut (act_nodes p s a)
put-few p s (acts.Take f) h = taken-few p s f
put-few p s a h = absurd h

pub put-sized : (p : Params) (s : PageSums) (a : Act) → AreMakeupParams p → IsTake a → All IsSizedOnPage (act_nodes p s a)
put-sized p s (acts.Take f) m h = taken-sized p m f h s
put-sized p s a m h = absurd h

-- ---- the state after an act

module _ (p : Params) (m : AreMakeupParams p) (s : MakeupState) (nodes : AreRunNodes s) (before after : List PlainNode) (line : ℕ) (a : Act) (waits : s.waiting ≡ before ++ record { line = line; kind = act a } ∷ after) (none : NoActs before) (sums : PageSums) where
  abbrev put : List PlainNode
  put = act_nodes p sums a

  abbrev now : MakeupState
  now = record s { page = laid_out p.topskip s.page before; waiting = put ++ after }

  takes : IsTake a × ActsAreLed false after
  takes = led-takes false before line a after (subst (ActsAreLed false) waits nodes.led)

  sized : All IsSizedOnPage (before ++ record { line = line; kind = act a } ∷ after)
  sized = subst (All IsSizedOnPage) waits nodes.waiting

  few : IsFewPut put
  few = put-few p sums a takes.0

  counted : node_total now ≤ node_total s
  counted =
      let a1 = laid-count p.topskip s.page before in
      let a2 = count-append put after in
      let a3 = acts-append put after in
      let a4 = put-acts p sums a in
      let a5 = few.count in
      let b1 = ap node_count waits ∙ count-append before (record { line = line; kind = act a } ∷ after) in
      let b2 = ap act_count waits ∙ acts-append before (record { line = line; kind = act a } ∷ after) in
      omega (arith, a1, a2, a3, a4, a5, b1, b2)

  pub acted-nodes : AreRunNodes now
  acted-nodes = record {
    page = laid-sized p.topskip s.page before m.topskip nodes.page (front-sized before (record { line = line; kind = act a } ∷ after) sized);
    waiting = All-append IsSizedOnPage put after (put-sized p sums a m takes.0) (back-sized (record { line = line; kind = act a } ∷ []) after (back-sized before (record { line = line; kind = act a } ∷ after) sized));
    quiet = none-laid p.topskip s.page before nodes.quiet none;
    led = led-both false put after (led-none false put few.none) takes.1;
    acts =
        (let a3 = acts-append put after in let a4 = put-acts p sums a in let b2 = ap act_count waits ∙ acts-append before (record { line = line; kind = act a } ∷ after) in let k = nodes.acts in omega (arith, a3, a4, b2, k));
    few = let c = counted in let k = nodes.few in omega (arith, c, k);
  }

  pub acted-total : node_total now ≤ node_total s
  acted-total = counted

  pub acted-acts : act_count now.waiting ≤ act_count s.waiting
  acted-acts =
      let a3 = acts-append put after in
      let a4 = put-acts p sums a in
      let b2 = ap act_count waits ∙ acts-append before (record { line = line; kind = act a } ∷ after) in
      omega (arith, a3, a4, b2)

  pub acted-takes : IsTake a
  acted-takes = takes.0
