-- What waits after a page that fires.
use Rattle.std.proofs.Common.{◌≡◌, refl, sym, subst, ℕ, zero, suc, ◌+◌, ◌*◌, ◌≤◌, ℤ, negsuc, Bool, true, false, List, [], ◌∷◌, ◌++◌, map, take, drop, Some, None, arith}
use Rattle.std.specs.Prelude.{All, ◌&&◌, neg_ℤ, int_le, if◌then◌else◌}
use Rattle.std.proofs.lemmas.Int.{ints}
use Rattle.std.proofs.lemmas.List.Elements.{All-nil, All-append, All-from_recursion}
use Rattle.tb_builder.proofs.Turns.PastLemmas.{acts-both}
use Rattle.tb_node.specs.Fit.{IsDimension, IsExtent}
use Rattle.tb_node.specs.PlainNodes.{Leaf, Inserted, PlainKind, plain, ins, act, PlainNode, is_act_kind, without_acts, on_line}
use Rattle.tb_param.specs.declared.Params.{Params}
use Rattle.tb_insert.specs.Account.{Labelled, Label, whole, split, late, labelled, terms_after}
use Rattle.tb_builder.specs.Reach.{Reach, laid_out}
use Rattle.tb_builder.specs.FiredPages.{Fired, Boxed, box_after, given_to, is_given, page_break, unless_empty, held_of, held_insertions, frozen_for, fired_of}
use Rattle.tb_builder.specs.Contents.{node_count}
use Rattle.tb_builder.specs.Contributions.{with_void}
use Rattle.tb_builder.specs.SizedContents.{IsSizedAsk, fired_count}
use Rattle.tb_builder.specs.Pageable.{IsSizedOnPage}
use Rattle.tb_builder.specs.LegalPlaces.{NoActs}
use Rattle.tb_builder.proofs.Cutting.CutLemmas.{CutAt, reach-cut, ActFree, AllFree, acts-free}
use Rattle.tb_builder.proofs.Ranges.PageableLemmas.{count-append, extent_goal}
use Rattle.tb_builder.proofs.Ranges.SizedLemmas.{FiredSized}
use Rattle.tb_builder.proofs.Events.WholeLemmas.{AreMatter, fired_of-sized, fired_of-fewer, fired-matter}
use Rattle.tb_plain.specs.Firing.{holds_any, page_for_held, put_back_after}
use Rattle.tb_plain.specs.Run.{MakeupState, makeup_ask, makeup_classes, void_boxes, makeup_reach, one_act, act_count, waiting_after}
use Rattle.tb_plain.specs.MakeupCalls.{AreMakeupParams}
use Rattle.tb_plain.proofs.StepLemmas.{acts-laid, reach-acts, fired-acts}
use Rattle.tb_makeup.specs.LedActs.{ActsAreLed}
use Rattle.tb_makeup.specs.Makeup.{node_total, AreRunNodes, AreAfter}
use Rattle.tb_makeup.proofs.Filled.LedLemmas.{led-both, led-none, led-back, led-free, led-laid, led-spent}
use Rattle.tb_makeup.proofs.Filled.FillLemmas.{zero-extent, zero-dimension, classes-fit, boxes-sized}

-- ---- no acts

free-kind : (k : PlainKind) → ActFree k → is_act_kind k ≡ false
free-kind (plain m) h = refl
free-kind (ins i) h = refl
free-kind (act a) h = absurd h

free-none : (ns : List PlainNode) → AllFree ns → NoActs ns
free-none [] h = tt
free-none (n ∷ ns) h = (free-kind n.kind h.0, free-none ns h.1)

drop-none : (k : ℕ) (ns : List PlainNode) → NoActs ns → NoActs (drop k ns)
drop-none zero ns h = h
drop-none (suc k) [] h = tt
drop-none (suc k) (n ∷ ns) h = drop-none k ns h.1

unless-none : (line : ℕ) (i : Inserted) (ls : List Leaf) → NoActs (on_line line (unless_empty i ls))
unless-none line i [] = tt
unless-none line i (l ∷ ls) = (refl, tt)

held_of-none : (line : ℕ) (t : Label) (i : Inserted) → NoActs (on_line line (held_of t i))
held_of-none line whole i = tt
held_of-none line (split f) i = unless-none line i _
held_of-none line late i = (refl, tt)

held-none : (ls : List Labelled) → NoActs (held_insertions ls)
held-none [] = tt
held-none (l ∷ ls) = acts-both (on_line l.line (held_of l.label l.inserted)) (held_insertions ls) (held_of-none l.line l.label l.inserted) (held-none ls)

kind-none : (k : PlainKind) → is_act_kind k ≡ false → one_act k ≡ 0
kind-none (plain m) e = refl
kind-none (ins i) e = refl
kind-none (act a) e = let h : true ≡ false = e in cc

count-none : (ns : List PlainNode) → NoActs ns → act_count ns ≡ 0
count-none [] h = refl
count-none (n ∷ ns) h = let a = kind-none n.kind h.0 in let b = count-none ns h.1 in omega (arith, a, b)

-- ---- what is put back

minus-dimension : (z : ℤ) → IsExtent z → IsDimension (neg_ℤ z)
minus-dimension z h = record { low = let a = h.high in grind (arith, ints, a); high = let a = h.low in grind (arith, ints, a) }

record IsBack (ns : List PlainNode) : Type 0 where
  sized : All IsSizedOnPage ns
  none : NoActs ns
  few : node_count ns ≤ 5

back-is : (p : Params) (m : AreMakeupParams p) (f : Fired) → IsBack (put_back_after p f)
back-is p m f = by_test (int_le f.penalty (negsuc 19999) && holds_any f.held)
  where
    by_test : (t : Bool) → IsBack (if t then page_for_held p else [])
    by_test false = record { sized = All-nil IsSizedOnPage; none = tt; few = omega arith }
    by_test true = record {
      sized = All-from_recursion IsSizedOnPage (page_for_held p) (
        record { shape = (zero-extent, zero-extent); kind = tt },
        (
          record { shape = minus-dimension p.topskip m.topskip; kind = tt },
          (
            record { shape = record { low = omega (arith, ints); high = omega (arith, ints) }; kind = tt },
            (
              record { shape = (zero-dimension, record { low = omega (arith, ints); high = omega (arith, ints) }, zero-dimension); kind = tt },
              (record { shape = record { low = omega (arith, ints); high = omega (arith, ints) }; kind = tt }, tt),
            ),
          ),
        ),
      );
      none = (refl, (refl, (refl, (refl, (refl, tt)))));
      few = omega arith;
    }

-- ---- its boxes

-- the insertions of a page that fires
abbrev pub labels : Params → MakeupState → List Labelled
labels p s = labelled (frozen_for (makeup_ask p) (makeup_classes p) void_boxes) (take (page_break (makeup_reach p s)).place (makeup_reach p s).passed)

-- both are void once they were taken
pub void-after : (ls : List Labelled) → with_void 254 (with_void 253 (map (box_after ls) void_boxes)) ≡ void_boxes
void-after ls = by_given (is_given 253 ls) (is_given 254 ls)
  where
    boxed : Bool → ℕ → Boxed
    boxed given k = if given then record { number = k; content = Some ([] ++ given_to k ls) } else record { number = k; content = None }

    by_given : (x y : Bool) → with_void 254 (with_void 253 (boxed x 253 ∷ boxed y 254 ∷ [])) ≡ void_boxes
    by_given true true = refl
    by_given true false = refl
    by_given false true = refl
    by_given false false = refl

-- ---- the page that fires

-- after a page at most six nodes more wait, those that acts can add included, and no more acts
pub record Grows (p : Params) (s : MakeupState) (f : Fired) : Type 0 where
  pub total : node_count (waiting_after p f) + 5 * act_count (waiting_after p f) ≤ node_total s + 6
  pub acts : act_count (waiting_after p f) ≤ act_count s.waiting

module _ (p : Params) (m : AreMakeupParams p) (s : MakeupState) (nodes : AreRunNodes s) where
  abbrev w : Reach
  w = makeup_reach p s

  abbrev pub fired : Fired
  fired = fired_of (makeup_ask p) (makeup_classes p) void_boxes w

  abbrev ns : List PlainNode
  ns = laid_out p.topskip s.page s.waiting

  pub asked-sized : IsSizedAsk (makeup_ask p)
  asked-sized = record { goal = extent_goal p.textheight m.textheight; depth = m.maxdepth; top_skip = m.topskip; foot_skip = (m.skipfootins.width, m.skipfootins.stretch, m.skipfootins.shrink) }

  pub fired-sized : FiredSized fired
  fired-sized = fired_of-sized (makeup_ask p) (makeup_classes p) void_boxes s.page s.waiting asked-sized nodes.page nodes.waiting (boxes-sized p m)

  pub fired-few : fired_count fired ≤ node_count s.page + node_count s.waiting + 1
  fired-few = let h = fired_of-fewer (makeup_ask p) (makeup_classes p) void_boxes s.page s.waiting asked-sized nodes.page nodes.waiting (classes-fit p m) (refl, (refl, tt)) in omega (arith, h)

  pub fired-text : AreMatter fired.body
  fired-text = fired-matter p.maxdepth (terms_after (frozen_for (makeup_ask p) (makeup_classes p) void_boxes)) (labelled (frozen_for (makeup_ask p) (makeup_classes p) void_boxes) (take (page_break w).place w.passed)) void_boxes ns

  cut : CutAt [] ns w
  cut = reach-cut p.maxdepth (terms_after (frozen_for (makeup_ask p) (makeup_classes p) void_boxes)) [] ns

  beyond-led : ActsAreLed false w.beyond
  beyond-led =
      let back = led-back false cut.front w.beyond (subst (ActsAreLed false) cut.whole (led-laid p.topskip s.page s.waiting nodes.quiet nodes.led)) in
      led-free back.flag w.beyond cut.first back.led

  passed-none : NoActs w.passed
  passed-none = subst NoActs (sym cut.passed) (free-none (without_acts cut.front) (acts-free cut.front))

  rest-led : ActsAreLed false fired.rest
  rest-led = led-spent false (drop (page_break w).place w.passed ++ w.beyond) (led-both false (drop (page_break w).place w.passed) w.beyond (led-none false (drop (page_break w).place w.passed) (drop-none (page_break w).place w.passed passed-none)) beyond-led)

  back : IsBack (put_back_after p fired)
  back = back-is p m fired

  acts-fewer : act_count (waiting_after p fired) ≤ act_count s.waiting
  acts-fewer =
      let a = fired-acts p w in
      let b = reach-acts p.maxdepth (terms_after (frozen_for (makeup_ask p) (makeup_classes p) void_boxes)) [] ns in
      let c = acts-laid p.topskip s.page s.waiting in
      let d = count-none s.page nodes.quiet in
      omega (arith, a, b, c, d)

  count-more : node_count (waiting_after p fired) ≤ node_count s.page + node_count s.waiting + 6
  count-more =
      let a = count-append fired.held (put_back_after p fired ++ fired.rest) in
      let b = count-append (put_back_after p fired) fired.rest in
      let c = back.few in
      let d = fired-few in
      omega (arith, a, b, c, d)

  pub fired-grows : Grows p s fired
  fired-grows = let a = acts-fewer in let b = count-more in record { total = omega (arith, a, b); acts = a }

  pub fired-after : AreAfter p fired
  fired-after = record {
    sized = All-append IsSizedOnPage fired.held (put_back_after p fired ++ fired.rest) fired-sized.held (All-append IsSizedOnPage (put_back_after p fired) fired.rest back.sized fired-sized.rest);
    led =
        led-both false fired.held (put_back_after p fired ++ fired.rest) (led-none false fired.held (held-none (labelled (frozen_for (makeup_ask p) (makeup_classes p) void_boxes) (take (page_break w).place w.passed))))
        (led-both false (put_back_after p fired) fired.rest (led-none false (put_back_after p fired) back.none) rest-led);
    acts = (let a = acts-fewer in let e = nodes.acts in omega (arith, a, e));
    few = (let b = count-more in let e = nodes.few in omega (arith, b, e));
  }
