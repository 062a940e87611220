-- After a step a page is at a stop, or a box comes after the node that went on it.
use Rattle.std.proofs.Common.{◌≡◌, refl, sym, subst, ◌∙◌, ap, ◌<◌, Bool, true, false, List, [], ◌∷◌, ◌++◌, length, map, Option, None, Some, arith}
use Rattle.std.proofs.lemmas.Bool.{true≢false}
use Rattle.std.proofs.lemmas.List.{length-map}
use Rattle.tb_pool.specs.Lists.{Lists, list_at}
use Rattle.tb_node.specs.declared.Node.{Node}
use Rattle.tb_node.specs.declared.Kind.{Kind}
use Rattle.tb_node.specs.declared.Kind.TheVariants as kinds
use Rattle.tb_node.specs.Shape.{Shape, box, other, is_box, is_discardable, height_of}
use Rattle.tb_node.specs.SmallAmounts.{IsSmall}
use Rattle.tb_node.specs.PlainNodes.{PlainNode, plain_of, node_shape, shape_of, shape_of_kind}
use Rattle.tb_node.specs.NodeSums.{added_node}
use Rattle.tb_node.specs.Roles.{act_of_kind, insertion_of_kind}
use Rattle.tb_break.specs.Best.{Breakpoint, is_stop}
use Rattle.tb_break.specs.PageTop.{pruned_nodes, glue_before, top_glue}
use Rattle.tb_insert.specs.Account.{Frozen}
use Rattle.tb_builder.specs.declared.Ask.{Ask}
use Rattle.tb_builder.specs.declared.Builder.{Builder}
use Rattle.tb_builder.specs.declared.Course.{Course}
use Rattle.tb_builder.specs.declared.Event.{Event}
use Rattle.tb_builder.specs.declared.Event.TheVariants as events
use Rattle.tb_builder.specs.Reach.{also_reached, tried, holds_box}
use Rattle.tb_builder.specs.Ownership.{ids_of}
use Rattle.tb_builder.specs.Contents.{Contents, contents_of, frozen_of, laid}
use Rattle.tb_builder.specs.Courses.{IsCourseOf, Underway, kept_frozen, AllLasting}
use Rattle.tb_builder.specs.PageEvents.{LaidFits, NextFits}
use Rattle.tb_builder.specs.PassedNodes.{ComesPast}
use Rattle.tb_builder.specs.PageTurns.{ChangesPage, Shifted, GoesUntried, StepIs, StepFits, TurnIs, places_on}
use Rattle.tb_builder.proofs.LegalPlaces.CourseLemmas.{shape_is, no_act}
use Rattle.tb_builder.proofs.Turns.TurnLemmas.{holds_now, lasting_penalty, ahead_closed}
use Rattle.tb_builder.proofs.Turns.StepLemmas.{passed_step, step_sums}
use Rattle.tb_builder.proofs.Turns.SteppedLemmas.{turn_of_step}
use Rattle.tb_builder.proofs.Turns.PastLemmas.{past-first, past-stepped}
use Rattle.tb_builder.proofs.Ownership.FrameLemmas.{leaves_then}
use Rattle.tb_builder.proofs.Turns.FirstBoxLemmas.{step_fits, top_at, Topped}

-- one move after another
pub moves_after : (b d e : Builder) (s t r : Lists Node) → ChangesPage b s d t → ChangesPage d t e r → ChangesPage b s e r
moves_after b d e s t r m n = record {
  own = n.own;
  frame = leaves_then (ids_of b) (ids_of d) (ids_of e) s t r m.frame n.frame;
  classes = n.classes ∙ m.classes;
  boxes = n.boxes ∙ m.boxes;
  held = n.held ∙ m.held;
}

-- a box is no act and no insertion, and does not vanish
pub boxed_act : (k : Kind) → is_box (shape_of_kind k) ≡ true → act_of_kind k ≡ None
boxed_act (kinds.Act a) e = absurd (true≢false (sym e))
boxed_act k e = refl

pub boxed_insertion : (k : Kind) → is_box (shape_of_kind k) ≡ true → insertion_of_kind k ≡ None
boxed_insertion (kinds.Ins i) e = absurd (true≢false (sym e))
boxed_insertion k e = refl

boxed_stays : (s : Shape) → is_box s ≡ true → is_discardable s ≡ false
boxed_stays (box h d) e = refl
boxed_stays other e = refl
boxed_stays s e = absurd (true≢false (sym e))

-- ---- what a step leaves

module _ (z : Frozen) (k : Course) (m d : Contents) (on : m.stopped ≡ false) where
  -- at a stop the page and what waits are as before, and a place was tried
  pub stop_contents : (o : Option Event) → StepIs o z k m d → d.stopped ≡ true → (d.page ≡ m.page) × (d.waiting ≡ m.waiting)
  stop_contents None st e = absurd (true≢false (sym e ∙ st.2 ∙ on))
  stop_contents (Some (events.Try t)) st e = by_stop (is_stop st.place) refl
    where
      by_stop : (b : Bool) → is_stop st.place ≡ b → (d.page ≡ m.page) × (d.waiting ≡ m.waiting)
      by_stop true h = ((st.stops h).page, (st.stops h).waiting)
      by_stop false h = absurd (true≢false (sym e ∙ (st.goes h).0.stopped))
  stop_contents o st e = absurd st

  pub stop_tried : (o : Option Event) → StepIs o z k m d → d.stopped ≡ true → o ≡ None → ⊥
  stop_tried None st e n = true≢false (sym e ∙ st.2 ∙ on)
  stop_tried (Some v) st e n = cc

  pub none_going : (o : Option Event) → StepIs o z k m d → o ≡ None → d.stopped ≡ false
  none_going None st e = st.2 ∙ on
  none_going (Some v) st e = cc

  -- else the page is underway, and nothing is lost
  pub step_going : (o : Option Event) → StepIs o z k m d → d.stopped ≡ false → Underway z k d.page d.waiting × (d.page ++ d.waiting ≡ m.page ++ m.waiting)
  step_going None st e = (st.1, st.0.whole)
  step_going (Some (events.Try t)) st e = by_stop (is_stop st.place) refl
    where
      by_stop : (b : Bool) → is_stop st.place ≡ b → Underway z k d.page d.waiting × (d.page ++ d.waiting ≡ m.page ++ m.waiting)
      by_stop true h = absurd (true≢false (sym (st.stops h).stopped ∙ e))
      by_stop false h = ((st.goes h).1, (st.goes h).0.whole)
  step_going o st e = absurd st

  -- a node goes on the page after the step
  pub step_after : (o : Option Event) (l : Course) (e : Contents) → StepIs o z k m d → d.stopped ≡ false → GoesUntried z d e → Underway z l e.page e.waiting → e.stopped ≡ false → StepIs o z l m e
  step_after None l e st go p u stay = (
    record { reach = st.0.reach ∙ p.reach; places = p.places ∙ st.0.places; whole = p.whole ∙ st.0.whole },
    u,
    stay ∙ sym on,
  )
  step_after (Some (events.Try t)) l e st go p u stay = record {
    line = st.line;
    place = st.place;
    made = st.made;
    goes = λ h. (
      record {
        reach = (st.goes h).0.reach ∙ ap (also_reached (tried st.line st.place)) p.reach;
        places = p.places ∙ (st.goes h).0.places;
        whole = p.whole ∙ (st.goes h).0.whole;
        stopped = stay;
      },
      u,
    );
    stops = λ h. absurd (true≢false (sym (st.stops h).stopped ∙ go));
  }
  step_after (Some (events.Act a)) l e st go p u stay = absurd st
  step_after o l e st go p u stay = absurd st

-- ---- a box comes after what went on the page

module _ (z : Frozen) (all : List PlainNode) (b : Builder) (s : Lists Node) (n : Node) (ns : List Node) (fits : LaidFits z all) (boxed : is_box (shape_of n) ≡ true) (list_is : list_at s b.waiting ≡ n ∷ ns)
    (u : Underway z b.course (contents_of b s).page (contents_of b s).waiting) (whole : (contents_of b s).page ++ (contents_of b s).waiting ≡ all) where
  pub box_waits : (contents_of b s).waiting ≡ plain_of (list_at s) n ∷ map (plain_of (list_at s)) ns
  box_waits = ap (map (plain_of (list_at s))) list_is

  pub box_fits : StepFits z (contents_of b s).page (list_at s) n
  box_fits = step_fits z (contents_of b s).page all (list_at s) n (map (plain_of (list_at s)) ns) fits (ap (λ w. (contents_of b s).page ++ w) (sym box_waits) ∙ whole) (boxed_act n.kind boxed) (boxed_insertion n.kind boxed)

  pub box_sums : IsSmall (added_node b.course.scan.max_depth b.course.scan.sums (shape_of n))
  box_sums = step_sums z b.course (contents_of b s).page (places_on z (contents_of b s)) (list_at s) n u.course box_fits

  plain_boxed : is_box (node_shape (plain_of (list_at s) n)) ≡ true
  plain_boxed = ap is_box (shape_is (list_at s) n) ∙ boxed

  pub box_passes : (l : Course) (d : Contents) → Shifted (plain_of (list_at s) n) (contents_of b s) d → IsCourseOf z l ((contents_of b s).page ++ plain_of (list_at s) n ∷ []) (places_on z (contents_of b s)) → StepIs None z l (contents_of b s) d
  box_passes l d shifted h = passed_step z b.course l (contents_of b s) d (list_at s) n (map (plain_of (list_at s)) ns) u box_fits box_waits
      (lasting_penalty b.course.lasting _ (plain_of (list_at s) n) (boxed_stays (node_shape (plain_of (list_at s) n)) plain_boxed)) shifted h

  pub box_opens : (d : Contents) → Shifted (plain_of (list_at s) n) (contents_of b s) d → holds_box d.page ≡ true
  box_opens d shifted = ap holds_box shifted.page ∙ holds_now (contents_of b s).page (plain_of (list_at s) n) plain_boxed

-- ---- the top glue and then the box

-- d is the builder once the top glue was put before what waits, and e the builder after its step
module _ (b d e : Builder) (s t r : Lists Node) (ask : Ask) (n g : Node) (ns : List Node) (o : Option Event) (h : Topped b d s t ask n g ns) (on : d.stopped ≡ false) (closed : d.opened ≡ false)
    (moves : ChangesPage d t e r) (st : StepIs o (kept_frozen (contents_of d t)) e.course (contents_of d t) (contents_of e r)) (opened : e.opened ≡ d.opened) (frozen : e.frozen ≡ d.frozen) where
  step_is : StepIs o (frozen_of (contents_of b s) ask) e.course (contents_of d t) (contents_of e r)
  step_is = subst (λ z. StepIs o z e.course (contents_of d t) (contents_of e r)) h.kept_is st

  -- the place before the glue is a stop
  pub opening_stops : e.stopped ≡ true → TurnIs b s ask o e r
  opening_stops stop =
      turn_of_step b e s r ask o (contents_of d t) (moves_after b d e s t r h.moves moves) (frozen ∙ h.frozen)
      (opened ∙ closed ∙ sym (ap holds_box ((stop_contents (kept_frozen (contents_of d t)) e.course (contents_of d t) (contents_of e r) on o st stop).0) ∙ h.closed))
      (λ c. subst AllLasting (sym ((stop_contents (kept_frozen (contents_of d t)) e.course (contents_of d t) (contents_of e r) on o st stop).0)) h.lasting)
      h.lays on (λ go. absurd (true≢false (sym stop ∙ go))) (λ s. still stop) step_is
      (λ none. absurd (stop_tried (kept_frozen (contents_of d t)) e.course (contents_of d t) (contents_of e r) on o st stop none))
      (λ none. absurd (stop_tried (kept_frozen (contents_of d t)) e.course (contents_of d t) (contents_of e r) on o st stop none))
      (past-stepped o (frozen_of (contents_of b s) ask) e.course ask (contents_of b s) (contents_of d t) (contents_of e r) on step_is (λ go. absurd (true≢false (sym stop ∙ go))))
    where
      -- what waits is the top glue and the box, which are pruned to themselves
      still : e.stopped ≡ true → laid (contents_of e r) ask ≡ (contents_of e r).page ++ (contents_of e r).waiting
      still stop =
          let same = stop_contents (kept_frozen (contents_of d t)) e.course (contents_of d t) (contents_of e r) on o st stop in
          ap (λ w. (contents_of e r).page ++ w) (ahead_closed (contents_of e r) ask (ap holds_box same.0 ∙ h.closed) ∙ ap (pruned_nodes ask.top_skip) same.1 ∙ h.pruned ∙ sym same.1)

  module _ (fits : NextFits (contents_of b s) ask) (boxed : is_box (shape_of n) ≡ true) (go : e.stopped ≡ false) (list_is : list_at r e.waiting ≡ n ∷ ns) where
    abbrev z : Frozen
    z = frozen_of (contents_of b s) ask

    going : Underway z e.course (contents_of e r).page (contents_of e r).waiting
    going = (step_going z e.course (contents_of d t) (contents_of e r) on o step_is go).0

    whole : (contents_of e r).page ++ (contents_of e r).waiting ≡ laid (contents_of b s) ask
    whole = (step_going z e.course (contents_of d t) (contents_of e r) on o step_is go).1 ∙ sym h.lays.laid_is

    pub opening_sums : IsSmall (added_node e.course.scan.max_depth e.course.scan.sums (shape_of n))
    opening_sums = box_sums z (laid (contents_of b s) ask) e r n ns fits.laid_fits boxed list_is going whole

    -- the box is on the page after the glue
    pub opening_goes : (x : Builder) (y : Lists Node) → ChangesPage e r x y → Shifted (plain_of (list_at r) n) (contents_of e r) (contents_of x y) → x.opened ≡ true
        → ((w : Frozen) (bs : List Breakpoint) → IsCourseOf w e.course (contents_of e r).page bs → IsCourseOf w x.course ((contents_of e r).page ++ plain_of (list_at r) n ∷ []) bs)
        → list_at s b.waiting ≡ n ∷ ns → list_at y x.waiting ≡ ns → TurnIs b s ask o x y
    opening_goes x y last shifted has_box put first behind =
        let passed = box_passes z (laid (contents_of b s) ask) e r n ns fits.laid_fits boxed list_is going whole x.course (contents_of x y) shifted (put z (places_on z (contents_of e r)) going.course) in
        let after = step_after z e.course (contents_of d t) (contents_of e r) on o x.course (contents_of x y) step_is go passed.0 passed.1 (shifted.stopped ∙ go) in
        turn_of_step b x s y ask o (contents_of d t) (moves_after b d x s t y h.moves (moves_after d e x t r y moves last)) (shifted.frozen ∙ frozen ∙ h.frozen)
        (has_box ∙ sym (box_opens z (laid (contents_of b s) ask) e r n ns fits.laid_fits boxed list_is going whole (contents_of x y) shifted))
        (λ c. absurd (true≢false (sym has_box ∙ c))) h.lays on (λ c. has_box) (λ stop. absurd (true≢false (sym stop ∙ shifted.stopped ∙ go)))
        after
        (λ none c. absurd (true≢false (sym has_box ∙ c)))
        (λ none. shorter first behind)
        (past-stepped o z x.course ask (contents_of b s) (contents_of d t) (contents_of x y) on after (λ still. record { comes = came first behind (passed.0.whole ∙ whole); shorter = shorter first behind }))
      where
        plain_n : PlainNode
        plain_n = plain_of (list_at s) n

        rest : List PlainNode
        rest = map (plain_of (list_at s)) ns

        top : PlainNode
        top = plain_of (list_at s) (glue_before n (top_glue ask.top_skip (height_of (shape_of n))))

        no_box : holds_box (contents_of b s).page ≡ false
        no_box = ap holds_box (sym h.page) ∙ h.closed

        came : list_at s b.waiting ≡ n ∷ ns → list_at y x.waiting ≡ ns → (contents_of x y).page ++ (contents_of x y).waiting ≡ laid (contents_of b s) ask → ComesPast (contents_of x y).waiting (contents_of b s) (contents_of x y) ask
        came first behind all =
            let waits : (contents_of b s).waiting ≡ plain_n ∷ rest = ap (map (plain_of (list_at s))) first in
            past-first plain_n top rest (contents_of b s) (contents_of x y) ask waits
            (all ∙ ap (λ w. (contents_of b s).page ++ w) (ahead_closed (contents_of b s) ask no_box ∙ ap (pruned_nodes ask.top_skip) waits ∙ top_at (list_at s) ask.top_skip n rest boxed))
            (length-map (list_at y x.waiting) (plain_of (list_at y)) ∙ ap length behind ∙ sym (length-map ns (plain_of (list_at s))))
            no_box (top_at (list_at s) ask.top_skip n [] boxed) (no_act (list_at s) n.kind (boxed_act n.kind boxed))

        shorter : list_at s b.waiting ≡ n ∷ ns → list_at y x.waiting ≡ ns → length (contents_of x y).waiting < length (contents_of b s).waiting
        shorter first behind =
            let l : length (contents_of x y).waiting ≡ length ns = length-map (list_at y x.waiting) (plain_of (list_at y)) ∙ ap length behind in
            let m : length (contents_of b s).waiting ≡ length (n ∷ ns) = length-map (list_at s b.waiting) (plain_of (list_at s)) ∙ ap length first in
            omega arith
