-- Turn by turn up to an event.
use Rattle.std.proofs.Common.{◌≡◌, inl, refl, sym, subst, ◌∙◌, ap, ℕ, ◌<◌, ◌≤◌, Bool, true, false, List, [], ◌∷◌, ◌++◌, length, map, Option, None, Some, append-nil, arith}
use Rattle.std.specs.Prelude.{slice_get, if◌then◌else◌}
use Rattle.std.proofs.lemmas.Bool.{true≢false}
use Rattle.std.proofs.lemmas.List.{length-map}
use Rattle.tb_pool.specs.Lists.{Lists, list_at, with_list}
use Rattle.tb_node.specs.declared.Node.{Node}
use Rattle.tb_node.specs.declared.Act.{Act}
use Rattle.tb_node.specs.declared.Kind.{Kind}
use Rattle.tb_node.specs.declared.Kind.TheVariants as kinds
use Rattle.tb_node.specs.PlainNodes.{act, PlainNode, plain_of}
use Rattle.tb_node.specs.Roles.{act_of_kind, insertion_of_kind}
use Rattle.tb_break.specs.Places.{ends_lasting}
use Rattle.tb_break.specs.Best.{is_stop}
use Rattle.tb_break.specs.PageTop.{pruned_nodes}
use Rattle.tb_insert.specs.Account.{Frozen, terms_after}
use Rattle.tb_builder.specs.declared.Ask.{Ask}
use Rattle.tb_builder.specs.declared.Builder.{Builder}
use Rattle.tb_builder.specs.declared.Event.{Event}
use Rattle.tb_builder.specs.declared.Event.TheVariants as events
use Rattle.tb_builder.specs.Reach.{holds_box}
use Rattle.tb_builder.specs.LegalPlaces.{page_shapes, glue_first, page_places, NoStop}
use Rattle.tb_builder.specs.Contents.{Contents, contents_of, frozen_of, ahead_of, laid, reach_ahead, places_of, frozen_with}
use Rattle.tb_builder.specs.Ownership.{ids_of, inner_of}
use Rattle.tb_builder.specs.Courses.{IsCourseOf, Underway, places_by, kept_frozen, AllLoose, AllLasting, IsPageSoFar, freezes, IsSound}
use Rattle.tb_builder.specs.PageEvents.{NextFits, BoxesFit, LaidFits, KeepsBoxes, FirstIs, NextIs}
use Rattle.tb_builder.specs.PassedNodes.{ComesPast}
use Rattle.tb_builder.specs.PageTurns.{AtAct, ChangesPage, StepIs, StepFits, ReachesNothing, TurnIs, Filled}
use Rattle.tb_builder.proofs.Turns.MoveLemmas.{Written, written_drop}
use Rattle.tb_builder.proofs.Ownership.FrameLemmas.{leaves_then}
use Rattle.tb_builder.proofs.Turns.FillLemmas.{moves_from, page_from, waiting_from}
use Rattle.tb_builder.proofs.Turns.TurnLemmas.{acts_turn, empty_turn, ahead_open, lays_open, keeps-frozen}
use Rattle.tb_builder.proofs.Turns.MeetLemmas.{stays_from}
use Rattle.tb_builder.proofs.Turns.SteppedLemmas.{turn_of_step}
use Rattle.tb_builder.proofs.Turns.FirstBoxLemmas.{opened_frozen, kept_is_frozen, underway_of, step_fits}
use Rattle.tb_builder.proofs.Turns.BehindLemmas.{none_going, step_going}
use Rattle.tb_builder.proofs.LegalPlaces.CourseLemmas.{no_act}
use Rattle.tb_builder.proofs.Turns.PastLemmas.{past-none, event-after, past-open, past-stepped}
use Rattle.tb_builder.proofs.LegalPlaces.WithoutLemmas.{without_fits}
use Rattle.tb_builder.specs.FiredPages.{frozen_for}

-- ---- an act

act_inner : (a : Act) (k : Kind) → act_of_kind k ≡ Some a → inner_of k ≡ None
act_inner a (kinds.Ins i) e = cc
act_inner a k e = refl

plain_act : (held : ℕ → List Node) (n : Node) (a : Act) → act_of_kind n.kind ≡ Some a → (let m : PlainNode = record { line = n.line; kind = act a } in plain_of held n ≡ m)
plain_act held n a e = by_kind n.kind e
  where
    by_kind : (k : Kind) → act_of_kind k ≡ Some a → (let x : Node = record { line = n.line; kind = k } in (let m : PlainNode = record { line = n.line; kind = act a } in plain_of held x ≡ m))
    by_kind (kinds.Act x) e = let same : x ≡ a = cc in ap (λ y. with_act n.line y) same
      where
        with_act : ℕ → Act → PlainNode
        with_act line y = record { line = line; kind = act y }
    by_kind k e = cc

-- the first waiting node, an act, was handed out
module _ (b : Builder) (s t : Lists Node) (ask : Ask) (n : Node) (ns : List Node) (a : Act) (sound : IsSound b s) (on : b.stopped ≡ false) (first : list_at s b.waiting ≡ n ∷ ns) (is : act_of_kind n.kind ≡ Some a) (dropped : t.lists ≡ with_list s b.waiting ns) where
  w : Written (ids_of b) s t (list_at s b.page) ns
  w = written_drop (ids_of b) s t n ns sound.own first (act_inner a n.kind is) dropped

  moves : ChangesPage b s b t
  moves = moves_from b b s t (list_at s b.page) ns refl sound.own w

  page_is : (contents_of b t).page ≡ (contents_of b s).page
  page_is = page_from b b s t (list_at s b.page) ns refl sound.own w

  waits : (contents_of b s).waiting ≡ record { line = n.line; kind = act a } ∷ (contents_of b t).waiting
  waits = ap (map (plain_of (list_at s))) first ∙ (λ i. plain_act (list_at s) n a is i ∷ sym (waiting_from b b s t (list_at s b.page) ns refl sound.own w) i)

  glue_same : glue_first (contents_of b s).waiting ≡ glue_first (contents_of b t).waiting
  glue_same = ap glue_first waits

  stands_by : (o : Option Ask) → IsPageSoFar o false b.course (contents_of b s) → IsPageSoFar o false b.course (contents_of b t)
  stands_by None st = record { loose = subst AllLoose (sym page_is) st.loose; lasting_is = st.lasting_is ∙ sym (ap (λ p. ends_lasting (page_shapes p)) page_is) }
  stands_by (Some f) st =
      let z : Frozen = frozen_for f (contents_of b s).classes (contents_of b s).boxes in
      let same : places_by z (contents_of b t).page (contents_of b t).waiting ≡ places_by z (contents_of b s).page (contents_of b s).waiting = (λ i. page_places z.limit (terms_after z) [] (page_is i) (sym glue_same i)) in
      subst (λ x. Underway x b.course (contents_of b t).page (contents_of b t).waiting) (λ i. frozen_for f (sym moves.classes i) (sym moves.boxes i)) (record {
        course = subst (IsCourseOf z b.course (contents_of b t).page) (sym same) (subst (λ p. IsCourseOf z b.course p (places_by z (contents_of b s).page (contents_of b s).waiting)) (sym page_is) st.course);
        quiet = subst NoStop (sym same) st.quiet;
      })

  pub acted_turn : TurnIs b s ask (Some (events.Act a)) b t
  acted_turn = record {
    sound = record {
      own = moves.own;
      opened = sound.opened ∙ sym (ap holds_box page_is);
      closed = λ e. subst AllLasting (sym page_is) (sound.closed e);
      page = subst (λ x. IsPageSoFar b.frozen x b.course (contents_of b t)) (sym on) (stands_by b.frozen (subst (λ x. IsPageSoFar b.frozen x b.course (contents_of b s)) on sound.page));
      met = λ some go. ap freezes page_is ∙ sound.met some on;
    };
    frame = moves.frame;
    room = λ e. cc;
    shorter = λ e. cc;
    stays = stays_from b b s t ask moves (inl refl);
    turned = acts_turn (contents_of b s) (contents_of b t) ask n.line a waits page_is (keeps-frozen (stays_from b b s t ask moves (inl refl))) on;
    past = record { line = n.line; comes = past-none (record { line = n.line; kind = act a } ∷ (contents_of b t).waiting) (contents_of b s) (contents_of b t) ask waits page_is };
  }

-- ---- nothing waits

pub stays_here : (c : Contents) (ask : Ask) → KeepsBoxes c c ask
stays_here c ask = record { classes = refl; boxes = refl; held = refl; made = refl; keeps = λ f e. e }

pub empty_turned : (b : Builder) (s : Lists Node) (ask : Ask) → IsSound b s → b.stopped ≡ false → list_at s b.waiting ≡ [] → TurnIs b s ask (Some events.Empty) b s
empty_turned b s ask sound on none = record {
  sound = sound;
  frame = record { others = λ q h. refl; apart = λ q h. h };
  room = λ e. cc;
  shorter = λ e. cc;
  stays = stays_here (contents_of b s) ask;
  turned = empty_turn (contents_of b s) ask (ap (map (plain_of (list_at s))) none) on;
  past = past-none (contents_of b s).waiting (contents_of b s) (contents_of b s) ask refl refl;
}

-- ---- a turn, and then more

pub stays_after : (c d e : Contents) (ask : Ask) → KeepsBoxes c d ask → KeepsBoxes d e ask → KeepsBoxes c e ask
stays_after c d e ask a b = record {
  classes = b.classes ∙ a.classes;
  boxes = b.boxes ∙ a.boxes;
  held = b.held ∙ a.held;
  made = b.made ∙ a.made;
  keeps = λ f h. b.keeps f (a.keeps f h);
}

-- what `next` requires holds after a turn
pub fits_after : (c d : Contents) (ask : Ask) → NextFits c ask → KeepsBoxes c d ask → ReachesNothing c d ask → NextFits d ask
fits_after c d ask fits stays turns = record {
  asked = fits.asked;
  boxes = subst BoxesFit (sym stays.boxes) fits.boxes;
  laid_fits = subst (λ ns. LaidFits (frozen_of d ask) ns) (sym turns.whole) (subst (λ z. LaidFits z (laid c ask)) (sym (keeps-frozen stays)) fits.laid_fits);
}

-- the first event past the page after a turn that reached nothing is that of the page before
pub first_before : (v : Event) (c d e : Contents) (ask : Ask) → ReachesNothing c d ask → FirstIs v (laid d ask) (reach_ahead d ask) (places_of d ask) ask e → FirstIs v (laid c ask) (reach_ahead c ask) (places_of c ask) ask e
first_before v c d e ask t h = subst (λ ns. FirstIs v ns (reach_ahead c ask) (places_of c ask) ask e) t.whole (subst (λ r. FirstIs v (laid d ask) r (places_of c ask) ask e) (sym t.reach) (subst (λ bs. FirstIs v (laid d ask) (reach_ahead d ask) bs ask e) t.places h))

filled_later : (b d x : Builder) (s t y : Lists Node) (ask : Ask) (e : Event) → TurnIs b s ask None d t → Filled d t ask e x y → Filled b s ask e x y
filled_later b d x s t y ask e turn later = record {
  sound = later.sound;
  frame = leaves_then (ids_of b) (ids_of d) (ids_of x) s t y turn.frame later.frame;
  stays = stays_after (contents_of b s) (contents_of d t) (contents_of x y) ask turn.stays later.stays;
  first = first_before e (contents_of b s) (contents_of d t) (contents_of x y) ask turn.turned later.first;
  past = event-after e (contents_of b s) (contents_of d t) (contents_of x y) ask turn.past later.past;
}

-- a turn that ends with an event
filled_now : (b d : Builder) (s t : Lists Node) (ask : Ask) (e : Event) → TurnIs b s ask (Some e) d t → Filled b s ask e d t
filled_now b d s t ask e turn = record {
  sound = turn.sound;
  frame = turn.frame;
  stays = turn.stays;
  first = turn.turned;
  past = turn.past;
}

-- what a filling keeps: what is reached from here is reached from where it began
pub record Filling (a : Builder) (q : Lists Node) (ask : Ask) (b : Builder) (s : Lists Node) : Type 0 where
  pub sound : IsSound b s
  pub on : b.stopped ≡ false
  pub fits : NextFits (contents_of b s) ask
  pub room : b.opened ≡ false → 0 < s.spare
  pub later : (e : Event) (x : Builder) (y : Lists Node) → Filled b s ask e x y → Filled a q ask e x y

-- there is still room where there is no less than before
more_room : {m n : ℕ} → m ≤ n → 0 < m → 0 < n
more_room h k = omega arith

-- a turn that returned nothing keeps it
pub filling_goes : {a b d : Builder} {q s t : Lists Node} {ask : Ask} → Filling a q ask b s → TurnIs b s ask None d t → Filling a q ask d t
filling_goes {a} {b} {d} {q} {s} {t} {ask} h turn = record {
  sound = turn.sound;
  on = turn.turned.stopped;
  fits = fits_after (contents_of b s) (contents_of d t) ask h.fits turn.stays turn.turned;
  room = λ closed. more_room (turn.room refl closed).1 (h.room (turn.room refl closed).0);
  later = λ e x y f. h.later e x y (filled_later b d x s t y ask e turn f);
}

-- nothing changed
pub filling_still : {a b d : Builder} {q s t : Lists Node} {ask : Ask} → Filling a q ask b s → AtAct b s d t → Filling a q ask d t
filling_still {a} {b} {d} {q} {s} {t} {ask} h still = subst (λ x. Filling a q ask x t) (sym still.builder) (subst (Filling a q ask b) (sym still.store) h)

-- a turn that returned an event ends the filling
pub filling_ends : {a b d : Builder} {q s t : Lists Node} {ask : Ask} {e : Event} → Filling a q ask b s → TurnIs b s ask (Some e) d t → Filled a q ask e d t
filling_ends {a} {b} {d} {q} {s} {t} {ask} {e} h turn = h.later e d t (filled_now b d s t ask e turn)

-- ---- a page that is laid out

-- the goal of a page with a box is frozen, so the page is underway, and the first waiting node fits
module _ (b : Builder) (s : Lists Node) (ask : Ask) (n : Node) (ns : List Node) (sound : IsSound b s) (on : b.stopped ≡ false) (opened : b.opened ≡ true) (fits : NextFits (contents_of b s) ask) (first : list_at s b.waiting ≡ n ∷ ns) where
  page_stands : IsPageSoFar b.frozen false b.course (contents_of b s)
  page_stands = subst (λ x. IsPageSoFar b.frozen x b.course (contents_of b s)) on sound.page

  holds : holds_box (contents_of b s).page ≡ true
  holds = sym sound.opened ∙ opened

  frozen_now : b.frozen ≡ Some (frozen_with b.frozen ask)
  frozen_now = opened_frozen b.frozen b.course (contents_of b s) ask page_stands holds

  kept_is : kept_frozen (contents_of b s) ≡ frozen_of (contents_of b s) ask
  kept_is = kept_is_frozen (contents_of b s) b.frozen ask frozen_now

  pub open_underway : Underway (kept_frozen (contents_of b s)) b.course (contents_of b s).page (contents_of b s).waiting
  open_underway = underway_of b.frozen (frozen_with b.frozen ask) b.course (contents_of b s) frozen_now refl page_stands

  pub open_fits : act_of_kind n.kind ≡ None → insertion_of_kind n.kind ≡ None → StepFits (kept_frozen (contents_of b s)) (contents_of b s).page (list_at s) n
  open_fits a i = step_fits (kept_frozen (contents_of b s)) (contents_of b s).page (laid (contents_of b s) ask) (list_at s) n (map (plain_of (list_at s)) ns) (subst (λ z. LaidFits z (laid (contents_of b s) ask)) (sym kept_is) fits.laid_fits)
      (ap (λ w. (contents_of b s).page ++ w) (sym (ahead_open (contents_of b s) ask holds ∙ ap (map (plain_of (list_at s))) first))) a i

  pub open_turn : (e : Builder) (r : Lists Node) (o : Option Event) → ChangesPage b s e r → StepIs o (kept_frozen (contents_of b s)) e.course (contents_of b s) (contents_of e r) → e.opened ≡ b.opened → e.frozen ≡ b.frozen
      → (holds_box (contents_of b s).page ≡ true → holds_box (contents_of e r).page ≡ true)
      → ((ms : List Node) → e.stopped ≡ false → list_at s b.waiting ≡ n ∷ ms → list_at r e.waiting ≡ ms)
      → act_of_kind n.kind ≡ None → TurnIs b s ask o e r
  open_turn e r o moves st same frozen still behind lone =
      turn_of_step b e s r ask o (contents_of b s) moves (frozen ∙ frozen_now) (same ∙ opened ∙ sym (still holds)) (λ c. absurd (true≢false (sym (same ∙ opened) ∙ c)))
      (lays_open (frozen_of (contents_of b s) ask) ask (contents_of b s) refl holds) on (λ go. same ∙ opened) (λ stop. ap (λ w. (contents_of e r).page ++ w) (ahead_open (contents_of e r) ask (still holds))) (subst (λ z. StepIs o z e.course (contents_of b s) (contents_of e r)) kept_is st)
      (λ none c. absurd (true≢false (sym (same ∙ opened) ∙ c)))
      (λ none. shorter (behind ns (none_going (kept_frozen (contents_of b s)) e.course (contents_of b s) (contents_of e r) on o st none) first))
      (past-stepped o (kept_frozen (contents_of b s)) e.course ask (contents_of b s) (contents_of b s) (contents_of e r) on st
      (λ go. record { comes = came (behind ns go first) (step_going (kept_frozen (contents_of b s)) e.course (contents_of b s) (contents_of e r) on o st go).1; shorter = shorter (behind ns go first) }))
    where
      came : list_at r e.waiting ≡ ns → (contents_of e r).page ++ (contents_of e r).waiting ≡ (contents_of b s).page ++ (contents_of b s).waiting → ComesPast (contents_of e r).waiting (contents_of b s) (contents_of e r) ask
      came h all =
          past-open (plain_of (list_at s) n) (map (plain_of (list_at s)) ns) (contents_of b s) (contents_of e r) ask (ap (map (plain_of (list_at s))) first) all
          (length-map (list_at r e.waiting) (plain_of (list_at r)) ∙ ap length h ∙ sym (length-map ns (plain_of (list_at s))))
          holds (no_act (list_at s) n.kind lone)

      shorter : list_at r e.waiting ≡ ns → length (contents_of e r).waiting < length (contents_of b s).waiting
      shorter h =
          let l : length (contents_of e r).waiting ≡ length ns = length-map (list_at r e.waiting) (plain_of (list_at r)) ∙ ap length h in
          let m : length (contents_of b s).waiting ≡ length (n ∷ ns) = length-map (list_at s b.waiting) (plain_of (list_at s)) ∙ ap length first in
          omega arith

-- a list without a first node is empty
pub none_first : (ns : List Node) → slice_get ns 0 ≡ None → ns ≡ []
none_first [] e = refl
none_first (n ∷ ns) e = cc

-- ---- the next call

-- what `next` requires holds again after an event
pub fits_next : (b : Bool) (v : Event) (c d : Contents) (ask : Ask) (s : Lists Node) → b ≡ false → NextFits c ask → NextIs b v c ask d s → NextFits d ask
fits_next true v c d ask s e fits h = absurd (true≢false e)
fits_next false v c d ask s e fits h = record { asked = fits.asked; boxes = subst BoxesFit (sym h.1.boxes) fits.boxes; laid_fits = subst (λ z. LaidFits z (laid d ask)) (sym (keeps-frozen h.1)) (by_event v h.0) }
  where
    by_event : (v : Event) → FirstIs v (laid c ask) (reach_ahead c ask) (places_of c ask) ask d → LaidFits (frozen_of c ask) (laid d ask)
    by_event (events.Try t) f = by_stop (is_stop f.place) refl
      where
        by_stop : (t : Bool) → is_stop f.place ≡ t → LaidFits (frozen_of c ask) (laid d ask)
        by_stop true e = subst (LaidFits (frozen_of c ask)) (sym (f.stops e).still) fits.laid_fits
        by_stop false e = subst (LaidFits (frozen_of c ask)) (sym (f.goes e).whole) fits.laid_fits
    by_event (events.Act a) f = without_fits (frozen_of c ask) a (laid c ask) (laid d ask) fits.laid_fits f.whole
    by_event (events.Fired p) f = absurd f
    by_event events.Empty f = subst (LaidFits (frozen_of c ask)) (sym (ap (λ p. p ++ ahead_of d ask) f.whole ∙ ahead_none f.waiting)) fits.laid_fits
      where
        none_ahead : (b : Bool) → (if b then [] else pruned_nodes ask.top_skip []) ≡ []
        none_ahead true = refl
        none_ahead false = refl

        ahead_none : d.waiting ≡ [] → laid c ask ++ ahead_of d ask ≡ laid c ask
        ahead_none e = ap (λ w. laid c ask ++ (if holds_box d.page then w else pruned_nodes ask.top_skip w)) e ∙ ap (λ w. laid c ask ++ w) (none_ahead (holds_box d.page)) ∙ append-nil (laid c ask)
