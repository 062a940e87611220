-- A turn of the builder from a step of a page that is laid out.
use Rattle.std.proofs.Common.{◌≡◌, inr, refl, sym, subst, ◌∙◌, ap, ℕ, ◌<◌, ◌≤◌, Bool, true, false, [], ◌∷◌, ◌++◌, length, Option, None, Some}
use Rattle.std.proofs.lemmas.Bool.{true≢false}
use Rattle.tb_pool.specs.Lists.{Lists}
use Rattle.tb_node.specs.declared.Node.{Node}
use Rattle.tb_break.specs.Best.{Breakpoint, is_stop}
use Rattle.tb_insert.specs.Account.{Frozen}
use Rattle.tb_builder.specs.declared.Ask.{Ask}
use Rattle.tb_builder.specs.declared.Course.{Course}
use Rattle.tb_builder.specs.declared.Builder.{Builder}
use Rattle.tb_builder.specs.declared.Event.{Event}
use Rattle.tb_builder.specs.declared.Event.TheVariants as events
use Rattle.tb_builder.specs.Reach.{holds_box}
use Rattle.tb_builder.specs.Contents.{Contents, contents_of, frozen_of, laid, frozen_with}
use Rattle.tb_builder.specs.Courses.{IsCourseOf, Underway, AtStop, places_by, AllLasting, IsPageSoFar}
use Rattle.tb_builder.specs.PassedNodes.{TurnPast}
use Rattle.tb_builder.specs.PageTurns.{ChangesPage, StopsThere, StepIs, TurnBy, TurnIs, places_on}
use Rattle.tb_builder.proofs.Turns.TurnLemmas.{Lays, lays_open, turns_on, goes_on, stops_there, made_on, frozen_as, keeps-frozen}
use Rattle.tb_builder.proofs.Turns.FreezingNodes.{box-freezes}
use Rattle.tb_builder.proofs.Turns.MeetLemmas.{stays_from}
use Rattle.tb_builder.specs.FiredPages.{frozen_for}

-- what is returned
pub stepped_turn : (o : Option Event) (z : Frozen) (k : Course) (ask : Ask) (c m d : Contents) → Lays z ask c m → m.stopped ≡ false → frozen_of d ask ≡ z → (d.stopped ≡ false → Lays z ask d d) → (d.stopped ≡ true → laid d ask ≡ d.page ++ d.waiting) → StepIs o z k m d → TurnBy o c d ask
stepped_turn None z k ask c m d lays on f later still st = turns_on z ask c m lays d d st.0 (later (st.2 ∙ on)) (st.2 ∙ on)
stepped_turn (Some (events.Try t)) z k ask c m d lays on f later still st = record {
  line = st.line;
  place = st.place;
  made = made_on z ask c m lays t st.line st.place st.made;
  goes = λ go. goes_on z ask c m lays st.line st.place d d (st.goes go).0 (later (st.goes go).0.stopped) (st.goes go).0.stopped;
  stops = λ stop. stops_there z ask c m lays st.line st.place k d (st.stops stop) f (still (st.stops stop).stopped);
}
stepped_turn (Some (events.Act a)) z k ask c m d lays on f later still st = absurd st
stepped_turn o z k ask c m d lays on f later still st = absurd st

module _ (z : Frozen) (k : Course) (m d : Contents) (f : Ask) (same : frozen_for f d.classes d.boxes ≡ z) where
  going_page : (s : Bool) → d.stopped ≡ s → d.stopped ≡ false → Underway z k d.page d.waiting → IsPageSoFar (Some f) s k d
  going_page true e on u = absurd (true≢false (sym e ∙ on))
  going_page false e on u = subst (λ x. Underway x k d.page d.waiting) (sym same) u

  stopped_page : (line : ℕ) (b : Breakpoint) (s : Bool) → d.stopped ≡ s → StopsThere z line b k m d → IsPageSoFar (Some f) s k d
  stopped_page line b false e st = absurd (true≢false (sym st.stopped ∙ e))
  stopped_page line b true e st = subst (λ x. AtStop x k d.page d.waiting) (sym same) (record {
    stop = b;
    course = subst (IsCourseOf z k d.page) (sym (ap (λ bs. bs ++ b ∷ []) places)) st.course;
    shrink = st.shrink;
    reached = st.reached ∙ sym (ap (λ bs. bs ++ b ∷ []) places);
    passed = st.passed;
    beyond = st.beyond;
  })
    where
      places : places_by z d.page d.waiting ≡ places_on z m
      places = (λ i. places_by z (st.page i) (st.waiting i))

  -- the page so far
  pub stepped_page : (o : Option Event) (s : Bool) → d.stopped ≡ s → m.stopped ≡ false → StepIs o z k m d → IsPageSoFar (Some f) s k d
  stepped_page None s e on st = going_page s e (st.2 ∙ on) st.1
  stepped_page (Some (events.Try t)) s e on st = by_stop (is_stop st.place) refl
    where
      by_stop : (b : Bool) → is_stop st.place ≡ b → IsPageSoFar (Some f) s k d
      by_stop true h = stopped_page st.line st.place s e (st.stops h)
      by_stop false h = going_page s e (st.goes h).0.stopped (st.goes h).1
  stepped_page o s e on st = absurd st

-- the turn, from a step of the contents m, which are those before, laid out
module _ (b d : Builder) (s t : Lists Node) (ask : Ask) (o : Option Event) (m : Contents) (moves : ChangesPage b s d t) (frozen : d.frozen ≡ Some (frozen_with b.frozen ask)) (opened : d.opened ≡ holds_box (contents_of d t).page)
    (closed : d.opened ≡ false → AllLasting (contents_of d t).page) (lays : Lays (frozen_of (contents_of b s) ask) ask (contents_of b s) m) (on : m.stopped ≡ false) (later : d.stopped ≡ false → d.opened ≡ true) (still : d.stopped ≡ true → laid (contents_of d t) ask ≡ (contents_of d t).page ++ (contents_of d t).waiting)
    (st : StepIs o (frozen_of (contents_of b s) ask) d.course m (contents_of d t)) where
  same : frozen_of (contents_of d t) ask ≡ frozen_of (contents_of b s) ask
  same = keeps-frozen (stays_from b d s t ask moves (inr frozen))

  page_same : frozen_for (frozen_with b.frozen ask) (contents_of d t).classes (contents_of d t).boxes ≡ frozen_of (contents_of b s) ask
  page_same = (λ i. frozen_for (frozen_with b.frozen ask) (moves.classes i) (moves.boxes i)) ∙ frozen_as b.frozen ask (contents_of b s).classes (contents_of b s).boxes

  pub turn_of_step : (o ≡ None → d.opened ≡ false → (b.opened ≡ false) × (s.spare ≤ t.spare)) → (o ≡ None → length (contents_of d t).waiting < length (contents_of b s).waiting) → TurnPast o (contents_of b s) (contents_of d t) ask → TurnIs b s ask o d t
  turn_of_step room shorter past = record {
    sound = record {
      own = moves.own;
      opened = opened;
      closed = closed;
      page = subst (λ x. IsPageSoFar x d.stopped d.course (contents_of d t)) (sym frozen) (stepped_page (frozen_of (contents_of b s) ask) d.course m (contents_of d t) (frozen_with b.frozen ask) page_same o d.stopped refl on st);
      met = λ some go. box-freezes (contents_of d t).page (sym opened ∙ later go);
    };
    frame = moves.frame;
    room = room;
    shorter = shorter;
    stays = stays_from b d s t ask moves (inr frozen);
    turned = stepped_turn o (frozen_of (contents_of b s) ask) d.course ask (contents_of b s) m (contents_of d t) lays on same (λ go. lays_open (frozen_of (contents_of b s) ask) ask (contents_of d t) same (sym opened ∙ later go)) still st;
    past = past;
  }
