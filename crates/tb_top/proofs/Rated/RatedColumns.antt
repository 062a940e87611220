-- The columns that are rated, turn by turn.
use Rattle.std.proofs.Common.{◌≡◌, refl, sym, subst, ◌∙◌, ap, ℕ, zero, suc, ◌<◌, ◌≤◌, pos, Bool, true, false, List, [], ◌∷◌, ◌++◌, map, Option, None, Some, append_assoc, append-nil, arith}
use Rattle.std.specs.Prelude.{int_lt, if◌then◌else◌}
use Rattle.tb_scaled.specs.Scaled.{eject_penalty}
use Rattle.tb_param.specs.declared.Params.{Params}
use Rattle.tb_builder.specs.declared.Try.{Try}
use Rattle.tb_output.specs.State.{State, Recorded}
use Rattle.tb_items.specs.declared.happenings.Happening.{Happening}
use Rattle.tb_items.specs.Happenings.{events_of}
use Rattle.tb_items.specs.RunEvents.{RunEvent, offered, sent}
use Rattle.tb_run.specs.declared.routine.Routine.{Routine}
use Rattle.tb_run.specs.declared.routine.Ending.{Ending}
use Rattle.tb_run.specs.Routine.{state_of, EndsAs, over_limit}
use Rattle.tb_steps.specs.Run.{End, Step, ends, goes_on, step, step_events, firings_left, held_count}
use Rattle.tb_rate.specs.declared.Rating.{Rating}
use Rattle.tb_rate.specs.declared.PlacePenalty.{PlacePenalty}
use Rattle.tb_rate.specs.Rating.{rating, rated}
use Rattle.tb_rate.specs.Tries.{later_champion, champion_or, last_champion, first_number}
use Rattle.tb_rate.specs.RatedRun.{Rated, happens, rates, if_rated, rating_by, rated_after, rated_from, rated_of_state, floats_waiting, insertions_first}
use Rattle.tb_best.specs.BestLines.{BrokenColumn, broken_at, broken_columns}
use Rattle.tb_top.specs.declared.rated_pages.RatedColumn.{RatedColumn}
use Rattle.tb_top.specs.BestText.{shown_columns, turn_columns}
use Rattle.tb_top.proofs.Written.GoingLemmas.{steps}
use Rattle.tb_top.proofs.Written.FinishLemmas.{over-some, over-none}
use Rattle.tb_top.proofs.Written.TurnLemmas.{ShowsStep}
use Rattle.tb_top.proofs.Rated.RatedTurns.{rating_now, rating-is, events-are}

-- one column more
pub shown-more : (cs : List RatedColumn) (c : RatedColumn) → shown_columns (cs ++ c ∷ []) ≡ shown_columns cs ++ shown_columns (c ∷ [])
shown-more [] c = refl
shown-more (d ∷ cs) c = ap (λ l. record { line = d.line; page = d.page } ∷ l) (shown-more cs c)

-- ---- the place at which a column broke

-- a place, or else the one before
abbrev later_or : Option Try → Option Try → Option Try
later_or None best = best
later_or (Some t) best = Some t

stays : (o x : Option Try) (t : Try) (best : Option Try) → x ≡ later_or o (Some t) → x ≡ later_or x best
stays None None t best h = cc
stays (Some u) None t best h = cc
stays o (Some v) t best h = refl

champion-by : (c : Bool) (best : Option Try) (es : List RunEvent) (t : Try) → champion_or (Some t) es ≡ later_or (last_champion es) (Some t) → champion_or best es ≡ later_or (last_champion es) best
    → champion_or (if c then Some t else best) es ≡ later_or (champion_or (if c then Some t else None) es) best
champion-by true best es t with_it without = stays (last_champion es) (champion_or (Some t) es) t best with_it
champion-by false best es t with_it without = without

-- the last one of its own, if there is one
champion-own : (best : Option Try) (es : List RunEvent) → champion_or best es ≡ later_or (last_champion es) best
champion-own best [] = refl
champion-own best (sent e ∷ es) = champion-own best es
champion-own best (offered t ∷ es) = champion-by t.champion best es t (champion-own (Some t) es) (champion-own best es)

-- a turn that is rated has a place of its own
abbrev RatedAt : Option Try → Option Rating → Type 0
RatedAt o None = Unit {0}
RatedAt None (Some r) = ⊥
RatedAt (Some t) (Some r) = Unit {0}

either-placed : (c : Bool) (t : Try) (r : Rating) → RatedAt (Some t) (if c then None else Some r)
either-placed true t r = tt
either-placed false t r = tt

rating-placed : (p : Params) (places : List PlacePenalty) (page : ℕ) (o : Option Try) (w h : ℕ) → RatedAt o (rating p places page o w h)
rating-placed p places page None w h = tt
rating-placed p places page (Some t) w h = either-placed (int_lt t.penalty eject_penalty) t (rated p places page t w h)

step-placed : (places : List PlacePenalty) (s : State) (x : Step) → RatedAt (last_champion (step_events x)) (rating_by places s x)
step-placed places s (ends es rs e) = tt
step-placed places s (goes_on es rs t) = rating-placed t.params places (first_number t.number es) (last_champion es) (floats_waiting t.floats) (insertions_first t.waiting)

own-here : (o best : Option Try) (r : Rating) → RatedAt o (Some r) → later_or o best ≡ o
own-here None best r h = absurd h
own-here (Some t) best r h = refl

-- ---- a turn

happen-columns : (best : Option Try) (es : List RunEvent) (xs : List Rated) → broken_columns best (map (λ e. happens e) es ++ xs) ≡ broken_columns (champion_or best es) xs
happen-columns best [] xs = refl
happen-columns best (offered t ∷ es) xs = happen-columns (later_champion best t) es xs
happen-columns best (sent e ∷ es) xs = happen-columns best es xs

-- the place that is the best so far after a turn
abbrev after_turn : Option Try → List RunEvent → Option Rating → Option Try
after_turn best es None = champion_or best es
after_turn best es (Some r) = None

turn-by : (best : Option Try) (es : List RunEvent) (r : Option Rating) (xs : List Rated) → RatedAt (last_champion es) r
    → broken_columns best ((map (λ e. happens e) es ++ if_rated r) ++ xs) ≡ turn_columns es r ++ broken_columns (after_turn best es r) xs
turn-by best es None xs h = ap (broken_columns best) (append_assoc (map (λ e. happens e) es) [] xs) ∙ happen-columns best es xs
turn-by best es (Some r) xs h =
    ap (broken_columns best) (append_assoc (map (λ e. happens e) es) (rates r ∷ []) xs)
    ∙ happen-columns best es (rates r ∷ xs)
    ∙ ap (λ o. broken_at o r.page ++ broken_columns None xs) (champion-own best es ∙ own-here (last_champion es) best r h)

-- ---- the run

module _ (places : List PlacePenalty) where
  -- what comes later does not depend on the places before it
  later-any : (f : State → List Rated) (x : Step) (a b : Option Try) → ((t : State) (c : Option Try) → broken_columns c (f t) ≡ broken_columns None (f t)) → broken_columns a (rated_after f x) ≡ broken_columns b (rated_after f x)
  later-any f (ends es rs e) a b is = refl
  later-any f (goes_on es rs t) a b is = is t a ∙ sym (is t b)

  from-any : (k : ℕ) (s : State) (best : Option Try) → broken_columns best (rated_from places k s) ≡ broken_columns None (rated_from places k s)
  unfolding rated_from
  from-any zero s best = refl
  from-any (suc k) s best =
      let x = step s in
      let es = step_events x in
      let r = rating_by places s x in
      let ys = rated_after (λ t. rated_from places k t) x in
      turn-by best es r ys (step-placed places s x)
      ∙ ap (λ l. turn_columns es r ++ l) (later-any (λ t. rated_from places k t) x (after_turn best es r) (after_turn None es r) (λ t c. from-any k t c))
      ∙ sym (turn-by None es r ys (step-placed places s x))

  columns-by : (s : State) (k : ℕ) (x : Step) → step s ≡ x → broken_columns None (rated_from places (suc k) s) ≡ turn_columns (step_events x) (rating_by places s x) ++ broken_columns None (rated_after (λ t. rated_from places k t) x)
  unfolding rated_from
  columns-by s k x is =
      ap (λ y. broken_columns None ((map (λ e. happens e) (step_events y) ++ if_rated (rating_by places s y)) ++ rated_after (λ t. rated_from places k t) y)) is
      ∙ turn-by None (step_events x) (rating_by places s x) (rated_after (λ t. rated_from places k t) x) (step-placed places s x)
      ∙ ap (λ l. turn_columns (step_events x) (rating_by places s x) ++ l) (later-any (λ t. rated_from places k t) x (after_turn None (step_events x) (rating_by places s x)) None (λ t c. from-any k t c))

  -- so many columns were found in this state, and the rest follow from it
  pub record ColumnsGoing (s : State) (whole found : List BrokenColumn) : Type 0 where
    pub fuel : ℕ
    pub enough : firings_left s < fuel
    pub left : whole ≡ found ++ broken_columns None (rated_from places fuel s)

  goes-by : (fuel : ℕ) (s u : State) (es : List RunEvent) (rs : List Recorded) (whole found more : List BrokenColumn) → 1 ≤ s.page → step s ≡ goes_on es rs u → more ≡ found ++ turn_columns es (rating_by places s (goes_on es rs u))
      → firings_left s < fuel → whole ≡ found ++ broken_columns None (rated_from places fuel s) → ColumnsGoing u whole more
  goes-by zero s u es rs whole found more page is put enough left = absurd (omega (arith, enough))
  goes-by (suc fuel) s u es rs whole found more page is put enough left =
      let fewer = (steps s u es rs is page).fewer in
      let now = turn_columns es (rating_by places s (goes_on es rs u)) in
      let rest = broken_columns None (rated_from places fuel u) in
      record {
        fuel = fuel;
        enough = omega (arith, fewer, enough);
        left = left ∙ ap (λ l. found ++ l) (columns-by s fuel (goes_on es rs u) is) ∙ sym (append_assoc found now rest) ∙ ap (λ l. l ++ rest) (sym put);
      }

  ends-by : (fuel : ℕ) (s : State) (e : End) (es : List RunEvent) (rs : List Recorded) (whole found : List BrokenColumn) → step s ≡ ends es rs e → firings_left s < fuel → whole ≡ found ++ broken_columns None (rated_from places fuel s) → whole ≡ found
  ends-by zero s e es rs whole found is enough left = absurd (omega (arith, enough))
  ends-by (suc fuel) s e es rs whole found is enough left = left ∙ ap (λ l. found ++ l) (columns-by s fuel (ends es rs e) is) ∙ append-nil found

  -- ---- a turn of the routine

  module _ (s : State) (q : Routine) (hs : List Happening) (o : Option Ending) (shows : ShowsStep true s q hs o) (whole found : List BrokenColumn) (going : ColumnsGoing s whole found) where
    goes-by-step : (x : Step) → step s ≡ x → EndsAs q None x → (more : List BrokenColumn) → 1 ≤ s.page → more ≡ found ++ turn_columns (step_events x) (rating_by places s x) → ColumnsGoing (state_of q) whole more
    goes-by-step (ends es rs e) is h more page put = absurd h
    goes-by-step (goes_on es rs u) is h more page put = subst (λ y. ColumnsGoing y whole more) (sym h) (goes-by going.fuel s u es rs whole found more page is put going.enough going.left)

    -- it goes on, with the column that the turn put out
    pub columns-go : (r : Option Rating) → r ≡ rating_now places s q o (events_of q.store hs) → (after : State) → after ≡ state_of q → o ≡ None → (more : List BrokenColumn) → 1 ≤ s.page
        → more ≡ found ++ turn_columns (events_of q.store hs) r → ColumnsGoing after whole more
    columns-go r value after is none more low put =
        subst (λ y. ColumnsGoing y whole more) (sym is)
        (goes-by-step (step s) refl (subst (λ x. EndsAs q x (step s)) none shows.ended) more low
        (put ∙ (λ i. found ++ turn_columns (events-are places s q hs o shows i) ((value ∙ rating-is places s q hs o shows) i))))

    ends-by-step : (ending : Ending) (x : Step) → step s ≡ x → EndsAs q (Some ending) x → whole ≡ found
    ends-by-step ending (goes_on es rs u) is h = absurd h
    ends-by-step ending (ends es rs e) is h = ends-by going.fuel s e es rs whole found is going.enough going.left

    -- the turn was the last: all columns were found before it
    pub columns-end : (ending : Ending) → o ≡ Some ending → whole ≡ found
    columns-end ending some = ends-by-step ending (step s) refl (subst (λ x. EndsAs q x (step s)) some shows.ended)

  -- ---- the beginning

  module _ (first s : State) (is : s ≡ first) (before : List BrokenColumn) where
    -- it goes on
    pub columns-begin : int_lt s.params.maxnodes (pos (held_count s)) ≡ false → ColumnsGoing s (before ++ broken_columns None (rated_of_state places first)) before
    columns-begin e = record {
      fuel = suc (firings_left s);
      enough = omega arith;
      left = ap (λ t. before ++ broken_columns None (rated_of_state places t)) (sym is) ∙ ap (λ (t : Bool). before ++ broken_columns None (if t then [] else rated_from places (suc (firings_left s)) s)) e;
    }

    -- too many nodes wait at the start
    pub columns-over : int_lt s.params.maxnodes (pos (held_count s)) ≡ true → before ++ broken_columns None (rated_of_state places first) ≡ before
    columns-over e =
        ap (λ t. before ++ broken_columns None (rated_of_state places t)) (sym is)
        ∙ ap (λ (t : Bool). before ++ broken_columns None (if t then [] else rated_from places (suc (firings_left s)) s)) e
        ∙ append-nil before

  -- a routine that shows the first state
  module _ (first : State) (r : Routine) (is : state_of r ≡ first) (before : List BrokenColumn) (o : Option Ending) (over : o ≡ over_limit (state_of r).params (held_count (state_of r))) where
    abbrev p : Params
    p = (state_of r).params

    pub columns-start : o ≡ None → ColumnsGoing (state_of r) (before ++ broken_columns None (rated_of_state places first)) before
    columns-start none = columns-begin first (state_of r) is before (over-none p (held_count (state_of r)) (int_lt p.maxnodes (pos (held_count (state_of r)))) refl (sym over ∙ none))

    pub columns-limited : (ending : Ending) → o ≡ Some ending → before ++ broken_columns None (rated_of_state places first) ≡ before
    columns-limited ending some = columns-over first (state_of r) is before (over-some p (held_count (state_of r)) ending (int_lt p.maxnodes (pos (held_count (state_of r)))) refl (sym over ∙ some)).0
