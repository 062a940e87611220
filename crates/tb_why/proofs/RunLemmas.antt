-- What is told changes nothing: without it, what is shown of a run are the run's events.
use Rattle.std.proofs.Common.{◌≡◌, List, [], ◌∷◌, ◌++◌, map, drop, length, refl, ap, ◌∙◌}
use Rattle.std.proofs.lemmas.List.{append-nil}
use Rattle.tb_node.specs.declared.Float.{Float}
use Rattle.tb_galley.specs.declared.Galley.{Galley}
use Rattle.tb_sheet.specs.Sheet.{PlainSent}
use Rattle.tb_output.specs.State.{State}
use Rattle.tb_items.specs.RunEvents.{RunEvent, sent}
use Rattle.tb_steps.specs.Run.{Step, Run, run_of, step_events}
use Rattle.tb_told.specs.declared.Tale.{Tale}
use Rattle.tb_told.specs.declared.Piece.{Piece}
use Rattle.tb_told.specs.declared.Piece.TheVariants.{Says, NextSent}
use Rattle.tb_why.proofs.ShownTree.{page_filled, page_served, shown_with, served_shown, StepShows, shows_going, shows_ending, shows_page, shows_none, shows_last, shows_more, RunShows, galley-shows}
use Rattle.tb_steps.proofs.RunTree.{fired_at}
use Rattle.tb_why.specs.Firing.{firing_pieces, all_sent, woven}
use Rattle.tb_why.specs.ShownLines.{all_event_lines}
use Rattle.tb_why.specs.WhyRun.{Shown, happens, tells, all_happen, all_shown, happened_among, wait_tales, shown_run}

-- ---- lists of what is shown

happened_append : (xs ys : List Shown) → happened_among (xs ++ ys) ≡ happened_among xs ++ happened_among ys
happened_append [] ys = refl
happened_append (happens e ∷ xs) ys = ap (λ es. e ∷ es) (happened_append xs ys)
happened_append (tells t ∷ xs) ys = happened_append xs ys

happened_all : (es : List RunEvent) → happened_among (all_happen es) ≡ es
happened_all [] = refl
happened_all (e ∷ es) = ap (λ fs. e ∷ fs) (happened_all es)

-- only tales come of floats that wait
happened_tales : (to : Float → Tale) (fs : List Float) → happened_among (map (λ f. tells (to f)) fs) ≡ []
happened_tales to [] = refl
happened_tales to (f ∷ fs) = happened_tales to fs

-- ---- a firing

rest_sent : (es : List PlainSent) → happened_among (all_shown (all_sent es)) ≡ map sent es
rest_sent [] = refl
rest_sent (e ∷ es) = ap (λ fs. sent e ∷ fs) (rest_sent es)

-- all that is sent stands among what is told, in its order
pub woven_sends : (ps : List Piece) (es : List PlainSent) → happened_among (all_shown (woven ps es)) ≡ map sent es
woven_sends [] es = rest_sent es
woven_sends (Says t ∷ ps) es = woven_sends ps es
woven_sends (NextSent ∷ ps) [] = woven_sends ps []
woven_sends (NextSent ∷ ps) (e ∷ es) = ap (λ fs. sent e ∷ fs) (woven_sends ps es)

-- ---- a step

page_happens : (s : State) (xs : List Shown) → happened_among (shown_with s xs) ≡ (page_filled s).events ++ happened_among xs
page_happens s xs =
    let q = page_filled s in
    happened_append (all_happen q.events) (wait_tales s q.state ++ xs)
    ∙ ap (λ l. l ++ happened_among (wait_tales s q.state ++ xs)) (happened_all q.events)
    ∙ ap (λ l. q.events ++ l) (happened_append (wait_tales s q.state) xs ∙ ap (λ l. l ++ happened_among xs) (happened_tales _ (drop (length s.floats.second) q.state.floats.second)))

served_happens : (s : State) → happened_among (shown_with s (served_shown s)) ≡ (page_filled s).events ++ map sent (page_served s).sent
served_happens s = page_happens s (served_shown s) ∙ ap (λ l. (page_filled s).events ++ l) (woven_sends (firing_pieces (page_filled s).state.params (page_filled s).state (fired_at s (page_filled s).state)) (page_served s).sent)

-- without what is told, what is shown of a step are its events
step_happens : {s : State} {x : Step} {xs : List Shown} → StepShows s x xs → happened_among xs ≡ step_events x
step_happens {s = s} (shows_going e f r rs) = served_happens s
step_happens {s = s} (shows_ending e f rs d) = served_happens s
step_happens {s = s} (shows_page rs d) = page_happens s [] ∙ append-nil (page_filled s).events

-- ---- the run

happens_so : {s : State} {r : Run} {xs : List Shown} → RunShows s r xs → happened_among xs ≡ r.events
happens_so (shows_none s e) = refl
happens_so (shows_last {xs = xs} x) = happened_append xs [] ∙ append-nil (happened_among xs) ∙ step_happens x
happens_so (shows_more {xs = xs} {ys = ys} x y z) = happened_append xs ys ∙ (λ i. step_happens x i ++ happens_so z i)

-- without what is told, what is shown of the run of a galley are the events of that run
pub run_happens : (g : Galley) → happened_among (shown_run g) ≡ (run_of g).events
run_happens g = happens_so (galley-shows g)

-- the lines of what is shown, without those of the tales, are the lines of the run's events: the trace
pub lines_left : (g : Galley) → all_event_lines (happened_among (shown_run g)) ≡ all_event_lines (run_of g).events
lines_left g = ap all_event_lines (run_happens g)
