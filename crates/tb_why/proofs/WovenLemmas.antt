-- What is shown of a turn, list by list: what happened, what waits, and what is told of a firing with what it sent.
use Rattle.std.proofs.Common.{◌≡◌, refl, sym, ◌∙◌, ap, true, List, [], ◌∷◌, ◌++◌, map, append_assoc, append-nil}
use Rattle.std.proofs.lemmas.List.{map-append}
use Rattle.tb_pool.specs.Lists.{Lists}
use Rattle.tb_node.specs.declared.Node.{Node}
use Rattle.tb_node.specs.declared.Float.{Float}
use Rattle.tb_sheet.specs.declared.Sent.{Sent}
use Rattle.tb_sheet.specs.StoredSheets.{sent_shown}
use Rattle.tb_output.specs.Machine.{events_shown}
use Rattle.tb_items.specs.declared.happenings.Happening.{Happening}
use Rattle.tb_items.specs.RunEvents.{RunEvent, offered, sent}
use Rattle.tb_items.specs.Happenings.{event_of, events_of, noted, ArePages}
use Rattle.tb_run.specs.FilledPages.{sent_happenings}
use Rattle.tb_told.specs.declared.Spot.{Spot}
use Rattle.tb_told.specs.declared.Tale.TheVariants.{Waits}
use Rattle.tb_told.specs.declared.Piece.{Piece}
use Rattle.tb_told.specs.declared.Piece.TheVariants.{Says, NextSent}
use Rattle.tb_why.specs.declared.shown.Showing.{Showing}
use Rattle.tb_why.specs.declared.shown.Showing.TheVariants as showings
use Rattle.tb_why.specs.Firing.{all_sent, woven}
use Rattle.tb_why.specs.WhyRun.{happens, tells, all_happen, all_shown}
use Rattle.tb_why.specs.ShownOf.{shown_part, all_shown_of, AreShownPages}
use Rattle.tb_why.specs.ShownTurns.{all_happens, all_waits, woven_shown}

-- ---- as it is shown of a run

pub shown-append : (store : Lists Node) (xs ys : List Showing) → all_shown_of store (xs ++ ys) ≡ all_shown_of store xs ++ all_shown_of store ys
shown-append store xs ys = map-append (shown_part store) xs ys

pub happens-shown : (store : Lists Node) (hs : List Happening) → all_shown_of store (all_happens hs) ≡ all_happen (events_of store hs)
happens-shown store [] = refl
happens-shown store (h ∷ hs) = ap (λ xs. happens (event_of store h) ∷ xs) (happens-shown store hs)

pub waits-shown : (store : Lists Node) (spot : Spot) (fs : List Float) → all_shown_of store (all_waits spot fs) ≡ map (λ f. tells (Waits spot f)) fs
waits-shown store spot [] = refl
waits-shown store spot (f ∷ fs) = ap (λ xs. tells (Waits spot f) ∷ xs) (waits-shown store spot fs)

-- the rest of what was sent
rest-shown : (store : Lists Node) (es : List Sent) → all_shown_of store (all_happens (sent_happenings es)) ≡ all_shown (all_sent (events_shown store es))
rest-shown store [] = refl
rest-shown store (e ∷ es) = ap (λ xs. happens (sent (sent_shown store e)) ∷ xs) (rest-shown store es)

pub woven-shown : (store : Lists Node) (ps : List Piece) (es : List Sent) → all_shown_of store (woven_shown ps (sent_happenings es)) ≡ all_shown (woven ps (events_shown store es))
woven-shown store [] es = rest-shown store es
woven-shown store (Says t ∷ ps) es = ap (λ xs. tells t ∷ xs) (woven-shown store ps es)
woven-shown store (NextSent ∷ ps) [] = woven-shown store ps []
woven-shown store (NextSent ∷ ps) (e ∷ es) = ap (λ xs. happens (sent (sent_shown store e)) ∷ xs) (woven-shown store ps es)

-- if the tries are wanted, all is noted
pub all-noted : (es : List RunEvent) → noted true es ≡ es
all-noted [] = refl
all-noted (offered t ∷ es) = ap (λ xs. offered t ∷ xs) (all-noted es)
all-noted (sent e ∷ es) = ap (λ xs. sent e ∷ xs) (all-noted es)

-- ---- its pages

pub happens-pages : (store : Lists Node) (hs : List Happening) → ArePages store hs → AreShownPages store (all_happens hs)
happens-pages store [] k = tt
happens-pages store (h ∷ hs) k = (k.0, happens-pages store hs k.1)

pub waits-pages : (store : Lists Node) (spot : Spot) (fs : List Float) → AreShownPages store (all_waits spot fs)
waits-pages store spot [] = tt
waits-pages store spot (f ∷ fs) = (tt, waits-pages store spot fs)

pub woven-pages : (store : Lists Node) (ps : List Piece) (hs : List Happening) → ArePages store hs → AreShownPages store (woven_shown ps hs)
woven-pages store [] hs k = happens-pages store hs k
woven-pages store (Says t ∷ ps) hs k = (tt, woven-pages store ps hs k)
woven-pages store (NextSent ∷ ps) [] k = woven-pages store ps [] k
woven-pages store (NextSent ∷ ps) (h ∷ hs) k = (k.0, woven-pages store ps hs k.1)

-- ---- float by float

pub waits-more : (shown next : List Showing) (spot : Spot) (f : Float) (left fs : List Float) (all : List Showing) → left ≡ f ∷ fs → next ≡ shown ++ showings.Tells (Waits spot f) ∷ [] → shown ++ all_waits spot left ≡ all → next ++ all_waits spot fs ≡ all
waits-more shown next spot f left fs all is put so_far =
    ap (λ xs. xs ++ all_waits spot fs) put
    ∙ append_assoc shown (showings.Tells (Waits spot f) ∷ []) (all_waits spot fs)
    ∙ ap (λ gs. shown ++ all_waits spot gs) (sym is)
    ∙ so_far

pub waits-last : (shown all : List Showing) (spot : Spot) (left : List Float) → left ≡ [] → shown ++ all_waits spot left ≡ all → shown ≡ all
waits-last shown all spot left none so_far = sym (append-nil shown) ∙ ap (λ gs. shown ++ all_waits spot gs) (sym none) ∙ so_far
