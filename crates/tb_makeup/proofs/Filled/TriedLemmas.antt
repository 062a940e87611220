-- The places that are tried while a page is filled: as what is reached, as events, and as happenings.
use Rattle.std.proofs.Common.{◌≡◌, refl, sym, ◌∙◌, ap, ℕ, ℤ, Bool, true, false, List, [], ◌∷◌, ◌++◌, map, append_assoc, append-nil}
use Rattle.std.proofs.lemmas.List.{map-append}
use Rattle.tb_scaled.specs.Scaled.{min_ℤ}
use Rattle.tb_pool.specs.Lists.{Lists}
use Rattle.tb_node.specs.declared.Act.{Act}
use Rattle.tb_node.specs.declared.Node.{Node}
use Rattle.tb_break.specs.Best.{Breakpoint, least_cost}
use Rattle.tb_break.proofs.BestLemmas.{least-append}
use Rattle.tb_builder.specs.declared.Try.{Try}
use Rattle.tb_builder.specs.Reach.{Reached, acted, tried, breakpoints, try_of}
use Rattle.tb_builder.proofs.Events.SoFarLemmas.{AllTried}
use Rattle.tb_sheet.specs.Sheet.{PlainSent}
use Rattle.tb_items.specs.declared.happenings.Happening.{Happening}
use Rattle.tb_items.specs.declared.happenings.Happening.TheVariants as happenings
use Rattle.tb_items.specs.RunEvents.{RunEvent, sent}
use Rattle.tb_items.specs.Happenings.{events_of, noted_try, noted, happened_lists, ArePages}
use Rattle.tb_items.proofs.HappenedLemmas.{noted-append}
use Rattle.tb_plain.specs.Run.{MakeupEvent, offers, sends, sent_among, try_events, step_events, tries_first}
use Rattle.tb_plain.proofs.SentLemmas.{among-append, among-step}
use Rattle.tb_makeup.specs.Makeup.{run_event, run_events}
use Rattle.tb_makeup.specs.MakeupPages.{noted_tries, AreTries}

-- ---- among what is reached

-- the least cost after these
abbrev least_after : List Reached → ℤ → ℤ
least_after [] z = z
least_after (acted a ∷ rs) z = least_after rs z
least_after (tried line b ∷ rs) z = least_after rs (min_ℤ z b.cost)

least-both : (bs : List Breakpoint) (rs : List Reached) → least_after rs (least_cost bs) ≡ least_cost (bs ++ breakpoints rs)
least-both bs [] = ap least_cost (sym (append-nil bs))
least-both bs (acted a ∷ rs) = least-both bs rs
least-both bs (tried line b ∷ rs) = ap (least_after rs) (sym (least-append bs b)) ∙ least-both (bs ++ b ∷ []) rs ∙ ap least_cost (append_assoc bs (b ∷ []) (breakpoints rs))

places-append : (rs qs : List Reached) → breakpoints (rs ++ qs) ≡ breakpoints rs ++ breakpoints qs
places-append [] qs = refl
places-append (acted a ∷ rs) qs = places-append rs qs
places-append (tried line b ∷ rs) qs = ap (λ bs. b ∷ bs) (places-append rs qs)

first-more : (rs : List Reached) (line : ℕ) (b : Breakpoint) (least : ℤ) → AllTried rs → tries_first least (rs ++ tried line b ∷ []) ≡ tries_first least rs ++ try_of line b (least_after rs least) ∷ []
first-more [] line b least h = refl
first-more (acted a ∷ rs) line b least h = absurd h
first-more (tried l c ∷ rs) line b least h = ap (λ ts. try_of l c least ∷ ts) (first-more rs line b (min_ℤ least c.cost) h)

-- one more place, whose cost is compared with the least of all before it
pub tries-more : (first new : List Reached) (line : ℕ) (b : Breakpoint) → AllTried new
    → tries_first (least_cost (breakpoints first)) (new ++ tried line b ∷ []) ≡ tries_first (least_cost (breakpoints first)) new ++ try_of line b (least_cost (breakpoints (first ++ new))) ∷ []
tries-more first new line b h =
    first-more new line b (least_cost (breakpoints first)) h
    ∙ ap (λ z. tries_first (least_cost (breakpoints first)) new ++ try_of line b z ∷ []) (least-both (breakpoints first) new ∙ ap least_cost (sym (places-append first new)))

-- what comes from an act on is left out
pub tries-cut : (least : ℤ) (rs : List Reached) (a : Act) (qs : List Reached) → AllTried rs → tries_first least ((rs ++ acted a ∷ []) ++ qs) ≡ tries_first least rs
tries-cut least [] a qs h = refl
tries-cut least (acted b ∷ rs) a qs h = absurd h
tries-cut least (tried line b ∷ rs) a qs h = ap (λ ts. try_of line b least ∷ ts) (tries-cut (min_ℤ least b.cost) rs a qs h)

pub tried-both : (rs qs : List Reached) → AllTried rs → AllTried qs → AllTried (rs ++ qs)
tried-both [] qs h k = k
tried-both (acted a ∷ rs) qs h k = absurd h
tried-both (tried line b ∷ rs) qs h k = tried-both rs qs h k

abbrev after-first : List Reached → List Reached
after-first [] = []
after-first (r ∷ rs) = rs

-- two lists with the same front
pub same-rest : (first xs ys : List Reached) → first ++ xs ≡ first ++ ys → xs ≡ ys
same-rest [] xs ys e = e
same-rest (r ∷ rs) xs ys e = same-rest rs xs ys (ap after-first e)

-- ---- as happenings

pub none-tried : (wanted : Bool) → [] ≡ noted_tries wanted []
none-tried true = refl
none-tried false = refl

pub tries-noted : (wanted : Bool) (ts : List Try) (t : Try) → noted_tries wanted ts ++ noted_try wanted t ≡ noted_tries wanted (ts ++ t ∷ [])
tries-noted true ts t = sym (map-append (λ x. happenings.Tried x) ts (t ∷ []))
tries-noted false ts t = refl

all-tries : (ts : List Try) → AreTries (map (λ t. happenings.Tried t) ts)
all-tries [] = tt
all-tries (t ∷ ts) = all-tries ts

pub are-tries : (wanted : Bool) (ts : List Try) → AreTries (noted_tries wanted ts)
are-tries true ts = all-tries ts
are-tries false ts = tt

-- they have no lists
pub tries-lists : (hs : List Happening) → AreTries hs → happened_lists hs ≡ []
tries-lists [] h = refl
tries-lists (happenings.Tried t ∷ hs) h = tries-lists hs h
tries-lists (happenings.Sent e ∷ hs) h = absurd h

pub tries-pages : (store : Lists Node) (hs : List Happening) → AreTries hs → ArePages store hs
tries-pages store [] h = tt
tries-pages store (happenings.Tried t ∷ hs) h = (tt, tries-pages store hs h)
tries-pages store (happenings.Sent e ∷ hs) h = absurd h

-- ---- as events

wanted-events : (store : Lists Node) (ts : List Try) → events_of store (map (λ t. happenings.Tried t) ts) ≡ noted true (run_events (try_events ts))
wanted-events store [] = refl
wanted-events store (t ∷ ts) = ap (λ (es : List RunEvent). run_event (offers t) ∷ es) (wanted-events store ts)

unwanted-events : (ts : List Try) → noted false (run_events (try_events ts)) ≡ []
unwanted-events [] = refl
unwanted-events (t ∷ ts) = unwanted-events ts

pub tries-events : (wanted : Bool) (store : Lists Node) (ts : List Try) → events_of store (noted_tries wanted ts) ≡ noted wanted (run_events (try_events ts))
tries-events true store ts = wanted-events store ts
tries-events false store ts = sym (unwanted-events ts)

sent-noted : (wanted : Bool) (es : List PlainSent) → noted wanted (run_events (map (λ e. sends e) es)) ≡ map (λ e. sent e) es
sent-noted wanted [] = refl
sent-noted wanted (e ∷ es) = ap (λ (xs : List RunEvent). sent e ∷ xs) (sent-noted wanted es)

-- the events of a turn: the tries of its acts and of its last step, and what this sends
abbrev pub turn_events : List Try → List Try → List PlainSent → List MakeupEvent
turn_events ts us es = try_events ts ++ step_events us es

pub turn-parts : (ts us : List Try) (es : List PlainSent) → turn_events ts us es ≡ try_events (ts ++ us) ++ map (λ e. sends e) es
turn-parts ts us es = sym (append_assoc (try_events ts) (try_events us) (map (λ e. sends e) es)) ∙ ap (λ (xs : List MakeupEvent). xs ++ map (λ e. sends e) es) (sym (map-append (λ t. offers t) ts us))

-- all of them are noted: the tries if they are wanted, and what is sent
pub turn-noted : (wanted : Bool) (store : Lists Node) (ts us : List Try) (es : List PlainSent) → noted wanted (run_events (turn_events ts us es)) ≡ events_of store (noted_tries wanted (ts ++ us)) ++ map (λ e. sent e) es
turn-noted wanted store ts us es =
    ap (λ xs. noted wanted (run_events xs)) (turn-parts ts us es)
    ∙ ap (noted wanted) (map-append run_event (try_events (ts ++ us)) (map (λ e. sends e) es))
    ∙ noted-append wanted (run_events (try_events (ts ++ us))) (run_events (map (λ e. sends e) es))
    ∙ (λ i. sym (tries-events wanted store (ts ++ us)) i ++ sent-noted wanted es i)

among-tries : (ts : List Try) → sent_among (try_events ts) ≡ []
among-tries [] = refl
among-tries (t ∷ ts) = among-tries ts

pub turn-sent : (ts us : List Try) (es : List PlainSent) → sent_among (turn_events ts us es) ≡ es
turn-sent ts us es = among-append (try_events ts) (step_events us es) ∙ (λ i. among-tries ts i ++ among-step us es i)
