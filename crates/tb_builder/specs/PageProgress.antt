-- The whole page: from its start on, the events are those of what is reached of it, and the page that fires is its own.
use Rattle.std.specs.Prelude.{◌≡◌, ℕ, true, false, List, [], ◌∷◌, ◌++◌}
use Rattle.tb_pool.specs.Lists.{Lists}
use Rattle.tb_node.specs.declared.Act.{Act}
use Rattle.tb_node.specs.declared.Node.{Node}
use Rattle.tb_break.specs.Best.{Breakpoint, is_stop, least_cost}
use Rattle.tb_builder.specs.declared.Ask.{Ask}
use Rattle.tb_builder.specs.declared.Try.{Try}
use Rattle.tb_builder.specs.declared.Page.{Page}
use Rattle.tb_builder.specs.declared.Event.{Event}
use Rattle.tb_builder.specs.declared.Event.TheVariants as events
use Rattle.tb_builder.specs.Reach.{Reached, acted, tried, Reach, breakpoints, try_of}
use Rattle.tb_builder.specs.FiredPages.{Fired, reach_of, fired_of}
use Rattle.tb_builder.specs.Contents.{Contents, frozen_with, laid, reach_ahead, places_of}
use Rattle.tb_builder.specs.PageEvents.{fired_page, Without, PageIs, after_fired}

-- what is reached of the whole page that starts with these contents
abbrev pub page_reach : Contents → Ask → Reach
page_reach s ask = reach_of ask s.classes s.boxes s.page s.waiting

-- the page that fires, if that ends with a stop
abbrev pub page_fired : Contents → Ask → Fired
page_fired s ask = fired_of ask s.classes s.boxes (page_reach s ask)

-- these were reached before the rest
abbrev pub after_all : List Reached → Reach → Reach
after_all rs w = record w { reached = rs ++ w.reached }

-- ---- how far the page has come

-- classes, boxes and what is held are those of the start, and the page is made for what is asked
pub record KeepsStart (s c : Contents) (ask : Ask) : Type 0 where
  pub classes : c.classes ≡ s.classes
  pub boxes : c.boxes ≡ s.boxes
  pub held : c.held ≡ s.held
  pub made : frozen_with c.frozen ask ≡ ask

-- of the page that starts with s, rs was reached, and the rest is reached from here
pub record GoesFrom (s : Contents) (rs : List Reached) (c : Contents) (ask : Ask) : Type 0 where
  pub reach : page_reach s ask ≡ after_all rs (reach_ahead c ask)
  pub places : places_of c ask ≡ breakpoints rs

-- rs is all of it up to a stop, and the page that fires next is that of the whole page
pub record StopsAt (s : Contents) (rs : List Reached) (c : Contents) (ask : Ask) : Type 0 where
  pub reach : page_reach s ask ≡ record { reached = rs; passed = c.page; beyond = c.waiting; fires = true }
  pub fired : fired_page c ask ≡ page_fired s ask
  pub whole : laid c ask ≡ c.page ++ c.waiting

-- calls of `next` have come from the start s of a page to these contents: rs was reached so far
pub record HasCome (s : Contents) (rs : List Reached) (c : Contents) (ask : Ask) : Type 0 where
  pub stays : KeepsStart s c ask
  pub goes : c.stopped ≡ false → GoesFrom s rs c ask
  pub stops : c.stopped ≡ true → StopsAt s rs c ask

-- ---- the next event

-- a legal place was tried next; its cost is compared with the least of those before it
pub record ComesToTry (t : Try) (s : Contents) (rs : List Reached) (c : Contents) (ask : Ask) (d : Contents) : Type 0 where
  pub line : ℕ
  pub place : Breakpoint
  pub made : t ≡ try_of line place (least_cost (breakpoints rs))
  pub come : HasCome s (rs ++ tried line place ∷ []) d ask
  pub whole : laid d ask ≡ laid c ask
  pub going : c.stopped ≡ false
  pub stop : d.stopped ≡ is_stop place

-- an act was handed out next
pub record ComesToAct (a : Act) (s : Contents) (rs : List Reached) (c : Contents) (ask : Ask) (d : Contents) : Type 0 where
  pub come : HasCome s (rs ++ acted a ∷ []) d ask
  pub whole : Without a (laid c ask) (laid d ask)
  pub going : c.stopped ≡ false
  pub stop : d.stopped ≡ false

-- rs was all of the page, and there is no stop
pub record ComesToEnd (s : Contents) (rs : List Reached) (c : Contents) (ask : Ask) (d : Contents) : Type 0 where
  pub reach : page_reach s ask ≡ record { reached = rs; passed = d.page; beyond = []; fires = false }
  pub waiting : d.waiting ≡ []
  pub stays : KeepsStart s d ask
  pub whole : d.page ≡ laid c ask
  pub going : c.stopped ≡ false
  pub stop : d.stopped ≡ false

-- the page fires: it is that of the whole page
pub record ComesToPage (p : Page) (s c : Contents) (ask : Ask) (d : Contents) (store : Lists Node) : Type 0 where
  pub page : PageIs p (page_fired s ask) store
  pub after : d ≡ after_fired c (page_fired s ask)
  pub stopped : c.stopped ≡ true

-- the event is the next of what is reached of the whole page, or the page that it fires
abbrev pub ComesTo : Event → Contents → List Reached → Contents → Ask → Contents → Lists Node → Type 0
ComesTo (events.Try t) s rs c ask d store = ComesToTry t s rs c ask d
ComesTo (events.Act a) s rs c ask d store = ComesToAct a s rs c ask d
ComesTo (events.Fired p) s rs c ask d store = ComesToPage p s c ask d store
ComesTo events.Empty s rs c ask d store = ComesToEnd s rs c ask d

-- for every start of a page from which calls have come to the contents c, the event is the next of that page
abbrev pub IsNextOfPage : Event → Contents → Ask → Contents → Lists Node → Type 0
IsNextOfPage e c ask d store = (s : Contents) (rs : List Reached) → HasCome s rs c ask → ComesTo e s rs c ask d store
