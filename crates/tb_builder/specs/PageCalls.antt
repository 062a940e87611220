-- Calls of `next` one after the other, with the places that they try passed over.
use Rattle.std.specs.Prelude.{◌≡◌, false, List, [], ◌∷◌}
use Rattle.tb_pool.specs.Lists.{Lists}
use Rattle.tb_node.specs.declared.Node.{Node}
use Rattle.tb_builder.specs.declared.Ask.{Ask}
use Rattle.tb_builder.specs.declared.Try.{Try}
use Rattle.tb_builder.specs.declared.Event.{Event}
use Rattle.tb_builder.specs.declared.Event.TheVariants as events
use Rattle.tb_builder.specs.declared.Builder.{Builder}
use Rattle.tb_builder.specs.Contents.{contents_of}
use Rattle.tb_builder.specs.PageEvents.{NextIs, IsGivenOut, TellsRoom}
use Rattle.tb_builder.specs.Ownership.{ids_of, KeepsOthers}
use Rattle.tb_builder.specs.PageProgress.{IsNextOfPage}
use Rattle.tb_builder.specs.PassedNodes.{EventPast}
use Rattle.tb_builder.specs.Courses.{IsSound}

-- a call of `next` on the builder returned this event, and left this builder
pub record IsNext (b : Builder) (s : Lists Node) (ask : Ask) (e : Event) (d : Builder) (t : Lists Node) : Type 0 where
  pub page : IsNextOfPage e (contents_of b s) ask (contents_of d t) t
  pub event : NextIs b.stopped e (contents_of b s) ask (contents_of d t) t
  pub past : b.stopped ≡ false → EventPast e (contents_of b s) (contents_of d t) ask
  pub sound : IsSound d t
  pub keeps : KeepsOthers (ids_of b) s (ids_of d) t
  pub body : IsGivenOut e s (ids_of d) t
  pub room : TellsRoom e d t

-- a place that was passed over, with the builder and the lists after its call
pub record PassedOver : Type 0 where
  pub place : Try
  pub builder : Builder
  pub store : Lists Node

-- the calls returned these places, one after the other, and then this event
abbrev pub ComesBy : List PassedOver → Builder → Lists Node → Ask → Event → Builder → Lists Node → Type 0
ComesBy [] b s ask e d t = IsNext b s ask e d t
ComesBy (p ∷ ps) b s ask e d t = IsNext b s ask (events.Try p.place) p.builder p.store × ComesBy ps p.builder p.store ask e d t

-- calls of `next` come to this event, with the places before it passed over
pub record ComesAfter (b : Builder) (s : Lists Node) (ask : Ask) (e : Event) (d : Builder) (t : Lists Node) : Type 0 where
  pub passed : List PassedOver
  pub comes : ComesBy passed b s ask e d t

-- the event is no place
abbrev pub IsNoPlace : Event → Type 0
IsNoPlace (events.Try t) = ⊥
IsNoPlace (events.Act a) = Unit {0}
IsNoPlace (events.Fired p) = Unit {0}
IsNoPlace events.Empty = Unit {0}
