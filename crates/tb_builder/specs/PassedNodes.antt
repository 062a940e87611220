-- Which of the waiting nodes a page went past.
use Rattle.std.specs.Prelude.{◌≡◌, ℕ, ◌<◌, false, List, ◌∷◌, ◌++◌, length, Option, None, Some}
use Rattle.tb_node.specs.PlainNodes.{act, PlainNode}
use Rattle.tb_node.specs.declared.Act.{Act}
use Rattle.tb_builder.specs.declared.Ask.{Ask}
use Rattle.tb_builder.specs.declared.Event.{Event}
use Rattle.tb_builder.specs.declared.Event.TheVariants as events
use Rattle.tb_builder.specs.Reach.{laid_out}
use Rattle.tb_builder.specs.LegalPlaces.{NoActs}
use Rattle.tb_builder.specs.Contents.{Contents}

-- the page went past these nodes, none of them an act, and has those that do not vanish at its top; these others are left
pub record IsPast (before after : List PlainNode) (c d : Contents) (ask : Ask) : Type 0 where
  pub waiting : c.waiting ≡ before ++ after
  pub page : d.page ≡ laid_out ask.top_skip c.page before
  pub no_acts : NoActs before

-- the page went past all nodes before these
pub record ComesPast (after : List PlainNode) (c d : Contents) (ask : Ask) : Type 0 where
  pub before : List PlainNode
  pub is : IsPast before after c d ask

-- past the node at a place that is no stop
pub record TriesPast (c d : Contents) (ask : Ask) : Type 0 where
  pub comes : ComesPast d.waiting c d ask
  pub shorter : length d.waiting < length c.waiting

-- past all nodes before an act
pub record ActsPast (a : Act) (c d : Contents) (ask : Ask) : Type 0 where
  pub line : ℕ
  pub comes : ComesPast (record { line = line; kind = act a } ∷ d.waiting) c d ask

-- up to an event; of a place that is a stop, and of a page that fires, nothing is said
abbrev pub EventPast : Event → Contents → Contents → Ask → Type 0
EventPast (events.Try t) c d ask = d.stopped ≡ false → TriesPast c d ask
EventPast (events.Act a) c d ask = ActsPast a c d ask
EventPast (events.Fired p) c d ask = Unit {0}
EventPast events.Empty c d ask = ComesPast d.waiting c d ask

-- in a turn, with an event or without
abbrev pub TurnPast : Option Event → Contents → Contents → Ask → Type 0
TurnPast None c d ask = ComesPast d.waiting c d ask
TurnPast (Some e) c d ask = EventPast e c d ask
