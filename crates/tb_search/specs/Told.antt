-- What the search is told of a page by the places that were tried while it was filled.
use Rattle.std.specs.List.{AllByRecursion}
use Rattle.std.specs.Prelude.{◌≡◌, ◌≤ℤ◌, pos, true, false, ℕ, suc, Bool, List, [], ◌∷◌, map, Option, Some, None, int_lt}
use Rattle.tb_scaled.specs.Scaled.{awful_bad, eject_penalty, inf_penalty}
use Rattle.tb_node.specs.declared.Act.TheVariants as acts
use Rattle.tb_node.specs.declared.Kind.{Kind}
use Rattle.tb_node.specs.declared.Kind.TheVariants as kinds
use Rattle.tb_node.specs.PlainNodes.{PlainNode, node_shape, without_acts}
use Rattle.tb_break.specs.Places.{ends_lasting}
use Rattle.tb_builder.specs.declared.Try.{Try}
use Rattle.tb_galley.specs.declared.Item.{Item}
use Rattle.tb_galley.specs.declared.ItemKind.{ItemKind}
use Rattle.tb_galley.specs.declared.ItemKind.TheVariants as items
use Rattle.tb_output.specs.State.{State}
use Rattle.tb_items.specs.declared.items_left.ItemsLeft.{ItemsLeft}
use Rattle.tb_items.specs.declared.happenings.Happening.{Happening}
use Rattle.tb_items.specs.declared.happenings.Happening.TheVariants as happenings
use Rattle.tb_steps.specs.Run.{progress}
use Rattle.tb_rate.specs.declared.PlacePenalty.{PlacePenalty}
use Rattle.tb_best.specs.PlanDemerits.{reach_in}
use Rattle.tb_best.specs.ItemsAhead.{Ahead}
use Rattle.tb_best.specs.PlacePrices.{tries_among, sets_any}
use Rattle.tb_best.specs.PlainPages.{all_plain}
use Rattle.tb_search.specs.declared.calm.Told.{Told}
use Rattle.tb_search.specs.Prices.{prices_among}
use Rattle.tb_search.specs.declared.branch.Stop.{Stop}
use Rattle.tb_search.specs.declared.branch.Stop.TheVariants as stops
use Rattle.tb_search.specs.Calm.{with_first}

-- the places that were tried among what happened
abbrev pub tried_in : List Happening → List Try
tried_in [] = []
tried_in (happenings.Tried t ∷ hs) = t ∷ tried_in hs
tried_in (happenings.Sent e ∷ hs) = tried_in hs

-- if this is a place, it costs no less than a forced break, and its badness is not below 0
abbrev pub IsDearIn : Happening → Type 0
IsDearIn (happenings.Tried t) = (eject_penalty ≤ℤ t.cost) × (pos 0 ≤ℤ t.badness)
IsDearIn (happenings.Sent e) = Unit {0}

-- ---- a page that was filled and does not fire

-- the prices of a page in this state are told by what was tried: no node that waits sets a parameter, these are all places that were tried, and none costs less than a forced break
pub record Tells (hs : List Happening) (s : State) : Type 0 where
  pub steady : sets_any s.waiting ≡ false
  pub tries : tried_in hs ≡ tries_among (progress (reach_in s).reached awful_bad s).events
  pub dear : AllByRecursion IsDearIn hs

-- where the page of a state stops, after this happened
abbrev pub StopsAt : State → List Happening → Stop → Type 0
StopsAt s hs (stops.Line l) = Unit {0}
StopsAt s hs (stops.Nowhere told plain) = ((reach_in s).fires ≡ false) × ((told ≡ true → Tells hs s) × (plain ≡ true → all_plain s.waiting ≡ true))

-- these are the prices of a page in this state, and it is plain if it is said to be
pub record IsTold (places : List PlacePenalty) (s : State) (t : Told) : Type 0 where
  pub happened : List Happening
  pub tells : Tells happened s
  pub prices : t.prices.items ≡ prices_among s.params places happened
  pub plain : t.plain ≡ true → all_plain s.waiting ≡ true

-- so they are of a page on which some of these items are taken behind a state, and it does not fire
pub record TellsBehind (places : List PlacePenalty) (s : State) (cs : List Ahead) (t : Told) : Type 0 where
  pub more : ℕ
  pub calm : (reach_in (with_first (suc more) cs s)).fires ≡ false
  pub told : IsTold places (with_first (suc more) cs s) t

-- a node of this kind sets a parameter
abbrev pub is_set : Kind → Bool
is_set (kinds.Act (acts.Set c)) = true
is_set _ = false

-- a node of this kind is neither an insertion nor an act
abbrev pub is_plain_kind : Kind → Bool
is_plain_kind (kinds.Ins i) = false
is_plain_kind (kinds.Act a) = false
is_plain_kind _ = true

-- ---- the next item

-- whether nodes end in one that lasts with this one behind them, if they did before; acts are of no account
abbrev pub lasting_after : Bool → Kind → Bool
lasting_after t (kinds.Act a) = t
lasting_after t (kinds.Skip g) = false
lasting_after t (kinds.Kern w) = false
lasting_after t (kinds.Pen p) = false
lasting_after t _ = true

-- behind these nodes an item of this kind is a legal place: a penalty below 10000, or glue after a lasting node
abbrev pub is_place_item : List PlainNode → ItemKind → Bool
is_place_item ns (items.Penalty v) = int_lt v inf_penalty
is_place_item ns (items.Skip g) = ends_lasting (map node_shape (without_acts ns))
is_place_item ns _ = false

-- the first of these items is on this line, and is a legal place behind these nodes
abbrev pub IsPlaceFirst : List PlainNode → List Item → ℕ → Type 0
IsPlaceFirst ns [] line = ⊥
IsPlaceFirst ns (i ∷ is) line = (i.line ≡ line) × (is_place_item ns i.kind ≡ true)

-- so is the next of the items ahead
abbrev pub IsPlaceNext : List PlainNode → Option ItemsLeft → ℕ → Type 0
IsPlaceNext ns None line = ⊥
IsPlaceNext ns (Some l) line = IsPlaceFirst ns l.items.now line
