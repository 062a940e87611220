-- What a column at least costs that is broken by force at a place that was tried.
use Rattle.std.specs.Prelude.{◌≡◌, ℕ, ℤ, ◌<ℤ◌, ◌≤ℤ◌, Bool, true, false, List, [], ◌∷◌, map, int_lt}
use Rattle.std.specs.List.{list_any}
use Rattle.tb_scaled.specs.Scaled.{inf_penalty, eject_penalty}
use Rattle.tb_node.specs.declared.Act.TheVariants as acts
use Rattle.tb_node.specs.PlainNodes.{skip, pen, PlainKind, plain, act, PlainNode, node_shape, without_acts}
use Rattle.tb_param.specs.declared.Params.{Params}
use Rattle.tb_break.specs.Places.{ends_lasting}
use Rattle.tb_builder.specs.declared.Try.{Try}
use Rattle.tb_items.specs.RunEvents.{RunEvent, offered, sent}
use Rattle.tb_rate.specs.declared.PlacePenalty.{PlacePenalty}
use Rattle.tb_rate.specs.Rating.{rated}

-- the place as it is tried if its break is forced
abbrev pub forced_try : Try → Try
forced_try t = record t { penalty = eject_penalty; cost = eject_penalty }

-- the demerits of a column that ends there by force, if nothing is left over
abbrev pub price : Params → List PlacePenalty → Try → ℤ
price p places t = (rated p places 0 (forced_try t) 0 0).demerits

-- the places that were tried among events
abbrev pub tries_among : List RunEvent → List Try
tries_among [] = []
tries_among (offered t ∷ es) = t ∷ tries_among es
tries_among (sent e ∷ es) = tries_among es

-- the node sets a parameter
abbrev pub sets_parameter : PlainKind → Bool
sets_parameter (act (acts.Set c)) = true
sets_parameter _ = false

-- one of these nodes sets a parameter
abbrev pub sets_any : List PlainNode → Bool
sets_any ns = list_any (λ n. sets_parameter n.kind) ns

-- each of these tries on this line has a price above d
abbrev pub AreAbove : Params → List PlacePenalty → ℕ → ℤ → List Try → Type 0
AreAbove p places line d [] = Unit {0}
AreAbove p places line d (t ∷ ts) = (t.line ≡ line → d <ℤ price p places t) × AreAbove p places line d ts

-- none of these tries costs less than a forced break
abbrev pub AreDear : List Try → Type 0
AreDear [] = Unit {0}
AreDear (t ∷ ts) = (eject_penalty ≤ℤ t.cost) × AreDear ts

-- behind these nodes a legal place comes with a node of this kind: a penalty below 10000, or glue after a lasting node
abbrev pub is_place_behind : List PlainNode → PlainKind → Bool
is_place_behind ns (plain (pen q)) = int_lt q inf_penalty
is_place_behind ns (plain (skip g)) = ends_lasting (map node_shape (without_acts ns))
is_place_behind ns _ = false

-- behind these nodes a legal place comes with this node
abbrev pub IsPlaceBehind : List PlainNode → PlainNode → Type 0
IsPlaceBehind ns n = is_place_behind ns n.kind ≡ true
