-- The items of a galley that a run has still ahead, each with its nodes, and whether a break may be put in before it.
use Rattle.std.specs.Prelude.{ℕ, suc, neg_ℤ, pos, Bool, false, List, [], ◌∷◌, ◌++◌, length}
use Rattle.tb_node.specs.PlainNodes.{pen, plain, PlainNode, on_line, clearpage_kinds}
use Rattle.tb_param.specs.declared.Params.{Params}
use Rattle.tb_galley.specs.declared.Item.{Item}
use Rattle.tb_galley.specs.declared.Galley.{Galley}
use Rattle.tb_galley.specs.GalleyNodes.{item_kinds, two_after, params_after}
use Rattle.tb_items.specs.Classes.{classes_of}
use Rattle.tb_output.specs.State.{State, first_state}
use Rattle.tb_plans.specs.declared.walk.Before.{Before}
use Rattle.tb_plans.specs.declared.walk.Before.TheVariants as befores
use Rattle.tb_plans.specs.Places.{is_glue_next, is_place, before_after}

-- an item ahead: its number, its line, its nodes, and whether it is a place
pub record Ahead : Type 0 where
  pub number : ℕ
  pub line : ℕ
  pub nodes : List PlainNode
  pub is_place : Bool

-- the item with this number, by the parameters of the galley, those that hold before the item, what is before it, and whether glue comes next
abbrev pub item_ahead : Params → Params → Bool → Before → ℕ → Item → List Item → Ahead
item_ahead p q two b k n ns =
    record { number = k; line = n.line; nodes = on_line n.line (item_kinds q two n.kind); is_place = is_place (is_glue_next p two ns) b n.kind }

-- the items, the first of which has the number k, and what comes at the end; the places are those of the galley's parameters, and the nodes those of the parameters that hold before the items
abbrev pub ahead_from : Params → Params → Ahead → Bool → Before → ℕ → List Item → List Ahead
ahead_from p q last two b k [] = last ∷ []
ahead_from p q last two b k (n ∷ ns) = item_ahead p q two b k n ns ∷ ahead_from p (params_after q n.kind) last (two_after two n.kind) (before_after p two b n.kind) (suc k) ns

-- the clear at the end of a galley, before which no break may be put in
abbrev pub last_ahead : Galley → Ahead
last_ahead g = record { number = length g.items; line = g.end_line; nodes = on_line g.end_line clearpage_kinds; is_place = false }

-- all items of a galley and the clear at its end
unfoldable pub all_ahead : Galley → List Ahead
all_ahead g = ahead_from g.params g.params (last_ahead g) false befores.Nothing 0 g.items

-- the state in which the run of a galley begins, with all its items ahead
abbrev pub empty_start : Galley → State
empty_start g = first_state g.params (classes_of g) []

-- the forced break that is put in before an item
abbrev pub forced : Ahead → PlainNode
forced c = record { line = c.line; kind = plain (pen (neg_ℤ (pos 10000))) }

-- the state in which these nodes wait behind the others
abbrev pub state_with : List PlainNode → State → State
state_with more s = record s { waiting = s.waiting ++ more }
