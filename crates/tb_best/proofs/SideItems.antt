-- Nodes that let marginal notes keep their sides: those of two lists together, those of the items of a galley, and those of a plan.
use Rattle.std.proofs.Common.{◌≡◌, refl, sym, ℕ, suc, Bool, true, false, List, [], ◌∷◌, true≢false, if◌then◌else◌}
use Rattle.std.specs.Prelude.{not, ◌||◌, ◌&&◌}
use Rattle.tb_node.specs.declared.Act.TheVariants as acts
use Rattle.tb_node.specs.declared.Float.{Float}
use Rattle.tb_node.specs.PlainNodes.{PlainNode, act, on_line}
use Rattle.tb_param.specs.declared.Params.{Params}
use Rattle.tb_param.specs.Release.{has_second}
use Rattle.tb_galley.specs.declared.Item.{Item}
use Rattle.tb_galley.specs.declared.ItemKind.{ItemKind}
use Rattle.tb_galley.specs.declared.ItemKind.TheVariants as items
use Rattle.tb_galley.specs.declared.Galley.{Galley}
use Rattle.tb_galley.specs.GalleyNodes.{item_kinds, with_firings, two_after, params_after}
use Rattle.tb_margin.specs.Margin.{is_on}
use Rattle.tb_output.specs.State.{State}
use Rattle.tb_plans.specs.declared.walk.Before.{Before}
use Rattle.tb_plans.specs.declared.walk.Before.TheVariants as befores
use Rattle.tb_plans.specs.Places.{before_after}
use Rattle.tb_best.specs.ItemsAhead.{Ahead, last_ahead, ahead_from, all_ahead, empty_start, forced, state_with}
use Rattle.tb_best.specs.Sides.{Sides, is_switch, is_switch_item, has_switch, is_note_item, has_note, sides_of, KeepSides, KeepsSides, AheadKeep}
use Rattle.tb_best.proofs.SteadyNodes.{steady-join}
use Rattle.tb_best.proofs.Paths.{planned}

-- with more nodes behind that let them, notes keep their sides
pub sides-with : (x : Sides) (s : State) (more : List PlainNode) → KeepsSides x s → KeepSides x more → KeepsSides x (state_with more s)
sides-with x s more h k = record { now = h.now; current = h.current; waiting = steady-join x s.waiting more h.waiting k; held = h.held }

-- ---- items

pub planned-keep : (x : Sides) (ms : List Bool) (cs : List Ahead) → AheadKeep x cs → KeepSides x (planned ms cs)
planned-keep x [] cs h = refl
planned-keep x (m ∷ ms) [] h = refl
planned-keep x (true ∷ ms) (c ∷ cs) h = steady-join x (forced c ∷ c.nodes) (planned ms cs) h.0 (planned-keep x ms cs h.1)
planned-keep x (false ∷ ms) (c ∷ cs) h = steady-join x c.nodes (planned ms cs) h.0 (planned-keep x ms cs h.1)

float-nodes : (x : Sides) (line : ℕ) (f : Float) (vert t : Bool) → KeepSides x (on_line line (if t then act (acts.Take f) ∷ [] else with_firings (acts.Take f) vert))
float-nodes x line f vert true = refl
float-nodes x line f vert false = refl

set-so : (a b : Bool) → (b ≡ true → a ≡ true) → ((not a && b) || false) ≡ false
set-so true b h = refl
set-so false true h = sym (h refl)
set-so false false h = refl

note-so : (a : Bool) → a ≡ true → (not a || false) ≡ false
note-so true h = refl
note-so false h = sym h

-- an item that may be has no node that may not
item-nodes : (x : Sides) (p : Params) (two : Bool) (line : ℕ) (k : ItemKind) → (is_switch_item k ≡ true → x.change ≡ true) → (is_note_item k ≡ true → x.notes ≡ true) → KeepSides x (on_line line (item_kinds p two k))
item-nodes x p two line (items.Set c) h i = set-so x.change (is_switch c.field) h
item-nodes x p two line (items.Margin m vert) h i = note-so x.notes (i refl)
item-nodes x p two line (items.Float f vert) h i = float-nodes x line f vert (has_second p && two && f.wide)
item-nodes x p two line k h i = refl

first-so : (a b : Bool) → a ≡ true → (a || b) ≡ true
first-so true b h = refl
first-so false b h = absurd (true≢false (sym h))

second-so : (a b : Bool) → b ≡ true → (a || b) ≡ true
second-so true b h = refl
second-so false b h = h

ahead-keep : (x : Sides) (p q : Params) (last : Ahead) (two : Bool) (b : Before) (k : ℕ) (ns : List Item)
    → KeepSides x last.nodes → (has_switch ns ≡ true → x.change ≡ true) → (has_note ns ≡ true → x.notes ≡ true) → AheadKeep x (ahead_from p q last two b k ns)
ahead-keep x p q last two b k [] end h i = (end, tt)
ahead-keep x p q last two b k (n ∷ ns) end h i = (
  item-nodes x q two n.line n.kind (λ e. h (first-so (is_switch_item n.kind) (has_switch ns) e)) (λ e. i (first-so (is_note_item n.kind) (has_note ns) e)),
  ahead-keep x p (params_after q n.kind) last (two_after two n.kind) (before_after p two b n.kind) (suc k) ns end
      (λ e. h (second-so (is_switch_item n.kind) (has_switch ns) e)) (λ e. i (second-so (is_note_item n.kind) (has_note ns) e)),
)

-- the items of a galley let notes keep their sides if they do
pub items-keep : (g : Galley) → AheadKeep (sides_of g) (all_ahead g)
unfolding all_ahead
items-keep g = ahead-keep (sides_of g) g.params g.params (last_ahead g) false befores.Nothing 0 g.items refl (second-so (is_on g.params.mparswitch) (has_switch g.items)) (λ e. e)

-- so it is where the run of a galley begins
pub start-keeps : (g : Galley) → KeepsSides (sides_of g) (empty_start g)
start-keeps g = record { now = first-so (is_on g.params.mparswitch) (has_switch g.items); current = λ e. absurd (true≢false (sym e)); waiting = refl; held = refl }
