-- The demerits of plans do not depend on the limit on nodes.
use Rattle.std.proofs.Common.{◌≡◌, refl, sym, ◌∙◌, ap, ℕ, suc, ℤ, Bool, false, List, [], ◌∷◌, ◌++◌, None}
use Rattle.std.specs.Prelude.{if◌then◌else◌}
use Rattle.tb_node.specs.PlainNodes.{on_line, clearpage_kinds}
use Rattle.tb_param.specs.declared.Params.{Params}
use Rattle.tb_galley.specs.declared.Item.{Item}
use Rattle.tb_galley.specs.declared.ItemKind.{ItemKind}
use Rattle.tb_galley.specs.declared.ItemKind.TheVariants as items
use Rattle.tb_galley.specs.declared.Galley.{Galley}
use Rattle.tb_galley.specs.GalleyNodes.{item_kinds, item_nodes, two_after, params_after, expanded}
use Rattle.tb_items.specs.Classes.{classes_of}
use Rattle.tb_output.specs.State.{first_state}
use Rattle.tb_steps.specs.Run.{firings_left}
use Rattle.tb_plans.specs.declared.walk.Before.{Before}
use Rattle.tb_plans.specs.declared.walk.Before.TheVariants as befores
use Rattle.tb_plans.specs.Places.{is_looked_past, is_glue, is_glue_next, is_place, before_by, before_after, past, if_place, places_from, places_of}
use Rattle.tb_plans.specs.Plans.{is_part, with_breaks}
use Rattle.tb_rate.specs.Places.{place_penalties}
use Rattle.tb_rate.specs.RatedRun.{more_demerits, start_of}
use Rattle.tb_best.specs.PlanDemerits.{unlimited_demerits_from, unlimited_demerits, breaks_cost, plan_demerits}
use Rattle.tb_best.specs.BestPlan.{IsBest, with_limit}
use Rattle.tb_best.specs.Counts.{counts_of}
use Rattle.tb_best.proofs.LimitLemmas.{lim, changed-lim}
use Rattle.tb_best.proofs.CountedFirings.{counted}
use Rattle.tb_best.proofs.CountedStates.{limit-alike}

module _ (m : ℤ) where
  -- ---- the nodes of items

  kinds-lim : (p : Params) (two : Bool) (k : ItemKind) → item_kinds (lim p m) two k ≡ item_kinds p two k
  kinds-lim p two (items.Float f vert) = refl
  kinds-lim p two k = refl

  after-lim : (p : Params) (k : ItemKind) → params_after (lim p m) k ≡ lim (params_after p k) m
  after-lim p (items.Set c) = changed-lim p m c
  after-lim p k = refl

  nodes-lim : (ns : List Item) (p : Params) (two : Bool) → item_nodes (lim p m) two ns ≡ item_nodes p two ns
  nodes-lim [] p two = refl
  nodes-lim (n ∷ ns) p two = λ i.
      on_line n.line (kinds-lim p two n.kind i)
      ++ (ap (λ q. item_nodes q (two_after two n.kind) ns) (after-lim p n.kind) ∙ nodes-lim ns (params_after p n.kind) (two_after two n.kind)) i

-- ---- the places

module _ (p : Params) (m : ℤ) where
  past-lim : (two : Bool) (k : ItemKind) → is_looked_past (lim p m) two k ≡ is_looked_past p two k
  past-lim two (items.Float f vert) = refl
  past-lim two k = refl

  glue-lim : (two : Bool) (ns : List Item) → is_glue_next (lim p m) two ns ≡ is_glue_next p two ns
  glue-lim two [] = refl
  glue-lim two (n ∷ ns) = λ i. if past-lim two n.kind i then glue-lim two ns i else is_glue n.kind

  before-lim : (two : Bool) (b : Before) (k : ItemKind) → before_after (lim p m) two b k ≡ before_after p two b k
  before-lim two b k = λ i. if past-lim two k i then past b else before_by k

  places-lim : (ns : List Item) (two : Bool) (b : Before) (k : ℕ) → places_from (lim p m) two b k ns ≡ places_from p two b k ns
  places-lim [] two b k = refl
  places-lim (n ∷ ns) two b k = λ i. if_place k (is_place (glue-lim two ns i) b n.kind) ++ places-lim ns (two_after two n.kind) (before-lim two b n.kind i) (suc k) i

-- ---- galleys

start-lim : (g : Galley) (m : ℤ) → start_of (with_limit m g) ≡ counted m None (counts_of (start_of g)) (start_of g)
unfolding expanded
start-lim g m = ap (λ ns. first_state (lim g.params m) (classes_of g) (ns ++ on_line g.end_line clearpage_kinds)) (nodes-lim m g.items g.params false)

all-lim : (g : Galley) (m : ℤ) → unlimited_demerits (with_limit m g) ≡ unlimited_demerits g
unfolding unlimited_demerits
all-lim g m =
    ap (λ s. unlimited_demerits_from (place_penalties g.items) (suc (firings_left s)) s) (start-lim g m)
    ∙ limit-alike (place_penalties g.items) (suc (firings_left (start_of g))) (start_of g) m None

pub plan-lim : (g : Galley) (m : ℤ) (plan : List ℕ) → plan_demerits (with_limit m g) plan ≡ plan_demerits g plan
unfolding plan_demerits
plan-lim g m plan = ap (more_demerits (breaks_cost plan)) (all-lim (with_breaks g plan) m)

place-lim : (g : Galley) (m : ℤ) → places_of (with_limit m g) ≡ places_of g
unfolding places_of
place-lim g m = places-lim g.params m g.items false befores.Nothing 0

-- the best plan of the galley with another limit is the best plan of the galley
pub best-lim : (g : Galley) (m : ℤ) (plan : List ℕ) (total : ℤ) → IsBest (with_limit m g) plan total → IsBest g plan total
best-lim g m plan total h = record {
  is_plan = ap (is_part plan) (sym (place-lim g m)) ∙ h.is_plan;
  sum = sym (plan-lim g m plan) ∙ h.sum;
  least = λ others d is e. h.least others d (ap (is_part others) (place-lim g m) ∙ is) (plan-lim g m others ∙ e);
  greatest = λ others is e. h.greatest others (ap (is_part others) (place-lim g m) ∙ is) (plan-lim g m others ∙ e);
}
