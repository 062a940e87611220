-- The run of a galley with the breaks of a plan is the run of its items ahead with breaks before those that are marked.
use Rattle.std.proofs.Common.{◌≡◌, refl, ◌∙◌, ap, ℕ, suc, ◌≤◌, ◌==◌, Bool, true, false, List, [], ◌∷◌, ◌++◌, arith}
use Rattle.std.specs.Prelude.{IsTrue, if◌then◌else◌}
use Rattle.tb_param.specs.declared.Params.{Params}
use Rattle.tb_galley.specs.declared.Item.{Item}
use Rattle.tb_galley.specs.declared.Galley.{Galley}
use Rattle.tb_galley.specs.GalleyNodes.{two_after, expanded}
use Rattle.tb_items.specs.Classes.{classes_of}
use Rattle.tb_output.specs.State.{first_state}
use Rattle.tb_steps.specs.Run.{firings_left}
use Rattle.tb_plans.specs.declared.walk.Before.TheVariants as befores
use Rattle.tb_plans.specs.Places.{before_after, places_from, places_of}
use Rattle.tb_plans.specs.Plans.{is_part, IsPlan, break_before, broken, with_breaks}
use Rattle.tb_rate.specs.Places.{item_penalty, place_by, places_among, place_penalties}
use Rattle.tb_rate.specs.RatedRun.{start_of}
use Rattle.tb_best.specs.PlanDemerits.{unlimited_demerits_from, unlimited_demerits}
use Rattle.tb_best.specs.ItemsAhead.{last_ahead, all_ahead, empty_start, state_with}
use Rattle.tb_best.proofs.Paths.{planned}
use Rattle.tb_best.proofs.PlanMarks.{marks_of, not-before, nodes-are}

-- ---- the penalties of the galley's own places

broken-by : (k : ℕ) (n : Item) (ns : List Item) (d : ℕ) (ds : List ℕ) (t : Bool) → places_among (broken (suc k) ns ds) ≡ places_among ns → places_among (broken (suc k) ns (d ∷ ds)) ≡ places_among ns
    → places_among (if t then break_before n ∷ n ∷ broken (suc k) ns ds else n ∷ broken (suc k) ns (d ∷ ds)) ≡ places_among (n ∷ ns)
broken-by k n ns d ds true with_it without = ap (λ l. place_by n.line (item_penalty n.kind) ++ l) with_it
broken-by k n ns d ds false with_it without = ap (λ l. place_by n.line (item_penalty n.kind) ++ l) without

-- a break that is put in is no place
places-broken : (k : ℕ) (ns : List Item) (ds : List ℕ) → places_among (broken k ns ds) ≡ places_among ns
places-broken k [] ds = refl
places-broken k (n ∷ ns) [] = refl
places-broken k (n ∷ ns) (d ∷ ds) = broken-by k n ns d ds (d == k) (places-broken (suc k) ns ds) (places-broken (suc k) ns (d ∷ ds))

first-by : (n : Item) (ns : List Item) (d : ℕ) (ds : List ℕ) (t : Bool) → (d == 0) ≡ t → 1 ≤ d
    → place_penalties (if t then break_before n ∷ n ∷ broken 1 ns ds else n ∷ broken 1 ns (d ∷ ds)) ≡ places_among ns
first-by n ns d ds true e h = absurd (grind (arith, e, h))
first-by n ns d ds false e h = places-broken 1 ns (d ∷ ds)

-- the first item is no place
after-first : (p : Params) (n : Item) (ns : List Item) (d : ℕ) (ds : List ℕ) → IsTrue (is_part (d ∷ ds) (places_from p false befores.Nothing 0 (n ∷ ns))) → 1 ≤ d
after-first p n ns d ds h = not-before p (two_after false n.kind) (before_after p false befores.Nothing n.kind) 1 ns d ds h

penalties-by : (p : Params) (ns : List Item) (ds : List ℕ) → IsTrue (is_part ds (places_from p false befores.Nothing 0 ns)) → place_penalties (broken 0 ns ds) ≡ place_penalties ns
penalties-by p [] ds h = refl
penalties-by p (n ∷ ns) [] h = refl
penalties-by p (n ∷ ns) (d ∷ ds) h = first-by n ns d ds (d == 0) refl (after-first p n ns d ds h)

pub same-penalties : (g : Galley) (plan : List ℕ) → IsPlan g plan → place_penalties (with_breaks g plan).items ≡ place_penalties g.items
unfolding places_of
same-penalties g plan h = penalties-by g.params g.items plan h

-- ---- the run

-- the marks of a plan of a galley
abbrev pub plan_marks : Galley → List ℕ → List Bool
plan_marks g plan = marks_of 0 g.items plan

-- the fuel of its run
abbrev pub plan_fuel : Galley → ℕ
plan_fuel g = suc (firings_left (empty_start g))

starts-so : (g : Galley) (plan : List ℕ) → start_of (with_breaks g plan) ≡ state_with (planned (plan_marks g plan) (all_ahead g)) (empty_start g)
unfolding expanded all_ahead
starts-so g plan = ap (λ ns. first_state g.params (classes_of g) ns) (nodes-are g.params (last_ahead g) g.params false befores.Nothing 0 g.items plan)

pub plan-run : (g : Galley) (plan : List ℕ) → IsPlan g plan
    → unlimited_demerits (with_breaks g plan) ≡ unlimited_demerits_from (place_penalties g.items) (plan_fuel g) (state_with (planned (plan_marks g plan) (all_ahead g)) (empty_start g))
unfolding unlimited_demerits
plan-run g plan h =
    ap (λ qs. unlimited_demerits_from qs (plan_fuel g) (start_of (with_breaks g plan))) (same-penalties g plan h)
    ∙ ap (λ s. unlimited_demerits_from (place_penalties g.items) (plan_fuel g) s) (starts-so g plan)
