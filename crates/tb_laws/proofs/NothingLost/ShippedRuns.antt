-- A run that is done ships what its galley weighs, and empties the float lists at each change of columns, at each measure that is set, and at its end.
use Rattle.std.proofs.Common.{◌≡◌, sym, ◌∙◌, ℕ, ◌+◌, List, [], ◌++◌, arith}
use Rattle.std.specs.List.{AllByRecursion}
use Rattle.tb_node.proofs.Weights.{Weight}
use Rattle.tb_galley.specs.declared.Galley.{Galley}
use Rattle.tb_galley.specs.Valid.{IsValid}
use Rattle.tb_galley.specs.GalleyNodes.{expanded}
use Rattle.tb_output.specs.State.{State, Recorded, first_state}
use Rattle.tb_laws.proofs.NothingLost.StateWeights.{state_weight}
use Rattle.tb_break.proofs.EachLemmas.{all-join}
use Rattle.tb_steps.specs.Run.{Run, End, dead_cycles, node_limit, goes_on, held_count, run_of}
use Rattle.tb_steps.proofs.RunTree.{RunIs, galley-is, is_done, runs_out, starts_too_full, ends_so, goes_on_so}
use Rattle.tb_items.specs.RunEvents.{RunEvent}
use Rattle.tb_items.specs.Classes.{classes_of}
use Rattle.tb_laws.specs.Laws.{IsEmptied, EndsDone}
use Rattle.tb_laws.proofs.NothingLost.RunWeights.{weighs, events_weight, events-append, Kept, StepWeighs}
use Rattle.tb_laws.proofs.NothingLost.StartLemmas.{start-kept, items_weight, start-weight}
use Rattle.tb_laws.proofs.Closed.ClosingStates.{Closing}
use Rattle.tb_laws.proofs.NothingLost.ClosingRuns.{steps-close}
use Rattle.tb_laws.proofs.NothingLost.ClosingRuns.{ones, StepCloses, changes-fit}
use Rattle.tb_laws.proofs.NothingLost.ClassLemmas.{valid-differ, valid-fit}
use Rattle.tb_laws.proofs.NothingLost.ClosingStarts.{start-closing}

-- the lists that a run from this state records are empty, and if it is done its events weigh as the state
pub record Ships (s : State) (r : Run) : Type 0 where
  pub empty : AllByRecursion IsEmptied r.records
  pub ships : EndsDone r.end → (v : Weight) → events_weight v r.events ≡ state_weight v s

never-done : (s : State) (es : List RunEvent) (rs : List Recorded) (e : End) → AllByRecursion IsEmptied rs → (EndsDone e → ⊥) → Ships s (record { events = es; records = rs; end = e })
never-done s es rs e k n = record { empty = k; ships = λ d v. absurd (n d) }

run-ships : {s : State} {r : Run} → RunIs s r → Kept s → Closing s → Ships s r
run-ships (runs_out s) k c = never-done s [] [] (dead_cycles s.dead_cycles) tt (λ d. d)
run-ships (starts_too_full s) k c = never-done s [] [] (node_limit (held_count s)) tt (λ d. d)
run-ships (goes_on_so {s = s} {t = t} {es = es} {rs = rs} {r = r} x y) k c =
    let w : (v : Weight) → StepWeighs v s (goes_on es rs t) = λ v. weighs v s k (changes-fit s k c v) x in
    let z : StepCloses s (goes_on es rs t) = steps-close s k c x in
    let later = run-ships y (w ones).0 z.1 in
    record { empty = all-join IsEmptied rs r.records z.0 later.empty; ships = λ d v. sums (events_weight v (es ++ r.events)) (events_weight v es) (events_weight v r.events) (state_weight v t) (state_weight v s) (events-append v es r.events) (later.ships d v) (w v).1 }
  where
    sums : (E A B T S : ℕ) → E ≡ A + B → B ≡ T → A + T ≡ S → E ≡ S
    sums E A B T S a b c = omega arith
run-ships (ends_so {s = s} (is_done x u)) k c =
    let z = steps-close s k c (is_done x u) in
    record { empty = z.0; ships = λ d v. (weighs v s k (changes-fit s k c v) (is_done x u)).0 ∙ sym (z.1 v) }
run-ships (ends_so {s = s} x) k c = never-done s _ _ _ (steps-close s k c x) (λ d. d)

-- a valid galley
pub valid-ships : (g : Galley) → IsValid g → Ships (first_state g.params (classes_of g) (expanded g)) (run_of g)
valid-ships g v =
    let f = valid-fit g v in
    run-ships (galley-is g) (start-kept g v.params (valid-differ g v) f) (start-closing g v.order f)

pub lists-emptied : (g : Galley) → IsValid g → AllByRecursion IsEmptied (run_of g).records
lists-emptied g v = (valid-ships g v).empty

-- what a run that is done ships weighs as the items of the galley
pub shipped-weight : (g : Galley) → IsValid g → EndsDone (run_of g).end → (v : Weight) → events_weight v (run_of g).events ≡ items_weight v g.items
shipped-weight g valid d v = (valid-ships g valid).ships d v ∙ start-weight v g
