-- A run of a valid galley does not end for its dead cycles, if the limit has room for what its items can bring.
use Rattle.std.proofs.Common.{ℕ, suc, ℤ, pos, ◌+◌, ◌*◌, ◌≤◌, Bool, true, false, [], arith}
use Rattle.std.specs.Prelude.{◌≤ℤ◌, int_lt, if◌then◌else◌}
use Rattle.std.proofs.lemmas.Int.{ints}
use Rattle.tb_galley.specs.declared.Galley.{Galley}
use Rattle.tb_galley.specs.GalleyNodes.{expanded}
use Rattle.tb_items.specs.Classes.{classes_of}
use Rattle.tb_output.specs.State.{State, first_state}
use Rattle.tb_steps.specs.Run.{End, dead_cycles, node_limit, run_from, run_of, firings_left, held_count}
use Rattle.tb_steps.proofs.RunTree.{galley-is}
use Rattle.tb_laws.specs.Firings.{HasReason}
use Rattle.tb_laws.specs.DeadCycles.{cycling_items, HasRoomForCycles, EndsWithinCycles, DeadCyclesAreFew}
use Rattle.tb_laws.proofs.Defined.FuelLemmas.{run-reason}
use Rattle.tb_laws.proofs.DeadCycles.CycleRuns.{RunCycles, run-cycles}
use Rattle.tb_laws.proofs.DeadCycles.CycleStarts.{most, start-cycled}

-- a run that ends for its dead cycles had as many as there may be
reason : (g : Galley) → HasReason g.params (run_of g).end
unfolding run_of
reason g = by_nodes (int_lt g.params.maxnodes (pos (held_count (first_state g.params (classes_of g) (expanded g)))))
  where
    s : State
    s = first_state g.params (classes_of g) (expanded g)

    by_nodes : (t : Bool) → HasReason g.params (if t then record { events = []; records = []; end = node_limit (held_count s) } else run_from (suc (firings_left s)) s).end
    by_nodes true = tt
    by_nodes false = run-reason (suc (firings_left s)) s (omega arith) (omega arith)

-- there are more than it had
not-cycles : (g : Galley) (e : End) → HasReason g.params e → RunCycles (4 * cycling_items g.items + 3) e → HasRoomForCycles g → EndsWithinCycles e
not-cycles g (dead_cycles n) h k c = no-room (cycling_items g.items) n g.params.maxdeadcycles c h k
  where
    no-room : (i n : ℕ) (d : ℤ) → pos (4 * i + 16) ≤ℤ d → d ≤ℤ pos n → n ≤ 4 * i + 3 + 3 → ⊥
    no-room i n d a b e = let h : 4 * i + 16 ≤ n = grind (arith, ints, a, b) in omega arith
not-cycles g e h k c = tt

-- the dead-cycle bound
pub dead-cycle-bound : DeadCyclesAreFew
dead-cycle-bound g valid c = not-cycles g (run_of g).end (reason g) (run-cycles (most g valid) (galley-is g) (start-cycled g valid)) c
