-- The bound on firings without a page: a galley whose limit has room for what its items can bring never meets that limit.
use Rattle.std.specs.Prelude.{ℕ, pos, ◌+◌, ◌*◌, ◌≤ℤ◌, List, [], ◌∷◌}
use Rattle.tb_galley.specs.declared.Item.{Item}
use Rattle.tb_galley.specs.declared.ItemKind.{ItemKind}
use Rattle.tb_galley.specs.declared.ItemKind.TheVariants as items
use Rattle.tb_galley.specs.declared.Galley.{Galley}
use Rattle.tb_galley.specs.Valid.{IsValid}
use Rattle.tb_steps.specs.Run.{End, done, pool_full, dead_cycles, page_limit, node_limit, run_of}

-- 1 for an item that can bring firings without a page: a float, a title among them, a marginal note, a page that is made higher, a clear, a change of columns; a parameter that is set brings none
abbrev pub cycling_count : ItemKind → ℕ
cycling_count (items.Float f vert) = 1
cycling_count (items.Head f) = 1
cycling_count (items.Margin m vert) = 1
cycling_count (items.Enlarge by star) = 1
cycling_count items.ClearPage = 1
cycling_count items.OneColumn = 1
cycling_count items.TwoColumn = 1
cycling_count _ = 0

-- how many of them there are
abbrev pub cycling_items : List Item → ℕ
cycling_items [] = 0
cycling_items (n ∷ ns) = cycling_count n.kind + cycling_items ns

-- the limit on dead cycles has room for the galley: it allows four firings without a page for each such item, and sixteen besides
abbrev pub HasRoomForCycles : Galley → Type 0
HasRoomForCycles g = pos (4 * cycling_items g.items + 16) ≤ℤ g.params.maxdeadcycles

-- a run did not end for its dead cycles
abbrev pub EndsWithinCycles : End → Type 0
EndsWithinCycles (done left) = Unit {0}
EndsWithinCycles (pool_full line live) = Unit {0}
EndsWithinCycles (dead_cycles n) = ⊥
EndsWithinCycles (page_limit n) = Unit {0}
EndsWithinCycles (node_limit n) = Unit {0}

-- no run of a valid galley ends for its dead cycles if their limit has room for it
abbrev pub DeadCyclesAreFew : Type 0
DeadCyclesAreFew = (g : Galley) → IsValid g → HasRoomForCycles g → EndsWithinCycles (run_of g).end
