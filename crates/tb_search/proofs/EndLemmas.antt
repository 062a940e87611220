-- Ends of a run that are no good ones.
use Rattle.std.proofs.Common.{sym, subst, ℕ, List}
use Rattle.tb_output.specs.State.{Recorded}
use Rattle.tb_items.specs.RunEvents.{RunEvent}
use Rattle.tb_steps.specs.Run.{End, done, pool_full, dead_cycles, page_limit, node_limit, ends}
use Rattle.tb_search.specs.FilledBranches.{IsRefusal}

-- the end of a run is a good one
abbrev pub IsWell : End → Type 0
IsWell (done left) = Unit {0}
IsWell (pool_full line live) = ⊥
IsWell (dead_cycles n) = ⊥
IsWell (page_limit n) = ⊥
IsWell (node_limit n) = ⊥

pub full-end : (es : List RunEvent) (rs : List Recorded) (line live : ℕ) → IsRefusal (ends es rs (pool_full line live))
full-end es rs line live left e = subst IsWell (sym e) tt

pub dead-end : (es : List RunEvent) (rs : List Recorded) (n : ℕ) → IsRefusal (ends es rs (dead_cycles n))
dead-end es rs n left e = subst IsWell (sym e) tt

pub limit-end : (es : List RunEvent) (rs : List Recorded) (n : ℕ) → IsRefusal (ends es rs (page_limit n))
limit-end es rs n left e = subst IsWell (sym e) tt
