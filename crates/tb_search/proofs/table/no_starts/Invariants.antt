use Rattle.std.proofs.Common.{◌≡◌, length, []}
use Rattle.std.specs.List.{AllByRecursion}
use Rattle.tb_search.proofs.table.no_starts.Given as goal

-- so many lists are there, each without a state
abbrev pub invariant-loop : goal.invariant-loop
invariant-loop l = record { count : length l.starts.items ≡ l.counter; empty : AllByRecursion (λ v. v.items ≡ []) l.starts.items }
