use Rattle.std.proofs.Common.{◌≡◌, ◌≤◌, ◌-◌, drop, length}
use Rattle.tb_rate.specs.Places.{own_penalty}
use Rattle.tb_search.proofs.penalties.first_on.Given as goal

-- the places from the first one on say of the line what all say
abbrev pub invariant-halves : goal.invariant-halves
invariant-halves l = record {
  first : l.first ≤ length l.fn.places;
  last : l.last ≤ length l.fn.places;
  same : own_penalty (drop l.first l.fn.places) l.fn.line ≡ own_penalty l.fn.places l.fn.line;
}

abbrev pub decreases-halves : goal.decreases-halves
decreases-halves l = l.last - l.first
