use Rattle.std.proofs.Common.{◌-◌, length}
use Rattle.tb_dvi.specs.Reading.{IsReading}
use Rattle.tb_dvi.proofs.lister.Lister.read_on.Given as goal

abbrev pub invariant-loop-place : goal.invariant-loop-place
invariant-loop-place l = IsReading l.bytes l.place l.self

abbrev pub decreases-loop-place : goal.decreases-loop-place
decreases-loop-place l = length l.bytes - l.place
