-- Numbers that are kept as runs of equal ones.
use Rattle.std.specs.Prelude.{ℤ, Bool, true, false, List, [], ◌∷◌, ◌++◌, replicate, Option, Some, None}
use Rattle.tb_dvi.specs.declared.runs.Run.{Run}
use Rattle.tb_dvi.specs.declared.command.Registers.{Registers}

-- the numbers of runs, each as often as its run says
abbrev pub numbers_of : List Run → List ℤ
numbers_of [] = []
numbers_of (r ∷ rs) = r.number ∷ replicate r.more r.number ++ numbers_of rs

-- the numbers of the top run, if there is one, and of those below it
abbrev pub numbers_from : Option Run → List Run → List ℤ
numbers_from None rs = numbers_of rs
numbers_from (Some r) rs = numbers_of (r ∷ rs)

-- whether there is no number
abbrev pub are_none : List ℤ → Bool
are_none [] = true
are_none (n ∷ ns) = false

-- registers level by level, as far as all six go
abbrev pub levels : List ℤ → List ℤ → List ℤ → List ℤ → List ℤ → List ℤ → List Registers
levels (h ∷ hs) (v ∷ vs) (w ∷ ws) (x ∷ xs) (y ∷ ys) (z ∷ zs) = record { h = h; v = v; w = w; x = x; y = y; z = z } ∷ levels hs vs ws xs ys zs
levels _ _ _ _ _ _ = []
