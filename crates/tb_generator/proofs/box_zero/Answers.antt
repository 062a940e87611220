use Rattle.std.proofs.Common.{arith, refl, ap, sym, ◌∷◌, List, ℕ}
use Rattle.std.proofs.lemmas.Fmt.{decimal_digit}
use Rattle.tb_generator.proofs.box_zero.Goals as goal

pub returns : goal.returns
returns c = record { long = refl; within = omega arith; few = omega arith; digit = 0; low = omega arith; name = ap (λ (ds : List ℕ). 98 ∷ ds) (sym (decimal_digit 0 (omega arith))) }
