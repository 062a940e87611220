use Rattle.std.proofs.Common.{◌∙◌, sym, refl, w64}
use Rattle.std.proofs.lemmas.Int.{to_z-of_z}
use Rattle.tb_insert.proofs.StandsLemmas.{stands-new}
use Rattle.tb_insert.proofs.new_account.Goals as goal

pub returns : goal.returns
returns c = λ z e d. stands-new _ z d (to_z-of_z w64 c.args.goal c.ranges.goal ∙ sym e) refl refl refl refl
