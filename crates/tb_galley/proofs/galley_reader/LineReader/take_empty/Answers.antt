use Rattle.std.proofs.Common.{[], refl, arith}
use Rattle.tb_galley.proofs.BareLines.{skipped_step}
use Rattle.tb_galley.proofs.galley_reader.LineReader.take_empty.Goals as goal

pub returns-in-None-clause-step : goal.returns-in-None-clause-step
returns-in-None-clause-step c = skipped_step c.args.self.now c.in-None.is [] (omega arith) refl
