use Rattle.std.proofs.Common.{refl}
use Rattle.tb_text.proofs.FrontLemmas.{cut, fails, on_joined}
use Rattle.tb_trace.specs.Parts.{end_text}
use Rattle.tb_trace.proofs.put_rest.Goals as goal

pub returns-in_err-put_costs : goal.returns-in_err-put_costs
returns-in_err-put_costs c = fails _ _ _ _ c.from_residual.ensures.0 (cut (end_text c.args.t.now.champion) c.in_err-put_costs.ensures)

pub returns : goal.returns
returns c = on_joined c.put_end.result c.args.out.now.items c.put_costs.new.out.items c.put_end.new.out.items _ _ _ refl c.in_ok-put_costs.ensures c.put_end.ensures
