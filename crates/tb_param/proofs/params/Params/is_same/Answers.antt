use Rattle.tb_param.specs.Table.{rows}
use Rattle.tb_param.proofs.SameParams.{agreed-same, same-agreed}
use Rattle.tb_param.proofs.params.Params.is_same.Goals as goal

pub returns : goal.returns
returns c = (λ same. agreed-same c.args.self.now c.args.other.now (c.agree.ensures.0 same), λ e. c.agree.ensures.1 (same-agreed c.args.self.now c.args.other.now rows e))
