use Rattle.std.proofs.Common.{◌≡◌, Ok, rules}
use Rattle.tb_param.specs.Table.{set_to}
use Rattle.tb_param.proofs.RangeLemmas.{set_in_range}
use Rattle.tb_param.proofs.params.Params.set.Goals as goal

pub returns-clause-in_range : goal.returns-clause-in_range
returns-clause-in_range c =
    let done : set_to c.args.name.now c.args.value c.args.self.now ≡ Ok c.put.new.self = search rules in
    set_in_range c.args.name.now c.args.value c.args.self.now c.put.new.self done
