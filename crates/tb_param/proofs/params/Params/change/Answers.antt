use Rattle.std.proofs.Common.{◌≡◌, ◌∙◌, sym, ap, subst, true}
use Rattle.tb_param.specs.declared.params.Params.{Params}
use Rattle.tb_param.specs.Ranges.{are_params}
use Rattle.tb_param.specs.Changes.{with_whole, changed}
use Rattle.tb_param.proofs.RangeLemmas.{changed-in-range}
use Rattle.tb_param.proofs.params.Params.change.Goals as goal

pub returns-clause-in_range : goal.returns-clause-in_range
returns-clause-in_range c =
    let done : c.keep_whole.new.self ≡ changed c.args.self.now c.args.change = c.keep_whole.ensures ∙ ap (λ (q : Params). with_whole c.args.self.now q) c.put_in_range.ensures in
    λ h. subst (λ (p : Params). are_params p ≡ true) (sym done) (changed-in-range c.args.self.now c.args.change h)
