use Rattle.std.proofs.Common.{◌∙◌, ap}
use Rattle.std.specs.FinMap.{remove}
use Rattle.tb_pool.proofs.CallerLemmas.{live_same, list_same}
use Rattle.tb_output.proofs.InText.PushLemmas.{remove-inserted}
use Rattle.tb_output.proofs.back_list.drop_list.Goals as goal

pub close-requires-clause-live : goal.close-requires-clause-live
close-requires-clause-live c = live_same c.args.store.now c.clear.new.self c.args.l _ c.clear.ensures.emptied

pub close-requires-clause-empty : goal.close-requires-clause-empty
close-requires-clause-empty c = list_same c.args.store.now c.clear.new.self c.args.l _ c.clear.ensures.emptied

pub returns : goal.returns
returns c = c.close.ensures.closed ∙ ap (λ m. remove m c.args.l) c.clear.ensures.emptied ∙ remove-inserted c.args.store.now.lists c.args.l _
