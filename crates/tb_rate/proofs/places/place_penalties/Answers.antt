use Rattle.tb_rate.proofs.PlaceLemmas.{mild-places}
use Rattle.tb_rate.proofs.places.place_penalties.Goals as goal

pub returns-in-empty-clause-mild : goal.returns-in-empty-clause-mild
returns-in-empty-clause-mild c = mild-places c.args.items.now

pub returns-in-len1-up-clause-mild : goal.returns-in-len1-up-clause-mild
returns-in-len1-up-clause-mild c = mild-places c.args.items.now
