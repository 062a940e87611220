use Rattle.tb_why.proofs.PlacementLemmas.{firing_places}
use Rattle.tb_why.proofs.laws.floats_go_where_told.Goals as goal

pub returns : goal.returns
returns c = firing_places
