use Rattle.tb_node.specs.Fit.{shapes}
use Rattle.tb_builder.proofs.Ownership.SizeLemmas.{room_fits}
use Rattle.tb_builder.proofs.sizes.list_size.Goals as goal

pub pruned_size-requires-clause-fits : goal.pruned_size-requires-clause-fits
pruned_size-requires-clause-fits c = room_fits (shapes c.args.store.now c.args.l) c.requires.fits
