use Rattle.tb_items.proofs.GalleyItems.{galley-items}
use Rattle.tb_items.proofs.GalleyNodeLemmas.{galley-nodes}
use Rattle.tb_run.proofs.ServedAgain.GalleyRuns.{galley-classes}
use Rattle.tb_steps.proofs.RunParams.{params-runnable}
use Rattle.tb_search.proofs.search.best_breaks.Goals as goal

pub start-requires-clause-params : goal.start-requires-clause-params
start-requires-clause-params c = params-runnable c.args.galley.now.params c.requires.valid.params

pub start-requires-clause-items : goal.start-requires-clause-items
start-requires-clause-items c = galley-items c.args.galley.now c.requires.valid

pub start-requires-clause-classes : goal.start-requires-clause-classes
start-requires-clause-classes c = galley-classes c.args.galley.now (params-runnable c.args.galley.now.params c.requires.valid.params) c.requires.valid

pub start-requires-clause-nodes : goal.start-requires-clause-nodes
start-requires-clause-nodes c = galley-nodes c.args.galley.now (params-runnable c.args.galley.now.params c.requires.valid.params).foot c.requires.valid
