use Rattle.std.proofs.lemmas.Result.{err_from_is_err_and}
use Rattle.tb_run.proofs.ServedAgain.GalleyRuns.{galley-classes}
use Rattle.tb_items.proofs.GalleyItems.{galley-items}
use Rattle.tb_items.proofs.GalleyNodeLemmas.{galley-nodes}
use Rattle.tb_laws.specs.DviFiles.{galley_file}
use Rattle.tb_top.proofs.Written.FirstRuns.{none-yet}
use Rattle.tb_steps.proofs.RunParams.{params-runnable}
use Rattle.tb_top.proofs.dvi_pages.paginate_dvi.Goals as goal

pub new-requires-clause-params : goal.new-requires-clause-params
new-requires-clause-params g c = params-runnable c.args.galley.now.params c.requires.valid.params

pub new-requires-clause-items : goal.new-requires-clause-items
new-requires-clause-items g c = galley-items c.args.galley.now c.requires.valid

pub new-requires-clause-classes : goal.new-requires-clause-classes
new-requires-clause-classes g c = galley-classes c.args.galley.now (params-runnable c.args.galley.now.params c.requires.valid.params) c.requires.valid

pub new-requires-clause-nodes : goal.new-requires-clause-nodes
new-requires-clause-nodes g c = galley-nodes c.args.galley.now (params-runnable c.args.galley.now.params c.requires.valid.params).foot c.requires.valid

-- there was no memory for the routine
pub returns-in_err-routine-clause-refused : goal.returns-in_err-routine-clause-refused
returns-in_err-routine-clause-refused g c =
    let p = err_from_is_err_and c.from_residual.result c.from_residual.ensures.1 in
    rw (p.1, p.2) (none-yet (g.K.Sink.held c.args.out.now) (galley_file c.args.galley.now))
