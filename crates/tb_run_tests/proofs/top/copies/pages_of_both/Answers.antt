use Rattle.std.proofs.Common.{◌≡◌, sym, ◌∙◌, false, Option, Some, None, is_some}
use Rattle.std.specs.Prelude.{IfNone}
use Rattle.tb_run.proofs.ServedAgain.GalleyRuns.{galley-classes}
use Rattle.tb_items.proofs.GalleyItems.{galley-items}
use Rattle.tb_items.proofs.GalleyNodeLemmas.{galley-nodes}
use Rattle.tb_steps.proofs.RunParams.{params-runnable}
use Rattle.tb_run_tests.proofs.top.copies.pages_of_both.Goals as goal

-- what holds if there is none holds where there is none
if_none : {A : Type 0} (P : Type 0) (o : Option A) → is_some o ≡ false → IfNone o P → P
if_none P None e h = h
if_none P (Some x) e h = cc

pub new-requires-clause-params : goal.new-requires-clause-params
new-requires-clause-params c = params-runnable c.args.galley.now.params c.requires.params

pub new-requires-clause-items : goal.new-requires-clause-items
new-requires-clause-items c = galley-items c.args.galley.now c.requires

pub new-requires-clause-classes : goal.new-requires-clause-classes
new-requires-clause-classes c = galley-classes c.args.galley.now (params-runnable c.args.galley.now.params c.requires.params) c.requires

pub new-requires-clause-nodes : goal.new-requires-clause-nodes
new-requires-clause-nodes c = galley-nodes c.args.galley.now (params-runnable c.args.galley.now.params c.requires.params).foot c.requires

pub pages_of-requires : goal.pages_of-requires
pages_of-requires c = if_none _ c.in_ok-turn.field-0 (sym c.is_some.ensures ∙ c.if-is_some.false) c.in_ok-turn.ensures.ready
