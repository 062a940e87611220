use Rattle.std.proofs.Common.{◌∙◌, FitsSigned, w64, rules}
use Rattle.std.proofs.lemmas.Int.{to_z-of_z}
use Rattle.tb_builder.proofs.Events.NextLemmas.{fresh_apart}
use Rattle.tb_output.specs.Firing.{fired_in, KeepsAll, KeepsServing}
use Rattle.tb_output.proofs.Firings.FiringLemmas.{opened-machine, opened-sound, opened-fire, opened-room, opened-back, opened-empty, opened-free, serving-all, serving-then}
use Rattle.tb_output.proofs.Firings.ServeLemmas.{unserved-cut, unserved-keeps, routine-cut, goal-cut, goal-all, all-contents, all-back}
use Rattle.tb_output.proofs.FiringWork.ResultLemmas.{same-err, memory-err}
use Rattle.tb_output.proofs.Machine.serve.Goals.{After-next_goal}
use Rattle.tb_output.proofs.Machine.serve.Goals as goal

-- the next goal leaves what the output routine kept
serving-on : (c : After-next_goal) → KeepsServing c.args.page.body c.in_ok-back.back c.args.self.now c.next_goal.new.self c.args.b.now c.output.new.b c.add_list.new.self c.next_goal.new.store
serving-on c = serving-then _ _ _ _ _ _ _ _ _ _ c.output.ensures.keeps c.next_goal.ensures.keeps

-- so all is kept from before the list was opened
kept-all : (c : After-next_goal) → KeepsAll c.args.page.body c.args.self.now c.next_goal.new.self c.args.b.now c.output.new.b c.args.store.now c.next_goal.new.store
kept-all c = serving-all _ _ _ c.in_ok-back.ensures.fresh c.in_ok-back.ensures.opened _ _ c.args.page c.requires.machine c.requires.builder _ _ _ _ (serving-on c)

pub returns-in_err-back-clause-err : goal.returns-in_err-back-clause-err
returns-in_err-back-clause-err c = memory-err c.from_residual.result _ c.from_residual.ensures.1 (unserved-cut _ _ _ _ c.requires.machine c.requires.builder c.in_err-back.ensures.err (fired_in c.args.b.now c.args.store.now c.args.page))

pub returns-in_err-back-clause-keeps : goal.returns-in_err-back-clause-keeps
returns-in_err-back-clause-keeps c = unserved-keeps _ _ _ _ c.requires.machine c.requires.builder c.in_err-back.ensures.err c.args.page.body

pub output-requires : goal.output-requires
output-requires c =
    let fits : FitsSigned w64 c.args.room = search rules in
    record {
      machine = (opened-machine _ _ _ c.in_ok-back.ensures.fresh c.in_ok-back.ensures.opened _ _ c.args.page c.requires.machine c.requires.builder).machine;
      builder = opened-sound _ _ _ c.in_ok-back.ensures.fresh c.in_ok-back.ensures.opened _ _ c.args.page c.requires.machine c.requires.builder;
      room = to_z-of_z w64 c.args.room fits ∙ opened-room c.args.store.now c.add_list.new.self _ c.in_ok-back.ensures.fresh c.in_ok-back.ensures.opened _ _ c.args.page c.requires.machine c.requires.builder c.requires.page c.args.room c.requires.room;
      page = opened-fire _ _ _ c.in_ok-back.ensures.fresh c.in_ok-back.ensures.opened _ _ c.args.page c.requires.machine c.requires.builder c.requires.page;
      back = opened-back _ _ _ c.in_ok-back.ensures.fresh c.in_ok-back.ensures.opened _ _ c.args.page c.requires.machine c.requires.builder;
      empty = opened-empty c.args.store.now c.add_list.new.self _ c.in_ok-back.ensures.fresh c.in_ok-back.ensures.opened;
      back_body = fresh_apart c.args.store.now _ _ c.in_ok-back.ensures.fresh c.requires.page.body.live;
      back_free = opened-free c.args.store.now c.add_list.new.self _ c.in_ok-back.ensures.fresh c.in_ok-back.ensures.opened _ _ c.args.page c.requires.machine c.requires.builder;
    }

pub returns-in_err-output-clause-err : goal.returns-in_err-output-clause-err
returns-in_err-output-clause-err c = same-err c.from_residual-in_err-output.result _ _ c.from_residual-in_err-output.ensures.1 (routine-cut _ _ _ _ _ _ c.requires.machine c.requires.builder c.requires.page c.in_ok-back.ensures.fresh c.in_ok-back.ensures.opened _ c.output.new.b _ _ c.in_err-output.ensures.err)

pub returns-in_err-output-clause-keeps : goal.returns-in_err-output-clause-keeps
returns-in_err-output-clause-keeps c = serving-all _ _ _ c.in_ok-back.ensures.fresh c.in_ok-back.ensures.opened _ _ c.args.page c.requires.machine c.requires.builder _ _ _ _ c.output.ensures.keeps

pub returns-in_err-output-clause-fault : goal.returns-in_err-output-clause-fault
returns-in_err-output-clause-fault c = c.output.ensures.keeps.fields.fault

pub next_goal-requires : goal.next_goal-requires
next_goal-requires c = record { machine = c.output.ensures.keeps.machine; back = c.output.ensures.keeps.back }

pub returns-in_err-next_goal-clause-err : goal.returns-in_err-next_goal-clause-err
returns-in_err-next_goal-clause-err c =
    let fits : FitsSigned w64 c.args.page.penalty = search rules in
    same-err c.from_residual-in_err-next_goal.result _ _ c.from_residual-in_err-next_goal.ensures.1 (goal-cut _ _ _ _ _ _ c.requires.machine c.requires.builder c.requires.page c.in_ok-back.ensures.fresh c.in_ok-back.ensures.opened _ _ _ c.output.ensures.keeps c.in_ok-output.ensures.ok _ _ _ (simp to_z-of_z at c.in_err-next_goal.ensures.err))

pub returns-in_err-next_goal-clause-keeps : goal.returns-in_err-next_goal-clause-keeps
returns-in_err-next_goal-clause-keeps c = kept-all (goal.at.returns-in_err-next_goal-clause-keeps c).After-next_goal

pub returns-in_err-next_goal-clause-fault : goal.returns-in_err-next_goal-clause-fault
returns-in_err-next_goal-clause-fault c = c.next_goal.ensures.keeps.fields.fault ∙ c.output.ensures.keeps.fields.fault

pub returns-clause-ok : goal.returns-clause-ok
returns-clause-ok c =
    let fits : FitsSigned w64 c.args.page.penalty = search rules in
    goal-all _ _ _ _ _ _ c.requires.machine c.requires.builder c.requires.page c.in_ok-back.ensures.fresh c.in_ok-back.ensures.opened _ _ _ c.output.ensures.keeps c.in_ok-output.ensures.ok _ _ c.next_goal.ensures.keeps (simp to_z-of_z at c.in_ok-next_goal.ensures.ok)

pub returns-clause-contents : goal.returns-clause-contents
returns-clause-contents c = all-contents _ _ _ _ _ _ c.requires.machine c.requires.builder c.requires.page c.in_ok-back.ensures.fresh c.in_ok-back.ensures.opened _ _ _ c.output.ensures.keeps c.in_ok-output.ensures.ok c.in_ok-output.ensures.contents _ _ c.next_goal.ensures.keeps

pub returns-clause-back : goal.returns-clause-back
returns-clause-back c = all-back _ _ _ _ _ _ c.requires.machine c.requires.builder c.requires.page c.in_ok-back.ensures.fresh c.in_ok-back.ensures.opened _ _ _ c.output.ensures.keeps c.in_ok-output.ensures.ok c.in_ok-output.ensures.contents _ _ c.next_goal.ensures.keeps (serving-on (goal.at.returns-clause-back c).After-next_goal)

pub returns-clause-keeps : goal.returns-clause-keeps
returns-clause-keeps c = kept-all (goal.at.returns-clause-keeps c).After-next_goal

pub returns-clause-fault : goal.returns-clause-fault
returns-clause-fault c = c.next_goal.ensures.keeps.fields.fault ∙ c.output.ensures.keeps.fields.fault
