use Rattle.tb_output.proofs.FiringWork.ResultLemmas.{memory-err, same-err}
use Rattle.tb_output.proofs.Clears.NotedSteps.{filled-of, unfilled-cut, unfilled-keeps, filled-lists, filled-machine, out-keeps, out-cut, unput-cut, unput-keeps, noted-done, noted-keeps}
use Rattle.tb_output.proofs.InText.PushLemmas.{grown-of}
use Rattle.tb_output.specs.BackList.{clear_list}
use Rattle.std.proofs.Common.{refl, []}
use Rattle.tb_output.proofs.Machine.clear_notes.Goals as goal

pub returns-in_err-reserve-clause-err : goal.returns-in_err-reserve-clause-err
returns-in_err-reserve-clause-err c =
    memory-err c.from_residual.result _ c.from_residual.ensures.1
    (unfilled-cut c.args.back c.args.body c.args.notes.now c.args.self.now c.args.store.now c.requires.machine c.requires.back c.requires.lists c.args.self.now c.reserve.new.self refl c.reserve.ensures.lists)

pub returns-in_err-reserve-clause-keeps : goal.returns-in_err-reserve-clause-keeps
returns-in_err-reserve-clause-keeps c =
    unfilled-keeps c.args.back c.args.body c.args.notes.now c.args.self.now c.args.store.now c.requires.machine c.requires.back c.requires.lists c.args.self.now c.reserve.new.self refl c.reserve.ensures.lists

pub put_out_text-requires-clause-machine : goal.put_out_text-requires-clause-machine
put_out_text-requires-clause-machine c =
    let filled = filled-of c.args.store.now c.reserve.new.self c.push_made.new.store c.args.body c.filling_glue.result c.in_ok-reserve.ensures.lists c.filling_glue.ensures c.push_made.ensures.lists in
    filled-machine c.args.back c.args.body c.args.notes.now c.args.self.now c.args.store.now c.requires.machine c.requires.back c.requires.lists c.push_made.new.store filled

pub put_out_text-requires-clause-lists : goal.put_out_text-requires-clause-lists
put_out_text-requires-clause-lists c =
    let filled = filled-of c.args.store.now c.reserve.new.self c.push_made.new.store c.args.body c.filling_glue.result c.in_ok-reserve.ensures.lists c.filling_glue.ensures c.push_made.ensures.lists in
    filled-lists c.args.back c.args.body c.args.notes.now c.args.self.now c.args.store.now c.requires.machine c.requires.back c.requires.lists c.push_made.new.store filled

pub returns-in_err-put_out_text-clause-err : goal.returns-in_err-put_out_text-clause-err
returns-in_err-put_out_text-clause-err c =
    let filled = filled-of c.args.store.now c.reserve.new.self c.push_made.new.store c.args.body c.filling_glue.result c.in_ok-reserve.ensures.lists c.filling_glue.ensures c.push_made.ensures.lists in
    same-err c.from_residual-in_err-put_out_text.result _ _ c.from_residual-in_err-put_out_text.ensures.1
    (out-cut c.args.back c.args.body c.args.notes.now c.args.self.now c.args.store.now c.requires.machine c.requires.back c.requires.lists c.push_made.new.store filled c.put_out_text.new.self c.put_out_text.new.store c.put_out_text.ensures.keeps _ c.in_err-put_out_text.ensures.err)

pub returns-in_err-put_out_text-clause-keeps : goal.returns-in_err-put_out_text-clause-keeps
returns-in_err-put_out_text-clause-keeps c =
    let filled = filled-of c.args.store.now c.reserve.new.self c.push_made.new.store c.args.body c.filling_glue.result c.in_ok-reserve.ensures.lists c.filling_glue.ensures c.push_made.ensures.lists in
    out-keeps c.args.back c.args.body c.args.notes.now c.args.self.now c.args.store.now c.requires.machine c.requires.back c.requires.lists c.push_made.new.store filled c.put_out_text.new.self c.put_out_text.new.store c.put_out_text.ensures.keeps

pub push_clear-requires : goal.push_clear-requires
push_clear-requires c =
    let filled = filled-of c.args.store.now c.reserve.new.self c.push_made.new.store c.args.body c.filling_glue.result c.in_ok-reserve.ensures.lists c.filling_glue.ensures c.push_made.ensures.lists in
    (out-keeps c.args.back c.args.body c.args.notes.now c.args.self.now c.args.store.now c.requires.machine c.requires.back c.requires.lists c.push_made.new.store filled c.put_out_text.new.self c.put_out_text.new.store c.put_out_text.ensures.keeps).back.live

pub returns-in_err-push_clear-clause-err : goal.returns-in_err-push_clear-clause-err
returns-in_err-push_clear-clause-err c =
    let filled = filled-of c.args.store.now c.reserve.new.self c.push_made.new.store c.args.body c.filling_glue.result c.in_ok-reserve.ensures.lists c.filling_glue.ensures c.push_made.ensures.lists in
    memory-err c.from_residual-in_err-push_clear.result _ c.from_residual-in_err-push_clear.ensures.1
    (unput-cut c.args.back c.args.body c.args.notes.now c.args.self.now c.args.store.now c.requires.machine c.requires.back c.requires.lists c.push_made.new.store filled c.put_out_text.new.self c.put_out_text.new.store c.put_out_text.ensures.keeps c.in_ok-put_out_text.ensures.ok c.push_clear.new.store c.in_err-push_clear.ensures.err)

pub returns-in_err-push_clear-clause-keeps : goal.returns-in_err-push_clear-clause-keeps
returns-in_err-push_clear-clause-keeps c =
    let filled = filled-of c.args.store.now c.reserve.new.self c.push_made.new.store c.args.body c.filling_glue.result c.in_ok-reserve.ensures.lists c.filling_glue.ensures c.push_made.ensures.lists in
    unput-keeps c.args.back c.args.body c.args.notes.now c.args.self.now c.args.store.now c.requires.machine c.requires.back c.requires.lists c.push_made.new.store filled c.put_out_text.new.self c.put_out_text.new.store c.put_out_text.ensures.keeps c.in_ok-put_out_text.ensures.ok c.push_clear.new.store c.in_err-push_clear.ensures.err

pub returns-clause-ok : goal.returns-clause-ok
returns-clause-ok c =
    let filled = filled-of c.args.store.now c.reserve.new.self c.push_made.new.store c.args.body c.filling_glue.result c.in_ok-reserve.ensures.lists c.filling_glue.ensures c.push_made.ensures.lists in
    noted-done c.args.back c.args.body c.args.notes.now c.args.self.now c.args.store.now c.requires.machine c.requires.back c.requires.lists c.push_made.new.store filled c.put_out_text.new.self c.put_out_text.new.store c.put_out_text.ensures.keeps c.in_ok-put_out_text.ensures.ok c.push_clear.new.store (grown-of c.put_out_text.new.store c.push_clear.new.store c.args.back clear_list [] c.in_ok-push_clear.ensures.ok)

pub returns-clause-keeps : goal.returns-clause-keeps
returns-clause-keeps c =
    let filled = filled-of c.args.store.now c.reserve.new.self c.push_made.new.store c.args.body c.filling_glue.result c.in_ok-reserve.ensures.lists c.filling_glue.ensures c.push_made.ensures.lists in
    noted-keeps c.args.back c.args.body c.args.notes.now c.args.self.now c.args.store.now c.requires.machine c.requires.back c.requires.lists c.push_made.new.store filled c.put_out_text.new.self c.put_out_text.new.store c.put_out_text.ensures.keeps c.in_ok-put_out_text.ensures.ok c.push_clear.new.store (grown-of c.put_out_text.new.store c.push_clear.new.store c.args.back clear_list [] c.in_ok-push_clear.ensures.ok)
