use Rattle.std.proofs.Common.{sym, subst, []}
use Rattle.tb_float.specs.declared.Part.TheVariants as parts
use Rattle.tb_column.specs.Ranges.{IsSizedGlue}
use Rattle.tb_output.specs.Machine.{MachineView}
use Rattle.tb_output.specs.MachineFrame.{HasGrown}
use Rattle.tb_output.specs.BackList.{here_list}
use Rattle.tb_output.proofs.FiringWork.ResultLemmas.{memory-err, same-err}
use Rattle.tb_output.proofs.FiringWork.StepLemmas.{keeps-on}
use Rattle.tb_output.proofs.InText.TextSteps.{area-done, here-cut, here-whole, here-memory}
use Rattle.tb_output.proofs.Machine.place_here.Goals as goal

pub move_first-requires-clause-first : goal.move_first-requires-clause-first
move_first-requires-clause-first c = (c.args.f.now, c.requires.first)

pub put_interline-requires-clause-machine : goal.put_interline-requires-clause-machine
put_interline-requires-clause-machine c =
    (area-done c.args.back c.args.self.now c.move_first.new.self c.args.store.now c.requires.machine c.requires.back parts.Here c.args.f.now tt (c.move_first.ensures c.args.f.now c.requires.first)).keeps.machine

pub put_interline-requires-clause-back : goal.put_interline-requires-clause-back
put_interline-requires-clause-back c =
    (area-done c.args.back c.args.self.now c.move_first.new.self c.args.store.now c.requires.machine c.requires.back parts.Here c.args.f.now tt (c.move_first.ensures c.args.f.now c.requires.first)).keeps.back

pub returns-in_err-put_interline-clause-err : goal.returns-in_err-put_interline-clause-err
returns-in_err-put_interline-clause-err c =
    let moved = area-done c.args.back c.args.self.now c.move_first.new.self c.args.store.now c.requires.machine c.requires.back parts.Here c.args.f.now tt (c.move_first.ensures c.args.f.now c.requires.first) in
    same-err c.from_residual.result _ _ c.from_residual.ensures.1
    (here-cut c.args.back c.args.self.now c.move_first.new.self c.args.store.now c.put_interline.new.store c.args.vert c.args.f.now moved c.put_interline.ensures.keeps _ c.in_err-put_interline.ensures.err).does

pub returns-in_err-put_interline-clause-keeps : goal.returns-in_err-put_interline-clause-keeps
returns-in_err-put_interline-clause-keeps c =
    keeps-on c.args.back c.args.self.now c.move_first.new.self c.move_first.new.self c.args.store.now c.args.store.now c.put_interline.new.store
    (area-done c.args.back c.args.self.now c.move_first.new.self c.args.store.now c.requires.machine c.requires.back parts.Here c.args.f.now tt (c.move_first.ensures c.args.f.now c.requires.first)).keeps
    c.put_interline.ensures.keeps

pub push_here-requires-clause-back : goal.push_here-requires-clause-back
push_here-requires-clause-back c = c.put_interline.ensures.keeps.back.live

pub push_here-requires-clause-parskip : goal.push_here-requires-clause-parskip
push_here-requires-clause-parskip c = subst (λ (m : MachineView). IsSizedGlue m.params.parskip) (sym c.self.view_is) c.put_interline.ensures.keeps.machine.params.parskip

pub returns-in_err-push_here-clause-err : goal.returns-in_err-push_here-clause-err
returns-in_err-push_here-clause-err c =
    let moved = area-done c.args.back c.args.self.now c.move_first.new.self c.args.store.now c.requires.machine c.requires.back parts.Here c.args.f.now tt (c.move_first.ensures c.args.f.now c.requires.first) in
    memory-err c.from_residual-in_err-push_here.result _ c.from_residual-in_err-push_here.ensures.1
    (here-memory c.args.back c.args.self.now c.move_first.new.self c.args.store.now c.put_interline.new.store c.args.vert c.args.f.now moved c.put_interline.ensures.keeps c.in_ok-put_interline.ensures.ok c.push_here.new.store c.in_err-push_here.ensures.err).does

pub returns-in_err-push_here-clause-keeps : goal.returns-in_err-push_here-clause-keeps
returns-in_err-push_here-clause-keeps c =
    let moved = area-done c.args.back c.args.self.now c.move_first.new.self c.args.store.now c.requires.machine c.requires.back parts.Here c.args.f.now tt (c.move_first.ensures c.args.f.now c.requires.first) in
    (here-memory c.args.back c.args.self.now c.move_first.new.self c.args.store.now c.put_interline.new.store c.args.vert c.args.f.now moved c.put_interline.ensures.keeps c.in_ok-put_interline.ensures.ok c.push_here.new.store c.in_err-push_here.ensures.err).keeps

pub returns-clause-ok : goal.returns-clause-ok
returns-clause-ok c =
    let moved = area-done c.args.back c.args.self.now c.move_first.new.self c.args.store.now c.requires.machine c.requires.back parts.Here c.args.f.now tt (c.move_first.ensures c.args.f.now c.requires.first) in
    let grown = subst (λ (m : MachineView). HasGrown c.args.back (here_list m.params c.args.vert c.args.f.now) [] c.put_interline.new.store c.push_here.new.store) c.self.view_is c.in_ok-push_here.ensures.ok in
    (here-whole c.args.back c.args.self.now c.move_first.new.self c.args.store.now c.put_interline.new.store c.args.vert c.args.f.now moved c.put_interline.ensures.keeps c.in_ok-put_interline.ensures.ok c.push_here.new.store c.requires.extent grown).does

pub returns-clause-keeps : goal.returns-clause-keeps
returns-clause-keeps c =
    let moved = area-done c.args.back c.args.self.now c.move_first.new.self c.args.store.now c.requires.machine c.requires.back parts.Here c.args.f.now tt (c.move_first.ensures c.args.f.now c.requires.first) in
    let grown = subst (λ (m : MachineView). HasGrown c.args.back (here_list m.params c.args.vert c.args.f.now) [] c.put_interline.new.store c.push_here.new.store) c.self.view_is c.in_ok-push_here.ensures.ok in
    (here-whole c.args.back c.args.self.now c.move_first.new.self c.args.store.now c.put_interline.new.store c.args.vert c.args.f.now moved c.put_interline.ensures.keeps c.in_ok-put_interline.ensures.ok c.push_here.new.store c.requires.extent grown).keeps
