use Rattle.std.proofs.Common.{◌≡◌, ap, sym, subst, ◌+◌, length, ℕ}
use Rattle.tb_dvi.specs.declared.command.Mode.{Mode}
use Rattle.tb_dvi.specs.Machine.{op_size, page_step, between_step, whole_step}
use Rattle.tb_dvi.specs.Lister.{state_of, CommandPasses}
use Rattle.tb_dvi.proofs.StepLemmas.{passes}
use Rattle.tb_dvi.proofs.lister.Lister.whole_step.Goals as goal

pub returns-in_ok-between_step-in-Between : goal.returns-in_ok-between_step-in-Between
returns-in_ok-between_step-in-Between c =
    let old = c.args.self.now in
    let new = c.between_step.new.self in
    let args = c.args.args.now in
    let next : ℕ = c.args.place + 1 + c.op_size.result in
    let after : next ≡ c.args.place + 1 + op_size c.args.op args = ap (λ n. c.args.place + 1 + n) c.op_size.ensures in
    subst (λ (m : Mode). CommandPasses c.args.place next (length args) old new (whole_step m c.args.place c.args.op args (state_of old))) (sym c.in-Between.is)
    (passes c.args.place next (length args) (op_size c.args.op args) old new (between_step c.args.place c.args.op args (state_of old)) c.requires.whole after c.in_ok-between_step-in-Between.ensures.step c.in_ok-between_step-in-Between.ensures.bounds)

pub returns-in_ok-page_step-in-OnPage : goal.returns-in_ok-page_step-in-OnPage
returns-in_ok-page_step-in-OnPage c =
    let old = c.args.self.now in
    let new = c.page_step.new.self in
    let args = c.args.args.now in
    let next : ℕ = c.args.place + 1 + c.op_size.result in
    let after : next ≡ c.args.place + 1 + op_size c.args.op args = ap (λ n. c.args.place + 1 + n) c.op_size.ensures in
    subst (λ (m : Mode). CommandPasses c.args.place next (length args) old new (whole_step m c.args.place c.args.op args (state_of old))) (sym c.in-OnPage.is)
    (passes c.args.place next (length args) (op_size c.args.op args) old new (page_step c.args.op args c.in-OnPage.r (state_of old)) c.requires.whole after c.in_ok-page_step-in-OnPage.ensures.step c.in_ok-page_step-in-OnPage.ensures.bounds)
