use Rattle.std.proofs.Common.{◌≡◌, refl, subst, true, false, []}
use Rattle.tb_output.specs.Machine.{MachineView}
use Rattle.tb_output.specs.Clear.{clear_wide}
use Rattle.tb_output.specs.BackList.{blank_clear_list}
use Rattle.tb_output.proofs.FiringWork.ResultLemmas.{memory-err, ok-map, err-map}
use Rattle.tb_output.proofs.InText.PushLemmas.{grown-of}
use Rattle.tb_output.proofs.FiringWork.StepLemmas.{no-room}
use Rattle.tb_output.proofs.StepLaws.WorkSteps.{continues-clear_wide}
use Rattle.tb_output.proofs.Clears.ClearSteps.{single-done, second-done, double-done, first-done, first-cut, first-keeps}
use Rattle.tb_output.proofs.Machine.clear_wide.Goals as goal

pub returns-then-not-self-clause-ok : goal.returns-then-not-self-clause-ok
returns-then-not-self-clause-ok c =
    (single-done c.args.back c.args.self.now c.args.store.now c.requires.machine c.requires.back (subst (λ (m : MachineView). m.two_columns ≡ false) c.self.view_is c.if-not-self.true)).does

pub returns-then-not-self-clause-keeps : goal.returns-then-not-self-clause-keeps
returns-then-not-self-clause-keeps c =
    (single-done c.args.back c.args.self.now c.args.store.now c.requires.machine c.requires.back (subst (λ (m : MachineView). m.two_columns ≡ false) c.self.view_is c.if-not-self.true)).keeps

pub wide_pages-requires : goal.wide_pages-requires
wide_pages-requires c = (double-done c.args.back c.args.self.now c.defer_double.new.self c.args.store.now c.requires.machine c.requires.back c.defer_double.ensures).keeps.machine

pub returns-then-self-clause-ok : goal.returns-then-self-clause-ok
returns-then-self-clause-ok c =
    let two = subst (λ (m : MachineView). m.two_columns ≡ true) c.self.view_is c.if-not-self.false in
    let one = subst (λ (m : MachineView). m.first_column ≡ true) c.self.view_is c.if-self.true in
    ok-map c.wide_pages.result _ _
    (λ does. (first-done c.args.back c.args.self.now c.args.store.now c.requires.machine c.requires.back c.defer_double.new.self c.wide_pages.new.self c.wide_pages.new.store two one c.defer_double.ensures c.wide_pages.ensures.keeps does).does)
    c.wide_pages.ensures.ok

pub returns-then-self-clause-err : goal.returns-then-self-clause-err
returns-then-self-clause-err c =
    let two = subst (λ (m : MachineView). m.two_columns ≡ true) c.self.view_is c.if-not-self.false in
    let one = subst (λ (m : MachineView). m.first_column ≡ true) c.self.view_is c.if-self.true in
    err-map c.wide_pages.result _ _
    (λ e does. (first-cut c.args.back c.args.self.now c.args.store.now c.requires.machine c.requires.back c.defer_double.new.self c.wide_pages.new.self c.wide_pages.new.store two one c.defer_double.ensures c.wide_pages.ensures.keeps e does).does)
    c.wide_pages.ensures.err

pub returns-then-self-clause-keeps : goal.returns-then-self-clause-keeps
returns-then-self-clause-keeps c =
    first-keeps c.args.back c.args.self.now c.args.store.now c.requires.machine c.requires.back c.defer_double.new.self c.wide_pages.new.self c.wide_pages.new.store c.defer_double.ensures c.wide_pages.ensures.keeps

pub returns-in_err-push_blank_clear-clause-err : goal.returns-in_err-push_blank_clear-clause-err
returns-in_err-push_blank_clear-clause-err c =
    let m = c.args.self.now in
    memory-err c.from_residual.result _ c.from_residual.ensures.1
    (no-room c.args.back m m c.args.store.now c.push_blank_clear.new.store (clear_wide m.params) c.requires.machine c.requires.back refl c.in_err-push_blank_clear.ensures.err (continues-clear_wide m.params)).does

pub returns-in_err-push_blank_clear-clause-keeps : goal.returns-in_err-push_blank_clear-clause-keeps
returns-in_err-push_blank_clear-clause-keeps c =
    let m = c.args.self.now in
    (no-room c.args.back m m c.args.store.now c.push_blank_clear.new.store (clear_wide m.params) c.requires.machine c.requires.back refl c.in_err-push_blank_clear.ensures.err (continues-clear_wide m.params)).keeps

pub returns-clause-ok : goal.returns-clause-ok
returns-clause-ok c =
    let two = subst (λ (m : MachineView). m.two_columns ≡ true) c.self.view_is c.if-not-self.false in
    let one = subst (λ (m : MachineView). m.first_column ≡ false) c.self.view_is c.if-self.false in
    let grown = grown-of c.args.store.now c.push_blank_clear.new.store c.args.back blank_clear_list [] c.in_ok-push_blank_clear.ensures.ok in
    (second-done c.args.back c.args.self.now c.args.store.now c.requires.machine c.requires.back c.push_blank_clear.new.store two one grown).does

pub returns-clause-keeps : goal.returns-clause-keeps
returns-clause-keeps c =
    let two = subst (λ (m : MachineView). m.two_columns ≡ true) c.self.view_is c.if-not-self.false in
    let one = subst (λ (m : MachineView). m.first_column ≡ false) c.self.view_is c.if-self.false in
    let grown = grown-of c.args.store.now c.push_blank_clear.new.store c.args.back blank_clear_list [] c.in_ok-push_blank_clear.ensures.ok in
    (second-done c.args.back c.args.self.now c.args.store.now c.requires.machine c.requires.back c.push_blank_clear.new.store two one grown).keeps
