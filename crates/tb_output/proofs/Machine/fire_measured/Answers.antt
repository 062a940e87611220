use Rattle.std.proofs.Common.{◌≡◌, ◌<◌, ◌+◌, ap, sym, subst, ◌∙◌, FitsSigned, w64, to_z, of_z, rules, arith}
use Rattle.std.proofs.lemmas.Int.{to_z-of_z}
use Rattle.tb_output.specs.Machine.{MachineView}
use Rattle.tb_output.specs.FiringWork.{shows_boxes, shows_all, IsCutShort, Does}
use Rattle.tb_output.specs.Firing.{fired_in, whole_work, IsFired, IsRefusal, KeepsAll}
use Rattle.tb_output.specs.FiringParts.{served}
use Rattle.tb_output.proofs.Firings.FireLemmas.{counted, rested, faulted, is-begun, count-below, if-none, keeps-rested, keeps-faulted, is-refused, is-fired, fired-contents, fired-refused}
use Rattle.tb_output.proofs.Machine.fire_measured.Goals as goal

pub returns-in-Some-clause-refused : goal.returns-in-Some-clause-refused
returns-in-Some-clause-refused c =
    is-refused c.args.self.now c.args.b.now c.args.store.now (whole_work c.args.self.now c.args.b.now c.args.store.now c.args.page) c.in-Some.fault (sym c.refusal.ensures ∙ c.in-Some.is)

pub overflow_add-self : goal.overflow_add-self
overflow_add-self c =
    let few : c.self.inside.dead_cycles + 1 < 4194305 =
    count-below c.args.self.now c.self.inside.dead_cycles (ap (λ (m : MachineView). m.dead_cycles) c.self.view_is) (is-begun c.args.self.now (sym c.refusal.ensures ∙ c.in_default.is)) c.requires.machine.params in
    omega (arith, few)

pub returns-in-Ok-clause-turn : goal.returns-in-Ok-clause-turn
returns-in-Ok-clause-turn c =
    let fits : FitsSigned w64 c.args.page.shrink = search rules in
    let shrink : to_z w64 (of_z w64 c.args.page.shrink) ≡ c.args.page.shrink = to_z-of_z w64 c.args.page.shrink fits in
    let done = subst (λ (m : MachineView). Does (shows_boxes c.args.b.now m c.args.store.now) (shows_all c.in-Ok.put_back c.serve.new.b c.serve.new.self c.serve.new.store) (served m.params (fired_in c.args.b.now c.args.store.now c.args.page)))
    (λ i. counted (shrink i) (c.self.view_is i)) c.in-Ok.ensures.ok in
    subst (λ (v : MachineView). IsFired (record { put_back = c.in-Ok.put_back }) c.args.self.now v c.serve.new.b c.args.store.now c.serve.new.store (whole_work c.args.self.now c.args.b.now c.args.store.now c.args.page))
    (sym (ap rested c.self-2.view_is))
    (is-fired c.args.self.now c.args.b.now c.args.store.now c.args.page (is-begun c.args.self.now (sym c.refusal.ensures ∙ c.in_default.is)) c.serve.new.b c.serve.new.self c.serve.new.store c.in-Ok.put_back done)

pub returns-in-Ok-clause-contents : goal.returns-in-Ok-clause-contents
returns-in-Ok-clause-contents c =
    let fits : FitsSigned w64 c.args.page.shrink = search rules in
    let shrink : to_z w64 (of_z w64 c.args.page.shrink) ≡ c.args.page.shrink = to_z-of_z w64 c.args.page.shrink fits in
    let done = subst (λ (m : MachineView). Does (shows_boxes c.args.b.now m c.args.store.now) (shows_all c.in-Ok.put_back c.serve.new.b c.serve.new.self c.serve.new.store) (served m.params (fired_in c.args.b.now c.args.store.now c.args.page)))
    (λ i. counted (shrink i) (c.self.view_is i)) c.in-Ok.ensures.ok in
    fired-contents c.args.self.now c.args.b.now c.args.store.now c.args.page (is-begun c.args.self.now (sym c.refusal.ensures ∙ c.in_default.is)) c.serve.new.b c.serve.new.self c.serve.new.store c.in-Ok.put_back done c.in-Ok.ensures.contents

pub returns-in-Err-clause-refused : goal.returns-in-Err-clause-refused
returns-in-Err-clause-refused c =
    let fits : FitsSigned w64 c.args.page.shrink = search rules in
    let shrink : to_z w64 (of_z w64 c.args.page.shrink) ≡ c.args.page.shrink = to_z-of_z w64 c.args.page.shrink fits in
    let cut = subst (λ (m : MachineView). Does (shows_boxes c.args.b.now m c.args.store.now) (IsCutShort c.in-Err.fault c.serve.new.self c.serve.new.store) (served m.params (fired_in c.args.b.now c.args.store.now c.args.page)))
    (λ i. counted (shrink i) (c.self.view_is i)) c.in-Err.ensures.err in
    if-none c.args.self.now.fault _
    (subst (λ (v : MachineView). IsRefusal c.in-Err.fault c.args.self.now v c.args.b.now c.serve.new.b c.args.store.now c.serve.new.store (whole_work c.args.self.now c.args.b.now c.args.store.now c.args.page))
    (sym (ap (faulted c.in-Err.fault) c.self-2.view_is))
    (fired-refused c.args.self.now c.args.b.now c.args.store.now c.args.page (is-begun c.args.self.now (sym c.refusal.ensures ∙ c.in_default.is)) c.serve.new.b c.serve.new.self c.serve.new.store c.in-Err.fault cut))

pub returns-in-Ok-clause-keeps : goal.returns-in-Ok-clause-keeps
returns-in-Ok-clause-keeps c =
    let fits : FitsSigned w64 c.args.page.shrink = search rules in
    let shrink : to_z w64 (of_z w64 c.args.page.shrink) ≡ c.args.page.shrink = to_z-of_z w64 c.args.page.shrink fits in
    subst (λ (v : MachineView). KeepsAll c.args.page.body c.args.self.now v c.args.b.now c.serve.new.b c.args.store.now c.serve.new.store)
    (sym (ap rested c.self-2.view_is))
    (keeps-rested c.args.page.shrink c.args.page.body c.args.self.now c.serve.new.self c.args.b.now c.serve.new.b c.args.store.now c.serve.new.store
    (subst (λ (m : MachineView). KeepsAll c.args.page.body m c.serve.new.self c.args.b.now c.serve.new.b c.args.store.now c.serve.new.store) (λ i. counted (shrink i) (c.self.view_is i)) c.serve.ensures.keeps))

pub returns-in-Err-clause-keeps : goal.returns-in-Err-clause-keeps
returns-in-Err-clause-keeps c =
    let fits : FitsSigned w64 c.args.page.shrink = search rules in
    let shrink : to_z w64 (of_z w64 c.args.page.shrink) ≡ c.args.page.shrink = to_z-of_z w64 c.args.page.shrink fits in
    subst (λ (v : MachineView). KeepsAll c.args.page.body c.args.self.now v c.args.b.now c.serve.new.b c.args.store.now c.serve.new.store)
    (sym (ap (faulted c.in-Err.fault) c.self-2.view_is))
    (keeps-faulted c.in-Err.fault c.args.page.shrink c.args.page.body c.args.self.now c.serve.new.self c.args.b.now c.serve.new.b c.args.store.now c.serve.new.store
    (subst (λ (m : MachineView). KeepsAll c.args.page.body m c.serve.new.self c.args.b.now c.serve.new.b c.args.store.now c.serve.new.store) (λ i. counted (shrink i) (c.self.view_is i)) c.serve.ensures.keeps))
