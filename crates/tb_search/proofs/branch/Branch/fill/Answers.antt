use Rattle.std.proofs.Common.{sym, subst, ◌∙◌, ap, true, false, FitsSigned, rules}
use Rattle.std.specs.Prelude.{IfNone, IfSome}
use Rattle.std.specs.Int.{w128}
use Rattle.std.proofs.lemmas.Int.{to_z-of_z}
use Rattle.tb_items.specs.Happenings.{events_of}
use Rattle.tb_run.specs.declared.routine.Routine.{Routine}
use Rattle.tb_run.specs.Routine.{state_of, IsReady}
use Rattle.tb_run.specs.FilledPages.{IsFiring, IsFilledLast, Fills}
use Rattle.tb_run.specs.UnlimitedPages.{HasGoneOn, HasSent, ServesUnlimited}
use Rattle.tb_rate.specs.Rating.{rating, IsTried}
use Rattle.tb_rate.specs.RatedRun.{demerits_if, floats_waiting, insertions_first}
use Rattle.tb_rate.specs.Tries.{last_champion}
use Rattle.tb_search.specs.declared.branch.Branch.{Branch}
use Rattle.tb_search.specs.FilledBranches.{FillsTo}
use Rattle.tb_search.proofs.FiredLemmas.{broke-tried}
use Rattle.tb_search.proofs.FilledLemmas.{has-fired, unfired-so, unserved-so}
use Rattle.tb_search.proofs.ClosedLemmas.{fired-closed}
use Rattle.tb_search.proofs.branch.Branch.fill.Goals as goal

pub returns-in-Ends : goal.returns-in-Ends
returns-in-Ends c =
    let b = c.args.self.now in
    let q = c.fill.new.self in
    let hs = c.fill.new.happened.items in
    let now : Branch = record { routine = record b.routine { value = q }; ahead = b.ahead; plain = false } in
    let last : IsFilledLast true b.routine.value c.in-Ends.ending q hs = subst (λ o. Fills true b.routine.value o q hs) c.in-Ends.is (subst (λ (x : Routine). Fills true x c.in_ok-page.field-0 q hs) c.deref_mut-routine.ensures.value c.in_ok-page.ensures) in
    subst (λ o. FillsTo c.args.places.now.places.items b o now) (sym c.unfired.ensures)
    (unfired-so c.args.places.now.places.items b now q hs c.in-Ends.ending last c.ends_in_kern-kern.result c.ends_in_kern-kern.ensures)

pub returns-in-Some : goal.returns-in-Some
returns-in-Some c =
    let b = c.args.self.now in
    let q = c.fill.new.self in
    let hs = c.fill.new.happened.items in
    let d = c.serve_unlimited.new.self in
    let page = c.in-Fires.page in
    let now : Branch = record { routine = record b.routine { value = d }; ahead = b.ahead; plain = false } in
    let firing : IsFiring true b.routine.value page q hs = subst (λ o. Fills true b.routine.value o q hs) c.in-Fires.is (subst (λ (x : Routine). Fills true x c.in_ok-page.field-0 q hs) c.deref_mut-routine.ensures.value c.in_ok-page.ensures) in
    subst (λ o. FillsTo c.args.places.now.places.items b o now) (sym c.unserved.ensures)
    (unserved-so c.args.places.now.places.items b now q hs page firing d c.in-Some.ending
    (subst (λ o. ServesUnlimited page q o d) c.in-Some.is c.in_ok-ending.ensures.served))

pub page_demerits-demerits-requires-clause-tried : goal.page_demerits-demerits-requires-clause-tried
page_demerits-demerits-requires-clause-tried c =
    let b = c.args.self.now in
    let q = c.fill.new.self in
    let hs = c.fill.new.happened.items in
    let d = c.serve_unlimited.new.self in
    let new = c.serve_unlimited.new.happened.items in
    let page = c.in-Fires.page in
    let firing : IsFiring true b.routine.value page q hs = subst (λ o. Fills true b.routine.value o q hs) c.in-Fires.is (subst (λ (x : Routine). Fills true x c.in_ok-page.field-0 q hs) c.deref_mut-routine.ensures.value c.in_ok-page.ensures) in
    let goes : HasGoneOn page q d = subst (λ o. ServesUnlimited page q o d) c.in_default.is c.in_ok-ending.ensures.served in
    let sent : HasSent page q d hs new = subst (λ o. IfNone o (HasSent page q d hs new)) c.in_default.is c.in_ok-ending.ensures.sent in
    subst (λ xs. IfSome (last_champion (events_of d.store xs)) IsTried) (sym c.as_slice.ensures.value) (broke-tried b.routine.value q page hs firing d goes new sent)

pub returns : goal.returns
returns c =
    let b = c.args.self.now in
    let q = c.fill.new.self in
    let hs = c.fill.new.happened.items in
    let d = c.serve_unlimited.new.self in
    let new = c.serve_unlimited.new.happened.items in
    let page = c.in-Fires.page in
    let firing : IsFiring true b.routine.value page q hs = subst (λ o. Fills true b.routine.value o q hs) c.in-Fires.is (subst (λ (x : Routine). Fills true x c.in_ok-page.field-0 q hs) c.deref_mut-routine.ensures.value c.in_ok-page.ensures) in
    let goes : HasGoneOn page q d = subst (λ o. ServesUnlimited page q o d) c.in_default.is c.in_ok-ending.ensures.served in
    let sent : HasSent page q d hs new = subst (λ o. IfNone o (HasSent page q d hs new)) c.in_default.is c.in_ok-ending.ensures.sent in
    let ready : IsReady d = subst (λ o. IfNone o (IsReady d)) c.in_default.is c.in_ok-ending.ensures.ready in
    let value = c.page_demerits-demerits.ensures.value ∙ ap (λ xs. demerits_if (rating (state_of d).params c.args.places.now.places.items 0 (last_champion (events_of d.store xs)) (floats_waiting (state_of d).floats) (insertions_first (state_of d).waiting))) c.as_slice.ensures.value in
    let fits : FitsSigned w128 c.page_demerits-demerits.result = search rules in
    let closed = c.done_with.ensures in
    simp to_z-of_z
    (fired-closed c.args.places.now.places.items c.page_demerits-demerits.result b (record b.routine { value = d }) b.ahead (record b.routine { value = c.done_with.new.self }) closed.ready closed.state closed.left
    (has-fired b c.requires.branch q page hs firing d goes ready c.in_ok-ending.ensures.classes c.args.places.now.places.items new sent c.page_demerits-demerits.result value c.page_demerits-demerits.ensures.low c.page_demerits-demerits.ensures.high))
