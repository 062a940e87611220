use Rattle.std.proofs.Common.{◌≡◌, ◌∙◌, ap, sym, subst, pos, [], ◌∷◌, take, FitsSigned, w64, rules}
use Rattle.std.proofs.lemmas.Int.{to_z-of_z, ints}
use Rattle.tb_pool.specs.Lists.{list_at, with_list}
use Rattle.tb_pool.proofs.CallerLemmas.{live_same, live_other}
use Rattle.tb_node.specs.Fit.{IsExtent, shapes}
use Rattle.tb_node.proofs.FitLemmas.{list_nodes_fit, list_sums_fit}
use Rattle.tb_break.specs.declared.Found.{Found}
use Rattle.tb_break.specs.Split.{split_of}
use Rattle.tb_output.specs.Machine.{MachineView}
use Rattle.tb_output.specs.MachineFrame.{HasGrown}
use Rattle.tb_output.proofs.Clears.ClearSteps.{front-kept, front-emptied}
use Rattle.tb_output.proofs.Machine.keep_front.Goals as goal

pub find-front-requires-clause-nodes : goal.find-front-requires-clause-nodes
find-front-requires-clause-nodes c = list_nodes_fit c.args.store.now c.args.body c.requires.body.sized

pub find-front-requires-clause-sums : goal.find-front-requires-clause-sums
find-front-requires-clause-sums c =
    let i = c.self.inside in
    let limit : IsExtent i.params.splitmaxdepth = subst (λ (m : MachineView). IsExtent m.params.splitmaxdepth) (sym c.self.view_is) c.requires.limit in
    let fits : FitsSigned w64 i.params.splitmaxdepth = search (rules, ints, limit) in
    simp to_z-of_z (list_sums_fit c.args.store.now c.args.body i.params.splitmaxdepth limit.low c.requires.body.sized c.requires.body.few)

pub append-requires-clause-first_live : goal.append-requires-clause-first_live
append-requires-clause-first_live c = live_other c.args.store.now c.shorten.new.store c.args.body _ c.args.back (λ e. c.requires.apart (sym e)) c.shorten.ensures c.requires.back

pub append-requires-clause-second_live : goal.append-requires-clause-second_live
append-requires-clause-second_live c = live_same c.args.store.now c.shorten.new.store c.args.body _ c.shorten.ensures

pub close-requires-clause-live : goal.close-requires-clause-live
close-requires-clause-live c = (front-emptied c.shorten.new.store c.append.new.self c.args.body _ c.append.ensures.joined).0

pub close-requires-clause-empty : goal.close-requires-clause-empty
close-requires-clause-empty c = (front-emptied c.shorten.new.store c.append.new.self c.args.body _ c.append.ensures.joined).1

pub returns : goal.returns
returns c =
    let i = c.self.inside in
    let s = c.args.store.now in
    let body = c.args.body in
    let limit : IsExtent i.params.splitmaxdepth = subst (λ (m : MachineView). IsExtent m.params.splitmaxdepth) (sym c.self.view_is) c.requires.limit in
    let fits : FitsSigned w64 i.params.splitmaxdepth = search (rules, ints, limit) in
    let found : c.find-front.result ≡ split_of (pos 0) i.params.splitmaxdepth (shapes s body) = simp to_z-of_z at c.find-front.ensures in
    subst (λ (m : MachineView). HasGrown c.args.back (take (split_of (pos 0) m.params.splitmaxdepth (shapes s body)).index (list_at s body)) (body ∷ []) s c.close.new.self) c.self.view_is
    (front-kept s c.shorten.new.store c.append.new.self c.close.new.self c.args.back body _ c.requires.apart
    (c.shorten.ensures ∙ ap (λ (f : Found). with_list s body (take f.index (list_at s body))) found) c.append.ensures.joined c.close.ensures.closed)
