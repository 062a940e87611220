use Rattle.std.proofs.Common.{◌≡◌, ◌∙◌, ◌<◌, ◌++◌, ◌∷◌, [], ap, refl, sym, subst, length, rules}
use Rattle.std.specs.Prelude.{true, slice_index_or, if◌then◌else◌}
use Rattle.tb_node.specs.PlainNodes.{inserted_of, PlainNode, ins}
use Rattle.tb_insert.specs.declared.Entry.{Entry}
use Rattle.tb_insert.specs.AccountEntries.{blank_entry, entry_of, met_scan, IsAccountOf}
use Rattle.tb_insert.specs.Arrival.{Arrived, late_entry, with_late}
use Rattle.tb_insert.proofs.SettleLemmas.{late_arrives}
use Rattle.tb_insert.proofs.StandsLemmas.{arrive_stands}
use Rattle.tb_insert.proofs.Account.arrive_late.Goals as goal

pub returns-clause-stands : goal.returns-clause-stands
returns-clause-stands c = λ held class size scan z page marked line number stands co.
    let a = c.args.self.now in
    let k = c.args.ins.now.class in
    let i = inserted_of held c.args.ins.now in
    let late = with_late a k c.args.ins.now.floating c.args.index in
    let e = slice_index_or a.entries k blank_entry in
    let here : entry_of a k ≡ e = ap (λ b. if b then e else blank_entry) c.requires.late.here in
    let arrived : Arrived a late scan scan e (late_entry a e) i c.args.index class size = late_arrives a late scan e i c.args.index class size c.requires.late.met c.requires.late.split refl refl in
    let within : k < length a.entries = search rules in
    let within_page : k < length a.on_page = search rules in
    subst (λ x. IsAccountOf x z (page ++ (let n : PlainNode = record { line = line; kind = ins i } in n) ∷ []) marked) (sym c.come_late.ensures)
    (arrive_stands a late late scan scan (late_entry a e) i k c.args.index line class size z page marked
    refl c.requires.most within within_page number stands co (subst (λ x. Arrived a late scan scan x (late_entry a e) i c.args.index class size) (sym here) arrived) refl refl refl refl refl refl)

pub returns-clause-scan : goal.returns-clause-scan
returns-clause-scan c = λ class scan z page marked stands.
    let a = c.args.self.now in
    let k = c.args.ins.now.class in
    let e = slice_index_or a.entries k blank_entry in
    let here : entry_of a k ≡ e = ap (λ b. if b then e else blank_entry) c.requires.late.here in
    let met : (entry_of a k).met ≡ true = ap (λ (x : Entry). x.met) here ∙ c.requires.late.met in
    ap (λ m. met_scan m scan class) (sym met ∙ (stands.entries k c.requires.most).met)
