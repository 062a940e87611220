use Rattle.std.proofs.Common.{◌≡◌, ◌+◌, ◌++◌, ◌∷◌, [], true, List, length, take, drop, ap, ◌∙◌, add-one, arith}
use Rattle.tb_float.specs.Lists.{floats_of}
use Rattle.tb_fpage.specs.Company.{Choice, passed_over, choices_from}
use Rattle.tb_told.proofs.ChoiceLemmas.{head-length, place-is, rest-length, ok-then}
use Rattle.tb_told.proofs.choices.choose_all.Goals as goal

pub join_later-requires-clause-few : goal.join_later-requires-clause-few
join_later-requires-clause-few c =
    let all = floats_of c.args.from c.args.pool.now.lists in
    let k = c.args.place in
    let f = c.args.f.now in
    let head : List Choice = record { float = f; chosen = true } ∷ [] in
    let items : c.push.new.self.items ≡ passed_over (take k all) ++ head = c.in_ok-push.ensures.items ∙ ap (λ ds. ds ++ head) c.in_ok-pass_over.ensures in
    omega (arith, ap length items, head-length (take k all) f, place-is all k f c.requires.there, rest-length all k f c.requires.there, c.requires.few)

pub returns : goal.returns
returns c =
    let all = floats_of c.args.from c.args.pool.now.lists in
    let z = c.args.wanted.now in
    let k = c.args.place in
    let head : List Choice = record { float = c.args.f.now; chosen = true } ∷ [] in
    let items : c.push.new.self.items ≡ passed_over (take k all) ++ head = c.in_ok-push.ensures.items ∙ ap (λ ds. ds ++ head) c.in_ok-pass_over.ensures in
    ok-then c.join_later.result _ _ _ (ap (λ ds. choices_from z ds (drop (k + 1) all)) items ∙ ap (λ n. choices_from z (passed_over (take k all) ++ head) (drop n all)) (add-one k)) c.join_later.ensures
