use Rattle.std.proofs.Common.{◌≡◌, ◌≢◌, refl, sym, ap, subst, ◌∙◌, ℕ, ◌<◌, List, [], ◌∷◌, ◌++◌, length, IsSome, arith}
use Rattle.std.specs.FinMap.{get, insert}
use Rattle.tb_pool.specs.Lists.{Lists, IsLive, list_at, with_list}
use Rattle.tb_pool.proofs.MapLemmas.{get-insert_same, get-insert_other}
use Rattle.tb_list_tests.proofs.pool.move_value.Goals as goal

-- both lists are live after the first value was moved
live : (s t : Lists ℕ) (from to : ℕ) (xs : List ℕ) → from ≢ to → list_at s from ≡ xs → 0 < length xs
    → ((v : ℕ) (vs : List ℕ) → list_at s from ≡ v ∷ vs → t.lists ≡ insert (with_list s from vs) to (list_at s to ++ v ∷ [])) → IsLive t from × IsLive t to
live s t from to [] ne e some moved = absurd (omega arith)
live s t from to (v ∷ vs) ne e some moved =
    let m = with_list s from vs in
    let ys = list_at s to ++ v ∷ [] in
    let w = moved v vs e in (
      subst IsSome (sym (ap (λ n. get n from) w ∙ get-insert_other m to ys from ne ∙ get-insert_same s.lists from vs)) refl,
      subst IsSome (sym (ap (λ n. get n to) w ∙ get-insert_same m to ys)) refl,
    )

pub returns-clause-from : goal.returns-clause-from
returns-clause-from c = (live c.args.lists.now c.move_first.new.self c.args.from c.args.to (list_at c.args.lists.now c.args.from) c.requires.apart refl c.requires.some c.move_first.ensures.moved).0

pub returns-clause-to : goal.returns-clause-to
returns-clause-to c = (live c.args.lists.now c.move_first.new.self c.args.from c.args.to (list_at c.args.lists.now c.args.from) c.requires.apart refl c.requires.some c.move_first.ensures.moved).1
