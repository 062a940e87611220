use Rattle.std.proofs.Common.{◌≡◌, List, [], ◌∷◌, length, refl, sym, ap, ◌∙◌}
use Rattle.tb_node.specs.declared.Float.{Float}
use Rattle.tb_area.specs.Deferred.{filled}
use Rattle.tb_area.proofs.deferred.fill_column.Goals as goal

none_waits : (fs : List Float) → length fs ≡ 0 → fs ≡ []
none_waits [] h = refl
none_waits (f ∷ fs) h = cc

pub returns-then-len-eq0-clause-lists : goal.returns-then-len-eq0-clause-lists
returns-then-len-eq0-clause-lists c =
    let p = c.args.p.now in
    let s = c.args.s.now in
    let l = c.args.pool.now.lists in
    sym (ap (λ fs. filled p s [] fs l) (none_waits l.deferred (sym c.len.ensures.value ∙ c.if-len-eq0.true)))

pub returns-then-len-eq0-clause-order : goal.returns-then-len-eq0-clause-order
returns-then-len-eq0-clause-order c = λ k. refl

pub returns-then-len-eq0-clause-size : goal.returns-then-len-eq0-clause-size
returns-then-len-eq0-clause-size c = refl

pub returns-then-len-eq0-clause-unmarked : goal.returns-then-len-eq0-clause-unmarked
returns-then-len-eq0-clause-unmarked c = λ h. h
