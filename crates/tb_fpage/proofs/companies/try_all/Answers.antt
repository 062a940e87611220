use Rattle.std.proofs.Common.{◌≡◌, ◌+◌, List, ◌∷◌, true, take, sym, subst, refl, ◌∙◌, FitsSigned, w64, arith, rules}
use Rattle.std.proofs.lemmas.Int.{ints}
use Rattle.tb_node.specs.declared.Float.{Float}
use Rattle.tb_float.specs.Classes.{HasLeft}
use Rattle.tb_float.specs.Lists.{float_entries, floats_of}
use Rattle.tb_fpage.specs.declared.walk.Walk.{Walk}
use Rattle.tb_fpage.specs.Walk.{AreTried, IsAfterHead, is_made_at}
use Rattle.tb_float.proofs.EntryLemmas.{next-is_float}
use Rattle.tb_fpage.proofs.WalkLemmas.{next-float, no-float}
use Rattle.tb_fpage.proofs.CompanyLemmas.{tried-there, tried-head, tried-ends, tried-next, tried-end}
use Rattle.tb_float.proofs.HasLemmas.{has-there}
use Rattle.tb_fpage.proofs.FullLemmas.{tried-full}
use Rattle.tb_fpage.proofs.companies.try_all.Goals.{After-float-f, After-fills}
use Rattle.tb_fpage.proofs.companies.try_all.Goals as goal

pub float-f-requires : goal.float-f-requires
float-f-requires c =
    let way = c.loop-entry.invariant.tried in
    next-is_float c.in-Some.entry.now c.next.new.self way.0 (sym c.in-Some.ensures.steps ∙ way.1)

-- the float that came is tried now, and those behind it are left
tried_now : (c : After-float-f) → (left : List Float) × (c.next.new.self ≡ float_entries left) × AreTried c.args.wanted.now c.loop-entry.earlier c.loop-entry.place (floats_of c.args.from c.args.pool.now.lists) (c.float-f.result.now ∷ left)
tried_now c =
    let way = c.loop-entry.invariant.tried in
    let next = next-float c.in-Some.entry.now c.next.new.self way.0 c.float-f.result.now (sym c.in-Some.ensures.steps ∙ way.1) c.float-f.ensures in
    (next.0, next.1, subst (AreTried c.args.wanted.now c.loop-entry.earlier c.loop-entry.place (floats_of c.args.from c.args.pool.now.lists)) next.2 way.2)

pub made_at-requires-clause-there : goal.made_at-requires-clause-there
made_at-requires-clause-there c =
    let now = tried_now (goal.at.made_at-requires-clause-there c).After-float-f in
    tried-there c.args.wanted.now c.loop-entry.earlier c.loop-entry.place (floats_of c.args.from c.args.pool.now.lists) now.0 c.float-f.result.now now.2

pub returns-in-Some-made_at : goal.returns-in-Some-made_at
returns-in-Some-made_at c =
    let z = c.args.wanted.now in
    let f = c.float-f.result.now in
    let place = c.loop-entry.place in
    let all = floats_of c.args.from c.args.pool.now.lists in
    let now = tried_now (goal.at.returns-in-Some-made_at c).After-float-f in
    let made : is_made_at z place all f ≡ true = c.in-Some-made_at.ensures.made in
    let fits : FitsSigned w64 f.height = search rules in
    record {
      made = subst (λ (w : Walk). IsAfterHead w z all) (sym c.after_head.ensures) (tried-head z c.loop-entry.earlier place all now.0 f _ now.2 made (omega (arith, ints)) fits);
      last = tried-ends z c.loop-entry.earlier place all now.0 f c.in-Some-made_at.last now.2 made c.in-Some-made_at.ensures.last;
      none = tt;
    }

-- it makes no company, so it is one of those that were tried
tried_next : (c : After-fills) → (let all = floats_of c.args.from c.args.pool.now.lists in (left : List Float) → AreTried c.args.wanted.now c.loop-entry.earlier c.loop-entry.place all (c.float-f.result.now ∷ left)
    → record { tried : AreTried c.args.wanted.now c.fills.new.set (c.loop-entry.place + 1) all left; left : HasLeft c.fills.new.set all })
tried_next c left now =
    let z = c.args.wanted.now in
    let f = c.float-f.result.now in
    let place = c.loop-entry.place in
    let all = floats_of c.args.from c.args.pool.now.lists in
    record {
      tried = tried-next z c.loop-entry.earlier c.fills.new.set place all left f now c.in_default.ensures.none (c.fills.ensures.classes (take place all) f refl now.classes);
      left = c.fills.ensures.left all (has-there all place f (tried-there z c.loop-entry.earlier place all left f now)) c.loop-entry.invariant.left;
    }

pub loop-entry-preserved : goal.loop-entry-preserved
loop-entry-preserved c =
    let at = goal.at.loop-entry-preserved c in
    let now = tried_now at.After-float-f in
    let next = tried_next at.After-fills now.0 now.2 in
    record { can_next = tt; is_finite = tt; tried = (now.0, now.1, next.tried); left = next.left }

pub returns-clause-none : goal.returns-clause-none
returns-clause-none c =
    let way = c.loop-entry.invariant.tried in
    let all = floats_of c.args.from c.args.pool.now.lists in
    let none = no-float way.0 (sym c.in-None.ensures.steps.0 ∙ way.1) in
    tried-end c.args.wanted.now c.loop-entry.earlier c.loop-entry.place all (subst (λ (fs : List Float). AreTried c.args.wanted.now c.loop-entry.earlier c.loop-entry.place all fs) none way.2)

pub returns-then-fills-clause-none : goal.returns-then-fills-clause-none
returns-then-fills-clause-none c =
    let at = goal.at.returns-then-fills-clause-none c in
    let all = floats_of c.args.from c.args.pool.now.lists in
    let now = tried_now at.After-float-f in
    let next = tried_next at.After-fills now.0 now.2 in
    let full = c.fills.ensures.full c.if-fills.true (take (c.loop-entry.place + 1) all) all next.tried.classes next.left in
    tried-full c.args.wanted.now c.fills.new.set (c.loop-entry.place + 1) all now.0 next.tried full
