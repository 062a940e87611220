use Rattle.std.proofs.Common.{◌≡◌, [], drop, sym, ap, subst, ◌∙◌, FitsSigned, w64, arith, rules}
use Rattle.std.proofs.lemmas.Int.{ints, to_z-of_z}
use mir.Val.{to_z, of_z}
use Rattle.tb_float.specs.Lists.{float_entries, floats_of}
use Rattle.tb_float.proofs.WaitingLemmas.{waiting-entries}
use Rattle.tb_fpage.specs.Company.{company_height}
use Rattle.tb_fpage.specs.Walk.{EndsBy, IsOnWay, company_of_place}
use Rattle.tb_float.proofs.EntryLemmas.{drop-entries, next-is_float}
use Rattle.tb_fpage.proofs.WalkLemmas.{IsNextFloat, next-float, no-float, left-next, on-way-next, on-way-end, on-way-room, on-way-within, within-drop}
use Rattle.tb_fpage.proofs.CompanyLemmas.{on-way-start}
use Rattle.tb_float.specs.Classes.{AreAtLeast, HasLeft}
use Rattle.tb_fpage.specs.declared.walk.Walk.{Walk}
use Rattle.tb_fpage.proofs.FullLemmas.{has-left, has-ended}
use Rattle.tb_fpage.proofs.companies.walk_company.Goals.{After-float-f, After-visit}
use Rattle.tb_fpage.proofs.companies.walk_company.Goals as goal

pub loop-entry-init : goal.loop-entry-init
loop-entry-init c =
    let all = floats_of c.args.from c.args.pool.now.lists in
    let f = c.args.f.now in
    let w = c.after_head-walk.result in
    let failed : w.failed ≡ c.args.earlier.now = ap (λ (u : Walk). u.failed) c.after_head-walk.ensures in
    let fits : FitsSigned w64 f.height = search rules in
    record {
      can_next = tt;
      is_finite = tt;
      left = c.into_iter-entry-iterator.ensures.into_iter_gives ∙ c.entries_from-entry-items.ensures ∙ ap (drop w.seen) (waiting-entries c.args.from c.requires.waiting c.args.pool.now.lists) ∙ drop-entries w.seen all;
      way = on-way-start c.args.wanted.now w c.args.earlier.now c.args.place all f _ c.after_head-walk.ensures c.requires.there (omega (arith, ints)) fits c.requires.classes;
      classes_left = subst (λ s. HasLeft s all) (sym failed) c.requires.left;
    }

pub float-f-requires : goal.float-f-requires
float-f-requires c =
    let all = floats_of c.args.from c.args.pool.now.lists in
    next-is_float c.in-Some.entry.now c.next.new.self (drop c.loop-entry.walk.seen all) (sym c.in-Some.ensures.steps ∙ c.loop-entry.invariant.left)

-- the float that came is the next of those that are left
next_is : (c : After-float-f) → IsNextFloat (drop c.loop-entry.walk.seen (floats_of c.args.from c.args.pool.now.lists)) c.float-f.result.now c.next.new.self
next_is c =
    next-float c.in-Some.entry.now c.next.new.self (drop c.loop-entry.walk.seen (floats_of c.args.from c.args.pool.now.lists)) c.float-f.result.now (sym c.in-Some.ensures.steps ∙ c.loop-entry.invariant.left) c.float-f.ensures

pub visit-requires : goal.visit-requires
visit-requires c =
    let all = floats_of c.args.from c.args.pool.now.lists in
    let next = next_is (goal.at.visit-requires c).After-float-f in
    let room = on-way-room c.args.wanted.now c.loop-entry.walk all next.0 c.float-f.result.now _ c.requires.few (sym next.2) c.loop-entry.invariant.way in
    record { room = room.0; height = room.1 }

-- the walk has passed it, and goes on behind it
goes_on : (c : After-visit) → (let all = floats_of c.args.from c.args.pool.now.lists in let v = c.visit.new.self in
    IsNextFloat (drop c.loop-entry.walk.seen all) c.float-f.result.now c.next.new.self → record {
      can_next : Unit {0};
      is_finite : Unit {0};
      left : c.next.new.self ≡ float_entries (drop v.seen all);
      way : IsOnWay v c.args.wanted.now all (company_of_place c.args.wanted.now c.args.place all c.args.f.now);
      classes_left : HasLeft v.failed all;
    })
goes_on c next =
    let all = floats_of c.args.from c.args.pool.now.lists in
    let w = c.loop-entry.walk in
    let v = c.visit.new.self in
    let f = c.float-f.result.now in
    record {
      can_next = tt;
      is_finite = tt;
      left = next.1 ∙ ap float_entries (left-next w v all next.0 f c.visit.ensures.seen (sym next.2));
      way = on-way-next c.args.wanted.now w v all next.0 f c.visit.result _ c.visit.ensures.seen (sym next.2) c.visit.ensures.joins c.visit.ensures.stands c.loop-entry.invariant.way;
      classes_left = c.visit.ensures.left all (has-left all next.0 w.seen f (sym next.2)) c.loop-entry.invariant.classes_left;
    }

pub loop-entry-preserved : goal.loop-entry-preserved
loop-entry-preserved c =
    let at = goal.at.loop-entry-preserved c in
    goes_on at.After-visit (next_is at.After-float-f)

pub loop-entry-preserved-then-had : goal.loop-entry-preserved-then-had
loop-entry-preserved-then-had c =
    let at = goal.at.loop-entry-preserved-then-had c in
    goes_on at.After-visit (next_is at.After-float-f)

pub returns : goal.returns
returns c =
    let all = floats_of c.args.from c.args.pool.now.lists in
    let z = c.args.wanted.now in
    let w = c.loop-entry.walk in
    let way = c.loop-entry.invariant.way in
    let none : [] ≡ drop w.seen all = sym (no-float (drop w.seen all) (sym c.in-None.ensures.steps.0 ∙ c.loop-entry.invariant.left)) in
    let end = on-way-end z w all (company_of_place z c.args.place all c.args.f.now) none way in
    record {
      height = way.stands.height ∙ ap (company_height z.sep) end;
      last = subst (EndsBy w.last) end way.stands.last;
    }

pub is_over-requires : goal.is_over-requires
is_over-requires c =
    let at = goal.at.is_over-requires c in
    let all = floats_of c.args.from c.args.pool.now.lists in
    let next = next_is at.After-float-f in
    let within = within-drop c.loop-entry.walk.seen all next.0 c.float-f.result.now (sym next.2) in
    on-way-within c.args.wanted.now c.visit.new.self all _ c.requires.few (omega (arith, c.visit.ensures.seen, within)) (goes_on at.After-visit next).way

pub returns-then-is_over : goal.returns-then-is_over
returns-then-is_over c =
    let at = goal.at.returns-then-is_over c in
    let all = floats_of c.args.from c.args.pool.now.lists in
    let z = c.args.wanted.now in
    let on = goes_on at.After-visit (next_is at.After-float-f) in
    let least = c.least_height-least.result in
    let fits : FitsSigned w64 least = search rules in
    let low = subst (λ y. AreAtLeast y all) (sym (to_z-of_z w64 least fits)) (c.least_height-least.ensures c.args.from) in
    let ended = has-ended z c.visit.new.self (to_z w64 (of_z w64 least)) all (company_of_place z c.args.place all c.args.f.now) (c.is_over.ensures c.if-is_over.true) on.classes_left low on.way in
    record { height = ended.height; last = ended.last }
