use Rattle.std.proofs.Common.{◌≡◌, true, drop, take, suc, sym, subst, refl, FitsSigned, w64, arith, rules}
use Rattle.std.proofs.lemmas.Int.{ints}
use Rattle.tb_float.proofs.HasLemmas.{has-there}
use Rattle.tb_float.specs.Lists.{floats_of}
use Rattle.tb_fpage.specs.declared.walk.Walk.{Walk}
use Rattle.tb_fpage.specs.Walk.{IsAfterHead, is_made_at}
use Rattle.tb_fpage.proofs.CompanyLemmas.{tried-head, tried-ends}
use Rattle.tb_fpage.proofs.FirstHeads.{AreFirstsTried, firsts-start, first-tried, first-there, first-within, first-passed, firsts-end}
use Rattle.tb_fpage.proofs.companies.try_firsts.Goals as goal

pub loop-first-init : goal.loop-first-init
loop-first-init c =
    let all = floats_of c.args.from c.args.pool.now.lists in
    record {
      tried = subst (AreFirstsTried c.args.wanted.now c.no_classes-earlier.result all) (sym c.requires.firsts) (firsts-start c.args.wanted.now c.no_classes-earlier.result all c.no_classes-earlier.ensures.classes);
      left = c.no_classes-earlier.ensures.left c.args.from;
    }

pub made_at-requires-clause-there : goal.made_at-requires-clause-there
made_at-requires-clause-there c =
    first-there c.args.wanted.now c.loop-first.earlier (floats_of c.args.from c.args.pool.now.lists) c.args.firsts.now c.loop-first.first-index c.first-item.result (omega arith) c.first-item.is c.loop-first.invariant.tried

pub made_at-requires-clause-classes : goal.made_at-requires-clause-classes
made_at-requires-clause-classes c =
    let tried = first-tried c.args.wanted.now c.loop-first.earlier (floats_of c.args.from c.args.pool.now.lists) c.args.firsts.now c.loop-first.first-index c.first-item.result (omega arith) c.first-item.is c.loop-first.invariant.tried in
    tried.classes

pub after_head-requires : goal.after_head-requires
after_head-requires c =
    let within = first-within c.args.wanted.now c.loop-first.earlier (floats_of c.args.from c.args.pool.now.lists) c.args.firsts.now c.loop-first.first-index c.first-item.result (omega arith) c.first-item.is c.loop-first.invariant.tried in
    omega (arith, within, c.requires.few)

pub returns-in-Some : goal.returns-in-Some
returns-in-Some c =
    let z = c.args.wanted.now in
    let x = c.first-item.result in
    let all = floats_of c.args.from c.args.pool.now.lists in
    let tried = first-tried z c.loop-first.earlier all c.args.firsts.now c.loop-first.first-index x (omega arith) c.first-item.is c.loop-first.invariant.tried in
    let made : is_made_at z x.place all x.float ≡ true = c.in-Some.ensures.made in
    let fits : FitsSigned w64 x.float.height = search rules in
    record {
      made = subst (λ (w : Walk). IsAfterHead w z all) (sym c.after_head.ensures) (tried-head z c.loop-first.earlier x.place all (drop (suc x.place) all) x.float _ tried made (omega (arith, ints)) fits);
      last = tried-ends z c.loop-first.earlier x.place all (drop (suc x.place) all) x.float c.in-Some.last tried made c.in-Some.ensures.last;
      none = tt;
    }

pub loop-first-preserved : goal.loop-first-preserved
loop-first-preserved c =
    let z = c.args.wanted.now in
    let x = c.first-item.result in
    let all = floats_of c.args.from c.args.pool.now.lists in
    let firsts = c.args.firsts.now in
    let i = c.loop-first.first-index in
    let earlier = c.loop-first.earlier in
    let t = c.loop-first.invariant.tried in
    let tried = first-tried z earlier all firsts i x (omega arith) c.first-item.is t in
    record {
      tried = first-passed z earlier all firsts i x (omega arith) c.first-item.is t c.add.new.self c.in_default.ensures.none (c.add.ensures.classes (take x.place all) x.float refl tried.classes);
      left = c.add.ensures.left all (has-there all x.place x.float (first-there z earlier all firsts i x (omega arith) c.first-item.is t)) c.loop-first.invariant.left;
    }

pub returns-clause-none : goal.returns-clause-none
returns-clause-none c = firsts-end c.args.wanted.now c.loop-first.earlier (floats_of c.args.from c.args.pool.now.lists) c.args.firsts.now c.loop-first.first-index c.loop-first-test.false c.loop-first.invariant.tried
