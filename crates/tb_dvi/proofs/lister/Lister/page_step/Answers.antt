use Rattle.std.proofs.Common.{rules, ◌≡◌, ◌∙◌, ap, sym, subst, ◌∷◌, [], ◌++◌, suc, take, drop, FitsSigned, w64, arith}
use Rattle.std.specs.List.{AllByRecursion}
use Rattle.std.proofs.lemmas.Int.{to_z-of_z}
use Rattle.tb_dvi.specs.Machine.{ruled, goes, State, signed_number, past_rule}
use Rattle.tb_dvi.specs.declared.command.Registers.{Registers}
use Rattle.tb_dvi.specs.declared.command.Mode.TheVariants as modes
use Rattle.tb_dvi.specs.Listing.{item_line}
use Rattle.tb_dvi.specs.Lister.{IsBounded}
use Rattle.tb_dvi.proofs.BoundLemmas.{bounded-more, stack-more, more}
use Rattle.tb_dvi.proofs.StepLemmas.{one_line}
use Rattle.tb_dvi.proofs.lister.Lister.page_step.Goals as goal

pub returns-in_ok-put_rule-in-Rule-clause-step : goal.returns-in_ok-put_rule-in-Rule-clause-step
returns-in_ok-put_rule-in-Rule-clause-step c =
    let h : FitsSigned w64 c.args.r.h = search rules in
    let v : FitsSigned w64 c.args.r.v = search rules in
    let w : FitsSigned w64 c.args.r.w = search rules in
    let x : FitsSigned w64 c.args.r.x = search rules in
    let y : FitsSigned w64 c.args.r.y = search rules in
    let z : FitsSigned w64 c.args.r.z = search rules in
    let tall : FitsSigned w64 c.signed_number.result = search rules in
    let wide : FitsSigned w64 c.signed_number-width.result = search rules in
    let height : c.signed_number.result ≡ signed_number (take 4 c.args.args.now) = c.signed_number.ensures.value in
    let width : c.signed_number-width.result ≡ signed_number (take 4 (drop 4 c.args.args.now)) = c.signed_number-width.ensures.value in
    let line : c.put_rule.new.out.items ≡ c.args.self.now.out.items ++ item_line (ruled c.args.r.h c.args.r.v c.signed_number.result c.signed_number-width.result) = simp to_z-of_z at c.in_ok-put_rule-in-Rule.ensures in
    let past : c.past_rule.result ≡ past_rule c.in-Rule.moves c.signed_number-width.result c.args.r = simp to_z-of_z at c.past_rule.ensures.value in
    let page : Registers → State = λ r. record { mode = modes.OnPage r; stack = c.args.self.now.stack; pages = c.args.self.now.pages } in
    rw c.in-Rule.is (record {
      items = ruled c.args.r.h c.args.r.v c.signed_number.result c.signed_number-width.result ∷ [];
      does =
          (λ i. goes 8 (ruled c.args.r.h c.args.r.v (sym height i) (sym width i) ∷ []) (page (past_rule c.in-Rule.moves (sym width i) c.args.r)))
          ∙ ap (λ q. goes 8 (ruled c.args.r.h c.args.r.v c.signed_number.result c.signed_number-width.result ∷ []) (page q)) (sym past);
      listed = one_line (ruled c.args.r.h c.args.r.v c.signed_number.result c.signed_number-width.result) c.args.self.now.out.items c.put_rule.new.out.items line;
    })

pub returns-in_ok-put_rule-in-Rule-clause-bounds : goal.returns-in_ok-put_rule-in-Rule-clause-bounds
returns-in_ok-put_rule-in-Rule-clause-bounds c = record {
  pages = omega (arith, c.requires.bounds.pages);
  mode = c.past_rule.ensures.bounded c.args.place c.requires.page;
  stack = stack-more c.args.place (suc c.args.place) c.args.self.now.stack (omega arith) c.requires.bounds.stack;
}

pub returns-in-Idle-clause-bounds : goal.returns-in-Idle-clause-bounds
returns-in-Idle-clause-bounds c = more c.args.place (suc c.args.place) c.args.self.now (omega arith) c.requires.bounds

pub returns-in_ok-push-in-Pushes-clause-bounds : goal.returns-in_ok-push-in-Pushes-clause-bounds
returns-in_ok-push-in-Pushes-clause-bounds c =
    let all = more c.args.place (suc c.args.place) c.args.self.now (omega arith) c.requires.bounds in
    record {
      pages = all.pages;
      mode = all.mode;
      stack = rw c.in_ok-push-in-Pushes.ensures (bounded-more c.args.place (suc c.args.place) c.args.r (omega arith) c.requires.page, all.stack);
    }

pub returns-in-Some-clause-bounds : goal.returns-in-Some-clause-bounds
returns-in-Some-clause-bounds c =
    let all = more c.args.place (suc c.args.place) c.args.self.now (omega arith) c.requires.bounds in
    let stack : AllByRecursion (IsBounded (suc c.args.place)) (c.in-Some.top ∷ c.pop.new.self) = subst (AllByRecursion (IsBounded (suc c.args.place))) c.in-Some.ensures all.stack in
    record { pages = all.pages; mode = stack.0; stack = stack.1 }

pub returns-in-Moves-clause-bounds : goal.returns-in-Moves-clause-bounds
returns-in-Moves-clause-bounds c = record {
  pages = omega (arith, c.requires.bounds.pages);
  mode = c.moved.ensures.bounded c.args.place c.requires.page;
  stack = stack-more c.args.place (suc c.args.place) c.args.self.now.stack (omega arith) c.requires.bounds.stack;
}

pub returns-in_ok-put_special-in-Special-clause-bounds : goal.returns-in_ok-put_special-in-Special-clause-bounds
returns-in_ok-put_special-in-Special-clause-bounds c =
    let all = more c.args.place (suc c.args.place) c.args.self.now (omega arith) c.requires.bounds in
    record { pages = all.pages; mode = all.mode; stack = all.stack }
