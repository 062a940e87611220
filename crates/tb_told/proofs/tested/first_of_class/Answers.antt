use Rattle.std.proofs.Common.{◌≡◌, ◌≢◌, ℕ, zero, suc, ◌-◌, List, [], ◌∷◌, take, Some, sym, ap, ◌∙◌, arith}
use Rattle.std.specs.Prelude.{Option, if◌then◌else◌}
use Rattle.std.proofs.lemmas.Bool.{eq-eqb, ne_eqb}
use Rattle.tb_node.specs.declared.Float.{Float}
use Rattle.tb_float.specs.declared.Entry.{Entry}
use Rattle.tb_float.specs.declared.Entry.TheVariants as entries
use Rattle.tb_float.specs.Lists.{float_entries, floats_of}
use Rattle.tb_float.proofs.EntryLemmas.{next-is_float}
use Rattle.tb_told.specs.Tested.{first_of_class}
use Rattle.tb_told.proofs.TestedLemmas.{take_whole}
use Rattle.tb_told.proofs.tested.first_of_class.Goals.{After-float-f}
use Rattle.tb_told.proofs.tested.first_of_class.Goals as goal

-- the float that comes is the next one, and the others come behind it
next-is : (e : Entry) (es : List Entry) (fs : List Float) (f : Float) → e ∷ es ≡ float_entries fs → e ≡ entries.Float f → (gs : List Float) × (fs ≡ f ∷ gs) × (es ≡ float_entries gs)
next-is e es [] f is it = cc
next-is e es (g ∷ gs) f is it = (gs, cc, cc)

-- a float of the class is the first one
found : (k n : ℕ) (x : Option Float) (f : Float) (fs gs : List Float) → fs ≡ f ∷ gs → n ≢ 0 → f.class ≡ k → x ≡ first_of_class k (take n fs) → Some f ≡ x
found k zero x f fs gs next some e h = absurd (omega arith)
found k (suc n) x f fs gs next some e h =
    sym (h ∙ ap (λ xs. first_of_class k (take (suc n) xs)) next ∙ ap (λ b. if b then Some f else first_of_class k (take n gs)) (eq-eqb f.class k e))

-- one of another class is passed
passed : (k n : ℕ) (x : Option Float) (f : Float) (fs gs : List Float) → fs ≡ f ∷ gs → n ≢ 0 → f.class ≢ k → x ≡ first_of_class k (take n fs) → x ≡ first_of_class k (take (n - 1) gs)
passed k zero x f fs gs next some e h = absurd (omega arith)
passed k (suc n) x f fs gs next some e h =
    let one : n ≡ suc n - 1 = omega arith in
    h ∙ ap (λ xs. first_of_class k (take (suc n) xs)) next ∙ ap (λ b. if b then Some f else first_of_class k (take n gs)) (ne_eqb f.class k e)
    ∙ ap (λ m. first_of_class k (take m gs)) one

pub float-f-requires : goal.float-f-requires
float-f-requires c =
    let way = c.loop-entry.invariant.way in
    next-is_float c.in-Some.entry.now c.next.new.self way.0 (sym c.in-Some.ensures.steps ∙ way.1)

next-here : (c : After-float-f) → (gs : List Float) × (c.loop-entry.invariant.way.0 ≡ c.float-f.result.now ∷ gs) × (c.next.new.self ≡ float_entries gs)
next-here c =
    let way = c.loop-entry.invariant.way in
    next-is c.in-Some.entry.now c.next.new.self way.0 c.float-f.result.now (sym c.in-Some.ensures.steps ∙ way.1) c.float-f.ensures

pub returns-then-f-class-clause-first : goal.returns-then-f-class-clause-first
returns-then-f-class-clause-first c =
    let next = next-here (goal.at.returns-then-f-class-clause-first c).After-float-f in
    found c.args.class c.loop-entry.left _ c.float-f.result.now c.loop-entry.invariant.way.0 next.0 next.1 c.if-left-eq0.false c.if-f-class.true c.loop-entry.invariant.way.2

pub returns-then-f-class-clause-all : goal.returns-then-f-class-clause-all
returns-then-f-class-clause-all c = λ whole.
    let next = next-here (goal.at.returns-then-f-class-clause-all c).After-float-f in
    found c.args.class c.loop-entry.left _ c.float-f.result.now c.loop-entry.invariant.way.0 next.0 next.1 c.if-left-eq0.false c.if-f-class.true c.loop-entry.invariant.way.2
    ∙ ap (λ fs. first_of_class c.args.class fs) (take_whole c.args.count (floats_of c.args.part c.args.pool.now.lists) whole)

pub loop-entry-preserved : goal.loop-entry-preserved
loop-entry-preserved c =
    let next = next-here (goal.at.loop-entry-preserved c).After-float-f in
    record {
      can_next = tt;
      is_finite = tt;
      way = (next.0, next.2, passed c.args.class c.loop-entry.left _ c.float-f.result.now c.loop-entry.invariant.way.0 next.0 next.1 c.if-left-eq0.false c.if-f-class.false c.loop-entry.invariant.way.2);
    }
