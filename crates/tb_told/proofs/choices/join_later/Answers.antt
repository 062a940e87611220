use Rattle.std.proofs.Common.{◌≡◌, Bool, List, ◌++◌, ◌∷◌, [], length, drop, refl, sym, ap, ◌∙◌, arith}
use Rattle.std.proofs.lemmas.List.{length-append}
use Rattle.tb_float.specs.Lists.{floats_of}
use Rattle.tb_float.proofs.EntryLemmas.{next-is_float, drop-entries}
use Rattle.tb_float.proofs.WaitingLemmas.{waiting-entries}
use Rattle.tb_fpage.specs.Company.{Choice, choices_from, joins}
use Rattle.tb_fpage.proofs.WalkLemmas.{next-float, no-float}
use Rattle.tb_told.proofs.choices.join_later.Goals as goal

pub loop-entry-init : goal.loop-entry-init
loop-entry-init c =
    let l = c.args.pool.now.lists in
    record {
      can_next = tt;
      is_finite = tt;
      way = (drop c.args.place (floats_of c.args.from l), c.into_iter-entry-iterator.ensures.into_iter_gives ∙ c.entries_from-entry-items.ensures ∙ ap (drop c.args.place) (waiting-entries c.args.from c.requires.waiting l) ∙ drop-entries c.args.place (floats_of c.args.from l), refl, c.requires.few);
    }

pub float-f-requires : goal.float-f-requires
float-f-requires c =
    let way = c.loop-entry.invariant.way in
    next-is_float c.in-Some.entry.now c.next.new.self way.0 (sym c.in-Some.ensures.steps ∙ way.1)

pub joins-chosen-requires : goal.joins-chosen-requires
joins-chosen-requires c =
    let way = c.loop-entry.invariant.way in
    omega (arith, ap length c.deref.ensures.value, way.3)

pub loop-entry-preserved : goal.loop-entry-preserved
loop-entry-preserved c =
    let way = c.loop-entry.invariant.way in
    let z = c.args.wanted.now in
    let old = c.loop-entry.choices.items in
    let f = c.float-f.result.now in
    let next = next-float c.in-Some.entry.now c.next.new.self way.0 f (sym c.in-Some.ensures.steps ∙ way.1) c.float-f.ensures in
    let more : Bool → List Choice = λ b. record { float = f; chosen = b } ∷ [] in
    let decided : c.joins-chosen.result ≡ joins z old f = c.joins-chosen.ensures ∙ ap (λ ds. joins z ds f) c.deref.ensures.value in
    let items : c.push.new.self.items ≡ old ++ more (joins z old f) = c.in_ok-push.ensures.items ∙ ap (λ b. old ++ more b) decided in
    record {
      can_next = tt;
      is_finite = tt;
      way = (next.0, next.1, ap (λ ds. choices_from z ds next.0) items ∙ ap (choices_from z old) (sym next.2) ∙ way.2, omega (arith, way.3, ap length next.2, ap length items, length-append old (more (joins z old f))));
    }

pub returns : goal.returns
returns c =
    let way = c.loop-entry.invariant.way in
    ap (choices_from c.args.wanted.now c.loop-entry.choices.items) (sym (no-float way.0 (sym c.in-None.ensures.steps.0 ∙ way.1))) ∙ way.2
