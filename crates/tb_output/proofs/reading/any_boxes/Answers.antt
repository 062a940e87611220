use Rattle.std.proofs.Common.{◌≡◌, refl, ◌+◌, ◌<◌, sym, ap, ◌∙◌, List, [], ◌∷◌, length, drop, drop-cons, get_or, add-one, arith}
use Rattle.std.specs.Prelude.{◌||◌}
use Rattle.std.proofs.lemmas.List.{at_drop_all}
use Rattle.tb_insert.specs.declared.Class.{Class}
use Rattle.tb_builder.specs.Contents.{contents_of}
use Rattle.tb_builder.specs.Ownership.{has_class}
use Rattle.tb_column.specs.Column.{standing_notes}
use Rattle.tb_output.specs.State.{notes_in}
use Rattle.tb_output.specs.Reading.{any_notes}
use Rattle.tb_output.proofs.Firings.VoidBoxes.{known-at}
use Rattle.tb_output.proofs.Firings.ReadingLemmas.{past, any-split}
use Rattle.tb_output.proofs.reading.any_boxes.Goals as goal

pub loop-class-init : goal.loop-class-init
loop-class-init c = λ s. refl

pub holds_standing-requires : goal.holds_standing-requires
holds_standing-requires c =
    let cs = c.args.classes.now in
    let k = c.loop-class.class-index in
    let n = get_or cs k past in
    let lt : k < length cs = omega arith in
    ap (λ xs. has_class xs n.number) c.requires ∙ known-at cs k past lt

pub loop-class-preserved : goal.loop-class-preserved
loop-class-preserved c =
    let cs = c.args.classes.now in
    let k = c.loop-class.class-index in
    let n = get_or cs k past in
    let lt : k < length cs = omega arith in
    let left : drop k cs ≡ n ∷ drop (k + 1) cs = drop-cons cs k past lt ∙ (λ i. n ∷ drop (sym (add-one k) i) cs) in
    λ s.
    let bs = (contents_of c.args.b.now s).boxes in
    let rest = any_notes (standing_notes (notes_in (drop (k + 1) cs) bs)) in
    ap (λ b. b || rest) (sym (sym (c.holds_standing.ensures s) ∙ c.if-holds_standing.false)) ∙ sym (any-split n (drop (k + 1) cs) bs)
    ∙ sym (ap (λ xs. any_notes (standing_notes (notes_in xs bs))) left) ∙ c.loop-class.invariant s

pub returns-then-holds_standing : goal.returns-then-holds_standing
returns-then-holds_standing c =
    let cs = c.args.classes.now in
    let k = c.loop-class.class-index in
    let n = get_or cs k past in
    let lt : k < length cs = omega arith in
    let left : drop k cs ≡ n ∷ drop (k + 1) cs = drop-cons cs k past lt ∙ (λ i. n ∷ drop (sym (add-one k) i) cs) in
    λ s.
    let bs = (contents_of c.args.b.now s).boxes in
    let rest = any_notes (standing_notes (notes_in (drop (k + 1) cs) bs)) in
    ap (λ b. b || rest) (sym (sym (c.holds_standing.ensures s) ∙ c.if-holds_standing.true)) ∙ sym (any-split n (drop (k + 1) cs) bs)
    ∙ sym (ap (λ xs. any_notes (standing_notes (notes_in xs bs))) left) ∙ c.loop-class.invariant s

pub returns : goal.returns
returns c =
    let cs = c.args.classes.now in
    let none : drop c.loop-class.class-index cs ≡ [] = at_drop_all (λ (xs : List Class). xs) cs c.loop-class.class-index c.loop-class-test.false in
    λ s. sym (ap (λ xs. any_notes (standing_notes (notes_in xs (contents_of c.args.b.now s).boxes))) none) ∙ c.loop-class.invariant s
