use Rattle.std.proofs.Common.{◌≡◌, ◌+◌, ◌<◌, ◌+ℤ◌, sym, subst, ap, ◌∙◌, List, [], ◌∷◌, length, drop, drop-cons, get_or, add-one, w64, to_z, of_z, rules, arith}
use Rattle.std.proofs.lemmas.Int.{ints}
use Rattle.std.proofs.lemmas.List.{at_drop_all}
use Rattle.tb_insert.specs.declared.Class.{Class}
use Rattle.tb_builder.specs.Contents.{contents_of}
use Rattle.tb_builder.specs.Ownership.{has_class}
use Rattle.tb_builder.specs.SizedContents.{AreBoxesOf}
use Rattle.tb_builder.proofs.Ownership.StoreSized.{boxes_of}
use Rattle.tb_output.proofs.ColumnPages.SizeLemmas.{amount-cast}
use Rattle.tb_output.proofs.Firings.VoidBoxes.{known-at}
use Rattle.tb_output.proofs.Firings.ReadingLemmas.{past, IsReadSoFar, read-begun, read-next, read-amount, read-all, room-amount}
use Rattle.tb_output.proofs.reading.boxes_height.Goals as goal

pub loop-class-init : goal.loop-class-init
loop-class-init c =
    let bs = (contents_of c.args.b.now c.args.store.now).boxes in
    read-begun c.args.classes.now bs c.requires.classes (subst (λ cs. AreBoxesOf cs bs) c.requires.known (boxes_of c.args.store.now c.args.b.now.boxes)) c.requires.few

pub box_height-requires-clause-known : goal.box_height-requires-clause-known
box_height-requires-clause-known c =
    let cs = c.args.classes.now in
    let k = c.loop-class.class-index in
    let n = get_or cs k past in
    let lt : k < length cs = omega arith in
    ap (λ xs. has_class xs n.number) c.requires.known ∙ known-at cs k past lt

pub box_height-requires-clause-skip : goal.box_height-requires-clause-skip
box_height-requires-clause-skip c =
    let cs = c.args.classes.now in
    let bs = (contents_of c.args.b.now c.args.store.now).boxes in
    let k = c.loop-class.class-index in
    let n = get_or cs k past in
    let lt : k < length cs = omega arith in
    let left : drop k cs ≡ n ∷ drop (k + 1) cs = drop-cons cs k past lt ∙ (λ i. n ∷ drop (sym (add-one k) i) cs) in
    let height = to_z w64 c.loop-class.height-bits in
    let so : IsReadSoFar cs (n ∷ drop (k + 1) cs) bs k height = subst (λ xs. IsReadSoFar cs xs bs k height) left c.loop-class.invariant in
    so.rising.1

pub sum-height-requires : goal.sum-height-requires
sum-height-requires c =
    let cs = c.args.classes.now in
    let bs = (contents_of c.args.b.now c.args.store.now).boxes in
    let k = c.loop-class.class-index in
    let n = get_or cs k past in
    let lt : k < length cs = omega arith in
    let left : drop k cs ≡ n ∷ drop (k + 1) cs = drop-cons cs k past lt ∙ (λ i. n ∷ drop (sym (add-one k) i) cs) in
    let height = to_z w64 c.loop-class.height-bits in
    let so : IsReadSoFar cs (n ∷ drop (k + 1) cs) bs k height = subst (λ xs. IsReadSoFar cs xs bs k height) left c.loop-class.invariant in
    let room = c.box_height.result in
    let small = room-amount n bs c.requires.sized c.requires.few so.rising.1 room c.box_height.ensures in
    let next = read-next cs (drop (k + 1) cs) bs k n height room c.requires.sized (omega arith) c.box_height.ensures so in
    let whole : height +ℤ to_z w64 (of_z w64 room) ≡ height +ℤ room = ap (λ z. height +ℤ z) (amount-cast room small) in
    let fits = read-amount cs (drop (k + 1) cs) bs (k + 1) _ (subst (IsReadSoFar cs (drop (k + 1) cs) bs (k + 1)) (sym whole) next) in
    search (rules, ints, fits.low, fits.high)

pub loop-class-preserved : goal.loop-class-preserved
loop-class-preserved c =
    let cs = c.args.classes.now in
    let bs = (contents_of c.args.b.now c.args.store.now).boxes in
    let k = c.loop-class.class-index in
    let n = get_or cs k past in
    let lt : k < length cs = omega arith in
    let left : drop k cs ≡ n ∷ drop (k + 1) cs = drop-cons cs k past lt ∙ (λ i. n ∷ drop (sym (add-one k) i) cs) in
    let height = to_z w64 c.loop-class.height-bits in
    let so : IsReadSoFar cs (n ∷ drop (k + 1) cs) bs k height = subst (λ xs. IsReadSoFar cs xs bs k height) left c.loop-class.invariant in
    let room = c.box_height.result in
    let small = room-amount n bs c.requires.sized c.requires.few so.rising.1 room c.box_height.ensures in
    let next = read-next cs (drop (k + 1) cs) bs k n height room c.requires.sized (omega arith) c.box_height.ensures so in
    let now_is : c.sum-height.result ≡ height +ℤ room = c.sum-height.ensures ∙ ap (λ z. height +ℤ z) (amount-cast room small) in
    let kept : to_z w64 (of_z w64 c.sum-height.result) ≡ height +ℤ room = ap (λ z. to_z w64 (of_z w64 z)) now_is ∙ amount-cast (height +ℤ room) (read-amount cs (drop (k + 1) cs) bs (k + 1) (height +ℤ room) next) in
    subst (IsReadSoFar cs (drop (k + 1) cs) bs (k + 1)) (sym kept) next

pub returns-clause-value : goal.returns-clause-value
returns-clause-value c =
    let cs = c.args.classes.now in
    let bs = (contents_of c.args.b.now c.args.store.now).boxes in
    let height = to_z w64 c.loop-class.height-bits in
    let none : drop c.loop-class.class-index cs ≡ [] = at_drop_all (λ (xs : List Class). xs) cs c.loop-class.class-index c.loop-class-test.false in
    (read-all cs bs c.loop-class.class-index height (subst (λ xs. IsReadSoFar cs xs bs c.loop-class.class-index height) none c.loop-class.invariant)).0

pub returns-clause-within : goal.returns-clause-within
returns-clause-within c =
    let cs = c.args.classes.now in
    let bs = (contents_of c.args.b.now c.args.store.now).boxes in
    let height = to_z w64 c.loop-class.height-bits in
    let none : drop c.loop-class.class-index cs ≡ [] = at_drop_all (λ (xs : List Class). xs) cs c.loop-class.class-index c.loop-class-test.false in
    (read-all cs bs c.loop-class.class-index height (subst (λ xs. IsReadSoFar cs xs bs c.loop-class.class-index height) none c.loop-class.invariant)).1
