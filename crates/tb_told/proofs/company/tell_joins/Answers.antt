use Rattle.std.proofs.Common.{◌++◌, take, drop, sym, ap, ◌∙◌, append-nil, add-one, arith}
use Rattle.std.proofs.lemmas.List.{length-take-le}
use Rattle.std.proofs.Math.ListN.{drop_of_length-le}
use Rattle.tb_told.specs.ColumnPieces.{in_column, told_choices}
use Rattle.tb_told.proofs.ChoiceLemmas.{there-at}
use Rattle.tb_told.proofs.CompanyLemmas.{next-told}
use Rattle.tb_told.proofs.company.tell_joins.Goals as goal

pub tell_join-requires : goal.tell_join-requires
tell_join-requires c =
    let cs = c.args.company.now in
    let k = c.loop-k.k in
    omega (arith, length-take-le k cs (omega (arith, c.loop-k-test.true)), c.loop-k-test.true, c.requires.few)

pub loop-k-preserved : goal.loop-k-preserved
loop-k-preserved c =
    let z = c.args.wanted.now in
    let cs = c.args.company.now in
    let k = c.loop-k.k in
    let x = c.index-company-k.result in
    let new = c.tell_join.new.pieces.items in
    ap (λ n. new ++ in_column (told_choices z (take n cs) (drop n cs))) (add-one k)
    ∙ next-told z k cs x _ c.loop-k.pieces.items new (there-at cs k x c.loop-k-test.true c.index-company-k.is) c.loop-k.invariant c.in_ok-tell_join.ensures

pub returns : goal.returns
returns c =
    let z = c.args.wanted.now in
    let cs = c.args.company.now in
    let k = c.loop-k.k in
    let pieces = c.loop-k.pieces.items in
    sym (append-nil pieces) ∙ sym (ap (λ ds. pieces ++ in_column (told_choices z (take k cs) ds)) (drop_of_length-le cs c.loop-k-test.false)) ∙ c.loop-k.invariant
