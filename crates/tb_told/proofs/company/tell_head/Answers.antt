use Rattle.std.proofs.Common.{◌≡◌, ◌+◌, ◌++◌, suc, length, take, drop, sym, ap, ◌∙◌, arith}
use Rattle.std.proofs.lemmas.Option.{slice_get_within}
use Rattle.tb_float.specs.Lists.{floats_of}
use Rattle.tb_told.specs.ColumnTold.{made_told}
use Rattle.tb_told.specs.ColumnPieces.{in_column, told_choices, taken_told}
use Rattle.tb_told.proofs.ChoiceLemmas.{company-length, place-is}
use Rattle.tb_told.proofs.CompanyLemmas.{unmade-told, made-is-told}
use Rattle.tb_told.proofs.company.tell_head.Goals as goal

pub made_of-made-requires : goal.made_of-made-requires
made_of-made-requires c =
    let all = floats_of c.args.from c.args.pool.now.lists in
    let many : length c.deref.result.now ≡ length all = ap length (c.deref.ensures.value ∙ c.in_ok-company.ensures) ∙ company-length c.args.wanted.now all c.args.place c.args.f.now c.requires.there in
    omega (arith, many, c.requires.few)

pub tell_joins-requires : goal.tell_joins-requires
tell_joins-requires c =
    let all = floats_of c.args.from c.args.pool.now.lists in
    let many : length c.deref-2.result.now ≡ length all = ap length (c.deref-2.ensures.value ∙ c.in_ok-company.ensures) ∙ company-length c.args.wanted.now all c.args.place c.args.f.now c.requires.there in
    record { few = omega (arith, many, c.requires.few); within = omega (arith, many, slice_get_within all c.args.place c.args.f.now c.requires.there) }

pub returns-then-is_some : goal.returns-then-is_some
returns-then-is_some c = λ later.
    let all = floats_of c.args.from c.args.pool.now.lists in
    unmade-told c.args.wanted.now (take c.args.place all) c.args.f.now (drop (suc c.args.place) all) later c.args.pieces.now.items c.tell.new.pieces.items c.deref.result.now c.made_of-made.result
    (c.deref.ensures.value ∙ c.in_ok-company.ensures) c.made_of-made.ensures (sym c.is_some.ensures ∙ c.if-is_some.true) c.in_ok-tell.ensures

pub returns : goal.returns
returns c = λ later.
    let all = floats_of c.args.from c.args.pool.now.lists in
    let z = c.args.wanted.now in
    let k = c.args.place + 1 in
    let cs = c.in_ok-company.company.items in
    let old = c.args.pieces.now.items in
    let two = c.tell-2.new.pieces.items in
    made-is-told z (take c.args.place all) c.args.f.now (drop (suc c.args.place) all) later old c.tell_joins.new.pieces.items two c.tell_taken.new.pieces.items cs c.made_of-made.result k
    c.in_ok-company.ensures (ap (λ n. n + 1) (sym (place-is all c.args.place c.args.f.now c.requires.there))) (c.made_of-made.ensures ∙ ap (made_told z) c.deref.ensures.value) (sym c.is_some.ensures ∙ c.if-is_some.false)
    (c.in_ok-tell_joins.ensures ∙ ap (λ ds. old ++ in_column (told_choices z (take k ds) (drop k ds))) c.deref-2.ensures.value) c.in_ok-tell-2.ensures
    (c.in_ok-tell_taken.ensures ∙ ap (λ ds. two ++ in_column (taken_told ds)) c.deref-3.ensures.value)
