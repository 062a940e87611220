use Rattle.std.proofs.Common.{sym, ◌∙◌, rules}
use Rattle.std.proofs.lemmas.Int.{ints}
use Rattle.tb_builder.specs.Contents.{contents_of}
use Rattle.tb_output.proofs.ColumnPages.SizeLemmas.{amount-cast, alike, unlike}
use Rattle.tb_output.proofs.Firings.ReadingLemmas.{box-fits, box-sum, box-void, box-full, box-none, box-size, room-amount}
use Rattle.tb_output.proofs.reading.box_height.Goals as goal

pub returns-then-is_void : goal.returns-then-is_void
returns-then-is_void c =
    box-void c.args.class.now (contents_of c.args.b.now c.args.store.now).boxes c.requires.sized c.requires.few (sym (c.is_void.ensures c.args.store.now) ∙ c.if-is_void.true)

pub box_size-requires-clause-fits : goal.box_size-requires-clause-fits
box_size-requires-clause-fits c = box-fits c.args.class.now (contents_of c.args.b.now c.args.store.now).boxes c.requires.sized c.requires.few

pub box_size-requires-2-clause-fits : goal.box_size-requires-2-clause-fits
box_size-requires-2-clause-fits c = box-fits c.args.class.now (contents_of c.args.b.now c.args.store.now).boxes c.requires.sized c.requires.few

pub sum-requires : goal.sum-requires
sum-requires c =
    let bs = (contents_of c.args.b.now c.args.store.now).boxes in
    let full = sym (c.is_void.ensures c.args.store.now) ∙ c.if-is_void.false in
    let whole = box-sum c.args.class.now bs c.requires.sized c.requires.few c.requires.skip c.box_size.result c.box_size.ensures in
    let fits = room-amount c.args.class.now bs c.requires.sized c.requires.few c.requires.skip _ (box-full c.args.class.now bs c.requires.sized c.requires.few c.box_size.result _ full (unlike c.args.class.now.number c.if-class.true) c.box_size.ensures whole) in
    search (rules, ints, fits.low, fits.high)

pub returns-then-class : goal.returns-then-class
returns-then-class c =
    let bs = (contents_of c.args.b.now c.args.store.now).boxes in
    let full = sym (c.is_void.ensures c.args.store.now) ∙ c.if-is_void.false in
    let is = box-full c.args.class.now bs c.requires.sized c.requires.few c.box_size.result c.sum.result full (unlike c.args.class.now.number c.if-class.true) c.box_size.ensures
    (c.sum.ensures ∙ box-sum c.args.class.now bs c.requires.sized c.requires.few c.requires.skip c.box_size.result c.box_size.ensures) in
    amount-cast c.sum.result (room-amount c.args.class.now bs c.requires.sized c.requires.few c.requires.skip c.sum.result is) ∙ is

pub returns-then-holds_box : goal.returns-then-holds_box
returns-then-holds_box c =
    let bs = (contents_of c.args.b.now c.args.store.now).boxes in
    let full = sym (c.is_void.ensures c.args.store.now) ∙ c.if-is_void.false in
    box-none c.args.class.now bs c.requires.sized c.requires.few full (alike c.args.class.now.number c.if-class.false) (sym c.holds_box.ensures ∙ c.if-holds_box.true)

pub returns : goal.returns
returns c =
    let bs = (contents_of c.args.b.now c.args.store.now).boxes in
    let full = sym (c.is_void.ensures c.args.store.now) ∙ c.if-is_void.false in
    let is = box-size c.args.class.now bs c.requires.sized c.requires.few c.box_size-2.result full (alike c.args.class.now.number c.if-class.false) (sym c.holds_box.ensures ∙ c.if-holds_box.false) c.box_size-2.ensures in
    amount-cast c.box_size-2.result (room-amount c.args.class.now bs c.requires.sized c.requires.few c.requires.skip c.box_size-2.result is) ∙ is
