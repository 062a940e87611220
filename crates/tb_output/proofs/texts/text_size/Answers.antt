use Rattle.std.proofs.Common.{◌≡◌, ◌∙◌, sym, subst, ◌-ℤ◌, w64, to_z, of_z, rules, arith}
use Rattle.std.proofs.lemmas.Int.{ints}
use Rattle.tb_pool.specs.Lists.{list_at}
use Rattle.tb_scaled.specs.Amount.{IsAmount}
use Rattle.tb_node.specs.Fit.{IsExtent}
use Rattle.tb_output.proofs.ColumnPages.SizeLemmas.{taken, page-sum, amount-cast, amount-passed}
use Rattle.tb_output.proofs.texts.text_size.Goals as goal
use Rattle.tb_node.proofs.FitLemmas.{extent_small}

pub difference-requires : goal.difference-requires
difference-requires c =
    let e = c.text_extent-extent.result in
    let t = taken (list_at c.args.store.now c.args.text) e.room e.depth c.requires.sized c.requires.few c.text_extent-extent.ensures.room c.text_extent-extent.ensures.depth in
    let whole : to_z w64 (of_z w64 e.room) -ℤ to_z w64 (of_z w64 e.depth) ≡ e.room -ℤ e.depth = λ i. amount-cast e.room t.small i -ℤ amount-cast e.depth (extent_small e.depth t.extent) i in
    let fits = subst IsAmount (sym whole) t.height in
    search (rules, ints, fits.low, fits.high)

pub sum_of-requires-clause-first : goal.sum_of-requires-clause-first
sum_of-requires-clause-first c =
    let e = c.text_extent-extent.result in
    let t = taken (list_at c.args.store.now c.args.text) e.room e.depth c.requires.sized c.requires.few c.text_extent-extent.ensures.room c.text_extent-extent.ensures.depth in
    amount-passed e.room t.small

pub returns-clause-depth : goal.returns-clause-depth
returns-clause-depth c =
    let e = c.text_extent-extent.result in
    let t = taken (list_at c.args.store.now c.args.text) e.room e.depth c.requires.sized c.requires.few c.text_extent-extent.ensures.room c.text_extent-extent.ensures.depth in
    amount-cast e.depth (extent_small e.depth t.extent) ∙ c.text_extent-extent.ensures.depth

pub returns-clause-height : goal.returns-clause-height
returns-clause-height c =
    let e = c.text_extent-extent.result in
    let t = taken (list_at c.args.store.now c.args.text) e.room e.depth c.requires.sized c.requires.few c.text_extent-extent.ensures.room c.text_extent-extent.ensures.depth in
    let whole : to_z w64 (of_z w64 e.room) -ℤ to_z w64 (of_z w64 e.depth) ≡ e.room -ℤ e.depth = λ i. amount-cast e.room t.small i -ℤ amount-cast e.depth (extent_small e.depth t.extent) i in
    let height : c.difference.result ≡ e.room -ℤ e.depth = c.difference.ensures ∙ whole in
    let small : IsAmount c.difference.result = subst IsAmount (sym height) t.height in
    amount-cast c.difference.result small ∙ height ∙ (λ i. c.text_extent-extent.ensures.room i -ℤ sym (amount-cast e.depth (extent_small e.depth t.extent)) i)

pub returns-clause-page : goal.returns-clause-page
returns-clause-page c =
    let e = c.text_extent-extent.result in
    let t = taken (list_at c.args.store.now c.args.text) e.room e.depth c.requires.sized c.requires.few c.text_extent-extent.ensures.room c.text_extent-extent.ensures.depth in
    let whole : to_z w64 (of_z w64 e.room) -ℤ to_z w64 (of_z w64 e.depth) ≡ e.room -ℤ e.depth = λ i. amount-cast e.room t.small i -ℤ amount-cast e.depth (extent_small e.depth t.extent) i in
    let height : c.difference.result ≡ e.room -ℤ e.depth = c.difference.ensures ∙ whole in
    let small : IsAmount c.difference.result = subst IsAmount (sym height) t.height in
    let page = page-sum (list_at c.args.store.now c.args.text) e.room c.notes_height.result c.sum_of.result c.requires.few t.small t.within c.notes_height.ensures.within c.sum_of.ensures in
    let notes = c.notes_height.ensures.value in
    omega (arith, ints, amount-cast c.sum_of.result page.1, page.0, notes, height, amount-cast c.difference.result small, amount-cast e.depth (extent_small e.depth t.extent))

pub returns-clause-small_height : goal.returns-clause-small_height
returns-clause-small_height c =
    let e = c.text_extent-extent.result in
    let t = taken (list_at c.args.store.now c.args.text) e.room e.depth c.requires.sized c.requires.few c.text_extent-extent.ensures.room c.text_extent-extent.ensures.depth in
    let whole : to_z w64 (of_z w64 e.room) -ℤ to_z w64 (of_z w64 e.depth) ≡ e.room -ℤ e.depth = λ i. amount-cast e.room t.small i -ℤ amount-cast e.depth (extent_small e.depth t.extent) i in
    amount-passed c.difference.result (subst IsAmount (sym (c.difference.ensures ∙ whole)) t.height)

pub returns-clause-small_page : goal.returns-clause-small_page
returns-clause-small_page c =
    let e = c.text_extent-extent.result in
    let t = taken (list_at c.args.store.now c.args.text) e.room e.depth c.requires.sized c.requires.few c.text_extent-extent.ensures.room c.text_extent-extent.ensures.depth in
    amount-passed c.sum_of.result (page-sum (list_at c.args.store.now c.args.text) e.room c.notes_height.result c.sum_of.result c.requires.few t.small t.within c.notes_height.ensures.within c.sum_of.ensures).1

pub returns-clause-extent : goal.returns-clause-extent
returns-clause-extent c =
    let e = c.text_extent-extent.result in
    let t = taken (list_at c.args.store.now c.args.text) e.room e.depth c.requires.sized c.requires.few c.text_extent-extent.ensures.room c.text_extent-extent.ensures.depth in
    subst IsExtent (sym (amount-cast e.depth (extent_small e.depth t.extent))) t.extent
