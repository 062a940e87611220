use Rattle.std.proofs.Common.{◌≡◌, sym, subst, ap, ◌∙◌, ◌+ℤ◌, ◌-ℤ◌, w64, to_z, of_z, map, arith}
use Rattle.tb_scaled.specs.Amount.{IsAmount}
use Rattle.tb_node.specs.PlainNodes.{shape_of}
use Rattle.tb_node.specs.Sums.{size_of, last_depth}
use Rattle.tb_node.proofs.FitLemmas.{extent_small}
use Rattle.tb_builder.specs.Contents.{contents_of}
use Rattle.tb_output.specs.State.{notes_in}
use Rattle.tb_output.specs.Text.{notes_height}
use Rattle.tb_output.specs.Machine.{MachineView}
use Rattle.tb_column.specs.Column.{standing_notes}
use Rattle.tb_output.specs.Reading.{any_notes}
use Rattle.tb_output.proofs.ColumnPages.SizeLemmas.{amount-cast, within-amount}
use Rattle.tb_output.proofs.Firings.ReadingLemmas.{text, fits-amount, short, text-taken, page-amount, reading-is}
use Rattle.tb_output.proofs.Machine.reading.Goals as goal

pub difference-requires : goal.difference-requires
difference-requires c =
    let e = c.text_extent-text.result in
    let held : c.self.inside.held_page ≡ c.args.self.now.held_page = ap (λ (m : MachineView). m.held_page) c.self.view_is in
    let room : e.room ≡ size_of (map shape_of (text c.args.store.now c.args.self.now.held_page c.args.page.now.body)) = c.text_extent-text.ensures.room ∙ ap (λ q. size_of (map shape_of (text c.args.store.now q c.args.page.now.body))) held in
    let depth : e.depth ≡ last_depth (map shape_of (text c.args.store.now c.args.self.now.held_page c.args.page.now.body)) = c.text_extent-text.ensures.depth ∙ ap (λ q. last_depth (map shape_of (text c.args.store.now q c.args.page.now.body))) held in
    let t = text-taken c.args.store.now c.args.self.now.held_page c.args.page.now.body c.requires.machine.held_page c.requires.page.body (short c.args.store.now c.args.self.now.held_page c.args.page.now.body _ c.requires.page.few) e.room e.depth room depth in
    let whole : to_z w64 (of_z w64 e.room) -ℤ to_z w64 (of_z w64 e.depth) ≡ e.room -ℤ e.depth = λ i. amount-cast e.room t.small i -ℤ amount-cast e.depth (extent_small e.depth t.extent) i in
    fits-amount (to_z w64 (of_z w64 e.room) -ℤ to_z w64 (of_z w64 e.depth)) (subst IsAmount (sym whole) t.height)

pub sum-requires : goal.sum-requires
sum-requires c =
    let e = c.text_extent-text.result in
    let held : c.self.inside.held_page ≡ c.args.self.now.held_page = ap (λ (m : MachineView). m.held_page) c.self.view_is in
    let room : e.room ≡ size_of (map shape_of (text c.args.store.now c.args.self.now.held_page c.args.page.now.body)) = c.text_extent-text.ensures.room ∙ ap (λ q. size_of (map shape_of (text c.args.store.now q c.args.page.now.body))) held in
    let depth : e.depth ≡ last_depth (map shape_of (text c.args.store.now c.args.self.now.held_page c.args.page.now.body)) = c.text_extent-text.ensures.depth ∙ ap (λ q. last_depth (map shape_of (text c.args.store.now q c.args.page.now.body))) held in
    let b = c.boxes_height-notes.result in
    let few = short c.args.store.now c.args.self.now.held_page c.args.page.now.body _ c.requires.page.few in
    let t = text-taken c.args.store.now c.args.self.now.held_page c.args.page.now.body c.requires.machine.held_page c.requires.page.body few e.room e.depth room depth in
    let whole : to_z w64 (of_z w64 e.room) +ℤ to_z w64 (of_z w64 b) ≡ e.room +ℤ b = λ i. amount-cast e.room t.small i +ℤ amount-cast b (within-amount 18014948265590784 b (omega arith) c.boxes_height-notes.ensures.within) i in
    fits-amount (to_z w64 (of_z w64 e.room) +ℤ to_z w64 (of_z w64 b)) (subst IsAmount (sym whole) (page-amount c.args.store.now c.args.self.now.held_page c.args.page.now.body c.requires.machine.held_page c.requires.page.body few e.room e.depth room depth b c.boxes_height-notes.ensures.within))

pub returns : goal.returns
returns c =
    let e = c.text_extent-text.result in
    let held : c.self.inside.held_page ≡ c.args.self.now.held_page = ap (λ (m : MachineView). m.held_page) c.self.view_is in
    let room : e.room ≡ size_of (map shape_of (text c.args.store.now c.args.self.now.held_page c.args.page.now.body)) = c.text_extent-text.ensures.room ∙ ap (λ q. size_of (map shape_of (text c.args.store.now q c.args.page.now.body))) held in
    let depth : e.depth ≡ last_depth (map shape_of (text c.args.store.now c.args.self.now.held_page c.args.page.now.body)) = c.text_extent-text.ensures.depth ∙ ap (λ q. last_depth (map shape_of (text c.args.store.now q c.args.page.now.body))) held in
    let b = c.boxes_height-notes.result in
    let bs = (contents_of c.args.b.now c.args.store.now).boxes in
    let few = short c.args.store.now c.args.self.now.held_page c.args.page.now.body _ c.requires.page.few in
    let t = text-taken c.args.store.now c.args.self.now.held_page c.args.page.now.body c.requires.machine.held_page c.requires.page.body few e.room e.depth room depth in
    let classes : c.as_slice-classes.result.now ≡ c.args.self.now.classes = c.as_slice-classes.ensures ∙ ap (λ (m : MachineView). m.classes) c.self.view_is in
    let height : c.difference.result ≡ e.room -ℤ e.depth = c.difference.ensures ∙ (λ i. amount-cast e.room t.small i -ℤ amount-cast e.depth (extent_small e.depth t.extent) i) in
    let page : c.sum.result ≡ e.room +ℤ b = c.sum.ensures ∙ (λ i. amount-cast e.room t.small i +ℤ amount-cast b (within-amount 18014948265590784 b (omega arith) c.boxes_height-notes.ensures.within) i) in
    let amount = page-amount c.args.store.now c.args.self.now.held_page c.args.page.now.body c.requires.machine.held_page c.requires.page.body few e.room e.depth room depth b c.boxes_height-notes.ensures.within in
    reading-is c.args.store.now c.args.self.now.held_page c.args.page.now.body c.requires.machine.held_page c.requires.page.body few e.room e.depth room depth
    (notes_in c.args.self.now.classes bs) _ b (c.boxes_height-notes.ensures.value ∙ ap (λ cs. notes_height (notes_in cs bs)) classes) c.boxes_height-notes.ensures.within
    (amount-cast c.difference.result (subst IsAmount (sym height) t.height) ∙ height)
    (amount-cast c.sum.result (subst IsAmount (sym page) amount) ∙ page)
    (c.any_boxes.ensures c.args.store.now ∙ ap (λ cs. any_notes (standing_notes (notes_in cs bs))) classes)
