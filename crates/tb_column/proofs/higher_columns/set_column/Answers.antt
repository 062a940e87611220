use Rattle.std.proofs.Common.{◌≡◌, sym, ap, subst, ◌∙◌, ℤ, pos, ◌+ℤ◌, List, map, FitsSigned, w64, rules}
use Rattle.std.specs.Prelude.{◌-ℤ◌}
use Rattle.std.proofs.lemmas.Int.{to_z-of_z}
use Rattle.tb_node.specs.declared.Node.{Node}
use Rattle.tb_node.specs.declared.Sums.{Sums}
use Rattle.tb_node.specs.PlainNodes.{shape_of}
use Rattle.tb_node.specs.Sums.{sums_of}
use Rattle.tb_pack.specs.Pack.{packed}
use Rattle.tb_pack.specs.SetSums.{IsDifference}
use Rattle.tb_column.specs.declared.Enlarged.{Enlarged}
use Rattle.tb_column.specs.declared.Enlarged.TheVariants as enlarged
use Rattle.tb_column.specs.Column.{higher_by}
use Rattle.tb_column.specs.Ranges.{IsEnlarged}
use Rattle.tb_column.specs.TextColumns.{ended_list, packed_list}
use Rattle.tb_column.proofs.HigherLemmas.{shrunk-sums, shrunk-excess, no-higher}
use Rattle.tb_column.proofs.higher_columns.set_column.Goals.{After-with_total-whole}
use Rattle.tb_column.proofs.higher_columns.set_column.Goals as goal

-- the total of a column whose contents are shrunk
total_is : (c : After-with_total-whole) → c.with_total-whole.result ≡ (let s : Sums = c.args.sums.now in record s { total = c.args.height +ℤ c.args.p.now.textbottom.width +ℤ c.in-Shrunk.shrink })
total_is c =
    let height : FitsSigned w64 c.args.height = c.ranges.height in
    let bottom : FitsSigned w64 c.args.p.now.textbottom.width = search rules in
    let shrink : FitsSigned w64 c.in-Shrunk.shrink = search rules in
    let total : FitsSigned w64 c.shrunk_total-total.result = search rules in
    let made = simp to_z-of_z at c.with_total-whole.ensures in
    let sum = simp to_z-of_z at c.shrunk_total-total.ensures in
    made ∙ ap (λ (z : ℤ). (let s : Sums = c.args.sums.now in record s { total = z })) sum

pub pack_wide-requires-clause-excess : goal.pack_wide-requires-clause-excess
pack_wide-requires-clause-excess c =
    let w = (goal.at.pack_wide-requires-clause-excess c).After-with_total-whole in
    let height : FitsSigned w64 c.args.height = c.ranges.height in
    let fits = subst IsEnlarged c.in-Shrunk.is c.requires.enlarged in
    simp to_z-of_z (subst (λ (t : ℤ). IsDifference (c.args.height -ℤ t)) (sym (ap (λ (s : Sums). s.total) (total_is w))) (shrunk-excess c.args.height c.args.p.now.textbottom.width c.in-Shrunk.shrink c.requires.params.textbottom.width fits))

pub returns-in-No : goal.returns-in-No
returns-in-No c = λ ns e.
    let height : FitsSigned w64 c.args.height = c.ranges.height in
    let shapes = map shape_of (ended_list c.args.p.now ns) in
    let value = c.pack_sums.ensures.value c.args.p.now.maxdepth shapes e in
    let set = simp to_z-of_z at value in
    set ∙ ap (λ (h : ℤ). packed h c.args.p.now.maxdepth shapes) (no-higher c.args.height)
    ∙ ap (λ (x : Enlarged). packed (c.args.height +ℤ higher_by x) c.args.p.now.maxdepth (map shape_of (packed_list c.args.p.now c.args.height x ns))) (sym c.in-No.is)

pub returns-in-By : goal.returns-in-By
returns-in-By c = λ ns e.
    let height : FitsSigned w64 c.args.height = c.ranges.height in
    let by : FitsSigned w64 c.in-By.by = search rules in
    let higher : FitsSigned w64 c.higher.result = search rules in
    let shapes = map shape_of (ended_list c.args.p.now ns) in
    let value = c.pack_sums-in-By.ensures.value c.args.p.now.maxdepth shapes e in
    let set = simp to_z-of_z at value in
    let sum = simp to_z-of_z at c.higher.ensures.value in
    set ∙ ap (λ (h : ℤ). packed h c.args.p.now.maxdepth shapes) sum
    ∙ ap (λ (x : Enlarged). packed (c.args.height +ℤ higher_by x) c.args.p.now.maxdepth (map shape_of (packed_list c.args.p.now c.args.height x ns))) (sym c.in-By.is)

pub returns-in-Shrunk : goal.returns-in-Shrunk
returns-in-Shrunk c = λ ns e.
    let w = (goal.at.returns-in-Shrunk c).After-with_total-whole in
    let height : FitsSigned w64 c.args.height = c.ranges.height in
    let z : ℤ = c.args.height +ℤ c.args.p.now.textbottom.width +ℤ c.in-Shrunk.shrink in
    let shapes = map shape_of (packed_list c.args.p.now c.args.height (enlarged.Shrunk c.in-Shrunk.shrink) ns) in
    let sums : c.with_total-whole.result ≡ sums_of c.args.p.now.maxdepth shapes =
    total_is w ∙ ap (λ (s : Sums). record s { total = z }) e ∙ sym (shrunk-sums c.args.p.now c.requires.params.maxdepth.low ns c.args.height c.in-Shrunk.shrink) in
    let value = c.pack_wide.ensures.value c.args.p.now.maxdepth shapes sums in
    let set = simp to_z-of_z at value in
    set ∙ ap (λ (h : ℤ). packed h c.args.p.now.maxdepth shapes) (no-higher c.args.height)
    ∙ ap (λ (x : Enlarged). packed (c.args.height +ℤ higher_by x) c.args.p.now.maxdepth (map shape_of (packed_list c.args.p.now c.args.height x ns))) (sym c.in-Shrunk.is)
