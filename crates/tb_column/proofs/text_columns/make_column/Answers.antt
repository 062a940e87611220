use Rattle.std.proofs.Common.{◌≡◌, ◌≢◌, ◌∙◌, rules, ap, sym, subst, map, List, pos, FitsSigned, w64}
use Rattle.std.proofs.lemmas.Int.{to_z-of_z}
use Rattle.tb_node.specs.declared.Node.{Node}
use Rattle.tb_node.specs.PlainNodes.{shape_of}
use Rattle.tb_node.specs.Sums.{sums_of}
use Rattle.tb_pack.specs.declared.Set.{Set}
use Rattle.tb_pack.specs.Pack.{packed}
use Rattle.tb_pack.proofs.PackLemmas.{packed-divisor}
use Rattle.std.specs.Prelude.{◌+ℤ◌}
use Rattle.tb_column.specs.Column.{higher_by}
use Rattle.tb_column.specs.TextColumns.{text_list, ended_list, packed_list}
use Rattle.tb_column.proofs.ShownLemmas.{column-made}
use Rattle.tb_column.proofs.GatherLemmas.{column_list-made, column-joined, joined-frame}
use Rattle.tb_column.proofs.text_columns.make_column.Goals as goal

-- the text with all that is about it
abbrev text_is : (c : goal.After-set_column) → List Node
text_is c = text_list c.args.p.now c.args.pool.now.lists c.args.store.now c.args.body c.args.notes.now

-- the set of the column
set_is : (c : goal.After-set_column) → c.set_column.result ≡ packed (c.column_height-height.result +ℤ higher_by c.args.enlarged.now) c.args.p.now.maxdepth (map shape_of (packed_list c.args.p.now c.column_height-height.result c.args.enlarged.now (text_is c)))
set_is c =
    let height : FitsSigned w64 c.column_height-height.result = search rules in
    let sums = c.end_text-sums.ensures.sums ∙ ap (λ (ms : List Node). sums_of c.args.p.now.maxdepth (map shape_of (ended_list c.args.p.now ms))) c.in_ok-gather.ensures.text in
    let value = c.set_column.ensures (text_is c) sums in
    simp to_z-of_z at value

pub returns-clause-column : goal.returns-clause-column
returns-clause-column c =
    let list = column_list-made c.args.store.now c.gather.new.store c.end_text-sums.new.store c.args.p.now c.args.pool.now.lists c.args.body c.args.notes.now c.in_ok-gather.ensures.text c.end_text-sums.ensures.lists in
    column-made c.args.p.now c.args.pool.now.lists c.args.store.now c.end_text-sums.new.store c.args.body c.args.notes.now c.requires.body.leaves c.requires.notes.each list c.args.enlarged.now
    c.column_height-height.result c.set_column.result c.column_height-height.ensures.value (set_is c)

pub returns-clause-page : goal.returns-clause-page
returns-clause-page c =
    let P : Set → Type 0 = λ s. s.den ≢ pos 0 in
    record {
      list = c.end_text-sums.ensures.page;
      share = subst P (sym (set_is c)) (packed-divisor (c.column_height-height.result +ℤ higher_by c.args.enlarged.now) c.args.p.now.maxdepth (map shape_of (packed_list c.args.p.now c.column_height-height.result c.args.enlarged.now (text_is c))));
    }

pub returns-clause-lists : goal.returns-clause-lists
returns-clause-lists c = column-joined c.args.store.now c.gather.new.store c.end_text-sums.new.store c.args.body c.args.notes.now _ c.requires.notes c.in_ok-gather.ensures.lists c.end_text-sums.ensures.lists

pub returns-clause-frame : goal.returns-clause-frame
returns-clause-frame c =
    joined-frame c.args.body c.args.notes.now c.args.store.now c.end_text-sums.new.store
    (column-joined c.args.store.now c.gather.new.store c.end_text-sums.new.store c.args.body c.args.notes.now _ c.requires.notes c.in_ok-gather.ensures.lists c.end_text-sums.ensures.lists)
