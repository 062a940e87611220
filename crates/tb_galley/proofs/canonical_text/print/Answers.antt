use Rattle.std.proofs.Common.{◌++◌, codes, ap, ◌∙◌}
use Rattle.tb_param.specs.Table.{rows_for}
use Rattle.tb_galley.specs.CanonicalText.{header_text, set_lines, class_lines, item_lines, printed}
use Rattle.tb_galley.proofs.JoinedTexts.{five-joined}
use Rattle.tb_galley.proofs.PrintLaw.{print_law}
use Rattle.tb_galley.proofs.canonical_text.print.Goals as goal

pub returns-clause-text : goal.returns-clause-text
unfolding printed
returns-clause-text c =
    let g = c.args.galley.now in
    five-joined (header_text g.version) (set_lines g.params (rows_for g.version)) (class_lines g.classes) (item_lines g.version g.items) (codes "end\n")
    c.in_ok-out.out.items c.put_sets.new.out.items c.put_classes.new.out.items c.put_items.new.out.items c.put.new.out.items
    (c.in_ok-out.ensures.items ∙ c.header.ensures)
    c.in_ok-put_sets.ensures
    (c.in_ok-put_classes.ensures ∙ ap (λ cs. c.put_sets.new.out.items ++ class_lines cs) c.as_slice.ensures)
    (c.in_ok-put_items.ensures ∙ ap (λ is. c.put_classes.new.out.items ++ item_lines g.version is) c.as_slice-2.ensures)
    c.in_ok-put.ensures

pub returns-clause-reads_back : goal.returns-clause-reads_back
returns-clause-reads_back c valid short = print_law c.args.galley.now valid short
