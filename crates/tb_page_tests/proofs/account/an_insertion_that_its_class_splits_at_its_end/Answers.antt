use Rattle.std.proofs.Common.{refl, ap, ◌∙◌, pos, Some, [], ◌∷◌, arith}
use Rattle.tb_node.specs.PlainNodes.{shape_of}
use Rattle.tb_page_tests.proofs.AccountLemmas.{page_of, page_box, box_of_eight, eight_sized, limit_fits, at_none, at_plain, arrives}
use Rattle.tb_page_tests.proofs.account.an_insertion_that_its_class_splits_at_its_end.Goals as goal

pub arrive-requires-clause-fits : goal.arrive-requires-clause-fits
arrive-requires-clause-fits g c =
    let made = c.in_ok-list.ensures.made ∙ ap (λ x. Some (x ∷ [])) c.make_box.ensures in
    let bare = at_none (pos 30) (pos 5) c.new_account-account.result c.new_scan-scan.result c.new_account-account.ensures c.new_scan-scan.ensures.value in
    let at = at_plain c.new_account-account.result c.new_scan-scan.result c.add.new.self (page_of (pos 30) (pos 5)) [] c.make_box-2.result page_box refl (ap shape_of c.make_box-2.ensures) c.add.ensures.value bare in
    arrives (pos 30) (pos 5) c.make_list.new.store c.new_account-account.result c.add.new.self c.note.result c.footnotes.result c.in_ok-list.list box_of_eight (pos 8) (page_box ∷ [])
    c.footnotes.ensures made c.note.ensures eight_sized (omega arith) at limit_fits
