use Rattle.std.proofs.Common.{refl, ap, ◌∙◌, pos, Some, is_some, [], ◌∷◌, arith}
use Rattle.tb_page_tests.proofs.AccountLemmas.{page_box, page_glue, two_boxes, box_of_five, two_sized, five_sized, split_page, split_fits, late_fits, at_boxes, arrives, at_note}
use Rattle.tb_page_tests.proofs.account.a_late_insertion.Goals as goal

pub arrive-requires-clause-fits : goal.arrive-requires-clause-fits
arrive-requires-clause-fits g c =
    let first = c.in_ok-first.ensures.made ∙ (λ j. Some (c.make_box.ensures j ∷ c.no_glue.ensures j ∷ c.make_box-2.ensures j ∷ [])) in
    let made = c.in_ok-second.ensures.others c.in_ok-first.first (ap is_some first) ∙ first in
    let at = at_boxes (pos 45) (pos 1073741823) c.new_account-account.result c.new_scan-scan.result c.add.new.self c.add-2.new.self c.add-3.new.self _ _ _ c.new_account-account.ensures c.new_scan-scan.ensures.value
    c.make_box-4.ensures c.no_glue-2.ensures c.make_box-5.ensures c.add.ensures.value c.add-2.ensures.value c.add-3.ensures.value in
    arrives (pos 45) (pos 1073741823) c.make_list-2.new.store c.new_account-account.result c.add-3.new.self c.note.result c.footnotes-class.result c.in_ok-first.first two_boxes (pos 30) (page_box ∷ page_glue ∷ page_box ∷ [])
    c.footnotes-class.ensures made c.note.ensures two_sized (omega arith) at split_fits

pub arrive-requires-2-clause-fits : goal.arrive-requires-2-clause-fits
arrive-requires-2-clause-fits g c =
    let first = c.in_ok-first.ensures.made ∙ (λ j. Some (c.make_box.ensures j ∷ c.no_glue.ensures j ∷ c.make_box-2.ensures j ∷ [])) in
    let made = c.in_ok-second.ensures.others c.in_ok-first.first (ap is_some first) ∙ first in
    let at = at_boxes (pos 45) (pos 1073741823) c.new_account-account.result c.new_scan-scan.result c.add.new.self c.add-2.new.self c.add-3.new.self _ _ _ c.new_account-account.ensures c.new_scan-scan.ensures.value
    c.make_box-4.ensures c.no_glue-2.ensures c.make_box-5.ensures c.add.ensures.value c.add-2.ensures.value c.add-3.ensures.value in
    let split = at_note (pos 45) (pos 1073741823) c.make_list-2.new.store c.new_account-account.result c.add-3.new.self c.note.result c.footnotes-class.result c.in_ok-first.first two_boxes (pos 30) (page_box ∷ page_glue ∷ page_box ∷ [])
    c.footnotes-class.ensures made c.note.ensures two_sized (omega arith) at c.arrive.new.self c.arrive.new.scan 3 refl c.arrive.ensures.stands c.arrive.ensures.scan in
    arrives (pos 45) (pos 1073741823) c.make_list-2.new.store c.arrive.new.self c.arrive.new.scan c.note-2.result c.footnotes-class.result c.in_ok-second.second box_of_five (pos 5) split_page
    c.footnotes-class.ensures (c.in_ok-second.ensures.made ∙ ap (λ x. Some (x ∷ [])) c.make_box-3.ensures) c.note-2.ensures five_sized (omega arith) split late_fits
