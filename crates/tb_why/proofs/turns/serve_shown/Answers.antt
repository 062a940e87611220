use Rattle.std.proofs.Common.{drop, ◌∙◌}
use Rattle.std.proofs.lemmas.List.{take_rest}
use Rattle.tb_why.proofs.TurnLemmas.{sent-woven, sent-pages}
use Rattle.tb_why.proofs.turns.serve_shown.Goals as goal

pub returns-clause-shown : goal.returns-clause-shown
returns-clause-shown c =
    sent-woven c.args.page c.args.routine.now c.serve_page.new.self c.in_ok-ending.ending c.args.happened.now.items c.serve_page.new.happened.items c.in_ok-ending.ensures.served
    c.as_slice.result.now _ (c.as_slice.ensures.value ∙ c.in_ok-pieces.ensures) (take_rest c.as_slice-2.result.now c.len-before.result ∙ (λ i. drop ((c.len-before.ensures ∙ c.args.happened.now.ok.0) i) (c.as_slice-2.ensures.value i)))
    c.args.shown.now.items c.show_sent.new.shown.items c.in_ok-show_sent.ensures

pub returns-clause-shown_pages : goal.returns-clause-shown_pages
returns-clause-shown_pages c so_far =
    sent-pages c.args.page c.args.routine.now c.serve_page.new.self c.in_ok-ending.ending c.args.happened.now.items c.serve_page.new.happened.items c.in_ok-ending.ensures.served
    c.as_slice.result.now _ (c.as_slice.ensures.value ∙ c.in_ok-pieces.ensures) (take_rest c.as_slice-2.result.now c.len-before.result ∙ (λ i. drop ((c.len-before.ensures ∙ c.args.happened.now.ok.0) i) (c.as_slice-2.ensures.value i)))
    c.args.shown.now.items c.show_sent.new.shown.items c.in_ok-show_sent.ensures c.in_ok-ending.ensures.pages so_far
