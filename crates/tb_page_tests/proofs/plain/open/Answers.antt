use Rattle.std.proofs.Common.{◌∙◌, sym, subst, ap}
use Rattle.tb_builder.specs.declared.Ask.{Ask}
use Rattle.tb_builder.specs.Contents.{nothing_yet}
use Rattle.tb_builder.specs.Ownership.{ClassesFit}
use Rattle.tb_builder.specs.WorkedPages.{IsReady}
use Rattle.tb_page_tests.proofs.PlainLemmas.{classes_fit, open_ready}
use Rattle.tb_page_tests.proofs.plain.open.Goals as goal

pub new_builder-requires : goal.new_builder-requires
new_builder-requires c = subst ClassesFit (sym c.classes.ensures) (classes_fit c.args.p.now c.requires)

pub returns-clause-ready : goal.returns-clause-ready
returns-clause-ready c =
    subst (λ (a : Ask). IsReady c.in_ok-builder.builder c.new_builder.new.store a) (sym c.ask_of.ensures)
    (open_ready c.args.p.now c.requires c.in_ok-builder.builder c.new_builder.new.store c.in_ok-builder.ensures.sound (c.in_ok-builder.ensures.contents ∙ ap nothing_yet c.classes.ensures))

pub returns-clause-contents : goal.returns-clause-contents
returns-clause-contents c = c.in_ok-builder.ensures.contents ∙ ap nothing_yet c.classes.ensures
