use Rattle.std.proofs.Common.{ap}
use Rattle.tb_builder.specs.Contents.{Contents}
use Rattle.tb_builder.proofs.WorkedPages.WorkedLemmas.{rest_from}
use Rattle.tb_page_tests.proofs.builder.boxed.Goals as goal

pub returns : goal.returns
returns c =
    let e = c.take_box.ensures.contents in
    rest_from c.add_list.new.p.builder c.take_box.new.self c.add_list.new.p.store c.take_box.new.store c.add_list.ensures.rest c.take_box.ensures.sound
    (ap (λ (x : Contents). x.page) e) (ap (λ (x : Contents). x.frozen) e) (ap (λ (x : Contents). x.classes) e)
