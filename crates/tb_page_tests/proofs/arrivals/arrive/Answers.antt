use Rattle.std.proofs.Common.{◌∙◌, FitsSigned, w64, rules}
use Rattle.std.proofs.lemmas.Int.{to_z-of_z}
use Rattle.tb_pool.specs.Lists.{list_at}
use Rattle.tb_node.specs.PlainNodes.{inserted_of}
use Rattle.tb_insert.proofs.WorkedLemmas.{next_known, next_fits, next_stands}
use Rattle.tb_page_tests.proofs.arrivals.arrive.Goals as goal

pub arrive-requires-clause-fits : goal.arrive-requires-clause-fits
arrive-requires-clause-fits c =
    let f : FitsSigned w64 c.box_size-size.result = search rules in
    let known = next_known c.args.index (inserted_of (list_at c.args.p.now.store) c.args.ins.now) c.requires.few c.requires.next in
    next_fits c.args.p.now.store c.args.p.now.account c.args.p.now.scan c.args.ins.now c.class_of-class.result _ c.args.index c.requires.few known c.class_of-class.ensures (to_z-of_z w64 c.box_size-size.result f ∙ c.box_size-size.ensures) c.requires.next c.requires.stands c.requires.inner

pub returns-clause-stands : goal.returns-clause-stands
returns-clause-stands c =
    let f : FitsSigned w64 c.box_size-size.result = search rules in
    let known = next_known c.args.index (inserted_of (list_at c.args.p.now.store) c.args.ins.now) c.requires.few c.requires.next in
    next_stands c.args.p.now.store c.args.p.now.account c.args.p.now.scan c.args.ins.now c.class_of-class.result _ c.args.index c.requires.few known c.class_of-class.ensures (to_z-of_z w64 c.box_size-size.result f ∙ c.box_size-size.ensures) c.requires.next c.requires.stands c.arrive.new.self c.arrive.new.scan c.arrive.ensures.stands c.arrive.ensures.scan
