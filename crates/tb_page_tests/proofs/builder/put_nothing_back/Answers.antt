use Rattle.tb_builder.specs.Ownership.{ids_of}
use Rattle.tb_builder.proofs.Ownership.FrameLemmas.{empty_joins}
use Rattle.tb_page_tests.proofs.builder.put_nothing_back.Goals as goal

pub put_back-requires-clause-joins : goal.put_back-requires-clause-joins
put_back-requires-clause-joins c = empty_joins (ids_of c.add_list.new.p.builder) c.add_list.new.p.store c.in_ok-nothing.nothing c.add_list.ensures.rest.sound.own c.in_ok-nothing.ensures.live c.in_ok-nothing.ensures.empty c.in_ok-nothing.ensures.apart
