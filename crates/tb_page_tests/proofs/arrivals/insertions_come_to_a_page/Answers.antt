use Rattle.tb_page_tests.proofs.arrivals.insertions_come_to_a_page.Goals as goal

pub arrive-requires-3-clause-stands : goal.arrive-requires-3-clause-stands
arrive-requires-3-clause-stands g c = record {
  marked = _;
  account = c.mark_best.ensures _ _ _ c.arrive-2.ensures.stands.account;
  scan = c.arrive-2.ensures.stands.scan;
}
