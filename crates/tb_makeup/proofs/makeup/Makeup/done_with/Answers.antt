use Rattle.tb_items.proofs.ClosedLists.{pages-live}
use Rattle.tb_makeup.proofs.Turns.DoneLemmas.{done-state, done-ready}
use Rattle.tb_makeup.proofs.makeup.Makeup.done_with.Goals as goal

pub close_happened-requires-clause-live : goal.close_happened-requires-clause-live
close_happened-requires-clause-live c = pages-live c.args.self.now.store c.args.happened.now c.requires.lists.pages

pub returns-clause-ready : goal.returns-clause-ready
returns-clause-ready c = done-ready c.args.self.now c.close_happened.new.store c.args.happened.now c.requires.ready c.requires.lists c.close_happened.ensures.others

pub returns-clause-state : goal.returns-clause-state
returns-clause-state c = done-state c.args.self.now c.close_happened.new.store c.args.happened.now c.requires.ready c.requires.lists c.close_happened.ensures.others
