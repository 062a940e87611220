use Rattle.std.proofs.Common.{arith}
use Rattle.tb_output.proofs.InText.ShortenLemmas.{not-shortened, one-off, short-enough}
use Rattle.tb_output.proofs.back_list.shorten.Goals as goal

pub last-init : goal.last-init
last-init c = not-shortened c.args.store.now c.args.l c.args.count c.requires

pub last-smaller : goal.last-smaller
last-smaller c = (one-off c.args.store.now c.last.store c.pop_back.new.self c.args.l c.args.count c.pop_back.result c.last.invariant (omega (arith, c.len.ensures)) c.pop_back.ensures.empty c.pop_back.ensures.rest).1

pub last-preserved : goal.last-preserved
last-preserved c = (one-off c.args.store.now c.last.store c.pop_back.new.self c.args.l c.args.count c.pop_back.result c.last.invariant (omega (arith, c.len.ensures)) c.pop_back.ensures.empty c.pop_back.ensures.rest).0

pub returns : goal.returns
returns c = short-enough c.args.store.now c.last.store c.args.l c.args.count c.last.invariant (omega (arith, c.len.ensures))
