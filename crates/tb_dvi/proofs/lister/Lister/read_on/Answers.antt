use Rattle.std.proofs.Common.{get_or, ◌+◌}
use Rattle.tb_dvi.proofs.ListLemmas.{ends_here, goes_here, rest_of, same-at}
use Rattle.tb_dvi.proofs.lister.Lister.read_on.Goals as goal

pub loop-place-preserved : goal.loop-place-preserved
loop-place-preserved c =
    let bytes = c.args.bytes.now in
    let place = c.loop-place.place in
    let b = get_or bytes place 0 in
    goes_here bytes place c.loop-place.self c.loop-place.invariant b c.loop-place-test.true (same-at bytes place 0 b c.loop-place-test.true) c.in-At.next c.step.new.self
    (rw (c.in-At.is, rest_of (place + 1) bytes) at c.in_ok-next.ensures)

pub returns-in-End-clause-text : goal.returns-in-End-clause-text
returns-in-End-clause-text c =
    let bytes = c.args.bytes.now in
    let place = c.loop-place.place in
    let b = get_or bytes place 0 in
    ends_here bytes place c.loop-place.self c.loop-place.invariant b c.loop-place-test.true (same-at bytes place 0 b c.loop-place-test.true) c.step.new.self
    (rw (c.in-End.is, rest_of (place + 1) bytes) at c.in_ok-next.ensures)
