use Rattle.std.proofs.Common.{ap, ◌∙◌, ◌++◌, arith}
use Rattle.tb_output.specs.ActCalls.{warnings_sent}
use Rattle.tb_output.proofs.Acts.ActingLemmas.{float-taken, float-unmarked}
use Rattle.tb_output.proofs.Acts.TakingLemmas.{room-after}
use Rattle.tb_output.proofs.Machine.take_float.Goals as goal

pub returns-clause-ok : goal.returns-clause-ok
returns-clause-ok c =
    let room = c.in_ok-take_into.ensures.room in
    let taken = c.clipped-taken.ensures.value in
    let sent = c.warn.ensures.sent ∙ ap (λ ws. c.self.inside.events.sent ++ warnings_sent ws) c.large-warning.ensures in
    rw (← c.self.view_is) (record { room = omega (arith, room); machine = float-taken _ c.args.f c.clipped-taken.result c.take_into.new.pool c.warn.new.self.sent taken c.in_ok-take_into.ensures.taken sent; unmarked = float-unmarked c.self.inside.params c.self.inside.two_columns c.args.f c.clipped-taken.result c.self.inside.pool c.take_into.new.pool taken c.in_ok-take_into.ensures.taken c.in_ok-take_into.ensures.unmarked })

pub invariant_of-self-2 : goal.invariant_of-self-2
invariant_of-self-2 c = room-after c.self.inside.params c.clipped-taken.result c.self.inside.pool c.take_into.new.pool _ _ c.in_ok-take_into.ensures.taken c.self.invariant c.warn.ensures.room
