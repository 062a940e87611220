use Rattle.std.proofs.Common.{rules}
use Rattle.tb_run.proofs.Turns.ServingLemmas.{refused-serves_all, serves-all}
use Rattle.tb_run.proofs.routine.Routine.serve_all.Goals as goal

pub returns-in-Ok : goal.returns-in-Ok
returns-in-Ok c =
    serves-all c.args.self.now c.args.page c.requires.whole c.requires.page c.requires.bounded c.requires.params c.requires.classes c.requires.served c.requires.ends c.fire_measured-turn.new.self c.fire_measured-turn.new.b c.fire_measured-turn.new.store c.in-Ok.turn c.in-Ok.ensures.turn c.in-Ok.ensures.contents c.in-Ok.ensures.put_back c.in-Ok.ensures.goes_on c.in-Ok.ensures.keeps c.put_back.new.self c.put_back.ensures.whole c.put_back.ensures.contents c.put_back.ensures.machine c.put_back.ensures.most c.put_back.ensures.left c.put_back.ensures.state c.put_back.ensures.events

pub returns-in-Err : goal.returns-in-Err
returns-in-Err c =
    refused-serves_all c.args.self.now c.args.page c.requires.whole c.requires.page c.requires.bounded c.requires.params c.requires.classes c.requires.served c.requires.ends c.fire_measured-turn.new.self c.fire_measured-turn.new.b c.fire_measured-turn.new.store c.in-Err.ensures.keeps c.in-Err.fault (search rules) c.in-Err.ensures.refused
