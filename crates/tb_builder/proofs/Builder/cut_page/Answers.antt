use Rattle.std.proofs.Common.{◌∙◌, ap}
use Rattle.tb_pool.specs.Lists.{list_at}
use Rattle.tb_builder.specs.FiredPages.{line_at, penalty_at}
use Rattle.tb_builder.proofs.Cutting.CutPageLemmas.{cuts_of, waiting_lives, plain_turned}
use Rattle.tb_builder.proofs.Builder.cut_page.Goals as goal

pub spend_break-requires : goal.spend_break-requires
spend_break-requires c = waiting_lives c.args.self.now c.args.store.now c.turn_back.new.store c.args.store.now c.args.place c.requires.own c.turn_back.ensures.turned

pub returns : goal.returns
returns c =
    let plain = plain_turned c.args.self.now c.args.store.now c.turn_back.new.store c.args.store.now c.args.place c.requires.own c.turn_back.ensures.turned in
    record {
      cuts = cuts_of c.args.self.now c.args.store.now c.turn_back.new.store c.spend_break.new.store c.args.place c.requires.own c.turn_back.ensures.turned c.spend_break.ensures.spent;
      line = c.spend_break.ensures.line (list_at c.args.store.now) ∙ ap line_at plain;
      penalty = c.spend_break.ensures.penalty (list_at c.args.store.now) ∙ ap penalty_at plain;
      spare = c.spend_break.ensures.spare ∙ c.turn_back.ensures.spare;
    }
