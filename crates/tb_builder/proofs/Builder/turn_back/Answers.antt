use Rattle.std.proofs.Common.{◌∙◌, sym}
use Rattle.tb_builder.specs.Ownership.{ids_of}
use Rattle.tb_builder.proofs.Cutting.CutPageLemmas.{turned_none, back_lives, again_lives, turned_lists}
use Rattle.tb_builder.proofs.Builder.turn_back.Goals as goal

pub returns-then-place-len-clause-turned : goal.returns-then-place-len-clause-turned
returns-then-place-len-clause-turned c = turned_none (ids_of c.args.self.now) c.args.store.now c.args.place c.requires.own (c.if-place-len.true ∙ c.len.ensures)

pub append-requires : goal.append-requires
append-requires c =
    let own = c.requires.own in
    let l = back_lives (ids_of c.args.self.now) c.args.store.now c.cut.new.self c.args.store.now c.args.store.now c.args.place own c.cut.ensures.parted in
    record { first_live = l.0; second_live = l.1; apart = λ e. own.differ.1.0.1.0 (sym e) }

pub append-requires-2 : goal.append-requires-2
append-requires-2 c =
    let own = c.requires.own in
    let l = again_lives (ids_of c.args.self.now) c.args.store.now c.cut.new.self c.append.new.self c.args.store.now c.args.place own c.cut.ensures.parted c.append.ensures.joined in
    record { first_live = l.0; second_live = l.1; apart = own.differ.1.0.1.0 }

pub returns : goal.returns
returns c = record {
  turned = turned_lists (ids_of c.args.self.now) c.args.store.now c.cut.new.self c.append.new.self c.append-2.new.self c.args.place c.requires.own c.cut.ensures.parted c.append.ensures.joined c.append-2.ensures.joined;
  spare = c.append-2.ensures.spare ∙ c.append.ensures.spare ∙ c.cut.ensures.spare;
}
