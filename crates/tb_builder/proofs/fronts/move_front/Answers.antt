use Rattle.std.proofs.Common.{◌∙◌, sym}
use Rattle.tb_builder.proofs.Ownership.StoreMoves.{Apart3, cut_lives, join_lives, moved_lists}
use Rattle.tb_builder.proofs.fronts.move_front.Goals as goal

pub append-requires : goal.append-requires
append-requires c =
    let ne : Apart3 c.args.to c.args.from c.args.between = record { to_from = c.requires.to_apart; between_to = c.requires.between_apart; between_from = c.requires.between_from } in
    let l = cut_lives c.args.store.now c.cut.new.self c.args.to c.args.from c.args.between c.args.place ne c.cut.ensures.parted c.requires.to_live in
    record { first_live = l.0; second_live = l.1; apart = c.requires.to_apart }

pub append-requires-2 : goal.append-requires-2
append-requires-2 c =
    let ne : Apart3 c.args.to c.args.from c.args.between = record { to_from = c.requires.to_apart; between_to = c.requires.between_apart; between_from = c.requires.between_from } in
    let l = join_lives c.args.store.now c.cut.new.self c.args.to c.args.from c.args.between c.args.place ne c.cut.ensures.parted c.append.new.self c.append.ensures.joined in
    record { first_live = l.0; second_live = l.1; apart = λ e. c.requires.between_from (sym e) }

pub returns : goal.returns
returns c =
    let ne : Apart3 c.args.to c.args.from c.args.between = record { to_from = c.requires.to_apart; between_to = c.requires.between_apart; between_from = c.requires.between_from } in
    record {
      moved = moved_lists c.args.store.now c.cut.new.self c.args.to c.args.from c.args.between c.args.place ne c.cut.ensures.parted c.append.new.self c.append.ensures.joined c.append-2.new.self c.append-2.ensures.joined c.requires.between_live c.requires.between_empty;
      spare = c.append-2.ensures.spare ∙ c.append.ensures.spare ∙ c.cut.ensures.spare;
    }
