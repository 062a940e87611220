use Rattle.std.proofs.Common.{refl, sym, ◌∙◌}
use Rattle.tb_search.proofs.TakenLemmas.{handed-cut}
use Rattle.tb_search.proofs.moves.hand_cut.Goals as goal

pub returns : goal.returns
returns c =
    handed-cut c.args.routine.now c.requires.ready c.requires.none c.args.ahead.now c.items-items.result.now c.items-items.ensures c.index-items-0.result (sym c.is_empty.ensures ∙ c.if-is_empty.false) c.requires.few
    c.put.new.builder c.put.new.store _ _ c.next_count-count.result c.in_ok-put.ensures c.in_ok-more.ensures refl refl refl c.next_count-count.ensures
