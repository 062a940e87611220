use Rattle.std.proofs.Common.{refl}
use Rattle.tb_text.proofs.FrontLemmas.{on_joined, when_ok}
use Rattle.tb_top.specs.Answer.{pool_full_text}
use Rattle.tb_top.proofs.refusal.put_pool_full.Goals as goal

pub returns : goal.returns
returns c =
    when_ok c.put_counted-2.result c.args.line.now.items (pool_full_text c.args.at c.args.live) c.put_counted-2.new.out.items
    (on_joined c.put_counted-2.result c.args.line.now.items c.put_counted.new.out.items c.put_counted-2.new.out.items _ _ _ refl (simp c.from.ensures at c.in_ok-put_counted.ensures) c.put_counted-2.ensures)
