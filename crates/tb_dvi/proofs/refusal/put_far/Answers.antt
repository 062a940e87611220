use Rattle.std.proofs.Common.{refl, ◌++◌}
use Rattle.std.specs.Prelude.{codes}
use Rattle.tb_text.specs.Fields.{and_count}
use Rattle.tb_text.proofs.FrontLemmas.{on_joined, cut, fails}
use Rattle.tb_dvi.proofs.refusal.put_far.Goals as goal

pub returns : goal.returns
returns c = on_joined c.put.result c.args.out.now.items c.put_total.new.out.items c.put.new.out.items (codes "page" ++ and_count c.args.page) (codes ": out of DVI range") _ refl c.in_ok-put_total.ensures c.put.ensures

pub returns-in_err-put_total : goal.returns-in_err-put_total
returns-in_err-put_total c =
    fails _ _ _ _ c.from_residual.ensures.0 (cut _ c.in_err-put_total.ensures)
