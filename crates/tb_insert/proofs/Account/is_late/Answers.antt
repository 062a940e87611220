use Rattle.tb_insert.proofs.Account.is_late.Goals as goal

pub returns-clause-late : goal.returns-clause-late
returns-clause-late c = λ late. record { here = c.is_cut_off.ensures.here late; met = c.is_cut_off.ensures.met late; split = c.is_cut_off.ensures.split late }
