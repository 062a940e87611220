use Rattle.std.proofs.Common.{arith}
use Rattle.std.proofs.lemmas.Int.{ints}
use Rattle.tb_insert.proofs.rooms.fits_class.Goals as goal

pub returns : goal.returns
returns c = grind (arith, ints, c.wide.ensures, c.wide-2.ensures, c.wide-3.ensures)
