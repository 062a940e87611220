-- Places too far up or down.
use Rattle.std.proofs.Common.{◌≡◌, ℤ, pos, negsuc, ◌+ℤ◌, ◌<ℤ◌, ◌≤ℤ◌, None, arith}
use Rattle.std.proofs.lemmas.Int.{ints}
use Rattle.tb_dvi.specs.File.{near}

pub far_up : (top size : ℤ) → top <ℤ negsuc 1267650600228229401496703205375 → size ≤ℤ pos 36893488147419103232 → None ≡ near (top +ℤ size)
far_up top size h s = grind (arith, ints)

pub far_down : (top size : ℤ) → pos 1267650600228229401496703205376 <ℤ top → negsuc 36893488147419103231 ≤ℤ size → None ≡ near (top +ℤ size)
far_down top size h s = grind (arith, ints)

pub ruleset near_bounds = (far_up, far_down)
