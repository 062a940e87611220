-- Registers stay in their ranges.
use Rattle.std.proofs.Common.{ℕ, suc, ◌≤◌, ℤ, pos, List, [], ◌∷◌, FitsSigned, to_z, of_z, w64, arith}
use Rattle.std.specs.List.{AllByRecursion}
use Rattle.std.proofs.lemmas.Int.{ints, to_z-of_z}
use Rattle.tb_dvi.specs.declared.command.Registers.{Registers}
use Rattle.tb_dvi.specs.declared.command.Mode.{Mode}
use Rattle.tb_dvi.specs.declared.command.Mode.TheVariants as modes
use Rattle.tb_dvi.specs.declared.lister.Lister.{Lister}
use Rattle.tb_dvi.specs.Machine.{no_registers}
use Rattle.tb_dvi.specs.Lister.{IsWithin, IsBounded, IsBoundedMode, IsInBounds}

pub within-more : (k m : ℕ) (z : ℤ) → k ≤ m → IsWithin k z → IsWithin m z
within-more k m z e h = record { low = omega (arith, ints, e, h.low); high = omega (arith, ints, e, h.high) }

pub bounded-more : (k m : ℕ) (r : Registers) → k ≤ m → IsBounded k r → IsBounded m r
bounded-more k m r e b = record { h = within-more k m r.h e b.h; v = within-more k m r.v e b.v; w = b.w; x = b.x; y = b.y; z = b.z }

-- another place to the right, or down
pub bounded-right : (k : ℕ) (r : Registers) (h : ℤ) → IsBounded k r → IsWithin (suc k) h → IsBounded (suc k) (record r { h = h })
bounded-right k r h b e = record { h = e; v = within-more k (suc k) r.v (omega arith) b.v; w = b.w; x = b.x; y = b.y; z = b.z }

pub bounded-down : (k : ℕ) (r : Registers) (v : ℤ) → IsBounded k r → IsWithin (suc k) v → IsBounded (suc k) (record r { v = v })
bounded-down k r v b e = record { h = within-more k (suc k) r.h (omega arith) b.h; v = e; w = b.w; x = b.x; y = b.y; z = b.z }

-- another number of the file in a register
pub bounded-w : (k : ℕ) (r : Registers) (w : ℤ) → IsBounded k r → IsWithin 1 w → IsBounded k (record r { w = w })
bounded-w k r w b e = record { h = b.h; v = b.v; w = e; x = b.x; y = b.y; z = b.z }

pub bounded-x : (k : ℕ) (r : Registers) (x : ℤ) → IsBounded k r → IsWithin 1 x → IsBounded k (record r { x = x })
bounded-x k r x b e = record { h = b.h; v = b.v; w = b.w; x = e; y = b.y; z = b.z }

pub bounded-y : (k : ℕ) (r : Registers) (y : ℤ) → IsBounded k r → IsWithin 1 y → IsBounded k (record r { y = y })
bounded-y k r y b e = record { h = b.h; v = b.v; w = b.w; x = b.x; y = e; z = b.z }

pub bounded-z : (k : ℕ) (r : Registers) (z : ℤ) → IsBounded k r → IsWithin 1 z → IsBounded k (record r { z = z })
bounded-z k r z b e = record { h = b.h; v = b.v; w = b.w; x = b.x; y = b.y; z = e }

-- a register is kept as a machine word, and so are all six
pub within-kept : (k : ℕ) (z : ℤ) → FitsSigned w64 z → IsWithin k z → IsWithin k (to_z w64 (of_z w64 z))
within-kept k z fits w = simp to_z-of_z w

pub bounded-kept : (k : ℕ) (h v w x y z : ℤ) → FitsSigned w64 h → FitsSigned w64 v → FitsSigned w64 w → FitsSigned w64 x → FitsSigned w64 y → FitsSigned w64 z → IsBounded k (record { h = h; v = v; w = w; x = x; y = y; z = z })
    → IsBounded k (record { h = to_z w64 (of_z w64 h); v = to_z w64 (of_z w64 v); w = to_z w64 (of_z w64 w); x = to_z w64 (of_z w64 x); y = to_z w64 (of_z w64 y); z = to_z w64 (of_z w64 z) })
bounded-kept k h v w x y z a b c d e f r = record {
  h = within-kept k h a r.h;
  v = within-kept k v b r.v;
  w = within-kept 1 w c r.w;
  x = within-kept 1 x d r.x;
  y = within-kept 1 y e r.y;
  z = within-kept 1 z f r.z;
}

mode-more : (k m : ℕ) (mode : Mode) → k ≤ m → IsBoundedMode k mode → IsBoundedMode m mode
mode-more k m modes.Between e b = tt
mode-more k m (modes.OnPage r) e b = bounded-more k m r e b
mode-more k m (modes.AfterPost place) e b = tt

pub stack-more : (k m : ℕ) (rs : List Registers) → k ≤ m → AllByRecursion (IsBounded k) rs → AllByRecursion (IsBounded m) rs
stack-more k m [] e all = tt
stack-more k m (r ∷ rs) e all = (bounded-more k m r e all.0, stack-more k m rs e all.1)

pub more : (k m : ℕ) (l : Lister) → k ≤ m → IsInBounds k l → IsInBounds m l
more k m l e b = record { pages = omega (arith, e, b.pages); mode = mode-more k m l.mode e b.mode; stack = stack-more k m l.stack e b.stack }

zero-within : (k : ℕ) → IsWithin k (pos 0)
zero-within k = record { low = omega (arith, ints); high = omega (arith, ints) }

-- a page that opens
pub none-bounded : (k : ℕ) → IsBounded k no_registers
none-bounded k = record { h = zero-within k; v = zero-within k; w = zero-within 1; x = zero-within 1; y = zero-within 1; z = zero-within 1 }
