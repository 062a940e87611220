-- A state in which a title over both columns is taken: it makes the first of two columns, and no float list holds anything.
use Rattle.std.proofs.Common.{◌≡◌, refl, ℕ, ◌+◌, true, List, [], ◌∷◌, length, arith}
use Rattle.std.specs.Prelude.{pos, ◌==◌, ◌&&◌, int_lt}
use Rattle.std.proofs.lemmas.Bool.{eqb-true, and_parts}
use Rattle.tb_param.specs.declared.Params.{Params}
use Rattle.tb_float.specs.Lists.{FloatLists, no_floats, live_count}
use Rattle.tb_output.specs.State.{State}
use Rattle.tb_output.specs.Act.{has_head_room}

none-of : {X : Type 0} (xs : List X) → length xs ≡ 0 → xs ≡ []
none-of [] e = refl
none-of (x ∷ xs) e = let no : ⊥ = omega (arith, e) in absurd no

-- an empty pool has empty lists
pub none-live : (l : FloatLists) → live_count l ≡ 0 → l ≡ no_floats
none-live l e =
    let parts = sums (length l.current) (length l.here) (length l.top) (length l.bottom) (length l.deferred) (length l.double) (length l.second) e in
    λ i. record {
      current = none-of l.current parts.0 i;
      here = none-of l.here parts.1 i;
      top = none-of l.top parts.2 i;
      bottom = none-of l.bottom parts.3 i;
      deferred = none-of l.deferred parts.4 i;
      double = none-of l.double parts.5 i;
      second = none-of l.second parts.6 i;
    }
  where
    sums : (a b d e f g h : ℕ) → a + b + d + e + f + g + h ≡ 0 → (a ≡ 0) × (b ≡ 0) × (d ≡ 0) × (e ≡ 0) × (f ≡ 0) × (g ≡ 0) × (h ≡ 0)
    sums a b d e f g h s = (omega arith, omega arith, omega arith, omega arith, omega arith, omega arith, omega arith)

pub record IsForHead (s : State) : Type 0 where
  pub two : s.two_columns ≡ true
  pub first : s.first_column ≡ true
  pub floats : s.floats ≡ no_floats

-- there is room for a title in such a state alone
pub head-room : (p : Params) (s : State) → has_head_room p s ≡ true → IsForHead s
head-room p s e =
    let a = and_parts ((s.two_columns && s.first_column) && (live_count s.floats == 0)) (int_lt (pos 0) p.pool) e in
    let b = and_parts (s.two_columns && s.first_column) (live_count s.floats == 0) a.0 in
    let c = and_parts s.two_columns s.first_column b.0 in
    record { two = c.0; first = c.1; floats = none-live s.floats (eqb-true (live_count s.floats) 0 b.1) }
