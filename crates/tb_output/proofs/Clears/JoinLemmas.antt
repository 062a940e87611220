-- Floats of the areas wait again: the pool after their lists were joined.
use Rattle.std.proofs.Common.{◌≡◌, refl, sym, ◌∙◌, ap, ℕ, [], ◌++◌, append_assoc, length-append, arith}
use Rattle.tb_param.specs.declared.Params.{Params}
use Rattle.tb_float.specs.declared.Part.{Part}
use Rattle.tb_float.specs.declared.Part.TheVariants as parts
use Rattle.tb_float.specs.Lists.{live_count, floats_of, with_floats_of, IsWaiting, wide_part}
use Rattle.tb_float.specs.Pool.{FloatPool, HasNoMarks, joined_before}
use Rattle.tb_output.specs.Clear.{deferred_again, double_again}
use Rattle.tb_output.specs.Events.{HasRoomFor}
use Rattle.tb_output.specs.Machine.{MachineView}
use Rattle.tb_output.specs.MachineFrame.{HasFloats}

-- ---- the floats at the bottom and at the top

module _ (v w x : FloatPool) (one : w ≡ joined_before parts.Bottom parts.Deferred v) (two : x ≡ joined_before parts.Top parts.Deferred w) where
  again : x ≡ joined_before parts.Top parts.Deferred (joined_before parts.Bottom parts.Deferred v)
  again = two ∙ ap (joined_before parts.Top parts.Deferred) one

  areas-lists : x.lists ≡ deferred_again v.lists
  areas-lists =
      ap (λ (y : FloatPool). y.lists) again
      ∙ (λ i. record v.lists { top = []; bottom = []; deferred = sym (append_assoc v.lists.top v.lists.bottom v.lists.deferred) i })

  areas-size : x.size ≡ v.size
  areas-size = ap (λ (y : FloatPool). y.size) again

  -- as many boxes are live as before
  pub areas-room : (room : ℕ) → HasRoomFor v room → HasRoomFor x room
  areas-room room h =
      let count : live_count x.lists ≡ live_count (deferred_again v.lists) = ap live_count areas-lists in
      omega (arith, areas-size, count, length-append (v.lists.top ++ v.lists.bottom) v.lists.deferred, length-append v.lists.top v.lists.bottom, h)

pub areas-has : (m : MachineView) (w x : FloatPool) → w ≡ joined_before parts.Bottom parts.Deferred m.pool → x ≡ joined_before parts.Top parts.Deferred w → (HasNoMarks m.pool → HasNoMarks w) → (HasNoMarks w → HasNoMarks x) → HasFloats (deferred_again m.pool.lists) m (record m { pool = x })
areas-has m w x one two first second = record {
  lists = areas-lists m.pool w x one two;
  size = areas-size m.pool w x one two;
  unmarked = λ h. second (first h);
  rest = refl;
}

-- ---- the wide floats

pub double-apart : (to : Part) → IsWaiting to → parts.Double ≡ to → ⊥
double-apart parts.Deferred q e = cc
double-apart parts.Second q e = cc
double-apart to q e = absurd q

-- the lists, the size, and how many boxes are live
joined-double : (to : Part) → IsWaiting to → (v : FloatPool) →
    ((joined_before parts.Double to v).lists ≡ with_floats_of to (v.lists.double ++ floats_of to v.lists) (record v.lists { double = [] }))
    × ((joined_before parts.Double to v).size ≡ v.size)
    × (live_count (joined_before parts.Double to v).lists ≡ live_count v.lists)
joined-double parts.Deferred q v = (refl, refl, omega (arith, length-append v.lists.double v.lists.deferred))
joined-double parts.Second q v = (refl, refl, omega (arith, length-append v.lists.double v.lists.second))
joined-double to q v = absurd q

module _ (to : Part) (waits : IsWaiting to) (v w : FloatPool) (e : w ≡ joined_before parts.Double to v) where
  double-size : w.size ≡ v.size
  double-size = ap (λ (x : FloatPool). x.size) e ∙ (joined-double to waits v).1

  pub double-room : (room : ℕ) → HasRoomFor v room → HasRoomFor w room
  double-room room h =
      let count : live_count w.lists ≡ live_count v.lists = ap (λ (x : FloatPool). live_count x.lists) e ∙ (joined-double to waits v).2 in
      omega (arith, double-size, count, h)

pub double-has : (p : Params) (to : Part) (m : MachineView) (w : FloatPool) → to ≡ wide_part p → IsWaiting to → w ≡ joined_before parts.Double to m.pool → (HasNoMarks m.pool → HasNoMarks w) → HasFloats (double_again p m.pool.lists) m (record m { pool = w })
double-has p to m w same waits e unmarked = record {
  lists =
      ap (λ (x : FloatPool). x.lists) e ∙ (joined-double to waits m.pool).0
      ∙ ap (λ (t : Part). with_floats_of t (m.pool.lists.double ++ floats_of t m.pool.lists) (record m.pool.lists { double = [] })) same;
  size = double-size to waits m.pool w e;
  unmarked = unmarked;
  rest = refl;
}
