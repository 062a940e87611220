-- A float that was taken into a pool.
use Rattle.std.proofs.Common.{◌≡◌, refl, sym, subst, ◌∙◌, ap, ℕ, ◌+◌, ◌-◌, ◌≤◌, Bool, true, false, List, [], ◌∷◌, ◌++◌, length, Some, length-append, arith}
use Rattle.std.specs.Prelude.{◌&&◌, slice_get, if◌then◌else◌}
use Rattle.tb_node.specs.declared.Float.{Float}
use Rattle.tb_param.specs.declared.Params.{Params}
use Rattle.tb_param.specs.Release.{has_second}
use Rattle.tb_float.specs.declared.Entry.{Entry}
use Rattle.tb_float.specs.declared.Entry.TheVariants as entries
use Rattle.tb_float.specs.declared.Part.TheVariants as parts
use Rattle.tb_float.specs.Lists.{live_count, without_place, HasFloatAt}
use Rattle.tb_float.specs.Pool.{FloatPool, HasNoMarks, with_current, moved_float, with_floats_after}
use Rattle.tb_output.specs.Events.{HasRoomFor}
use Rattle.tb_output.specs.ActCalls.{taken_into}

-- if the float waits, it is in the second list, else in the current one
abbrev taken_by : Bool → Float → FloatPool → FloatPool
taken_by t f v = record v {
  lists = if t then record v.lists { second = v.lists.second ++ f ∷ [] } else record v.lists { current = v.lists.current ++ entries.Float f ∷ [] };
  second_marks = if t then v.second_marks ++ false ∷ [] else v.second_marks;
}

-- ---- how many boxes are live

one-more : (t : Bool) (f : Float) (v : FloatPool) → live_count (taken_by t f v).lists ≡ live_count v.lists + 1
one-more true f v = omega (arith, length-append v.lists.second (f ∷ []))
one-more false f v = omega (arith, length-append v.lists.current (entries.Float f ∷ []))

-- a warning may have taken the room of one box
pub room-after : (p : Params) (f : Float) (v now : FloatPool) (a b : ℕ) → now ≡ taken_into p f v → HasRoomFor v a → a ≤ b + 1 → HasRoomFor now b
room-after p f v now a b e room less = subst (λ x. HasRoomFor x b) (sym e) (let one = one-more (has_second p && f.wide) f v in omega (arith, one, room, less))

-- what is put into the current list has no mark
pub current-unmarked : (es : List Entry) (v now : FloatPool) → now ≡ with_current es v → HasNoMarks v → HasNoMarks now
current-unmarked es v now e h = subst HasNoMarks (sym e) (record { deferred = h.deferred; second = h.second })

-- ---- the last of the current list

module _ {X : Type 0} where
  without-last : (xs : List X) (x : X) → without_place (length xs) (xs ++ x ∷ []) ≡ xs
  without-last [] x = refl
  without-last (y ∷ xs) x = ap (λ zs. y ∷ zs) (without-last xs x)

  at-last : (xs : List X) (x : X) → slice_get (xs ++ x ∷ []) (length xs) ≡ Some x
  at-last [] x = refl
  at-last (y ∷ xs) x = at-last xs x

module _ (f : Float) (v mid : FloatPool) (taken : mid ≡ with_current (entries.Float f ∷ []) v) (k : ℕ) (last : k ≡ length mid.lists.current - 1) where
  place-is : k ≡ length v.lists.current
  place-is = last ∙ ap (λ (m : FloatPool). length m.lists.current - 1) taken ∙ omega (arith, length-append v.lists.current (entries.Float f ∷ []))

  there : slice_get mid.lists.current k ≡ Some (entries.Float f)
  there = (λ i. slice_get (taken i).lists.current (place-is i)) ∙ at-last v.lists.current (entries.Float f)

  pub float-there : HasFloatAt mid.lists.current k
  float-there = (f, there)

  moved : moved_float parts.Current k parts.Second f mid ≡ taken_by true f v
  moved =
      (λ i. moved_float parts.Current (place-is i) parts.Second f (taken i))
      ∙ ap (λ (es : List Entry). record v { lists = record v.lists { current = es; second = v.lists.second ++ f ∷ [] }; second_marks = v.second_marks ++ false ∷ [] }) (without-last v.lists.current (entries.Float f))

  moved-above : moved_float parts.Current k parts.Double f mid ≡ with_floats_after parts.Double (f ∷ []) v
  moved-above =
      (λ i. moved_float parts.Current (place-is i) parts.Double f (taken i))
      ∙ ap (λ (es : List Entry). record v { lists = record v.lists { current = es; double = v.lists.double ++ f ∷ [] } }) (without-last v.lists.current (entries.Float f))

  -- it is a title
  pub taken-above : (now : FloatPool) → ((g : Float) → slice_get mid.lists.current k ≡ Some (entries.Float g) → now ≡ moved_float parts.Current k parts.Double g mid) → now ≡ with_floats_after parts.Double (f ∷ []) v
  taken-above now is = is f there ∙ moved-above

module _ (p : Params) (f : Float) (v mid : FloatPool) (taken : mid ≡ with_current (entries.Float f ∷ []) v) where
  -- it does not wait for a page
  pub taken-current : (has_second p && f.wide) ≡ false → mid ≡ taken_into p f v
  taken-current e = taken ∙ ap (λ t. taken_by t f v) (sym e)

  -- it waits for a page
  pub taken-second : (k : ℕ) (last : k ≡ length mid.lists.current - 1) → (has_second p && f.wide) ≡ true → (now : FloatPool) → ((g : Float) → slice_get mid.lists.current k ≡ Some (entries.Float g) → now ≡ moved_float parts.Current k parts.Second g mid) → now ≡ taken_into p f v
  taken-second k last e now is = is f (there f v mid taken k last) ∙ moved f v mid taken k last ∙ ap (λ t. taken_by t f v) (sym e)

-- a title takes a place that a warning would have
pub room-above : (f : Float) (v now : FloatPool) (a b : ℕ) → now ≡ with_floats_after parts.Double (f ∷ []) v → HasRoomFor v a → a ≤ b → HasRoomFor now b
room-above f v now a b e room less = subst (λ x. HasRoomFor x b) (sym e) (omega (arith, length-append v.lists.double (f ∷ []), room, less))
