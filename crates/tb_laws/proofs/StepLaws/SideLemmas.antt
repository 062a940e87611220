-- Which floats wait where: in release 2014 the wide ones wait in the second list and the others are single; in release 2015 that list is empty.
use Rattle.std.proofs.Common.{◌≡◌, refl, sym, subst, Bool, true, false, List, [], ◌∷◌, ◌++◌, arith}
use Rattle.std.specs.Prelude.{if◌then◌else◌}
use Rattle.std.specs.List.{AllByRecursion}
use Rattle.tb_break.proofs.EachLemmas.{all-join}
use Rattle.tb_node.specs.declared.Float.{Float}
use Rattle.tb_node.specs.declared.Where.{Where}
use Rattle.tb_node.specs.declared.Where.TheVariants as places
use Rattle.tb_param.specs.declared.Params.{Params}
use Rattle.tb_param.specs.Release.{has_second}
use Rattle.tb_float.specs.declared.Part.{Part}
use Rattle.tb_float.specs.declared.Part.TheVariants as parts
use Rattle.tb_float.specs.Lists.{FloatLists, no_floats, with_floats_of, IsWaiting, wide_part}
use Rattle.tb_output.specs.FloatMoves
use Rattle.tb_output.specs.Clear
use Rattle.tb_laws.proofs.DeadCycles.ColumnOutcomes.{NotDouble}
use Rattle.tb_laws.proofs.DeadCycles.ClearOutcomes.{Single, Wide, Narrow}

-- by the list in which wide floats wait
abbrev pub Sides : Part → FloatLists → Type 0
Sides parts.Current l = Unit {0}
Sides parts.Here l = Unit {0}
Sides parts.Top l = Unit {0}
Sides parts.Bottom l = Unit {0}
Sides parts.Deferred l = l.second ≡ []
Sides parts.Double l = Unit {0}
Sides parts.Second l = Narrow l × AllByRecursion Wide l.second

-- a float that may be among those that do not wait for a page
abbrev pub Fitting : Part → Float → Type 0
Fitting parts.Current f = Unit {0}
Fitting parts.Here f = Unit {0}
Fitting parts.Top f = Unit {0}
Fitting parts.Bottom f = Unit {0}
Fitting parts.Deferred f = Unit {0}
Fitting parts.Double f = Unit {0}
Fitting parts.Second f = Single f

-- what the invariant says in each release
pub none-second : (p : Params) (l : FloatLists) → Sides (wide_part p) l → has_second p ≡ false → l.second ≡ []
none-second p l h r = by_release (has_second p) r h
  where
    by_release : (t : Bool) → t ≡ false → Sides (if t then parts.Second else parts.Deferred) l → l.second ≡ []
    by_release true r h = let no : ⊥ = grind (arith, r) in absurd no
    by_release false r h = h

pub wide-second : (p : Params) (l : FloatLists) → Sides (wide_part p) l → AllByRecursion Wide l.second
wide-second p l h = by_release (has_second p) h
  where
    by_release : (t : Bool) → Sides (if t then parts.Second else parts.Deferred) l → AllByRecursion Wide l.second
    by_release true h = h.1
    by_release false h = subst (AllByRecursion Wide) (sym h) tt

pub narrow-lists : (p : Params) (l : FloatLists) → Sides (wide_part p) l → has_second p ≡ true → Narrow l
narrow-lists p l h r = by_release (has_second p) r h
  where
    by_release : (t : Bool) → t ≡ true → Sides (if t then parts.Second else parts.Deferred) l → Narrow l
    by_release true r h = h.0
    by_release false r h = let no : ⊥ = grind (arith, r) in absurd no

-- if there is no float, it holds
pub no-sides : (from : Part) → Sides from no_floats
no-sides parts.Deferred = refl
no-sides parts.Second = (record { top = tt; bottom = tt; deferred = tt }, tt)
no-sides from = tt

-- ---- a float goes to a place

pub joined-sides : (from : Part) (place : Where) (f : Float) (l : FloatLists) → NotDouble place → Fitting from f → Sides from l → Sides from (FloatMoves.joined_to place f l)
joined-sides parts.Deferred places.Double f l n k h = absurd n
joined-sides parts.Deferred place f l n k h = h
joined-sides parts.Second places.Here f l n k h = (record { top = h.0.top; bottom = h.0.bottom; deferred = h.0.deferred }, h.1)
joined-sides parts.Second places.Top f l n k h = (record { top = all-join Single l.top (f ∷ []) h.0.top (k, tt); bottom = h.0.bottom; deferred = h.0.deferred }, h.1)
joined-sides parts.Second places.Bottom f l n k h = (record { top = h.0.top; bottom = all-join Single l.bottom (f ∷ []) h.0.bottom (k, tt); deferred = h.0.deferred }, h.1)
joined-sides parts.Second places.Page f l n k h = h
joined-sides parts.Second places.Double f l n k h = absurd n
joined-sides parts.Second places.Deferred f l n k h = (record { top = h.0.top; bottom = h.0.bottom; deferred = all-join Single l.deferred (f ∷ []) h.0.deferred (k, tt) }, h.1)
joined-sides from place f l n k h = tt

-- a float goes to the double list
pub doubled-sides : (from : Part) (f : Float) (l : FloatLists) → Sides from l → Sides from (FloatMoves.joined_to places.Double f l)
doubled-sides parts.Deferred f l h = h
doubled-sides parts.Second f l h = (record { top = h.0.top; bottom = h.0.bottom; deferred = h.0.deferred }, h.1)
doubled-sides from f l h = tt

-- ---- other floats are among those that wait

-- among those that wait for a page: in the second list they are wide
pub waiting-sides : (from : Part) → IsWaiting from → (gs : List Float) (l : FloatLists) → (AllByRecursion Wide l.second → from ≡ parts.Second → AllByRecursion Wide gs) → Sides from l → Sides from (with_floats_of from gs l)
waiting-sides parts.Deferred q gs l k h = h
waiting-sides parts.Second q gs l k h = (record { top = h.0.top; bottom = h.0.bottom; deferred = h.0.deferred }, k h.1 refl)
waiting-sides from q gs l k h = absurd q

-- among the deferred ones: in release 2014 they are single
pub deferred-sides : (from : Part) → (gs : List Float) (l : FloatLists) → (AllByRecursion Single l.deferred → AllByRecursion Single gs) → Sides from l → Sides from (record l { deferred = gs })
deferred-sides parts.Deferred gs l k h = h
deferred-sides parts.Second gs l k h = (record { top = h.0.top; bottom = h.0.bottom; deferred = k h.0.deferred }, h.1)
deferred-sides from gs l k h = tt

-- the floats of the areas wait again
pub gathered-sides : (from : Part) (l : FloatLists) → Sides from l → Sides from (Clear.deferred_again l)
gathered-sides parts.Deferred l h = h
gathered-sides parts.Second l h = (record { top = tt; bottom = tt; deferred = all-join Single (l.top ++ l.bottom) l.deferred (all-join Single l.top l.bottom h.0.top h.0.bottom) h.0.deferred }, h.1)
gathered-sides from l h = tt

-- the floats of the areas are gone
pub text-sides : (from : Part) (l : FloatLists) → Sides from l → Sides from (record l { here = []; top = []; bottom = [] })
text-sides parts.Deferred l h = h
text-sides parts.Second l h = (record { top = tt; bottom = tt; deferred = h.0.deferred }, h.1)
text-sides from l h = tt

-- the double floats are gone
pub undoubled-sides : (from : Part) (l : FloatLists) → Sides from l → Sides from (record l { double = [] })
undoubled-sides parts.Deferred l h = h
undoubled-sides parts.Second l h = (record { top = h.0.top; bottom = h.0.bottom; deferred = h.0.deferred }, h.1)
undoubled-sides from l h = tt
