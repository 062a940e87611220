-- The floats that wait, among entries.
use Rattle.std.proofs.Common.{◌≡◌, ℕ, zero, suc, ◌<◌, List, [], ◌∷◌, length, Some, slice_get, refl, sym, ap, subst, ◌∙◌, arith}
use Rattle.tb_node.specs.declared.Float.{Float}
use Rattle.tb_float.specs.declared.Entry.TheVariants as entries
use Rattle.tb_float.specs.declared.Part.{Part}
use Rattle.tb_float.specs.Lists.{FloatLists, HasFloatAt, IsWaiting, float_entries, floats_of, entries_of}
use Rattle.tb_float.proofs.WaitingLemmas.{waiting-entries}

-- each entry of a list of floats is a float
pub float_stands : (fs : List Float) (k : ℕ) → k < length fs → HasFloatAt (float_entries fs) k
float_stands [] k lt = absurd (omega arith)
float_stands (f ∷ fs) zero lt = (f, refl)
float_stands (f ∷ fs) (suc k) lt = float_stands fs k (omega arith)

-- the float of an entry is the one of the list
pub float_there : (fs : List Float) (k : ℕ) (f : Float) → Some (entries.Float f) ≡ slice_get (float_entries fs) k → slice_get fs k ≡ Some f
float_there [] k f e = cc
float_there (g ∷ fs) zero f e = cc
float_there (g ∷ fs) (suc k) f e = float_there fs k f e

-- the entry of a float of the list
pub entry_there : (fs : List Float) (k : ℕ) (f : Float) → slice_get fs k ≡ Some f → slice_get (float_entries fs) k ≡ Some (entries.Float f)
entry_there [] k f e = cc
entry_there (g ∷ fs) zero f e = cc
entry_there (g ∷ fs) (suc k) f e = entry_there fs k f e

-- the same in a list in which floats wait
pub waiting_stands : (from : Part) → IsWaiting from → (l : FloatLists) (k : ℕ) → k < length (floats_of from l) → HasFloatAt (entries_of from l) k
waiting_stands from w l k lt = subst (λ es. HasFloatAt es k) (sym (waiting-entries from w l)) (float_stands (floats_of from l) k lt)

pub waiting_there : (from : Part) → IsWaiting from → (l : FloatLists) (k : ℕ) (f : Float) → Some (entries.Float f) ≡ slice_get (entries_of from l) k → slice_get (floats_of from l) k ≡ Some f
waiting_there from w l k f e = float_there (floats_of from l) k f (e ∙ ap (λ es. slice_get es k) (waiting-entries from w l))

pub waiting_entry : (from : Part) → IsWaiting from → (l : FloatLists) (k : ℕ) (f : Float) → slice_get (floats_of from l) k ≡ Some f → slice_get (entries_of from l) k ≡ Some (entries.Float f)
waiting_entry from w l k f e = ap (λ es. slice_get es k) (waiting-entries from w l) ∙ entry_there (floats_of from l) k f e

-- the float at a place
pub there_some : (fs : List Float) (k : ℕ) → k < length fs → (f : Float) × (slice_get fs k ≡ Some f)
there_some [] k lt = absurd (omega arith)
there_some (f ∷ fs) zero lt = (f, refl)
there_some (f ∷ fs) (suc k) lt = there_some fs k (omega arith)
