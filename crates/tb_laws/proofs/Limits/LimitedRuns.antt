-- The floats that a run places keep the limits of their lists.
use Rattle.std.proofs.Common.{sym, subst, List, [], ◌∷◌}
use Rattle.std.specs.List.{AllByRecursion}
use Rattle.std.proofs.lemmas.Bool.{not-true}
use Rattle.tb_node.specs.declared.Act.{Act}
use Rattle.tb_node.specs.declared.Float.{Float}
use Rattle.tb_node.specs.declared.Where.{Where}
use Rattle.tb_node.specs.declared.Where.TheVariants as places
use Rattle.tb_param.specs.declared.Params.{Params}
use Rattle.tb_param.specs.declared.SetPlace.{SetPlace}
use Rattle.tb_param.specs.declared.SetPlace.TheVariants as set_places
use Rattle.tb_param.specs.Changes.{set_place}
use Rattle.tb_galley.specs.declared.Galley.{Galley}
use Rattle.tb_float.specs.Lists.{FloatLists}
use Rattle.tb_float.specs.Rooms.{column_height_of}
use Rattle.tb_sheet.specs.declared.Warn.{Warn}
use Rattle.tb_area.specs.Laws as area
use Rattle.tb_output.specs.State.{State, Recorded, placed, output, emptied}
use Rattle.tb_output.specs.Act.{set_records}
use Rattle.tb_laws.proofs.Limits.LimitLemmas.{IsLimited, AreLimited, out-keeps}
use Rattle.tb_steps.specs.Run.{run_of}
use Rattle.tb_steps.proofs.RunTree.{ActMove, fired_at, galley-is, changes_columns, sets_parameter}
use Rattle.tb_steps.proofs.RunFolds.{each_record, RunLaw, run-holds}
use Rattle.tb_laws.specs.Laws.{PlacedWithin, KeepsLimits, WithinLimits}

-- ---- a record

placed-within : (p : Params) (f : Float) (l : FloatLists) (place : Where) → area.KeepsLimits p l f place → PlacedWithin p f l (column_height_of p l) place
placed-within p f l places.Here k = k
placed-within p f l places.Top k = (record { room = k.2; count = k.1 }, k.0)
placed-within p f l places.Bottom k = (record { room = k.2; count = k.1 }, k.0)
placed-within p f l places.Page k = tt
placed-within p f l places.Double k = record { room = k.1; count = k.0 }
placed-within p f l places.Deferred k = tt

record-within : (r : Recorded) → IsLimited r → KeepsLimits r
record-within (placed p f place l height) k = λ plain.
    let both = k (not-true f.bang plain) in
    subst (λ h. PlacedWithin p f l h place) (sym both.0) (placed-within p f l place both.1)
record-within (output c) k = tt
record-within (emptied l) k = tt

records-within : (rs : List Recorded) → AreLimited rs → AllByRecursion KeepsLimits rs
records-within [] k = tt
records-within (r ∷ rs) k = (record-within r k.0, records-within rs k.1)

-- ---- a run

set-limited : (x : SetPlace) (l : FloatLists) → AreLimited (set_records x l)
set-limited set_places.AfterClear l = (tt, tt)
set-limited x l = tt

act-limited : {p : Params} {s t : State} {a : Act} {ws : List Warn} {rs : List Recorded} → ActMove p s a t ws rs → AreLimited rs
act-limited (changes_columns two) = (tt, tt)
act-limited (sets_parameter {s = s} c) = set-limited (set_place c.field) s.floats
act-limited m = tt

abbrev limits : RunLaw
limits = record {
  shows = each_record IsLimited;
  between = λ s. Unit {0};
  within = λ o rs s. Unit {0};
  begins = λ s h. tt;
  tries = λ o line b least rs s h. (tt, tt);
  acts = λ o s t a ws records rs m h. (act-limited m, tt);
  fires = λ o s h. (out-keeps s.params s (fired_at o s), tt);
  stops = λ o s h. (tt, tt);
}

pub run-within : (g : Galley) → WithinLimits (run_of g)
run-within g = records-within (run_of g).records (run-holds limits (galley-is g) tt)
