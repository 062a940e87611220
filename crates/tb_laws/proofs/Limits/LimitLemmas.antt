-- Each float that a firing places keeps the limits of its list.
use Rattle.std.proofs.Common.{◌≡◌, refl, sym, ap, subst, ℕ, false, List}
use Rattle.std.specs.List.{AllByRecursion}
use Rattle.tb_break.proofs.EachLemmas.{all-push}
use Rattle.tb_param.specs.declared.Params.{Params}
use Rattle.tb_builder.specs.FiredPages.{Fired}
use Rattle.tb_float.specs.Rooms.{column_height_of}
use Rattle.tb_area.specs.Laws.{KeepsLimits}
use Rattle.tb_sheet.specs.Sheet.{PlainSheet, PlainSent, warned}
use Rattle.tb_output.specs.State.{State, Work, Recorded, placed, output, emptied, sends, records_also}
use Rattle.tb_output.specs.Pages
use Rattle.tb_output.specs.Output
use Rattle.tb_output.specs.Firing.{page_work}
use Rattle.tb_output.proofs.StepLaws.RefusedSteps.{by-sends, by-records, by-any-ship}
use Rattle.tb_output.proofs.StepLaws.ColumnSteps.{RecordLaw, ColumnStep, still, in_turn, records_one, ships_one}
use Rattle.tb_output.proofs.StepLaws.FiringSteps.{FiringStep, by_columns, warns_one, changes, fewer, afterwards, page_work-step}

-- the float that was placed had the mark `!`, or kept the limits with the parameters, the lists and the column height just before
abbrev pub IsLimited : Recorded → Type 0
IsLimited (placed p f place l height) = f.bang ≡ false → (height ≡ column_height_of p l) × KeepsLimits p l f place
IsLimited (output c) = Unit {0}
IsLimited (emptied l) = Unit {0}

abbrev pub AreLimited : List Recorded → Type 0
AreLimited rs = AllByRecursion IsLimited rs

-- ---- what a firing records

sends-records : (e : PlainSent) (w : Work) → (sends e w).records ≡ w.records
sends-records e w = by-sends (λ v. v.records ≡ w.records) e w refl refl

ship-records : (p : Params) (sheet : PlainSheet) (w : Work) → (Pages.ship p sheet w).records ≡ w.records
ship-records p sheet w = by-any-ship (λ v. v.records ≡ w.records) p sheet w refl refl refl

module _ (p : Params) (law : RecordLaw p) where
  abbrev AllLawful : List Recorded → Type 0
  AllLawful rs = AllByRecursion law.holds rs

  same : (rs qs : List Recorded) → qs ≡ rs → AllLawful rs → AllLawful qs
  same rs qs e h = subst AllLawful (sym e) h

  also-lawful : (r : Recorded) (w : Work) → law.holds r → AllLawful w.records → AllLawful (records_also r w).records
  also-lawful r w k h = by-records (λ v. AllLawful v.records) r w h (all-push law.holds w.records r h k)

  -- if all that the first records is lawful, all that the second records is
  column-lawful : {a b : Work} → ColumnStep p law a b → AllLawful a.records → AllLawful b.records
  column-lawful {a} {b} (still c f) h = same a.records b.records (ap (λ x. x.records) c) h
  column-lawful (in_turn x y) h = column-lawful y (column-lawful x h)
  column-lawful (records_one r w k) h = also-lawful r w k h
  column-lawful (ships_one sheet w) h = same w.records (Pages.ship p sheet w).records (ship-records p sheet w) h

  firing-lawful : {k : ℕ} {a b : Work} → FiringStep p law k a b → AllLawful a.records → AllLawful b.records
  firing-lawful (by_columns x) h = column-lawful x h
  firing-lawful (warns_one e w) h = same w.records (sends (warned e) w).records (sends-records (warned e) w) h
  firing-lawful {a} {b} (changes c) h = same a.records b.records (ap (λ x. x.records) c) h
  firing-lawful (fewer h x) k = firing-lawful x k
  firing-lawful (afterwards x y) h = firing-lawful y (firing-lawful x h)

-- what is so of placements within the limits and of columns is so of all that a firing records
pub out-records : (p : Params) (law : RecordLaw p) (s : State) (f : Fired) → AllByRecursion law.holds (Output.out p s f).records
unfolding Output.out page_work
out-records p law s f = firing-lawful p law (page_work-step p law s f) tt

-- a firing places floats within the limits alone
pub out-keeps : (p : Params) (s : State) (f : Fired) → AreLimited (Output.out p s f).records
out-keeps p s f = out-records p (record { holds = IsLimited; at_place = λ f place l k. λ plain. (refl, k plain); at_output = λ c. tt }) s f
