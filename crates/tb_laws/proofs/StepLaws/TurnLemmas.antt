-- A firing ships a page, or leaves the page number and the dead cycles as they were.
use Rattle.std.proofs.Common.{◌≡◌, refl, sym, ◌∙◌, ap, ℕ, ◌+◌, ◌<◌, ◌≤◌, inl, inr, ◌⊎◌, false, arith}
use Rattle.std.specs.Prelude.{nat_abs}
use Rattle.std.proofs.lemmas.Int.{ints}
use Rattle.tb_param.specs.declared.Params.{Params}
use Rattle.tb_builder.specs.FiredPages.{Fired}
use Rattle.tb_sheet.specs.Sheet.{PlainSheet, PlainSent, warned}
use Rattle.tb_output.specs.State.{State, Work, Recorded, begun, sends, records_also}
use Rattle.tb_output.specs.Pages
use Rattle.tb_output.specs.Output
use Rattle.tb_output.specs.Firing.{page_work}
use Rattle.tb_output.proofs.StepLaws.RefusedSteps.{by-sends, by-records, by-ship}
use Rattle.tb_output.proofs.StepLaws.ColumnSteps.{RecordLaw, no_law, course, ColumnStep, still, in_turn, records_one, ships_one}
use Rattle.tb_output.proofs.StepLaws.FiringSteps.{FiringStep, by_columns, warns_one, changes, fewer, afterwards, page_work-step}

-- the page number and the dead cycles are as before; or the page number rose, to at most one more than the pages allowed, and there are no dead cycles
abbrev pub Counts : Params → State → State → Type 0
Counts p s t = (t.page ≡ s.page × t.dead_cycles ≡ s.dead_cycles) ⊎ (s.page < t.page × t.page ≤ nat_abs p.maxpages + 1 × t.dead_cycles ≡ 0)

-- if the second is not refused, the first is not, and the counts are so
pub record Turned (p : Params) (a b : Work) : Type 0 where
  pub by : b.refused ≡ false → (a.refused ≡ false) × Counts p a.state b.state

module _ {p : Params} where
  same : {a b : Work} → b.refused ≡ a.refused → b.state.page ≡ a.state.page → b.state.dead_cycles ≡ a.state.dead_cycles → Turned p a b
  same r q d = record { by = λ h. (sym r ∙ h, inl (q, d)) }

  joined : {a b c : Work} → Turned p a b → Turned p b c → Turned p a c
  joined x y = record { by = λ h. grind (arith, x.by, y.by, h) }

  sends-turned : (e : PlainSent) (w : Work) → Turned p w (sends e w)
  sends-turned e w = by-sends (Turned p w) e w (same refl refl refl) (same refl refl refl)

  records-turned : (r : Recorded) (w : Work) → Turned p w (records_also r w)
  records-turned r w = by-records (Turned p w) r w (same refl refl refl) (same refl refl refl)

  course-turned : {a b : Work} → course b ≡ course a → Turned p a b
  course-turned c = same (ap (λ x. x.refused) c) (ap (λ x. x.page) c) (ap (λ x. x.dead_cycles) c)

ship-turned : (p : Params) (sheet : PlainSheet) (w : Work) → Turned p w (Pages.ship p sheet w)
ship-turned p sheet w =
    by-ship (Turned p w) p sheet w (λ r. same refl refl refl) (λ r. record { by = λ k. absurd (grind (arith, k)) })
    (λ r h. record { by = λ k. (r, inr (omega arith, grind (arith, ints, h), refl)) })

column-turned : {p : Params} {law : RecordLaw p} {a b : Work} → ColumnStep p law a b → Turned p a b
column-turned (still c f) = course-turned c
column-turned (in_turn x y) = joined (column-turned x) (column-turned y)
column-turned (records_one r w h) = records-turned r w
column-turned {p} (ships_one sheet w) = ship-turned p sheet w

firing-turned : {p : Params} {law : RecordLaw p} {k : ℕ} {a b : Work} → FiringStep p law k a b → Turned p a b
firing-turned (by_columns x) = column-turned x
firing-turned (warns_one e w) = sends-turned (warned e) w
firing-turned (changes c) = course-turned c
firing-turned (fewer h x) = firing-turned x
firing-turned (afterwards x y) = joined (firing-turned x) (firing-turned y)

-- what a firing does to the page number and the dead cycles
pub out-turned : (p : Params) (s : State) (f : Fired) → Turned p (begun (Output.after_page s f)) (Output.out p s f)
unfolding Output.out page_work
out-turned p s f = let x = firing-turned (page_work-step p (no_law p) s f) in record { by = x.by }
