-- How many warnings and pages a firing sends, and how far it raises the page number.
use Rattle.std.proofs.Common.{◌≡◌, refl, ap, ℕ, suc, ◌+◌, ◌≤◌, List, [], ◌∷◌, ◌++◌, arith}
use Rattle.std.specs.Prelude.{nat_abs}
use Rattle.std.proofs.lemmas.Int.{ints}
use Rattle.tb_param.specs.declared.Params.{Params}
use Rattle.tb_builder.specs.FiredPages.{Fired}
use Rattle.tb_sheet.specs.Sheet.{PlainSheet, PlainSent, warned, shipped}
use Rattle.tb_sheet.specs.declared.Warn.{Warn}
use Rattle.tb_output.specs.State.{State, Work, Recorded, begun, sends, records_also}
use Rattle.tb_output.specs.Pages
use Rattle.tb_output.specs.Output
use Rattle.tb_output.specs.Firing.{page_work}
use Rattle.tb_output.proofs.StepLaws.RefusedSteps.{by-sends, by-records, by-ship}
use Rattle.tb_output.proofs.StepLaws.ColumnSteps as steps
use Rattle.tb_output.proofs.StepLaws.ColumnSteps.{no_law, ColumnStep}
use Rattle.tb_output.proofs.StepLaws.FiringSteps as firing
use Rattle.tb_output.proofs.StepLaws.FiringSteps.{FiringStep, page_work-step}

-- ---- what is counted

-- the warnings among what is sent
abbrev pub warning_count : List PlainSent → ℕ
warning_count [] = 0
warning_count (warned w ∷ es) = suc (warning_count es)
warning_count (shipped n sheet ∷ es) = warning_count es

-- the pages among what is sent
abbrev pub page_count : List PlainSent → ℕ
page_count [] = 0
page_count (warned w ∷ es) = page_count es
page_count (shipped n sheet ∷ es) = suc (page_count es)

pub warnings-append : (xs ys : List PlainSent) → warning_count (xs ++ ys) ≡ warning_count xs + warning_count ys
warnings-append [] ys = omega arith
warnings-append (warned w ∷ xs) ys = let h = warnings-append xs ys in omega (arith, h)
warnings-append (shipped n sheet ∷ xs) ys = warnings-append xs ys

pub pages-append : (xs ys : List PlainSent) → page_count (xs ++ ys) ≡ page_count xs + page_count ys
pages-append [] ys = omega arith
pages-append (warned w ∷ xs) ys = pages-append xs ys
pages-append (shipped n sheet ∷ xs) ys = let h = pages-append xs ys in omega (arith, h)

-- at most k warnings more, a page for each step of the page number, which stays within the limit
pub record SendsFew (p : Params) (k : ℕ) (a b : Work) : Type 0 where
  pub warnings : warning_count b.sent ≤ warning_count a.sent + k
  pub pages : page_count b.sent + a.state.page ≡ page_count a.sent + b.state.page
  pub limit : a.state.page ≤ nat_abs p.maxpages + 1 → b.state.page ≤ nat_abs p.maxpages + 1

-- ---- steps

module _ (p : Params) where
  abbrev Step : Work → Work → Type 0
  Step = SendsFew p 0

  still : {a b : Work} → b.sent ≡ a.sent → b.state.page ≡ a.state.page → Step a b
  still s q = record { warnings = omega (arith, ap warning_count s); pages = omega (arith, ap page_count s, q); limit = λ h. omega (arith, h, q) }

  afterwards : {j k : ℕ} {a b c : Work} → SendsFew p j a b → SendsFew p k b c → SendsFew p (j + k) a c
  afterwards x y = let w = x.warnings in let v = y.warnings in let m = x.pages in let n = y.pages in record { warnings = omega (arith, w, v); pages = omega (arith, m, n); limit = λ h. y.limit (x.limit h) }

  in_turn : {a b c : Work} → Step a b → Step b c → Step a c
  in_turn x y = afterwards x y

  fewer : {j k : ℕ} {a b : Work} → j ≤ k → SendsFew p j a b → SendsFew p k a b
  fewer h x = let w = x.warnings in record { warnings = omega (arith, w, h); pages = x.pages; limit = x.limit }

  warns_one : (e : Warn) (w : Work) → SendsFew p 1 w (sends (warned e) w)
  warns_one e w = by-sends (SendsFew p 1 w) (warned e) w (fewer (omega arith) (still refl refl))
      (record { warnings = let h = warnings-append w.sent (warned e ∷ []) in omega (arith, h); pages = let h = pages-append w.sent (warned e ∷ []) in omega (arith, h); limit = λ h. h })

  records_one : (r : Recorded) (w : Work) → Step w (records_also r w)
  records_one r w = by-records (Step w) r w (still refl refl) (still refl refl)

  ships_one : (sheet : PlainSheet) (w : Work) → Step w (Pages.ship p sheet w)
  ships_one sheet w =
      by-ship (Step w) p sheet w (λ r. still refl refl) (λ r. still refl refl)
      (λ r h. record {
        warnings = let e = warnings-append w.sent (shipped w.state.number sheet ∷ []) in omega (arith, e);
        pages = let e = pages-append w.sent (shipped w.state.number sheet ∷ []) in omega (arith, e);
        limit = λ k. grind (arith, ints, h, k);
      })

  -- what the steps of a column send
  column-few : {a b : Work} → ColumnStep p (no_law p) a b → Step a b
  column-few (steps.still c f) = still (ap (λ x. x.sent) c) (ap (λ x. x.page) c)
  column-few (steps.in_turn x y) = in_turn (column-few x) (column-few y)
  column-few (steps.records_one r w h) = records_one r w
  column-few (steps.ships_one sheet w) = ships_one sheet w

  -- what the steps of a firing send
  firing-few : {k : ℕ} {a b : Work} → FiringStep p (no_law p) k a b → SendsFew p k a b
  firing-few (firing.by_columns x) = column-few x
  firing-few (firing.warns_one e w) = warns_one e w
  firing-few (firing.changes c) = still (ap (λ x. x.sent) c) (ap (λ x. x.page) c)
  firing-few (firing.fewer h x) = fewer h (firing-few x)
  firing-few (firing.afterwards x y) = afterwards (firing-few x) (firing-few y)

-- a whole firing
pub out-few : (p : Params) (s : State) (f : Fired) → SendsFew p 2 (begun (Output.after_page s f)) (Output.out p s f)
unfolding Output.out page_work
out-few p s f = let x = firing-few p (page_work-step p (no_law p) s f) in record { warnings = x.warnings; pages = x.pages; limit = x.limit }
