-- What is sent, recorded or shipped, case by case: a work that the page limit stopped stays as it is.
use Rattle.std.proofs.Common.{◌≡◌, refl, ◌+◌, pos, Bool, true, false, [], ◌∷◌, ◌++◌, arith}
use Rattle.std.specs.Prelude.{int_lt, if◌then◌else◌}
use Rattle.tb_param.specs.declared.Params.{Params}
use Rattle.tb_sheet.specs.Sheet.{PlainSheet, PlainSent, shipped}
use Rattle.tb_output.specs.State.{Work, Recorded, sends, records_also}
use Rattle.tb_output.specs.Pages

module _ (P : Work → Type 0) where
  -- a step that the limit may have stopped before
  pub unless-stopped : (w next : Work) → (w.refused ≡ true → P w) → (w.refused ≡ false → P next) → P (if w.refused then w else next)
  unless-stopped w next x y = by_refused w.refused refl
    where
      by_refused : (t : Bool) → w.refused ≡ t → P (if t then w else next)
      by_refused true e = x e
      by_refused false e = y e

  pub by-sends : (e : PlainSent) (w : Work) → P w → P (record w { sent = w.sent ++ e ∷ [] }) → P (sends e w)
  by-sends e w x y = unless-stopped w (record w { sent = w.sent ++ e ∷ [] }) (λ r. x) (λ r. y)

  pub by-records : (r : Recorded) (w : Work) → P w → P (record w { records = w.records ++ r ∷ [] }) → P (records_also r w)
  by-records r w x y = unless-stopped w (record w { records = w.records ++ r ∷ [] }) (λ r. x) (λ r. y)

  -- a page is shipped, or the limit stops it
  pub by-ship : (p : Params) (sheet : PlainSheet) (w : Work) → (w.refused ≡ true → P w) → (w.refused ≡ false → P (record w { refused = true }))
      → (w.refused ≡ false → int_lt p.maxpages (pos w.state.page) ≡ false → P (record w { state = record w.state { page = w.state.page + 1; number = w.state.number + 1; dead_cycles = 0 }; sent = w.sent ++ shipped w.state.number sheet ∷ [] })) → P (Pages.ship p sheet w)
  by-ship p sheet w x y z = unless-stopped w (if int_lt p.maxpages (pos w.state.page) then record w { refused = true } else Pages.ship_now sheet w) x (λ r. by_limit r (int_lt p.maxpages (pos w.state.page)) refl)
    where
      counted : Work
      counted = record w { state = record w.state { page = w.state.page + 1; number = w.state.number + 1; dead_cycles = 0 } }

      by_limit : w.refused ≡ false → (t : Bool) → int_lt p.maxpages (pos w.state.page) ≡ t → P (if t then record w { refused = true } else Pages.ship_now sheet w)
      by_limit r true e = y r
      by_limit r false e = unless-stopped counted (record counted { sent = w.sent ++ shipped w.state.number sheet ∷ [] }) (λ k. let no : ⊥ = grind (arith, r, k) in absurd no) (λ k. z r e)

  -- the same, whatever was before
  pub by-any-ship : (p : Params) (sheet : PlainSheet) (w : Work) → P w → P (record w { refused = true }) → P (record w { state = record w.state { page = w.state.page + 1; number = w.state.number + 1; dead_cycles = 0 }; sent = w.sent ++ shipped w.state.number sheet ∷ [] }) → P (Pages.ship p sheet w)
  by-any-ship p sheet w x y z = by-ship p sheet w (λ r. x) (λ r. y) (λ r e. z)
