-- All that is reached by moves is a closed table, for the best plan.
use Rattle.std.proofs.Common.{◌≡◌, refl, sym, ◌∙◌, ap, ◌⊎◌, inl, inr, ℕ, ℤ, Bool, true, false, List, [], ◌∷◌, Some, arith}
use Rattle.std.specs.Prelude.{pos, ◌+ℤ◌, ◌≤ℤ◌, ◌<ℤ◌, int_lt, reverse}
use Rattle.std.proofs.lemmas.Int.{ints}
use Rattle.std.proofs.lemmas.List.{reverse-reverse}
use Rattle.tb_galley.specs.declared.Galley.{Galley}
use Rattle.tb_lines.specs.LeastSolution.{is_greater}
use Rattle.tb_output.specs.State.{State}
use Rattle.tb_best.specs.BestPlan.{IsBest}
use Rattle.tb_best.specs.ItemsAhead.{Ahead, forced, state_with}
use Rattle.tb_best.specs.ClosedTables as tables
use Rattle.tb_best.specs.ClosedTables.{Reaches, IsEnd, IsAsGood, IsNoBetter, IsClosed}
use Rattle.tb_best.specs.PageTables.{TakesOn, none, more, IsClosedByPages}
use Rattle.tb_best.proofs.TurnLemmas.{fires-here}
use Rattle.tb_best.proofs.WayLemmas.{ends-are-plans}

less-or-same : (a b : ℤ) (t : Bool) → int_lt a b ≡ t → a ≤ℤ b → (a <ℤ b) ⊎ (b ≡ a)
less-or-same a b true e h = inl (grind (arith, ints, e))
less-or-same a b false e h = inr (grind (arith, ints, e, h))

module _ (g : Galley) (plan : List ℕ) (total : ℤ) (best : IsBest g plan total) where
  end-no-better : (d : ℤ) (breaks : List ℕ) → IsEnd g d breaks → IsNoBetter total (reverse plan) d breaks
  end-no-better d breaks e = let is = ends-are-plans g d breaks e in by (less-or-same total d (int_lt total d) refl (best.least (reverse breaks) d is.0 is.1))
    where
      by : (total <ℤ d) ⊎ (d ≡ total) → IsNoBetter total (reverse plan) d breaks
      by (inl h) = inl h
      by (inr h) =
          let is = ends-are-plans g d breaks e in
          inr (h, ap (λ l. is_greater l (reverse plan)) (sym (reverse-reverse breaks)) ∙ best.greatest (reverse breaks) is.0 (is.1 ∙ ap Some h))

  as-good-itself : (t : State) → IsAsGood g t t
  as-good-itself t fuel behind d keep h = (d, h, omega (arith, ints))

  pub reached-closed : IsClosed g total (reverse plan) (Reaches g)
  reached-closed = record {
    begins = tables.begun;
    takes = λ s c cs d breaks h quiet. tables.takes s c cs d breaks h;
    cuts = λ s c cs d breaks h quiet place box. inl (tables.cuts s c cs d breaks h place);
    fills = λ s t cs d breaks es rs h fires e. inl (t, as-good-itself t, tables.fills s t cs d breaks es rs h fires e);
    finishes = λ s d breaks es rs left h quiet e. end-no-better d breaks (record { state = s; events = es; records = rs; left = left; reached = h; ends_well = e });
  }

  on-from : (s : State) (cs : List Ahead) (t : State) (ds : List Ahead) (d : ℤ) (breaks : List ℕ) → Reaches g s cs d breaks → TakesOn g s cs t ds → Reaches g t ds d breaks
  on-from s cs _ _ d breaks h none = h
  on-from s cs _ _ d breaks h (more t c ds way quiet) = tables.takes t c ds d breaks (on-from s cs t (c ∷ ds) d breaks h way)

  pub reached-by-pages : IsClosedByPages g total (reverse plan) (Reaches g)
  reached-by-pages = record {
    begins = tables.begun;
    fills = λ s t u cs ds d breaks es rs h way fires e. inl (u, as-good-itself u, tables.fills t u ds d breaks es rs (on-from s cs t ds d breaks h way) fires e);
    cuts = λ s t u c cs ds d breaks es rs h way quiet place box e.
        inl (
          u,
          as-good-itself u,
          tables.fills (state_with (forced c ∷ c.nodes) t) u ds (d +ℤ pos 1000) (c.number ∷ breaks) es rs
              (tables.cuts t c ds d breaks (on-from s cs t (c ∷ ds) d breaks h way) place)
              (fires-here (state_with (forced c ∷ c.nodes) t) u es rs e) e,
        );
    finishes = λ s t cs d breaks es rs left h way quiet e.
        end-no-better d breaks (record { state = t; events = es; records = rs; left = left; reached = on-from s cs t [] d breaks h way; ends_well = e });
  }
