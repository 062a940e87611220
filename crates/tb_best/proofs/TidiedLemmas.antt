-- A state without what vanishes at the top of its next page has the same runs.
use Rattle.std.proofs.Common.{◌≡◌, refl, sym, ap, ℕ, ℤ, List, [], ◌∷◌, ◌++◌}
use Rattle.tb_node.specs.PlainNodes.{hbox, rule, skip, kerned, pen, mark, note, whatsit, PlainKind, plain, ins, act, PlainNode}
use Rattle.tb_galley.specs.declared.Galley.{Galley}
use Rattle.tb_break.specs.PageTop.{pruned_nodes}
use Rattle.tb_insert.specs.Account.{terms_after}
use Rattle.tb_builder.specs.Reach.{reach_from}
use Rattle.tb_builder.specs.FiredPages.{frozen_for}
use Rattle.tb_output.specs.State.{State}
use Rattle.tb_output.specs.Act.{act_on}
use Rattle.tb_steps.proofs.LedLemmas.{led-both}
use Rattle.tb_steps.specs.Run.{led_through, ask_for}
use Rattle.tb_rate.specs.Places.{place_penalties}
use Rattle.tb_best.specs.ItemsAhead.{state_with}
use Rattle.tb_best.specs.ClosedTables.{AreAlike}
use Rattle.tb_best.specs.Tidied.{tidied_nodes, tidied}
use Rattle.tb_best.proofs.TopBreaks.{asked-in, run-in}

module _ (top : ℤ) where
  tidied-node : (l : ℕ) (k : PlainKind) (ns more : List PlainNode) → pruned_nodes top (tidied_nodes ns ++ more) ≡ pruned_nodes top (ns ++ more)
      → pruned_nodes top (tidied_nodes (record { line = l; kind = k } ∷ ns) ++ more) ≡ pruned_nodes top (record { line = l; kind = k } ∷ ns ++ more)
  tidied-node l (plain (hbox a b d)) ns more ih = refl
  tidied-node l (plain (rule a b d)) ns more ih = refl
  tidied-node l (plain (skip g)) ns more ih = ih
  tidied-node l (plain (kerned g)) ns more ih = ih
  tidied-node l (plain (pen p)) ns more ih = ih
  tidied-node l (plain (mark a)) ns more ih = ap (λ xs. record { line = l; kind = plain (mark a) } ∷ xs) ih
  tidied-node l (plain (note a)) ns more ih = ap (λ xs. record { line = l; kind = plain (note a) } ∷ xs) ih
  tidied-node l (plain whatsit) ns more ih = ap (λ xs. record { line = l; kind = plain whatsit } ∷ xs) ih
  tidied-node l (ins i) ns more ih = ap (λ xs. record { line = l; kind = ins i } ∷ xs) ih
  tidied-node l (act a) ns more ih = ap (λ xs. record { line = l; kind = act a } ∷ xs) ih

  tidied-top : (ns more : List PlainNode) → pruned_nodes top (tidied_nodes ns ++ more) ≡ pruned_nodes top (ns ++ more)
  tidied-top [] more = refl
  tidied-top (n ∷ ns) more = tidied-node n.line n.kind ns more (tidied-top ns more)

tidied-kind : (ns more : List PlainNode) → ((t : State) → led_through (tidied_nodes ns ++ more) t ≡ led_through (ns ++ more) t) → (s : State) (l : ℕ) (k : PlainKind)
    → led_through (tidied_nodes (record { line = l; kind = k } ∷ ns) ++ more) s ≡ led_through (record { line = l; kind = k } ∷ ns ++ more) s
tidied-kind ns more ih s l (plain (hbox a b d)) = refl
tidied-kind ns more ih s l (plain (rule a b d)) = refl
tidied-kind ns more ih s l (plain (skip g)) = ih s
tidied-kind ns more ih s l (plain (kerned g)) = ih s
tidied-kind ns more ih s l (plain (pen q)) = ih s
tidied-kind ns more ih s l (plain (mark a)) = ih s
tidied-kind ns more ih s l (plain (note a)) = ih s
tidied-kind ns more ih s l (plain whatsit) = ih s
tidied-kind ns more ih s l (ins i) = refl
tidied-kind ns more ih s l (act a) = led-both (led_through (tidied_nodes ns ++ more)) (led_through (ns ++ more)) s (act_on s.params s a) ih

-- the acts before the first box are the same
tidied-led : (ns more : List PlainNode) (s : State) → led_through (tidied_nodes ns ++ more) s ≡ led_through (ns ++ more) s
tidied-led [] more s = refl
tidied-led (n ∷ ns) more s = tidied-kind ns more (tidied-led ns more) s n.line n.kind

-- a state and the tidied one are alike
pub tidied-alike : (g : Galley) (s : State) → AreAlike g s (tidied s)
tidied-alike g s fuel more =
    let made = ask_for (state_with more s) in
    sym (run-in (place_penalties g.items) fuel (state_with more s) (tidied_nodes s.waiting ++ more)
    (asked-in s (tidied_nodes s.waiting ++ more) (s.waiting ++ more) (tidied-led s.waiting more s))
    (ap (reach_from made.max_depth (terms_after (frozen_for made s.classes s.boxes)) []) (tidied-top made.top_skip s.waiting more)))
