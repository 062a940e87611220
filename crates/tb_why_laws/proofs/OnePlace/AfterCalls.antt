-- Which floats are still to be called after a firing of a running state.
use Rattle.std.proofs.Common.{◌≡◌, ◌∙◌, ap, subst, ℕ, ◌+◌, ◌≤◌, true, List, [], ◌∷◌, take, None, arith}
use Rattle.tb_node.specs.declared.Float.{Float}
use Rattle.tb_insert.specs.Account.{labelled}
use Rattle.tb_builder.specs.FiredPages.{page_break, frozen_for}
use Rattle.tb_builder.proofs.Cutting.CutLemmas.{held-ins}
use Rattle.tb_builder.proofs.FiredPages.PageWeights.{labelled-class}
use Rattle.tb_float.specs.declared.Entry.{Entry}
use Rattle.tb_float.specs.declared.Entry.TheVariants as entries
use Rattle.tb_output.specs.State.{State}
use Rattle.tb_steps.specs.Run.{ask_for}
use Rattle.tb_output.specs.Output.{out}
use Rattle.tb_laws.proofs.ClassesRise.RisingLists.{IsAmong}
use Rattle.tb_laws.proofs.ClassesRise.PageLines.{deeds, ins-deeds}
use Rattle.tb_laws.proofs.NothingLost.StateWeights.{entries_weight, class_numbers}
use Rattle.tb_laws.proofs.NothingLost.RunWeights.{page_of, cut_feet}
use Rattle.tb_why_laws.proofs.OnePlace.WaitingLines.{uncalled}
use Rattle.tb_why_laws.proofs.OnePlace.Once.{of_line}
use Rattle.tb_why_laws.proofs.OnePlace.OnceStates.{Running, now, progressed, fires}
use Rattle.tb_why_laws.proofs.OnePlace.CallWeights.{deeds_weight, called_later, later-weighs, weighs-later}
use Rattle.tb_why_laws.proofs.OnePlace.CalledLater.{page-deeds}
use Rattle.tb_why_laws.proofs.OnePlace.OutCalls.{steady-deeds, is_text, out-current, out-behind, out-deeds}

module _ (s : State) (o : Running s) (e : (now s o).fault ≡ None) where
  abbrev next : State
  next = (now s o).state

  -- the held page has no acts, nor have the insertions that are held
  page_held : deeds next.held_page ≡ []
  page_held = ap deeds ((progressed s o (of_line 0)).after e).held ∙ steady-deeds s.held_page o.kept.placed.steady

  notes_held : deeds (fires s o).held ≡ []
  notes_held =
      let ks = class_numbers s.classes in
      let z = frozen_for (ask_for s) next.classes next.boxes in
      let before = take (page_break (page_of s)).place (page_of s).passed in
      ins-deeds ks (fires s o).held (held-ins ks (labelled z before) (labelled-class ks z [] [] before tt (cut_feet (of_line 0) s o.kept).0))

  pub waiting_deeds : deeds (out next.params next (fires s o)).state.waiting ≡ deeds (fires s o).rest
  waiting_deeds = out-deeds next.params next (fires s o) page_held (page-deeds s o e) notes_held

  -- those that are still to be called after the firing were to be called before it
  pub after-uncalled : (n : ℕ) → IsAmong n (uncalled (out next.params next (fires s o)).state) → IsAmong n (called_later next.floats.current (deeds (fires s o).rest))
  after-uncalled n i =
      let v = of_line n in
      weighs-later n next.floats.current (deeds (fires s o).rest)
      (more (entries_weight v (out next.params next (fires s o)).state.floats.current) (deeds_weight v (deeds (out next.params next (fires s o)).state.waiting)) (entries_weight v next.floats.current) (deeds_weight v (deeds (fires s o).rest))
      (out-current next.params next (fires s o) page_held (page-deeds s o e) v) (ap (deeds_weight v) waiting_deeds) (later-weighs n (out next.params next (fires s o)).state.floats.current (deeds (out next.params next (fires s o)).state.waiting) i))
    where
      more : (a b c d : ℕ) → a ≤ c → b ≡ d → 1 ≤ a + b → 1 ≤ c + d
      more a b c d l e h = omega arith

  -- and after the firing for a float that one is not
  pub after-first : (g : Float) (es : List Entry) → next.floats.current ≡ entries.Float g ∷ es → is_text (fires s o).penalty ≡ true → (n : ℕ) → IsAmong n (uncalled (out next.params next (fires s o)).state) → IsAmong n (called_later es (deeds (fires s o).rest))
  after-first g es first t n i =
      subst (λ ds. IsAmong n (called_later es ds)) waiting_deeds
      (subst (λ c. IsAmong n (called_later c (deeds (out next.params next (fires s o)).state.waiting))) (out-behind next.params next (fires s o) g es first t) i)
