-- A machine after a warning was sent.
use Rattle.std.proofs.Common.{◌≡◌, refl, sym, subst, ◌∙◌, ap, ℕ, List, [], ◌∷◌, ◌++◌, append_assoc, append-nil}
use Rattle.std.proofs.lemmas.List.{map-append}
use Rattle.tb_break.proofs.EachLemmas.{all-join}
use Rattle.tb_pool.specs.Lists.{Lists}
use Rattle.tb_node.specs.declared.Node.{Node}
use Rattle.tb_sheet.specs.declared.Warn.{Warn}
use Rattle.tb_sheet.specs.declared.Sent.{Sent}
use Rattle.tb_sheet.specs.declared.Sent.TheVariants as events
use Rattle.tb_sheet.specs.Sheet.{PlainSent}
use Rattle.tb_column.specs.Notes.{AreDistinct}
use Rattle.tb_sheet.specs.StoredSheets.{sent_shown, sent_lists, IsPageSent}
use Rattle.tb_output.specs.Machine.{MachineView, events_shown, event_lists, left_lists, machine_lists, IsMachine}
use Rattle.tb_output.specs.PageChanges.{with_warning}
use Rattle.tb_output.specs.MachineFrame.{KeepsFields, IsBack, KeepsBack}
use Rattle.tb_output.proofs.FiringWork.KeepLemmas.{keeps-back_alone}
use Rattle.tb_output.proofs.FiringWork.BesideLemmas.{machine-with}

pub lists-joined : (es fs : List Sent) → event_lists (es ++ fs) ≡ event_lists es ++ event_lists fs
lists-joined [] fs = refl
lists-joined (e ∷ es) fs = ap (λ ls. sent_lists e ++ ls) (lists-joined es fs) ∙ sym (append_assoc (sent_lists e) (event_lists es) (event_lists fs))

pub shown-joined : (store : Lists Node) (es : List Sent) (e : Sent) (before sent : List PlainSent) → events_shown store es ≡ before ++ sent → events_shown store (es ++ e ∷ []) ≡ before ++ (sent ++ sent_shown store e ∷ [])
shown-joined store es e before sent h = map-append (sent_shown store) es (e ∷ []) ∙ ap (λ l. l ++ sent_shown store e ∷ []) h ∙ append_assoc before sent (sent_shown store e ∷ [])

module _ (w : Warn) (m : MachineView) where
  pub warned-lists : machine_lists (with_warning w m) ≡ machine_lists m
  warned-lists = ap (λ ls. m.held_page ∷ left_lists m.left_column ++ ls) (lists-joined m.events (events.Warn w ∷ []) ∙ append-nil (event_lists m.events))

  pub warned-machine : (store : Lists Node) → IsMachine m store → IsMachine (with_warning w m) store
  warned-machine store is = machine-with m store is is.goal refl is.unmarked (all-join (IsPageSent store) m.events (events.Warn w ∷ []) is.events (tt, tt)) (subst AreDistinct (sym warned-lists) is.apart)

  pub warned-fields : KeepsFields m (with_warning w m)
  warned-fields = record { params = refl; classes = refl; fault = refl }

  pub warned-back : (l : ℕ) (store : Lists Node) → IsMachine m store → IsBack l m store → KeepsBack l [] m (with_warning w m) store store
  warned-back l store is back = keeps-back_alone l m (with_warning w m) store (warned-machine store is) warned-fields warned-lists back
