-- What the machine sent, as happenings.
use Rattle.std.proofs.Common.{◌≡◌, refl, ap, List, [], ◌∷◌, ◌++◌, map}
use Rattle.std.specs.List.{AllByRecursion}
use Rattle.tb_pool.specs.Lists.{Lists}
use Rattle.tb_node.specs.declared.Node.{Node}
use Rattle.tb_sheet.specs.declared.Sent.{Sent}
use Rattle.tb_sheet.specs.declared.Warn.{Warn}
use Rattle.tb_sheet.specs.Sheet.{warned}
use Rattle.tb_sheet.specs.StoredSheets.{sent_shown, sent_lists, IsPageSent}
use Rattle.tb_output.specs.ActCalls.{warnings_sent}
use Rattle.tb_output.specs.Machine.{event_lists, events_shown}
use Rattle.tb_items.specs.RunEvents.{sent}
use Rattle.tb_items.specs.Happenings.{events_of, happened_lists, ArePages}
use Rattle.tb_run.specs.FilledPages.{sent_happenings}

pub sent-events : (store : Lists Node) (es : List Sent) → events_of store (sent_happenings es) ≡ map sent (events_shown store es)
sent-events store [] = refl
sent-events store (e ∷ es) = ap (λ xs. sent (sent_shown store e) ∷ xs) (sent-events store es)

pub sent-lists : (es : List Sent) → happened_lists (sent_happenings es) ≡ event_lists es
sent-lists [] = refl
sent-lists (e ∷ es) = ap (λ ls. sent_lists e ++ ls) (sent-lists es)

pub sent-pages : (store : Lists Node) (es : List Sent) → AllByRecursion (IsPageSent store) es → ArePages store (sent_happenings es)
sent-pages store [] h = tt
sent-pages store (e ∷ es) h = (h.0, sent-pages store es h.1)

pub warned-events : (store : Lists Node) (ws : List Warn) → events_of store (sent_happenings (warnings_sent ws)) ≡ map (λ w. sent (warned w)) ws
warned-events store [] = refl
warned-events store (w ∷ ws) = ap (λ xs. sent (warned w) ∷ xs) (warned-events store ws)

pub warned-lists : (ws : List Warn) → happened_lists (sent_happenings (warnings_sent ws)) ≡ []
warned-lists [] = refl
warned-lists (w ∷ ws) = warned-lists ws
