-- A page is shipped: what the machine shows of the work then, and that it is still a machine.
use Rattle.std.proofs.Common.{◌≡◌, refl, sym, subst, ◌∙◌, ap, ℕ, pos, ◌+◌, ◌≤◌, List, [], ◌∷◌, ◌++◌, append_assoc, append-nil, true, false, arith}
use Rattle.std.specs.Prelude.{◌≤ℤ◌, int_lt, if◌then◌else◌}
use Rattle.std.proofs.lemmas.Int.{ints}
use Rattle.std.proofs.lemmas.List.{map-append}
use Rattle.tb_break.proofs.EachLemmas.{all-join}
use Rattle.tb_pool.specs.Lists.{Lists}
use Rattle.tb_pool.specs.Frame.{IsNoneOf}
use Rattle.tb_pool.proofs.FrameLemmas.{none-front, none-back, none-join}
use Rattle.tb_node.specs.declared.Node.{Node}
use Rattle.tb_param.specs.declared.Params.{Params}
use Rattle.tb_sheet.specs.declared.Sheet.{Sheet}
use Rattle.tb_sheet.specs.declared.Sent.{Sent}
use Rattle.tb_sheet.specs.declared.Sent.TheVariants as events
use Rattle.tb_sheet.specs.Sheet.{PlainSent, shipped}
use Rattle.tb_sheet.specs.StoredSheets.{sheet_shown, sent_shown, sent_lists, sheet_lists, IsPageSheet, IsPageSent}
use Rattle.tb_column.specs.Notes.{AreDistinct}
use Rattle.tb_output.specs.declared.RunFault.{RunFault}
use Rattle.tb_output.specs.declared.RunFault.TheVariants as faults
use Rattle.tb_output.specs.State.{Work}
use Rattle.tb_output.specs.Machine.{MachineView, state_shown, events_shown, machine_lists, left_lists, event_lists, IsMachine}
use Rattle.tb_output.specs.FiringWork.{ShowsWork, shows, IsCutShort, Does}
use Rattle.tb_sheet.specs.ApartLists.{AreNoneOf}
use Rattle.tb_output.specs.MachineFrame.{KeepsMachine}
use Rattle.tb_output.specs.PageChanges.{shipped_machine, HasShipped, HasNotShipped, IsFull}
use Rattle.tb_output.specs.Pages
use Rattle.tb_output.proofs.StepLaws.WorkSteps.{continues-ship}
use Rattle.tb_output.proofs.FiringWork.WorkingLemmas.{does-shown, shown_work, no-memory}
use Rattle.tb_sheet.proofs.ListsApart.{apart-swap, distinct-join}

-- ---- the work

-- a page is shipped in a work that is shown
module _ (m : MachineView) (store : Lists Node) (sheet : Sheet) where
  abbrev pub shipped_work : Work → Work
  shipped_work w = record (shown_work m store w) {
    state = record (state_shown store w.state.boxes w.state.waiting m) { page = m.page + 1; number = m.number + 1; dead_cycles = 0 };
    sent = w.sent ++ shipped m.number (sheet_shown store sheet) ∷ [];
  }

  pub ship-is : (w : Work) → int_lt m.params.maxpages (pos m.page) ≡ false → Pages.ship m.params (sheet_shown store sheet) (shown_work m store w) ≡ shipped_work w
  ship-is w room = ap (λ t. if t then record (shown_work m store w) { refused = true } else shipped_work w) room

  pub full-is : (w : Work) → int_lt m.params.maxpages (pos m.page) ≡ true → Pages.ship m.params (sheet_shown store sheet) (shown_work m store w) ≡ record (shown_work m store w) { refused = true }
  full-is w full = ap (λ t. if t then record (shown_work m store w) { refused = true } else shipped_work w) full

  pub shipped-shows : (before : List PlainSent) (w : Work) → events_shown store m.events ≡ before ++ w.sent → ShowsWork before (shipped_machine sheet m) store (shipped_work w)
  shipped-shows before w sent = record {
    served = refl;
    sent = map-append (sent_shown store) m.events (events.Ship m.number sheet ∷ []) ∙ ap (λ es. es ++ shipped m.number (sheet_shown store sheet) ∷ []) sent ∙ append_assoc before w.sent (shipped m.number (sheet_shown store sheet) ∷ []);
    state = refl;
  }

  pub ship-does : (now : MachineView) → HasShipped sheet m now → Does (shows m store) (shows now store) (Pages.ship m.params (sheet_shown store sheet))
  ship-does now h = does-shown (shows now store) m store (Pages.ship m.params (sheet_shown store sheet)) (λ before w sent.
      subst (λ v. ShowsWork before now store v) (sym (ship-is w h.room)) (subst (λ n. ShowsWork before n store (shipped_work w)) (sym h.machine) (shipped-shows before w sent)))

  -- no page was shipped
  full-does : (now : MachineView) (n : ℕ) → IsFull n m now → Does (shows m store) (IsCutShort (faults.PageLimit n) now store) (Pages.ship m.params (sheet_shown store sheet))
  full-does now n h = does-shown (IsCutShort (faults.PageLimit n) now store) m store (Pages.ship m.params (sheet_shown store sheet)) (λ before w sent.
      subst (λ v. IsCutShort (faults.PageLimit n) now store before v) (sym (full-is w h.full)) (record { refused = refl; pages = h.pages; sent = ap (λ (k : MachineView). events_shown store k.events) h.machine ∙ sent }))

  pub ship-fails : (e : RunFault) (now : MachineView) → HasNotShipped e m now → Does (shows m store) (IsCutShort e now store) (Pages.ship m.params (sheet_shown store sheet))
  ship-fails (faults.DeadCycles n) now h = absurd h
  ship-fails (faults.PageLimit n) now h = full-does now n h
  ship-fails faults.Memory now h = no-memory m now store store (Pages.ship m.params (sheet_shown store sheet)) (ap (λ (k : MachineView). events_shown store k.events) h) (continues-ship m.params (sheet_shown store sheet))

-- ---- the lists

pub event_lists-after : (es : List Sent) (page : ℕ) (sheet : Sheet) → event_lists (es ++ events.Ship page sheet ∷ []) ≡ event_lists es ++ sheet_lists sheet
event_lists-after [] page sheet = append-nil (sheet_lists sheet)
event_lists-after (e ∷ es) page sheet = ap (λ ls. sent_lists e ++ ls) (event_lists-after es page sheet) ∙ sym (append_assoc (sent_lists e) (event_lists es) (sheet_lists sheet))

pub last-page : (p : Params) (n : ℕ) → p.maxpages ≤ℤ pos 4194304 → int_lt p.maxpages (pos n) ≡ false → n + 1 ≤ 4194305
last-page p n most room = grind (arith, ints, most, room)

-- the machine after a page whose lists are none of its own
module _ (m : MachineView) (store : Lists Node) (sheet : Sheet) (is : IsMachine m store) where
  lists-after : machine_lists (shipped_machine sheet m) ≡ machine_lists m ++ sheet_lists sheet
  lists-after = ap (λ ls. m.held_page ∷ left_lists m.left_column ++ ls) (event_lists-after m.events m.number sheet) ∙ ap (λ ls. m.held_page ∷ ls) (sym (append_assoc (left_lists m.left_column) (event_lists m.events) (sheet_lists sheet)))

  shipped-is : int_lt m.params.maxpages (pos m.page) ≡ false → IsPageSheet store sheet → AreDistinct (sheet_lists sheet) → AreNoneOf (sheet_lists sheet) (machine_lists m) → IsMachine (shipped_machine sheet m) store
  shipped-is room page distinct apart = record {
    params = is.params;
    classes = is.classes;
    goal = is.goal;
    first = omega arith;
    last = last-page m.params m.page is.params.maxpages.high room;
    numbered = let n = is.numbered in omega (arith, n);
    shrink = is.shrink;
    pool = is.pool;
    unmarked = is.unmarked;
    left = is.left;
    held_page = is.held_page;
    held_room = is.held_room;
    left_column = is.left_column;
    events = all-join (IsPageSent store) m.events (events.Ship m.number sheet ∷ []) is.events (page, tt);
    apart = subst AreDistinct (sym lists-after) (distinct-join (machine_lists m) (sheet_lists sheet) is.apart distinct (apart-swap (sheet_lists sheet) (machine_lists m) apart));
  }

  pub shipped-keeps : (now : MachineView) → HasShipped sheet m now → IsPageSheet store sheet → AreDistinct (sheet_lists sheet) → AreNoneOf (sheet_lists sheet) (machine_lists m) → KeepsMachine (sheet_lists sheet) m now store store
  shipped-keeps now h page distinct apart = subst (λ n. KeepsMachine (sheet_lists sheet) m n store store) (sym h.machine) (record {
    machine = shipped-is h.room page distinct apart;
    frame = λ q live none. (refl, subst (IsNoneOf q) (sym lists-after) (none-join q (machine_lists m) (sheet_lists sheet) (none-back q (sheet_lists sheet) (machine_lists m) none) (none-front q (sheet_lists sheet) (machine_lists m) none)));
    fields = record { params = refl; classes = refl; fault = refl };
  })

-- no page was shipped: the machine is as it was
pub unshipped-same : (e : RunFault) (m now : MachineView) → HasNotShipped e m now → now ≡ m
unshipped-same (faults.DeadCycles n) m now h = absurd h
unshipped-same (faults.PageLimit n) m now h = h.machine
unshipped-same faults.Memory m now h = h
