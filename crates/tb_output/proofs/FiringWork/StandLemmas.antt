-- What a machine shows depends on its own lists alone.
use Rattle.std.proofs.Common.{◌≡◌, refl, sym, subst, ap, ℕ, ◌+◌, List, [], ◌∷◌, length, map, Option, None, Some}
use Rattle.std.specs.List.{AllByRecursion}
use Rattle.std.specs.FinMap.{get}
use Rattle.tb_break.proofs.EachLemmas.{all-front, all-back, all-join}
use Rattle.tb_pool.specs.Lists.{Lists, IsLive}
use Rattle.tb_pool.specs.Frame.{OnlyChanged}
use Rattle.tb_node.specs.declared.Node.{Node}
use Rattle.tb_node.specs.PlainNodes.{PlainNode, leaf_of}
use Rattle.tb_builder.specs.FiredPages.{Boxed}
use Rattle.tb_column.specs.declared.Column.{Column}
use Rattle.tb_column.specs.declared.NoteBox.{NoteBox}
use Rattle.tb_sheet.specs.declared.Sent.{Sent}
use Rattle.tb_sheet.specs.StoredSheets.{sent_lists, IsPageSent}
use Rattle.tb_column.specs.Notes.{IsNote, notes_shown, note_lists, note_count}
use Rattle.tb_output.specs.Machine.{MachineView, state_shown, left_shown, events_shown, event_lists, left_lists, machine_lists, IsPageLeft, IsRoomOf, IsMachine}
use Rattle.tb_sheet.specs.ApartLists.{AreNoneOf}
use Rattle.tb_sheet.proofs.StandLemmas.{Stands, list-same, nodes-stand, list-stands, column-stands, column-shows, sent-stands, sent-shows, sent-live}

-- ---- lists that are as they were

module _ (store new : Lists Node) where
  -- the insertions show the same, are as many, and may still be put below a text
  pub notes-same : (ns : List NoteBox) → AllByRecursion (Stands store new) (note_lists ns) → notes_shown new ns ≡ notes_shown store ns
  notes-same [] h = refl
  notes-same (n ∷ ns) h = λ i. record { class = n.class; below = n.below; skip = n.skip; inner = map leaf_of (list-same store new n.list h.0 i) } ∷ notes-same ns h.1 i

  pub count-same : (ns : List NoteBox) → AllByRecursion (Stands store new) (note_lists ns) → note_count new ns ≡ note_count store ns
  count-same [] h = refl
  count-same (n ∷ ns) h = λ i. length (list-same store new n.list h.0 i) + count-same ns h.1 i

  pub notes-stay : (ns : List NoteBox) → AllByRecursion (Stands store new) (note_lists ns) → AllByRecursion (IsNote store) ns → AllByRecursion (IsNote new) ns
  notes-stay [] e h = tt
  notes-stay (n ∷ ns) e h = (record { list = list-stands store new n.list e.0 h.0.list; rule = h.0.rule; skip = h.0.skip }, notes-stay ns e.1 h.1)

  pub events-stand : (es : List Sent) → AllByRecursion (Stands store new) (event_lists es) → AllByRecursion (IsPageSent store) es → AllByRecursion (IsPageSent new) es
  events-stand [] e h = tt
  events-stand (s ∷ es) e h = (sent-stands store new s (all-front (Stands store new) (sent_lists s) (event_lists es) e) h.0, events-stand es (all-back (Stands store new) (sent_lists s) (event_lists es) e) h.1)

  pub events-show : (es : List Sent) → AllByRecursion (Stands store new) (event_lists es) → AllByRecursion (IsPageSent store) es → events_shown new es ≡ events_shown store es
  events-show [] e h = refl
  events-show (s ∷ es) e h =
      λ i. sent-shows store new s (all-front (Stands store new) (sent_lists s) (event_lists es) e) h.0 i ∷ events-show es (all-back (Stands store new) (sent_lists s) (event_lists es) e) h.1 i

  pub left-stands : (o : Option Column) → AllByRecursion (Stands store new) (left_lists o) → IsPageLeft store o → IsPageLeft new o
  left-stands None e h = tt
  left-stands (Some c) e h = column-stands store new c e.0 h

  pub left-shows : (o : Option Column) → AllByRecursion (Stands store new) (left_lists o) → IsPageLeft store o → left_shown new o ≡ left_shown store o
  left-shows None e h = refl
  left-shows (Some c) e h = ap (λ v. Some v) (column-shows store new c e.0 h)

  module _ (m : MachineView) (is : IsMachine m store) (e : AllByRecursion (Stands store new) (machine_lists m)) where
    left-part : AllByRecursion (Stands store new) (left_lists m.left_column)
    left-part = all-front (Stands store new) (left_lists m.left_column) (event_lists m.events) e.1

    event-part : AllByRecursion (Stands store new) (event_lists m.events)
    event-part = all-back (Stands store new) (left_lists m.left_column) (event_lists m.events) e.1

    -- a machine whose lists are as before is one, and shows the same state and events
    pub machine-stands : IsMachine m new
    machine-stands = record {
      params = is.params;
      classes = is.classes;
      goal = is.goal;
      first = is.first;
      last = is.last;
      numbered = is.numbered;
      shrink = is.shrink;
      pool = is.pool;
      unmarked = is.unmarked;
      left = is.left;
      held_page = list-stands store new m.held_page e.0 is.held_page;
      held_room = subst (λ (ns : List Node). IsRoomOf ns m.held_room) (sym (list-same store new m.held_page e.0)) is.held_room;
      left_column = left-stands m.left_column left-part is.left_column;
      events = events-stand m.events event-part is.events;
      apart = is.apart;
    }

    pub machine-shows : events_shown new m.events ≡ events_shown store m.events
    machine-shows = events-show m.events event-part is.events

    pub state-shows : (boxes : List Boxed) (waiting : List PlainNode) → state_shown new boxes waiting m ≡ state_shown store boxes waiting m
    state-shows boxes waiting = λ i. record (state_shown store boxes waiting m) {
      held_page = nodes-stand store new m.held_page e.0 is.held_page.leaves i;
      left_column = left-shows m.left_column left-part is.left_column i;
    }

-- ---- lists that are live, and not among those that a call changed

events-live : (store : Lists Node) (es : List Sent) → AllByRecursion (IsPageSent store) es → AllByRecursion (IsLive store) (event_lists es)
events-live store [] h = tt
events-live store (s ∷ es) h = all-join (IsLive store) (sent_lists s) (event_lists es) (sent-live store s h.0) (events-live store es h.1)

left-live : (store : Lists Node) (o : Option Column) → IsPageLeft store o → AllByRecursion (IsLive store) (left_lists o)
left-live store None h = tt
left-live store (Some c) h = (h.list.live, tt)

-- all lists of a machine are live
pub machine-live : (m : MachineView) (store : Lists Node) → IsMachine m store → AllByRecursion (IsLive store) (machine_lists m)
machine-live m store is =
    (is.held_page.live, all-join (IsLive store) (left_lists m.left_column) (event_lists m.events) (left-live store m.left_column is.left_column) (events-live store m.events is.events))

-- lists that a call did not change
pub frame-stands : (mine ours : List ℕ) (store new : Lists Node) → OnlyChanged mine ours store new → (ls : List ℕ) → AllByRecursion (IsLive store) ls → AreNoneOf ls mine → AllByRecursion (Stands store new) ls
frame-stands mine ours store new frame [] live none = tt
frame-stands mine ours store new frame (l ∷ ls) live none = ((frame l live.0 none.0).0, frame-stands mine ours store new frame ls live.1 none.1)

-- nor are they among those that are owned afterwards
pub frame-free : (mine ours : List ℕ) (store new : Lists Node) → OnlyChanged mine ours store new → (ls : List ℕ) → AllByRecursion (IsLive store) ls → AreNoneOf ls mine → AreNoneOf ls ours
frame-free mine ours store new frame [] live none = tt
frame-free mine ours store new frame (l ∷ ls) live none = ((frame l live.0 none.0).1, frame-free mine ours store new frame ls live.1 none.1)

-- ---- a call that was handed none of the machine's lists

-- what a machine shows after it
pub record IsShownBy (m : MachineView) (store new : Lists Node) : Type 0 where
  pub machine : IsMachine m new
  pub events : events_shown new m.events ≡ events_shown store m.events
  pub state : (boxes : List Boxed) (waiting : List PlainNode) → state_shown new boxes waiting m ≡ state_shown store boxes waiting m

pub stands-shown : (m : MachineView) (store new : Lists Node) → IsMachine m store → AllByRecursion (Stands store new) (machine_lists m) → IsShownBy m store new
stands-shown m store new is e = record { machine = machine-stands store new m is e; events = machine-shows store new m is e; state = state-shows store new m is e }

pub frame-shown : (m : MachineView) (mine ours : List ℕ) (store new : Lists Node) → IsMachine m store → OnlyChanged mine ours store new → AreNoneOf (machine_lists m) mine → IsShownBy m store new
frame-shown m mine ours store new is frame none = stands-shown m store new is (frame-stands mine ours store new frame (machine_lists m) (machine-live m store is) none)

-- all lists are as before
pub lists-shown : (m : MachineView) (store new : Lists Node) → IsMachine m store → new.lists ≡ store.lists → IsShownBy m store new
lists-shown m store new is same = stands-shown m store new is (all-stand (machine_lists m))
  where
    all-stand : (ls : List ℕ) → AllByRecursion (Stands store new) ls
    all-stand [] = tt
    all-stand (l ∷ ls) = (ap (λ x. get x l) same, all-stand ls)
