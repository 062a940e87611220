-- The page so far goes back with its insertions: what the machine and the list that goes back are then.
use Rattle.std.proofs.Common.{◌≡◌, ◌≢◌, refl, sym, subst, ◌∙◌, ap, ℕ, ◌-◌, ◌≤◌, ◌+ℤ◌, ◌-ℤ◌, Bool, List, [], ◌∷◌, ◌++◌, append-nil, map, take, length, Option, Some, is_some, unwrap_or, arith}
use Rattle.std.specs.Prelude.{All}
use Rattle.std.specs.FinMap.{get}
use Rattle.std.specs.List.{AllByRecursion}
use Rattle.std.proofs.lemmas.List.{map-append, take-map, length-map}
use Rattle.std.proofs.lemmas.List.Elements.{All-append, All-take, All-nil}
use Rattle.tb_break.proofs.EachLemmas.{all-front, all-back}
use Rattle.tb_scaled.specs.Amount.{IsAmount}
use Rattle.tb_pool.specs.Lists.{Lists, IsLive, list_at}
use Rattle.tb_pool.specs.Frame.{IsNoneOf}
use Rattle.tb_pool.proofs.FrameLemmas.{none-front, none-back, none-join}
use Rattle.tb_node.specs.declared.Node.{Node}
use Rattle.tb_node.specs.PlainNodes.{PlainNode, node_shape, shape_of, plain_of, plain_list}
use Rattle.tb_node.specs.Fit.{IsExtent, IsSizedNode}
use Rattle.tb_node.specs.Sums.{size_of, last_depth}
use Rattle.tb_param.specs.declared.Params.{Params}
use Rattle.tb_builder.specs.FiredPages.{Boxed}
use Rattle.tb_builder.specs.Ownership.{inner_ids, AllKnown}
use Rattle.tb_builder.proofs.Ownership.OwnedLemmas.{inner-append, known-append}
use Rattle.tb_column.specs.declared.NoteBox.{NoteBox}
use Rattle.tb_column.specs.Notes.{AreDistinct, IsNote, notes_shown, note_lists, note_count}
use Rattle.tb_column.specs.Page.{AreLeaves, IsPageList}
use Rattle.tb_column.proofs.FloatLemmas.{leaves-append}
use Rattle.tb_sheet.specs.Sheet.{PlainSent}
use Rattle.tb_column.proofs.ShownLemmas.{shapes-held}
use Rattle.tb_output.specs.declared.texts.TextSize.{TextSize}
use Rattle.tb_output.specs.declared.RunFault.{RunFault}
use Rattle.tb_output.specs.declared.RunFault.TheVariants as faults
use Rattle.tb_output.specs.State.{State, Work, footnotes}
use Rattle.tb_output.specs.Columns.{emptied_boxes}
use Rattle.tb_output.specs.Text.{notes_nodes, notes_height, without_firing_box, list_back, first_goes, float_or_note_in, float_or_note}
use Rattle.tb_output.specs.BackList.{insertions_again}
use Rattle.tb_output.specs.Machine.{MachineView, state_shown, events_shown, left_lists, event_lists, machine_lists, IsRoomOf, IsMachine}
use Rattle.tb_output.specs.FiringWork.{ShowsBack, HoldsNotes, shows_back, shows_page, IsCutShort, Does}
use Rattle.tb_sheet.specs.ApartLists.{AreNoneOf}
use Rattle.tb_output.specs.MachineFrame.{HasGrown, back_lists, IsBack, KeepsBack, AreTextLists}
use Rattle.tb_output.specs.Notes.{AreKnownNotes}
use Rattle.tb_output.specs.FiringParts.{IsTextSize, HasTextBack, first_placed}
use Rattle.tb_sheet.proofs.ListsApart.{apart-back, apart-swap, distinct-join}
use Rattle.tb_sheet.proofs.StandLemmas.{Stands, leaves-shown}
use Rattle.tb_output.proofs.FiringWork.StandLemmas.{notes-same, count-same, notes-stay, events-stand, events-show, left-stands, left-shows}
use Rattle.tb_output.proofs.FiringWork.KeepLemmas.{fields-same, keeps-back_then, pages-stand, leaves-inner, leaves-known}
use Rattle.tb_output.proofs.InText.PushLemmas.{grown-none}
use Rattle.tb_output.proofs.FiringWork.WorkingLemmas.{does-then, does-same, cut-on, does-shown_with, no-memory_given}
use Rattle.tb_output.proofs.StepLaws.WorkSteps.{continues-list_back, continues-first_goes}
use Rattle.tb_output.proofs.Clears.ClearSteps.{leaves-take}
use Rattle.tb_output.proofs.InText.BackLemmas.{live-some, again-inner, again-known, again-sized, again-shown}

-- ---- a list is read after a call

there-live : (store : Lists Node) (q : ℕ) (ns : List Node) → get store.lists q ≡ Some ns → IsLive store q
there-live store q ns e = ap (λ (o : Option (List Node)). is_some o) e

there-list : (store : Lists Node) (q : ℕ) (ns : List Node) → get store.lists q ≡ Some ns → list_at store q ≡ ns
there-list store q ns e = ap (λ (o : Option (List Node)). unwrap_or o []) e

-- ---- the held page was emptied

module _ (m : MachineView) (store new : Lists Node) (is : IsMachine m store) (emptied : get new.lists m.held_page ≡ Some []) (stand : AllByRecursion (Stands store new) (left_lists m.left_column ++ event_lists m.events)) where
  left-part : AllByRecursion (Stands store new) (left_lists m.left_column)
  left-part = all-front (Stands store new) (left_lists m.left_column) (event_lists m.events) stand

  event-part : AllByRecursion (Stands store new) (event_lists m.events)
  event-part = all-back (Stands store new) (left_lists m.left_column) (event_lists m.events) stand

  held-empty : list_at new m.held_page ≡ []
  held-empty = there-list new m.held_page [] emptied

  held-page : IsPageList new m.held_page
  held-page = record {
    live = there-live new m.held_page [] emptied;
    leaves = subst AreLeaves (sym held-empty) tt;
    sized = subst (All IsSizedNode) (sym held-empty) (All-nil IsSizedNode);
    few = subst (λ (ns : List Node). length ns ≤ 8388608) (sym held-empty) (omega arith);
  }

  emptied-machine : IsMachine m new
  emptied-machine = record {
    params = is.params;
    classes = is.classes;
    goal = is.goal;
    first = is.first;
    last = is.last;
    numbered = is.numbered;
    shrink = is.shrink;
    pool = is.pool;
    unmarked = is.unmarked;
    left = is.left;
    held_page = held-page;
    held_room = subst (λ (ns : List Node). IsRoomOf ns m.held_room) (sym held-empty) tt;
    left_column = left-stands store new m.left_column left-part is.left_column;
    events = events-stand store new m.events event-part is.events;
    apart = is.apart;
  }

  emptied-events : events_shown new m.events ≡ events_shown store m.events
  emptied-events = events-show store new m.events event-part is.events

  emptied-state : (boxes : List Boxed) (waiting : List PlainNode) → state_shown new boxes waiting m ≡ record (state_shown store boxes waiting m) { held_page = [] }
  emptied-state boxes waiting = λ i. record (state_shown store boxes waiting m) {
    held_page = ap (map (plain_of (list_at new))) held-empty i;
    left_column = left-shows store new m.left_column left-part is.left_column i;
  }

-- ---- some insertions go back after the page so far

-- their lists are apart from each other, from the page so far and from the machine's lists
record MayFollow (back body : ℕ) (m : MachineView) (store : Lists Node) (ns : List NoteBox) : Type 0 where
  pub each : AllByRecursion (IsNote store) ns
  pub known : AreKnownNotes m.classes ns
  pub distinct : AreDistinct (note_lists ns)
  pub text : IsNoneOf body (note_lists ns)
  pub front : IsNoneOf back (note_lists ns)
  pub machine : AreNoneOf (note_lists ns) (machine_lists m)

note-pages : (store : Lists Node) (ns : List NoteBox) → AllByRecursion (IsNote store) ns → AllByRecursion (IsPageList store) (note_lists ns)
note-pages store [] h = tt
note-pages store (n ∷ ns) h = (h.0.list, note-pages store ns h.1)

module _ (p : Params) (back body : ℕ) (ns : List NoteBox) (m : MachineView) (store one new : Lists Node) (is : IsMachine m store) (go : IsBack back m store) (empty : list_at store back ≡ []) (page : IsPageList store body) (apart : IsNoneOf body (back_lists store back ++ machine_lists m)) (may : MayFollow back body m store ns) (text : HasTextBack back m.held_page body store one) (grown : HasGrown back (insertions_again p one ns) [] one new) where
  body-machine : IsNoneOf body (machine_lists m)
  body-machine = none-back body (inner_ids (list_at store back)) (machine_lists m) apart.1

  back-machine : IsNoneOf back (machine_lists m)
  back-machine = none-back back (inner_ids (list_at store back)) (machine_lists m) go.apart.0

  stand : (q : ℕ) → q ≢ back → q ≢ m.held_page → q ≢ body → Stands store new q
  stand q b h t = grown.others q b tt ∙ text.others q b h t

  stand-all : (ls : List ℕ) → IsNoneOf back ls → IsNoneOf m.held_page ls → IsNoneOf body ls → AllByRecursion (Stands store new) ls
  stand-all [] b h t = tt
  stand-all (l ∷ ls) b h t = (stand l b.0 h.0 t.0, stand-all ls b.1 h.1 t.1)

  held-emptied : get new.lists m.held_page ≡ Some []
  held-emptied = grown.others m.held_page back-machine.0 tt ∙ text.emptied

  rest-stand : AllByRecursion (Stands store new) (left_lists m.left_column ++ event_lists m.events)
  rest-stand = stand-all (left_lists m.left_column ++ event_lists m.events) back-machine.1 is.apart.0 body-machine.1

  held-none : IsNoneOf m.held_page (note_lists ns)
  held-none = (apart-swap (note_lists ns) (machine_lists m) may.machine).0

  notes-stand : AllByRecursion (Stands store new) (note_lists ns)
  notes-stand = stand-all (note_lists ns) may.front held-none may.text

  one-stand : (ls : List ℕ) → IsNoneOf back ls → IsNoneOf m.held_page ls → IsNoneOf body ls → AllByRecursion (Stands store one) ls
  one-stand [] b h t = tt
  one-stand (l ∷ ls) b h t = (text.others l b.0 h.0 t.0, one-stand ls b.1 h.1 t.1)

  last-stand : (ls : List ℕ) → IsNoneOf back ls → AllByRecursion (Stands one new) ls
  last-stand [] b = tt
  last-stand (l ∷ ls) b = (grown.others l b.0 tt, last-stand ls b.1)

  -- ---- what it holds

  abbrev cut : List Node
  cut = take (length (list_at store body) - 2) (list_at store body)

  abbrev nodes : List Node
  nodes = list_at store m.held_page ++ cut

  abbrev again : List Node
  again = insertions_again p one ns

  holds : list_at new back ≡ nodes ++ again
  holds =
      there-list new back (list_at one back ++ again) grown.list
      ∙ ap (λ (xs : List Node). xs ++ again) (there-list one back (list_at store back ++ nodes) text.list ∙ ap (λ (xs : List Node). xs ++ nodes) empty)

  leaves : AreLeaves nodes
  leaves = leaves-append (list_at store m.held_page) cut is.held_page.leaves (leaves-take (length (list_at store body) - 2) (list_at store body) page.leaves)

  sized : All IsSizedNode nodes
  sized = All-append IsSizedNode (list_at store m.held_page) cut is.held_page.sized (All-take IsSizedNode (length (list_at store body) - 2) (list_at store body) page.sized)

  inner : inner_ids (list_at new back) ≡ note_lists ns
  inner = ap inner_ids holds ∙ inner-append nodes again ∙ ap (λ (ls : List ℕ). ls ++ inner_ids again) (leaves-inner nodes leaves) ∙ again-inner p one ns

  follows-back : IsBack back m new
  follows-back = record {
    live = there-live new back (list_at one back ++ again) grown.list;
    sized = subst (All IsSizedNode) (sym holds) (All-append IsSizedNode nodes again sized (again-sized p one ns));
    known = subst (AllKnown m.classes) (sym holds) (known-append m.classes nodes again (leaves-known m.classes nodes leaves) (again-known p one m.classes ns may.known));
    inner = subst (AllByRecursion (IsPageList new)) (sym inner) (pages-stand store new (note_lists ns) notes-stand (note-pages store ns may.each));
    apart = subst (λ ls. AreDistinct (back ∷ ls ++ machine_lists m)) (sym inner)
        (none-join back (note_lists ns) (machine_lists m) may.front back-machine, distinct-join (note_lists ns) (machine_lists m) may.distinct is.apart may.machine);
  }

  follows-keeps : (all : List NoteBox) → ((q : ℕ) → IsNoneOf q (note_lists all) → IsNoneOf q (note_lists ns)) → KeepsBack back (body ∷ note_lists all) m m store new
  follows-keeps all fewer = record {
    machine = emptied-machine m store new is held-emptied rest-stand;
    back = follows-back;
    frame = λ q live none.
        let rest = none-back q (note_lists all) (back_lists store back ++ machine_lists m) none.1 in
        let own = none-back q (inner_ids (list_at store back)) (machine_lists m) rest.1 in
        let others = fewer q (none-front q (note_lists all) (back_lists store back ++ machine_lists m) none.1) in (
          stand q (λ e. rest.0 (sym e)) (λ e. own.0 (sym e)) (λ e. none.0 (sym e)),
          subst (λ ls. IsNoneOf q (back ∷ ls ++ machine_lists m)) (sym inner) (rest.0, none-join q (note_lists ns) (machine_lists m) others own),
        );
    fields = fields-same m;
  }

  -- ---- what it shows

  cut-shown : map (plain_of (list_at store)) cut ≡ without_firing_box (plain_list store body)
  cut-shown =
      sym (take-map (plain_of (list_at store)) (length (list_at store body) - 2) (list_at store body))
      ∙ ap (λ n. take (n - 2) (plain_list store body)) (sym (length-map (list_at store body) (plain_of (list_at store))))

  follows-shown : plain_list new back ≡ (plain_list store m.held_page ++ without_firing_box (plain_list store body)) ++ notes_nodes p (notes_shown store ns)
  follows-shown =
      ap (map (plain_of (list_at new))) holds
      ∙ map-append (plain_of (list_at new)) nodes again
      ∙ ap (λ (xs : List PlainNode). xs ++ map (plain_of (list_at new)) again)
      (leaves-shown (list_at new) (list_at store) nodes leaves
      ∙ map-append (plain_of (list_at store)) (list_at store m.held_page) cut
      ∙ ap (λ (xs : List PlainNode). plain_list store m.held_page ++ xs) cut-shown)
      ∙ ap (λ (xs : List PlainNode). (plain_list store m.held_page ++ without_firing_box (plain_list store body)) ++ xs)
      (again-shown p one new ns (last-stand (note_lists ns) may.front) ∙ ap (notes_nodes p) (notes-same store one ns (one-stand (note_lists ns) may.front held-none may.text)))

-- ---- all insertions go back, or there was no memory

module _ (back body : ℕ) (notes : List NoteBox) (m : MachineView) (store one : Lists Node) (is : IsMachine m store) (go : IsBack back m store) (empty : list_at store back ≡ []) (lists : AreTextLists 8355839 (back_lists store back ++ machine_lists m) store body notes) (known : AreKnownNotes m.classes notes) (text : HasTextBack back m.held_page body store one) where
  abbrev all-nodes : List PlainNode
  all-nodes = plain_list store m.held_page ++ without_firing_box (plain_list store body)

  may-all : MayFollow back body m store notes
  may-all = record {
    each = lists.notes.each;
    known = known;
    distinct = lists.notes.apart.1;
    text = lists.notes.apart.0;
    front = (apart-swap (note_lists notes) (back_lists store back ++ machine_lists m) lists.apart.1).0;
    machine = apart-back (note_lists notes) (back_lists store back) (machine_lists m) lists.apart.1;
  }

  may-none : MayFollow back body m store []
  may-none = record { each = tt; known = tt; distinct = tt; text = tt; front = tt; machine = tt }

  module _ (new : Lists Node) (grown : HasGrown back (insertions_again m.params one notes) [] one new) where
    pub list-keeps : KeepsBack back (body ∷ note_lists notes) m m store new
    list-keeps = follows-keeps m.params back body notes m store one new is go empty lists.text lists.apart.0 may-all text grown notes (λ q h. h)

    pub list-does : Does (shows_page back notes m store) (shows_back back m new) (list_back m.params all-nodes)
    list-does before w h = does-shown_with (λ v. ShowsBack back store v × HoldsNotes notes store v) (shows_back back m new) m store (list_back m.params all-nodes)
        (λ b v sent at.
        let emptied = held-emptied m.params back body notes m store one new is go empty lists.text lists.apart.0 may-all text grown in
        let rest = rest-stand m.params back body notes m store one new is go empty lists.text lists.apart.0 may-all text grown in
        let nothing : [] ≡ v.put_back = ap (map (plain_of (list_at store))) (sym empty) ∙ at.0 in
        let noted : notes_shown store notes ≡ footnotes (state_shown store v.state.boxes v.state.waiting m) = sym at.1 in (
          record {
            served = refl;
            sent = emptied-events m store new is emptied rest ∙ sent;
            state = emptied-state m store new is emptied rest (emptied_boxes v.state.boxes) v.state.waiting;
          },
          follows-shown m.params back body notes m store one new is go empty lists.text lists.apart.0 may-all text grown ∙ (λ i. nothing i ++ (all-nodes ++ notes_nodes m.params (noted i))),
        ))
        before w h.0 (h.1, h.2)

  module _ (new : Lists Node) (same : new.lists ≡ one.lists) where
    nothing-grown : HasGrown back (insertions_again m.params one []) [] one new
    nothing-grown = grown-none one new back [] (live-some (get one.lists back) (there-live one back _ text.list)) same

    pub memory-keeps : KeepsBack back (body ∷ note_lists notes) m m store new
    memory-keeps = follows-keeps m.params back body [] m store one new is go empty lists.text lists.apart.0 may-none text nothing-grown notes (λ q h. tt)

    pub memory-does : Does (shows_page back notes m store) (IsCutShort faults.Memory m new) (list_back m.params all-nodes)
    memory-does =
        let emptied = held-emptied m.params back body [] m store one new is go empty lists.text lists.apart.0 may-none text nothing-grown in
        let rest = rest-stand m.params back body [] m store one new is go empty lists.text lists.apart.0 may-none text nothing-grown in
        no-memory_given (shows_page back notes m store) m m store new (list_back m.params all-nodes) (λ b w h. h.0) (emptied-events m store new is emptied rest) (continues-list_back m.params all-nodes)

  -- ---- between the two

  nothing-yet : HasGrown back (insertions_again m.params one []) [] one one
  nothing-yet = nothing-grown one refl

  -- the nodes of the page so far are sized
  pub text-sized : All IsSizedNode (list_at one back)
  text-sized = (memory-keeps one refl).back.sized

  stand-notes : AllByRecursion (Stands store one) (note_lists notes)
  stand-notes = one-stand m.params back body [] m store one one is go empty lists.text lists.apart.0 may-none text nothing-yet (note_lists notes) may-all.front
      (apart-swap (note_lists notes) (machine_lists m) may-all.machine).0 may-all.text

  -- the insertions are as before
  pub text-notes : AllByRecursion (IsNote one) notes
  text-notes = notes-stay store one notes stand-notes lists.notes.each

  pub text-front : IsNoneOf back (note_lists notes)
  text-front = may-all.front

  pub text-count : note_count one notes ≡ note_count store notes
  text-count = count-same store one notes stand-notes

  text-shapes : map shape_of (list_at one back) ≡ map node_shape all-nodes
  text-shapes =
      sym (shapes-held (list_at one) (list_at one back))
      ∙ ap (map node_shape)
      (follows-shown m.params back body [] m store one one is go empty lists.text lists.apart.0 may-none text nothing-yet ∙ append-nil all-nodes)

  -- its size is that of what the works show
  pub text-size : (z : TextSize) → z.depth ≡ last_depth (map shape_of (list_at one back)) → z.height ≡ size_of (map shape_of (list_at one back)) -ℤ z.depth → z.page ≡ z.height +ℤ z.depth +ℤ notes_height (notes_shown one notes) → IsAmount z.height → IsAmount z.page → IsExtent z.depth
      → IsTextSize z all-nodes (notes_shown store notes)
  text-size z depth height page small_height small_page extent = record {
    depth = depth ∙ ap last_depth text-shapes;
    height = height ∙ ap (λ ss. size_of ss -ℤ z.depth) text-shapes;
    page = page ∙ ap (λ ns. z.height +ℤ z.depth +ℤ notes_height ns) (notes-same store one notes stand-notes);
    small_height = small_height;
    small_page = small_page;
    extent = extent;
  }

-- ---- the first float or note gets its place

module _ (back : ℕ) (notes : List NoteBox) (m : MachineView) (store : Lists Node) (vert : Bool) (body : List PlainNode) where
  abbrev so-far : List PlainNode
  so-far = plain_list store m.held_page ++ without_firing_box body

  held-same : (before : List PlainSent) (w : Work) → shows_page back notes m store before w → plain_list store m.held_page ≡ w.state.held_page
  held-same before w h = ap (λ (s : State). s.held_page) h.0.state

  -- the steps are those of the definition
  first-after : (z : TextSize) → IsTextSize z so-far (notes_shown store notes) → (before : List PlainSent) (w : Work) → shows_page back notes m store before w → first_placed m.params vert z (list_back m.params so-far w) ≡ float_or_note m.params vert body w
  first-after z size before w h =
      let whole = size_of (map node_shape so-far) in
      let depth : z.depth ≡ last_depth (map node_shape so-far) = size.depth in
      let height : z.height ≡ whole -ℤ last_depth (map node_shape so-far) = size.height ∙ ap (λ d. whole -ℤ d) depth in
      let page : z.page ≡ whole -ℤ last_depth (map node_shape so-far) +ℤ last_depth (map node_shape so-far) +ℤ notes_height (footnotes w.state) = size.page ∙ (λ i. height i +ℤ depth i +ℤ notes_height (sym h.2 i)) in
      (λ i. first_goes m.params vert (height i) (depth i) (page i) w.state.floats.current (list_back m.params so-far w))
      ∙ ap (λ (ns : List PlainNode). float_or_note_in m.params vert (ns ++ without_firing_box body) w) (held-same before w h)

  module _ (mid now : MachineView) (middle new : Lists Node) where
    pub placed-does : (z : TextSize) → IsTextSize z so-far (notes_shown store notes) → Does (shows_page back notes m store) (shows_back back mid middle) (list_back m.params so-far) → Does (shows_back back mid middle) (shows_back back now new) (first_placed m.params vert z)
        → Does (shows_page back notes m store) (shows_back back now new) (float_or_note m.params vert body)
    placed-does z size one two = does-same (shows_page back notes m store) (shows_back back now new) (λ w. first_placed m.params vert z (list_back m.params so-far w)) (float_or_note m.params vert body) (first-after z size)
        (does-then (shows_page back notes m store) (shows_back back mid middle) (shows_back back now new) (list_back m.params so-far) (first_placed m.params vert z) one two)

    pub placed-cut : (e : RunFault) (z : TextSize) → IsTextSize z so-far (notes_shown store notes) → Does (shows_page back notes m store) (shows_back back mid middle) (list_back m.params so-far) → Does (shows_back back mid middle) (IsCutShort e now new) (first_placed m.params vert z)
        → Does (shows_page back notes m store) (IsCutShort e now new) (float_or_note m.params vert body)
    placed-cut e z size one two = does-same (shows_page back notes m store) (IsCutShort e now new) (λ w. first_placed m.params vert z (list_back m.params so-far w)) (float_or_note m.params vert body) (first-after z size)
        (does-then (shows_page back notes m store) (shows_back back mid middle) (IsCutShort e now new) (list_back m.params so-far) (first_placed m.params vert z) one two)

    -- the list did not go back
    pub back-cut : (e : RunFault) → Does (shows_page back notes m store) (IsCutShort e now new) (list_back m.params so-far) → Does (shows_page back notes m store) (IsCutShort e now new) (float_or_note m.params vert body)
    back-cut e does before w h =
        let whole = w.state.held_page ++ without_firing_box body in
        let went : IsCutShort e now new before (list_back m.params whole w) = subst (λ (ns : List PlainNode). IsCutShort e now new before (list_back m.params (ns ++ without_firing_box body) w)) (held-same before w h) (does before w h) in
        cut-on e before now new (list_back m.params whole w) (float_or_note m.params vert body w) went (continues-first_goes m.params vert _ _ _ w.state.floats.current (list_back m.params whole w))

-- a call after it keeps what it kept
pub placed-keeps : (back : ℕ) (args : List ℕ) (m mid now : MachineView) (store middle new : Lists Node) → KeepsBack back args m mid store middle → KeepsBack back [] mid now middle new → KeepsBack back args m now store new
placed-keeps back args m mid now store middle new x y = keeps-back_then back args [] m mid now store middle new x y (λ q live none. tt)
