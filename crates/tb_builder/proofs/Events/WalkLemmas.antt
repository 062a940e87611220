-- Waiting nodes go on a page together: what calls of `next` come to after single turns, and the lists of a walk.
use Rattle.std.proofs.Common.{◌≡◌, ◌≢◌, refl, sym, subst, ◌∙◌, ap, ℕ, zero, suc, ◌+◌, ◌≤◌, Bool, true, false, List, [], ◌∷◌, ◌++◌, length, take, drop, map, Option, None, Some, unwrap_or, append-nil, append_assoc, arith}
use Rattle.std.specs.Prelude.{ℤ, negsuc, int_le, ◌||◌}
use Rattle.std.specs.FinMap.{get, insert}
use Rattle.std.proofs.lemmas.Bool.{true≢false}
use Rattle.std.proofs.lemmas.List.{length-map, length-append, length-take-le, length-drop}
use Rattle.tb_scaled.specs.Scaled.{awful_bad}
use Rattle.tb_pool.specs.Lists.{Lists, IsLive, list_at, with_list}
use Rattle.tb_pool.proofs.MapLemmas.{get-insert_same, get-insert_other, insert_twice_from_get, has_value}
use Rattle.tb_scaled.specs.declared.Glue.{Glue}
use Rattle.tb_node.specs.declared.Node.{Node}
use Rattle.tb_node.specs.declared.Kind.{Kind}
use Rattle.tb_node.specs.declared.Kind.TheVariants as kinds
use Rattle.tb_node.specs.Shape.{Shape, box, glue, penalty, other}
use Rattle.tb_node.specs.PlainNodes.{plain_of, shape_of}
use Rattle.tb_node.specs.SmallAmounts.{IsSmall}
use Rattle.tb_node.specs.NodeSums.{added_node}
use Rattle.tb_node.specs.Roles.{act_of_kind, insertion_of_kind}
use Rattle.tb_break.specs.Best.{Breakpoint}
use Rattle.tb_break.specs.SplitPlace.{penalty_by}
use Rattle.tb_insert.specs.Account.{Frozen}
use Rattle.tb_builder.specs.declared.Ask.{Ask}
use Rattle.tb_builder.specs.declared.Try.{Try}
use Rattle.tb_builder.specs.declared.Event.{Event}
use Rattle.tb_builder.specs.declared.Event.TheVariants as events
use Rattle.tb_builder.specs.declared.Course.{Course}
use Rattle.tb_builder.specs.declared.Builder.{Builder}
use Rattle.tb_builder.specs.Reach.{holds_box}
use Rattle.tb_builder.specs.LegalPlaces.{glue_first, node_penalty}
use Rattle.tb_builder.specs.Contents.{Contents, contents_of, laid, reach_ahead, places_of}
use Rattle.tb_builder.specs.Ownership.{Ids, ids_of, KeepsOthers, IsOwned}
use Rattle.tb_builder.specs.Courses.{IsSound, IsCourseOf, Underway, kept_frozen, nodes_glue_first}
use Rattle.tb_builder.specs.CourseOffers.{OfferIs, TermsFit}
use Rattle.tb_builder.specs.PageEvents.{NextFits, NextIs, FirstIs, IsGivenOut, TellsRoom}
use Rattle.tb_builder.specs.PageTurns.{Shifted, StepIs, StepFits, TurnIs, places_on}
use Rattle.tb_builder.specs.PageCalls.{IsNext, PassedOver, ComesBy, ComesAfter}
use Rattle.tb_builder.specs.declared.Seen.TheVariants as seen
use Rattle.tb_builder.specs.PageWalks.{moved, LeadsOn, seen_of}
use Rattle.tb_builder.proofs.Turns.MoveLemmas.{Written, written_shift}
use Rattle.tb_builder.proofs.Turns.StepLemmas.{step_sums, step_terms, penalty_first, plain_first, passed_step, tried_stops, tried_goes}
use Rattle.tb_builder.proofs.Turns.FillLemmas.{moves_from, shifted_from, behind_is}
use Rattle.tb_builder.proofs.Events.FilledLemmas.{stays_after, fits_after, first_before, open_underway, open_fits, open_turn}
use Rattle.tb_builder.proofs.Events.PagingLemmas.{paging_next}
use Rattle.tb_builder.proofs.Events.PassedLemmas.{keeps_then, passed_fits, passed_same, passed_later}
use Rattle.tb_builder.proofs.Turns.PastLemmas.{event-after, holds-both}
use Rattle.tb_builder.proofs.Ownership.SpareLemmas.{one_same, contents_still, sound_still, fits_still, keeps_room}
use Rattle.tb_builder.specs.PassedNodes.{EventPast}
use Rattle.tb_builder.specs.PageProgress.{IsNextOfPage}

-- ---- calls of `next`

turn_keeps : (b d : Builder) (s t : Lists Node) (ask : Ask) (o : Option Event) → TurnIs b s ask o d t → KeepsOthers (ids_of b) s (ids_of d) t
turn_keeps b d s t ask o turn = record { others = λ q live out. turn.frame.others q out; apart = λ q live out. turn.frame.apart q out }

-- an event that is no page that fires gives no list out
given_here : (e : Event) (c x : Contents) (s t y : Lists Node) (i : Ids) (ask : Ask) → FirstIs e (laid c ask) (reach_ahead c ask) (places_of c ask) ask x → IsGivenOut e s i y
given_here (events.Fired p) c x s t y i ask f = absurd f
given_here e c x s t y i ask f = tt

-- and it tells no room
pub told_here : (e : Event) (c x : Contents) (b : Builder) (y : Lists Node) (ask : Ask) → FirstIs e (laid c ask) (reach_ahead c ask) (places_of c ask) ask x → TellsRoom e b y
told_here (events.Fired p) c x b y ask f = absurd f
told_here e c x b y ask f = tt

-- a turn without an event comes before a call
next_later : (b d x : Builder) (s t y : Lists Node) (ask : Ask) (e : Event) → b.stopped ≡ false → TurnIs b s ask None d t → IsNext d t ask e x y → IsNext b s ask e x y
next_later b d x s t y ask e on turn call =
    let at : NextIs false e (contents_of d t) ask (contents_of x y) y = subst (λ st. NextIs st e (contents_of d t) ask (contents_of x y) y) turn.turned.stopped call.event in
    let event : NextIs b.stopped e (contents_of b s) ask (contents_of x y) y =
    subst (λ st. NextIs st e (contents_of b s) ask (contents_of x y) y) (sym on) (
      first_before e (contents_of b s) (contents_of d t) (contents_of x y) ask turn.turned at.0,
      stays_after (contents_of b s) (contents_of d t) (contents_of x y) ask turn.stays at.1,
    )
    in
    record {
      page = paging_next e (contents_of b s) (contents_of x y) ask y event;
      event = event;
      past = λ go. event-after e (contents_of b s) (contents_of d t) (contents_of x y) ask turn.past (call.past turn.turned.stopped);
      sound = call.sound;
      keeps = keeps_then (ids_of b) (ids_of d) (ids_of x) s t y (turn_keeps b d s t ask None turn) call.keeps;
      body = given_here e (contents_of d t) (contents_of x y) s t y (ids_of x) ask at.0;
      room = told_here e (contents_of d t) (contents_of x y) x y ask at.0;
    }

comes_later : (b d x : Builder) (s t y : Lists Node) (ask : Ask) (e : Event) → b.stopped ≡ false → TurnIs b s ask None d t → (ps : List PassedOver) → ComesBy ps d t ask e x y → ComesBy ps b s ask e x y
comes_later b d x s t y ask e on turn [] h = next_later b d x s t y ask e on turn h
comes_later b d x s t y ask e on turn (p ∷ ps) h = (next_later b d p.builder s t p.store ask (events.Try p.place) on turn h.0, h.1)

-- a call after memory was taken
given_room : (e : Event) (s t y : Lists Node) (i : Ids) → t.lists ≡ s.lists → IsGivenOut e t i y → IsGivenOut e s i y
given_room (events.Fired p) s t y i same h = (sym (one_same s t same p.body) ∙ h.0, h.1, h.2)
given_room e s t y i same h = tt

next_room : (b x : Builder) (s t y : Lists Node) (ask : Ask) (e : Event) → t.lists ≡ s.lists → IsNext b t ask e x y → IsNext b s ask e x y
next_room b x s t y ask e same h =
    let still = contents_still s t same b in
    record {
      page = subst (λ c. IsNextOfPage e c ask (contents_of x y) y) still h.page;
      event = subst (λ c. NextIs b.stopped e c ask (contents_of x y) y) still h.event;
      past = λ on. subst (λ c. EventPast e c (contents_of x y) ask) still (h.past on);
      sound = h.sound;
      keeps = keeps_then (ids_of b) (ids_of b) (ids_of x) s t y (keeps_room s t same b) h.keeps;
      body = given_room e s t y (ids_of x) same h.body;
      room = h.room;
    }

comes_room : (b x : Builder) (s t y : Lists Node) (ask : Ask) (e : Event) → t.lists ≡ s.lists → (ps : List PassedOver) → ComesBy ps b t ask e x y → ComesBy ps b s ask e x y
comes_room b x s t y ask e same [] h = next_room b x s t y ask e same h
comes_room b x s t y ask e same (p ∷ ps) h = (next_room b p.builder s t p.store ask (events.Try p.place) same h.0, h.1)

-- ---- what leads on

module _ (ask : Ask) where
  pub leads_here : (b : Builder) (s : Lists Node) → IsSound b s → NextFits (contents_of b s) ask → LeadsOn b s ask b s
  leads_here b s sound fits = record {
    sound = sound;
    fits = fits;
    held = refl;
    keeps = record { others = λ q live out. refl; apart = λ q live out. out };
    later = λ e x y h. h;
  }

  pub leads_after : (b d x : Builder) (s t y : Lists Node) → LeadsOn b s ask d t → LeadsOn d t ask x y → LeadsOn b s ask x y
  leads_after b d x s t y h k = record {
    sound = k.sound;
    fits = k.fits;
    held = k.held ∙ h.held;
    keeps = keeps_then (ids_of b) (ids_of d) (ids_of x) s t y h.keeps k.keeps;
    later = λ e v w c. h.later e v w (k.later e v w c);
  }

  -- a turn without an event
  pub leads_turn : (b d : Builder) (s t : Lists Node) → b.stopped ≡ false → NextFits (contents_of b s) ask → TurnIs b s ask None d t → LeadsOn b s ask d t
  leads_turn b d s t on fits turn = record {
    sound = turn.sound;
    fits = fits_after (contents_of b s) (contents_of d t) ask fits turn.stays turn.turned;
    held = turn.stays.held;
    keeps = turn_keeps b d s t ask None turn;
    later = λ e x y h. record { passed = h.passed; comes = comes_later b d x s t y ask e on turn h.passed h.comes };
  }

  -- a call of `next` that tried a place
  pub leads_next : (b d : Builder) (s t : Lists Node) (p : Try) → NextFits (contents_of b s) ask → IsNext b s ask (events.Try p) d t → LeadsOn b s ask d t
  leads_next b d s t p fits call = record {
    sound = call.sound;
    fits = passed_fits b d s t ask p call fits;
    held = passed_same b d s t ask p call;
    keeps = call.keeps;
    later = λ e x y h. passed_later b d s t ask p call e x y h;
  }

  -- the last call, after a walk
  pub leads_to : (b l w d : Builder) (s m v t : Lists Node) (e : Event) → LeadsOn b s ask l m → LeadsOn l m ask w v → IsNext w v ask e d t → ComesAfter b s ask e d t
  leads_to b l w d s m v t e h k n = h.later e d t (k.later e d t (record { passed = []; comes = n }))

  -- memory was taken
  pub leads_room : (b : Builder) (s t : Lists Node) → t.lists ≡ s.lists → IsSound b s → NextFits (contents_of b s) ask → LeadsOn b s ask b t
  leads_room b s t same sound fits = record {
    sound = sound_still s t same b sound;
    fits = fits_still s t same b ask fits;
    held = ap (λ (c : Contents). c.held) (contents_still s t same b);
    keeps = keeps_room s t same b;
    later = λ e x y h. record { passed = h.passed; comes = comes_room b x s t y ask e same h.passed h.comes };
  }

  -- a turn with an event is a call
  pub next_turn : (b d : Builder) (s t : Lists Node) (e : Event) → b.stopped ≡ false → TurnIs b s ask (Some e) d t → IsNext b s ask e d t
  next_turn b d s t e on turn =
      let event : NextIs b.stopped e (contents_of b s) ask (contents_of d t) t = subst (λ st. NextIs st e (contents_of b s) ask (contents_of d t) t) (sym on) (turn.turned, turn.stays) in
      record {
        page = paging_next e (contents_of b s) (contents_of d t) ask t event;
        event = event;
        past = λ go. turn.past;
        sound = turn.sound;
        keeps = turn_keeps b d s t ask (Some e) turn;
        body = given_here e (contents_of b s) (contents_of d t) s t t (ids_of d) ask turn.turned;
        room = told_here e (contents_of b s) (contents_of d t) d t ask turn.turned;
      }

  -- a turn that tried a place
  pub leads_try : (b d : Builder) (s t : Lists Node) (p : Try) → b.stopped ≡ false → NextFits (contents_of b s) ask → TurnIs b s ask (Some (events.Try p)) d t → LeadsOn b s ask d t
  leads_try b d s t p on fits turn = leads_next b d s t p fits (next_turn b d s t (events.Try p) on turn)

-- ---- the lists of a walk

-- the list of an id that is live
pub list_there : (s : Lists Node) (l : ℕ) → IsLive s l → get s.lists l ≡ Some (list_at s l)
list_there s l live = let v = has_value (get s.lists l) live in v.1 ∙ ap Some (sym (ap (λ o. unwrap_or o []) v.1))

-- the first node of the rest is the next that is taken
pub taken_more : (xs : List Node) (k : ℕ) (n : Node) (ms : List Node) → drop k xs ≡ n ∷ ms → take (k + 1) xs ≡ take k xs ++ n ∷ []
taken_more [] zero n ms e = cc
taken_more [] (suc k) n ms e = cc
taken_more (x ∷ xs) zero n ms e = let same : x ≡ n = cc in ap (λ y. y ∷ []) same
taken_more (x ∷ xs) (suc k) n ms e =
    let shift : suc k + 1 ≡ suc (k + 1) = omega arith in
    ap (λ m. take m (x ∷ xs)) shift ∙ ap (λ ys. x ∷ ys) (taken_more xs k n ms e)

pub left_rest : (xs : List Node) (k : ℕ) (n : Node) (ms : List Node) → drop k xs ≡ n ∷ ms → ms ≡ drop (k + 1) xs
left_rest [] zero n ms e = cc
left_rest [] (suc k) n ms e = cc
left_rest (x ∷ xs) zero n ms e = cc
left_rest (x ∷ xs) (suc k) n ms e =
    let shift : suc k + 1 ≡ suc (k + 1) = omega arith in
    left_rest xs k n ms e ∙ ap (λ m. drop m (x ∷ xs)) (sym shift)

-- if something is left, not all was taken
pub left_more : (xs : List Node) (k : ℕ) (n : Node) (ms : List Node) → drop k xs ≡ n ∷ ms → k + 1 ≤ length xs
left_more xs k n ms e = omega (arith, length-drop k xs, ap length e)

module _ (b : Ids) (s : Lists Node) (apart : b.waiting ≢ b.page) where
  abbrev page_with : ℕ → List Node
  page_with k = list_at s b.page ++ take k (list_at s b.waiting)

  abbrev without : ℕ → List Node
  without k = drop k (list_at s b.waiting)

  at_waiting : (k : ℕ) → get (moved b s k).lists b.waiting ≡ Some (without k)
  unfolding moved
  at_waiting k = get-insert_other (with_list s b.waiting (without k)) b.page (page_with k) b.waiting apart ∙ get-insert_same s.lists b.waiting (without k)

  at_page : (k : ℕ) → get (moved b s k).lists b.page ≡ Some (page_with k)
  unfolding moved
  at_page k = get-insert_same (with_list s b.waiting (without k)) b.page (page_with k)

  at_others : (k q : ℕ) → q ≢ b.waiting → q ≢ b.page → get (moved b s k).lists q ≡ get s.lists q
  unfolding moved
  at_others k q w p = get-insert_other (with_list s b.waiting (without k)) b.page (page_with k) q p ∙ get-insert_other s.lists b.waiting (without k) q w

  pub moved_waiting : (k : ℕ) → list_at (moved b s k) b.waiting ≡ drop k (list_at s b.waiting)
  moved_waiting k = ap (λ o. unwrap_or o []) (at_waiting k)

  pub moved_page : (k : ℕ) → list_at (moved b s k) b.page ≡ list_at s b.page ++ take k (list_at s b.waiting)
  moved_page k = ap (λ o. unwrap_or o []) (at_page k)

  -- lists with this page and these waiting nodes
  moved_is : (k : ℕ) (t : Lists Node) → get t.lists b.waiting ≡ Some (without k) → get t.lists b.page ≡ Some (page_with k) → ((q : ℕ) → q ≢ b.waiting → q ≢ b.page → get t.lists q ≡ get s.lists q) → t.spare ≡ s.spare → t ≡ moved b s k
  unfolding moved
  moved_is k t w p others spare =
      let same = insert_twice_from_get s.lists t.lists b.waiting b.page (without k) (page_with k) apart w p others in
      λ i. record { lists = same i; spare = spare i }

  -- one more node
  pub moved_step : (k : ℕ) (n : Node) → drop k (list_at s b.waiting) ≡ n ∷ drop (k + 1) (list_at s b.waiting)
      → (moved b s (k + 1)).lists ≡ insert (with_list (moved b s k) b.waiting (drop (k + 1) (list_at s b.waiting))) b.page (list_at (moved b s k) b.page ++ n ∷ [])
  moved_step k n e =
      insert_twice_from_get (moved b s k).lists (moved b s (k + 1)).lists b.waiting b.page (without (k + 1)) (list_at (moved b s k) b.page ++ n ∷ []) apart
      (at_waiting (k + 1))
      (at_page (k + 1) ∙ ap Some (
      ap (λ ns. list_at s b.page ++ ns) (taken_more (list_at s b.waiting) k n (without (k + 1)) e)
      ∙ sym (append_assoc (list_at s b.page) (take k (list_at s b.waiting)) (n ∷ []))
      ∙ ap (λ ns. ns ++ n ∷ []) (sym (moved_page k))
      ))
      (λ q w p. at_others (k + 1) q w p ∙ sym (at_others k q w p))

module _ (b : Ids) (s : Lists Node) (own : IsOwned b s) where
  pub apart_waiting : b.waiting ≢ b.page
  apart_waiting e = own.differ.0.0 (sym e)

  -- no more nodes wait than before
  pub moved_few : (k : ℕ) → length (list_at (moved b s k) b.waiting) ≤ length (list_at s b.waiting)
  moved_few k = omega (arith, ap length (moved_waiting b s apart_waiting k), length-drop k (list_at s b.waiting))

  -- no node went
  pub moved_none : s ≡ moved b s 0
  moved_none = moved_is b s apart_waiting 0 s (list_there s b.waiting own.live.1.0) (list_there s b.page own.live.0 ∙ ap Some (sym (append-nil (list_at s b.page)))) (λ q w p. refl) refl

  -- the first k waiting nodes went to the page
  pub moved_front : (k : ℕ) (t : Lists Node) → t.lists ≡ insert (with_list s b.waiting (drop k (list_at s b.waiting))) b.page (list_at s b.page ++ take k (list_at s b.waiting)) → t.spare ≡ s.spare → t ≡ moved b s k
  unfolding moved
  moved_front k t went spare = λ i. record { lists = went i; spare = spare i }

-- how many nodes are on the page of a walk
pub page_length : (b : Builder) (s : Lists Node) (k : ℕ) (n : Node) (ms : List Node) → IsSound b (moved (ids_of b) s k) → drop k (list_at s b.waiting) ≡ n ∷ ms → length (list_at s b.page) + k ≡ length (contents_of b (moved (ids_of b) s k)).page
page_length b s k n ms sound next =
    let here = moved (ids_of b) s k in
    let more = left_more (list_at s b.waiting) k n ms next in
    sym (
    length-map (list_at here b.page) (plain_of (list_at here))
    ∙ ap length (moved_page (ids_of b) s (apart_waiting (ids_of b) here sound.own) k)
    ∙ length-append (list_at s b.page) (take k (list_at s b.waiting))
    ∙ ap (λ m. length (list_at s b.page) + m) (length-take-le k (list_at s b.waiting) (omega arith))
    )

-- ---- what a walk sees of a node

-- it has this shape, and is no act and no insertion
pub record SeenShape (x : Shape) (n : Node) : Type 0 where
  pub shape : shape_of n ≡ x
  pub no_act : act_of_kind n.kind ≡ None
  pub no_insertion : insertion_of_kind n.kind ≡ None

-- it is a box
pub seen_solid : (h d : ℤ) (n : Node) → seen_of n.kind ≡ seen.Solid h d → SeenShape (box h d) n
seen_solid h d n e = by_kind n.kind e
  where
    by_kind : (k : Kind) → seen_of k ≡ seen.Solid h d → (let x : Node = record { line = n.line; kind = k } in SeenShape (box h d) x)
    by_kind (kinds.Hbox what a b) e = record { shape = cc; no_act = refl; no_insertion = refl }
    by_kind k e = cc

-- it is a penalty
pub seen_gate : (p : ℤ) (n : Node) → seen_of n.kind ≡ seen.Gate p → SeenShape (penalty p) n
seen_gate p n e = by_kind n.kind e
  where
    by_kind : (k : Kind) → seen_of k ≡ seen.Gate p → (let x : Node = record { line = n.line; kind = k } in SeenShape (penalty p) x)
    by_kind (kinds.Pen q) e = record { shape = cc; no_act = refl; no_insertion = refl }
    by_kind k e = cc

-- it is a mark, a note or a whatsit
pub seen_still : (n : Node) → seen_of n.kind ≡ seen.Still → SeenShape other n
seen_still n e = by_kind n.kind e
  where
    by_kind : (k : Kind) → seen_of k ≡ seen.Still → (let x : Node = record { line = n.line; kind = k } in SeenShape other x)
    by_kind (kinds.Mark name) e = record { shape = refl; no_act = refl; no_insertion = refl }
    by_kind (kinds.Note name) e = record { shape = refl; no_act = refl; no_insertion = refl }
    by_kind kinds.Whatsit e = record { shape = refl; no_act = refl; no_insertion = refl }
    by_kind k e = cc

-- it is glue
pub record SeenSpace (n : Node) : Type 0 where
  pub g : Glue
  pub shape : shape_of n ≡ glue g
  pub no_act : act_of_kind n.kind ≡ None
  pub no_insertion : insertion_of_kind n.kind ≡ None

pub seen_space : (n : Node) → seen_of n.kind ≡ seen.Space → SeenSpace n
seen_space n e = by_kind n.kind e
  where
    by_kind : (k : Kind) → seen_of k ≡ seen.Space → (let x : Node = record { line = n.line; kind = k } in SeenSpace x)
    by_kind (kinds.Skip f) e = record { g = f; shape = refl; no_act = refl; no_insertion = refl }
    by_kind k e = cc

-- ---- a node of the walk

-- the node is the next of a walk that passed k nodes: no act or insertion, and its place is by whether this is glue that follows
pub record Walks (b : Builder) (s : Lists Node) (ask : Ask) (n : Node) (k : ℕ) (follows : Bool) : Type 0 where
  pub sound : IsSound b (moved (ids_of b) s k)
  pub on : b.stopped ≡ false
  pub opened : b.opened ≡ true
  pub fits : NextFits (contents_of b (moved (ids_of b) s k)) ask
  pub next : drop k (list_at s b.waiting) ≡ n ∷ drop (k + 1) (list_at s b.waiting)
  pub no_act : act_of_kind n.kind ≡ None
  pub no_insertion : insertion_of_kind n.kind ≡ None
  pub place : (lasting : Bool) → penalty_by lasting (nodes_glue_first (drop (k + 1) (list_at s b.waiting))) (shape_of n) ≡ penalty_by lasting follows (shape_of n)

-- so is one of a shape whose place does not depend on what follows
pub walks_shape : (b : Builder) (s : Lists Node) (ask : Ask) (n : Node) (k : ℕ) (x : Shape) → shape_of n ≡ x → ((lasting follows : Bool) → penalty_by lasting follows x ≡ penalty_by lasting false x)
    → act_of_kind n.kind ≡ None → insertion_of_kind n.kind ≡ None → IsSound b (moved (ids_of b) s k) → b.stopped ≡ false → b.opened ≡ true → NextFits (contents_of b (moved (ids_of b) s k)) ask
    → drop k (list_at s b.waiting) ≡ n ∷ drop (k + 1) (list_at s b.waiting) → Walks b s ask n k false
walks_shape b s ask n k x shape same no_act no_insertion sound on opened fits next = record {
  sound = sound;
  on = on;
  opened = opened;
  fits = fits;
  next = next;
  no_act = no_act;
  no_insertion = no_insertion;
  place = λ lasting. (let g = nodes_glue_first (drop (k + 1) (list_at s b.waiting)) in ap (penalty_by lasting g) shape ∙ same lasting g ∙ sym (ap (penalty_by lasting false) shape));
}

module _ (b : Builder) (s : Lists Node) (ask : Ask) (n : Node) (k : ℕ) {follows : Bool} (w : Walks b s ask n k follows) where
  abbrev here : Lists Node
  here = moved (ids_of b) s k

  abbrev there : Lists Node
  there = moved (ids_of b) s (k + 1)

  abbrev behind : List Node
  behind = drop (k + 1) (list_at s b.waiting)

  abbrev z : Frozen
  z = kept_frozen (contents_of b here)

  abbrev held : ℕ → List Node
  held = list_at here

  apart : b.waiting ≢ b.page
  apart = apart_waiting (ids_of b) here w.sound.own

  first : list_at here b.waiting ≡ n ∷ behind
  first = moved_waiting (ids_of b) s apart k ∙ w.next

  underway : Underway z b.course (contents_of b here).page (contents_of b here).waiting
  underway = open_underway b here ask n behind w.sound w.on w.opened w.fits first

  pub walk_fits : StepFits z (contents_of b here).page held n
  walk_fits = open_fits b here ask n behind w.sound w.on w.opened w.fits first w.no_act w.no_insertion

  pub walk_sums : (l : Course) (bs : List Breakpoint) → IsCourseOf z l (contents_of b here).page bs → IsSmall (added_node l.scan.max_depth l.scan.sums (shape_of n))
  walk_sums l bs h = step_sums z l (contents_of b here).page bs held n h walk_fits

  pub walk_course : IsCourseOf z b.course (contents_of b here).page (places_on z (contents_of b here))
  walk_course = underway.course

  pub walk_terms : TermsFit b.course
  walk_terms = step_terms z b.course (contents_of b here).page (places_on z (contents_of b here)) held n underway.course walk_fits

  -- the place before it
  place_is : (o : Option ℤ) → o ≡ penalty_by b.course.lasting follows (shape_of n) → node_penalty b.course.lasting (glue_first (map (plain_of held) behind)) (plain_of held n) ≡ o
  place_is o value = penalty_first held b.course.lasting (nodes_glue_first (drop 1 (list_at here b.waiting))) o (list_at here b.waiting) behind n first w.no_act refl (value ∙ sym (ap (λ ns. penalty_by b.course.lasting (nodes_glue_first ns) (shape_of n)) (ap (drop 1) first) ∙ w.place b.course.lasting))

  waits : (contents_of b here).waiting ≡ plain_of held n ∷ map (plain_of held) behind
  waits = plain_first held (list_at here b.waiting) behind n first

  wrote : Written (ids_of b) here there (list_at here b.page ++ n ∷ []) behind
  wrote = written_shift (ids_of b) here there n behind w.sound.own first (moved_step (ids_of b) s apart k n w.next)

  module _ (d : Builder) (ids : ids_of d ≡ ids_of b) (d_opened : d.opened ≡ b.opened) (d_frozen : d.frozen ≡ b.frozen) (d_stopped : d.stopped ≡ b.stopped) where
    shifted : Shifted (plain_of held n) (contents_of b here) (contents_of d there)
    shifted = shifted_from b d here there n behind ids w.sound.own first wrote d_frozen d_stopped

    turns : (o : Option Event) → StepIs o z d.course (contents_of b here) (contents_of d there) → TurnIs b here ask o d there
    turns o step = open_turn b here ask n behind w.sound w.on w.opened w.fits first d there o (moves_from b d here there (list_at here b.page ++ n ∷ []) behind ids w.sound.own wrote) step d_opened d_frozen
        (λ holds. ap holds_box shifted.page ∙ holds-both (contents_of b here).page (plain_of held n ∷ []) ∙ ap (λ x. x || holds_box (plain_of held n ∷ [])) holds)
        (λ ms go e. waiting_now ∙ behind_is (list_at here b.waiting) behind ms n first e) w.no_act
      where
        waiting_now : list_at there d.waiting ≡ behind
        waiting_now = ap (λ (i : Ids). list_at there i.waiting) ids ∙ wrote.waiting_is

    -- no legal place is before it
    pub walk_passes : (o : Option ℤ) → o ≡ None → o ≡ penalty_by b.course.lasting follows (shape_of n) → IsCourseOf z d.course ((contents_of b here).page ++ plain_of held n ∷ []) (places_on z (contents_of b here)) → LeadsOn b here ask d there
    walk_passes o none value course = leads_turn ask b d here there w.on w.fits (turns None (passed_step z b.course d.course (contents_of b here) (contents_of d there) held n (map (plain_of held) behind) underway walk_fits waits (place_is o value ∙ none) shifted course))

    -- the place before it was tried, and is no stop
    pub walk_tries : (o : Option ℤ) (p : ℤ) (t : Try) (line : ℕ) (l : Course) → o ≡ Some p → o ≡ penalty_by b.course.lasting follows (shape_of n) → OfferIs z l (contents_of b here).page (places_on z (contents_of b here)) t line p → line ≡ n.line
        → (int_le awful_bad t.cost || int_le t.penalty (negsuc 9999)) ≡ false
        → ((bs : List Breakpoint) → IsCourseOf z l (contents_of b here).page bs → IsCourseOf z d.course ((contents_of b here).page ++ plain_of held n ∷ []) bs) → LeadsOn b here ask d there
    walk_tries o p t line l some value offered line_is goes put =
        leads_try ask b d here there t w.on w.fits (turns (Some (events.Try t)) (tried_goes z b.course l (contents_of b here) held n p t line underway walk_fits offered line_is d.course (contents_of d there) (map (plain_of held) behind) waits (place_is o value ∙ some) goes shifted (d_stopped ∙ w.on) put))

  -- the place before it is a stop
  pub walk_stops : (l : Course) (o : Option ℤ) (p : ℤ) (t : Try) (line : ℕ) → o ≡ Some p → o ≡ penalty_by b.course.lasting follows (shape_of n)
      → OfferIs z l (contents_of b here).page (places_on z (contents_of b here)) t line p → line ≡ n.line → (int_le awful_bad t.cost || int_le t.penalty (negsuc 9999)) ≡ true
      → (let d : Builder = record b { stopped = true; course = l } in LeadsOn b here ask d here)
  walk_stops l o p t line some value offered line_is stop =
      let d : Builder = record b { stopped = true; course = l } in
      leads_try ask b d here here t w.on w.fits (open_turn b here ask n behind w.sound w.on w.opened w.fits first d here (Some (events.Try t)) (record {
        own = w.sound.own;
        frame = record { others = λ q h. refl; apart = λ q h. h };
        classes = refl;
        boxes = refl;
        held = refl;
      }) (tried_stops z b.course l (contents_of b here) held n p t line underway walk_fits offered line_is (contents_of d here) (map (plain_of held) behind) waits (place_is o value ∙ some) stop refl refl refl) refl refl
      (λ holds. holds) (λ ms go f. absurd (true≢false go)) w.no_act)
