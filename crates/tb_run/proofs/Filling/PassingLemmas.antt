-- Places are passed over while a page is filled.
use Rattle.std.proofs.Common.{◌≡◌, refl, sym, subst, ◌∙◌, ap, ℕ, ◌<◌, ◌≤◌, Bool, true, false, List, [], ◌∷◌, ◌++◌, None, Some, append-nil, arith}
use Rattle.std.proofs.lemmas.Bool.{true≢false}
use Rattle.tb_node.specs.declared.Act.{Act}
use Rattle.tb_builder.specs.declared.Ask.{Ask}
use Rattle.tb_builder.specs.declared.Event.{Event}
use Rattle.tb_builder.specs.declared.Event.TheVariants as events
use Rattle.tb_builder.specs.declared.Page.{Page}
use Rattle.tb_builder.specs.declared.Try.{Try}
use Rattle.tb_builder.specs.PageEvents.{FiresWith}
use Rattle.tb_builder.specs.PageProgress.{IsNextOfPage}
use Rattle.tb_builder.specs.PageCalls.{IsNext, PassedOver, ComesBy}
use Rattle.tb_output.specs.State.{State}
use Rattle.tb_sheet.specs.Asked.{IsSizedAct}
use Rattle.tb_output.specs.ActCalls.{line_of}
use Rattle.tb_items.specs.declared.happenings.Happening.{Happening}
use Rattle.tb_run.specs.declared.routine.Routine.{Routine}
use Rattle.tb_run.specs.declared.routine.Ending.TheVariants as endings
use Rattle.tb_items.specs.Happenings.{noted_try}
use Rattle.tb_run.specs.Routine.{built_in, held_in, state_of, with_events, IsConsistent, IsReady}
use Rattle.tb_run.specs.FilledPages.{sent_happenings, IsFilledLast, IsFiring}
use Rattle.tb_run.specs.RoutinePages.{HasComeTo, HasActed, HasNotActed}
use Rattle.tb_run.proofs.Filling.FillingLemmas.{state_now, IsAskedFor, IsAskedAct, IsAskedAgain, IsUnderway, left_of_page, turns_left, next-state, underway-tried, fewer-tried, act-fits, underway-acted, fewer-acted, filled-full, filled-over}
use Rattle.tb_items.specs.ItemsLeft.{nodes_left, pieces_left, AreItemsLeft}
use Rattle.tb_builder.specs.SizedContents.{IsSizedAsk}
use Rattle.tb_output.specs.Act.{act_on}
use Rattle.tb_steps.specs.Run.{led_by, led_through, ask_for}
use Rattle.tb_run.proofs.Filling.AskedCalls.{asks, begun-behind, sized-behind, act-agrees, tried-agrees}
use Rattle.tb_run.proofs.Filling.ComingPages.{sized-asked}
use Rattle.tb_run.proofs.Turns.WholeLemmas.{built-whole}
use Rattle.tb_run.proofs.Filling.MoreLemmas.{IsOpenFor, IsMetBy, next-page, next-going, next-kept, next-open, fired-open, met-try, met-act, met-page}
use Rattle.tb_run.proofs.Filling.FiringLemmas.{filled-fires}

-- the routine before the last call of the builder, which came to the event: as much of the page is left there at most
pub record IsLastCall (wanted : Bool) (r : Routine) (now ask : Ask) (e : Event) (d : Routine) (hs : List Happening) (most_left : ℕ) : Type 0 where
  pub before : Routine
  pub underway : IsUnderway wanted r before now hs
  pub next : IsNext before.builder before.store ask e d.builder d.store
  pub machine : d.machine ≡ before.machine
  pub most : d.most ≡ before.most
  pub left : d.left ≡ before.left
  pub fewer : left_of_page r before ≤ most_left

module _ (wanted : Bool) (r d : Routine) (now : Ask) (hs : List Happening) (ready : IsReady r) (ask : Ask) (asked : ask ≡ ask_for (state_of r)) (e : Event) where
  -- an unwanted place is no happening
  none-noted : (b : Bool) → b ≡ false → (x : Try) → hs ≡ hs ++ noted_try b x
  none-noted true is x = absurd (true≢false is)
  none-noted false is x = sym (append-nil hs)

  open-now : (q : Routine) → IsUnderway wanted r q now hs → IsOpenFor q.left (built_in q) ask
  open-now q h = subst (IsOpenFor q.left (built_in q)) (sym asked) h.ends

  -- what the page is made for, behind a call
  module _ (q x : Routine) (h : IsUnderway wanted r q now hs) (v : Event) (n : IsNext q.builder q.store ask v x.builder x.store) (same : x.machine ≡ q.machine) (left : x.left ≡ q.left) where
    made : IsNext q.builder q.store (ask_for (state_of r)) v x.builder x.store
    made = subst (λ a. IsNext q.builder q.store a v x.builder x.store) asked n

    abbrev t : State
    t = state_now r q

    begun-for : (f : Ask) → x.builder.frozen ≡ Some f → now ≡ ask_for (state_of r)
    begun-for = begun-behind t now (ask_for (state_of r)) (nodes_left q.left) q.builder q.store h.asked.agrees x.builder x.store v h.whole.builder made

    sized-for : (f : Ask) → x.builder.frozen ≡ Some f → IsSizedAsk (ask_for (state_of r))
    sized-for = sized-behind t now (ask_for (state_of r)) (nodes_left q.left) q.builder q.store h.asked.agrees x.builder x.store v h.whole.builder made (sized-asked t h.coming.runs h.whole.machine.goal) h.asked.sized

    asked-tried : (y : Try) → v ≡ events.Try y → q.builder.stopped ≡ false → IsAskedFor r x now
    asked-tried y is on =
        let begun : x.builder.frozen ≡ None → ⊥ = tried-agrees t now (ask_for (state_of r)) (nodes_left q.left) q.builder q.store h.asked.agrees x.builder x.store v h.whole.builder made on y is in
        record { agrees = record { begun = begun-for; asked = λ none. absurd (begun none); later = λ none. absurd (begun none) }; sized = sized-for }

    asked-act : state_now r x ≡ t → (a : Act) → v ≡ events.Act a → q.builder.stopped ≡ false → IsAskedAct r x now a
    asked-act still a is on = record {
      begun = begun-for;
      later = λ none.
          act-agrees t now (ask_for (state_of r)) (nodes_left q.left) q.builder q.store h.asked.agrees x.builder x.store v h.whole.builder made on a is none
          ∙ (λ i. asks (led_by (λ y. led_through ((built_in x).waiting ++ nodes_left (sym left i)) y) (sym still i) (act_on (sym still i).params (sym still i) a)));
      sized = sized-for;
    }

  -- each place that is passed over is one call
  walk : (ps : List PassedOver) (q : Routine) → IsUnderway wanted r q now hs → wanted ≡ false → ComesBy ps q.builder q.store ask e d.builder d.store → d.machine ≡ q.machine → d.most ≡ q.most → d.left ≡ q.left → IsLastCall wanted r now ask e d hs (left_of_page r q)
  walk [] q h unwanted n same most left = record { before = q; underway = h; next = n; machine = same; most = most; left = left; fewer = (omega arith) }
  walk (p ∷ ps) q h unwanted n same most left =
      let x : Routine = record { store = p.store; builder = p.builder; machine = q.machine; most = q.most; left = q.left } in
      let t : Event = events.Try p.place in
      let ends = open-now q h in
      let page : IsNextOfPage t (held_in q) ask (held_in x) x.store = next-page q x ask t n.0 refl ends (met-try q.left p.place) in
      let kept = next-kept q x ask t n.0 refl ends in
      let after : IsOpenFor x.left (built_in x) ask = next-open q x ask t n.0 refl ends (next-going q x ask t n.0 refl ends (λ f. f)) (met-try q.left p.place) in
      let going = next-going q x ask t n.0 refl ends (λ f. f) in
      let u : IsUnderway wanted r x now hs = underway-tried wanted r q x now hs ready h ask asked t page n.0.sound n.0.keeps refl refl refl kept p.place refl after (asked-tried q x h t n.0 refl refl p.place refl going) hs (none-noted wanted unwanted p.place) in
      let f : left_of_page r x < left_of_page r q = fewer-tried wanted r q x now hs ready h ask asked t page n.0.sound n.0.keeps refl refl refl kept p.place refl in
      let l : IsLastCall wanted r now ask e d hs (left_of_page r x) = walk ps x u unwanted n.1 same most left in
      let k = l.fewer in
      record { before = l.before; underway = l.underway; next = l.next; machine = l.machine; most = l.most; left = l.left; fewer = (omega (arith, f, k)) }

  module _ (q : Routine) (h : IsUnderway wanted r q now hs) (c : HasComeTo wanted e ask q d) where
    by-wanted : (b : Bool) → wanted ≡ b → IsLastCall wanted r now ask e d hs (left_of_page r q)
    by-wanted true is = record { before = q; underway = h; next = subst (λ ps. ComesBy ps q.builder q.store ask e d.builder d.store) (c.none is) c.comes; machine = c.machine; most = c.most; left = c.left; fewer = (omega arith) }
    by-wanted false is = walk c.passed q h is c.comes c.machine c.most c.left

    pub last-call : IsLastCall wanted r now ask e d hs (left_of_page r q)
    last-call = by-wanted wanted refl

    abbrev l : IsLastCall wanted r now ask e d hs (left_of_page r q)
    l = last-call

    ends : IsOpenFor l.before.left (built_in l.before) ask
    ends = open-now l.before l.underway

    kept : (built_in d).classes ≡ (built_in l.before).classes
    kept = next-kept l.before d ask e l.next l.left ends

    page-of : IsMetBy l.before.left e → IsNextOfPage e (held_in l.before) ask (held_in d) d.store
    page-of met = next-page l.before d ask e l.next l.left ends met

    pub come-whole : IsConsistent d
    come-whole = built-whole l.before d l.underway.whole l.next.keeps l.next.sound l.machine (subst (λ o. AreItemsLeft (built_in d).classes o) (sym l.left) (subst (λ cs. AreItemsLeft cs l.before.left) (sym kept) l.underway.whole.items))

    -- no more turns are left
    turns-so : (behind : Routine) → behind.left ≡ d.left → left_of_page r behind < left_of_page r l.before → turns_left r behind < turns_left r q
    turns-so behind same f = let k = l.fewer in let e = ap pieces_left (same ∙ c.left) in omega (arith, f, k, e)

    -- a place was tried
    module _ (x : Try) (is : e ≡ events.Try x) where
      met-here : IsMetBy l.before.left e
      met-here = subst (IsMetBy l.before.left) (sym is) (met-try l.before.left x)

      going-here : l.before.builder.stopped ≡ false
      going-here = next-going l.before d ask e l.next l.left ends (λ f. subst (λ v. FiresWith v (built_in l.before) ask (built_in d) d.store) is f)

      pub come-tried : (new : List Happening) → new ≡ hs ++ noted_try wanted x → IsUnderway wanted r d now new
      come-tried = underway-tried wanted r l.before d now hs ready l.underway ask asked e (page-of met-here) l.next.sound l.next.keeps l.machine l.most l.left kept x is (next-open l.before d ask e l.next l.left ends going-here met-here) (asked-tried l.before d l.underway e l.next l.machine l.left x is going-here)

      pub come-fewer : turns_left r d < turns_left r q
      come-fewer = turns-so d refl (fewer-tried wanted r l.before d now hs ready l.underway ask asked e (page-of met-here) l.next.sound l.next.keeps l.machine l.most l.left kept x is)

    -- an act was reached
    module _ (a : Act) (is : e ≡ events.Act a) where
      met-act-here : IsMetBy l.before.left e
      met-act-here = subst (IsMetBy l.before.left) (sym is) (met-act l.before.left a)

      going-act : l.before.builder.stopped ≡ false
      going-act = next-going l.before d ask e l.next l.left ends (λ f. subst (λ v. FiresWith v (built_in l.before) ask (built_in d) d.store) is f)

      open-act : IsOpenFor d.left (built_in d) ask
      open-act = next-open l.before d ask e l.next l.left ends going-act met-act-here

      made-act : IsAskedAct r d now a
      made-act =
          asked-act l.before d l.underway e l.next l.machine l.left
          (next-state wanted r l.before d now hs ready l.underway ask asked e (page-of met-act-here) l.next.sound l.next.keeps l.machine l.most l.left kept) a is going-act

      pub come-sized : IsSizedAct a
      come-sized = act-fits wanted r l.before d now hs ready l.underway ask asked e (page-of met-act-here) l.next.sound l.next.keeps l.machine l.most l.left kept a is

      pub come-acted : (behind : Routine) → HasActed a d behind → (next : Ask) → IsAskedAgain behind now next → (new : List Happening) → new ≡ hs ++ sent_happenings behind.machine.events → IsUnderway wanted r (with_events [] behind) next new
      come-acted behind acted next again = underway-acted wanted r l.before d now hs ready l.underway ask asked e (page-of met-act-here) l.next.sound l.next.keeps l.machine l.most l.left kept a is behind acted open-act made-act next again

      pub come-fewer-acted : (behind : Routine) → HasActed a d behind → turns_left r (with_events [] behind) < turns_left r q
      come-fewer-acted behind acted =
          turns-so (with_events [] behind) acted.left
          (fewer-acted wanted r l.before d now hs ready l.underway ask asked e (page-of met-act-here) l.next.sound l.next.keeps l.machine l.most l.left kept a is behind acted)

      pub come-full : (behind : Routine) (live : ℕ) → HasNotActed a live d behind → IsFilledLast wanted r (endings.PoolFull (line_of a) live) behind hs
      come-full behind live k = filled-full wanted r l.before d now hs ready l.underway ask asked e (page-of met-act-here) l.next.sound l.next.keeps l.machine l.most l.left kept a is behind live k

    -- nothing waits any more, and nothing is left
    pub come-over : e ≡ events.Empty → d.left ≡ None → IsFilledLast wanted r endings.Done d hs
    come-over is none = filled-over wanted r l.before d now hs ready l.underway ask asked e (page-of (subst (λ o. IsMetBy o e) (sym none ∙ l.left) tt)) l.next.sound l.next.keeps l.machine l.most l.left kept is

    pub come-fires : (page : Page) → e ≡ events.Fired page → IsFiring wanted r page d hs
    come-fires page is =
        filled-fires wanted r l.before d now hs ready l.underway ask asked e (page-of (subst (IsMetBy l.before.left) (sym is) (met-page l.before.left page))) l.next.sound l.next.keeps l.machine l.most l.left kept page is l.next.body l.next.room
        (fired-open l.before d ask e l.next l.left ends page is)
