-- Places are passed over while a page is filled.
use Rattle.std.proofs.Common.{◌≡◌, refl, sym, subst, ◌∙◌, ap, ◌<◌, ◌≤◌, Bool, true, false, List, [], ◌∷◌, ◌++◌, None, Some, append-nil, arith}
use Rattle.std.proofs.lemmas.Bool.{true≢false}
use Rattle.tb_node.specs.declared.Act.{Act}
use Rattle.tb_builder.specs.declared.Event.{Event}
use Rattle.tb_builder.specs.declared.Event.TheVariants as events
use Rattle.tb_builder.specs.declared.Page.{Page}
use Rattle.tb_builder.specs.declared.Try.{Try}
use Rattle.tb_builder.specs.Contributions.{ends_in_kern}
use Rattle.tb_builder.specs.Courses.{IsSound}
use Rattle.tb_builder.specs.PageCalls.{IsNext, PassedOver, ComesBy}
use Rattle.tb_builder.specs.PageEvents.{FiresWith}
use Rattle.tb_builder.specs.PageProgress.{IsNextOfPage}
use Rattle.tb_items.specs.declared.happenings.Happening.{Happening}
use Rattle.tb_items.specs.Happenings.{noted_try}
use Rattle.tb_items.specs.WaitingNodes.{AreItems}
use Rattle.tb_plain.specs.MakeupCalls.{IsTake, CanAct, HasActed}
use Rattle.tb_makeup.specs.declared.makeup.Makeup.{Makeup}
use Rattle.tb_makeup.specs.declared.makeup_left.MakeupLeft.{MakeupLeft}
use Rattle.tb_makeup.specs.MakeupLeft.{pieces_left}
use Rattle.tb_makeup.specs.Makeup.{built_in, held_in, IsReady}
use Rattle.tb_makeup.specs.MakeupPages.{Continues, HasComeTo, IsSupplied, IsFiring, IsOver}
use Rattle.tb_makeup.proofs.Filled.MoreLemmas.{IsOpenFor, IsMetBy, met-try, met-act, met-page, next-page, next-past, next-going, next-open, fired-open}
use Rattle.tb_makeup.proofs.Filled.UnderwayLemmas.{IsUnderway, left_of_page, rounds_left, underway-tried, fewer-tried, act-takes, act-can, underway-acted, fewer-acted, filled-over, filled-fires}
use Rattle.tb_makeup.proofs.Filled.SupplyingLemmas.{takes-more, takes-items, underway-supplied, fewer-supplied}

-- the makeup before the last call of the builder, which came to the event: as much of the page is left there at most
record IsLastCall (wanted : Bool) (r q d : Makeup) (e : Event) (hs : List Happening) : Type 0 where
  before : Makeup
  underway : IsUnderway wanted r before hs
  next : IsNext before.builder before.store before.ask e d.builder d.store
  same : Continues before d
  left : d.left ≡ before.left
  fewer : left_of_page before ≤ left_of_page q

module _ (wanted : Bool) (r d : Makeup) (hs : List Happening) (ready : IsReady r) (e : Event) where
  -- an unwanted place is no happening
  none-noted : (b : Bool) → b ≡ false → (x : Try) → hs ≡ hs ++ noted_try b x
  none-noted true is x = absurd (true≢false is)
  none-noted false is x = sym (append-nil hs)

  open-now : (q : Makeup) → IsUnderway wanted r q hs → IsOpenFor q.left (built_in q) q.ask
  open-now q h = subst (IsOpenFor q.left (built_in q)) (sym (h.same.ask ∙ ready.ask)) h.ends

  -- each place that is passed over is one call
  walk : (ps : List PassedOver) (q : Makeup) → IsUnderway wanted r q hs → wanted ≡ false → ComesBy ps q.builder q.store q.ask e d.builder d.store → Continues q d → d.left ≡ q.left → IsLastCall wanted r q d e hs
  walk [] q h unwanted n same left = record { before = q; underway = h; next = n; same = same; left = left; fewer = (omega arith) }
  walk (p ∷ ps) q h unwanted n same left =
      let x : Makeup = record q { builder = p.builder; store = p.store } in
      let t : Event = events.Try p.place in
      let kept : Continues q x = record { plain = refl; ask = refl; limit = refl; bound = refl } in
      let ends = open-now q h in
      let met = met-try q.left p.place in
      let page : IsNextOfPage t (held_in q) q.ask (held_in x) x.store = next-page q x t n.0 refl ends met in
      let after : IsOpenFor x.left (built_in x) q.ask = next-open q x t n.0 refl ends (next-going q x t n.0 refl ends (λ f. f)) met in
      let u : IsUnderway wanted r x hs = underway-tried wanted r q x hs ready h t page (next-past q x t n.0 refl ends) n.0.sound kept refl p.place refl after hs (none-noted wanted unwanted p.place) in
      let f : left_of_page x < left_of_page q = fewer-tried wanted r q x hs ready h t page (next-past q x t n.0 refl ends) n.0.sound kept refl p.place refl in
      let l : IsLastCall wanted r x d e hs = walk ps x u unwanted n.1 (record { plain = same.plain; ask = same.ask; limit = same.limit; bound = same.bound }) left in
      let k = l.fewer in
      record { before = l.before; underway = l.underway; next = l.next; same = l.same; left = l.left; fewer = (omega (arith, f, k)) }

  module _ (q : Makeup) (h : IsUnderway wanted r q hs) (c : HasComeTo wanted e q d) where
    by-wanted : (b : Bool) → wanted ≡ b → IsLastCall wanted r q d e hs
    by-wanted true is = record { before = q; underway = h; next = subst (λ ps. ComesBy ps q.builder q.store q.ask e d.builder d.store) (c.none is) c.comes; same = c.same; left = c.left; fewer = (omega arith) }
    by-wanted false is = walk c.passed q h is c.comes c.same c.left

    l : IsLastCall wanted r q d e hs
    l = by-wanted wanted refl

    ends : IsOpenFor l.before.left (built_in l.before) l.before.ask
    ends = open-now l.before l.underway

    page-of : IsMetBy l.before.left e → IsNextOfPage e (held_in l.before) l.before.ask (held_in d) d.store
    page-of met = next-page l.before d e l.next l.left ends met

    pub come-sound : IsSound d.builder d.store
    come-sound = l.next.sound

    -- no more rounds are left
    rounds-so : (now : Makeup) → now.left ≡ d.left → left_of_page now < left_of_page l.before → rounds_left now < rounds_left q
    rounds-so now same f = let k = l.fewer in let g = ap pieces_left (same ∙ c.left) in omega (arith, f, k, g)

    -- a place was tried
    module _ (x : Try) (is : e ≡ events.Try x) where
      met-here : IsMetBy l.before.left e
      met-here = subst (IsMetBy l.before.left) (sym is) (met-try l.before.left x)

      going-here : l.before.builder.stopped ≡ false
      going-here = next-going l.before d e l.next l.left ends (λ f. subst (λ v. FiresWith v (built_in l.before) l.before.ask (built_in d) d.store) is f)

      pub come-tried : (new : List Happening) → new ≡ hs ++ noted_try wanted x → IsUnderway wanted r d new
      come-tried = underway-tried wanted r l.before d hs ready l.underway e (page-of met-here) (next-past l.before d e l.next l.left ends) l.next.sound l.same l.left x is (next-open l.before d e l.next l.left ends going-here met-here)

      pub come-fewer-tried : rounds_left d < rounds_left q
      come-fewer-tried = rounds-so d refl (fewer-tried wanted r l.before d hs ready l.underway e (page-of met-here) (next-past l.before d e l.next l.left ends) l.next.sound l.same l.left x is)

    -- an act was reached
    module _ (a : Act) (is : e ≡ events.Act a) where
      met-act-here : IsMetBy l.before.left e
      met-act-here = subst (IsMetBy l.before.left) (sym is) (met-act l.before.left a)

      open-act : IsOpenFor d.left (built_in d) l.before.ask
      open-act = next-open l.before d e l.next l.left ends (next-going l.before d e l.next l.left ends (λ f. subst (λ v. FiresWith v (built_in l.before) l.before.ask (built_in d) d.store) is f)) met-act-here

      pub come-takes : IsTake a
      come-takes = act-takes wanted r l.before d hs ready l.underway e (page-of met-act-here) (next-past l.before d e l.next l.left ends) l.next.sound l.same l.left a is

      pub come-can : CanAct d.builder d.store
      come-can = act-can wanted r l.before d hs ready l.underway e (page-of met-act-here) (next-past l.before d e l.next l.left ends) l.next.sound l.same l.left a is

      module _ (f : Makeup) (acted : HasActed d.plain.params a d.builder d.store f.builder f.store) (kept : Continues d f) (f_left : f.left ≡ d.left) where
        pub come-acted : IsUnderway wanted r f hs
        come-acted = underway-acted wanted r l.before d hs ready l.underway e (page-of met-act-here) (next-past l.before d e l.next l.left ends) l.next.sound l.same l.left a is f acted kept f_left open-act

        pub come-fewer : rounds_left f < rounds_left q
        come-fewer =
            rounds-so f f_left (fewer-acted wanted r l.before d hs ready l.underway e (page-of met-act-here) (next-past l.before d e l.next l.left ends) l.next.sound l.same l.left a is f acted kept f_left open-act)

    -- nothing waits any more, and nothing is left
    pub come-over : e ≡ events.Empty → d.left ≡ None → IsOver wanted r d hs
    come-over is none =
        filled-over wanted r l.before d hs ready l.underway e (page-of (subst (λ o. IsMetBy o e) (sym none ∙ l.left) tt)) (next-past l.before d e l.next l.left ends) l.next.sound l.same l.left is none

    -- nothing waits any more, and items are left
    module _ (is : e ≡ events.Empty) (left : MakeupLeft) (some : d.left ≡ Some left) where
      empty : IsNext l.before.builder l.before.store l.before.ask events.Empty d.builder d.store
      empty = subst (λ v. IsNext l.before.builder l.before.store l.before.ask v d.builder d.store) is l.next

      pub come-no-kern : ends_in_kern (built_in d).page ≡ false
      come-no-kern = takes-more wanted r l.before d hs ready l.underway empty l.same l.left left some

      pub come-items : AreItems (built_in d).classes left.items.now
      come-items = takes-items wanted r l.before d hs ready l.underway empty l.same l.left left some

      module _ (now : Makeup) (sup : IsSupplied left d now) where
        pub come-supplied : IsUnderway wanted r now hs
        come-supplied = underway-supplied wanted r l.before d hs ready l.underway empty l.same l.left left some now sup

        pub come-fewer-left : rounds_left now < rounds_left q
        come-fewer-left =
            let f = fewer-supplied wanted r l.before d hs ready l.underway empty l.same l.left left some now sup in
            let k = l.fewer in
            let g = ap pieces_left (sym l.left ∙ c.left) in
            omega (arith, f, k, g)

    pub come-fires : (page : Page) → e ≡ events.Fired page → IsFiring wanted r page d hs
    come-fires page is =
        filled-fires wanted r l.before d hs ready l.underway e (page-of (subst (IsMetBy l.before.left) (sym is) (met-page l.before.left page))) (next-past l.before d e l.next l.left ends) l.next.sound l.same l.left page is l.next.body
        (fired-open l.before d e l.next l.left ends page is)
