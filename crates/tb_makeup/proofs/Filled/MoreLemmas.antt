-- A call of the builder, with the items that are left behind what waits.
use Rattle.std.proofs.Common.{◌≡◌, ◌≢◌, refl, sym, subst, ◌∙◌, ap, ℤ, Bool, true, false, List, [], ◌∷◌, ◌++◌, Option, Some, None, append_assoc}
use Rattle.std.specs.Prelude.{if◌then◌else◌}
use Rattle.std.proofs.lemmas.Bool.{true≢false}
use Rattle.tb_node.specs.declared.Act.{Act}
use Rattle.tb_node.specs.PlainNodes.{act, PlainNode}
use Rattle.tb_insert.specs.Account.{Frozen, terms_after}
use Rattle.tb_insert.specs.Terms.{Terms}
use Rattle.tb_builder.specs.declared.Ask.{Ask}
use Rattle.tb_builder.specs.declared.Event.{Event}
use Rattle.tb_builder.specs.declared.Event.TheVariants as events
use Rattle.tb_builder.specs.declared.Page.{Page}
use Rattle.tb_builder.specs.declared.Try.{Try}
use Rattle.tb_builder.specs.Reach.{Reached, Reach, reach_from}
use Rattle.tb_builder.specs.FiredPages.{frozen_for}
use Rattle.tb_builder.specs.Contents.{Contents, laid, reach_ahead, places_of}
use Rattle.tb_builder.specs.PassedNodes.{EventPast}
use Rattle.tb_builder.specs.PageCalls.{IsNext}
use Rattle.tb_builder.specs.PageEvents.{FirstIs, NextIs, FiresWith}
use Rattle.tb_builder.specs.PageProgress.{GoesFrom, after_all, IsNextOfPage}
use Rattle.tb_builder.proofs.Events.PagingLemmas.{paging_next}
use Rattle.tb_builder.proofs.Events.SoFarLemmas.{ComesSoFar}
use Rattle.tb_builder.proofs.Turns.TurnLemmas.{start-frozen}
use Rattle.tb_items.specs.ItemsLeft.{kern_last, with_more}
use Rattle.tb_items.proofs.OpenLemmas.{open-back}
use Rattle.tb_items.proofs.MoreReached.{with_beyond, going_on, reach-more}
use Rattle.tb_items.proofs.MoreEvents.{more_laid, laid-with, ahead-more, places-more, event-past-more, none-behind, IsMet, IsOpenPage, next-more, open-after, open-fired}
use Rattle.tb_makeup.specs.declared.makeup.Makeup.{Makeup}
use Rattle.tb_makeup.specs.declared.makeup_left.MakeupLeft.{MakeupLeft}
use Rattle.tb_makeup.specs.MakeupLeft.{nodes_left, IsOpen}
use Rattle.tb_makeup.specs.Makeup.{built_in, held_in}

-- if anything is left, it changes nothing on the page of these contents; while the page goes on, what waits does not end with a kern
abbrev pub IsOpenFor : Option MakeupLeft → Contents → Ask → Type 0
IsOpenFor None c ask = Unit {0}
IsOpenFor (Some l) c ask = IsOpenPage c ask × (c.stopped ≡ false → kern_last false c.waiting ≡ false)

-- if anything is left, the event is not that nothing waits any more
abbrev pub IsMetBy : Option MakeupLeft → Event → Type 0
IsMetBy None e = Unit {0}
IsMetBy (Some l) e = IsMet e

-- a place, an act or a page is met
pub met-try : (o : Option MakeupLeft) (t : Try) → IsMetBy o (events.Try t)
met-try None t = tt
met-try (Some l) t = tt

pub met-act : (o : Option MakeupLeft) (a : Act) → IsMetBy o (events.Act a)
met-act None a = tt
met-act (Some l) a = tt

pub met-page : (o : Option MakeupLeft) (p : Page) → IsMetBy o (events.Fired p)
met-page None p = tt
met-page (Some l) p = tt

pub none-left : (o : Option MakeupLeft) → ((l : MakeupLeft) → o ≢ Some l) → o ≡ None
none-left None h = refl
none-left (Some l) h = absurd (h l refl)

-- ---- what is reached of the page so far

going-all : (limit : ℤ) (terms : List PlainNode → Terms) (rs : List Reached) (w : Reach) (more : List PlainNode) → going_on limit terms more (after_all rs w) ≡ after_all rs (going_on limit terms more w)
going-all limit terms rs w more = by_test w.fires
  where
    later : Reach
    later = reach_from limit terms w.passed more

    by_test : (t : Bool) → (if t then with_beyond more (after_all rs w) else after_all (rs ++ w.reached) later) ≡ after_all rs (if t then with_beyond more w else after_all w.reached later)
    by_test true = refl
    by_test false = λ i. record { reached = append_assoc rs w.reached later.reached i; passed = later.passed; beyond = later.beyond; fires = later.fires }

-- it is the same with more nodes behind
so-far-more : (c : Contents) (ask : Ask) (more : List PlainNode) → c.stopped ≡ false → kern_last false (laid c ask) ≡ false → ComesSoFar c ask → ComesSoFar (with_more more c) ask
so-far-more c ask more going ends h = record {
  rs = h.rs;
  come = record {
    stays = record { classes = refl; boxes = refl; held = refl; made = h.come.stays.made };
    goes = λ on. record {
      reach =
          ap (reach_from z.limit (terms_after z) []) (laid-with c ask more)
          ∙ reach-more z.limit (terms_after z) [] (laid c ask) tail ends
          ∙ ap (going_on z.limit (terms_after z) tail) begun.reach
          ∙ going-all z.limit (terms_after z) h.rs (reach_ahead c ask) tail
          ∙ ap (after_all h.rs) ((λ i. going_on (sym (start-frozen h.come.stays) i).limit (terms_after (sym (start-frozen h.come.stays) i)) tail (reach_ahead c ask)) ∙ sym (ahead-more c ask more ends));
      places = places-more c ask more ends ∙ begun.places;
    };
    stops = λ off. absurd (true≢false (sym off ∙ going));
  };
  tried = h.tried;
}
  where
    z : Frozen
    z = frozen_for ask c.classes c.boxes

    tail : List PlainNode
    tail = more_laid ask.top_skip (laid c ask) more

    begun : GoesFrom c h.rs c ask
    begun = h.come.goes going

pub so-far-left : (o : Option MakeupLeft) (c : Contents) (ask : Ask) → c.stopped ≡ false → IsOpenFor o c ask → ComesSoFar c ask → ComesSoFar (with_more (nodes_left o) c) ask
so-far-left None c ask going ends h = subst (λ x. ComesSoFar x ask) (sym (none-behind c)) h
so-far-left (Some l) c ask going ends h = so-far-more c ask (nodes_left (Some l)) going ends.0.ends h

-- ---- the next event

-- what waits after a place or an act does not end with a kern either
waits-open : (c d : Contents) (ask : Ask) (e : Event) → IsMet e → FirstIs e (laid c ask) (reach_ahead c ask) (places_of c ask) ask d → EventPast e c d ask → kern_last false c.waiting ≡ false → d.stopped ≡ false → kern_last false d.waiting ≡ false
waits-open c d ask (events.Try t) m f past h on = let k = (past on).comes in open-back k.before d.waiting (ap (kern_last false) (sym k.is.waiting) ∙ h)
waits-open c d ask (events.Act a) m f past h on = let k = past.comes in open-back k.before (record { line = past.line; kind = act a } ∷ d.waiting) (ap (kern_last false) (sym k.is.waiting) ∙ h)
waits-open c d ask (events.Fired p) m f past h on = absurd f
waits-open c d ask events.Empty m f past h on = absurd m

module _ (q d : Makeup) (e : Event) (n : IsNext q.builder q.store q.ask e d.builder d.store) (left : d.left ≡ q.left) (ends : IsOpenFor q.left (built_in q) q.ask) where
  -- it is the next event of the page with all that is left
  pub next-page : IsMetBy q.left e → IsNextOfPage e (held_in q) q.ask (held_in d) d.store
  next-page met = subst (λ o. IsNextOfPage e (held_in q) q.ask (with_more (nodes_left o) (built_in d)) d.store) (sym left) (by_left q.left ends met)
    where
      by_left : (o : Option MakeupLeft) → IsOpenFor o (built_in q) q.ask → IsMetBy o e → IsNextOfPage e (with_more (nodes_left o) (built_in q)) q.ask (with_more (nodes_left o) (built_in d)) d.store
      by_left None k m = subst (λ x. IsNextOfPage e x q.ask (with_more [] (built_in d)) d.store) (sym (none-behind (built_in q))) (subst (λ x. IsNextOfPage e (built_in q) q.ask x d.store) (sym (none-behind (built_in d))) n.page)
      by_left (Some l) k m =
          paging_next e (with_more (nodes_left (Some l)) (built_in q)) (with_more (nodes_left (Some l)) (built_in d)) q.ask d.store
          (next-more (built_in q) (built_in d) q.ask (nodes_left (Some l)) e d.store k.0.ends k.0.stop m n.event)

  -- the page goes past the same nodes with them
  pub next-past : q.builder.stopped ≡ false → EventPast e (held_in q) (held_in d) q.ask
  next-past going = subst (λ o. EventPast e (held_in q) (with_more (nodes_left o) (built_in d)) q.ask) (sym left) (event-past-more (built_in q) (built_in d) q.ask (nodes_left q.left) e (n.past going))

  -- no page fired, so no stop was tried before
  pub next-going : (FiresWith e (built_in q) q.ask (built_in d) d.store → ⊥) → q.builder.stopped ≡ false
  next-going none = by_stopped q.builder.stopped n.event
    where
      by_stopped : (t : Bool) → NextIs t e (built_in q) q.ask (built_in d) d.store → t ≡ false
      by_stopped true f = absurd (none f)
      by_stopped false f = refl

  -- what is left still changes nothing
  pub next-open : q.builder.stopped ≡ false → IsMetBy q.left e → IsOpenFor d.left (built_in d) q.ask
  next-open going met = subst (λ o. IsOpenFor o (built_in d) q.ask) (sym left) (by_left q.left ends met)
    where
      first : FirstIs e (laid (built_in q) q.ask) (reach_ahead (built_in q) q.ask) (places_of (built_in q) q.ask) q.ask (built_in d)
      first = (subst (λ b. NextIs b e (built_in q) q.ask (built_in d) d.store) going n.event).0

      by_left : (o : Option MakeupLeft) → IsOpenFor o (built_in q) q.ask → IsMetBy o e → IsOpenFor o (built_in d) q.ask
      by_left None k m = tt
      by_left (Some l) k m = (open-after (built_in q) (built_in d) q.ask e k.0.ends m first, waits-open (built_in q) (built_in d) q.ask e m first (n.past going) (k.1 going))

  -- after the page fired, what waits may stand behind any nodes
  pub fired-open : (p : Page) → e ≡ events.Fired p → q.builder.stopped ≡ true → (before : List PlainNode) → IsOpen d.left (before ++ (built_in d).waiting)
  fired-open p is off before = subst (λ o. IsOpen o (before ++ (built_in d).waiting)) (sym left) (by_left q.left ends)
    where
      fires : FiresWith (events.Fired p) (built_in q) q.ask (built_in d) d.store
      fires = subst (λ b. NextIs b (events.Fired p) (built_in q) q.ask (built_in d) d.store) off (subst (λ x. NextIs q.builder.stopped x (built_in q) q.ask (built_in d) d.store) is n.event)

      by_left : (o : Option MakeupLeft) → IsOpenFor o (built_in q) q.ask → IsOpen o (before ++ (built_in d).waiting)
      by_left None k = tt
      by_left (Some l) k = subst (λ (c : Contents). IsOpen (Some l) (before ++ c.waiting)) (sym fires.after) (open-fired (built_in q) q.ask before k.0 off)
