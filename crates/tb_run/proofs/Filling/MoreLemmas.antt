-- A call of the builder, with the items that are left behind what waits.
use Rattle.std.proofs.Common.{◌≡◌, ◌≢◌, refl, sym, subst, ap, Bool, true, false, List, [], ◌++◌, Option, Some, None}
use Rattle.tb_node.specs.PlainNodes.{PlainNode}
use Rattle.tb_builder.specs.declared.Ask.{Ask}
use Rattle.tb_builder.specs.declared.Event.{Event}
use Rattle.tb_builder.specs.declared.Event.TheVariants as events
use Rattle.tb_builder.specs.declared.Page.{Page}
use Rattle.tb_builder.specs.declared.Try.{Try}
use Rattle.tb_node.specs.declared.Act.{Act}
use Rattle.tb_builder.specs.Contents.{Contents}
use Rattle.tb_builder.specs.PageCalls.{IsNext}
use Rattle.tb_builder.specs.PageEvents.{NextIs, FiresWith}
use Rattle.tb_builder.specs.PageProgress.{IsNextOfPage}
use Rattle.tb_builder.proofs.Events.PagingLemmas.{paging_next}
use Rattle.tb_items.specs.declared.items_left.ItemsLeft.{ItemsLeft}
use Rattle.tb_items.specs.ItemsLeft.{nodes_left, with_more, IsOpen}
use Rattle.tb_run.specs.declared.routine.Routine.{Routine}
use Rattle.tb_run.specs.Routine.{built_in, held_in}
use Rattle.tb_items.proofs.MoreEvents.{IsMet, IsOpenPage, next-more, none-behind, open-after, open-fired}

-- if anything is left, it changes nothing on the page of these contents
abbrev pub IsOpenFor : Option ItemsLeft → Contents → Ask → Type 0
IsOpenFor None c ask = Unit {0}
IsOpenFor (Some l) c ask = IsOpenPage c ask

-- if anything is left, the event is not that nothing waits any more
abbrev pub IsMetBy : Option ItemsLeft → Event → Type 0
IsMetBy None e = Unit {0}
IsMetBy (Some l) e = IsMet e

module _ (q d : Routine) (ask : Ask) (e : Event) (n : IsNext q.builder q.store ask e d.builder d.store) (left : d.left ≡ q.left) (ends : IsOpenFor q.left (built_in q) ask) where
  -- it is the next event of the page with all that is left
  pub next-page : IsMetBy q.left e → IsNextOfPage e (held_in q) ask (held_in d) d.store
  next-page met = subst (λ o. IsNextOfPage e (held_in q) ask (with_more (nodes_left o) (built_in d)) d.store) (sym left) (by_left q.left ends met)
    where
      by_left : (o : Option ItemsLeft) → IsOpenFor o (built_in q) ask → IsMetBy o e → IsNextOfPage e (with_more (nodes_left o) (built_in q)) ask (with_more (nodes_left o) (built_in d)) d.store
      by_left None k m = subst (λ x. IsNextOfPage e x ask (with_more [] (built_in d)) d.store) (sym (none-behind (built_in q))) (subst (λ x. IsNextOfPage e (built_in q) ask x d.store) (sym (none-behind (built_in d))) n.page)
      by_left (Some l) k m =
          paging_next e (with_more (nodes_left (Some l)) (built_in q)) (with_more (nodes_left (Some l)) (built_in d)) ask d.store
          (next-more (built_in q) (built_in d) ask (nodes_left (Some l)) e d.store k.ends k.stop m n.event)

  -- no page fired, so no stop was tried before
  pub next-going : (FiresWith e (built_in q) ask (built_in d) d.store → ⊥) → q.builder.stopped ≡ false
  next-going none = by_stopped q.builder.stopped n.event
    where
      by_stopped : (t : Bool) → NextIs t e (built_in q) ask (built_in d) d.store → t ≡ false
      by_stopped true f = absurd (none f)
      by_stopped false f = refl

  -- the classes are the same
  pub next-kept : (built_in d).classes ≡ (built_in q).classes
  next-kept = by_stopped q.builder.stopped n.event
    where
      by_fired : (v : Event) → FiresWith v (built_in q) ask (built_in d) d.store → (built_in d).classes ≡ (built_in q).classes
      by_fired (events.Fired p) f = ap (λ (c : Contents). c.classes) f.after
      by_fired v f = absurd f

      by_stopped : (t : Bool) → NextIs t e (built_in q) ask (built_in d) d.store → (built_in d).classes ≡ (built_in q).classes
      by_stopped true f = by_fired e f
      by_stopped false f = f.1.classes

  -- what is left still changes nothing
  pub next-open : q.builder.stopped ≡ false → IsMetBy q.left e → IsOpenFor d.left (built_in d) ask
  next-open going met = subst (λ o. IsOpenFor o (built_in d) ask) (sym left) (by_left q.left ends met)
    where
      by_left : (o : Option ItemsLeft) → IsOpenFor o (built_in q) ask → IsMetBy o e → IsOpenFor o (built_in d) ask
      by_left None k m = tt
      by_left (Some l) k m = open-after (built_in q) (built_in d) ask e k.ends m (subst (λ b. NextIs b e (built_in q) ask (built_in d) d.store) going n.event).0

  -- after the page fired, what waits may stand behind any nodes
  pub fired-open : (p : Page) → e ≡ events.Fired p → q.builder.stopped ≡ true → (before : List PlainNode) → IsOpen d.left (before ++ (built_in d).waiting)
  fired-open p is off before = subst (λ o. IsOpen o (before ++ (built_in d).waiting)) (sym left) (by_left q.left ends)
    where
      fires : FiresWith (events.Fired p) (built_in q) ask (built_in d) d.store
      fires = subst (λ b. NextIs b (events.Fired p) (built_in q) ask (built_in d) d.store) off (subst (λ x. NextIs q.builder.stopped x (built_in q) ask (built_in d) d.store) is n.event)

      by_left : (o : Option ItemsLeft) → IsOpenFor o (built_in q) ask → IsOpen o (before ++ (built_in d).waiting)
      by_left None k = tt
      by_left (Some l) k = subst (λ (c : Contents). IsOpen (Some l) (before ++ c.waiting)) (sym fires.after) (open-fired (built_in q) ask before k off)

-- a place or an act is met
pub met-try : (o : Option ItemsLeft) (t : Try) → IsMetBy o (events.Try t)
met-try None t = tt
met-try (Some l) t = tt

pub met-act : (o : Option ItemsLeft) (a : Act) → IsMetBy o (events.Act a)
met-act None a = tt
met-act (Some l) a = tt

pub met-page : (o : Option ItemsLeft) (p : Page) → IsMetBy o (events.Fired p)
met-page None p = tt
met-page (Some l) p = tt

pub none-left : (o : Option ItemsLeft) → ((l : ItemsLeft) → o ≢ Some l) → o ≡ None
none-left None h = refl
none-left (Some l) h = absurd (h l refl)
