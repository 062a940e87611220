-- Places that are passed over: calls of `next` one after the other.
use Rattle.std.proofs.Common.{◌≡◌, refl, subst, ◌∙◌, ap, Bool, true, false, ◌∷◌, is_some}
use Rattle.tb_pool.specs.Lists.{Lists}
use Rattle.tb_node.specs.declared.Node.{Node}
use Rattle.tb_builder.specs.declared.Ask.{Ask}
use Rattle.tb_builder.specs.declared.Try.{Try}
use Rattle.tb_builder.specs.declared.Event.{Event}
use Rattle.tb_builder.specs.declared.Event.TheVariants as events
use Rattle.tb_builder.specs.declared.Builder.{Builder}
use Rattle.tb_builder.specs.PageCalls.{IsNext, ComesAfter}
use Rattle.tb_builder.specs.Contents.{contents_of}
use Rattle.tb_builder.specs.PageEvents.{NextFits, NextIs}
use Rattle.tb_builder.specs.Ownership.{Ids, KeepsOthers}
use Rattle.tb_builder.proofs.Events.FilledLemmas.{fits_next}

-- what two calls, one after the other, keep
pub keeps_then : (b d e : Ids) (s t r : Lists Node) → KeepsOthers b s d t → KeepsOthers d t e r → KeepsOthers b s e r
keeps_then b d e s t r k l = record {
  others = λ q live h. l.others q (ap is_some (k.others q live h) ∙ live) (k.apart q live h) ∙ k.others q live h;
  apart = λ q live h. l.apart q (ap is_some (k.others q live h) ∙ live) (k.apart q live h);
}

-- a place was tried
module _ (b d : Builder) (s t : Lists Node) (ask : Ask) (x : Try) (n : IsNext b s ask (events.Try x) d t) where
  going : (u : Bool) → b.stopped ≡ u → NextIs u (events.Try x) (contents_of b s) ask (contents_of d t) t → b.stopped ≡ false
  going true e h = absurd h
  going false e h = e

  passed_on : b.stopped ≡ false
  passed_on = going b.stopped refl n.event

  event : NextIs false (events.Try x) (contents_of b s) ask (contents_of d t) t
  event = subst (λ u. NextIs u (events.Try x) (contents_of b s) ask (contents_of d t) t) passed_on n.event

  pub passed_fits : NextFits (contents_of b s) ask → NextFits (contents_of d t) ask
  passed_fits fits = fits_next false (events.Try x) (contents_of b s) (contents_of d t) ask t refl fits event

  pub passed_same : (contents_of d t).held ≡ (contents_of b s).held
  passed_same = event.1.held

  pub passed_later : (e : Event) (y : Builder) (r : Lists Node) → ComesAfter d t ask e y r → ComesAfter b s ask e y r
  passed_later e y r h = record { passed = record { place = x; builder = d; store = t } ∷ h.passed; comes = (n, h.comes) }
