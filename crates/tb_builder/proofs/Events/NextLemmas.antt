-- What `next` requires and ensures when a page fires.
use Rattle.std.proofs.Common.{◌≡◌, ◌≢◌, sym, ◌∙◌, ap, ℕ, None, is_some}
use Rattle.std.specs.FinMap.{get}
use Rattle.std.proofs.lemmas.Bool.{true≢false}
use Rattle.tb_pool.specs.Lists.{Lists, IsLive}
use Rattle.tb_node.specs.declared.Node.{Node}
use Rattle.tb_builder.specs.declared.Page.{Page}
use Rattle.tb_builder.specs.declared.Builder.{Builder}
use Rattle.tb_builder.specs.Ownership.{ids_of, KeepsOthers}
use Rattle.tb_builder.specs.Firing.{Fires}

-- a list that was not live before is none of those that were
pub fresh_apart : (s : Lists Node) (body q : ℕ) → get s.lists body ≡ None → IsLive s q → q ≢ body
fresh_apart s body q fresh live e = true≢false (sym live ∙ ap is_some (ap (get s.lists) e ∙ fresh))

pub fired_keeps : (b d : Builder) (s t : Lists Node) (p : Page) → Fires b s d t p → KeepsOthers (ids_of b) s (ids_of d) t
fired_keeps b d s t p f = record {
  others = λ q live h. f.others q (fresh_apart s p.body q f.fresh live) h;
  apart = λ q live h. f.keeps q h;
}
