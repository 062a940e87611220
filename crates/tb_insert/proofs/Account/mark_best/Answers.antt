use Rattle.std.proofs.Common.{◌≡◌, refl, ◌∙◌, ap, ℕ, false, Option, None, Some, not}
use Rattle.std.specs.Option.{is_some}
use Rattle.std.proofs.lemmas.Bool.{true≢false}
use Rattle.tb_insert.proofs.MarkLemmas.{marked_already}
use Rattle.tb_insert.proofs.Account.mark_best.Goals as goal

none_is : (o : Option ℕ) → is_some o ≡ false → o ≡ None
none_is None e = refl
none_is (Some i) e = absurd (true≢false e)

pub returns-then-is_none : goal.returns-then-is_none
returns-then-is_none c = λ z page marked h. marked_already c.args.self.now z page marked h (none_is c.args.self.now.newest (c.is_none.ensures ∙ ap not c.if-is_none.true))
