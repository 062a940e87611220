use Rattle.std.proofs.Common.{◌≡◌, ◌∷◌, [], true, false, ◌∙◌, sym}
use Rattle.tb_float.specs.declared.Part.TheVariants as parts
use Rattle.tb_float.proofs.SameLemmas.{same_lists, have_same}
use Rattle.tb_float.proofs.Pool.holds_same.Goals as goal

pub returns-then-waiting_same : goal.returns-then-waiting_same
returns-then-waiting_same c = (
  λ yes. same_lists c.args.self.now.lists c.args.other.now.lists (c.waiting_same.ensures.0 c.if-waiting_same.true) (c.areas_same.ensures.0 yes),
  λ e. c.areas_same.ensures.1 (have_same c.args.self.now.lists c.args.other.now.lists (parts.Top ∷ parts.Bottom ∷ parts.Here ∷ parts.Double ∷ []) e),
)

pub returns-else-waiting_same : goal.returns-else-waiting_same
returns-else-waiting_same c = (
  λ yes. let never : false ≡ true = sym c.if-waiting_same.false ∙ yes in cc,
  λ e. c.waiting_same.ensures.1 (have_same c.args.self.now.lists c.args.other.now.lists (parts.Deferred ∷ parts.Second ∷ parts.Current ∷ []) e),
)
