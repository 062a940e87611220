use Rattle.std.proofs.Common.{◌≡◌, refl, sym, ◌∙◌, ap, None, is_some}
use Rattle.std.proofs.lemmas.Bool.{true≢false}
use Rattle.tb_pool.specs.Lists.{list_at}
use Rattle.tb_node.specs.declared.Act.{Act}
use Rattle.tb_node.specs.declared.Role.{Role}
use Rattle.tb_node.specs.declared.Role.TheVariants as roles
use Rattle.tb_node.specs.Roles.{act_of_role}
use Rattle.tb_builder.proofs.Turns.FillLemmas.{first_is}
use Rattle.tb_builder.proofs.Events.FilledLemmas.{acted_turn}
use Rattle.tb_builder.proofs.Builder.hand_out.Goals as goal

-- a role that is not that of an act has none
no_act_role : (r : Role) → ((a : Act) → r ≡ roles.Act a → ⊥) → act_of_role r ≡ None
no_act_role roles.Matter h = refl
no_act_role (roles.Insertion i) h = refl
no_act_role (roles.Act a) h = absurd (h a refl)

pub unreachable-requires-in_default-role : goal.unreachable-requires-in_default-role
unreachable-requires-in_default-role c =
    let is = c.requires.act c.in-Some.n.now (sym c.in-Some.ensures) in
    true≢false (sym is ∙ ap is_some (sym c.role.ensures.act ∙ no_act_role c.role.result c.in_default-role.not-Act))

pub returns : goal.returns
returns c = λ ask.
    let f = first_is (list_at c.args.store.now c.args.self.now.waiting) c.in-Some.n.now (sym c.in-Some.ensures) in
    acted_turn c.args.self.now c.args.store.now c.drop_first.new.store ask c.in-Some.n.now f.0 c.in-Act.act c.requires.sound c.requires.on f.1 (sym c.in-Act.ensures.act) (c.drop_first.ensures.rest c.in-Some.n.now f.0 f.1)
