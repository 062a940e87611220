use Rattle.tb_galley.proofs.ClassPlaces.{rise-pushed}
use Rattle.tb_galley.proofs.classes.Classes.push.Goals as goal

pub invariant_of-self : goal.invariant_of-self
invariant_of-self c =
    rise-pushed c.push_at.result c.self.inside.items.items c.push_at.new.items.items c.args.class c.push_at.ensures.ok c.push_at.ensures.err c.self.invariant (rw c.self.view_is c.requires)
