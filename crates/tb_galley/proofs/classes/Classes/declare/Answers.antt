use Rattle.tb_galley.proofs.ClassPlaces.{set-at, insert-at, rise-set, rise-insert}
use Rattle.tb_galley.proofs.classes.Classes.declare.Goals as goal

-- one of the number was there, and is written over
pub invariant_of-self : goal.invariant_of-self
invariant_of-self c = rise-set c.self.inside.items.items c.args.class c.in-Ok.place c.self.invariant (rw c.self.view_is c.in-Ok.ensures.found)

pub returns-in-Ok-clause-ok : goal.returns-in-Ok-clause-ok
returns-in-Ok-clause-ok c =
    rw (← c.self.view_is) (set-at c.self.inside.items.items c.args.class c.in-Ok.place c.self.invariant (rw c.self.view_is c.in-Ok.ensures.found))

-- the number is new, and the class goes into its gap
pub invariant_of-self-in-Err : goal.invariant_of-self-in-Err
invariant_of-self-in-Err c =
    rw c.in_ok-insert-in-Err.ensures.items (rise-insert c.self.inside.items.items c.args.class c.in-Err.place c.self.invariant (rw c.self.view_is c.in-Err.ensures.absent))

pub returns-in_ok-insert-in-Err-clause-ok : goal.returns-in_ok-insert-in-Err-clause-ok
returns-in_ok-insert-in-Err-clause-ok c =
    rw (c.in_ok-insert-in-Err.ensures.items, ← c.self.view_is) (insert-at c.self.inside.items.items c.args.class c.in-Err.place (rw c.self.view_is c.in-Err.ensures.absent))
