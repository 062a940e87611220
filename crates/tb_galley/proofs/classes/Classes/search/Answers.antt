use Rattle.std.proofs.Common.{rules}
use Rattle.std.proofs.lemmas.List.Sorted.{answers_always}
use Rattle.tb_galley.specs.declared.classes.ClassLine.{ClassLine}
use Rattle.tb_galley.proofs.ClassPlaces.{searched}
use Rattle.tb_galley.proofs.classes.Classes.search.Goals as goal

-- the closure gives a class's number, and the slice is the list of the classes
pub returns : goal.returns
returns c =
    let facts = c.binary_search_by_key.ensures in
    let by_key = facts.position (λ (class : ClassLine). class.number) (answers_always _ _ _ (λ f a r g called. search rules)) in
    rw (← c.self.view_is, ← c.deref.ensures.value) (searched c.deref.result.now (rw c.deref.ensures.value c.self.invariant) c.args.number c.binary_search_by_key.result facts.bound by_key)
