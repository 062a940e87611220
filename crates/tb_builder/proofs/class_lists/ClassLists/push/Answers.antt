use Rattle.std.proofs.Common.{◌≡◌, ◌<◌, length, sym, ap, subst, ◌∙◌, arith, rules}
use Rattle.std.specs.Prelude.{slice_set, Some, not}
use Rattle.tb_builder.specs.ClassPlaces.{ArePlaces}
use Rattle.tb_builder.proofs.Ownership.ClassPlaceLemmas.{placed_first}
use Rattle.tb_builder.proofs.class_lists.ClassLists.push.Goals as goal

pub invariant_of-self-then-is_none : goal.invariant_of-self-then-is_none
invariant_of-self-then-is_none c =
    let k = c.from-number.result in
    let small : k < 256 = search rules in
    let len : c.len-place.result ≡ c.self.inside.items.len = c.len-place.ensures in
    let last : c.len-place.result ≡ length c.self.inside.items.items = omega (arith, len, c.self.inside.items.ok.0) in
    let within : k < length c.self.inside.places = search rules in
    subst (λ es. ArePlaces es (slice_set c.self.inside.places k (Some c.len-place.result))) (sym c.in_ok-push.ensures.items)
    (placed_first c.self.inside.items.items c.args.entry c.self.inside.places c.self.invariant _ k c.len-place.result c.from-number.ensures last (c.is_none.ensures ∙ ap not c.if-is_none.true) small within)
