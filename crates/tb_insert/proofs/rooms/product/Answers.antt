use Rattle.std.proofs.Common.{◌≡◌, sym, subst, ◌^◌, FitsSigned, w64, rules}
use Rattle.std.specs.Prelude.{◌*ℤ◌}
use Rattle.std.specs.Int.{w128}
use Rattle.std.proofs.lemmas.Int.{to_z-of_z}
use Rattle.tb_insert.specs.WideAmounts.{IsWithin}
use Rattle.tb_insert.proofs.RoomLemmas.{product_within, product_fits}
use Rattle.tb_insert.proofs.rooms.product.Goals.{After-wide-2}
use Rattle.tb_insert.proofs.rooms.product.Goals as goal

-- the wide numbers have the same product, and 128 bits hold it
product_is : (c : After-wide-2) → (c.wide.result *ℤ c.wide-2.result ≡ c.args.a *ℤ c.args.b) × FitsSigned w128 (c.wide.result *ℤ c.wide-2.result)
product_is c =
    let fa : FitsSigned w64 c.args.a = c.ranges.a in
    let fb : FitsSigned w64 c.args.b = c.ranges.b in
    let a = simp to_z-of_z at c.wide.ensures in
    let b = simp to_z-of_z at c.wide-2.ensures in
    let same : c.args.a *ℤ c.args.b ≡ c.wide.result *ℤ c.wide-2.result = (λ i. sym a i *ℤ sym b i) in
    (sym same, subst (FitsSigned w128) same (product_fits c.args.a c.args.b c.requires.first c.requires.second))

pub returns-clause-value : goal.returns-clause-value
returns-clause-value c =
    let wa : FitsSigned w128 c.wide.result = search rules in
    let wb : FitsSigned w128 c.wide-2.result = search rules in
    let p : FitsSigned w128 (c.wide.result *ℤ c.wide-2.result) = (product_is c).1 in
    simp to_z-of_z (product_is c).0

pub returns-clause-wide : goal.returns-clause-wide
returns-clause-wide c =
    let wa : FitsSigned w128 c.wide.result = search rules in
    let wb : FitsSigned w128 c.wide-2.result = search rules in
    let p : FitsSigned w128 (c.wide.result *ℤ c.wide-2.result) = (product_is c).1 in
    simp to_z-of_z (subst (IsWithin (2 ^ 114)) (sym (product_is c).0) (product_within c.args.a c.args.b c.requires.first c.requires.second))
