use Rattle.std.proofs.Common.{◌≡◌, ◌+◌, length, false, ap, ◌∙◌, FitsSigned, w64, rules, arith}
use Rattle.std.proofs.lemmas.Int.{to_z-of_z}
use Rattle.tb_float.specs.Rooms.{count_after}
use Rattle.tb_float.proofs.Pool.count_left.Goals as goal

pub returns-in-Total : goal.returns-in-Total
returns-in-Total c =
    let n : FitsSigned w64 c.args.p.now.totalnumber = search rules in
    let r : FitsSigned w64 c.count_after.result = search rules in
    let value = simp to_z-of_z at c.count_after.ensures in
    let used : c.len.result + c.len-in-Total.result + c.len-in-Total-2.result ≡ length c.args.self.now.lists.here + length c.args.self.now.lists.top + length c.args.self.now.lists.bottom = omega (arith, c.len.ensures.value, c.len-in-Total.ensures.value, c.len-in-Total-2.ensures.value) in
    rw c.in-Total.is (simp to_z-of_z (value ∙ ap (λ n. count_after c.args.p.now.totalnumber n c.args.s.now.all c.args.bang) used))

pub returns-in-Top : goal.returns-in-Top
returns-in-Top c =
    let n : FitsSigned w64 c.args.p.now.topnumber = search rules in
    let r : FitsSigned w64 c.count_after-in-Top.result = search rules in
    let value = simp to_z-of_z at c.count_after-in-Top.ensures in
    rw c.in-Top.is (simp to_z-of_z (value ∙ ap (λ n. count_after c.args.p.now.topnumber n c.args.s.now.top c.args.bang) c.len-in-Top.ensures.value))

pub returns-in-Bottom : goal.returns-in-Bottom
returns-in-Bottom c =
    let n : FitsSigned w64 c.args.p.now.bottomnumber = search rules in
    let r : FitsSigned w64 c.count_after-in-Bottom.result = search rules in
    let value = simp to_z-of_z at c.count_after-in-Bottom.ensures in
    rw c.in-Bottom.is (simp to_z-of_z (value ∙ ap (λ n. count_after c.args.p.now.bottomnumber n c.args.s.now.bottom c.args.bang) c.len-in-Bottom.ensures.value))

pub returns-in-Double : goal.returns-in-Double
returns-in-Double c =
    let n : FitsSigned w64 c.args.p.now.dbltopnumber = search rules in
    let r : FitsSigned w64 c.count_after-in-Double.result = search rules in
    let value = simp to_z-of_z at c.count_after-in-Double.ensures in
    rw c.in-Double.is (simp to_z-of_z (value ∙ ap (λ n. count_after c.args.p.now.dbltopnumber n false c.args.bang) c.len-in-Double.ensures.value))
