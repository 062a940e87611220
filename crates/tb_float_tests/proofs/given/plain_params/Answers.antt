use Rattle.std.proofs.Common.{◌≡◌, ap, arith}
use Rattle.std.specs.Prelude.{pos}
use Rattle.std.proofs.lemmas.Int.{ints}
use Rattle.tb_scaled.specs.declared.Glue.{Glue}
use Rattle.tb_param.specs.declared.params.Params.{Params}
use Rattle.tb_param.specs.Defaults.{default_params}
use Rattle.tb_float_tests.proofs.given.plain_params.Goals as goal

pub returns : goal.returns
unfolding default_params
returns c =
    let p = c.defaults.result in
    let of = c.defaults.ensures.values in
    let top : p.topfraction ≡ pos 45875 = ap (λ (q : Params). q.topfraction) of in
    let bottom : p.bottomfraction ≡ pos 19661 = ap (λ (q : Params). q.bottomfraction) of in
    let text : p.textfraction ≡ pos 13107 = ap (λ (q : Params). q.textfraction) of in
    let double : p.dbltopfraction ≡ pos 45875 = ap (λ (q : Params). q.dbltopfraction) of in
    let all : p.totalnumber ≡ pos 3 = ap (λ (q : Params). q.totalnumber) of in
    let tops : p.topnumber ≡ pos 2 = ap (λ (q : Params). q.topnumber) of in
    let doubles : p.dbltopnumber ≡ pos 2 = ap (λ (q : Params). q.dbltopnumber) of in
    let one : c.fixed.result.width ≡ pos 0 = ap (λ (g : Glue). g.width) c.fixed.ensures in
    let two : c.fixed-2.result.width ≡ pos 0 = ap (λ (g : Glue). g.width) c.fixed-2.ensures in
    let three : c.fixed-3.result.width ≡ pos 0 = ap (λ (g : Glue). g.width) c.fixed-3.ensures in
    let four : c.fixed-4.result.width ≡ pos 0 = ap (λ (g : Glue). g.width) c.fixed-4.ensures in
    let five : c.fixed-5.result.width ≡ pos 0 = ap (λ (g : Glue). g.width) c.fixed-5.ensures in
    record {
      textheight = record { low = omega (arith, ints); high = omega (arith, ints) };
      textfloatsep = record { low = omega (arith, ints); high = omega (arith, ints) };
      floatsep = record { low = omega (arith, ints); high = omega (arith, ints) };
      intextsep = record { low = omega (arith, ints); high = omega (arith, ints) };
      dbltextfloatsep = record { low = omega (arith, ints); high = omega (arith, ints) };
      dblfloatsep = record { low = omega (arith, ints); high = omega (arith, ints) };
      topfraction = record { low = omega (arith, ints); high = omega (arith, ints) };
      bottomfraction = record { low = omega (arith, ints); high = omega (arith, ints) };
      textfraction = record { low = omega (arith, ints); high = omega (arith, ints) };
      dbltopfraction = record { low = omega (arith, ints); high = omega (arith, ints) };
      totalnumber = record { low = omega (arith, ints); high = omega (arith, ints) };
      topnumber = record { low = omega (arith, ints); high = omega (arith, ints) };
      bottomnumber = record { low = omega (arith, ints); high = omega (arith, ints) };
      dbltopnumber = record { low = omega (arith, ints); high = omega (arith, ints) };
    }
