use Rattle.std.proofs.Common.{arith}
use Rattle.std.proofs.lemmas.Int.{ints}
use Rattle.tb_column.proofs.RangeLemmas.{column-params}
use Rattle.tb_float_tests.proofs.column.params.Goals as goal

pub returns : goal.returns
returns c =
    let others = column-params c.defaults.result c.defaults.ensures.in_range in
    record {
      floats = record {
        textheight = record { low = omega (arith, ints); high = omega (arith, ints) };
        textfloatsep = c.glue_of-none.ensures.width;
        floatsep = c.glue_of-none.ensures.width;
        intextsep = others.floats.intextsep;
        dbltextfloatsep = c.glue_of-none.ensures.width;
        dblfloatsep = c.glue_of-none.ensures.width;
        topfraction = record { low = omega (arith, ints, others.floats.topfraction.low, others.floats.topfraction.high); high = omega (arith, ints, others.floats.topfraction.low, others.floats.topfraction.high) };
        bottomfraction = record { low = omega (arith, ints, others.floats.bottomfraction.low, others.floats.bottomfraction.high); high = omega (arith, ints, others.floats.bottomfraction.low, others.floats.bottomfraction.high) };
        textfraction = record { low = omega (arith, ints, others.floats.textfraction.low, others.floats.textfraction.high); high = omega (arith, ints, others.floats.textfraction.low, others.floats.textfraction.high) };
        dbltopfraction = record { low = omega (arith, ints, others.floats.dbltopfraction.low, others.floats.dbltopfraction.high); high = omega (arith, ints, others.floats.dbltopfraction.low, others.floats.dbltopfraction.high) };
        totalnumber = record { low = omega (arith, ints, others.floats.totalnumber.low, others.floats.totalnumber.high); high = omega (arith, ints, others.floats.totalnumber.low, others.floats.totalnumber.high) };
        topnumber = record { low = omega (arith, ints, others.floats.topnumber.low, others.floats.topnumber.high); high = omega (arith, ints, others.floats.topnumber.low, others.floats.topnumber.high) };
        bottomnumber = record { low = omega (arith, ints, others.floats.bottomnumber.low, others.floats.bottomnumber.high); high = omega (arith, ints, others.floats.bottomnumber.low, others.floats.bottomnumber.high) };
        dbltopnumber = record { low = omega (arith, ints, others.floats.dbltopnumber.low, others.floats.dbltopnumber.high); high = omega (arith, ints, others.floats.dbltopnumber.low, others.floats.dbltopnumber.high) };
      };
      maxdepth = record { low = omega (arith, ints); high = omega (arith, ints) };
      skipfootins = c.glue_of-none.ensures;
      floatsep = c.glue_of-none.ensures;
      textfloatsep = c.glue_of-none.ensures;
      dblfloatsep = c.glue_of-none.ensures;
      dbltextfloatsep = c.glue_of-none.ensures;
      fptop = c.glue_of.ensures;
      fpsep = c.glue_of-2.ensures;
      fpbot = c.glue_of-3.ensures;
      dblfptop = others.dblfptop;
      dblfpsep = others.dblfpsep;
      dblfpbot = others.dblfpbot;
      texttop = others.texttop;
      textbottom = others.textbottom;
      footfill = others.footfill;
      footrule = others.footrule;
      toprule = others.toprule;
      bottomrule = others.bottomrule;
      dblrule = others.dblrule;
    }
