-- A page builder and an output routine take the classes of a valid galley.
use Rattle.std.proofs.Common.{ℕ, suc, ◌≤◌, ℤ, pos, ◌&&◌, nat_le, List, [], ◌∷◌, arith}
use Rattle.std.specs.Cmp.{first_so, second_so}
use Rattle.std.specs.Prelude.{IsTrue}
use Rattle.std.specs.List.{list_all, AllByRecursion}
use Rattle.std.proofs.lemmas.Int.{ints}
use Rattle.std.proofs.lemmas.List.Elements.{All-from_recursion}
use Rattle.tb_scaled.specs.declared.Glue.{Glue}
use Rattle.tb_scaled.specs.Glue.{fixed_glue}
use Rattle.tb_node.specs.Fit.{IsDimension}
use Rattle.tb_param.specs.declared.Params.{Params}
use Rattle.tb_param.specs.Table.{is_within, is_dimen, is_glue}
use Rattle.tb_insert.specs.Arrival.{ClassFits}
use Rattle.tb_builder.specs.Pageable.{IsFactor, IsSizedClass}
use Rattle.tb_column.specs.Ranges.{IsSizedGlue}
use Rattle.tb_galley.specs.declared.ClassLine.{ClassLine}
use Rattle.tb_galley.specs.declared.Galley.{Galley}
use Rattle.tb_galley.specs.Valid.{is_class, is_size, do_classes_rise, IsValid, may_stand, do_all_stand}
use Rattle.tb_items.specs.Classes.{foot_class, classes_of}
use Rattle.tb_output.specs.Machine.{AreClassesFrom}
use Rattle.tb_steps.specs.Runnable.{AreRunnable, AreRunClasses}
use Rattle.tb_column.proofs.RangeLemmas.{dimension}
use Rattle.tb_items.proofs.GalleyClasses.{AreAbove, rising-above, rising-rest, class-small, with_foot, classes-fit, standing-rule}
use Rattle.tb_node.proofs.FitLemmas.{dimension_small}

-- ---- a class

record IsSizedLine (c : ClassLine) : Type 0 where
  factor : IsFactor c.factor
  skip : IsSizedGlue c.skip

factor-is : (v : ℤ) → IsTrue (is_within (pos 0) (pos 10000) v) → IsFactor v
factor-is v h = record { low = grind (arith, ints, h); high = grind (arith, ints, h) }

skip-sized : (g : Glue) → IsTrue (is_glue g) → IsSizedGlue g
skip-sized g h =
    let two = first_so (is_dimen g.width && is_dimen g.stretch) (is_dimen g.shrink) h in
    record {
      width = dimension g.width (first_so (is_dimen g.width) (is_dimen g.stretch) two);
      stretch = dimension g.stretch (second_so (is_dimen g.width) (is_dimen g.stretch) two);
      shrink = dimension g.shrink (second_so (is_dimen g.width && is_dimen g.stretch) (is_dimen g.shrink) h);
    }

line-sized : (c : ClassLine) → IsTrue (is_class c) → IsSizedLine c
line-sized c h =
    let most = nat_le c.number 253 in
    let factor = is_within (pos 0) (pos 10000) c.factor in
    let three = first_so (most && factor && is_size c.limit) (is_glue c.skip) h in
    record {
      factor = factor-is c.factor (second_so most factor (first_so (most && factor) (is_size c.limit) three));
      skip = skip-sized c.skip (second_so (most && factor && is_size c.limit) (is_glue c.skip) h);
    }

-- ---- all of them

no-size : IsDimension (pos 0)
no-size = record { low = omega (arith, ints); high = omega (arith, ints) }

-- the class of what makes a page higher skips nothing
no-skip : IsSizedGlue (fixed_glue (pos 0))
no-skip = record { width = no-size; stretch = no-size; shrink = no-size }

module _ (p : Params) (foot : IsSizedGlue p.skipfootins) (version : ℕ) where
  rising-from : (n : ℕ) (cs : List ClassLine) → n ≤ 253 → AreAbove n cs → IsTrue (list_all is_class cs) → IsTrue (do_all_stand version cs) → IsTrue (do_classes_rise cs) → AreClassesFrom (suc n) (with_foot p cs)
  rising-from n [] small above v s r = (omega (arith, small), foot, (omega arith, no-skip, tt, tt), tt)
  rising-from n (c ∷ cs) small above v s r =
      let here = first_so (is_class c) (list_all is_class cs) v in (
        above.0,
        (line-sized c here).skip,
        rising-from c.number cs (class-small c here) (rising-above c cs r) (second_so (is_class c) (list_all is_class cs) v) (second_so (may_stand version c.below) (do_all_stand version cs) s) (rising-rest c cs r),
        standing-rule version c.below (first_so (may_stand version c.below) (do_all_stand version cs) s),
      )

  rising : (cs : List ClassLine) → IsTrue (list_all is_class cs) → IsTrue (do_all_stand version cs) → IsTrue (do_classes_rise cs) → AreClassesFrom 0 (with_foot p cs)
  rising [] v s r = (omega arith, foot, (omega arith, no-skip, tt, tt), tt)
  rising (c ∷ cs) v s r =
      let here = first_so (is_class c) (list_all is_class cs) v in (
        omega arith,
        (line-sized c here).skip,
        rising-from c.number cs (class-small c here) (rising-above c cs r) (second_so (is_class c) (list_all is_class cs) v) (second_so (may_stand version c.below) (do_all_stand version cs) s) (rising-rest c cs r),
        standing-rule version c.below (first_so (may_stand version c.below) (do_all_stand version cs) s),
      )

  all-sized : (cs : List ClassLine) → IsTrue (list_all is_class cs) → AllByRecursion IsSizedClass (with_foot p cs)
  all-sized [] v = (record { factor = record { low = omega (arith, ints); high = omega (arith, ints) }; width = foot.width; stretch = foot.stretch; shrink = foot.shrink }, (record { factor = record { low = omega (arith, ints); high = omega (arith, ints) }; width = no-size; stretch = no-size; shrink = no-size }, tt))
  all-sized (c ∷ cs) v =
      let one = line-sized c (first_so (is_class c) (list_all is_class cs) v) in
      (record { factor = one.factor; width = one.skip.width; stretch = one.skip.stretch; shrink = one.skip.shrink }, all-sized cs (second_so (is_class c) (list_all is_class cs) v))

foot-fits : (p : Params) → IsSizedGlue p.skipfootins → ClassFits (foot_class p)
foot-fits p h = record { factor = record { low = omega (arith, ints); high = omega (arith, ints) }; stretch = dimension_small p.skipfootins.stretch h.stretch; shrink = dimension_small p.skipfootins.shrink h.shrink }

pub galley-classes : (g : Galley) → AreRunnable g.params → IsValid g → AreRunClasses (classes_of g)
galley-classes g runs v =
    let foot = runs.output.columns.skipfootins in
    let each = first_so (list_all is_class g.classes) (do_classes_rise g.classes) v.classes in
    let rise = second_so (list_all is_class g.classes) (do_classes_rise g.classes) v.classes in
    record {
      rising = rising g.params foot g.version g.classes each v.standing rise;
      fit = classes-fit g v (foot-fits g.params foot);
      sized = All-from_recursion IsSizedClass (classes_of g) (all-sized g.params foot g.version g.classes each);
    }
