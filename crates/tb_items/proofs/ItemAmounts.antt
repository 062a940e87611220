-- The amounts of a valid galley's items are in the ranges of their nodes.
use Rattle.std.proofs.Common.{ℕ, zero, suc, ℤ, pos, neg_ℤ, ◌≤ℤ◌, Bool, ◌&&◌, List, [], ◌∷◌, map, arith}
use Rattle.std.specs.Cmp.{first_so, second_so}
use Rattle.std.specs.Prelude.{All, IsTrue}
use Rattle.std.specs.List.{list_all}
use Rattle.std.proofs.lemmas.Int.{ints}
use Rattle.std.proofs.lemmas.List.Elements.{All-nil, All-cons}
use Rattle.tb_scaled.specs.declared.Glue.{Glue}
use Rattle.tb_node.specs.declared.Margin.{Margin}
use Rattle.tb_node.specs.Shape.{glue}
use Rattle.tb_node.specs.Names.{is_name}
use Rattle.tb_node.specs.Fit.{IsExtent, IsPenalty, IsSized, IsSizedLeaf}
use Rattle.tb_param.specs.Table.{is_within, is_dimen, is_glue}
use Rattle.tb_float.specs.Ranges.{IsSizedMargin}
use Rattle.tb_galley.specs.declared.Leaf.{Leaf}
use Rattle.tb_galley.specs.declared.LeafKind.{LeafKind}
use Rattle.tb_galley.specs.declared.LeafKind.TheVariants as leaves
use Rattle.tb_galley.specs.GalleyNodes.{break_strength, plain_leaf}
use Rattle.tb_galley.specs.Valid.{is_size, is_leaf, is_margin}
use Rattle.tb_column.proofs.RangeLemmas.{dimension}
use Rattle.tb_sheet.specs.Asked.{hold_penalty}

pub size-extent : (v : ℤ) → IsTrue (is_size v) → IsExtent v
size-extent v h = record { low = grind (arith, ints, h); high = grind (arith, ints, h) }

-- the height and depth after another test
pub both-extents : (t : Bool) (h d : ℤ) → IsTrue (t && is_size h && is_size d) → IsExtent h × IsExtent d
both-extents t h d v = (size-extent h (second_so t (is_size h) (first_so (t && is_size h) (is_size d) v)), size-extent d (second_so (t && is_size h) (is_size d) v))

pub glue-sized : (g : Glue) → IsTrue (is_glue g) → IsSized (glue g)
glue-sized g v =
    let two = first_so (is_dimen g.width && is_dimen g.stretch) (is_dimen g.shrink) v in (
      dimension g.width (first_so (is_dimen g.width) (is_dimen g.stretch) two),
      dimension g.stretch (second_so (is_dimen g.width) (is_dimen g.stretch) two),
      dimension g.shrink (second_so (is_dimen g.width && is_dimen g.stretch) (is_dimen g.shrink) v),
    )

pub margin-sized : (m : Margin) → IsTrue (is_margin m) → IsSizedMargin m
margin-sized m v =
    let left = is_name m.name && is_size m.left_height && is_size m.left_depth in
    let four = first_so (left && is_size m.right_height) (is_size m.right_depth) v in
    let on_left = both-extents (is_name m.name) m.left_height m.left_depth (first_so left (is_size m.right_height) four) in
    record {
      left_height = on_left.0;
      left_depth = on_left.1;
      right_height = size-extent m.right_height (second_so left (is_size m.right_height) four);
      right_depth = size-extent m.right_depth (second_so (left && is_size m.right_height) (is_size m.right_depth) v);
    }

-- ---- penalties

-- a penalty in its range, and not below that at which a page is held
pub record IsServedPenalty (q : ℤ) : Type 0 where
  pub sized : IsPenalty q
  pub high : hold_penalty ≤ℤ q

pub penalty-served : (q : ℤ) → IsTrue (is_within (neg_ℤ (pos 10000)) (pos 10000) q) → IsServedPenalty q
penalty-served q v = record { sized = record { low = grind (arith, ints, v); high = grind (arith, ints, v) }; high = grind (arith, ints, v) }

pub strength-served : (n : ℕ) → IsServedPenalty (break_strength n)
strength-served zero = record { sized = record { low = omega (arith, ints); high = omega (arith, ints) }; high = omega (arith, ints) }
strength-served (suc zero) = record { sized = record { low = omega (arith, ints); high = omega (arith, ints) }; high = omega (arith, ints) }
strength-served (suc (suc zero)) = record { sized = record { low = omega (arith, ints); high = omega (arith, ints) }; high = omega (arith, ints) }
strength-served (suc (suc (suc zero))) = record { sized = record { low = omega (arith, ints); high = omega (arith, ints) }; high = omega (arith, ints) }
strength-served (suc (suc (suc (suc n)))) = record { sized = record { low = omega (arith, ints); high = omega (arith, ints) }; high = omega (arith, ints) }

pub asked-served : (n : ℕ) → IsServedPenalty (neg_ℤ (break_strength n))
asked-served zero = record { sized = record { low = omega (arith, ints); high = omega (arith, ints) }; high = omega (arith, ints) }
asked-served (suc zero) = record { sized = record { low = omega (arith, ints); high = omega (arith, ints) }; high = omega (arith, ints) }
asked-served (suc (suc zero)) = record { sized = record { low = omega (arith, ints); high = omega (arith, ints) }; high = omega (arith, ints) }
asked-served (suc (suc (suc zero))) = record { sized = record { low = omega (arith, ints); high = omega (arith, ints) }; high = omega (arith, ints) }
asked-served (suc (suc (suc (suc n)))) = record { sized = record { low = omega (arith, ints); high = omega (arith, ints) }; high = omega (arith, ints) }

-- ---- footnotes

leaf-sized : (l : Leaf) → IsTrue (is_leaf l.kind) → IsSizedLeaf (plain_leaf l)
leaf-sized l v = by_kind l.kind v
  where
    by_kind : (k : LeafKind) → IsTrue (is_leaf k) → IsSizedLeaf (plain_leaf (record { line = l.line; kind = k }))
    by_kind (leaves.Hbox name h d) v = both-extents _ h d v
    by_kind (leaves.Rule name h d) v = both-extents _ h d v
    by_kind (leaves.Skip g) v = glue-sized g v
    by_kind (leaves.Kern w) v = dimension w v
    by_kind (leaves.Penalty q) v = (penalty-served q v).sized

pub leaves-sized : (ls : List Leaf) → IsTrue (list_all (λ (l : Leaf). is_leaf l.kind) ls) → All IsSizedLeaf (map plain_leaf ls)
leaves-sized [] v = All-nil IsSizedLeaf
leaves-sized (l ∷ ls) v =
    All-cons IsSizedLeaf (plain_leaf l) (map plain_leaf ls) (leaf-sized l (first_so (is_leaf l.kind) (list_all (λ (m : Leaf). is_leaf m.kind) ls) v))
    (leaves-sized ls (second_so (is_leaf l.kind) (list_all (λ (m : Leaf). is_leaf m.kind) ls) v))
