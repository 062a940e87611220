use Rattle.std.proofs.Common.{◌≡◌, ◌≢◌, sym, ap, ◌∙◌, Bool, true, List, [], ◌∷◌, length, arith}
use Rattle.std.specs.Prelude.{slice_set}
use Rattle.tb_node.specs.declared.Float.{Float}
use Rattle.tb_float.specs.declared.Part.TheVariants as parts
use Rattle.tb_float.specs.Pool.{FloatPool, with_mark, marked_among, marked_floats}
use Rattle.tb_float_tests.proofs.column.floats_stand_alone.Goals as goal

-- the first float of a list is marked
two-set : (ms : List Bool) (fs : List Float) → length ms ≡ length fs → length fs ≡ 3 → marked_among (slice_set (slice_set ms 0 true) 1 true) fs ≢ []
two-set [] fs same three e = omega (arith, same, three)
two-set (m ∷ ms) [] same three e = omega (arith, three)
two-set (m ∷ ms) (f ∷ fs) same three e = cc

marked-some : (v w x : FloatPool) → w ≡ with_mark parts.Second 0 v → x ≡ with_mark parts.Second 1 w → length v.second_marks ≡ length v.lists.second → length v.lists.second ≡ 3 → marked_floats parts.Second x ≢ []
marked-some v w x one two same three e =
    two-set v.second_marks v.lists.second same three (sym (ap (marked_floats parts.Second) (two ∙ ap (with_mark parts.Second 1) one)) ∙ e)

pub float_column-requires-clause-marked : goal.float_column-requires-clause-marked
float_column-requires-clause-marked g c =
    marked-some c.loop-height.pool c.mark.new.self c.mark-2.new.self c.mark.ensures c.mark-2.ensures c.len.ensures.second_marks (omega (arith, c.len.ensures.value, c.if-len-ne3.false))
