-- What is shipped, and what else the output routine sends out.
use Rattle.std.specs.Prelude.{ℕ, ℤ, pos, ◌+◌, ◌+ℤ◌, ◌-ℤ◌, ◌==◌, List, [], ◌∷◌, length, Option, Some, None, if◌then◌else◌}
use Rattle.tb_node.specs.declared.Float.{Float}
use Rattle.tb_node.specs.PlainNodes.{PlainNode}
use Rattle.tb_param.specs.declared.Params.{Params}
use Rattle.tb_param.specs.declared.Rule.{Rule}
use Rattle.tb_float.specs.Lists.{FloatLists}
use Rattle.tb_float.specs.Rooms.{column_height_of}
use Rattle.tb_column.specs.Column.{PlainColumn, pair_floats, pair_rule}
use Rattle.tb_sheet.specs.declared.Warn.{Warn}

-- a page of one column, of a wide column of floats, or of two columns under double floats
pub data PlainSheet : Type 0 where
  one : PlainColumn → PlainSheet
  wide : PlainColumn → PlainSheet
  two : List PlainNode → ℤ → PlainColumn → PlainColumn → PlainSheet

-- a warning, or a page with its number
pub data PlainSent : Type 0 where
  warned : Warn → PlainSent
  shipped : ℕ → PlainSheet → PlainSent

-- the room of a rule with its kerns
abbrev pub rule_room : Option Rule → ℤ
rule_room None = pos 0
rule_room (Some r) = r.above +ℤ r.height +ℤ r.below

-- how many of these floats have a depth
abbrev pub deep_count : List Float → ℕ
deep_count [] = 0
deep_count (f ∷ fs) = (if f.deep then 1 else 0) + deep_count fs

-- where two columns begin: below the double floats with their depths, their rule, if no title is among them, and their glue
abbrev pub pair_top : Params → FloatLists → ℤ
pair_top p l = ((p.textheight -ℤ column_height_of p l) +ℤ (if length l.double == 0 then pos 0 else rule_room (pair_rule p l))) +ℤ pos (deep_count l.double)

-- a page of two columns, under the double floats
abbrev pub pair_sheet : Params → FloatLists → PlainColumn → PlainColumn → PlainSheet
pair_sheet p l left right = two (pair_floats p l) (pair_top p l) left right
