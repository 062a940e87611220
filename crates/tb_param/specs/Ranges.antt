-- Parameters that are in the ranges of their rows.
use Rattle.std.specs.Prelude.{Bool, true, false, Option, Some, None}
use Rattle.std.specs.List.{list_all}
use Rattle.tb_param.specs.declared.params.Params.{Params}
use Rattle.tb_param.specs.declared.ParamFault.{ParamFault}
use Rattle.tb_param.specs.Fields.{value_of}
use Rattle.tb_param.specs.Table.{Row, rows, value_fault}

-- nothing is wrong
abbrev pub is_no_fault : Option ParamFault → Bool
is_no_fault None = true
is_no_fault (Some e) = false

-- each parameter is in the range of its row
unfoldable pub are_params : Params → Bool
are_params p = list_all (λ (r : Row). is_no_fault (value_fault r.form (value_of r.field p))) rows
