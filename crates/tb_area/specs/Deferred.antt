-- Where the floats that wait go, one after another (ltoutput.dtx, \@startcolumn and \@startdblcolumn).
use Rattle.std.specs.Prelude.{Bool, List, [], ◌∷◌, ◌++◌, if◌then◌else◌}
use Rattle.tb_node.specs.declared.Float.{Float}
use Rattle.tb_param.specs.declared.Params.{Params}
use Rattle.tb_float.specs.declared.Suppress.{Suppress}
use Rattle.tb_float.specs.declared.Part.{Part}
use Rattle.tb_float.specs.Lists.{FloatLists, with_floats_of}
use Rattle.tb_area.specs.Area.{AreaPlace, at_top, at_bottom, deferred, next_area_place, goes_double}

-- the lists after the float between these deferred ones goes to an area, or stays
abbrev pub gone_to : AreaPlace → Float → List Float → List Float → FloatLists → FloatLists
gone_to at_top f before rest l = record l { top = l.top ++ f ∷ []; deferred = before ++ rest }
gone_to at_bottom f before rest l = record l { bottom = l.bottom ++ f ∷ []; deferred = before ++ rest }
gone_to deferred f before rest l = l

-- what stays deferred before the next float
abbrev pub still_before : AreaPlace → Float → List Float → List Float
still_before at_top f before = before
still_before at_bottom f before = before
still_before deferred f before = before ++ f ∷ []

-- each deferred float is tried for the next column, in order; those before it are those that stay
abbrev pub filled : Params → Suppress → List Float → List Float → FloatLists → FloatLists
filled p s before [] l = l
filled p s before (f ∷ rest) l =
    let place = next_area_place p l s before f in
    filled p s (still_before place f before) rest (gone_to place f before rest l)

-- the lists after the float between these ones of a list goes above both columns, or stays
abbrev pub gone_double : Part → Bool → Float → List Float → List Float → FloatLists → FloatLists
gone_double from goes f before rest l = if goes then with_floats_of from (before ++ rest) (record l { double = l.double ++ f ∷ [] }) else l

-- what stays in the list before the next float
abbrev pub still_single : Bool → Float → List Float → List Float
still_single goes f before = if goes then before else before ++ f ∷ []

-- each float of a list is tried for the space above the next two columns, in order; those before it are those that stay
abbrev pub doubled : Part → Params → Suppress → List Float → List Float → FloatLists → FloatLists
doubled from p s before [] l = l
doubled from p s before (f ∷ rest) l =
    let goes = goes_double p l s before f in
    doubled from p s (still_single goes f before) rest (gone_double from goes f before rest l)
