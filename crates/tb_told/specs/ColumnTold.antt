-- What is told where a column of floats is looked for: of each head, of the company that is made, and which floats it takes.
use Rattle.std.specs.Prelude.{ℤ, true, not, ◌||◌, List, [], ◌∷◌, ◌++◌, length, map, Option, Some, None, int_le, if◌then◌else◌}
use Rattle.std.specs.Bool.{beq}
use Rattle.tb_node.specs.declared.Float.{Float}
use Rattle.tb_told.specs.declared.Test.TheVariants as tests
use Rattle.tb_float.specs.Lists.{has_class}
use Rattle.tb_told.specs.Tested.{Tested, tested, first_failed, all_hold, first_of_class}
use Rattle.tb_fpage.specs.declared.Wanted.{Wanted}
use Rattle.tb_told.specs.declared.ToldColumn.{ToldColumn}
use Rattle.tb_told.specs.declared.ToldColumn.TheVariants.{Heads, Joins, Companied, Takes}
use Rattle.tb_told.specs.declared.Alone.{Alone}
use Rattle.tb_told.specs.declared.Joining.{Joining}
use Rattle.tb_told.specs.declared.Made.{Made}
use Rattle.tb_fpage.specs.Company.{Choice, passed_over, all_chosen, company_height, joins, company_of_head, is_made, chosen_floats, left_floats}

-- ---- the tests in their order

-- may the float head a column, with these before it in its list?
abbrev pub alone_tests : Wanted → List Float → Float → List Tested
alone_tests z before f =
    tested tests.Places (f.places.p || z.clearing) ∷ tested tests.Tall (int_le f.height z.height)
    ∷ tested tests.Class (not (has_class f.class before)) ∷ []

-- the height of the company with this float
abbrev pub sum_with : Wanted → List Choice → Float → ℤ
sum_with z before f = company_height z.sep (before ++ record { float = f; chosen = true } ∷ [])

-- does a later float join, after these choices?
abbrev pub joins_tests : Wanted → List Choice → Float → List Tested
joins_tests z before f =
    tested tests.Places (f.places.p || z.clearing) ∷ tested tests.Tall (int_le f.height z.height)
    ∷ tested tests.Class (all_chosen f.class before) ∷ tested tests.Sum (int_le (sum_with z before f) z.height) ∷ []

-- is the company high enough, or are floats cleared?
abbrev pub made_tests : Wanted → List Choice → List Tested
made_tests z cs = tested tests.Sum (is_made z cs) ∷ []

-- ---- what is told

-- of a float that may head a column
abbrev pub alone_told : Wanted → List Float → Float → Alone
alone_told z before f = record {
  blocker = first_of_class f.class before;
  high = f.height;
  most = z.height;
  failed = first_failed (alone_tests z before f);
}

-- of a float that may join: the blocker is the first of its class that stays behind
abbrev pub joins_told : Wanted → List Choice → Float → Joining
joins_told z before f = record {
  blocker = first_of_class f.class (left_floats before);
  high = f.height;
  sum = sum_with z before f;
  most = z.height;
  failed = first_failed (joins_tests z before f);
}

-- of a company
abbrev pub made_told : Wanted → List Choice → Made
made_told z cs = record {
  floats = length (chosen_floats cs);
  sum = company_height z.sep cs;
  least = z.minimum;
  failed = first_failed (made_tests z cs);
}

-- something is told of a float only if it has the width of the column
abbrev pub if_of_width : Wanted → Float → ToldColumn → List ToldColumn
if_of_width z f t = if beq f.wide z.wide then t ∷ [] else []

-- of the later floats, after these choices
abbrev pub told_joins : Wanted → List Choice → List Float → List ToldColumn
told_joins z before [] = []
told_joins z before (f ∷ fs) =
    if_of_width z f (Joins f (joins_told z before f)) ++ told_joins z (before ++ record { float = f; chosen = joins z before f } ∷ []) fs

-- of a company that is made: the later floats, the company, and the floats that it takes
abbrev pub told_made : Wanted → List Float → Float → List Float → List ToldColumn
told_made z before f fs =
    let cs = company_of_head z before f fs in
    told_joins z (passed_over before ++ record { float = f; chosen = true } ∷ []) fs
    ++ (Companied f (made_told z cs) ∷ map (λ g. Takes g) (chosen_floats cs))

-- of a head, before what is told of later ones
abbrev pub told_head : Wanted → List Float → Float → List Float → List ToldColumn → List ToldColumn
told_head z before f fs later =
    let cs = company_of_head z before f fs in
    if is_made z cs then told_made z before f fs else Companied f (made_told z cs) ∷ later

-- of a float of the column's width
abbrev pub told_float : Wanted → List Float → Float → List Float → List ToldColumn → List ToldColumn
told_float z before f fs later =
    Heads f (alone_told z before f) ∷ (if all_hold (alone_tests z before f) then told_head z before f fs later else later)

-- of the floats after these, up to a company that is made
abbrev pub told_from : Wanted → List Float → List Float → List ToldColumn
told_from z before [] = []
told_from z before (f ∷ fs) =
    let later = told_from z (before ++ f ∷ []) fs in
    if beq f.wide z.wide then told_float z before f fs later else later

-- of the floats of a list
abbrev pub told_column : Wanted → List Float → List ToldColumn
told_column z fs = told_from z [] fs

-- the floats that are told to be taken
abbrev pub floats_told : List ToldColumn → List Float
floats_told [] = []
floats_told (Heads f t ∷ ts) = floats_told ts
floats_told (Joins f t ∷ ts) = floats_told ts
floats_told (Companied f t ∷ ts) = floats_told ts
floats_told (Takes f ∷ ts) = f ∷ floats_told ts

-- the floats of a company, if there is one
abbrev pub taken_floats : Option (List Choice) → List Float
taken_floats None = []
taken_floats (Some cs) = chosen_floats cs
