-- Parameters that are set among the items of a galley.
use Rattle.std.specs.Prelude.{◌≡◌, Bool, [], ◌∷◌, slice_get, unwrap_or, pos, codes, List, if◌then◌else◌}
use Rattle.tb_param.specs.declared.params.Params.{Params}
use Rattle.tb_param.specs.declared.fields.Field.{Field}
use Rattle.tb_param.specs.declared.fields.Field.TheVariants as fields
use Rattle.tb_param.specs.declared.table.Form.TheVariants as forms
use Rattle.tb_param.specs.declared.changes.Change.{Change}
use Rattle.tb_param.specs.declared.changes.SetPlace.{SetPlace}
use Rattle.tb_param.specs.declared.changes.SetPlace.TheVariants as places
use Rattle.tb_param.specs.Fields.{value_of, with_value, place}
use Rattle.tb_param.specs.Table.{Row, named, rows, value_fault}
use Rattle.tb_param.specs.Ranges.{is_no_fault}

-- the row of a parameter
abbrev pub row_of_field : Field → Row
row_of_field field = unwrap_or (slice_get rows (place field)) (named (codes "textheight") fields.Textheight (forms.Dim (pos 1)))

-- the parameters of these rows have the same values
abbrev pub Agree : Params → Params → List Row → Type 0
Agree a b [] = Unit {0}
Agree a b (r ∷ rs) = (value_of r.field a ≡ value_of r.field b) × Agree a b rs

-- where among the items a parameter may be set
abbrev pub set_place : Field → SetPlace
set_place fields.Pool = places.Nowhere
set_place fields.Maxdeadcycles = places.Nowhere
set_place fields.Maxpages = places.Nowhere
set_place fields.Maxnodes = places.Nowhere
set_place fields.Release = places.Nowhere
set_place fields.Topskip = places.Anywhere
set_place fields.Maxdepth = places.Anywhere
set_place fields.Baselineskip = places.Anywhere
set_place fields.Bottom = places.Anywhere
set_place fields.Footsplittop = places.Anywhere
set_place fields.Footsplitdepth = places.Anywhere
set_place fields.Footfloating = places.Anywhere
set_place fields.Splittopskip = places.Anywhere
set_place fields.Splitmaxdepth = places.Anywhere
set_place fields.Floatingpenalty = places.Anywhere
set_place fields.Interlinepenalty = places.Anywhere
set_place fields.Parskip = places.Anywhere
set_place fields.Marginparpush = places.Anywhere
set_place fields.Mparswitch = places.Anywhere
set_place fields.Reversemargin = places.Anywhere
set_place fields.Texttop = places.Anywhere
set_place fields.Textbottom = places.Anywhere
set_place fields.Footrule = places.Anywhere
set_place fields.Toprule = places.Anywhere
set_place fields.Bottomrule = places.Anywhere
set_place fields.Dblrule = places.Anywhere
set_place fields.Footdepth = places.Anywhere
set_place fields.Footfill = places.Anywhere
set_place fields.Footplace = places.Anywhere
set_place _ = places.AfterClear

-- the value is in the range of its parameter
abbrev pub is_in_range : Change → Bool
is_in_range c = is_no_fault (value_fault (row_of_field c.field).form c.value)

-- these parameters, but for those that hold for a whole galley, which are as in others
abbrev pub with_whole : Params → Params → Params
with_whole p q = record q {
  pool = p.pool;
  maxdeadcycles = p.maxdeadcycles;
  maxpages = p.maxpages;
  maxnodes = p.maxnodes;
  release = p.release;
}

-- the parameters once one of them is set among the items; a value out of its range changes nothing, nor does one of a parameter that holds for the whole galley
abbrev pub changed : Params → Change → Params
changed p c = with_whole p (if is_in_range c then with_value c.field c.value p else p)
