-- The release of LaTeX whose output routine is followed.
use Rattle.std.specs.Prelude.{Bool, true, false}
use Rattle.tb_param.specs.declared.Choice.{Choice}
use Rattle.tb_param.specs.declared.Choice.TheVariants as choices
use Rattle.tb_param.specs.declared.params.Params.{Params}

-- the word is the release of 2014
abbrev pub is_2014 : Choice → Bool
is_2014 choices.Flush = false
is_2014 choices.Ragged = false
is_2014 choices.On = false
is_2014 choices.Off = false
is_2014 choices.R2014 = true
is_2014 choices.R2015 = false
is_2014 choices.Keep = false
is_2014 choices.Drop = false
is_2014 choices.Above = false
is_2014 choices.Below = false

-- wide floats that wait have a list of their own; in the release of 2015 all floats wait in one list
abbrev pub has_second : Params → Bool
has_second p = is_2014 p.release
