-- The command line, as `clap` defines it.
use Rattle.std.specs.Prelude.{◌≡◌, ◌≤◌, ◌==◌, length, ℕ, pos, Bool, List, [], ◌∷◌, codes, Option, Some, None, unwrap_or, option_and_then, option_map, if◌then◌else◌}
use Rattle.std.specs.Str.{bytes_eq}
use Rattle.std.specs.Str.Parse.{digits_value, without_leading_plus}
use Rattle.clap.specs.Words.{App, Row, Rule, Text, fault_of, first_of, matches_of, new_app, new_rule, one_of, one_text, with_rule, without_minus, IsSignedIn}
use Rattle.clap.specs.declared.builder.action.ArgAction.TheVariants.{Set}
use Rattle.clap.specs.declared.builder.value_parser.ValueParser.TheVariants.{Signed}
use Rattle.clap.specs.declared.error.kind.ErrorKind.{ErrorKind}
use Rattle.clap.specs.declared.error.kind.ErrorKind.TheVariants as kinds
use Rattle.clap.specs.declared.parser.matches.Found.{Found}
use Rattle.tb_words.specs.declared.Mode.{Mode}
use Rattle.tb_words.specs.declared.Mode.TheVariants as modes
use Rattle.tb_words.specs.declared.WordsFault.{WordsFault}
use Rattle.tb_words.specs.declared.WordsFault.TheVariants as faults

-- ---- the command

-- `--mode`: a text, else `report`
abbrev pub mode_option : Rule
mode_option = record (new_rule (codes "mode")) { long = Some (codes "mode"); action = Some Set; defaults = codes "report" ∷ [] }

-- `--count`: a whole number from 1 to 40000, else 1000
abbrev pub count_option : Rule
count_option = record (new_rule (codes "count")) { long = Some (codes "count"); action = Some Set; parser = Some (Signed (pos 1) (pos 40000)); defaults = codes "1000" ∷ [] }

-- the program's command: these two options, and what `clap` adds
abbrev pub command : App
command = with_rule (with_rule (new_app (codes "galley_pages")) mode_option) count_option

-- ---- what the words ask for

-- the command takes the words
abbrev pub takes_words : List Text → Bool
takes_words words = length (fault_of command words) == 0

-- the number that a text writes
abbrev pub number_in : Text → ℕ
number_in text = digits_value 10 (without_leading_plus text)

-- the count among the matches
abbrev pub count_in : List Row → ℕ
count_in rows = unwrap_or (option_map number_in (one_of (codes "count") rows)) 0

-- the mode of this name, if it is served
abbrev pub mode_named : Text → ℕ → Option Mode
mode_named name count =
    if bytes_eq name (codes "report") then Some modes.Report
    else if bytes_eq name (codes "trace") then Some modes.Trace
    else if bytes_eq name (codes "rate") then Some modes.Rate
    else if bytes_eq name (codes "why") then Some modes.Why
    else if bytes_eq name (codes "best") then Some modes.Best
    else if bytes_eq name (codes "print") then Some modes.Print
    else if bytes_eq name (codes "lines") then Some modes.Lines
    else if bytes_eq name (codes "dvi") then Some modes.Dvi
    else if bytes_eq name (codes "dvilist") then Some modes.DviList
    else if bytes_eq name (codes "plain") then Some modes.Plain
    else if bytes_eq name (codes "gen") then Some (modes.Generate count)
    else None

-- the mode among the matches, if it is served
abbrev pub mode_in : List Row → Option Mode
mode_in rows = option_and_then (λ name. mode_named name (count_in rows)) (first_of (codes "mode") rows)

-- the mode that the words ask for: none if the command refuses them or the mode is none that is served
unfoldable pub asked : List Text → Option Mode
asked words = if takes_words words then mode_in (matches_of command words) else None

-- a generated galley has 1 to 40000 items
pub record IsCount (n : ℕ) : Type 0 where
  pub some : 1 ≤ n
  pub few : n ≤ 40000

-- the mode is one that the program has, with a count in its range
abbrev pub IsServed : Mode → Type 0
IsServed modes.Report = Unit {0}
IsServed modes.Trace = Unit {0}
IsServed modes.Rate = Unit {0}
IsServed modes.Why = Unit {0}
IsServed modes.Best = Unit {0}
IsServed modes.Print = Unit {0}
IsServed modes.Lines = Unit {0}
IsServed modes.Dvi = Unit {0}
IsServed modes.DviList = Unit {0}
IsServed modes.Plain = Unit {0}
IsServed (modes.Generate count) = IsCount count

-- a count was found, in its range
pub record HasCount (f : Found) : Type 0 where
  pub text : Text
  pub found : one_text f (codes "count") ≡ Some (without_minus text)
  pub within : IsSignedIn (pos 1) (pos 40000) text

-- ---- faults

-- memory, or a refusal
abbrev pub fault_by : ErrorKind → WordsFault
fault_by kinds.OutOfMemory = faults.Memory
fault_by _ = faults.Refused
