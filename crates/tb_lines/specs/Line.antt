-- Reading a line: its word and what it says, nothing if it is skipped, or the first field at fault.
use Rattle.std.specs.Prelude.{ℕ, nat_lt, List, [], ◌∷◌, length, Option, Some, None, Result, Ok, Err, if◌then◌else◌}
use Rattle.std.specs.List.{list_all}
use Rattle.tb_galley.specs.declared.Cause.TheVariants as causes
use Rattle.tb_galley.specs.declared.fields.At.{At}
use Rattle.tb_galley.specs.Faults.{is_printable}
use Rattle.tb_galley.specs.Line.{first_of}
use Rattle.tb_galley.specs.FieldReader.{◌>>=◌, at_fault, settled, finished}
use Rattle.tb_lines.specs.Words.{LineWord, Phase, Line, content_at}
use Rattle.tb_lines.specs.Fields.{missing_cause}
use Rattle.tb_lines.specs.Faults.{place_causes, item_causes}
use Rattle.tb_lines.specs.Grammar.{Content}
use Rattle.tb_lines.specs.FieldReader.{content_left}

-- a line's word, and what it says
abbrev pub Said : Type 0
Said = LineWord × Content

-- a word with what its line says
abbrev pub said : LineWord → Result Content At → Result (Option Said) At
said w (Ok k) = Ok (Some (w, k))
said w (Err e) = Err e

-- what a line says after its word
abbrev pub worded_left : Line → Option LineWord → Result (Option Said) At
worded_left l None = Ok None
worded_left l (Some w) = said w (finished (content_left w (record { number = 2; missing = missing_cause w; fields = l.fields })))

-- first the bytes of the word, then its place, then the count of items, then the fields after it
unfoldable pub content_line : Phase → ℕ → Option ℕ → Line → Result (Option Said) At
content_line p count inside l = do
  _ ← if list_all is_printable l.head then Ok (tt {0}) else at_fault 1 causes.NotAscii
  _ ← settled 1 (first_of (place_causes p l.word)) (tt {0})
  _ ← settled 1 (first_of (item_causes count inside l.word)) (tt {0})
  worded_left l l.word

-- a line without content says nothing
abbrev pub content_lines : Phase → ℕ → Option ℕ → List Line → Result (Option Said) At
content_lines p count inside [] = Ok None
content_lines p count inside (l ∷ ls) = content_line p count inside l

-- first the length of a line, then its content
unfoldable pub line_left : Phase → ℕ → Option ℕ → List ℕ → Result (Option Said) At
line_left p count inside bytes = if nat_lt 255 (length bytes) then at_fault 0 causes.LineLength else content_lines p count inside (content_at bytes)
