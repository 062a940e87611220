-- How the reader goes, line by line.
use Rattle.std.specs.Prelude.{◌≡◌, ℕ, ◌+◌, List, [], ◌∷◌, Option, Some, None, Result, Ok, Err}
use Rattle.tb_galley.specs.declared.Cause.{Cause}
use Rattle.tb_galley.specs.declared.Fault.{Fault}
use Rattle.tb_galley.specs.declared.fields.At.{At}
use Rattle.tb_galley.specs.Faults.{fault}
use Rattle.tb_galley.specs.GalleyReader.{first_cause}
use Rattle.tb_lines.specs.declared.LinesFault.{LinesFault}
use Rattle.tb_lines.specs.declared.LinesFault.TheVariants as whys
use Rattle.tb_lines.specs.declared.text.Text.{Text}
pub use Rattle.tb_lines.specs.declared.reader.Reader.{Reader as State}
use Rattle.tb_lines.specs.Words.{at_start, Line, content_at, next_phase, count_with}
use Rattle.tb_lines.specs.Faults.{line_causes, end_causes}
use Rattle.tb_lines.specs.Grammar.{with_line, with_content, empty_draft, inside_in, text_of}
use Rattle.tb_lines.specs.Line.{Said, line_left}

-- after a line without a fault
abbrev pub past_content : State → List Line → State
past_content s [] = record s { lines = s.lines + 1 }
past_content s (l ∷ ls) = record { lines = s.lines + 1; phase = next_phase s.phase l.word; count = count_with s.count l.word; draft = with_line s.draft l; first = s.first }

-- a line with a fault leaves all else as it was
abbrev pub take_unless : State → List ℕ → Option Fault → State
take_unless s bytes (Some f) = record s { first = Some f }
take_unless s bytes None = past_content s (content_at bytes)

-- after the first fault nothing changes
abbrev pub take_by : State → List ℕ → Option Fault → State
take_by s bytes (Some f) = s
take_by s bytes None = take_unless s bytes (first_cause (s.lines + 1) 0 (line_causes s.phase s.count (inside_in s.draft.current) bytes))

-- one more line; after a fault all others are passed over
abbrev pub take_line : State → List ℕ → State
take_line s bytes = take_by s bytes s.first

-- before the first line
abbrev pub start : State
start = record { lines = 0; phase = at_start; count = 0; draft = empty_draft; first = None }

-- at the end without a fault so far
abbrev pub end_with : State → List Cause → Result Text Fault
end_with s [] = Ok (text_of s.draft)
end_with s (c ∷ cs) = Err (fault (s.lines + 1) 0 c)

-- the first fault, or what the end gives
abbrev pub verdict_by : State → Option Fault → Result Text Fault
verdict_by s (Some f) = Err f
verdict_by s None = end_with s (end_causes s.phase)

-- what the reader returns at the end of the text
abbrev pub verdict : State → Result Text Fault
verdict s = verdict_by s s.first

-- the same step, by what is read from the left
abbrev pub past_said : State → Option Said → State
past_said s None = record s { lines = s.lines + 1 }
past_said s (Some w) = record { lines = s.lines + 1; phase = next_phase s.phase (Some w.0); count = count_with s.count (Some w.0); draft = with_content s.draft w.1; first = s.first }

-- after a line that was read from the left
abbrev pub said_unless : State → Result (Option Said) At → State
said_unless s (Ok w) = past_said s w
said_unless s (Err e) = record s { first = Some (fault (s.lines + 1) e.field e.cause) }

-- after the first fault nothing changes
abbrev pub said_first : State → List ℕ → Option Fault → State
said_first s bytes (Some f) = s
said_first s bytes None = said_unless s (line_left s.phase s.count (inside_in s.draft.current) bytes)

-- one more line, read from the left
abbrev pub take_said : State → List ℕ → State
take_said s bytes = said_first s bytes s.first

-- the code returns this, unless memory runs out
abbrev pub Answers : Result Text LinesFault → Result Text Fault → Type 0
Answers (Ok t) answer = answer ≡ Ok t
Answers (Err (whys.At line field cause)) answer = answer ≡ Err (fault line field cause)
Answers (Err whys.Memory) answer = Unit {0}
