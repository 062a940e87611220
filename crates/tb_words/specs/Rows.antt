-- Worked rows: words with what they ask for.
use Rattle.std.specs.Prelude.{◌≡◌, List, [], ◌∷◌, codes, Some, None}
use Rattle.clap.specs.Words.{Text}
use Rattle.tb_words.specs.Words.{asked}
use Rattle.tb_words.specs.declared.Mode.TheVariants.{Report, Trace, Rate, Why, Best, Print, Lines, Dvi, DviList, Plain, Generate}

-- the words after the program's name
abbrev pub named : List Text → List Text
named words = codes "galley_pages" ∷ words

-- each list of words with what the definition gives
pub record WordsRows : Type 0 where
  -- no words, also without the name
  pub nothing : asked [] ≡ Some Report
  pub name_alone : asked (named []) ≡ Some Report
  -- each mode
  pub report : asked (named (codes "--mode" ∷ codes "report" ∷ [])) ≡ Some Report
  pub trace : asked (named (codes "--mode" ∷ codes "trace" ∷ [])) ≡ Some Trace
  pub rate : asked (named (codes "--mode" ∷ codes "rate" ∷ [])) ≡ Some Rate
  pub why : asked (named (codes "--mode" ∷ codes "why" ∷ [])) ≡ Some Why
  pub best : asked (named (codes "--mode" ∷ codes "best" ∷ [])) ≡ Some Best
  pub print : asked (named (codes "--mode" ∷ codes "print" ∷ [])) ≡ Some Print
  pub lines : asked (named (codes "--mode" ∷ codes "lines" ∷ [])) ≡ Some Lines
  pub dvi : asked (named (codes "--mode" ∷ codes "dvi" ∷ [])) ≡ Some Dvi
  pub dvilist : asked (named (codes "--mode" ∷ codes "dvilist" ∷ [])) ≡ Some DviList
  pub plain : asked (named (codes "--mode" ∷ codes "plain" ∷ [])) ≡ Some Plain
  pub with_equals : asked (named (codes "--mode=print" ∷ [])) ≡ Some Print
  pub another_mode : asked (named (codes "--mode" ∷ codes "nothing" ∷ [])) ≡ None
  -- the count, with its default; it is checked in every mode
  pub count_left_out : asked (named (codes "--mode" ∷ codes "gen" ∷ [])) ≡ Some (Generate 1000)
  pub count_given : asked (named (codes "--mode" ∷ codes "gen" ∷ codes "--count" ∷ codes "7" ∷ [])) ≡ Some (Generate 7)
  pub count_first : asked (named (codes "--count=40000" ∷ codes "--mode=gen" ∷ [])) ≡ Some (Generate 40000)
  pub count_with_plus : asked (named (codes "--mode" ∷ codes "gen" ∷ codes "--count" ∷ codes "+7" ∷ [])) ≡ Some (Generate 7)
  pub count_with_zeros : asked (named (codes "--mode" ∷ codes "gen" ∷ codes "--count" ∷ codes "007" ∷ [])) ≡ Some (Generate 7)
  pub count_zero : asked (named (codes "--mode" ∷ codes "gen" ∷ codes "--count" ∷ codes "0" ∷ [])) ≡ None
  pub count_too_large : asked (named (codes "--mode" ∷ codes "gen" ∷ codes "--count" ∷ codes "40001" ∷ [])) ≡ None
  pub count_of_a_report : asked (named (codes "--count" ∷ codes "7" ∷ [])) ≡ Some Report
  pub count_zero_of_a_report : asked (named (codes "--count" ∷ codes "0" ∷ [])) ≡ None
  pub no_number : asked (named (codes "--count" ∷ codes "x" ∷ [])) ≡ None
  -- what the command refuses
  pub stray_word : asked (named (codes "x" ∷ [])) ≡ None
  pub value_left_out : asked (named (codes "--mode" ∷ [])) ≡ None
  pub twice : asked (named (codes "--mode" ∷ codes "report" ∷ codes "--mode" ∷ codes "report" ∷ [])) ≡ None
  pub abbreviated : asked (named (codes "--mod" ∷ codes "trace" ∷ [])) ≡ None
  pub help : asked (named (codes "--help" ∷ [])) ≡ None
  pub short_help : asked (named (codes "-h" ∷ [])) ≡ None
  pub version : asked (named (codes "--version" ∷ [])) ≡ None
  -- a last `--`
  pub end_of_options : asked (named (codes "--mode" ∷ codes "trace" ∷ codes "--" ∷ [])) ≡ Some Trace
  pub word_past_the_end : asked (named (codes "--" ∷ codes "x" ∷ [])) ≡ None
