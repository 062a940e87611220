use Rattle.std.proofs.Common.{◌∙◌, sym, ap, refl, is_some}
use Rattle.tb_galley.specs.Words.{line_words, word_of}
use Rattle.tb_galley.proofs.VisibleWords.{word_visible}
use Rattle.tb_galley.proofs.galley_reader.read_line.Goals as goal

pub is_visible-requires : goal.is_visible-requires
unfolding word_of
is_visible-requires c known = word_visible line_words refl c.in-Some.head.now (ap is_some (sym c.word_of-spelled.ensures) ∙ sym c.is_some.ensures ∙ known)
