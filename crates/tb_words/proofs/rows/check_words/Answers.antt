use Rattle.tb_words.proofs.WordsRows.{words_rows}
use Rattle.tb_words.proofs.rows.check_words.Goals as goal

pub returns : goal.returns
returns c = words_rows
