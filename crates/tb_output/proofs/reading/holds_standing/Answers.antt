use Rattle.std.proofs.Common.{ap, ◌∙◌, not}
use Rattle.tb_builder.specs.Contents.{contents_of}
use Rattle.tb_output.proofs.ColumnPages.SizeLemmas.{alike, unlike}
use Rattle.tb_output.proofs.Firings.ReadingLemmas.{none-stands, one-stands}
use Rattle.tb_output.proofs.reading.holds_standing.Goals as goal

pub returns-then-class : goal.returns-then-class
returns-then-class c = λ s. none-stands c.args.class.now (contents_of c.args.b.now s).boxes (alike c.args.class.now.number c.if-class.true)

pub returns : goal.returns
returns c = λ s. ap not (c.is_void.ensures s) ∙ one-stands c.args.class.now (contents_of c.args.b.now s).boxes (unlike c.args.class.now.number c.if-class.false)
