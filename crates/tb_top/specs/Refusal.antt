-- The status and the line of each refusal.
use Rattle.std.specs.Prelude.{◌≡◌, ℕ, List, [], Result, Ok, Err}
use Rattle.tb_galley.specs.declared.Galley.{Galley}
use Rattle.tb_galley.specs.declared.GalleyFault.{GalleyFault}
use Rattle.tb_galley.specs.declared.GalleyFault.TheVariants as unread
use Rattle.tb_galley.specs.FaultText.{fault_text}
use Rattle.tb_galley.specs.Grammar.{grammar}
use Rattle.tb_top.specs.declared.PageFault.{PageFault}
use Rattle.tb_top.specs.declared.PageFault.TheVariants as pages
use Rattle.tb_top.specs.declared.input.InputFault.{InputFault}
use Rattle.tb_top.specs.declared.input.InputFault.TheVariants as inputs
use Rattle.tb_io.specs.declared.sink.SinkFault.{SinkFault}
use Rattle.tb_io.specs.declared.sink.SinkFault.TheVariants as outputs
use Rattle.tb_words.specs.declared.WordsFault.{WordsFault}
use Rattle.tb_words.specs.declared.WordsFault.TheVariants as asked
use Rattle.tb_lines.specs.declared.LinesRefusal.{LinesRefusal}
use Rattle.tb_lines.specs.declared.LinesRefusal.TheVariants as unbroken
use Rattle.tb_lines.specs.RefusalText.{refusal_text as lines_text}
use Rattle.tb_top.specs.declared.refusal.Refusal.{Refusal}
use Rattle.tb_top.specs.declared.refusal.Refusal.TheVariants as refusals
use Rattle.tb_top.specs.declared.makeup_pages.PlainRunFault.{PlainRunFault}
use Rattle.tb_top.specs.declared.makeup_pages.PlainRunFault.TheVariants as unmade
use Rattle.tb_plain.specs.Report.{unsuited_text}
use Rattle.tb_top.specs.declared.chosen_pages.BestPagesFault.{BestPagesFault}
use Rattle.tb_top.specs.declared.chosen_pages.BestPagesFault.TheVariants as unchosen
use Rattle.tb_top.specs.declared.dvi_pages.DviRunFault.{DviRunFault}
use Rattle.tb_top.specs.declared.dvi_pages.DviRunFault.TheVariants as undone
use Rattle.tb_top.specs.declared.dvi_refusal.DviRefusal.TheVariants as dvi
use Rattle.tb_top.specs.DviRefusal.{dvi_status, dvi_text}
use Rattle.tb_top.specs.declared.status.Status.{Status}
use Rattle.tb_top.specs.declared.status.Status.TheVariants as answers
use Rattle.tb_top.specs.Outcome.{Stream, Failed, Gives}
use Rattle.tb_top.specs.Answer.{answer_for_cause, err_line, bare_text, pool_full_text, dead_cycles_text, page_limit_text, node_limit_text, choices_text}

-- ---- the status

-- the status if there is no galley
abbrev pub galley_status : GalleyFault → Status
galley_status (unread.At f) = answer_for_cause f.cause
galley_status unread.Memory = answers.Memory

-- the status if the pages stopped
abbrev pub page_status : PageFault → Status
page_status (pages.PoolFull line live) = answers.PoolFull
page_status (pages.DeadCycles n) = answers.DeadCycles
page_status (pages.PageLimit n) = answers.PageLimit
page_status (pages.NodeLimit n) = answers.NodeLimit
page_status pages.WriteFault = answers.WriteFault
page_status pages.Memory = answers.Memory

-- the status if the input was not read
abbrev pub input_status : InputFault → Status
input_status inputs.Failed = answers.ReadFault
input_status inputs.Memory = answers.Memory

-- the status if no mode was asked for
abbrev pub words_status : WordsFault → Status
words_status asked.Refused = answers.Words
words_status asked.Memory = answers.Memory

-- the status if a text was not written
abbrev pub output_status : SinkFault → Status
output_status outputs.Failed = answers.WriteFault
output_status outputs.Memory = answers.Memory

-- the status if a text has no galley of lines
abbrev pub lines_status : LinesRefusal → Status
lines_status (unbroken.At line field cause) = answer_for_cause cause
lines_status (unbroken.NoBreaks n) = answers.NoBreaks
lines_status unbroken.Memory = answers.Memory

-- the status of a refusal, by the step that refused
abbrev pub refusal_status : Refusal → Status
refusal_status (refusals.Words f) = words_status f
refusal_status (refusals.Output f) = output_status f
refusal_status refusals.Memory = answers.Memory
refusal_status (refusals.Input f) = input_status f
refusal_status (refusals.Galley f) = galley_status f
refusal_status (refusals.Pages f) = page_status f
refusal_status (refusals.Lines f) = lines_status f
refusal_status (refusals.Dvi f) = dvi_status f
refusal_status (refusals.Unsuited n) = answers.Unsuited
refusal_status refusals.Choices = answers.Choices

-- ---- the line on err

-- the text if there is no galley
abbrev pub galley_text : GalleyFault → List ℕ
galley_text (unread.At f) = fault_text f
galley_text unread.Memory = bare_text answers.Memory

-- the text if the pages stopped
abbrev pub page_text : PageFault → List ℕ
page_text (pages.PoolFull line live) = pool_full_text line live
page_text (pages.DeadCycles n) = dead_cycles_text n
page_text (pages.PageLimit n) = page_limit_text n
page_text (pages.NodeLimit n) = node_limit_text n
page_text pages.WriteFault = bare_text answers.WriteFault
page_text pages.Memory = bare_text answers.Memory

-- the text of a refusal, by the step that refused
abbrev pub refusal_text : Refusal → List ℕ
refusal_text (refusals.Words f) = bare_text (words_status f)
refusal_text (refusals.Output f) = bare_text (output_status f)
refusal_text refusals.Memory = bare_text answers.Memory
refusal_text (refusals.Input f) = bare_text (input_status f)
refusal_text (refusals.Galley f) = galley_text f
refusal_text (refusals.Pages f) = page_text f
refusal_text (refusals.Lines f) = lines_text f
refusal_text (refusals.Dvi f) = dvi_text f
refusal_text (refusals.Unsuited n) = unsuited_text n
refusal_text refusals.Choices = choices_text

-- the whole line of a refusal on standard error
abbrev pub refusal_line : Refusal → List ℕ
refusal_line r = err_line (refusal_text r)

-- the refusal of a galley's pages that have no whole DVI file
abbrev pub dvi_fault : DviRunFault → Refusal
dvi_fault (undone.Pages f) = refusals.Pages f
dvi_fault (undone.TooFar page) = refusals.Dvi (dvi.TooFar page)

-- the refusal of a run under plain TeX's page makeup
abbrev pub makeup_refusal : PlainRunFault → Refusal
makeup_refusal (unmade.PageLimit n) = refusals.Pages (pages.PageLimit n)
makeup_refusal (unmade.NodeLimit n) = refusals.Pages (pages.NodeLimit n)
makeup_refusal unmade.WriteFault = refusals.Pages pages.WriteFault
makeup_refusal unmade.Memory = refusals.Pages pages.Memory

-- the refusal of a galley without best pages
abbrev pub best_fault : BestPagesFault → Refusal
best_fault (unchosen.Pages f) = refusals.Pages f
best_fault unchosen.Choices = refusals.Choices

-- ---- of a run before its line is written

-- the status of a run that was served, or refused
abbrev pub served_status : {T : Type 0} → Result T Refusal → Status
served_status (Ok v) = answers.Done
served_status (Err r) = refusal_status r

-- the line of a run that was refused; one that was served has none
abbrev pub served_line : {T : Type 0} → Result T Refusal → List ℕ
served_line (Ok v) = []
served_line (Err r) = refusal_line r

-- ---- a galley that is not there

-- why the source gave no galley: it failed, there was no memory, or its bytes have this first fault
abbrev pub IsNoGalley : Stream → Refusal → Type 0
IsNoGalley source (refusals.Input inputs.Failed) = Failed source
IsNoGalley source (refusals.Input inputs.Memory) = Unit {0}
IsNoGalley source (refusals.Galley (unread.At f)) = (input : List ℕ) × Gives source.before source.after input × (grammar input ≡ Err f)
IsNoGalley source (refusals.Galley unread.Memory) = Unit {0}
IsNoGalley source refusals.Memory = Unit {0}
IsNoGalley source (refusals.Words f) = ⊥
IsNoGalley source (refusals.Pages f) = ⊥
IsNoGalley source (refusals.Output f) = ⊥
IsNoGalley source (refusals.Lines f) = ⊥
IsNoGalley source (refusals.Dvi f) = ⊥
IsNoGalley source (refusals.Unsuited n) = ⊥
IsNoGalley source refusals.Choices = ⊥

-- the source gave this galley
pub record GivesGalley (source : Stream) (g : Galley) : Type 0 where
  pub input : List ℕ
  pub read : Gives source.before source.after input
  pub galley : grammar input ≡ Ok g
