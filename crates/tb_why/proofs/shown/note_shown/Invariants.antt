use Rattle.std.proofs.Common.{◌≡◌, ◌<◌, ◌^◌, drop}
use Rattle.tb_why.specs.ShownOf.{all_shown_of, AreShownPages}
use Rattle.tb_why.specs.Summary.{summed}
use Rattle.tb_why.specs.SummaryLaws.{sheets_of}
use Rattle.tb_why.proofs.shown.note_shown.Given as goal

abbrev pub invariant-loop-showing : goal.invariant-loop-showing
invariant-loop-showing l = record {
  summed : summed (all_shown_of l.store (drop l.showing-index l.shown)) l.summary ≡ summed (all_shown_of l.store l.fn.shown) l.fn.summary;
  few : sheets_of l.summary.sheets (all_shown_of l.store (drop l.showing-index l.shown)) < 2 ^ 63;
  pages : AreShownPages l.store (drop l.showing-index l.shown);
}
