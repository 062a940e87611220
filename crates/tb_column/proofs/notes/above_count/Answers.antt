use Rattle.std.proofs.Common.{◌+◌, ◌≤◌, ◌<◌, ap, sym, ◌∙◌, ◌++◌, ◌∷◌, [], length, take, arith}
use Rattle.std.proofs.lemmas.List.{take_more}
use Rattle.tb_column.specs.declared.NoteBox.{NoteBox}
use Rattle.tb_column.specs.TextColumns.{above_count}
use Rattle.tb_column.proofs.NoteLemmas.{above_count-snoc, above_length-le, rising-at}
use Rattle.tb_column.proofs.notes.above_count.Goals as goal

pub loop-note-preserved : goal.loop-note-preserved
loop-note-preserved c =
    let i = c.loop-note.note-index in
    let ns = c.args.notes.now in
    let n = c.note-item.result in
    let lt : i < length ns = omega arith in
    let more = take_more ns i n lt ∙ ap (λ (m : NoteBox). take i ns ++ m ∷ []) (sym c.note-item.is) in
    let rising : 0 + i ≤ n.class = rw (← c.note-item.is) at (rising-at 0 ns c.requires i n lt) in
    record {
      value = omega (arith, c.loop-note.invariant.value, c.above_length-count.ensures, ap above_count more, above_count-snoc (take i ns) n);
      bound = omega (arith, c.loop-note.invariant.bound, c.above_length-count.ensures, above_length-le n.class);
      few = omega (arith, rising);
    }
