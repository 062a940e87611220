-- What is told of a firing by what is read of its page, of the machine before it.
use Rattle.std.proofs.Common.{◌≡◌, refl, sym, ◌∙◌, ℕ, ℤ, ◌+ℤ◌, ◌-ℤ◌, pos, Bool, true, false, List, [], ◌++◌, map, arith}
use Rattle.std.specs.Prelude.{int_lt, if◌then◌else◌}
use Rattle.std.proofs.lemmas.Int.{ints}
use Rattle.std.proofs.lemmas.Bool.{true≢false}
use Rattle.tb_scaled.specs.Amount.{IsAmount}
use Rattle.tb_node.specs.PlainNodes.{PlainNode, node_shape, plain_list}
use Rattle.tb_node.specs.Sums.{size_of, last_depth}
use Rattle.tb_param.specs.declared.Params.{Params}
use Rattle.tb_builder.specs.declared.Page.{Page}
use Rattle.tb_builder.specs.FiredPages.{Fired}
use Rattle.tb_column.specs.Column.{Notes}
use Rattle.tb_output.specs.declared.reading.Reading.{Reading}
use Rattle.tb_output.specs.State.{State, begun, footnotes}
use Rattle.tb_output.specs.Text.{notes_height}
use Rattle.tb_output.specs.Output.{after_page}
use Rattle.tb_output.specs.Firing.{IsReach}
use Rattle.tb_output.specs.Reading.{text_read, IsPageReading}
use Rattle.tb_run.specs.declared.routine.Routine.{Routine}
use Rattle.tb_run.specs.Routine.{state_of}
use Rattle.tb_run.specs.FilledPages.{fired_whole}
use Rattle.tb_told.specs.declared.Piece.{Piece}
use Rattle.tb_told.specs.Tales.{here_lines}
use Rattle.tb_why.specs.Seen.{Seen, reading_of, seen_pieces}
use Rattle.tb_why.specs.ShownTurns.{seen_in, pieces_in}
use Rattle.tb_why.proofs.SeenLemmas.{seen-firing}

-- the height of the page is that of the text without its depth, its depth, and what its insertions take
height-is : (size depth notes : ℤ) → size +ℤ notes ≡ (size -ℤ depth) +ℤ depth +ℤ notes
height-is size depth notes = omega (arith, ints)

-- how far down notes reach is an amount
pub reach-amount : (z : ℤ) → IsReach z → IsAmount z
reach-amount z h = let l = h.low in let u = h.high in record { low = omega (arith, ints, l); high = omega (arith, ints, u) }

told-then : (t : Bool) (ps : List Piece) → t ≡ true → ps ≡ (if t then ps else [])
told-then true ps is = refl
told-then false ps is = absurd (true≢false (sym is))

module _ (r : Routine) (page : Page) (z : Reading) (read : IsPageReading z r.machine r.builder r.store page) where
  abbrev s : State
  s = state_of r

  abbrev f : Fired
  f = fired_whole r page

  abbrev ns : List PlainNode
  ns = text_read (begun (after_page s f)) f.body

  abbrev notes : List Notes
  notes = footnotes (after_page s f)

  page-height : z.page_height ≡ (size_of (map node_shape ns) -ℤ last_depth (map node_shape ns)) +ℤ last_depth (map node_shape ns) +ℤ notes_height notes
  page-height = read.page_height ∙ height-is (size_of (map node_shape ns)) (last_depth (map node_shape ns)) (notes_height notes)

  -- what is read is what the definition reads
  reading-is : z ≡ reading_of s f
  reading-is = λ i. record { height = read.height i; page_height = page-height i; has_notes = read.has_notes i }

pub pieces-told : (r : Routine) (page : Page) (p : Params) (z : Reading) (here : List ℕ) (v : Seen) (old new : List Piece) {may : Bool} →
    int_lt (pos r.machine.dead_cycles) r.machine.params.maxdeadcycles ≡ may → may ≡ true →
    p ≡ r.machine.params → IsPageReading z r.machine r.builder r.store page → here ≡ here_lines (plain_list r.store page.body) → v ≡ seen_in r.machine →
    old ≡ [] → new ≡ old ++ seen_pieces p page.penalty here z v → new ≡ pieces_in r page
pieces-told r page p z here v old new {may} test allowed p-is read here-is v-is empty told =
    let s = state_of r in
    let f = fired_whole r page in
    told
    ∙ (λ i. empty i ++ seen_pieces (p-is i) page.penalty (here-is i) (reading-is r page z read i) (v-is i))
    ∙ sym (seen-firing r.machine.params s f)
    ∙ told-then (int_lt (pos r.machine.dead_cycles) r.machine.params.maxdeadcycles) _ (test ∙ allowed)
