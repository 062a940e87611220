-- A marginal note gets its place: the steps of the work.
use Rattle.std.proofs.Common.{◌≡◌, refl, subst, ◌∙◌, ℕ, ℤ, Bool, List, [], w64, to_z, of_z, arith}
use Rattle.std.proofs.lemmas.Int.{ints}
use Rattle.tb_scaled.specs.Amount.{IsAmount}
use Rattle.std.specs.Prelude.{if◌then◌else◌}
use Rattle.tb_pool.specs.Lists.{Lists}
use Rattle.tb_node.specs.declared.Margin.{Margin}
use Rattle.tb_node.specs.declared.Node.{Node}
use Rattle.tb_node.specs.PlainNodes.{PlainNode}
use Rattle.tb_node.specs.Fit.{IsExtent}
use Rattle.tb_param.specs.declared.Params.{Params}
use Rattle.tb_margin.specs.declared.Placed.{Placed}
use Rattle.tb_margin.specs.Margin.{placed_note}
use Rattle.tb_sheet.specs.declared.Warn.TheVariants as warnings
use Rattle.tb_sheet.specs.Sheet.{warned}
use Rattle.tb_output.specs.declared.texts.TextSize.{TextSize}
use Rattle.tb_output.specs.declared.RunFault.{RunFault}
use Rattle.tb_output.specs.declared.RunFault.TheVariants as faults
use Rattle.tb_output.specs.State.{Work, puts, sends, with_floats}
use Rattle.tb_output.specs.Text.{puts_interline, note_nodes, moved_warning, with_note_bottom}
use Rattle.tb_output.specs.BackList.{note_list}
use Rattle.tb_output.specs.Machine.{MachineView, IsMachine}
use Rattle.tb_output.specs.PageChanges.{with_warning}
use Rattle.tb_output.specs.FiringParts.{without_note, note_placed}
use Rattle.tb_output.specs.FiringWork.{shows_back, IsCutShort, Does, Continues}
use Rattle.tb_output.specs.MachineFrame.{HasFloats, HasGrown, IsBack, KeepsBack}
use Rattle.tb_output.specs.Firing.{IsReach}
use Rattle.tb_output.proofs.ColumnPages.SizeLemmas.{amount-cast}
use Rattle.tb_output.proofs.FiringWork.WorkingLemmas.{does-same}
use Rattle.tb_output.proofs.StepLaws.WorkSteps.{continues-then, continues_if, continues-puts, continues-sends, continues-puts_interline}
use Rattle.tb_output.proofs.FiringWork.StepLemmas.{Done, Cut, done-then, then-cut, cut-same, no-room}
use Rattle.tb_output.proofs.InText.TextSteps.{note-same, retired-done, bottom-done, warned-moved, note-done, then-interline, then-interline_cut, continues-none}

-- ---- the note's place

pub reach-amount : (z : ℤ) → IsReach z → IsAmount z
reach-amount z h = record { low = omega (arith, ints, h.low); high = omega (arith, ints, h.high) }

-- it is that of the machine's numbers, passed on
pub note-place : (m inside : MachineView) (z : TextSize) (note : Margin) (at : Placed) → inside ≡ m → IsAmount z.height → IsReach m.note_bottom
    → at ≡ placed_note inside.params inside.number inside.two_columns inside.first_column (to_z w64 (of_z w64 z.height)) (to_z w64 (of_z w64 inside.note_bottom)) note
    → at ≡ placed_note m.params m.number m.two_columns m.first_column z.height m.note_bottom note
note-place m inside z note at same height reach e =
    subst (λ (x : MachineView). at ≡ placed_note x.params x.number x.two_columns x.first_column (to_z w64 (of_z w64 z.height)) (to_z w64 (of_z w64 x.note_bottom)) note) same e
    ∙ (λ i. placed_note m.params m.number m.two_columns m.first_column (amount-cast z.height height i) (amount-cast m.note_bottom (reach-amount m.note_bottom reach) i) note)

-- ---- what comes after it is known

continues-puts_after : (p : Params) (nobreak : Bool) (ns : List PlainNode) (w : Work) → Continues w (puts_interline p nobreak (puts ns w))
continues-puts_after p nobreak ns w = continues-then (continues-puts ns w) (continues-puts_interline p nobreak (puts ns w))

continues-note_rest : (p : Params) (depth : ℤ) (note : Margin) (at : Placed) (w : Work) → Continues w (puts_interline p note.nobreak (puts (note_nodes depth note at) (moved_warning note at w)))
continues-note_rest p depth note at w =
    let told = moved_warning note at w in
    continues-then (continues_if w at.moved (sends (warned (warnings.Moved note.name at.shift)) w) w (continues-sends (warned (warnings.Moved note.name at.shift)) w) (continues-none w))
    (continues-puts_after p note.nobreak (note_nodes depth note at) told)

-- ---- step by step

-- its boxes left the pool, and the notes of the column reach down further; it was warned of, and it is beside the text
module _ (l : ℕ) (m : MachineView) (store : Lists Node) (is : IsMachine m store) (back : IsBack l m store) (z : TextSize) (note : Margin) (at : Placed) (place : at ≡ placed_note m.params m.number m.two_columns m.first_column z.height m.note_bottom note) where
  abbrev set_step : Work → Work
  set_step w = with_note_bottom at.bottom (with_floats (without_note w.state.floats) w)

  module _ (retired : MachineView) (gone : HasFloats (without_note m.pool.lists) m retired) where
    left : Done l m retired store store (λ w. with_floats (without_note w.state.floats) w)
    left = retired-done l m retired store is back gone

    module _ (set : MachineView) (is_set : set ≡ record retired { note_bottom = at.bottom }) where
      set-done : Done l m set store store set_step
      set-done = done-then l m retired set store store store (λ w. with_floats (without_note w.state.floats) w) (with_note_bottom at.bottom) left
          (bottom-done l retired set store at.bottom left.keeps.machine left.keeps.back is_set)

      -- there was no memory for the warning
      pub warning-memory : (now : MachineView) → now ≡ set → Cut faults.Memory l m now store store (note_placed m.params z note)
      warning-memory now same = cut-same l faults.Memory m now store store _ (note_placed m.params z note) (note-same l m store z note at place)
          (then-cut l faults.Memory m set now store store store set_step (λ w. puts_interline m.params note.nobreak (puts (note_nodes z.depth note at) (moved_warning note at w))) set-done
          (no-room l set now store store (λ w. puts_interline m.params note.nobreak (puts (note_nodes z.depth note at) (moved_warning note at w))) set-done.keeps.machine set-done.keeps.back same refl (continues-note_rest m.params z.depth note at)))

      module _ (told : MachineView) (is_told : told ≡ (if at.moved then with_warning (warnings.Moved note.name at.shift) set else set)) where
        told-done : Done l m told store store (λ w. moved_warning note at (set_step w))
        told-done = done-then l m set told store store store set_step (moved_warning note at) set-done
            (warned-moved l set told store note at set-done.keeps.machine set-done.keeps.back is_told)

        pub told-keeps : KeepsBack l [] m told store store
        told-keeps = told-done.keeps

        -- there was none for the note
        pub note-memory : (new : Lists Node) → new.lists ≡ store.lists → Cut faults.Memory l m told store new (note_placed m.params z note)
        note-memory new same = cut-same l faults.Memory m told store new _ (note_placed m.params z note) (note-same l m store z note at place)
            (then-cut l faults.Memory m told told store store new (λ w. moved_warning note at (set_step w)) (λ w. puts_interline m.params note.nobreak (puts (note_nodes z.depth note at) w)) told-done
            (no-room l told told store new (λ w. puts_interline m.params note.nobreak (puts (note_nodes z.depth note at) w)) told-done.keeps.machine told-done.keeps.back refl same (λ w. continues-puts_after m.params note.nobreak (note_nodes z.depth note at) w)))

        module _ (middle : Lists Node) (extent : IsExtent z.depth) (grown : HasGrown l (note_list z.depth note at) [] store middle) where
          stands : Done l m told store middle (λ w. puts (note_nodes z.depth note at) (moved_warning note at (set_step w)))
          stands = done-then l m told told store store middle (λ w. moved_warning note at (set_step w)) (puts (note_nodes z.depth note at)) told-done
              (note-done l told store middle z.depth note at told-done.keeps.machine told-done.keeps.back extent grown)

          pub stands-keeps : KeepsBack l [] m told store middle
          stands-keeps = stands.keeps

          pub note-whole : (new : Lists Node) → Does (shows_back l told middle) (shows_back l told new) (puts_interline told.params note.nobreak) → Does (shows_back l m store) (shows_back l told new) (note_placed m.params z note)
          note-whole new does = does-same (shows_back l m store) (shows_back l told new) _ (note_placed m.params z note) (note-same l m store z note at place)
              (then-interline l m told told store middle new (λ w. puts (note_nodes z.depth note at) (moved_warning note at (set_step w))) stands note.nobreak does)

          pub note-cut : (e : RunFault) (new : Lists Node) → Does (shows_back l told middle) (IsCutShort e told new) (puts_interline told.params note.nobreak) → Does (shows_back l m store) (IsCutShort e told new) (note_placed m.params z note)
          note-cut e new does = does-same (shows_back l m store) (IsCutShort e told new) _ (note_placed m.params z note) (note-same l m store z note at place)
              (then-interline_cut l m told told store middle new (λ w. puts (note_nodes z.depth note at) (moved_warning note at (set_step w))) stands note.nobreak e does)
