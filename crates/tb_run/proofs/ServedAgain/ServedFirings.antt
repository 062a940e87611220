-- A firing leaves a state whose pages can be filled and served again, in which not many more nodes are held.
use Rattle.std.proofs.Common.{◌≡◌, refl, sym, subst, ◌∙◌, ap, ℕ, ◌+◌, ◌-◌, ◌*◌, ◌≤◌, ℤ, pos, inl, inr, ◌⊎◌, Bool, true, false, List, [], ◌∷◌, ◌++◌, length, arith}
use Rattle.std.specs.Prelude.{if◌then◌else◌, not, ◌&&◌, ◌||◌}
use Rattle.std.specs.List.{AllByRecursion}
use Rattle.std.proofs.lemmas.Int.{ints}
use Rattle.tb_break.proofs.EachLemmas.{all-take}
use Rattle.tb_scaled.specs.Scaled.{max_dimen}
use Rattle.tb_scaled.specs.Glue.{filling_glue}
use Rattle.tb_node.specs.declared.Float.{Float}
use Rattle.tb_node.specs.PlainNodes.{skip, PlainNode, made, blank_box}
use Rattle.tb_param.specs.declared.Params.{Params}
use Rattle.tb_insert.specs.declared.Class.{Class}
use Rattle.tb_builder.specs.Contents.{node_count, box_count}
use Rattle.tb_builder.specs.Pageable.{IsSizedBox}
use Rattle.tb_builder.proofs.Ranges.PageableLemmas.{count-append}
use Rattle.tb_float.specs.declared.Entry.{Entry}
use Rattle.tb_float.specs.Lists.{wide_part, wide_waiting}
use Rattle.tb_float.specs.Ranges.{IsWithin, IsSizedEntry}
use Rattle.tb_float.specs.Rooms.{column_room_of}
use Rattle.tb_float.proofs.WaitingLemmas.{wide-waits}
use Rattle.tb_column.specs.Column.{Notes, standing_notes}
use Rattle.tb_sheet.specs.Sheet.{PlainSent, warned}
use Rattle.tb_sheet.specs.declared.Warn.TheVariants as warnings
use Rattle.tb_output.specs.State.{Work, puts, sends, with_floats, footnotes, has_floats}
use Rattle.tb_output.specs.Pages
use Rattle.tb_output.specs.Columns
use Rattle.tb_output.specs.Clear
use Rattle.tb_output.specs.Output
use Rattle.tb_sheet.specs.Asked
use Rattle.tb_output.proofs.StepLaws.FollowLemmas.{Follows, part-current, follows-put_out, follows-float_columns, follows-next, follows-wide_pages}
use Rattle.tb_run.specs.ServedStates.{notes_taken}
use Rattle.tb_run.proofs.ServedAgain.BackNodes.{AreBack, AreText, back-append, text-back, clear-back, blank-back, count-take, emptied-sized, emptied-count}
use Rattle.tb_run.proofs.ServedAgain.EasedWorks.{Eases, all_columns-eases, put_out-eases, fill_column-eases, all_wide-eases}

-- how far notes may reach if this many of them have no place yet
abbrev pub reach_where : ℕ → ℕ
reach_where left = 9007199254740992 + 4294967296 * (600006 - left)

-- if this many notes wait, and no more nodes than these go back, are held and are in boxes
pub record Kept (cs : List Class) (left most : ℕ) (w : Work) : Type 0 where
  pub back : AreBack cs w.put_back
  pub held : AreText w.state.held_page
  pub boxes : AllByRecursion IsSizedBox w.state.boxes
  pub classes : w.state.classes ≡ cs
  pub entries : AllByRecursion IsSizedEntry w.state.floats.current
  pub notes : left + notes_taken w.state.floats.current ≤ 600005
  pub bottom : IsWithin (reach_where (left + notes_taken w.state.floats.current)) w.state.note_bottom
  pub few : node_count w.put_back + node_count w.state.held_page + box_count w.state.boxes ≤ most

zero-within : (n : ℕ) → IsWithin n (pos 0)
zero-within n = record { low = omega (arith, ints); high = omega (arith, ints) }

pub within-more : (a b : ℕ) (z : ℤ) → a ≤ b → IsWithin a z → IsWithin b z
within-more a b z h k = let l = k.low in let u = k.high in record { low = omega (arith, ints, h, l); high = omega (arith, ints, h, u) }

reach-more : (a b : ℕ) → a ≤ b → reach_where b ≤ reach_where a
reach-more a b h = omega (arith, h)

-- every float will do
abbrev pub AnyFloat : Float → Type 0
AnyFloat f = Unit {0}

module _ (cs : List Class) (left : ℕ) where
  pub kept-more : (m n : ℕ) (w : Work) → m ≤ n → Kept cs left m w → Kept cs left n w
  kept-more m n w h k = record { back = k.back; held = k.held; boxes = k.boxes; classes = k.classes; entries = k.entries; notes = k.notes; bottom = k.bottom; few = let f = k.few in omega (arith, f, h) }

  pub kept-if : (n : ℕ) (t : Bool) (c d : Work) → Kept cs left n c → Kept cs left n d → Kept cs left n (if t then c else d)
  kept-if n true c d h k = h
  kept-if n false c d h k = k

  -- the current list may have lost entries, and notes may have begun again
  pub kept-with : (n : ℕ) (w c : Work) → Kept cs left n w → c.put_back ≡ w.put_back → c.state.held_page ≡ w.state.held_page → c.state.boxes ≡ w.state.boxes → Eases w c
      → AllByRecursion IsSizedEntry c.state.floats.current → notes_taken c.state.floats.current ≤ notes_taken w.state.floats.current → Kept cs left n c
  kept-with n w c k back held boxes eases entries fewer = record {
    back = subst (AreBack cs) (sym back) k.back;
    held = subst AreText (sym held) k.held;
    boxes = subst (AllByRecursion IsSizedBox) (sym boxes) k.boxes;
    classes = eases.classes ∙ k.classes;
    entries = entries;
    notes = let a = k.notes in omega (arith, a, fewer);
    bottom = by_bottom eases.bottom;
    few = let f = k.few in let a = ap node_count back in let b = ap node_count held in let d = ap box_count boxes in omega (arith, f, a, b, d);
  }
    where
      by_bottom : (c.state.note_bottom ≡ w.state.note_bottom) ⊎ (c.state.note_bottom ≡ pos 0) → IsWithin (reach_where (left + notes_taken c.state.floats.current)) c.state.note_bottom
      by_bottom (inl e) =
          within-more (reach_where (left + notes_taken w.state.floats.current)) (reach_where (left + notes_taken c.state.floats.current)) c.state.note_bottom
          (reach-more (left + notes_taken c.state.floats.current) (left + notes_taken w.state.floats.current) (omega (arith, fewer)))
          (subst (IsWithin (reach_where (left + notes_taken w.state.floats.current))) (sym e) k.bottom)
      by_bottom (inr e) = subst (IsWithin (reach_where (left + notes_taken c.state.floats.current))) (sym e) (zero-within _)

  same-notes : (xs ys : List Entry) → xs ≡ ys → notes_taken xs ≤ notes_taken ys
  same-notes xs ys e = let a = ap notes_taken e in omega (arith, a)

  -- a step that leaves the current list too
  pub kept-step : (n : ℕ) (w c : Work) → Kept cs left n w → c.put_back ≡ w.put_back → c.state.held_page ≡ w.state.held_page → c.state.boxes ≡ w.state.boxes → c.state.floats.current ≡ w.state.floats.current → Eases w c → Kept cs left n c
  kept-step n w c k back held boxes current eases =
      kept-with n w c k back held boxes eases (subst (AllByRecursion IsSizedEntry) (sym current) k.entries) (same-notes c.state.floats.current w.state.floats.current current)

  pub kept-follows : (n : ℕ) (w c : Work) → Kept cs left n w → Follows AnyFloat w c → Eases w c → Kept cs left n c
  kept-follows n w c k f e = kept-step n w c k f.back f.page f.boxes f.current e

  pub kept-puts : (n : ℕ) (ns : List PlainNode) (w : Work) → AreBack cs ns → Kept cs left n w → Kept cs left (n + node_count ns) (puts ns w)
  kept-puts n ns w b k = record {
    back = back-append cs w.put_back ns k.back b;
    held = k.held;
    boxes = k.boxes;
    classes = k.classes;
    entries = k.entries;
    notes = k.notes;
    bottom = k.bottom;
    few = let f = k.few in let e = count-append w.put_back ns in omega (arith, f, e);
  }

  -- at most this many more
  pub kept-puts_few : (n k : ℕ) (ns : List PlainNode) (w : Work) → AreBack cs ns → node_count ns ≤ k → Kept cs left n w → Kept cs left (n + k) (puts ns w)
  kept-puts_few n k ns w b few h = kept-more (n + node_count ns) (n + k) (puts ns w) (omega (arith, few)) (kept-puts n ns w b h)

  pub kept-sends : (n : ℕ) (e : PlainSent) (w : Work) → Kept cs left n w → Kept cs left n (sends e w)
  kept-sends n e w k = kept-if n w.refused w (record w { sent = w.sent ++ e ∷ [] }) k
      (record { back = k.back; held = k.held; boxes = k.boxes; classes = k.classes; entries = k.entries; notes = k.notes; bottom = k.bottom; few = k.few })

  -- ---- columns

  kept-emptied : (n : ℕ) (w : Work) → Kept cs left n w → Kept cs left n (Columns.without_column_floats w)
  kept-emptied n w k = record {
    back = k.back;
    held = k.held;
    boxes = emptied-sized w.state.boxes;
    classes = k.classes;
    entries = k.entries;
    notes = k.notes;
    bottom = k.bottom;
    few = let f = k.few in let e = emptied-count w.state.boxes in omega (arith, f, e);
  }

  kept-unnoted : (n : ℕ) (w : Work) → Kept cs left n w → Kept cs left n (Clear.without_notes w)
  kept-unnoted n w k = record {
    back = k.back;
    held = k.held;
    boxes = emptied-sized w.state.boxes;
    classes = k.classes;
    entries = k.entries;
    notes = k.notes;
    bottom = k.bottom;
    few = let f = k.few in let e = emptied-count w.state.boxes in omega (arith, f, e);
  }

  kept-text : (n : ℕ) (p : Params) (body : List PlainNode) (w : Work) → Kept cs left n w → Kept cs left n (Columns.put_out_text p body w)
  kept-text n p body w k =
      let a = Columns.without_column_floats w in
      let c = Columns.text_of p w.state body in
      kept-follows n a (Pages.put_out p c a) (kept-emptied n w k) (follows-put_out AnyFloat p c a) (put_out-eases p c a)

  kept-columns : (n : ℕ) (p : Params) (clearing : Bool) (w : Work) → Kept cs left n w → Kept cs left n (Columns.all_float_columns p clearing w)
  kept-columns n p clearing w k = kept-follows n w (Columns.all_float_columns p clearing w) k (follows-float_columns AnyFloat p clearing (length w.state.floats.deferred) w) (all_columns-eases p clearing w)

  pub kept-ordinary : (n : ℕ) (p : Params) (body : List PlainNode) (w : Work) → Kept cs left n w → Kept cs left n (Columns.ordinary p body w)
  kept-ordinary n p body w k =
      let a = Columns.put_out_text p body w in
      let b = Columns.all_float_columns p false a in
      kept-follows n b (Columns.fill_column p b) (kept-columns n p false a (kept-text n p body w k)) (follows-next AnyFloat p [] b.state.floats.deferred b refl) (fill_column-eases p b)

  -- ---- a clear

  kept-wide : (n : ℕ) (p : Params) (w : Work) → Kept cs left n w → Kept cs left (n + 6) (Clear.clear_wide p w)
  kept-wide n p w k =
      let a = with_floats (Clear.double_again p w.state.floats) w in
      kept-if (n + 6) (not w.state.two_columns) w _ (kept-more n (n + 6) w (omega arith) k)
      (kept-if (n + 6) w.state.first_column (Pages.all_wide_pages p true a) (puts (made blank_box ∷ Clear.clear_again) w)
      (kept-more n (n + 6) (Pages.all_wide_pages p true a) (omega arith)
      (kept-follows n a (Pages.all_wide_pages p true a)
      (kept-step n w a k refl refl refl (part-current (wide_part p) (wide-waits p) (w.state.floats.double ++ wide_waiting p w.state.floats) (record w.state.floats { double = [] })) (record { classes = refl; bottom = inl refl }))
      (follows-wide_pages AnyFloat p true (length (wide_waiting p a.state.floats)) a) (all_wide-eases p true a)))
      (kept-puts n (made blank_box ∷ Clear.clear_again) w (tt, clear-back cs) k))

  kept-rest : (n : ℕ) (w : Work) → Kept cs left n w → Kept cs left (n + 5) (Clear.clear_rest w)
  kept-rest n w k = kept-if (n + 5) (has_floats w.state.floats.deferred || has_floats w.state.floats.second) (puts Clear.clear_again w) w (kept-puts n Clear.clear_again w (clear-back cs) k) (kept-more n (n + 5) w (omega arith) k)

  kept-floats : (n : ℕ) (p : Params) (body : List PlainNode) (w : Work) → AreText body → Kept cs left n w → Kept cs left (n + node_count body + 11) (Clear.clear_floats p body w)
  kept-floats n p body w text k =
      let front = Clear.cleared_front p body in
      let a = puts front w in
      let b = with_floats (Clear.deferred_again w.state.floats) a in
      let c = Columns.all_float_columns p true b in
      let d = Clear.clear_wide p c in
      let m = n + node_count body in
      kept-more (m + 6 + 5) (m + 11) (Clear.clear_rest d) (omega arith)
      (kept-rest (m + 6) d
      (kept-wide m p c
      (kept-columns m p true b
      (kept-step m a b (kept-puts_few n (node_count body) front w (text-back cs front (all-take _ _ body text)) (count-take _ body) k) refl refl refl refl (record { classes = refl; bottom = inl refl })))))

  pub kept-clear : (n : ℕ) (p : Params) (body : List PlainNode) (w : Work) → AreText body → Kept cs left n w → Kept cs left (n + node_count body + 11) (Clear.clear p body w)
  kept-clear n p body w text k = by_notes (standing_notes (footnotes w.state))
    where
      by_notes : (ns : List Notes) → Kept cs left (n + node_count body + 11) (Clear.clear_by p body w ns)
      by_notes [] = kept-floats n p body (Clear.without_notes w) text (kept-unnoted n w k)
      by_notes (x ∷ ns) =
          let a = Columns.put_out_text p (body ++ made (skip filling_glue) ∷ []) w in
          kept-more (n + 5) (n + node_count body + 11) (puts Clear.clear_again a) (omega arith) (kept-puts n Clear.clear_again a (clear-back cs) (kept-text n p (body ++ made (skip filling_glue) ∷ []) w k))

  -- ---- a page is held

  pub kept-hold : (n : ℕ) (body : List PlainNode) (w : Work) → AreText body → Kept cs left n w → Kept cs left (n + node_count body) (Output.hold body w)
  kept-hold n body w text k = record {
    back = k.back;
    held = text;
    boxes = k.boxes;
    classes = k.classes;
    entries = k.entries;
    notes = k.notes;
    bottom = k.bottom;
    few = let f = k.few in omega (arith, f);
  }

  -- ---- the goal of the next page

  kept-leave : (n : ℕ) (w : Work) → Kept cs left n w → Kept cs left (n + 4) (Output.leave_column w)
  kept-leave n w k = kept-blanks (w.state.two_columns && not w.state.first_column)
    where
      told : Work
      told = sends (warned (warnings.Floats w.state.number)) w

      kept-blanks : (t : Bool) → Kept cs left (n + 4) (puts (if t then Output.blank_column ++ Output.blank_column else Output.blank_column) told)
      kept-blanks true = kept-puts n (Output.blank_column ++ Output.blank_column) told (back-append cs Output.blank_column Output.blank_column (blank-back cs) (blank-back cs)) (kept-sends n (warned (warnings.Floats w.state.number)) w k)
      kept-blanks false = kept-more (n + 2) (n + 4) (puts Output.blank_column told) (omega arith) (kept-puts n Output.blank_column told (blank-back cs) (kept-sends n (warned (warnings.Floats w.state.number)) w k))

  kept-goal : (n : ℕ) (g : ℤ) (w : Work) → Kept cs left n w → Kept cs left (n + 4) (Output.with_goal g w)
  kept-goal n g w k = kept-more n (n + 4) (Output.with_goal g w) (omega arith)
      (record { back = k.back; held = k.held; boxes = k.boxes; classes = k.classes; entries = k.entries; notes = k.notes; bottom = k.bottom; few = k.few })

  pub kept-next_goal : (n : ℕ) (p : Params) (q : ℤ) (w : Work) → Kept cs left n w → Kept cs left (n + 4) (Output.next_goal p q w)
  kept-next_goal n p q w k =
      let room = column_room_of p w.state.floats in
      kept-if (n + 4) (Output.is_int q Asked.hold_penalty) (Output.with_goal max_dimen w) (Output.goal_by p room w) (kept-goal n max_dimen w k)
      (kept-if (n + 4) (Output.is_crowded p room) (Output.leave_column w) (Output.with_goal room w) (kept-leave n w k) (kept-goal n room w k))
