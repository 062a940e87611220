-- The firing of a page leaves a state that can be served again, and holds not many more nodes.
use Rattle.std.proofs.Common.{◌≡◌, refl, sym, subst, ap, ℕ, zero, suc, pos, ◌+◌, ◌-◌, ◌≤◌, true, false, List, [], ◌∷◌, ◌++◌, length, take, arith}
use Rattle.std.specs.Prelude.{All, int_le}
use Rattle.std.specs.List.{AllByRecursion}
use Rattle.std.proofs.lemmas.List.{length-append}
use Rattle.std.proofs.lemmas.List.Elements.{All-append, All-from_recursion, recursion_from_All}
use Rattle.tb_break.proofs.EachLemmas.{all-join, all-take, all-map}
use Rattle.tb_scaled.specs.Scaled.{eject_penalty}
use Rattle.tb_node.specs.Fit.{IsSizedPlain}
use Rattle.tb_node.specs.PlainNodes.{PlainNode}
use Rattle.tb_param.specs.declared.Params.{Params}
use Rattle.tb_builder.specs.FiredPages.{Fired}
use Rattle.tb_builder.specs.Contents.{node_count, box_count}
use Rattle.tb_builder.specs.SizedContents.{fired_count}
use Rattle.tb_builder.specs.Pageable.{IsSizedOnPage, IsSizedBox}
use Rattle.tb_builder.proofs.Ranges.PageableLemmas.{count-append, length_counted}
use Rattle.tb_float.specs.Ranges.{IsWithin}
use Rattle.tb_output.specs.State.{State, Work, begun}
use Rattle.tb_output.specs.Columns.{ordinary}
use Rattle.tb_output.specs.Clear.{clear}
use Rattle.tb_output.specs.Text.{without_firing_box, float_or_note}
use Rattle.tb_sheet.specs.Asked.{clear_penalty, par_penalty, vert_penalty}
use Rattle.tb_output.specs.Output.{is_int, hold, output_by, next_goal, after_page, out}
use Rattle.tb_items.specs.GalleyNodes.{IsGalleyNode}
use Rattle.tb_steps.specs.Run.{held_count}
use Rattle.tb_steps.specs.Runnable.{AreRunnable, AreRunClasses}
use Rattle.tb_run.specs.ServedStates.{notes_waiting, notes_taken, IsServed, IsServedPage}
use Rattle.tb_run.proofs.ServedAgain.FiredNodes.{notes-append}
use Rattle.tb_run.proofs.ServedAgain.BackNodes.{back-nodes, back-notes, classes-few}
use Rattle.tb_run.proofs.ServedAgain.ServedFirings.{reach_where, Kept, kept-more, kept-if, kept-ordinary, kept-clear, kept-hold, kept-next_goal}
use Rattle.tb_run.proofs.ServedAgain.ServedTexts.{kept-text_firing}

-- ---- how many nodes there are

take-length : (k : ℕ) (ns : List PlainNode) → length (take k ns) ≤ length ns
take-length zero ns = omega arith
take-length (suc k) [] = omega arith
take-length (suc k) (n ∷ ns) = let h = take-length k ns in omega (arith, h)

-- ---- the work of a firing

module _ (p : Params) (s : State) (f : Fired) (runs : AreRunnable p) (classes : AreRunClasses s.classes) (h : IsServedPage s f) (held_sized : AllByRecursion IsSizedPlain s.held_page) (fits : node_count f.body + node_count s.held_page ≤ 4194305) where
  abbrev left : ℕ
  left = notes_waiting (f.held ++ f.rest)

  abbrev least : ℕ
  least = node_count s.held_page + box_count f.boxes

  abbrev w0 : Work
  w0 = begun (after_page s f)

  kept-begun : Kept s.classes left least w0
  kept-begun = record {
    back = tt;
    held = h.held;
    boxes = recursion_from_All IsSizedBox f.boxes h.boxes;
    classes = refl;
    entries = h.entries;
    notes = h.notes;
    bottom = h.bottom;
    few = omega arith;
  }

  abbrev most : ℕ
  most = least + node_count f.body + length s.classes + 11

  body-sized : AllByRecursion IsSizedPlain f.body
  body-sized = all-map IsSizedOnPage IsSizedPlain (λ n k. k.shape) f.body (recursion_from_All IsSizedOnPage f.body h.body)

  text-sized : AllByRecursion IsSizedPlain (s.held_page ++ without_firing_box f.body)
  text-sized = all-join IsSizedPlain s.held_page (without_firing_box f.body) held_sized (all-take IsSizedPlain _ f.body body-sized)

  text-long : length (s.held_page ++ without_firing_box f.body) ≤ 4194305
  text-long =
      let a = length-append s.held_page (without_firing_box f.body) in
      let b = take-length (length f.body - 2) f.body in
      let c = length_counted f.body in
      let d = length_counted s.held_page in
      omega (arith, a, b, c, d, fits)

  kept-output : Kept s.classes left most (output_by p f w0)
  kept-output =
      let cs = s.classes in
      kept-if cs left most (int_le eject_penalty f.penalty) (ordinary p f.body w0) _ (kept-more cs left least most (ordinary p f.body w0) (omega arith) (kept-ordinary cs left least p f.body w0 kept-begun))
      (kept-if cs left most (is_int f.penalty clear_penalty) (clear p f.body w0) _ (kept-more cs left (least + node_count f.body + 11) most (clear p f.body w0) (omega arith) (kept-clear cs left least p f.body w0 h.text kept-begun))
      (kept-if cs left most (is_int f.penalty par_penalty) (float_or_note p false f.body w0) _
      (kept-more cs left (least + node_count f.body + length cs + 8) most (float_or_note p false f.body w0) (omega arith) (kept-text_firing cs left p runs least false f.body w0 h.text classes.fit h.boxes_of text-sized text-long kept-begun))
      (kept-if cs left most (is_int f.penalty vert_penalty) (float_or_note p true f.body w0) (hold f.body w0)
      (kept-more cs left (least + node_count f.body + length cs + 8) most (float_or_note p true f.body w0) (omega arith) (kept-text_firing cs left p runs least true f.body w0 h.text classes.fit h.boxes_of text-sized text-long kept-begun))
      (kept-more cs left (least + node_count f.body) most (hold f.body w0) (omega arith) (kept-hold cs left least f.body w0 h.text kept-begun)))))

  abbrev w1 : Work
  w1 = next_goal p f.penalty (output_by p f w0)

  kept-work : Kept s.classes left (most + 4) w1
  kept-work = kept-next_goal s.classes left most p f.penalty (output_by p f w0) kept-output

  waits : (out p s f).state.waiting ≡ f.held ++ w1.put_back ++ f.rest
  unfolding out
  waits = refl

  state-is : (out p s f).state ≡ record w1.state { waiting = f.held ++ w1.put_back ++ f.rest; shrink = pos 0 }
  unfolding out
  state-is = refl

  back-is : (out p s f).put_back ≡ w1.put_back
  unfolding out
  back-is = refl

  -- not many more nodes are held
  pub out-count : held_count (out p s f).state ≤ fired_count f + node_count s.held_page + 271
  out-count =
      let e = ap held_count state-is in
      let a = count-append (f.held ++ w1.put_back) f.rest in
      let b = count-append f.held w1.put_back in
      let few = kept-work.few in
      let c = classes-few s.classes classes.rising classes.fit in
      omega (arith, e, a, b, few, c)

  -- the state can be served again, if what goes back is sized
  pub out-served : AllByRecursion IsSizedPlain (out p s f).put_back → IsServed (out p s f).state.waiting (out p s f).state
  out-served sized =
      let nodes = back-nodes s.classes w1.put_back kept-work.back (subst (AllByRecursion IsSizedPlain) back-is sized) in
      let notes : notes_waiting (f.held ++ w1.put_back ++ f.rest) ≡ left =
      (let a = notes-append (f.held ++ w1.put_back) f.rest in let b = notes-append f.held w1.put_back in let c = back-notes s.classes w1.put_back kept-work.back in let d = notes-append f.held f.rest in omega (arith, a, b, c, d)) in
      subst (λ (t : State). IsServed t.waiting t) (sym state-is) (record {
        nodes = subst (λ cs. All (IsGalleyNode cs) (f.held ++ w1.put_back ++ f.rest)) (sym kept-work.classes)
            (All-append (IsGalleyNode s.classes) (f.held ++ w1.put_back) f.rest (All-append (IsGalleyNode s.classes) f.held w1.put_back h.back (All-from_recursion (IsGalleyNode s.classes) w1.put_back nodes)) h.rest);
        held = kept-work.held;
        boxes = All-from_recursion IsSizedBox w1.state.boxes kept-work.boxes;
        entries = kept-work.entries;
        notes = let a = kept-work.notes in omega (arith, a, notes);
        bottom = subst (λ k. IsWithin (reach_where (k + notes_taken w1.state.floats.current)) w1.state.note_bottom) (sym notes) kept-work.bottom;
      })
