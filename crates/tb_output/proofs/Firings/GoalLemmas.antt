-- The goal of the next page, and a column that stays blank.
use Rattle.std.proofs.Common.{◌≡◌, refl, sym, ◌∙◌, ap, ℕ, ℤ, pos, Bool, true, false, List, [], ◌++◌, map, arith}
use Rattle.std.specs.Prelude.{not, ◌&&◌, ◌-ℤ◌, negsuc, if◌then◌else◌}
use Rattle.std.proofs.lemmas.Bool.Decides.{nat_tests}
use Rattle.std.proofs.lemmas.Int.{ints}
use Rattle.std.proofs.lemmas.List.Elements.{All-from_recursion}
use Rattle.tb_builder.specs.Pageable.{IsGoal}
use Rattle.tb_pool.specs.Lists.{Lists, list_at}
use Rattle.tb_node.specs.declared.Node.{Node}
use Rattle.tb_node.specs.PlainNodes.{plain_of}
use Rattle.tb_node.specs.Fit.{IsSizedNode}
use Rattle.tb_sheet.specs.declared.Warn.TheVariants as warnings
use Rattle.tb_sheet.specs.declared.Sent.TheVariants as events
use Rattle.tb_sheet.specs.Sheet.{PlainSent}
use Rattle.tb_scaled.specs.Scaled.{is_zero, max_dimen}
use Rattle.tb_param.specs.declared.Params.{Params}
use Rattle.tb_float.specs.Rooms.{column_room_of}
use Rattle.tb_output.specs.State.{State, Work}
use Rattle.tb_sheet.specs.Asked.{hold_penalty}
use Rattle.tb_output.specs.Output.{is_int, blank_column, is_crowded, leave_column, with_goal, goal_by, next_goal}
use Rattle.tb_output.specs.BackList.{blank_list}
use Rattle.tb_output.specs.Machine.{MachineView, IsMachine}
use Rattle.tb_output.specs.PageChanges.{with_warning}
use Rattle.tb_output.specs.FiringWork.{ShowsWork, ShowsBack, shows_back, Does}
use Rattle.tb_output.specs.MachineFrame.{HasGrown, IsBack, KeepsBack}
use Rattle.tb_output.proofs.FiringWork.KeepLemmas.{MayGoBack, grown-machine, grown-shows, grown-keeps, keeps-back_then, keeps-back_alone}
use Rattle.tb_sheet.proofs.ListsApart.{apart-none}
use Rattle.tb_output.proofs.Acts.WarnLemmas.{shown-joined, warned-back}
use Rattle.tb_output.proofs.FiringWork.BesideLemmas.{machine-beside}
use Rattle.tb_output.proofs.FiringWork.WorkingLemmas.{does-shown_with}

-- ---- a column that stays blank

-- what goes back then
abbrev pub blanks : Bool → List Node
blanks both = if both then blank_list ++ blank_list else blank_list

pub blanks-back : (both : Bool) → MayGoBack (blanks both)
blanks-back true = record {
  leaves = (tt, (tt, (tt, (tt, tt))));
  sized = All-from_recursion IsSizedNode (blank_list ++ blank_list) (
    (record { low = omega (arith, ints); high = omega (arith, ints) }, record { low = omega (arith, ints); high = omega (arith, ints) }),
    (
      record { low = omega (arith, ints); high = omega (arith, ints) },
      (
        (record { low = omega (arith, ints); high = omega (arith, ints) }, record { low = omega (arith, ints); high = omega (arith, ints) }),
        (record { low = omega (arith, ints); high = omega (arith, ints) }, tt),
      ),
    ),
  );
}
blanks-back false = record {
  leaves = (tt, (tt, tt));
  sized = All-from_recursion IsSizedNode blank_list (
    (record { low = omega (arith, ints); high = omega (arith, ints) }, record { low = omega (arith, ints); high = omega (arith, ints) }),
    (record { low = omega (arith, ints); high = omega (arith, ints) }, tt),
  );
}

blanks-shown : (store : Lists Node) (both : Bool) → map (plain_of (list_at store)) (blanks both) ≡ (if both then blank_column ++ blank_column else blank_column)
blanks-shown store true = refl
blanks-shown store false = refl

module _ (l : ℕ) (m : MachineView) (store new : Lists Node) (is : IsMachine m store) (back : IsBack l m store) (both : Bool) (second : both ≡ (m.two_columns && not m.first_column)) (grown : HasGrown l (blanks both) [] store new) where
  blanked : KeepsBack l [] m m store new
  blanked = grown-keeps l (blanks both) [] m store new is back grown (apart-none _) (blanks-back both)

  -- the machine that warned
  pub left-keeps : KeepsBack l [] m (with_warning (warnings.Floats m.number) m) store new
  left-keeps = keeps-back_then l [] [] m m (with_warning (warnings.Floats m.number) m) store new new blanked (warned-back (warnings.Floats m.number) m l new blanked.machine blanked.back) (λ q live none. tt)

  pub left-done : Does (shows_back l m store) (shows_back l (with_warning (warnings.Floats m.number) m) new) leave_column
  left-done before w h = does-shown_with (ShowsBack l store) (shows_back l (with_warning (warnings.Floats m.number) m) new) m store leave_column
      (λ b v sent at. (
        record {
          served = refl;
          sent = shown-joined new m.events (events.Warn (warnings.Floats m.number)) b v.sent ((grown-machine l (blanks both) [] m store new is back grown (apart-none _)).events ∙ sent);
          state = (grown-machine l (blanks both) [] m store new is back grown (apart-none _)).state v.state.boxes v.state.waiting;
        },
        grown-shows l (blanks both) [] m store new is back grown (apart-none _) (blanks-back both).leaves
            ∙ (λ i. at i ++ blanks-shown store both i)
            ∙ ap (λ t. v.put_back ++ (if t then blank_column ++ blank_column else blank_column)) second,
      ))
      before w h.0 h.1

-- ---- the goal

module _ (l : ℕ) (m : MachineView) (store : Lists Node) (is : IsMachine m store) (back : IsBack l m store) (g : ℤ) (small : IsGoal g) where
  pub goal-keeps : KeepsBack l [] m (record m { goal = g }) store store
  goal-keeps = keeps-back_alone l m (record m { goal = g }) store
      (machine-beside m store is g small m.dead_cycles m.note_bottom m.fault)
      (record { params = refl; classes = refl; fault = refl }) refl back

  pub goal-done : Does (shows_back l m store) (shows_back l (record m { goal = g }) store) (with_goal g)
  goal-done before w h = does-shown_with (ShowsBack l store) (shows_back l (record m { goal = g }) store) m store (with_goal g)
      (λ b v sent at. (record { served = refl; sent = sent; state = refl }, at)) before w h.0 h.1

-- ---- by the penalty

pub zero-is : (z : ℤ) → is_zero z ≡ true → z ≡ pos 0
zero-is (pos n) e = let zero : n ≡ 0 = grind (arith, nat_tests, e) in ap pos zero
zero-is (negsuc n) e = cc

pub int-same : (a b : ℤ) → is_int a b ≡ true → a ≡ b
int-same a b e = let zero = zero-is (a -ℤ b) e in omega (arith, ints)

pub int-is : (a b : ℤ) → a ≡ b → is_int a b ≡ true
int-is a b e = let zero : a -ℤ b ≡ pos 0 = omega (arith, ints) in ap is_zero zero

-- after a page that is held
pub goal-held : (p : Params) (n : ℤ) (w : Work) → is_int n hold_penalty ≡ true → with_goal max_dimen w ≡ next_goal p n w
goal-held p n w e = sym (ap (λ t. if t then with_goal max_dimen w else goal_by p (column_room_of p w.state.floats) w) e)

module _ (p : Params) (n : ℤ) (m : MachineView) (store : Lists Node) (differ : is_int n hold_penalty ≡ false) where
  goal-of : (t : Bool) → is_crowded p (column_room_of p m.pool.lists) ≡ t → (before : List PlainSent) (w : Work) → ShowsWork before m store w → (if t then leave_column w else with_goal (column_room_of p m.pool.lists) w) ≡ next_goal p n w
  goal-of t e before w h =
      let floats : w.state.floats ≡ m.pool.lists = sym (ap (λ (s : State). s.floats) h.state) in
      ap (λ u. if u then leave_column w else with_goal (column_room_of p m.pool.lists) w) (sym e)
      ∙ ap (λ l. goal_by p (column_room_of p l) w) (sym floats)
      ∙ sym (ap (λ u. if u then with_goal max_dimen w else goal_by p (column_room_of p w.state.floats) w) differ)

  -- a crowded column, and one with room
  pub goal-crowded : is_crowded p (column_room_of p m.pool.lists) ≡ true → (before : List PlainSent) (w : Work) → ShowsWork before m store w → leave_column w ≡ next_goal p n w
  goal-crowded e = goal-of true e

  pub goal-room : is_crowded p (column_room_of p m.pool.lists) ≡ false → (before : List PlainSent) (w : Work) → ShowsWork before m store w → with_goal (column_room_of p m.pool.lists) w ≡ next_goal p n w
  goal-room e = goal-of false e
