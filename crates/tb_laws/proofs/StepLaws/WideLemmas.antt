-- The floats of the double list are wide, and in one column that list stays empty.
use Rattle.std.proofs.Common.{◌≡◌, refl, sym, ◌∙◌, ap, subst, Bool, true, false, List, [], ◌++◌, arith}
use Rattle.std.specs.Prelude.{◌&&◌}
use Rattle.std.specs.List.{AllByRecursion}
use Rattle.tb_break.proofs.EachLemmas.{all-push}
use Rattle.tb_node.specs.declared.Float.{Float}
use Rattle.tb_node.specs.PlainNodes.{PlainNode}
use Rattle.tb_param.specs.declared.Params.{Params}
use Rattle.tb_float.specs.Lists.{with_floats_of, wide_part, wide_waiting, with_wide_waiting}
use Rattle.tb_float.proofs.WaitingLemmas.{wide-waits}
use Rattle.tb_fpage.specs.Company.{chosen_floats, left_floats}
use Rattle.tb_area.specs.Area.{AreaPlace, deferred, where_of}
use Rattle.tb_column.specs.Column.{Notes, standing_notes, wide_floats_column}
use Rattle.tb_sheet.specs.Sheet.{one, wide}
use Rattle.tb_output.specs.State.{State, Work, output, with_floats, footnotes}
use Rattle.tb_output.specs.FloatMoves
use Rattle.tb_output.specs.Columns
use Rattle.tb_output.specs.Clear
use Rattle.tb_output.proofs.StepLaws.FollowLemmas.{records-state}
use Rattle.tb_output.proofs.StepLaws.ColumnSteps.{no_law, place_float-step, stays}
use Rattle.tb_output.proofs.StepLaws.Moves.{Hand, ColumnMove, records_column, ships_column, ships_pair, ships_wide, places_double, IsInColumn, places_next, PageMove, by_column, by_fill, gathers_wide, Moves, goes-on}
use Rattle.tb_output.proofs.StepLaws.FiringTree.{two-stays, put_out_text-moves, ordinary-moves, clear_floats-moves, clear_by-moves}
use Rattle.tb_laws.proofs.Closed.SparedLists.{waiting-double}
use Rattle.tb_laws.proofs.DeadCycles.ColumnOutcomes.{ship-lists}
use Rattle.tb_laws.proofs.DeadCycles.ClearOutcomes.{Wide}

-- the double floats are wide, and in one column there are none
pub record DoubleFits (s : State) : Type 0 where
  pub wide : AllByRecursion Wide s.floats.double
  pub none : s.two_columns ≡ false → s.floats.double ≡ []

-- after the step they are so, if they were before
pub record KeepsDouble (a b : Work) : Type 0 where
  pub by : DoubleFits a.state → DoubleFits b.state
  pub columns : b.state.two_columns ≡ a.state.two_columns

same-double : (a b : Work) → b.state.floats.double ≡ a.state.floats.double → b.state.two_columns ≡ a.state.two_columns → KeepsDouble a b
same-double a b e t = record { by = λ h. record { wide = subst (AllByRecursion Wide) (sym e) h.wide; none = λ k. e ∙ h.none (sym t ∙ k) }; columns = t }

then-double : (a b c : Work) → KeepsDouble a b → KeepsDouble b c → KeepsDouble a c
then-double a b c x y = record { by = λ h. y.by (x.by h); columns = y.columns ∙ x.columns }

no-double : (a b : Work) → b.state.floats.double ≡ [] → b.state.two_columns ≡ a.state.two_columns → KeepsDouble a b
no-double a b e t = record { by = λ h. record { wide = subst (AllByRecursion Wide) (sym e) tt; none = λ k. e }; columns = t }

-- ---- in two columns it is enough that they are wide

abbrev AllWide : Work → Type 0
AllWide w = AllByRecursion Wide w.state.floats.double

two-columns : (a b : Work) → a.state.two_columns ≡ true → b.state.two_columns ≡ a.state.two_columns → (AllWide a → AllWide b) → KeepsDouble a b
two-columns a b t e h = record { by = λ k. record { wide = h k.wide; none = λ f. let no : true ≡ false = sym t ∙ sym e ∙ f in cc }; columns = e }

wide-of : (a b c d e : Bool) → (a && b && c && d && e) ≡ true → b ≡ true
wide-of a b c d e h = grind (arith, h)

-- ---- each move keeps them so

module _ (p : Params) where
  column-double : {h : Hand} {a : Work} {i : Hand} {b : Work} → ColumnMove p h a i b → KeepsDouble a b
  column-double (records_column c w) = let e = records-state (output c) w in same-double w _ (ap (λ s. s.floats.double) e) (ap (λ s. s.two_columns) e)
  column-double (ships_column c w t) = same-double w _ (ap (λ l. l.double) (ship-lists p (one c) w).0) (two-stays {p = p} (ships_column c w t))
  column-double (ships_pair c w t f) = no-double w _ refl (two-stays {p = p} (ships_pair c w t f))
  column-double (ships_wide clearing cs w e) =
      let l = with_wide_waiting p (left_floats cs) w.state.floats in
      same-double w _ (ap (λ m. m.double) (ship-lists p (wide (wide_floats_column p p.textheight (chosen_floats cs))) (with_floats l w)).0 ∙ waiting-double (wide_part p) (wide-waits p) (left_floats cs) w.state.floats) (two-stays {p = p} (ships_wide clearing cs w e))
  column-double (places_double f before rest w t e i) =
      two-columns w _ t (two-stays {p = p} (places_double f before rest w t e i))
      (λ h. all-push Wide (with_floats_of (wide_part p) (before ++ rest) w.state.floats).double f (subst (AllByRecursion Wide) (sym (waiting-double (wide_part p) (wide-waits p) (before ++ rest) w.state.floats)) h) (wide-of f.places.t f.wide _ _ _ i))
  column-double {a = a} {b = b} m = same-double a b refl refl

  next-double : (a : AreaPlace) → IsInColumn (where_of a) → (f : Float) (before rest : List Float) (w : Work) → (FloatMoves.joined_to (where_of a) f (record w.state.floats { deferred = before ++ rest })).double ≡ w.state.floats.double
  next-double deferred c f before rest w = absurd c
  next-double a c f before rest w = refl

  page-double : {h : Hand} {a : Work} {i : Hand} {b : Work} → PageMove p h a i b → KeepsDouble a b
  page-double (by_column m) = column-double m
  page-double (by_fill (places_next a f before rest w c e i)) = same-double w _ (next-double a c f before rest w) (stays (place_float-step p (no_law p) (where_of a) f (record w.state.floats { deferred = before ++ rest }) w tt)).columns
  page-double (gathers_wide w t f) = no-double w _ (waiting-double (wide_part p) (wide-waits p) (w.state.floats.double ++ wide_waiting p w.state.floats) (record w.state.floats { double = [] })) refl
  page-double {a = a} {b = b} m = same-double a b refl refl

  pub keeps-double : {h i : Hand} {a b : Work} → Moves (PageMove p) h a i b → KeepsDouble a b
  keeps-double x = goes-on (λ h a i b. KeepsDouble a b) (λ h w. same-double w w refl refl) (λ h i j a b c x y. then-double a b c x y) (λ h i a b m. page-double m) x

pub ordinary-double : (p : Params) (body : List PlainNode) (w : Work) → KeepsDouble w (Columns.ordinary p body w)
ordinary-double p body w = keeps-double p (ordinary-moves p body w)

pub text_out-double : (p : Params) (body : List PlainNode) (w : Work) → KeepsDouble w (Columns.put_out_text p body w)
text_out-double p body w = keeps-double p (put_out_text-moves p body w)

pub clear_floats-double : (p : Params) (body : List PlainNode) (w : Work) → KeepsDouble w (Clear.clear_floats p body w)
clear_floats-double p body w = keeps-double p (clear_floats-moves p body w)

pub clear_by-double : (p : Params) (body : List PlainNode) (w : Work) (o : List Notes) → standing_notes (footnotes w.state) ≡ o → KeepsDouble w (Clear.clear_by p body w o)
clear_by-double p body w o e = keeps-double p (clear_by-moves p body w o e)
