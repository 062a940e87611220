-- The steps of a column and of a clear keep which floats wait where.
use Rattle.std.proofs.Common.{◌≡◌, sym, ap, subst, List, [], ◌∷◌, ◌++◌}
use Rattle.std.specs.List.{AllByRecursion}
use Rattle.tb_break.proofs.EachLemmas.{all-join}
use Rattle.tb_node.specs.declared.Float.{Float}
use Rattle.tb_node.specs.PlainNodes.{PlainNode}
use Rattle.tb_param.specs.declared.Params.{Params}
use Rattle.tb_float.specs.declared.Part.{Part}
use Rattle.tb_float.specs.declared.Part.TheVariants as parts
use Rattle.tb_float.specs.Lists.{FloatLists, floats_of, wide_part, wide_waiting, with_wide_waiting}
use Rattle.tb_float.proofs.WaitingLemmas.{wide-waits}
use Rattle.tb_fpage.specs.Company.{chosen_floats, left_floats}
use Rattle.tb_fpage.proofs.FirstLemmas.{company-leaves}
use Rattle.tb_area.specs.Area.{where_of}
use Rattle.tb_column.specs.Column.{Notes, standing_notes, wide_floats_column}
use Rattle.tb_sheet.specs.Sheet.{PlainSheet, one, pair_sheet, wide}
use Rattle.tb_output.specs.State.{Work, output, with_floats, footnotes}
use Rattle.tb_output.specs.Pages
use Rattle.tb_output.specs.Columns
use Rattle.tb_output.specs.Clear
use Rattle.tb_output.proofs.StepLaws.Moves.{Hand, ColumnMove, takes_company, records_column, ships_column, ships_pair, ships_wide, places_double, places_next, PageMove, by_column, by_fill, takes_text, gathers, gathers_wide, Moves, moves, holds-on}
use Rattle.tb_output.proofs.StepLaws.FiringTree.{put_out_text-moves, ordinary-moves, clear_floats-moves, clear_by-moves}
use Rattle.tb_output.proofs.StepLaws.FollowLemmas.{records-state}
use Rattle.tb_laws.proofs.DeadCycles.ColumnOutcomes.{area-single, ship-lists}
use Rattle.tb_laws.proofs.DeadCycles.ClearOutcomes.{Single, Wide}
use Rattle.tb_laws.proofs.StepLaws.WideLemmas.{DoubleFits, keeps-double}
use Rattle.tb_laws.proofs.StepLaws.SideLemmas.{Sides, Fitting, joined-sides, doubled-sides, waiting-sides, deferred-sides, gathered-sides, text-sides, undoubled-sides}

-- the list without the float at hand, and that float
without-middle : (P : Float → Type 0) (before : List Float) (f : Float) (rest : List Float) → AllByRecursion P (before ++ f ∷ rest) → AllByRecursion P (before ++ rest)
without-middle P [] f rest h = h.1
without-middle P (g ∷ before) f rest h = (h.0, without-middle P before f rest h.1)

middle : (P : Float → Type 0) (before : List Float) (f : Float) (rest : List Float) → AllByRecursion P (before ++ f ∷ rest) → P f
middle P [] f rest h = h.0
middle P (g ∷ before) f rest h = middle P before f rest h.1

module _ (p : Params) where
  abbrev S : Work → Type 0
  S w = Sides (wide_part p) w.state.floats

  ship-sides : (sheet : PlainSheet) (w : Work) → S w → S (Pages.ship p sheet w)
  ship-sides sheet w h = subst (Sides (wide_part p)) (sym (ship-lists p sheet w).0) h

  -- what all wide floats that wait are, these are, if they are among them
  among-wide : (l : FloatLists) (gs : List Float) → (AllByRecursion Wide (wide_waiting p l) → AllByRecursion Wide gs) → Sides (wide_part p) l → Sides (wide_part p) (with_wide_waiting p gs l)
  among-wide l gs k h = waiting-sides (wide_part p) (wide-waits p) gs l (λ s is. k (subst (AllByRecursion Wide) (sym (ap (λ x. floats_of x l) is)) s)) h

  fits : (from : Part) (l : FloatLists) (before : List Float) (f : Float) (rest : List Float) → l.deferred ≡ before ++ f ∷ rest → Sides from l → Fitting from f
  fits parts.Second l before f rest e h = middle Single before f rest (subst (AllByRecursion Single) e h.0.deferred)
  fits from l before f rest e h = tt

  column-sides : {h : Hand} {a : Work} {i : Hand} {b : Work} → ColumnMove p h a i b → S a → S b
  column-sides (takes_company clearing cs w e) h = deferred-sides (wide_part p) (left_floats cs) w.state.floats (λ s. company-leaves Single (Columns.single_wanted p w.state.floats clearing) w.state.floats.deferred cs e s) h
  column-sides (records_column c w) h = subst (λ s. Sides (wide_part p) s.floats) (sym (records-state (output c) w)) h
  column-sides (ships_column c w t) h = ship-sides (one c) w h
  column-sides (ships_pair c w t f) h = let sheet = pair_sheet p w.state.floats (Pages.left_or c w.state.left_column) c in undoubled-sides (wide_part p) (Pages.ship p sheet w).state.floats (ship-sides sheet w h)
  column-sides (ships_wide clearing cs w e) h =
      ship-sides (wide (wide_floats_column p p.textheight (chosen_floats cs))) (with_floats (with_wide_waiting p (left_floats cs) w.state.floats) w)
      (among-wide w.state.floats (left_floats cs) (λ s. company-leaves Wide (Pages.wide_wanted p clearing) (wide_waiting p w.state.floats) cs e s) h)
  column-sides (places_double f before rest w two e i) h = doubled-sides (wide_part p) f (with_wide_waiting p (before ++ rest) w.state.floats) (among-wide w.state.floats (before ++ rest) (λ s. without-middle Wide before f rest (subst (AllByRecursion Wide) e s)) h)
  column-sides m h = h

  -- the double floats, which wait again at a clear, are wide
  page-sides : {h : Hand} {a : Work} {i : Hand} {b : Work} → PageMove p h a i b → DoubleFits a.state → S a → S b
  page-sides (by_column m) d h = column-sides m h
  page-sides (by_fill (places_next a f before rest w c e i)) d h =
      joined-sides (wide_part p) (where_of a) f (record w.state.floats { deferred = before ++ rest }) (area-single a) (fits (wide_part p) w.state.floats before f rest e h)
      (deferred-sides (wide_part p) (before ++ rest) w.state.floats (λ s. without-middle Single before f rest (subst (AllByRecursion Single) e s)) h)
  page-sides (takes_text body w) d h = text-sides (wide_part p) w.state.floats h
  page-sides (gathers w) d h = gathered-sides (wide_part p) w.state.floats h
  page-sides (gathers_wide w t f) d h =
      waiting-sides (wide_part p) (wide-waits p) (w.state.floats.double ++ wide_waiting p w.state.floats) (record w.state.floats { double = [] })
      (λ s is. all-join Wide w.state.floats.double (wide_waiting p w.state.floats) d.wide (subst (AllByRecursion Wide) (sym (ap (λ x. floats_of x w.state.floats) is)) s)) (undoubled-sides (wide_part p) w.state.floats h)
  page-sides m d h = h

  keeps-sides : {h i : Hand} {a b : Work} → Moves (PageMove p) h a i b → DoubleFits a.state → S a → S b
  keeps-sides {h} {i} {a} {b} x d k = (holds-on (λ h w. DoubleFits w.state × S w) (λ h i a b m y. ((keeps-double p (moves m)).by y.0, page-sides m y.0 y.1)) x (d, k)).1

  pub text_out-sides : (body : List PlainNode) (w : Work) → DoubleFits w.state → S w → S (Columns.put_out_text p body w)
  text_out-sides body w d h = keeps-sides (put_out_text-moves p body w) d h

  pub ordinary-sides : (body : List PlainNode) (w : Work) → DoubleFits w.state → S w → S (Columns.ordinary p body w)
  ordinary-sides body w d h = keeps-sides (ordinary-moves p body w) d h

  pub clear_floats-sides : (body : List PlainNode) (w : Work) → DoubleFits w.state → S w → S (Clear.clear_floats p body w)
  clear_floats-sides body w d h = keeps-sides (clear_floats-moves p body w) d h

  pub clear_by-sides : (body : List PlainNode) (w : Work) (ns : List Notes) → standing_notes (footnotes w.state) ≡ ns → DoubleFits w.state → S w → S (Clear.clear_by p body w ns)
  clear_by-sides body w ns e d h = keeps-sides (clear_by-moves p body w ns e) d h
