-- The parts of an ordinary page, and of a page of two columns, one after another.
use Rattle.std.proofs.Common.{◌≡◌, subst, false}
use Rattle.tb_pool.specs.Lists.{Lists}
use Rattle.tb_node.specs.declared.Node.{Node}
use Rattle.tb_param.specs.declared.Params.{Params}
use Rattle.tb_column.specs.Column.{PlainColumn}
use Rattle.tb_output.specs.declared.RunFault.{RunFault}
use Rattle.tb_output.specs.State.{Work}
use Rattle.tb_output.specs.Columns
use Rattle.tb_output.specs.Pages
use Rattle.tb_output.specs.Machine.{MachineView}
use Rattle.tb_output.specs.FiringWork.{shows, IsCutShort, Does, Continues}
use Rattle.tb_output.proofs.StepLaws.WorkSteps.{continues-then, continues-all_float_columns, continues-fill_column, continues-fill_double}
use Rattle.tb_output.proofs.FiringWork.WorkingLemmas.{Fact, cut-on, cut-then}
use Rattle.tb_output.proofs.ColumnPages.PairLemmas.{pair_shipped}

-- columns of floats, and the floats of the next column
abbrev pub column_rest : Params → Work → Work
column_rest p w = Columns.fill_column p (Columns.all_float_columns p false w)

continues-column_rest : (p : Params) (w : Work) → Continues w (column_rest p w)
continues-column_rest p w = continues-then (continues-all_float_columns p false w) (continues-fill_column p (Columns.all_float_columns p false w))

module _ (from : Fact) (p : Params) (f : Work → Work) (one two three : MachineView) (s t : Lists Node) where
  -- a text column, columns of floats, and the next one is filled
  pub column-all : one.params ≡ p → two.params ≡ p → Does from (shows one s) f → Does (shows one s) (shows two t) (Columns.all_float_columns one.params false) → Does (shows two t) (shows three t) (Columns.fill_column two.params) → Does from (shows three t) (λ w. column_rest p (f w))
  column-all a b first second third before w h =
      let x = first before w h in
      let y = subst (λ q. Does (shows one s) (shows two t) (Columns.all_float_columns q false)) a second before (f w) x in
      subst (λ q. Does (shows two t) (shows three t) (Columns.fill_column q)) b third before (Columns.all_float_columns p false (f w)) y

  pub column-cut : (e : RunFault) → one.params ≡ p → Does from (shows one s) f → Does (shows one s) (IsCutShort e two t) (Columns.all_float_columns one.params false) → Does from (IsCutShort e two t) (λ w. column_rest p (f w))
  column-cut e a first second before w h =
      let y = subst (λ q. Does (shows one s) (IsCutShort e two t) (Columns.all_float_columns q false)) a second before (f w) (first before w h) in
      cut-on e before two t (Columns.all_float_columns p false (f w)) (column_rest p (f w)) y (continues-fill_column p (Columns.all_float_columns p false (f w)))

  pub text-cut : (e : RunFault) → Does from (IsCutShort e one s) f → Does from (IsCutShort e one s) (λ w. column_rest p (f w))
  text-cut e first = cut-then from e one s f (column_rest p) first (continues-column_rest p)

module _ (m one two three : MachineView) (store s t : Lists Node) (c : PlainColumn) where
  -- a pair is shipped, pages of wide floats, and the next columns are filled
  pub pair-all : one.params ≡ m.params → two.params ≡ m.params → Does (shows m store) (shows one s) (pair_shipped m c) → Does (shows one s) (shows two t) (Pages.all_wide_pages one.params false) → Does (shows two t) (shows three t) (Pages.fill_double two.params) → Does (shows m store) (shows three t) (Pages.ship_pair m.params c)
  pair-all a b first second third before w h =
      let x = first before w h in
      let y = subst (λ q. Does (shows one s) (shows two t) (Pages.all_wide_pages q false)) a second before (pair_shipped m c w) x in
      subst (λ q. Does (shows two t) (shows three t) (Pages.fill_double q)) b third before (Pages.all_wide_pages m.params false (pair_shipped m c w)) y

  pub pair-cut : (e : RunFault) → one.params ≡ m.params → Does (shows m store) (shows one s) (pair_shipped m c) → Does (shows one s) (IsCutShort e two t) (Pages.all_wide_pages one.params false) → Does (shows m store) (IsCutShort e two t) (Pages.ship_pair m.params c)
  pair-cut e a first second before w h =
      let y = subst (λ q. Does (shows one s) (IsCutShort e two t) (Pages.all_wide_pages q false)) a second before (pair_shipped m c w) (first before w h) in
      cut-on e before two t (Pages.all_wide_pages m.params false (pair_shipped m c w)) (Pages.ship_pair m.params c w) y (continues-fill_double m.params (Pages.all_wide_pages m.params false (pair_shipped m c w)))
