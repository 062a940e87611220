-- Shipping pages and putting out columns (ltoutput.dtx, \@outputpage, \@opcol, \@outputdblcol and \@combinedblfloats).
use Rattle.std.specs.Prelude.{ℕ, zero, suc, pos, ◌+◌, Bool, true, false, not, List, [], length, Option, Some, None, int_lt, if◌then◌else◌}
use Rattle.tb_scaled.specs.Scaled.{fraction_of}
use Rattle.tb_node.specs.declared.Float.{Float}
use Rattle.tb_param.specs.declared.Params.{Params}
use Rattle.tb_float.specs.Lists.{wide_part, wide_waiting, with_wide_waiting}
use Rattle.tb_fpage.specs.declared.Wanted.{Wanted}
use Rattle.tb_fpage.specs.Company.{Choice, company, chosen_floats, left_floats}
use Rattle.tb_column.specs.Column.{PlainColumn, wide_floats_column}
use Rattle.tb_sheet.specs.Sheet.{PlainSheet, one, wide, shipped, pair_sheet}
use Rattle.tb_output.specs.State.{Work, unless_refused, sends, records_also, output, no_suppress, with_floats}
use Rattle.tb_output.specs.FloatMoves.{place_double}

-- a page is shipped, below the page limit
abbrev pub ship_now : PlainSheet → Work → Work
ship_now sheet w =
    sends (shipped w.state.number sheet) (record w { state = record w.state { page = w.state.page + 1; number = w.state.number + 1; dead_cycles = 0 } })

-- a page is shipped, or the page limit is met
abbrev pub ship : Params → PlainSheet → Work → Work
ship p sheet w = unless_refused (if int_lt p.maxpages (pos w.state.page) then record w { refused = true } else ship_now sheet w) w

-- what a page of wide floats is made for: `textheight`, the share `dblfloatpagefraction`, and `dblfpsep`
abbrev pub wide_wanted : Params → Bool → Wanted
wide_wanted p clearing = record {
  height = p.textheight;
  minimum = fraction_of p.dblfloatpagefraction p.textheight;
  sep = p.dblfpsep.width;
  clearing = clearing;
  wide = true;
}

-- these floats are deferred
abbrev pub with_deferred : List Float → Work → Work
with_deferred fs w = with_floats (record w.state.floats { deferred = fs }) w

-- the company of wide floats ships as a page, and the others wait
abbrev pub ship_wide : Params → List Choice → Work → Work
ship_wide p cs w =
    ship p (wide (wide_floats_column p p.textheight (chosen_floats cs))) (with_floats (with_wide_waiting p (left_floats cs) w.state.floats) w)

-- a wide page by its company, if there is one
abbrev pub wide_pages_by : (Work → Work) → Params → Work → Option (List Choice) → Work
wide_pages_by again p w None = w
wide_pages_by again p w (Some cs) = again (ship_wide p cs w)

-- wide pages are shipped while there is a company; each takes a float, so there are no more than floats
abbrev pub wide_pages : Params → Bool → ℕ → Work → Work
wide_pages p clearing zero w = w
wide_pages p clearing (suc n) w = wide_pages_by (λ w'. wide_pages p clearing n w') p w (company (wide_wanted p clearing) (wide_waiting p w.state.floats))

-- wide pages while there is a company
abbrev pub all_wide_pages : Params → Bool → Work → Work
all_wide_pages p clearing w = wide_pages p clearing (length (wide_waiting p w.state.floats)) w

-- after every column: marginal notes reach down to 0, and no area is suppressed
abbrev pub after_column : Work → Work
after_column w = record w { state = record w.state { note_bottom = pos 0; suppress = no_suppress } }

-- the first of two columns waits for the second
abbrev pub keep_left : PlainColumn → Work → Work
keep_left c w = record w { state = record w.state { left_column = Some c; first_column = false } }

-- the left column, if one is kept
abbrev pub left_or : PlainColumn → Option PlainColumn → PlainColumn
left_or c None = c
left_or c (Some left) = left

-- the floats above the columns are gone, and the next column is the first
abbrev pub without_double : Work → Work
without_double w = record w { state = record w.state { floats = record w.state.floats { double = [] }; left_column = None; first_column = true } }

-- the wide floats that wait go to the top of the next two columns
abbrev pub fill_double : Params → Work → Work
fill_double p w = place_double (wide_part p) p [] (wide_waiting p w.state.floats) w

-- the page of two columns ships, then wide pages, and the space above the next two columns is filled (LaTeX, \@outputdblcol)
abbrev pub ship_pair : Params → PlainColumn → Work → Work
ship_pair p c w =
    fill_double p (all_wide_pages p false (without_double (ship p (pair_sheet p w.state.floats (left_or c w.state.left_column) c) w)))

-- in one column the column ships as a page; of two, the first is kept, and the second ships with it
abbrev pub put_out_by : Params → PlainColumn → Work → Work
put_out_by p c w =
    if not w.state.two_columns then ship p (one c) w
    else (if w.state.first_column then keep_left c w else ship_pair p c w)

-- a column is put out, and the column after it begins (ltoutput.dtx, \@opcol)
abbrev pub put_out : Params → PlainColumn → Work → Work
put_out p c w = after_column (put_out_by p c (records_also (output c) w))
