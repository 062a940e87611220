-- What the output routine does at a firing (ltoutput.dtx, \output and \@specialoutput; TeX: The Program §1012).
use Rattle.std.specs.Prelude.{ℤ, pos, ◌+◌, ◌+ℤ◌, ◌-ℤ◌, Bool, true, false, not, ◌&&◌, List, [], ◌∷◌, ◌++◌, int_le, int_lt, int_div, if◌then◌else◌}
use Rattle.tb_scaled.specs.Scaled.{is_zero, eject_penalty, max_dimen}
use Rattle.tb_node.specs.PlainNodes.{PlainNode, pen, made, blank_box}
use Rattle.tb_param.specs.declared.Params.{Params}
use Rattle.tb_builder.specs.FiredPages.{Fired}
use Rattle.tb_float.specs.Rooms.{column_room_of}
use Rattle.tb_sheet.specs.declared.Warn.TheVariants as warnings
use Rattle.tb_sheet.specs.Sheet.{warned}
use Rattle.tb_sheet.specs.Asked.{clear_penalty, par_penalty, vert_penalty, hold_penalty}
use Rattle.tb_output.specs.State.{State, Work, begun, puts, sends}
use Rattle.tb_output.specs.Columns.{ordinary}
use Rattle.tb_output.specs.Text.{float_or_note}
use Rattle.tb_output.specs.Clear.{clear}

-- two numbers are the same
abbrev pub is_int : ℤ → ℤ → Bool
is_int a b = is_zero (a -ℤ b)

-- the page is held
abbrev pub hold : List PlainNode → Work → Work
hold body w = record w { state = record w.state { held_page = body } }

-- by the penalty of the break: an ordinary page, a clear, a float or note in the text, or a page that is held
abbrev pub output_by : Params → Fired → Work → Work
output_by p f w =
    if int_le eject_penalty f.penalty then ordinary p f.body w
    else (if is_int f.penalty clear_penalty then clear p f.body w
    else (if is_int f.penalty par_penalty then float_or_note p false f.body w
    else (if is_int f.penalty vert_penalty then float_or_note p true f.body w
    else hold f.body w)))

-- ---- the goal of the next page

-- the next page has this goal
abbrev pub with_goal : ℤ → Work → Work
with_goal g w = record w { state = record w.state { goal = g } }

-- a blank box, and the end of its page
abbrev pub blank_column : List PlainNode
blank_column = made blank_box ∷ made (pen eject_penalty) ∷ []

-- the room of the column is less than a line and a half (1.5 `baselineskip`) and less than `textheight`
abbrev pub is_crowded : Params → ℤ → Bool
is_crowded p room = int_lt room (p.baselineskip +ℤ int_div p.baselineskip (pos 2)) && int_lt room p.textheight

-- the column is left blank; if it is a second one, so is the one after it
abbrev pub leave_column : Work → Work
leave_column w =
    puts (if w.state.two_columns && not w.state.first_column then blank_column ++ blank_column else blank_column) (sends (warned (warnings.Floats w.state.number)) w)

-- the goal is the room of the column, unless that is too little; then the column stays blank, and the goal as it was
abbrev pub goal_by : Params → ℤ → Work → Work
goal_by p room w = if is_crowded p room then leave_column w else with_goal room w

-- the goal after a firing of this penalty: the greatest after a held page, else by the room of the column
abbrev pub next_goal : Params → ℤ → Work → Work
next_goal p n w = if is_int n hold_penalty then with_goal max_dimen w else goal_by p (column_room_of p w.state.floats) w

-- ---- the firing

-- the state in which a firing begins
abbrev pub after_page : State → Fired → State
after_page s f = record s { boxes = f.boxes; waiting = []; dead_cycles = s.dead_cycles + 1; shrink = f.shrink }

-- the nodes that wait after it; no page is served any more
abbrev pub waiting_again : Fired → Work → Work
waiting_again f w = record w { state = record w.state { waiting = f.held ++ w.put_back ++ f.rest; shrink = pos 0 } }

-- the firing of a page
unfoldable pub out : Params → State → Fired → Work
out p s f = waiting_again f (next_goal p f.penalty (output_by p f (begun (after_page s f))))
