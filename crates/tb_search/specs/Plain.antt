-- Plain pages of a state of the search, and states that are kept against those after them.
use Rattle.std.specs.List.{AllByRecursion}
use Rattle.std.specs.Prelude.{◌≡◌, ◌<◌, ◌≤◌, ◌+◌, ◌≤ℤ◌, Bool, true, ℕ, ℤ, pos, ◌+ℤ◌, ◌-ℤ◌, List, ◌∷◌, length, get_or, slice_index_or}
use Rattle.std.specs.declared.alloc.Global.{Global}
use Rattle.std.specs.declared.vec.Vec.{Vec}
use Rattle.tb_galley.specs.declared.Galley.{Galley}
use Rattle.tb_output.specs.State.{State, Recorded}
use Rattle.tb_items.specs.RunEvents.{RunEvent}
use Rattle.tb_steps.specs.Run.{goes_on}
use Rattle.tb_best.specs.PlanDemerits.{unlimited_step}
use Rattle.tb_best.specs.ItemsAhead.{forced, state_with}
use Rattle.tb_search.specs.PlainStarts.{last_taken, IsPlainStart}
use Rattle.tb_best.specs.PlainPages.{all_plain, IsBare}
use Rattle.tb_search.specs.declared.branch.Branch.{Branch}
use Rattle.tb_search.specs.declared.table.Way.{Way}
use Rattle.tb_search.specs.declared.table.Start.{Start}
use Rattle.tb_search.specs.declared.table.Table.{Table}
use Rattle.tb_search.specs.Branches.{shown, IsBranch}
use Rattle.tb_search.specs.declared.prices.Priced.{Priced}
use Rattle.tb_search.specs.Prices.{IsPriceAbove}

-- the page of the state is plain so far
pub record IsPlainPage (s : State) : Type 0 where
  pub bare : IsBare s
  pub plain : all_plain s.waiting ≡ true

-- the second state is on the next page or one before it, on the next if notes may change sides, and is the same otherwise, as far as no page of it looks at what waits and what is in boxes
pub record LeadsTo (alternate : Bool) (s t : State) : Type 0 where
  pub page : t.page ≤ s.page + 1
  pub number : alternate ≡ true → t.number ≡ s.number + 1
  pub params : t.params ≡ s.params
  pub first_column : t.first_column ≡ s.first_column

-- each of these prices on a line is above this
abbrev pub CostsAbove : ℕ → ℤ → List Priced → Type 0
CostsAbove line most ps = AllByRecursion (IsPriceAbove line most) ps

-- a way with demerits within the range
pub record IsLowWay (w : Way) : Type 0 where
  pub low : pos 0 ≤ℤ w.demerits
  pub high : w.demerits ≤ℤ pos 1000000000000000000000000000

-- a state whose way is so
pub record IsLowStart (x : Start) : Type 0 where
  pub branch : IsBranch x.branch
  pub way : IsLowWay x.way

-- a state that is known to come after a plain page is on the next page of another or before, and its way has fewer demerits than the one that goes on from that by a break on this line
pub record Beats (alternate : Bool) (x : Start) (b : Branch) (w : Way) (line : ℕ) (ps : List Priced) : Type 0 where
  pub plain : x.branch.plain ≡ true
  pub leads : LeadsTo alternate (shown b) (shown x.branch)
  pub costs : CostsAbove line (x.way.demerits -ℤ (w.demerits +ℤ pos 1000)) ps

-- one of the states is so
pub record BeatsAt (alternate : Bool) (starts : List Start) (k : ℕ) (b : Branch) (w : Way) (line : ℕ) (ps : List Priced) : Type 0 where
  pub inside : k < length starts
  pub beats : (d : Start) → Beats alternate (slice_index_or starts k d) b w line ps

-- one of the states of a table with so many items ahead is so
pub record IsBeaten (t : Table) (behind : ℕ) (b : Branch) (w : Way) (line : ℕ) (ps : List Priced) : Type 0 where
  pub level : Vec Start Global
  pub here : level ≡ get_or t.starts.items behind level
  pub place : ℕ
  pub beats : BeatsAt t.may_alternate level.items place b w line ps

-- with a break before the next item, behind which so many are ahead, the page of this state leaves the state after a plain page
abbrev pub LeavesPlain : Galley → ℕ → State → Type 0
LeavesPlain g left s = (es : List RunEvent) (rs : List Recorded) (u : State) → unlimited_step (state_with (forced (last_taken g left) ∷ (last_taken g left).nodes) s) ≡ goes_on es rs u → IsPlainStart g left u
