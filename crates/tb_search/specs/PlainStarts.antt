-- A state of the search that is known to be the one after a plain page.
use Rattle.std.specs.Prelude.{◌≡◌, true, ℕ, suc, ◌-◌, length, get_or}
use Rattle.tb_galley.specs.declared.Galley.{Galley}
use Rattle.tb_output.specs.State.{State, void_boxes}
use Rattle.tb_output.specs.Columns.{emptied_boxes}
use Rattle.tb_items.specs.Classes.{classes_of}
use Rattle.tb_best.specs.ItemsAhead.{Ahead, last_ahead, all_ahead}
use Rattle.tb_best.specs.PlainPages.{IsBare, after_plain}
use Rattle.tb_search.specs.declared.branch.Branch.{Branch}
use Rattle.tb_search.specs.Branches.{shown}

-- the item that was taken last, where so many are ahead
abbrev pub last_taken : Galley → ℕ → Ahead
last_taken g left = get_or (all_ahead g) (length (all_ahead g) - suc left) (last_ahead g)

-- the state after a plain page of a bare state of the galley that was broken before the item that was taken last
pub record IsPlainStart (g : Galley) (left : ℕ) (s : State) : Type 0 where
  pub from : State
  pub bare : IsBare from
  pub classes : from.classes ≡ classes_of g
  pub boxes : emptied_boxes from.boxes ≡ void_boxes (classes_of g)
  pub is : s ≡ after_plain (last_taken g left) from

-- a state whose flag is set is such a state
abbrev pub PlainIfSet : Galley → ℕ → Branch → Type 0
PlainIfSet g left b = b.plain ≡ true → IsPlainStart g left (shown b)
