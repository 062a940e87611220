-- What the lister keeps from command to command.
use Rattle.std.specs.Prelude.{◌≡◌, ℕ, ◌≤◌, List, [], length, drop}
use Rattle.tb_dvi.specs.declared.lister.Lister.{Lister}
use Rattle.tb_dvi.specs.Machine.{Item, before, run, at_start, listed}
use Rattle.tb_dvi.specs.Listing.{listing}
use Rattle.tb_dvi.specs.Lister.{IsInBounds, state_of}

-- nothing was taken, and the first line is listed
pub record HasBegun (l : Lister) : Type 0 where
  pub state : state_of l ≡ at_start
  pub text : l.out.items ≡ listing []
  pub bounds : IsInBounds 0 l

-- what is listed so far, and that the machine goes on from here
pub record IsReading (bytes : List ℕ) (place : ℕ) (l : Lister) : Type 0 where
  pub items : List Item
  pub goes_on : listed bytes ≡ before items (run 0 place (state_of l) (drop place bytes))
  pub text : l.out.items ≡ listing items
  pub within : place ≤ length bytes
  pub bounds : IsInBounds place l
