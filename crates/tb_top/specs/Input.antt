-- What the pieces of an input were joined in.
use Rattle.std.specs.Prelude.{◌≡◌, ℕ, ◌+◌, ◌≤◌, List, length, Option}
use Rattle.std.specs.Io.KnownBytes.{Consumes}
use Rattle.tb_galley.specs.Grammar.{input_limit}
use Rattle.tb_top.specs.Outcome.{Gives, piece_length}

-- the source gave an input, and this holds it
pub record HasRead {T : Type 0} (holds : T → List ℕ → Type 0) (left_before left_after : Option (List ℕ)) (here : T) : Type 0 where
  pub input : List ℕ
  pub read : Gives left_before left_after input
  pub held : holds here input

-- the source gave this many bytes so far, and this holds them
pub record IsRead {T : Type 0} (holds : T → List ℕ → Type 0) (left_before left_after : Option (List ℕ)) (here : T) (taken : ℕ) : Type 0 where
  pub input : List ℕ
  pub given : Consumes left_before left_after input
  pub held : holds here input
  pub count : length input ≡ taken
  pub size : length input ≤ input_limit + piece_length
