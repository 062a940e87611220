-- What stands in a list after a call that appends to it, which may stop on the way.
use Rattle.std.specs.Prelude.{◌≡◌, List, ◌++◌, Result, MatchResult}

-- what was there, and after it a front of what was to be appended
pub record PutsFront {A : Type 0} (before whole after : List A) : Type 0 where
  pub put : List A
  pub left : List A
  pub front : put ++ left ≡ whole
  pub appended : after ≡ before ++ put

-- what was there, and after it the whole; if the call fails, a front of the whole
abbrev pub PutsAfter : {A T E : Type 0} → Result T E → List A → List A → List A → Type 0
PutsAfter result before whole after = MatchResult result (λ _. after ≡ before ++ whole) (λ _. PutsFront before whole after)
