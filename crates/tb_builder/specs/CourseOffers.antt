-- The course of a page after a place was tried (TeX: The Program §1005).
use Rattle.std.specs.Prelude.{◌≡◌, ℕ, ℤ, Bool, true, false, List, [], ◌∷◌, ◌++◌}
use Rattle.tb_node.specs.SmallAmounts.{IsAmount}
use Rattle.tb_node.specs.PlainNodes.{PlainNode}
use Rattle.tb_break.specs.Best.{Breakpoint, least_cost}
use Rattle.tb_insert.specs.Account.{Frozen, terms_after}
use Rattle.tb_insert.specs.AccountEntries.{IsAccountOf}
use Rattle.tb_builder.specs.declared.Course.{Course}
use Rattle.tb_builder.specs.declared.Try.{Try}
use Rattle.tb_builder.specs.Reach.{page_place, try_of}
use Rattle.tb_builder.specs.Courses.{IsCourseOf}

-- the place at the page's end
abbrev pub place_here : Frozen → List PlainNode → ℤ → Breakpoint
place_here z page p = page_place z.limit (terms_after z) page p

-- the place at the page's end was tried: the try, and the course then
pub record OfferIs (z : Frozen) (k : Course) (page : List PlainNode) (bs : List Breakpoint) (t : Try) (line : ℕ) (p : ℤ) : Type 0 where
  pub made : t ≡ try_of line (place_here z page p) (least_cost bs)
  pub course : IsCourseOf z k page (bs ++ place_here z page p ∷ [])

-- the course is of a page whose goal and insert penalties are amounts
pub record TermsFit (k : Course) : Type 0 where
  pub z : Frozen
  pub page : List PlainNode
  pub marked : List PlainNode
  pub account : IsAccountOf k.account z page marked
  pub goal : IsAmount (terms_after z page).goal
  pub penalties : IsAmount (terms_after z page).penalties

-- the course after a place, by whether that is the best so far
pub record MarksBest (z : Frozen) (k l : Course) (page : List PlainNode) (champion : Bool) (goal : ℤ) : Type 0 where
  pub taken : champion ≡ true → (marked : List PlainNode) → IsAccountOf k.account z page marked → IsAccountOf l.account z page page
  pub goal_is : champion ≡ true → l.best_goal ≡ goal
  pub kept : champion ≡ false → l.account ≡ k.account
  pub goal_kept : champion ≡ false → l.best_goal ≡ k.best_goal
