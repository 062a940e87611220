-- A run of the page makeup is defined for every galley: its steps are never used up.
use Rattle.std.specs.Prelude.{◌≡◌, ◌<◌, ◌≤◌, ◌<ℤ◌, ◌≤ℤ◌, ℕ, pos, List, length}
use Rattle.tb_param.specs.declared.Params.{Params}
use Rattle.tb_galley.specs.declared.Galley.{Galley}
use Rattle.tb_sheet.specs.Sheet.{PlainSent}
use Rattle.tb_plain.specs.Run.{MakeupState, MakeupEnd, done, page_limit, node_limit, makeup_from, steps_left, makeup_of, sent_of}

-- with more steps than can follow, any two bounds give the same run
abbrev pub StepsAgree : Type 0
StepsAgree = (p : Params) (k m : ℕ) (s : MakeupState) → 1 ≤ s.number → steps_left p s < k → steps_left p s < m → makeup_from p k s ≡ makeup_from p m s

-- a run that shipped these pages ended because it is done, because they are `maxpages` pages, or because more nodes wait than `maxnodes`
abbrev pub HasReason : Params → List PlainSent → MakeupEnd → Type 0
HasReason p es done = Unit {0}
HasReason p es (page_limit n) = (length es ≡ n) × (p.maxpages ≤ℤ pos n)
HasReason p es (node_limit n) = p.maxnodes <ℤ pos n

-- the run of each galley ends for a reason, and so was not cut off
abbrev pub EndsHaveReasons : Type 0
EndsHaveReasons = (g : Galley) → HasReason g.params (sent_of (makeup_of g)) (makeup_of g).end
