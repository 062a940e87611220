-- Where the next page of the makeup is cut, what fires there, and the cases of a step.
use Rattle.std.proofs.Common.{◌≡◌, refl, ℕ, pos, ◌+◌, Bool, true, false, List, [], ◌∷◌}
use Rattle.std.specs.Prelude.{pred, int_lt, if◌then◌else◌}
use Rattle.tb_param.specs.declared.Params.{Params}
use Rattle.tb_insert.specs.Account.{terms_after}
use Rattle.tb_builder.specs.Reach.{Reach, laid_out}
use Rattle.tb_builder.specs.FiredPages.{Fired, frozen_for, fired_of}
use Rattle.tb_builder.specs.Contents.{node_count}
use Rattle.tb_builder.proofs.Cutting.CutLemmas.{CutAt, reach-cut}
use Rattle.tb_sheet.specs.Sheet.{PlainSent, shipped, one}
use Rattle.tb_plain.specs.Firing.{makeup_column}
use Rattle.tb_plain.specs.Run.{MakeupState, page_limit, node_limit, MakeupStep, ends, goes_on, makeup_ask, makeup_classes, void_boxes, makeup_reach, first_act, meets_act, act_step, waiting_after, firing_step, last_step, makeup_step}

-- the page that fires at a reach
abbrev pub fired_here : Params → Reach → Fired
fired_here p w = fired_of (makeup_ask p) (makeup_classes p) void_boxes w

-- a reach cuts the list that is laid out
pub makeup-cut : (p : Params) (s : MakeupState) → CutAt [] (laid_out p.topskip s.page s.waiting) (makeup_reach p s)
makeup-cut p s = reach-cut p.maxdepth (terms_after (frozen_for (makeup_ask p) (makeup_classes p) void_boxes)) [] (laid_out p.topskip s.page s.waiting)

module _ (P : MakeupStep → Type 0) (p : Params) (n : ℕ) (f : Fired) where
  -- the page that is shipped
  abbrev sent : List PlainSent
  sent = shipped n (one (makeup_column p f)) ∷ []

  -- the state after it
  abbrev next : MakeupState
  next = record { page = []; waiting = waiting_after p f; number = n + 1 }

  -- how many nodes wait then
  abbrev count : ℕ
  count = node_count (waiting_after p f)

  -- a firing ends the run for its pages, or ships a page and ends it for its nodes, or ships a page and goes on
  pub firing-cases : (int_lt p.maxpages (pos n) ≡ true → P (ends [] (page_limit (pred n)))) → (int_lt p.maxpages (pos n) ≡ false → int_lt p.maxnodes (pos count) ≡ true → P (ends sent (node_limit count)))
      → (int_lt p.maxpages (pos n) ≡ false → P (goes_on sent next)) → P (firing_step p n f)
  firing-cases = by_tests (int_lt p.maxpages (pos n)) (int_lt p.maxnodes (pos count))
    where
      by_tests : (t u : Bool) → (t ≡ true → P (ends [] (page_limit (pred n)))) → (t ≡ false → u ≡ true → P (ends sent (node_limit count))) → (t ≡ false → P (goes_on sent next))
          → P (if t then ends [] (page_limit (pred n)) else (if u then ends sent (node_limit count) else goes_on sent next))
      by_tests true u pages nodes goes = pages refl
      by_tests false true pages nodes goes = nodes refl refl
      by_tests false false pages nodes goes = goes refl

module _ (P : MakeupStep → Type 0) (p : Params) (s : MakeupState) where
  -- what the page reaches
  abbrev here : Reach
  here = makeup_reach p s

  -- a step takes an act, or fires a page, or comes to the end of what waits
  pub step-cases : (meets_act here.reached ≡ true → P (act_step p s (first_act s.waiting))) → (meets_act here.reached ≡ false → P (firing_step p s.number (fired_here p here)))
      → (meets_act here.reached ≡ false → here.fires ≡ false → P (last_step s here.passed)) → P (makeup_step p s)
  unfolding makeup_step
  step-cases = by_tests (meets_act here.reached) here.fires
    where
      by_tests : (t u : Bool) → (t ≡ true → P (act_step p s (first_act s.waiting))) → (t ≡ false → P (firing_step p s.number (fired_here p here))) → (t ≡ false → u ≡ false → P (last_step s here.passed))
          → P (if t then act_step p s (first_act s.waiting) else (if u then firing_step p s.number (fired_here p here) else last_step s here.passed))
      by_tests true u acts fires ended = acts refl
      by_tests false true acts fires ended = fires refl
      by_tests false false acts fires ended = ended refl refl
