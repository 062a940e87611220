-- The sums of the page so far are those that the course keeps.
use Rattle.std.proofs.Common.{◌≡◌, refl, sym, ◌∙◌, ap, ℤ, pos, ◌+ℤ◌, Bool, true, false, List, [], ◌∷◌, ◌++◌, Option, None, Some}
use Rattle.std.specs.Prelude.{◌-ℤ◌, is_some}
use Rattle.std.proofs.lemmas.Bool.{true≢false}
use Rattle.tb_scaled.specs.Scaled.{min_ℤ}
use Rattle.tb_node.specs.PlainNodes.{PlainNode}
use Rattle.tb_node.specs.Sums.{depth_from, size_of, list_shrink, room_of, depth_after, shrink_of}
use Rattle.tb_break.specs.Best.{Breakpoint}
use Rattle.tb_insert.specs.Account.{Frozen, terms_after}
use Rattle.tb_insert.specs.AccountEntries.{IsAccountOf}
use Rattle.tb_builder.specs.declared.Course.{Course}
use Rattle.tb_builder.specs.LegalPlaces.{page_shapes}
use Rattle.tb_builder.specs.Contents.{Contents}
use Rattle.tb_builder.specs.Courses.{IsCourseOf, places_by, AllLoose, IsPageSoFar}
use Rattle.tb_builder.specs.PageSums.{made_sums, sums_by, no_goal}
use Rattle.tb_builder.proofs.LegalPlaces.CourseLemmas.{loose_shape}
use Rattle.tb_builder.specs.FiredPages.{frozen_for}
use Rattle.tb_builder.specs.declared.Ask.{Ask}

-- ---- marks, notes and whatsits take no room

loose_size : (page : List PlainNode) → AllLoose page → size_of (page_shapes page) ≡ pos 0
loose_size [] h = refl
loose_size (n ∷ ns) h = (λ i. room_of (loose_shape n.line n.kind h.0 i) +ℤ loose_size ns h.1 i)

loose_shrink : (page : List PlainNode) → AllLoose page → list_shrink (page_shapes page) ≡ pos 0
loose_shrink [] h = refl
loose_shrink (n ∷ ns) h = (λ i. shrink_of (loose_shape n.line n.kind h.0 i) +ℤ loose_shrink ns h.1 i)

loose_depth : (d : ℤ) (page : List PlainNode) → AllLoose page → depth_from d (page_shapes page) ≡ d
loose_depth d [] h = refl
loose_depth d (n ∷ ns) h = ap (λ x. depth_from (depth_after d x) (page_shapes ns)) (loose_shape n.line n.kind h.0) ∙ loose_depth d ns h.1

-- ---- by whether the goal is frozen

pub sums_none : (o : Option Ask) (st : Bool) (k : Course) (c : Contents) → is_some o ≡ false → IsPageSoFar o st k c → record { total = pos 0; shrink = pos 0; goal = no_goal } ≡ sums_by o c
sums_none None false k c e h =
    sym (λ i. record { total = loose_size c.page h.loose i -ℤ min_ℤ (loose_depth (pos 0) c.page h.loose i) (pos 0); shrink = loose_shrink c.page h.loose i; goal = no_goal })
sums_none None true k c e h = absurd h
sums_none (Some f) st k c e h = absurd (true≢false e)

-- the course's sums and goal are those of the page
sums_stand : (g : ℤ) (f : Ask) (k : Course) (c : Contents) (bs : List Breakpoint) → ((z : Frozen) (page marked : List PlainNode) → IsAccountOf k.account z page marked → g ≡ (terms_after z page).goal) → IsCourseOf (frozen_for f c.classes c.boxes) k c.page bs
    → made_sums k.scan.sums g ≡ sums_by (Some f) c
sums_stand g f k c bs goal course = (λ i. made_sums (course.scan.sums i) (goal (frozen_for f c.classes c.boxes) c.page course.marked course.account i))

pub sums_some : (g : ℤ) (o : Option Ask) (st : Bool) (k : Course) (c : Contents) → ((z : Frozen) (page marked : List PlainNode) → IsAccountOf k.account z page marked → g ≡ (terms_after z page).goal) → is_some o ≡ true → IsPageSoFar o st k c
    → made_sums k.scan.sums g ≡ sums_by o c
sums_some g None st k c goal e h = absurd (true≢false (sym e))
sums_some g (Some f) false k c goal e h = sums_stand g f k c (places_by (frozen_for f c.classes c.boxes) c.page c.waiting) goal h.course
sums_some g (Some f) true k c goal e h = sums_stand g f k c (places_by (frozen_for f c.classes c.boxes) c.page c.waiting ++ h.stop ∷ []) goal h.course
