-- What holds of the page builder between its calls: one running scan and one running account, tied to the whole page.
use Rattle.std.specs.Prelude.{◌≡◌, ℤ, pos, ◌+ℤ◌, ◌≤◌, Bool, true, false, ◌||◌, List, [], ◌∷◌, ◌++◌, take, length, Option, Some, None, is_some, IsSome, if◌then◌else◌}
use Rattle.std.specs.List.{list_any}
use Rattle.tb_scaled.specs.Glue.{fixed_glue}
use Rattle.tb_pool.specs.Lists.{Lists}
use Rattle.tb_node.specs.declared.Node.{Node}
use Rattle.tb_node.specs.Shape.{Shape, box, glue, kern, penalty, other, is_box, is_discardable}
use Rattle.tb_node.specs.PlainNodes.{hbox, rule, skip, kerned, pen, mark, note, whatsit, PlainKind, plain, ins, act, PlainNode, node_shape, shape_of, is_insertion_kind}
use Rattle.tb_node.specs.Sums.{size_of}
use Rattle.tb_node.specs.Roles.{act_of_kind}
use Rattle.tb_break.specs.declared.Best.{Best}
use Rattle.tb_break.specs.Places.{ends_lasting}
use Rattle.tb_break.specs.Best.{Breakpoint, best_or}
use Rattle.tb_break.specs.SplitPlace.{is_glue}
use Rattle.tb_break.specs.Scan.{Offered, best_of}
use Rattle.tb_insert.specs.declared.Class.{Class}
use Rattle.tb_insert.specs.Account.{Frozen, terms_after}
use Rattle.tb_insert.specs.AccountEntries.{IsAccountOf, IsScanOfPage}
use Rattle.tb_builder.specs.declared.Course.{Course}
use Rattle.tb_builder.specs.declared.Builder.{Builder}
use Rattle.tb_builder.specs.declared.Ask.{Ask}
use Rattle.tb_builder.specs.Reach.{holds_box, reach_from, breakpoints}
use Rattle.tb_builder.specs.FiredPages.{Boxed, frozen_for}
use Rattle.tb_builder.specs.LegalPlaces.{page_shapes, glue_first, page_places, NoStop, NoActs}
use Rattle.tb_builder.specs.Contents.{Contents, contents_of, frozen_or}
use Rattle.tb_builder.specs.Ownership.{IsOwned, ids_of}

-- ---- the course of a page

-- what is kept of the best place is that of this place of the page
pub record ChampionIs (o : Option Best) (goal : ℤ) (marked page : List PlainNode) (b : Breakpoint) : Type 0 where
  pub best : o ≡ Some (best_of b)
  pub goal_is : goal ≡ b.goal
  pub marked_is : marked ≡ take b.place page
  pub within : b.place ≤ length page
  pub room : b.sums.total +ℤ b.sums.depth ≡ size_of (page_shapes (take b.place page))

-- the scan and the account are those of the page, and what is kept of the best place is that of the last of these of least cost
pub record IsCourseOf (z : Frozen) (k : Course) (page : List PlainNode) (bs : List Breakpoint) : Type 0 where
  pub scan : IsScanOfPage k.scan z page
  pub marked : List PlainNode
  pub account : IsAccountOf k.account z page marked
  pub offered : Offered k.scan.best bs
  pub champion : (d : Breakpoint) → (bs ≡ [] → ⊥) → ChampionIs k.scan.best k.best_goal marked page (best_or d bs)
  pub lasting_is : k.lasting ≡ ends_lasting (page_shapes page)
  pub no_acts : NoActs page

-- the places of a page in front of these nodes
abbrev pub places_by : Frozen → List PlainNode → List PlainNode → List Breakpoint
places_by z page waiting = page_places z.limit (terms_after z) [] page (glue_first waiting)

-- a page whose goal is frozen, on which no stop was reached
pub record Underway (z : Frozen) (k : Course) (page waiting : List PlainNode) : Type 0 where
  pub course : IsCourseOf z k page (places_by z page waiting)
  pub quiet : NoStop (places_by z page waiting)

-- a page at its stop: the place at its end, which was tried last, with the shrink that the course has
pub record AtStop (z : Frozen) (k : Course) (page waiting : List PlainNode) : Type 0 where
  pub stop : Breakpoint
  pub course : IsCourseOf z k page (places_by z page waiting ++ stop ∷ [])
  pub shrink : stop.sums.shrink ≡ k.scan.sums.shrink
  pub reached : breakpoints (reach_from z.limit (terms_after z) [] (page ++ waiting)).reached ≡ places_by z page waiting ++ stop ∷ []
  pub passed : (reach_from z.limit (terms_after z) [] (page ++ waiting)).passed ≡ page
  pub beyond : (reach_from z.limit (terms_after z) [] (page ++ waiting)).beyond ≡ waiting

-- a node of this shape takes no room: it vanishes if it is a penalty, and else it lasts
abbrev pub IsFlat : Bool → Shape → Type 0
IsFlat lasting (box h d) = ⊥
IsFlat lasting (glue g) = ⊥
IsFlat lasting (kern w) = ⊥
IsFlat lasting (penalty p) = lasting ≡ false
IsFlat lasting other = lasting ≡ true

-- a mark, a note or a whatsit
abbrev pub is_loose : PlainKind → Bool
is_loose (plain (hbox what h d)) = false
is_loose (plain (rule name h d)) = false
is_loose (plain (skip g)) = false
is_loose (plain (kerned w)) = false
is_loose (plain (pen p)) = false
is_loose (plain (mark name)) = true
is_loose (plain (note name)) = true
is_loose (plain whatsit) = true
is_loose (ins i) = false
is_loose (act a) = false

-- only marks, notes and whatsits
abbrev pub AllLoose : List PlainNode → Type 0
AllLoose [] = Unit {0}
AllLoose (n ∷ ns) = (is_loose n.kind ≡ true) × AllLoose ns

-- no glue, kern or penalty
abbrev pub AllLasting : List PlainNode → Type 0
AllLasting [] = Unit {0}
AllLasting (n ∷ ns) = (is_discardable (node_shape n) ≡ false) × AllLasting ns

-- a page whose goal is not frozen has only marks, notes and whatsits
pub record Unfrozen (k : Course) (page : List PlainNode) : Type 0 where
  pub loose : AllLoose page
  pub lasting_is : k.lasting ≡ ends_lasting (page_shapes page)

-- what a page is made for of which nothing is frozen: all is 0
abbrev pub nothing_asked : Ask
nothing_asked = record { goal = pos 0; max_depth = pos 0; top_skip = pos 0; foot_limit = pos 0; foot_skip = fixed_glue (pos 0) }

-- the frozen goal and depth limit, with the classes
abbrev pub frozen_at : Option Ask → List Class → List Boxed → Frozen
frozen_at o cs boxes = frozen_or o nothing_asked cs boxes

-- the frozen goal and depth limit of what a builder holds, with its classes
abbrev pub kept_frozen : Contents → Frozen
kept_frozen c = frozen_at c.frozen c.classes c.boxes

-- the page so far, by whether its goal is frozen and whether a stop was tried last
abbrev pub IsPageSoFar : Option Ask → Bool → Course → Contents → Type 0
IsPageSoFar None false k c = Unfrozen k c.page
IsPageSoFar None true k c = ⊥
IsPageSoFar (Some f) false k c = Underway (frozen_for f c.classes c.boxes) k c.page c.waiting
IsPageSoFar (Some f) true k c = AtStop (frozen_for f c.classes c.boxes) k c.page c.waiting

-- the list has a box, a rule or an insertion: the first of them on a page freezes its goal
abbrev pub freezes : List PlainNode → Bool
freezes ns = list_any (λ n. is_box (node_shape n) || is_insertion_kind n.kind) ns

-- the builder is as its last call left it: its lists are its own, the course that it keeps is that of the page, and a
-- goal is frozen only if a box, rule or insertion is on the page, or at a stop
pub record IsSound (b : Builder) (s : Lists Node) : Type 0 where
  pub own : IsOwned (ids_of b) s
  pub opened : b.opened ≡ holds_box (contents_of b s).page
  pub closed : b.opened ≡ false → AllLasting (contents_of b s).page
  pub page : IsPageSoFar b.frozen b.stopped b.course (contents_of b s)
  pub met : IsSome b.frozen → b.stopped ≡ false → freezes (contents_of b s).page ≡ true

-- ---- nodes of the store

-- the node is an act
abbrev pub is_act : Node → Bool
is_act n = is_some (act_of_kind n.kind)

-- glue comes first among the nodes, acts aside
abbrev pub nodes_glue_first : List Node → Bool
nodes_glue_first [] = false
nodes_glue_first (n ∷ ns) = if is_act n then nodes_glue_first ns else is_glue (shape_of n)
