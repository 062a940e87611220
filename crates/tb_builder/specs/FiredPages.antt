-- The page that fires (TeX: The Program §1012 to §1022), and what waits after it (§1026).
use Rattle.std.specs.Prelude.{ℕ, ℤ, pos, ◌==◌, Bool, true, false, List, [], ◌∷◌, ◌++◌, map, take, drop, Option, Some, None, if◌then◌else◌}
use Rattle.std.specs.List.{list_any}
use Rattle.tb_scaled.specs.Scaled.{inf_penalty}
use Rattle.tb_node.specs.PlainNodes.{pen, Leaf, leaf_shape, Inserted, PlainKind, plain, ins, PlainNode, without_insertions, on_line}
use Rattle.tb_node.specs.Sums.{sums_of, size_of}
use Rattle.tb_break.specs.Places.{last_or}
use Rattle.tb_break.specs.Best.{Breakpoint, best_or}
use Rattle.tb_break.specs.Split.{breakpoint_at}
use Rattle.tb_break.specs.PageTop.{pruned_leaves}
use Rattle.tb_insert.specs.declared.Class.{Class}
use Rattle.tb_insert.specs.Account.{ClassBox, Frozen, labelled, terms_after, Labelled, Label, whole, split, late}
use Rattle.tb_builder.specs.declared.Ask.{Ask}
use Rattle.tb_builder.specs.Reach.{Reach, breakpoints, laid_out, reach_from}

-- what a class's box holds; none if nothing was given to it
pub record Boxed : Type 0 where
  pub number : ℕ
  pub content : Option (List Leaf)

-- a page that fires with the shrink of the page at the place where it fired, and what waits after it
pub record Fired : Type 0 where
  pub body : List PlainNode
  pub boxes : List Boxed
  pub held : List PlainNode
  pub rest : List PlainNode
  pub penalty : ℤ
  pub cost : ℤ
  pub size : ℤ
  pub shrink : ℤ
  pub line : ℕ

-- a place that is never looked at
abbrev pub no_place : Breakpoint
no_place = breakpoint_at 0 (sums_of (pos 0) []) (pos 0) (pos 0) (pos 0)

-- the place where the page breaks
abbrev pub page_break : Reach → Breakpoint
page_break w = best_or no_place (breakpoints w.reached)

-- the shrink of a page at the last of these places, with that of the skips of its classes (TeX: The Program §982)
abbrev pub last_shrink : List Breakpoint → ℤ
last_shrink bs = last_or (pos 0) (map (λ b. b.sums.shrink) bs)

-- the list from the break on
abbrev pub from_break : Reach → List PlainNode
from_break w = drop (page_break w).place w.passed ++ w.beyond

-- the penalty of the break node, or 10000 if that is no penalty
abbrev pub penalty_at : List PlainNode → ℤ
penalty_at [] = inf_penalty
penalty_at (n ∷ ns) = kind_penalty n.kind
  where
    kind_penalty : PlainKind → ℤ
    kind_penalty (plain (pen p)) = p
    kind_penalty _ = inf_penalty

-- the line of the break node, or 0 if there is none
abbrev pub line_at : List PlainNode → ℕ
line_at [] = 0
line_at (n ∷ ns) = n.line

-- the kind of a break node afterwards: a penalty no longer allows a break there
abbrev pub spent_kind : PlainKind → PlainKind
spent_kind (plain (pen p)) = plain (pen inf_penalty)
spent_kind k = k

-- the list from the break on, with a break node that no longer breaks
abbrev pub with_spent_break : List PlainNode → List PlainNode
with_spent_break [] = []
with_spent_break (n ∷ ns) = record n { kind = spent_kind n.kind } ∷ ns

-- ---- the insertions before the break

-- what an insertion gives to its class's box
abbrev pub given_by : Label → Inserted → List Leaf
given_by whole i = i.inner
given_by (split f) i = take f.index i.inner
given_by late i = []

-- what the insertions of a class give to its box
abbrev pub given_to : ℕ → List Labelled → List Leaf
given_to k [] = []
given_to k (l ∷ ls) = if l.inserted.class == k then given_by l.label l.inserted ++ given_to k ls else given_to k ls

-- whether something is given, even if only an empty list
abbrev pub gives : Label → Bool
gives whole = true
gives (split f) = true
gives late = false

-- whether something is given to the box of a class
abbrev pub is_given : ℕ → List Labelled → Bool
is_given k ls = list_any (λ l. if l.inserted.class == k then gives l.label else false) ls

-- the nodes of a box, none if it is void
abbrev pub content_of : Option (List Leaf) → List Leaf
content_of None = []
content_of (Some ns) = ns

-- the box followed by what is given to it
abbrev pub box_after : List Labelled → Boxed → Boxed
box_after ls b = if is_given b.number ls then record b { content = Some (content_of b.content ++ given_to b.number ls) } else b

-- the insertion again with another list
abbrev pub again_with : Inserted → List Leaf → PlainKind
again_with i inner = ins (record i { inner = inner; height = size_of (map leaf_shape inner) })

-- the same, but none if the list is empty
abbrev pub unless_empty : Inserted → List Leaf → List PlainKind
unless_empty i [] = []
unless_empty i (n ∷ ns) = again_with i (n ∷ ns) ∷ []

-- what is held of an insertion: the pruned rest of a split one, unless it is empty, or all of a late one
abbrev pub held_of : Label → Inserted → List PlainKind
held_of whole i = []
held_of (split f) i = unless_empty i (pruned_leaves i.split_top (drop f.index i.inner))
held_of late i = ins i ∷ []

-- what is held of all insertions before the break
abbrev pub held_insertions : List Labelled → List PlainNode
held_insertions [] = []
held_insertions (l ∷ ls) = on_line l.line (held_of l.label l.inserted) ++ held_insertions ls

-- the page that fires, if its insertions before the break have these labels
abbrev pub fired_by : List Labelled → List Boxed → Reach → Fired
fired_by ls boxes w =
    let b = page_break w in
    let rest = from_break w in
    record {
      body = without_insertions (take b.place w.passed);
      boxes = map (box_after ls) boxes;
      held = held_insertions ls;
      rest = with_spent_break rest;
      penalty = penalty_at rest;
      cost = b.cost;
      size = b.goal;
      shrink = last_shrink (breakpoints w.reached);
      line = line_at rest;
    }

-- ---- a page, from the boxes and the nodes that wait

-- the content of the box of a class
abbrev pub box_content : List Boxed → ℕ → Option (List Leaf)
box_content [] k = None
box_content (b ∷ bs) k = if b.number == k then b.content else box_content bs k

-- the height plus depth of a content, 0 if it is void
abbrev pub box_size : Option (List Leaf) → ℤ
box_size content = size_of (map leaf_shape (content_of content))

-- a class as a page has it: footnotes have the limit and the skip that the page is made for
abbrev pub class_for : Ask → Class → Class
class_for ask c = record c { limit = if c.number == 254 then ask.foot_limit else c.limit; skip = if c.number == 254 then ask.foot_skip else c.skip }

-- the classes as a page has them, with the sizes of their boxes
abbrev pub class_boxes : Ask → List Class → List Boxed → List ClassBox
class_boxes ask cs boxes = map (λ c. record { class = class_for ask c; size = box_size (box_content boxes c.number) }) cs

-- what is frozen for a page that begins now
abbrev pub frozen_for : Ask → List Class → List Boxed → Frozen
frozen_for ask cs boxes = record { goal = ask.goal; limit = ask.max_depth; classes = class_boxes ask cs boxes }

-- what is reached with this page so far and these waiting nodes
abbrev pub reach_of : Ask → List Class → List Boxed → List PlainNode → List PlainNode → Reach
reach_of ask cs boxes page waiting = reach_from ask.max_depth (terms_after (frozen_for ask cs boxes)) [] (laid_out ask.top_skip page waiting)

-- the page that fires, if what is reached ends with a stop
abbrev pub fired_of : Ask → List Class → List Boxed → Reach → Fired
fired_of ask cs boxes w = fired_by (labelled (frozen_for ask cs boxes) (take (page_break w).place w.passed)) boxes w
