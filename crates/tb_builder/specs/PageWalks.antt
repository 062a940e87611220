-- Waiting nodes go on a page together: the lists once the first k went, and what calls of `next` then come to.
use Rattle.std.specs.Prelude.{◌≡◌, ℕ, ◌+◌, Bool, true, false, List, [], ◌∷◌, ◌++◌, take, drop, if◌then◌else◌}
use Rattle.std.specs.FinMap.{insert}
use Rattle.tb_pool.specs.Lists.{Lists, list_at, with_list}
use Rattle.tb_node.specs.declared.Node.{Node}
use Rattle.tb_node.specs.declared.Kind.{Kind}
use Rattle.tb_node.specs.declared.Kind.TheVariants as kinds
use Rattle.tb_builder.specs.declared.Ask.{Ask}
use Rattle.tb_builder.specs.declared.Event.{Event}
use Rattle.tb_builder.specs.declared.Builder.{Builder}
use Rattle.tb_builder.specs.declared.Seen.{Seen}
use Rattle.tb_builder.specs.declared.Seen.TheVariants as seen
use Rattle.tb_builder.specs.Contents.{contents_of}
use Rattle.tb_builder.specs.PageEvents.{NextFits}
use Rattle.tb_builder.specs.Ownership.{Ids, ids_of, KeepsOthers}
use Rattle.tb_builder.specs.Courses.{IsSound}
use Rattle.tb_builder.specs.PageCalls.{ComesAfter}

-- the lists, once the first k waiting nodes are at the end of the page
unfoldable pub moved : Ids → Lists Node → ℕ → Lists Node
moved b s k = record {
  lists = insert (with_list s b.waiting (drop k (list_at s b.waiting))) b.page (list_at s b.page ++ take k (list_at s b.waiting));
  spare = s.spare;
}

-- the builder d is sound, and all that calls of `next` on it come to, calls on the builder b come to
pub record LeadsOn (b : Builder) (s : Lists Node) (ask : Ask) (d : Builder) (t : Lists Node) : Type 0 where
  pub sound : IsSound d t
  pub fits : NextFits (contents_of d t) ask
  pub held : (contents_of d t).held ≡ (contents_of b s).held
  pub keeps : KeepsOthers (ids_of b) s (ids_of d) t
  pub later : (e : Event) (x : Builder) (y : Lists Node) → ComesAfter d t ask e x y → ComesAfter b s ask e x y

-- what a walk sees of a node of this kind: a box; glue; a penalty; a mark, note or whatsit; or another node
abbrev pub seen_of : Kind → Seen
seen_of (kinds.Hbox what h d) = seen.Solid h d
seen_of (kinds.Rule name h d) = seen.Other
seen_of (kinds.Skip g) = seen.Space
seen_of (kinds.Kern w) = seen.Other
seen_of (kinds.Pen p) = seen.Gate p
seen_of (kinds.Mark name) = seen.Still
seen_of (kinds.Note name) = seen.Still
seen_of kinds.Whatsit = seen.Still
seen_of (kinds.Ins i) = seen.Other
seen_of (kinds.Act a) = seen.Other

-- a node of this kind is a mark, a note or a whatsit
abbrev pub is_still : Kind → Bool
is_still (kinds.Mark name) = true
is_still (kinds.Note name) = true
is_still kinds.Whatsit = true
is_still _ = false

-- how many marks, notes and whatsits a list begins with
abbrev pub still_count : List Node → ℕ
still_count [] = 0
still_count (n ∷ ns) = if is_still n.kind then still_count ns + 1 else 0
