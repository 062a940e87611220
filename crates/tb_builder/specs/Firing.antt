-- A page fires (TeX: The Program §1012 to §1022): what becomes of the insertions before its break, by the account of the
-- page, and what the builder holds on the way.
use Rattle.std.specs.Prelude.{◌≡◌, ◌≢◌, ◌≤◌, map, ℕ, ◌==◌, Bool, true, false, List, [], ◌∷◌, ◌++◌, length, take, drop, nat_lt, nat_le, Option, Some, None, is_some, if◌then◌else◌}
use Rattle.std.specs.FinMap.{get}
use Rattle.std.specs.List.{list_any}
use Rattle.tb_pool.specs.Lists.{Lists, IsLive, list_at}
use Rattle.tb_node.specs.declared.Node.{Node}
use Rattle.tb_node.specs.declared.Insertion.{Insertion}
use Rattle.tb_node.specs.declared.Kind.{Kind}
use Rattle.tb_node.specs.declared.Kind.TheVariants as kinds
use Rattle.tb_scaled.specs.Scaled.{inf_penalty}
use Rattle.tb_node.specs.Shape.{Shape, is_discardable}
use Rattle.tb_node.specs.PlainNodes.{Leaf, leaf_of, Inserted, inserted_of, PlainKind, ins, PlainNode, plain_of, on_line, without_insertions}
use Rattle.tb_node.specs.Roles.{insertion_of_kind}
use Rattle.tb_break.specs.PageTop.{pruned_leaves}
use Rattle.tb_insert.specs.declared.Account.{Account}
use Rattle.tb_insert.specs.Account.{Frozen, Label, whole, split, late, labelled}
use Rattle.tb_insert.specs.AccountEntries.{IsAccountOf}
use Rattle.tb_builder.specs.declared.Share.{Share}
use Rattle.tb_builder.specs.declared.Share.TheVariants.{All, Front, Nothing}
use Rattle.tb_builder.specs.declared.ClassList.{ClassList}
use Rattle.tb_builder.specs.declared.Builder.{Builder}
use Rattle.tb_builder.specs.FiredPages.{Boxed, content_of, unless_empty, box_after, held_insertions, with_spent_break}
use Rattle.tb_builder.specs.Contents.{Contents, contents_of}
use Rattle.tb_builder.specs.Leaving.{LeavesOthers}
use Rattle.tb_builder.specs.Ownership.{Lacks, inner_ids, ids_of, owned, IsOwned}
use Rattle.tb_builder.specs.declared.Ask.{Ask}
use Rattle.tb_builder.specs.declared.Page.{Page}
use Rattle.tb_builder.specs.declared.Event.TheVariants as events
use Rattle.tb_builder.specs.PageEvents.{NodeFits, FiredIs, TellsRoom}
use Rattle.tb_builder.specs.Courses.{IsSound}

-- the share of a label: an insertion that is split at its list's end gives all
abbrev pub share_of : Label → Inserted → Share
share_of whole i = All
share_of (split f) i = if nat_lt f.index (length i.inner) then Front f.index else All
share_of late i = Nothing

-- ---- what the account says of the insertion at a place of the page

-- all, if it comes no later than the last of its class that was let in
abbrev pub share_up_to : Option ℕ → ℕ → Share
share_up_to None index = Nothing
share_up_to (Some last) index = if nat_le index last then All else Nothing

-- what comes before the cut, if this is the insertion of its class that is cut
abbrev pub share_told : Option (ℕ × ℕ) → Option ℕ → ℕ → Share
share_told None last index = share_up_to last index
share_told (Some c) last index = if c.0 == index then Front c.1 else share_up_to last index

-- ---- what a share gives of an insertion

-- what goes to the box of the class
abbrev pub share_given : Share → Inserted → List Leaf
share_given All i = i.inner
share_given (Front k) i = take k i.inner
share_given Nothing i = []

-- the list is empty, or its first node vanishes at the top of a page
abbrev pub BeginsVanishing : List Shape → Type 0
BeginsVanishing [] = Unit {0}
BeginsVanishing (n ∷ ns) = is_discardable n ≡ true

-- the place is one of the list, and the rest from there is empty or begins with a node that vanishes
abbrev pub IsShareWithin : Share → List Shape → Type 0
IsShareWithin All ns = Unit {0}
IsShareWithin (Front k) ns = (k ≤ length ns) × BeginsVanishing (drop k ns)
IsShareWithin Nothing ns = Unit {0}

-- the box of the class is given something
abbrev pub share_gives : Share → Bool
share_gives All = true
share_gives (Front k) = true
share_gives Nothing = false

-- what is held of it
abbrev pub share_held : Share → Inserted → List PlainKind
share_held All i = []
share_held (Front k) i = unless_empty i (pruned_leaves i.split_top (drop k i.inner))
share_held Nothing i = ins i ∷ []

-- the box, if this was given to the box of class k
abbrev pub box_with : ℕ → List Leaf → Boxed → Boxed
box_with k ls b = if b.number == k then record b { content = Some (content_of b.content ++ ls) } else b

-- the box after the share of an insertion
abbrev pub box_shared : Share → Inserted → Boxed → Boxed
box_shared s i b = if share_gives s then box_with i.class (share_given s i) b else b

-- ---- the boxes

-- the boxes, once that of this class is given something
abbrev pub opened : ℕ → List ClassList → List ClassList
opened k [] = []
opened k (e ∷ es) = if e.class.number == k then record e { void = false } ∷ es else e ∷ opened k es

-- the list of the box of this class
abbrev pub box_list : ℕ → List ClassList → ℕ
box_list k [] = 0
box_list k (e ∷ es) = if e.class.number == k then e.list else box_list k es

-- ---- the builder while the nodes of its page are sorted

-- the lists stay the builder's, all others stay as they are, and what waits stays
pub record Sorts (b : Builder) (s : Lists Node) (d : Builder) (t : Lists Node) : Type 0 where
  pub own : IsOwned (ids_of d) t
  pub frame : LeavesOthers (ids_of b) s (ids_of d) t
  pub builder : d ≡ record b { boxes = d.boxes }
  pub classes : (contents_of d t).classes ≡ (contents_of b s).classes
  pub waiting : (contents_of d t).waiting ≡ (contents_of b s).waiting

-- of the insertion at the front of the page, these nodes went to the box of its class, and these are left
pub record GivesToBox (b : Builder) (s : Lists Node) (d : Builder) (t : Lists Node) (n : Node) (i : Insertion) (gave kept : List Node) : Type 0 where
  pub sorts : Sorts b s d t
  pub page : list_at t b.page ≡ list_at s b.page
  pub behind : (ns : List Node) → list_at s b.page ≡ n ∷ ns → map (plain_of (list_at t)) ns ≡ map (plain_of (list_at s)) ns
  pub held : (contents_of d t).held ≡ (contents_of b s).held
  pub boxes : (contents_of d t).boxes ≡ map (box_with i.class (map leaf_of gave)) (contents_of b s).boxes
  pub left : list_at t i.list ≡ kept

-- the first node of the page went, and these are held of it
pub record Takes (b : Builder) (s : Lists Node) (d : Builder) (t : Lists Node) (n : Node) (more : List PlainNode) : Type 0 where
  pub sorts : Sorts b s d t
  pub page : (ns : List Node) → list_at s b.page ≡ n ∷ ns → (contents_of d t).page ≡ map (plain_of (list_at s)) ns
  pub held : (contents_of d t).held ≡ (contents_of b s).held ++ more

-- the first node of the page went, these are held of it, and the boxes stay
pub record LeavesPage (b : Builder) (s : Lists Node) (d : Builder) (t : Lists Node) (n : Node) (more : List PlainNode) : Type 0 where
  pub takes : Takes b s d t n more
  pub boxes : (contents_of d t).boxes ≡ (contents_of b s).boxes

-- the insertion at the front of the page went where its share says
pub record SharesOut (b : Builder) (s : Lists Node) (d : Builder) (t : Lists Node) (n : Node) (i : Insertion) (share : Share) : Type 0 where
  pub takes : Takes b s d t n (on_line n.line (share_held share (inserted_of (list_at s) i)))
  pub boxes : (contents_of d t).boxes ≡ map (box_shared share (inserted_of (list_at s) i)) (contents_of b s).boxes

-- ---- the insertions of a list

-- the node is an insertion
abbrev pub is_insertion : Node → Bool
is_insertion n = is_some (insertion_of_kind n.kind)

-- one of the nodes is an insertion
abbrev pub has_insertion : List Node → Bool
has_insertion ns = list_any is_insertion ns

-- none of the nodes is an insertion
abbrev pub NoInsertions : List Node → Type 0
NoInsertions [] = Unit {0}
NoInsertions (n ∷ ns) = (is_insertion n ≡ false) × NoInsertions ns

-- the first node is an insertion
abbrev pub begins_with_insertion : List Node → Bool
begins_with_insertion [] = false
begins_with_insertion (n ∷ ns) = is_insertion n

-- the first insertion of the list has this place
pub record InsertionAt (ns : List Node) (place : ℕ) : Type 0 where
  pub ahead : List Node
  pub behind : List Node
  pub parts : ns ≡ ahead ++ behind
  pub place_is : place ≡ length ahead
  pub plain : NoInsertions ahead
  pub first : begins_with_insertion behind ≡ true

-- ---- the page is sorted, from its front, into its body, the boxes and what is held

-- the list is not the builder's, and holds no insertion
pub record IsBody (b : Builder) (s : Lists Node) (body : ℕ) : Type 0 where
  pub live : IsLive s body
  pub apart : Lacks body (owned (ids_of b) s)
  pub plain : inner_ids (list_at s body) ≡ []

-- the lists stay the builder's, except the body, and the body holds no insertion
pub record SortsTo (b : Builder) (s : Lists Node) (d : Builder) (t : Lists Node) (body : ℕ) : Type 0 where
  pub own : IsOwned (ids_of d) t
  pub others : (q : ℕ) → q ≢ body → Lacks q (owned (ids_of b) s) → get t.lists q ≡ get s.lists q
  pub keeps : (q : ℕ) → Lacks q (owned (ids_of b) s) → Lacks q (owned (ids_of d) t)
  pub builder : d ≡ record b { boxes = d.boxes }
  pub classes : (contents_of d t).classes ≡ (contents_of b s).classes
  pub waiting : (contents_of d t).waiting ≡ (contents_of b s).waiting
  pub body_live : IsLive t body
  pub body_plain : inner_ids (list_at t body) ≡ []

-- the nodes before were sorted; the page is the rest of the account's list
pub record Sorted (z : Frozen) (boxes : List Boxed) (marked : List PlainNode) (d : Contents) (body before : List PlainNode) : Type 0 where
  pub whole : before ++ d.page ≡ marked
  pub body_is : body ≡ without_insertions before
  pub boxes_are : d.boxes ≡ map (box_after (labelled z before)) boxes
  pub held_are : d.held ≡ held_insertions (labelled z before)

-- at its mark, the account's list has this many nodes and then these
pub record IsMarkedAt (a : Account) (index : ℕ) (rest : List PlainNode) : Type 0 where
  pub z : Frozen
  pub page : List PlainNode
  pub before : List PlainNode
  pub stands : IsAccountOf a z page (before ++ rest)
  pub index_is : index ≡ length before

-- each node of the list fits
abbrev pub EachFits : List PlainNode → Type 0
EachFits ns = (before : List PlainNode) (n : PlainNode) (rest : List PlainNode) → before ++ n ∷ rest ≡ ns → NodeFits n

-- ---- the page is cut at its break

-- the kind that a break node of the store has afterwards
abbrev pub spent_node_kind : Kind → Kind
spent_node_kind (kinds.Hbox what h d) = kinds.Hbox what h d
spent_node_kind (kinds.Rule name h d) = kinds.Rule name h d
spent_node_kind (kinds.Skip g) = kinds.Skip g
spent_node_kind (kinds.Kern w) = kinds.Kern w
spent_node_kind (kinds.Pen p) = kinds.Pen inf_penalty
spent_node_kind (kinds.Mark name) = kinds.Mark name
spent_node_kind (kinds.Note name) = kinds.Note name
spent_node_kind kinds.Whatsit = kinds.Whatsit
spent_node_kind (kinds.Ins i) = kinds.Ins i
spent_node_kind (kinds.Act a) = kinds.Act a

-- the nodes from the break on; the first no longer forces a break
abbrev pub spent_nodes : List Node → List Node
spent_nodes [] = []
spent_nodes (n ∷ ns) = record { line = n.line; kind = spent_node_kind n.kind } ∷ ns

-- the page has its first nodes up to this place, and the others went back before what waits, with the break spent
pub record Cuts (b : Builder) (s t : Lists Node) (place : ℕ) : Type 0 where
  pub own : IsOwned (ids_of b) t
  pub frame : LeavesOthers (ids_of b) s (ids_of b) t
  pub page : (contents_of b t).page ≡ take place (contents_of b s).page
  pub waiting : (contents_of b t).waiting ≡ with_spent_break (drop place (contents_of b s).page ++ (contents_of b s).waiting)
  pub held : list_at t b.held ≡ list_at s b.held
  pub boxes : (contents_of b t).boxes ≡ (contents_of b s).boxes

-- ---- a page fired

-- the page is the one that fires, with the right nodes waiting after it; its body is a list of its own, whose room the builder keeps
pub record Fires (b : Builder) (s : Lists Node) (d : Builder) (t : Lists Node) (p : Page) : Type 0 where
  pub fired : (ask : Ask) → FiredIs p (contents_of b s) ask (contents_of d t) t
  pub sound : IsSound d t
  pub others : (q : ℕ) → q ≢ p.body → Lacks q (owned (ids_of b) s) → get t.lists q ≡ get s.lists q
  pub keeps : (q : ℕ) → Lacks q (owned (ids_of b) s) → Lacks q (owned (ids_of d) t)
  pub fresh : get s.lists p.body ≡ None
  pub apart : Lacks p.body (owned (ids_of d) t)
  pub body_plain : inner_ids (list_at t p.body) ≡ []
  pub room : TellsRoom (events.Fired p) d t
