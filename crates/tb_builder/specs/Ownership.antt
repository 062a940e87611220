-- The lists that belong to a page builder: its own, and those of the insertions in them.
use Rattle.std.specs.Prelude.{◌≡◌, ◌≢◌, ◌<◌, ℕ, ◌==◌, Bool, true, false, List, [], ◌∷◌, ◌++◌, map, length, slice_index_or, Option, Some, None, option_to_list}
use Rattle.std.specs.List.{list_any}
use Rattle.std.specs.FinMap.{get}
use Rattle.tb_pool.specs.Lists.{Lists, IsLive, list_at}
use Rattle.tb_node.specs.declared.Node.{Node}
use Rattle.tb_node.specs.declared.Kind.{Kind}
use Rattle.tb_node.specs.declared.Kind.TheVariants as kinds
use Rattle.tb_insert.specs.declared.Class.{Class}
use Rattle.tb_insert.specs.Arrival.{ClassFits}
use Rattle.tb_builder.specs.declared.ClassList.{ClassList}
use Rattle.tb_builder.specs.declared.Builder.{Builder}

-- the id is none of these
abbrev pub Lacks : ℕ → List ℕ → Type 0
Lacks x [] = Unit {0}
Lacks x (y ∷ ys) = (x ≢ y) × Lacks x ys

-- the ids differ from each other
abbrev pub AllDiffer : List ℕ → Type 0
AllDiffer [] = Unit {0}
AllDiffer (x ∷ xs) = Lacks x xs × AllDiffer xs

-- each id names a list of the store
abbrev pub AllLive : Lists Node → List ℕ → Type 0
AllLive s [] = Unit {0}
AllLive s (x ∷ xs) = IsLive s x × AllLive s xs

-- the list of an insertion
abbrev pub inner_of : Kind → Option ℕ
inner_of (kinds.Hbox what h d) = None
inner_of (kinds.Rule name h d) = None
inner_of (kinds.Skip g) = None
inner_of (kinds.Kern w) = None
inner_of (kinds.Pen p) = None
inner_of (kinds.Mark name) = None
inner_of (kinds.Note name) = None
inner_of kinds.Whatsit = None
inner_of (kinds.Ins i) = Some i.list
inner_of (kinds.Act a) = None

-- the lists of the insertions among these nodes
abbrev pub inner_ids : List Node → List ℕ
inner_ids [] = []
inner_ids (n ∷ ns) = option_to_list (inner_of n.kind) ++ inner_ids ns

-- a builder's own lists
pub record Ids : Type 0 where
  pub page : ℕ
  pub waiting : ℕ
  pub held : ℕ
  pub rest : ℕ
  pub boxes : List ClassList

-- the lists of a builder
abbrev pub ids_of : Builder → Ids
ids_of b = record { page = b.page; waiting = b.waiting; held = b.held; rest = b.rest; boxes = b.boxes }

-- the nodes of the builder's lists
abbrev pub nodes_of : Ids → Lists Node → List Node
nodes_of b s = list_at s b.held ++ (list_at s b.page ++ list_at s b.waiting)

-- the lists of class boxes
abbrev pub box_ids : List ClassList → List ℕ
box_ids es = map (λ e. e.list) es

-- a builder's own lists, without those of insertions
abbrev pub own_ids : Ids → List ℕ
own_ids b = b.page ∷ b.waiting ∷ b.held ∷ b.rest ∷ box_ids b.boxes

-- all lists that are the builder's
abbrev pub owned : Ids → Lists Node → List ℕ
owned b s = own_ids b ++ inner_ids (nodes_of b s)

-- ---- what the lists hold

-- neither an insertion nor an act
abbrev pub is_plain : Kind → Bool
is_plain (kinds.Hbox what h d) = true
is_plain (kinds.Rule name h d) = true
is_plain (kinds.Skip g) = true
is_plain (kinds.Kern w) = true
is_plain (kinds.Pen p) = true
is_plain (kinds.Mark name) = true
is_plain (kinds.Note name) = true
is_plain kinds.Whatsit = true
is_plain (kinds.Ins i) = false
is_plain (kinds.Act a) = false

-- neither insertions nor acts
abbrev pub AllPlain : List Node → Type 0
AllPlain [] = Unit {0}
AllPlain (n ∷ ns) = (is_plain n.kind ≡ true) × AllPlain ns

-- no list of these holds an insertion or an act
abbrev pub HoldPlain : Lists Node → List ℕ → Type 0
HoldPlain s [] = Unit {0}
HoldPlain s (x ∷ xs) = AllPlain (list_at s x) × HoldPlain s xs

-- a void box holds nothing
abbrev pub VoidEmpty : Lists Node → List ClassList → Type 0
VoidEmpty s [] = Unit {0}
VoidEmpty s (e ∷ es) = (e.void ≡ true → list_at s e.list ≡ []) × VoidEmpty s es

-- ---- the classes

-- the class has this number
abbrev pub has_number : ℕ → ClassList → Bool
has_number k e = e.class.number == k

-- the first class with this number is at index k
pub record IsFirst (es : List ClassList) (number k : ℕ) (d : ClassList) : Type 0 where
  pub within : k < length es
  pub there : has_number number (slice_index_or es k d) ≡ true
  pub before : (j : ℕ) → j < k → has_number number (slice_index_or es j d) ≡ false

-- the class with this number and its box
pub record IsClassList (es : List ClassList) (number : ℕ) (e : ClassList) : Type 0 where
  pub place : ℕ
  pub first : IsFirst es number place e
  pub is : slice_index_or es place e ≡ e

-- one of the classes has this number
abbrev pub has_class : List Class → ℕ → Bool
has_class cs k = list_any (λ c. c.number == k) cs

-- the numbers differ, are below 256, and the amounts fit
abbrev pub ClassesFit : List Class → Type 0
ClassesFit [] = Unit {0}
ClassesFit (c ∷ cs) = (has_class cs c.number ≡ false) × (c.number < 256) × ClassFits c × ClassesFit cs

-- the class of an insertion is one of these
abbrev pub is_known : List Class → Kind → Bool
is_known cs (kinds.Hbox what h d) = true
is_known cs (kinds.Rule name h d) = true
is_known cs (kinds.Skip g) = true
is_known cs (kinds.Kern w) = true
is_known cs (kinds.Pen p) = true
is_known cs (kinds.Mark name) = true
is_known cs (kinds.Note name) = true
is_known cs kinds.Whatsit = true
is_known cs (kinds.Ins i) = has_class cs i.class
is_known cs (kinds.Act a) = true

-- the class of each insertion is one of the classes
abbrev pub AllKnown : List Class → List Node → Type 0
AllKnown cs [] = Unit {0}
AllKnown cs (n ∷ ns) = (is_known cs n.kind ≡ true) × AllKnown cs ns

-- the classes of a builder
abbrev pub classes_of : Ids → List Class
classes_of b = map (λ e. e.class) b.boxes

-- the builder's lists are live and differ from each other and from those of the insertions in them
pub record IsOwned (b : Ids) (s : Lists Node) : Type 0 where
  pub live : AllLive s (owned b s)
  pub differ : AllDiffer (owned b s)
  pub between : list_at s b.rest ≡ []
  pub void_empty : VoidEmpty s b.boxes
  pub plain_lists : HoldPlain s (box_ids b.boxes ++ inner_ids (nodes_of b s))
  pub classes : ClassesFit (classes_of b)
  pub known : AllKnown (classes_of b) (nodes_of b s)

-- lists that are not the builder's stay as they are, and are still not its own
pub record KeepsOthers (b : Ids) (s : Lists Node) (d : Ids) (t : Lists Node) : Type 0 where
  pub others : (q : ℕ) → IsLive s q → Lacks q (owned b s) → get t.lists q ≡ get s.lists q
  pub apart : (q : ℕ) → IsLive s q → Lacks q (owned b s) → Lacks q (owned d t)
