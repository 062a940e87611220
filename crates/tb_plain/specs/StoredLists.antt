-- What the calls of the page makeup put into lists, as a store holds it.
use Rattle.std.specs.Prelude.{◌≡◌, ◌≢◌, ℕ, ℤ, pos, negsuc, neg_ℤ, Bool, false, ◌&&◌, ◌||◌, List, [], ◌∷◌, ◌++◌, map, None, Some, int_le, int_lt, nat_lt, if◌then◌else◌}
use Rattle.std.specs.FinMap.{get}
use Rattle.tb_scaled.specs.Glue.{filling_glue}
use Rattle.tb_scaled.specs.Scaled.{max_dimen}
use Rattle.tb_pool.specs.Lists.{Lists, IsLive, list_at}
use Rattle.tb_node.specs.declared.Node.{Node}
use Rattle.tb_node.specs.declared.Kind.TheVariants as kinds
use Rattle.tb_node.specs.declared.What.TheVariants.{Blank}
use Rattle.tb_node.specs.declared.Where.TheVariants as places
use Rattle.tb_node.specs.declared.Float.{Float}
use Rattle.tb_node.specs.PlainNodes.{PlainNode, plain_of, plain_list}
use Rattle.tb_param.specs.declared.Params.{Params}
use Rattle.tb_builder.specs.declared.Builder.{Builder}
use Rattle.tb_builder.specs.declared.PageSums.{PageSums}
use Rattle.tb_builder.specs.FiredPages.{Boxed}
use Rattle.tb_builder.specs.Contents.{contents_of}
use Rattle.tb_builder.specs.Ownership.{Lacks, inner_ids, ids_of, owned}
use Rattle.tb_builder.specs.Courses.{IsSound}
use Rattle.tb_column.specs.Column.{is_ragged}
use Rattle.tb_column.specs.FloatColumns.{made_node, float_box}
use Rattle.tb_column.specs.Page.{AreLeaves}
use Rattle.tb_column.specs.TextColumns.{rule_above}
use Rattle.tb_plain.specs.declared.taken_floats.Place.{Place}
use Rattle.tb_plain.specs.declared.taken_floats.Place.TheVariants as ways
use Rattle.tb_plain.specs.GalleyNodes.{clearing_glue, clearing_penalty}
use Rattle.tb_plain.specs.TakenFloats.{with_float, here_nodes, top_leaves, page_leaves, top_insertion}

-- ---- a float

-- where a float goes: h asks for the text, and the top if it does not fit there; else t or b ask for the top, and p alone for a page
abbrev pub place_of : Params → PageSums → Float → Place
place_of p s f =
    if f.places.h then (if int_lt s.goal (with_float p s f) then ways.Top else ways.Here) else (if f.places.t || f.places.b then ways.Top else ways.Page)

-- what waits first then
abbrev pub nodes_at : Place → Params → Float → List PlainNode
nodes_at ways.Here p f = here_nodes p f
nodes_at ways.Top p f = top_insertion (top_leaves p f) ∷ []
nodes_at ways.Page p f = top_insertion (page_leaves p f) ∷ []

-- a float without a depth: here each is as wide as a column
abbrev pub flat : Float → Float
flat f = record f { deep = false }

-- a float in the text, between glue
abbrev pub here_list : Params → Float → List Node
here_list p f = made_node (kinds.Skip p.intextsep) ∷ float_box places.Here (flat f) ∷ made_node (kinds.Pen (negsuc 199)) ∷ made_node (kinds.Skip p.intextsep) ∷ []

-- a float at the top of a page, with glue below
abbrev pub top_list : Params → Float → List Node
top_list p f = made_node (kinds.Pen (pos 100)) ∷ float_box places.Top (flat f) ∷ made_node (kinds.Pen (pos 10000)) ∷ made_node (kinds.Skip p.intextsep) ∷ []

-- a float that has a page of its own, as high as the text
abbrev pub page_list : Params → Float → List Node
page_list p f = made_node (kinds.Pen (pos 100)) ∷ float_box places.Page (record f { height = p.textheight; deep = false }) ∷ []

-- an insertion of the class of top floats, with the list of this id
abbrev pub top_node : ℕ → ℤ → Node
top_node inner height = made_node (kinds.Ins (record { class = 253; list = inner; height = height; split_depth = max_dimen; split_top = pos 0; floating = pos 0 }))

-- two lists were opened: one for an insertion, and one for its nodes
pub record AreOpened (l inner : ℕ) (s t : Lists Node) : Type 0 where
  pub fresh : get s.lists l ≡ None
  pub fresh_inner : get s.lists inner ≡ None
  pub apart : l ≢ inner
  pub list : get t.lists l ≡ Some []
  pub inner_list : get t.lists inner ≡ Some []
  pub others : (q : ℕ) → q ≢ l → q ≢ inner → get t.lists q ≡ get s.lists q

-- the nodes of the list wait first, and the list is closed; of the other lists only the builder's changed, and its own are those of before and those
-- of the insertions among the nodes
pub record IsPutFirst (l : ℕ) (b : Builder) (s : Lists Node) (d : Builder) (t : Lists Node) : Type 0 where
  pub sound : IsSound d t
  pub contents : contents_of d t ≡ record (contents_of b s) { waiting = plain_list s l ++ (contents_of b s).waiting }
  pub closed : get t.lists l ≡ None
  pub others : (q : ℕ) → q ≢ l → Lacks q (owned (ids_of b) s) → get t.lists q ≡ get s.lists q
  pub keeps : (q : ℕ) → Lacks q (owned (ids_of b) s ++ inner_ids (list_at s l)) → Lacks q (owned (ids_of d) t)
  pub owns : (q : ℕ) → Lacks q (owned (ids_of d) t) → Lacks q (owned (ids_of b) s ++ inner_ids (list_at s l))

-- ---- a column

-- what comes above footnotes, unless their box is void
abbrev pub above_feet : Params → Bool → List Node
above_feet p void = if void then [] else rule_above p.skipfootins

-- what ends a column whose body has this depth
abbrev pub end_list : Params → ℤ → List Node
end_list p depth = if is_ragged p.bottom then made_node (kinds.Kern (neg_ℤ depth)) ∷ made_node (kinds.Skip filling_glue) ∷ [] else []

-- an empty page on which what is held may come, with the break of a clear
abbrev pub held_list : Params → List Node
held_list p =
    made_node (kinds.Hbox Blank (pos 0) (pos 0))
    ∷ made_node (kinds.Kern (neg_ℤ p.topskip))
    ∷ made_node (kinds.Pen (pos 10000))
    ∷ made_node (kinds.Skip clearing_glue)
    ∷ made_node (kinds.Pen clearing_penalty)
    ∷ []

-- what is put back after a page of this penalty, with this many held insertions
abbrev pub back_list : Params → ℤ → ℕ → List Node
back_list p penalty held = if int_le penalty clearing_penalty && nat_lt 0 held then held_list p else []

-- these nodes, of which none is an insertion or an act, were put at the end of the list; the builder has these boxes, and of the other lists only the
-- builder's and those named changed
pub record Grows (l : ℕ) (mine : List ℕ) (ns : List PlainNode) (boxes : List Boxed) (b : Builder) (s : Lists Node) (d : Builder) (t : Lists Node) : Type 0 where
  pub nodes : List Node
  pub live : IsLive t l
  pub joined : list_at t l ≡ list_at s l ++ nodes
  pub leaves : AreLeaves nodes
  pub shown : (held : ℕ → List Node) → map (plain_of held) nodes ≡ ns
  pub sound : IsSound d t
  pub contents : contents_of d t ≡ record (contents_of b s) { boxes = boxes }
  pub others : (q : ℕ) → Lacks q mine → Lacks q (owned (ids_of b) s) → get t.lists q ≡ get s.lists q
  pub keeps : (q : ℕ) → Lacks q (owned (ids_of b) s) → Lacks q (owned (ids_of d) t)
