-- What the calls of the page makeup need, and what they change.
use Rattle.std.specs.Prelude.{◌≡◌, ◌≢◌, ◌+◌, ◌≤◌, ℕ, pos, ◌<ℤ◌, ◌≤ℤ◌, true, false, List, ◌++◌, length, All, None}
use Rattle.std.specs.FinMap.{get}
use Rattle.tb_pool.specs.Lists.{Lists, IsLive, list_at}
use Rattle.tb_node.specs.declared.Node.{Node}
use Rattle.tb_node.specs.declared.Act.{Act}
use Rattle.tb_node.specs.declared.Act.TheVariants as acts
use Rattle.tb_node.specs.Fit.{IsExtent}
use Rattle.tb_node.specs.PlainNodes.{PlainNode, plain_list}
use Rattle.tb_param.specs.declared.Params.{Params}
use Rattle.tb_builder.specs.declared.Builder.{Builder}
use Rattle.tb_builder.specs.declared.Page.{Page}
use Rattle.tb_builder.specs.FiredPages.{Fired}
use Rattle.tb_builder.specs.Contents.{contents_of, box_count}
use Rattle.tb_builder.specs.Ownership.{Lacks, has_class, ids_of, owned}
use Rattle.tb_builder.specs.Pageable.{IsSizedBox}
use Rattle.tb_builder.specs.Courses.{IsSound}
use Rattle.tb_builder.specs.Contributions.{ListJoins, NoPage, ends_in_kern, with_void}
use Rattle.tb_builder.specs.PageSums.{page_sums_of}
use Rattle.tb_column.specs.StoredColumns.{column_shown}
use Rattle.tb_column.specs.Page.{IsPageList, IsPageColumn}
use Rattle.tb_column.specs.Ranges.{IsSizedGlue}
use Rattle.tb_plain.specs.declared.Plain.{Plain}
use Rattle.tb_plain.specs.declared.PlainPage.{PlainPage}
use Rattle.tb_plain.specs.declared.PlainFault.{PlainFault}
use Rattle.tb_plain.specs.declared.PlainFault.TheVariants as faults
use Rattle.tb_plain.specs.TakenFloats.{act_nodes}
use Rattle.tb_plain.specs.Firing.{makeup_column, put_back_after}

-- ---- between two calls

-- the parameters that a page makeup looks at are in their ranges
pub record AreMakeupParams (p : Params) : Type 0 where
  pub textheight : IsExtent p.textheight
  pub maxdepth : IsExtent p.maxdepth
  pub topskip : IsExtent p.topskip
  pub skipfootins : IsSizedGlue p.skipfootins
  pub intextsep : IsSizedGlue p.intextsep

-- the parameters are in their ranges, and pages are counted from 1
pub record IsPlain (m : Plain) : Type 0 where
  pub params : AreMakeupParams m.params
  pub first : 1 ≤ m.page

-- ---- an act

-- the act takes a float, whose height is in its range
abbrev pub IsTake : Act → Type 0
IsTake (acts.Take f) = IsExtent f.height
IsTake (acts.TakeMargin m) = ⊥
IsTake (acts.Suppress area) = ⊥
IsTake (acts.Page n) = ⊥
IsTake (acts.Set c) = ⊥
IsTake (acts.Head f) = ⊥
IsTake (acts.Columns two) = ⊥

-- the builder can take a list before all that waits: the last event was not the try of a stop, its page does not end with a kern, and it has the
-- class of top floats
pub record CanAct (b : Builder) (s : Lists Node) : Type 0 where
  pub sound : IsSound b s
  pub going : (contents_of b s).stopped ≡ false
  pub no_kern : ends_in_kern (contents_of b s).page ≡ false
  pub known : has_class (contents_of b s).classes 253 ≡ true

-- these nodes wait before all that waited; each list that is not the builder's, neither before nor now, is as it was, so none was left open, and no
-- live one became the builder's
pub record HasPut (ns : List PlainNode) (b : Builder) (s : Lists Node) (d : Builder) (t : Lists Node) : Type 0 where
  pub sound : IsSound d t
  pub contents : contents_of d t ≡ record (contents_of b s) { waiting = ns ++ (contents_of b s).waiting }
  pub others : (q : ℕ) → Lacks q (owned (ids_of b) s) → Lacks q (owned (ids_of d) t) → get t.lists q ≡ get s.lists q
  pub apart : (q : ℕ) → IsLive s q → Lacks q (owned (ids_of b) s) → Lacks q (owned (ids_of d) t)

-- the nodes are those of the act
abbrev pub HasActed : Params → Act → Builder → Lists Node → Builder → Lists Node → Type 0
HasActed p a b s d t = HasPut (act_nodes p (page_sums_of (contents_of b s)) a) b s d t

-- ---- a firing

-- the page that fired of a builder, with what the builder holds after it
abbrev pub fired_with : Builder → Lists Node → Page → Fired
fired_with b s page = record {
  body = plain_list s page.body;
  boxes = (contents_of b s).boxes;
  held = (contents_of b s).held;
  rest = (contents_of b s).waiting;
  penalty = page.penalty;
  cost = page.cost;
  size = page.size;
  shrink = page.shrink;
  line = page.line;
}

-- a page that fired of the builder, which awaits its `put_back` and has the classes of top floats and footnotes: its list is none of the builder's,
-- and it and the boxes have sized nodes and not too many
pub record CanFire (b : Builder) (s : Lists Node) (page : Page) : Type 0 where
  pub sound : IsSound b s
  pub awaits : NoPage (contents_of b s)
  pub top : has_class (contents_of b s).classes 253 ≡ true
  pub foot : has_class (contents_of b s).classes 254 ≡ true
  pub held : page.held ≡ length (contents_of b s).held
  pub body : IsPageList s page.body
  pub free : Lacks page.body (owned (ids_of b) s)
  pub boxes : All IsSizedBox (contents_of b s).boxes
  pub few : length (list_at s page.body) + box_count (contents_of b s).boxes ≤ 8388602

-- the page is that of the definition under its number, both boxes are void, and what is put back is in the list of the body, which the builder
-- awaits; the column has a list that was opened for it; no other list changed or was opened, but for the builder's
pub record HasFired (r : PlainPage) (m now : Plain) (b : Builder) (s : Lists Node) (d : Builder) (t : Lists Node) (page : Page) : Type 0 where
  pub within : pos m.page ≤ℤ m.params.maxpages
  pub number : r.page ≡ m.page
  pub next : now ≡ record m { page = m.page + 1 }
  pub column : column_shown t r.column ≡ makeup_column m.params (fired_with b s page)
  pub put_back : plain_list t r.put_back ≡ put_back_after m.params (fired_with b s page)
  pub contents : contents_of d t ≡ record (contents_of b s) { boxes = with_void 254 (with_void 253 (contents_of b s).boxes) }
  pub sound : IsSound d t
  pub joins : ListJoins (ids_of d) t r.put_back
  pub body : r.put_back ≡ page.body
  pub sized : IsPageColumn t r.column
  pub fresh : get s.lists r.column.list ≡ None
  pub free : Lacks r.column.list (owned (ids_of d) t)
  pub others : (q : ℕ) → q ≢ r.column.list → q ≢ page.body → Lacks q (owned (ids_of b) s) → get t.lists q ≡ get s.lists q
  pub apart : (q : ℕ) → Lacks q (owned (ids_of b) s) → Lacks q (owned (ids_of d) t)

-- why no page ships: `maxpages` pages were shipped, or there is no memory
abbrev pub IsRefused : PlainFault → Plain → Type 0
IsRefused (faults.PageLimit n) m = (n + 1 ≡ m.page) × (m.params.maxpages <ℤ pos m.page)
IsRefused faults.Memory m = pos m.page ≤ℤ m.params.maxpages
