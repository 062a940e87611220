-- In what waits the boxes of floats are those of floats in the text, and no foot has one. The page builder only moves nodes.
use Rattle.std.proofs.Common.{◌≡◌, ℕ, ℤ, Bool, true, false, List, [], ◌∷◌, ◌++◌, length, map, filter, take, drop, Option, Some, None}
use Rattle.std.specs.Prelude.{◌==◌, not, if◌then◌else◌}
use Rattle.std.specs.List.{AllByRecursion}
use Rattle.tb_break.proofs.EachLemmas.{all-join, all-take, all-drop}
use Rattle.tb_node.specs.declared.What.{What}
use Rattle.tb_node.specs.declared.What.TheVariants as what
use Rattle.tb_node.specs.declared.Where.TheVariants as places
use Rattle.tb_node.specs.PlainNodes.{Matter, hbox, rule, skip, kerned, pen, mark, note, whatsit, Leaf, Inserted, PlainKind, plain, ins, act, PlainNode, is_act_kind, is_insertion_kind, without_acts, without_insertions, on_line}
use Rattle.tb_break.specs.Best.{Breakpoint, is_stop}
use Rattle.tb_break.specs.PageTop.{pruned_leaves, pruned_nodes}
use Rattle.tb_insert.specs.Terms.{Terms}
use Rattle.tb_insert.specs.Account.{Frozen, Labelled, Label, whole, split, late, label_of, labelled_with, labelled_from, labelled}
use Rattle.tb_builder.specs.Reach.{tried, Reach, also_reached, page_place, stopped_at, reach_at_place, reach_at, reach_node, reach_from}
use Rattle.tb_builder.specs.FiredPages.{Boxed, Fired, page_break, from_break, spent_kind, with_spent_break, given_by, given_to, is_given, content_of, box_after, unless_empty, held_of, held_insertions, fired_by}

-- ---- boxes of floats

-- the box is of no float
abbrev pub IsFloatless : Matter → Type 0
IsFloatless (hbox (what.Float name class place item) h d) = ⊥
IsFloatless m = Unit {0}

-- if it is that of a float, the float stands in the text
abbrev pub IsHereBox : What → Type 0
IsHereBox (what.Float name class place item) = place ≡ places.Here
IsHereBox w = Unit {0}

abbrev pub IsHereMatter : Matter → Type 0
IsHereMatter (hbox w h d) = IsHereBox w
IsHereMatter m = Unit {0}

abbrev pub FloatlessLeaves : List Leaf → Type 0
FloatlessLeaves ls = AllByRecursion (λ l. IsFloatless l.matter) ls

abbrev pub IsHereKind : PlainKind → Type 0
IsHereKind (plain m) = IsHereMatter m
IsHereKind (ins i) = FloatlessLeaves i.inner
IsHereKind (act a) = Unit {0}

-- each box of a float is in the text, and none in a foot
abbrev pub AllHere : List PlainNode → Type 0
AllHere ns = AllByRecursion (λ n. IsHereKind n.kind) ns

-- ---- lists

all-filtered : {X : Type 0} (P : X → Type 0) (f : X → Bool) (xs : List X) → AllByRecursion P xs → AllByRecursion P (filter f xs)
all-filtered P f [] h = tt
all-filtered P f (x ∷ xs) h = by_test (f x) (all-filtered P f xs h.1)
  where
    by_test : (t : Bool) → AllByRecursion P (filter f xs) → AllByRecursion P (if t then x ∷ filter f xs else filter f xs)
    by_test true k = (h.0, k)
    by_test false k = k

pub nodes-join : (xs ys : List PlainNode) → AllHere xs → AllHere ys → AllHere (xs ++ ys)
nodes-join xs ys h k = all-join (λ n. IsHereKind n.kind) xs ys h k

pub nodes-take : (k : ℕ) (ns : List PlainNode) → AllHere ns → AllHere (take k ns)
nodes-take k ns h = all-take (λ n. IsHereKind n.kind) k ns h

actless : (ns : List PlainNode) → AllHere ns → AllHere (without_acts ns)
actless ns h = all-filtered (λ n. IsHereKind n.kind) (λ n. not (is_act_kind n.kind)) ns h

insertless : (ns : List PlainNode) → AllHere ns → AllHere (without_insertions ns)
insertless ns h = all-filtered (λ n. IsHereKind n.kind) (λ n. not (is_insertion_kind n.kind)) ns h

leaves-join : (xs ys : List Leaf) → FloatlessLeaves xs → FloatlessLeaves ys → FloatlessLeaves (xs ++ ys)
leaves-join xs ys h k = all-join (λ l. IsFloatless l.matter) xs ys h k

-- ---- the top of a page

leaf-pruned : (t : ℤ) (ls : List Leaf) → FloatlessLeaves ls → FloatlessLeaves (pruned_leaves t ls) → (n : ℕ) (m : Matter) → IsFloatless m → FloatlessLeaves (pruned_leaves t (record { line = n; matter = m } ∷ ls))
leaf-pruned t ls h k n (hbox w a d) g = (tt, (g, h))
leaf-pruned t ls h k n (rule name a d) g = (tt, (g, h))
leaf-pruned t ls h k n (mark name) g = (g, k)
leaf-pruned t ls h k n (note name) g = (g, k)
leaf-pruned t ls h k n whatsit g = (g, k)
leaf-pruned t ls h k n m g = k

leaves-pruned : (t : ℤ) (ls : List Leaf) → FloatlessLeaves ls → FloatlessLeaves (pruned_leaves t ls)
leaves-pruned t [] h = tt
leaves-pruned t (l ∷ ls) h = leaf-pruned t ls h.1 (leaves-pruned t ls h.1) l.line l.matter h.0

node-pruned : (t : ℤ) (ns : List PlainNode) → AllHere ns → AllHere (pruned_nodes t ns) → (n : ℕ) (k : PlainKind) → IsHereKind k → AllHere (pruned_nodes t (record { line = n; kind = k } ∷ ns))
node-pruned t ns h k n (plain (hbox w a d)) g = (tt, (g, h))
node-pruned t ns h k n (plain (rule name a d)) g = (tt, (g, h))
node-pruned t ns h k n (plain (skip x)) g = k
node-pruned t ns h k n (plain (kerned w)) g = k
node-pruned t ns h k n (plain (pen p)) g = k
node-pruned t ns h k n x g = (g, k)

pub nodes-pruned : (t : ℤ) (ns : List PlainNode) → AllHere ns → AllHere (pruned_nodes t ns)
nodes-pruned t [] h = tt
nodes-pruned t (n ∷ ns) h = node-pruned t ns h.1 (nodes-pruned t ns h.1) n.line n.kind h.0

-- ---- what is reached

pub record HereReach (w : Reach) : Type 0 where
  pub passed : AllHere w.passed
  pub beyond : AllHere w.beyond

module _ (limit : ℤ) (terms : List PlainNode → Terms) where
  place-reached : (before : List PlainNode) (n : PlainNode) (rest : List PlainNode) (later : Reach) (b : Breakpoint) → AllHere before → AllHere (n ∷ rest) → HereReach later → HereReach (reach_at_place before n rest later b)
  place-reached before n rest later b front here h = by_stop (is_stop b)
    where
      by_stop : (t : Bool) → HereReach (if t then stopped_at before n rest b else also_reached (tried n.line b) later)
      by_stop true = record { passed = front; beyond = here }
      by_stop false = record { passed = h.passed; beyond = h.beyond }

  at-reached : (before : List PlainNode) (n : PlainNode) (rest : List PlainNode) (later : Reach) (o : Option ℤ) → AllHere before → AllHere (n ∷ rest) → HereReach later → HereReach (reach_at limit terms before n rest later o)
  at-reached before n rest later None front here h = h
  at-reached before n rest later (Some p) front here h = place-reached before n rest later (page_place limit terms before p) front here h

  node-reached : (before : List PlainNode) (l : ℕ) (k : PlainKind) (rest : List PlainNode) (later : Reach) → AllHere before → IsHereKind k → AllHere rest → HereReach later → HereReach (reach_node limit terms before (record { line = l; kind = k }) rest later k)
  node-reached before l (plain m) rest later front here behind h = at-reached before (record { line = l; kind = plain m }) rest later _ front (here, behind) h
  node-reached before l (ins i) rest later front here behind h = h
  node-reached before l (act a) rest later front here behind h = record { passed = h.passed; beyond = h.beyond }

  pub reached-here : (before rest : List PlainNode) → AllHere before → AllHere rest → HereReach (reach_from limit terms before rest)
  reached-here before [] front h = record { passed = front; beyond = tt }
  reached-here before (n ∷ rest) front h =
      node-reached before n.line n.kind rest (reach_from limit terms (before ++ without_acts (n ∷ [])) rest) front h.0 h.1
      (reached-here (before ++ without_acts (n ∷ [])) rest (nodes-join before (without_acts (n ∷ [])) front (actless (n ∷ []) (h.0, tt))) h.1)

-- ---- the insertions of a page

abbrev pub FloatlessLabels : List Labelled → Type 0
FloatlessLabels ls = AllByRecursion (λ l. FloatlessLeaves l.inserted.inner) ls

with-labelled : (z : Frozen) (ls : List Labelled) (before : List PlainNode) (line : ℕ) (k : PlainKind) → FloatlessLabels ls → IsHereKind k → FloatlessLabels (labelled_with z ls before line k)
with-labelled z ls before line (plain m) h g = h
with-labelled z ls before line (ins i) h g = all-join (λ l. FloatlessLeaves l.inserted.inner) ls (record { index = length before; line = line; inserted = i; label = label_of z ls before i } ∷ []) h (g, tt)
with-labelled z ls before line (act a) h g = h

from-labelled : (z : Frozen) (ls : List Labelled) (before ns : List PlainNode) → FloatlessLabels ls → AllHere ns → FloatlessLabels (labelled_from z ls before ns)
from-labelled z ls before [] h g = h
from-labelled z ls before (n ∷ ns) h g = from-labelled z (labelled_with z ls before n.line n.kind) (before ++ n ∷ []) ns (with-labelled z ls before n.line n.kind h g.0) g.1

given : (t : Label) (i : Inserted) → FloatlessLeaves i.inner → FloatlessLeaves (given_by t i)
given whole i h = h
given (split f) i h = all-take (λ l. IsFloatless l.matter) f.index i.inner h
given late i h = tt

all-given : (k : ℕ) (ls : List Labelled) → FloatlessLabels ls → FloatlessLeaves (given_to k ls)
all-given k [] h = tt
all-given k (l ∷ ls) h = by_class (l.inserted.class == k) (all-given k ls h.1)
  where
    by_class : (t : Bool) → FloatlessLeaves (given_to k ls) → FloatlessLeaves (if t then given_by l.label l.inserted ++ given_to k ls else given_to k ls)
    by_class true g = leaves-join (given_by l.label l.inserted) (given_to k ls) (given l.label l.inserted h.0) g
    by_class false g = g

unless-empty : (line : ℕ) (i : Inserted) (ls : List Leaf) → FloatlessLeaves ls → AllHere (on_line line (unless_empty i ls))
unless-empty line i [] h = tt
unless-empty line i (l ∷ ls) h = (h, tt)

held : (line : ℕ) (t : Label) (i : Inserted) → FloatlessLeaves i.inner → AllHere (on_line line (held_of t i))
held line whole i h = tt
held line (split f) i h = unless-empty line i (pruned_leaves i.split_top (drop f.index i.inner)) (leaves-pruned i.split_top (drop f.index i.inner) (all-drop (λ l. IsFloatless l.matter) f.index i.inner h))
held line late i h = (h, tt)

all-held : (ls : List Labelled) → FloatlessLabels ls → AllHere (held_insertions ls)
all-held [] h = tt
all-held (l ∷ ls) h = nodes-join (on_line l.line (held_of l.label l.inserted)) (held_insertions ls) (held l.line l.label l.inserted h.0) (all-held ls h.1)

-- ---- the boxes of the classes

abbrev pub FloatlessContent : Option (List Leaf) → Type 0
FloatlessContent None = Unit {0}
FloatlessContent (Some ls) = FloatlessLeaves ls

abbrev pub FloatlessBoxes : List Boxed → Type 0
FloatlessBoxes bs = AllByRecursion (λ b. FloatlessContent b.content) bs

content-leaves : (o : Option (List Leaf)) → FloatlessContent o → FloatlessLeaves (content_of o)
content-leaves None h = tt
content-leaves (Some ls) h = h

box-given : (ls : List Labelled) (b : Boxed) → FloatlessLabels ls → FloatlessContent b.content → FloatlessContent (box_after ls b).content
box-given ls b h g = by_given (is_given b.number ls)
  where
    by_given : (t : Bool) → FloatlessContent (if t then record b { content = Some (content_of b.content ++ given_to b.number ls) } else b).content
    by_given true = leaves-join (content_of b.content) (given_to b.number ls) (content-leaves b.content g) (all-given b.number ls h)
    by_given false = g

boxes-given : (ls : List Labelled) (bs : List Boxed) → FloatlessLabels ls → FloatlessBoxes bs → FloatlessBoxes (map (box_after ls) bs)
boxes-given ls [] h g = tt
boxes-given ls (b ∷ bs) h g = (box-given ls b h g.0, boxes-given ls bs h g.1)

-- ---- the page that fires

spent : (k : PlainKind) → IsHereKind k → IsHereKind (spent_kind k)
spent (plain (pen p)) h = tt
spent k h = h

spent-break : (ns : List PlainNode) → AllHere ns → AllHere (with_spent_break ns)
spent-break [] h = tt
spent-break (n ∷ ns) h = (spent n.kind h.0, h.1)

pub record HereFired (f : Fired) : Type 0 where
  pub body : AllHere f.body
  pub boxes : FloatlessBoxes f.boxes
  pub held : AllHere f.held
  pub rest : AllHere f.rest

pub fired-here : (z : Frozen) (bs : List Boxed) (w : Reach) → FloatlessBoxes bs → HereReach w → HereFired (fired_by (labelled z (take (page_break w).place w.passed)) bs w)
fired-here z bs w g h =
    let k = (page_break w).place in
    let before = nodes-take k w.passed h.passed in
    let ls = from-labelled z [] [] (take k w.passed) tt before in
    record {
      body = insertless (take k w.passed) before;
      boxes = boxes-given (labelled z (take k w.passed)) bs ls g;
      held = all-held (labelled z (take k w.passed)) ls;
      rest = spent-break (from_break w) (nodes-join (drop k w.passed) w.beyond (all-drop (λ n. IsHereKind n.kind) k w.passed h.passed) h.beyond);
    }
