-- How much raises a page: an insertion of class 255 counts as the nodes of its list other than glue, and at least one; so does its box, unless it is void.
use Rattle.std.proofs.Common.{◌≡◌, refl, ap, ℕ, zero, suc, ◌+◌, ◌==◌, ℤ, max, List, [], ◌∷◌, ◌++◌, take, drop, Option, Some, None, arith}
use Rattle.std.specs.Prelude.{if◌then◌else◌}
use Rattle.tb_node.specs.PlainNodes.{Matter, hbox, skip, Leaf, PlainKind, plain, ins, act, PlainNode, without_acts, without_insertions}
use Rattle.tb_break.specs.PageTop.{pruned_nodes}
use Rattle.tb_builder.specs.FiredPages.{Boxed, box_content, spent_kind, with_spent_break}
use Rattle.tb_output.specs.State.{State}

-- a node of an insertion's list counts, unless it is glue
abbrev pub leaf_count : Matter → ℕ
leaf_count (skip g) = 0
leaf_count m = 1

-- how many of a list count
abbrev pub leaves_count : List Leaf → ℕ
leaves_count [] = 0
leaves_count (l ∷ ls) = leaf_count l.matter + leaves_count ls

-- the count of a list, or one
abbrev pub list_raises : List Leaf → ℕ
list_raises ls = max 1 (leaves_count ls)

-- an insertion of class 255 raises a page
abbrev pub kind_raises : PlainKind → ℕ
kind_raises (plain m) = 0
kind_raises (ins i) = if i.class == 255 then list_raises i.inner else 0
kind_raises (act a) = 0

-- how much these nodes raise pages
abbrev pub raises : List PlainNode → ℕ
raises [] = 0
raises (n ∷ ns) = kind_raises n.kind + raises ns

-- the same of what a box holds
abbrev pub content_raises : Option (List Leaf) → ℕ
content_raises None = 0
content_raises (Some ls) = list_raises ls

-- the same of the box of class 255
abbrev pub box_raises : List Boxed → ℕ
box_raises bs = content_raises (box_content bs 255)

-- the same of all that is between two firings
abbrev pub state_raises : State → ℕ
state_raises s = raises s.waiting + raises s.held_page + box_raises s.boxes

pub raises-append : (xs ys : List PlainNode) → raises (xs ++ ys) ≡ raises xs + raises ys
raises-append [] ys = omega arith
raises-append (x ∷ xs) ys = let h : raises (xs ++ ys) ≡ raises xs + raises ys = raises-append xs ys in omega arith

pub raises-parts : (k : ℕ) (ns : List PlainNode) → raises (take k ns) + raises (drop k ns) ≡ raises ns
raises-parts zero ns = omega arith
raises-parts (suc k) [] = omega arith
raises-parts (suc k) (n ∷ ns) = let h : raises (take k ns) + raises (drop k ns) ≡ raises ns = raises-parts k ns in omega arith

-- ---- a page takes all that raises it

pruned-kind : (t : ℤ) (ns : List PlainNode) → raises (pruned_nodes t ns) ≡ raises ns → (l : ℕ) (k : PlainKind) → raises (pruned_nodes t (record { line = l; kind = k } ∷ ns)) ≡ kind_raises k + raises ns
pruned-kind t ns h l (plain (hbox w a d)) = omega arith
pruned-kind t ns h l k = omega arith

pub raises-pruned : (t : ℤ) (ns : List PlainNode) → raises (pruned_nodes t ns) ≡ raises ns
raises-pruned t [] = refl
raises-pruned t (n ∷ ns) = pruned-kind t ns (raises-pruned t ns) n.line n.kind

acts-kind : (ns : List PlainNode) → raises (without_acts ns) ≡ raises ns → (l : ℕ) (k : PlainKind) → raises (without_acts (record { line = l; kind = k } ∷ ns)) ≡ kind_raises k + raises ns
acts-kind ns h l (plain m) = omega arith
acts-kind ns h l k = omega arith

pub raises-actless : (ns : List PlainNode) → raises (without_acts ns) ≡ raises ns
raises-actless [] = refl
raises-actless (n ∷ ns) = acts-kind ns (raises-actless ns) n.line n.kind

spent-kind : (k : PlainKind) → kind_raises (spent_kind k) ≡ kind_raises k
spent-kind (plain (hbox w a d)) = refl
spent-kind k = refl

pub raises-spent : (ns : List PlainNode) → raises (with_spent_break ns) ≡ raises ns
raises-spent [] = refl
raises-spent (n ∷ ns) = ap (λ x. x + raises ns) (spent-kind n.kind)

body-kind : (ns : List PlainNode) → raises (without_insertions ns) ≡ 0 → (l : ℕ) (k : PlainKind) → raises (without_insertions (record { line = l; kind = k } ∷ ns)) ≡ 0
body-kind ns h l (plain m) = omega arith
body-kind ns h l k = omega arith

-- the rest of the page's list raises nothing
pub body-raises : (ns : List PlainNode) → raises (without_insertions ns) ≡ 0
body-raises [] = refl
body-raises (n ∷ ns) = body-kind ns (body-raises ns) n.line n.kind
