-- A pruned list: how many nodes it has, and that they are sized, also under another top skip and with more nodes.
use Rattle.std.proofs.Common.{◌≡◌, refl, ap, ℕ, suc, ◌+◌, ◌≤◌, ℤ, pos, Bool, true, false, List, [], ◌∷◌, ◌++◌, length, map, arith}
use Rattle.std.specs.Prelude.{All, if◌then◌else◌}
use Rattle.std.specs.List.{AllByRecursion}
use Rattle.std.proofs.lemmas.Int.{ints}
use Rattle.std.proofs.lemmas.List.Elements.{All-from_recursion, recursion_from_All}
use Rattle.tb_node.specs.Fit.{IsExtent}
use Rattle.tb_node.specs.PlainNodes.{Matter, hbox, rule, skip, kerned, pen, matter_shape, Leaf, leaf_shape, PlainKind, plain, ins, PlainNode, kind_shape, node_shape}
use Rattle.tb_break.specs.PageTop.{pruned_leaves, pruned_nodes}
use Rattle.tb_builder.specs.Reach.{holds_box}
use Rattle.tb_builder.specs.Contents.{kind_count, node_count}
use Rattle.tb_builder.specs.Pageable.{IsSizedOnPage}
use Rattle.tb_builder.specs.SizedContents.{laid_by}
use Rattle.tb_builder.proofs.Ranges.PageableLemmas.{count-append, glue_sized, pruned_sized, pruned_nodes_longer}
use Rattle.tb_builder.proofs.Cutting.VanishLemmas.{BeginsVanishing}

pub no_skip : IsExtent (pos 0)
no_skip = record { low = omega (arith, ints); high = omega (arith, ints) }

-- ---- how many there are

leaf_longer : (t : ℤ) (n : ℕ) (m : Matter) (ls : List Leaf) → length (pruned_leaves t ls) ≤ length ls + 1 → length (pruned_leaves t (record { line = n; matter = m } ∷ ls)) ≤ length ls + 2
leaf_longer t n (hbox w a b) ls h = omega arith
leaf_longer t n (rule w a b) ls h = omega arith
leaf_longer t n m ls h = omega (arith, h)

pub pruned_leaves_longer : (t : ℤ) (ls : List Leaf) → length (pruned_leaves t ls) ≤ length ls + 1
pruned_leaves_longer t [] = omega arith
pruned_leaves_longer t (l ∷ ls) = let h = leaf_longer t l.line l.matter ls (pruned_leaves_longer t ls) in omega (arith, h)

vanished : (t : ℤ) (n : ℕ) (m : Matter) (ls : List Leaf) → BeginsVanishing (matter_shape m ∷ map leaf_shape ls) → length (pruned_leaves t (record { line = n; matter = m } ∷ ls)) ≤ suc (length ls)
vanished t n (skip g) ls v = let h = pruned_leaves_longer t ls in omega (arith, h)
vanished t n (kerned w) ls v = let h = pruned_leaves_longer t ls in omega (arith, h)
vanished t n (pen p) ls v = let h = pruned_leaves_longer t ls in omega (arith, h)
vanished t n m ls v = let no : ⊥ = grind (arith, v) in absurd no

-- if the first node vanishes, the glue at the top takes its place
pub pruned_no_longer : (t : ℤ) (ls : List Leaf) → BeginsVanishing (map leaf_shape ls) → length (pruned_leaves t ls) ≤ length ls
pruned_no_longer t [] v = omega arith
pruned_no_longer t (l ∷ ls) v = vanished t l.line l.matter ls v

-- ---- sized nodes

-- the same as `All`, by recursion on the list
abbrev AreSized : List PlainNode → Type 0
AreSized = AllByRecursion IsSizedOnPage

both : (xs ys : List PlainNode) → AreSized xs → AreSized ys → AreSized (xs ++ ys)
both [] ys h k = k
both (x ∷ xs) ys h k = (h.0, both xs ys h.1 k)

-- ---- under another top skip

module _ (t u : ℤ) (d : IsExtent u) where
  node_again : (n : ℕ) (k : PlainKind) (ns : List PlainNode) → (AreSized (pruned_nodes t ns) → AreSized (pruned_nodes u ns)) → AreSized (pruned_nodes t (record { line = n; kind = k } ∷ ns)) → AreSized (pruned_nodes u (record { line = n; kind = k } ∷ ns))
  node_again n (plain (hbox w a b)) ns later h = (record { shape = glue_sized u a d h.1.0.shape.0; kind = tt }, h.1)
  node_again n (plain (rule w a b)) ns later h = (record { shape = glue_sized u a d h.1.0.shape.0; kind = tt }, h.1)
  node_again n (plain (skip g)) ns later h = later h
  node_again n (plain (kerned w)) ns later h = later h
  node_again n (plain (pen p)) ns later h = later h
  node_again n k ns later h = (h.0, later h.1)

  again_by : (ns : List PlainNode) → AreSized (pruned_nodes t ns) → AreSized (pruned_nodes u ns)
  again_by [] h = tt
  again_by (n ∷ ns) h = node_again n.line n.kind ns (again_by ns) h

  pub pruned_again : (ns : List PlainNode) → All IsSizedOnPage (pruned_nodes t ns) → All IsSizedOnPage (pruned_nodes u ns)
  pruned_again ns h = All-from_recursion IsSizedOnPage (pruned_nodes u ns) (again_by ns (recursion_from_All IsSizedOnPage (pruned_nodes t ns) h))

module _ (t u : ℤ) where
  node_same : (n : ℕ) (k : PlainKind) (ns : List PlainNode) → node_count (pruned_nodes t ns) ≡ node_count (pruned_nodes u ns) → node_count (pruned_nodes t (record { line = n; kind = k } ∷ ns)) ≡ node_count (pruned_nodes u (record { line = n; kind = k } ∷ ns))
  node_same n (plain (hbox w a b)) ns h = refl
  node_same n (plain (rule w a b)) ns h = refl
  node_same n (plain (skip g)) ns h = h
  node_same n (plain (kerned w)) ns h = h
  node_same n (plain (pen p)) ns h = h
  node_same n (ins i) ns h = ap (λ m. (1 + length i.inner) + m) h
  node_same n k ns h = ap (λ m. 1 + m) h

  pub pruned_same : (ns : List PlainNode) → node_count (pruned_nodes t ns) ≡ node_count (pruned_nodes u ns)
  pruned_same [] = refl
  pruned_same (n ∷ ns) = node_same n.line n.kind ns (pruned_same ns)

-- ---- if the first node vanishes

node_vanished : (t : ℤ) (n : ℕ) (k : PlainKind) (ns : List PlainNode) → BeginsVanishing (kind_shape k ∷ map node_shape ns) → node_count (pruned_nodes t (record { line = n; kind = k } ∷ ns)) ≤ kind_count k + node_count ns
node_vanished t n (plain (skip g)) ns v = let h = pruned_nodes_longer t ns in omega (arith, h)
node_vanished t n (plain (kerned w)) ns v = let h = pruned_nodes_longer t ns in omega (arith, h)
node_vanished t n (plain (pen p)) ns v = let h = pruned_nodes_longer t ns in omega (arith, h)
node_vanished t n k ns v = let no : ⊥ = grind (arith, v) in absurd no

pub nodes_no_longer : (t : ℤ) (ns : List PlainNode) → BeginsVanishing (map node_shape ns) → node_count (pruned_nodes t ns) ≤ node_count ns
nodes_no_longer t [] v = omega arith
nodes_no_longer t (n ∷ ns) v = node_vanished t n.line n.kind ns v

-- ---- more nodes at the end

module _ (t : ℤ) (d : IsExtent t) (ms : List PlainNode) (r : All IsSizedOnPage ms) where
  more_ranged : (n : ℕ) (k : PlainKind) (ns : List PlainNode) → (AreSized (pruned_nodes t ns) → AreSized (pruned_nodes t (ns ++ ms))) → AreSized (pruned_nodes t (record { line = n; kind = k } ∷ ns)) → AreSized (pruned_nodes t (record { line = n; kind = k } ∷ (ns ++ ms)))
  more_ranged n (plain (hbox w a b)) ns later h = (h.0, (h.1.0, both ns ms h.1.1 (recursion_from_All IsSizedOnPage ms r)))
  more_ranged n (plain (rule w a b)) ns later h = (h.0, (h.1.0, both ns ms h.1.1 (recursion_from_All IsSizedOnPage ms r)))
  more_ranged n (plain (skip g)) ns later h = later h
  more_ranged n (plain (kerned w)) ns later h = later h
  more_ranged n (plain (pen p)) ns later h = later h
  more_ranged n k ns later h = (h.0, later h.1)

  more_by : (ns : List PlainNode) → AreSized (pruned_nodes t ns) → AreSized (pruned_nodes t (ns ++ ms))
  more_by [] h = recursion_from_All IsSizedOnPage (pruned_nodes t ms) (pruned_sized t ms d r)
  more_by (n ∷ ns) h = more_ranged n.line n.kind ns (more_by ns) h

  pub pruned_more-sized : (ns : List PlainNode) → All IsSizedOnPage (pruned_nodes t ns) → All IsSizedOnPage (pruned_nodes t (ns ++ ms))
  pruned_more-sized ns h = All-from_recursion IsSizedOnPage (pruned_nodes t (ns ++ ms)) (more_by ns (recursion_from_All IsSizedOnPage (pruned_nodes t ns) h))

module _ (t : ℤ) (ms : List PlainNode) where
  more_count : (n : ℕ) (k : PlainKind) (ns : List PlainNode) → node_count (pruned_nodes t (ns ++ ms)) ≤ node_count (pruned_nodes t ns) + node_count ms + 1 → node_count (pruned_nodes t (record { line = n; kind = k } ∷ (ns ++ ms))) ≤ node_count (pruned_nodes t (record { line = n; kind = k } ∷ ns)) + node_count ms + 1
  more_count n (plain (hbox w a b)) ns h = let e = count-append ns ms in omega (arith, e)
  more_count n (plain (rule w a b)) ns h = let e = count-append ns ms in omega (arith, e)
  more_count n (plain (skip g)) ns h = h
  more_count n (plain (kerned w)) ns h = h
  more_count n (plain (pen p)) ns h = h
  more_count n k ns h = omega (arith, h)

  pub pruned_more : (ns : List PlainNode) → node_count (pruned_nodes t (ns ++ ms)) ≤ node_count (pruned_nodes t ns) + node_count ms + 1
  pruned_more [] = let h = pruned_nodes_longer t ms in omega (arith, h)
  pruned_more (n ∷ ns) = more_count n.line n.kind ns (pruned_more ns)

-- ---- parts of sized lists

front_by : (xs ys : List PlainNode) → AreSized (xs ++ ys) → AreSized xs
front_by [] ys h = tt
front_by (x ∷ xs) ys h = (h.0, front_by xs ys h.1)

back_by : (xs ys : List PlainNode) → AreSized (xs ++ ys) → AreSized ys
back_by [] ys h = h
back_by (x ∷ xs) ys h = back_by xs ys h.1

pub front-sized : (xs ys : List PlainNode) → All IsSizedOnPage (xs ++ ys) → All IsSizedOnPage xs
front-sized xs ys h = All-from_recursion IsSizedOnPage xs (front_by xs ys (recursion_from_All IsSizedOnPage (xs ++ ys) h))

pub back-sized : (xs ys : List PlainNode) → All IsSizedOnPage (xs ++ ys) → All IsSizedOnPage ys
back-sized xs ys h = All-from_recursion IsSizedOnPage ys (back_by xs ys (recursion_from_All IsSizedOnPage (xs ++ ys) h))

-- ---- the page so far and what waits

-- by whether the page has a box
abbrev pub laid_with : Bool → ℤ → List PlainNode → List PlainNode → List PlainNode
laid_with t top page waiting = page ++ (if t then waiting else pruned_nodes top waiting)

-- the page so far and what waits as one list, by whether a stop was tried last and whether the page has a box
abbrev pub whole_by : Bool → Bool → List PlainNode → List PlainNode → List PlainNode
whole_by true t page waiting = page ++ waiting
whole_by false t page waiting = laid_with t (pos 0) page waiting

pub whole_by-is : (s : Bool) (page waiting : List PlainNode) → whole_by s (holds_box page) page waiting ≡ laid_by s page waiting
whole_by-is true page waiting = refl
whole_by-is false page waiting = refl
