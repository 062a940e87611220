-- The contents of a new builder are sized, and stay so when nodes are contributed or put back and when a box is taken.
use Rattle.std.proofs.Common.{◌≡◌, refl, subst, ◌∙◌, ap, ℕ, ◌+◌, ◌≤◌, pos, Bool, true, false, List, [], ◌∷◌, ◌++◌, None, arith}
use Rattle.std.specs.Prelude.{All, if◌then◌else◌, ◌==◌}
use Rattle.std.proofs.lemmas.List.Elements.{All-nil, All-cons, All-head, All-tail, All-append}
use Rattle.tb_node.specs.Fit.{IsSizedLeaf}
use Rattle.tb_node.specs.PlainNodes.{PlainNode}
use Rattle.tb_break.specs.PageTop.{pruned_nodes}
use Rattle.tb_insert.specs.declared.Class.{Class}
use Rattle.tb_builder.specs.Reach.{holds_box}
use Rattle.tb_builder.specs.FiredPages.{Boxed}
use Rattle.tb_builder.specs.Contents.{Contents, node_count}
use Rattle.tb_builder.specs.Contributions.{voided, with_void}
use Rattle.tb_builder.specs.Pageable.{IsSizedOnPage, IsSizedBox}
use Rattle.tb_builder.specs.SizedContents.{laid_by, IsSizedContents, AreBoxesOf}
use Rattle.tb_builder.proofs.Ranges.PageableLemmas.{count-append, pruned_sized, pruned_nodes_longer}
use Rattle.tb_builder.proofs.Ranges.PrunedLemmas.{no_skip, pruned_more, pruned_more-sized, front-sized, back-sized, whole_by, whole_by-is}

-- ---- a builder is made

-- ---- what waits is known

laid_plain : (s t : Bool) (page waiting : List PlainNode) → All IsSizedOnPage page → All IsSizedOnPage waiting → All IsSizedOnPage (whole_by s t page waiting)
laid_plain true t page waiting h k = All-append IsSizedOnPage page waiting h k
laid_plain false true page waiting h k = All-append IsSizedOnPage page waiting h k
laid_plain false false page waiting h k = All-append IsSizedOnPage page (pruned_nodes (pos 0) waiting) h (pruned_sized (pos 0) waiting no_skip k)

laid_count : (s t : Bool) (page waiting : List PlainNode) → node_count (whole_by s t page waiting) ≤ node_count page + node_count waiting + 1
laid_count true t page waiting = let e = count-append page waiting in omega (arith, e)
laid_count false true page waiting = let e = count-append page waiting in omega (arith, e)
laid_count false false page waiting = let e = count-append page (pruned_nodes (pos 0) waiting) in let h = pruned_nodes_longer (pos 0) waiting in omega (arith, e, h)

-- the page so far and what waits as one list are sized if both are, and have at most one more node
pub list-sized : (s : Bool) (page waiting : List PlainNode) → All IsSizedOnPage page → All IsSizedOnPage waiting → All IsSizedOnPage (laid_by s page waiting)
list-sized s page waiting h k = subst (All IsSizedOnPage) (whole_by-is s page waiting) (laid_plain s (holds_box page) page waiting h k)

pub list-count : (s : Bool) (page waiting : List PlainNode) → node_count (laid_by s page waiting) ≤ node_count page + node_count waiting + 1
list-count s page waiting = let e = ap node_count (whole_by-is s page waiting) in let h = laid_count s (holds_box page) page waiting in omega (arith, e, h)

-- ---- nodes are contributed

module _ (ms : List PlainNode) where
  more_by : (s t : Bool) (page waiting : List PlainNode) → All IsSizedOnPage ms → All IsSizedOnPage (whole_by s t page waiting)
      → All IsSizedOnPage (whole_by s t page (waiting ++ ms))
  more_by true t page waiting r h = All-append IsSizedOnPage page (waiting ++ ms) (front-sized page waiting h) (All-append IsSizedOnPage waiting ms (back-sized page waiting h) r)
  more_by false true page waiting r h = All-append IsSizedOnPage page (waiting ++ ms) (front-sized page waiting h) (All-append IsSizedOnPage waiting ms (back-sized page waiting h) r)
  more_by false false page waiting r h =
      All-append IsSizedOnPage page (pruned_nodes (pos 0) (waiting ++ ms)) (front-sized page (pruned_nodes (pos 0) waiting) h)
      (pruned_more-sized (pos 0) no_skip ms r waiting (back-sized page (pruned_nodes (pos 0) waiting) h))

  more_count : (s t : Bool) (page waiting : List PlainNode)
      → node_count (whole_by s t page (waiting ++ ms)) ≤ node_count (whole_by s t page waiting) + node_count ms + 1
  more_count true t page waiting = let a = count-append page (waiting ++ ms) in let b = count-append waiting ms in let c = count-append page waiting in omega (arith, a, b, c)
  more_count false true page waiting = let a = count-append page (waiting ++ ms) in let b = count-append waiting ms in let c = count-append page waiting in omega (arith, a, b, c)
  more_count false false page waiting = let a = count-append page (pruned_nodes (pos 0) (waiting ++ ms)) in let b = pruned_more (pos 0) ms waiting in let c = count-append page (pruned_nodes (pos 0) waiting) in omega (arith, a, b, c)

-- ---- a box is taken

voided_sized : (k : ℕ) (b : Boxed) → IsSizedBox b → IsSizedBox (voided k b)
voided_sized k b h = by_test (b.number == k)
  where
    by_test : (t : Bool) → IsSizedBox (if t then record b { content = None } else b)
    by_test true = All-nil IsSizedLeaf
    by_test false = h

pub voided_number : (k : ℕ) (b : Boxed) → (voided k b).number ≡ b.number
voided_number k b = by_test (b.number == k)
  where
    by_test : (t : Bool) → (if t then record b { content = None } else b).number ≡ b.number
    by_test true = refl
    by_test false = refl

voids_sized : (k : ℕ) (bs : List Boxed) → All IsSizedBox bs → All IsSizedBox (with_void k bs)
voids_sized k [] h = All-nil IsSizedBox
voids_sized k (b ∷ bs) h = All-cons IsSizedBox (voided k b) (with_void k bs) (voided_sized k b (All-head IsSizedBox b bs h)) (voids_sized k bs (All-tail IsSizedBox b bs h))

-- each class still has its box
pub voids_boxed : (k : ℕ) (cs : List Class) (bs : List Boxed) → AreBoxesOf cs bs → AreBoxesOf cs (with_void k bs)
voids_boxed k [] [] h = tt
voids_boxed k [] (b ∷ bs) h = absurd h
voids_boxed k (c ∷ cs) [] h = absurd h
voids_boxed k (c ∷ cs) (b ∷ bs) h = (voided_number k b ∙ h.0, voids_boxed k cs bs h.1)

pub taken-sized : (c : Contents) (k : ℕ) → IsSizedContents c → IsSizedContents (record c { boxes = with_void k c.boxes })
taken-sized c k h = record {
  nodes = h.nodes;
  held = h.held;
  boxes = voids_sized k c.boxes h.boxes;
  classes = h.classes;
  classes_fit = h.classes_fit;
  frozen = h.frozen;
}
