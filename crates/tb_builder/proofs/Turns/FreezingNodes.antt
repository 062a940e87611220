-- A box, a rule or an insertion freezes the goal of its page.
use Rattle.std.proofs.Common.{◌≡◌, refl, sym, Bool, true, false, List, [], ◌∷◌, ◌++◌}
use Rattle.std.specs.Prelude.{◌||◌}
use Rattle.std.proofs.lemmas.Bool.{true≢false, or_right}
use Rattle.tb_node.specs.Shape.{is_box}
use Rattle.tb_node.specs.PlainNodes.{PlainNode, node_shape, is_insertion_kind}
use Rattle.tb_builder.specs.Reach.{holds_box}
use Rattle.tb_builder.specs.Courses.{freezes}

-- a list that freezes the goal does so with more nodes
pub freezes-more : (xs ys : List PlainNode) → freezes xs ≡ true → freezes (xs ++ ys) ≡ true
freezes-more [] ys h = absurd (true≢false (sym h))
freezes-more (x ∷ xs) ys h = by_first (is_box (node_shape x) || is_insertion_kind x.kind) (λ k. freezes-more xs ys k) h
  where
    by_first : (t : Bool) → (freezes xs ≡ true → freezes (xs ++ ys) ≡ true) → (t || freezes xs) ≡ true → (t || freezes (xs ++ ys)) ≡ true
    by_first true more h = refl
    by_first false more h = more h

-- an insertion at the end
pub insertion-freezes : (xs : List PlainNode) (n : PlainNode) → is_insertion_kind n.kind ≡ true → freezes (xs ++ n ∷ []) ≡ true
insertion-freezes [] n h = by_box (is_box (node_shape n)) (is_insertion_kind n.kind) h
  where
    by_box : (t i : Bool) → i ≡ true → ((t || i) || false) ≡ true
    by_box true i h = refl
    by_box false true h = refl
    by_box false false h = absurd (true≢false (sym h))
insertion-freezes (x ∷ xs) n h = or_right (is_box (node_shape x) || is_insertion_kind x.kind) (freezes (xs ++ n ∷ [])) (insertion-freezes xs n h)

-- a box or rule anywhere
pub box-freezes : (xs : List PlainNode) → holds_box xs ≡ true → freezes xs ≡ true
box-freezes [] h = absurd (true≢false (sym h))
box-freezes (x ∷ xs) h = by_first (is_box (node_shape x)) (is_insertion_kind x.kind) (λ k. box-freezes xs k) h
  where
    by_first : (t i : Bool) → (holds_box xs ≡ true → freezes xs ≡ true) → (t || holds_box xs) ≡ true → ((t || i) || freezes xs) ≡ true
    by_first true i more h = refl
    by_first false true more h = refl
    by_first false false more h = more h
