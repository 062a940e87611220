-- The search for the first insertion of a list.
use Rattle.std.proofs.Common.{◌≡◌, refl, sym, subst, ◌∙◌, ap, ℕ, ◌-◌, ◌<◌, false, true, List, [], ◌∷◌, ◌++◌, length, drop, append_assoc, append-nil, length-append, arith}
use Rattle.std.specs.Prelude.{◌||◌}
use Rattle.std.proofs.lemmas.Bool.{true≢false, or_parts}
use Rattle.std.proofs.Math.Seq.{drop-append_seam}
use Rattle.tb_node.specs.declared.Node.{Node}
use Rattle.tb_builder.specs.Firing.{is_insertion, has_insertion, NoInsertions, begins_with_insertion, InsertionAt}

pub none_has : (ns : List Node) → has_insertion ns ≡ false → NoInsertions ns
none_has [] h = tt
none_has (n ∷ ns) h = let parts = or_parts (is_insertion n) (has_insertion ns) h in (parts.0, none_has ns parts.1)

has_none : (ns : List Node) → NoInsertions ns → has_insertion ns ≡ false
has_none [] h = refl
has_none (n ∷ ns) h = ap (λ b. b || has_insertion ns) h.0 ∙ has_none ns h.1

-- this many nodes are left, and none before them is an insertion
pub record Looking (ns rest : List Node) (left : ℕ) : Type 0 where
  pub ahead : List Node
  pub parts : ns ≡ ahead ++ rest
  pub left_is : left ≡ length rest
  pub plain : NoInsertions ahead

plain_more : (ns : List Node) (n : Node) → NoInsertions ns → is_insertion n ≡ false → NoInsertions (ns ++ n ∷ [])
plain_more [] n h e = (e, tt)
plain_more (m ∷ ns) n h e = (h.0, plain_more ns n h.1 e)

module _ (ns : List Node) (n : Node) (rest : List Node) (left : ℕ) (h : Looking ns (n ∷ rest) left) where
  pub looking_next : is_insertion n ≡ false → Looking ns rest (left - 1)
  looking_next e = record {
    ahead = h.ahead ++ n ∷ [];
    parts = h.parts ∙ sym (append_assoc h.ahead (n ∷ []) rest);
    left_is = omega (arith, h.left_is);
    plain = plain_more h.ahead n h.plain e;
  }

-- a list that has an insertion does not end without one
pub looking_ends : (ns rest : List Node) (left : ℕ) → Looking ns rest left → rest ≡ [] → has_insertion ns ≡ true → ⊥
looking_ends ns rest left h e some =
    true≢false (sym some ∙ has_none ns (subst NoInsertions (sym (h.parts ∙ ap (λ ms. h.ahead ++ ms) e ∙ append-nil h.ahead)) h.plain))

-- facts about the first insertion
module _ (ns : List Node) (place : ℕ) (h : InsertionAt ns place) where
  pub place_within : place < length ns
  place_within = by_rest h.behind h.parts h.first
    where
      by_rest : (rest : List Node) → ns ≡ h.ahead ++ rest → begins_with_insertion rest ≡ true → place < length ns
      by_rest [] e first = absurd (true≢false (sym first))
      by_rest (n ∷ rest) e first = omega (arith, h.place_is, ap length e, length-append h.ahead (n ∷ rest))

  pub place_first : begins_with_insertion (drop place ns) ≡ true
  place_first = ap begins_with_insertion ((λ j. drop (h.place_is j) (h.parts j)) ∙ drop-append_seam h.ahead h.behind) ∙ h.first
