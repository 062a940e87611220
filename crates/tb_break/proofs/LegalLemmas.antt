-- The places of a list, by their number.
use Rattle.std.proofs.Common.{◌≡◌, refl, sym, ◌∙◌, ap, ℕ, zero, suc, ◌<◌, ◌≤◌, Bool, true, List, [], ◌∷◌, ◌++◌, length, take, drop, map, slice_get, None, Some, arith}
use Rattle.std.specs.Prelude.{not, nat_le, nat_eq, if◌then◌else◌}
use Rattle.std.proofs.lemmas.Bool.Decides.{nat_tests}
use Rattle.std.proofs.lemmas.List.{length-map}
use Rattle.tb_scaled.specs.Scaled.{eject_penalty}
use Rattle.tb_node.specs.declared.Node.{Node}
use Rattle.tb_node.specs.Shape.{Shape, box, is_discardable}
use Rattle.tb_node.specs.PlainNodes.{shape_of}
use Rattle.tb_break.specs.Places.{ends_lasting, begins_with_glue, split_penalty, legal_at}
use Rattle.tb_break.specs.SplitPlace.{penalty_by, is_glue}
use Rattle.tb_break.proofs.FindLemmas.{legal_is, ends_with}

begins_is : (n : Shape) (rest : List Shape) → begins_with_glue (n ∷ rest) ≡ is_glue n
begins_is (box h d) rest = refl
begins_is n rest = refl

-- the node at a place is the first of the rest there
pub node_at : (ns : List Node) (k : ℕ) (n : Node) → Some n ≡ slice_get ns k → drop k (map shape_of ns) ≡ shape_of n ∷ drop (suc k) (map shape_of ns)
node_at [] k n e = cc
node_at (m ∷ ms) zero n e = ap (λ s. s ∷ map shape_of ms) (same m n (sym e))
  where
    same : (m n : Node) → Some m ≡ Some n → shape_of m ≡ shape_of n
    same m n e = ap shape_of (inside m n e)
      where
        inside : (m n : Node) → Some m ≡ Some n → m ≡ n
        inside m n e = cc
node_at (m ∷ ms) (suc k) n e = node_at ms k n e

-- and it is the last of what comes before the next place
pub node_before : (ns : List Node) (k : ℕ) (n : Node) → Some n ≡ slice_get ns k → take (suc k) (map shape_of ns) ≡ take k (map shape_of ns) ++ shape_of n ∷ []
node_before [] k n e = cc
node_before (m ∷ ms) zero n e = ap (λ x. shape_of x ∷ []) (inside m n e)
  where
    inside : (m n : Node) → Some n ≡ Some m → m ≡ n
    inside m n e = cc
node_before (m ∷ ms) (suc k) n e = ap (λ xs. shape_of m ∷ xs) (node_before ms k n e)

pub node_within : (ns : List Node) (k : ℕ) (n : Node) → Some n ≡ slice_get ns k → k < length ns
node_within [] k n e = cc
node_within (m ∷ ms) zero n e = omega arith
node_within (m ∷ ms) (suc k) n e = let h : k < length ms = node_within ms k n e in omega arith

pub none_within : (ns : List Node) (k : ℕ) → None ≡ slice_get ns k → length ns ≤ k
none_within [] k e = omega arith
none_within (m ∷ ms) zero e = cc
none_within (m ∷ ms) (suc k) e = let h : length ms ≤ k = none_within ms k e in omega arith

pub none_at : (ns : List Node) (k : ℕ) → None ≡ slice_get ns k → drop k (map shape_of ns) ≡ []
none_at [] zero e = refl
none_at [] (suc k) e = refl
none_at (m ∷ ms) zero e = cc
none_at (m ∷ ms) (suc k) e = none_at ms k e

pub glue_there : (ns : List Node) (k : ℕ) (n : Node) → Some n ≡ slice_get ns k → is_glue (shape_of n) ≡ begins_with_glue (drop k (map shape_of ns))
glue_there ns k n e = sym (ap begins_with_glue (node_at ns k n e) ∙ begins_is (shape_of n) (drop (suc k) (map shape_of ns)))

pub lasting_there : (ns : List Node) (k : ℕ) (n : Node) → Some n ≡ slice_get ns k → not (is_discardable (shape_of n)) ≡ ends_lasting (take (suc k) (map shape_of ns))
lasting_there ns k n e = sym (ap ends_lasting (node_before ns k n e) ∙ ends_with (take k (map shape_of ns)) (shape_of n))

if_true : {X : Type 0} (t : Bool) (x y : X) → t ≡ true → (if t then x else y) ≡ x
if_true t x y e = ap (λ b. if b then x else y) e

pub le_true : (k n : ℕ) → k ≤ n → nat_le k n ≡ true
le_true k n h = grind (arith, nat_tests)

-- the place before a node
pub legal_before : (ns : List Node) (k : ℕ) (n : Node) → Some n ≡ slice_get ns k
    → penalty_by (ends_lasting (take k (map shape_of ns))) (begins_with_glue (drop (suc k) (map shape_of ns))) (shape_of n) ≡ legal_at (map shape_of ns) k
legal_before ns k n e =
    let before = take k (map shape_of ns) in
    let rest = drop (suc k) (map shape_of ns) in
    sym (legal_is before (shape_of n) rest)
    ∙ ap (split_penalty before) (sym (node_at ns k n e))
    ∙ sym (if_true (nat_le k (length (map shape_of ns))) (split_penalty before (drop k (map shape_of ns))) None
    (let h = node_within ns k n e in le_true k (length (map shape_of ns)) (omega (arith, h, length-map ns shape_of))))

-- the list's end, and what is past it
pub legal_end : (ns : List Node) (k : ℕ) → None ≡ slice_get ns k → (if nat_eq k (length ns) then Some eject_penalty else None) ≡ legal_at (map shape_of ns) k
legal_end ns k e = tested (none_within ns k e) ∙ sym (ap (λ rest. if nat_le k (length (map shape_of ns)) then split_penalty (take k (map shape_of ns)) rest else None) (none_at ns k e))
  where
    tested : length ns ≤ k → (if nat_eq k (length ns) then Some eject_penalty else None) ≡ (if nat_le k (length (map shape_of ns)) then Some eject_penalty else None)
    tested le = ap (λ t. if t then Some eject_penalty else None) (same_test k (length ns) le ∙ ap (nat_le k) (sym (length-map ns shape_of)))
      where
        same_test : (k n : ℕ) → n ≤ k → nat_eq k n ≡ nat_le k n
        same_test k n le = grind (arith, nat_tests)
