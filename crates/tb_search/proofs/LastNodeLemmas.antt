-- The last node of a list that is no act, and what is told of a list by it alone.
use Rattle.std.proofs.Common.{◌≡◌, refl, sym, ◌∙◌, ap, ℕ, zero, suc, ◌≤◌, Bool, true, false, List, [], ◌∷◌, length, take, Option, Some, None, arith}
use Rattle.std.proofs.lemmas.Option.{none-some}
use Rattle.std.specs.Prelude.{slice_get, if◌then◌else◌}
use Rattle.tb_node.specs.declared.Kind.{Kind}
use Rattle.tb_node.specs.declared.Node.{Node}
use Rattle.tb_search.specs.LastNodes.{is_act_kind, but_act, or_this, last_but_acts}

some-same : (x n : Node) → Some x ≡ Some n → x ≡ n
some-same x n e = cc

-- ---- a walk from the end

-- this one, or one before it if it is an act
abbrev pub this_or : Node → Option Node → Option Node
this_or n o = if is_act_kind n.kind then o else Some n

one-only : (x n : Node) → Some x ≡ Some n → but_act x ≡ this_or n None
one-only x n e = ap but_act (some-same x n e)

one-more : (t : Bool) (n : Node) (o p : Option Node) → or_this (if t then o else Some n) p ≡ (if t then or_this o p else Some n)
one-more true n o p = refl
one-more false n o p = refl

-- with one node more
pub last-with : (xs : List Node) (k : ℕ) (n : Node) → slice_get xs k ≡ Some n → last_but_acts (take (suc k) xs) ≡ this_or n (last_but_acts (take k xs))
last-with [] k n e = absurd (none-some n e)
last-with (x ∷ xs) zero n e = one-only x n e
last-with (x ∷ xs) (suc k) n e = ap (λ o. or_this o (but_act x)) (last-with xs k n e) ∙ one-more (is_act_kind n.kind) n (last_but_acts (take k xs)) (but_act x)

pub take-whole : (xs : List Node) (k : ℕ) → length xs ≤ k → take k xs ≡ xs
take-whole [] zero h = refl
take-whole [] (suc k) h = refl
take-whole (x ∷ xs) zero h = absurd (omega (arith, h))
take-whole (x ∷ xs) (suc k) h = ap (λ ys. x ∷ ys) (take-whole xs k (omega (arith, h)))

-- ---- what is told by the last node alone

-- what is told of a list, one node after another, if it was this before
abbrev pub folded : (Bool → Kind → Bool) → Bool → List Node → Bool
folded f t [] = t
folded f t (n ∷ ns) = folded f (f t n.kind) ns

-- what is told by a node, or this
abbrev pub told_by : (Bool → Kind → Bool) → Bool → Option Node → Bool
told_by f t None = t
told_by f t (Some n) = f t n.kind

-- at an act nothing changes, and at any other node what was before is of no account
pub record IsToldByLast (f : Bool → Kind → Bool) : Type 0 where
  pub acts : (t : Bool) (k : Kind) → is_act_kind k ≡ true → f t k ≡ t
  pub others : (t u : Bool) (k : Kind) → is_act_kind k ≡ false → f t k ≡ f u k

but-act-told : (f : Bool → Kind → Bool) → IsToldByLast f → (t : Bool) (n : Node) (a : Bool) → is_act_kind n.kind ≡ a → f t n.kind ≡ told_by f t (if a then None else Some n)
but-act-told f h t n true e = h.acts t n.kind e
but-act-told f h t n false e = refl

-- a node that is left is no act
left-other : (x m : Node) (a : Bool) → is_act_kind x.kind ≡ a → (if a then None else Some x) ≡ Some m → is_act_kind m.kind ≡ false
left-other x m true is e = absurd (none-some m e)
left-other x m false is e = sym (ap (λ (n : Node). is_act_kind n.kind) (some-same x m e)) ∙ is

first-other : (x m : Node) (o : Option Node) → (o ≡ Some m → is_act_kind m.kind ≡ false) → or_this o (but_act x) ≡ Some m → is_act_kind m.kind ≡ false
first-other x m None h e = left-other x m (is_act_kind x.kind) refl e
first-other x m (Some n) h e = h e

-- the last one is no act
last-is-other : (xs : List Node) (m : Node) → last_but_acts xs ≡ Some m → is_act_kind m.kind ≡ false
last-is-other [] m e = absurd (none-some m e)
last-is-other (x ∷ xs) m e = first-other x m (last_but_acts xs) (λ is. last-is-other xs m is) e

-- the last node that is no act tells all
pub told-by-last : (f : Bool → Kind → Bool) → IsToldByLast f → (t : Bool) (xs : List Node) → folded f t xs ≡ told_by f t (last_but_acts xs)
told-by-last f h t [] = refl
told-by-last f h t (x ∷ xs) = told-by-last f h (f t x.kind) xs ∙ by-last (last_but_acts xs) refl
  where
    by-last : (o : Option Node) → last_but_acts xs ≡ o → told_by f (f t x.kind) o ≡ told_by f t (or_this o (but_act x))
    by-last None is = but-act-told f h t x (is_act_kind x.kind) refl
    by-last (Some m) is = h.others (f t x.kind) t m.kind (last-is-other xs m is)
