-- The lists of the pool, by cases, and a value for each of them.
use Rattle.std.proofs.Common.{◌≡◌, ◌≢◌, ◌⊎◌, inl, inr, ℕ, zero, suc, ◌==◌, if◌then◌else◌, List, [], ◌∷◌, Some, slice_get, refl, sym, ap, ◌∙◌}
use Rattle.std.proofs.lemmas.Bool.{cases_eq, eq-eqb, ne_eqb}
use Rattle.tb_float.specs.declared.Part.{Part}
use Rattle.tb_float.specs.declared.Part.TheVariants as parts
use Rattle.tb_float.specs.declared.by_part.ByPart.{ByPart}
use Rattle.tb_float.specs.ByPart.{of_part, with_part}

-- a number for each list
abbrev pub part_index : Part → ℕ
part_index parts.Current = 0
part_index parts.Here = 1
part_index parts.Top = 2
part_index parts.Bottom = 3
part_index parts.Deferred = 4
part_index parts.Double = 5
part_index parts.Second = 6

abbrev pub part_at : ℕ → Part
part_at zero = parts.Current
part_at (suc zero) = parts.Here
part_at (suc (suc zero)) = parts.Top
part_at (suc (suc (suc zero))) = parts.Bottom
part_at (suc (suc (suc (suc zero)))) = parts.Deferred
part_at (suc (suc (suc (suc (suc zero))))) = parts.Double
part_at n = parts.Second

part_at-index : (p : Part) → part_at (part_index p) ≡ p
part_at-index parts.Current = refl
part_at-index p = refl

pub part_index-apart : (p q : Part) → p ≢ q → part_index p ≢ part_index q
part_index-apart p q ne e = ne (sym (part_at-index p) ∙ ap part_at e ∙ part_at-index q)

-- two lists are one or differ
pub part_cases : (p q : Part) → (p ≡ q) ⊎ (p ≢ q)
part_cases p q = elim (cases_eq (part_index p) (part_index q)) [
  | inl e ↦ inl (sym (part_at-index p) ∙ ap part_at e ∙ part_at-index q)
  | inr ne ↦ inr (λ e. ne (ap part_index e))
]

module _ {X : Type 0} where
  -- another value for one list
  abbrev pub put : Part → X → (Part → X) → Part → X
  put p x f q = if part_index q == part_index p then x else f q

  pub put-same : (p : Part) (x : X) (f : Part → X) → put p x f p ≡ x
  put-same p x f = ap (λ b. if b then x else f p) (eq-eqb (part_index p) (part_index p) refl)

  pub put-other : (p q : Part) (x : X) (f : Part → X) → q ≢ p → put p x f q ≡ f q
  put-other p q x f ne = ap (λ b. if b then x else f q) (ne_eqb (part_index q) (part_index p) (part_index-apart q p ne))

  -- ---- a value for each list

  -- the values in the order of the lists
  abbrev pub part_values : ByPart X → List X
  part_values r = r.current ∷ r.here ∷ r.top ∷ r.bottom ∷ r.deferred ∷ r.double ∷ r.second ∷ []

  pub value-at : (p : Part) (r : ByPart X) → slice_get (part_values r) (part_index p) ≡ Some (of_part r p)
  value-at parts.Current r = refl
  value-at p r = refl

  -- what is written for one list is read for it alone
  part-put : (p q : Part) (x : X) (r : ByPart X) → of_part (with_part p x r) q ≡ put p x (of_part r) q
  part-put parts.Current q x r = elim q as (λ s. of_part (with_part parts.Current x r) s ≡ put parts.Current x (of_part r) s) [ parts.Current ↦ refl | _ ↦ refl ]
  part-put p q x r = elim q as (λ s. of_part (with_part p x r) s ≡ put p x (of_part r) s) [ parts.Current ↦ refl | _ ↦ refl ]

  pub part-same : (p : Part) (x : X) (r : ByPart X) → of_part (with_part p x r) p ≡ x
  part-same p x r = part-put p p x r ∙ put-same p x (of_part r)

  pub part-other : (p q : Part) (x : X) (r : ByPart X) → q ≢ p → of_part (with_part p x r) q ≡ of_part r q
  part-other p q x r ne = part-put p q x r ∙ put-other p q x (of_part r) ne

  pub with_part-same : (p : Part) (r : ByPart X) → with_part p (of_part r p) r ≡ r
  with_part-same parts.Current r = refl
  with_part-same p r = refl
