-- What the records of a run say of a float's line: whether the float was placed in the text, and whether a column
-- without it was put out after that.
use Rattle.std.proofs.Common.{◌≡◌, refl, sym, ◌∙◌, ap, subst, ℕ, ◌⊎◌, inl, inr, true, List, [], ◌∷◌, ◌++◌, append_assoc, append-nil}
use Rattle.tb_node.specs.declared.Where.TheVariants as places
use Rattle.tb_column.specs.Column.{PlainColumn}
use Rattle.tb_output.specs.State.{Recorded, placed, output, emptied}
use Rattle.tb_laws.proofs.ClassesRise.RisingLists.{IsAmong, IsMissing}
use Rattle.tb_laws.proofs.ClassesRise.ClassLines.{FloatKind, is_of, class_lines}

-- ---- columns

abbrev pub column_lines : FloatKind → Recorded → List ℕ
column_lines k (placed p f place l height) = []
column_lines k (output c) = class_lines k c.nodes
column_lines k (emptied l) = []

-- the lines of a class in all columns that were put out
abbrev pub record_lines : FloatKind → List Recorded → List ℕ
record_lines k [] = []
record_lines k (r ∷ rs) = column_lines k r ++ record_lines k rs

pub records-append : (k : FloatKind) (xs ys : List Recorded) → record_lines k (xs ++ ys) ≡ record_lines k xs ++ record_lines k ys
records-append k [] ys = refl
records-append k (x ∷ xs) ys = ap (λ l. column_lines k x ++ l) (records-append k xs ys) ∙ sym (append_assoc (column_lines k x) (record_lines k xs) (record_lines k ys))

-- one record more
pub records-more : (k : FloatKind) (rs : List Recorded) (r : Recorded) → record_lines k (rs ++ r ∷ []) ≡ record_lines k rs ++ column_lines k r
records-more k rs r = records-append k rs (r ∷ []) ∙ ap (λ l. record_lines k rs ++ l) (append-nil (column_lines k r))

-- ---- floats in the text

-- the record is of a float of this class and line, placed in the text
abbrev pub IsPlacing : FloatKind → ℕ → Recorded → Type 0
IsPlacing k n (placed p f places.Here l height) = ((is_of k f.class f.line) ≡ true) × (f.line ≡ n)
IsPlacing k n (placed p f places.Top l height) = ⊥
IsPlacing k n (placed p f places.Bottom l height) = ⊥
IsPlacing k n (placed p f places.Page l height) = ⊥
IsPlacing k n (placed p f places.Double l height) = ⊥
IsPlacing k n (placed p f places.Deferred l height) = ⊥
IsPlacing k n (output c) = ⊥
IsPlacing k n (emptied l) = ⊥

abbrev pub IsOutput : Recorded → Type 0
IsOutput (placed p f place l height) = ⊥
IsOutput (output c) = Unit {0}
IsOutput (emptied l) = ⊥

abbrev pub HasOutput : List Recorded → Type 0
HasOutput [] = ⊥
HasOutput (r ∷ rs) = IsOutput r ⊎ HasOutput rs

-- the float of this class and line was placed in the text
abbrev pub WasPlaced : FloatKind → ℕ → List Recorded → Type 0
WasPlaced k n [] = ⊥
WasPlaced k n (r ∷ rs) = IsPlacing k n r ⊎ WasPlaced k n rs

-- and a column was put out after that
abbrev pub IsLate : FloatKind → ℕ → List Recorded → Type 0
IsLate k n [] = ⊥
IsLate k n (r ∷ rs) = (IsPlacing k n r × HasOutput rs) ⊎ IsLate k n rs

output-more : (xs ys : List Recorded) → HasOutput xs → HasOutput (xs ++ ys)
output-more [] ys h = absurd h
output-more (x ∷ xs) ys (inl h) = inl h
output-more (x ∷ xs) ys (inr h) = inr (output-more xs ys h)

output-last : (xs : List Recorded) (c : PlainColumn) → HasOutput (xs ++ output c ∷ [])
output-last [] c = inl tt
output-last (x ∷ xs) c = inr (output-last xs c)

pub placed-more : (k : FloatKind) (n : ℕ) (xs ys : List Recorded) → WasPlaced k n xs → WasPlaced k n (xs ++ ys)
placed-more k n [] ys h = absurd h
placed-more k n (x ∷ xs) ys (inl h) = inl h
placed-more k n (x ∷ xs) ys (inr h) = inr (placed-more k n xs ys h)

pub placed-last : (k : FloatKind) (n : ℕ) (xs : List Recorded) (r : Recorded) → IsPlacing k n r → WasPlaced k n (xs ++ r ∷ [])
placed-last k n [] r h = inl h
placed-last k n (x ∷ xs) r h = inr (placed-last k n xs r h)

-- what was placed was placed before, or by the last record
pub placed-before : (k : FloatKind) (n : ℕ) (xs : List Recorded) (r : Recorded) → WasPlaced k n (xs ++ r ∷ []) → WasPlaced k n xs ⊎ IsPlacing k n r
placed-before k n [] r (inl h) = inr h
placed-before k n [] r (inr h) = absurd h
placed-before k n (x ∷ xs) r (inl h) = inl (inl h)
placed-before k n (x ∷ xs) r (inr h) = more (placed-before k n xs r h)
  where
    more : WasPlaced k n xs ⊎ IsPlacing k n r → WasPlaced k n (x ∷ xs) ⊎ IsPlacing k n r
    more (inl k) = inl (inr k)
    more (inr k) = inr k

pub late-more : (k : FloatKind) (n : ℕ) (xs ys : List Recorded) → IsLate k n xs → IsLate k n (xs ++ ys)
late-more k n [] ys h = absurd h
late-more k n (x ∷ xs) ys (inl h) = inl (h.0, output-more xs ys h.1)
late-more k n (x ∷ xs) ys (inr h) = inr (late-more k n xs ys h)

-- a column makes late what was placed before it
pub placed-late : (k : FloatKind) (n : ℕ) (xs : List Recorded) (c : PlainColumn) → WasPlaced k n xs → IsLate k n (xs ++ output c ∷ [])
placed-late k n [] c h = absurd h
placed-late k n (x ∷ xs) c (inl h) = inl (h, output-last xs c)
placed-late k n (x ∷ xs) c (inr h) = inr (placed-late k n xs c h)

pub late-placed : (k : FloatKind) (n : ℕ) (xs : List Recorded) → IsLate k n xs → WasPlaced k n xs
late-placed k n [] h = absurd h
late-placed k n (x ∷ xs) (inl h) = inl h.0
late-placed k n (x ∷ xs) (inr h) = inr (late-placed k n xs h)

-- ---- floats that a break carried

-- the first column that has the float was put out after another one, which was put out after the float was placed in the text
pub record IsCarried (k : FloatKind) (n : ℕ) (rs : List Recorded) : Type 0 where
  pub front : List Recorded
  pub column : PlainColumn
  pub back : List Recorded
  pub whole : rs ≡ front ++ output column ∷ back
  pub late : IsLate k n front
  pub missing : IsMissing n (record_lines k front)
  pub there : IsAmong n (class_lines k column.nodes)

pub carried-more : (k : FloatKind) (n : ℕ) (xs ys : List Recorded) → IsCarried k n xs → IsCarried k n (xs ++ ys)
carried-more k n xs ys h = record {
  front = h.front;
  column = h.column;
  back = h.back ++ ys;
  whole = ap (λ l. l ++ ys) h.whole ∙ append_assoc h.front (output h.column ∷ h.back) ys;
  late = h.late;
  missing = h.missing;
  there = h.there;
}

pub carried-now : (k : FloatKind) (n : ℕ) (rs : List Recorded) (c : PlainColumn) → IsLate k n rs → IsMissing n (record_lines k rs) → IsAmong n (class_lines k c.nodes) → IsCarried k n (rs ++ output c ∷ [])
carried-now k n rs c l m t = record { front = rs; column = c; back = []; whole = refl; late = l; missing = m; there = t }

pub carried-placed : (k : FloatKind) (n : ℕ) (rs : List Recorded) → IsCarried k n rs → WasPlaced k n rs
carried-placed k n rs h = subst (WasPlaced k n) (sym h.whole) (placed-more k n h.front (output h.column ∷ h.back) (late-placed k n h.front h.late))
