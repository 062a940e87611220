-- The tests by which the law of class order is stated, from what is in lists.
use Rattle.std.proofs.Common.{◌≡◌, refl, sym, subst, ℕ, suc, ◌+◌, ◌<◌, ◌==◌, ◌⊎◌, inl, inr, ◌||◌, ◌&&◌, Bool, true, false, List, [], ◌∷◌, ◌++◌, arith}
use Rattle.std.specs.Prelude.{nat_lt, IsTrue, if◌then◌else◌}
use Rattle.std.specs.List.{AllByRecursion}
use Rattle.std.proofs.lemmas.Bool.{eqb-true, or_left, or_right, and_from}
use Rattle.tb_node.specs.declared.What.TheVariants as what
use Rattle.tb_node.specs.declared.Where.{Where}
use Rattle.tb_node.specs.declared.Where.TheVariants as places
use Rattle.tb_node.specs.PlainNodes.{hbox, PlainKind, plain, PlainNode}
use Rattle.tb_column.specs.Column.{PlainColumn}
use Rattle.tb_output.specs.State.{Recorded, placed, output, emptied}
use Rattle.tb_laws.proofs.ClassesRise.RisingLists.{all-at, IsAmong, among-back, MayPrecede, Rises}
use Rattle.tb_laws.proofs.ClassesRise.ClassLines.{FloatKind, Side, is_of, line_if, kind_lines, class_lines}
use Rattle.tb_laws.proofs.ClassesRise.RecordLines.{IsPlacing, HasOutput, IsLate}
use Rattle.tb_laws.specs.Laws.{float_lines_of, node_lines, is_in, holds_float, is_past, is_here, is_carried_from, comes_before}
use Rattle.tb_laws.proofs.ClassesRise.GalleyLines.{of_kind, own-line}

-- ---- what ships, by line

-- a line among the boxes of floats is one of some class
pub some-class : (has : ℕ → Bool) (d : Side) (n : ℕ) → has n ≡ true → (ns : List PlainNode) → IsAmong n (node_lines float_lines_of ns) → (c : ℕ) × IsAmong n (class_lines (of_kind has d c) ns)
some-class has d n t [] i = absurd i
some-class has d n t (x ∷ xs) i = by_kind x.line x.kind i (λ j. some-class has d n t xs j)
  where
    by_kind : (l : ℕ) (x : PlainKind) → IsAmong n (float_lines_of l x ++ node_lines float_lines_of xs) → (IsAmong n (node_lines float_lines_of xs) → (c : ℕ) × IsAmong n (class_lines (of_kind has d c) xs)) → (c : ℕ) × IsAmong n (kind_lines (of_kind has d c) x ++ class_lines (of_kind has d c) xs)
    by_kind l (plain (hbox (what.Text name) h d)) i k = k i
    by_kind l (plain (hbox (what.Float name class place item) h z)) (inl e) k = (class, subst (λ ys. IsAmong n (ys ++ class_lines (of_kind has d class) xs)) (sym (own-line has d class item (subst (λ m. has m ≡ true) (sym e) t))) (inl e))
    by_kind l (plain (hbox (what.Float name class place item) h z)) (inr i) k = let r = k i in (r.0, among-back n (line_if (is_of (of_kind has d r.0) class item) item) (class_lines (of_kind has d r.0) xs) r.1)
    by_kind l x i k = k i

-- the line a is in the list, and b after it
abbrev pub StandsBefore : ℕ → ℕ → List ℕ → Type 0
StandsBefore a b [] = ⊥
StandsBefore a b (x ∷ xs) = ((x ≡ a) × IsAmong b xs) ⊎ StandsBefore a b xs

-- what holds of the lines of a class holds of those of all floats
module _ (c : FloatKind) where
  kind-among : (n l : ℕ) (d : PlainKind) (ys zs : List ℕ) → (IsAmong n ys → IsAmong n zs) → IsAmong n (kind_lines c d ++ ys) → IsAmong n (float_lines_of l d ++ zs)
  kind-among n l (plain (hbox (what.Float name class place item) h d)) ys zs k i = by_class (is_of c class item) i
    where
      by_class : (t : Bool) → IsAmong n (line_if t item ++ ys) → IsAmong n (item ∷ zs)
      by_class true (inl e) = inl e
      by_class true (inr i) = inr (k i)
      by_class false i = inr (k i)
  kind-among n l d ys zs k i = k i

  pub any-class : (n : ℕ) (ns : List PlainNode) → IsAmong n (class_lines c ns) → IsAmong n (node_lines float_lines_of ns)
  any-class n [] i = i
  any-class n (x ∷ xs) i = kind-among n x.line x.kind (class_lines c xs) (node_lines float_lines_of xs) (λ j. any-class n xs j) i

  kind-before : (a b l : ℕ) (d : PlainKind) (ys zs : List ℕ) → (IsAmong b ys → IsAmong b zs) → (StandsBefore a b ys → StandsBefore a b zs) → StandsBefore a b (kind_lines c d ++ ys) → StandsBefore a b (float_lines_of l d ++ zs)
  kind-before a b l (plain (hbox (what.Float name class place item) h d)) ys zs m k i = by_class (is_of c class item) i
    where
      by_class : (t : Bool) → StandsBefore a b (line_if t item ++ ys) → StandsBefore a b (item ∷ zs)
      by_class true (inl e) = inl (e.0, m e.1)
      by_class true (inr i) = inr (k i)
      by_class false i = inr (k i)
  kind-before a b l d ys zs m k i = k i

  pub class-before : (a b : ℕ) (ns : List PlainNode) → StandsBefore a b (class_lines c ns) → StandsBefore a b (node_lines float_lines_of ns)
  class-before a b [] i = i
  class-before a b (x ∷ xs) i = kind-before a b x.line x.kind (class_lines c xs) (node_lines float_lines_of xs) (λ j. any-class b xs j) (λ j. class-before a b xs j) i

-- ---- the tests of the law

is-same : (a b : ℕ) → a ≡ b → IsTrue (a == b)
is-same a b e = grind (arith, e)

pub among-in : (n : ℕ) (xs : List ℕ) → IsAmong n xs → IsTrue (is_in xs n)
among-in n [] i = absurd i
among-in n (x ∷ xs) (inl e) = or_left (x == n) (is_in xs n) (is-same x n e)
among-in n (x ∷ xs) (inr i) = or_right (x == n) (is_in xs n) (among-in n xs i)

pub in-among : (n : ℕ) (xs : List ℕ) → is_in xs n ≡ true → IsAmong n xs
in-among n [] e = absurd (cc)
in-among n (x ∷ xs) e = by_test (x == n) refl e (λ k. in-among n xs k)
  where
    by_test : (t : Bool) → (x == n) ≡ t → (t || is_in xs n) ≡ true → (is_in xs n ≡ true → IsAmong n xs) → IsAmong n (x ∷ xs)
    by_test true s e k = inl (eqb-true x n s)
    by_test false s e k = inr (k e)

pub before-comes : (a b : ℕ) (xs : List ℕ) → StandsBefore a b xs → IsTrue (comes_before a b xs)
before-comes a b [] h = absurd h
before-comes a b (x ∷ xs) (inl h) = or_left ((x == a) && is_in xs b) (comes_before a b xs) (and_from (x == a) (is_in xs b) (is-same x a h.0) (among-in b xs h.1))
before-comes a b (x ∷ xs) (inr h) = or_right ((x == a) && is_in xs b) (comes_before a b xs) (before-comes a b xs h)

-- in a list that rises the smaller number comes first, or it is excused
pub rises-before : (Known Excused : ℕ → Type 0) (a b : ℕ) (xs : List ℕ) → a < b → Rises Known Excused xs → IsAmong a xs → IsAmong b xs → StandsBefore a b xs ⊎ Excused a
rises-before Known Excused a b [] l r i j = absurd i
rises-before Known Excused a b (x ∷ xs) l r (inl e) (inl f) = let never : ⊥ = omega (arith, l, e, f) in absurd never
rises-before Known Excused a b (x ∷ xs) l r (inl e) (inr j) = inl (inl (e, j))
rises-before Known Excused a b (x ∷ xs) l r (inr i) (inl f) = either (all-at (MayPrecede Excused x) a xs i r.1)
  where
    either : MayPrecede Excused x a → StandsBefore a b (x ∷ xs) ⊎ Excused a
    either (inl k) = let never : ⊥ = omega (arith, l, k, f) in absurd never
    either (inr e) = inr e
rises-before Known Excused a b (x ∷ xs) l r (inr i) (inr j) = either (rises-before Known Excused a b xs l r.2 i j)
  where
    either : StandsBefore a b xs ⊎ Excused a → StandsBefore a b (x ∷ xs) ⊎ Excused a
    either (inl k) = inl (inr k)
    either (inr e) = inr e

-- ---- floats that a break carried

abbrev pub outputs : List Recorded → ℕ
outputs [] = 0
outputs (placed p f place l height ∷ rs) = outputs rs
outputs (output c ∷ rs) = suc (outputs rs)
outputs (emptied l ∷ rs) = outputs rs

-- no column of the records has the float
abbrev pub HoldsNot : ℕ → Recorded → Type 0
HoldsNot n (placed p f place l height) = Unit {0}
HoldsNot n (output c) = holds_float n c ≡ false
HoldsNot n (emptied l) = Unit {0}

some-output : (rs : List Recorded) → HasOutput rs → 0 < outputs rs
some-output [] h = absurd h
some-output (placed p f place l height ∷ rs) (inl h) = absurd h
some-output (placed p f place l height ∷ rs) (inr h) = some-output rs h
some-output (output c ∷ rs) h = omega arith
some-output (emptied l ∷ rs) (inl h) = absurd h
some-output (emptied l ∷ rs) (inr h) = some-output rs h

-- the first column that has the float comes behind these columns
pub past-front : (n m j : ℕ) (front : List Recorded) (c : PlainColumn) (back : List Recorded) → AllByRecursion (HoldsNot n) front → holds_float n c ≡ true → m < j + outputs front → IsTrue (is_past n m j (front ++ output c ∷ back))
past-front n m j [] c back none there l = subst (λ t. IsTrue (if t then nat_lt (m + 1) (j + 1) else is_past n m (j + 1) back)) (sym there) (grind (arith, l))
past-front n m j (placed p f place x height ∷ rs) c back none there l = past-front n m j rs c back none.1 there l
past-front n m j (output d ∷ rs) c back none there l = subst (λ t. IsTrue (if t then nat_lt (m + 1) (j + 1) else is_past n m (j + 1) (rs ++ output c ∷ back))) (sym none.0) (past-front n m (j + 1) rs c back none.1 there (omega arith))
past-front n m j (emptied x ∷ rs) c back none there l = past-front n m j rs c back none.1 there l

-- the record of the float's place, before one of a column
pub late-carried : (k : FloatKind) (n j total : ℕ) (all front back : List Recorded) → j + outputs front ≡ total → ((m : ℕ) → m < total → IsTrue (is_past n m 0 all)) → IsLate k n front → IsTrue (is_carried_from n j all (front ++ back))
late-carried k n j total all [] back e h i = absurd i
late-carried k n j total all (output c ∷ rs) back e h (inl i) = absurd i.0
late-carried k n j total all (output c ∷ rs) back e h (inr i) = late-carried k n (j + 1) total all rs back (omega arith) h i
late-carried k n j total all (emptied l ∷ rs) back e h (inl i) = absurd i.0
late-carried k n j total all (emptied l ∷ rs) back e h (inr i) = late-carried k n j total all rs back e h i
late-carried k n j total all (placed p f place l height ∷ rs) back e h (inr i) = or_right ((f.line == n) && is_here place && is_past n j 0 all) (is_carried_from n j all (rs ++ back)) (late-carried k n j total all rs back e h i)
late-carried k n j total all (placed p f place l height ∷ rs) back e h (inl i) = or_left ((f.line == n) && is_here place && is_past n j 0 all) (is_carried_from n j all (rs ++ back)) (by_place place i.0)
  where
    below : j < total
    below = let a : 0 < outputs rs = some-output rs i.1 in omega (arith, e)

    by_place : (place : Where) → IsPlacing k n (placed p f place l height) → IsTrue ((f.line == n) && is_here place && is_past n j 0 all)
    by_place places.Here p = and_from ((f.line == n) && true) (is_past n j 0 all) (and_from (f.line == n) true (is-same f.line n p.1) refl) (h j below)
    by_place place p = absurd p
