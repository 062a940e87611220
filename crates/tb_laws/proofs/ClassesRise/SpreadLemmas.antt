-- Putting out columns and pages keeps the order of a class. What has shipped, what is above the two columns and in the left
-- one, a column in hand, the deferred floats and those that are not placed yet are read as one list of lines.
use Rattle.std.proofs.Common.{◌≡◌, refl, sym, ◌∙◌, ap, subst, ℕ, ◌<◌, ◌≢◌, ◌⊎◌, inl, inr, Bool, true, false, List, [], ◌∷◌, ◌++◌, Option, Some, None, append_assoc, arith}
use Rattle.std.specs.List.{AllByRecursion}
use Rattle.tb_break.proofs.EachLemmas.{all-join, all-map, all-of, all-both}
use Rattle.tb_node.specs.declared.Float.{Float}
use Rattle.tb_float.specs.declared.Part.TheVariants as parts
use Rattle.tb_float.specs.Lists.{FloatLists, floats_among}
use Rattle.tb_column.specs.Column.{PlainColumn}
use Rattle.tb_output.specs.State.{Recorded, output}
use Rattle.tb_output.specs.Pages
use Rattle.tb_laws.proofs.NothingLost.StateWeights.{ColumnsFit}
use Rattle.tb_laws.proofs.ClassesRise.RisingLists.{IsMissing, IsAbove, Rises, above-missing}
use Rattle.tb_laws.proofs.ClassesRise.ClassLines.{FloatKind, Side, alike, narrow, wider, waits, PartedBy, Parted, WideFrom, is_of, line_if, class_lines, float_lines, left_lines, floats-append}
use Rattle.tb_laws.proofs.ClassesRise.RecordLines.{record_lines, records-more, IsPlacing, WasPlaced, IsLate, placed-before, late-more, IsCarried, carried-placed}
use Rattle.tb_laws.proofs.StepLaws.QuietLemmas.{AreQuiet, quiet-lines, quiet-placed}
use Rattle.tb_laws.proofs.ClassesRise.PageLines.{append-none, none-front}

-- ---- what is said of lines

-- the lines of the floats that are not placed yet: those taken, and those to be taken
abbrev pub later_lines : FloatKind → List ℕ → FloatLists → List ℕ
later_lines k takes l = float_lines k (floats_among l.current) ++ takes

-- a float of the class comes after all of the text
abbrev pub IsBehind : FloatKind → List ℕ → Float → Type 0
IsBehind k text f = (is_of k f.class f.line) ≡ true → IsAbove text f.line

-- a float in the text that a column left there
pub record IsLeft (k : FloatKind) (rs : List Recorded) (n : ℕ) : Type 0 where
  pub late : IsLate k n rs
  pub missing : IsMissing n (record_lines k rs)

-- a float of which no record says that it was placed in the text, or that a column has it
pub record IsUnseen (k : FloatKind) (rs : List Recorded) (n : ℕ) : Type 0 where
  pub placed : WasPlaced k n rs → ⊥
  pub missing : IsMissing n (record_lines k rs)

-- the lines in the order in which they ship, but for the text: what has shipped, double floats, the left column, the column in hand, deferred floats, and those that are not placed yet
abbrev pub spread_lines : FloatKind → List ℕ → List ℕ → List ℕ → FloatLists → Option PlainColumn → List ℕ
spread_lines k takes before mid l left = before ++ (float_lines k l.double ++ (left_lines k left ++ (mid ++ (float_lines k (waits l) ++ later_lines k takes l))))

-- when columns are put out: these lines rise, all of the text was left by a column, and no area holds floats
pub record Spread (k : FloatKind) (Known : ℕ → Type 0) (text takes before : List ℕ) (rs : List Recorded) (mid : List ℕ) (l : FloatLists) (two first : Bool) (column : Option PlainColumn) : Type 0 where
  pub order : Rises Known (λ n. IsCarried k n rs) (spread_lines k takes before mid l column)
  pub left : AllByRecursion (IsLeft k rs) text
  pub behind : AllByRecursion (IsBehind k text) (waits l)
  pub parted : Parted k l
  pub later : AllByRecursion (IsAbove text) (later_lines k takes l)
  pub unseen : AllByRecursion (IsUnseen k rs) (later_lines k takes l)
  pub known : AllByRecursion Known (record_lines k rs)
  pub columns : ColumnsFit two first column
  pub single : two ≡ false → l.double ≡ []
  pub top : l.top ≡ []
  pub bottom : l.bottom ≡ []

-- ---- lists

module _ (a d e m x : List ℕ) where
  -- nothing is above the columns or in a left one, and what is in hand has shipped
  pub alone : d ≡ [] → e ≡ [] → a ++ (d ++ (e ++ (m ++ x))) ≡ (a ++ m) ++ (d ++ (e ++ x))
  alone hd he =
      ap (λ y. a ++ (y ++ (e ++ (m ++ x)))) hd ∙ ap (λ y. a ++ (y ++ (m ++ x))) he ∙ sym (append_assoc a m x)
      ∙ ap (λ y. (a ++ m) ++ (y ++ x)) (sym he) ∙ ap (λ y. (a ++ m) ++ (y ++ (e ++ x))) (sym hd)

  -- what is in hand becomes the left column
  pub kept : e ≡ [] → a ++ (d ++ (e ++ (m ++ x))) ≡ a ++ (d ++ (m ++ x))
  kept he = ap (λ y. a ++ (d ++ (y ++ (m ++ x)))) he

  -- all that comes before it has shipped
  pub paired : a ++ (d ++ (e ++ (m ++ x))) ≡ (a ++ (d ++ (e ++ m))) ++ x
  paired = ap (λ y. a ++ (d ++ y)) (sym (append_assoc e m x)) ∙ ap (λ y. a ++ y) (sym (append_assoc d (e ++ m) x)) ∙ sym (append_assoc a (d ++ (e ++ m)) x)

-- ---- a left column

pub no-left : (k : FloatKind) (t f : Bool) (o : Option PlainColumn) → t ≡ false → ColumnsFit t f o → left_lines k o ≡ []
no-left k true f o e c = cc
no-left k false true None e c = refl
no-left k false true (Some x) e c = absurd c
no-left k false false o e c = absurd c

pub no-first : (k : FloatKind) (t f : Bool) (o : Option PlainColumn) → f ≡ true → ColumnsFit t f o → left_lines k o ≡ []
no-first k t false o e c = cc
no-first k t true None e c = refl
no-first k true true (Some x) e c = absurd c
no-first k false true (Some x) e c = absurd c

pub left-lines : (k : FloatKind) (t f : Bool) (o : Option PlainColumn) (c : PlainColumn) → t ≡ true → f ≡ false → ColumnsFit t f o → class_lines k (Pages.left_or c o).nodes ≡ left_lines k o
left-lines k true true o c h e x = cc
left-lines k true false None c h e x = absurd x
left-lines k true false (Some y) c h e x = refl
left-lines k false f o c h e x = cc

-- what is unseen is carried by no break
pub unseen-unexcused : (k : FloatKind) (rs : List Recorded) (ns : List ℕ) → AllByRecursion (IsUnseen k rs) ns → AllByRecursion (λ n. IsCarried k n rs → ⊥) ns
unseen-unexcused k rs ns h = all-map (IsUnseen k rs) (λ n. IsCarried k n rs → ⊥) (λ n u c. u.placed (carried-placed k n rs c)) ns h

pub lefts : (k : FloatKind) (rs : List Recorded) (c : PlainColumn) (ns : List ℕ) → AllByRecursion (IsLeft k rs) ns → AllByRecursion (λ n. IsMissing n (class_lines k c.nodes)) ns → AllByRecursion (IsLeft k (rs ++ output c ∷ [])) ns
lefts k rs c [] h m = tt
lefts k rs c (n ∷ ns) h m = (
  record {
    late = late-more k n rs (output c ∷ []) h.0.late;
    missing = subst (IsMissing n) (sym (records-more k rs (output c))) (all-join (λ x. x ≢ n) (record_lines k rs) (class_lines k c.nodes) h.0.missing m.0);
  },
  lefts k rs c ns h.1 m.1,
)

pub unseen-column : (k : FloatKind) (rs : List Recorded) (c : PlainColumn) (ns : List ℕ) → AllByRecursion (IsUnseen k rs) ns → AllByRecursion (IsAbove (class_lines k c.nodes)) ns → AllByRecursion (IsUnseen k (rs ++ output c ∷ [])) ns
unseen-column k rs c [] h m = tt
unseen-column k rs c (n ∷ ns) h m = (
  record {
    placed = λ w. either (placed-before k n rs (output c) w);
    missing = subst (IsMissing n) (sym (records-more k rs (output c))) (all-join (λ x. x ≢ n) (record_lines k rs) (class_lines k c.nodes) h.0.missing (above-missing (class_lines k c.nodes) n m.0));
  },
  unseen-column k rs c ns h.1 m.1,
)
  where
    either : WasPlaced k n rs ⊎ IsPlacing k n (output c) → ⊥
    either (inl w) = h.0.placed w
    either (inr w) = w

pub lefts-quiet : (k : FloatKind) (rs more : List Recorded) → AreQuiet more → (ns : List ℕ) → AllByRecursion (IsLeft k rs) ns → AllByRecursion (IsLeft k (rs ++ more)) ns
lefts-quiet k rs more q ns h = all-map (IsLeft k rs) (IsLeft k (rs ++ more)) (λ n x. record { late = late-more k n rs more x.late; missing = subst (IsMissing n) (sym (quiet-lines k rs more q)) x.missing }) ns h

pub unseen-quiet : (k : FloatKind) (rs more : List Recorded) → AreQuiet more → (ns : List ℕ) → AllByRecursion (IsUnseen k rs) ns → AllByRecursion (IsUnseen k (rs ++ more)) ns
unseen-quiet k rs more q ns h = all-map (IsUnseen k rs) (IsUnseen k (rs ++ more)) (λ n x. record { placed = λ w. x.placed (quiet-placed k n rs more q w); missing = subst (IsMissing n) (sym (quiet-lines k rs more q)) x.missing }) ns h

-- floats after the text are none of it
pub behind-missing : (k : FloatKind) (text : List ℕ) (fs : List Float) → AllByRecursion (IsBehind k text) fs → AllByRecursion (λ n. IsMissing n (float_lines k fs)) text
behind-missing k text [] h = all-of (λ n. IsMissing n []) (λ n. tt) text
behind-missing k text (f ∷ fs) h = by_class (is_of k f.class f.line) h.0 (behind-missing k text fs h.1)
  where
    differs : (n : ℕ) → (n < f.line) → f.line ≢ n
    differs n l e = let never : ⊥ = omega (arith, l, e) in never

    by_class : (t : Bool) → (t ≡ true → IsAbove text f.line) → AllByRecursion (λ n. IsMissing n (float_lines k fs)) text → AllByRecursion (λ n. IsMissing n (line_if t f.line ++ float_lines k fs)) text
    by_class true a m = all-both (λ n. f.line ≢ n) (λ n. IsMissing n (float_lines k fs)) text (all-map (λ n. n < f.line) (λ n. f.line ≢ n) differs text (a refl)) m
    by_class false a m = m

-- ---- what is parted

-- what is among the floats for a column, if that is nothing
module _ (k : FloatKind) (l : FloatLists) (e : float_lines k (l.top ++ l.bottom ++ l.deferred) ≡ []) where
  areas-none : float_lines k (l.top ++ l.bottom) ≡ []
  areas-none = none-front (float_lines k (l.top ++ l.bottom)) (float_lines k l.deferred) (sym (floats-append k (l.top ++ l.bottom) l.deferred) ∙ e)

  pub deferred-none : float_lines k l.deferred ≡ []
  deferred-none = append-none (float_lines k (l.top ++ l.bottom)) (float_lines k l.deferred) (sym (floats-append k (l.top ++ l.bottom) l.deferred) ∙ e)

  areas-with : (fs : List Float) → float_lines k fs ≡ [] → float_lines k (l.top ++ l.bottom ++ fs) ≡ []
  areas-with fs h = floats-append k (l.top ++ l.bottom) fs ∙ ap (λ y. y ++ float_lines k fs) areas-none ∙ h

-- when the floats above two columns leave
pub pair-parted : (k : FloatKind) (l : FloatLists) (d : Side) → PartedBy d k l → PartedBy d k (record l { double = [] })
pair-parted k l alike x = x
pair-parted k l narrow x = (refl, x.1)
pair-parted k l wider x = x

-- when a company leaves the deferred floats
pub chosen-parted : (k : FloatKind) (l : FloatLists) (chosen left : List Float) → float_lines k l.deferred ≡ float_lines k chosen ++ float_lines k left → (d : Side) → PartedBy d k l → PartedBy d k (record l { deferred = left })
chosen-parted k l chosen left e alike x = x
chosen-parted k l chosen left e narrow x = x
chosen-parted k l chosen left e wider x = (x.0, areas-with k l x.1 left (append-none (float_lines k chosen) (float_lines k left) (sym e ∙ deferred-none k l x.1)))

-- when one leaves the second list
pub second-parted : (k : FloatKind) (l : FloatLists) (chosen left : List Float) → float_lines k l.second ≡ float_lines k chosen ++ float_lines k left → (d : Side) → WideFrom d parts.Second → PartedBy d k l → PartedBy d k (record l { second = left })
second-parted k l chosen left e alike w x = absurd w
second-parted k l chosen left e narrow w x = (x.0, append-none (float_lines k chosen) (float_lines k left) (sym e ∙ x.1))
second-parted k l chosen left e wider w x = x

-- and those that are left then come after it
pub second-waits : (k : FloatKind) (l : FloatLists) (chosen left : List Float) → float_lines k l.second ≡ float_lines k chosen ++ float_lines k left → (d : Side) → WideFrom d parts.Second → PartedBy d k l → float_lines k (waits l) ≡ float_lines k chosen ++ float_lines k (l.deferred ++ left)
second-waits k l chosen left e alike w x = absurd w
second-waits k l chosen left e narrow w x =
    let c : float_lines k chosen ≡ [] = none-front (float_lines k chosen) (float_lines k left) (sym e ∙ x.1) in
    let n : float_lines k left ≡ [] = append-none (float_lines k chosen) (float_lines k left) (sym e ∙ x.1) in
    floats-append k l.deferred l.second ∙ ap (λ y. float_lines k l.deferred ++ y) (x.1 ∙ sym n) ∙ sym (floats-append k l.deferred left) ∙ ap (λ y. y ++ float_lines k (l.deferred ++ left)) (sym c)
second-waits k l chosen left e wider w x =
    let n = deferred-none k l x.1 in
    floats-append k l.deferred l.second ∙ ap (λ y. y ++ float_lines k l.second) n ∙ e ∙ ap (λ y. float_lines k chosen ++ y) (ap (λ y. y ++ float_lines k left) (sym n) ∙ sym (floats-append k l.deferred left))

-- the floats above two columns, and those that wait, when the space is filled from the deferred ones
pub deferred-doubled : (k : FloatKind) (l m : FloatLists) → m.second ≡ l.second → float_lines k (m.double ++ m.deferred) ≡ float_lines k (l.double ++ l.deferred) → float_lines k (m.double ++ waits m) ≡ float_lines k (l.double ++ waits l)
deferred-doubled k l m s e = parts m ∙ (λ i. e i ++ float_lines k (s i)) ∙ sym (parts l)
  where
    parts : (l : FloatLists) → float_lines k (l.double ++ waits l) ≡ float_lines k (l.double ++ l.deferred) ++ float_lines k l.second
    parts l = ap (float_lines k) (sym (append_assoc l.double l.deferred l.second)) ∙ floats-append k (l.double ++ l.deferred) l.second

-- and from the second list
pub second-doubled : (k : FloatKind) (l m : FloatLists) → m.deferred ≡ l.deferred → float_lines k (m.double ++ m.second) ≡ float_lines k (l.double ++ l.second) → (d : Side) → WideFrom d parts.Second → PartedBy d k l → float_lines k (m.double ++ waits m) ≡ float_lines k (l.double ++ waits l)
second-doubled k l m q e alike w x = absurd w
second-doubled k l m q e narrow w x =
    let none : float_lines k m.double ++ float_lines k m.second ≡ [] = sym (floats-append k m.double m.second) ∙ e ∙ floats-append k l.double l.second ∙ (λ i. x.0 i ++ x.1 i) in
    let a = none-front (float_lines k m.double) (float_lines k m.second) none in
    let b = append-none (float_lines k m.double) (float_lines k m.second) none in
    parts m ∙ (λ i. a i ++ (float_lines k (q i) ++ b i)) ∙ sym (parts l ∙ (λ i. x.0 i ++ (float_lines k l.deferred ++ x.1 i)))
  where
    parts : (l : FloatLists) → float_lines k (l.double ++ waits l) ≡ float_lines k l.double ++ (float_lines k l.deferred ++ float_lines k l.second)
    parts l = floats-append k l.double (waits l) ∙ ap (λ y. float_lines k l.double ++ y) (floats-append k l.deferred l.second)
second-doubled k l m q e wider w x =
    let n = deferred-none k l x.1 in
    let n' : float_lines k m.deferred ≡ [] = ap (float_lines k) q ∙ n in
    parts m ∙ ap (λ y. float_lines k m.double ++ (y ++ float_lines k m.second)) n' ∙ sym (floats-append k m.double m.second) ∙ e ∙ floats-append k l.double l.second ∙ sym (parts l ∙ ap (λ y. float_lines k l.double ++ (y ++ float_lines k l.second)) n)
  where
    parts : (l : FloatLists) → float_lines k (l.double ++ waits l) ≡ float_lines k l.double ++ (float_lines k l.deferred ++ float_lines k l.second)
    parts l = floats-append k l.double (waits l) ∙ ap (λ y. float_lines k l.double ++ y) (floats-append k l.deferred l.second)
