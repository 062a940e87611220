-- The order of a class between firings. What has shipped, the double floats, the left column, the floats at the top, at the
-- bottom and deferred, and those that are not placed yet rise, but for floats that a break carried; and the floats in the
-- text rise among themselves, before all but those above the text.
use Rattle.std.proofs.Common.{◌≡◌, refl, sym, ◌∙◌, ap, ℕ, ◌==◌, ◌⊎◌, ◌&&◌, Bool, true, false, List, [], ◌∷◌, ◌++◌, Option, append_assoc, append-nil}
use Rattle.std.specs.List.{AllByRecursion}
use Rattle.std.proofs.lemmas.Bool.{eqb-true, or_parts, and_parts, both_ways}
use Rattle.tb_node.specs.declared.Float.{Float}
use Rattle.tb_float.specs.Lists.{FloatLists, has_class}
use Rattle.tb_area.specs.Laws.{HasNone}
use Rattle.tb_column.specs.Column.{PlainColumn}
use Rattle.tb_output.specs.State.{Recorded}
use Rattle.tb_laws.proofs.NothingLost.StateWeights.{ColumnsFit}
use Rattle.tb_laws.proofs.ClassesRise.RisingLists.{IsAmong, IsMissing, IsAbove, Rises}
use Rattle.tb_laws.proofs.ClassesRise.ClassLines.{FloatKind, waits, Parted, is_of, line_if, float_lines, left_lines, floats-append}
use Rattle.tb_laws.proofs.ClassesRise.RecordLines.{record_lines, WasPlaced, IsLate, IsCarried}
use Rattle.tb_laws.proofs.ClassesRise.PageLines.{append-none, none-front}
use Rattle.tb_laws.proofs.ClassesRise.SpreadLemmas.{later_lines, IsBehind, IsUnseen}

-- ---- the invariant

-- the lines that ship before the text
abbrev pub ahead_lines : FloatKind → List ℕ → FloatLists → Option PlainColumn → List ℕ
ahead_lines k before l column = before ++ (float_lines k l.double ++ (left_lines k column ++ float_lines k l.top))

-- the lines in the order in which they ship, but for the text
abbrev pub order_lines : FloatKind → List ℕ → List ℕ → FloatLists → Option PlainColumn → List ℕ
order_lines k takes before l column = before ++ (float_lines k l.double ++ (left_lines k column ++ (float_lines k (l.top ++ l.bottom ++ waits l) ++ later_lines k takes l)))

-- a float in the text: it was placed there, and no column has it; a column left it there, or it is in the here list after all that ship before the text
pub record IsInText (k : FloatKind) (rs : List Recorded) (tops here ahead : List ℕ) (n : ℕ) : Type 0 where
  pub placed : WasPlaced k n rs
  pub missing : IsMissing n (record_lines k rs)
  pub apart : IsMissing n tops
  pub held : IsLate k n rs ⊎ (IsAmong n here × IsAbove ahead n)

-- the floats in the text, with these floats in the lists
abbrev pub AreInText : FloatKind → List Recorded → List ℕ → FloatLists → Option PlainColumn → List ℕ → Type 0
AreInText k rs before l column text = AllByRecursion (IsInText k rs (float_lines k l.top) (float_lines k l.here) (ahead_lines k before l column)) text

-- floats of the kind are in order, with these lines in the text, these still to be taken, and these shipped before, after these records: all but the text rises save for floats that a break carried, and the text rises and comes before what ships after it
pub record Order (k : FloatKind) (Known : ℕ → Type 0) (text takes before : List ℕ) (rs : List Recorded) (l : FloatLists) (two first : Bool) (column : Option PlainColumn) : Type 0 where
  pub order : Rises Known (λ n. IsCarried k n rs) (order_lines k takes before l column)
  pub rising : Rises Known (λ n. ⊥) text
  pub held : AreInText k rs before l column text
  pub bottom : AllByRecursion (IsBehind k text) l.bottom
  pub deferred : AllByRecursion (IsBehind k text) (waits l)
  pub parted : Parted k l
  pub later : AllByRecursion (IsAbove text) (later_lines k takes l)
  pub unseen : AllByRecursion (IsUnseen k rs) (later_lines k takes l)
  pub known : AllByRecursion Known (record_lines k rs)
  pub columns : ColumnsFit two first column
  pub single : two ≡ false → l.double ≡ []

-- ---- lists

pub areas-lines : (k : FloatKind) (xs ys zs : List Float) → float_lines k (xs ++ ys ++ zs) ≡ (float_lines k xs ++ float_lines k ys) ++ float_lines k zs
areas-lines k xs ys zs = floats-append k (xs ++ ys) zs ∙ ap (λ l. l ++ float_lines k zs) (floats-append k xs ys)

-- the floats of the second list come after those of the others
pub with-second : (k : FloatKind) (l : FloatLists) → float_lines k (l.top ++ l.bottom ++ waits l) ≡ float_lines k (l.top ++ l.bottom ++ l.deferred) ++ float_lines k l.second
with-second k l = ap (float_lines k) (sym (append_assoc (l.top ++ l.bottom) l.deferred l.second)) ∙ floats-append k (l.top ++ l.bottom ++ l.deferred) l.second

-- the number between the parts of a list moves past two of them
pub past-two : (a b c x : List ℕ) → x ++ b ≡ b ++ x → x ++ c ≡ c ++ x → ((a ++ x) ++ b) ++ c ≡ ((a ++ b) ++ c) ++ x
past-two a b c x hb hc =
    append_assoc (a ++ x) b c ∙ append_assoc a x (b ++ c)
    ∙ ap (λ y. a ++ y) (sym (append_assoc x b c) ∙ ap (λ y. y ++ c) hb ∙ append_assoc b x c ∙ ap (λ y. b ++ y) hc)
    ∙ sym (append_assoc (a ++ b) c x ∙ append_assoc a b (c ++ x))

pub past-one : (a b c x : List ℕ) → x ++ c ≡ c ++ x → (a ++ (b ++ x)) ++ c ≡ ((a ++ b) ++ c) ++ x
past-one a b c x hc =
    append_assoc a (b ++ x) c ∙ ap (λ y. a ++ y) (append_assoc b x c ∙ ap (λ y. b ++ y) hc)
    ∙ sym (append_assoc (a ++ b) c x ∙ append_assoc a b (c ++ x))

-- ---- floats of a class

pub none-lines : (k : FloatKind) (fs : List Float) → has_class k.class fs ≡ false → float_lines k fs ≡ []
none-lines k [] e = refl
none-lines k (f ∷ fs) e =
    let both = or_parts (f.class == k.class) (has_class k.class fs) e in
    ap (λ t. line_if (t && k.has f.line) f.line ++ float_lines k fs) both.0 ∙ none-lines k fs both.1

-- a float of the kind has its class
pub kind-class : (k : FloatKind) (class line : ℕ) → is_of k class line ≡ true → class ≡ k.class
kind-class k class line e = eqb-true class k.class (and_parts (class == k.class) (k.has line) e).0

-- a float of the kind passes a list that has none of its class
pub class-none : (k : FloatKind) (f : Float) (fs : List Float) → HasNone f fs → is_of k f.class f.line ≡ true → float_lines k fs ≡ []
class-none k f fs none e = none-lines k fs (ap (λ c. has_class c fs) (sym (kind-class k f.class f.line e)) ∙ none)

pub passes : (k : FloatKind) (f : Float) (fs : List Float) → HasNone f fs → line_if (is_of k f.class f.line) f.line ++ float_lines k fs ≡ float_lines k fs ++ line_if (is_of k f.class f.line) f.line
passes k f fs none = by_class (is_of k f.class f.line) (λ e. class-none k f fs none e)
  where
    by_class : (t : Bool) → (t ≡ true → float_lines k fs ≡ []) → line_if t f.line ++ float_lines k fs ≡ float_lines k fs ++ line_if t f.line
    by_class true h = ap (λ l. f.line ∷ l) (h refl) ∙ ap (λ l. l ++ f.line ∷ []) (sym (h refl))
    by_class false h = sym (append-nil (float_lines k fs))

-- if none is of the class, they come after any text
pub none-behind : (k : FloatKind) (text : List ℕ) (fs : List Float) → has_class k.class fs ≡ false → AllByRecursion (IsBehind k text) fs
none-behind k text [] e = tt
none-behind k text (f ∷ fs) e =
    let both = or_parts (f.class == k.class) (has_class k.class fs) e in
    (λ is. absurd (both_ways (f.class == k.class) both.0 (and_parts (f.class == k.class) (k.has f.line) is).0), none-behind k text fs both.1)

none-if : (t : Bool) (n : ℕ) → t ≡ true → line_if t n ≡ [] → ⊥
none-if true n e h = cc
none-if false n e h = cc

-- if none is of the kind, they come after any text
pub lines-behind : (k : FloatKind) (text : List ℕ) (fs : List Float) → float_lines k fs ≡ [] → AllByRecursion (IsBehind k text) fs
lines-behind k text [] e = tt
lines-behind k text (f ∷ fs) e =
    (λ t. absurd (none-if (is_of k f.class f.line) f.line t (none-front (line_if (is_of k f.class f.line) f.line) (float_lines k fs) e)), lines-behind k text fs (append-none (line_if (is_of k f.class f.line) f.line) (float_lines k fs) e))

pub behind-lines : (k : FloatKind) (text : List ℕ) (fs : List Float) → AllByRecursion (IsBehind k text) fs → AllByRecursion (IsAbove text) (float_lines k fs)
behind-lines k text [] h = tt
behind-lines k text (f ∷ fs) h = by_class (is_of k f.class f.line) h.0 (behind-lines k text fs h.1)
  where
    by_class : (t : Bool) → (t ≡ true → IsAbove text f.line) → AllByRecursion (IsAbove text) (float_lines k fs) → AllByRecursion (IsAbove text) (line_if t f.line ++ float_lines k fs)
    by_class true a m = (a refl, m)
    by_class false a m = m
