-- If floats of all classes stay, no later float goes.
use Rattle.std.proofs.Common.{◌≡◌, ℕ, zero, suc, ◌==◌, ◌≤◌, Bool, true, false, not, ◌&&◌, ◌||◌, List, [], ◌∷◌, ◌++◌, take, drop, Some, refl, sym, ap, subst, ◌∙◌, arith}
use Rattle.std.specs.Prelude.{◌+ℤ◌, if◌then◌else◌}
use Rattle.std.proofs.lemmas.List.{append-nil, append_assoc, take-append-drop}
use Rattle.std.proofs.lemmas.List.Folds.{list_any-append}
use Rattle.tb_node.specs.declared.Float.{Float}
use Rattle.tb_node.specs.declared.Where.TheVariants.{Double, Deferred}
use Rattle.tb_param.specs.declared.params.Params.{Params}
use Rattle.tb_float.specs.declared.Limit.TheVariants as limits
use Rattle.tb_float.specs.declared.Suppress.{Suppress}
use Rattle.tb_float.specs.declared.classes.ClassSet.{ClassSet}
use Rattle.tb_float.specs.Lists.{FloatLists, has_class}
use Rattle.tb_float.specs.Classes.{AreClassesOf, AreKnown, AreOfClasses, HasLeft}
use Rattle.tb_float.proofs.HasLemmas.{has-first, has-later, has-more, has-drop}
use Rattle.tb_area.specs.Area.{only_page, may_come, fits_column, fits_double, text_minimum, top_or_bottom, deferred, where_of, next_place, double_place}
use Rattle.tb_area.proofs.ChoiceLemmas.{barred}

-- ---- the first floats, and those between them and a later place

between-take : (n m : ℕ) (fs : List Float) → n ≤ m → take n fs ++ drop n (take m fs) ≡ take m fs
between-take zero m fs le = refl
between-take (suc n) zero fs le = absurd (omega arith)
between-take (suc n) (suc m) [] le = refl
between-take (suc n) (suc m) (f ∷ fs) le = ap (λ gs. f ∷ gs) (between-take n m fs (omega arith))

between-drop : (n m : ℕ) (fs : List Float) → n ≤ m → drop n (take m fs) ++ drop m fs ≡ drop n fs
between-drop zero m fs le = take-append-drop m fs
between-drop (suc n) zero fs le = absurd (omega arith)
between-drop (suc n) (suc m) [] le = refl
between-drop (suc n) (suc m) (f ∷ fs) le = between-drop n m fs (omega arith)

-- ---- classes in lists

has-take : (k n m : ℕ) (fs : List Float) → n ≤ m → has_class k (take n fs) ≡ true → has_class k (take m fs) ≡ true
has-take k n m fs le h = subst (λ gs. has_class k gs ≡ true) (between-take n m fs le) (has-more k (take n fs) (drop n (take m fs)) h)

-- a set with the classes of the first floats has those up to a later place if no other class is between
pub all-classes : (s : ClassSet) (n m : ℕ) (fs : List Float) → n ≤ m → AreClassesOf s (take n fs) → AreOfClasses (take n fs) (take m fs) → AreClassesOf s (take m fs)
all-classes s n m fs le are full = λ k low. are k low ∙ ap Some (same (has_class k (take n fs)) (has_class k (take m fs)) (has-take k n m fs le) (full k))
  where
    same : (a b : Bool) → (a ≡ true → b ≡ true) → (b ≡ true → a ≡ true) → a ≡ b
    same true b there back = sym (there refl)
    same false true there back = back refl
    same false false there back = refl

-- no other class is in the list if none is behind the first floats
pub all-behind : (n : ℕ) (fs : List Float) → AreOfClasses (take n fs) (drop n fs) → AreOfClasses (take n fs) fs
all-behind n fs behind k h =
    either (has_class k (take n fs)) (has_class k (drop n fs)) (behind k) (sym (list_any-append (λ (f : Float). f.class == k) (take n fs) (drop n fs)) ∙ ap (has_class k) (take-append-drop n fs) ∙ h)
  where
    either : (a b : Bool) → (b ≡ true → a ≡ true) → (a || b) ≡ true → a ≡ true
    either true b back e = refl
    either false b back e = back e

-- if a float leaves the list, the classes of the others are still counted
known-without : (known : List Bool) (n : ℕ) (fs : List Float) → AreKnown known fs → AreKnown known (take n fs ++ drop (suc n) fs)
known-without known zero [] h = tt
known-without known (suc n) [] h = tt
known-without known zero (f ∷ fs) h = h.1
known-without known (suc n) (f ∷ fs) h = (h.0, known-without known n fs h.1)

pub left-without : (s : ClassSet) (n : ℕ) (fs : List Float) → HasLeft s fs → HasLeft s (take n fs ++ drop (suc n) fs)
left-without s n fs h = record {
  known = h.known;
  size = h.size;
  are = known-without h.known n fs h.are;
  left = h.left;
}

-- ---- a walk whose floats all stay

abbrev pub Walk : Type 0
Walk = List Float → List Float → FloatLists → FloatLists

-- a float of the class of one that stays before it stays
abbrev pub Stays : Walk → FloatLists → Type 0
Stays walk l = (before rest : List Float) (f : Float) → has_class f.class before ≡ true → walk before (f ∷ rest) l ≡ walk (before ++ f ∷ []) rest l

all-stay : (walk : Walk) (l : FloatLists) (before rest later : List Float) → Stays walk l → AreOfClasses before rest → walk before (rest ++ later) l ≡ walk (before ++ rest) later l
all-stay walk l before [] later stays full = ap (λ b. walk b later l) (sym (append-nil before))
all-stay walk l before (f ∷ rest) later stays full =
    stays before (rest ++ later) f (full f.class (has-first f rest))
    ∙ all-stay walk l (before ++ f ∷ []) rest later stays (λ k e. has-more k before (f ∷ []) (full k (has-later k f rest e)))
    ∙ ap (λ b. walk b later l) (append_assoc before (f ∷ []) rest)

-- the walk goes on from a later place if no other class is between
pub walk-passed : (walk : Walk) (l : FloatLists) (n m : ℕ) (fs : List Float) → n ≤ m → Stays walk l → AreOfClasses (take n fs) (take m fs) → walk (take n fs) (drop n fs) l ≡ walk (take m fs) (drop m fs) l
walk-passed walk l n m fs le stays full =
    ap (λ rest. walk (take n fs) rest l) (sym (between-drop n m fs le))
    ∙ all-stay walk l (take n fs) (drop n (take m fs)) (drop m fs) stays (λ k e. full k (has-drop k n (take m fs) e))
    ∙ ap (λ b. walk b (drop m fs) l) (between-take n m fs le)

-- ---- a float of the class of one that stays before it

pub entry-closed : (p : Params) (s : Suppress) (l : FloatLists) (f : Float) (before : List Float) → has_class f.class before ≡ true → Deferred ≡ next_place p l s before f
entry-closed p s l f before has =
    let required = f.height +ℤ text_minimum p l f in
    sym (ap (λ b. where_of (if not (only_page f) && not f.wide && not b && may_come p l s limits.Total f && fits_column p l required then top_or_bottom p l s required f else deferred)) has
    ∙ ap (λ b. where_of (if b then top_or_bottom p l s required f else deferred)) (barred (not (only_page f)) (not f.wide) (may_come p l s limits.Total f) (fits_column p l required)))

pub double-closed : (p : Params) (s : Suppress) (l : FloatLists) (f : Float) (before : List Float) → has_class f.class before ≡ true → Deferred ≡ double_place p l s before f
double-closed p s l f before has =
    sym (ap (λ b. if f.places.t && f.wide && may_come p l s limits.Double f && not b && fits_double p l f then Double else Deferred) has
    ∙ ap (λ b. if b then Double else Deferred) (no-place f.places.t f.wide (may_come p l s limits.Double f) (fits_double p l f)))
  where
    no-place : (a b c d : Bool) → (a && b && c && false && d) ≡ false
    no-place true true true d = refl
    no-place true true false d = refl
    no-place true false c d = refl
    no-place false b c d = refl
