-- The laws of a decision follow from its tests.
use Rattle.std.proofs.Common.{◌≡◌, ℕ, Bool, true, false, not, ◌&&◌, ◌||◌, List, take, slice_get, Some, refl, sym, subst, arith}
use Rattle.std.specs.Prelude.{ℤ, pos, ◌+ℤ◌, ◌-ℤ◌, ◌<ℤ◌, int_lt, if◌then◌else◌}
use Rattle.std.proofs.lemmas.Int.{ints}
use Rattle.std.proofs.lemmas.Bool.{and_parts, not-true, or_parts}
use Rattle.tb_scaled.specs.Scaled.{fraction_of, max_ℤ}
use Rattle.tb_node.specs.declared.Float.{Float}
use Rattle.tb_node.specs.declared.Where.{Where}
use Rattle.tb_node.specs.declared.Where.TheVariants.{Here, Top, Double, Deferred}
use Rattle.tb_param.specs.declared.params.Params.{Params}
use Rattle.tb_float.specs.declared.Suppress.{Suppress}
use Rattle.tb_float.specs.declared.Limit.{Limit}
use Rattle.tb_float.specs.declared.Limit.TheVariants as limits
use Rattle.tb_float.specs.declared.Entry.TheVariants as entries
use Rattle.tb_float.specs.Lists.{FloatLists, has_class}
use Rattle.tb_float.specs.Rooms.{area_taken, double_taken, column_height_of, count_after, limit_number, limit_used, is_suppressed}
use Rattle.tb_area.specs.Area.{at_top, at_bottom, deferred, where_of, may_come, only_page, is_first_of_class, fits_column, fits_top, fits_bottom, is_above_its_class, tries_top, tries_bottom, may_enter, next_separator, fits_below, goes_bottom, bottom_or_deferred, fits_above, top_or_bottom, here_or_area, by_class, current_place, next_place, text_minimum, fits_double, goes_double, double_place}
use Rattle.tb_area.specs.Laws.{HasNone, IsBelow, KeepsLaws}

-- ---- tests

-- one more is let in, so fewer are there than the number
count-below : (number : ℤ) (used : ℕ) (suppressed bang : Bool) → bang ≡ false → int_lt (pos 0) (count_after number used suppressed bang) ≡ true → pos used <ℤ number
count-below number used suppressed true plain e = absurd (cc)
count-below number used true false plain e = grind (arith, ints)
count-below number used false false plain e = grind (arith, ints)

limit-below : (p : Params) (l : FloatLists) (s : Suppress) (limit : Limit) (f : Float) → may_come p l s limit f ≡ true → f.bang ≡ false → IsBelow p l limit
limit-below p l s limit f e plain = count-below (limit_number p limit) (limit_used l limit) (is_suppressed s limit) f.bang plain e

-- the height is less than what is left of the share
share-fits : (share taken height : ℤ) (bang : Bool) → (bang || int_lt height (share -ℤ taken)) ≡ true → bang ≡ false → (taken +ℤ height) <ℤ share
share-fits share taken height true e plain = absurd (cc)
share-fits share taken height false e plain = grind (arith, ints)

-- ---- the decisions

-- what holds if a float may enter a column
record Enters (p : Params) (l : FloatLists) (before : List Float) (f : Float) : Type 0 where
  single : f.wide ≡ false
  first : HasNone f before
  total : f.bang ≡ false → IsBelow p l limits.Total

entering : (p : Params) (l : FloatLists) (s : Suppress) (before : List Float) (r : ℤ) (f : Float) → may_enter p l s before r f ≡ true → Enters p l before f
entering p l s before r f e =
    let column = fits_column p l r in
    let come = may_come p l s limits.Total f in
    let first = is_first_of_class f before in
    let single = not f.wide in
    let other = not (only_page f) in
    let four = (and_parts (other && single && first && come) column e).0 in
    let three = (and_parts (other && single && first) come four).0 in
    let two = (and_parts (other && single) first three).0 in
    record {
      single = not-true f.wide (and_parts other single two).1;
      first = not-true (has_class f.class before) (and_parts (other && single) first three).1;
      total = limit-below p l s limits.Total f (and_parts (other && single && first) come four).1;
    }

stays : (p : Params) (l : FloatLists) (before : List Float) (f : Float) → KeepsLaws p l before f Deferred
stays p l before f = record { allowed = tt; order = tt; limits = λ _. tt }

bottom-by : (p : Params) (l : FloatLists) (s : Suppress) (before : List Float) (r : ℤ) (f : Float) → Enters p l before f → (b : Bool) → goes_bottom p l s r f ≡ b → KeepsLaws p l before f (where_of (if b then at_bottom else deferred))
bottom-by p l s before r f enters false e = stays p l before f
bottom-by p l s before r f enters true e =
    let below = r +ℤ next_separator p l.bottom in
    let tried = (and_parts (tries_bottom p l s f) (fits_below p l below f) e).0 in
    let fits = (and_parts (fits_column p l below) (fits_bottom p l f) (and_parts (tries_bottom p l s f) (fits_below p l below f) e).1).1 in
    let come = may_come p l s limits.Bottom f in
    record {
      allowed = ((and_parts f.places.b come tried).0, enters.single);
      order = enters.first;
      limits = λ plain. (enters.total plain, limit-below p l s limits.Bottom f (and_parts f.places.b come tried).1 plain, share-fits (fraction_of p.bottomfraction (column_height_of p l)) (area_taken p l.bottom) f.height f.bang fits plain);
    }

bottom-laws : (p : Params) (l : FloatLists) (s : Suppress) (before : List Float) (r : ℤ) (f : Float) → Enters p l before f → KeepsLaws p l before f (where_of (bottom_or_deferred p l s r f))
bottom-laws p l s before r f enters = bottom-by p l s before r f enters (goes_bottom p l s r f) refl

top-goes : (p : Params) (l : FloatLists) (s : Suppress) (before : List Float) (r : ℤ) (f : Float) → Enters p l before f → tries_top p l s f ≡ true → fits_above p l r f ≡ true → KeepsLaws p l before f Top
top-goes p l s before r f enters tried fits =
    let come = may_come p l s limits.Top f in
    let room = (and_parts (fits_column p l r) (fits_top p l f) (and_parts (fits_column p l r && fits_top p l f) (is_above_its_class l f) fits).0).1 in
    let above = not-true (has_class f.class l.here || has_class f.class l.bottom) (and_parts (fits_column p l r && fits_top p l f) (is_above_its_class l f) fits).1 in
    record {
      allowed = ((and_parts f.places.t come tried).0, enters.single);
      order = (enters.first, (or_parts (has_class f.class l.here) (has_class f.class l.bottom) above).0, (or_parts (has_class f.class l.here) (has_class f.class l.bottom) above).1);
      limits = λ plain. (enters.total plain, limit-below p l s limits.Top f (and_parts f.places.t come tried).1 plain, share-fits (fraction_of p.topfraction (column_height_of p l)) (area_taken p l.top) f.height f.bang room plain);
    }

top-by : (p : Params) (l : FloatLists) (s : Suppress) (before : List Float) (r above : ℤ) (f : Float) → Enters p l before f → (t u : Bool) → tries_top p l s f ≡ t → fits_above p l above f ≡ u → KeepsLaws p l before f (where_of (if t then (if u then at_top else bottom_or_deferred p l s above f) else bottom_or_deferred p l s r f))
top-by p l s before r above f enters false u tried fits = bottom-laws p l s before r f enters
top-by p l s before r above f enters true false tried fits = bottom-laws p l s before above f enters
top-by p l s before r above f enters true true tried fits = top-goes p l s before above f enters tried fits

area-laws : (p : Params) (l : FloatLists) (s : Suppress) (before : List Float) (r : ℤ) (f : Float) → Enters p l before f → KeepsLaws p l before f (where_of (top_or_bottom p l s r f))
area-laws p l s before r f enters =
    let above = r +ℤ next_separator p l.top in
    top-by p l s before r above f enters (tries_top p l s f) (fits_above p l above f) refl refl

here-by : (p : Params) (l : FloatLists) (s : Suppress) (before : List Float) (r inside : ℤ) (f : Float) → Enters p l before f → HasNone f l.bottom → (h u : Bool) → f.places.h ≡ h → KeepsLaws p l before f (if h then (if u then Here else where_of (top_or_bottom p l s inside f)) else where_of (top_or_bottom p l s r f))
here-by p l s before r inside f enters none false u here = area-laws p l s before r f enters
here-by p l s before r inside f enters none true false here = area-laws p l s before inside f enters
here-by p l s before r inside f enters none true true here = record { allowed = (here, enters.single); order = (enters.first, none); limits = enters.total }

class-by : (p : Params) (l : FloatLists) (s : Suppress) (before : List Float) (r : ℤ) (f : Float) → Enters p l before f → (b : Bool) → has_class f.class l.bottom ≡ b → KeepsLaws p l before f (if b then where_of (bottom_or_deferred p l s r f) else here_or_area p l s r f)
class-by p l s before r f enters true at = bottom-laws p l s before r f enters
class-by p l s before r f enters false none =
    let inside = r +ℤ p.intextsep.width in
    here-by p l s before r inside f enters none f.places.h (fits_column p l inside) refl

current-by : (p : Params) (l : FloatLists) (s : Suppress) (r : ℤ) (f : Float) (b : Bool) → may_enter p l s l.deferred r f ≡ b → KeepsLaws p l l.deferred f (if b then by_class p l s r f else Deferred)
current-by p l s r f false e = stays p l l.deferred f
current-by p l s r f true e = class-by p l s l.deferred r f (entering p l s l.deferred r f e) (has_class f.class l.bottom) refl

pub current-laws : (p : Params) (l : FloatLists) (s : Suppress) (h : ℤ) (f : Float) → KeepsLaws p l l.deferred f (current_place p l s h f)
current-laws p l s h f =
    let r = max_ℤ h (text_minimum p l f) +ℤ f.height in
    current-by p l s r f (may_enter p l s l.deferred r f) refl

next-by : (p : Params) (l : FloatLists) (s : Suppress) (before : List Float) (r : ℤ) (f : Float) (b : Bool) → may_enter p l s before r f ≡ b → KeepsLaws p l before f (where_of (if b then top_or_bottom p l s r f else deferred))
next-by p l s before r f false e = stays p l before f
next-by p l s before r f true e = area-laws p l s before r f (entering p l s before r f e)

pub next-laws : (p : Params) (l : FloatLists) (s : Suppress) (before : List Float) (f : Float) → KeepsLaws p l before f (next_place p l s before f)
next-laws p l s before f =
    let r = f.height +ℤ text_minimum p l f in
    next-by p l s before r f (may_enter p l s before r f) refl

-- the mark `!` is not there, so the room is that of the share
double-fits : (share taken rest height : ℤ) (bang : Bool) → bang ≡ false → int_lt height (if bang then (share -ℤ taken) +ℤ rest else share -ℤ taken) ≡ true → (taken +ℤ height) <ℤ share
double-fits share taken rest height true plain e = absurd (cc)
double-fits share taken rest height false plain e = grind (arith, ints)

double-by : (p : Params) (l : FloatLists) (s : Suppress) (before : List Float) (f : Float) (b : Bool) → goes_double p l s before f ≡ b → KeepsLaws p l before f (if b then Double else Deferred)
double-by p l s before f false e = stays p l before f
double-by p l s before f true e =
    let come = may_come p l s limits.Double f in
    let first = is_first_of_class f before in
    let four = (and_parts (f.places.t && f.wide && come && first) (fits_double p l f) e).0 in
    let fits = (and_parts (f.places.t && f.wide && come && first) (fits_double p l f) e).1 in
    let three = (and_parts (f.places.t && f.wide && come) first four).0 in
    let two = (and_parts (f.places.t && f.wide) come three).0 in
    record {
      allowed = ((and_parts f.places.t f.wide two).0, (and_parts f.places.t f.wide two).1);
      order = not-true (has_class f.class before) (and_parts (f.places.t && f.wide && come) first four).1;
      limits = λ plain. (limit-below p l s limits.Double f (and_parts (f.places.t && f.wide) come three).1 plain, double-fits (fraction_of p.dbltopfraction p.textheight) (double_taken p l) (p.textheight -ℤ fraction_of p.dbltopfraction p.textheight) f.height f.bang plain fits);
    }

pub double-laws : (p : Params) (l : FloatLists) (s : Suppress) (before : List Float) (f : Float) → KeepsLaws p l before f (double_place p l s before f)
double-laws p l s before f = double-by p l s before f (goes_double p l s before f) refl

-- ---- the same of what a call returns

pub current-kept : (p : Params) (l : FloatLists) (s : Suppress) (h : ℤ) (w : Where) → ((f : Float) → slice_get l.current 0 ≡ Some (entries.Float f) → w ≡ current_place p l s h f) → (f : Float) → slice_get l.current 0 ≡ Some (entries.Float f) → KeepsLaws p l l.deferred f w
current-kept p l s h w place f there = subst (KeepsLaws p l l.deferred f) (sym (place f there)) (current-laws p l s h f)

pub next-kept : (p : Params) (l : FloatLists) (s : Suppress) (k : ℕ) (w : Where) → ((f : Float) → slice_get l.deferred k ≡ Some f → w ≡ next_place p l s (take k l.deferred) f) → (f : Float) → slice_get l.deferred k ≡ Some f → KeepsLaws p l (take k l.deferred) f w
next-kept p l s k w place f there = subst (KeepsLaws p l (take k l.deferred) f) (sym (place f there)) (next-laws p l s (take k l.deferred) f)

pub double-kept : (p : Params) (l : FloatLists) (fs : List Float) (k : ℕ) (w : Where) → ((s : Suppress) (f : Float) → slice_get fs k ≡ Some f → w ≡ double_place p l s (take k fs) f) → (f : Float) → slice_get fs k ≡ Some f → KeepsLaws p l (take k fs) f w
double-kept p l fs k w place f there =
    let s : Suppress = record { all = false; top = false; bottom = false } in
    subst (KeepsLaws p l (take k fs) f) (sym (place s f there)) (double-laws p l s (take k fs) f)
