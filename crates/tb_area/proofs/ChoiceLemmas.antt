-- What a decision is if its tests are known.
use Rattle.std.proofs.Common.{◌≡◌, Bool, true, false, not, List, [], refl, sym, ap, ◌∙◌}
use Rattle.std.specs.Prelude.{ℤ, ◌+ℤ◌, ◌&&◌, if◌then◌else◌}
use Rattle.tb_scaled.specs.Scaled.{max_ℤ}
use Rattle.tb_node.specs.declared.Float.{Float}
use Rattle.tb_node.specs.declared.Where.{Where}
use Rattle.tb_node.specs.declared.Where.TheVariants.{Here, Bottom, Double, Deferred}
use Rattle.tb_param.specs.declared.params.Params.{Params}
use Rattle.tb_float.specs.declared.Suppress.{Suppress}
use Rattle.tb_float.specs.declared.Limit.TheVariants as limits
use Rattle.tb_float.specs.Lists.{FloatLists, has_class}
use Rattle.tb_area.specs.Area.{may_come, only_page, at_top, at_bottom, deferred, where_of, goes_bottom, tries_bottom, fits_below, bottom_or_deferred, tries_top, fits_above, next_separator, top_or_bottom, fits_column, here_or_area, by_class, text_minimum, may_enter, current_place, next_place, goes_double, double_place}

pub bottom_tried : (p : Params) (l : FloatLists) (s : Suppress) (r below : ℤ) (f : Float) → tries_bottom p l s f ≡ true → below ≡ r +ℤ next_separator p l.bottom → goes_bottom p l s r f ≡ fits_below p l below f
bottom_tried p l s r below f e is =
    ap (λ b. b && fits_below p l (r +ℤ next_separator p l.bottom) f) e ∙ ap (λ a. fits_below p l a f) (sym is)

pub bottom_not_tried : (p : Params) (l : FloatLists) (s : Suppress) (r : ℤ) (f : Float) → tries_bottom p l s f ≡ false → goes_bottom p l s r f ≡ false
bottom_not_tried p l s r f e = ap (λ b. b && fits_below p l (r +ℤ next_separator p l.bottom) f) e

pub bottom_by : (p : Params) (l : FloatLists) (s : Suppress) (r : ℤ) (f : Float) (b : Bool) → goes_bottom p l s r f ≡ b → where_of (bottom_or_deferred p l s r f) ≡ (if b then Bottom else Deferred)
bottom_by p l s r f true e = ap (λ b. where_of (if b then at_bottom else deferred)) e
bottom_by p l s r f false e = ap (λ b. where_of (if b then at_bottom else deferred)) e

-- the top is tried with this much required
pub top_tried : (p : Params) (l : FloatLists) (s : Suppress) (r above : ℤ) (f : Float) → tries_top p l s f ≡ true → above ≡ r +ℤ next_separator p l.top → where_of (top_or_bottom p l s r f) ≡ where_of (if fits_above p l above f then at_top else bottom_or_deferred p l s above f)
top_tried p l s r above f e is =
    ap (λ b. where_of (if b then (if fits_above p l (r +ℤ next_separator p l.top) f then at_top else bottom_or_deferred p l s (r +ℤ next_separator p l.top) f) else bottom_or_deferred p l s r f)) e ∙ ap (λ a. where_of (if fits_above p l a f then at_top else bottom_or_deferred p l s a f)) (sym is)

pub top_by : (p : Params) (l : FloatLists) (s : Suppress) (r above : ℤ) (f : Float) (b : Bool) (w : Where) → tries_top p l s f ≡ true → above ≡ r +ℤ next_separator p l.top → fits_above p l above f ≡ b → w ≡ where_of (if b then at_top else bottom_or_deferred p l s above f) → w ≡ where_of (top_or_bottom p l s r f)
top_by p l s r above f b w e is fits goes =
    goes ∙ sym (top_tried p l s r above f e is ∙ ap (λ b. where_of (if b then at_top else bottom_or_deferred p l s above f)) fits)

pub not_here : (p : Params) (l : FloatLists) (s : Suppress) (r : ℤ) (f : Float) (w : Where) → f.places.h ≡ false → w ≡ where_of (top_or_bottom p l s r f) → w ≡ here_or_area p l s r f
not_here p l s r f w e goes =
    goes ∙ ap (λ b. if b then (if fits_column p l (r +ℤ p.intextsep.width) then Here else where_of (top_or_bottom p l s (r +ℤ p.intextsep.width) f)) else where_of (top_or_bottom p l s r f)) (sym e)

-- the text is tried with this much required
here_tried : (p : Params) (l : FloatLists) (s : Suppress) (r inside : ℤ) (f : Float) → f.places.h ≡ true → inside ≡ r +ℤ p.intextsep.width → here_or_area p l s r f ≡ (if fits_column p l inside then Here else where_of (top_or_bottom p l s inside f))
here_tried p l s r inside f e is =
    ap (λ b. if b then (if fits_column p l (r +ℤ p.intextsep.width) then Here else where_of (top_or_bottom p l s (r +ℤ p.intextsep.width) f)) else where_of (top_or_bottom p l s r f)) e ∙ ap (λ a. if fits_column p l a then Here else where_of (top_or_bottom p l s a f)) (sym is)

pub here_goes : (p : Params) (l : FloatLists) (s : Suppress) (r inside : ℤ) (f : Float) → f.places.h ≡ true → inside ≡ r +ℤ p.intextsep.width → fits_column p l inside ≡ true → Here ≡ here_or_area p l s r f
here_goes p l s r inside f e is fits =
    sym (here_tried p l s r inside f e is ∙ ap (λ b. if b then Here else where_of (top_or_bottom p l s inside f)) fits)

pub here_fails : (p : Params) (l : FloatLists) (s : Suppress) (r inside : ℤ) (f : Float) (w : Where) → f.places.h ≡ true → inside ≡ r +ℤ p.intextsep.width → fits_column p l inside ≡ false → w ≡ where_of (top_or_bottom p l s inside f) → w ≡ here_or_area p l s r f
here_fails p l s r inside f w e is fits goes =
    goes ∙ sym (here_tried p l s r inside f e is ∙ ap (λ b. if b then Here else where_of (top_or_bottom p l s inside f)) fits)

pub class_at_bottom : (p : Params) (l : FloatLists) (s : Suppress) (r : ℤ) (f : Float) (w : Where) → has_class f.class l.bottom ≡ true → w ≡ where_of (bottom_or_deferred p l s r f) → w ≡ by_class p l s r f
class_at_bottom p l s r f w e goes =
    goes ∙ ap (λ b. if b then where_of (bottom_or_deferred p l s r f) else here_or_area p l s r f) (sym e)

pub class_not_at_bottom : (p : Params) (l : FloatLists) (s : Suppress) (r : ℤ) (f : Float) (w : Where) → has_class f.class l.bottom ≡ false → w ≡ here_or_area p l s r f → w ≡ by_class p l s r f
class_not_at_bottom p l s r f w e goes =
    goes ∙ ap (λ b. if b then where_of (bottom_or_deferred p l s r f) else here_or_area p l s r f) (sym e)

pub entered : (p : Params) (l : FloatLists) (s : Suppress) (r : ℤ) (f : Float) (b : Bool) (w : Where) → may_enter p l s [] r f ≡ b → w ≡ (if b then by_class p l s r f else Deferred) → w ≡ (if may_enter p l s [] r f then by_class p l s r f else Deferred)
entered p l s r f b w e goes = goes ∙ ap (λ a. if a then by_class p l s r f else Deferred) (sym e)

-- the third test fails
pub barred : (a b c d : Bool) → (a && b && false && c && d) ≡ false
barred true true c d = refl
barred true false c d = refl
barred false b c d = refl

-- if a float of its class waits, a float may not enter its column; else none counts as waiting
behind : (p : Params) (l : FloatLists) (s : Suppress) (r : ℤ) (f : Float) (waits : Bool) → has_class f.class l.deferred ≡ waits → (if waits then Deferred else (if may_enter p l s [] r f then by_class p l s r f else Deferred)) ≡ (if may_enter p l s l.deferred r f then by_class p l s r f else Deferred)
behind p l s r f true e =
    sym (ap (λ h. if (not (only_page f) && not f.wide && not h && may_come p l s limits.Total f && fits_column p l r) then by_class p l s r f else Deferred) e ∙ ap (λ b. if b then by_class p l s r f else Deferred) (barred (not (only_page f)) (not f.wide) (may_come p l s limits.Total f) (fits_column p l r)))
behind p l s r f false e =
    ap (λ h. if (not (only_page f) && not f.wide && not h && may_come p l s limits.Total f && fits_column p l r) then by_class p l s r f else Deferred) (sym e)

-- where a float goes in its own column: t is the least height of the text, m that of the page, r is required
pub current_by : (p : Params) (l : FloatLists) (s : Suppress) (h t m r : ℤ) (f : Float) (w : Where) → t ≡ text_minimum p l f → m ≡ max_ℤ h t → r ≡ m +ℤ f.height → w ≡ (if has_class f.class l.deferred then Deferred else (if may_enter p l s [] r f then by_class p l s r f else Deferred)) → w ≡ current_place p l s h f
current_by p l s h t m r f w text page is goes =
    let required : r ≡ max_ℤ h (text_minimum p l f) +ℤ f.height = cc in
    goes ∙ behind p l s r f (has_class f.class l.deferred) refl ∙ ap (λ q. if may_enter p l s l.deferred q f then by_class p l s q f else Deferred) required

-- a float may enter the next column, or not
pub next_by : (p : Params) (l : FloatLists) (s : Suppress) (before : List Float) (t r : ℤ) (f : Float) (b : Bool) (w : Where) → t ≡ text_minimum p l f → r ≡ f.height +ℤ t → may_enter p l s before r f ≡ b → w ≡ where_of (if b then top_or_bottom p l s r f else deferred) → w ≡ next_place p l s before f
next_by p l s before t r f b w text is e goes =
    let required : f.height +ℤ text_minimum p l f ≡ r = cc in
    goes ∙ sym (ap (λ q. where_of (if may_enter p l s before q f then top_or_bottom p l s q f else deferred)) required ∙ ap (λ a. where_of (if a then top_or_bottom p l s r f else deferred)) e)

pub double_by : (p : Params) (l : FloatLists) (s : Suppress) (before : List Float) (f : Float) (b : Bool) → goes_double p l s before f ≡ b → double_place p l s before f ≡ (if b then Double else Deferred)
double_by p l s before f b e = ap (λ a. if a then Double else Deferred) e
