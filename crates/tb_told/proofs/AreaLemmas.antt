-- What is told of a decision says where the float goes.
use Rattle.std.proofs.Common.{◌≡◌, Bool, true, false, List, [], refl, sym, ap, ◌∙◌}
use Rattle.std.specs.Prelude.{ℤ, ◌+ℤ◌, ◌&&◌, not, if◌then◌else◌}
use Rattle.tb_scaled.specs.Scaled.{max_ℤ}
use Rattle.tb_node.specs.declared.Float.{Float}
use Rattle.tb_node.specs.declared.Where.{Where}
use Rattle.tb_node.specs.declared.Where.TheVariants.{Here, Top, Double, Deferred}
use Rattle.tb_param.specs.declared.Params.{Params}
use Rattle.tb_float.specs.declared.Suppress.{Suppress}
use Rattle.tb_float.specs.declared.Limit.TheVariants as limits
use Rattle.tb_float.specs.Lists.{FloatLists, has_class}
use Rattle.tb_told.specs.Tested.{all_hold}
use Rattle.tb_area.specs.Area.{AreaPlace, at_top, at_bottom, deferred, where_of, may_come, only_page, is_first_of_class, fits_column, fits_top, fits_bottom, is_above_its_class, text_minimum, next_separator, fits_double, double_place, tries_top, bottom_or_deferred, top_or_bottom, by_class, current_place, next_place, may_enter}
use Rattle.tb_told.specs.declared.Told.{Told}
use Rattle.tb_told.specs.AreaTold.{enter_tests, here_tests, top_tests, told_bottom, told_areas, told_column, told_call, told_next, told_wide, place_told}

-- ---- the tests of an area against its decision

enter_and : (a b c d e : Bool) → (a && (b && (c && (d && (e && true))))) ≡ (a && b && c && d && e)
enter_and false b c d e = refl
enter_and true false c d e = refl
enter_and true true false d e = refl
enter_and true true true false e = refl
enter_and true true true true false = refl
enter_and true true true true true = refl

bottom_and : (a b c d : Bool) → (a && (b && (c && (d && true)))) ≡ ((a && b) && (c && d))
bottom_and false b c d = refl
bottom_and true false c d = refl
bottom_and true true false d = refl
bottom_and true true true false = refl
bottom_and true true true true = refl

top_by : (a b c d e : Bool) (low : ℤ → AreaPlace) (above required : ℤ) →
    (if a && (b && (c && (d && (e && true)))) then Top else where_of (low (if a && b then above else required)))
    ≡ where_of (if a && b then (if c && d && e then at_top else low above) else low required)
top_by false b c d e low above required = refl
top_by true false c d e low above required = refl
top_by true true false d e low above required = refl
top_by true true true false e low above required = refl
top_by true true true true false low above required = refl
top_by true true true true true low above required = refl

column_by : (held a b : Bool) (low : Where) (areas : ℤ → Where) (inside required : ℤ) →
    (if not held && (a && (b && true)) then Here else (if held then low else areas (if a then inside else required)))
    ≡ (if held then low else (if a then (if b then Here else areas inside) else areas required))
column_by true a b low areas inside required = refl
column_by false false b low areas inside required = refl
column_by false true false low areas inside required = refl
column_by false true true low areas inside required = refl

-- ---- where the float goes

place_by : (b : Bool) (x y : List Told) (w v : Where) → place_told x ≡ w → place_told y ≡ v → place_told (if b then x else y) ≡ (if b then w else v)
place_by true x y w v e d = e
place_by false x y w v e d = d

bottom_decides : (p : Params) (l : FloatLists) (s : Suppress) (r : ℤ) (f : Float) → place_told (told_bottom p l s r f) ≡ where_of (bottom_or_deferred p l s r f)
bottom_decides p l s r f =
    ap (λ b. where_of (if b then at_bottom else deferred)) (bottom_and f.places.b (may_come p l s limits.Bottom f) (fits_column p l (r +ℤ next_separator p l.bottom)) (fits_bottom p l f))

areas_decide : (p : Params) (l : FloatLists) (s : Suppress) (r : ℤ) (f : Float) → place_told (told_areas p l s r f) ≡ where_of (top_or_bottom p l s r f)
areas_decide p l s r f =
    let above = r +ℤ next_separator p l.top in
    let low = if tries_top p l s f then above else r in
    place_by (all_hold (top_tests p l s above f)) _ (told_bottom p l s low f) Top (where_of (bottom_or_deferred p l s low f)) refl (bottom_decides p l s low f)
    ∙ top_by f.places.t (may_come p l s limits.Top f) (fits_column p l above) (fits_top p l f) (is_above_its_class l f) (λ z. bottom_or_deferred p l s z f) above r

column_decides : (p : Params) (l : FloatLists) (s : Suppress) (r : ℤ) (f : Float) → place_told (told_column p l s r f) ≡ by_class p l s r f
column_decides p l s r f =
    let inside = r +ℤ p.intextsep.width in
    let to = if f.places.h then inside else r in
    place_by (all_hold (here_tests p l inside f)) _ (if has_class f.class l.bottom then told_bottom p l s r f else told_areas p l s to f) Here
    (if has_class f.class l.bottom then where_of (bottom_or_deferred p l s r f) else where_of (top_or_bottom p l s to f)) refl
    (place_by (has_class f.class l.bottom) (told_bottom p l s r f) (told_areas p l s to f) (where_of (bottom_or_deferred p l s r f)) (where_of (top_or_bottom p l s to f)) (bottom_decides p l s r f) (areas_decide p l s to f))
    ∙ column_by (has_class f.class l.bottom) f.places.h (fits_column p l inside) (where_of (bottom_or_deferred p l s r f)) (λ z. where_of (top_or_bottom p l s z f)) inside r

-- a float enters a column exactly if all tests of it hold
pub enters_if : (p : Params) (l : FloatLists) (s : Suppress) (before : List Float) (r : ℤ) (f : Float) → all_hold (enter_tests p l s before r f) ≡ may_enter p l s before r f
enters_if p l s before r f = enter_and (not (only_page f)) (not f.wide) (is_first_of_class f before) (may_come p l s limits.Total f) (fits_column p l r)

-- what is told of a call says where the float goes
pub call_decides : (p : Params) (l : FloatLists) (s : Suppress) (page_height : ℤ) (f : Float) → place_told (told_call p l s page_height f) ≡ current_place p l s page_height f
call_decides p l s page_height f =
    let r = max_ℤ page_height (text_minimum p l f) +ℤ f.height in
    place_by (all_hold (enter_tests p l s l.deferred r f)) (told_column p l s r f) _ (by_class p l s r f) Deferred (column_decides p l s r f) refl
    ∙ ap (λ b. if b then by_class p l s r f else Deferred) (enters_if p l s l.deferred r f)

asked_by : (b : Bool) (x : List Told) (w : Where) → place_told x ≡ w → (b ≡ true → w ≡ Deferred) → place_told (if b then [] else x) ≡ w
asked_by true x w e d = sym (d refl)
asked_by false x w e d = e

wide_by : (b : Bool) (x : List Told) (w : Where) → place_told x ≡ w → (b ≡ false → w ≡ Deferred) → place_told (if b then x else []) ≡ w
wide_by true x w e d = e
wide_by false x w e d = sym (d refl)

next_by : (b : Bool) (a : AreaPlace) → (if b then where_of a else Deferred) ≡ where_of (if b then a else deferred)
next_by true a = refl
next_by false a = refl

stays : (a wide b c d : Bool) (x : AreaPlace) → wide ≡ true → where_of (if a && not wide && b && c && d then x else deferred) ≡ Deferred
stays false wide b c d x e = refl
stays true true b c d x e = refl
stays true false b c d x e = cc

-- what is told at the start of a column says where the float goes
pub next_decides : (p : Params) (l : FloatLists) (s : Suppress) (before : List Float) (f : Float) → place_told (told_next p l s before f) ≡ next_place p l s before f
next_decides p l s before f =
    let r = f.height +ℤ text_minimum p l f in
    asked_by f.wide _ (next_place p l s before f)
    (place_by (all_hold (enter_tests p l s before r f)) (told_areas p l s r f) _ (where_of (top_or_bottom p l s r f)) Deferred (areas_decide p l s r f) refl
    ∙ ap (λ b. if b then where_of (top_or_bottom p l s r f) else Deferred) (enters_if p l s before r f)
    ∙ next_by (may_enter p l s before r f) (top_or_bottom p l s r f))
    (λ e. stays (not (only_page f)) f.wide (is_first_of_class f before) (may_come p l s limits.Total f) (fits_column p l r) (top_or_bottom p l s r f) e)

stays_single : (a wide b c d : Bool) → wide ≡ false → (if a && wide && b && c && d then Double else Deferred) ≡ Deferred
stays_single false wide b c d e = refl
stays_single true false b c d e = refl
stays_single true true b c d e = cc

-- what is told after a pair of columns says where the float goes
pub wide_decides : (p : Params) (l : FloatLists) (s : Suppress) (before : List Float) (f : Float) → place_told (told_wide p l s before f) ≡ double_place p l s before f
wide_decides p l s before f =
    wide_by f.wide _ (double_place p l s before f)
    (ap (λ b. if b then Double else Deferred) (enter_and f.places.t f.wide (may_come p l s limits.Double f) (is_first_of_class f before) (fits_double p l f)))
    (λ e. stays_single f.places.t f.wide (may_come p l s limits.Double f) (is_first_of_class f before) (fits_double p l f) e)
