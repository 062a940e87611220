-- The walks over the deferred floats keep the floats of each class, in their order.
use Rattle.std.proofs.Common.{◌≡◌, ℕ, Bool, true, false, cond, List, [], ◌∷◌, ◌++◌, refl, sym, ap, ◌∙◌, append_assoc}
use Rattle.std.specs.Prelude.{◌==◌, if◌then◌else◌}
use Rattle.std.proofs.lemmas.Bool.{eqb-true, or_parts}
use Rattle.std.proofs.lemmas.List.{append-nil}
use Rattle.tb_node.specs.declared.Float.{Float}
use Rattle.tb_node.specs.declared.Where.TheVariants as places
use Rattle.tb_param.specs.declared.params.Params.{Params}
use Rattle.tb_float.specs.declared.Suppress.{Suppress}
use Rattle.tb_float.specs.declared.Part.{Part}
use Rattle.tb_float.specs.declared.Part.TheVariants as parts
use Rattle.tb_float.specs.Lists.{FloatLists, has_class, of_class, floats_of, IsWaiting}
use Rattle.tb_float.proofs.WaitingLemmas.{floats-with}
use Rattle.tb_area.specs.Area.{AreaPlace, at_top, at_bottom, deferred, where_of, next_area_place, goes_double}
use Rattle.tb_area.specs.Deferred.{gone_to, still_before, filled, gone_double, still_single, doubled}
use Rattle.tb_area.specs.Laws.{HasNone, PassesNone, column_order, double_order}
use Rattle.tb_area.proofs.LawLemmas.{next-laws, double-laws}
use Rattle.tb_float.proofs.ClassLemmas.{of_class-append}

-- ---- the floats of a class

none-of : (k : ℕ) (fs : List Float) → has_class k fs ≡ false → of_class k fs ≡ []
none-of k [] e = refl
none-of k (f ∷ fs) e =
    let both = or_parts (f.class == k) (has_class k fs) e in
    ap (λ t. cond t (f ∷ of_class k fs) (of_class k fs)) both.0 ∙ none-of k fs both.1

-- the float is of the class and none comes before, or it is of another one
past : (k : ℕ) (f : Float) (before : List Float) → HasNone f before → of_class k (f ∷ []) ++ of_class k before ≡ of_class k before ++ of_class k (f ∷ [])
past k f before none = by_class (f.class == k) refl
  where
    by_class : (t : Bool) → (f.class == k) ≡ t → cond t (f ∷ []) [] ++ of_class k before ≡ of_class k before ++ cond t (f ∷ []) []
    by_class true e =
        let same : f.class ≡ k = eqb-true f.class k e in
        let empty : of_class k before ≡ [] = none-of k before (ap (λ n. has_class n before) (sym same) ∙ none) in
        ap (λ xs. f ∷ xs) empty ∙ ap (λ xs. xs ++ f ∷ []) (sym empty)
    by_class false e = sym (append-nil (of_class k before))

-- what passes a list passes it before another one
swap : (xs ys zs : List Float) → xs ++ ys ≡ ys ++ xs → xs ++ (ys ++ zs) ≡ ys ++ (xs ++ zs)
swap xs ys zs h = sym (append_assoc xs ys zs) ∙ ap (λ l. l ++ zs) h ∙ append_assoc ys xs zs

over-two : (a x b c e : List Float) → x ++ b ≡ b ++ x → x ++ c ≡ c ++ x → ((a ++ x) ++ b) ++ (c ++ e) ≡ (a ++ b) ++ (c ++ (x ++ e))
over-two a x b c e hb hc = simp append_assoc (ap (λ l. a ++ l) (swap x b (c ++ e) hb ∙ ap (λ l. b ++ l) (swap x c e hc)))

over-one : (a b x c e : List Float) → x ++ c ≡ c ++ x → (a ++ (b ++ x)) ++ (c ++ e) ≡ (a ++ b) ++ (c ++ (x ++ e))
over-one a b x c e hc = simp append_assoc (ap (λ l. a ++ (b ++ l)) (swap x c e hc))

over-none : (a x c e : List Float) → x ++ c ≡ c ++ x → (a ++ x) ++ (c ++ e) ≡ a ++ (c ++ (x ++ e))
over-none a x c e hc = simp append_assoc (ap (λ l. a ++ l) (swap x c e hc))

three : (k : ℕ) (xs ys zs : List Float) → of_class k (xs ++ ys ++ zs) ≡ (of_class k xs ++ of_class k ys) ++ of_class k zs
three k xs ys zs = of_class-append k (xs ++ ys) zs ∙ ap (λ l. l ++ of_class k zs) (of_class-append k xs ys)

with-float : (k : ℕ) (f : Float) (before rest : List Float) → of_class k (before ++ f ∷ rest) ≡ of_class k before ++ (of_class k (f ∷ []) ++ of_class k rest)
with-float k f before rest = of_class-append k before (f ∷ rest) ∙ ap (λ l. of_class k before ++ l) (of_class-append k (f ∷ []) rest)

-- ---- a turn

top-order : (k : ℕ) (f : Float) (top bottom before rest : List Float) → HasNone f bottom → HasNone f before → of_class k ((top ++ f ∷ []) ++ bottom ++ (before ++ rest)) ≡ of_class k (top ++ bottom ++ (before ++ f ∷ rest))
top-order k f top bottom before rest below first =
    three k (top ++ f ∷ []) bottom (before ++ rest)
    ∙ ap (λ l. (l ++ of_class k bottom) ++ of_class k (before ++ rest)) (of_class-append k top (f ∷ []))
    ∙ ap (λ l. ((of_class k top ++ of_class k (f ∷ [])) ++ of_class k bottom) ++ l) (of_class-append k before rest)
    ∙ over-two (of_class k top) (of_class k (f ∷ [])) (of_class k bottom) (of_class k before) (of_class k rest) (past k f bottom below) (past k f before first)
    ∙ sym (three k top bottom (before ++ f ∷ rest) ∙ ap (λ l. (of_class k top ++ of_class k bottom) ++ l) (with-float k f before rest))

bottom-order : (k : ℕ) (f : Float) (top bottom before rest : List Float) → HasNone f before → of_class k (top ++ (bottom ++ f ∷ []) ++ (before ++ rest)) ≡ of_class k (top ++ bottom ++ (before ++ f ∷ rest))
bottom-order k f top bottom before rest first =
    three k top (bottom ++ f ∷ []) (before ++ rest)
    ∙ ap (λ l. (of_class k top ++ l) ++ of_class k (before ++ rest)) (of_class-append k bottom (f ∷ []))
    ∙ ap (λ l. (of_class k top ++ (of_class k bottom ++ of_class k (f ∷ []))) ++ l) (of_class-append k before rest)
    ∙ over-one (of_class k top) (of_class k bottom) (of_class k (f ∷ [])) (of_class k before) (of_class k rest) (past k f before first)
    ∙ sym (three k top bottom (before ++ f ∷ rest) ∙ ap (λ l. (of_class k top ++ of_class k bottom) ++ l) (with-float k f before rest))

two-order : (k : ℕ) (f : Float) (double before rest : List Float) → HasNone f before → of_class k ((double ++ f ∷ []) ++ (before ++ rest)) ≡ of_class k (double ++ (before ++ f ∷ rest))
two-order k f double before rest first =
    of_class-append k (double ++ f ∷ []) (before ++ rest)
    ∙ ap (λ l. l ++ of_class k (before ++ rest)) (of_class-append k double (f ∷ []))
    ∙ ap (λ l. (of_class k double ++ of_class k (f ∷ [])) ++ l) (of_class-append k before rest)
    ∙ over-none (of_class k double) (of_class k (f ∷ [])) (of_class k before) (of_class k rest) (past k f before first)
    ∙ sym (of_class-append k double (before ++ f ∷ rest) ∙ ap (λ l. of_class k double ++ l) (with-float k f before rest))

gone-order : (k : ℕ) (a : AreaPlace) (f : Float) (before rest : List Float) (l : FloatLists) → l.deferred ≡ before ++ f ∷ rest → PassesNone l before f (where_of a) → column_order k (gone_to a f before rest l) ≡ column_order k l
gone-order k at_top f before rest l e order = top-order k f l.top l.bottom before rest order.2 order.0 ∙ ap (λ d. of_class k (l.top ++ l.bottom ++ d)) (sym e)
gone-order k at_bottom f before rest l e order = bottom-order k f l.top l.bottom before rest order ∙ ap (λ d. of_class k (l.top ++ l.bottom ++ d)) (sym e)
gone-order k deferred f before rest l e order = refl

pub gone-deferred : (a : AreaPlace) (f : Float) (before rest : List Float) (l : FloatLists) → l.deferred ≡ before ++ f ∷ rest → (gone_to a f before rest l).deferred ≡ still_before a f before ++ rest
gone-deferred at_top f before rest l e = refl
gone-deferred at_bottom f before rest l e = refl
gone-deferred deferred f before rest l e = e ∙ sym (append_assoc before (f ∷ []) rest)

-- ---- the walks

filled-order : (k : ℕ) (p : Params) (s : Suppress) (before fs : List Float) (l : FloatLists) → l.deferred ≡ before ++ fs → column_order k (filled p s before fs l) ≡ column_order k l
filled-order k p s before [] l e = refl
filled-order k p s before (f ∷ rest) l e =
    let a = next_area_place p l s before f in
    let laws = next-laws p l s before f in
    filled-order k p s (still_before a f before) rest (gone_to a f before rest l) (gone-deferred a f before rest l e) ∙ gone-order k a f before rest l e laws.order

-- the floats of a class keep their order as the next column is filled
pub fill-order : (k : ℕ) (p : Params) (s : Suppress) (l : FloatLists) → column_order k (filled p s [] l.deferred l) ≡ column_order k l
fill-order k p s l = filled-order k p s [] l.deferred l refl

gone_double-order : (from : Part) → IsWaiting from → (k : ℕ) (b : Bool) (f : Float) (before rest : List Float) (l : FloatLists) → floats_of from l ≡ before ++ f ∷ rest → PassesNone l before f (if b then places.Double else places.Deferred) → double_order from k (gone_double from b f before rest l) ≡ double_order from k l
gone_double-order parts.Deferred w k true f before rest l e order = two-order k f l.double before rest order ∙ ap (λ d. of_class k (l.double ++ d)) (sym e)
gone_double-order parts.Deferred w k false f before rest l e order = refl
gone_double-order parts.Second w k true f before rest l e order = two-order k f l.double before rest order ∙ ap (λ d. of_class k (l.double ++ d)) (sym e)
gone_double-order parts.Second w k false f before rest l e order = refl
gone_double-order from w k b f before rest l e order = absurd w

pub gone_double-waiting : (from : Part) → IsWaiting from → (b : Bool) (f : Float) (before rest : List Float) (l : FloatLists) → floats_of from l ≡ before ++ f ∷ rest → floats_of from (gone_double from b f before rest l) ≡ still_single b f before ++ rest
gone_double-waiting from w true f before rest l e = floats-with from w (before ++ rest) (record l { double = l.double ++ f ∷ [] })
gone_double-waiting from w false f before rest l e = e ∙ sym (append_assoc before (f ∷ []) rest)

doubled-order : (from : Part) → IsWaiting from → (k : ℕ) (p : Params) (s : Suppress) (before fs : List Float) (l : FloatLists) → floats_of from l ≡ before ++ fs → double_order from k (doubled from p s before fs l) ≡ double_order from k l
doubled-order from w k p s before [] l e = refl
doubled-order from w k p s before (f ∷ rest) l e =
    let b = goes_double p l s before f in
    let laws = double-laws p l s before f in
    doubled-order from w k p s (still_single b f before) rest (gone_double from b f before rest l) (gone_double-waiting from w b f before rest l e) ∙ gone_double-order from w k b f before rest l e laws.order

-- the floats of a class keep their order as the space above both columns is filled
pub double-order : (from : Part) → IsWaiting from → (k : ℕ) (p : Params) (s : Suppress) (l : FloatLists) → double_order from k (doubled from p s [] (floats_of from l) l) ≡ double_order from k l
double-order from w k p s l = doubled-order from w k p s [] (floats_of from l) l refl
