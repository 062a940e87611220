-- What is told of a decision, area by area.
use Rattle.std.proofs.Common.{◌≡◌, Bool, true, false, List, [], ◌∷◌, ◌++◌, append_assoc, append-nil, refl, sym, ap, ◌∙◌, Result, Ok, Err, OnOk}
use Rattle.std.specs.Prelude.{ℤ, ◌+ℤ◌, if◌then◌else◌}
use Rattle.tb_node.specs.declared.Float.{Float}
use Rattle.tb_node.specs.declared.Where.{Where}
use Rattle.tb_node.specs.declared.Where.TheVariants.{Here, Top, Bottom, Double, Deferred}
use Rattle.tb_param.specs.declared.Params.{Params}
use Rattle.tb_float.specs.declared.Suppress.{Suppress}
use Rattle.tb_float.specs.Lists.{FloatLists, has_class}
use Rattle.tb_area.specs.Area.{at_top, at_bottom, deferred, where_of, next_separator, tries_top}
use Rattle.tb_told.specs.declared.AtBottom.{AtBottom}
use Rattle.tb_told.specs.declared.AtTop.{AtTop}
use Rattle.tb_told.specs.declared.InText.{InText}
use Rattle.tb_told.specs.declared.Entering.{Entering}
use Rattle.tb_told.specs.declared.AboveBoth.{AboveBoth}
use Rattle.tb_told.specs.Tested.{all_hold, is_yes}
use Rattle.tb_told.specs.declared.Told.{Told}
use Rattle.tb_told.specs.declared.Told.TheVariants.{Enters, TestsHere, TestsTop, TestsBottom, TestsWide, Goes}
use Rattle.tb_told.specs.declared.Piece.{Piece}
use Rattle.tb_told.specs.AreaTold.{enter_tests, here_tests, top_tests, bottom_tests, wide_tests, enter_told, here_told, top_told, bottom_told, wide_told, told_bottom, told_areas, told_column, told_wide}
use Rattle.tb_told.specs.Tales.{tales, decisions}
use Rattle.tb_told.proofs.TestedLemmas.{yes_is_all}

-- one thing is told, and a call appends what is told after it
pub told-on : {E : Type 0} (r : Result (Unit {0}) E) (f : Float) (old mid new : List Piece) (t : Told) (later all : List Told) → t ∷ later ≡ all →
    mid ≡ old ++ tales (decisions f (t ∷ [])) → OnOk r (new ≡ mid ++ tales (decisions f later)) → OnOk r (new ≡ old ++ tales (decisions f all))
told-on (Ok v) f old mid new t later all e first then_ =
    then_ ∙ ap (λ z. z ++ tales (decisions f later)) first ∙ append_assoc old (tales (decisions f (t ∷ []))) (tales (decisions f later)) ∙ ap (λ z. old ++ tales (decisions f z)) e
told-on (Err v) f old mid new t later all e first then_ = tt

-- nothing is told
pub told-none : (f : Float) (old : List Piece) (all : List Told) → [] ≡ all → old ≡ old ++ tales (decisions f all)
told-none f old all e = sym (append-nil old) ∙ ap (λ z. old ++ tales (decisions f z)) e

bottom-by : (b : Bool) → (if b then Bottom else Deferred) ≡ where_of (if b then at_bottom else deferred)
bottom-by true = refl
bottom-by false = refl

-- the bottom, and the place
pub bottom-goes : (p : Params) (l : FloatLists) (s : Suppress) (r : ℤ) (f : Float) (t : AtBottom) (place : Where) →
    t ≡ bottom_told p l s (r +ℤ next_separator p l.bottom) f → place ≡ (if is_yes t.failed then Bottom else Deferred) →
    TestsBottom t ∷ Goes place ∷ [] ≡ told_bottom p l s r f
bottom-goes p l s r f t place told is =
    let below = r +ℤ next_separator p l.bottom in
    let goes-there : place ≡ where_of (if all_hold (bottom_tests p l s below f) then at_bottom else deferred) =
    is ∙ ap (λ u. if is_yes u.failed then Bottom else Deferred) told ∙ ap (λ b. if b then Bottom else Deferred) (yes_is_all (bottom_tests p l s below f)) ∙ bottom-by (all_hold (bottom_tests p l s below f)) in
    ap (λ u. TestsBottom u ∷ Goes place ∷ []) told
    ∙ ap (λ w. TestsBottom (bottom_told p l s below f) ∷ Goes w ∷ []) goes-there

-- one of two lists
choose-first : (b : Bool) (x y : List Told) → b ≡ true → x ≡ (if b then x else y)
choose-first true x y e = refl
choose-first false x y e = cc

choose-second : (b : Bool) (x y : List Told) → b ≡ false → y ≡ (if b then x else y)
choose-second true x y e = cc
choose-second false x y e = refl

-- the top, and the place
pub top-goes : (p : Params) (l : FloatLists) (s : Suppress) (r : ℤ) (f : Float) (t : AtTop) →
    t ≡ top_told p l s (r +ℤ next_separator p l.top) f → is_yes t.failed ≡ true →
    TestsTop t ∷ Goes Top ∷ [] ≡ told_areas p l s r f
top-goes p l s r f t told passes =
    let above = r +ℤ next_separator p l.top in
    let low = if tries_top p l s f then above else r in
    let holds = sym (ap (λ u. is_yes u.failed) told ∙ yes_is_all (top_tests p l s above f)) ∙ passes in
    ap (λ u. TestsTop u ∷ Goes Top ∷ []) told
    ∙ ap (λ z. TestsTop (top_told p l s above f) ∷ z) (choose-first (all_hold (top_tests p l s above f)) (Goes (where_of at_top) ∷ []) (told_bottom p l s low f) holds)

-- or the bottom
pub top-fails : (p : Params) (l : FloatLists) (s : Suppress) (r low : ℤ) (f : Float) (t : AtTop) →
    t ≡ top_told p l s (r +ℤ next_separator p l.top) f → is_yes t.failed ≡ false → low ≡ (if tries_top p l s f then t.need else r) →
    TestsTop t ∷ told_bottom p l s low f ≡ told_areas p l s r f
top-fails p l s r low f t told stops lower =
    let above = r +ℤ next_separator p l.top in
    let below = if tries_top p l s f then above else r in
    let fails = sym (ap (λ u. is_yes u.failed) told ∙ yes_is_all (top_tests p l s above f)) ∙ stops in
    let same : low ≡ below = lower ∙ ap (λ u. if tries_top p l s f then u.need else r) told in
    ap (λ u. TestsTop u ∷ told_bottom p l s low f) told
    ∙ ap (λ z. TestsTop (top_told p l s above f) ∷ told_bottom p l s z f) same
    ∙ ap (λ z. TestsTop (top_told p l s above f) ∷ z) (choose-second (all_hold (top_tests p l s above f)) (Goes (where_of at_top) ∷ []) (told_bottom p l s below f) fails)

-- the text, and the place
pub here-goes : (p : Params) (l : FloatLists) (s : Suppress) (r : ℤ) (f : Float) (t : InText) →
    t ≡ here_told p l (r +ℤ p.intextsep.width) f → is_yes t.failed ≡ true →
    TestsHere t ∷ Goes Here ∷ [] ≡ told_column p l s r f
here-goes p l s r f t told passes =
    let inside = r +ℤ p.intextsep.width in
    let tests = here_tests p l inside f in
    let holds = sym (ap (λ u. is_yes u.failed) told ∙ yes_is_all tests) ∙ passes in
    ap (λ u. TestsHere u ∷ Goes Here ∷ []) told
    ∙ ap (λ z. TestsHere (here_told p l inside f) ∷ z) (choose-first (all_hold tests) (Goes Here ∷ []) _ holds)

-- or the bottom alone
pub here-bottom : (p : Params) (l : FloatLists) (s : Suppress) (r : ℤ) (f : Float) (t : InText) →
    t ≡ here_told p l (r +ℤ p.intextsep.width) f → is_yes t.failed ≡ false → has_class f.class l.bottom ≡ true →
    TestsHere t ∷ told_bottom p l s r f ≡ told_column p l s r f
here-bottom p l s r f t told stops held =
    let inside = r +ℤ p.intextsep.width in
    let to = if f.places.h then inside else r in
    let tests = here_tests p l inside f in
    let fails = sym (ap (λ u. is_yes u.failed) told ∙ yes_is_all tests) ∙ stops in
    ap (λ u. TestsHere u ∷ told_bottom p l s r f) told
    ∙ ap (λ z. TestsHere (here_told p l inside f) ∷ z)
    (choose-first (has_class f.class l.bottom) (told_bottom p l s r f) (told_areas p l s to f) held
    ∙ choose-second (all_hold tests) (Goes Here ∷ []) (if has_class f.class l.bottom then told_bottom p l s r f else told_areas p l s to f) fails)

-- or the areas
pub here-areas : (p : Params) (l : FloatLists) (s : Suppress) (r low : ℤ) (f : Float) (t : InText) →
    t ≡ here_told p l (r +ℤ p.intextsep.width) f → is_yes t.failed ≡ false → has_class f.class l.bottom ≡ false → low ≡ (if f.places.h then t.need else r) →
    TestsHere t ∷ told_areas p l s low f ≡ told_column p l s r f
here-areas p l s r low f t told stops free lower =
    let inside = r +ℤ p.intextsep.width in
    let to = if f.places.h then inside else r in
    let tests = here_tests p l inside f in
    let fails = sym (ap (λ u. is_yes u.failed) told ∙ yes_is_all tests) ∙ stops in
    let same : low ≡ to = lower ∙ ap (λ u. if f.places.h then u.need else r) told in
    ap (λ u. TestsHere u ∷ told_areas p l s low f) told
    ∙ ap (λ z. TestsHere (here_told p l inside f) ∷ told_areas p l s z f) same
    ∙ ap (λ z. TestsHere (here_told p l inside f) ∷ z)
    (choose-second (has_class f.class l.bottom) (told_bottom p l s r f) (told_areas p l s to f) free
    ∙ choose-second (all_hold tests) (Goes Here ∷ []) (if has_class f.class l.bottom then told_bottom p l s r f else told_areas p l s to f) fails)

-- behind the column as a whole, whatever follows: these if all its tests hold, else that it waits
pub enters-on : (p : Params) (l : FloatLists) (s : Suppress) (before : List Float) (r : ℤ) (f : Float) (t : Entering) (later : List Told) →
    t ≡ enter_told p l s before r f → is_yes t.failed ≡ true →
    Enters t ∷ later ≡ Enters (enter_told p l s before r f) ∷ (if all_hold (enter_tests p l s before r f) then later else Goes Deferred ∷ [])
enters-on p l s before r f t later told passes =
    let tests = enter_tests p l s before r f in
    let holds = sym (ap (λ u. is_yes u.failed) told ∙ yes_is_all tests) ∙ passes in
    ap (λ u. Enters u ∷ later) told
    ∙ ap (λ z. Enters (enter_told p l s before r f) ∷ z) (choose-first (all_hold tests) later (Goes Deferred ∷ []) holds)

pub enters-not : (p : Params) (l : FloatLists) (s : Suppress) (before : List Float) (r : ℤ) (f : Float) (t : Entering) (later : List Told) →
    t ≡ enter_told p l s before r f → is_yes t.failed ≡ false →
    Enters t ∷ Goes Deferred ∷ [] ≡ Enters (enter_told p l s before r f) ∷ (if all_hold (enter_tests p l s before r f) then later else Goes Deferred ∷ [])
enters-not p l s before r f t later told stops =
    let tests = enter_tests p l s before r f in
    let fails = sym (ap (λ u. is_yes u.failed) told ∙ yes_is_all tests) ∙ stops in
    ap (λ u. Enters u ∷ Goes Deferred ∷ []) told
    ∙ ap (λ z. Enters (enter_told p l s before r f) ∷ z) (choose-second (all_hold tests) later (Goes Deferred ∷ []) fails)

-- a wide float is not asked at the start of a column
pub not-asked : (b : Bool) (x : List Told) → b ≡ true → [] ≡ (if b then [] else x)
not-asked b x e = choose-first b [] x e

pub asked : (b : Bool) (x : List Told) → b ≡ false → x ≡ (if b then [] else x)
asked b x e = choose-second b [] x e

-- and a single one is not asked after a pair
pub single-not-asked : (b : Bool) (x : List Told) → b ≡ false → [] ≡ (if b then x else [])
single-not-asked b x e = choose-second b x [] e

-- the space above both columns, and the place
pub wide-goes : (p : Params) (l : FloatLists) (s : Suppress) (before : List Float) (f : Float) (t : AboveBoth) (place : Where) →
    f.wide ≡ true → t ≡ wide_told p l s before f → place ≡ (if is_yes t.failed then Double else Deferred) →
    TestsWide t ∷ Goes place ∷ [] ≡ told_wide p l s before f
wide-goes p l s before f t place wide told is =
    let tests = wide_tests p l s before f in
    let to = if all_hold tests then Double else Deferred in
    let goes-there : place ≡ to = is ∙ ap (λ u. if is_yes u.failed then Double else Deferred) told ∙ ap (λ b. if b then Double else Deferred) (yes_is_all tests) in
    ap (λ u. TestsWide u ∷ Goes place ∷ []) told
    ∙ ap (λ w. TestsWide (wide_told p l s before f) ∷ Goes w ∷ []) goes-there
    ∙ choose-first f.wide (TestsWide (wide_told p l s before f) ∷ Goes to ∷ []) [] wide
