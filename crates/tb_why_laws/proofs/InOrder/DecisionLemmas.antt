-- What is told of a decision about a float is in order, and keeps how the stories fit what waits.
use Rattle.std.proofs.Common.{◌≡◌, refl, sym, subst, inl, inr, ◌⊎◌, ℕ, ℤ, Bool, true, false, List, [], ◌∷◌, ◌++◌, Option, Some, None, if◌then◌else◌, is_some}
use Rattle.std.specs.Prelude.{⊤, not, ◌&&◌, ◌||◌, ◌+ℤ◌}
use Rattle.tb_scaled.specs.Scaled.{max_ℤ}
use Rattle.tb_node.specs.declared.Float.{Float}
use Rattle.tb_node.specs.declared.Where.{Where}
use Rattle.tb_node.specs.declared.Where.TheVariants as places
use Rattle.tb_param.specs.declared.Params.{Params}
use Rattle.tb_float.specs.declared.Suppress.{Suppress}
use Rattle.tb_float.specs.Lists.{FloatLists, has_class}
use Rattle.tb_area.specs.Area.{at_top, at_bottom, deferred, where_of, text_minimum, next_separator, tries_top}
use Rattle.tb_told.specs.Tested.{Tested, first_failed, all_hold}
use Rattle.tb_told.specs.declared.Test.{Test}
use Rattle.tb_told.specs.declared.Told.{Told}
use Rattle.tb_told.specs.declared.Told.TheVariants.{Enters, TestsHere, TestsTop, TestsBottom, TestsWide, Goes}
use Rattle.tb_told.specs.AreaTold.{enter_tests, here_tests, top_tests, bottom_tests, told_bottom, told_areas, told_column, told_call, told_next, told_wide, place_told, failed_in}
use Rattle.tb_told.specs.declared.Tale.{Tale}
use Rattle.tb_told.specs.Tales.{decisions}
use Rattle.tb_story.specs.declared.Area.{Area}
use Rattle.tb_story.specs.declared.Kept.{Kept}
use Rattle.tb_story.specs.Story.{StoryView, is_by_places, or_else, kept_back, placed_at, with_story, is_deferred}
use Rattle.tb_story.specs.Summary.{SummaryView, own_reason, found_with, noted_of, reason_of, keep_if, put_at, nothing_found, tested_in, after_told, after_tale}
use Rattle.tb_why.specs.SummaryLaws.{AreCurrent, IsTaleInOrder}

-- ---- tales one after another

-- the summary after these tales
abbrev pub after_tales : List Tale → SummaryView → SummaryView
after_tales [] m = m
after_tales (t ∷ ts) m = after_tales ts (after_tale t m)

-- they are told in order, from this summary on
abbrev pub AreInOrder : List Tale → SummaryView → Type 0
AreInOrder [] m = ⊤
AreInOrder (t ∷ ts) m = IsTaleInOrder t m × AreInOrder ts (after_tale t m)

-- they are told in order, and this is so after them
pub record Tells (ts : List Tale) (m : SummaryView) (After : SummaryView → Type 0) : Type 0 where
  pub order : AreInOrder ts m
  pub after : After (after_tales ts m)

pub tells-then : (ts us : List Tale) (m : SummaryView) (P Q : SummaryView → Type 0) → Tells ts m P → ((n : SummaryView) → P n → Tells us n Q) → Tells (ts ++ us) m Q
tells-then [] us m P Q x f = f m x.after
tells-then (t ∷ ts) us m P Q x f =
    let y = tells-then ts us (after_tale t m) P Q (record { order = x.order.1; after = x.after }) f in
    record { order = (x.order.0, y.order); after = y.after }

-- ---- what is told of a decision

-- the tests that are told lead to a place; if that is none, one of them failed, or one had failed before
abbrev pub Leads : Bool → List Told → Where → Type 0
Leads failed [] w = ⊥
Leads failed (Goes v ∷ []) w = (v ≡ w) × (is_deferred v ≡ true → failed ≡ true)
Leads failed (Goes v ∷ u ∷ ts) w = ⊥
Leads failed (t ∷ ts) w = Leads (failed || is_some (failed_in t)) ts w

leads_by : (failed b : Bool) (x y : List Told) → (b ≡ true → Leads failed x (place_told x)) → (b ≡ false → Leads failed y (place_told y)) → Leads failed (if b then x else y) (place_told (if b then x else y))
leads_by failed true x y h k = h refl
leads_by failed false x y h k = k refl

some_by : (b c : Bool) (t : Test) (o : Option Test) → (c ≡ false → is_some o ≡ true) → (b && c) ≡ false → is_some (if b then o else Some t) ≡ true
some_by true c t o h e = h e
some_by false c t o h e = refl

-- a test fails if not all hold
one-fails : (ts : List Tested) → all_hold ts ≡ false → is_some (first_failed ts) ≡ true
one-fails [] e = cc
one-fails (t ∷ ts) e = some_by t.holds (all_hold ts) t.test (first_failed ts) (λ i. one-fails ts i) e

or_right : (b c : Bool) → c ≡ true → (b || c) ≡ true
or_right true c e = refl
or_right false c e = e

-- the bottom is tried last
bottom_by : (failed b : Bool) (c : Bool) → (b ≡ false → c ≡ true) → is_deferred (where_of (if b then at_bottom else deferred)) ≡ true → (failed || c) ≡ true
bottom_by failed true c h e = cc
bottom_by failed false c h e = or_right failed c (h refl)

-- a float that waits is not asked, or what is told of it leads to a place
abbrev pub IsAsked : List Told → Type 0
IsAsked ts = (ts ≡ []) ⊎ Leads true ts (place_told ts)

unless_so : (b : Bool) (x : List Told) → Leads true x (place_told x) → IsAsked (if b then [] else x)
unless_so true x h = inl refl
unless_so false x h = inr h

if_so : (b : Bool) (x : List Told) → Leads true x (place_told x) → IsAsked (if b then x else [])
if_so true x h = inr h
if_so false x h = inl refl

module _ (p : Params) (l : FloatLists) (s : Suppress) where
  bottom-leads : (failed : Bool) (r : ℤ) (f : Float) → Leads failed (told_bottom p l s r f) (place_told (told_bottom p l s r f))
  bottom-leads failed r f =
      let ts = bottom_tests p l s (r +ℤ next_separator p l.bottom) f in
      (refl, λ e. bottom_by failed (all_hold ts) (is_some (first_failed ts)) (λ i. one-fails ts i) e)

  areas-leads : (failed : Bool) (r : ℤ) (f : Float) → Leads failed (told_areas p l s r f) (place_told (told_areas p l s r f))
  areas-leads failed r f =
      let above = r +ℤ next_separator p l.top in
      let ts = top_tests p l s above f in
      let low = if tries_top p l s f then above else r in
      leads_by (failed || is_some (first_failed ts)) (all_hold ts) (Goes (where_of at_top) ∷ []) (told_bottom p l s low f) (λ e. (refl, λ i. cc)) (λ e. bottom-leads (failed || is_some (first_failed ts)) low f)

  column-leads : (failed : Bool) (r : ℤ) (f : Float) → Leads failed (told_column p l s r f) (place_told (told_column p l s r f))
  column-leads failed r f =
      let inside = r +ℤ p.intextsep.width in
      let ts = here_tests p l inside f in
      let to = if f.places.h then inside else r in
      let now = failed || is_some (first_failed ts) in
      leads_by now (all_hold ts) (Goes places.Here ∷ []) (if has_class f.class l.bottom then told_bottom p l s r f else told_areas p l s to f) (λ e. (refl, λ i. cc))
      (λ e. leads_by now (has_class f.class l.bottom) (told_bottom p l s r f) (told_areas p l s to f) (λ i. bottom-leads now r f) (λ i. areas-leads now to f))

  -- a decision at a call leads to a place, or to none, and then a test failed
  pub call-leads : (h : ℤ) (f : Float) → Leads false (told_call p l s h f) (place_told (told_call p l s h f))
  call-leads h f =
      let r = max_ℤ h (text_minimum p l f) +ℤ f.height in
      let ts = enter_tests p l s l.deferred r f in
      let now = is_some (first_failed ts) in
      leads_by now (all_hold ts) (told_column p l s r f) (Goes places.Deferred ∷ []) (λ e. column-leads now r f) (λ e. (refl, λ i. one-fails ts e))

  -- so does one of a float that waits, or it is not asked
  pub next-leads : (before : List Float) (f : Float) → IsAsked (told_next p l s before f)
  next-leads before f =
      let r = f.height +ℤ text_minimum p l f in
      let ts = enter_tests p l s before r f in
      let now = true || is_some (first_failed ts) in
      unless_so f.wide _ (leads_by now (all_hold ts) (told_areas p l s r f) (Goes places.Deferred ∷ []) (λ e. areas-leads now r f) (λ e. (refl, λ i. refl)))

  pub wide-leads : (before : List Float) (f : Float) → IsAsked (told_wide p l s before f)
  wide-leads before f = if_so f.wide _ (refl, λ i. refl)

-- ---- the summary at a decision

-- what failed is found
found_by : (k : Kept) (o : Option Kept) → is_some (found_with k o) ≡ true
found_by k None = refl
found_by k (Some first) = either_some (is_by_places first.cause && not (is_by_places k.cause))
  where
    either_some : (b : Bool) → is_some (if b then Some k else Some first) ≡ true
    either_some true = refl
    either_some false = refl

-- once something failed, it is found
abbrev IsFound : Bool → SummaryView → Type 0
IsFound failed m = failed ≡ true → is_some m.found ≡ true

tested-found : (area : Area) (f : Float) (way : Option Float) (room share : ℤ) (o : Option Test) (failed : Bool) (m : SummaryView) → IsFound failed m → IsFound (failed || is_some o) (tested_in area f way room share o m)
tested-found area f way room share None failed m h e = h (or_none failed e)
  where
    or_none : (b : Bool) → (b || false) ≡ true → b ≡ true
    or_none true e = refl
    or_none false e = cc
tested-found area f way room share (Some t) failed m h e = found_by _ m.found

-- the stories and the number of sheets stay while tests are told
tested-same : (P : List StoryView → ℕ → Type 0) (area : Area) (f : Float) (way : Option Float) (room share : ℤ) (o : Option Test) (m : SummaryView) → P m.stories m.sheets → P (tested_in area f way room share o m).stories (tested_in area f way room share o m).sheets
tested-same P area f way room share None m h = h
tested-same P area f way room share (Some t) m h = h

else_some : (a b : Option Kept) → is_some b ≡ true → is_some (or_else a b) ≡ true
else_some None b e = e
else_some (Some k) b e = refl

-- then the decision has a reason
reason-found : (line : ℕ) (m : SummaryView) → is_some m.found ≡ true → is_some (reason_of line m) ≡ true
reason-found line m e = else_some (own_reason line m.found) (or_else (noted_of line m.alone) m.found) (else_some (noted_of line m.alone) m.found e)

-- what holds of the stories and the sheets after a decision, by what holds before it of the floats of its line; a float that
-- stays keeps its reason, unless it needs one
pub record Moves (needs : Bool) (line : ℕ) (w : Where) (P Q : List StoryView → ℕ → Type 0) : Type 0 where
  pub current : (ss : List StoryView) (n : ℕ) → P ss n → AreCurrent ss n line
  pub placed : is_deferred w ≡ false → (ss : List StoryView) (n : ℕ) → P ss n → Q (with_story line (placed_at w n) ss) n
  pub kept : is_deferred w ≡ true → (k : Kept) (ss : List StoryView) (n : ℕ) → P ss n → Q (with_story line (kept_back k) ss) n
  pub stays : is_deferred w ≡ true → needs ≡ false → (ss : List StoryView) (n : ℕ) → P ss n → Q ss n

module _ (needs : Bool) (f : Float) (w : Where) (P Q : List StoryView → ℕ → Type 0) (h : Moves needs f.line w P Q) where
  abbrev Before : SummaryView → Type 0
  Before m = P m.stories m.sheets

  abbrev Then : SummaryView → Type 0
  Then m = Q m.stories m.sheets

  not-needed : (b : Bool) (o : Option Kept) → (b ≡ true → is_some o ≡ true) → is_some o ≡ false → b ≡ false
  not-needed true o r e = absurd (no (is_some o) (r refl) e)
    where
      no : (c : Bool) → c ≡ true → c ≡ false → ⊥
      no c a b = cc
  not-needed false o r e = refl

  keeps-by : (m : SummaryView) (o : Option Kept) → is_deferred w ≡ true → (needs ≡ true → is_some o ≡ true) → Before m → Then (nothing_found (keep_if f o m))
  keeps-by m None d r p = h.stays d (not-needed needs None r refl) m.stories m.sheets p
  keeps-by m (Some k) d r p = h.kept d k m.stories m.sheets p

  decides-by : (m : SummaryView) (b : Bool) → is_deferred w ≡ b → (needs ≡ true → b ≡ true → is_some (reason_of f.line m) ≡ true) → Before m → Then (nothing_found (if b then keep_if f (reason_of f.line m) m else put_at f w m))
  decides-by m true d r p = keeps-by m (reason_of f.line m) d (λ e. r e refl) p
  decides-by m false d r p = h.placed d m.stories m.sheets p

  goes : (v : Where) (m : SummaryView) → v ≡ w → (needs ≡ true → is_deferred w ≡ true → is_some (reason_of f.line m) ≡ true) → Before m → Then (after_told f (Goes v) m)
  goes v m e r p = subst (λ x. Then (after_told f (Goes x) m)) (sym e) (decides-by m (is_deferred w) refl r p)

  more : (t : Told) (ts : List Told) (m : SummaryView) → Before m → Tells (decisions f ts) (after_told f t m) Then → Tells (decisions f (t ∷ ts)) m Then
  more t ts m p x = record { order = ((h.current m.stories m.sheets p, tt), x.order); after = x.after }

  -- a decision is told in order, and leads to what holds after it
  pub decision : (failed : Bool) (ts : List Told) → Leads failed ts w → (m : SummaryView) → (needs ≡ true → IsFound failed m) → Before m → Tells (decisions f ts) m Then
  decision failed [] l m r p = absurd l
  decision failed (Goes v ∷ []) l m r p =
      record { order = ((h.current m.stories m.sheets p, tt), tt); after = goes v m l.0 (λ e d. reason-found f.line m (r e (l.1 (subst (λ x. is_deferred x ≡ true) (sym l.0) d)))) p }
  decision failed (Goes v ∷ u ∷ ts) l m r p = absurd l
  decision failed (Enters t ∷ ts) l m r p =
      more (Enters t) ts m p (decision (failed || is_some t.failed) ts l (after_told f (Enters t) m) (λ e. tested-found _ f _ _ _ t.failed failed m (r e)) (tested-same P _ f _ _ _ t.failed m p))
  decision failed (TestsHere t ∷ ts) l m r p =
      more (TestsHere t) ts m p (decision (failed || is_some t.failed) ts l (after_told f (TestsHere t) m) (λ e. tested-found _ f None _ _ t.failed failed m (r e)) (tested-same P _ f None _ _ t.failed m p))
  decision failed (TestsTop t ∷ ts) l m r p =
      more (TestsTop t) ts m p (decision (failed || is_some t.failed) ts l (after_told f (TestsTop t) m) (λ e. tested-found _ f None _ _ t.failed failed m (r e)) (tested-same P _ f None _ _ t.failed m p))
  decision failed (TestsBottom t ∷ ts) l m r p =
      more (TestsBottom t) ts m p (decision (failed || is_some t.failed) ts l (after_told f (TestsBottom t) m) (λ e. tested-found _ f None _ _ t.failed failed m (r e)) (tested-same P _ f None _ _ t.failed m p))
  decision failed (TestsWide t ∷ ts) l m r p =
      more (TestsWide t) ts m p (decision (failed || is_some t.failed) ts l (after_told f (TestsWide t) m) (λ e. tested-found _ f _ _ _ t.failed failed m (r e)) (tested-same P _ f _ _ _ t.failed m p))
