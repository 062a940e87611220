-- What the walks over the deferred floats record: no column, and no float in the text; and where the floats go.
use Rattle.std.proofs.Common.{◌≡◌, refl, sym, ◌∙◌, ap, subst, ℕ, inl, inr, Bool, true, false, List, [], ◌∷◌, ◌++◌, append_assoc, append-nil}
use Rattle.std.specs.Prelude.{if◌then◌else◌}
use Rattle.std.specs.List.{AllByRecursion}
use Rattle.tb_area.proofs.OrderLemmas.{gone-deferred, gone_double-waiting}
use Rattle.tb_break.proofs.EachLemmas.{all-front, all-back, all-join}
use Rattle.tb_node.specs.declared.Float.{Float}
use Rattle.tb_node.specs.declared.Where.TheVariants as places
use Rattle.tb_param.specs.declared.Params.{Params}
use Rattle.tb_float.specs.declared.Suppress.{Suppress}
use Rattle.tb_float.specs.declared.Part.{Part}
use Rattle.tb_float.specs.declared.Part.TheVariants as parts
use Rattle.tb_float.specs.Lists.{FloatLists, IsWaiting, floats_of, with_floats_of}
use Rattle.tb_float.proofs.WaitingLemmas.{floats-with}
use Rattle.tb_float.specs.Rooms.{column_height_of}
use Rattle.tb_area.specs.Area.{AreaPlace, at_top, at_bottom, deferred, where_of, next_area_place, goes_double}
use Rattle.tb_area.specs.Deferred.{gone_to, still_before, filled, gone_double, still_single, doubled}
use Rattle.tb_output.specs.State.{Work, Recorded, placed, output, emptied, records_also}
use Rattle.tb_output.specs.FloatMoves
use Rattle.tb_laws.proofs.ClassesRise.ClassLines.{FloatKind}
use Rattle.tb_laws.proofs.ClassesRise.RecordLines.{column_lines, record_lines, records-append, IsPlacing, WasPlaced}
use Rattle.tb_output.proofs.StepLaws.RefusedSteps.{by-records}

-- a record of a float in an area
abbrev pub IsQuiet : Recorded → Type 0
IsQuiet (placed p f places.Here l height) = ⊥
IsQuiet (placed p f places.Top l height) = Unit {0}
IsQuiet (placed p f places.Bottom l height) = Unit {0}
IsQuiet (placed p f places.Page l height) = Unit {0}
IsQuiet (placed p f places.Double l height) = Unit {0}
IsQuiet (placed p f places.Deferred l height) = Unit {0}
IsQuiet (output c) = ⊥
IsQuiet (emptied l) = Unit {0}

abbrev pub AreQuiet : List Recorded → Type 0
AreQuiet = AllByRecursion IsQuiet

quiet-column : (k : FloatKind) (r : Recorded) → IsQuiet r → column_lines k r ≡ []
quiet-column k (placed p f place l height) h = refl
quiet-column k (output c) h = absurd h
quiet-column k (emptied l) h = refl

quiet-columns : (k : FloatKind) (rs : List Recorded) → AreQuiet rs → record_lines k rs ≡ []
quiet-columns k [] h = refl
quiet-columns k (r ∷ rs) h = ap (λ l. l ++ record_lines k rs) (quiet-column k r h.0) ∙ quiet-columns k rs h.1

-- quiet records add no column
pub quiet-lines : (k : FloatKind) (rs more : List Recorded) → AreQuiet more → record_lines k (rs ++ more) ≡ record_lines k rs
quiet-lines k rs more h = records-append k rs more ∙ ap (λ l. record_lines k rs ++ l) (quiet-columns k more h) ∙ append-nil (record_lines k rs)

quiet-placing : (k : FloatKind) (n : ℕ) (r : Recorded) → IsQuiet r → IsPlacing k n r → ⊥
quiet-placing k n (placed p f places.Here l height) h i = h
quiet-placing k n r h i = i

quiet-none : (k : FloatKind) (n : ℕ) (rs : List Recorded) → AreQuiet rs → WasPlaced k n rs → ⊥
quiet-none k n [] h i = i
quiet-none k n (r ∷ rs) h (inl i) = quiet-placing k n r h.0 i
quiet-none k n (r ∷ rs) h (inr i) = quiet-none k n rs h.1 i

-- nor a float in the text
pub quiet-placed : (k : FloatKind) (n : ℕ) (rs more : List Recorded) → AreQuiet more → WasPlaced k n (rs ++ more) → WasPlaced k n rs
quiet-placed k n [] more h i = absurd (quiet-none k n more h i)
quiet-placed k n (r ∷ rs) more h (inl i) = inl i
quiet-placed k n (r ∷ rs) more h (inr i) = inr (quiet-placed k n rs more h i)

-- the second work has quiet records besides those of the first
pub record AddsQuiet (a b : Work) : Type 0 where
  pub more : List Recorded
  pub whole : b.records ≡ a.records ++ more
  pub quiet : AreQuiet more

none-added : (a b : Work) → b.records ≡ a.records → AddsQuiet a b
none-added a b e = record { more = []; whole = e ∙ sym (append-nil a.records); quiet = tt }

both-added : (a b c : Work) → AddsQuiet a b → AddsQuiet b c → AddsQuiet a c
both-added a b c x y = record {
  more = x.more ++ y.more;
  whole = y.whole ∙ ap (λ l. l ++ y.more) x.whole ∙ append_assoc a.records x.more y.more;
  quiet = all-join IsQuiet x.more y.more x.quiet y.quiet;
}

record-added : (r : Recorded) (w : Work) → IsQuiet r → AddsQuiet w (records_also r w)
record-added r w q = by-records (AddsQuiet w) r w (none-added w w refl) (record { more = r ∷ []; whole = refl; quiet = (q, tt) })

gone-added : (p : Params) (a : AreaPlace) (f : Float) (before rest : List Float) (w : Work) → AddsQuiet w (FloatMoves.place_waiting parts.Deferred p (where_of a) f before rest w)
gone-added p at_top f before rest w = let x = record-added (placed p f places.Top w.state.floats (column_height_of p w.state.floats)) w tt in record { more = x.more; whole = x.whole; quiet = x.quiet }
gone-added p at_bottom f before rest w = let x = record-added (placed p f places.Bottom w.state.floats (column_height_of p w.state.floats)) w tt in record { more = x.more; whole = x.whole; quiet = x.quiet }
gone-added p deferred f before rest w = none-added w w refl

pub next-added : (p : Params) (before fs : List Float) (w : Work) → AddsQuiet w (FloatMoves.place_next p before fs w)
next-added p before [] w = none-added w w refl
next-added p before (f ∷ rest) w =
    let a = next_area_place p w.state.floats w.state.suppress before f in
    let v = FloatMoves.place_waiting parts.Deferred p (where_of a) f before rest w in
    both-added w v (FloatMoves.place_next p (FloatMoves.still_deferred (where_of a) f before) rest v) (gone-added p a f before rest w) (next-added p (FloatMoves.still_deferred (where_of a) f before) rest v)

gone-double-added : (from : Part) (p : Params) (b : Bool) (f : Float) (before rest : List Float) (w : Work) → AddsQuiet w (FloatMoves.place_waiting from p (if b then places.Double else places.Deferred) f before rest w)
gone-double-added from p true f before rest w = let x = record-added (placed p f places.Double w.state.floats (column_height_of p w.state.floats)) w tt in record { more = x.more; whole = x.whole; quiet = x.quiet }
gone-double-added from p false f before rest w = none-added w w refl

pub double-added : (from : Part) (p : Params) (before fs : List Float) (w : Work) → AddsQuiet w (FloatMoves.place_double from p before fs w)
double-added from p before [] w = none-added w w refl
double-added from p before (f ∷ rest) w =
    let b = goes_double p w.state.floats w.state.suppress before f in
    let place = if b then places.Double else places.Deferred in
    let v = FloatMoves.place_waiting from p place f before rest w in
    both-added w v (FloatMoves.place_double from p (FloatMoves.still_deferred place f before) rest v) (gone-double-added from p b f before rest w) (double-added from p (FloatMoves.still_deferred place f before) rest v)

-- ---- what the walks leave as it is

-- these lists are as before
pub record SameApart (l m : FloatLists) : Type 0 where
  pub current : m.current ≡ l.current
  pub double : m.double ≡ l.double
  pub second : m.second ≡ l.second

pub record SameAreas (l m : FloatLists) : Type 0 where
  pub current : m.current ≡ l.current
  pub top : m.top ≡ l.top
  pub bottom : m.bottom ≡ l.bottom

-- if other floats wait in a list that is none of these areas
waiting-same : (from : Part) → IsWaiting from → (fs : List Float) (l : FloatLists) → SameAreas l (with_floats_of from fs l)
waiting-same parts.Deferred i fs l = record { current = refl; top = refl; bottom = refl }
waiting-same parts.Second i fs l = record { current = refl; top = refl; bottom = refl }
waiting-same from i fs l = absurd i

doubled-same : (from : Part) → IsWaiting from → (p : Params) (s : Suppress) (before fs : List Float) (l : FloatLists) → SameAreas l (doubled from p s before fs l)
doubled-same from i p s before [] l = record { current = refl; top = refl; bottom = refl }
doubled-same from i p s before (f ∷ rest) l =
    let b = goes_double p l s before f in
    by_test b (doubled-same from i p s (still_single b f before) rest (gone_double from b f before rest l))
  where
    by_test : (b : Bool) {n : FloatLists} → SameAreas (gone_double from b f before rest l) n → SameAreas l n
    by_test true x = let y = waiting-same from i (before ++ rest) (record l { double = l.double ++ f ∷ [] }) in record { current = x.current ∙ y.current; top = x.top ∙ y.top; bottom = x.bottom ∙ y.bottom }
    by_test false x = x

pub double-same : (from : Part) → IsWaiting from → (p : Params) (s : Suppress) (l : FloatLists) → SameAreas l (doubled from p s [] (floats_of from l) l)
double-same from i p s l = doubled-same from i p s [] (floats_of from l) l

-- the other list in which floats may wait
second-same : (p : Params) (s : Suppress) (before fs : List Float) (l : FloatLists) → (doubled parts.Deferred p s before fs l).second ≡ l.second
second-same p s before [] l = refl
second-same p s before (f ∷ rest) l =
    let b = goes_double p l s before f in
    by_test b (doubled parts.Deferred p s (still_single b f before) rest (gone_double parts.Deferred b f before rest l)) (second-same p s (still_single b f before) rest (gone_double parts.Deferred b f before rest l))
  where
    by_test : (b : Bool) (n : FloatLists) → n.second ≡ (gone_double parts.Deferred b f before rest l).second → n.second ≡ l.second
    by_test true n x = x
    by_test false n x = x

deferred-same : (p : Params) (s : Suppress) (before fs : List Float) (l : FloatLists) → (doubled parts.Second p s before fs l).deferred ≡ l.deferred
deferred-same p s before [] l = refl
deferred-same p s before (f ∷ rest) l =
    let b = goes_double p l s before f in
    by_test b (doubled parts.Second p s (still_single b f before) rest (gone_double parts.Second b f before rest l)) (deferred-same p s (still_single b f before) rest (gone_double parts.Second b f before rest l))
  where
    by_test : (b : Bool) (n : FloatLists) → n.deferred ≡ (gone_double parts.Second b f before rest l).deferred → n.deferred ≡ l.deferred
    by_test true n x = x
    by_test false n x = x

pub double-second : (p : Params) (s : Suppress) (l : FloatLists) → (doubled parts.Deferred p s [] l.deferred l).second ≡ l.second
double-second p s l = second-same p s [] l.deferred l

pub double-deferred : (p : Params) (s : Suppress) (l : FloatLists) → (doubled parts.Second p s [] l.second l).deferred ≡ l.deferred
double-deferred p s l = deferred-same p s [] l.second l

filled-same : (p : Params) (s : Suppress) (before fs : List Float) (l : FloatLists) → SameApart l (filled p s before fs l)
filled-same p s before [] l = record { current = refl; double = refl; second = refl }
filled-same p s before (f ∷ rest) l =
    let a = next_area_place p l s before f in
    by_place a (gone_to a f before rest l) refl (filled-same p s (still_before a f before) rest (gone_to a f before rest l))
  where
    by_place : (a : AreaPlace) (m : FloatLists) → m ≡ gone_to a f before rest l → {n : FloatLists} → SameApart m n → SameApart l n
    by_place at_top m e x = record { current = x.current ∙ ap (λ (y : FloatLists). y.current) e; double = x.double ∙ ap (λ (y : FloatLists). y.double) e; second = x.second ∙ ap (λ (y : FloatLists). y.second) e }
    by_place a m e x = record { current = x.current ∙ ap (λ (y : FloatLists). y.current) e; double = x.double ∙ ap (λ (y : FloatLists). y.double) e; second = x.second ∙ ap (λ (y : FloatLists). y.second) e }

pub fill-same : (p : Params) (s : Suppress) (l : FloatLists) → SameApart l (filled p s [] l.deferred l)
fill-same p s l = filled-same p s [] l.deferred l

-- ---- what holds of all deferred floats

module _ (P : Float → Type 0) where
  -- ---- of the areas when a column is filled

  pub record AllAreas (l : FloatLists) : Type 0 where
    pub top : AllByRecursion P l.top
    pub bottom : AllByRecursion P l.bottom
    pub deferred : AllByRecursion P l.deferred

  without : (before rest : List Float) (f : Float) → AllByRecursion P (before ++ f ∷ rest) → P f × AllByRecursion P (before ++ rest)
  without before rest f h =
      let b = all-back P before (f ∷ rest) h in
      (b.0, all-join P before rest (all-front P before (f ∷ rest) h) b.1)

  gone-areas : (a : AreaPlace) (f : Float) (before rest : List Float) (l : FloatLists) → l.deferred ≡ before ++ f ∷ rest → AllAreas l → AllAreas (gone_to a f before rest l)
  gone-areas at_top f before rest l e h =
      let w = without before rest f (subst (AllByRecursion P) e h.deferred) in
      record { top = all-join P l.top (f ∷ []) h.top (w.0, tt); bottom = h.bottom; deferred = w.1 }
  gone-areas at_bottom f before rest l e h =
      let w = without before rest f (subst (AllByRecursion P) e h.deferred) in
      record { top = h.top; bottom = all-join P l.bottom (f ∷ []) h.bottom (w.0, tt); deferred = w.1 }
  gone-areas deferred f before rest l e h = h

  filled-areas : (p : Params) (s : Suppress) (before fs : List Float) (l : FloatLists) → l.deferred ≡ before ++ fs → AllAreas l → AllAreas (filled p s before fs l)
  filled-areas p s before [] l e h = h
  filled-areas p s before (f ∷ rest) l e h =
      let a = next_area_place p l s before f in
      filled-areas p s (still_before a f before) rest (gone_to a f before rest l) (gone-deferred a f before rest l e) (gone-areas a f before rest l e h)

  pub fill-areas : (p : Params) (s : Suppress) (l : FloatLists) → AllAreas l → AllAreas (filled p s [] l.deferred l)
  fill-areas p s l h = filled-areas p s [] l.deferred l refl h

  -- ---- of what stays when the space above two columns is filled

  gone-double-all : (from : Part) → IsWaiting from → (b : Bool) (f : Float) (before rest : List Float) (l : FloatLists) → floats_of from l ≡ before ++ f ∷ rest → AllByRecursion P (floats_of from l) → AllByRecursion P (floats_of from (gone_double from b f before rest l))
  gone-double-all from i true f before rest l e h = subst (AllByRecursion P) (sym (floats-with from i (before ++ rest) (record l { double = l.double ++ f ∷ [] }))) (without before rest f (subst (AllByRecursion P) e h)).1
  gone-double-all from i false f before rest l e h = h

  doubled-all : (from : Part) → IsWaiting from → (p : Params) (s : Suppress) (before fs : List Float) (l : FloatLists) → floats_of from l ≡ before ++ fs → AllByRecursion P (floats_of from l) → AllByRecursion P (floats_of from (doubled from p s before fs l))
  doubled-all from i p s before [] l e h = h
  doubled-all from i p s before (f ∷ rest) l e h =
      let b = goes_double p l s before f in
      doubled-all from i p s (still_single b f before) rest (gone_double from b f before rest l) (gone_double-waiting from i b f before rest l e) (gone-double-all from i b f before rest l e h)

  pub double-all : (from : Part) → IsWaiting from → (p : Params) (s : Suppress) (l : FloatLists) → AllByRecursion P (floats_of from l) → AllByRecursion P (floats_of from (doubled from p s [] (floats_of from l) l))
  double-all from i p s l h = doubled-all from i p s [] (floats_of from l) l refl h
