-- Stories that are changed one after another, and what holds of them at any time.
use Rattle.std.proofs.Common.{◌≡◌, refl, sym, ap, ◌∙◌, subst, ℕ, zero, suc, ◌+◌, ◌-◌, ◌≤◌, ◌<◌, Bool, true, false, List, [], ◌∷◌, ◌++◌, length, map, take, drop, set, get_or, arith}
use Rattle.std.specs.Prelude.{◌&&◌, ◌==◌, Option, Some, None, if◌then◌else◌}
use Rattle.std.specs.List.{AllByRecursion}
use Rattle.std.proofs.lemmas.List.{at_drop_more, take-append-le, take_all}
use Rattle.tb_node.specs.declared.Float.{Float}
use Rattle.tb_node.specs.declared.Where.{Where}
use Rattle.tb_story.specs.declared.Kept.{Kept}
use Rattle.tb_story.specs.declared.Group.{Group}
use Rattle.tb_story.specs.declared.Noted.{Noted}
use Rattle.tb_story.specs.Story.{StoryView, is_open, is_deferred, is_story_of, is_alike, times_so_far, missed, missed_by, missed_sheet, carried, by_break, kept_back, placed_at, landed_at, begun, if_of, with_story, last_of}
use Rattle.tb_story.specs.Summary.{kept_all}
use Rattle.tb_story.specs.Counts.{AreOver, IsCounted, IsSound, open_times, changed_front}

-- ---- those that are over

-- a change leaves what is over as it is
abbrev pub LeavesOver : (StoryView → StoryView) → Type 0
LeavesOver change = (s : StoryView) → is_open s ≡ false → change s ≡ s

by_open : (b c : Bool) (x y : StoryView) → b ≡ false → (if (b && c) then x else y) ≡ y
by_open false c x y e = refl
by_open true c x y e = cc

pub if_of_leaves : (line : ℕ) (change : StoryView → StoryView) → LeavesOver (if_of line change)
if_of_leaves line change s e = by_open (is_open s) (s.float.line == line) (change s) s e

pub missed_leaves : LeavesOver missed_sheet
missed_leaves s e = by_open (is_open s) (is_deferred s.place) (missed_by 1 s.last s) s e

pub over_front : (change : StoryView → StoryView) → LeavesOver change → (n : ℕ) (ss : List StoryView) → AreOver n ss → changed_front change n ss ≡ ss
over_front change h zero ss o = refl
over_front change h (suc n) [] o = absurd o
over_front change h (suc n) (s ∷ ss) o = ap (λ t. t ∷ changed_front change n ss) (h s o.0) ∙ ap (λ ts. s ∷ ts) (over_front change h n ss o.1)

pub over_changed : (change : StoryView → StoryView) → LeavesOver change → (n k : ℕ) (ss : List StoryView) → AreOver n ss → AreOver n (changed_front change k ss)
over_changed change h zero k ss o = tt
over_changed change h (suc n) zero ss o = o
over_changed change h (suc n) (suc k) [] o = absurd o
over_changed change h (suc n) (suc k) (s ∷ ss) o = (ap (λ t. is_open t) (h s o.0) ∙ o.0, over_changed change h n k ss o.1)

pub over_mapped : (change : StoryView → StoryView) → LeavesOver change → (n : ℕ) (ss : List StoryView) → AreOver n ss → AreOver n (map change ss)
over_mapped change h zero ss o = tt
over_mapped change h (suc n) [] o = absurd o
over_mapped change h (suc n) (s ∷ ss) o = (ap (λ t. is_open t) (h s o.0) ∙ o.0, over_mapped change h n ss o.1)

pub over_appended : (n : ℕ) (ss ts : List StoryView) → AreOver n ss → AreOver n (ss ++ ts)
over_appended zero ss ts o = tt
over_appended (suc n) [] ts o = absurd o
over_appended (suc n) (s ∷ ss) ts o = (o.0, over_appended n ss ts o.1)

-- one more is over
pub over_more : (n : ℕ) (ss : List StoryView) (d : StoryView) → AreOver n ss → n < length ss → is_open (get_or ss n d) ≡ false → AreOver (suc n) ss
over_more zero [] d o lt e = absurd (omega arith)
over_more zero (s ∷ ss) d o lt e = (e, tt)
over_more (suc n) [] d o lt e = absurd o
over_more (suc n) (s ∷ ss) d o lt e = (o.0, over_more n ss d o.1 (omega arith) e)

-- ---- one change after another

-- the next story is changed
pub changed_more : (change : StoryView → StoryView) (i : ℕ) (ss : List StoryView) (d x : StoryView) → i < length ss → x ≡ change (get_or (changed_front change i ss) i d) → set (changed_front change i ss) i x ≡ changed_front change (suc i) ss
changed_more change zero [] d x lt e = absurd (omega arith)
changed_more change zero (s ∷ ss) d x lt e = ap (λ t. t ∷ ss) e
changed_more change (suc i) [] d x lt e = absurd (omega arith)
changed_more change (suc i) (s ∷ ss) d x lt e = ap (λ ts. change s ∷ ts) (changed_more change i ss d x (omega arith) e)

-- the next story is left as it is
pub unchanged : (change : StoryView → StoryView) (i : ℕ) (ss : List StoryView) (d x : StoryView) → i < length ss → x ≡ get_or (changed_front change i ss) i d → set (changed_front change i ss) i x ≡ changed_front change i ss
unchanged change zero [] d x lt e = absurd (omega arith)
unchanged change zero (s ∷ ss) d x lt e = ap (λ t. t ∷ ss) e
unchanged change (suc i) [] d x lt e = absurd (omega arith)
unchanged change (suc i) (s ∷ ss) d x lt e = ap (λ ts. change s ∷ ts) (unchanged change i ss d x (omega arith) e)

-- the next story was not changed yet
pub next_is : (change : StoryView → StoryView) (i : ℕ) (ss : List StoryView) (d : StoryView) → i < length ss → get_or (changed_front change i ss) i d ≡ get_or ss i d
next_is change zero ss d lt = refl
next_is change (suc i) [] d lt = absurd (omega arith)
next_is change (suc i) (s ∷ ss) d lt = next_is change i ss d (omega arith)

-- all are changed
pub all_changed : (change : StoryView → StoryView) (n : ℕ) (ss : List StoryView) → length ss ≤ n → changed_front change n ss ≡ map change ss
all_changed change zero [] h = refl
all_changed change zero (s ∷ ss) h = absurd (omega arith)
all_changed change (suc n) [] h = refl
all_changed change (suc n) (s ∷ ss) h = ap (λ ts. change s ∷ ts) (all_changed change n ss (omega arith))

-- ---- counts

so_far_by : (b : Bool) (t : ℕ) → (if b then t else 0) ≤ t
so_far_by true t = omega arith
so_far_by false t = omega arith

pub so_far_within : (k : Kept) (g : Option Group) → times_so_far k g ≤ open_times g
so_far_within k None = omega arith
so_far_within k (Some g) = so_far_by (is_alike g.kept k) g.times

-- counts hold for more sheets
pub counted_later : (a b : ℕ) (s : StoryView) → a ≤ b → IsCounted a s → IsCounted b s
counted_later a b s h c = record { placed = omega (arith, c.placed); times = omega (arith, c.times) }

pub counted_if : (n : ℕ) (b : Bool) (s t : StoryView) → IsCounted n s → IsCounted n t → IsCounted n (if b then t else s)
counted_if n true s t c d = d
counted_if n false s t c d = c

missed_counted : (sheets : ℕ) (last : Option Kept) (s : StoryView) → IsCounted sheets s → IsCounted (sheets + 1) (missed_by 1 last s)
missed_counted sheets None s c = counted_later sheets (sheets + 1) s (omega arith) c
missed_counted sheets (Some k) s c = record { placed = omega (arith, c.placed); times = omega (arith, c.times, so_far_within k s.group) }

pub sheet_counted : (sheets : ℕ) (s : StoryView) → IsCounted sheets s → IsCounted (sheets + 1) (missed_sheet s)
sheet_counted sheets s c =
    counted_if (sheets + 1) (is_open s && is_deferred s.place) s (missed_by 1 s.last s) (counted_later sheets (sheets + 1) s (omega arith) c) (missed_counted sheets s.last s c)

carried_by : (sheets : ℕ) (b : Bool) (k : Kept) (s : StoryView) → IsCounted sheets s → IsCounted sheets (if b then s else record (missed (sheets - s.put) k s) { put = sheets })
carried_by sheets true k s c = c
carried_by sheets false k s c = record { placed = omega arith; times = omega (arith, c.times, c.placed, so_far_within k s.group) }

pub carried_counted : (line sheets : ℕ) (s : StoryView) → IsCounted sheets s → IsCounted sheets (if_of line (carried sheets) s)
carried_counted line sheets s c = counted_if sheets (is_story_of line s) s (carried sheets s) c (carried_by sheets (s.put == sheets) (by_break s.float) s c)

pub kept_counted : (line sheets : ℕ) (k : Kept) (s : StoryView) → IsCounted sheets s → IsCounted sheets (if_of line (kept_back k) s)
kept_counted line sheets k s c = counted_if sheets (is_story_of line s) s (kept_back k s) c (record { placed = c.placed; times = c.times })

pub placed_counted : (line sheets : ℕ) (place : Where) (s : StoryView) → IsCounted sheets s → IsCounted sheets (if_of line (placed_at place sheets) s)
placed_counted line sheets place s c =
    counted_if sheets (is_story_of line s) s (placed_at place sheets s) c (record { placed = omega arith; times = omega (arith, c.times, c.placed) })

pub landed_counted : (line sheets page : ℕ) (place : Where) (s : StoryView) → IsCounted sheets s → IsCounted sheets (if_of line (landed_at page place) s)
landed_counted line sheets page place s c = counted_if sheets (is_story_of line s) s (landed_at page place s) c (record { placed = c.placed; times = c.times })

-- each change keeps the counts
abbrev pub KeepsCounts : ℕ → ℕ → (StoryView → StoryView) → Type 0
KeepsCounts a b change = (s : StoryView) → IsCounted a s → IsCounted b (change s)

pub counted_mapped : (a b : ℕ) (change : StoryView → StoryView) → KeepsCounts a b change → (ss : List StoryView) → AllByRecursion (IsCounted a) ss → AllByRecursion (IsCounted b) (map change ss)
counted_mapped a b change h [] c = tt
counted_mapped a b change h (s ∷ ss) c = (h s c.0, counted_mapped a b change h ss c.1)

pub counted_front : (a b : ℕ) (change : StoryView → StoryView) → KeepsCounts a b change → a ≤ b → (n : ℕ) (ss : List StoryView) → AllByRecursion (IsCounted a) ss → AllByRecursion (IsCounted b) (changed_front change n ss)
counted_front a b change h le zero [] c = tt
counted_front a b change h le zero (s ∷ ss) c = (counted_later a b s le c.0, counted_front a b change h le zero ss c.1)
counted_front a b change h le (suc n) [] c = tt
counted_front a b change h le (suc n) (s ∷ ss) c = (h s c.0, counted_front a b change h le n ss c.1)

pub counted_appended : (n : ℕ) (ss : List StoryView) (s : StoryView) → AllByRecursion (IsCounted n) ss → IsCounted n s → AllByRecursion (IsCounted n) (ss ++ s ∷ [])
counted_appended n [] s c d = (d, tt)
counted_appended n (t ∷ ts) s c d = (c.0, counted_appended n ts s c.1 d)

pub counted_at : (n : ℕ) (ss : List StoryView) (i : ℕ) (d : StoryView) → AllByRecursion (IsCounted n) ss → i < length ss → IsCounted n (get_or ss i d)
counted_at n [] i d c lt = absurd (omega arith)
counted_at n (s ∷ ss) zero d c lt = c.0
counted_at n (s ∷ ss) (suc i) d c lt = counted_at n ss i d c.1 (omega arith)

-- ---- both

pub sound_mapped : (n a b : ℕ) (change : StoryView → StoryView) (ss : List StoryView) → LeavesOver change → KeepsCounts a b change → IsSound n a ss → IsSound n b (map change ss)
sound_mapped n a b change ss l k h = record { over = over_mapped change l n ss h.over; counted = counted_mapped a b change k ss h.counted }

pub sound_front : (n a b i : ℕ) (change : StoryView → StoryView) (ss : List StoryView) → LeavesOver change → KeepsCounts a b change → a ≤ b → IsSound n a ss → IsSound n b (changed_front change i ss)
sound_front n a b i change ss l k le h = record { over = over_changed change l n i ss h.over; counted = counted_front a b change k le i ss h.counted }

pub sound_appended : (n a : ℕ) (ss : List StoryView) (s : StoryView) → IsSound n a ss → IsCounted a s → IsSound n a (ss ++ s ∷ [])
sound_appended n a ss s h c = record { over = over_appended n ss (s ∷ []) h.over; counted = counted_appended a ss s h.counted c }

-- ---- looking for a story

pub last_over : (line n : ℕ) (ss : List StoryView) → AreOver n ss → last_of line ss ≡ last_of line (drop n ss)
last_over line zero ss o = refl
last_over line (suc n) [] o = refl
last_over line (suc n) (s ∷ ss) o = passed (is_open s) (s.float.line == line) o.0 ∙ last_over line n ss o.1
  where
    passed : (b c : Bool) → b ≡ false → (if (b && c) then s.last else last_of line ss) ≡ last_of line ss
    passed false c e = refl
    passed true c e = cc

module _ {X : Type 0} where
  if_false : (b : Bool) (x y : X) → b ≡ false → (if b then x else y) ≡ y
  if_false false x y e = refl
  if_false true x y e = cc

  if_true : (b : Bool) (x y : X) → b ≡ true → (if b then x else y) ≡ x
  if_true false x y e = cc
  if_true true x y e = refl

pub last_passed : (line i : ℕ) (ss : List StoryView) (d : StoryView) → i < length ss → is_story_of line (get_or ss i d) ≡ false → last_of line (drop i ss) ≡ last_of line (drop (i + 1) ss)
last_passed line i ss d lt e =
    at_drop_more (last_of line) ss i d lt ∙ if_false (is_story_of line (get_or ss i d)) (get_or ss i d).last (last_of line (drop (i + 1) ss)) e

pub last_found : (line i : ℕ) (ss : List StoryView) (d : StoryView) → i < length ss → is_story_of line (get_or ss i d) ≡ true → last_of line (drop i ss) ≡ (get_or ss i d).last
last_found line i ss d lt e =
    at_drop_more (last_of line) ss i d lt ∙ if_true (is_story_of line (get_or ss i d)) (get_or ss i d).last (last_of line (drop (i + 1) ss)) e

pub last_none : (line i : ℕ) (ss : List StoryView) → length ss ≤ i → last_of line (drop i ss) ≡ None
last_none line zero [] h = refl
last_none line (suc i) [] h = refl
last_none line zero (s ∷ ss) h = absurd (omega arith)
last_none line (suc i) (s ∷ ss) h = last_none line i ss (omega arith)

-- ---- steps of a loop

one_more : (i : ℕ) → suc i ≡ i + 1
one_more i = omega arith

pub step : (change : StoryView → StoryView) (i : ℕ) (now ss : List StoryView) (d x : StoryView) → now ≡ changed_front change i ss → i < length ss → x ≡ change (get_or now i d) → set now i x ≡ changed_front change (i + 1) ss
step change i now ss d x e lt is =
    ap (λ t. set t i x) e ∙ changed_more change i ss d x lt (is ∙ ap (λ t. change (get_or t i d)) e) ∙ ap (λ n. changed_front change n ss) (one_more i)

pub stop : (change : StoryView → StoryView) (i : ℕ) (now ss : List StoryView) (d x : StoryView) → now ≡ changed_front change i ss → i < length ss → x ≡ get_or now i d → set now i x ≡ changed_front change i ss
stop change i now ss d x e lt is = ap (λ t. set t i x) e ∙ unchanged change i ss d x lt (is ∙ ap (λ t. get_or t i d) e)

pub done : (change : StoryView → StoryView) (i : ℕ) (now ss : List StoryView) → now ≡ changed_front change i ss → length ss ≤ i → now ≡ map change ss
done change i now ss e h = e ∙ all_changed change i ss h

pub next_counted : (change : StoryView → StoryView) (n a i : ℕ) (now ss : List StoryView) (d : StoryView) → now ≡ changed_front change i ss → i < length ss → IsSound n a ss → IsCounted a (get_or now i d)
next_counted change n a i now ss d e lt h =
    subst (λ s. IsCounted a s) (sym (ap (λ t. get_or t i d) e ∙ next_is change i ss d lt)) (counted_at a ss i d h.counted lt)

pub sound_now : (n a b i : ℕ) (change : StoryView → StoryView) (now ss : List StoryView) → LeavesOver change → KeepsCounts a b change → a ≤ b → IsSound n a ss → now ≡ changed_front change i ss → IsSound n b now
sound_now n a b i change now ss l k le h e = subst (λ t. IsSound n b t) (sym e) (sound_front n a b i change ss l k le h)

pub over_now : (n i : ℕ) (change : StoryView → StoryView) (now ss : List StoryView) → LeavesOver change → AreOver n ss → now ≡ changed_front change i ss → AreOver n now
over_now n i change now ss l o e = subst (λ t. AreOver n t) (sym e) (over_changed change l n i ss o)

pub over_next : (n : ℕ) (ss : List StoryView) (d : StoryView) → AreOver n ss → n < length ss → is_open (get_or ss n d) ≡ false → AreOver (n + 1) ss
over_next n ss d o lt e = subst (λ k. AreOver k ss) (one_more n) (over_more n ss d o lt e)

-- all are over, if no more are left
pub over_all : (n : ℕ) (ss : List StoryView) → AreOver n ss → length ss ≤ n → AreOver (length ss) ss
over_all zero [] o h = tt
over_all (suc n) [] o h = absurd o
over_all zero (s ∷ ss) o h = absurd (omega arith)
over_all (suc n) (s ∷ ss) o h = (o.0, over_all n ss o.1 (omega arith))

pub begun_counted : (f : Float) (page : ℕ) (last : Option Kept) (n : ℕ) → IsCounted n (begun f page last n)
begun_counted f page last n = record { placed = omega arith; times = omega arith }

-- one note more: its float is kept back
pub kept_step : (ns : List Noted) (i : ℕ) (d : Noted) (ss new : List StoryView) → i < length ns → d ≡ get_or ns i d → new ≡ with_story d.float.line (kept_back d.kept) ss → kept_all (drop i ns) ss ≡ kept_all (drop (i + 1) ns) new
kept_step ns i d ss new lt is e =
    at_drop_more (λ t. kept_all t ss) ns i d lt ∙ ap (λ x. kept_all (drop (i + 1) ns) (with_story x.float.line (kept_back x.kept) ss)) (sym is)
    ∙ ap (λ t. kept_all (drop (i + 1) ns) t) (sym e)

-- a slice that was lent from a vector stands there again
pub written : {X : Type 0} → (n : ℕ) (new items : List X) → length new ≡ n → take n (new ++ drop (length new) items) ≡ new
written n new items e = take-append-le n new (drop (length new) items) (omega (arith, e)) ∙ take_all n new (omega (arith, e))

-- more are over
pub sound_by : (n m a : ℕ) (ss : List StoryView) → IsSound n a ss → AreOver m ss → IsSound m a ss
sound_by n m a ss h o = record { over = o; counted = h.counted }
