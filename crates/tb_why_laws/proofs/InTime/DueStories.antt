-- Which stories were placed since the last sheet: each tale leaves the number of sheets at which a float was placed, or sets it to
-- the number of sheets.
use Rattle.std.proofs.Common.{◌≡◌, refl, sym, ◌∙◌, subst, inl, inr, ◌⊎◌, ℕ, ◌+◌, ◌-◌, Bool, true, false, List, [], ◌∷◌, ◌++◌, map, Option, Some, None, if◌then◌else◌, eqb-true, ℤ, arith}
use Rattle.std.specs.Prelude.{⊤, ◌&&◌, ◌||◌, ◌==◌}
use Rattle.std.specs.Bool.{beq}
use Rattle.std.specs.List.{AllByRecursion}
use Rattle.tb_break.proofs.EachLemmas.{all-push, all-map, all-of}
use Rattle.tb_node.specs.declared.Float.{Float}
use Rattle.tb_node.specs.declared.Where.{Where}
use Rattle.tb_node.specs.declared.Where.TheVariants as places
use Rattle.tb_fpage.specs.declared.Wanted.{Wanted}
use Rattle.tb_fpage.specs.Company.{company}
use Rattle.tb_told.specs.declared.Spot.{Spot}
use Rattle.tb_told.specs.declared.Told.{Told}
use Rattle.tb_told.specs.declared.Told.TheVariants.{Enters, TestsHere, TestsTop, TestsBottom, TestsWide, Goes}
use Rattle.tb_told.specs.declared.ToldColumn.{ToldColumn}
use Rattle.tb_told.specs.declared.ToldColumn.TheVariants.{Heads, Joins, Companied, Takes}
use Rattle.tb_told.specs.declared.Tale.{Tale}
use Rattle.tb_told.specs.declared.Tale.TheVariants.{Waits, Calls, Decides, Begins, InColumn, Back, Stands}
use Rattle.tb_told.specs.AreaTold.{place_told}
use Rattle.tb_told.specs.ColumnTold.{told_float, told_from, told_column, floats_told, taken_floats}
use Rattle.tb_told.specs.Tales.{decisions, has_width, column_tales, back_tales}
use Rattle.tb_told.proofs.ColumnLemmas.{column_takes}
use Rattle.tb_story.specs.declared.Kept.{Kept}
use Rattle.tb_story.specs.Story.{StoryView, is_open, is_deferred, is_story_of, begun, kept_back, placed_at, missed, missed_by, missed_sheet, by_break, carried, waits, if_of, with_story}
use Rattle.tb_story.specs.Summary.{SummaryView, by_clear, by_width, keep_if, put_at, nothing_found, reason_of, after_told, after_column, after_tale}
use Rattle.tb_why.specs.SummaryLaws.{column_lines}
use Rattle.tb_why.proofs.MovingLemmas.{StaysMoved, told_stays, column_stays, all_mapped, if_changed}
use Rattle.tb_why.proofs.LandingLemmas.{all_trivial}
use Rattle.tb_laws.specs.Laws.{float_lines}
use Rattle.tb_laws.proofs.ClassesRise.RisingLists.{IsAmong}
use Rattle.tb_why_laws.proofs.InOrder.DecisionLemmas.{after_tales}

-- ---- stories

-- if the float is of these lines and was not shipped, it was placed at this number of sheets
abbrev pub IsDue : (ℕ → Type 0) → ℕ → StoryView → Type 0
IsDue N n s = is_open s ≡ true → N s.float.line → s.put ≡ n

abbrev pub AllDue : (ℕ → Type 0) → ℕ → List StoryView → Type 0
AllDue N n ss = AllByRecursion (IsDue N n) ss

-- of fewer lines
pub fewer-due : (N M : ℕ → Type 0) → ((n : ℕ) → M n → N n) → (n : ℕ) (ss : List StoryView) → AllDue N n ss → AllDue M n ss
fewer-due N M h n ss a = all-map (IsDue N n) (IsDue M n) (λ s d o i. d o (h s.float.line i)) ss a

-- of no line
pub none-due : (N : ℕ → Type 0) → ((n : ℕ) → N n → ⊥) → (n : ℕ) (ss : List StoryView) → AllDue N n ss
none-due N h n ss = all-of (IsDue N n) (λ s o i. absurd (h s.float.line i)) ss

-- the story of a line is changed so that it is due, and the others were
due-changed : (N M : ℕ → Type 0) (n line : ℕ) (change : StoryView → StoryView) → ((s : StoryView) → (change s).put ≡ n) → ((k : ℕ) → M k → N k ⊎ (k ≡ line)) → (ss : List StoryView) → AllDue N n ss → AllDue M n (with_story line change ss)
due-changed N M n line change put h ss a = all_mapped (IsDue N n) (IsDue M n) (if_of line change) (λ s d. by_line s d (is_story_of line s) refl) ss a
  where
    other : (b : Bool) → b ≡ true → b ≡ false → ⊥
    other b e d = cc

    itself : (n : ℕ) → (n == n) ≡ true
    itself n = grind arith

    both : (a b : Bool) → a ≡ true → b ≡ true → (a && b) ≡ true
    both true b e d = d
    both false b e d = cc

    by_line : (s : StoryView) → IsDue N n s → (b : Bool) → is_story_of line s ≡ b → IsDue M n (if b then change s else s)
    by_line s d true e o i = put s
    by_line s d false e o i = by_lines (h s.float.line i)
      where
        by_lines : N s.float.line ⊎ (s.float.line ≡ line) → s.put ≡ n
        by_lines (inl j) = d o j
        by_lines (inr j) = absurd (other (is_story_of line s) (both (is_open s) (s.float.line == line) o (subst (λ k. (s.float.line == k) ≡ true) j (itself s.float.line))) e)

pub placed-due : (N M : ℕ → Type 0) (n line : ℕ) (w : Where) → ((k : ℕ) → M k → N k ⊎ (k ≡ line)) → (ss : List StoryView) → AllDue N n ss → AllDue M n (with_story line (placed_at w n) ss)
placed-due N M n line w h ss a = due-changed N M n line (placed_at w n) (λ s. refl) h ss a

-- a float that stands in the text
pub stood-due : (N M : ℕ → Type 0) (n line : ℕ) → ((k : ℕ) → M k → N k ⊎ (k ≡ line)) → (ss : List StoryView) → AllDue N n ss → AllDue M n (with_story line (carried n) ss)
stood-due N M n line h ss a = due-changed N M n line (carried n) (λ s. by_put s (s.put == n) refl) h ss a
  where
    by_put : (s : StoryView) (b : Bool) → (s.put == n) ≡ b → (if b then s else record (missed (n - s.put) (by_break s.float) s) { put = n }).put ≡ n
    by_put s true e = eqb-true s.put n e
    by_put s false e = refl

module _ (N : ℕ → Type 0) where
  pub kept-due : (n line : ℕ) (k : Kept) (ss : List StoryView) → AllDue N n ss → AllDue N n (with_story line (kept_back k) ss)
  kept-due n line k ss a = all_mapped (IsDue N n) (IsDue N n) (if_of line (kept_back k)) (λ s d. if_changed (IsDue N n) s (kept_back k s) (is_story_of line s) d (λ e. d)) ss a

  -- what is kept back or placed leaves the stories due
  due-stays : StaysMoved (λ ss n. AllDue N n ss) (λ line ss n. ⊤)
  due-stays = record {
    back = λ line k ss n f a. kept-due n line k ss a;
    free = λ line other k ss n f g. tt;
    placed = λ line w ss n f a. placed-due N N n line w (λ k i. inl i) ss a;
  }

  pub begun-due : (f : Float) (page : ℕ) (last : Option Kept) (n : ℕ) (ss : List StoryView) → AllDue N n ss → AllDue N n (ss ++ begun f page last n ∷ [])
  begun-due f page last n ss a = all-push (IsDue N n) ss (begun f page last n) a (λ o i. refl)

  pub missed-due : (n : ℕ) (ss : List StoryView) → AllDue N n ss → AllDue N n (map missed_sheet ss)
  missed-due n ss a = all_mapped (IsDue N n) (IsDue N n) missed_sheet (λ s d. if_changed (IsDue N n) s (missed_by 1 s.last s) (waits s) d (λ e. by_last s d s.last)) ss a
    where
      by_last : (s : StoryView) → IsDue N n s → (o : Option Kept) → IsDue N n (missed_by 1 o s)
      by_last s d None = d
      by_last s d (Some k) = d

-- ---- summaries

abbrev pub DueIn : (ℕ → Type 0) → SummaryView → Type 0
DueIn N m = AllDue N m.sheets m.stories

-- the tale of a call is told where the number of the page is that of the sheets and one
abbrev pub IsTaleTimely : Tale → SummaryView → Type 0
IsTaleTimely (Waits at f) m = at.page ≡ m.sheets + 1
IsTaleTimely (Calls at f h) m = at.page ≡ m.sheets + 1
IsTaleTimely t m = ⊤

abbrev pub AreTalesTimely : List Tale → SummaryView → Type 0
AreTalesTimely [] m = ⊤
AreTalesTimely (t ∷ ts) m = IsTaleTimely t m × AreTalesTimely ts (after_tale t m)

-- they are told so, the sheets stay, and this is so after them
pub record TellsTimely (ts : List Tale) (m : SummaryView) (N : ℕ → Type 0) : Type 0 where
  pub order : AreTalesTimely ts m
  pub sheets : (after_tales ts m).sheets ≡ m.sheets
  pub due : DueIn N (after_tales ts m)

pub timely-none : (N : ℕ → Type 0) (m : SummaryView) → DueIn N m → TellsTimely [] m N
timely-none N m a = record { order = tt; sheets = refl; due = a }

-- one tale before others
pub timely-more : (t : Tale) (ts : List Tale) (m : SummaryView) (M : ℕ → Type 0) → IsTaleTimely t m → (after_tale t m).sheets ≡ m.sheets → TellsTimely ts (after_tale t m) M → TellsTimely (t ∷ ts) m M
timely-more t ts m M o e x = record { order = (o, x.order); sheets = x.sheets ∙ e; due = x.due }

-- ---- decisions

sheets-stay : (n : ℕ) → StaysMoved (λ ss k. k ≡ n) (λ line ss k. ⊤)
sheets-stay n = record { back = λ line k ss m f p. p; free = λ line other k ss m f g. tt; placed = λ line w ss m f p. p }

pub told-sheets : (f : Float) (t : Told) (m : SummaryView) → (after_told f t m).sheets ≡ m.sheets
told-sheets f t m = told_stays (λ ss k. k ≡ m.sheets) (λ line ss k. ⊤) (sheets-stay m.sheets) f t m tt refl

told-due : (N : ℕ → Type 0) (f : Float) (t : Told) (m : SummaryView) → DueIn N m → DueIn N (after_told f t m)
told-due N f t m a = told_stays (λ ss n. AllDue N n ss) (λ line ss n. ⊤) (due-stays N) f t m tt a

-- a decision leaves the floats due that were, and its float if it is placed
pub decision-timely : (N M : ℕ → Type 0) (f : Float) (ts : List Told) → ((n : ℕ) → M n → N n ⊎ ((n ≡ f.line) × (is_deferred (place_told ts) ≡ false))) → (m : SummaryView) → DueIn N m → TellsTimely (decisions f ts) m M
decision-timely N M f [] h m a = timely-none M m (fewer-due N M (λ n i. only n (h n i)) m.sheets m.stories a)
  where
    only : (n : ℕ) → N n ⊎ ((n ≡ f.line) × (true ≡ false)) → N n
    only n (inl i) = i
    only n (inr i) = absurd (no i.1)
      where
        no : true ≡ false → ⊥
        no e = cc
decision-timely N M f (Goes v ∷ []) h m a =
    timely-more (Decides f (Goes v)) [] m M tt (told-sheets f (Goes v) m) (timely-none M (after_told f (Goes v) m) (by_place (is_deferred v) refl (reason_of f.line m)))
  where
    others : (b : Bool) → b ≡ true → (n : ℕ) → N n ⊎ ((n ≡ f.line) × (b ≡ false)) → N n
    others b e n (inl i) = i
    others b e n (inr i) = absurd (no b e i.1)
      where
        no : (b : Bool) → b ≡ true → b ≡ false → ⊥
        no b e d = cc

    all : (n : ℕ) → N n ⊎ ((n ≡ f.line) × (is_deferred v ≡ false)) → N n ⊎ (n ≡ f.line)
    all n (inl i) = inl i
    all n (inr i) = inr i.0

    kept : (o : Option Kept) → DueIn N m → DueIn N (nothing_found (keep_if f o m))
    kept None a = a
    kept (Some k) a = kept-due N m.sheets f.line k m.stories a

    sheets-of : (o : Option Kept) → (keep_if f o m).sheets ≡ m.sheets
    sheets-of None = refl
    sheets-of (Some k) = refl

    by_place : (b : Bool) → is_deferred v ≡ b → (o : Option Kept) → DueIn M (nothing_found (if b then keep_if f o m else put_at f v m))
    by_place true e o = fewer-due N M (λ n i. others (is_deferred v) e n (h n i)) (keep_if f o m).sheets (keep_if f o m).stories (kept o a)
    by_place false e o = placed-due N M m.sheets f.line v (λ n i. all n (h n i)) m.stories a
decision-timely N M f (Goes v ∷ u ∷ ts) h m a = timely-more (Decides f (Goes v)) (decisions f (u ∷ ts)) m M tt (told-sheets f (Goes v) m) (decision-timely N M f (u ∷ ts) h (after_told f (Goes v) m) (told-due N f (Goes v) m a))
decision-timely N M f (Enters t ∷ ts) h m a = timely-more (Decides f (Enters t)) (decisions f ts) m M tt (told-sheets f (Enters t) m) (decision-timely N M f ts h (after_told f (Enters t) m) (told-due N f (Enters t) m a))
decision-timely N M f (TestsHere t ∷ ts) h m a = timely-more (Decides f (TestsHere t)) (decisions f ts) m M tt (told-sheets f (TestsHere t) m) (decision-timely N M f ts h (after_told f (TestsHere t) m) (told-due N f (TestsHere t) m a))
decision-timely N M f (TestsTop t ∷ ts) h m a = timely-more (Decides f (TestsTop t)) (decisions f ts) m M tt (told-sheets f (TestsTop t) m) (decision-timely N M f ts h (after_told f (TestsTop t) m) (told-due N f (TestsTop t) m a))
decision-timely N M f (TestsBottom t ∷ ts) h m a = timely-more (Decides f (TestsBottom t)) (decisions f ts) m M tt (told-sheets f (TestsBottom t) m) (decision-timely N M f ts h (after_told f (TestsBottom t) m) (told-due N f (TestsBottom t) m a))
decision-timely N M f (TestsWide t ∷ ts) h m a = timely-more (Decides f (TestsWide t)) (decisions f ts) m M tt (told-sheets f (TestsWide t) m) (decision-timely N M f ts h (after_told f (TestsWide t) m) (told-due N f (TestsWide t) m a))

-- ---- columns of floats

pub column-sheets : (t : ToldColumn) (m : SummaryView) → (after_column t m).sheets ≡ m.sheets
column-sheets t m = column_stays (λ ss k. k ≡ m.sheets) (λ line ss k. ⊤) (sheets-stay m.sheets) t m (all_trivial (column_lines t m)) refl

column-due : (N : ℕ → Type 0) (t : ToldColumn) (m : SummaryView) → DueIn N m → DueIn N (after_column t m)
column-due N t m a = column_stays (λ ss n. AllDue N n ss) (λ line ss n. ⊤) (due-stays N) t m (all_trivial (column_lines t m)) a

-- what is told of a column leaves the floats due that were, and those that are taken
columns-timely : (N M : ℕ → Type 0) (ts : List ToldColumn) → ((n : ℕ) → M n → N n ⊎ IsAmong n (float_lines (floats_told ts))) → (m : SummaryView) → DueIn N m → TellsTimely (map (λ t. InColumn t) ts) m M
columns-timely N M [] h m a = timely-none M m (fewer-due N M (λ n i. only n (h n i)) m.sheets m.stories a)
  where
    only : (n : ℕ) → N n ⊎ ⊥ → N n
    only n (inl i) = i
    only n (inr i) = absurd i
columns-timely N M (Heads f t ∷ ts) h m a = timely-more (InColumn (Heads f t)) (map (λ t. InColumn t) ts) m M tt (column-sheets (Heads f t) m) (columns-timely N M ts h (after_column (Heads f t) m) (column-due N (Heads f t) m a))
columns-timely N M (Joins f t ∷ ts) h m a = timely-more (InColumn (Joins f t)) (map (λ t. InColumn t) ts) m M tt (column-sheets (Joins f t) m) (columns-timely N M ts h (after_column (Joins f t) m) (column-due N (Joins f t) m a))
columns-timely N M (Companied f t ∷ ts) h m a = timely-more (InColumn (Companied f t)) (map (λ t. InColumn t) ts) m M tt (column-sheets (Companied f t) m) (columns-timely N M ts h (after_column (Companied f t) m) (column-due N (Companied f t) m a))
columns-timely N M (Takes f ∷ ts) h m a =
    timely-more (InColumn (Takes f)) (map (λ t. InColumn t) ts) m M tt (column-sheets (Takes f) m)
    (columns-timely (λ n. N n ⊎ (n ≡ f.line)) M ts (λ n i. by_line n (h n i)) (after_column (Takes f) m) (placed-due N (λ n. N n ⊎ (n ≡ f.line)) m.sheets f.line places.Page (λ n i. i) m.stories a))
  where
    by_line : (n : ℕ) → N n ⊎ IsAmong n (f.line ∷ float_lines (floats_told ts)) → (N n ⊎ (n ≡ f.line)) ⊎ IsAmong n (float_lines (floats_told ts))
    by_line n (inl i) = inl (inl i)
    by_line n (inr (inl e)) = inl (inr (sym e))
    by_line n (inr (inr i)) = inr i

-- nothing is told of a list without a float of the width
untold : (z : Wanted) (before fs : List Float) → has_width z.wide fs ≡ false → told_from z before fs ≡ []
untold z before [] e = refl
untold z before (f ∷ fs) e = by_width (beq f.wide z.wide) (has_width z.wide fs) e (λ d. untold z (before ++ f ∷ []) fs d)
  where
    by_width : (a b : Bool) → (a || b) ≡ false → (b ≡ false → told_from z (before ++ f ∷ []) fs ≡ []) → (if a then told_float z before f fs (told_from z (before ++ f ∷ []) fs) else told_from z (before ++ f ∷ []) fs) ≡ []
    by_width true b e h = cc
    by_width false b e h = h e

-- where a column is looked for, the floats of its company are due
pub company-timely : (N M : ℕ → Type 0) (at : Spot) (z : Wanted) (fs : List Float) → ((n : ℕ) → M n → N n ⊎ IsAmong n (float_lines (taken_floats (company z fs)))) → (m : SummaryView) → DueIn N m → TellsTimely (column_tales at z fs) m M
company-timely N M at z fs h m a = by_width (has_width z.wide fs) refl
  where
    told : (n : ℕ) → M n → N n ⊎ IsAmong n (float_lines (floats_told (told_column z fs)))
    told n i = subst (λ gs. N n ⊎ IsAmong n (float_lines gs)) (sym (column_takes z fs)) (h n i)

    only : has_width z.wide fs ≡ false → (n : ℕ) → M n → N n
    only e n i = by_list (subst (λ ts. N n ⊎ IsAmong n (float_lines (floats_told ts))) (untold z [] fs e) (told n i))
      where
        by_list : N n ⊎ ⊥ → N n
        by_list (inl j) = j
        by_list (inr j) = absurd j

    by_width : (b : Bool) → has_width z.wide fs ≡ b → TellsTimely (if b then Begins at z ∷ map (λ t. InColumn t) (told_column z fs) else []) m M
    by_width true e = timely-more (Begins at z) (map (λ t. InColumn t) (told_column z fs)) m M tt refl (columns-timely N M (told_column z fs) told (after_tale (Begins at z) m) a)
    by_width false e = timely-none M m (fewer-due N M (only e) m.sheets m.stories a)

-- ---- other tales

-- floats that a clear takes back, before other tales
pub back-timely : (N : ℕ → Type 0) (place : Where) (fs : List Float) (us : List Tale) (m : SummaryView) → DueIn N m → ((n : SummaryView) → n.sheets ≡ m.sheets → DueIn N n → TellsTimely us n N) → TellsTimely (back_tales place fs ++ us) m N
back-timely N place [] us m a g = g m refl a
back-timely N place (f ∷ fs) us m a g =
    timely-more (Back f place) (back_tales place fs ++ us) m N tt refl (back-timely N place fs us (after_tale (Back f place) m) (kept-due N m.sheets f.line (by_clear f) m.stories a) g)

-- floats that stand in the text
pub stands-timely : (N M : ℕ → Type 0) (ls : List ℕ) → ((n : ℕ) → M n → N n ⊎ IsAmong n ls) → (m : SummaryView) → DueIn N m → TellsTimely (map (λ l. Stands l) ls) m M
stands-timely N M [] h m a = timely-none M m (fewer-due N M (λ n i. only n (h n i)) m.sheets m.stories a)
  where
    only : (n : ℕ) → N n ⊎ ⊥ → N n
    only n (inl i) = i
    only n (inr i) = absurd i
stands-timely N M (l ∷ ls) h m a =
    timely-more (Stands l) (map (λ l. Stands l) ls) m M tt refl
    (stands-timely (λ n. N n ⊎ (n ≡ l)) M ls (λ n i. by_line n (h n i)) (after_tale (Stands l) m) (stood-due N (λ n. N n ⊎ (n ≡ l)) m.sheets l (λ n i. i) m.stories a))
  where
    by_line : (n : ℕ) → N n ⊎ IsAmong n (l ∷ ls) → (N n ⊎ (n ≡ l)) ⊎ IsAmong n ls
    by_line n (inl i) = inl (inl i)
    by_line n (inr (inl e)) = inl (inr (sym e))
    by_line n (inr (inr i)) = inr i

-- a float that is called
pub call-timely : (N M : ℕ → Type 0) (at : Spot) (f : Float) (height : ℤ) (ts : List Told) → ((n : ℕ) → M n → N n ⊎ ((n ≡ f.line) × (is_deferred (place_told ts) ≡ false))) → (m : SummaryView) → at.page ≡ m.sheets + 1 → DueIn N m → TellsTimely (Calls at f height ∷ decisions f ts) m M
call-timely N M at f height ts h m e a = timely-more (Calls at f height) (decisions f ts) m M e refl (decision-timely N M f ts h (after_tale (Calls at f height) m) (begun-due N f at.page None m.sheets m.stories a))

-- a wide float that waits
pub wait-timely : (N : ℕ → Type 0) (at : Spot) (fs : List Float) (m : SummaryView) → at.page ≡ m.sheets + 1 → DueIn N m → TellsTimely (map (λ f. Waits at f) fs) m N
wait-timely N at [] m e a = timely-none N m a
wait-timely N at (f ∷ fs) m e a = timely-more (Waits at f) (map (λ f. Waits at f) fs) m N e refl (wait-timely N at fs (after_tale (Waits at f) m) e (begun-due N f at.page (Some (by_width f)) m.sheets m.stories a))
