-- What tales make of the stories: whatever stays when floats are kept back or placed stays at each decision, at each column of
-- floats, and where a clear takes floats back.
use Rattle.std.proofs.Common.{◌≡◌, refl, ℕ, ℤ, Bool, true, false, List, [], ◌∷◌, ◌++◌, map, Option, Some, None, if◌then◌else◌}
use Rattle.std.specs.List.{AllByRecursion}
use Rattle.tb_node.specs.declared.Float.{Float}
use Rattle.tb_node.specs.declared.Where.{Where}
use Rattle.tb_node.specs.declared.Where.TheVariants as places
use Rattle.tb_told.specs.declared.Test.{Test}
use Rattle.tb_told.specs.declared.Told.{Told}
use Rattle.tb_told.specs.declared.Told.TheVariants.{Enters, TestsHere, TestsTop, TestsBottom, TestsWide, Goes}
use Rattle.tb_told.specs.declared.Alone.{Alone}
use Rattle.tb_told.specs.declared.Joining.{Joining}
use Rattle.tb_told.specs.declared.Made.{Made}
use Rattle.tb_told.specs.declared.ToldColumn.{ToldColumn}
use Rattle.tb_told.specs.declared.ToldColumn.TheVariants.{Heads, Joins, Companied, Takes}
use Rattle.tb_story.specs.declared.Area.{Area}
use Rattle.tb_story.specs.declared.Kept.{Kept}
use Rattle.tb_story.specs.declared.Noted.{Noted}
use Rattle.tb_story.specs.Story.{StoryView, kept_back, placed_at, with_story, is_deferred}
use Rattle.tb_story.specs.Summary.{SummaryView, tested_in, keep_if, put_at, nothing_found, reason_of, after_told, kept_all, keep_all, keep, heads_none, after_heads, after_joining, after_company, after_column}
use Rattle.tb_why.specs.SummaryLaws.{noted_lines, column_lines}

-- a property of the stories and the number of sheets stays when a float is kept back or placed, if the line is free to be
pub record StaysMoved (P : List StoryView → ℕ → Type 0) (Free : ℕ → List StoryView → ℕ → Type 0) : Type 0 where
  pub back : (line : ℕ) (k : Kept) (ss : List StoryView) (n : ℕ) → Free line ss n → P ss n → P (with_story line (kept_back k) ss) n
  pub free : (line other : ℕ) (k : Kept) (ss : List StoryView) (n : ℕ) → Free line ss n → Free other ss n → Free other (with_story line (kept_back k) ss) n
  pub placed : (line : ℕ) (w : Where) (ss : List StoryView) (n : ℕ) → Free line ss n → P ss n → P (with_story line (placed_at w n) ss) n

module _ (P : List StoryView → ℕ → Type 0) (Free : ℕ → List StoryView → ℕ → Type 0) (h : StaysMoved P Free) where
  -- of a whole summary
  abbrev Holds : SummaryView → Type 0
  Holds m = P m.stories m.sheets

  abbrev IsFreeIn : ℕ → SummaryView → Type 0
  IsFreeIn line m = Free line m.stories m.sheets

  abbrev AreFree : List ℕ → List StoryView → ℕ → Type 0
  AreFree lines ss n = AllByRecursion (λ line. Free line ss n) lines

  tested : (area : Area) (f : Float) (b : Option Float) (room share : ℤ) (o : Option Test) (m : SummaryView) → Holds m → Holds (tested_in area f b room share o m)
  tested area f b room share None m p = p
  tested area f b room share (Some t) m p = p

  decided_by : (f : Float) (w : Where) (m : SummaryView) (b : Bool) (r : Option Kept) → IsFreeIn f.line m → Holds m → Holds (nothing_found (if b then keep_if f r m else put_at f w m))
  decided_by f w m true None free p = p
  decided_by f w m true (Some k) free p = h.back f.line k m.stories m.sheets free p
  decided_by f w m false r free p = h.placed f.line w m.stories m.sheets free p

  pub told_stays : (f : Float) (t : Told) (m : SummaryView) → IsFreeIn f.line m → Holds m → Holds (after_told f t m)
  told_stays f (Enters t) m free p = tested _ f _ _ _ t.failed m p
  told_stays f (TestsHere t) m free p = tested _ f None _ _ t.failed m p
  told_stays f (TestsTop t) m free p = tested _ f None _ _ t.failed m p
  told_stays f (TestsBottom t) m free p = tested _ f None _ _ t.failed m p
  told_stays f (TestsWide t) m free p = tested _ f _ _ _ t.failed m p
  told_stays f (Goes w) m free p = decided_by f w m (is_deferred w) (reason_of f.line m) free p

  -- ---- notes

  all_free : (lines : List ℕ) (line : ℕ) (k : Kept) (ss : List StoryView) (n : ℕ) → Free line ss n → AreFree lines ss n → AreFree lines (with_story line (kept_back k) ss) n
  all_free [] line k ss n free fs = tt
  all_free (l ∷ ls) line k ss n free fs = (h.free line l k ss n free fs.0, all_free ls line k ss n free fs.1)

  noted_free : (ns : List Noted) (lines : List ℕ) (ss : List StoryView) (n : ℕ) → AreFree (noted_lines ns) ss n → AreFree lines ss n → AreFree lines (kept_all ns ss) n
  noted_free [] lines ss n free fs = fs
  noted_free (x ∷ ns) lines ss n free fs =
      noted_free ns lines (with_story x.float.line (kept_back x.kept) ss) n
      (all_free (noted_lines ns) x.float.line x.kept ss n free.0 free.1) (all_free lines x.float.line x.kept ss n free.0 fs)

  noted_stays : (ns : List Noted) (ss : List StoryView) (n : ℕ) → AreFree (noted_lines ns) ss n → P ss n → P (kept_all ns ss) n
  noted_stays [] ss n free p = p
  noted_stays (x ∷ ns) ss n free p =
      noted_stays ns (with_story x.float.line (kept_back x.kept) ss) n
      (all_free (noted_lines ns) x.float.line x.kept ss n free.0 free.1) (h.back x.float.line x.kept ss n free.0 p)

  keep_all_stays : (m : SummaryView) → AreFree (noted_lines m.alone) m.stories m.sheets → AreFree (noted_lines m.passed) m.stories m.sheets → Holds m → Holds (keep_all m)
  keep_all_stays m alone passed p =
      noted_stays m.passed (kept_all m.alone m.stories) m.sheets (noted_free m.alone (noted_lines m.passed) m.stories m.sheets alone passed)
      (noted_stays m.alone m.stories m.sheets alone p)

  -- ---- columns of floats

  not_alone_by : (f : Float) (k : Kept) (m : SummaryView) (b : Bool) → IsFreeIn f.line m → Holds m → Holds (if b then keep f k (heads_none f k m) else heads_none f k m)
  not_alone_by f k m true free p = h.back f.line k m.stories m.sheets free p
  not_alone_by f k m false free p = p

  heads_stays : (f : Float) (t : Alone) (o : Option Test) (m : SummaryView) → IsFreeIn f.line m → Holds m → Holds (after_heads f t o m)
  heads_stays f t None m free p = p
  heads_stays f t (Some w) m free p = not_alone_by f _ m m.clearing free p

  joining_stays : (f : Float) (t : Joining) (o : Option Test) (m : SummaryView) → Holds m → Holds (after_joining f t o m)
  joining_stays f t None m p = p
  joining_stays f t (Some w) m p = p

  both : (cs bs : List ℕ) (ss : List StoryView) (n : ℕ) → AreFree (cs ++ bs) ss n → AreFree cs ss n × AreFree bs ss n
  both [] bs ss n fs = (tt, fs)
  both (a ∷ cs) bs ss n fs = let r = both cs bs ss n fs.1 in ((fs.0, r.0), r.1)

  company_stays : (f : Float) (t : Made) (o : Option Test) (m : SummaryView) → IsFreeIn f.line m → AreFree (noted_lines m.alone ++ noted_lines m.passed) m.stories m.sheets → Holds m → Holds (after_company f t o m)
  company_stays f t None m free fs p = let r = both (noted_lines m.alone) (noted_lines m.passed) m.stories m.sheets fs in keep_all_stays m r.0 r.1 p
  company_stays f t (Some w) m free fs p = not_alone_by f _ m m.clearing free p

  pub column_stays : (t : ToldColumn) (m : SummaryView) → AreFree (column_lines t m) m.stories m.sheets → Holds m → Holds (after_column t m)
  column_stays (Heads f t) m fs p = heads_stays f t t.failed m fs.0 p
  column_stays (Joins f t) m fs p = joining_stays f t t.failed m p
  column_stays (Companied f t) m fs p = company_stays f t t.failed m fs.0 fs.1 p
  column_stays (Takes f) m fs p = h.placed f.line places.Page m.stories m.sheets fs.0 p

-- ---- all stories

pub all_mapped : (P Q : StoryView → Type 0) (change : StoryView → StoryView) → ((s : StoryView) → P s → Q (change s)) → (ss : List StoryView) → AllByRecursion P ss → AllByRecursion Q (map change ss)
all_mapped P Q change h [] a = tt
all_mapped P Q change h (s ∷ ss) a = (h s a.0, all_mapped P Q change h ss a.1)

pub all_appended : (P : StoryView → Type 0) (ss : List StoryView) (s : StoryView) → AllByRecursion P ss → P s → AllByRecursion P (ss ++ s ∷ [])
all_appended P [] s a p = (p, tt)
all_appended P (t ∷ ts) s a p = (a.0, all_appended P ts s a.1 p)

-- a property of a story that is changed or not
pub if_changed : (P : StoryView → Type 0) (s t : StoryView) (b : Bool) → P s → (b ≡ true → P t) → P (if b then t else s)
if_changed P s t true p h = h refl
if_changed P s t false p h = p
