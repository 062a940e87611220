-- Each reason of the summary was told of the float that is itself at fault: what is shown, one after another.
use Rattle.std.proofs.Common.{◌≡◌, refl, inl, inr, ℕ, ℤ, ◌-◌, Bool, true, false, List, [], ◌∷◌, ◌++◌, Option, Some, None, if◌then◌else◌}
use Rattle.std.specs.Prelude.{not, ◌&&◌, ◌==◌}
use Rattle.std.specs.List.{AllByRecursion}
use Rattle.tb_node.specs.declared.Float.{Float}
use Rattle.tb_node.specs.declared.What.{What}
use Rattle.tb_node.specs.declared.What.TheVariants as what
use Rattle.tb_node.specs.declared.Where.{Where}
use Rattle.tb_node.specs.declared.Where.TheVariants as places
use Rattle.tb_node.specs.PlainNodes.{hbox, PlainKind, plain, PlainNode}
use Rattle.tb_sheet.specs.Sheet.{PlainSheet, one, wide, two, warned, shipped}
use Rattle.tb_items.specs.RunEvents.{RunEvent, offered, sent}
use Rattle.tb_told.specs.declared.Test.{Test}
use Rattle.tb_told.specs.declared.Test.TheVariants as tests
use Rattle.tb_told.specs.declared.Told.{Told}
use Rattle.tb_told.specs.declared.Told.TheVariants.{Enters, TestsHere, TestsTop, TestsBottom, TestsWide, Goes}
use Rattle.tb_told.specs.declared.Alone.{Alone}
use Rattle.tb_told.specs.declared.Joining.{Joining}
use Rattle.tb_told.specs.declared.Made.{Made}
use Rattle.tb_told.specs.declared.ToldColumn.{ToldColumn}
use Rattle.tb_told.specs.declared.ToldColumn.TheVariants.{Heads, Joins, Companied, Takes}
use Rattle.tb_told.specs.declared.Tale.{Tale}
use Rattle.tb_told.specs.declared.Tale.TheVariants.{Waits, Calls, Decides, Begins, InColumn, Back, Beside, Stands, PutOut}
use Rattle.tb_story.specs.declared.Area.{Area}
use Rattle.tb_story.specs.declared.Area.TheVariants as areas
use Rattle.tb_story.specs.declared.Kept.{Kept}
use Rattle.tb_story.specs.declared.Group.{Group}
use Rattle.tb_story.specs.declared.Noted.{Noted}
use Rattle.tb_story.specs.Story.{StoryView, is_story_of, is_deferred, is_alike, is_by_places, or_else, closed, begun, kept_back, placed_at, landed_at, missed, missed_by, missed_sheet, by_break, carried, waits, if_of, with_story, last_of}
use Rattle.tb_story.specs.Summary.{SummaryView, no_stories, noted_of, way_of, way_in, way_of_head, way_of_joining, kept_by, gain, own_reason, found_with, reason_of, keep_if, put_at, nothing_found, tested_in, keep, heads_none, kept_all, after_heads, after_joining, after_company, no_head_by, by_clear, by_width, after_told, after_column, after_tale, after_box, after_node, after_nodes, after_sheet}
use Rattle.tb_why.specs.WhyRun.{Shown, happens, tells}
use Rattle.tb_why.specs.Summary.{after_event, summed}
use Rattle.tb_why.specs.SummaryLaws.{names_class, IsAtFault, way_told, reason_of_head, IsColumnFault, TellsFault, IsToldOfFault, IfKept, IfGroup, OfStory, OfReasons}
use Rattle.tb_why.proofs.MovingLemmas.{all_mapped, all_appended, if_changed}
use Rattle.tb_why.proofs.LandingLemmas.{line_of}

module _ (P : Kept → Type 0) where
  -- ---- what a test that failed makes of it

  -- no float in the way is followed
  own : (area : Area) (t : Test) (f : Float) (by : ℤ) (reason : Float → Option Kept) → ((k : Kept) → IsAtFault f None reason k → P k) → P (kept_by area t f by None)
  own area tests.Places f by reason h = h (kept_by area tests.Places f by None) (inr refl)
  own area tests.Wide f by reason h = h (kept_by area tests.Wide f by None) (inr refl)
  own area tests.Class f by reason h = h (kept_by area tests.Class f by None) (inr refl)
  own area tests.Count f by reason h = h (kept_by area tests.Count f by None) (inr refl)
  own area tests.Room f by reason h = h (kept_by area tests.Room f by None) (inr refl)
  own area tests.Share f by reason h = h (kept_by area tests.Share f by None) (inr refl)
  own area tests.Tall f by reason h = h (kept_by area tests.Tall f by None) (inr refl)
  own area tests.Sum f by reason h = h (kept_by area tests.Sum f by None) (inr refl)

  way_kept : (area : Area) (f b : Float) (reason : Float → Option Kept) → ((k : Kept) → IsAtFault f (Some b) reason k → P k) → (o : Option Kept) → reason b ≡ o → IfKept P o → P (way_of area b o)
  way_kept area f b reason h None e p = h (way_of area b None) (inr (refl, e))
  way_kept area f b reason h (Some k) e p = p

  -- a float is in the way, with this reason
  behind : (area : Area) (t : Test) (f : Float) (by : ℤ) (b : Float) (reason : Float → Option Kept) → ((k : Kept) → IsAtFault f (Some b) reason k → P k) → (o : Option Kept) → reason b ≡ o → IfKept P o → P (kept_by area t f by (Some (way_of area b o)))
  behind area tests.Class f by b reason h o e p = way_kept area f b reason h o e p
  behind area tests.Places f by b reason h o e p = h (kept_by area tests.Places f by (Some (way_of area b o))) (inl (refl, refl))
  behind area tests.Wide f by b reason h o e p = h (kept_by area tests.Wide f by (Some (way_of area b o))) (inl (refl, refl))
  behind area tests.Count f by b reason h o e p = h (kept_by area tests.Count f by (Some (way_of area b o))) (inl (refl, refl))
  behind area tests.Room f by b reason h o e p = h (kept_by area tests.Room f by (Some (way_of area b o))) (inl (refl, refl))
  behind area tests.Share f by b reason h o e p = h (kept_by area tests.Share f by (Some (way_of area b o))) (inl (refl, refl))
  behind area tests.Tall f by b reason h o e p = h (kept_by area tests.Tall f by (Some (way_of area b o))) (inl (refl, refl))
  behind area tests.Sum f by b reason h o e p = h (kept_by area tests.Sum f by (Some (way_of area b o))) (inl (refl, refl))

  -- ---- reasons that are looked up

  if_kept : (b : Bool) (x y : Option Kept) → IfKept P x → IfKept P y → IfKept P (if b then x else y)
  if_kept true x y p q = p
  if_kept false x y p q = q

  else_kept : (x y : Option Kept) → IfKept P x → IfKept P y → IfKept P (or_else x y)
  else_kept None y p q = q
  else_kept (Some k) y p q = p

  last_kept : (line : ℕ) (ss : List StoryView) → AllByRecursion (OfStory P) ss → IfKept P (last_of line ss)
  last_kept line [] a = tt
  last_kept line (s ∷ ss) a = let q : OfStory P s = a.0 in if_kept (is_story_of line s) s.last (last_of line ss) q.last (last_kept line ss a.1)

  noted_kept : (line : ℕ) (ns : List Noted) → AllByRecursion (λ n. P n.kept) ns → IfKept P (noted_of line ns)
  noted_kept line [] a = tt
  noted_kept line (n ∷ ns) a = if_kept (n.float.line == line) (Some n.kept) (noted_of line ns) a.0 (noted_kept line ns a.1)

  own_kept : (line : ℕ) (o : Option Kept) → IfKept P o → IfKept P (own_reason line o)
  own_kept line None p = tt
  own_kept line (Some k) p = if_kept (is_by_places k.cause && (k.root.line == line)) None (Some k) tt p

  found_kept : (k : Kept) (o : Option Kept) → P k → IfKept P o → IfKept P (found_with k o)
  found_kept k None p q = p
  found_kept k (Some first) p q = if_kept (is_by_places first.cause && not (is_by_places k.cause)) (Some k) (Some first) p q

  reason_kept : (line : ℕ) (m : SummaryView) → OfReasons P m → IfKept P (reason_of line m)
  reason_kept line m a =
      else_kept (own_reason line m.found) (or_else (noted_of line m.alone) m.found) (own_kept line m.found a.found)
      (else_kept (noted_of line m.alone) m.found (noted_kept line m.alone a.alone) a.found)

  head_kept : (b : Float) (m : SummaryView) → OfReasons P m → IfKept P (reason_of_head m b)
  head_kept b m a = else_kept (noted_of b.line m.alone) (last_of b.line m.stories) (noted_kept b.line m.alone a.alone) (last_kept b.line m.stories a.stories)

  -- ---- stories

  back_kept : (line : ℕ) (k : Kept) (ss : List StoryView) → P k → AllByRecursion (OfStory P) ss → AllByRecursion (OfStory P) (with_story line (kept_back k) ss)
  back_kept line k ss p a =
      all_mapped (OfStory P) (OfStory P) (if_of line (kept_back k))
      (λ s q. if_changed (OfStory P) s (kept_back k s) (is_story_of line s) q (λ e. record { last = p; groups = q.groups; group = q.group })) ss a

  place_kept : (line : ℕ) (w : Where) (n : ℕ) (ss : List StoryView) → AllByRecursion (OfStory P) ss → AllByRecursion (OfStory P) (with_story line (placed_at w n) ss)
  place_kept line w n ss a =
      all_mapped (OfStory P) (OfStory P) (if_of line (placed_at w n))
      (λ s q. if_changed (OfStory P) s (placed_at w n s) (is_story_of line s) q (λ e. record { last = q.last; groups = q.groups; group = q.group })) ss a

  land_kept : (line page : ℕ) (w : Where) (ss : List StoryView) → AllByRecursion (OfStory P) ss → AllByRecursion (OfStory P) (with_story line (landed_at page w) ss)
  land_kept line page w ss a =
      all_mapped (OfStory P) (OfStory P) (if_of line (landed_at page w))
      (λ s q. if_changed (OfStory P) s (landed_at page w s) (is_story_of line s) q (λ e. record { last = q.last; groups = q.groups; group = q.group })) ss a

  groups_appended : (gs : List Group) (g : Group) → AllByRecursion (λ x. P x.kept) gs → P g.kept → AllByRecursion (λ x. P x.kept) (gs ++ g ∷ [])
  groups_appended [] g a p = (p, tt)
  groups_appended (x ∷ gs) g a p = (a.0, groups_appended gs g a.1 p)

  closed_by : (b : Bool) (g : Group) (gs : List Group) → P g.kept → AllByRecursion (λ x. P x.kept) gs → AllByRecursion (λ x. P x.kept) (if b then gs else gs ++ g ∷ [])
  closed_by true g gs p a = a
  closed_by false g gs p a = groups_appended gs g a p

  closed_kept : (k : Kept) (o : Option Group) (gs : List Group) → IfGroup P o → AllByRecursion (λ x. P x.kept) gs → AllByRecursion (λ x. P x.kept) (closed k o gs)
  closed_kept k None gs p a = a
  closed_kept k (Some g) gs p a = closed_by (is_alike g.kept k) g gs p a

  missed_kept : (c : ℕ) (k : Kept) (s : StoryView) → P k → OfStory P s → OfStory P (missed c k s)
  missed_kept c k s p q = record { last = q.last; groups = closed_kept k s.group s.groups q.group q.groups; group = p }

  carry_by : (n : ℕ) (k : Kept) (s : StoryView) (b : Bool) → P k → OfStory P s → OfStory P (if b then s else record (missed (n - s.put) k s) { put = n })
  carry_by n k s true p q = q
  carry_by n k s false p q = record { last = q.last; groups = closed_kept k s.group s.groups q.group q.groups; group = p }

  carried_kept : (line n : ℕ) (ss : List StoryView) → ((k : Kept) → (names_class k.cause ≡ false) × (k.root.line ≡ line) → P k) → AllByRecursion (OfStory P) ss → AllByRecursion (OfStory P) (with_story line (carried n) ss)
  carried_kept line n ss h a =
      all_mapped (OfStory P) (OfStory P) (if_of line (carried n))
      (λ s q. if_changed (OfStory P) s (carried n s) (is_story_of line s) q (λ e. carry_by n (by_break s.float) s (s.put == n) (h (by_break s.float) (refl, line_of line s e)) q)) ss a

  sheet_by : (s : StoryView) (o : Option Kept) → IfKept P o → OfStory P s → OfStory P (missed_by 1 o s)
  sheet_by s None p q = q
  sheet_by s (Some k) p q = missed_kept 1 k s p q

  sheet_kept : (s : StoryView) → OfStory P s → OfStory P (missed_sheet s)
  sheet_kept s q = if_changed (OfStory P) s (missed_by 1 s.last s) (waits s) q (λ e. sheet_by s s.last q.last q)

  noted_all : (ns : List Noted) (ss : List StoryView) → AllByRecursion (λ n. P n.kept) ns → AllByRecursion (OfStory P) ss → AllByRecursion (OfStory P) (kept_all ns ss)
  noted_all [] ss p a = a
  noted_all (n ∷ ns) ss p a = noted_all ns (with_story n.float.line (kept_back n.kept) ss) p.1 (back_kept n.float.line n.kept ss p.0 a)

  one_more : (ns : List Noted) (n : Noted) → AllByRecursion (λ x. P x.kept) ns → P n.kept → AllByRecursion (λ x. P x.kept) (ns ++ n ∷ [])
  one_more [] n a p = (p, tt)
  one_more (x ∷ ns) n a p = (a.0, one_more ns n a.1 p)

  -- ---- decisions

  test_kept : (area : Area) (f : Float) (room share : ℤ) (t : Test) (way : Option Float) (m : SummaryView) → ((k : Kept) → IsAtFault f way (λ b. last_of b.line m.stories) k → P k) → OfReasons P m → P (kept_by area t f (gain t room share) (way_in area way m.stories))
  test_kept area f room share t None m h a = own area t f (gain t room share) (λ b. last_of b.line m.stories) h
  test_kept area f room share t (Some b) m h a = behind area t f (gain t room share) b (λ x. last_of x.line m.stories) h (last_of b.line m.stories) refl (last_kept b.line m.stories a.stories)

  tested : (area : Area) (f : Float) (way : Option Float) (room share : ℤ) (o : Option Test) (m : SummaryView) → ((k : Kept) → IsAtFault f way (λ b. last_of b.line m.stories) k → P k) → OfReasons P m → OfReasons P (tested_in area f way room share o m)
  tested area f way room share None m h a = a
  tested area f way room share (Some t) m h a = record {
    stories = a.stories;
    found = found_kept (kept_by area t f (gain t room share) (way_in area way m.stories)) m.found (test_kept area f room share t way m h a) a.found;
    alone = a.alone;
    passed = a.passed;
  }

  decided_by : (f : Float) (w : Where) (m : SummaryView) (b : Bool) (r : Option Kept) → IfKept P r → OfReasons P m → OfReasons P (nothing_found (if b then keep_if f r m else put_at f w m))
  decided_by f w m true None p a = record { stories = a.stories; found = tt; alone = a.alone; passed = a.passed }
  decided_by f w m true (Some k) p a = record { stories = back_kept f.line k m.stories p a.stories; found = tt; alone = a.alone; passed = a.passed }
  decided_by f w m false r p a = record { stories = place_kept f.line w m.sheets m.stories a.stories; found = tt; alone = a.alone; passed = a.passed }

  told_kept : (f : Float) (t : Told) (m : SummaryView) → ((k : Kept) → IsAtFault f (way_told t) (λ b. last_of b.line m.stories) k → P k) → OfReasons P m → OfReasons P (after_told f t m)
  told_kept f (Enters t) m h a = tested _ f t.blocker _ _ t.failed m h a
  told_kept f (TestsHere t) m h a = tested _ f None _ _ t.failed m h a
  told_kept f (TestsTop t) m h a = tested _ f None _ _ t.failed m h a
  told_kept f (TestsBottom t) m h a = tested _ f None _ _ t.failed m h a
  told_kept f (TestsWide t) m h a = tested _ f t.blocker _ _ t.failed m h a
  told_kept f (Goes w) m h a = decided_by f w m (is_deferred w) (reason_of f.line m) (reason_kept f.line m a) a

  -- ---- columns of floats

  alone_by : (f : Float) (k : Kept) (m : SummaryView) (b : Bool) → P k → OfReasons P m → OfReasons P (if b then keep f k (heads_none f k m) else heads_none f k m)
  alone_by f k m true p a = record { stories = back_kept f.line k m.stories p a.stories; found = a.found; alone = one_more m.alone _ a.alone p; passed = a.passed }
  alone_by f k m false p a = record { stories = a.stories; found = a.found; alone = one_more m.alone _ a.alone p; passed = a.passed }

  no_head_kept : (f : Float) (t : Test) (by : ℤ) (way : Option Float) (m : SummaryView) → ((k : Kept) → IsAtFault f way (λ b. reason_of_head m b) k → P k) → OfReasons P m → P (kept_by areas.Alone t f by (way_of_head way m))
  no_head_kept f t by None m h a = own areas.Alone t f by (λ b. reason_of_head m b) h
  no_head_kept f t by (Some b) m h a = behind areas.Alone t f by b (λ x. reason_of_head m x) h (reason_of_head m b) refl (head_kept b m a)

  heads_kept : (f : Float) (t : Alone) (o : Option Test) (m : SummaryView) → ((k : Kept) → IsAtFault f t.blocker (λ b. reason_of_head m b) k → P k) → OfReasons P m → OfReasons P (after_heads f t o m)
  heads_kept f t None m h a = record { stories = a.stories; found = a.found; alone = a.alone; passed = tt }
  heads_kept f t (Some w) m h a = alone_by f (no_head_by f t w m) m m.clearing (no_head_kept f w _ t.blocker m h a) a

  behind_kept : (f : Float) (t : Test) (by : ℤ) (way : Option Float) (m : SummaryView) → ((k : Kept) → IsAtFault f way (λ b. or_else (noted_of b.line m.passed) (reason_of_head m b)) k → P k) → OfReasons P m → P (kept_by areas.Joins t f by (way_of_joining way m))
  behind_kept f t by None m h a = own areas.Joins t f by (λ b. or_else (noted_of b.line m.passed) (reason_of_head m b)) h
  behind_kept f t by (Some b) m h a =
      behind areas.Joins t f by b (λ x. or_else (noted_of x.line m.passed) (reason_of_head m x)) h (or_else (noted_of b.line m.passed) (reason_of_head m b)) refl
      (else_kept (noted_of b.line m.passed) (reason_of_head m b) (noted_kept b.line m.passed a.passed) (head_kept b m a))

  joining_kept : (f : Float) (t : Joining) (o : Option Test) (m : SummaryView) → ((k : Kept) → IsAtFault f t.blocker (λ b. or_else (noted_of b.line m.passed) (reason_of_head m b)) k → P k) → OfReasons P m → OfReasons P (after_joining f t o m)
  joining_kept f t None m h a = a
  joining_kept f t (Some w) m h a = record { stories = a.stories; found = a.found; alone = a.alone; passed = one_more m.passed _ a.passed (behind_kept f w _ t.blocker m h a) }

  company_kept : (f : Float) (t : Made) (o : Option Test) (m : SummaryView) → ((k : Kept) → IsAtFault f None (λ b. None) k → P k) → OfReasons P m → OfReasons P (after_company f t o m)
  company_kept f t None m h a = record { stories = noted_all m.passed (kept_all m.alone m.stories) a.passed (noted_all m.alone m.stories a.alone a.stories); found = a.found; alone = a.alone; passed = a.passed }
  company_kept f t (Some w) m h a = alone_by f _ m m.clearing (h _ (inl (refl, refl))) a

  column_kept : (t : ToldColumn) (m : SummaryView) → ((k : Kept) → IsColumnFault t m k → P k) → OfReasons P m → OfReasons P (after_column t m)
  column_kept (Heads f t) m h a = heads_kept f t t.failed m h a
  column_kept (Joins f t) m h a = joining_kept f t t.failed m h a
  column_kept (Companied f t) m h a = company_kept f t t.failed m h a
  column_kept (Takes f) m h a = record { stories = place_kept f.line places.Page m.sheets m.stories a.stories; found = a.found; alone = a.alone; passed = a.passed }

  -- ---- tales and pages

  tale_kept : (t : Tale) (m : SummaryView) → ((k : Kept) → TellsFault t m k → P k) → OfReasons P m → OfReasons P (after_tale t m)
  tale_kept (Waits at f) m h a = record { stories = all_appended (OfStory P) m.stories (begun f at.page (Some (by_width f)) m.sheets) a.stories (record { last = h (by_width f) (inl (refl, refl)); groups = tt; group = tt }); found = a.found; alone = a.alone; passed = a.passed }
  tale_kept (Calls at f height) m h a = record { stories = all_appended (OfStory P) m.stories (begun f at.page None m.sheets) a.stories (record { last = tt; groups = tt; group = tt }); found = tt; alone = tt; passed = a.passed }
  tale_kept (Decides f t) m h a = told_kept f t m h a
  tale_kept (Begins at z) m h a = record { stories = a.stories; found = tt; alone = tt; passed = tt }
  tale_kept (InColumn t) m h a = column_kept t m h a
  tale_kept (Back f place) m h a = record { stories = back_kept f.line (by_clear f) m.stories (h (by_clear f) (inl (refl, refl))) a.stories; found = a.found; alone = a.alone; passed = a.passed }
  tale_kept (Beside at n height reach placed) m h a = a
  tale_kept (Stands line) m h a = record { stories = carried_kept line m.sheets m.stories h a.stories; found = a.found; alone = a.alone; passed = a.passed }
  tale_kept PutOut m h a = record { stories = all_mapped (OfStory P) (OfStory P) missed_sheet sheet_kept m.stories a.stories; found = a.found; alone = a.alone; passed = a.passed }

  box_kept : (page : ℕ) (w : What) (ss : List StoryView) → AllByRecursion (OfStory P) ss → AllByRecursion (OfStory P) (after_box page w ss)
  box_kept page (what.Float name class place item) ss a = land_kept item page place ss a
  box_kept page w ss a = a

  node_kept : (page : ℕ) (k : PlainKind) (ss : List StoryView) → AllByRecursion (OfStory P) ss → AllByRecursion (OfStory P) (after_node page k ss)
  node_kept page (plain (hbox w y d)) ss a = box_kept page w ss a
  node_kept page k ss a = a

  nodes_kept : (page : ℕ) (ns : List PlainNode) (ss : List StoryView) → AllByRecursion (OfStory P) ss → AllByRecursion (OfStory P) (after_nodes page ns ss)
  nodes_kept page [] ss a = a
  nodes_kept page (n ∷ ns) ss a = nodes_kept page ns (after_node page n.kind ss) (node_kept page n.kind ss a)

  page_kept : (page : ℕ) (sheet : PlainSheet) (ss : List StoryView) → AllByRecursion (OfStory P) ss → AllByRecursion (OfStory P) (after_sheet page sheet ss)
  page_kept page (one c) ss a = nodes_kept page c.nodes ss a
  page_kept page (wide c) ss a = nodes_kept page c.nodes ss a
  page_kept page (two tops at left right) ss a =
      nodes_kept page right.nodes (after_nodes page left.nodes (after_nodes page tops ss)) (nodes_kept page left.nodes (after_nodes page tops ss) (nodes_kept page tops ss a))

  event_kept : (e : RunEvent) (m : SummaryView) → OfReasons P m → OfReasons P (after_event e m)
  event_kept (offered t) m a = a
  event_kept (sent (warned w)) m a = a
  event_kept (sent (shipped page sheet)) m a = record { stories = page_kept page sheet m.stories a.stories; found = a.found; alone = a.alone; passed = a.passed }

-- ---- all that is shown

pub reasons_after : (P : Kept → Type 0) (xs : List Shown) (m : SummaryView) → ((k : Kept) → IsToldOfFault xs m k → P k) → OfReasons P m → OfReasons P (summed xs m)
reasons_after P [] m h a = a
reasons_after P (tells t ∷ xs) m h a = reasons_after P xs (after_tale t m) (λ k i. h k (inr i)) (tale_kept P t m (λ k i. h k (inl i)) a)
reasons_after P (happens e ∷ xs) m h a = reasons_after P xs (after_event e m) h (event_kept P e m a)

pub told_of_fault : (xs : List Shown) → OfReasons (λ k. IsToldOfFault xs no_stories k) (summed xs no_stories)
told_of_fault xs = reasons_after (λ k. IsToldOfFault xs no_stories k) xs no_stories (λ k i. i) (record { stories = tt; found = tt; alone = tt; passed = tt })
