-- The lines of the summary are left out, and what is shown puts no other name into it than those that are shown.
use Rattle.std.proofs.Common.{refl, ℕ, ℤ, pos, ◌-ℤ◌, Bool, true, false, List, [], ◌∷◌, ◌++◌, map, Option, Some, None}
use Rattle.std.specs.Prelude.{not, ◌&&◌, ◌-◌, ◌==◌, codes, if◌then◌else◌}
use Rattle.tb_break.proofs.EachLemmas.{all-join}
use Rattle.tb_text.specs.Lines.{IsUnended}
use Rattle.tb_text.specs.Fields.{and_number, and_count, and_text}
use Rattle.tb_node.specs.declared.Float.{Float}
use Rattle.tb_node.specs.declared.What.{What}
use Rattle.tb_node.specs.declared.What.TheVariants as what
use Rattle.tb_node.specs.declared.Where.{Where}
use Rattle.tb_node.specs.declared.Where.TheVariants as places
use Rattle.tb_node.specs.PlainNodes.{hbox, PlainKind, plain, PlainNode}
use Rattle.tb_report.specs.Lines.{where_text}
use Rattle.tb_sheet.specs.Sheet.{PlainSheet, one, wide, two, warned, shipped}
use Rattle.tb_items.specs.RunEvents.{RunEvent, offered, sent}
use Rattle.tb_told.specs.declared.Test.{Test}
use Rattle.tb_told.specs.declared.Test.TheVariants as tests
use Rattle.tb_told.specs.declared.Told.{Told}
use Rattle.tb_told.specs.declared.Told.TheVariants.{Enters, TestsHere, TestsTop, TestsBottom, TestsWide, Goes}
use Rattle.tb_told.specs.declared.Alone.{Alone}
use Rattle.tb_told.specs.declared.Joining.{Joining}
use Rattle.tb_told.specs.declared.Made.{Made}
use Rattle.tb_told.specs.declared.ToldColumn.{ToldColumn}
use Rattle.tb_told.specs.declared.ToldColumn.TheVariants.{Heads, Joins, Companied, Takes}
use Rattle.tb_told.specs.declared.Tale.{Tale}
use Rattle.tb_told.specs.declared.Tale.TheVariants.{Waits, Calls, Decides, Begins, InColumn, Back, Beside, Stands, PutOut}
use Rattle.tb_story.specs.declared.Area.{Area}
use Rattle.tb_story.specs.declared.Area.TheVariants as areas
use Rattle.tb_story.specs.declared.Cause.{Cause}
use Rattle.tb_story.specs.declared.Cause.TheVariants as causes
use Rattle.tb_story.specs.declared.Group.{Group}
use Rattle.tb_story.specs.declared.Kept.{Kept}
use Rattle.tb_story.specs.declared.Noted.{Noted}
use Rattle.tb_story.specs.Story.{StoryView, area_text, cause_text, is_alike, is_by_places, is_deferred, or_else, is_story_of, waits, begun, kept_back, placed_at, landed_at, closed, missed, missed_by, missed_sheet, by_break, carried, last_at_end, at_end, with_story, last_of}
use Rattle.tb_story.specs.Summary.{SummaryView, no_stories, noted_of, way_of, way_in, way_of_head, way_of_joining, kept_by, gain, lack, keep, keep_if, put_at, own_reason, found_with, reason_of, decided, tested_in, after_told, heads_none, not_alone, kept_all, after_heads, after_joining, after_company, after_column, by_width, by_clear, after_tale, after_box, after_node, after_nodes, after_sheet}
use Rattle.tb_story.specs.StoryLines.{kept_words, group_text, all_groups, because_text, reasons_text, landed_words, landed_text, head_text, fate_text, story_text, story_line, story_lines}
use Rattle.tb_why.specs.WhyRun.{Shown, happens, tells}
use Rattle.tb_why.specs.Summary.{after_event, summed, summary_lines}
use Rattle.tb_why.specs.PlainNames.{IsPlainFloat, IsPlainBlocker, IsPlainTold, IsPlainColumn, IsPlainTale, ArePlainNames}
use Rattle.tb_why.specs.PlainStories.{IsPlainKept, IsPlainReason, ArePlainGroups, IsPlainGroup, IsPlainStory, ArePlainStories, ArePlainNoted, IsPlainSummary}
use Rattle.tb_why.proofs.TextLines.{LeftOut, none-left, both-left, line-left, count-plain, number-plain, plain-join}
use Rattle.tb_why.proofs.EventLines.{where-plain}
use Rattle.tb_why.proofs.TaleLines.{test-plain}

-- ---- lines

area-plain : (a : Area) → IsUnended (area_text a)
area-plain areas.Enter = refl
area-plain a = refl

cause-plain : (c : Cause) → IsUnended (cause_text c)
cause-plain (causes.Failed t) = test-plain t
cause-plain causes.Back = refl
cause-plain causes.Carried = refl

landed-plain : (o : Option ℕ) (place : Where) → IsUnended (landed_text o place)
landed-plain None place = plain-join (landed_words None) (and_text (where_text place)) refl (where-plain place)
landed-plain (Some page) place = plain-join (landed_words (Some page)) (and_text (where_text place)) (count-plain page) (where-plain place)

group-plain : (g : Group) → IsPlainKept g.kept → IsUnended (group_text g)
group-plain g h =
    let k = g.kept in
    plain-join (kept_words k) (and_number k.by ++ and_count g.times)
    (plain-join (and_text (area_text k.area)) (and_text (cause_text k.cause) ++ and_text k.root.name) (area-plain k.area) (plain-join (and_text (cause_text k.cause)) (and_text k.root.name) (cause-plain k.cause) h))
    (plain-join (and_number k.by) (and_count g.times) (number-plain k.by) (count-plain g.times))

groups-plain : (gs : List Group) → ArePlainGroups gs → IsUnended (all_groups gs)
groups-plain [] h = refl
groups-plain (g ∷ gs) h = plain-join (group_text g) (all_groups gs) (group-plain g h.0) (groups-plain gs h.1)

because-plain : (gs : List Group) (o : Option Group) → ArePlainGroups gs → IsPlainGroup o → IsUnended (because_text gs o)
because-plain gs None h k = refl
because-plain gs (Some g) h k = plain-join (codes " because") (all_groups gs ++ group_text g) refl (plain-join (all_groups gs) (group_text g) (groups-plain gs h) (group-plain g k))

-- ---- one story

closed-plain : (k : Kept) (o : Option Group) (gs : List Group) → IsPlainGroup o → ArePlainGroups gs → ArePlainGroups (closed k o gs)
closed-plain k None gs h g = g
closed-plain k (Some x) gs h g = by_test (is_alike x.kept k)
  where
    by_test : (t : Bool) → ArePlainGroups (if t then gs else gs ++ x ∷ [])
    by_test true = g
    by_test false = all-join (λ g. IsPlainKept g.kept) gs (x ∷ []) g (h, tt)

missed-plain : (n : ℕ) (k : Kept) (s : StoryView) → IsPlainKept k → IsPlainStory s → IsPlainStory (missed n k s)
missed-plain n k s h g = (g.0, g.1, closed-plain k s.group s.groups g.3 g.2, h)

missed_by-plain : (n : ℕ) (o : Option Kept) (s : StoryView) → IsPlainReason o → IsPlainStory s → IsPlainStory (missed_by n o s)
missed_by-plain n None s h g = g
missed_by-plain n (Some k) s h g = missed-plain n k s h g

story-if : (t : Bool) (a b : StoryView) → IsPlainStory a → IsPlainStory b → IsPlainStory (if t then a else b)
story-if true a b h k = h
story-if false a b h k = k

sheet-missed : (s : StoryView) → IsPlainStory s → IsPlainStory (missed_sheet s)
sheet-missed s g = story-if (waits s) (missed_by 1 s.last s) s (missed_by-plain 1 s.last s g.1 g) g

reason-if : (t : Bool) (a b : Option Kept) → IsPlainReason a → IsPlainReason b → IsPlainReason (if t then a else b)
reason-if true a b h k = h
reason-if false a b h k = k

end-plain : (s : StoryView) → IsPlainStory s → IsPlainStory (at_end s)
end-plain s g = missed_by-plain 0 (last_at_end s) s (reason-if (waits s) s.last None g.1 tt) g

carried-plain : (sheets : ℕ) (s : StoryView) → IsPlainStory s → IsPlainStory (carried sheets s)
carried-plain sheets s g = story-if (s.put == sheets) s (record (missed (sheets - s.put) (by_break s.float) s) { put = sheets }) g (missed-plain (sheets - s.put) (by_break s.float) s g.0 g)

story-left : (s : StoryView) → IsPlainStory s → LeftOut (story_line s)
story-left s g =
    let e = end-plain s g in
    line-left (story_text s)
    (plain-join (head_text s) ((codes " called" ++ and_count s.called) ++ fate_text s)
    (plain-join (codes "why") (and_text s.float.name ++ and_count s.float.line) refl (plain-join (and_text s.float.name) (and_count s.float.line) g.0 (count-plain s.float.line)))
    (plain-join (codes " called" ++ and_count s.called) (fate_text s) (count-plain s.called)
    (plain-join (landed_text s.landed s.place) (reasons_text (at_end s)) (landed-plain s.landed s.place) (because-plain (at_end s).groups (at_end s).group e.2 e.3)))) refl

lines-left : (ss : List StoryView) → ArePlainStories ss → LeftOut (story_lines ss)
lines-left [] h = none-left
lines-left (s ∷ ss) h = both-left (story_line s) (story_lines ss) (story-left s h.0) (lines-left ss h.1)

-- ---- all stories

changed : (l : ℕ) (change : StoryView → StoryView) (ss : List StoryView) → ((s : StoryView) → IsPlainStory s → IsPlainStory (change s)) → ArePlainStories ss → ArePlainStories (with_story l change ss)
changed l change [] f h = tt
changed l change (s ∷ ss) f h = (story-if (is_story_of l s) (change s) s (f s h.0) h.0, changed l change ss f h.1)

all-missed : (ss : List StoryView) → ArePlainStories ss → ArePlainStories (map missed_sheet ss)
all-missed [] h = tt
all-missed (s ∷ ss) h = (sheet-missed s h.0, all-missed ss h.1)

last-plain : (l : ℕ) (ss : List StoryView) → ArePlainStories ss → IsPlainReason (last_of l ss)
last-plain l [] h = tt
last-plain l (s ∷ ss) h = reason-if (is_story_of l s) s.last (last_of l ss) h.0.1 (last-plain l ss h.1)

noted-plain : (l : ℕ) (ns : List Noted) → ArePlainNoted ns → IsPlainReason (noted_of l ns)
noted-plain l [] h = tt
noted-plain l (n ∷ ns) h = reason-if (n.float.line == l) (Some n.kept) (noted_of l ns) h.0 (noted-plain l ns h.1)

else-plain : (a b : Option Kept) → IsPlainReason a → IsPlainReason b → IsPlainReason (or_else a b)
else-plain None b h k = k
else-plain (Some x) b h k = h

way-plain : (area : Area) (b : Float) (o : Option Kept) → IsPlainFloat b → IsPlainReason o → IsPlainKept (way_of area b o)
way-plain area b None h k = h
way-plain area b (Some x) h k = k

in-plain : (area : Area) (o : Option Float) (ss : List StoryView) → IsPlainBlocker o → ArePlainStories ss → IsPlainReason (way_in area o ss)
in-plain area None ss h k = tt
in-plain area (Some b) ss h k = way-plain area b (last_of b.line ss) h (last-plain b.line ss k)

head-plain : (o : Option Float) (m : SummaryView) → IsPlainBlocker o → IsPlainSummary m → IsPlainReason (way_of_head o m)
head-plain None m h k = tt
head-plain (Some b) m h k =
    way-plain areas.Alone b (or_else (noted_of b.line m.alone) (last_of b.line m.stories)) h
    (else-plain (noted_of b.line m.alone) (last_of b.line m.stories) (noted-plain b.line m.alone k.2) (last-plain b.line m.stories k.0))

joining-plain : (o : Option Float) (m : SummaryView) → IsPlainBlocker o → IsPlainSummary m → IsPlainReason (way_of_joining o m)
joining-plain None m h k = tt
joining-plain (Some b) m h k =
    let later = or_else (noted_of b.line m.alone) (last_of b.line m.stories) in
    way-plain areas.Joins b (or_else (noted_of b.line m.passed) later) h
    (else-plain (noted_of b.line m.passed) later (noted-plain b.line m.passed k.3)
    (else-plain (noted_of b.line m.alone) (last_of b.line m.stories) (noted-plain b.line m.alone k.2) (last-plain b.line m.stories k.0)))

kept-plain : (area : Area) (t : Test) (f : Float) (by : ℤ) (o : Option Kept) → IsPlainFloat f → IsPlainReason o → IsPlainKept (kept_by area t f by o)
kept-plain area tests.Class f by (Some k) h g = g
kept-plain area t f by o h g = h

-- ---- decisions

summary-if : (t : Bool) (a b : SummaryView) → IsPlainSummary a → IsPlainSummary b → IsPlainSummary (if t then a else b)
summary-if true a b h k = h
summary-if false a b h k = k

keeps : (f : Float) (k : Kept) (m : SummaryView) → IsPlainKept k → IsPlainSummary m → IsPlainSummary (keep f k m)
keeps f k m h g = (changed f.line (kept_back k) m.stories (λ s p. (p.0, h, p.2, p.3)) g.0, g.1, g.2, g.3)

keeps-if : (f : Float) (o : Option Kept) (m : SummaryView) → IsPlainReason o → IsPlainSummary m → IsPlainSummary (keep_if f o m)
keeps-if f None m h g = g
keeps-if f (Some k) m h g = keeps f k m h g

puts : (f : Float) (place : Where) (m : SummaryView) → IsPlainSummary m → IsPlainSummary (put_at f place m)
puts f place m g = (changed f.line (placed_at place m.sheets) m.stories (λ s p. p) g.0, g.1, g.2, g.3)

own-plain : (line : ℕ) (o : Option Kept) → IsPlainReason o → IsPlainReason (own_reason line o)
own-plain line None h = tt
own-plain line (Some k) h = reason-if (is_by_places k.cause && (k.root.line == line)) None (Some k) tt h

found-plain : (k : Kept) (o : Option Kept) → IsPlainKept k → IsPlainReason o → IsPlainReason (found_with k o)
found-plain k None h g = h
found-plain k (Some first) h g = reason-if (is_by_places first.cause && not (is_by_places k.cause)) (Some k) (Some first) h g

decides : (f : Float) (place : Where) (m : SummaryView) → IsPlainSummary m → IsPlainSummary (decided f place m)
decides f place m g =
    let reason = else-plain (own_reason f.line m.found) (or_else (noted_of f.line m.alone) m.found) (own-plain f.line m.found g.1) (else-plain (noted_of f.line m.alone) m.found (noted-plain f.line m.alone g.2) g.1) in
    let s = summary-if (is_deferred place) (keep_if f (reason_of f.line m) m) (put_at f place m) (keeps-if f (reason_of f.line m) m reason g) (puts f place m g) in
    (s.0, tt, s.2, s.3)

tests-in : (area : Area) (f : Float) (b : Option Float) (room share : ℤ) (o : Option Test) (m : SummaryView) → IsPlainFloat f → IsPlainBlocker b → IsPlainSummary m → IsPlainSummary (tested_in area f b room share o m)
tests-in area f b room share None m h k g = g
tests-in area f b room share (Some t) m h k g =
    let kept = kept_by area t f (gain t room share) (way_in area b m.stories) in
    (g.0, found-plain kept m.found (kept-plain area t f (gain t room share) (way_in area b m.stories) h (in-plain area b m.stories k g.0)) g.1, g.2, g.3)

tells-more : (f : Float) (t : Told) (m : SummaryView) → IsPlainFloat f → IsPlainTold t → IsPlainSummary m → IsPlainSummary (after_told f t m)
tells-more f (Enters t) m h k g = tests-in areas.Enter f t.blocker (lack t.need t.room) (pos 0) t.failed m h k g
tells-more f (TestsHere t) m h k g = tests-in areas.Here f None (lack t.need t.room) (pos 0) t.failed m h tt g
tells-more f (TestsTop t) m h k g = tests-in areas.Top f None (lack t.need t.room) (lack t.high t.share) t.failed m h tt g
tells-more f (TestsBottom t) m h k g = tests-in areas.Bottom f None (lack t.need t.room) (lack t.high t.share) t.failed m h tt g
tells-more f (TestsWide t) m h k g = tests-in areas.Wide f t.blocker (lack t.high t.room) (pos 0) t.failed m h k g
tells-more f (Goes w) m h k g = decides f w m g

-- ---- columns of floats

none-headed : (f : Float) (k : Kept) (m : SummaryView) → IsPlainKept k → IsPlainSummary m → IsPlainSummary (heads_none f k m)
none-headed f k m h g = (g.0, g.1, all-join (λ n. IsPlainKept n.kept) m.alone (record { float = f; kept = k } ∷ []) g.2 (h, tt), g.3)

alone-not : (f : Float) (k : Kept) (m : SummaryView) → IsPlainKept k → IsPlainSummary m → IsPlainSummary (not_alone f k m)
alone-not f k m h g =
    let n = none-headed f k m h g in
    summary-if m.clearing (keep f k (heads_none f k m)) (heads_none f k m) (keeps f k (heads_none f k m) h n) n

all-kept : (ns : List Noted) (ss : List StoryView) → ArePlainNoted ns → ArePlainStories ss → ArePlainStories (kept_all ns ss)
all-kept [] ss h g = g
all-kept (n ∷ ns) ss h g = all-kept ns (with_story n.float.line (kept_back n.kept) ss) h.1 (changed n.float.line (kept_back n.kept) ss (λ s p. (p.0, h.0, p.2, p.3)) g)

heads-more : (f : Float) (t : Alone) (o : Option Test) (m : SummaryView) → IsPlainFloat f → IsPlainBlocker t.blocker → IsPlainSummary m → IsPlainSummary (after_heads f t o m)
heads-more f t None m h k g = (g.0, g.1, g.2, tt)
heads-more f t (Some w) m h k g =
    let by = gain w (t.high -ℤ t.most) (pos 0) in
    alone-not f (kept_by areas.Alone w f by (way_of_head t.blocker m)) m (kept-plain areas.Alone w f by (way_of_head t.blocker m) h (head-plain t.blocker m k g)) g

joins-more : (f : Float) (t : Joining) (o : Option Test) (m : SummaryView) → IsPlainFloat f → IsPlainBlocker t.blocker → IsPlainSummary m → IsPlainSummary (after_joining f t o m)
joins-more f t None m h k g = g
joins-more f t (Some w) m h k g =
    let by = gain w (t.high -ℤ t.most) (t.sum -ℤ t.most) in
    let kept = kept_by areas.Joins w f by (way_of_joining t.blocker m) in
    (g.0, g.1, g.2, all-join (λ n. IsPlainKept n.kept) m.passed (record { float = f; kept = kept } ∷ []) g.3 (kept-plain areas.Joins w f by (way_of_joining t.blocker m) h (joining-plain t.blocker m k g), tt))

made-more : (f : Float) (t : Made) (o : Option Test) (m : SummaryView) → IsPlainFloat f → IsPlainSummary m → IsPlainSummary (after_company f t o m)
made-more f t None m h g = (all-kept m.passed (kept_all m.alone m.stories) g.3 (all-kept m.alone m.stories g.2 g.0), g.1, g.2, g.3)
made-more f t (Some w) m h g = alone-not f (record { area = areas.Company; cause = causes.Failed tests.Sum; root = f; by = lack t.least t.sum }) m h g

column-more : (t : ToldColumn) (m : SummaryView) → IsPlainColumn t → IsPlainSummary m → IsPlainSummary (after_column t m)
column-more (Heads f t) m h g = heads-more f t t.failed m h.0 h.1 g
column-more (Joins f t) m h g = joins-more f t t.failed m h.0 h.1 g
column-more (Companied f t) m h g = made-more f t t.failed m h g
column-more (Takes f) m h g = puts f places.Page m g

-- ---- what is shown

tale-more : (t : Tale) (m : SummaryView) → IsPlainTale t → IsPlainSummary m → IsPlainSummary (after_tale t m)
tale-more (Waits at f) m h g = (all-join IsPlainStory m.stories (begun f at.page (Some (by_width f)) m.sheets ∷ []) g.0 ((h, h, tt, tt), tt), g.1, g.2, g.3)
tale-more (Calls at f height) m h g = (all-join IsPlainStory m.stories (begun f at.page None m.sheets ∷ []) g.0 ((h, tt, tt, tt), tt), tt, tt, g.3)
tale-more (Decides f t) m h g = tells-more f t m h.0 h.1 g
tale-more (Begins at z) m h g = (g.0, tt, tt, tt)
tale-more (InColumn t) m h g = column-more t m h g
tale-more (Back f place) m h g = keeps f (by_clear f) m h g
tale-more (Beside at n height reach placed) m h g = g
tale-more (Stands l) m h g = (changed l (carried m.sheets) m.stories (λ s p. carried-plain m.sheets s p) g.0, g.1, g.2, g.3)
tale-more PutOut m h g = (all-missed m.stories g.0, g.1, g.2, g.3)

box-more : (page : ℕ) (w : What) (ss : List StoryView) → ArePlainStories ss → ArePlainStories (after_box page w ss)
box-more page (what.Float name class place item) ss g = changed item (landed_at page place) ss (λ s p. p) g
box-more page w ss g = g

node-more : (page : ℕ) (k : PlainKind) (ss : List StoryView) → ArePlainStories ss → ArePlainStories (after_node page k ss)
node-more page (plain (hbox w h d)) ss g = box-more page w ss g
node-more page k ss g = g

nodes-more : (page : ℕ) (ns : List PlainNode) (ss : List StoryView) → ArePlainStories ss → ArePlainStories (after_nodes page ns ss)
nodes-more page [] ss g = g
nodes-more page (n ∷ ns) ss g = nodes-more page ns (after_node page n.kind ss) (node-more page n.kind ss g)

sheet-more : (page : ℕ) (sheet : PlainSheet) (ss : List StoryView) → ArePlainStories ss → ArePlainStories (after_sheet page sheet ss)
sheet-more page (one c) ss g = nodes-more page c.nodes ss g
sheet-more page (wide c) ss g = nodes-more page c.nodes ss g
sheet-more page (two tops at left right) ss g =
    let a = after_nodes page tops ss in
    let b = after_nodes page left.nodes a in
    nodes-more page right.nodes b (nodes-more page left.nodes a (nodes-more page tops ss g))

event-more : (e : RunEvent) (m : SummaryView) → IsPlainSummary m → IsPlainSummary (after_event e m)
event-more (offered t) m g = g
event-more (sent (warned w)) m g = g
event-more (sent (shipped page sheet)) m g = (sheet-more page sheet m.stories g.0, g.1, g.2, g.3)

summed-plain : (xs : List Shown) (m : SummaryView) → ArePlainNames xs → IsPlainSummary m → IsPlainSummary (summed xs m)
summed-plain [] m h g = g
summed-plain (happens e ∷ xs) m h g = summed-plain xs (after_event e m) h.1 (event-more e m g)
summed-plain (tells t ∷ xs) m h g = summed-plain xs (after_tale t m) h.1 (tale-more t m h.0 g)

-- nothing is left of the summary
pub stories_left : (xs : List Shown) → ArePlainNames xs → LeftOut (summary_lines xs)
stories_left xs h = lines-left (summed xs no_stories).stories (summed-plain xs no_stories h (tt, tt, tt, tt)).0
