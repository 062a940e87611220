-- If what is shown comes in time, each float that landed did so as many pages behind its call as its times add up to.
use Rattle.std.proofs.Common.{◌≡◌, refl, sym, ◌∙◌, ap, subst, inl, inr, ℕ, ◌+◌, ◌-◌, Bool, true, false, List, [], ◌∷◌, ◌++◌, map, Option, Some, None, if◌then◌else◌, append-nil, append_assoc, arith}
use Rattle.std.specs.Prelude.{⊤, ◌&&◌, ◌==◌}
use Rattle.std.specs.List.{AllByRecursion}
use Rattle.tb_node.specs.declared.What.{What}
use Rattle.tb_node.specs.declared.What.TheVariants as what
use Rattle.tb_node.specs.declared.Where.{Where}
use Rattle.tb_node.specs.PlainNodes.{hbox, PlainKind, plain, PlainNode}
use Rattle.tb_sheet.specs.Sheet.{PlainSheet, one, wide, two, PlainSent, warned, shipped}
use Rattle.tb_items.specs.RunEvents.{offered, sent}
use Rattle.tb_galley.specs.declared.Galley.{Galley}
use Rattle.tb_galley.specs.Valid.{IsValid}
use Rattle.tb_told.specs.declared.Tale.{Tale}
use Rattle.tb_told.specs.declared.Tale.TheVariants.{Waits, Calls, Decides, Begins, InColumn, Back, Beside, Stands, PutOut}
use Rattle.tb_story.specs.declared.Kept.{Kept}
use Rattle.tb_story.specs.Story.{StoryView, is_open, is_open_by, is_deferred, is_story_of, begun, kept_back, placed_at, landed_at, missed, missed_by, missed_sheet, by_break, carried, waits, if_of, with_story}
use Rattle.tb_story.specs.Summary.{SummaryView, no_stories, by_clear, by_width, after_told, after_column, after_tale, after_box, after_node, after_nodes, after_sheet, after_sent}
use Rattle.tb_why.specs.WhyRun.{Shown, happens, tells, shown_run}
use Rattle.tb_why.specs.Summary.{after_shown, summed}
use Rattle.tb_why.specs.SummaryLaws.{IsBoxOf, IsNodeOf, HasFloat, HoldsFloat, column_lines, times_of, AreTimed, sheets_after, if_called, sheets_at_calls}
use Rattle.tb_why.proofs.MovingLemmas.{StaysMoved, told_stays, column_stays, all_mapped, if_changed}
use Rattle.tb_why.proofs.LandingLemmas.{open_of, line_of, all_trivial}
use Rattle.tb_why.proofs.TimeLemmas.{stories_are_timed}
use Rattle.tb_why_laws.specs.WholeRuns.{summary_of}
use Rattle.tb_why_laws.specs.OneColumn.{HasOneColumn, IsPageOf, LandsInTime}
use Rattle.tb_why_laws.proofs.InOrder.RunTales.{shown-in-order}
use Rattle.tb_why_laws.proofs.InTime.DueStories.{IsTaleTimely, told-sheets, column-sheets}
use Rattle.tb_why_laws.proofs.InTime.TimelyShows.{IsSentTimely, IsShownTimely, AreTimely}
use Rattle.tb_why_laws.proofs.InTime.TimelyRuns.{shown-in-time}

-- ---- one story

-- it was called on the page after so many sheets, and if it landed, then on the page after those at which it was placed
pub record IsOnTime (before : ℕ) (s : StoryView) : Type 0 where
  pub called : s.called ≡ before + 1
  pub landed : IsPageOf (s.put + 1) s.landed

-- the same of each story, with the sheets at its call
abbrev pub AreOnTime : List ℕ → List StoryView → Type 0
AreOnTime [] [] = ⊤
AreOnTime [] (s ∷ ss) = ⊥
AreOnTime (b ∷ bs) [] = ⊥
AreOnTime (b ∷ bs) (s ∷ ss) = IsOnTime b s × AreOnTime bs ss

-- of an open story nothing is said but its call
open-page : (page : ℕ) (landed : Option ℕ) → is_open_by landed ≡ true → IsPageOf page landed
open-page page None e = tt
open-page page (Some n) e = cc

-- an open story that stays open
open-on : (b : ℕ) (s t : StoryView) → is_open s ≡ true → t.called ≡ s.called → t.landed ≡ s.landed → IsOnTime b s → IsOnTime b t
open-on b s t o e d x = record { called = e ∙ x.called; landed = open-page (t.put + 1) t.landed (ap is_open_by d ∙ o) }

carried-on : (n b : ℕ) (s : StoryView) → is_open s ≡ true → IsOnTime b s → IsOnTime b (carried n s)
carried-on n b s o x = by_put (s.put == n)
  where
    by_put : (t : Bool) → IsOnTime b (if t then s else record (missed (n - s.put) (by_break s.float) s) { put = n })
    by_put true = x
    by_put false = open-on b s (record (missed (n - s.put) (by_break s.float) s) { put = n }) o refl refl x

missed-on : (b : ℕ) (s : StoryView) → IsOnTime b s → IsOnTime b (missed_sheet s)
missed-on b s x = if_changed (IsOnTime b) s (missed_by 1 s.last s) (waits s) x (λ e. by_last s.last)
  where
    by_last : (o : Option Kept) → IsOnTime b (missed_by 1 o s)
    by_last None = x
    by_last (Some k) = record { called = x.called; landed = x.landed }

-- ---- all stories

on-mapped : (Q : StoryView → Type 0) (change : StoryView → StoryView) → ((b : ℕ) (s : StoryView) → Q s → IsOnTime b s → IsOnTime b (change s)) → (bs : List ℕ) (ss : List StoryView) → AllByRecursion Q ss → AreOnTime bs ss → AreOnTime bs (map change ss)
on-mapped Q change h [] [] q t = tt
on-mapped Q change h [] (s ∷ ss) q t = absurd t
on-mapped Q change h (b ∷ bs) [] q t = absurd t
on-mapped Q change h (b ∷ bs) (s ∷ ss) q t = (h b s q.0 t.0, on-mapped Q change h bs ss q.1 t.1)

on-appended : (b : ℕ) (s : StoryView) (bs : List ℕ) (ss : List StoryView) → IsOnTime b s → AreOnTime bs ss → AreOnTime (bs ++ b ∷ []) (ss ++ s ∷ [])
on-appended b s [] [] p t = (p, tt)
on-appended b s [] (x ∷ ss) p t = absurd t
on-appended b s (c ∷ bs) [] p t = absurd t
on-appended b s (c ∷ bs) (x ∷ ss) p t = (t.0, on-appended b s bs ss p t.1)

any-story : (ss : List StoryView) → AllByRecursion (λ (s : StoryView). ⊤) ss
any-story [] = tt
any-story (s ∷ ss) = (tt, any-story ss)

module _ (bs : List ℕ) where
  -- the story of a line is changed, if it is open
  changed-on : (line : ℕ) (change : StoryView → StoryView) → ((b : ℕ) (s : StoryView) → is_open s ≡ true → IsOnTime b s → IsOnTime b (change s)) → (ss : List StoryView) → AreOnTime bs ss → AreOnTime bs (with_story line change ss)
  changed-on line change h ss t = on-mapped (λ s. ⊤) (if_of line change) (λ b s q x. if_changed (IsOnTime b) s (change s) (is_story_of line s) x (λ e. h b s (open_of line s e) x)) bs ss (any-story ss) t

  on-moved : StaysMoved (λ ss n. AreOnTime bs ss) (λ line ss n. ⊤)
  on-moved = record {
    back = λ line k ss n f t. changed-on line (kept_back k) (λ b s o x. open-on b s (kept_back k s) o refl refl x) ss t;
    free = λ line other k ss n f g. tt;
    placed = λ line w ss n f t. changed-on line (placed_at w n) (λ b s o x. open-on b s (placed_at w n s) o refl refl x) ss t;
  }

  -- ---- pages

  module _ (page : ℕ) where
    -- open stories whose floats are there were placed for this page
    abbrev For : (ℕ → Where → Type 0) → StoryView → Type 0
    For Holds s = is_open s ≡ true → (place : Where) → Holds s.float.line place → s.put + 1 ≡ page

    abbrev Lands : (ℕ → Where → Type 0) → List StoryView → Type 0
    Lands Holds ss = AllByRecursion (For Holds) ss × AreOnTime bs ss

    land-on : (Holds : ℕ → Where → Type 0) (item : ℕ) (place : Where) → Holds item place → (ss : List StoryView) → Lands Holds ss → Lands Holds (with_story item (landed_at page place) ss)
    land-on Holds item place i ss t = (
      all_mapped (For Holds) (For Holds) (if_of item (landed_at page place)) (λ s c. if_changed (For Holds) s (landed_at page place s) (is_story_of item s) c (λ e o. cc)) ss t.0,
      on-mapped (For Holds) (if_of item (landed_at page place))
          (λ b s c x. if_changed (IsOnTime b) s (landed_at page place s) (is_story_of item s) x (λ e. record { called = x.called; landed = c (open_of item s e) place (subst (λ l. Holds l place) (sym (line_of item s e)) i) })) bs ss t.0 t.1,
    )

    box-on : (Holds : ℕ → Where → Type 0) (w : What) (ss : List StoryView) → ((line : ℕ) (place : Where) → IsBoxOf line place w → Holds line place) → Lands Holds ss → Lands Holds (after_box page w ss)
    box-on Holds (what.Float name class place item) ss h t = land-on Holds item place (h item place (refl, refl)) ss t
    box-on Holds w ss h t = t

    node-on : (Holds : ℕ → Where → Type 0) (k : PlainKind) (ss : List StoryView) → ((line : ℕ) (place : Where) → IsNodeOf line place k → Holds line place) → Lands Holds ss → Lands Holds (after_node page k ss)
    node-on Holds (plain (hbox w y d)) ss h t = box-on Holds w ss h t
    node-on Holds k ss h t = t

    nodes-on : (Holds : ℕ → Where → Type 0) (ns : List PlainNode) (ss : List StoryView) → ((line : ℕ) (place : Where) → HasFloat line place ns → Holds line place) → Lands Holds ss → Lands Holds (after_nodes page ns ss)
    nodes-on Holds [] ss h t = t
    nodes-on Holds (x ∷ ns) ss h t = nodes-on Holds ns (after_node page x.kind ss) (λ line place i. h line place (inr i)) (node-on Holds x.kind ss (λ line place i. h line place (inl i)) t)

    sheet-on : (Holds : ℕ → Where → Type 0) (sheet : PlainSheet) (ss : List StoryView) → ((line : ℕ) (place : Where) → HoldsFloat line place sheet → Holds line place) → Lands Holds ss → Lands Holds (after_sheet page sheet ss)
    sheet-on Holds (one c) ss h t = nodes-on Holds c.nodes ss h t
    sheet-on Holds (wide c) ss h t = nodes-on Holds c.nodes ss h t
    sheet-on Holds (two tops at left right) ss h t =
        nodes-on Holds right.nodes (after_nodes page left.nodes (after_nodes page tops ss)) (λ line place i. h line place (inr (inr i)))
        (nodes-on Holds left.nodes (after_nodes page tops ss) (λ line place i. h line place (inr (inl i))) (nodes-on Holds tops ss (λ line place i. h line place (inl i)) t))

  sent-on : (e : PlainSent) (m : SummaryView) → IsSentTimely e m → AreOnTime bs m.stories → AreOnTime bs (after_sent e m).stories
  sent-on (warned w) m o t = t
  sent-on (shipped page sheet) m o t = (sheet-on page (λ line place. HoldsFloat line place sheet) sheet m.stories (λ line place i. i) (o, t)).1

  -- ---- tales

  none-more : (ss : List StoryView) → AreOnTime bs ss → AreOnTime (bs ++ []) ss
  none-more ss t = subst (λ cs. AreOnTime cs ss) (sym (append-nil bs)) t

  tale-on : (t : Tale) (m : SummaryView) → IsTaleTimely t m → AreOnTime bs m.stories → AreOnTime (bs ++ if_called (tells t) m.sheets) (after_tale t m).stories
  tale-on (Waits at f) m o t = on-appended m.sheets (begun f at.page (Some (by_width f)) m.sheets) bs m.stories (record { called = o; landed = tt }) t
  tale-on (Calls at f height) m o t = on-appended m.sheets (begun f at.page None m.sheets) bs m.stories (record { called = o; landed = tt }) t
  tale-on (Decides f d) m o t = none-more (after_told f d m).stories (told_stays (λ ss n. AreOnTime bs ss) (λ line ss n. ⊤) on-moved f d m tt t)
  tale-on (Begins at z) m o t = none-more m.stories t
  tale-on (InColumn d) m o t = none-more (after_column d m).stories (column_stays (λ ss n. AreOnTime bs ss) (λ line ss n. ⊤) on-moved d m (all_trivial (column_lines d m)) t)
  tale-on (Back f place) m o t = none-more (with_story f.line (kept_back (by_clear f)) m.stories) (on-moved.back f.line (by_clear f) m.stories m.sheets tt t)
  tale-on (Beside at n height reach placed) m o t = none-more m.stories t
  tale-on (Stands line) m o t = none-more (with_story line (carried m.sheets) m.stories) (changed-on line (carried m.sheets) (λ b s e x. carried-on m.sheets b s e x) m.stories t)
  tale-on PutOut m o t = none-more (map missed_sheet m.stories) (on-mapped (λ s. ⊤) missed_sheet (λ b s q x. missed-on b s x) bs m.stories (any-story m.stories) t)

  shown-on : (x : Shown) (m : SummaryView) → IsShownTimely x m → AreOnTime bs m.stories → AreOnTime (bs ++ if_called x m.sheets) (after_shown x m).stories
  shown-on (tells d) m o t = tale-on d m o t
  shown-on (happens (offered d)) m o t = none-more m.stories t
  shown-on (happens (sent e)) m o t = none-more (after_sent e m).stories (sent-on e m o t)

-- ---- all that is shown

tale-sheets : (t : Tale) (m : SummaryView) → (after_tale t m).sheets ≡ sheets_after (tells t) m.sheets
tale-sheets (Waits at f) m = refl
tale-sheets (Calls at f height) m = refl
tale-sheets (Decides f t) m = told-sheets f t m
tale-sheets (Begins at z) m = refl
tale-sheets (InColumn t) m = column-sheets t m
tale-sheets (Back f place) m = refl
tale-sheets (Beside at n height reach placed) m = refl
tale-sheets (Stands line) m = refl
tale-sheets PutOut m = refl

shown-sheets : (x : Shown) (m : SummaryView) → (after_shown x m).sheets ≡ sheets_after x m.sheets
shown-sheets (tells t) m = tale-sheets t m
shown-sheets (happens (offered t)) m = refl
shown-sheets (happens (sent (warned w))) m = refl
shown-sheets (happens (sent (shipped page sheet))) m = refl

on-after : (bs : List ℕ) (xs : List Shown) (m : SummaryView) → AreTimely xs m → AreOnTime bs m.stories → AreOnTime (bs ++ sheets_at_calls m.sheets xs) (summed xs m).stories
on-after bs [] m o t = none-more bs m.stories t
on-after bs (x ∷ xs) m o t =
    let later = on-after (bs ++ if_called x m.sheets) xs (after_shown x m) o.1 (shown-on bs x m o.0 t) in
    subst (λ cs. AreOnTime cs (summed xs (after_shown x m)).stories)
    (append_assoc bs (if_called x m.sheets) (sheets_at_calls (after_shown x m).sheets xs) ∙ ap (λ n. bs ++ (if_called x m.sheets ++ sheets_at_calls n xs)) (shown-sheets x m)) later

-- ---- the law

-- called, placed and landed together
together : (sheets : ℕ) (bs : List ℕ) (ss : List StoryView) → AreTimed sheets bs ss → AreOnTime bs ss → AllByRecursion LandsInTime ss
together sheets [] [] a b = tt
together sheets [] (s ∷ ss) a b = absurd a
together sheets (c ∷ bs) [] a b = absurd a
together sheets (c ∷ bs) (s ∷ ss) a b = (by_landed s.landed refl, together sheets bs ss a.1 b.1)
  where
    by_landed : (o : Option ℕ) → s.landed ≡ o → IsPageOf (s.called + times_of s) o
    by_landed None e = tt
    by_landed (Some n) e =
        let put : s.put + 1 ≡ n = subst (IsPageOf (s.put + 1)) e b.0.landed in
        let times : c + times_of s ≡ s.put = a.0.times ∙ ap (λ w. if w then sheets else s.put) (ap (λ x. is_open_by x && is_deferred s.place) e) in
        let called : s.called ≡ c + 1 = b.0.called in
        omega (arith, put, times, called)

pub lands-in-time : (g : Galley) → IsValid g → HasOneColumn g → AllByRecursion LandsInTime (summary_of g).stories
lands-in-time g v single =
    together (summary_of g).sheets (sheets_at_calls 0 (shown_run g)) (summary_of g).stories (stories_are_timed (shown_run g) (shown-in-order g v)) (on-after [] (shown_run g) no_stories (shown-in-time g v single) tt)
