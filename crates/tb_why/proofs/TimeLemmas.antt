-- The sum of a story's times is the number of sheets since its call: what is shown, one after another.
use Rattle.std.proofs.Common.{◌≡◌, refl, sym, ◌∙◌, ap, subst, inl, inr, ℕ, ◌+◌, ◌-◌, ◌≤◌, Bool, true, false, List, [], ◌∷◌, ◌++◌, map, Option, Some, None, if◌then◌else◌, append-nil, append_assoc, is_some, arith}
use Rattle.std.specs.Prelude.{⊤, ◌&&◌, ◌==◌}
use Rattle.std.specs.List.{AllByRecursion}
use Rattle.tb_node.specs.declared.Float.{Float}
use Rattle.tb_node.specs.declared.What.{What}
use Rattle.tb_node.specs.declared.What.TheVariants as what
use Rattle.tb_node.specs.declared.Where.{Where}
use Rattle.tb_node.specs.PlainNodes.{hbox, PlainKind, plain, PlainNode}
use Rattle.tb_sheet.specs.Sheet.{PlainSheet, one, wide, two, PlainSent, warned, shipped}
use Rattle.tb_items.specs.RunEvents.{offered, sent}
use Rattle.tb_told.specs.declared.Tale.{Tale}
use Rattle.tb_told.specs.declared.Tale.TheVariants.{Waits, Calls, Decides, Begins, InColumn, Back, Beside, Stands, PutOut}
use Rattle.tb_story.specs.declared.Kept.{Kept}
use Rattle.tb_story.specs.declared.Group.{Group}
use Rattle.tb_story.specs.Story.{StoryView, is_open, is_deferred, is_story_of, is_alike, times_so_far, closed, begun, kept_back, placed_at, landed_at, missed, missed_by, missed_sheet, by_break, carried, waits, if_of, with_story}
use Rattle.tb_story.specs.Summary.{SummaryView, no_stories, by_clear, by_width, after_told, after_column, after_tale, after_box, after_node, after_nodes, after_sheet, after_sent}
use Rattle.tb_story.specs.Counts.{open_times}
use Rattle.tb_why.specs.WhyRun.{Shown, happens, tells}
use Rattle.tb_why.specs.Summary.{after_shown, summed}
use Rattle.tb_why.specs.SummaryLaws.{IsBoxOf, IsNodeOf, HasFloat, HoldsFloat, column_lines, times_over, counted_to, IsTimed, AreTimed, sheets_after, sheets_of, if_called, sheets_at_calls, IsCurrent, AreCurrent, IsPlaced, HasReason, IsNotOn, IsTaleInOrder, IsSentInOrder, IsShownInOrder, IsOrderly}
use Rattle.tb_why.proofs.MovingLemmas.{StaysMoved, told_stays, column_stays, all_mapped, if_changed}
use Rattle.tb_why.proofs.LandingLemmas.{open_of, line_of, all_trivial}

-- ---- the number of sheets

-- what is kept back or placed leaves the number of sheets
sheets_stay : (n : ℕ) → StaysMoved (λ ss k. k ≡ n) (λ line ss k. ⊤)
sheets_stay n = record {
  back = λ line k ss m f p. p;
  free = λ line other k ss m f g. tt;
  placed = λ line w ss m f p. p;
}

tale_sheets : (t : Tale) (m : SummaryView) → (after_tale t m).sheets ≡ sheets_after (tells t) m.sheets
tale_sheets (Waits at f) m = refl
tale_sheets (Calls at f height) m = refl
tale_sheets (Decides f t) m = told_stays (λ ss k. k ≡ m.sheets) (λ line ss k. ⊤) (sheets_stay m.sheets) f t m tt refl
tale_sheets (Begins at z) m = refl
tale_sheets (InColumn t) m = column_stays (λ ss k. k ≡ m.sheets) (λ line ss k. ⊤) (sheets_stay m.sheets) t m (all_trivial (column_lines t m)) refl
tale_sheets (Back f place) m = refl
tale_sheets (Beside at n height reach placed) m = refl
tale_sheets (Stands line) m = refl
tale_sheets PutOut m = refl

sent_sheets : (e : PlainSent) (m : SummaryView) → (after_sent e m).sheets ≡ m.sheets
sent_sheets (warned w) m = refl
sent_sheets (shipped page sheet) m = refl

shown_sheets : (x : Shown) (m : SummaryView) → (after_shown x m).sheets ≡ sheets_after x m.sheets
shown_sheets (tells t) m = tale_sheets t m
shown_sheets (happens (offered t)) m = refl
shown_sheets (happens (sent e)) m = sent_sheets e m

pub sheets_from : (xs : List Shown) (m : SummaryView) → (summed xs m).sheets ≡ sheets_of m.sheets xs
sheets_from [] m = refl
sheets_from (x ∷ xs) m = sheets_from xs (after_shown x m) ∙ ap (λ n. sheets_of n xs) (shown_sheets x m)

pub sheets_are_put_out : (xs : List Shown) → (summed xs no_stories).sheets ≡ sheets_of 0 xs
sheets_are_put_out xs = sheets_from xs no_stories

-- ---- the times of one story

over_appended : (gs : List Group) (g : Group) → times_over (gs ++ g ∷ []) ≡ times_over gs + g.times
over_appended [] g = omega arith
over_appended (x ∷ gs) g = let e : times_over (gs ++ g ∷ []) ≡ times_over gs + g.times = over_appended gs g in omega (arith, e)

alike_times : (b : Bool) (c : ℕ) (g : Group) (gs : List Group) → times_over (if b then gs else gs ++ g ∷ []) + ((if b then g.times else 0) + c) ≡ (times_over gs + g.times) + c
alike_times true c g gs = omega arith
alike_times false c g gs = let e : times_over (gs ++ g ∷ []) ≡ times_over gs + g.times = over_appended gs g in omega (arith, e)

-- so many sheets more for a reason
missed_times : (c : ℕ) (k : Kept) (o : Option Group) (gs : List Group) → times_over (closed k o gs) + (times_so_far k o + c) ≡ (times_over gs + open_times o) + c
missed_times c k None gs = omega arith
missed_times c k (Some g) gs = alike_times (is_alike g.kept k) c g gs

to_now : (b : Bool) (n p : ℕ) → b ≡ true → (if (b && true) then n else p) ≡ n
to_now true n p e = refl
to_now false n p e = cc

both_now : (b : Bool) (n : ℕ) → (if b then n else n) ≡ n
both_now true n = refl
both_now false n = refl

by_waits : (s : StoryView) (n : ℕ) (b : Bool) → waits s ≡ b → counted_to n s ≡ (if b then n else s.put)
by_waits s n b e = ap (λ c. if c then n else s.put) e

back_timed : (n b : ℕ) (k : Kept) (s : StoryView) → is_open s ≡ true → counted_to n s ≡ n → IsTimed n b s → IsTimed n b (kept_back k s)
back_timed n b k s o c t = record { times = t.times ∙ c ∙ sym (to_now (is_open s) n s.put o); placed = t.placed }

place_timed : (n b : ℕ) (w : Where) (s : StoryView) → counted_to n s ≡ n → IsTimed n b s → IsTimed n b (placed_at w n s)
place_timed n b w s c t = record { times = t.times ∙ c ∙ sym (both_now (is_open s && is_deferred w) n); placed = omega arith }

land_timed : (n b page : ℕ) (w : Where) (s : StoryView) → waits s ≡ false → IsTimed n b s → IsTimed n b (landed_at page w s)
land_timed n b page w s e t = record { times = t.times ∙ by_waits s n false e; placed = t.placed }

carry_by : (n b : ℕ) (k : Kept) (s : StoryView) (same : Bool) → waits s ≡ false → IsTimed n b s → IsTimed n b (if same then s else record (missed (n - s.put) k s) { put = n })
carry_by n b k s true e t = t
carry_by n b k s false e t =
    let so_far : b + (times_over s.groups + open_times s.group) ≡ s.put = t.times ∙ by_waits s n false e in
    let more : times_over (closed k s.group s.groups) + (times_so_far k s.group + (n - s.put)) ≡ (times_over s.groups + open_times s.group) + (n - s.put) = missed_times (n - s.put) k s.group s.groups in
    let put : s.put ≤ n = t.placed in
    let now : b + (times_over (closed k s.group s.groups) + (times_so_far k s.group + (n - s.put))) ≡ n = omega (arith, so_far, more, put) in
    record { times = now ∙ sym (both_now (waits s) n); placed = omega arith }

carry_timed : (n b : ℕ) (s : StoryView) → waits s ≡ false → IsTimed n b s → IsTimed n b (carried n s)
carry_timed n b s e t = carry_by n b (by_break s.float) s (s.put == n) e t

miss_reason : (n b : ℕ) (o : Option Kept) (s : StoryView) → is_some o ≡ true → waits s ≡ true → IsTimed n b s → IsTimed (n + 1) b (missed_by 1 o s)
miss_reason n b None s r e t = cc
miss_reason n b (Some k) s r e t =
    let so_far : b + (times_over s.groups + open_times s.group) ≡ n = t.times ∙ by_waits s n true e in
    let more : times_over (closed k s.group s.groups) + (times_so_far k s.group + 1) ≡ (times_over s.groups + open_times s.group) + 1 = missed_times 1 k s.group s.groups in
    let put : s.put ≤ n = t.placed in
    let now : b + (times_over (closed k s.group s.groups) + (times_so_far k s.group + 1)) ≡ n + 1 = omega (arith, so_far, more) in
    record { times = now ∙ sym (by_waits s (n + 1) true e); placed = omega (arith, put) }

miss_by : (n b : ℕ) (s : StoryView) (w : Bool) → waits s ≡ w → HasReason s → IsTimed n b s → IsTimed (n + 1) b (if w then missed_by 1 s.last s else s)
miss_by n b s true e h t = miss_reason n b s.last s (h e) e t
miss_by n b s false e h t =
    let put : s.put ≤ n = t.placed in
    record { times = t.times ∙ by_waits s n false e ∙ sym (by_waits s (n + 1) false e); placed = omega (arith, put) }

miss_timed : (n b : ℕ) (s : StoryView) → HasReason s → IsTimed n b s → IsTimed (n + 1) b (missed_sheet s)
miss_timed n b s h t = miss_by n b s (waits s) refl h t

begun_timed : (f : Float) (page : ℕ) (last : Option Kept) (n : ℕ) → IsTimed n n (begun f page last n)
begun_timed f page last n = record { times = omega arith; placed = omega arith }

-- ---- all stories

timed_mapped : (n k : ℕ) (Q : StoryView → Type 0) (change : StoryView → StoryView) → ((b : ℕ) (s : StoryView) → Q s → IsTimed n b s → IsTimed k b (change s)) → (bs : List ℕ) (ss : List StoryView) → AllByRecursion Q ss → AreTimed n bs ss → AreTimed k bs (map change ss)
timed_mapped n k Q change h [] [] q t = tt
timed_mapped n k Q change h [] (s ∷ ss) q t = absurd t
timed_mapped n k Q change h (b ∷ bs) [] q t = absurd t
timed_mapped n k Q change h (b ∷ bs) (s ∷ ss) q t = (h b s q.0 t.0, timed_mapped n k Q change h bs ss q.1 t.1)

timed_appended : (n b : ℕ) (s : StoryView) (bs : List ℕ) (ss : List StoryView) → IsTimed n b s → AreTimed n bs ss → AreTimed n (bs ++ b ∷ []) (ss ++ s ∷ [])
timed_appended n b s [] [] p t = (p, tt)
timed_appended n b s [] (x ∷ ss) p t = absurd t
timed_appended n b s (c ∷ bs) [] p t = absurd t
timed_appended n b s (c ∷ bs) (x ∷ ss) p t = (t.0, timed_appended n b s bs ss p t.1)

module _ (bs : List ℕ) where
  moved : StaysMoved (λ ss n. AreTimed n bs ss) (λ line ss n. AreCurrent ss n line)
  moved = record {
    back = λ line k ss n f t. timed_mapped n n (IsCurrent n line) (if_of line (kept_back k))
        (λ b s c p. if_changed (IsTimed n b) s (kept_back k s) (is_story_of line s) p (λ e. back_timed n b k s (open_of line s e) (c e) p)) bs ss f t;
    free = λ line other k ss n f g. all_mapped (IsCurrent n other) (IsCurrent n other) (if_of line (kept_back k))
        (λ s c. if_changed (IsCurrent n other) s (kept_back k s) (is_story_of line s) c (λ e i. to_now (is_open s) n s.put (open_of line s e))) ss g;
    placed = λ line w ss n f t. timed_mapped n n (IsCurrent n line) (if_of line (placed_at w n))
        (λ b s c p. if_changed (IsTimed n b) s (placed_at w n s) (is_story_of line s) p (λ e. place_timed n b w s (c e) p)) bs ss f t;
  }

  -- ---- pages

  module _ (n page : ℕ) where
    land : (item : ℕ) (place : Where) (ss : List StoryView) → AllByRecursion (IsPlaced item) ss → AreTimed n bs ss → AreTimed n bs (with_story item (landed_at page place) ss)
    land item place ss q t =
        timed_mapped n n (IsPlaced item) (if_of item (landed_at page place))
        (λ b s c p. if_changed (IsTimed n b) s (landed_at page place s) (is_story_of item s) p (λ e. land_timed n b page place s (c e) p)) bs ss q t

    -- what is on no page stays on none
    not_on : (Holds : ℕ → Where → Type 0) (item : ℕ) (place : Where) (ss : List StoryView) → AllByRecursion (IsNotOn Holds) ss → AllByRecursion (IsNotOn Holds) (with_story item (landed_at page place) ss)
    not_on Holds item place ss q =
        all_mapped (IsNotOn Holds) (IsNotOn Holds) (if_of item (landed_at page place))
        (λ s c. if_changed (IsNotOn Holds) s (landed_at page place s) (is_story_of item s) c (λ e i. cc)) ss q

    by_wait : (b : Bool) → (b ≡ true → ⊥) → b ≡ false
    by_wait true h = absurd (h refl)
    by_wait false h = refl

    -- the float of a box that is on the page does not wait
    placed_there : (Holds : ℕ → Where → Type 0) (item : ℕ) (place : Where) → Holds item place → (ss : List StoryView) → AllByRecursion (IsNotOn Holds) ss → AllByRecursion (IsPlaced item) ss
    placed_there Holds item place i [] q = tt
    placed_there Holds item place i (s ∷ ss) q =
        ((λ e. by_wait (waits s) (λ w. q.0 w place (subst (λ l. Holds l place) (sym (line_of item s e)) i))), placed_there Holds item place i ss q.1)

    -- what is kept along the nodes of a page
    abbrev Lands : (ℕ → Where → Type 0) → List StoryView → Type 0
    Lands Holds ss = AllByRecursion (IsNotOn Holds) ss × AreTimed n bs ss

    box_timed : (Holds : ℕ → Where → Type 0) (w : What) (ss : List StoryView) → ((line : ℕ) (place : Where) → IsBoxOf line place w → Holds line place) → Lands Holds ss → Lands Holds (after_box page w ss)
    box_timed Holds (what.Float name class place item) ss h t =
        (not_on Holds item place ss t.0, land item place ss (placed_there Holds item place (h item place (refl, refl)) ss t.0) t.1)
    box_timed Holds w ss h t = t

    node_timed : (Holds : ℕ → Where → Type 0) (k : PlainKind) (ss : List StoryView) → ((line : ℕ) (place : Where) → IsNodeOf line place k → Holds line place) → Lands Holds ss → Lands Holds (after_node page k ss)
    node_timed Holds (plain (hbox w y d)) ss h t = box_timed Holds w ss h t
    node_timed Holds k ss h t = t

    nodes_timed : (Holds : ℕ → Where → Type 0) (ns : List PlainNode) (ss : List StoryView) → ((line : ℕ) (place : Where) → HasFloat line place ns → Holds line place) → Lands Holds ss → Lands Holds (after_nodes page ns ss)
    nodes_timed Holds [] ss h t = t
    nodes_timed Holds (x ∷ ns) ss h t =
        nodes_timed Holds ns (after_node page x.kind ss) (λ line place i. h line place (inr i)) (node_timed Holds x.kind ss (λ line place i. h line place (inl i)) t)

    sheet_timed : (Holds : ℕ → Where → Type 0) (sheet : PlainSheet) (ss : List StoryView) → ((line : ℕ) (place : Where) → HoldsFloat line place sheet → Holds line place) → Lands Holds ss → Lands Holds (after_sheet page sheet ss)
    sheet_timed Holds (one c) ss h t = nodes_timed Holds c.nodes ss h t
    sheet_timed Holds (wide c) ss h t = nodes_timed Holds c.nodes ss h t
    sheet_timed Holds (two tops at left right) ss h t =
        nodes_timed Holds right.nodes (after_nodes page left.nodes (after_nodes page tops ss)) (λ line place i. h line place (inr (inr i)))
        (nodes_timed Holds left.nodes (after_nodes page tops ss) (λ line place i. h line place (inr (inl i))) (nodes_timed Holds tops ss (λ line place i. h line place (inl i)) t))

  sent_timed : (e : PlainSent) (m : SummaryView) → IsSentInOrder e m → AreTimed m.sheets bs m.stories → AreTimed (after_sent e m).sheets bs (after_sent e m).stories
  sent_timed (warned w) m o t = t
  sent_timed (shipped page sheet) m o t = (sheet_timed m.sheets page (λ line place. HoldsFloat line place sheet) sheet m.stories (λ line place i. i) (o, t)).1

  none_more : (n : ℕ) (ss : List StoryView) → AreTimed n bs ss → AreTimed n (bs ++ []) ss
  none_more n ss t = subst (λ cs. AreTimed n cs ss) (sym (append-nil bs)) t

  tale_timed : (t : Tale) (m : SummaryView) → IsTaleInOrder t m → AreTimed m.sheets bs m.stories → AreTimed (after_tale t m).sheets (bs ++ if_called (tells t) m.sheets) (after_tale t m).stories
  tale_timed (Waits at f) m o t = timed_appended m.sheets m.sheets (begun f at.page (Some (by_width f)) m.sheets) bs m.stories (begun_timed f at.page (Some (by_width f)) m.sheets) t
  tale_timed (Calls at f height) m o t = timed_appended m.sheets m.sheets (begun f at.page None m.sheets) bs m.stories (begun_timed f at.page None m.sheets) t
  tale_timed (Decides f d) m o t =
      none_more (after_told f d m).sheets (after_told f d m).stories (told_stays (λ ss n. AreTimed n bs ss) (λ line ss n. AreCurrent ss n line) moved f d m o.0 t)
  tale_timed (Begins at z) m o t = none_more m.sheets m.stories t
  tale_timed (InColumn d) m o t =
      none_more (after_column d m).sheets (after_column d m).stories (column_stays (λ ss n. AreTimed n bs ss) (λ line ss n. AreCurrent ss n line) moved d m o t)
  tale_timed (Back f place) m o t =
      none_more m.sheets (with_story f.line (kept_back (by_clear f)) m.stories) (moved.back f.line (by_clear f) m.stories m.sheets o.0 t)
  tale_timed (Beside at n height reach placed) m o t = none_more m.sheets m.stories t
  tale_timed (Stands line) m o t =
      none_more m.sheets (with_story line (carried m.sheets) m.stories)
      (timed_mapped m.sheets m.sheets (IsPlaced line) (if_of line (carried m.sheets))
      (λ b s c p. if_changed (IsTimed m.sheets b) s (carried m.sheets s) (is_story_of line s) p (λ e. carry_timed m.sheets b s (c e) p)) bs m.stories o t)
  tale_timed PutOut m o t =
      none_more (m.sheets + 1) (map missed_sheet m.stories) (timed_mapped m.sheets (m.sheets + 1) HasReason missed_sheet (λ b s h p. miss_timed m.sheets b s h p) bs m.stories o t)

  shown_timed : (x : Shown) (m : SummaryView) → IsShownInOrder x m → AreTimed m.sheets bs m.stories → AreTimed (after_shown x m).sheets (bs ++ if_called x m.sheets) (after_shown x m).stories
  shown_timed (tells d) m o t = tale_timed d m o t
  shown_timed (happens (offered d)) m o t = none_more m.sheets m.stories t
  shown_timed (happens (sent e)) m o t = none_more (after_sent e m).sheets (after_sent e m).stories (sent_timed e m o t)

-- ---- all that is shown

timed_after : (bs : List ℕ) (xs : List Shown) (m : SummaryView) → IsOrderly xs m → AreTimed m.sheets bs m.stories → AreTimed (summed xs m).sheets (bs ++ sheets_at_calls m.sheets xs) (summed xs m).stories
timed_after bs [] m o t = none_more bs m.sheets m.stories t
timed_after bs (x ∷ xs) m o t =
    let later = timed_after (bs ++ if_called x m.sheets) xs (after_shown x m) o.1 (shown_timed bs x m o.0 t) in
    subst (λ cs. AreTimed (summed xs (after_shown x m)).sheets cs (summed xs (after_shown x m)).stories)
    (append_assoc bs (if_called x m.sheets) (sheets_at_calls (after_shown x m).sheets xs)
    ∙ ap (λ n. bs ++ (if_called x m.sheets ++ sheets_at_calls n xs)) (shown_sheets x m)) later

pub stories_are_timed : (xs : List Shown) → IsOrderly xs no_stories → AreTimed (summed xs no_stories).sheets (sheets_at_calls 0 xs) (summed xs no_stories).stories
stories_are_timed xs o = timed_after [] xs no_stories o tt
