-- A story landed where its float was shipped: what is shown, one after another.
use Rattle.std.proofs.Common.{◌≡◌, refl, sym, inl, inr, ◌⊎◌, ℕ, Bool, true, false, List, [], ◌∷◌, Option, Some, None, if◌then◌else◌, eqb-true}
use Rattle.std.specs.Prelude.{⊤, ◌-◌, ◌&&◌, ◌==◌}
use Rattle.std.specs.List.{AllByRecursion}
use Rattle.tb_node.specs.declared.What.{What}
use Rattle.tb_node.specs.declared.What.TheVariants as what
use Rattle.tb_node.specs.declared.Where.{Where}
use Rattle.tb_node.specs.PlainNodes.{hbox, PlainKind, plain, PlainNode}
use Rattle.tb_sheet.specs.Sheet.{PlainSheet, one, wide, two, PlainSent, warned, shipped}
use Rattle.tb_items.specs.RunEvents.{offered, sent}
use Rattle.tb_told.specs.declared.Tale.{Tale}
use Rattle.tb_told.specs.declared.Tale.TheVariants.{Waits, Calls, Decides, Begins, InColumn, Back, Beside, Stands, PutOut}
use Rattle.tb_story.specs.declared.Kept.{Kept}
use Rattle.tb_story.specs.Story.{StoryView, is_open, is_open_by, is_story_of, kept_back, placed_at, landed_at, missed, missed_by, missed_sheet, by_break, carried, waits, if_of, with_story}
use Rattle.tb_story.specs.Summary.{SummaryView, no_stories, by_clear, after_tale, after_box, after_node, after_nodes, after_sheet, after_sent}
use Rattle.tb_why.specs.WhyRun.{Shown, happens, tells}
use Rattle.tb_why.specs.Summary.{after_shown, summed}
use Rattle.tb_why.specs.SummaryLaws.{IsBoxOf, IsNodeOf, HasFloat, HoldsFloat, IsSentWith, IsShownWith, HasShipped, LandedBy, IsLanded, AreLandedAsShipped, column_lines}
use Rattle.tb_why.proofs.MovingLemmas.{StaysMoved, told_stays, column_stays, all_mapped, all_appended, if_changed}

and_left : (a b : Bool) → (a && b) ≡ true → a ≡ true
and_left true b e = refl
and_left false b e = cc

and_right : (a b : Bool) → (a && b) ≡ true → b ≡ true
and_right true b e = e
and_right false b e = cc

-- the story of a line was not shipped, and its float came on the line
pub open_of : (line : ℕ) (s : StoryView) → is_story_of line s ≡ true → is_open s ≡ true
open_of line s e = and_left (is_open s) (s.float.line == line) e

pub line_of : (line : ℕ) (s : StoryView) → is_story_of line s ≡ true → s.float.line ≡ line
line_of line s e = eqb-true s.float.line line (and_right (is_open s) (s.float.line == line) e)

-- all lines are free to be moved
pub all_trivial : (lines : List ℕ) → AllByRecursion (λ line. ⊤) lines
all_trivial [] = tt
all_trivial (l ∷ ls) = (tt, all_trivial ls)

weaker_by : (S T : ℕ → ℕ → Where → Type 0) → ((l n : ℕ) (w : Where) → S l n w → T l n w) → (line : ℕ) (place : Where) (landed : Option ℕ) → LandedBy S line place landed → LandedBy T line place landed
weaker_by S T h line place None p = tt
weaker_by S T h line place (Some n) p = h line n place p

weaker : (S T : ℕ → ℕ → Where → Type 0) → ((l n : ℕ) (w : Where) → S l n w → T l n w) → (ss : List StoryView) → AllByRecursion (IsLanded S) ss → AllByRecursion (IsLanded T) ss
weaker S T h [] a = tt
weaker S T h (s ∷ ss) a = (weaker_by S T h s.float.line s.place s.landed a.0, weaker S T h ss a.1)

module _ (Seen : ℕ → ℕ → Where → Type 0) where
  free_by : (line : ℕ) (place : Where) (landed : Option ℕ) → is_open_by landed ≡ true → LandedBy Seen line place landed
  free_by line place None e = tt
  free_by line place (Some n) e = cc

  -- of a story that was not shipped nothing is said
  free : (s : StoryView) → is_open s ≡ true → IsLanded Seen s
  free s e = free_by s.float.line s.place s.landed e

  changed : (line : ℕ) (change : StoryView → StoryView) → ((s : StoryView) → is_open s ≡ true → IsLanded Seen (change s)) → (ss : List StoryView) → AllByRecursion (IsLanded Seen) ss → AllByRecursion (IsLanded Seen) (with_story line change ss)
  changed line change h ss a =
      all_mapped (IsLanded Seen) (IsLanded Seen) (if_of line change)
      (λ s p. if_changed (IsLanded Seen) s (change s) (is_story_of line s) p (λ e. h s (open_of line s e))) ss a

  moved : StaysMoved (λ ss n. AllByRecursion (IsLanded Seen) ss) (λ line ss n. ⊤)
  moved = record {
    back = λ line k ss n f a. changed line (kept_back k) (λ s e. free (kept_back k s) e) ss a;
    free = λ line other k ss n f g. tt;
    placed = λ line w ss n f a. changed line (placed_at w n) (λ s e. free (placed_at w n s) e) ss a;
  }

  carried_free : (n : ℕ) (s : StoryView) → is_open s ≡ true → IsLanded Seen (carried n s)
  carried_free n s e = by_put (s.put == n)
    where
      by_put : (b : Bool) → IsLanded Seen (if b then s else record (missed (n - s.put) (by_break s.float) s) { put = n })
      by_put true = free s e
      by_put false = free s e

  missed_kept : (s : StoryView) → IsLanded Seen s → IsLanded Seen (missed_sheet s)
  missed_kept s p = if_changed (IsLanded Seen) s (missed_by 1 s.last s) (waits s) p (λ e. by_last s.last)
    where
      by_last : (o : Option Kept) → IsLanded Seen (missed_by 1 o s)
      by_last None = p
      by_last (Some k) = p

  tale_kept : (t : Tale) (m : SummaryView) → AllByRecursion (IsLanded Seen) m.stories → AllByRecursion (IsLanded Seen) (after_tale t m).stories
  tale_kept (Waits at f) m a = all_appended (IsLanded Seen) m.stories _ a tt
  tale_kept (Calls at f height) m a = all_appended (IsLanded Seen) m.stories _ a tt
  tale_kept (Decides f t) m a = told_stays (λ ss n. AllByRecursion (IsLanded Seen) ss) (λ line ss n. ⊤) moved f t m tt a
  tale_kept (Begins at z) m a = a
  tale_kept (InColumn t) m a = column_stays (λ ss n. AllByRecursion (IsLanded Seen) ss) (λ line ss n. ⊤) moved t m (all_trivial (column_lines t m)) a
  tale_kept (Back f place) m a = changed f.line (kept_back (by_clear f)) (λ s e. free (kept_back (by_clear f) s) e) m.stories a
  tale_kept (Beside at n height reach placed) m a = a
  tale_kept (Stands line) m a = changed line (carried m.sheets) (carried_free m.sheets) m.stories a
  tale_kept PutOut m a = all_mapped (IsLanded Seen) (IsLanded Seen) missed_sheet missed_kept m.stories a

  -- ---- pages

  box_kept : (page : ℕ) (w : What) (ss : List StoryView) → ((line : ℕ) (place : Where) → IsBoxOf line place w → Seen line page place) → AllByRecursion (IsLanded Seen) ss → AllByRecursion (IsLanded Seen) (after_box page w ss)
  box_kept page (what.Float name class place item) ss h a =
      all_mapped (IsLanded Seen) (IsLanded Seen) (if_of item (landed_at page place))
      (λ s p. if_changed (IsLanded Seen) s (landed_at page place s) (is_story_of item s) p (λ e. h s.float.line place (refl, sym (line_of item s e)))) ss a
  box_kept page w ss h a = a

  node_kept : (page : ℕ) (k : PlainKind) (ss : List StoryView) → ((line : ℕ) (place : Where) → IsNodeOf line place k → Seen line page place) → AllByRecursion (IsLanded Seen) ss → AllByRecursion (IsLanded Seen) (after_node page k ss)
  node_kept page (plain (hbox w y d)) ss h a = box_kept page w ss h a
  node_kept page k ss h a = a

  nodes_kept : (page : ℕ) (ns : List PlainNode) (ss : List StoryView) → ((line : ℕ) (place : Where) → HasFloat line place ns → Seen line page place) → AllByRecursion (IsLanded Seen) ss → AllByRecursion (IsLanded Seen) (after_nodes page ns ss)
  nodes_kept page [] ss h a = a
  nodes_kept page (n ∷ ns) ss h a =
      nodes_kept page ns (after_node page n.kind ss) (λ line place i. h line place (inr i)) (node_kept page n.kind ss (λ line place i. h line place (inl i)) a)

  sheet_kept : (page : ℕ) (sheet : PlainSheet) (ss : List StoryView) → ((line : ℕ) (place : Where) → HoldsFloat line place sheet → Seen line page place) → AllByRecursion (IsLanded Seen) ss → AllByRecursion (IsLanded Seen) (after_sheet page sheet ss)
  sheet_kept page (one c) ss h a = nodes_kept page c.nodes ss h a
  sheet_kept page (wide c) ss h a = nodes_kept page c.nodes ss h a
  sheet_kept page (two tops at left right) ss h a =
      nodes_kept page right.nodes _ (λ line place i. h line place (inr (inr i)))
      (nodes_kept page left.nodes _ (λ line place i. h line place (inr (inl i))) (nodes_kept page tops ss (λ line place i. h line place (inl i)) a))

  sent_kept : (e : PlainSent) (m : SummaryView) → ((line n : ℕ) (place : Where) → IsSentWith line n place e → Seen line n place) → AllByRecursion (IsLanded Seen) m.stories → AllByRecursion (IsLanded Seen) (after_sent e m).stories
  sent_kept (warned w) m h a = a
  sent_kept (shipped page sheet) m h a = sheet_kept page sheet m.stories (λ line place i. h line page place (refl, i)) a

  shown_kept : (x : Shown) (m : SummaryView) → ((line n : ℕ) (place : Where) → IsShownWith line n place x → Seen line n place) → AllByRecursion (IsLanded Seen) m.stories → AllByRecursion (IsLanded Seen) (after_shown x m).stories
  shown_kept (tells t) m h a = tale_kept t m a
  shown_kept (happens (offered t)) m h a = a
  shown_kept (happens (sent e)) m h a = sent_kept e m h a

-- ---- all that is shown

regrouped : {A B C : Type 0} → (A ⊎ B) ⊎ C → A ⊎ (B ⊎ C)
regrouped (inl (inl a)) = inl a
regrouped (inl (inr b)) = inr (inl b)
regrouped (inr c) = inr (inr c)

pub landed_after : (Seen : ℕ → ℕ → Where → Type 0) (xs : List Shown) (m : SummaryView) → AllByRecursion (IsLanded Seen) m.stories → AllByRecursion (IsLanded (λ line n place. Seen line n place ⊎ HasShipped line n place xs)) (summed xs m).stories
landed_after Seen [] m a = weaker Seen (λ line n place. Seen line n place ⊎ ⊥) (λ l n w i. inl i) m.stories a
landed_after Seen (x ∷ xs) m a =
    weaker (λ line n place. (Seen line n place ⊎ IsShownWith line n place x) ⊎ HasShipped line n place xs) (λ line n place. Seen line n place ⊎ HasShipped line n place (x ∷ xs)) (λ l n w i. regrouped i) (summed xs (after_shown x m)).stories
    (landed_after (λ line n place. Seen line n place ⊎ IsShownWith line n place x) xs (after_shown x m)
    (shown_kept (λ line n place. Seen line n place ⊎ IsShownWith line n place x) x m (λ line n place i. inr i)
    (weaker Seen (λ line n place. Seen line n place ⊎ IsShownWith line n place x) (λ l n w i. inl i) m.stories a)))

only_later : {A : Type 0} → ⊥ ⊎ A → A
only_later (inl e) = absurd e
only_later (inr a) = a

pub landed_as_shipped : (xs : List Shown) → AreLandedAsShipped xs (summed xs no_stories).stories
landed_as_shipped xs = weaker (λ line n place. ⊥ ⊎ HasShipped line n place xs) (λ line n place. HasShipped line n place xs) (λ l n w i. only_later i) (summed xs no_stories).stories (landed_after (λ line n place. ⊥) xs no_stories tt)
