-- How each story fits what waits: what is so of it while floats are kept back, placed and shipped, and where a column is put out.
use Rattle.std.proofs.Common.{◌≡◌, refl, sym, subst, inl, inr, ◌⊎◌, ℕ, ◌+◌, ◌-◌, Bool, true, false, List, [], ◌∷◌, ◌++◌, map, Option, Some, None, if◌then◌else◌, is_some, arith}
use Rattle.std.specs.Prelude.{◌&&◌, ◌==◌}
use Rattle.std.specs.List.{AllByRecursion}
use Rattle.tb_break.proofs.EachLemmas.{all-push, all-map}
use Rattle.tb_node.specs.declared.Float.{Float}
use Rattle.tb_node.specs.declared.What.{What}
use Rattle.tb_node.specs.declared.What.TheVariants as what
use Rattle.tb_node.specs.declared.Where.{Where}
use Rattle.tb_node.specs.PlainNodes.{hbox, PlainKind, plain, PlainNode}
use Rattle.tb_sheet.specs.Sheet.{PlainSheet, one, wide, two}
use Rattle.tb_story.specs.declared.Kept.{Kept}
use Rattle.tb_story.specs.Story.{StoryView, is_open, is_deferred, is_story_of, begun, kept_back, placed_at, landed_at, missed, missed_by, missed_sheet, by_break, carried, waits, if_of, with_story}
use Rattle.tb_story.specs.Summary.{after_box, after_node, after_nodes, after_sheet}
use Rattle.tb_why.specs.SummaryLaws.{counted_to, IsCurrent, AreCurrent, IsPlaced, HasReason, IsNotOn}
use Rattle.tb_why.proofs.MovingLemmas.{all_mapped}
use Rattle.tb_why.proofs.LandingLemmas.{open_of, line_of}

-- of the lines `Back` a float that was not shipped waits; of the lines `Now` it waits, or was placed since the last sheet; if a
-- float waits it is of the lines `Waiting` and has a reason; and each float is of the lines `Known`
pub record Fits (Back Now Waiting Known : ℕ → Type 0) (sheets : ℕ) (s : StoryView) : Type 0 where
  pub back : is_open s ≡ true → Back s.float.line → is_deferred s.place ≡ true
  pub now : is_open s ≡ true → Now s.float.line → counted_to sheets s ≡ sheets
  pub waiting : waits s ≡ true → Waiting s.float.line
  pub reason : waits s ≡ true → is_some s.last ≡ true
  pub known : Known s.float.line

-- the same of each story
abbrev pub AllFit : (Back Now Waiting Known : ℕ → Type 0) → ℕ → List StoryView → Type 0
AllFit B N W K n ss = AllByRecursion (Fits B N W K n) ss

-- no line
abbrev pub NoLine : ℕ → Type 0
NoLine n = ⊥

-- ---- tests

pub both-true : (a b : Bool) → a ≡ true → b ≡ true → (a && b) ≡ true
both-true true b e d = d
both-true false b e d = cc

pub left-true : (a b : Bool) → (a && b) ≡ true → a ≡ true
left-true true b e = refl
left-true false b e = cc

same-line : (n : ℕ) → (n == n) ≡ true
same-line n = grind arith

pub right-true : (a b : Bool) → (a && b) ≡ true → b ≡ true
right-true true b e = e
right-true false b e = cc

pub true-not-false : (b : Bool) → b ≡ true → b ≡ false → ⊥
true-not-false b e d = cc

-- the float of an open story of the line
pub of_line : (line : ℕ) (s : StoryView) → is_open s ≡ true → s.float.line ≡ line → is_story_of line s ≡ true
of_line line s o e = both-true (is_open s) (s.float.line == line) o (subst (λ n. (s.float.line == n) ≡ true) e (same-line s.float.line))

-- a story that is of no other line than those that are changed
not-of : (line : ℕ) (s : StoryView) → is_story_of line s ≡ false → is_open s ≡ true → s.float.line ≡ line → ⊥
not-of line s f o e = true-not-false (is_story_of line s) (of_line line s o e) f

pub to_now : (b : Bool) (n p : ℕ) → b ≡ true → (if b then n else p) ≡ n
to_now true n p e = refl
to_now false n p e = cc

pub either_now : (b : Bool) (n : ℕ) → (if b then n else n) ≡ n
either_now true n = refl
either_now false n = refl

-- ---- one story after another

changed-by : (P Q : StoryView → Type 0) (change : StoryView → StoryView) (s : StoryView) (b : Bool) → (b ≡ true → Q (change s)) → (b ≡ false → Q s) → Q (if b then change s else s)
changed-by P Q change s true h k = h refl
changed-by P Q change s false h k = k refl

-- the story of a line is changed, and no other one
pub changed : (line : ℕ) (change : StoryView → StoryView) (P Q : StoryView → Type 0) → ((s : StoryView) → is_story_of line s ≡ true → P s → Q (change s)) → ((s : StoryView) → is_story_of line s ≡ false → P s → Q s)
    → (ss : List StoryView) → AllByRecursion P ss → AllByRecursion Q (with_story line change ss)
changed line change P Q h k ss a = all_mapped P Q (if_of line change) (λ s p. changed-by P Q change s (is_story_of line s) (λ e. h s e p) (λ e. k s e p)) ss a

module _ (K : ℕ → Type 0) where
  -- more may wait than was said, and less be asked of it
  pub weaker : (B N W B' N' W' : ℕ → Type 0) → ((n : ℕ) → B' n → B n) → ((n : ℕ) → N' n → N n) → ((n : ℕ) → W n → W' n) → (n : ℕ) (ss : List StoryView) → AllFit B N W K n ss → AllFit B' N' W' K n ss
  weaker B N W B' N' W' b c w n ss a =
      all-map (Fits B N W K n) (Fits B' N' W' K n) (λ s f. record { back = λ o i. f.back o (b s.float.line i); now = λ o i. f.now o (c s.float.line i); waiting = λ e. w s.float.line (f.waiting e); reason = f.reason; known = f.known }) ss a

  -- what waits is current, and need not wait from now on
  pub also-now : (B N W B' T W' : ℕ → Type 0) → ((n : ℕ) → B' n → B n) → ((n : ℕ) → T n → B n) → ((n : ℕ) → W n → W' n) → (n : ℕ) (ss : List StoryView) → AllFit B N W K n ss → AllFit B' (λ n. N n ⊎ T n) W' K n ss
  also-now B N W B' T W' b t w n ss a =
      all-map (Fits B N W K n) (Fits B' (λ n. N n ⊎ T n) W' K n) (λ s f. record { back = λ o i. f.back o (b s.float.line i); now = λ o i. by_now s f o i; waiting = λ e. w s.float.line (f.waiting e); reason = f.reason; known = f.known }) ss a
    where
      by_now : (s : StoryView) → Fits B N W K n s → is_open s ≡ true → N s.float.line ⊎ T s.float.line → counted_to n s ≡ n
      by_now s f o (inl i) = f.now o i
      by_now s f o (inr i) = to_now (waits s) n s.put (both-true (is_open s) (is_deferred s.place) o (f.back o (t s.float.line i)))

  -- a float is kept back: it is one of those that wait
  pub keeps-back : (B N W B' : ℕ → Type 0) (line : ℕ) (k : Kept) → W line → ((n : ℕ) → B' n → B n ⊎ (n ≡ line)) → (n : ℕ) (ss : List StoryView) → AllFit B N W K n ss → AllFit B' N W K n (with_story line (kept_back k) ss)
  keeps-back B N W B' line k w b n ss a =
      changed line (kept_back k) (Fits B N W K n) (Fits B' N W K n)
      (λ s e f. record { back = λ o i. refl; now = λ o i. to_now (is_open s && true) n s.put (both-true (is_open s) true o refl); waiting = λ i. subst W (sym (line_of line s e)) w; reason = λ i. refl; known = f.known })
      (λ s e f. record { back = λ o i. by_line s e f o (b s.float.line i); now = f.now; waiting = f.waiting; reason = f.reason; known = f.known }) ss a
    where
      by_line : (s : StoryView) → is_story_of line s ≡ false → Fits B N W K n s → is_open s ≡ true → B s.float.line ⊎ (s.float.line ≡ line) → is_deferred s.place ≡ true
      by_line s e f o (inl i) = f.back o i
      by_line s e f o (inr i) = absurd (not-of line s e o i)

  -- a float is placed: it is none of those that wait from now on
  pub places : (B N W B' N' W' : ℕ → Type 0) (line : ℕ) (w : Where) → is_deferred w ≡ false → ((n : ℕ) → B' n → B n) → (B' line → ⊥) → ((n : ℕ) → N' n → N n ⊎ (n ≡ line)) → ((n : ℕ) → W n → W' n ⊎ (n ≡ line))
      → (n : ℕ) (ss : List StoryView) → AllFit B N W K n ss → AllFit B' N' W' K n (with_story line (placed_at w n) ss)
  places B N W B' N' W' line w d b gone c most n ss a =
      changed line (placed_at w n) (Fits B N W K n) (Fits B' N' W' K n)
      (λ s e f. record {
        back = λ o i. absurd (gone (subst B' (line_of line s e) i));
        now = λ o i. either_now (is_open s && is_deferred w) n;
        waiting = λ i. absurd (never s i);
        reason = λ i. absurd (never s i);
        known = f.known;
      })
      (λ s e f. record {
        back = λ o i. f.back o (b s.float.line i);
        now = λ o i. now_by s e f o (c s.float.line i);
        waiting = λ i. wait_by s e (left-true (is_open s) (is_deferred s.place) i) (most s.float.line (f.waiting i));
        reason = f.reason;
        known = f.known;
      }) ss a
    where
      never : (s : StoryView) → (is_open s && is_deferred w) ≡ true → ⊥
      never s i = true-not-false (is_deferred w) (right-true (is_open s) (is_deferred w) i) d

      now_by : (s : StoryView) → is_story_of line s ≡ false → Fits B N W K n s → is_open s ≡ true → N s.float.line ⊎ (s.float.line ≡ line) → counted_to n s ≡ n
      now_by s e f o (inl i) = f.now o i
      now_by s e f o (inr i) = absurd (not-of line s e o i)

      wait_by : (s : StoryView) → is_story_of line s ≡ false → is_open s ≡ true → W' s.float.line ⊎ (s.float.line ≡ line) → W' s.float.line
      wait_by s e o (inl i) = i
      wait_by s e o (inr i) = absurd (not-of line s e o i)

  module _ (B N W : ℕ → Type 0) where
    -- ---- what is asked of what is shown

    -- the floats of a line that waits are current
    pub waiting-current : (line : ℕ) (n : ℕ) → B line → (ss : List StoryView) → AllFit B N W K n ss → AreCurrent ss n line
    waiting-current line n b ss a =
        all-map (Fits B N W K n) (IsCurrent n line) (λ s f e. to_now (waits s) n s.put (both-true (is_open s) (is_deferred s.place) (open_of line s e) (f.back (open_of line s e) (subst B (sym (line_of line s e)) b)))) ss a

    -- and so are those of a line that was placed since the last sheet
    pub placed-current : (line : ℕ) (n : ℕ) → N line → (ss : List StoryView) → AllFit B N W K n ss → AreCurrent ss n line
    placed-current line n i ss a =
        all-map (Fits B N W K n) (IsCurrent n line) (λ s f e. f.now (open_of line s e) (subst N (sym (line_of line s e)) i)) ss a

    pub have-reasons : (n : ℕ) (ss : List StoryView) → AllFit B N W K n ss → AllByRecursion HasReason ss
    have-reasons n ss a = all-map (Fits B N W K n) HasReason (λ s f. f.reason) ss a

    by_not : (b : Bool) → (b ≡ true → ⊥) → b ≡ false
    by_not true h = absurd (h refl)
    by_not false h = refl

    -- a float of a line that waits nowhere is placed
    pub are-placed : (line : ℕ) (n : ℕ) → (W line → ⊥) → (ss : List StoryView) → AllFit B N W K n ss → AllByRecursion (IsPlaced line) ss
    are-placed line n gone ss a =
        all-map (Fits B N W K n) (IsPlaced line) (λ s f e. by_not (waits s) (λ i. gone (subst W (line_of line s e) (f.waiting i)))) ss a

    -- what waits is not on a page that holds no line that waits
    pub are-not-on : (Holds : ℕ → Where → Type 0) (n : ℕ) → ((line : ℕ) (place : Where) → Holds line place → W line → ⊥) → (ss : List StoryView) → AllFit B N W K n ss → AllByRecursion (IsNotOn Holds) ss
    are-not-on Holds n apart ss a = all-map (Fits B N W K n) (IsNotOn Holds) (λ s f i place h. apart s.float.line place h (f.waiting i)) ss a

    -- ---- sheets

    reason-kept : (n : ℕ) (s : StoryView) (o : Option Kept) → Fits B N W K n s → Fits B NoLine W K (n + 1) (missed_by 1 o s)
    reason-kept n s None f = record { back = f.back; now = λ o i. absurd i; waiting = f.waiting; reason = f.reason; known = f.known }
    reason-kept n s (Some k) f = record { back = f.back; now = λ o i. absurd i; waiting = f.waiting; reason = f.reason; known = f.known }

    sheet-kept : (n : ℕ) (s : StoryView) (b : Bool) → Fits B N W K n s → Fits B NoLine W K (n + 1) (if b then missed_by 1 s.last s else s)
    sheet-kept n s true f = reason-kept n s s.last f
    sheet-kept n s false f = record { back = f.back; now = λ o i. absurd i; waiting = f.waiting; reason = f.reason; known = f.known }

    -- a column is put out
    pub puts-out : (n : ℕ) (ss : List StoryView) → AllFit B N W K n ss → AllFit B NoLine W K (n + 1) (map missed_sheet ss)
    puts-out n ss a = all_mapped (Fits B N W K n) (Fits B NoLine W K (n + 1)) missed_sheet (λ s f. sheet-kept n s (waits s) f) ss a

    carried-by : (n : ℕ) (s : StoryView) (b : Bool) → Fits B N W K n s → Fits B N W K n (if b then s else record (missed (n - s.put) (by_break s.float) s) { put = n })
    carried-by n s true f = f
    carried-by n s false f = record { back = f.back; now = λ o i. either_now (waits s) n; waiting = f.waiting; reason = f.reason; known = f.known }

    -- a float stands in the text that is put out
    pub stands : (line : ℕ) (n : ℕ) (ss : List StoryView) → AllFit B N W K n ss → AllFit B N W K n (with_story line (carried n) ss)
    stands line n ss a = changed line (carried n) (Fits B N W K n) (Fits B N W K n) (λ s e f. carried-by n s (s.put == n) f) (λ s e f. f) ss a

    -- ---- stories that begin

    pub begins : (f : Float) (page n : ℕ) (last : Option Kept) → W f.line → is_some last ≡ true → K f.line → (ss : List StoryView) → AllFit B N W K n ss → AllFit B N W K n (ss ++ begun f page last n ∷ [])
    begins f page n last w r k ss a = all-push (Fits B N W K n) ss (begun f page last n) a (record { back = λ o i. refl; now = λ o i. refl; waiting = λ i. w; reason = λ i. r; known = k })

    -- ---- pages

    land : (page item : ℕ) (place : Where) (n : ℕ) (ss : List StoryView) → AllFit B N W K n ss → AllFit B N W K n (with_story item (landed_at page place) ss)
    land page item place n ss a =
        changed item (landed_at page place) (Fits B N W K n) (Fits B N W K n) (λ s e f. record { back = λ o i. cc; now = λ o i. cc; waiting = λ i. cc; reason = λ i. cc; known = f.known }) (λ s e f. f) ss a

    box-lands : (page : ℕ) (w : What) (n : ℕ) (ss : List StoryView) → AllFit B N W K n ss → AllFit B N W K n (after_box page w ss)
    box-lands page (what.Float name class place item) n ss a = land page item place n ss a
    box-lands page w n ss a = a

    node-lands : (page : ℕ) (k : PlainKind) (n : ℕ) (ss : List StoryView) → AllFit B N W K n ss → AllFit B N W K n (after_node page k ss)
    node-lands page (plain (hbox w y d)) n ss a = box-lands page w n ss a
    node-lands page k n ss a = a

    nodes-land : (page : ℕ) (ns : List PlainNode) (n : ℕ) (ss : List StoryView) → AllFit B N W K n ss → AllFit B N W K n (after_nodes page ns ss)
    nodes-land page [] n ss a = a
    nodes-land page (x ∷ ns) n ss a = nodes-land page ns n (after_node page x.kind ss) (node-lands page x.kind n ss a)

    -- the floats of a page are shipped
    pub lands : (page : ℕ) (sheet : PlainSheet) (n : ℕ) (ss : List StoryView) → AllFit B N W K n ss → AllFit B N W K n (after_sheet page sheet ss)
    lands page (one c) n ss a = nodes-land page c.nodes n ss a
    lands page (wide c) n ss a = nodes-land page c.nodes n ss a
    lands page (two tops at left right) n ss a =
        nodes-land page right.nodes n (after_nodes page left.nodes (after_nodes page tops ss)) (nodes-land page left.nodes n (after_nodes page tops ss) (nodes-land page tops n ss a))
