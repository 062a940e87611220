-- What is told of a column of floats is in order, and keeps how the stories fit what waits: those that are taken wait no more.
use Rattle.std.proofs.Common.{◌≡◌, refl, sym, ◌∙◌, ap, subst, inl, inr, ◌⊎◌, ℕ, Bool, true, false, List, [], ◌∷◌, ◌++◌, map, Option, Some, None, if◌then◌else◌, append_assoc}
use Rattle.std.specs.Prelude.{◌&&◌, ◌||◌, not, int_le}
use Rattle.std.specs.Bool.{beq}
use Rattle.std.specs.List.{AllByRecursion}
use Rattle.std.proofs.lemmas.List.{map-append}
use Rattle.tb_break.proofs.EachLemmas.{all-join, all-push}
use Rattle.tb_node.specs.declared.Float.{Float}
use Rattle.tb_node.specs.declared.Where.TheVariants as places
use Rattle.tb_float.specs.Lists.{has_class}
use Rattle.tb_fpage.specs.declared.Wanted.{Wanted}
use Rattle.tb_fpage.specs.Company.{Choice, passed_over, joins, company_of_head, is_head, is_made, company_from, company, chosen_floats}
use Rattle.tb_told.specs.Tested.{all_hold}
use Rattle.tb_told.specs.declared.Test.{Test}
use Rattle.tb_told.specs.declared.Alone.{Alone}
use Rattle.tb_told.specs.declared.Joining.{Joining}
use Rattle.tb_told.specs.declared.Made.{Made}
use Rattle.tb_told.specs.declared.Spot.{Spot}
use Rattle.tb_told.specs.declared.ToldColumn.{ToldColumn}
use Rattle.tb_told.specs.declared.ToldColumn.TheVariants.{Heads, Joins, Companied, Takes}
use Rattle.tb_told.specs.ColumnTold.{alone_tests, alone_told, joins_told, if_of_width, made_told, told_joins, told_made, told_head, told_float, told_from, told_column, taken_floats}
use Rattle.tb_told.proofs.ColumnLemmas.{heads_if}
use Rattle.tb_told.specs.declared.Tale.TheVariants.{Begins, InColumn}
use Rattle.tb_told.specs.Tales.{has_width, column_tales}
use Rattle.tb_story.specs.declared.Kept.{Kept}
use Rattle.tb_story.specs.declared.Noted.{Noted}
use Rattle.tb_story.specs.Story.{StoryView, kept_back, with_story}
use Rattle.tb_story.specs.Summary.{SummaryView, keep, kept_all, heads_none, after_heads, after_joining, after_company, after_column, after_tale}
use Rattle.tb_why.specs.SummaryLaws.{AreCurrent, IsTaleInOrder, noted_lines}
use Rattle.tb_laws.specs.Laws.{float_lines}
use Rattle.tb_laws.proofs.ClassesRise.RisingLists.{IsAmong}
use Rattle.tb_why_laws.proofs.InOrder.FitLemmas.{AllFit, weaker, keeps-back, places, waiting-current, placed-current, also-now}
use Rattle.tb_why_laws.proofs.InOrder.DecisionLemmas.{Tells, tells-then}

module _ (K N W : ℕ → Type 0) where
  -- the stories while a column is looked for: all that is noted is of floats that wait
  pub record Noting (m : SummaryView) : Type 0 where
    pub fit : AllFit W N W K m.sheets m.stories
    pub alone : AllByRecursion (λ (x : Noted). W x.float.line) m.alone
    pub passed : AllByRecursion (λ (x : Noted). W x.float.line) m.passed

  -- ---- what is told before a company takes its floats

  keeps : (f : Float) (k : Kept) (m : SummaryView) → W f.line → AllFit W N W K m.sheets m.stories → AllFit W N W K m.sheets (with_story f.line (kept_back k) m.stories)
  keeps f k m w a = keeps-back K W N W W f.line k w (λ n i. inl i) m.sheets m.stories a

  none-heads : (f : Float) (k : Kept) (m : SummaryView) (b : Bool) → W f.line → Noting m → Noting (if b then keep f k (heads_none f k m) else heads_none f k m)
  none-heads f k m true w a = record { fit = keeps f k m w a.fit; alone = all-push (λ (x : Noted). W x.float.line) m.alone (record { float = f; kept = k }) a.alone w; passed = a.passed }
  none-heads f k m false w a = record { fit = a.fit; alone = all-push (λ (x : Noted). W x.float.line) m.alone (record { float = f; kept = k }) a.alone w; passed = a.passed }

  heads : (f : Float) (t : Alone) (o : Option Test) (m : SummaryView) → W f.line → Noting m → Noting (after_heads f t o m)
  heads f t None m w a = record { fit = a.fit; alone = a.alone; passed = tt }
  heads f t (Some x) m w a = none-heads f _ m m.clearing w a

  joining : (f : Float) (t : Joining) (o : Option Test) (m : SummaryView) → W f.line → Noting m → Noting (after_joining f t o m)
  joining f t None m w a = a
  joining f t (Some x) m w a = record { fit = a.fit; alone = a.alone; passed = all-push (λ (x : Noted). W x.float.line) m.passed _ a.passed w }

  all-kept : (ns : List Noted) (n : ℕ) (ss : List StoryView) → AllByRecursion (λ (x : Noted). W x.float.line) ns → AllFit W N W K n ss → AllFit W N W K n (kept_all ns ss)
  all-kept [] n ss w a = a
  all-kept (x ∷ ns) n ss w a = all-kept ns n (with_story x.float.line (kept_back x.kept) ss) w.1 (keeps-back K W N W W x.float.line x.kept w.0 (λ n i. inl i) n ss a)

  companied : (f : Float) (t : Made) (o : Option Test) (m : SummaryView) → W f.line → Noting m → Noting (after_company f t o m)
  companied f t None m w a = record { fit = all-kept m.passed m.sheets (kept_all m.alone m.stories) a.passed (all-kept m.alone m.sheets m.stories a.alone a.fit); alone = a.alone; passed = a.passed }
  companied f t (Some x) m w a = none-heads f _ m m.clearing w a

  -- it is told of a float that waits, and takes none
  abbrev pub IsOfWaiting : ToldColumn → Type 0
  IsOfWaiting (Heads f t) = W f.line
  IsOfWaiting (Joins f t) = W f.line
  IsOfWaiting (Companied f t) = W f.line
  IsOfWaiting (Takes f) = ⊥

  current : (line : ℕ) (m : SummaryView) → W line → Noting m → AreCurrent m.stories m.sheets line
  current line m w a = waiting-current K W N W line m.sheets w m.stories a.fit

  noted-current : (ns : List Noted) (m : SummaryView) → AllByRecursion (λ (x : Noted). W x.float.line) ns → Noting m → AllByRecursion (λ line. AreCurrent m.stories m.sheets line) (noted_lines ns)
  noted-current [] m w a = tt
  noted-current (x ∷ ns) m w a = (current x.float.line m w.0 a, noted-current ns m w.1 a)

  in-order : (t : ToldColumn) (m : SummaryView) → IsOfWaiting t → Noting m → IsTaleInOrder (InColumn t) m
  in-order (Heads f t) m w a = (current f.line m w a, tt)
  in-order (Joins f t) m w a = tt
  in-order (Companied f t) m w a =
      (current f.line m w a, all-join (λ line. AreCurrent m.stories m.sheets line) (noted_lines m.alone) (noted_lines m.passed) (noted-current m.alone m a.alone a) (noted-current m.passed m a.passed a))
  in-order (Takes f) m w a = absurd w

  kept-noting : (t : ToldColumn) (m : SummaryView) → IsOfWaiting t → Noting m → Noting (after_column t m)
  kept-noting (Heads f t) m w a = heads f t t.failed m w a
  kept-noting (Joins f t) m w a = joining f t t.failed m w a
  kept-noting (Companied f t) m w a = companied f t t.failed m w a
  kept-noting (Takes f) m w a = absurd w

  looks : (ts : List ToldColumn) (m : SummaryView) → AllByRecursion IsOfWaiting ts → Noting m → Tells (map (λ t. InColumn t) ts) m Noting
  looks [] m w a = record { order = tt; after = a }
  looks (t ∷ ts) m w a = let x = looks ts (after_column t m) w.1 (kept-noting t m w.0 a) in record { order = (in-order t m w.0 a, x.order); after = x.after }

  -- ---- the floats that are taken

  module _ (V : ℕ → Type 0) where
    -- these are still to be taken
    abbrev Among : List Float → ℕ → Type 0
    Among gs n = IsAmong n (float_lines gs)

    takes : (gs : List Float) (m : SummaryView) → ((n : ℕ) → Among gs n → V n → ⊥) → AllFit V (λ n. N n ⊎ Among gs n) (λ n. V n ⊎ Among gs n) K m.sheets m.stories
        → Tells (map (λ t. InColumn t) (map (λ g. Takes g) gs)) m (λ m. AllFit V N V K m.sheets m.stories)
    takes [] m apart a = record { order = tt; after = weaker K V (λ n. N n ⊎ ⊥) (λ n. V n ⊎ ⊥) V N V (λ n i. i) (λ n i. inl i) (λ n i. without n i) m.sheets m.stories a }
      where
        without : (n : ℕ) → V n ⊎ ⊥ → V n
        without n (inl i) = i
        without n (inr i) = absurd i
    takes (g ∷ gs) m apart a =
        let x = takes gs (after_tale (InColumn (Takes g)) m) (λ n i. apart n (inr i))
        (places K V (λ n. N n ⊎ Among (g ∷ gs) n) (λ n. V n ⊎ Among (g ∷ gs) n) V (λ n. N n ⊎ Among gs n) (λ n. V n ⊎ Among gs n) g.line places.Page refl (λ n i. i) (apart g.line (inl refl)) (λ n i. inl (now n i)) (λ n i. wait n i) m.sheets m.stories a) in
        record { order = ((placed-current K V (λ n. N n ⊎ Among (g ∷ gs) n) (λ n. V n ⊎ Among (g ∷ gs) n) g.line m.sheets (inr (inl refl)) m.stories a, tt), x.order); after = x.after }
      where
        now : (n : ℕ) → N n ⊎ Among gs n → N n ⊎ Among (g ∷ gs) n
        now n (inl i) = inl i
        now n (inr i) = inr (inr i)

        wait : (n : ℕ) → V n ⊎ Among (g ∷ gs) n → (V n ⊎ Among gs n) ⊎ (n ≡ g.line)
        wait n (inl i) = inl (inl i)
        wait n (inr (inl e)) = inr (sym e)
        wait n (inr (inr i)) = inl (inr i)

  -- ---- what is told of a column, in its parts

  module _ (z : Wanted) where
    -- tales of floats that wait come first, and then those of the floats that are taken
    pub record Parted (ts : List ToldColumn) (o : Option (List Choice)) : Type 0 where
      pub first : List ToldColumn
      pub whole : ts ≡ first ++ map (λ g. Takes g) (taken_floats o)
      pub waiting : AllByRecursion IsOfWaiting first

    abbrev pub AllWait : List Float → Type 0
    AllWait fs = AllByRecursion (λ (f : Float). W f.line) fs

    joins-wait : (before : List Choice) (fs : List Float) → AllWait fs → AllByRecursion IsOfWaiting (told_joins z before fs)
    joins-wait before [] w = tt
    joins-wait before (f ∷ fs) w =
        all-join IsOfWaiting (if_of_width z f (Joins f (joins_told z before f))) (told_joins z (before ++ record { float = f; chosen = joins z before f } ∷ []) fs) (by_width (beq f.wide z.wide)) (joins-wait (before ++ record { float = f; chosen = joins z before f } ∷ []) fs w.1)
      where
        by_width : (b : Bool) → AllByRecursion IsOfWaiting (if b then Joins f (joins_told z before f) ∷ [] else [])
        by_width true = (w.0, tt)
        by_width false = tt

    made-parted : (before : List Float) (f : Float) (fs : List Float) → W f.line → AllWait fs → Parted (told_made z before f fs) (Some (company_of_head z before f fs))
    made-parted before f fs w v =
        let cs = company_of_head z before f fs in
        let js = told_joins z (passed_over before ++ record { float = f; chosen = true } ∷ []) fs in
        record {
          first = js ++ Companied f (made_told z cs) ∷ [];
          whole = sym (append_assoc js (Companied f (made_told z cs) ∷ []) (map (λ g. Takes g) (chosen_floats cs)));
          waiting = all-push IsOfWaiting js (Companied f (made_told z cs)) (joins-wait (passed_over before ++ record { float = f; chosen = true } ∷ []) fs v) w;
        }

    one-more : (t : ToldColumn) (ts : List ToldColumn) (o : Option (List Choice)) → IsOfWaiting t → Parted ts o → Parted (t ∷ ts) o
    one-more t ts o w x = record { first = t ∷ x.first; whole = ap (λ us. t ∷ us) x.whole; waiting = (w, x.waiting) }

    head-by : (made : Bool) (t : ToldColumn) (x later : List ToldColumn) (cs : List Choice) (found : Option (List Choice)) → IsOfWaiting t → Parted x (Some cs) → Parted later found → Parted (if made then x else t ∷ later) (if made then Some cs else found)
    head-by true t x later cs found w h k = h
    head-by false t x later cs found w h k = one-more t later found w k

    float-by : (hold head made : Bool) (x later : List ToldColumn) (cs : List Choice) (found : Option (List Choice)) → hold ≡ head → Parted x (if made then Some cs else found) → Parted later found → Parted (if hold then x else later) (if head && made then Some cs else found)
    float-by true true made x later cs found e h k = h
    float-by false false made x later cs found e h k = k
    float-by true false made x later cs found e h k = cc
    float-by false true made x later cs found e h k = cc

    other-by : (ts : List ToldColumn) (a wide b c made : Bool) (cs : List Choice) (found : Option (List Choice)) → wide ≡ false → Parted ts found → Parted ts (if ((a && wide && b) && c) && made then Some cs else found)
    other-by ts false wide b c made cs found e h = h
    other-by ts true false b c made cs found e h = h
    other-by ts true true b c made cs found e h = cc

    wide-by : (w : Bool) (x later : List ToldColumn) (o : Option (List Choice)) → (w ≡ true → Parted x o) → (w ≡ false → Parted later o) → Parted (if w then x else later) o
    wide-by true x later o h k = h refl
    wide-by false x later o h k = k refl

    pub from-parted : (before fs : List Float) → AllWait fs → Parted (told_from z before fs) (company_from z before fs)
    from-parted before [] w = record { first = []; whole = refl; waiting = tt }
    from-parted before (f ∷ fs) w =
        let cs = company_of_head z before f fs in
        let later = told_from z (before ++ f ∷ []) fs in
        let found = company_from z (before ++ f ∷ []) fs in
        let rest = from-parted (before ++ f ∷ []) fs w.1 in
        wide-by (beq f.wide z.wide) (told_float z before f fs later) later (if is_head z before f && is_made z cs then Some cs else found)
        (λ wide. float-by-heads before f fs later cs found wide w.0
        (head-by (is_made z cs) (Companied f (made_told z cs)) (told_made z before f fs) later cs found w.0 (made-parted before f fs w.0 w.1) rest) rest)
        (λ narrow. other-by later (f.places.p || z.clearing) (beq f.wide z.wide) (int_le f.height z.height) (not (has_class f.class before)) (is_made z cs) cs found narrow rest)
      where
        first-then : (t : ToldColumn) (o : Option (List Choice)) (b : Bool) (x later : List ToldColumn) → IsOfWaiting t → Parted (if b then x else later) o → Parted (t ∷ (if b then x else later)) o
        first-then t o b x later w h = one-more t (if b then x else later) o w h

        float-by-heads : (before : List Float) (f : Float) (fs : List Float) (later : List ToldColumn) (cs : List Choice) (found : Option (List Choice)) → beq f.wide z.wide ≡ true → W f.line → Parted (told_head z before f fs later) (if is_made z cs then Some cs else found) → Parted later found
            → Parted (told_float z before f fs later) (if is_head z before f && is_made z cs then Some cs else found)
        float-by-heads before f fs later cs found wide w h k =
            first-then (Heads f (alone_told z before f)) (if is_head z before f && is_made z cs then Some cs else found) (all_hold (alone_tests z before f)) (told_head z before f fs later) later w
            (float-by (all_hold (alone_tests z before f)) (is_head z before f) (is_made z cs) (told_head z before f fs later) later cs found (heads_if z before f wide) h k)

    -- a list that has no float of the width has no company
    pub none-wide : (before fs : List Float) → has_width z.wide fs ≡ false → company_from z before fs ≡ None
    none-wide before [] e = refl
    none-wide before (f ∷ fs) e =
        no-head (f.places.p || z.clearing) (beq f.wide z.wide) (int_le f.height z.height) (not (has_class f.class before)) (is_made z (company_of_head z before f fs)) (company_of_head z before f fs) (company_from z (before ++ f ∷ []) fs)
        (or-left (beq f.wide z.wide) (has_width z.wide fs) e) (none-wide (before ++ f ∷ []) fs (or-right (beq f.wide z.wide) (has_width z.wide fs) e))
      where
        or-left : (a b : Bool) → (a || b) ≡ false → a ≡ false
        or-left true b e = e
        or-left false b e = refl

        or-right : (a b : Bool) → (a || b) ≡ false → b ≡ false
        or-right true b e = cc
        or-right false b e = e

        no-head : (a wide b c made : Bool) (cs : List Choice) (later : Option (List Choice)) → wide ≡ false → later ≡ None → (if ((a && wide && b) && c) && made then Some cs else later) ≡ None
        no-head false wide b c made cs later w e = e
        no-head true false b c made cs later w e = e
        no-head true true b c made cs later w e = cc

  -- what waits after a company has taken these floats
  pub record TakesOut (gs : List Float) (V : ℕ → Type 0) : Type 0 where
    pub fewer : (n : ℕ) → V n → W n
    pub most : (n : ℕ) → W n → V n ⊎ IsAmong n (float_lines gs)
    pub taken : (n : ℕ) → IsAmong n (float_lines gs) → W n
    pub apart : (n : ℕ) → IsAmong n (float_lines gs) → V n → ⊥

  -- until they are taken, the floats of the company are those that were placed
  with-taken-now : (gs : List Float) (V : ℕ → Type 0) → TakesOut gs V → (n : ℕ) (ss : List StoryView) → AllFit W N W K n ss → AllFit V (λ n. N n ⊎ IsAmong n (float_lines gs)) (λ n. V n ⊎ IsAmong n (float_lines gs)) K n ss
  with-taken-now gs V t n ss a = also-now K W N W V (λ n. IsAmong n (float_lines gs)) (λ n. V n ⊎ IsAmong n (float_lines gs)) t.fewer t.taken t.most n ss a

  -- what is told where a column is looked for is in order, and its floats wait no more
  pub column-told : (at : Spot) (z : Wanted) (fs : List Float) (V : ℕ → Type 0) → AllByRecursion (λ (f : Float). W f.line) fs → TakesOut (taken_floats (company z fs)) V → (m : SummaryView) → AllFit W N W K m.sheets m.stories
      → Tells (column_tales at z fs) m (λ m. AllFit V N V K m.sheets m.stories)
  column-told at z fs V w t m a = by_width (has_width z.wide fs) refl
    where
      gs : List Float
      gs = taken_floats (company z fs)

      begun : Noting (after_tale (Begins at z) m)
      begun = record { fit = a; alone = tt; passed = tt }

      now-or-taken : (m : SummaryView) → Noting m → AllFit V (λ n. N n ⊎ IsAmong n (float_lines gs)) (λ n. V n ⊎ IsAmong n (float_lines gs)) K m.sheets m.stories
      now-or-taken m x = with-taken-now gs V t m.sheets m.stories x.fit

      then-takes : (ts : List ToldColumn) → Parted z ts (company z fs) → Tells (map (λ t. InColumn t) ts) (after_tale (Begins at z) m) (λ m. AllFit V N V K m.sheets m.stories)
      then-takes ts x =
          subst (λ us. Tells us (after_tale (Begins at z) m) (λ m. AllFit V N V K m.sheets m.stories))
          (sym (ap (map (λ t. InColumn t)) x.whole ∙ map-append (λ t. InColumn t) x.first (map (λ g. Takes g) gs)))
          (tells-then (map (λ t. InColumn t) x.first) (map (λ t. InColumn t) (map (λ g. Takes g) gs)) (after_tale (Begins at z) m) Noting (λ m. AllFit V N V K m.sheets m.stories)
          (looks x.first (after_tale (Begins at z) m) x.waiting begun) (λ m x. takes V gs m t.apart (now-or-taken m x)))

      told : Tells (map (λ t. InColumn t) (told_column z fs)) (after_tale (Begins at z) m) (λ m. AllFit V N V K m.sheets m.stories)
      told = then-takes (told_column z fs) (from-parted z [] fs w)

      none-taken : has_width z.wide fs ≡ false → (n : ℕ) → W n → V n
      none-taken e n i = only (t.most n i)
        where
          none : IsAmong n (float_lines gs) → ⊥
          none j = subst (λ o. IsAmong n (float_lines (taken_floats o)) → ⊥) (sym (none-wide z [] fs e)) (λ k. k) j

          only : V n ⊎ IsAmong n (float_lines gs) → V n
          only (inl j) = j
          only (inr j) = absurd (none j)

      by_width : (b : Bool) → has_width z.wide fs ≡ b → Tells (if b then Begins at z ∷ map (λ t. InColumn t) (told_column z fs) else []) m (λ m. AllFit V N V K m.sheets m.stories)
      by_width true e = record { order = (tt, told.order); after = told.after }
      by_width false e = record { order = tt; after = weaker K W N W V N V t.fewer (λ n i. i) (none-taken e) m.sheets m.stories a }
