-- How the stories stand to a work: what its moves make of it, and the floats that are tried for the next column or pair.
use Rattle.std.proofs.Common.{◌≡◌, refl, sym, ◌∙◌, ap, subst, inl, inr, ◌⊎◌, ℕ, Bool, true, false, List, [], ◌∷◌, ◌++◌, if◌then◌else◌, append_assoc}
use Rattle.tb_node.specs.declared.Float.{Float}
use Rattle.tb_node.specs.declared.Where.{Where}
use Rattle.tb_node.specs.declared.Where.TheVariants as places
use Rattle.tb_param.specs.declared.Params.{Params}
use Rattle.tb_float.specs.declared.Part.{Part}
use Rattle.tb_float.specs.declared.Part.TheVariants as parts
use Rattle.tb_float.specs.Lists.{FloatLists, IsWaiting, floats_of, with_floats_of, wide_part}
use Rattle.tb_float.proofs.WaitingLemmas.{wide-waits}
use Rattle.tb_float.specs.Rooms.{column_height_of}
use Rattle.tb_area.specs.Area.{AreaPlace, at_top, at_bottom, deferred, where_of, next_area_place, double_place, goes_double}
use Rattle.tb_sheet.specs.Sheet.{PlainSheet}
use Rattle.tb_told.specs.declared.Told.{Told}
use Rattle.tb_told.specs.AreaTold.{told_next, told_wide, place_told}
use Rattle.tb_told.proofs.AreaLemmas.{next_decides, wide_decides}
use Rattle.tb_told.specs.Tales.{tales, decisions}
use Rattle.tb_output.specs.State.{State, Work, Recorded, placed, records_also, with_floats}
use Rattle.tb_output.specs.FloatMoves.{joined_to, still_deferred, place_waiting, place_next, place_double}
use Rattle.tb_output.specs.Pages.{ship}
use Rattle.tb_output.proofs.StepLaws.RefusedSteps.{by-records, by-any-ship}
use Rattle.tb_output.proofs.StepLaws.Moves.{nothing, places_next, places_double, by_fill}
use Rattle.tb_story.specs.Story.{is_deferred}
use Rattle.tb_story.specs.Summary.{SummaryView}
use Rattle.tb_why.specs.Firing.{unless_over, next_pieces, double_pieces}
use Rattle.tb_laws.proofs.ClassesRise.RisingLists.{IsAmong}
use Rattle.tb_why_laws.proofs.OnePlace.WaitingLines.{waiting_lines}
use Rattle.tb_why_laws.proofs.OnePlace.Once.{Once}
use Rattle.tb_why_laws.proofs.OnePlace.OnceMoves.{column-once, page-once}
use Rattle.tb_why_laws.proofs.OnePlace.OnceLists.{left-apart}
use Rattle.tb_why_laws.proofs.InOrder.FitLemmas.{AllFit, true-not-false, keeps-back, places, waiting-current}
use Rattle.tb_why_laws.proofs.InOrder.DecisionLemmas.{Tells, Leads, IsAsked, Moves, decision, next-leads, wide-leads}
use Rattle.tb_why_laws.proofs.InOrder.ShowLemmas.{Shows, shows-then, shows-none, shows-before, shows-tales}
use Rattle.tb_why_laws.proofs.InOrder.PlacingLemmas.{area_lines, waited, waited-too, waits-still, same-areas, joins-area}

-- the float of the line waits
abbrev pub Waits : State → ℕ → Type 0
Waits s n = IsAmong n (waiting_lines s.floats)

-- it was placed for the column or page that is being made
abbrev pub IsInArea : State → ℕ → Type 0
IsInArea s n = IsAmong n (area_lines s)

module _ (p : Params) (K : ℕ → Type 0) where
  -- the stories fit the state: what waits there waits, and what is in its areas was placed since the last sheet
  abbrev pub FitState : State → SummaryView → Type 0
  FitState s m = AllFit (Waits s) (IsInArea s) (Waits s) K m.sheets m.stories

  -- the same of a work, unless the page limit was met
  abbrev pub Stand : Work → SummaryView → Type 0
  Stand w m = w.refused ≡ false → FitState w.state m

  pub stand-stopped : (w : Work) (m : SummaryView) → w.refused ≡ true → Stand w m
  stand-stopped w m e r = absurd (true-not-false w.refused e r)

  -- ---- moves

  -- a page is shipped: the lists stay
  pub stand-shipped : (sheet : PlainSheet) (w : Work) (m : SummaryView) → Stand w m → Stand (ship p sheet w) m
  stand-shipped sheet w m h = by-any-ship (λ c. Stand c m) p sheet w h (λ r. absurd (true-not-false true refl r)) h

  pub records-send : (r : Recorded) (w : Work) → (records_also r w).sent ≡ w.sent
  records-send r w = by-records (λ c. c.sent ≡ w.sent) r w refl refl

  -- a float goes to a list
  abbrev pub moved_to : Where → Float → FloatLists → Work → Work
  moved_to place f left w = with_floats (joined_to place f left) (records_also (placed p f place w.state.floats (column_height_of p w.state.floats)) w)

  pub stand-moved : (place : Where) (f : Float) (left : FloatLists) (w : Work) (m : SummaryView) → (w.refused ≡ false → FitState (record w.state { floats = joined_to place f left }) m) → Stand (moved_to place f left w) m
  stand-moved place f left w m h = by-records (λ c. Stand (with_floats (joined_to place f left) c) m) (placed p f place w.state.floats (column_height_of p w.state.floats)) w h h

  pub moved-sends : (place : Where) (f : Float) (left : FloatLists) (w : Work) → (moved_to place f left w).sent ≡ w.sent
  moved-sends place f left w = by-records (λ c. c.sent ≡ w.sent) (placed p f place w.state.floats (column_height_of p w.state.floats)) w refl refl

  -- ---- a float that waits is tried

  -- it goes to an area of the column or page
  abbrev Joins : Where → Type 0
  Joins places.Here = ⊥
  Joins places.Top = Unit {0}
  Joins places.Bottom = Unit {0}
  Joins places.Page = ⊥
  Joins places.Double = Unit {0}
  Joins places.Deferred = ⊥

  module _ (from : Part) (waiting : IsWaiting from) (before rest : List Float) (f : Float) (w : Work) (once : Once nothing w) (e : floats_of from w.state.floats ≡ before ++ f ∷ rest) where
    -- the lists without it
    abbrev left : FloatLists
    left = with_floats_of from (before ++ rest) w.state.floats

    this : Waits w.state f.line
    this = waited from waiting before rest f w.state.floats e

    -- a float that stays
    stays : (needs : Bool) → needs ≡ false → Moves needs f.line places.Deferred (λ ss n. AllFit (Waits w.state) (IsInArea w.state) (Waits w.state) K n ss) (λ ss n. AllFit (Waits w.state) (IsInArea w.state) (Waits w.state) K n ss)
    stays needs none = record {
      current = λ ss n a. waiting-current K (Waits w.state) (IsInArea w.state) (Waits w.state) f.line n this ss a;
      placed = λ d. cc;
      kept = λ d k ss n a. keeps-back K (Waits w.state) (IsInArea w.state) (Waits w.state) (Waits w.state) f.line k this (λ n i. inl i) n ss a;
      stays = λ d r ss n a. a;
    }

    -- the lines that wait once it has gone
    abbrev Still : ℕ → Type 0
    Still n = IsAmong n (waiting_lines (with_floats_of from (before ++ rest) w.state.floats))

    -- a float that goes to an area
    module _ (place : Where) (area : is_deferred place ≡ false) (r : w.refused ≡ false) (N : ℕ → Type 0) (now : (n : ℕ) → N n → IsInArea w.state n ⊎ (n ≡ f.line)) where
      leaves : Moves false f.line place (λ ss n. AllFit (Waits w.state) (IsInArea w.state) (Waits w.state) K n ss) (λ ss n. AllFit Still N Still K n ss)
      leaves = record {
        current = λ ss n a. waiting-current K (Waits w.state) (IsInArea w.state) (Waits w.state) f.line n this ss a;
        placed = λ d ss n a. places K (Waits w.state) (IsInArea w.state) (Waits w.state) Still N Still f.line place area (λ n i. waited-too from waiting before rest f w.state.floats e n i) (left-apart nothing w once r from waiting before rest f e) now
            (λ n i. waits-still from waiting before rest f w.state.floats e n i) n ss a;
        kept = λ d. absurd (true-not-false (is_deferred place) d area);
        stays = λ d. absurd (true-not-false (is_deferred place) d area);
      }

    -- the area that it joins has it as its only new float
    joined-now : (place : Where) (n : ℕ) → IsInArea (record w.state { floats = joined_to place f left }) n → IsInArea w.state n ⊎ (n ≡ f.line)
    joined-now place n i = subst (λ l. IsAmong n l ⊎ (n ≡ f.line)) (same-areas from waiting (before ++ rest) w.state) (joins-area place f (record w.state { floats = left }) n i)

    -- what is told of a float that goes to a place, and of one that stays
    tells-moved : (place : Where) → Joins place → (ts : List Told) → Leads true ts place → (m : SummaryView) → w.refused ≡ false → FitState w.state m → Tells (decisions f ts) m (λ m. FitState (record w.state { floats = joined_to place f left }) m)
    tells-moved places.Top j ts l m r a = decision false f places.Top _ _ (leaves places.Top refl r (IsInArea (record w.state { floats = joined_to places.Top f left })) (λ n i. joined-now places.Top n i)) true ts l m (λ q. cc) a
    tells-moved places.Bottom j ts l m r a = decision false f places.Bottom _ _ (leaves places.Bottom refl r (IsInArea (record w.state { floats = joined_to places.Bottom f left })) (λ n i. joined-now places.Bottom n i)) true ts l m (λ q. cc) a
    tells-moved places.Double j ts l m r a = decision false f places.Double _ _ (leaves places.Double refl r (IsInArea (record w.state { floats = joined_to places.Double f left })) (λ n i. joined-now places.Double n i)) true ts l m (λ q. cc) a
    tells-moved place j ts l m r a = absurd j

    tells-stays : (ts : List Told) → (ts ≡ []) ⊎ Leads true ts places.Deferred → (m : SummaryView) → FitState w.state m → Tells (decisions f ts) m (λ m. FitState w.state m)
    tells-stays ts (inl none) m a = subst (λ us. Tells (decisions f us) m (λ m. FitState w.state m)) (sym none) (record { order = tt; after = a })
    tells-stays ts (inr l) m a = decision false f places.Deferred _ _ (stays false refl) true ts l m (λ q. cc) a

    asked-leads : (ts : List Told) (place : Where) → IsAsked ts → place_told ts ≡ place → (place ≡ places.Deferred → ⊥) → Leads true ts place
    asked-leads ts place (inl none) is other = absurd (other (sym is ∙ ap place_told none))
    asked-leads ts place (inr l) is other = subst (Leads true ts) is l

    asked-stays : (ts : List Told) → IsAsked ts → place_told ts ≡ places.Deferred → (ts ≡ []) ⊎ Leads true ts places.Deferred
    asked-stays ts (inl none) is = inl none
    asked-stays ts (inr l) is = inr (subst (Leads true ts) is l)

    goes-there : (place : Where) → Joins place → (place ≡ places.Deferred → ⊥) → (ts : List Told) → IsAsked ts → place_told ts ≡ place → (m : SummaryView) → Stand w m → Shows w (moved_to place f left w) (unless_over w (tales (decisions f ts))) m (Stand (moved_to place f left w))
    goes-there place j other ts asked is m h =
        shows-before w w (moved_to place f left w) (unless_over w (tales (decisions f ts))) m (λ n. w.refused ≡ false → FitState (record w.state { floats = joined_to place f left }) n) (Stand (moved_to place f left w)) (moved-sends place f left w) (λ n x. stand-moved place f left w n x)
        (shows-tales w (decisions f ts) m (λ n. w.refused ≡ false → FitState (record w.state { floats = joined_to place f left }) n) (λ r q. absurd (true-not-false w.refused r q))
        (λ r. let x = tells-moved place j ts (asked-leads ts place asked is other) m r (h r) in record { order = x.order; after = λ q. x.after }))

    -- it goes where it is told to go, or stays
    pub tries : (place : Where) → Joins place ⊎ (place ≡ places.Deferred) → (ts : List Told) → IsAsked ts → place_told ts ≡ place → (m : SummaryView) → Stand w m → Shows w (place_waiting from p place f before rest w) (unless_over w (tales (decisions f ts))) m (Stand (place_waiting from p place f before rest w))
    tries places.Top j ts asked is m h = goes-there places.Top tt (λ q. cc) ts asked is m h
    tries places.Bottom j ts asked is m h = goes-there places.Bottom tt (λ q. cc) ts asked is m h
    tries places.Double j ts asked is m h = goes-there places.Double tt (λ q. cc) ts asked is m h
    tries places.Deferred j ts asked is m h =
        shows-tales w (decisions f ts) m (Stand w) (λ r q. absurd (true-not-false w.refused r q)) (λ r. let x = tells-stays ts (asked-stays ts asked is) m (h r) in record { order = x.order; after = λ q. x.after })
    tries places.Here (inl j) ts asked is m h = absurd j
    tries places.Here (inr e) ts asked is m h = cc
    tries places.Page (inl j) ts asked is m h = absurd j
    tries places.Page (inr e) ts asked is m h = cc

  -- ---- each float that waits

  -- where a float goes at the start of a column
  next-joins : (a : AreaPlace) → Joins (where_of a) ⊎ (where_of a ≡ places.Deferred)
  next-joins at_top = inl tt
  next-joins at_bottom = inl tt
  next-joins deferred = inr refl

  double-joins : (b : Bool) → Joins (if b then places.Double else places.Deferred) ⊎ ((if b then places.Double else places.Deferred) ≡ places.Deferred)
  double-joins true = inl tt
  double-joins false = inr refl

  -- the list after a float was tried
  next-left : (place : Where) (f : Float) (before rest : List Float) (w : Work) → Joins place ⊎ (place ≡ places.Deferred) → w.state.floats.deferred ≡ before ++ f ∷ rest → (place_waiting parts.Deferred p place f before rest w).state.floats.deferred ≡ still_deferred place f before ++ rest
  next-left places.Top f before rest w j e = refl
  next-left places.Bottom f before rest w j e = refl
  next-left places.Double f before rest w j e = refl
  next-left places.Deferred f before rest w j e = e ∙ sym (append_assoc before (f ∷ []) rest)
  next-left places.Here f before rest w (inl j) e = absurd j
  next-left places.Here f before rest w (inr j) e = cc
  next-left places.Page f before rest w (inl j) e = absurd j
  next-left places.Page f before rest w (inr j) e = cc

  next-once : (a : AreaPlace) (f : Float) (before rest : List Float) (w : Work) → next_area_place p w.state.floats w.state.suppress before f ≡ a → w.state.floats.deferred ≡ before ++ f ∷ rest → Once nothing w → Once nothing (place_waiting parts.Deferred p (where_of a) f before rest w)
  next-once at_top f before rest w is e once = page-once {p = p} (by_fill (places_next at_top f before rest w tt e is)) once
  next-once at_bottom f before rest w is e once = page-once {p = p} (by_fill (places_next at_bottom f before rest w tt e is)) once
  next-once deferred f before rest w is e once = once

  -- each float that waits is tried for the next column
  pub next-shown : (before fs : List Float) (w : Work) → Once nothing w → w.state.floats.deferred ≡ before ++ fs → (m : SummaryView) → Stand w m → Shows w (place_next p before fs w) (next_pieces p before fs w) m (Stand (place_next p before fs w))
  next-shown before [] w once e m h = shows-none w w m (Stand w) refl h
  next-shown before (f ∷ rest) w once e m h =
      let a = next_area_place p w.state.floats w.state.suppress before f in
      let place = where_of a in
      let ts = told_next p w.state.floats w.state.suppress before f in
      let v = place_waiting parts.Deferred p place f before rest w in
      shows-then w v (place_next p (still_deferred place f before) rest v) (unless_over w (tales (decisions f ts))) (next_pieces p (still_deferred place f before) rest v) m (Stand v) (Stand (place_next p (still_deferred place f before) rest v))
      (tries parts.Deferred tt before rest f w once e place (next-joins a) ts (next-leads p w.state.floats w.state.suppress before f) (next_decides p w.state.floats w.state.suppress before f) m h)
      (λ n x. next-shown (still_deferred place f before) rest v (next-once a f before rest w refl e once) (next-left place f before rest w (next-joins a) e) n x)

  double-left : (b : Bool) (f : Float) (before rest : List Float) (w : Work) (from : Part) → IsWaiting from → floats_of from w.state.floats ≡ before ++ f ∷ rest
      → floats_of from (place_waiting from p (if b then places.Double else places.Deferred) f before rest w).state.floats ≡ still_deferred (if b then places.Double else places.Deferred) f before ++ rest
  double-left true f before rest w parts.Deferred q e = refl
  double-left true f before rest w parts.Second q e = refl
  double-left true f before rest w from q e = absurd q
  double-left false f before rest w from q e = e ∙ sym (append_assoc before (f ∷ []) rest)

  double-once : (b : Bool) (f : Float) (before rest : List Float) (w : Work) → w.state.two_columns ≡ true → goes_double p w.state.floats w.state.suppress before f ≡ b → floats_of (wide_part p) w.state.floats ≡ before ++ f ∷ rest → Once nothing w
      → Once nothing (place_waiting (wide_part p) p (if b then places.Double else places.Deferred) f before rest w)
  double-once true f before rest w two is e once = column-once {p = p} (places_double f before rest w two e is) once
  double-once false f before rest w two is e once = once

  double-two : (b : Bool) (f : Float) (before rest : List Float) (w : Work) → (place_waiting (wide_part p) p (if b then places.Double else places.Deferred) f before rest w).state.two_columns ≡ w.state.two_columns
  double-two true f before rest w = by-records (λ c. c.state.two_columns ≡ w.state.two_columns) (placed p f places.Double w.state.floats (column_height_of p w.state.floats)) w refl refl
  double-two false f before rest w = refl

  -- each wide float that waits is tried for the space above both columns
  pub double-shown : (before fs : List Float) (w : Work) → Once nothing w → w.state.two_columns ≡ true → floats_of (wide_part p) w.state.floats ≡ before ++ fs → (m : SummaryView) → Stand w m
      → Shows w (place_double (wide_part p) p before fs w) (double_pieces (wide_part p) p before fs w) m (Stand (place_double (wide_part p) p before fs w))
  double-shown before [] w once two e m h = shows-none w w m (Stand w) refl h
  double-shown before (f ∷ rest) w once two e m h =
      let b = goes_double p w.state.floats w.state.suppress before f in
      let place = double_place p w.state.floats w.state.suppress before f in
      let ts = told_wide p w.state.floats w.state.suppress before f in
      let v = place_waiting (wide_part p) p place f before rest w in
      shows-then w v (place_double (wide_part p) p (still_deferred place f before) rest v) (unless_over w (tales (decisions f ts))) (double_pieces (wide_part p) p (still_deferred place f before) rest v) m (Stand v) (Stand (place_double (wide_part p) p (still_deferred place f before) rest v))
      (tries (wide_part p) (wide-waits p) before rest f w once e place (double-joins b) ts (wide-leads p w.state.floats w.state.suppress before f) (wide_decides p w.state.floats w.state.suppress before f) m h)
      (λ n x. double-shown (still_deferred place f before) rest v (double-once b f before rest w two refl e once) (double-two b f before rest w ∙ two) (double-left b f before rest w (wide_part p) (wide-waits p) e) n x)
