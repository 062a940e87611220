-- A turn of the builder, from the steps of a page that is laid out.
use Rattle.std.proofs.Common.{◌≡◌, ◌⊎◌, inl, inr, refl, sym, ◌∙◌, ap, ℕ, ℤ, Bool, true, false, List, [], ◌∷◌, ◌++◌, Option, None, Some, append_assoc, append-nil}
use Rattle.std.specs.Prelude.{◌||◌, if◌then◌else◌}
use Rattle.std.proofs.lemmas.Bool.{true≢false}
use Rattle.std.proofs.Math.Bool.{or-false, or-true, or_assoc}
use Rattle.tb_node.specs.declared.Act.{Act}
use Rattle.tb_node.specs.Shape.{other, is_box, is_discardable}
use Rattle.tb_node.specs.PlainNodes.{skip, kerned, pen, PlainKind, plain, act, PlainNode, node_shape, is_act_kind}
use Rattle.tb_break.specs.Places.{ends_lasting}
use Rattle.tb_break.specs.Best.{Breakpoint, least_cost}
use Rattle.tb_break.specs.Split.{with_place}
use Rattle.tb_break.specs.PageTop.{pruned_nodes, pruned_at}
use Rattle.tb_insert.specs.Terms.{Terms}
use Rattle.tb_insert.specs.declared.Class.{Class}
use Rattle.tb_insert.specs.Account.{Frozen, terms_after}
use Rattle.tb_builder.specs.declared.Ask.{Ask}
use Rattle.tb_builder.specs.declared.Try.{Try}
use Rattle.tb_builder.specs.declared.Course.{Course}
use Rattle.tb_builder.specs.Reach.{acted, tried, also_reached, reach_from, holds_box, page_place, breakpoints, try_of}
use Rattle.tb_builder.specs.FiredPages.{Boxed, frozen_for}
use Rattle.tb_builder.specs.LegalPlaces.{page_shapes, glue_first, glue_or, node_penalty, page_places}
use Rattle.tb_builder.specs.Contents.{Contents, frozen_or, frozen_of, ahead_of, laid, reach_ahead, places_of, frozen_with}
use Rattle.tb_builder.specs.Courses.{places_by, frozen_at, is_loose, AllLoose, AllLasting}
use Rattle.tb_builder.specs.PageProgress.{KeepsStart}
use Rattle.tb_builder.specs.PageEvents.{KeepsBoxes, GoesPast, IsTheStop, ActedIs, EmptyIs}
use Rattle.tb_builder.specs.PageTurns.{reach_on, places_on, GoesUntried, GoesOn, StopsThere, ReachesNothing}
use Rattle.tb_builder.proofs.LegalPlaces.CourseLemmas.{loose_shape}
use Rattle.tb_builder.proofs.LegalPlaces.PageLemmas.{places_pass, reach_pass, reach_acts, glue_acts}

-- ---- boxes on a page

pub holds-append : (page : List PlainNode) (n : PlainNode) → holds_box (page ++ n ∷ []) ≡ (holds_box page || is_box (node_shape n))
holds-append [] n = or-false (is_box (node_shape n))
holds-append (m ∷ ms) n = ap (λ b. is_box (node_shape m) || b) (holds-append ms n) ∙ sym (or_assoc (is_box (node_shape m)) (holds_box ms) (is_box (node_shape n)))

-- a node that is no box leaves a page with or without a box; a box makes it a page with a box
pub holds_same : (page : List PlainNode) (n : PlainNode) → is_box (node_shape n) ≡ false → holds_box (page ++ n ∷ []) ≡ holds_box page
holds_same page n e = holds-append page n ∙ ap (λ b. holds_box page || b) e ∙ or-false (holds_box page)

pub holds_now : (page : List PlainNode) (n : PlainNode) → is_box (node_shape n) ≡ true → holds_box (page ++ n ∷ []) ≡ true
holds_now page n e = holds-append page n ∙ ap (λ b. holds_box page || b) e ∙ or-true (holds_box page)

-- ---- a page without glue, kerns and penalties has no place

pub lasting-append : (page : List PlainNode) (n : PlainNode) → AllLasting page → is_discardable (node_shape n) ≡ false → AllLasting (page ++ n ∷ [])
lasting-append [] n h e = (e, tt)
lasting-append (m ∷ ms) n h e = (h.0, lasting-append ms n h.1 e)

no_penalty : (lasting g : Bool) (line : ℕ) (k : PlainKind) → (let n : PlainNode = record { line = line; kind = k } in is_discardable (node_shape n) ≡ false → node_penalty lasting g n ≡ None)
no_penalty lasting g line (plain (skip x)) e = absurd (true≢false e)
no_penalty lasting g line (plain (kerned w)) e = absurd (true≢false e)
no_penalty lasting g line (plain (pen p)) e = absurd (true≢false e)
no_penalty lasting g line k e = refl

pub lasting_penalty : (lasting g : Bool) (n : PlainNode) → is_discardable (node_shape n) ≡ false → node_penalty lasting g n ≡ None
lasting_penalty lasting g n e = no_penalty lasting g n.line n.kind e

pub lasting_places : (limit : ℤ) (terms : List PlainNode → Terms) (before page : List PlainNode) (g : Bool) → AllLasting page → page_places limit terms before page g ≡ []
lasting_places limit terms before [] g h = refl
lasting_places limit terms before (n ∷ ns) g h =
    ap (λ o. with_place o (page_place limit terms before) (page_places limit terms (before ++ n ∷ []) ns g)) (lasting_penalty (ends_lasting (page_shapes before)) (glue_or g ns) n h.0)
    ∙ lasting_places limit terms (before ++ n ∷ []) ns g h.1

loose_lasting : (line : ℕ) (k : PlainKind) → is_loose k ≡ true → (let n : PlainNode = record { line = line; kind = k } in is_discardable (node_shape n) ≡ false)
loose_lasting line k e = ap is_discardable (loose_shape line k e)

pub all_lasting : (page : List PlainNode) → AllLoose page → AllLasting page
all_lasting [] h = tt
all_lasting (n ∷ ns) h = (loose_lasting n.line n.kind h.0, all_lasting ns h.1)

pub loose-append : (page : List PlainNode) (n : PlainNode) → AllLoose page → is_loose n.kind ≡ true → AllLoose (page ++ n ∷ [])
loose-append [] n h e = (e, tt)
loose-append (m ∷ ms) n h e = (h.0, loose-append ms n h.1 e)

-- ---- the goal and the depth limit that are frozen

pub frozen_as : (o : Option Ask) (ask : Ask) (cs : List Class) (boxes : List Boxed) → frozen_at (Some (frozen_with o ask)) cs boxes ≡ frozen_or o ask cs boxes
frozen_as o ask cs boxes = refl

-- the contents after the goal was frozen, with the same classes and boxes
pub record Same (c d : Contents) (ask : Ask) : Type 0 where
  pub classes : d.classes ≡ c.classes
  pub boxes : d.boxes ≡ c.boxes
  pub frozen : d.frozen ≡ c.frozen ⊎ (d.frozen ≡ Some (frozen_with c.frozen ask))

pub same_made : (c d : Contents) (ask : Ask) → Same c d ask → frozen_with d.frozen ask ≡ frozen_with c.frozen ask
same_made c d ask s = by_frozen s.frozen
  where
    by_frozen : (d.frozen ≡ c.frozen ⊎ (d.frozen ≡ Some (frozen_with c.frozen ask))) → frozen_with d.frozen ask ≡ frozen_with c.frozen ask
    by_frozen (inl e) = ap (λ o. frozen_with o ask) e
    by_frozen (inr e) = ap (λ o. frozen_with o ask) e

-- what is frozen stays, and what would be frozen
pub keeps-frozen : {c d : Contents} {ask : Ask} → KeepsBoxes c d ask → frozen_of d ask ≡ frozen_of c ask
keeps-frozen k = λ i. frozen_for (k.made i) (k.classes i) (k.boxes i)

-- the page is made for what is asked, with the classes and boxes of its start
pub start-frozen : {s c : Contents} {ask : Ask} → KeepsStart s c ask → frozen_of c ask ≡ frozen_for ask s.classes s.boxes
start-frozen k = λ i. frozen_for (k.made i) (k.classes i) (k.boxes i)

pub same_keeps : (c d : Contents) (ask : Ask) → Same c d ask → (f : Ask) → c.frozen ≡ Some f → d.frozen ≡ Some f
same_keeps c d ask s f e = by_frozen s.frozen
  where
    by_frozen : (d.frozen ≡ c.frozen ⊎ (d.frozen ≡ Some (frozen_with c.frozen ask))) → d.frozen ≡ Some f
    by_frozen (inl h) = h ∙ e
    by_frozen (inr h) = h ∙ ap (λ o. Some (frozen_with o ask)) e

-- ---- what is ahead

pub ahead_open : (c : Contents) (ask : Ask) → holds_box c.page ≡ true → ahead_of c ask ≡ c.waiting
ahead_open c ask e = ap (λ b. if b then c.waiting else pruned_nodes ask.top_skip c.waiting) e

pub ahead_closed : (c : Contents) (ask : Ask) → holds_box c.page ≡ false → ahead_of c ask ≡ pruned_nodes ask.top_skip c.waiting
ahead_closed c ask e = ap (λ b. if b then c.waiting else pruned_nodes ask.top_skip c.waiting) e

-- the contents c are laid out as the page and the waiting nodes of the contents m
pub record Lays (z : Frozen) (ask : Ask) (c m : Contents) : Type 0 where
  pub laid_is : laid c ask ≡ m.page ++ m.waiting
  pub reach_is : reach_ahead c ask ≡ reach_on z m
  pub places_is : places_of c ask ≡ places_on z m

-- a page with a box is laid out
pub lays_open : (z : Frozen) (ask : Ask) (c : Contents) → frozen_of c ask ≡ z → holds_box c.page ≡ true → Lays z ask c c
lays_open z ask c f e = record {
  laid_is = ap (λ w. c.page ++ w) (ahead_open c ask e);
  reach_is = (λ i. reach_from (f i).limit (terms_after (f i)) c.page (ahead_open c ask e i));
  places_is = ap (λ x. places_by x c.page c.waiting) f;
}

-- a page without a box is laid out once what waits is pruned
pub lays_closed : (z : Frozen) (ask : Ask) (c m : Contents) → frozen_of c ask ≡ z → holds_box c.page ≡ false → AllLasting c.page → m.page ≡ c.page → m.waiting ≡ pruned_nodes ask.top_skip c.waiting → Lays z ask c m
lays_closed z ask c m f e h page waiting = record {
  laid_is = (λ i. sym page i ++ (ahead_closed c ask e ∙ sym waiting) i);
  reach_is = (λ i. reach_from (f i).limit (terms_after (f i)) (sym page i) ((ahead_closed c ask e ∙ sym waiting) i));
  places_is = lasting_places (frozen_of c ask).limit (terms_after (frozen_of c ask)) [] c.page (glue_first c.waiting) h ∙ sym (ap (λ p. page_places z.limit (terms_after z) [] p (glue_first m.waiting)) page ∙ lasting_places z.limit (terms_after z) [] c.page (glue_first m.waiting) h);
}

-- ---- events from steps

module _ (z : Frozen) (ask : Ask) (c m : Contents) (lays : Lays z ask c m) where
  pub turns_on : (d e : Contents) → GoesUntried z m d → Lays z ask e d → e.stopped ≡ false → ReachesNothing c e ask
  turns_on d e p l on = record {
    reach = lays.reach_is ∙ p.reach ∙ sym l.reach_is;
    places = l.places_is ∙ p.places ∙ sym lays.places_is;
    whole = l.laid_is ∙ p.whole ∙ sym lays.laid_is;
    stopped = on;
  }

  pub goes_on : (line : ℕ) (b : Breakpoint) (d e : Contents) → GoesOn z line b m d → Lays z ask e d → e.stopped ≡ false → GoesPast (laid c ask) (reach_ahead c ask) (places_of c ask) ask line b e
  goes_on line b d e g l on = record {
    reach = lays.reach_is ∙ g.reach ∙ ap (also_reached (tried line b)) (sym l.reach_is);
    places = l.places_is ∙ g.places ∙ ap (λ bs. bs ++ b ∷ []) (sym lays.places_is);
    whole = l.laid_is ∙ g.whole ∙ sym lays.laid_is;
    stopped = on;
  }

  pub stops_there : (line : ℕ) (b : Breakpoint) (k : Course) (d : Contents) → StopsThere z line b k m d → frozen_of d ask ≡ z → laid d ask ≡ d.page ++ d.waiting → IsTheStop (laid c ask) (reach_ahead c ask) (places_of c ask) ask line b d
  stops_there line b k d s f l = record {
    reach = lays.reach_is ∙ s.reach;
    reached = ap (λ x. breakpoints (reach_from x.limit (terms_after x) [] (d.page ++ d.waiting)).reached) f ∙ s.reached ∙ ap (λ bs. bs ++ b ∷ []) (sym lays.places_is);
    passed = ap (λ x. (reach_from x.limit (terms_after x) [] (d.page ++ d.waiting)).passed) f ∙ s.passed;
    beyond = ap (λ x. (reach_from x.limit (terms_after x) [] (d.page ++ d.waiting)).beyond) f ∙ s.beyond;
    whole = (λ i. s.page i ++ s.waiting i) ∙ sym lays.laid_is;
    still = l ∙ (λ i. s.page i ++ s.waiting i) ∙ sym lays.laid_is;
    stopped = s.stopped;
  }

  pub made_on : (t : Try) (line : ℕ) (b : Breakpoint) → t ≡ try_of line b (least_cost (places_on z m)) → t ≡ try_of line b (least_cost (places_of c ask))
  made_on t line b e = e ∙ ap (λ bs. try_of line b (least_cost bs)) (sym lays.places_is)

-- ---- an act

pub acts_turn : (c d : Contents) (ask : Ask) (line : ℕ) (a : Act) → c.waiting ≡ record { line = line; kind = act a } ∷ d.waiting → d.page ≡ c.page → frozen_of d ask ≡ frozen_of c ask → d.stopped ≡ false
    → ActedIs a (laid c ask) (reach_ahead c ask) (places_of c ask) ask d
acts_turn c d ask line a first page frozen on = record {
  reach = ap (reach_from (frozen_of c ask).limit (terms_after (frozen_of c ask)) c.page) ahead ∙ reach_acts (frozen_of c ask).limit (terms_after (frozen_of c ask)) c.page (ahead_of d ask) (record { line = line; kind = act a }) a refl
      ∙ ap (also_reached (acted a)) (λ i. reach_from (sym frozen i).limit (terms_after (sym frozen i)) (sym page i) (ahead_of d ask));
  places = (λ i. page_places (frozen i).limit (terms_after (frozen i)) [] (page i) (glue_first d.waiting))
      ∙ ap (page_places (frozen_of c ask).limit (terms_after (frozen_of c ask)) [] c.page) (sym (glue_acts (frozen_of c ask).limit (terms_after (frozen_of c ask)) d.waiting (record { line = line; kind = act a }) a refl) ∙ sym (ap glue_first first));
  whole = record { before = c.page; line = line; after = ahead_of d ask; was = ap (λ w. c.page ++ w) ahead; left = ap (λ p. p ++ ahead_of d ask) page };
  stopped = on;
}
  where
    by_box : (b : Bool) → (if b then record { line = line; kind = act a } ∷ d.waiting else pruned_nodes ask.top_skip (record { line = line; kind = act a } ∷ d.waiting)) ≡ record { line = line; kind = act a } ∷ (if b then d.waiting else pruned_nodes ask.top_skip d.waiting)
    by_box true = refl
    by_box false = refl

    ahead : ahead_of c ask ≡ record { line = line; kind = act a } ∷ ahead_of d ask
    ahead = ap (λ w. if holds_box c.page then w else pruned_nodes ask.top_skip w) first ∙ by_box (holds_box c.page)
        ∙ ap (λ p. record { line = line; kind = act a } ∷ (if holds_box p then d.waiting else pruned_nodes ask.top_skip d.waiting)) (sym page)

-- ---- nothing waits

pub empty_turn : (c : Contents) (ask : Ask) → c.waiting ≡ [] → c.stopped ≡ false → EmptyIs (laid c ask) (reach_ahead c ask) (places_of c ask) ask c
empty_turn c ask e on = record {
  reach = ap (reach_from (frozen_of c ask).limit (terms_after (frozen_of c ask)) c.page) ahead;
  waiting = e;
  places = refl;
  whole = sym (ap (λ w. c.page ++ w) ahead ∙ append-nil c.page);
  stopped = on;
}
  where
    by_box : (b : Bool) → (if b then [] else pruned_nodes ask.top_skip []) ≡ []
    by_box true = refl
    by_box false = refl

    ahead : ahead_of c ask ≡ []
    ahead = ap (λ w. if holds_box c.page then w else pruned_nodes ask.top_skip w) e ∙ by_box (holds_box c.page)

-- ---- a node that lasts and is no box goes on the page

-- also on a page without a box
pub lasts_turn : (c d : Contents) (ask : Ask) (n : PlainNode) → c.waiting ≡ n ∷ d.waiting → d.page ≡ c.page ++ n ∷ [] → frozen_of d ask ≡ frozen_of c ask → d.stopped ≡ false → node_shape n ≡ other → is_act_kind n.kind ≡ false
    → ReachesNothing c d ask
lasts_turn c d ask n first page frozen on shape no_act = record {
  reach = ap (reach_from (frozen_of c ask).limit (terms_after (frozen_of c ask)) c.page) ahead
      ∙ reach_pass (frozen_of c ask).limit (terms_after (frozen_of c ask)) (ends_lasting (page_shapes c.page)) c.page (ahead_of d ask) n refl no_act none
      ∙ (λ i. reach_from (sym frozen i).limit (terms_after (sym frozen i)) (sym page i) (ahead_of d ask));
  places = (λ i. page_places (frozen i).limit (terms_after (frozen i)) [] (page i) (glue_first d.waiting))
      ∙ places_pass (frozen_of c ask).limit (terms_after (frozen_of c ask)) (ends_lasting (page_shapes c.page)) c.page d.waiting n refl no_act none'
      ∙ ap (λ w. page_places (frozen_of c ask).limit (terms_after (frozen_of c ask)) [] c.page (glue_first w)) (sym first);
  whole = ap (λ p. p ++ ahead_of d ask) page ∙ append_assoc c.page (n ∷ []) (ahead_of d ask) ∙ sym (ap (λ w. c.page ++ w) ahead);
  stopped = on;
}
  where
    none : node_penalty (ends_lasting (page_shapes c.page)) (glue_first (ahead_of d ask)) n ≡ None
    none = lasting_penalty (ends_lasting (page_shapes c.page)) (glue_first (ahead_of d ask)) n (ap is_discardable shape)

    none' : node_penalty (ends_lasting (page_shapes c.page)) (glue_first d.waiting) n ≡ None
    none' = lasting_penalty (ends_lasting (page_shapes c.page)) (glue_first d.waiting) n (ap is_discardable shape)

    pruned : pruned_nodes ask.top_skip (n ∷ d.waiting) ≡ n ∷ pruned_nodes ask.top_skip d.waiting
    pruned = ap (λ s. pruned_at (λ m g. record { line = m.line; kind = plain (skip g) }) ask.top_skip s n d.waiting (pruned_nodes ask.top_skip d.waiting)) shape

    by_box : (b : Bool) → (if b then n ∷ d.waiting else pruned_nodes ask.top_skip (n ∷ d.waiting)) ≡ n ∷ (if b then d.waiting else pruned_nodes ask.top_skip d.waiting)
    by_box true = refl
    by_box false = pruned

    ahead : ahead_of c ask ≡ n ∷ ahead_of d ask
    ahead = ap (λ w. if holds_box c.page then w else pruned_nodes ask.top_skip w) first ∙ by_box (holds_box c.page)
        ∙ ap (λ b. n ∷ (if b then d.waiting else pruned_nodes ask.top_skip d.waiting)) (sym (ap holds_box page ∙ holds_same c.page n (ap is_box shape)))

-- ---- on a page without a box, glue, a kern or a penalty vanishes

pub drops_turn : (c d : Contents) (ask : Ask) (n : PlainNode) → c.waiting ≡ n ∷ d.waiting → d.page ≡ c.page → frozen_of d ask ≡ frozen_of c ask → d.stopped ≡ false → holds_box c.page ≡ false → AllLasting c.page
    → pruned_nodes ask.top_skip (n ∷ d.waiting) ≡ pruned_nodes ask.top_skip d.waiting → ReachesNothing c d ask
drops_turn c d ask n first page frozen on closed lasting gone = record {
  reach = (λ i. reach_from (sym frozen i).limit (terms_after (sym frozen i)) (sym page i) (ahead i));
  places = (λ i. page_places (frozen i).limit (terms_after (frozen i)) [] (page i) (glue_first d.waiting))
      ∙ lasting_places (frozen_of c ask).limit (terms_after (frozen_of c ask)) [] c.page (glue_first d.waiting) lasting
      ∙ sym (lasting_places (frozen_of c ask).limit (terms_after (frozen_of c ask)) [] c.page (glue_first c.waiting) lasting);
  whole = sym (λ i. sym page i ++ ahead i);
  stopped = on;
}
  where
    ahead : ahead_of c ask ≡ ahead_of d ask
    ahead = ahead_closed c ask closed ∙ ap (pruned_nodes ask.top_skip) first ∙ gone ∙ sym (ahead_closed d ask (ap holds_box page ∙ closed))
