-- What waits grows at its end: the places of the page and the stop stay.
use Rattle.std.proofs.Common.{◌≡◌, refl, sym, subst, ◌∙◌, ap, ℕ, ℤ, Bool, true, false, List, [], ◌∷◌, ◌++◌, length, length-append, Option, None, Some, append_assoc, append-nil, arith}
use Rattle.std.proofs.lemmas.Bool.{true≢false}
use Rattle.tb_node.specs.Shape.{Shape, box, kern}
use Rattle.tb_node.specs.PlainNodes.{PlainKind, plain, ins, act, PlainNode, node_shape, kind_shape, without_acts}
use Rattle.tb_break.specs.Places.{ends_lasting, begins_with_glue}
use Rattle.tb_break.specs.Best.{Breakpoint, is_stop}
use Rattle.tb_break.specs.SplitPlace.{penalty_by, is_glue}
use Rattle.tb_break.specs.Split.{with_place}
use Rattle.tb_insert.specs.Terms.{Terms}
use Rattle.tb_insert.specs.Account.{Frozen, terms_after}
use Rattle.tb_builder.specs.declared.Course.{Course}
use Rattle.tb_builder.specs.Reach.{acted, tried, Reach, also_reached, page_place, reach_at, reach_at_place, reach_from, breakpoints}
use Rattle.tb_builder.specs.LegalPlaces.{page_shapes, glue_first, glue_or, kind_penalty_by, node_penalty, page_places, NoStop, NoActs}
use Rattle.tb_builder.specs.Contents.{Contents}
use Rattle.tb_builder.specs.Courses.{IsCourseOf, places_by, Underway, AtStop, AllLoose, IsPageSoFar}
use Rattle.tb_builder.specs.Contributions.{is_kern, ends_in_kern, MayWait}
use Rattle.tb_builder.proofs.LegalPlaces.PageLemmas.{first_of, reach_next, at_place_stops, at_place_goes}
use Rattle.tb_builder.specs.FiredPages.{frozen_for}
use Rattle.tb_builder.specs.declared.Ask.{Ask}

-- ---- glue that comes first among the waiting nodes

first_glue : (s : Shape) (ns ms : List Shape) → begins_with_glue (s ∷ ns) ≡ begins_with_glue (s ∷ ms)
first_glue (box h d) ns ms = refl
first_glue s ns ms = refl

glue_alone : (s : Shape) → begins_with_glue (s ∷ []) ≡ is_glue s
glue_alone (box h d) = refl
glue_alone s = refl

-- a node comes after the others
pub glue_grows : (ns : List PlainNode) (m : PlainNode) → (without_acts ns ≡ [] → is_glue (node_shape m) ≡ false) → glue_first (ns ++ m ∷ []) ≡ glue_first ns
glue_grows [] m h = by_kind m.line m.kind (h refl)
  where
    by_kind : (line : ℕ) (k : PlainKind) → is_glue (kind_shape k) ≡ false → (let n : PlainNode = record { line = line; kind = k } in glue_first (n ∷ []) ≡ false)
    by_kind line (plain p) e = glue_alone (kind_shape (plain p)) ∙ e
    by_kind line (ins i) e = refl
    by_kind line (act a) e = refl
glue_grows (x ∷ xs) m h = by_kind x.line x.kind h (glue_grows xs m)
  where
    by_kind : (line : ℕ) (k : PlainKind) → (let n : PlainNode = record { line = line; kind = k } in (without_acts (n ∷ xs) ≡ [] → is_glue (node_shape m) ≡ false)
        → ((without_acts xs ≡ [] → is_glue (node_shape m) ≡ false) → glue_first (xs ++ m ∷ []) ≡ glue_first xs) → glue_first (n ∷ (xs ++ m ∷ [])) ≡ glue_first (n ∷ xs))
    by_kind line (plain p) h later = first_glue (kind_shape (plain p)) (page_shapes (without_acts (xs ++ m ∷ []))) (page_shapes (without_acts xs))
    by_kind line (ins i) h later = refl
    by_kind line (act a) h later = later h

no_glue : (ns : List PlainNode) → without_acts ns ≡ [] → glue_first ns ≡ false
no_glue ns e = ap (λ xs. begins_with_glue (page_shapes xs)) e

glue_kept : (ns : List PlainNode) (m : PlainNode) → glue_first ns ≡ true → glue_first (ns ++ m ∷ []) ≡ true
glue_kept ns m e = glue_grows ns m (λ none. absurd (true≢false (sym e ∙ no_glue ns none))) ∙ e

-- ---- the penalty of a place

penalty_same : (lasting g h : Bool) (s : Shape) → (is_kern s ≡ true → g ≡ h) → penalty_by lasting g s ≡ penalty_by lasting h s
penalty_same lasting g h (kern w) e = ap (λ b. penalty_by lasting b (kern w)) (e refl)
penalty_same lasting g h s e = refl

node_same : (lasting g h : Bool) (n : PlainNode) → (is_kern (node_shape n) ≡ true → g ≡ h) → node_penalty lasting g n ≡ node_penalty lasting h n
node_same lasting g h n e = by_kind n.kind
  where
    by_kind : (k : PlainKind) → kind_penalty_by lasting g n k ≡ kind_penalty_by lasting h n k
    by_kind (plain m) = penalty_same lasting g h (node_shape n) e
    by_kind (ins i) = refl
    by_kind (act a) = refl

-- a legal place before a kern has glue after it
kern_legal : (lasting g : Bool) (s : Shape) (p : ℤ) → penalty_by lasting g s ≡ Some p → is_kern s ≡ true → g ≡ true
kern_legal lasting g (box x d) p e k = absurd (true≢false (sym k))
kern_legal lasting true (kern w) p e k = refl
kern_legal lasting false (kern w) p e k = cc
kern_legal lasting g s p e k = absurd (true≢false (sym k))

node_legal : (lasting g : Bool) (n : PlainNode) (p : ℤ) → node_penalty lasting g n ≡ Some p → is_kern (node_shape n) ≡ true → g ≡ true
node_legal lasting g n p e k = by_kind n.kind e
  where
    by_kind : (x : PlainKind) → kind_penalty_by lasting g n x ≡ Some p → g ≡ true
    by_kind (plain m) e = kern_legal lasting g (node_shape n) p e k
    by_kind (ins i) e = cc
    by_kind (act a) e = cc

module _ (limit : ℤ) (terms : List PlainNode → Terms) where
  -- ---- the places of the page

  pub places_glue : (before page : List PlainNode) (g h : Bool) → (ends_in_kern page ≡ true → g ≡ h) → page_places limit terms before page g ≡ page_places limit terms before page h
  places_glue before [] g h e = refl
  places_glue before (n ∷ []) g h e = ap (λ o. with_place o (page_place limit terms before) []) (node_same (ends_lasting (page_shapes before)) g h n e)
  places_glue before (n ∷ x ∷ xs) g h e =
      ap (with_place (node_penalty (ends_lasting (page_shapes before)) (begins_with_glue (node_shape x ∷ [])) n) (page_place limit terms before)) (places_glue (before ++ n ∷ []) (x ∷ xs) g h e)

  pub places_grow : (page waiting : List PlainNode) (m : PlainNode) → (ends_in_kern page ≡ true → without_acts waiting ≡ [] → is_glue (node_shape m) ≡ false)
      → page_places limit terms [] page (glue_first (waiting ++ m ∷ [])) ≡ page_places limit terms [] page (glue_first waiting)
  places_grow page waiting m h = places_glue [] page (glue_first (waiting ++ m ∷ [])) (glue_first waiting) (λ k. glue_grows waiting m (h k))

  -- ---- what is reached up to a stop

  -- a stop is no act
  fires_nodes : (before ns : List PlainNode) → (reach_from limit terms before ns).fires ≡ true → without_acts ns ≡ [] → ⊥
  fires_nodes before [] f e = true≢false (sym f)
  fires_nodes before (x ∷ xs) f e = by_kind x.line x.kind (fires_nodes (before ++ []) xs) f e
    where
      by_kind : (line : ℕ) (k : PlainKind) → ((reach_from limit terms (before ++ []) xs).fires ≡ true → without_acts xs ≡ [] → ⊥)
          → (let n : PlainNode = record { line = line; kind = k } in (reach_from limit terms before (n ∷ xs)).fires ≡ true → without_acts (n ∷ xs) ≡ [] → ⊥)
      by_kind line (plain m) later f e = cc
      by_kind line (ins i) later f e = cc
      by_kind line (act a) later f e = later f e

  abbrev with_beyond : PlainNode → Reach → Reach
  with_beyond m w = record w { beyond = w.beyond ++ m ∷ [] }

  -- the node before which the place is legal, if one more node waits
  module _ (before : List PlainNode) (n : PlainNode) (rest : List PlainNode) (m : PlainNode) (later grown : Reach) (lasting : Bool)
      (fires_rest : later.fires ≡ true → without_acts rest ≡ [] → ⊥) (grows : later.fires ≡ true → grown ≡ with_beyond m later) where
    abbrev before_it : Option ℤ
    before_it = node_penalty lasting (glue_first rest) n

    abbrev after_it : Option ℤ
    after_it = node_penalty lasting (glue_first (rest ++ m ∷ [])) n

    same_after : later.fires ≡ true → after_it ≡ before_it
    same_after f = ap (λ g. node_penalty lasting g n) (glue_grows rest m (λ none. absurd (fires_rest f none)))

    legal_after : (p : ℤ) → before_it ≡ Some p → after_it ≡ Some p
    legal_after p e = sym (node_same lasting (glue_first rest) (glue_first (rest ++ m ∷ [])) n (λ k. let g = node_legal lasting (glue_first rest) n p e k in g ∙ sym (glue_kept rest m g))) ∙ e

    place_grows : (p : ℤ) (t : Bool) → is_stop (page_place limit terms before p) ≡ t → (reach_at_place before n rest later (page_place limit terms before p)).fires ≡ true
        → reach_at_place before n (rest ++ m ∷ []) grown (page_place limit terms before p) ≡ with_beyond m (reach_at_place before n rest later (page_place limit terms before p))
    place_grows p true e f =
        at_place_stops limit terms before n (rest ++ m ∷ []) grown (page_place limit terms before p) e
        ∙ ap (with_beyond m) (sym (at_place_stops limit terms before n rest later (page_place limit terms before p) e))
    place_grows p false e f =
        at_place_goes limit terms before n (rest ++ m ∷ []) grown (page_place limit terms before p) e
        ∙ ap (also_reached (tried n.line (page_place limit terms before p))) (grows (sym (ap (λ w. w.fires) (at_place_goes limit terms before n rest later (page_place limit terms before p) e)) ∙ f))
        ∙ ap (with_beyond m) (sym (at_place_goes limit terms before n rest later (page_place limit terms before p) e))

    at_grows : (o : Option ℤ) → before_it ≡ o → (reach_at limit terms before n rest later o).fires ≡ true
        → reach_at limit terms before n (rest ++ m ∷ []) grown after_it ≡ with_beyond m (reach_at limit terms before n rest later o)
    at_grows None e f = ap (reach_at limit terms before n (rest ++ m ∷ []) grown) (same_after f ∙ e) ∙ grows f
    at_grows (Some p) e f = ap (reach_at limit terms before n (rest ++ m ∷ []) grown) (legal_after p e) ∙ place_grows p (is_stop (page_place limit terms before p)) refl f

  -- if a stop is reached, a node after it changes nothing before it
  pub reach_grows : (before ns : List PlainNode) (m : PlainNode) → (reach_from limit terms before ns).fires ≡ true
      → reach_from limit terms before (ns ++ m ∷ []) ≡ with_beyond m (reach_from limit terms before ns)
  reach_grows before [] m f = absurd (true≢false (sym f))
  reach_grows before (x ∷ xs) m f = by_kind x.line x.kind (λ b. reach_grows b xs m) f
    where
      by_kind : (line : ℕ) (k : PlainKind) → ((b : List PlainNode) → (reach_from limit terms b xs).fires ≡ true → reach_from limit terms b (xs ++ m ∷ []) ≡ with_beyond m (reach_from limit terms b xs))
          → (let n : PlainNode = record { line = line; kind = k } in (reach_from limit terms before (n ∷ xs)).fires ≡ true
          → reach_from limit terms before (n ∷ (xs ++ m ∷ [])) ≡ with_beyond m (reach_from limit terms before (n ∷ xs)))
      by_kind line (plain p) grows f =
          let n : PlainNode = record { line = line; kind = plain p } in
          let lasting = ends_lasting (page_shapes before) in
          let later = reach_from limit terms (before ++ n ∷ []) xs in
          let grown = reach_from limit terms (before ++ n ∷ []) (xs ++ m ∷ []) in
          reach_next limit terms before (xs ++ m ∷ []) n refl
          ∙ at_grows before n xs m later grown lasting (fires_nodes (before ++ n ∷ []) xs) (grows (before ++ n ∷ [])) (node_penalty lasting (glue_first xs) n) refl (sym (ap (λ w. w.fires) (reach_next limit terms before xs n refl)) ∙ f)
          ∙ ap (with_beyond m) (sym (reach_next limit terms before xs n refl))
      by_kind line (ins i) grows f = grows (before ++ record { line = line; kind = ins i } ∷ []) f
      by_kind line (act a) grows f = ap (also_reached (acted a)) (grows (before ++ []) f)

  -- ---- if no stop is reached

  glue_page : (xs : List PlainNode) → NoActs xs → glue_first xs ≡ glue_or false xs
  glue_page [] h = refl
  glue_page (x ∷ xs) h = first_of limit terms x.line x.kind xs h.0

  at_quiet : (before : List PlainNode) (x : PlainNode) (rest : List PlainNode) (later : Reach) (o : Option ℤ) (places : List Breakpoint)
      → (reach_at limit terms before x rest later o).fires ≡ false → (later.fires ≡ false → breakpoints later.reached ≡ places) → breakpoints (reach_at limit terms before x rest later o).reached ≡ with_place o (page_place limit terms before) places
  at_quiet before x rest later None places f h = h f
  at_quiet before x rest later (Some p) places f h = by_stop (is_stop (page_place limit terms before p)) refl
    where
      by_stop : (t : Bool) → is_stop (page_place limit terms before p) ≡ t → breakpoints (reach_at_place before x rest later (page_place limit terms before p)).reached ≡ page_place limit terms before p ∷ places
      by_stop true e = absurd (true≢false (sym (ap (λ w. w.fires) (at_place_stops limit terms before x rest later (page_place limit terms before p) e)) ∙ f))
      by_stop false e =
          let goes = at_place_goes limit terms before x rest later (page_place limit terms before p) e in
          ap (λ w. breakpoints w.reached) goes ∙ ap (λ bs. page_place limit terms before p ∷ bs) (h (sym (ap (λ w. w.fires) goes) ∙ f))

  quiet_places : (before page : List PlainNode) → NoActs page → (reach_from limit terms before page).fires ≡ false → breakpoints (reach_from limit terms before page).reached ≡ page_places limit terms before page false
  quiet_places before [] h f = refl
  quiet_places before (x ∷ xs) h f =
      let next = reach_next limit terms before xs x h.0 ∙ ap (λ g. reach_at limit terms before x xs (reach_from limit terms (before ++ x ∷ []) xs) (node_penalty (ends_lasting (page_shapes before)) g x)) (glue_page xs h.1) in
      ap (λ w. breakpoints w.reached) next
      ∙ at_quiet before x xs (reach_from limit terms (before ++ x ∷ []) xs) (node_penalty (ends_lasting (page_shapes before)) (glue_or false xs) x) (page_places limit terms (before ++ x ∷ []) xs false) (sym (ap (λ w. w.fires) next) ∙ f) (quiet_places (before ++ x ∷ []) xs h.1)

  quiet_at : (before : List PlainNode) (x : PlainNode) (rest : List PlainNode) (later : Reach) (o : Option ℤ) → (reach_at limit terms before x rest later o).fires ≡ false → (later.fires ≡ false → later.beyond ≡ []) → (reach_at limit terms before x rest later o).beyond ≡ []
  quiet_at before x rest later None f h = h f
  quiet_at before x rest later (Some p) f h = by_stop (is_stop (page_place limit terms before p)) refl
    where
      by_stop : (t : Bool) → is_stop (page_place limit terms before p) ≡ t → (reach_at_place before x rest later (page_place limit terms before p)).beyond ≡ []
      by_stop true e = absurd (true≢false (sym (ap (λ w. w.fires) (at_place_stops limit terms before x rest later (page_place limit terms before p) e)) ∙ f))
      by_stop false e = let goes = at_place_goes limit terms before x rest later (page_place limit terms before p) e in ap (λ w. w.beyond) goes ∙ h (sym (ap (λ w. w.fires) goes) ∙ f)

  -- all is passed
  quiet_beyond : (before ns : List PlainNode) → (reach_from limit terms before ns).fires ≡ false → (reach_from limit terms before ns).beyond ≡ []
  quiet_beyond before [] f = refl
  quiet_beyond before (x ∷ xs) f = by_kind x.line x.kind (λ b. quiet_beyond b xs) f
    where
      by_kind : (line : ℕ) (k : PlainKind) → ((b : List PlainNode) → (reach_from limit terms b xs).fires ≡ false → (reach_from limit terms b xs).beyond ≡ []) → (let n : PlainNode = record { line = line; kind = k } in (reach_from limit terms before (n ∷ xs)).fires ≡ false → (reach_from limit terms before (n ∷ xs)).beyond ≡ [])
      by_kind line (plain p) quiet f =
          let n : PlainNode = record { line = line; kind = plain p } in
          let next = reach_next limit terms before xs n refl in
          ap (λ w. w.beyond) next ∙ quiet_at before n xs (reach_from limit terms (before ++ n ∷ []) xs) (node_penalty (ends_lasting (page_shapes before)) (glue_first xs) n) (sym (ap (λ w. w.fires) next) ∙ f) (quiet (before ++ n ∷ []))
      by_kind line (ins i) quiet f = quiet (before ++ record { line = line; kind = ins i } ∷ []) f
      by_kind line (act a) quiet f = quiet (before ++ []) f

no_longer : (bs : List Breakpoint) (b : Breakpoint) → bs ≡ bs ++ b ∷ [] → ⊥
no_longer bs b e = omega (arith, ap length e ∙ length-append bs (b ∷ []))

-- ---- the page of a builder

module _ (z : Frozen) (k : Course) (page waiting : List PlainNode) (m : PlainNode) (may : ends_in_kern page ≡ true → without_acts waiting ≡ [] → is_glue (node_shape m) ≡ false) where
  same_places : places_by z page (waiting ++ m ∷ []) ≡ places_by z page waiting
  same_places = places_grow z.limit (terms_after z) page waiting m may

  pub underway_grows : Underway z k page waiting → Underway z k page (waiting ++ m ∷ [])
  underway_grows u = record { course = subst (IsCourseOf z k page) (sym same_places) u.course; quiet = subst NoStop (sym same_places) u.quiet }

  -- the stop is one of what is reached
  stop_fires : AtStop z k page waiting → (reach_from z.limit (terms_after z) [] (page ++ waiting)).fires ≡ true
  stop_fires a = by_fires (reach_from z.limit (terms_after z) [] (page ++ waiting)).fires refl
    where
      by_fires : (t : Bool) → (reach_from z.limit (terms_after z) [] (page ++ waiting)).fires ≡ t → (reach_from z.limit (terms_after z) [] (page ++ waiting)).fires ≡ true
      by_fires true e = e
      by_fires false e =
          let none : waiting ≡ [] = sym a.beyond ∙ quiet_beyond z.limit (terms_after z) [] (page ++ waiting) e in
          let whole : page ++ waiting ≡ page = ap (λ ns. page ++ ns) none ∙ append-nil page in
          let quiet = quiet_places z.limit (terms_after z) [] page a.course.no_acts (sym (ap (λ ns. (reach_from z.limit (terms_after z) [] ns).fires) whole) ∙ e) in
          let reached : breakpoints (reach_from z.limit (terms_after z) [] page).reached ≡ places_by z page [] ++ a.stop ∷ [] = sym (ap (λ ns. breakpoints (reach_from z.limit (terms_after z) [] ns).reached) whole) ∙ a.reached ∙ ap (λ ns. places_by z page ns ++ a.stop ∷ []) none in
          absurd (no_longer (places_by z page []) a.stop (sym quiet ∙ reached))

  pub stop_grows : AtStop z k page waiting → AtStop z k page (waiting ++ m ∷ [])
  stop_grows a = record {
    stop = a.stop;
    course = subst (λ bs. IsCourseOf z k page (bs ++ a.stop ∷ [])) (sym same_places) a.course;
    shrink = a.shrink;
    reached = ap (λ w. breakpoints w.reached) grown ∙ a.reached ∙ ap (λ bs. bs ++ a.stop ∷ []) (sym same_places);
    passed = ap (λ w. w.passed) grown ∙ a.passed;
    beyond = ap (λ w. w.beyond) grown ∙ ap (λ ns. ns ++ m ∷ []) a.beyond;
  }
    where
      grown : reach_from z.limit (terms_after z) [] (page ++ (waiting ++ m ∷ [])) ≡ with_beyond z.limit (terms_after z) m (reach_from z.limit (terms_after z) [] (page ++ waiting))
      grown = ap (reach_from z.limit (terms_after z) []) (sym (append_assoc page waiting (m ∷ []))) ∙ reach_grows z.limit (terms_after z) [] (page ++ waiting) m (stop_fires a)

-- a node came after the waiting nodes
pub page_grows : (o : Option Ask) (st : Bool) (k : Course) (c : Contents) (m : PlainNode) → MayWait c m → IsPageSoFar o st k c → IsPageSoFar o st k (record c { waiting = c.waiting ++ m ∷ [] })
page_grows None false k c m may h = h
page_grows None true k c m may h = h
page_grows (Some f) false k c m may h = underway_grows (frozen_for f c.classes c.boxes) k c.page c.waiting m may h
page_grows (Some f) true k c m may h = stop_grows (frozen_for f c.classes c.boxes) k c.page c.waiting m may h

-- if nothing is on the page and its goal is not frozen, anything may wait and be in the boxes
pub page_free : (o : Option Ask) (st : Bool) (k : Course) (c d : Contents) → o ≡ None → d.page ≡ c.page → IsPageSoFar o st k c → IsPageSoFar o st k d
page_free None false k c d e p h = record { loose = subst (λ ns. AllLoose ns) (sym p) h.loose; lasting_is = h.lasting_is ∙ ap (λ ns. ends_lasting (page_shapes ns)) (sym p) }
page_free None true k c d e p h = h
page_free (Some f) st k c d e p h = cc
