-- A plan as marks, one for each item ahead: the nodes, the places and the penalties of the galley with its breaks.
use Rattle.std.proofs.Common.{◌≡◌, refl, sym, ◌∙◌, ap, subst, ℕ, suc, ◌≤◌, ◌==◌, Bool, true, false, List, [], ◌∷◌, ◌++◌, length, append_assoc, append-nil, arith}
use Rattle.std.specs.Prelude.{IsTrue, if◌then◌else◌}
use mathlib.Core.List.{reverse_aux}
use Rattle.tb_node.specs.PlainNodes.{PlainNode, on_line}
use Rattle.tb_param.specs.declared.Params.{Params}
use Rattle.tb_galley.specs.declared.Item.{Item}
use Rattle.tb_galley.specs.GalleyNodes.{item_kinds, item_nodes, two_after, params_after}
use Rattle.tb_plans.specs.declared.walk.Before.{Before}
use Rattle.tb_plans.specs.Places.{is_glue_next, is_place, before_after, if_place, places_from}
use Rattle.tb_plans.specs.Plans.{is_part, break_before, broken}
use Rattle.tb_best.specs.ItemsAhead.{forced, Ahead, item_ahead, ahead_from}
use Rattle.tb_best.proofs.Paths.{planned, AreMarks, marked}

-- the marks of a plan among items, the first of which has the number k, and one more for what comes at the end
abbrev pub marks_of : ℕ → List Item → List ℕ → List Bool
marks_of k [] bs = false ∷ []
marks_of k (n ∷ ns) [] = false ∷ marks_of (suc k) ns []
marks_of k (n ∷ ns) (b ∷ bs) = if b == k then true ∷ marks_of (suc k) ns bs else false ∷ marks_of (suc k) ns (b ∷ bs)

-- these breaks, the last one first, and after them those before the items that are marked
abbrev pub breaks_after : List ℕ → List Ahead → List Bool → List ℕ
breaks_after breaks [] ms = breaks
breaks_after breaks (c ∷ cs) [] = breaks
breaks_after breaks (c ∷ cs) (true ∷ ms) = breaks_after (c.number ∷ breaks) cs ms
breaks_after breaks (c ∷ cs) (false ∷ ms) = breaks_after breaks cs ms

-- without breaks the items are themselves
pub broken-none : (k : ℕ) (ns : List Item) → broken k ns [] ≡ ns
broken-none k [] = refl
broken-none k (n ∷ ns) = refl

-- ---- an item, by the items after it

module _ (p : Params) (two : Bool) (b : Before) (k : ℕ) (n : Item) (ns : List Item) where
  -- the places of the items after it
  abbrev rest_places : List ℕ
  rest_places = places_from p (two_after two n.kind) (before_after p two b n.kind) (suc k) ns

  -- a break is not before the first item
  at-break : (d : ℕ) (ds : List ℕ) (t : Bool) → (d == k) ≡ t → (IsTrue (is_part (d ∷ ds) rest_places) → k ≤ d)
      → IsTrue (if t then is_part ds rest_places else is_part (d ∷ ds) rest_places) → k ≤ d
  at-break d ds true e later x = grind (arith, e)
  at-break d ds false e later x = later x

  place-by : (d : ℕ) (ds : List ℕ) (u : Bool) → (IsTrue (is_part (d ∷ ds) rest_places) → k ≤ d) → IsTrue (is_part (d ∷ ds) (if_place k u ++ rest_places)) → k ≤ d
  place-by d ds true later x = at-break d ds (d == k) refl later x
  place-by d ds false later x = later x

module _ (p q : Params) (last : Ahead) (two : Bool) (b : Before) (k : ℕ) (n : Item) (ns : List Item) where
  abbrev rest : List Ahead
  rest = ahead_from p (params_after q n.kind) last (two_after two n.kind) (before_after p two b n.kind) (suc k) ns

  abbrev after_it : List ℕ
  after_it = rest_places p two b k n ns

  -- the nodes
  item-nodes : (is : List Item) (more : List PlainNode) → item_nodes (params_after q n.kind) (two_after two n.kind) is ++ last.nodes ≡ more
      → item_nodes q two (n ∷ is) ++ last.nodes ≡ on_line n.line (item_kinds q two n.kind) ++ more
  item-nodes is more h =
      append_assoc (on_line n.line (item_kinds q two n.kind)) (item_nodes (params_after q n.kind) (two_after two n.kind) is) last.nodes ∙ ap (λ l. on_line n.line (item_kinds q two n.kind) ++ l) h

  abbrev HasNodes : List ℕ → Type 0
  HasNodes es = item_nodes (params_after q n.kind) (two_after two n.kind) (broken (suc k) ns es) ++ last.nodes ≡ planned (marks_of (suc k) ns es) rest

  nodes-by : (d : ℕ) (ds : List ℕ) (t : Bool) → HasNodes ds → HasNodes (d ∷ ds)
      → item_nodes q two (if t then break_before n ∷ n ∷ broken (suc k) ns ds else n ∷ broken (suc k) ns (d ∷ ds)) ++ last.nodes
      ≡ planned (if t then true ∷ marks_of (suc k) ns ds else false ∷ marks_of (suc k) ns (d ∷ ds)) (item_ahead p q two b k n ns ∷ rest)
  nodes-by d ds true with_it without =
      ap (λ l. forced (item_ahead p q two b k n ns) ∷ l) (item-nodes (broken (suc k) ns ds) (planned (marks_of (suc k) ns ds) rest) with_it)
  nodes-by d ds false with_it without = item-nodes (broken (suc k) ns (d ∷ ds)) (planned (marks_of (suc k) ns (d ∷ ds)) rest) without

  -- the marks
  abbrev HasMarks : List ℕ → Type 0
  HasMarks es = IsTrue (is_part es after_it) → AreMarks rest (marks_of (suc k) ns es)

  marks-by : (d : ℕ) (ds : List ℕ) (u t : Bool) → is_place (is_glue_next p two ns) b n.kind ≡ u → (d == k) ≡ t → HasMarks ds → HasMarks (d ∷ ds) → (IsTrue (is_part (d ∷ ds) after_it) → suc k ≤ d)
      → IsTrue (is_part (d ∷ ds) (if_place k u ++ after_it))
      → AreMarks (item_ahead p q two b k n ns ∷ rest) (if t then true ∷ marks_of (suc k) ns ds else false ∷ marks_of (suc k) ns (d ∷ ds))
  marks-by d ds true true e f with_it without later x = (e, with_it (subst (λ t. IsTrue (if t then is_part ds after_it else is_part (d ∷ ds) after_it)) f x))
  marks-by d ds true false e f with_it without later x = without (subst (λ t. IsTrue (if t then is_part ds after_it else is_part (d ∷ ds) after_it)) f x)
  marks-by d ds false true e f with_it without later x = let i = later x in absurd (grind (arith, i, f))
  marks-by d ds false false e f with_it without later x = without x

  -- the breaks, and how many there are
  abbrev HasBreaks : List ℕ → Type 0
  HasBreaks es = (breaks : List ℕ) → IsTrue (is_part es after_it) → breaks_after breaks rest (marks_of (suc k) ns es) ≡ reverse_aux es breaks

  abbrev HasCount : List ℕ → Type 0
  HasCount es = IsTrue (is_part es after_it) → marked (marks_of (suc k) ns es) ≡ length es

  breaks-by : (d : ℕ) (ds : List ℕ) (u t : Bool) → (d == k) ≡ t → HasBreaks ds → HasBreaks (d ∷ ds) → (IsTrue (is_part (d ∷ ds) after_it) → suc k ≤ d)
      → (breaks : List ℕ) → IsTrue (is_part (d ∷ ds) (if_place k u ++ after_it))
      → breaks_after breaks (item_ahead p q two b k n ns ∷ rest) (if t then true ∷ marks_of (suc k) ns ds else false ∷ marks_of (suc k) ns (d ∷ ds)) ≡ reverse_aux (d ∷ ds) breaks
  breaks-by d ds true true f with_it without later breaks x =
      let same : k ≡ d = grind (arith, f) in
      with_it (k ∷ breaks) (subst (λ t. IsTrue (if t then is_part ds after_it else is_part (d ∷ ds) after_it)) f x) ∙ ap (λ m. reverse_aux ds (m ∷ breaks)) same
  breaks-by d ds true false f with_it without later breaks x = without breaks (subst (λ t. IsTrue (if t then is_part ds after_it else is_part (d ∷ ds) after_it)) f x)
  breaks-by d ds false true f with_it without later breaks x = let i = later x in absurd (grind (arith, i, f))
  breaks-by d ds false false f with_it without later breaks x = without breaks x

  count-by : (d : ℕ) (ds : List ℕ) (u t : Bool) → (d == k) ≡ t → HasCount ds → HasCount (d ∷ ds) → (IsTrue (is_part (d ∷ ds) after_it) → suc k ≤ d)
      → IsTrue (is_part (d ∷ ds) (if_place k u ++ after_it))
      → marked (if t then true ∷ marks_of (suc k) ns ds else false ∷ marks_of (suc k) ns (d ∷ ds)) ≡ length (d ∷ ds)
  count-by d ds true true f with_it without later x = ap suc (with_it (subst (λ t. IsTrue (if t then is_part ds after_it else is_part (d ∷ ds) after_it)) f x))
  count-by d ds true false f with_it without later x = without (subst (λ t. IsTrue (if t then is_part ds after_it else is_part (d ∷ ds) after_it)) f x)
  count-by d ds false true f with_it without later x = let i = later x in absurd (grind (arith, i, f))
  count-by d ds false false f with_it without later x = without x

-- ---- all items

module _ (p : Params) where
  -- a plan of items has no break before the first of them
  pub not-before : (two : Bool) (b : Before) (k : ℕ) (ns : List Item) (d : ℕ) (ds : List ℕ) → IsTrue (is_part (d ∷ ds) (places_from p two b k ns)) → k ≤ d
  not-before two b k [] d ds h = let no : ⊥ = grind (arith, h) in absurd no
  not-before two b k (n ∷ ns) d ds h =
      place-by p two b k n ns d ds (is_place (is_glue_next p two ns) b n.kind)
      (λ x. let i = not-before (two_after two n.kind) (before_after p two b n.kind) (suc k) ns d ds x in omega (arith, i)) h

  module _ (last : Ahead) where
    -- the nodes of the items with the breaks of a plan
    pub nodes-are : (q : Params) (two : Bool) (b : Before) (k : ℕ) (ns : List Item) (bs : List ℕ) → item_nodes q two (broken k ns bs) ++ last.nodes ≡ planned (marks_of k ns bs) (ahead_from p q last two b k ns)
    nodes-are q two b k [] bs = sym (append-nil last.nodes)
    nodes-are q two b k (n ∷ ns) [] =
        item-nodes p q last two b k n ns ns (planned (marks_of (suc k) ns []) (rest p q last two b k n ns))
        (ap (λ l. item_nodes (params_after q n.kind) (two_after two n.kind) l ++ last.nodes) (sym (broken-none (suc k) ns)) ∙ nodes-are (params_after q n.kind) (two_after two n.kind) (before_after p two b n.kind) (suc k) ns [])
    nodes-are q two b k (n ∷ ns) (d ∷ ds) =
        nodes-by p q last two b k n ns d ds (d == k)
        (nodes-are (params_after q n.kind) (two_after two n.kind) (before_after p two b n.kind) (suc k) ns ds) (nodes-are (params_after q n.kind) (two_after two n.kind) (before_after p two b n.kind) (suc k) ns (d ∷ ds))

    -- a plan has its breaks at places
    pub plan-marks : (q : Params) (two : Bool) (b : Before) (k : ℕ) (ns : List Item) (ds : List ℕ) → IsTrue (is_part ds (places_from p two b k ns)) → AreMarks (ahead_from p q last two b k ns) (marks_of k ns ds)
    plan-marks q two b k [] ds h = tt
    plan-marks q two b k (n ∷ ns) [] h = plan-marks (params_after q n.kind) (two_after two n.kind) (before_after p two b n.kind) (suc k) ns [] refl
    plan-marks q two b k (n ∷ ns) (d ∷ ds) h =
        marks-by p q last two b k n ns d ds (is_place (is_glue_next p two ns) b n.kind) (d == k) refl refl
        (plan-marks (params_after q n.kind) (two_after two n.kind) (before_after p two b n.kind) (suc k) ns ds) (plan-marks (params_after q n.kind) (two_after two n.kind) (before_after p two b n.kind) (suc k) ns (d ∷ ds))
        (not-before (two_after two n.kind) (before_after p two b n.kind) (suc k) ns d ds) h

    -- its marks are all of its breaks
    pub plan-breaks : (q : Params) (two : Bool) (b : Before) (k : ℕ) (ns : List Item) (ds breaks : List ℕ) → IsTrue (is_part ds (places_from p two b k ns))
        → breaks_after breaks (ahead_from p q last two b k ns) (marks_of k ns ds) ≡ reverse_aux ds breaks
    plan-breaks q two b k [] [] breaks h = refl
    plan-breaks q two b k [] (d ∷ ds) breaks h = let no : ⊥ = grind (arith, h) in absurd no
    plan-breaks q two b k (n ∷ ns) [] breaks h = plan-breaks (params_after q n.kind) (two_after two n.kind) (before_after p two b n.kind) (suc k) ns [] breaks refl
    plan-breaks q two b k (n ∷ ns) (d ∷ ds) breaks h =
        breaks-by p q last two b k n ns d ds (is_place (is_glue_next p two ns) b n.kind) (d == k) refl
        (plan-breaks (params_after q n.kind) (two_after two n.kind) (before_after p two b n.kind) (suc k) ns ds) (plan-breaks (params_after q n.kind) (two_after two n.kind) (before_after p two b n.kind) (suc k) ns (d ∷ ds))
        (not-before (two_after two n.kind) (before_after p two b n.kind) (suc k) ns d ds) breaks h

    pub plan-count : (two : Bool) (b : Before) (k : ℕ) (ns : List Item) (ds : List ℕ) → IsTrue (is_part ds (places_from p two b k ns)) → marked (marks_of k ns ds) ≡ length ds
    plan-count two b k [] [] h = refl
    plan-count two b k [] (d ∷ ds) h = let no : ⊥ = grind (arith, h) in absurd no
    plan-count two b k (n ∷ ns) [] h = plan-count (two_after two n.kind) (before_after p two b n.kind) (suc k) ns [] refl
    plan-count two b k (n ∷ ns) (d ∷ ds) h =
        count-by p p last two b k n ns d ds (is_place (is_glue_next p two ns) b n.kind) (d == k) refl
        (plan-count (two_after two n.kind) (before_after p two b n.kind) (suc k) ns ds) (plan-count (two_after two n.kind) (before_after p two b n.kind) (suc k) ns (d ∷ ds))
        (not-before (two_after two n.kind) (before_after p two b n.kind) (suc k) ns d ds) h
