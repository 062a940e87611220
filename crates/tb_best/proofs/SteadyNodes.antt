-- If no node that waits sets the sides of marginal notes or takes one where that may not be, none does after a page: the page builder
-- and the output routine move acts, and make none.
use Rattle.std.proofs.Common.{◌≡◌, refl, ℕ, zero, suc, ℤ, Bool, true, false, List, [], ◌∷◌, ◌++◌, filter, take, drop, Option, Some, None, true≢false}
use Rattle.std.specs.Prelude.{◌||◌, not, if◌then◌else◌}
use Rattle.tb_node.specs.PlainNodes.{hbox, rule, pen, Leaf, Inserted, PlainKind, plain, ins, act, PlainNode, is_act_kind, is_insertion_kind, without_acts, on_line}
use Rattle.tb_break.specs.Best.{Breakpoint, is_stop}
use Rattle.tb_break.specs.PageTop.{pruned_leaves, pruned_nodes}
use Rattle.tb_insert.specs.Terms.{Terms}
use Rattle.tb_insert.specs.Account.{Label, whole, split, late, Labelled}
use Rattle.tb_builder.specs.Reach.{Reached, acted, tried, Reach, also_reached, page_place, stopped_at, reach_at, reach_node, reach_from}
use Rattle.tb_builder.specs.FiredPages.{Fired, Boxed, page_break, from_break, spent_kind, with_spent_break, unless_empty, held_of, held_insertions, fired_by}
use Rattle.tb_best.specs.Sides.{Sides, is_beyond, any_beyond}

-- ---- lists

pub both-false : (a b : Bool) → a ≡ false → b ≡ false → (a || b) ≡ false
both-false true b h k = h
both-false false b h k = k

pub first-false : (a b : Bool) → (a || b) ≡ false → a ≡ false
first-false true b h = h
first-false false b h = refl

pub second-false : (a b : Bool) → (a || b) ≡ false → b ≡ false
second-false true b h = absurd (true≢false h)
second-false false b h = h

module _ (sides : Sides) where
  -- none of these nodes does what may not be
  abbrev pub Steady : List PlainNode → Type 0
  Steady ns = any_beyond sides ns ≡ false

  -- of a list its first node does not, and then none of the others
  first-steady : (n : PlainNode) (ns : List PlainNode) → Steady (n ∷ ns) → is_beyond sides n.kind ≡ false
  first-steady n ns h = first-false (is_beyond sides n.kind) (any_beyond sides ns) h

  rest-steady : (n : PlainNode) (ns : List PlainNode) → Steady (n ∷ ns) → Steady ns
  rest-steady n ns h = second-false (is_beyond sides n.kind) (any_beyond sides ns) h

  with-first : (n : PlainNode) (ns : List PlainNode) → is_beyond sides n.kind ≡ false → Steady ns → Steady (n ∷ ns)
  with-first n ns h k = both-false (is_beyond sides n.kind) (any_beyond sides ns) h k

  pub steady-join : (xs ys : List PlainNode) → Steady xs → Steady ys → Steady (xs ++ ys)
  steady-join [] ys h k = k
  steady-join (x ∷ xs) ys h k = with-first x (xs ++ ys) (first-steady x xs h) (steady-join xs ys (rest-steady x xs h) k)

  pub steady-take : (k : ℕ) (ns : List PlainNode) → Steady ns → Steady (take k ns)
  steady-take zero ns h = refl
  steady-take (suc k) [] h = refl
  steady-take (suc k) (n ∷ ns) h = with-first n (take k ns) (first-steady n ns h) (steady-take k ns (rest-steady n ns h))

  steady-drop : (k : ℕ) (ns : List PlainNode) → Steady ns → Steady (drop k ns)
  steady-drop zero ns h = h
  steady-drop (suc k) [] h = refl
  steady-drop (suc k) (n ∷ ns) h = steady-drop k ns (rest-steady n ns h)

  steady-filtered : (f : PlainNode → Bool) (ns : List PlainNode) → Steady ns → Steady (filter f ns)
  steady-filtered f [] h = refl
  steady-filtered f (n ∷ ns) h = by_test (f n) (steady-filtered f ns (rest-steady n ns h))
    where
      by_test : (t : Bool) → Steady (filter f ns) → Steady (if t then n ∷ filter f ns else filter f ns)
      by_test true k = with-first n (filter f ns) (first-steady n ns h) k
      by_test false k = k

  -- ---- what a page reaches

  steady-pruned : (t : ℤ) (ns : List PlainNode) → Steady ns → Steady (pruned_nodes t ns)
  steady-pruned t [] h = refl
  steady-pruned t (n ∷ ns) h = by_kind n.line n.kind (first-steady n ns h) (rest-steady n ns h) (steady-pruned t ns (rest-steady n ns h))
    where
      by_kind : (l : ℕ) (k : PlainKind) → is_beyond sides k ≡ false → Steady ns → Steady (pruned_nodes t ns) → Steady (pruned_nodes t (record { line = l; kind = k } ∷ ns))
      by_kind l (plain (hbox w a d)) s r p = r
      by_kind l (plain (rule name a d)) s r p = r
      by_kind l (act a) s r p = with-first (record { line = l; kind = act a }) (pruned_nodes t ns) s p
      by_kind l k s r p = p

  -- nor does one of the acts that are reached
  abbrev pub ActsSteady : List Reached → Type 0
  ActsSteady [] = Unit {0}
  ActsSteady (acted a ∷ rs) = (is_beyond sides (act a) ≡ false) × ActsSteady rs
  ActsSteady (tried line b ∷ rs) = ActsSteady rs

  -- nor does a node that is passed or stands beyond
  pub record ReachSteady (w : Reach) : Type 0 where
    pub acts : ActsSteady w.reached
    pub passed : Steady w.passed
    pub beyond : Steady w.beyond

  module _ (limit : ℤ) (terms : List PlainNode → Terms) where
    at-steady : (n : PlainNode) (before rest : List PlainNode) (w : Reach) (o : Option ℤ) → Steady before → Steady (n ∷ rest) → ReachSteady w → ReachSteady (reach_at limit terms before n rest w o)
    at-steady n before rest w None h k later = later
    at-steady n before rest w (Some p) h k later = by_stop (is_stop b)
      where
        b : Breakpoint
        b = page_place limit terms before p

        by_stop : (t : Bool) → ReachSteady (if t then stopped_at before n rest b else also_reached (tried n.line b) w)
        by_stop true = record { acts = tt; passed = h; beyond = k }
        by_stop false = record { acts = later.acts; passed = later.passed; beyond = later.beyond }

    node-steady : (n : PlainNode) (before rest : List PlainNode) (w : Reach) (k : PlainKind) → is_beyond sides k ≡ false → Steady before → Steady (n ∷ rest) → ReachSteady w → ReachSteady (reach_node limit terms before n rest w k)
    node-steady n before rest w (plain m) s h k later = at-steady n before rest w _ h k later
    node-steady n before rest w (ins i) s h k later = later
    node-steady n before rest w (act a) s h k later = record { acts = (s, later.acts); passed = later.passed; beyond = later.beyond }

    pub reach-steady : (before ns : List PlainNode) → Steady before → Steady ns → ReachSteady (reach_from limit terms before ns)
    reach-steady before [] h k = record { acts = tt; passed = h; beyond = refl }
    reach-steady before (n ∷ ns) h k =
        let alone : Steady (n ∷ []) = with-first n [] (first-steady n ns k) refl in
        let passed : Steady (before ++ without_acts (n ∷ [])) = steady-join before (without_acts (n ∷ [])) h (steady-filtered (λ m. not (is_act_kind m.kind)) (n ∷ []) alone) in
        node-steady n before ns (reach_from limit terms (before ++ without_acts (n ∷ [])) ns) n.kind (first-steady n ns k) h k (reach-steady (before ++ without_acts (n ∷ [])) ns passed (rest-steady n ns k))

  -- what is laid out of a page that begins
  pub laid-steady : (top : ℤ) (ns : List PlainNode) → Steady ns → Steady (pruned_nodes top ns)
  laid-steady top ns h = steady-pruned top ns h

  -- ---- the page that fires

  unless-steady : (line : ℕ) (i : Inserted) (ls : List Leaf) → Steady (on_line line (unless_empty i ls))
  unless-steady line i [] = refl
  unless-steady line i (l ∷ ls) = refl

  label-steady : (line : ℕ) (l : Label) (i : Inserted) → Steady (on_line line (held_of l i))
  label-steady line whole i = refl
  label-steady line (split f) i = unless-steady line i (pruned_leaves i.split_top (drop f.index i.inner))
  label-steady line late i = refl

  held-steady : (ls : List Labelled) → Steady (held_insertions ls)
  held-steady [] = refl
  held-steady (l ∷ ls) = steady-join (on_line l.line (held_of l.label l.inserted)) (held_insertions ls) (label-steady l.line l.label l.inserted) (held-steady ls)

  kind-spent : (k : PlainKind) → is_beyond sides k ≡ false → is_beyond sides (spent_kind k) ≡ false
  kind-spent (plain (pen q)) h = refl
  kind-spent k h = h

  spent-steady : (ns : List PlainNode) → Steady ns → Steady (with_spent_break ns)
  spent-steady [] h = refl
  spent-steady (n ∷ ns) h = with-first (record n { kind = spent_kind n.kind }) ns (kind-spent n.kind (first-steady n ns h)) (rest-steady n ns h)

  -- no node of the page and of what waits behind it does
  pub record FiredSteady (f : Fired) : Type 0 where
    pub body : Steady f.body
    pub held : Steady f.held
    pub rest : Steady f.rest

  pub fired-steady : (ls : List Labelled) (boxes : List Boxed) (w : Reach) → ReachSteady w → FiredSteady (fired_by ls boxes w)
  fired-steady ls boxes w h = record {
    body = steady-filtered (λ n. not (is_insertion_kind n.kind)) (take (page_break w).place w.passed) (steady-take (page_break w).place w.passed h.passed);
    held = held-steady ls;
    rest = spent-steady (from_break w) (steady-join (drop (page_break w).place w.passed) w.beyond (steady-drop (page_break w).place w.passed h.passed) h.beyond);
  }
