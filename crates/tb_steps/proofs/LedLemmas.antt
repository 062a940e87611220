-- The acts before the first box, rule or insertion of a page.
use Rattle.std.proofs.Common.{◌≡◌, refl, sym, ap, ℕ, ℤ, true, false, List, [], ◌∷◌, ◌++◌}
use Rattle.std.proofs.lemmas.Bool.{true≢false}
use Rattle.tb_node.specs.declared.Act.{Act}
use Rattle.tb_node.specs.PlainNodes.{hbox, rule, skip, kerned, pen, mark, note, whatsit, PlainKind, plain, ins, act, PlainNode}
use Rattle.tb_break.specs.Best.{Breakpoint}
use Rattle.tb_break.specs.PageTop.{pruned_nodes}
use Rattle.tb_insert.specs.Terms.{Terms}
use Rattle.tb_builder.specs.Courses.{freezes}
use Rattle.tb_builder.specs.LegalPlaces.{NoActs}
use Rattle.tb_builder.specs.Reach.{Reached, acted, tried, also_reached, reach_from}
use Rattle.tb_builder.proofs.Cutting.CutLemmas.{acted_of}
use Rattle.tb_output.specs.State.{State}
use Rattle.tb_output.specs.Act.{Acted, went, full, act_on}
use Rattle.tb_steps.specs.Run.{led_by, led_through}

-- ---- if a box, a rule or an insertion is among the nodes, those behind them do not matter

pub led-both : (f g : State → State) (s : State) (o : Acted) → ((t : State) → f t ≡ g t) → led_by f s o ≡ led_by g s o
led-both f g s (went t ws rs) h = h t
led-both f g s (full line live) h = refl

-- nodes that lead to the same lead to it behind others too
front-kind : (xs ys zs : List PlainNode) → ((t : State) → led_through (xs ++ ys) t ≡ led_through (xs ++ zs) t) → (s : State) (l : ℕ) (k : PlainKind)
    → (let n : PlainNode = record { line = l; kind = k } in led_through (n ∷ xs ++ ys) s ≡ led_through (n ∷ xs ++ zs) s)
front-kind xs ys zs ih s l (plain (hbox w h d)) = refl
front-kind xs ys zs ih s l (plain (rule w h d)) = refl
front-kind xs ys zs ih s l (plain (skip g)) = ih s
front-kind xs ys zs ih s l (plain (kerned g)) = ih s
front-kind xs ys zs ih s l (plain (pen q)) = ih s
front-kind xs ys zs ih s l (plain (mark w)) = ih s
front-kind xs ys zs ih s l (plain (note w)) = ih s
front-kind xs ys zs ih s l (plain whatsit) = ih s
front-kind xs ys zs ih s l (ins i) = refl
front-kind xs ys zs ih s l (act a) = led-both (led_through (xs ++ ys)) (led_through (xs ++ zs)) s (act_on s.params s a) ih

pub led-front : (xs ys zs : List PlainNode) (s : State) → ((t : State) → led_through ys t ≡ led_through zs t) → led_through (xs ++ ys) s ≡ led_through (xs ++ zs) s
led-front [] ys zs s h = h s
led-front (n ∷ xs) ys zs s h = front-kind xs ys zs (λ t. led-front xs ys zs t h) s n.line n.kind

begun-kind : (ns more : List PlainNode) → (freezes ns ≡ true → (t : State) → led_through (ns ++ more) t ≡ led_through ns t) → (s : State) (l : ℕ) (k : PlainKind)
    → (let n : PlainNode = record { line = l; kind = k } in freezes (n ∷ ns) ≡ true → led_through (n ∷ ns ++ more) s ≡ led_through (n ∷ ns) s)
begun-kind ns more ih s l (plain (hbox w h d)) f = refl
begun-kind ns more ih s l (plain (rule w h d)) f = refl
begun-kind ns more ih s l (plain (skip g)) f = ih f s
begun-kind ns more ih s l (plain (kerned g)) f = ih f s
begun-kind ns more ih s l (plain (pen q)) f = ih f s
begun-kind ns more ih s l (plain (mark w)) f = ih f s
begun-kind ns more ih s l (plain (note w)) f = ih f s
begun-kind ns more ih s l (plain whatsit) f = ih f s
begun-kind ns more ih s l (ins i) f = refl
begun-kind ns more ih s l (act a) f = led-both (led_through (ns ++ more)) (led_through ns) s (act_on s.params s a) (ih f)

pub led-begun : (ns more : List PlainNode) (s : State) → freezes ns ≡ true → led_through (ns ++ more) s ≡ led_through ns s
led-begun [] more s f = absurd (true≢false (sym f))
led-begun (n ∷ ns) more s f = begun-kind ns more (λ g t. led-begun ns more t g) s n.line n.kind f

-- ---- nodes that are no acts

still-kind : (ns more : List PlainNode) → (freezes ns ≡ true → (t : State) → led_through (ns ++ more) t ≡ t) → (s : State) (l : ℕ) (k : PlainKind)
    → (let n : PlainNode = record { line = l; kind = k } in NoActs (n ∷ ns) → freezes (n ∷ ns) ≡ true → led_through (n ∷ ns ++ more) s ≡ s)
still-kind ns more ih s l (plain (hbox w h d)) a f = refl
still-kind ns more ih s l (plain (rule w h d)) a f = refl
still-kind ns more ih s l (plain (skip g)) a f = ih f s
still-kind ns more ih s l (plain (kerned g)) a f = ih f s
still-kind ns more ih s l (plain (pen q)) a f = ih f s
still-kind ns more ih s l (plain (mark w)) a f = ih f s
still-kind ns more ih s l (plain (note w)) a f = ih f s
still-kind ns more ih s l (plain whatsit) a f = ih f s
still-kind ns more ih s l (ins i) a f = refl
still-kind ns more ih s l (act x) a f = absurd (true≢false a.0)

-- with a box, a rule or an insertion among them nothing is done before it
pub led-still : (ns more : List PlainNode) (s : State) → NoActs ns → freezes ns ≡ true → led_through (ns ++ more) s ≡ s
led-still [] more s a f = absurd (true≢false (sym f))
led-still (n ∷ ns) more s a f = still-kind ns more (λ g t. led-still ns more t a.1 g) s n.line n.kind a f

quiet-kind : (ns more : List PlainNode) → (freezes ns ≡ false → (t : State) → led_through (ns ++ more) t ≡ led_through more t) → (s : State) (l : ℕ) (k : PlainKind)
    → (let n : PlainNode = record { line = l; kind = k } in NoActs (n ∷ ns) → freezes (n ∷ ns) ≡ false → led_through (n ∷ ns ++ more) s ≡ led_through more s)
quiet-kind ns more ih s l (plain (hbox w h d)) a f = absurd (true≢false f)
quiet-kind ns more ih s l (plain (rule w h d)) a f = absurd (true≢false f)
quiet-kind ns more ih s l (plain (skip g)) a f = ih f s
quiet-kind ns more ih s l (plain (kerned g)) a f = ih f s
quiet-kind ns more ih s l (plain (pen q)) a f = ih f s
quiet-kind ns more ih s l (plain (mark w)) a f = ih f s
quiet-kind ns more ih s l (plain (note w)) a f = ih f s
quiet-kind ns more ih s l (plain whatsit) a f = ih f s
quiet-kind ns more ih s l (ins i) a f = absurd (true≢false f)
quiet-kind ns more ih s l (act x) a f = absurd (true≢false a.0)

-- without one the acts are those of the nodes behind them
pub led-quiet : (ns more : List PlainNode) (s : State) → NoActs ns → freezes ns ≡ false → led_through (ns ++ more) s ≡ led_through more s
led-quiet [] more s a f = refl
led-quiet (n ∷ ns) more s a f = quiet-kind ns more (λ g t. led-quiet ns more t a.1 g) s n.line n.kind a f

-- ---- by what is reached

module _ (limit : ℤ) (terms : List PlainNode → Terms) (top_skip : ℤ) (line : ℕ) (b : Breakpoint) (rs : List Reached) where
  none-first : [] ≡ tried line b ∷ rs → ⊥
  none-first e = cc

  acted-first : (a : Act) (qs : List Reached) → acted a ∷ qs ≡ tried line b ∷ rs → ⊥
  acted-first a qs e = cc

  tried-kind : (before ns more : List PlainNode) → ((q : List PlainNode) → (reach_from limit terms q (pruned_nodes top_skip ns)).reached ≡ tried line b ∷ rs → (t : State) → led_through (ns ++ more) t ≡ t)
      → (s : State) (l : ℕ) (k : PlainKind)
      → (let n : PlainNode = record { line = l; kind = k } in (reach_from limit terms before (pruned_nodes top_skip (n ∷ ns))).reached ≡ tried line b ∷ rs → led_through (n ∷ ns ++ more) s ≡ s)
  tried-kind before ns more ih s l (plain (hbox w h d)) e = refl
  tried-kind before ns more ih s l (plain (rule w h d)) e = refl
  tried-kind before ns more ih s l (plain (skip g)) e = ih before e s
  tried-kind before ns more ih s l (plain (kerned g)) e = ih before e s
  tried-kind before ns more ih s l (plain (pen q)) e = ih before e s
  tried-kind before ns more ih s l (plain (mark w)) e = ih (before ++ record { line = l; kind = plain (mark w) } ∷ []) e s
  tried-kind before ns more ih s l (plain (note w)) e = ih (before ++ record { line = l; kind = plain (note w) } ∷ []) e s
  tried-kind before ns more ih s l (plain whatsit) e = ih (before ++ record { line = l; kind = plain whatsit } ∷ []) e s
  tried-kind before ns more ih s l (ins i) e = refl
  tried-kind before ns more ih s l (act a) e = absurd (acted-first a (reach_from limit terms (before ++ []) (pruned_nodes top_skip ns)).reached e)

  -- if a place comes first, nothing is done before the first box
  pub led-tried : (before ns more : List PlainNode) (s : State) → (reach_from limit terms before (pruned_nodes top_skip ns)).reached ≡ tried line b ∷ rs → led_through (ns ++ more) s ≡ s
  led-tried before [] more s e = absurd (none-first e)
  led-tried before (n ∷ ns) more s e = tried-kind before ns more (λ q f t. led-tried q ns more t f) s n.line n.kind e

-- what is reached of nodes without a box, a rule or an insertion does not depend on what is asked
module _ (limit other_limit : ℤ) (terms other_terms : List PlainNode → Terms) (top_skip : ℤ) where
  same-kind : (before ns : List PlainNode) → (freezes ns ≡ false → (q : List PlainNode) → reach_from limit terms q (pruned_nodes top_skip ns) ≡ reach_from other_limit other_terms q (pruned_nodes top_skip ns)) → (l : ℕ) (k : PlainKind)
      → (let n : PlainNode = record { line = l; kind = k } in freezes (n ∷ ns) ≡ false → reach_from limit terms before (pruned_nodes top_skip (n ∷ ns)) ≡ reach_from other_limit other_terms before (pruned_nodes top_skip (n ∷ ns)))
  same-kind before ns ih l (plain (hbox w h d)) f = absurd (true≢false f)
  same-kind before ns ih l (plain (rule w h d)) f = absurd (true≢false f)
  same-kind before ns ih l (plain (skip g)) f = ih f before
  same-kind before ns ih l (plain (kerned g)) f = ih f before
  same-kind before ns ih l (plain (pen q)) f = ih f before
  same-kind before ns ih l (plain (mark w)) f = ih f (before ++ record { line = l; kind = plain (mark w) } ∷ [])
  same-kind before ns ih l (plain (note w)) f = ih f (before ++ record { line = l; kind = plain (note w) } ∷ [])
  same-kind before ns ih l (plain whatsit) f = ih f (before ++ record { line = l; kind = plain whatsit } ∷ [])
  same-kind before ns ih l (ins i) f = absurd (true≢false f)
  same-kind before ns ih l (act a) f = ap (also_reached (acted a)) (ih f (before ++ []))

  pub same-reached : (before ns : List PlainNode) → freezes ns ≡ false → reach_from limit terms before (pruned_nodes top_skip ns) ≡ reach_from other_limit other_terms before (pruned_nodes top_skip ns)
  same-reached before [] f = refl
  same-reached before (n ∷ ns) f = same-kind before ns (λ g q. same-reached q ns g) n.line n.kind f

actless-first : (a : Act) (more : List Act) → a ∷ more ≡ [] → ⊥
actless-first a more e = cc

module _ (limit : ℤ) (terms : List PlainNode → Terms) (top_skip : ℤ) where
  actless-kind : (before ns : List PlainNode) → ((q : List PlainNode) → acted_of (reach_from limit terms q (pruned_nodes top_skip ns)).reached ≡ [] → (t : State) → led_through ns t ≡ t)
      → (s : State) (l : ℕ) (k : PlainKind)
      → (let n : PlainNode = record { line = l; kind = k } in acted_of (reach_from limit terms before (pruned_nodes top_skip (n ∷ ns))).reached ≡ [] → led_through (n ∷ ns) s ≡ s)
  actless-kind before ns ih s l (plain (hbox w h d)) e = refl
  actless-kind before ns ih s l (plain (rule w h d)) e = refl
  actless-kind before ns ih s l (plain (skip g)) e = ih before e s
  actless-kind before ns ih s l (plain (kerned g)) e = ih before e s
  actless-kind before ns ih s l (plain (pen q)) e = ih before e s
  actless-kind before ns ih s l (plain (mark w)) e = ih (before ++ record { line = l; kind = plain (mark w) } ∷ []) e s
  actless-kind before ns ih s l (plain (note w)) e = ih (before ++ record { line = l; kind = plain (note w) } ∷ []) e s
  actless-kind before ns ih s l (plain whatsit) e = ih (before ++ record { line = l; kind = plain whatsit } ∷ []) e s
  actless-kind before ns ih s l (ins i) e = refl
  actless-kind before ns ih s l (act a) e = absurd (actless-first a (acted_of (reach_from limit terms (before ++ []) (pruned_nodes top_skip ns)).reached) e)

  -- a stop comes behind a box
  fires-kind : (before ns : List PlainNode) → ((q : List PlainNode) → (reach_from limit terms q (pruned_nodes top_skip ns)).fires ≡ true → freezes ns ≡ true) → (l : ℕ) (k : PlainKind)
      → (let n : PlainNode = record { line = l; kind = k } in (reach_from limit terms before (pruned_nodes top_skip (n ∷ ns))).fires ≡ true → freezes (n ∷ ns) ≡ true)
  fires-kind before ns ih l (plain (hbox w h d)) e = refl
  fires-kind before ns ih l (plain (rule w h d)) e = refl
  fires-kind before ns ih l (plain (skip g)) e = ih before e
  fires-kind before ns ih l (plain (kerned g)) e = ih before e
  fires-kind before ns ih l (plain (pen q)) e = ih before e
  fires-kind before ns ih l (plain (mark w)) e = ih (before ++ record { line = l; kind = plain (mark w) } ∷ []) e
  fires-kind before ns ih l (plain (note w)) e = ih (before ++ record { line = l; kind = plain (note w) } ∷ []) e
  fires-kind before ns ih l (plain whatsit) e = ih (before ++ record { line = l; kind = plain whatsit } ∷ []) e
  fires-kind before ns ih l (ins i) e = refl
  fires-kind before ns ih l (act a) e = ih (before ++ []) e

  fires-begun : (before ns : List PlainNode) → (reach_from limit terms before (pruned_nodes top_skip ns)).fires ≡ true → freezes ns ≡ true
  fires-begun before [] e = absurd (true≢false (sym e))
  fires-begun before (n ∷ ns) e = fires-kind before ns (λ q f. fires-begun q ns f) n.line n.kind e

  -- so if the page fires, nodes behind it do not matter
  pub led-fires : (before ns more : List PlainNode) (s : State) → (reach_from limit terms before (pruned_nodes top_skip ns)).fires ≡ true → led_through (ns ++ more) s ≡ led_through ns s
  led-fires before ns more s e = led-begun ns more s (fires-begun before ns e)

  -- if no act is reached, none comes before the first box
  pub led-actless : (before ns : List PlainNode) (s : State) → acted_of (reach_from limit terms before (pruned_nodes top_skip ns)).reached ≡ [] → led_through ns s ≡ s
  led-actless before [] s e = refl
  led-actless before (n ∷ ns) s e = actless-kind before ns (λ q f t. led-actless q ns t f) s n.line n.kind e
