-- The page that fires is the same whatever waits behind, and that still waits behind afterwards.
use Rattle.std.proofs.Common.{◌≡◌, refl, sym, ◌∙◌, ap, ℕ, ℤ, Bool, true, false, List, [], ◌∷◌, ◌++◌, map, drop, Option, Some, None, append_assoc, arith}
use Rattle.std.specs.Prelude.{pos, int_lt, if◌then◌else◌}
use Rattle.tb_scaled.specs.Scaled.{inf_penalty}
use Rattle.tb_node.specs.PlainNodes.{hbox, rule, skip, kerned, pen, mark, note, whatsit, PlainKind, plain, ins, act, PlainNode, node_shape, without_acts, is_insertion_kind}
use Rattle.tb_break.specs.Places.{begins_with_glue, ends_lasting}
use Rattle.tb_break.specs.Best.{Breakpoint, is_stop}
use Rattle.tb_break.specs.PageTop.{pruned_nodes}
use Rattle.tb_insert.specs.declared.Class.{Class}
use Rattle.tb_insert.specs.Terms.{Terms}
use Rattle.tb_insert.specs.Account.{Labelled, terms_after}
use Rattle.tb_builder.specs.declared.Ask.{Ask}
use Rattle.tb_builder.specs.Reach.{Reach, tried, also_reached, page_place, stopped_at, reach_at, reach_node, reach_from}
use Rattle.tb_builder.specs.FiredPages.{Fired, Boxed, from_break, page_break, penalty_at, line_at, spent_kind, with_spent_break, fired_by, frozen_for, fired_of, reach_of}
use Rattle.tb_best.proofs.ReachMore.{with_more, reach-more}

-- these nodes wait behind the rest of a page
abbrev pub fired_with : List PlainNode → Fired → Fired
fired_with more f = record f { rest = f.rest ++ more }

-- the list has a node that is no insertion
abbrev pub has_other : List PlainNode → Bool
has_other [] = false
has_other (n ∷ ns) = if is_insertion_kind n.kind then has_other ns else true

other-either : (t : Bool) (xs ys : Bool) → ys ≡ true → (xs ≡ true) → (if t then xs else true) ≡ true
other-either true xs ys h k = k
other-either false xs ys h k = refl

pub other-behind : (xs ys : List PlainNode) → has_other ys ≡ true → has_other (xs ++ ys) ≡ true
other-behind [] ys h = h
other-behind (x ∷ xs) ys h = other-either (is_insertion_kind x.kind) (has_other (xs ++ ys)) (has_other ys) h (other-behind xs ys h)

-- ---- a page that fires leaves the node at which it stops

module _ (limit : ℤ) (terms : List PlainNode → Terms) where
  place-left : (n : PlainNode) (before rest : List PlainNode) (w : Reach) (b : Breakpoint) (t : Bool)
      → has_other (n ∷ rest) ≡ true → (w.fires ≡ true → has_other w.beyond ≡ true)
      → (if t then stopped_at before n rest b else also_reached (tried n.line b) w).fires ≡ true
      → has_other (if t then stopped_at before n rest b else also_reached (tried n.line b) w).beyond ≡ true
  place-left n before rest w b true stop ih h = stop
  place-left n before rest w b false stop ih h = ih h

  at-left : (n : PlainNode) (before rest : List PlainNode) (w : Reach) (o : Option ℤ)
      → has_other (n ∷ rest) ≡ true → (w.fires ≡ true → has_other w.beyond ≡ true)
      → (reach_at limit terms before n rest w o).fires ≡ true → has_other (reach_at limit terms before n rest w o).beyond ≡ true
  at-left n before rest w None stop ih h = ih h
  at-left n before rest w (Some p) stop ih h = place-left n before rest w (page_place limit terms before p) (is_stop (page_place limit terms before p)) stop ih h

  node-left : (before : List PlainNode) (l : ℕ) (k : PlainKind) (rest : List PlainNode) (w : Reach)
      → (w.fires ≡ true → has_other w.beyond ≡ true)
      → (reach_node limit terms before (record { line = l; kind = k }) rest w k).fires ≡ true → has_other (reach_node limit terms before (record { line = l; kind = k }) rest w k).beyond ≡ true
  node-left before l (plain (hbox a b d)) rest w ih h = ih h
  node-left before l (plain (rule a b d)) rest w ih h = ih h
  node-left before l (plain (skip g)) rest w ih h = at-left (record { line = l; kind = plain (skip g) }) before rest w (if ends_lasting (map node_shape before) then Some (pos 0) else None) refl ih h
  node-left before l (plain (kerned g)) rest w ih h = at-left (record { line = l; kind = plain (kerned g) }) before rest w (if begins_with_glue (map node_shape (without_acts rest)) then Some (pos 0) else None) refl ih h
  node-left before l (plain (pen p)) rest w ih h = at-left (record { line = l; kind = plain (pen p) }) before rest w (if int_lt p inf_penalty then Some p else None) refl ih h
  node-left before l (plain (mark a)) rest w ih h = ih h
  node-left before l (plain (note a)) rest w ih h = ih h
  node-left before l (plain whatsit) rest w ih h = ih h
  node-left before l (ins i) rest w ih h = ih h
  node-left before l (act a) rest w ih h = ih h

  pub reach-left : (before rest : List PlainNode) → (reach_from limit terms before rest).fires ≡ true → has_other (reach_from limit terms before rest).beyond ≡ true
  reach-left before [] h = let no : ⊥ = grind (arith, h) in absurd no
  reach-left before (n ∷ rest) h =
      let b = before ++ without_acts (n ∷ []) in
      node-left before n.line n.kind rest (reach_from limit terms b rest) (reach-left b rest) h

  -- ---- what vanishes at the top of a page

  module _ (top : ℤ) where
    top-node : (before : List PlainNode) (l : ℕ) (k : PlainKind) (rest more : List PlainNode)
        → ((b : List PlainNode) → (reach_from limit terms b (pruned_nodes top rest)).fires ≡ true → pruned_nodes top (rest ++ more) ≡ pruned_nodes top rest ++ more)
        → (reach_from limit terms before (pruned_nodes top (record { line = l; kind = k } ∷ rest))).fires ≡ true
        → pruned_nodes top (record { line = l; kind = k } ∷ rest ++ more) ≡ pruned_nodes top (record { line = l; kind = k } ∷ rest) ++ more
    top-node before l (plain (hbox a b d)) rest more ih h = refl
    top-node before l (plain (rule a b d)) rest more ih h = refl
    top-node before l (plain (skip g)) rest more ih h = ih before h
    top-node before l (plain (kerned g)) rest more ih h = ih before h
    top-node before l (plain (pen p)) rest more ih h = ih before h
    top-node before l (plain (mark a)) rest more ih h = ap (λ ns. record { line = l; kind = plain (mark a) } ∷ ns) (ih (before ++ record { line = l; kind = plain (mark a) } ∷ []) h)
    top-node before l (plain (note a)) rest more ih h = ap (λ ns. record { line = l; kind = plain (note a) } ∷ ns) (ih (before ++ record { line = l; kind = plain (note a) } ∷ []) h)
    top-node before l (plain whatsit) rest more ih h = ap (λ ns. record { line = l; kind = plain whatsit } ∷ ns) (ih (before ++ record { line = l; kind = plain whatsit } ∷ []) h)
    top-node before l (ins i) rest more ih h = ap (λ ns. record { line = l; kind = ins i } ∷ ns) (ih (before ++ record { line = l; kind = ins i } ∷ []) h)
    top-node before l (act a) rest more ih h = ap (λ ns. record { line = l; kind = act a } ∷ ns) (ih (before ++ []) h)

    pub top-more : (before rest more : List PlainNode) → (reach_from limit terms before (pruned_nodes top rest)).fires ≡ true → pruned_nodes top (rest ++ more) ≡ pruned_nodes top rest ++ more
    top-more before [] more h = let no : ⊥ = grind (arith, h) in absurd no
    top-more before (n ∷ rest) more h = top-node before n.line n.kind rest more (λ b. top-more b rest more) h

-- a page that begins reaches the same whatever waits behind
pub begun-more : (ask : Ask) (cs : List Class) (boxes : List Boxed) (ws more : List PlainNode)
    → (reach_of ask cs boxes [] ws).fires ≡ true → reach_of ask cs boxes [] (ws ++ more) ≡ with_more more (reach_of ask cs boxes [] ws)
begun-more ask cs boxes ws more h =
    let terms = terms_after (frozen_for ask cs boxes) in
    ap (reach_from ask.max_depth terms []) (top-more ask.max_depth terms ask.top_skip [] ws more h) ∙ reach-more ask.max_depth terms [] (pruned_nodes ask.top_skip ws) more h

-- ---- the page that fires

spent-more : (ns more : List PlainNode) → has_other ns ≡ true → with_spent_break (ns ++ more) ≡ with_spent_break ns ++ more
spent-more [] more h = let no : false ≡ true = h in cc
spent-more (n ∷ ns) more h = refl

penalty-more : (ns more : List PlainNode) → has_other ns ≡ true → penalty_at (ns ++ more) ≡ penalty_at ns
penalty-more [] more h = let no : false ≡ true = h in cc
penalty-more (n ∷ ns) more h = refl

line-more : (ns more : List PlainNode) → has_other ns ≡ true → line_at (ns ++ more) ≡ line_at ns
line-more [] more h = let no : false ≡ true = h in cc
line-more (n ∷ ns) more h = refl

pub fired-more : (ls : List Labelled) (boxes : List Boxed) (w : Reach) (more : List PlainNode) → has_other w.beyond ≡ true → fired_by ls boxes (with_more more w) ≡ fired_with more (fired_by ls boxes w)
fired-more ls boxes w more h = (λ i. record {
  body = (fired_by ls boxes w).body;
  boxes = (fired_by ls boxes w).boxes;
  held = (fired_by ls boxes w).held;
  rest = rest i;
  penalty = penalty i;
  cost = (fired_by ls boxes w).cost;
  size = (fired_by ls boxes w).size;
  shrink = (fired_by ls boxes w).shrink;
  line = line i;
})
  where
    front : List PlainNode
    front = drop (page_break w).place w.passed

    left : from_break (with_more more w) ≡ from_break w ++ more
    left = sym (append_assoc front w.beyond more)

    some : has_other (from_break w) ≡ true
    some = other-behind front w.beyond h

    rest : with_spent_break (from_break (with_more more w)) ≡ with_spent_break (from_break w) ++ more
    rest = ap with_spent_break left ∙ spent-more (from_break w) more some

    penalty : penalty_at (from_break (with_more more w)) ≡ penalty_at (from_break w)
    penalty = ap penalty_at left ∙ penalty-more (from_break w) more some

    line : line_at (from_break (with_more more w)) ≡ line_at (from_break w)
    line = ap line_at left ∙ line-more (from_break w) more some

pub fired-of-more : (ask : Ask) (cs : List Class) (boxes : List Boxed) (w : Reach) (more : List PlainNode) → has_other w.beyond ≡ true → fired_of ask cs boxes (with_more more w) ≡ fired_with more (fired_of ask cs boxes w)
fired-of-more ask cs boxes w more h = fired-more _ boxes w more h

-- ---- what waits after it is not insertions alone

same-sort : (k : PlainKind) → is_insertion_kind (spent_kind k) ≡ is_insertion_kind k
same-sort (plain (pen p)) = refl
same-sort (plain m) = refl
same-sort (ins i) = refl
same-sort (act a) = refl

spent-other : (ns : List PlainNode) → has_other ns ≡ true → has_other (with_spent_break ns) ≡ true
spent-other [] h = h
spent-other (n ∷ ns) h = ap (λ t. if t then has_other ns else true) (same-sort n.kind) ∙ h

pub rest-other : (ask : Ask) (cs : List Class) (boxes : List Boxed) (w : Reach) → has_other w.beyond ≡ true → has_other (fired_of ask cs boxes w).rest ≡ true
rest-other ask cs boxes w h = spent-other (from_break w) (other-behind (drop (page_break w).place w.passed) w.beyond h)
