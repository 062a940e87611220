-- A page with a box fires where a break is put in, whatever is behind.
use Rattle.std.proofs.Common.{◌≡◌, refl, sym, ◌∙◌, ap, ℕ, ℤ, Bool, true, false, List, [], ◌∷◌, ◌++◌, map, Option, Some, None, append_assoc, arith}
use Rattle.std.specs.Prelude.{pos, neg_ℤ, ◌||◌, int_lt, int_le, if◌then◌else◌}
use Rattle.tb_scaled.specs.Scaled.{awful_bad, inf_penalty, eject_penalty}
use Rattle.tb_node.specs.PlainNodes.{hbox, rule, skip, kerned, pen, mark, note, whatsit, PlainKind, plain, ins, act, PlainNode, node_shape, without_acts, on_line, blank_box}
use Rattle.tb_node.specs.Shape.{is_box}
use Rattle.tb_node.specs.declared.Act.{Act}
use Rattle.tb_galley.specs.GalleyNodes.{with_firings}
use Rattle.tb_break.specs.Best.{Breakpoint, is_stop}
use Rattle.tb_break.specs.PageTop.{pruned_nodes}
use Rattle.tb_break.specs.Places.{legal_penalty}
use Rattle.tb_insert.specs.Terms.{Terms}
use Rattle.tb_insert.specs.Account.{terms_after}
use Rattle.tb_builder.specs.Reach.{Reach, tried, also_reached, page_place, stopped_at, reach_at, reach_node, reach_from, holds_box}
use Rattle.tb_builder.specs.FiredPages.{frozen_for}
use Rattle.tb_output.specs.State.{State}
use Rattle.tb_steps.specs.Run.{ask_for}
use Rattle.tb_best.specs.PlanDemerits.{reach_in}
use Rattle.tb_best.specs.ItemsAhead.{Ahead, forced, state_with}

-- a penalty on this line
abbrev penalty_on : ℕ → ℤ → PlainNode
penalty_on line q = record { line = line; kind = plain (pen q) }

-- the penalty is low enough to force a break
record IsForced (q : ℤ) : Type 0 where
  legal : int_lt q inf_penalty ≡ true
  stops : int_le q eject_penalty ≡ true

-- ---- what is reached

module _ (limit : ℤ) (terms : List PlainNode → Terms) where
  place-fires : (n : PlainNode) (before rest : List PlainNode) (w : Reach) (b : Breakpoint) (t : Bool) → w.fires ≡ true → (if t then stopped_at before n rest b else also_reached (tried n.line b) w).fires ≡ true
  place-fires n before rest w b true h = refl
  place-fires n before rest w b false h = h

  at-fires : (n : PlainNode) (before rest : List PlainNode) (w : Reach) (o : Option ℤ) → w.fires ≡ true → (reach_at limit terms before n rest w o).fires ≡ true
  at-fires n before rest w None h = h
  at-fires n before rest w (Some q) h = place-fires n before rest w (page_place limit terms before q) (is_stop (page_place limit terms before q)) h

  node-fires : (n : PlainNode) (before rest : List PlainNode) (w : Reach) (k : PlainKind) → w.fires ≡ true → (reach_node limit terms before n rest w k).fires ≡ true
  node-fires n before rest w (plain m) h = at-fires n before rest w (legal_penalty (map node_shape before) (map node_shape (n ∷ without_acts rest))) h
  node-fires n before rest w (ins i) h = h
  node-fires n before rest w (act a) h = h

  stops-by : (n : PlainNode) (before rest : List PlainNode) (w : Reach) (b : Breakpoint) (t : Bool) → t ≡ true → (if t then stopped_at before n rest b else also_reached (tried n.line b) w).fires ≡ true
  stops-by n before rest w b true h = refl
  stops-by n before rest w b false h = let no : ⊥ = grind (arith, h) in absurd no

  either-stop : (t u : Bool) → u ≡ true → (t || u) ≡ true
  either-stop true u h = refl
  either-stop false u h = h

  module _ (line : ℕ) (q : ℤ) (forces : IsForced q) where
    -- a forced break fires
    forced-fires : (before rest : List PlainNode) → (reach_from limit terms before (penalty_on line q ∷ rest)).fires ≡ true
    forced-fires before rest =
        let b = page_place limit terms before q in
        let later = reach_from limit terms (before ++ without_acts (penalty_on line q ∷ [])) rest in
        ap (λ t. (reach_at limit terms before (penalty_on line q) rest later (if t then Some q else None)).fires) forces.legal
        ∙ stops-by (penalty_on line q) before rest later b (is_stop b) (either-stop (int_le awful_bad b.cost) (int_le q eject_penalty) forces.stops)

    -- and so does a list that has one
    list-fires : (before xs rest : List PlainNode) → (reach_from limit terms before (xs ++ penalty_on line q ∷ rest)).fires ≡ true
    list-fires before [] rest = forced-fires before rest
    list-fires before (n ∷ xs) rest =
        node-fires n before (xs ++ penalty_on line q ∷ rest) (reach_from limit terms (before ++ without_acts (n ∷ [])) (xs ++ penalty_on line q ∷ rest)) n.kind (list-fires (before ++ without_acts (n ∷ [])) xs rest)

-- ---- what is behind the first box stays

module _ (top : ℤ) where
  top-node : (l : ℕ) (k : PlainKind) (xs more : List PlainNode) → (holds_box xs ≡ true → pruned_nodes top (xs ++ more) ≡ pruned_nodes top xs ++ more)
      → holds_box (record { line = l; kind = k } ∷ xs) ≡ true
      → pruned_nodes top (record { line = l; kind = k } ∷ xs ++ more) ≡ pruned_nodes top (record { line = l; kind = k } ∷ xs) ++ more
  top-node l (plain (hbox a b d)) xs more ih h = refl
  top-node l (plain (rule a b d)) xs more ih h = refl
  top-node l (plain (skip g)) xs more ih h = ih h
  top-node l (plain (kerned g)) xs more ih h = ih h
  top-node l (plain (pen p)) xs more ih h = ih h
  top-node l (plain (mark a)) xs more ih h = ap (λ ns. record { line = l; kind = plain (mark a) } ∷ ns) (ih h)
  top-node l (plain (note a)) xs more ih h = ap (λ ns. record { line = l; kind = plain (note a) } ∷ ns) (ih h)
  top-node l (plain whatsit) xs more ih h = ap (λ ns. record { line = l; kind = plain whatsit } ∷ ns) (ih h)
  top-node l (ins i) xs more ih h = ap (λ ns. record { line = l; kind = ins i } ∷ ns) (ih h)
  top-node l (act a) xs more ih h = ap (λ ns. record { line = l; kind = act a } ∷ ns) (ih h)

  pub box-first : (xs more : List PlainNode) → holds_box xs ≡ true → pruned_nodes top (xs ++ more) ≡ pruned_nodes top xs ++ more
  box-first [] more h = let no : ⊥ = grind (arith, h) in absurd no
  box-first (n ∷ xs) more h = top-node n.line n.kind xs more (box-first xs more) h

-- a page with a box fires at a forced break behind it
pub behind-box : (s : State) (line : ℕ) (q : ℤ) (rest : List PlainNode) → int_lt q inf_penalty ≡ true → int_le q eject_penalty ≡ true → holds_box s.waiting ≡ true
    → (reach_in (state_with (record { line = line; kind = plain (pen q) } ∷ rest) s)).fires ≡ true
behind-box s line q rest legal stops box =
    let made = ask_for (state_with (penalty_on line q ∷ rest) s) in
    let limit = made.max_depth in
    let terms = terms_after (frozen_for made s.classes s.boxes) in
    ap (λ ns. (reach_from limit terms [] ns).fires) (box-first made.top_skip s.waiting (penalty_on line q ∷ rest) box)
    ∙ list-fires limit terms line q (record { legal = legal; stops = stops }) [] (pruned_nodes made.top_skip s.waiting) rest

-- a page with a box fires where a break is put in
pub cut-fires : (s : State) (c : Ahead) → holds_box s.waiting ≡ true → (reach_in (state_with (forced c ∷ c.nodes) s)).fires ≡ true
cut-fires s c box = behind-box s c.line (neg_ℤ (pos 10000)) c.nodes refl refl box

-- ---- a float or marginal note

box-by : (t u : Bool) → t ≡ true → (u || t) ≡ true
box-by t true h = refl
box-by t false h = h

box-behind : (xs ys : List PlainNode) → holds_box ys ≡ true → holds_box (xs ++ ys) ≡ true
box-behind [] ys h = h
box-behind (x ∷ xs) ys h = box-by (holds_box (xs ++ ys)) (is_box (node_shape x)) (box-behind xs ys h)

-- the nodes of a float or note up to its second firing
abbrev first_nodes : ℕ → Act → List PlainNode
first_nodes line a = on_line line (act a ∷ plain (pen (neg_ℤ (pos 10004))) ∷ plain blank_box ∷ [])

second-fires : (s : State) (line : ℕ) (a : Act) (vert : Bool)
    → (reach_in (state_with (record { line = line; kind = plain (pen (neg_ℤ (pos (if vert then 10003 else 10002)))) } ∷ []) (state_with (first_nodes line a) s))).fires ≡ true
second-fires s line a true = behind-box (state_with (first_nodes line a) s) line (neg_ℤ (pos 10003)) [] refl refl (box-behind s.waiting (first_nodes line a) refl)
second-fires s line a false = behind-box (state_with (first_nodes line a) s) line (neg_ℤ (pos 10002)) [] refl refl (box-behind s.waiting (first_nodes line a) refl)

-- a page fires at an item with firings of its own
pub item-fires : (s : State) (line : ℕ) (a : Act) (vert : Bool) → (reach_in (state_with (on_line line (with_firings a vert)) s)).fires ≡ true
item-fires s line a vert =
    ap (λ ns. (reach_in (record s { waiting = ns })).fires) (sym (append_assoc s.waiting (first_nodes line a) (record { line = line; kind = plain (pen (neg_ℤ (pos (if vert then 10003 else 10002)))) } ∷ [])))
    ∙ second-fires s line a vert
