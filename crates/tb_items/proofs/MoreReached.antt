-- What a page reaches of the nodes that wait, if more come behind them.
use Rattle.std.proofs.Common.{◌≡◌, refl, sym, ◌∙◌, ap, ℕ, ℤ, Bool, true, false, List, [], ◌∷◌, ◌++◌, map, Option, Some, None}
use Rattle.std.specs.Prelude.{pos, int_lt, if◌then◌else◌}
use Rattle.std.proofs.lemmas.Bool.{true≢false}
use Rattle.tb_scaled.specs.Scaled.{inf_penalty}
use Rattle.tb_node.specs.PlainNodes.{hbox, rule, skip, kerned, pen, mark, note, whatsit, PlainKind, plain, ins, act, PlainNode, node_shape, without_acts}
use Rattle.tb_break.specs.PageTop.{pruned_nodes}
use Rattle.tb_break.specs.Places.{ends_lasting}
use Rattle.tb_break.specs.Best.{Breakpoint, is_stop}
use Rattle.tb_insert.specs.Terms.{Terms}
use Rattle.tb_builder.specs.LegalPlaces.{glue_first}
use Rattle.tb_builder.specs.Reach.{Reached, Reach, tried, acted, also_reached, page_place, stopped_at, reach_at, reach_node, reach_from, holds_box}
use Rattle.tb_builder.specs.PageProgress.{after_all}
use Rattle.tb_items.specs.ItemsLeft.{kern_last}
use Rattle.tb_items.proofs.OpenLemmas.{open-back, StartsPlain, some-plain, glue-more}

-- the same with more nodes behind the stop
abbrev pub with_beyond : List PlainNode → Reach → Reach
with_beyond more w = record w { beyond = w.beyond ++ more }

-- at a stop more nodes are beyond it; without one what they reach follows
abbrev pub going_on : ℤ → (List PlainNode → Terms) → List PlainNode → Reach → Reach
going_on limit terms more w = if w.fires then with_beyond more w else after_all w.reached (reach_from limit terms w.passed more)

module _ (limit : ℤ) (terms : List PlainNode → Terms) where
  also-by : (r : Reached) (w v : Reach) (more : List PlainNode) (t : Bool)
      → (if t then with_beyond more (also_reached r w) else after_all (r ∷ w.reached) v) ≡ also_reached r (if t then with_beyond more w else after_all w.reached v)
  also-by r w v more true = refl
  also-by r w v more false = refl

  pub going-also : (r : Reached) (w : Reach) (more : List PlainNode) → going_on limit terms more (also_reached r w) ≡ also_reached r (going_on limit terms more w)
  going-also r w more = also-by r w (reach_from limit terms w.passed more) more w.fires

  pub going-stops : (w : Reach) (more : List PlainNode) → w.fires ≡ true → going_on limit terms more w ≡ with_beyond more w
  going-stops w more e = ap (λ t. if t then with_beyond more w else after_all w.reached (reach_from limit terms w.passed more)) e

  pub going-quiet : (w : Reach) (more : List PlainNode) → w.fires ≡ false → going_on limit terms more w ≡ after_all w.reached (reach_from limit terms w.passed more)
  going-quiet w more e = ap (λ t. if t then with_beyond more w else after_all w.reached (reach_from limit terms w.passed more)) e

  place-more : (n : PlainNode) (before rest more : List PlainNode) (w v : Reach) (b : Breakpoint) (t : Bool) → v ≡ going_on limit terms more w
      → (if t then stopped_at before n (rest ++ more) b else also_reached (tried n.line b) v) ≡ going_on limit terms more (if t then stopped_at before n rest b else also_reached (tried n.line b) w)
  place-more n before rest more w v b true h = refl
  place-more n before rest more w v b false h = ap (also_reached (tried n.line b)) h ∙ sym (going-also (tried n.line b) w more)

  at-more : (n : PlainNode) (before rest more : List PlainNode) (w v : Reach) (o : Option ℤ) → v ≡ going_on limit terms more w
      → reach_at limit terms before n (rest ++ more) v o ≡ going_on limit terms more (reach_at limit terms before n rest w o)
  at-more n before rest more w v None h = h
  at-more n before rest more w v (Some p) h = place-more n before rest more w v (page_place limit terms before p) (is_stop (page_place limit terms before p)) h

  node-more : (before : List PlainNode) (l : ℕ) (k : PlainKind) (rest more : List PlainNode) (w v : Reach) → (let n : PlainNode = record { line = l; kind = k } in kern_last false (n ∷ rest) ≡ false)
      → v ≡ going_on limit terms more w
      → (let n : PlainNode = record { line = l; kind = k } in reach_node limit terms before n (rest ++ more) v k ≡ going_on limit terms more (reach_node limit terms before n rest w k))
  node-more before l (plain (hbox a b d)) rest more w v ends h = h
  node-more before l (plain (rule a b d)) rest more w v ends h = h
  node-more before l (plain (skip g)) rest more w v ends h = at-more (record { line = l; kind = plain (skip g) }) before rest more w v (if ends_lasting (map node_shape before) then Some (pos 0) else None) h
  node-more before l (plain (kerned g)) rest more w v ends h =
      let n : PlainNode = record { line = l; kind = plain (kerned g) } in
      ap (λ (t : Bool). reach_at limit terms before n (rest ++ more) v (if t then Some (pos 0) else None)) (glue-more rest more (some-plain rest ends))
      ∙ at-more n before rest more w v (if glue_first rest then Some (pos 0) else None) h
  node-more before l (plain (pen p)) rest more w v ends h = at-more (record { line = l; kind = plain (pen p) }) before rest more w v (if int_lt p inf_penalty then Some p else None) h
  node-more before l (plain (mark a)) rest more w v ends h = h
  node-more before l (plain (note a)) rest more w v ends h = h
  node-more before l (plain whatsit) rest more w v ends h = h
  node-more before l (ins i) rest more w v ends h = h
  node-more before l (act a) rest more w v ends h = ap (also_reached (acted a)) h ∙ sym (going-also (acted a) w more)

  -- what more nodes reach
  pub reach-more : (before ns more : List PlainNode) → kern_last false ns ≡ false → reach_from limit terms before (ns ++ more) ≡ going_on limit terms more (reach_from limit terms before ns)
  reach-more before [] more h = refl
  reach-more before (n ∷ ns) more h =
      let b = before ++ without_acts (n ∷ []) in
      node-more before n.line n.kind ns more (reach_from limit terms b ns) (reach_from limit terms b (ns ++ more)) h (reach-more b ns more (open-back (n ∷ []) ns h))

  -- ---- at a stop

  place-left : (n : PlainNode) (before rest : List PlainNode) (w : Reach) (b : Breakpoint) (t : Bool) → StartsPlain (n ∷ rest) → (w.fires ≡ true → StartsPlain w.beyond)
      → (if t then stopped_at before n rest b else also_reached (tried n.line b) w).fires ≡ true → StartsPlain (if t then stopped_at before n rest b else also_reached (tried n.line b) w).beyond
  place-left n before rest w b true s ih h = s
  place-left n before rest w b false s ih h = ih h

  at-left : (n : PlainNode) (before rest : List PlainNode) (w : Reach) (o : Option ℤ) → StartsPlain (n ∷ rest) → (w.fires ≡ true → StartsPlain w.beyond)
      → (reach_at limit terms before n rest w o).fires ≡ true → StartsPlain (reach_at limit terms before n rest w o).beyond
  at-left n before rest w None s ih h = ih h
  at-left n before rest w (Some p) s ih h = place-left n before rest w (page_place limit terms before p) (is_stop (page_place limit terms before p)) s ih h

  node-left : (before : List PlainNode) (l : ℕ) (k : PlainKind) (rest : List PlainNode) (w : Reach) → (w.fires ≡ true → StartsPlain w.beyond)
      → (let n : PlainNode = record { line = l; kind = k } in (reach_node limit terms before n rest w k).fires ≡ true → StartsPlain (reach_node limit terms before n rest w k).beyond)
  node-left before l (plain (hbox a b d)) rest w ih h = ih h
  node-left before l (plain (rule a b d)) rest w ih h = ih h
  node-left before l (plain (skip g)) rest w ih h =
      at-left (record { line = l; kind = plain (skip g) }) before rest w (if ends_lasting (map node_shape before) then Some (pos 0) else None) (record { first = record { line = l; kind = plain (skip g) }; rest = without_acts rest; is = refl }) ih h
  node-left before l (plain (kerned g)) rest w ih h =
      at-left (record { line = l; kind = plain (kerned g) }) before rest w (if glue_first rest then Some (pos 0) else None) (record { first = record { line = l; kind = plain (kerned g) }; rest = without_acts rest; is = refl }) ih h
  node-left before l (plain (pen p)) rest w ih h =
      at-left (record { line = l; kind = plain (pen p) }) before rest w (if int_lt p inf_penalty then Some p else None) (record { first = record { line = l; kind = plain (pen p) }; rest = without_acts rest; is = refl }) ih h
  node-left before l (plain (mark a)) rest w ih h = ih h
  node-left before l (plain (note a)) rest w ih h = ih h
  node-left before l (plain whatsit) rest w ih h = ih h
  node-left before l (ins i) rest w ih h = ih h
  node-left before l (act a) rest w ih h = ih h

  -- the stop is before a node that is no act
  pub reach-left : (before ns : List PlainNode) → (reach_from limit terms before ns).fires ≡ true → StartsPlain (reach_from limit terms before ns).beyond
  reach-left before [] h = absurd (true≢false (sym h))
  reach-left before (n ∷ ns) h =
      let b = before ++ without_acts (n ∷ []) in
      node-left before n.line n.kind ns (reach_from limit terms b ns) (reach-left b ns) h

  -- ---- without a stop

  place-none : (n : PlainNode) (before rest : List PlainNode) (w : Reach) (b : Breakpoint) (t : Bool) → (w.fires ≡ false → w.beyond ≡ [])
      → (if t then stopped_at before n rest b else also_reached (tried n.line b) w).fires ≡ false → (if t then stopped_at before n rest b else also_reached (tried n.line b) w).beyond ≡ []
  place-none n before rest w b true ih h = absurd (true≢false h)
  place-none n before rest w b false ih h = ih h

  at-none : (n : PlainNode) (before rest : List PlainNode) (w : Reach) (o : Option ℤ) → (w.fires ≡ false → w.beyond ≡ [])
      → (reach_at limit terms before n rest w o).fires ≡ false → (reach_at limit terms before n rest w o).beyond ≡ []
  at-none n before rest w None ih h = ih h
  at-none n before rest w (Some p) ih h = place-none n before rest w (page_place limit terms before p) (is_stop (page_place limit terms before p)) ih h

  node-none : (before : List PlainNode) (l : ℕ) (k : PlainKind) (rest : List PlainNode) (w : Reach) → (w.fires ≡ false → w.beyond ≡ [])
      → (let n : PlainNode = record { line = l; kind = k } in (reach_node limit terms before n rest w k).fires ≡ false → (reach_node limit terms before n rest w k).beyond ≡ [])
  node-none before l (plain (hbox a b d)) rest w ih h = ih h
  node-none before l (plain (rule a b d)) rest w ih h = ih h
  node-none before l (plain (skip g)) rest w ih h = at-none (record { line = l; kind = plain (skip g) }) before rest w (if ends_lasting (map node_shape before) then Some (pos 0) else None) ih h
  node-none before l (plain (kerned g)) rest w ih h = at-none (record { line = l; kind = plain (kerned g) }) before rest w (if glue_first rest then Some (pos 0) else None) ih h
  node-none before l (plain (pen p)) rest w ih h = at-none (record { line = l; kind = plain (pen p) }) before rest w (if int_lt p inf_penalty then Some p else None) ih h
  node-none before l (plain (mark a)) rest w ih h = ih h
  node-none before l (plain (note a)) rest w ih h = ih h
  node-none before l (plain whatsit) rest w ih h = ih h
  node-none before l (ins i) rest w ih h = ih h
  node-none before l (act a) rest w ih h = ih h

  -- nothing is beyond
  pub reach-none : (before ns : List PlainNode) → (reach_from limit terms before ns).fires ≡ false → (reach_from limit terms before ns).beyond ≡ []
  reach-none before [] h = refl
  reach-none before (n ∷ ns) h =
      let b = before ++ without_acts (n ∷ []) in
      node-none before n.line n.kind ns (reach_from limit terms b ns) (reach-none b ns) h

  -- ---- on a page without a box

  top-box : (t : ℤ) (before : List PlainNode) (l : ℕ) (k : PlainKind) (rest : List PlainNode)
      → ((b : List PlainNode) → (reach_from limit terms b (pruned_nodes t rest)).fires ≡ true → holds_box (pruned_nodes t rest) ≡ true)
      → (let n : PlainNode = record { line = l; kind = k } in (reach_from limit terms before (pruned_nodes t (n ∷ rest))).fires ≡ true → holds_box (pruned_nodes t (n ∷ rest)) ≡ true)
  top-box t before l (plain (hbox a b d)) rest ih h = refl
  top-box t before l (plain (rule a b d)) rest ih h = refl
  top-box t before l (plain (skip g)) rest ih h = ih before h
  top-box t before l (plain (kerned g)) rest ih h = ih before h
  top-box t before l (plain (pen p)) rest ih h = ih before h
  top-box t before l (plain (mark a)) rest ih h = ih (before ++ record { line = l; kind = plain (mark a) } ∷ []) h
  top-box t before l (plain (note a)) rest ih h = ih (before ++ record { line = l; kind = plain (note a) } ∷ []) h
  top-box t before l (plain whatsit) rest ih h = ih (before ++ record { line = l; kind = plain whatsit } ∷ []) h
  top-box t before l (ins i) rest ih h = ih (before ++ record { line = l; kind = ins i } ∷ []) h
  top-box t before l (act a) rest ih h = ih (before ++ []) h

  -- a stop comes after a box
  pub reach-box : (t : ℤ) (before ns : List PlainNode) → (reach_from limit terms before (pruned_nodes t ns)).fires ≡ true → holds_box (pruned_nodes t ns) ≡ true
  reach-box t before [] h = absurd (true≢false (sym h))
  reach-box t before (n ∷ ns) h = top-box t before n.line n.kind ns (λ b. reach-box t b ns) h
