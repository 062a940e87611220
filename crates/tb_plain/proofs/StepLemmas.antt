-- Each step that goes on lowers what is left of the steps.
use Rattle.std.proofs.Common.{◌≡◌, refl, sym, ◌∙◌, ap, ℕ, ℤ, zero, suc, pos, negsuc, ◌+◌, ◌*◌, ◌-◌, ◌<◌, ◌≤◌, inl, inr, ◌⊎◌, Bool, true, false, List, [], ◌∷◌, ◌++◌, take, drop, Option, Some, None, append_assoc, arith}
use Rattle.std.specs.Prelude.{pred, nat_abs, int_lt, int_le, ◌||◌, ◌&&◌, if◌then◌else◌}
use Rattle.std.proofs.lemmas.Int.{ints}
use Rattle.std.proofs.lemmas.Bool.{true≢false}
use Rattle.std.proofs.Math.Bool.{or-true}
use Rattle.tb_node.specs.declared.Act.{Act}
use Rattle.tb_node.specs.declared.Act.TheVariants as acts
use Rattle.tb_node.specs.declared.Float.{Float}
use Rattle.tb_node.specs.PlainNodes.{blank_box, hbox, skip, pen, Leaf, Inserted, PlainKind, plain, ins, act, PlainNode, without_acts, on_line, made}
use Rattle.tb_param.specs.declared.Params.{Params}
use Rattle.tb_break.specs.Best.{Breakpoint, is_stop}
use Rattle.tb_break.specs.PageTop.{pruned_nodes}
use Rattle.tb_insert.specs.Terms.{Terms}
use Rattle.tb_insert.specs.Account.{Labelled, Label, whole, split, late, labelled, terms_after}
use Rattle.tb_builder.specs.declared.PageSums.{PageSums}
use Rattle.tb_builder.specs.declared.Try.{Try}
use Rattle.tb_builder.specs.Reach.{tried, Reach, also_reached, holds_box, laid_out, page_place, stopped_at, reach_at_place, reach_at, reach_node, reach_from}
use Rattle.tb_builder.specs.FiredPages.{Fired, page_break, spent_kind, with_spent_break, held_of, unless_empty, held_insertions, frozen_for, reach_of}
use Rattle.tb_builder.specs.PageSums.{page_sums_of}
use Rattle.tb_builder.specs.Contents.{node_count}
use Rattle.tb_sheet.specs.Sheet.{PlainSent, shipped, one}
use Rattle.tb_plain.specs.GalleyNodes.{clearing_glue}
use Rattle.tb_plain.specs.TakenFloats.{top_insertion, top_leaves, page_leaves, here_nodes, with_float, taken_nodes, act_nodes}
use Rattle.tb_plain.specs.Firing.{holds_any, makeup_column, page_for_held, put_back_after}
use Rattle.tb_plain.specs.Run.{MakeupState, MakeupStep, ends, goes_on, makeup_ask, makeup_classes, void_boxes, builder_holds, makeup_reach, AtAct, no_act, at_act, after_node, first_act_by, first_act, meets_act, act_step, waiting_after, shipping_step, firing_step, ejecting_nodes, last_step, makeup_step, step_tries, step_events, run_after, run_by, makeup_from, one_act, act_count, node_limit, page_limit, done}
use Rattle.tb_plain.specs.RunSteps.{StepsAgree}
use Rattle.tb_plain.proofs.ReachLemmas.{fired_here}

-- ---- acts

pub acts-append : (xs ys : List PlainNode) → act_count (xs ++ ys) ≡ act_count xs + act_count ys
acts-append [] ys = omega arith
acts-append (x ∷ xs) ys = let h : act_count (xs ++ ys) ≡ act_count xs + act_count ys = acts-append xs ys in omega arith

node-pruned : (t : ℤ) (ns : List PlainNode) → act_count (pruned_nodes t ns) ≡ act_count ns → (n : ℕ) (k : PlainKind) → act_count (pruned_nodes t (record { line = n; kind = k } ∷ ns)) ≡ one_act k + act_count ns
node-pruned t ns h n (plain (hbox w a d)) = omega arith
node-pruned t ns h n k = omega arith

acts-pruned : (t : ℤ) (ns : List PlainNode) → act_count (pruned_nodes t ns) ≡ act_count ns
acts-pruned t [] = refl
acts-pruned t (n ∷ ns) = node-pruned t ns (acts-pruned t ns) n.line n.kind

pub acts-laid : (t : ℤ) (page waiting : List PlainNode) → act_count (laid_out t page waiting) ≡ act_count page + act_count waiting
acts-laid t page waiting = by_box (holds_box page)
  where
    by_box : (b : Bool) → act_count (page ++ (if b then waiting else pruned_nodes t waiting)) ≡ act_count page + act_count waiting
    by_box true = acts-append page waiting
    by_box false = acts-append page (pruned_nodes t waiting) ∙ ap (λ n. act_count page + n) (acts-pruned t waiting)

-- ---- what is reached

abbrev reach_acts : Reach → ℕ
reach_acts w = act_count w.passed + act_count w.beyond

module _ (limit : ℤ) (terms : List PlainNode → Terms) where
  place-acts : (m : ℕ) (before : List PlainNode) (n : PlainNode) (rest : List PlainNode) (later : Reach) (b : Breakpoint) → act_count before + act_count (n ∷ rest) ≤ m → reach_acts later ≤ m → reach_acts (reach_at_place before n rest later b) ≤ m
  place-acts m before n rest later b g h = by_stop (is_stop b)
    where
      by_stop : (t : Bool) → reach_acts (if t then stopped_at before n rest b else also_reached (tried n.line b) later) ≤ m
      by_stop true = g
      by_stop false = h

  at-acts : (m : ℕ) (before : List PlainNode) (n : PlainNode) (rest : List PlainNode) (later : Reach) (o : Option ℤ) → act_count before + act_count (n ∷ rest) ≤ m → reach_acts later ≤ m → reach_acts (reach_at limit terms before n rest later o) ≤ m
  at-acts m before n rest later None g h = h
  at-acts m before n rest later (Some p) g h = place-acts m before n rest later (page_place limit terms before p) g h

  node-acts : (before : List PlainNode) (l : ℕ) (k : PlainKind) (rest : List PlainNode) (later : Reach) → reach_acts later ≤ act_count (before ++ without_acts (record { line = l; kind = k } ∷ [])) + act_count rest
      → reach_acts (reach_node limit terms before (record { line = l; kind = k }) rest later k) ≤ act_count before + (one_act k + act_count rest)
  node-acts before l (plain m) rest later h =
      let e : act_count (before ++ record { line = l; kind = plain m } ∷ []) ≡ act_count before + 0 = acts-append before (record { line = l; kind = plain m } ∷ []) in
      at-acts (act_count before + (0 + act_count rest)) before (record { line = l; kind = plain m }) rest later _ (omega arith) (omega arith)
  node-acts before l (ins i) rest later h =
      let e : act_count (before ++ record { line = l; kind = ins i } ∷ []) ≡ act_count before + 0 = acts-append before (record { line = l; kind = ins i } ∷ []) in
      omega arith
  node-acts before l (act a) rest later h =
      let e : act_count (before ++ []) ≡ act_count before + 0 = acts-append before [] in
      omega arith

  pub reach-acts : (before rest : List PlainNode) → reach_acts (reach_from limit terms before rest) ≤ act_count before + act_count rest
  reach-acts before [] = omega arith
  reach-acts before (n ∷ rest) = node-acts before n.line n.kind rest (reach_from limit terms (before ++ without_acts (n ∷ [])) rest) (reach-acts (before ++ without_acts (n ∷ [])) rest)

  -- ---- a forced penalty fires

  place-fires : (before : List PlainNode) (n : PlainNode) (rest : List PlainNode) (later : Reach) (b : Breakpoint) → later.fires ≡ true → (reach_at_place before n rest later b).fires ≡ true
  place-fires before n rest later b h = by_stop (is_stop b)
    where
      by_stop : (t : Bool) → (if t then stopped_at before n rest b else also_reached (tried n.line b) later).fires ≡ true
      by_stop true = refl
      by_stop false = h

  at-fires : (before : List PlainNode) (n : PlainNode) (rest : List PlainNode) (later : Reach) (o : Option ℤ) → later.fires ≡ true → (reach_at limit terms before n rest later o).fires ≡ true
  at-fires before n rest later None h = h
  at-fires before n rest later (Some p) h = place-fires before n rest later (page_place limit terms before p) h

  node-fires : (before : List PlainNode) (n : PlainNode) (rest : List PlainNode) (later : Reach) (k : PlainKind) → later.fires ≡ true → (reach_node limit terms before n rest later k).fires ≡ true
  node-fires before n rest later (plain m) h = at-fires before n rest later _ h
  node-fires before n rest later (ins i) h = h
  node-fires before n rest later (act a) h = h

  abbrev eject : PlainNode
  eject = made (pen (negsuc 1073741823))

  eject-fires : (before : List PlainNode) → (reach_from limit terms before (eject ∷ [])).fires ≡ true
  eject-fires before = by_stop (is_stop (page_place limit terms before (negsuc 1073741823))) (or-true _)
    where
      by_stop : (t : Bool) → t ≡ true → (if t then stopped_at before eject [] (page_place limit terms before (negsuc 1073741823)) else also_reached (tried 0 (page_place limit terms before (negsuc 1073741823))) (reach_from limit terms (before ++ eject ∷ []) [])).fires ≡ true
      by_stop true e = refl
      by_stop false e = absurd (true≢false (sym e))

  pub forced : (before xs : List PlainNode) → (reach_from limit terms before (xs ++ eject ∷ [])).fires ≡ true
  forced before [] = eject-fires before
  forced before (x ∷ xs) = node-fires before x (xs ++ eject ∷ []) (reach_from limit terms (before ++ without_acts (x ∷ [])) (xs ++ eject ∷ [])) x.kind (forced (before ++ without_acts (x ∷ [])) xs)

-- ---- a page that fires

unless-acts : (line : ℕ) (i : Inserted) (ls : List Leaf) → act_count (on_line line (unless_empty i ls)) ≡ 0
unless-acts line i [] = refl
unless-acts line i (l ∷ ls) = refl

held_of-acts : (line : ℕ) (t : Label) (i : Inserted) → act_count (on_line line (held_of t i)) ≡ 0
held_of-acts line whole i = refl
held_of-acts line (split f) i = unless-acts line i _
held_of-acts line late i = refl

pub held-acts : (ls : List Labelled) → act_count (held_insertions ls) ≡ 0
held-acts [] = refl
held-acts (l ∷ ls) =
    let a : act_count (on_line l.line (held_of l.label l.inserted)) ≡ 0 = held_of-acts l.line l.label l.inserted in
    let b : act_count (on_line l.line (held_of l.label l.inserted) ++ held_insertions ls) ≡ act_count (on_line l.line (held_of l.label l.inserted)) + act_count (held_insertions ls) = acts-append (on_line l.line (held_of l.label l.inserted)) (held_insertions ls) in
    let h : act_count (held_insertions ls) ≡ 0 = held-acts ls in
    omega arith

pub spent-acts : (ns : List PlainNode) → act_count (with_spent_break ns) ≡ act_count ns
spent-acts [] = refl
spent-acts (n ∷ ns) = by_kind n.kind
  where
    by_kind : (k : PlainKind) → one_act (spent_kind k) + act_count ns ≡ one_act k + act_count ns
    by_kind (plain (hbox w a d)) = refl
    by_kind k = refl

drop-acts : (k : ℕ) (ns : List PlainNode) → act_count (drop k ns) ≤ act_count ns
drop-acts zero ns = omega arith
drop-acts (suc k) [] = omega arith
drop-acts (suc k) (n ∷ ns) = let h : act_count (drop k ns) ≤ act_count ns = drop-acts k ns in omega arith

pub back-acts : (p : Params) (f : Fired) → act_count (put_back_after p f) ≡ 0
back-acts p f = by_test (int_le f.penalty (negsuc 19999) && holds_any f.held)
  where
    by_test : (t : Bool) → act_count (if t then page_for_held p else []) ≡ 0
    by_test true = refl
    by_test false = refl

pub fired-acts : (p : Params) (w : Reach) → act_count (waiting_after p (fired_here p w)) ≤ act_count w.passed + act_count w.beyond
fired-acts p w =
    let f = fired_here p w in
    let k = (page_break w).place in
    let a : act_count (f.held ++ (put_back_after p f ++ f.rest)) ≡ act_count f.held + act_count (put_back_after p f ++ f.rest) = acts-append f.held (put_back_after p f ++ f.rest) in
    let b : act_count (put_back_after p f ++ f.rest) ≡ act_count (put_back_after p f) + act_count f.rest = acts-append (put_back_after p f) f.rest in
    let c : act_count f.held ≡ 0 = held-acts (labelled (frozen_for (makeup_ask p) (makeup_classes p) void_boxes) (take (page_break w).place w.passed)) in
    let d : act_count (put_back_after p f) ≡ 0 = back-acts p f in
    let e : act_count f.rest ≡ act_count (drop k w.passed ++ w.beyond) = spent-acts (drop k w.passed ++ w.beyond) in
    let g : act_count (drop k w.passed ++ w.beyond) ≡ act_count (drop k w.passed) + act_count w.beyond = acts-append (drop k w.passed) w.beyond in
    let h : act_count (drop k w.passed) ≤ act_count w.passed = drop-acts k w.passed in
    omega arith

-- ---- an act

taken-acts : (p : Params) (s : PageSums) (f : Float) → act_count (taken_nodes p s f) ≡ 0
taken-acts p s f = by_places f.places.h (int_lt s.goal (with_float p s f)) (f.places.t || f.places.b)
  where
    by_places : (h g t : Bool) → act_count (if h then (if g then top_insertion (top_leaves p f) ∷ [] else here_nodes p f) else (if t then top_insertion (top_leaves p f) ∷ [] else top_insertion (page_leaves p f) ∷ [])) ≡ 0
    by_places true true t = refl
    by_places true false t = refl
    by_places false g true = refl
    by_places false g false = refl

pub put-acts : (p : Params) (s : PageSums) (a : Act) → act_count (act_nodes p s a) ≡ 0
put-acts p s (acts.Take f) = taken-acts p s f
put-acts p s (acts.Head f) = taken-acts p s f
put-acts p s a = refl

-- the act is one of the acts of the list
abbrev HasAct : AtAct → List PlainNode → Type 0
HasAct no_act ns = Unit {0}
HasAct (at_act before a after) ns = act_count ns ≡ 1 + (act_count before + act_count after)

after-has : (n : PlainNode) (ns : List PlainNode) (x : AtAct) → HasAct x ns → HasAct (after_node n x) (n ∷ ns)
after-has n ns no_act h = tt
after-has n ns (at_act before a after) h = omega arith

node-has : (l : ℕ) (k : PlainKind) (ns : List PlainNode) → HasAct (first_act ns) ns → (let m : PlainNode = record { line = l; kind = k } in HasAct (first_act_by m ns (first_act ns) k) (m ∷ ns))
node-has l (plain m) ns h = after-has (record { line = l; kind = plain m }) ns (first_act ns) h
node-has l (ins i) ns h = after-has (record { line = l; kind = ins i }) ns (first_act ns) h
node-has l (act a) ns h = omega arith

first-has : (ns : List PlainNode) → HasAct (first_act ns) ns
first-has [] = tt
first-has (n ∷ ns) = node-has n.line n.kind ns (first-has ns)

-- ---- what is left of the steps

abbrev all_acts : MakeupState → ℕ
all_acts s = act_count s.page + act_count s.waiting

abbrev pages_left : Params → MakeupState → ℕ
pages_left p s = nat_abs p.maxpages - pred s.number

-- this much fuel is enough; if the page's end waits, one less is
abbrev pub Enough : Params → MakeupState → ℕ → Type 0
Enough p s fuel = (all_acts s + 2 * pages_left p s + 1 < fuel) ⊎ ((s.waiting ≡ ejecting_nodes) × (all_acts s + 2 * pages_left p s < fuel))

abbrev pub Falls : Params → MakeupState → MakeupStep → Type 0
Falls p s (ends es e) = Unit {0}
Falls p s (goes_on es t) = (1 ≤ t.number) × ((fuel : ℕ) → Enough p s (suc fuel) → Enough p t fuel)

no-first : (x : AtAct) (before after : List PlainNode) (a : Act) → first_act ejecting_nodes ≡ x → x ≡ at_act before a after → ⊥
no-first x before after a e f = let h : no_act ≡ at_act before a after = e ∙ f in cc

act-falls : (p : Params) (s : MakeupState) (x : AtAct) → 1 ≤ s.number → first_act s.waiting ≡ x → HasAct x s.waiting → Falls p s (act_step p s x)
act-falls p s no_act n e h = tt
act-falls p s (at_act before a after) n e h = (n, λ fuel enough. by_enough fuel enough)
  where
    come : MakeupState
    come = record s { page = laid_out p.topskip s.page before; waiting = after }

    put : List PlainNode
    put = act_nodes p (page_sums_of (builder_holds p come)) a

    by_enough : (fuel : ℕ) → Enough p s (suc fuel) → Enough p (record come { waiting = put ++ after }) fuel
    by_enough fuel (inl less) =
        let b : act_count (laid_out p.topskip s.page before) ≡ act_count s.page + act_count before = acts-laid p.topskip s.page before in
        let c : act_count (put ++ after) ≡ act_count put + act_count after = acts-append put after in
        let d : act_count put ≡ 0 = put-acts p _ a in
        inl (omega arith)
    by_enough fuel (inr less) = absurd (no-first (first_act s.waiting) before after a (ap first_act (sym less.0)) e)

pub page-less : (m n : ℕ) → 1 ≤ n → n ≤ m → m - pred (n + 1) + 1 ≡ m - pred n
page-less m zero h k = let no : ⊥ = omega arith in absurd no
page-less m (suc n) h k = omega arith

pub within : (m : ℤ) (n : ℕ) → int_lt m (pos n) ≡ false → n ≤ nat_abs m
within m n h = grind (arith, ints, h)

firing-falls : (p : Params) (s : MakeupState) (f : Fired) → 1 ≤ s.number → act_count (waiting_after p f) ≤ all_acts s → Falls p s (firing_step p s.number f)
firing-falls p s f n h = by_pages (int_lt p.maxpages (pos s.number)) refl
  where
    sent : List PlainSent
    sent = shipped s.number (one (makeup_column p f)) ∷ []

    after : MakeupState
    after = record { page = []; waiting = waiting_after p f; number = s.number + 1 }

    falls : s.number ≤ nat_abs p.maxpages → (fuel : ℕ) → Enough p s (suc fuel) → Enough p after fuel
    falls k fuel (inl less) = let e : nat_abs p.maxpages - pred (s.number + 1) + 1 ≡ nat_abs p.maxpages - pred s.number = page-less (nat_abs p.maxpages) s.number n k in inl (omega arith)
    falls k fuel (inr less) = let e : nat_abs p.maxpages - pred (s.number + 1) + 1 ≡ nat_abs p.maxpages - pred s.number = page-less (nat_abs p.maxpages) s.number n k in let l = less.1 in inl (omega arith)

    by_nodes : (t : Bool) → s.number ≤ nat_abs p.maxpages → Falls p s (if t then ends sent (node_limit (node_count (waiting_after p f))) else goes_on sent after)
    by_nodes true k = tt
    by_nodes false k = (omega arith, falls k)

    by_pages : (t : Bool) → int_lt p.maxpages (pos s.number) ≡ t → Falls p s (if t then ends [] (page_limit (pred s.number)) else shipping_step p s.number f)
    by_pages true e = tt
    by_pages false e = by_nodes (int_lt p.maxnodes (pos (node_count (waiting_after p f)))) (within p.maxpages s.number e)

pub ejected-fires : (p : Params) (s : MakeupState) → s.waiting ≡ ejecting_nodes → (makeup_reach p s).fires ≡ true
ejected-fires p s e = ap (λ ns. (reach_of (makeup_ask p) (makeup_classes p) void_boxes s.page ns).fires) e ∙ by_box (holds_box s.page)
  where
    terms : List PlainNode → Terms
    terms = terms_after (frozen_for (makeup_ask p) (makeup_classes p) void_boxes)

    fires : (xs : List PlainNode) → (reach_from p.maxdepth terms [] (s.page ++ (xs ++ eject p.maxdepth terms ∷ []))).fires ≡ true
    fires xs = ap (λ ns. (reach_from p.maxdepth terms [] ns).fires) (sym (append_assoc s.page xs (eject p.maxdepth terms ∷ []))) ∙ forced p.maxdepth terms [] (s.page ++ xs)

    by_box : (b : Bool) → (reach_from p.maxdepth terms [] (s.page ++ (if b then ejecting_nodes else pruned_nodes p.topskip ejecting_nodes))).fires ≡ true
    by_box true = fires (made blank_box ∷ made (skip clearing_glue) ∷ [])
    by_box false = fires (made (skip _) ∷ made blank_box ∷ made (skip clearing_glue) ∷ [])

last-falls : (p : Params) (s : MakeupState) (page : List PlainNode) → 1 ≤ s.number → act_count page ≤ all_acts s → (s.waiting ≡ ejecting_nodes → ⊥) → Falls p s (last_step s page)
last-falls p s page n h not = by_any (holds_any page)
  where
    falls : (fuel : ℕ) → Enough p s (suc fuel) → Enough p (record s { page = page; waiting = ejecting_nodes }) fuel
    falls fuel (inl less) = inr (refl, omega arith)
    falls fuel (inr less) = absurd (not less.0)

    by_any : (t : Bool) → Falls p s (if t then goes_on [] (record s { page = page; waiting = ejecting_nodes }) else ends [] done)
    by_any true = (n, falls)
    by_any false = tt

-- each step that goes on lowers what is enough
pub step-falls : (p : Params) (s : MakeupState) → 1 ≤ s.number → Falls p s (makeup_step p s)
unfolding makeup_step
step-falls p s n = by_act (meets_act w.reached)
  where
    w : Reach
    w = makeup_reach p s

    acts : act_count w.passed + act_count w.beyond ≤ all_acts s
    acts =
        let a : reach_acts w ≤ 0 + act_count (laid_out p.topskip s.page s.waiting) = reach-acts p.maxdepth (terms_after (frozen_for (makeup_ask p) (makeup_classes p) void_boxes)) [] (laid_out p.topskip s.page s.waiting) in
        let b : act_count (laid_out p.topskip s.page s.waiting) ≡ act_count s.page + act_count s.waiting = acts-laid p.topskip s.page s.waiting in
        omega arith

    fired : act_count (waiting_after p (fired_here p w)) ≤ all_acts s
    fired = let a : act_count (waiting_after p (fired_here p w)) ≤ act_count w.passed + act_count w.beyond = fired-acts p w in let b = acts in omega arith

    by_fires : (t : Bool) → w.fires ≡ t → Falls p s (if t then firing_step p s.number (fired_here p w) else last_step s w.passed)
    by_fires true e = firing-falls p s (fired_here p w) n fired
    by_fires false e = last-falls p s w.passed n (let b = acts in omega arith) (λ x. true≢false (sym (ejected-fires p s x) ∙ e))

    by_act : (t : Bool) → Falls p s (if t then act_step p s (first_act s.waiting) else (if w.fires then firing_step p s.number (fired_here p w) else last_step s w.passed))
    by_act true = act-falls p s (first_act s.waiting) n refl (first-has s.waiting)
    by_act false = by_fires w.fires refl

-- ---- the fuel

by-same : (p : Params) (s : MakeupState) (k m : ℕ) → ((t : MakeupState) → 1 ≤ t.number → Enough p t k → Enough p t m → makeup_from p k t ≡ makeup_from p m t) → Enough p s (suc k) → Enough p s (suc m) → (ts : List Try) (t : MakeupStep) → Falls p s t
    → run_by (λ u. makeup_from p k u) ts t ≡ run_by (λ u. makeup_from p m u) ts t
by-same p s k m h a b ts (ends es e) f = refl
by-same p s k m h a b ts (goes_on es t) f = ap (run_after (step_events ts es)) (h t f.0 (f.1 k a) (f.1 m b))

pub not-enough : (p : Params) (s : MakeupState) → Enough p s 0 → ⊥
not-enough p s (inl less) = omega arith
not-enough p s (inr less) = let l = less.1 in omega arith

pub same-run : (p : Params) (k m : ℕ) (s : MakeupState) → 1 ≤ s.number → Enough p s k → Enough p s m → makeup_from p k s ≡ makeup_from p m s
unfolding makeup_from
same-run p zero m s n a b = absurd (not-enough p s a)
same-run p (suc k) zero s n a b = absurd (not-enough p s b)
same-run p (suc k) (suc m) s n a b = by-same p s k m (λ t i x y. same-run p k m t i x y) a b (step_tries p s) (makeup_step p s) (step-falls p s n)

pub steps_agree : StepsAgree
steps_agree p k m s n a b = same-run p k m s n (inl (omega arith)) (inl (omega arith))
