-- The page makeup loses nothing: what is shipped and what is left weigh as much as what was there.
use Rattle.std.proofs.Common.{◌≡◌, refl, sym, ◌∙◌, ap, ℕ, zero, suc, ◌+◌, Bool, true, false, List, [], ◌∷◌, ◌++◌, map, take, drop, Option, Some, None, arith}
use Rattle.std.specs.Prelude.{◌||◌, ◌&&◌, int_lt, int_le, if◌then◌else◌}
use Rattle.std.proofs.lemmas.Bool.{true≢false}
use Rattle.tb_node.specs.declared.Act.{Act}
use Rattle.tb_node.specs.declared.Act.TheVariants as acts
use Rattle.tb_node.specs.declared.Float.{Float}
use Rattle.tb_node.specs.PlainNodes.{Leaf, leaf_node, PlainKind, plain, ins, act, PlainNode}
use Rattle.tb_node.proofs.Weights.{Weight, leaves_weight, act_weight, nodes_weight, weight-append, leaf_nodes-weight}
use Rattle.tb_param.specs.declared.Params.{Params}
use Rattle.tb_insert.specs.Account.{Labelled, labelled, terms_after}
use Rattle.tb_builder.specs.declared.PageSums.{PageSums}
use Rattle.tb_builder.specs.Reach.{Reached, acted, tried, Reach, laid_out}
use Rattle.tb_builder.specs.FiredPages.{Fired, page_break, given_to, is_given, content_of, box_content, box_after, frozen_for}
use Rattle.tb_builder.specs.PageSums.{page_sums_of}
use Rattle.tb_builder.proofs.FiredPages.PageWeights.{laid_out-weight, acted_weight, reach-weight, boxes_weight, fired-weight, labelled-class}
use Rattle.tb_builder.proofs.Cutting.CutLemmas.{CutAt, class-both, class-take, class-drop, class-passed, spent-class}
use Rattle.tb_column.specs.Column.{is_ragged}
use Rattle.tb_sheet.proofs.PrintedSheets.{sent_weight, sent_weight-append}
use Rattle.tb_plain.specs.GalleyNodes.{clearing_penalty}
use Rattle.tb_plain.specs.TakenFloats.{top_insertion, top_leaves, page_leaves, here_nodes, with_float, taken_nodes, act_nodes}
use Rattle.tb_plain.specs.Firing.{feet_below, holds_any, ragged_end, makeup_column_nodes, page_for_held, put_back_after}
use Rattle.tb_plain.specs.Run.{MakeupState, done, MakeupRun, MakeupStep, ends, goes_on, makeup_ask, makeup_classes, void_boxes, builder_holds, makeup_reach, AtAct, no_act, at_act, after_node, first_act_by, first_act, meets_act, act_step, waiting_after, firing_step, last_step, makeup_step, step_tries, sent_of, makeup_from}
use Rattle.tb_plain.proofs.OurLemmas.{ours, AllOurs, ours-laid, held-ours}
use Rattle.tb_plain.proofs.SentLemmas.{StepBy, run-sends}
use Rattle.tb_plain.proofs.ReachLemmas.{fired_here, makeup-cut, firing-cases, step-cases}

-- ---- the boxes

-- both boxes, by whether something is given to them
boxes-both : (v : Weight) (ls : List Labelled) → leaves_weight v (content_of (box_content (map (box_after ls) void_boxes) 253)) + (leaves_weight v (content_of (box_content (map (box_after ls) void_boxes) 254)) + 0) ≡ boxes_weight v (map (box_after ls) void_boxes)
boxes-both v ls = by_given (is_given 253 ls) (is_given 254 ls)
  where
    by_given : (g h : Bool) →
        leaves_weight v (content_of (box_content ((if g then record { number = 253; content = Some (given_to 253 ls) } else record { number = 253; content = None }) ∷ (if h then record { number = 254; content = Some (given_to 254 ls) } else record { number = 254; content = None }) ∷ []) 253))
        + (leaves_weight v (content_of (box_content ((if g then record { number = 253; content = Some (given_to 253 ls) } else record { number = 253; content = None }) ∷ (if h then record { number = 254; content = Some (given_to 254 ls) } else record { number = 254; content = None }) ∷ []) 254)) + 0)
        ≡ boxes_weight v ((if g then record { number = 253; content = Some (given_to 253 ls) } else record { number = 253; content = None }) ∷ (if h then record { number = 254; content = Some (given_to 254 ls) } else record { number = 254; content = None }) ∷ [])
    by_given true true = refl
    by_given true false = refl
    by_given false true = refl
    by_given false false = refl

-- ---- what is shipped

notes-weight : (v : Weight) (p : Params) (o : Option (List Leaf)) → nodes_weight v (feet_below p o) ≡ leaves_weight v (content_of o)
notes-weight v p None = refl
notes-weight v p (Some ns) = let h : nodes_weight v (map leaf_node ns) ≡ leaves_weight v ns = leaf_nodes-weight v ns in omega arith

ragged-weight : (v : Weight) (p : Params) (body : List PlainNode) → nodes_weight v (if is_ragged p.bottom then ragged_end p body else []) ≡ 0
ragged-weight v p body = by_bottom (is_ragged p.bottom)
  where
    by_bottom : (t : Bool) → nodes_weight v (if t then ragged_end p body else []) ≡ 0
    by_bottom true = refl
    by_bottom false = refl

four-weight : (v : Weight) (a b c d : List PlainNode) → nodes_weight v d ≡ 0 → nodes_weight v (a ++ b ++ c ++ d) ≡ nodes_weight v a + nodes_weight v b + nodes_weight v c
four-weight v a b c d h =
    let x : nodes_weight v (a ++ b ++ c ++ d) ≡ nodes_weight v (a ++ b ++ c) + nodes_weight v d = weight-append v (a ++ b ++ c) d in
    let y : nodes_weight v (a ++ b ++ c) ≡ nodes_weight v (a ++ b) + nodes_weight v c = weight-append v (a ++ b) c in
    let z : nodes_weight v (a ++ b) ≡ nodes_weight v a + nodes_weight v b = weight-append v a b in
    omega arith

column-weight : (v : Weight) (p : Params) (f : Fired) → nodes_weight v (makeup_column_nodes p f) ≡ leaves_weight v (content_of (box_content f.boxes 253)) + nodes_weight v f.body + leaves_weight v (content_of (box_content f.boxes 254))
column-weight v p f =
    four-weight v (map leaf_node (content_of (box_content f.boxes 253))) f.body (feet_below p (box_content f.boxes 254)) (if is_ragged p.bottom then ragged_end p f.body else []) (ragged-weight v p f.body)
    ∙ (λ i. leaf_nodes-weight v (content_of (box_content f.boxes 253)) i + nodes_weight v f.body + notes-weight v p (box_content f.boxes 254) i)

back-weight : (v : Weight) (p : Params) (f : Fired) → nodes_weight v (put_back_after p f) ≡ 0
back-weight v p f = by_test (int_le f.penalty clearing_penalty && holds_any f.held)
  where
    by_test : (t : Bool) → nodes_weight v (if t then page_for_held p else []) ≡ 0
    by_test true = refl
    by_test false = refl

-- the page that ships and what waits then weigh as what was passed and what lay beyond
makes-weight : (v : Weight) (p : Params) (w : Reach) → AllOurs w.passed → nodes_weight v (makeup_column_nodes p (fired_here p w)) + nodes_weight v (waiting_after p (fired_here p w)) ≡ nodes_weight v w.passed + nodes_weight v w.beyond
makes-weight v p w all =
    let f = fired_here p w in
    let k = (page_break w).place in
    let z = frozen_for (makeup_ask p) (makeup_classes p) void_boxes in
    let ls = labelled z (take k w.passed) in
    let column : nodes_weight v (makeup_column_nodes p f) ≡ leaves_weight v (content_of (box_content f.boxes 253)) + nodes_weight v f.body + leaves_weight v (content_of (box_content f.boxes 254)) = column-weight v p f in
    let both : leaves_weight v (content_of (box_content f.boxes 253)) + (leaves_weight v (content_of (box_content f.boxes 254)) + 0) ≡ boxes_weight v f.boxes = boxes-both v ls in
    let fired : nodes_weight v f.body + boxes_weight v f.boxes + nodes_weight v f.held + nodes_weight v f.rest ≡ 0 + (nodes_weight v w.passed + nodes_weight v w.beyond) = fired-weight v z void_boxes w (class-take ours k w.passed all) in
    let a : nodes_weight v (f.held ++ (put_back_after p f ++ f.rest)) ≡ nodes_weight v f.held + nodes_weight v (put_back_after p f ++ f.rest) = weight-append v f.held (put_back_after p f ++ f.rest) in
    let b : nodes_weight v (put_back_after p f ++ f.rest) ≡ nodes_weight v (put_back_after p f) + nodes_weight v f.rest = weight-append v (put_back_after p f) f.rest in
    let c : nodes_weight v (put_back_after p f) ≡ 0 = back-weight v p f in
    omega arith

fired-ours : (p : Params) (w : Reach) → AllOurs w.passed → AllOurs w.beyond → AllOurs (waiting_after p (fired_here p w))
fired-ours p w a b =
    let f = fired_here p w in
    let k = (page_break w).place in
    let z = frozen_for (makeup_ask p) (makeup_classes p) void_boxes in
    class-both ours f.held (put_back_after p f ++ f.rest) (held-ours (labelled z (take k w.passed)) (labelled-class ours z [] [] (take k w.passed) tt (class-take ours k w.passed a)))
    (class-both ours (put_back_after p f) f.rest (by_test (int_le f.penalty clearing_penalty && holds_any f.held)) (spent-class ours (drop k w.passed ++ w.beyond) (class-both ours (drop k w.passed) w.beyond (class-drop ours k w.passed a) b)))
  where
    by_test : (t : Bool) → AllOurs (if t then page_for_held p else [])
    by_test true = (tt, (tt, (tt, (tt, (tt, tt)))))
    by_test false = tt

-- ---- an act

taken-weight : (v : Weight) (p : Params) (s : PageSums) (f : Float) → nodes_weight v (taken_nodes p s f) ≡ v.float f.line
taken-weight v p s f = by_places f.places.h (int_lt s.goal (with_float p s f)) (f.places.t || f.places.b)
  where
    by_places : (h g t : Bool) → nodes_weight v (if h then (if g then top_insertion (top_leaves p f) ∷ [] else here_nodes p f) else (if t then top_insertion (top_leaves p f) ∷ [] else top_insertion (page_leaves p f) ∷ [])) ≡ v.float f.line
    by_places true true t = omega arith
    by_places true false t = omega arith
    by_places false g true = omega arith
    by_places false g false = omega arith

taken-ours : (p : Params) (s : PageSums) (f : Float) → AllOurs (taken_nodes p s f)
taken-ours p s f = by_places f.places.h (int_lt s.goal (with_float p s f)) (f.places.t || f.places.b)
  where
    by_places : (h g t : Bool) → AllOurs (if h then (if g then top_insertion (top_leaves p f) ∷ [] else here_nodes p f) else (if t then top_insertion (top_leaves p f) ∷ [] else top_insertion (page_leaves p f) ∷ []))
    by_places true true t = (refl, tt)
    by_places true false t = (tt, (tt, (tt, (tt, tt))))
    by_places false g true = (refl, tt)
    by_places false g false = (refl, tt)

put-ours : (p : Params) (s : PageSums) (a : Act) → AllOurs (act_nodes p s a)
put-ours p s (acts.Take f) = taken-ours p s f
put-ours p s (acts.Head f) = taken-ours p s f
put-ours p s a = tt

-- nothing weighs in the margin
abbrev pub NoMargin : Weight → Type 0
NoMargin v = (line : ℕ) → v.margin line ≡ 0

put-weight : (v : Weight) (p : Params) (s : PageSums) (a : Act) → NoMargin v → nodes_weight v (act_nodes p s a) ≡ act_weight v a
put-weight v p s (acts.Take f) none = taken-weight v p s f
put-weight v p s (acts.TakeMargin m) none = sym (none m.line)
put-weight v p s (acts.Suppress area) none = refl
put-weight v p s (acts.Page n) none = refl
put-weight v p s (acts.Set c) none = refl
put-weight v p s (acts.Head f) none = taken-weight v p s f
put-weight v p s (acts.Columns two) none = refl

abbrev ActWeighs : Weight → AtAct → List PlainNode → Type 0
ActWeighs v no_act ns = Unit {0}
ActWeighs v (at_act before a after) ns = (nodes_weight v ns ≡ nodes_weight v before + act_weight v a + nodes_weight v after) × (AllOurs ns → AllOurs before × AllOurs after)

after-weighs : (v : Weight) (n : PlainNode) (ns : List PlainNode) (x : AtAct) → ActWeighs v x ns → ActWeighs v (after_node n x) (n ∷ ns)
after-weighs v n ns no_act h = tt
after-weighs v n ns (at_act before a after) h = (let e = h.0 in omega arith, λ o. (let q = h.1 o.1 in ((o.0, q.0), q.1)))

node-weighs : (v : Weight) (l : ℕ) (k : PlainKind) (ns : List PlainNode) → ActWeighs v (first_act ns) ns → (let m : PlainNode = record { line = l; kind = k } in ActWeighs v (first_act_by m ns (first_act ns) k) (m ∷ ns))
node-weighs v l (plain m) ns h = after-weighs v (record { line = l; kind = plain m }) ns (first_act ns) h
node-weighs v l (ins i) ns h = after-weighs v (record { line = l; kind = ins i }) ns (first_act ns) h
node-weighs v l (act a) ns h = (omega arith, λ o. (tt, o.1))

first-weighs : (v : Weight) (ns : List PlainNode) → ActWeighs v (first_act ns) ns
first-weighs v [] = tt
first-weighs v (n ∷ ns) = node-weighs v n.line n.kind ns (first-weighs v ns)

-- ---- a step

abbrev pub state_weight : Weight → MakeupState → ℕ
state_weight v s = nodes_weight v s.page + nodes_weight v s.waiting

abbrev pub StateOurs : MakeupState → Type 0
StateOurs s = AllOurs s.page × AllOurs s.waiting

abbrev StepKeeps : Weight → MakeupState → MakeupStep → Type 0
StepKeeps v s (ends es e) = e ≡ done → sent_weight v es ≡ state_weight v s
StepKeeps v s (goes_on es t) = (sent_weight v es + state_weight v t ≡ state_weight v s) × StateOurs t

act-keeps : (v : Weight) (p : Params) (s : MakeupState) (x : AtAct) → NoMargin v → StateOurs s → ActWeighs v x s.waiting → StepKeeps v s (act_step p s x)
act-keeps v p s no_act none all h = λ e. cc
act-keeps v p s (at_act before a after) none all h =
    let come : MakeupState = record s { page = laid_out p.topskip s.page before; waiting = after } in
    let put = act_nodes p (page_sums_of (builder_holds p come)) a in
    let o = h.1 all.1 in
    let w = h.0 in
    let b : nodes_weight v (laid_out p.topskip s.page before) ≡ nodes_weight v s.page + nodes_weight v before = laid_out-weight v p.topskip s.page before in
    let c : nodes_weight v (put ++ after) ≡ nodes_weight v put + nodes_weight v after = weight-append v put after in
    let d : nodes_weight v put ≡ act_weight v a = put-weight v p (page_sums_of (builder_holds p come)) a none in
    (omega arith, (ours-laid p.topskip s.page before all.0 o.0, class-both ours put after (put-ours p (page_sums_of (builder_holds p come)) a) o.1))

firing-keeps : (v : Weight) (p : Params) (s : MakeupState) (w : Reach) → AllOurs w.passed → AllOurs w.beyond → nodes_weight v w.passed + nodes_weight v w.beyond ≡ state_weight v s → StepKeeps v s (firing_step p s.number (fired_here p w))
firing-keeps v p s w a b h =
    let e : nodes_weight v (makeup_column_nodes p (fired_here p w)) + nodes_weight v (waiting_after p (fired_here p w)) ≡ nodes_weight v w.passed + nodes_weight v w.beyond = makes-weight v p w a in
    firing-cases (StepKeeps v s) p s.number (fired_here p w) (λ t e. cc) (λ t u e. cc) (λ t. (omega arith, (tt, fired-ours p w a b)))

last-keeps : (v : Weight) (s : MakeupState) (page : List PlainNode) → AllOurs page → nodes_weight v page ≡ state_weight v s → StepKeeps v s (last_step s page)
last-keeps v s [] a h = λ e. h
last-keeps v s (n ∷ ns) a h = (omega arith, (a, (tt, (tt, (tt, tt)))))

no-acts : (v : Weight) (rs : List Reached) → meets_act rs ≡ false → acted_weight v rs ≡ 0
no-acts v [] e = refl
no-acts v (acted a ∷ rs) e = absurd (true≢false e)
no-acts v (tried line b ∷ rs) e = no-acts v rs e

step-keeps : (v : Weight) (p : Params) (s : MakeupState) → NoMargin v → StateOurs s → StepKeeps v s (makeup_step p s)
step-keeps v p s none all =
    step-cases (StepKeeps v s) p s (λ m. act-keeps v p s (first_act s.waiting) none all (first-weighs v s.waiting)) (λ m. firing-keeps v p s w both.0 both.1 (weighs m))
    (λ m e. last-keeps v s w.passed both.0 (let a = weighs m in let b : nodes_weight v w.beyond ≡ 0 = ap (nodes_weight v) (cut.ended e) in omega arith))
  where
    ns : List PlainNode
    ns = laid_out p.topskip s.page s.waiting

    w : Reach
    w = makeup_reach p s

    cut : CutAt [] ns w
    cut = makeup-cut p s

    both : AllOurs w.passed × AllOurs w.beyond
    both = class-passed ours ns w cut (ours-laid p.topskip s.page s.waiting all.0 all.1)

    weighs : meets_act w.reached ≡ false → nodes_weight v w.passed + nodes_weight v w.beyond ≡ state_weight v s
    weighs e =
        let a : nodes_weight v w.passed + acted_weight v w.reached + nodes_weight v w.beyond ≡ 0 + nodes_weight v ns = reach-weight v p.maxdepth (terms_after (frozen_for (makeup_ask p) (makeup_classes p) void_boxes)) [] ns in
        let b : nodes_weight v ns ≡ nodes_weight v s.page + nodes_weight v s.waiting = laid_out-weight v p.topskip s.page s.waiting in
        let c : acted_weight v w.reached ≡ 0 = no-acts v w.reached e in
        omega arith

-- ---- the run

by-keeps : (v : Weight) (s : MakeupState) (later : MakeupState → MakeupRun) → ((t : MakeupState) → StateOurs t → (later t).end ≡ done → sent_weight v (sent_of (later t)) ≡ state_weight v t) → (x : MakeupStep) → StepKeeps v s x → StepBy (λ es e. e ≡ done → sent_weight v es ≡ state_weight v s) later x
by-keeps v s later h (ends es e) k = k
by-keeps v s later h (goes_on es t) k = λ d.
    let a : sent_weight v (es ++ (sent_of (later t))) ≡ sent_weight v es + sent_weight v (sent_of (later t)) = sent_weight-append v es (sent_of (later t)) in
    let b : sent_weight v (sent_of (later t)) ≡ state_weight v t = h t k.1 d in
    let c = k.0 in
    omega arith

-- a run that is done shipped all that was on the page and waited
pub run-keeps : (v : Weight) (p : Params) (fuel : ℕ) (s : MakeupState) → NoMargin v → StateOurs s → (makeup_from p fuel s).end ≡ done → sent_weight v (sent_of (makeup_from p fuel s)) ≡ state_weight v s
unfolding makeup_from
run-keeps v p zero s none all e = cc
run-keeps v p (suc fuel) s none all e =
    run-sends (λ es f. f ≡ done → sent_weight v es ≡ state_weight v s) (λ t. makeup_from p fuel t) (step_tries p s) (makeup_step p s) (by-keeps v s (λ t. makeup_from p fuel t) (λ t o d. run-keeps v p fuel t none o d) (makeup_step p s) (step-keeps v p s none all)) e
