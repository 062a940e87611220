-- The page makeup ships the boxes and rules of the text in their order.
use Rattle.std.proofs.Common.{◌≡◌, refl, sym, subst, ◌∙◌, ap, ℕ, ℤ, zero, suc, ◌+◌, Bool, true, false, List, [], ◌∷◌, ◌++◌, map, take, drop, append_assoc, append-nil}
use Rattle.std.specs.Prelude.{◌||◌, ◌&&◌, int_lt, int_le, if◌then◌else◌}
use Rattle.tb_node.specs.declared.Act.{Act}
use Rattle.tb_node.specs.declared.Act.TheVariants as acts
use Rattle.tb_node.specs.declared.Float.{Float}
use Rattle.tb_node.specs.PlainNodes.{hbox, rule, Leaf, Inserted, leaf_node, PlainKind, plain, ins, act, PlainNode, on_line}
use Rattle.tb_param.specs.declared.Params.{Params}
use Rattle.tb_break.specs.PageTop.{pruned_nodes}
use Rattle.tb_insert.specs.Account.{Labelled, Label, whole, split, late, labelled}
use Rattle.tb_builder.specs.declared.PageSums.{PageSums}
use Rattle.tb_builder.specs.Reach.{Reach, holds_box, laid_out}
use Rattle.tb_builder.specs.FiredPages.{Fired, page_break, spent_kind, with_spent_break, unless_empty, held_of, held_insertions, box_content, content_of, frozen_for}
use Rattle.tb_builder.specs.PageSums.{page_sums_of}
use Rattle.tb_builder.proofs.Cutting.CutLemmas.{CutAt}
use Rattle.tb_column.specs.Column.{is_ragged}
use Rattle.tb_plain.specs.GalleyNodes.{clearing_penalty}
use Rattle.tb_plain.specs.TakenFloats.{top_insertion, top_leaves, page_leaves, here_nodes, with_float, taken_nodes, act_nodes}
use Rattle.tb_plain.specs.Firing.{feet_below, holds_any, ragged_end, makeup_column_nodes, page_for_held, put_back_after}
use Rattle.tb_plain.specs.Run.{MakeupState, done, MakeupRun, MakeupStep, ends, goes_on, makeup_ask, makeup_classes, void_boxes, builder_holds, makeup_reach, AtAct, no_act, at_act, after_node, first_act_by, first_act, act_step, waiting_after, firing_step, last_step, makeup_step, step_tries, sent_of, makeup_from}
use Rattle.tb_column.proofs.PrintedLines.{printed, prints, prints-append, prints-acts, prints-insertions}
use Rattle.tb_sheet.proofs.PrintedSheets.{sent_prints, sent-append}
use Rattle.tb_column.proofs.Within.{Within, within-same, both-within, before-within, within-front, within-within}
use Rattle.tb_plain.proofs.SentLemmas.{StepBy, run-sends}
use Rattle.tb_plain.proofs.ReachLemmas.{fired_here, makeup-cut, firing-cases, step-cases}

-- ---- what nodes show

node-pruned : (t : ℤ) (ns : List PlainNode) → prints (pruned_nodes t ns) ≡ prints ns → (n : ℕ) (k : PlainKind) → prints (pruned_nodes t (record { line = n; kind = k } ∷ ns)) ≡ printed n k ++ prints ns
node-pruned t ns h n (plain (hbox w a d)) = refl
node-pruned t ns h n (plain (rule name a d)) = refl
node-pruned t ns h n k = h

prints-pruned : (t : ℤ) (ns : List PlainNode) → prints (pruned_nodes t ns) ≡ prints ns
prints-pruned t [] = refl
prints-pruned t (n ∷ ns) = node-pruned t ns (prints-pruned t ns) n.line n.kind

prints-laid : (t : ℤ) (page waiting : List PlainNode) → prints (laid_out t page waiting) ≡ prints page ++ prints waiting
prints-laid t page waiting = by_box (holds_box page)
  where
    by_box : (b : Bool) → prints (page ++ (if b then waiting else pruned_nodes t waiting)) ≡ prints page ++ prints waiting
    by_box true = prints-append page waiting
    by_box false = prints-append page (pruned_nodes t waiting) ∙ ap (λ l. prints page ++ l) (prints-pruned t waiting)

prints-split : (k : ℕ) (ns : List PlainNode) → prints ns ≡ prints (take k ns) ++ prints (drop k ns)
prints-split zero ns = refl
prints-split (suc k) [] = refl
prints-split (suc k) (n ∷ ns) = ap (λ l. printed n.line n.kind ++ l) (prints-split k ns) ∙ sym (append_assoc (printed n.line n.kind) (prints (take k ns)) (prints (drop k ns)))

prints-spent : (ns : List PlainNode) → prints (with_spent_break ns) ≡ prints ns
prints-spent [] = refl
prints-spent (n ∷ ns) = by_kind n.line n.kind
  where
    by_kind : (l : ℕ) (k : PlainKind) → printed l (spent_kind k) ++ prints ns ≡ printed l k ++ prints ns
    by_kind l (plain (hbox w a d)) = refl
    by_kind l k = refl

-- insertions that are held show nothing
unless-prints : (l : ℕ) (i : Inserted) (ls : List Leaf) (xs : List PlainNode) → prints (on_line l (unless_empty i ls) ++ xs) ≡ prints xs
unless-prints l i [] xs = refl
unless-prints l i (x ∷ ls) xs = refl

held_of-prints : (l : ℕ) (t : Label) (i : Inserted) (xs : List PlainNode) → prints (on_line l (held_of t i) ++ xs) ≡ prints xs
held_of-prints l whole i xs = refl
held_of-prints l (split f) i xs = unless-prints l i _ xs
held_of-prints l late i xs = refl

held-prints : (ls : List Labelled) → prints (held_insertions ls) ≡ []
held-prints [] = refl
held-prints (l ∷ ls) = held_of-prints l.line l.label l.inserted (held_insertions ls) ∙ held-prints ls

-- ---- a firing

back-prints : (p : Params) (f : Fired) → prints (put_back_after p f) ≡ []
back-prints p f = by_test (int_le f.penalty clearing_penalty && holds_any f.held)
  where
    by_test : (t : Bool) → prints (if t then page_for_held p else []) ≡ []
    by_test true = refl
    by_test false = refl

-- the body, and what waits then, show what was passed and what lay beyond
fired-prints : (p : Params) (w : Reach) → prints w.passed ++ prints w.beyond ≡ prints (fired_here p w).body ++ prints (waiting_after p (fired_here p w))
fired-prints p w =
    let f = fired_here p w in
    let k = (page_break w).place in
    let rest : prints f.rest ≡ prints (drop k w.passed) ++ prints w.beyond = prints-spent (drop k w.passed ++ w.beyond) ∙ prints-append (drop k w.passed) w.beyond in
    let held : prints f.held ≡ [] = held-prints (labelled (frozen_for (makeup_ask p) (makeup_classes p) void_boxes) (take k w.passed)) in
    let waiting : prints (waiting_after p f) ≡ prints (drop k w.passed) ++ prints w.beyond =
    prints-append f.held (put_back_after p f ++ f.rest) ∙ (λ i. held i ++ prints-append (put_back_after p f) f.rest i) ∙ (λ i. back-prints p f i ++ rest i) in
    (λ i. prints-split k w.passed i ++ prints w.beyond)
    ∙ append_assoc (prints (take k w.passed)) (prints (drop k w.passed)) (prints w.beyond)
    ∙ (λ i. sym (prints-insertions (take k w.passed)) i ++ sym waiting i)

-- the body is within the column
body-within : (p : Params) (f : Fired) → Within (prints f.body) (prints (makeup_column_nodes p f))
body-within p f = within-body (map leaf_node (content_of (box_content f.boxes 253))) f.body (feet_below p (box_content f.boxes 254)) (if is_ragged p.bottom then ragged_end p f.body else [])
  where
    within-body : (a b c d : List PlainNode) → Within (prints b) (prints (a ++ b ++ c ++ d))
    within-body a b c d =
        subst (Within (prints b)) (sym (prints-append (a ++ b ++ c) d ∙ ap (λ l. l ++ prints d) (prints-append (a ++ b) c ∙ ap (λ l. l ++ prints c) (prints-append a b))))
        (within-within (prints b) (prints a ++ prints b ++ prints c) (prints a ++ prints b ++ prints c ++ prints d)
        (within-within (prints b) (prints a ++ prints b) (prints a ++ prints b ++ prints c) (before-within (prints a) (prints b) (prints b) (within-same (prints b) (prints b) refl)) (within-front (prints a ++ prints b) (prints c)))
        (within-front (prints a ++ prints b ++ prints c) (prints d)))

-- ---- an act

taken-prints : (p : Params) (s : PageSums) (f : Float) (xs : List PlainNode) → prints (taken_nodes p s f ++ xs) ≡ prints xs
taken-prints p s f xs = by_places f.places.h (int_lt s.goal (with_float p s f)) (f.places.t || f.places.b)
  where
    by_places : (h g t : Bool) → prints ((if h then (if g then top_insertion (top_leaves p f) ∷ [] else here_nodes p f) else (if t then top_insertion (top_leaves p f) ∷ [] else top_insertion (page_leaves p f) ∷ [])) ++ xs) ≡ prints xs
    by_places true true t = refl
    by_places true false t = refl
    by_places false g true = refl
    by_places false g false = refl

put-prints : (p : Params) (s : PageSums) (a : Act) (xs : List PlainNode) → prints (act_nodes p s a ++ xs) ≡ prints xs
put-prints p s (acts.Take f) xs = taken-prints p s f xs
put-prints p s (acts.Head f) xs = taken-prints p s f xs
put-prints p s a xs = refl

abbrev ActShows : AtAct → List PlainNode → Type 0
ActShows no_act ns = Unit {0}
ActShows (at_act before a after) ns = prints ns ≡ prints before ++ prints after

after-shows : (n : PlainNode) (ns : List PlainNode) (x : AtAct) → ActShows x ns → ActShows (after_node n x) (n ∷ ns)
after-shows n ns no_act h = tt
after-shows n ns (at_act before a after) h = ap (λ l. printed n.line n.kind ++ l) h ∙ sym (append_assoc (printed n.line n.kind) (prints before) (prints after))

node-shows : (l : ℕ) (k : PlainKind) (ns : List PlainNode) → ActShows (first_act ns) ns → (let m : PlainNode = record { line = l; kind = k } in ActShows (first_act_by m ns (first_act ns) k) (m ∷ ns))
node-shows l (plain m) ns h = after-shows (record { line = l; kind = plain m }) ns (first_act ns) h
node-shows l (ins i) ns h = after-shows (record { line = l; kind = ins i }) ns (first_act ns) h
node-shows l (act a) ns h = refl

first-shows : (ns : List PlainNode) → ActShows (first_act ns) ns
first-shows [] = tt
first-shows (n ∷ ns) = node-shows n.line n.kind ns (first-shows ns)

-- ---- a step

abbrev pub state_prints : MakeupState → List ℕ
state_prints s = prints s.page ++ prints s.waiting

-- what is shipped shows a front of what the state shows, with others between
abbrev StepShows : MakeupState → MakeupStep → Type 0
StepShows s (ends es e) = e ≡ done → Within (state_prints s) (sent_prints es)
StepShows s (goes_on es t) = (zs : List ℕ) → Within (state_prints t) zs → Within (state_prints s) (sent_prints es ++ zs)

act-shows : (p : Params) (s : MakeupState) (x : AtAct) → ActShows x s.waiting → StepShows s (act_step p s x)
act-shows p s no_act h = λ e. cc
act-shows p s (at_act before a after) h = λ zs w. subst (λ l. Within l zs) (sym same) w
  where
    come : MakeupState
    come = record s { page = laid_out p.topskip s.page before; waiting = after }

    same : state_prints s ≡ state_prints (record come { waiting = act_nodes p (page_sums_of (builder_holds p come)) a ++ after })
    same =
        ap (λ l. prints s.page ++ l) h
        ∙ sym (append_assoc (prints s.page) (prints before) (prints after))
        ∙ (λ i. sym (prints-laid p.topskip s.page before) i ++ sym (put-prints p (page_sums_of (builder_holds p come)) a after) i)

firing-shows : (p : Params) (s : MakeupState) (w : Reach) → state_prints s ≡ prints w.passed ++ prints w.beyond → StepShows s (firing_step p s.number (fired_here p w))
firing-shows p s w h = firing-cases (StepShows s) p s.number f (λ t e. cc) (λ t u e. cc) (λ t zs k.
    subst (λ l. Within l ((prints (makeup_column_nodes p f) ++ []) ++ zs)) (sym (h ∙ fired-prints p w))
    (subst (λ l. Within (prints f.body ++ prints (waiting_after p f)) (l ++ zs)) (sym (append-nil (prints (makeup_column_nodes p f))))
    (both-within (prints f.body) (prints (makeup_column_nodes p f)) (prints (waiting_after p f)) zs (body-within p f) k)))
  where
    f : Fired
    f = fired_here p w

last-shows : (s : MakeupState) (page : List PlainNode) → state_prints s ≡ prints page → StepShows s (last_step s page)
last-shows s [] h = λ e. subst (λ l. Within l []) (sym h) tt
last-shows s (n ∷ ns) h = λ zs w. subst (λ l. Within l zs) (sym (h ∙ sym (append-nil (prints (n ∷ ns))))) w

step-shows : (p : Params) (s : MakeupState) → StepShows s (makeup_step p s)
step-shows p s =
    step-cases (StepShows s) p s (λ m. act-shows p s (first_act s.waiting) (first-shows s.waiting)) (λ m. firing-shows p s w parts)
    (λ m e. last-shows s w.passed (parts ∙ ap (λ l. prints w.passed ++ prints l) (cut.ended e) ∙ append-nil (prints w.passed)))
  where
    w : Reach
    w = makeup_reach p s

    cut : CutAt [] (laid_out p.topskip s.page s.waiting) w
    cut = makeup-cut p s

    parts : state_prints s ≡ prints w.passed ++ prints w.beyond
    parts =
        sym (prints-laid p.topskip s.page s.waiting)
        ∙ ap prints cut.whole
        ∙ prints-append cut.front w.beyond
        ∙ ap (λ l. l ++ prints w.beyond) (sym (prints-acts cut.front) ∙ sym (ap prints cut.passed))

-- ---- the run

by-shows : (s : MakeupState) (later : MakeupState → MakeupRun) → ((t : MakeupState) → (later t).end ≡ done → Within (state_prints t) (sent_prints (sent_of (later t)))) → (x : MakeupStep) → StepShows s x → StepBy (λ es e. e ≡ done → Within (state_prints s) (sent_prints es)) later x
by-shows s later h (ends es e) k = k
by-shows s later h (goes_on es t) k = λ d. subst (Within (state_prints s)) (sym (sent-append es (sent_of (later t)))) (k (sent_prints (sent_of (later t))) (h t d))

-- a run that is done ships the boxes and rules of the text in their order
pub run-shows : (p : Params) (fuel : ℕ) (s : MakeupState) → (makeup_from p fuel s).end ≡ done → Within (state_prints s) (sent_prints (sent_of (makeup_from p fuel s)))
unfolding makeup_from
run-shows p zero s e = cc
run-shows p (suc fuel) s e =
    run-sends (λ es f. f ≡ done → Within (state_prints s) (sent_prints es)) (λ t. makeup_from p fuel t) (step_tries p s) (makeup_step p s) (by-shows s (λ t. makeup_from p fuel t) (λ t d. run-shows p fuel t d) (makeup_step p s) (step-shows p s)) e
