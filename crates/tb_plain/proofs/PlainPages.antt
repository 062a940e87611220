-- What the page makeup ships has no insertions and no acts.
use Rattle.std.proofs.Common.{sym, subst, ℕ, zero, suc, pos, ◌+◌, Bool, true, false, List, [], ◌∷◌, ◌++◌, map, take, Option, Some, None}
use Rattle.std.specs.Prelude.{pred, int_lt, if◌then◌else◌}
use Rattle.tb_break.proofs.EachLemmas.{all-take}
use Rattle.tb_node.specs.PlainNodes.{Leaf, leaf_node, PlainNode}
use Rattle.tb_param.specs.declared.Params.{Params}
use Rattle.tb_galley.specs.declared.Galley.{Galley}
use Rattle.tb_builder.specs.Reach.{Reach, laid_out}
use Rattle.tb_builder.specs.FiredPages.{Fired, page_break, box_content, content_of}
use Rattle.tb_builder.specs.Contents.{node_count}
use Rattle.tb_builder.proofs.Cutting.CutLemmas.{ActFree, AllFree, acts-free, CutAt}
use Rattle.tb_sheet.specs.Sheet.{PlainSent, one, shipped}
use Rattle.tb_column.specs.Column.{is_ragged}
use Rattle.tb_column.proofs.PrintedLines.{AllPlain, body-plain, plain-both, leaves-plain}
use Rattle.tb_sheet.proofs.PrintedSheets.{SentPlain, sent-plain}
use Rattle.tb_plain.specs.GalleyNodes.{made_up}
use Rattle.tb_plain.specs.Firing.{feet_below, ragged_end, makeup_column_nodes, makeup_column}
use Rattle.tb_plain.specs.Run.{MakeupState, MakeupRun, MakeupStep, ends, goes_on, page_limit, node_limit, makeup_reach, AtAct, no_act, at_act, first_act, meets_act, act_step, waiting_after, firing_step, last_step, makeup_step, step_tries, sent_of, makeup_from, steps_left, first_makeup, makeup_of}
use Rattle.tb_plain.proofs.SentLemmas.{StepBy, run-sends}
use Rattle.tb_plain.proofs.ReachLemmas.{fired_here, makeup-cut}

-- ---- the column

feet-plain : (p : Params) (o : Option (List Leaf)) → AllPlain (feet_below p o)
feet-plain p None = tt
feet-plain p (Some ns) = (tt, (tt, (tt, (tt, leaves-plain ns))))

ragged-plain : (p : Params) (body : List PlainNode) → AllPlain (if is_ragged p.bottom then ragged_end p body else [])
ragged-plain p body = by_bottom (is_ragged p.bottom)
  where
    by_bottom : (t : Bool) → AllPlain (if t then ragged_end p body else [])
    by_bottom true = (tt, (tt, tt))
    by_bottom false = tt

column-plain : (p : Params) (f : Fired) → AllPlain f.body → AllPlain (makeup_column_nodes p f)
column-plain p f h =
    let tops = map leaf_node (content_of (box_content f.boxes 253)) in
    let feet = feet_below p (box_content f.boxes 254) in
    let end = if is_ragged p.bottom then ragged_end p f.body else [] in
    plain-both (tops ++ f.body ++ feet) end
    (plain-both (tops ++ f.body) feet (plain-both tops f.body (leaves-plain (content_of (box_content f.boxes 253))) h) (feet-plain p (box_content f.boxes 254)))
    (ragged-plain p f.body)

-- ---- a step

abbrev StepPlain : MakeupStep → Type 0
StepPlain (ends es e) = SentPlain es
StepPlain (goes_on es t) = SentPlain es

act-plain : (p : Params) (s : MakeupState) (x : AtAct) → StepPlain (act_step p s x)
act-plain p s no_act = tt
act-plain p s (at_act before a after) = tt

firing-plain : (p : Params) (number : ℕ) (f : Fired) → AllPlain f.body → StepPlain (firing_step p number f)
firing-plain p number f h = by_pages (int_lt p.maxpages (pos number)) (int_lt p.maxnodes (pos (node_count (waiting_after p f))))
  where
    sent : List PlainSent
    sent = shipped number (one (makeup_column p f)) ∷ []

    after : MakeupState
    after = record { page = []; waiting = waiting_after p f; number = number + 1 }

    plain_sent : SentPlain sent
    plain_sent = (column-plain p f h, tt)

    by_pages : (t u : Bool) → StepPlain (if t then ends [] (page_limit (pred number)) else (if u then ends sent (node_limit (node_count (waiting_after p f))) else goes_on sent after))
    by_pages true u = tt
    by_pages false true = plain_sent
    by_pages false false = plain_sent

last-plain : (s : MakeupState) (page : List PlainNode) → StepPlain (last_step s page)
last-plain s [] = tt
last-plain s (n ∷ ns) = tt

step-plain : (p : Params) (s : MakeupState) → StepPlain (makeup_step p s)
unfolding makeup_step
step-plain p s = by_step (meets_act w.reached) w.fires
  where
    w : Reach
    w = makeup_reach p s

    f : Fired
    f = fired_here p w

    cut : CutAt [] (laid_out p.topskip s.page s.waiting) w
    cut = makeup-cut p s

    body : AllPlain f.body
    body = body-plain ActFree (λ a h. h) (take (page_break w).place w.passed) (all-take (λ (n : PlainNode). ActFree n.kind) (page_break w).place w.passed (subst AllFree (sym cut.passed) (acts-free cut.front)))

    by_step : (t u : Bool) → StepPlain (if t then act_step p s (first_act s.waiting) else (if u then firing_step p s.number f else last_step s w.passed))
    by_step true u = act-plain p s (first_act s.waiting)
    by_step false true = firing-plain p s.number f body
    by_step false false = last-plain s w.passed

-- ---- the run

by-plain : (later : MakeupState → MakeupRun) → ((t : MakeupState) → SentPlain (sent_of (later t))) → (x : MakeupStep) → StepPlain x → StepBy (λ es e. SentPlain es) later x
by-plain later h (ends es e) k = k
by-plain later h (goes_on es t) k = sent-plain es (sent_of (later t)) k (h t)

run-plain : (p : Params) (fuel : ℕ) (s : MakeupState) → SentPlain (sent_of (makeup_from p fuel s))
unfolding makeup_from
run-plain p zero s = tt
run-plain p (suc fuel) s =
    run-sends (λ es e. SentPlain es) (λ t. makeup_from p fuel t) (step_tries p s) (makeup_step p s) (by-plain (λ t. makeup_from p fuel t) (λ t. run-plain p fuel t) (makeup_step p s) (step-plain p s))

-- what a galley's run ships
pub makeup-plain : (g : Galley) → SentPlain (sent_of (makeup_of g))
unfolding makeup_of
makeup-plain g = by_nodes (int_lt g.params.maxnodes (pos (node_count (made_up g))))
  where
    r : MakeupRun
    r = makeup_from g.params (suc (steps_left g.params (first_makeup (made_up g)))) (first_makeup (made_up g))

    by_nodes : (t : Bool) → SentPlain (sent_of (if t then record { events = []; end = node_limit (node_count (made_up g)) } else r))
    by_nodes true = tt
    by_nodes false = run-plain g.params (suc (steps_left g.params (first_makeup (made_up g)))) (first_makeup (made_up g))
