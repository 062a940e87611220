-- After a plain page that is broken by force before an item the state depends on nothing but the item.
use Rattle.std.proofs.Common.{◌≡◌, refl, sym, subst, ◌∙◌, ap, ℕ, ℤ, Bool, true, false, List, [], ◌∷◌, ◌++◌, map, length, take, drop, Option, Some, None, true≢false}
use Rattle.std.specs.Prelude.{pos, pred, int_lt, if◌then◌else◌}
use Rattle.std.proofs.Math.Seq.{drop-length, take-length}
use Rattle.tb_scaled.specs.Scaled.{awful_bad, min_ℤ}
use Rattle.tb_node.specs.PlainNodes.{Matter, hbox, rule, skip, kerned, pen, mark, note, whatsit, PlainKind, plain, ins, act, PlainNode, without_acts}
use Rattle.tb_break.specs.Best.{Breakpoint}
use Rattle.tb_break.specs.PageTop.{pruned_nodes}
use Rattle.tb_insert.specs.Account.{Frozen, labelled, labelled_with, labelled_from, terms_after}
use Rattle.tb_insert.specs.Terms.{Terms}
use Rattle.tb_builder.specs.declared.Ask.{Ask}
use Rattle.tb_builder.specs.Reach.{Reached, acted, tried, Reach, holds_box}
use Rattle.tb_builder.specs.FiredPages.{Boxed, box_after, frozen_for, fired_of, page_break, from_break, with_spent_break, penalty_at, held_insertions, no_place}
use Rattle.tb_float.specs.Lists.{no_floats}
use Rattle.tb_float.specs.Rooms.{column_room_of}
use Rattle.tb_output.specs.State.{State, Recorded, Work}
use Rattle.tb_output.specs.Columns.{emptied_boxes}
use Rattle.tb_output.specs.Output.{out}
use Rattle.tb_items.specs.RunEvents.{RunEvent, sent}
use Rattle.tb_steps.specs.Run.{page_limit, Progress, progress, Step, ends, goes_on, ask_for}
use Rattle.tb_best.specs.PlanDemerits.{reach_in, unlimited_firing, unlimited_fire, unlimited_progress, unlimited_step}
use Rattle.tb_best.specs.ItemsAhead.{Ahead, forced, state_with}
use Rattle.tb_best.specs.PlacePrices.{AreDear, tries_among, IsPlaceBehind}
use Rattle.tb_best.specs.PlainPages.{is_plain, all_plain, IsBare, after_plain}
use Rattle.tb_best.proofs.PlacePricesReach.{passed_by, passed-all, place-behind}
use Rattle.tb_best.proofs.PlacePricesStep.{laid, reach_with, reach-behind}
use Rattle.tb_best.proofs.PlainFirings.{IsForcedPage, forced-out}
use Rattle.tb_best.proofs.PlainReach.{first-true, second-true, NoActs, IsCut, plain-reach, best-last}

-- ---- plain nodes

pruned-kind : (top : ℤ) (l : ℕ) (k : PlainKind) (ns : List PlainNode) → (all_plain ns ≡ true → all_plain (pruned_nodes top ns) ≡ true)
    → all_plain (record { line = l; kind = k } ∷ ns) ≡ true → all_plain (pruned_nodes top (record { line = l; kind = k } ∷ ns)) ≡ true
pruned-kind top l (plain (hbox w a d)) ns ih h = h
pruned-kind top l (plain (rule w a d)) ns ih h = h
pruned-kind top l (plain (skip g)) ns ih h = ih h
pruned-kind top l (plain (kerned g)) ns ih h = ih h
pruned-kind top l (plain (pen q)) ns ih h = ih h
pruned-kind top l (plain (mark w)) ns ih h = ih h
pruned-kind top l (plain (note w)) ns ih h = ih h
pruned-kind top l (plain whatsit) ns ih h = ih h
pruned-kind top l (ins i) ns ih h = absurd (true≢false (sym h))
pruned-kind top l (act a) ns ih h = absurd (true≢false (sym h))

pruned-plain : (top : ℤ) (ns : List PlainNode) → all_plain ns ≡ true → all_plain (pruned_nodes top ns) ≡ true
pruned-plain top [] h = refl
pruned-plain top (n ∷ ns) h = pruned-kind top n.line n.kind ns (pruned-plain top ns) h

-- none of them is an act
acts-kind : (l : ℕ) (k : PlainKind) (ns : List PlainNode) → without_acts ns ≡ ns → is_plain k ≡ true → without_acts (record { line = l; kind = k } ∷ ns) ≡ record { line = l; kind = k } ∷ ns
acts-kind l (plain m) ns ih h = ap (λ xs. record { line = l; kind = plain m } ∷ xs) ih
acts-kind l (ins i) ns ih h = absurd (true≢false (sym h))
acts-kind l (act a) ns ih h = absurd (true≢false (sym h))

plain-acts : (ns : List PlainNode) → all_plain ns ≡ true → without_acts ns ≡ ns
plain-acts [] h = refl
plain-acts (n ∷ ns) h = acts-kind n.line n.kind ns (plain-acts ns (second-true (is_plain n.kind) (all_plain ns) h)) (first-true (is_plain n.kind) (all_plain ns) h)

-- none of them is an insertion
none-labelled : (z : Frozen) (before ns : List PlainNode) → all_plain ns ≡ true → labelled_from z [] before ns ≡ []
none-labelled z before [] h = refl
none-labelled z before (n ∷ ns) h = by n.line n.kind (first-true (is_plain n.kind) (all_plain ns) h) (none-labelled z (before ++ n ∷ []) ns (second-true (is_plain n.kind) (all_plain ns) h))
  where
    by : (l : ℕ) (k : PlainKind) → is_plain k ≡ true → labelled_from z [] (before ++ n ∷ []) ns ≡ [] → labelled_from z (labelled_with z [] before l k) (before ++ n ∷ []) ns ≡ []
    by l (plain m) e ih = ih
    by l (ins i) e ih = absurd (true≢false (sym e))
    by l (act a) e ih = absurd (true≢false (sym e))

-- ---- the page that fires

boxes-stay : (bs : List Boxed) → map (box_after []) bs ≡ bs
boxes-stay [] = refl
boxes-stay (b ∷ bs) = ap (λ xs. b ∷ xs) (boxes-stay bs)

-- the page that is broken by force before an item has no insertion, and leaves the spent break and the item
module _ (limit : ℤ) (terms : List PlainNode → Terms) (line : ℕ) (m : Matter) (q : ℤ) (more passed : List PlainNode) (c : Ahead) (w v : Reach) (is : IsCut limit terms line c.line m q more c.nodes passed w v)
    (unacted : all_plain passed ≡ true) (best : (page_break v).place ≡ length passed) where
  break-left : from_break v ≡ forced c ∷ c.nodes
  break-left = ap (λ k. drop k v.passed ++ v.beyond) best ∙ ap (λ ns. drop (length passed) ns ++ v.beyond) is.passes ∙ ap (λ ns. ns ++ v.beyond) (drop-length passed) ∙ is.leaves

  no-labels : (z : Frozen) → labelled z (take (page_break v).place v.passed) ≡ []
  no-labels z = ap (λ k. labelled z (take k v.passed)) best ∙ ap (λ ns. labelled z (take (length passed) ns)) is.passes ∙ ap (labelled z) (take-length passed) ∙ none-labelled z [] passed unacted

  fired-page : (a : Ask) (s : State) → IsForcedPage c s (fired_of a s.classes s.boxes v)
  fired-page a s = record {
    penalty = ap penalty_at break-left;
    held = ap held_insertions (no-labels (frozen_for a s.classes s.boxes));
    boxes = ap (λ ls. map (box_after ls) s.boxes) (no-labels (frozen_for a s.classes s.boxes)) ∙ boxes-stay s.boxes;
    rest = ap with_spent_break break-left;
  }

-- ---- the step

-- if the step goes on, it leads to this state
abbrev LeadsTo : State → Step → Type 0
LeadsTo t (ends es rs e) = Unit {0}
LeadsTo t (goes_on es rs u) = u ≡ t

either-leads : (t : State) (b : Bool) (x y : Step) → LeadsTo t x → LeadsTo t y → LeadsTo t (if b then x else y)
either-leads t true x y h k = h
either-leads t false x y h k = k

firing-leads : (t : State) (es : List RunEvent) (rs : List Recorded) (w : Work) → (w.refused ≡ false → w.state ≡ t) → LeadsTo t (unlimited_firing es rs w)
firing-leads t es rs w h = by w.refused refl
  where
    by : (b : Bool) → w.refused ≡ b → LeadsTo t (if b then ends (es ++ map sent w.sent) (rs ++ w.records) (page_limit (pred w.state.page)) else goes_on (es ++ map sent w.sent) (rs ++ w.records) w.state)
    by true e = tt
    by false e = h e

-- the firing of a page in a state leads there
abbrev FiringLeads : State → Ask → Reach → State → Type 0
FiringLeads t a w s = (out s.params s (fired_of a s.classes s.boxes w)).refused ≡ false → (out s.params s (fired_of a s.classes s.boxes w)).state ≡ t

progress-leads : (t : State) (a : Ask) (w : Reach) (q : Progress) (o : Option (ℕ × ℕ)) → FiringLeads t a w q.state → LeadsTo t (unlimited_progress a w q o)
progress-leads t a w q None h =
    let fired = unlimited_firing q.events q.records (out q.state.params q.state (fired_of a q.state.classes q.state.boxes w)) in
    either-leads t w.fires (unlimited_fire a w q) (ends _ _ _)
    (either-leads t (int_lt (pos q.state.dead_cycles) q.state.params.maxdeadcycles) fired (ends _ _ _) (firing-leads t q.events q.records (out q.state.params q.state (fired_of a q.state.classes q.state.boxes w)) h) tt) tt
progress-leads t a w q (Some f) h = tt

step-leads : (t s : State) → FiringLeads t (ask_for s) (reach_in s) (progress (reach_in s).reached awful_bad s).state → LeadsTo t (unlimited_step s)
unfolding unlimited_step
step-leads t s h = let q = progress (reach_in s).reached awful_bad s in progress-leads t (ask_for s) (reach_in s) q q.fault h

-- where no act is reached the state stays
no-acts : (rs : List Reached) (least : ℤ) (s : State) → NoActs rs → (progress rs least s).state ≡ s
no-acts [] least s h = refl
no-acts (acted a ∷ rs) least s h = absurd h
no-acts (tried line b ∷ rs) least s h = no-acts rs (min_ℤ least b.cost) s h

-- the state after a plain page that is broken by force before an item, at a place where a longer page goes on and none costs less
pub plain-cut : (s : State) (c : Ahead) (n : PlainNode) (more : List PlainNode)
    → IsBare s → all_plain s.waiting ≡ true → holds_box s.waiting ≡ true → IsPlaceBehind s.waiting n
    → (reach_in (state_with (n ∷ more) s)).fires ≡ false
    → AreDear (tries_among (progress (reach_in (state_with (n ∷ more) s)).reached awful_bad (state_with (n ∷ more) s)).events)
    → (es : List RunEvent) (rs : List Recorded) (u : State) → unlimited_step (state_with (forced c ∷ c.nodes) s) ≡ goes_on es rs u
    → u ≡ after_plain c s
plain-cut s c n more is nodes box place fires dear es rs u e =
    let at : State = state_with (forced c ∷ c.nodes) s in
    let a = ask_for s in
    let terms = terms_after (frozen_for a s.classes s.boxes) in
    let found = place-behind a.top_skip s.waiting n.kind box place in
    let named : PlainNode = record { line = n.line; kind = plain found.0 } in
    let passed = passed_by [] (laid s) in
    let plain_page = pruned-plain a.top_skip s.waiting nodes in
    let long : reach_in (state_with (n ∷ more) s) ≡ reach_with s (laid s ++ named ∷ more) = reach-behind s (n ∷ more) box ∙ ap (λ k. reach_with s (laid s ++ record { line = n.line; kind = k } ∷ more)) found.2 in
    let cut : IsCut a.max_depth terms n.line c.line found.0 found.1 more c.nodes passed (reach_in (state_with (n ∷ more) s)) (reach_in at) =
    subst (λ v. IsCut a.max_depth terms n.line c.line found.0 found.1 more c.nodes passed (reach_in (state_with (n ∷ more) s)) v) (sym (reach-behind s (forced c ∷ c.nodes) box))
    (subst (λ w. w.fires ≡ false → IsCut a.max_depth terms n.line c.line found.0 found.1 more c.nodes passed w (reach_with s (laid s ++ forced c ∷ c.nodes))) (sym long)
    (plain-reach a.max_depth terms n.line c.line found.0 found.1 more c.nodes [] (laid s) plain_page found.3) fires) in
    let best : (page_break (reach_in at)).place ≡ length passed =
    ap (λ (b : Breakpoint). b.place) (best-last (cut.cheap awful_bad (state_with (n ∷ more) s) dear)) ∙ cut.place no_place in
    let unacted : all_plain passed ≡ true = ap all_plain (passed-all [] (laid s) ∙ plain-acts (laid s) plain_page) ∙ plain_page in
    let page = fired-page a.max_depth terms n.line found.0 found.1 more passed c (reach_in (state_with (n ∷ more) s)) (reach_in at) cut unacted best (ask_for at) at in
    let leads : FiringLeads (after_plain c s) (ask_for at) (reach_in at) at =
    forced-out c at (fired_of (ask_for at) at.classes at.boxes (reach_in at)) (record { floats = is.floats; one_column = is.one_column; held = is.held }) page in
    subst (LeadsTo (after_plain c s)) e (step-leads (after_plain c s) at (subst (FiringLeads (after_plain c s) (ask_for at) (reach_in at)) (sym (no-acts (reach_in at).reached awful_bad at cut.no_acts)) leads))

-- states after plain pages before one item are the same but for counts and left column, if parameters, classes, boxes' numbers and first column are
pub plain-same : (c : Ahead) (s t : State) → IsBare s → IsBare t → t.params ≡ s.params → t.classes ≡ s.classes → t.first_column ≡ s.first_column → emptied_boxes t.boxes ≡ emptied_boxes s.boxes
    → record (after_plain c t) { left_column = None; page = 0; number = 0; dead_cycles = 0 } ≡ record (after_plain c s) { left_column = None; page = 0; number = 0; dead_cycles = 0 }
plain-same c s t is has params classes first boxes = (λ i. record (after_plain c t) {
  params = params i;
  classes = classes i;
  boxes = boxes i;
  held_page = (has.held ∙ sym is.held) i;
  floats = (has.floats ∙ sym is.floats) i;
  goal = column_room_of (params i) no_floats;
  two_columns = (has.one_column ∙ sym is.one_column) i;
  first_column = first i;
  left_column = None;
  page = 0;
  number = 0;
  dead_cycles = 0;
})
