-- What becomes of the page of a state of the search.
use Rattle.std.proofs.Common.{◌≡◌, ◌≢◌, Bool, false, refl, sym, subst, ◌∙◌, ap, true, ◌≤◌, pos, List, ◌++◌, Some, append_assoc, arith}
use Rattle.std.specs.Prelude.{ℤ, ◌≤ℤ◌, All}
use Rattle.std.specs.List.{AllByRecursion}
use Rattle.std.proofs.lemmas.List.Elements.{All-append, All-from_recursion, recursion_from_All}
use Rattle.tb_break.proofs.EachLemmas.{all-front, all-back, all-map}
use Rattle.tb_pool.specs.Lists.{list_at}
use Rattle.tb_node.specs.Fit.{IsSizedPlain}
use Rattle.tb_node.specs.PlainNodes.{PlainNode}
use Rattle.tb_param.specs.declared.Params.{Params}
use Rattle.tb_builder.specs.declared.Page.{Page}
use Rattle.tb_builder.specs.FiredPages.{Fired}
use Rattle.tb_items.specs.ItemsLeft.{kern_last}
use Rattle.tb_float.specs.Ranges.{IsWithin}
use Rattle.tb_output.specs.State.{State, Work}
use Rattle.tb_output.specs.Output.{out}
use Rattle.tb_items.specs.declared.happenings.Happening.{Happening}
use Rattle.tb_items.specs.GalleyNodes.{IsGalleyNode}
use Rattle.tb_items.specs.Happenings.{events_of}
use Rattle.tb_items.specs.ItemsLeft.{AreItemsLeft}
use Rattle.tb_run.specs.declared.routine.Routine.{Routine}
use Rattle.tb_run.specs.declared.routine.Ending.{Ending}
use Rattle.tb_run.specs.declared.routine.Ending.TheVariants as endings
use Rattle.tb_run.specs.Routine.{state_of, IsReady}
use Rattle.tb_run.specs.ServedStates.{notes_left, IsServed, IsServedPage}
use Rattle.tb_run.specs.FilledPages.{fired_whole, IsFiring, IsFilledLast}
use Rattle.tb_run.specs.UnlimitedPages.{HasGoneOn, HasSent, ServesUnlimited}
use Rattle.tb_run.proofs.Turns.CountedLemmas.{shown-sized}
use Rattle.tb_run.proofs.ServedAgain.FiredNodes.{notes-append}
use Rattle.tb_run.proofs.ServedAgain.ServedFirings.{reach_where, within-more}
use Rattle.tb_run.proofs.ServedAgain.ServedOut.{out-served}
use Rattle.tb_rate.specs.declared.PlacePenalty.{PlacePenalty}
use Rattle.tb_rate.specs.Rating.{rating}
use Rattle.tb_rate.specs.RatedRun.{demerits_if, floats_waiting, insertions_first}
use Rattle.tb_rate.specs.Tries.{last_champion, first_number}
use Rattle.tb_best.specs.ItemsAhead.{state_with}
use Rattle.tb_best.proofs.FiredMore.{fired_with}
use Rattle.tb_best.proofs.StepMore.{work_with}
use Rattle.tb_search.specs.declared.branch.Branch.{Branch}
use Rattle.tb_search.specs.Branches.{shown, nodes_ahead, IsBranch}
use Rattle.tb_search.specs.FilledBranches.{HasFired, stopped, unfired, unserved, FillsTo}
use Rattle.tb_search.proofs.QuietLemmas.{is-quiet, is-full, is-refused}
use Rattle.tb_search.proofs.FiredLemmas.{events_now, records_now, refused-so, goes-step, events-are}
use Rattle.tb_search.proofs.RatingLemmas.{page-any}

-- ---- nodes behind a page that fires

-- what waits in the state is of no account
without-waiting : (ns ms : List PlainNode) (s : State) → IsServed ns (state_with ms s) → IsServed ns s
without-waiting ns ms s h = record { nodes = h.nodes; held = h.held; boxes = h.boxes; entries = h.entries; notes = h.notes; bottom = h.bottom }

-- they wait behind afterwards
behind : (p : Params) (s : State) (f : Fired) (more : List PlainNode) → out p s (fired_with more f) ≡ work_with more (out p s f)
unfolding out
behind p s f more = ap (λ ns. record (out p s f) { state = record (out p s f).state { waiting = ns } }) (sym (append_assoc (f.held ++ (out p s f).put_back) f.rest more))

-- what waits after a page
waits-after : (p : Params) (s : State) (f : Fired) → (out p s f).state.waiting ≡ (f.held ++ (out p s f).put_back) ++ f.rest
unfolding out
waits-after p s f = refl

module _ (b : Branch) (h : IsBranch b) (q : Routine) (page : Page) (hs : List Happening) (f : IsFiring true b.routine.value page q hs) (d : Routine) (g : HasGoneOn page q d) (ready : IsReady d) (classes : d.machine.classes ≡ q.machine.classes) where
  abbrev more : List PlainNode
  more = nodes_ahead b

  abbrev s : State
  s = shown b

  abbrev x : Fired
  x = fired_whole q page

  abbrev w : Work
  w = out q.machine.params (state_of q) x

  -- all nodes ahead can be served
  ahead-good : All (IsGalleyNode (state_of q).classes) more
  ahead-good =
      subst (λ cs. All (IsGalleyNode cs) more) (sym f.classes)
      (All-from_recursion (IsGalleyNode s.classes) more (all-back (IsGalleyNode s.classes) s.waiting more (recursion_from_All (IsGalleyNode s.classes) (s.waiting ++ more) h.served.nodes)))

  -- no more marginal notes have no place than before, with the nodes ahead behind
  fewer : notes_left (x.held ++ (x.rest ++ more)) (state_of q) ≤ notes_left (s.waiting ++ more) s
  fewer =
      let a = notes-append x.held (x.rest ++ more) in
      let b = notes-append x.rest more in
      let c = notes-append x.held x.rest in
      let d = notes-append s.waiting more in
      let n = f.notes in
      omega (arith, a, b, c, d, n)

  served-page : IsServedPage (state_of q) (fired_with more x)
  served-page =
      let k = f.can.served in
      record {
        body = k.body;
        text = k.text;
        back = k.back;
        rest = All-append (IsGalleyNode (state_of q).classes) x.rest more k.rest ahead-good;
        boxes = k.boxes;
        boxes_of = k.boxes_of;
        held = k.held;
        entries = k.entries;
        notes = let n = h.served.notes in let l = fewer in omega (arith, n, l);
        bottom = within-more (reach_where (notes_left (s.waiting ++ more) s)) (reach_where (notes_left (x.held ++ (x.rest ++ more)) (state_of q))) (state_of q).note_bottom (let l = fewer in omega (arith, l))
            (subst (IsWithin (reach_where (notes_left (s.waiting ++ more) s))) (sym f.bottom) h.served.bottom);
      }

  -- what goes back is sized
  back-sized : AllByRecursion IsSizedPlain w.put_back
  back-sized =
      let cs = (state_of d).classes in
      let waits = ap (λ (t : State). t.waiting) g.state ∙ waits-after q.machine.params (state_of q) x in
      let all = subst (λ ns. AllByRecursion (IsGalleyNode cs) ns) waits (recursion_from_All (IsGalleyNode cs) (state_of d).waiting ready.settled.served.nodes) in
      all-map (IsGalleyNode cs) IsSizedPlain (λ n k. k.sized.shape) w.put_back
      (all-back (IsGalleyNode cs) x.held w.put_back (all-front (IsGalleyNode cs) (x.held ++ w.put_back) x.rest all))

  served-more : IsServed (out q.machine.params (state_of q) (fired_with more x)).state.waiting (out q.machine.params (state_of q) (fired_with more x)).state
  served-more =
      out-served q.machine.params (state_of q) (fired_with more x) f.can.params f.can.classes served-page (shown-sized (list_at q.store) (list_at q.store q.machine.held_page) f.can.whole.machine.held_page.sized)
      (let a = f.can.bounded.held in let b = f.can.bounded.few in omega (arith, a, b))
      (subst (λ (y : Work). AllByRecursion IsSizedPlain y.put_back) (sym (behind q.machine.params (state_of q) x more)) back-sized)

  now-served : IsServed ((state_of d).waiting ++ more) (state_of d)
  now-served =
      subst (λ (t : State). IsServed (t.waiting ++ more) t) (sym g.state)
      (without-waiting (w.state.waiting ++ more) more w.state (subst (λ (y : Work). IsServed y.state.waiting y.state) (behind q.machine.params (state_of q) x more) served-more))

  abbrev after : Branch
  after = record { routine = record b.routine { value = d }; ahead = b.ahead; plain = false }

  -- the search can go on from the state after the page
  pub fired-branch : IsBranch after
  fired-branch = record {
    ready = ready;
    none = g.left ∙ f.filled.left h.none;
    items = subst (λ cs. AreItemsLeft cs b.ahead) (sym (classes ∙ f.classes)) h.items;
    served = now-served;
    few = h.few;
  }

  -- ---- it fired

  module _ (places : List PlacePenalty) (new : List Happening) (k : HasSent page q d hs new) where
    pub has-fired : (z : ℤ) → z ≡ demerits_if (rating (state_of d).params places 0 (last_champion (events_of d.store new)) (floats_waiting (state_of d).floats) (insertions_first (state_of d).waiting)) → pos 0 ≤ℤ z → z ≤ℤ pos 352689971456 → HasFired places z b after
    has-fired z value low high =
        let es = events_now b.routine.value q page hs f in
        let rs = records_now b.routine.value q page hs f in
        record {
          events = es;
          records = rs;
          fires = f.fires.fires;
          step = goes-step b.routine.value q page hs f d g;
          demerits =
              value
              ∙ ap (λ es. demerits_if (rating (state_of d).params places 0 (last_champion es) (floats_waiting (state_of d).floats) (insertions_first (state_of d).waiting))) (events-are b.routine.value q page hs f d g new k)
              ∙ page-any (state_of d).params places 0 (first_number (state_of d).number es) (floats_waiting (state_of d).floats) (insertions_first (state_of d).waiting) (last_champion es);
          low = low;
          high = high;
          branch = fired-branch;
          ahead = refl;
          classes = classes ∙ f.classes;
          plain = refl;
        }

-- ---- it did not

module _ (places : List PlacePenalty) (b : Branch) (c : Branch) (q : Routine) (hs : List Happening) where
  stopped-by : (e : Ending) → e ≢ endings.Done → IsFilledLast true b.routine.value e q hs → (kern : Bool) → kern_last false (shown b).waiting ≡ kern → FillsTo places b (stopped kern) c
  stopped-by e other h true is = is-full b.routine.value q e hs h other is
  stopped-by e other h false is = is-refused b.routine.value q e hs h other is

  pub unfired-so : (e : Ending) → IsFilledLast true b.routine.value e q hs → (kern : Bool) → kern ≡ kern_last false (shown b).waiting → FillsTo places b (unfired e kern) c
  unfired-so endings.Done h kern is = is-quiet b.routine.value q endings.Done hs h refl
  unfired-so (endings.PoolFull line live) h kern is = stopped-by (endings.PoolFull line live) (λ e. cc) h kern (sym is)
  unfired-so (endings.Fault f) h kern is = stopped-by (endings.Fault f) (λ e. cc) h kern (sym is)
  unfired-so (endings.NodeLimit n) h kern is = stopped-by (endings.NodeLimit n) (λ e. cc) h kern (sym is)

  module _ (page : Page) (f : IsFiring true b.routine.value page q hs) (d : Routine) where
    pub unserved-so : (e : Ending) → ServesUnlimited page q (Some e) d → FillsTo places b (unserved e) c
    unserved-so endings.Done h = absurd h
    unserved-so (endings.PoolFull line live) h = absurd h
    unserved-so (endings.Fault x) h = refused-so b.routine.value q page hs f x h
    unserved-so (endings.NodeLimit n) h = record {
      events = events_now b.routine.value q page hs f;
      records = records_now b.routine.value q page hs f;
      state = state_of d;
      step = goes-step b.routine.value q page hs f d h.0;
      many = h.1.more;
    }
