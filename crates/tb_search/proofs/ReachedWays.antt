-- A state after a move of the search, reached as the definition has it.
use Rattle.std.proofs.Common.{◌≡◌, refl, sym, ◌∙◌, ap, subst, ℕ, suc, ◌<◌, ◌≤◌, ℤ, true, List, [], ◌∷◌, ◌++◌, length, get_or, zero, ◌-◌, arith, Bool}
use Rattle.std.specs.Prelude.{pos, ◌+ℤ◌, ◌≤ℤ◌, reverse}
use Rattle.std.proofs.lemmas.Int.{ints}
use Rattle.std.proofs.lemmas.List.{reverse-reverse, reverse-append}
use Rattle.std.specs.List.{AllByRecursion}
use Rattle.std.specs.declared.alloc.Global.{Global}
use Rattle.std.specs.declared.vec.Vec.{Vec}
use Rattle.tb_galley.specs.declared.Galley.{Galley}
use Rattle.tb_plans.specs.Plans.{IsPlan}
use Rattle.tb_output.specs.State.{State}
use Rattle.tb_steps.specs.Run.{goes_on}
use Rattle.tb_rate.specs.declared.PlacePenalty.{PlacePenalty}
use Rattle.tb_rate.specs.Places.{place_penalties}
use Rattle.tb_best.specs.PlanDemerits.{reach_in, unlimited_step, step_demerits, plan_demerits}
use Rattle.tb_best.specs.ItemsAhead.{Ahead, last_ahead, all_ahead, forced, state_with}
use Rattle.tb_best.specs.Sides.{sides_of, KeepSides, KeepsSides}
use Rattle.tb_best.specs.ClosedTables.{Reaches}
use Rattle.tb_best.specs.ClosedTables as reached
use Rattle.tb_best.proofs.WayLemmas.{ends-are-plans}
use Rattle.tb_best.proofs.SideItems.{items-keep, sides-with}
use Rattle.tb_best.proofs.SteadySteps.{next-keeps}
use Rattle.tb_search.specs.declared.branch.Branch.{Branch}
use Rattle.tb_search.specs.declared.branch.Filled.{Filled}
use Rattle.tb_search.specs.declared.branch.Filled.TheVariants as filled
use Rattle.tb_search.specs.declared.table.Way.{Way}
use Rattle.tb_search.specs.declared.table.Start.{Start}
use Rattle.tb_search.specs.PlainStarts.{IsPlainStart}
use Rattle.tb_search.specs.Branches.{shown, next_of, break_before, IsBranch, HasTaken}
use Rattle.tb_search.specs.FilledBranches.{IsQuiet, IsFull, IsRefused, HasTooMany, HasFired, FillsTo}
use Rattle.tb_search.specs.AheadInCode.{items_ahead, HasAhead}
use Rattle.tb_search.specs.Starts.{IsReached, IsStart, IsRated, MayTake}
use Rattle.tb_search.proofs.PlainFlags.{flag-off, flag-apart}
use Rattle.tb_search.proofs.AheadLemmas.{none-ahead, next-is, next_ahead, next-taken}

-- ---- a page

-- what becomes of the page of a copy becomes of the page of the first
pub fills-copy : (places : List PlacePenalty) (b c e : Branch) (f : Filled) → shown c ≡ shown b → c.ahead ≡ b.ahead → FillsTo places c f e → FillsTo places b f e
fills-copy places b c e (filled.Fired d) state ahead h = record {
  events = h.events;
  records = h.records;
  fires = subst (λ s. (reach_in s).fires ≡ true) state h.fires;
  step = subst (λ s. unlimited_step s ≡ goes_on h.events h.records (shown e)) state h.step;
  demerits = subst (λ s. d ≡ step_demerits places s (goes_on h.events h.records (shown e))) state h.demerits;
  low = h.low;
  high = h.high;
  branch = h.branch;
  classes = h.classes ∙ ap (λ (s : State). s.classes) state;
  ahead = h.ahead ∙ ahead;
  plain = h.plain;
}
fills-copy places b c e filled.Quiet state ahead h = subst IsQuiet state h
fills-copy places b c e filled.Full state ahead h = subst IsFull state h
fills-copy places b c e filled.Refused state ahead h = subst IsRefused state h
fills-copy places b c e filled.TooMany state ahead h = subst HasTooMany state h

one-of : {X : Type 0} (P : X → Type 0) (xs : List X) (k : ℕ) (d : X) → AllByRecursion P xs → P d → P (get_or xs k d)
one-of P [] k d all h = h
one-of P (x ∷ xs) zero d all h = all.0
one-of P (x ∷ xs) (suc k) d all h = one-of P xs k d all.1 h

-- the nodes of an item ahead let marginal notes keep their sides
pub next-sides : (g : Galley) (k : ℕ) → KeepSides (sides_of g) (next_ahead g k).nodes
next-sides g k = one-of (λ (c : Ahead). KeepSides (sides_of g) c.nodes) (all_ahead g) (length (all_ahead g) - suc k) (last_ahead g) (items-keep g) refl

module _ (g : Galley) where
  abbrev places : List PlacePenalty
  places = place_penalties g.items

  with-low : (a d : ℤ) → pos 0 ≤ℤ a → pos 0 ≤ℤ d → pos 0 ≤ℤ (a +ℤ d)
  with-low a d h k = omega (arith, ints, h, k)

  -- after a page
  pub reached-fired : (left : ℕ) (x : Start) (c : Branch) (d : ℤ) → IsReached g left x → HasFired places d x.branch c → IsReached g left (record { branch = c; way = record { breaks = x.way.breaks; demerits = x.way.demerits +ℤ d } })
  reached-fired left x c d h k = record {
    branch = k.branch;
    ahead = subst (λ o. HasAhead g o (items_ahead g left)) (sym k.ahead) h.ahead;
    classes = k.classes ∙ h.classes;
    sides = next-keeps (sides_of g) (shown x.branch) (shown c) k.events k.records h.sides k.step;
    reached =
        subst (λ e. Reaches g (shown c) (items_ahead g left) (x.way.demerits +ℤ e) (reverse x.way.breaks.items)) (sym k.demerits)
        (reached.fills (shown x.branch) (shown c) (items_ahead g left) x.way.demerits (reverse x.way.breaks.items) k.events k.records h.reached k.fires k.step);
    low = with-low x.way.demerits d h.low k.low;
    plain = flag-off g left c k.plain;
  }

  -- the state that is shown after an item
  pub shown-taken : (left : ℕ) (x : Start) (c : Branch) → suc left ≤ length (all_ahead g) → IsReached g (suc left) x → HasTaken (next_of x.branch.ahead) x.branch c → shown c ≡ state_with (next_ahead g left).nodes (shown x.branch)
  shown-taken left x c some h k = k.state ∙ ap (λ ns. state_with ns (shown x.branch)) (next-taken g left x.branch.ahead c.ahead some h.ahead k.ahead).nodes

  -- after an item
  pub reached-taken : (left : ℕ) (x : Start) (c : Branch) → suc left ≤ length (all_ahead g) → IsReached g (suc left) x → HasTaken (next_of x.branch.ahead) x.branch c → IsBranch c
      → IsReached g left (record { branch = c; way = x.way })
  reached-taken left x c some h k is =
      let t = next-taken g left x.branch.ahead c.ahead some h.ahead k.ahead in
      record {
        branch = is;
        ahead = t.after;
        classes = ap (λ (s : State). s.classes) k.state ∙ h.classes;
        sides = subst (KeepsSides (sides_of g)) (sym (shown-taken left x c some h k)) (sides-with (sides_of g) (shown x.branch) (next_ahead g left).nodes h.sides (next-sides g left));
        reached =
            subst (λ s. Reaches g s (items_ahead g left) x.way.demerits (reverse x.way.breaks.items)) (ap (λ ns. state_with ns (shown x.branch)) (sym t.nodes) ∙ sym k.state)
            (reached.takes (shown x.branch) (next_ahead g left) (items_ahead g left) x.way.demerits (reverse x.way.breaks.items)
            (subst (λ cs. Reaches g (shown x.branch) cs x.way.demerits (reverse x.way.breaks.items)) (next-is g left some) h.reached));
        low = h.low;
        plain = flag-off g left c k.plain;
      }

  -- and after a break before it
  pub shown-cut : (left : ℕ) (x : Start) (c : Branch) → suc left ≤ length (all_ahead g) → IsReached g (suc left) x → (next_ahead g left).is_place ≡ true → HasTaken (break_before x.branch.ahead ++ next_of x.branch.ahead) x.branch c
      → shown c ≡ state_with (forced (next_ahead g left) ∷ (next_ahead g left).nodes) (shown x.branch)
  shown-cut left x c some h place k =
      let t = next-taken g left x.branch.ahead c.ahead some h.ahead k.ahead in
      k.state ∙ (λ i. state_with (t.break place i ++ t.nodes i) (shown x.branch))

  with-cost : (d : ℤ) → pos 0 ≤ℤ d → pos 0 ≤ℤ (d +ℤ pos 1000)
  with-cost d h = omega (arith, ints, h)

  pub reached-cut : (left : ℕ) (x : Start) (c : Branch) (breaks : Vec ℕ Global) → suc left ≤ length (all_ahead g) → IsReached g (suc left) x → (next_ahead g left).is_place ≡ true
      → HasTaken (break_before x.branch.ahead ++ next_of x.branch.ahead) x.branch c → IsBranch c → breaks.items ≡ x.way.breaks.items ++ (next_ahead g left).number ∷ []
      → IsReached g left (record { branch = c; way = record { breaks = breaks; demerits = x.way.demerits +ℤ pos 1000 } })
  reached-cut left x c breaks some h place k is more =
      let t = next-taken g left x.branch.ahead c.ahead some h.ahead k.ahead in
      record {
        branch = is;
        ahead = t.after;
        classes = ap (λ (s : State). s.classes) k.state ∙ h.classes;
        sides = subst (KeepsSides (sides_of g)) (sym (shown-cut left x c some h place k)) (sides-with (sides_of g) (shown x.branch) (forced (next_ahead g left) ∷ (next_ahead g left).nodes) h.sides (next-sides g left));
        reached =
            subst (λ bs. Reaches g (shown c) (items_ahead g left) (x.way.demerits +ℤ pos 1000) bs) (sym (ap reverse more ∙ reverse-append x.way.breaks.items ((next_ahead g left).number ∷ [])))
            (subst (λ s. Reaches g s (items_ahead g left) (x.way.demerits +ℤ pos 1000) ((next_ahead g left).number ∷ reverse x.way.breaks.items)) (sym (shown-cut left x c some h place k))
            (reached.cuts (shown x.branch) (next_ahead g left) (items_ahead g left) x.way.demerits (reverse x.way.breaks.items)
            (subst (λ cs. Reaches g (shown x.branch) cs x.way.demerits (reverse x.way.breaks.items)) (next-is g left some) h.reached) place));
        low = with-cost x.way.demerits h.low;
        plain = flag-off g left c k.plain;
      }

  -- with its flag set if it is the state after a plain page
  pub reached-flag : (left : ℕ) (b : Branch) (p : Bool) (w : Way) → IsReached g left (record { branch = b; way = w }) → (p ≡ true → IsPlainStart g left (shown b)) → IsReached g left (record { branch = record b { plain = p }; way = w })
  reached-flag left b p w h is = record { branch = flag-apart b p h.branch; ahead = h.ahead; classes = h.classes; sides = h.sides; reached = h.reached; low = h.low; plain = is }

  -- a state in which no page fires is one from which the search goes on
  pub start-of : (bound : ℤ) (left : ℕ) (x : Start) → IsReached g left x → 0 < left → MayTake (shown x.branch) → x.way.demerits ≤ℤ bound → IsStart g bound left x
  start-of bound left x h some may high = record { branch = h.branch; ahead = h.ahead; classes = h.classes; sides = h.sides; some = some; quiet = may; reached = h.reached; low = h.low; high = high; plain = h.plain }

  pub start-reached : (bound : ℤ) (left : ℕ) (x : Start) → IsStart g bound left x → IsReached g left x
  start-reached bound left x h = record { branch = h.branch; ahead = h.ahead; classes = h.classes; sides = h.sides; reached = h.reached; low = h.low; plain = h.plain }

  -- if nothing is ahead and the run ends well there, the way is a plan
  pub end-rated : (x : Start) → IsReached g 0 x → IsQuiet (shown x.branch) → IsRated g x.way
  end-rated x h k =
      let is = ends-are-plans g x.way.demerits (reverse x.way.breaks.items) (record {
        state = shown x.branch;
        events = k.events;
        records = k.records;
        left = k.left;
        reached = subst (λ cs. Reaches g (shown x.branch) cs x.way.demerits (reverse x.way.breaks.items)) (none-ahead g) h.reached;
        ends_well = k.step;
      })
      in
      record { is_plan = subst (IsPlan g) (reverse-reverse x.way.breaks.items) is.0; sum = ap (plan_demerits g) (sym (reverse-reverse x.way.breaks.items)) ∙ is.1 }
