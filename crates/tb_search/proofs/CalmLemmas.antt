-- Items that are taken before a page can fire.
use Rattle.std.proofs.Common.{◌≡◌, refl, sym, ◌∙◌, ap, subst, ℕ, suc, ◌≤◌, Bool, true, false, true≢false, List, [], ◌∷◌, ◌++◌, append_assoc, append-nil, length, ◌-◌, ◌<◌, inl, inr, arith}
use Rattle.std.specs.Prelude.{reverse}
use Rattle.tb_node.specs.PlainNodes.{PlainNode}
use Rattle.tb_galley.specs.declared.Galley.{Galley}
use Rattle.tb_builder.specs.Reach.{Reach}
use Rattle.tb_builder.specs.FiredPages.{reach_of}
use Rattle.tb_output.specs.State.{State}
use Rattle.tb_best.specs.PlanDemerits.{reach_in}
use Rattle.tb_best.specs.Sides.{sides_of, KeepsSides}
use Rattle.tb_best.specs.ItemsAhead.{Ahead, all_ahead, state_with}
use Rattle.tb_best.proofs.FiredMore.{begun-more}
use Rattle.tb_best.proofs.StepMore.{asked-more}
use Rattle.tb_steps.specs.Run.{ask_for}
use Rattle.tb_best.specs.ClosedTables.{Reaches}
use Rattle.tb_search.specs.declared.branch.Branch.{Branch}
use Rattle.tb_search.specs.declared.table.Start.{Start}
use Rattle.tb_search.specs.declared.table.Table.{Table}
use Rattle.tb_search.specs.Branches.{shown, next_of, IsBranch, HasTaken}
use Rattle.tb_search.specs.AheadInCode.{items_ahead, HasAhead}
use Rattle.tb_search.specs.Starts.{row_of, IsReached}
use Rattle.tb_search.specs.Continues.{HasSearched, IsTakenOn}
use Rattle.tb_search.specs.Calm.{nodes_of_first, with_first, IsCalm}
use Rattle.tb_search.proofs.AheadLemmas.{next-is, next_ahead}
use Rattle.tb_search.proofs.PlainFlags.{flag-copied}
use Rattle.tb_search.proofs.OrderLemmas.{no-better-same}
use Rattle.tb_search.proofs.ReachedWays.{reached-taken, shown-taken}
use Rattle.tb_search.proofs.ExpandLemmas.{taken-done}

-- a page that fires does so whatever waits behind
pub fires-more : (s : State) (more : List PlainNode) → (reach_in s).fires ≡ true → (reach_in (state_with more s)).fires ≡ true
fires-more s more fires =
    ap (λ a. (reach_of a s.classes s.boxes [] (s.waiting ++ more)).fires) (asked-more s more fires)
    ∙ ap (λ (w : Reach). w.fires) (begun-more (ask_for s) s.classes s.boxes s.waiting more fires)
    ∙ fires

-- so if no page fires behind more nodes, none fires before them
pub quiet-before : (s : State) (more : List PlainNode) → (reach_in (state_with more s)).fires ≡ false → (reach_in s).fires ≡ false
quiet-before s more quiet = by (reach_in s).fires refl
  where
    by : (b : Bool) → (reach_in s).fires ≡ b → (reach_in s).fires ≡ false
    by true e = absurd (true≢false (sym (fires-more s more e) ∙ quiet))
    by false e = e

-- no page fires now
pub calm-now : (s : State) (cs : List Ahead) (k : ℕ) → IsCalm s cs k → (reach_in s).fires ≡ false
calm-now s cs k h = quiet-before s (nodes_of_first k cs) h

module _ (g : Galley) (left : ℕ) (s t : State) (some : suc left ≤ length (all_ahead g)) (taken : t ≡ state_with (next_ahead g left).nodes s) where
  -- the state once more items are taken is the same before and after the first of them
  pub same-far : (k : ℕ) → state_with (nodes_of_first (suc k) (items_ahead g (suc left))) s ≡ state_with (nodes_of_first k (items_ahead g left)) t
  same-far k =
      ap (λ cs. state_with (nodes_of_first (suc k) cs) s) (next-is g left some)
      ∙ ap (λ ws. record s { waiting = ws }) (sym (append_assoc s.waiting (next_ahead g left).nodes (nodes_of_first k (items_ahead g left))))
      ∙ ap (λ u. state_with (nodes_of_first k (items_ahead g left)) u) (sym taken)

-- with no nodes behind a state is the same
pub none-behind : (s : State) → state_with [] s ≡ s
none-behind s = ap (λ ws. record s { waiting = ws }) (append-nil s.waiting)

-- ---- in code

-- a copy is reached in the same way
pub reached-copy : (g : Galley) (left : ℕ) (x : Start) (c : Branch) → IsReached g left x → IsBranch c → shown c ≡ shown x.branch → c.ahead ≡ x.branch.ahead → c.plain ≡ x.branch.plain
    → IsReached g left (record { branch = c; way = x.way })
reached-copy g left x c h is state ahead plain = record {
  branch = is;
  ahead = subst (λ o. HasAhead g o (items_ahead g left)) (sym ahead) h.ahead;
  classes = ap (λ (s : State). s.classes) state ∙ h.classes;
  sides = subst (KeepsSides (sides_of g)) (sym state) h.sides;
  reached = subst (λ s. Reaches g s (items_ahead g left) x.way.demerits (reverse x.way.breaks.items)) (sym state) h.reached;
  low = h.low;
  plain = flag-copied g left x.branch c state plain h.plain;
}

-- an item is taken from a state that has some ahead
module _ (g : Galley) (x : Start) (behind : ℕ) (c : Branch) (inside : behind ≤ length (all_ahead g)) (some : 0 < behind) (reached : IsReached g behind x) (taken : HasTaken (next_of x.branch.ahead) x.branch c) where
  one-more : behind ≡ suc (behind - 1)
  one-more = omega (arith, some)

  within : suc (behind - 1) ≤ length (all_ahead g)
  within = omega (arith, some, inside)

  pub one-reached : IsBranch c → IsReached g (behind - 1) (record { branch = c; way = x.way })
  one-reached is = reached-taken g (behind - 1) x c within (subst (λ n. IsReached g n x) one-more reached) taken is

  -- the state once more items are taken is the same
  pub one-far : (j k : ℕ) → j ≡ suc k → state_with (nodes_of_first j (items_ahead g behind)) (shown x.branch) ≡ state_with (nodes_of_first k (items_ahead g (behind - 1))) (shown c)
  one-far j k e =
      (λ i. state_with (nodes_of_first (e i) (items_ahead g (one-more i))) (shown x.branch))
      ∙ same-far g (behind - 1) (shown x.branch) (shown c) within (shown-taken g (behind - 1) x c within (subst (λ n. IsReached g n x) one-more reached) taken) k

  -- there is one fewer of the items before a page can fire
  pub one-calm : (j k : ℕ) → j ≡ suc k → IsCalm (shown x.branch) (items_ahead g behind) j → IsCalm (shown c) (items_ahead g (behind - 1)) k
  one-calm j k e h = subst (λ s. (reach_in s).fires ≡ false) (one-far j k e) h

-- the state is that behind so many items, if none of them is left
pub far-same : (s t : State) (cs ds : List Ahead) (j k : ℕ) → with_first j cs s ≡ with_first k ds t → k ≡ 0 → with_first j cs s ≡ t
far-same s t cs ds j k same none = same ∙ ap (λ n. with_first n ds t) none ∙ none-behind t

-- if the state up to which items were taken is searched, so is the first
pub taken-joined : (t : Table) (left : ℕ) (x : Start) (u : Table) (behind : ℕ) (y : Start) → IsTakenOn t left x u behind y → (v : Table) → HasSearched (row_of u.galley.now behind y ∷ []) u v → HasSearched (row_of t.galley.now left x ∷ []) t v
taken-joined t left x u behind y h v s =
    taken-done t left x u behind y h v (record { later = s.later; all = λ a cs d breaks k. s.all a cs d breaks (inr k) })
    (s.all (shown y.branch) (items_ahead u.galley.now behind) y.way.demerits (reverse y.way.breaks.items) (inl (refl, refl, no-better-same y.way.demerits (reverse y.way.breaks.items))))
