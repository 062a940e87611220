-- What raises pages pays for firings: a bound that a firing keeps, but for four firings where its page drops what raises it, is kept with four for each raise that is left.
use Rattle.std.proofs.Common.{◌≡◌, sym, ap, subst, ℕ, ◌+◌, ◌*◌, ◌≤◌, inl, inr, ◌⊎◌, [], take, arith}
use Rattle.tb_break.specs.PageTop.{pruned_nodes}
use Rattle.tb_insert.specs.Account.{terms_after}
use Rattle.tb_builder.specs.FiredPages.{Fired, page_break, frozen_for}
use Rattle.tb_builder.proofs.Cutting.CutLemmas.{CutAt, reach-cut}
use Rattle.tb_output.specs.State.{State}
use Rattle.tb_steps.specs.Run.{ask_for}
use Rattle.tb_steps.proofs.RunTree.{page_of, fired_at, served_at}
use Rattle.tb_laws.proofs.NothingLost.RunWeights.{Kept}
use Rattle.tb_laws.proofs.DeadCycles.RaiseCounts.{raises, box_raises, state_raises, body-raises}
use Rattle.tb_laws.proofs.DeadCycles.RaisePages.{page-raises}
use Rattle.tb_laws.proofs.DeadCycles.RaiseFirings.{IsSingle, Drops, fit-single, out-raises, dropped-raises}

-- the bound holds of a number, which with four for each raise is no more than the top
pub record Spends (B : ℕ → State → Type 0) (top : ℕ) (s : State) : Type 0 where
  pub most : ℕ
  pub bounded : B most s
  pub room : most + 4 * state_raises s ≤ top

-- the firing of the page after its acts
module _ (B : ℕ → State → Type 0) (top : ℕ) (s : State) (kept : Kept s) (t : State) (same_classes : t.classes ≡ s.classes) (same_boxes : t.boxes ≡ s.boxes) (same_held : t.held_page ≡ s.held_page) where
  abbrev f : Fired
  f = fired_at s t

  cut : CutAt [] (pruned_nodes (ask_for s).top_skip s.waiting) (page_of s)
  cut = reach-cut (ask_for s).max_depth (terms_after (frozen_for (ask_for s) s.classes s.boxes)) [] (pruned_nodes (ask_for s).top_skip s.waiting)

  single : IsSingle t.classes
  single = subst IsSingle (sym same_classes) (fit-single s.classes s.boxes kept.sound.box)

  paged : raises f.held + box_raises f.boxes + raises f.rest ≤ raises s.waiting + box_raises t.boxes
  paged = page-raises (ask_for s).top_skip s.waiting (page_of s) cut (frozen_for (ask_for s) t.classes t.boxes) (page_break (page_of s)).place t.boxes

  pub spends : (x : Spends B top s) → B x.most (served_at s t).state ⊎ (Drops t (fired_at s t) × B (x.most + 4) (served_at s t).state) → Spends B top (served_at s t).state
  spends x (inl b) = record {
    most = x.most;
    bounded = b;
    room = sums x.most (state_raises (served_at s t).state) (raises f.held) (raises f.rest) (raises t.held_page) (raises s.held_page) (box_raises f.boxes) (box_raises t.boxes) (box_raises s.boxes) (raises s.waiting) kept_raises paged (ap raises same_held) (ap box_raises same_boxes) x.room;
  }
    where
      kept_raises : state_raises (served_at s t).state ≤ raises f.held + raises f.rest + (raises t.held_page + box_raises f.boxes)
      kept_raises = out-raises t.params t f single (body-raises (take (page_break (page_of s)).place (page_of s).passed))

      sums : (m o h r y y' b c c' w : ℕ) → o ≤ h + r + (y + b) → h + b + r ≤ w + c → y ≡ y' → c ≡ c' → m + 4 * (w + y' + c') ≤ top → m + 4 * o ≤ top
      sums m o h r y y' b c c' w i j k l n = omega arith
  spends x (inr b) = record {
    most = x.most + 4;
    bounded = b.1;
    room = sums x.most (state_raises (served_at s t).state) (raises f.held) (raises f.rest) (raises t.held_page) (raises s.held_page) (box_raises f.boxes) (box_raises t.boxes) (box_raises s.boxes) (raises s.waiting) dropped b.0.3 paged (ap raises same_held) (ap box_raises same_boxes) x.room;
  }
    where
      dropped : state_raises (served_at s t).state ≤ raises f.held + raises f.rest + raises t.held_page
      dropped = dropped-raises t.params t f single (body-raises (take (page_break (page_of s)).place (page_of s).passed)) b.0

      sums : (m o h r y y' b c c' w : ℕ) → o ≤ h + r + y → 1 ≤ b → h + b + r ≤ w + c → y ≡ y' → c ≡ c' → m + 4 * (w + y' + c') ≤ top → m + 4 + 4 * o ≤ top
      sums m o h r y y' b c c' w i j k l n q = omega arith
