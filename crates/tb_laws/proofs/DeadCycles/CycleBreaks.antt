-- What is known of a page that fires by the penalty of its break, and of the state after the goal is set.
use Rattle.std.proofs.Common.{◌≡◌, refl, sym, ◌∙◌, ap, subst, ℕ, ℤ, ◌+◌, ◌*◌, ◌≤◌, inl, inr, ◌⊎◌, Bool, true, false, List, [], ◌∷◌, ◌++◌, length, None, arith, append_assoc}
use Rattle.std.specs.Prelude.{◌==◌, int_le, ◌||◌, if◌then◌else◌}
use Rattle.std.specs.List.{AllByRecursion}
use Rattle.std.proofs.lemmas.Int.{ints}
use Rattle.std.proofs.lemmas.List.{append_assoc}
use Rattle.std.proofs.lemmas.Bool.{or_left, or_right, or_from}
use Rattle.tb_scaled.specs.Scaled.{eject_penalty}
use Rattle.tb_node.specs.declared.Float.{Float}
use Rattle.tb_node.specs.PlainNodes.{PlainKind, plain, ins, act, PlainNode, made, blank_box, whatsit, pen}
use Rattle.tb_param.specs.declared.Params.{Params}
use Rattle.tb_builder.specs.FiredPages.{Boxed, Fired, box_content}
use Rattle.tb_laws.proofs.PageBreaks.FittingFired.{Fitted}
use Rattle.tb_laws.proofs.PageBreaks.PausedPages.{Paused}
use Rattle.tb_insert.specs.declared.Class.{Class}
use Rattle.tb_float.specs.Lists.{FloatLists, wide_part}
use Rattle.tb_column.specs.Column.{standing_notes}
use Rattle.tb_output.specs.State.{State, Work, footnotes, notes_in, with_notes}
use Rattle.tb_output.specs.Columns
use Rattle.tb_output.specs.Clear
use Rattle.tb_output.specs.Text
use Rattle.tb_output.specs.Output
use Rattle.tb_sheet.specs.Asked
use Rattle.tb_laws.proofs.Closed.Sorts.{Sort, hold, serve, clear, odd, pen_sort, kind_sort, sorts}
use Rattle.tb_laws.proofs.Closed.SortLemmas.{sorts-append}
use Rattle.tb_laws.proofs.DeadCycles.RaiseCounts.{box_raises}
use Rattle.tb_laws.proofs.DeadCycles.AgainLemmas.{Again, Idle, BreakAgain, again-idle}
use Rattle.tb_laws.proofs.DeadCycles.WaitCosts.{sort_cost, wait_cost, cost-append, IsInserted, AllInserted, ins-free}
use Rattle.tb_output.proofs.StepLaws.FollowLemmas.{waiting_floats, AllWait}
use Rattle.tb_laws.proofs.DeadCycles.ClearOutcomes.{NoneWait, Fits, Single, Wide}
use Rattle.tb_laws.proofs.StepLaws.SideLemmas.{Sides}
use Rattle.tb_laws.proofs.DeadCycles.ServeOutcomes.{AllCurrent, way_floats}
use Rattle.tb_laws.proofs.DeadCycles.CycleStates.{Kind, once, ready, halted, credit, Holds, Phase, starting, ending, phase_cost, PhaseHolds, FloatsFit, Bounded, GoalOut, goal-out}
use Rattle.tb_laws.proofs.StepLaws.BreakSorts as breaks
pub use Rattle.tb_laws.proofs.DeadCycles.ClearOutcomes.{none-left}

-- ---- the sort of the penalty, by the routine's tests

pub clear-sort : (q : ℤ) → int_le eject_penalty q ≡ false → Output.is_int q Asked.clear_penalty ≡ true → pen_sort q ≡ clear
clear-sort q h k = breaks.at-clear (pen_sort q ≡ clear) (λ x. pen_sort q ≡ x) q h k (λ e. e) refl

pub serve-sort : (q : ℤ) → int_le eject_penalty q ≡ false → Output.is_int q Asked.clear_penalty ≡ false → (Output.is_int q Asked.par_penalty || Output.is_int q Asked.vert_penalty) ≡ true → pen_sort q ≡ serve
serve-sort q h k l = breaks.at-serve (pen_sort q ≡ serve) (λ x. pen_sort q ≡ x) q h k l (λ e. e) refl

pub hold-sort : (q : ℤ) → int_le eject_penalty q ≡ false → Output.is_int q Asked.clear_penalty ≡ false → (Output.is_int q Asked.par_penalty || Output.is_int q Asked.vert_penalty) ≡ false → (pen_sort q ≡ odd → ⊥) → pen_sort q ≡ hold
hold-sort q h k l no_odd = breaks.at-hold (pen_sort q ≡ hold) (λ x. pen_sort q ≡ x) q h k l (λ e. e) (λ e. absurd (no_odd e)) refl

pub ordinary-again : (n : ℕ) (rest : List PlainNode) (q : ℤ) → int_le eject_penalty q ≡ true → BreakAgain n rest (pen_sort q) → Again n (sorts rest)
ordinary-again n rest q h r = breaks.at-ordinary (Again n (sorts rest)) (BreakAgain n rest) q h (λ r. r) (λ r. r) r

-- ---- the output routine, by the penalty

pub output-cases : (p : Params) (f : Fired) (w : Work) (R : Work → Type 0) → (pen_sort f.penalty ≡ odd → ⊥)
    → (int_le eject_penalty f.penalty ≡ true → R (Columns.ordinary p f.body w))
    → (int_le eject_penalty f.penalty ≡ false → Output.is_int f.penalty Asked.clear_penalty ≡ true → R (Clear.clear p f.body w))
    → ((vert : Bool) → int_le eject_penalty f.penalty ≡ false → pen_sort f.penalty ≡ serve → R (Text.float_or_note p vert f.body w))
    → (int_le eject_penalty f.penalty ≡ false → pen_sort f.penalty ≡ hold → R (Output.hold f.body w))
    → R (Output.output_by p f w)
output-cases p f w R regular at_ordinary at_clear at_serve at_hold = by_tests (int_le eject_penalty f.penalty) (Output.is_int f.penalty Asked.clear_penalty) (Output.is_int f.penalty Asked.par_penalty) (Output.is_int f.penalty Asked.vert_penalty) refl refl refl refl
  where
    by_tests : (t k x y : Bool) → int_le eject_penalty f.penalty ≡ t → Output.is_int f.penalty Asked.clear_penalty ≡ k → Output.is_int f.penalty Asked.par_penalty ≡ x → Output.is_int f.penalty Asked.vert_penalty ≡ y → R (if t then Columns.ordinary p f.body w else (if k then Clear.clear p f.body w else (if x then Text.float_or_note p false f.body w else (if y then Text.float_or_note p true f.body w else Output.hold f.body w))))
    by_tests true k x y e g i j = at_ordinary e
    by_tests false true x y e g i j = at_clear e g
    by_tests false false true y e g i j = at_serve false e (serve-sort f.penalty e g (or_left (Output.is_int f.penalty Asked.par_penalty) (Output.is_int f.penalty Asked.vert_penalty) i))
    by_tests false false false true e g i j = at_serve true e (serve-sort f.penalty e g (or_right (Output.is_int f.penalty Asked.par_penalty) (Output.is_int f.penalty Asked.vert_penalty) j))
    by_tests false false false false e g i j = at_hold e (hold-sort f.penalty e g (or_from (Output.is_int f.penalty Asked.par_penalty) (Output.is_int f.penalty Asked.vert_penalty) i j) regular)

-- ---- what is known of a page that fires

-- what waited cost this much when the page began; the clears of the routine that are to come, what is known of the state and its phase say how the page breaks
pub record FiresWell (p : Params) (s : State) (total : ℕ) (n : ℕ) (kind : Kind) (phase : Phase) (f : Fired) : Type 0 where
  pub region : BreakAgain n f.rest (pen_sort f.penalty)
  pub cost : wait_cost f.rest + sort_cost (pen_sort f.penalty) ≤ total
  pub held : AllInserted f.held
  pub regular : pen_sort f.penalty ≡ odd → ⊥
  pub body : wait_cost (s.held_page ++ Text.without_firing_box f.body) ≡ 0
  -- a page that ends a second column is ordinary
  pub ending : phase ≡ ending → int_le eject_penalty f.penalty ≡ true
  pub halted : kind ≡ halted → int_le eject_penalty f.penalty ≡ true
  -- after a blank column a clear comes, and the page in between fits
  pub once : kind ≡ once → (int_le eject_penalty f.penalty ≡ true) × (f.held ≡ []) × ((rest : List PlainNode) × Fitted Asked.clear_penalty rest f.rest)
  -- a clear without footnotes comes next
  pub ready : kind ≡ ready → (Output.is_int f.penalty Asked.clear_penalty ≡ true) × (standing_notes (footnotes (record s { boxes = f.boxes })) ≡ [])
  -- the page of a clear without footnotes has no insertions unless they raise it, and is light but for its blank box, so a blank column and a clear may come after its front
  pub blank : Output.is_int f.penalty Asked.clear_penalty ≡ true → standing_notes (footnotes (record s { boxes = f.boxes })) ≡ [] → (box_raises f.boxes ≡ 0 → f.held ≡ []) × ((rest : List PlainNode) → Fitted eject_penalty (made whatsit ∷ made blank_box ∷ made (pen Asked.clear_penalty) ∷ rest) (Clear.cleared_front p f.body ++ (made blank_box ∷ Clear.clear_again ++ rest)) × Paused (Clear.cleared_front p f.body ++ (made blank_box ∷ Clear.clear_again ++ rest))) × AllByRecursion Idle (sorts (Clear.cleared_front p f.body)) × (wait_cost (Clear.cleared_front p f.body) ≡ 0)

-- ---- the state after the goal is set

pub fits-same : (p : Params) (s t : State) → t.floats ≡ s.floats → t.two_columns ≡ s.two_columns → FloatsFit p s → FloatsFit p t
fits-same p s t e c h = record {
  fit = subst (AllWait (Fits p)) (sym e) h.fit;
  current = subst (λ (l : FloatLists). AllCurrent (Fits p) l.current) (sym e) h.current;
  single = λ k. subst (λ (l : FloatLists). AllWait Single l × AllCurrent Single l.current) (sym e) (h.single (sym c ∙ k));
  double = record { wide = subst (λ (l : FloatLists). AllByRecursion Wide l.double) (sym e) h.double.wide; none = λ k. ap (λ (l : FloatLists). l.double) e ∙ h.double.none (sym c ∙ k) };
  sides = subst (Sides (wide_part p)) (sym e) h.sides;
  narrow = λ k. subst (λ (l : FloatLists). AllCurrent Single l.current) (sym e) (h.narrow k);
}

ins-kind : (k : PlainKind) → IsInserted k → Idle (kind_sort k)
ins-kind (plain x) i = absurd i
ins-kind (ins x) i = tt
ins-kind (act a) i = absurd i

ins-idle : (ns : List PlainNode) → AllInserted ns → AllByRecursion Idle (sorts ns)
ins-idle [] i = tt
ins-idle (n ∷ ns) i = (ins-kind n.kind i.0, ins-idle ns i.1)

ins-again : (n : ℕ) (ns : List PlainNode) (ys : List Sort) → AllInserted ns → Again n ys → Again n (sorts ns ++ ys)
ins-again n ns ys i a = again-idle n (sorts ns) ys (ins-idle ns i) a

module _ (p : Params) (m : ℕ) (f : Fired) (held : AllInserted f.held) (w : Work) where
  -- the state after the firing
  abbrev pub after : State
  after = (Output.waiting_again f (Output.next_goal p f.penalty w)).state

  abbrev pub goal : GoalOut p f.penalty w (Output.next_goal p f.penalty w)
  goal = goal-out p f.penalty w

  pub waits : after.waiting ≡ f.held ++ ((w.put_back ++ goal.blanks) ++ f.rest)
  waits = ap (λ ns. (f.held ++ ns) ++ f.rest) goal.back ∙ append_assoc f.held (w.put_back ++ goal.blanks) f.rest

  pub wait-total : wait_cost after.waiting ≡ wait_cost w.put_back + wait_cost f.rest
  wait-total =
      sums (wait_cost after.waiting) (wait_cost (f.held ++ ((w.put_back ++ goal.blanks) ++ f.rest))) (wait_cost f.held) (wait_cost ((w.put_back ++ goal.blanks) ++ f.rest)) (wait_cost (w.put_back ++ goal.blanks)) (wait_cost w.put_back) (wait_cost goal.blanks) (wait_cost f.rest)
      (ap wait_cost waits) (cost-append f.held ((w.put_back ++ goal.blanks) ++ f.rest)) (ins-free f.held held) (cost-append (w.put_back ++ goal.blanks) f.rest) (cost-append w.put_back goal.blanks) goal.cost
    where
      sums : (a b h c d x y r : ℕ) → a ≡ b → b ≡ h + c → h ≡ 0 → c ≡ d + r → d ≡ x + y → y ≡ 0 → a ≡ x + r
      sums a b h c d x y r i j k l n o = omega arith

  -- the clears that are to come after what is put back are to come on what waits
  pub after-region : (again : ℕ) → ((bs : List PlainNode) → AllByRecursion Idle (sorts bs) → Again again (sorts w.put_back ++ (sorts bs ++ sorts f.rest))) → Again again (sorts after.waiting)
  after-region again region = subst (λ (ns : List PlainNode). Again again (sorts ns)) (sym waits) (subst (Again again) (sym parts) (ins-again again f.held (sorts w.put_back ++ (sorts goal.blanks ++ sorts f.rest)) held (region goal.blanks goal.idle)))
    where
      parts : sorts (f.held ++ ((w.put_back ++ goal.blanks) ++ f.rest)) ≡ sorts f.held ++ (sorts w.put_back ++ (sorts goal.blanks ++ sorts f.rest))
      parts =
          sorts-append f.held ((w.put_back ++ goal.blanks) ++ f.rest)
          ∙ ap (λ l. sorts f.held ++ l) (sorts-append (w.put_back ++ goal.blanks) f.rest ∙ ap (λ l. l ++ sorts f.rest) (sorts-append w.put_back goal.blanks) ∙ append_assoc (sorts w.put_back) (sorts goal.blanks) (sorts f.rest))

  -- what is known after the output routine is known after the goal is set
  pub finish : (again : ℕ) (kind : Kind) (phase : Phase)
      → ((bs : List PlainNode) → AllByRecursion Idle (sorts bs) → Again again (sorts w.put_back ++ (sorts bs ++ sorts f.rest)))
      → Holds p after again kind → PhaseHolds after phase → (phase ≡ ending → 1 ≤ again) → FloatsFit p w.state
      → wait_cost w.put_back + wait_cost f.rest + 2 * way_floats w.state.floats + credit kind ≤ m + 2 * again
      → w.state.dead_cycles + (wait_cost w.put_back + wait_cost f.rest) + 2 * way_floats w.state.floats + credit kind + phase_cost phase ≤ m + 3 + 2 * again
      → Bounded p m after
  finish again kind phase region holds at coming floats weight bound = record {
    again = again;
    kind = kind;
    phase = phase;
    region = after-region again region;
    holds = holds;
    at = at;
    coming = coming;
    floats = fits-same p w.state after goal.floats goal.columns floats;
    weight = sums (wait_cost after.waiting) (wait_cost w.put_back + wait_cost f.rest) (way_floats after.floats) (way_floats w.state.floats) (credit kind) (m + 2 * again) wait-total (ap way_floats goal.floats) weight;
    bound = sums-with (wait_cost after.waiting) (wait_cost w.put_back + wait_cost f.rest) (way_floats after.floats) (way_floats w.state.floats) (credit kind) (m + 3 + 2 * again) after.dead_cycles w.state.dead_cycles (phase_cost phase) wait-total (ap way_floats goal.floats) goal.cycles bound;
  }
    where
      sums : (a b x y c r : ℕ) → a ≡ b → x ≡ y → b + 2 * y + c ≤ r → a + 2 * x + c ≤ r
      sums a b x y c r i j k = omega arith

      sums-with : (a b x y c r d e h : ℕ) → a ≡ b → x ≡ y → d ≡ e → e + b + 2 * y + c + h ≤ r → d + a + 2 * x + c + h ≤ r
      sums-with a b x y c r d e h i j k l = omega arith

  -- after a page the dead cycles are none
  pub finish-shipped : (again : ℕ) (kind : Kind)
      → ((bs : List PlainNode) → AllByRecursion Idle (sorts bs) → Again again (sorts w.put_back ++ (sorts bs ++ sorts f.rest)))
      → Holds p after again kind → FloatsFit p w.state → w.state.dead_cycles ≡ 0
      → wait_cost w.put_back + wait_cost f.rest + 2 * way_floats w.state.floats + credit kind ≤ m + 2 * again
      → Bounded p m after
  finish-shipped again kind region holds floats dead weight = finish again kind starting region holds tt (λ e. cc) floats weight (sums w.state.dead_cycles (wait_cost w.put_back + wait_cost f.rest) (way_floats w.state.floats) (credit kind) again dead weight)
    where
      sums : (d b y c a : ℕ) → d ≡ 0 → b + 2 * y + c ≤ m + 2 * a → d + b + 2 * y + c + 2 ≤ m + 3 + 2 * a
      sums d b y c a h k = omega arith

-- ---- small facts

pub none-count : (l : FloatLists) → NoneWait l → waiting_floats l ≡ 0
none-count l h = rw (h.top, h.bottom, h.deferred, h.double, h.second) refl

pub true-false : {X : Type 0} (t : Bool) → t ≡ true → t ≡ false → X
true-false t h k = let no : true ≡ false = sym h ∙ k in cc

pub emptied-none : (bs : List Boxed) (k : ℕ) → box_content (Columns.emptied_boxes bs) k ≡ None
emptied-none [] k = refl
emptied-none (b ∷ bs) k = by_number (b.number == k) (emptied-none bs k)
  where
    by_number : (t : Bool) → box_content (Columns.emptied_boxes bs) k ≡ None → (if t then None else box_content (Columns.emptied_boxes bs) k) ≡ None
    by_number true h = refl
    by_number false h = h

-- emptied boxes hold no notes
pub notes-emptied : (cs : List Class) (bs : List Boxed) → notes_in cs (Columns.emptied_boxes bs) ≡ []
notes-emptied [] bs = refl
notes-emptied (c ∷ cs) bs = ap (λ o. with_notes c o (notes_in cs (Columns.emptied_boxes bs))) (emptied-none bs c.number) ∙ notes-emptied cs bs

-- an ordinary firing is at no penalty of the routine
pub no-hold : (q : ℤ) → int_le eject_penalty q ≡ true → Output.is_int q Asked.hold_penalty ≡ false
no-hold q h = grind (arith, ints, h)

pub no-clear : (q : ℤ) → int_le eject_penalty q ≡ true → Output.is_int q Asked.clear_penalty ≡ false
no-clear q h = grind (arith, ints, h)

pub clear-no-hold : (q : ℤ) → Output.is_int q Asked.clear_penalty ≡ true → Output.is_int q Asked.hold_penalty ≡ false
clear-no-hold q h = grind (arith, ints, h)

-- a list has a float, or none
pub some-or-none : (fs : List Float) → (1 ≤ length fs) ⊎ (fs ≡ [])
some-or-none [] = inr refl
some-or-none (f ∷ fs) = inl (omega arith)

-- ---- a firing

-- no column is put out, and nothing that costs is put back
pub record QuietOut (p : Params) (s : State) (w : Work) : Type 0 where
  pub back : wait_cost w.put_back ≡ 0
  pub columns : w.state.two_columns ≡ s.two_columns
  pub first : w.state.first_column ≡ s.first_column
  pub way : way_floats w.state.floats ≤ way_floats s.floats
  pub cycles : w.state.dead_cycles ≡ s.dead_cycles + 1
  pub fits : FloatsFit p w.state
