-- The floats' lines of a class in a page that fires, and in what waits after it.
use Rattle.std.proofs.Common.{◌≡◌, sym, ◌∙◌, ap, subst, ℕ, ℤ, true, List, [], ◌++◌, take, drop, append_assoc}
use Rattle.std.specs.Prelude.{int_lt}
use Rattle.tb_break.proofs.EachLemmas.{all-front, all-back, all-join, all-take, all-drop}
use Rattle.tb_scaled.specs.Scaled.{eject_penalty}
use Rattle.tb_node.specs.PlainNodes.{PlainNode, without_insertions}
use Rattle.tb_break.specs.PageTop.{pruned_nodes}
use Rattle.tb_insert.specs.Account.{Frozen, labelled}
use Rattle.tb_builder.specs.Reach.{Reach}
use Rattle.tb_builder.specs.FiredPages.{Boxed, Fired, page_break, from_break, with_spent_break, held_insertions, fired_by}
use Rattle.tb_builder.proofs.Cutting.CutLemmas.{acted_of, CutAt, AllIns}
use Rattle.tb_laws.proofs.ClassesRise.FloatlessFeet.{HoldsFloatless, HoldFloatless, BoxesFloatless, labelled-floatless, boxes-floatless, spent-floatless, held-floatless, pruned-floatless, acts-floatless, no-insertions-floatless}
use Rattle.tb_laws.proofs.ClassesRise.ClassLines.{FloatKind, class_lines, lines-append}
use Rattle.tb_laws.proofs.ClassesRise.PageLines.{acts_lines, take_lines, deeds, takes-append, deeds-append, pruned-lines, pruned-takes, pruned-deeds, spent-lines, spent-takes, spent-deeds, lines-split, takes-split, deeds-split, without-acts-lines, without-acts-takes, without-acts-deeds, acts-of-lines, deeds-of, without-insertions-lines, without-insertions-takes, without-insertions-deeds, ins-lines, ins-takes, ins-deeds, AreEarly, AreEndless, append-none, none-front, early-back, early-join, early-pruned, ended-lines, early-spent, calm-endless, endless-take, endless-drop, endless-insertions, ins-endless}

-- ---- a page that fires

-- the lines of what waits are those of the page and of the rest; the acts that are reached take floats from its front
pub record FiredLines (k : FloatKind) (waiting : List PlainNode) (w : Reach) (f : Fired) : Type 0 where
  pub text : class_lines k waiting ≡ class_lines k f.body ++ class_lines k f.rest
  pub takes : take_lines k waiting ≡ acts_lines k (acted_of w.reached) ++ take_lines k f.rest
  pub does : deeds waiting ≡ acted_of w.reached ++ deeds f.rest
  pub rest : AreEarly k f.rest
  pub ended : int_lt f.penalty eject_penalty ≡ true → class_lines k f.rest ≡ []
  pub body : AreEndless f.body
  pub body_feet : HoldFloatless k f.body
  pub body_takes : take_lines k f.body ≡ []
  pub body_does : deeds f.body ≡ []
  pub boxes : BoxesFloatless k f.boxes
  pub feet : HoldFloatless k f.rest
  pub held : HoldFloatless k f.held
  pub held_text : class_lines k f.held ≡ []
  pub held_takes : take_lines k f.held ≡ []
  pub held_does : deeds f.held ≡ []
  pub held_endless : AreEndless f.held

module _ (k : FloatKind) (t : ℤ) (waiting : List PlainNode) (w : Reach) (cut : CutAt [] (pruned_nodes t waiting) w) (early : AreEarly k waiting) (feet : HoldFloatless k waiting) where
  passed_lines : class_lines k w.passed ≡ class_lines k cut.front
  passed_lines = ap (class_lines k) cut.passed ∙ without-acts-lines k cut.front

  text_is : class_lines k waiting ≡ class_lines k (without_insertions (take (page_break w).place w.passed)) ++ class_lines k (with_spent_break (from_break w))
  text_is =
      let a = take (page_break w).place w.passed in
      let b = drop (page_break w).place w.passed in
      sym (pruned-lines k t waiting) ∙ ap (class_lines k) cut.whole ∙ lines-append k cut.front w.beyond
      ∙ ap (λ l. l ++ class_lines k w.beyond) (sym passed_lines ∙ sym (lines-split k (page_break w).place w.passed))
      ∙ append_assoc (class_lines k a) (class_lines k b) (class_lines k w.beyond)
      ∙ ap (λ l. class_lines k a ++ l) (sym (lines-append k b w.beyond) ∙ sym (spent-lines k (from_break w)))
      ∙ ap (λ l. l ++ class_lines k (with_spent_break (from_break w))) (sym (without-insertions-lines k a))

  front_takes : take_lines k (take (page_break w).place w.passed) ≡ []
  front_takes =
      none-front (take_lines k (take (page_break w).place w.passed)) (take_lines k (drop (page_break w).place w.passed))
      (takes-split k (page_break w).place w.passed ∙ ap (take_lines k) cut.passed ∙ without-acts-takes k cut.front)

  front_deeds : deeds (take (page_break w).place w.passed) ≡ []
  front_deeds =
      none-front (deeds (take (page_break w).place w.passed)) (deeds (drop (page_break w).place w.passed))
      (deeds-split (page_break w).place w.passed ∙ ap (deeds) cut.passed ∙ without-acts-deeds cut.front)

  passed_takes : take_lines k (drop (page_break w).place w.passed) ≡ []
  passed_takes =
      append-none (take_lines k (take (page_break w).place w.passed)) (take_lines k (drop (page_break w).place w.passed))
      (takes-split k (page_break w).place w.passed ∙ ap (take_lines k) cut.passed ∙ without-acts-takes k cut.front)

  passed_deeds : deeds (drop (page_break w).place w.passed) ≡ []
  passed_deeds =
      append-none (deeds (take (page_break w).place w.passed)) (deeds (drop (page_break w).place w.passed))
      (deeds-split (page_break w).place w.passed ∙ ap (deeds) cut.passed ∙ without-acts-deeds cut.front)

  takes_are : take_lines k waiting ≡ acts_lines k (acted_of w.reached) ++ take_lines k (with_spent_break (from_break w))
  takes_are =
      sym (pruned-takes k t waiting) ∙ ap (take_lines k) cut.whole ∙ takes-append k cut.front w.beyond
      ∙ ap (λ l. l ++ take_lines k w.beyond) (acts-of-lines k cut.front ∙ ap (acts_lines k) (sym cut.acts))
      ∙ ap (λ l. acts_lines k (acted_of w.reached) ++ l) (sym (spent-takes k (from_break w) ∙ takes-append k (drop (page_break w).place w.passed) w.beyond ∙ ap (λ l. l ++ take_lines k w.beyond) passed_takes))

  deeds_are : deeds waiting ≡ (acted_of w.reached) ++ deeds (with_spent_break (from_break w))
  deeds_are =
      sym (pruned-deeds t waiting) ∙ ap (deeds) cut.whole ∙ deeds-append cut.front w.beyond
      ∙ ap (λ l. l ++ deeds w.beyond) (deeds-of cut.front ∙ sym cut.acts)
      ∙ ap (λ l. (acted_of w.reached) ++ l) (sym (spent-deeds (from_break w) ∙ deeds-append (drop (page_break w).place w.passed) w.beyond ∙ ap (λ l. l ++ deeds w.beyond) passed_deeds))

  passed_endless : AreEndless w.passed
  passed_endless = subst AreEndless (sym cut.passed) (calm-endless cut.front cut.calm)

  early_behind : AreEarly k (from_break w)
  early_behind =
      let all : AreEarly k (cut.front ++ w.beyond) = subst (AreEarly k) cut.whole (early-pruned k t waiting early) in
      early-join k (drop (page_break w).place w.passed) w.beyond (endless-drop (page_break w).place w.passed passed_endless) (early-back k cut.front w.beyond all)

  feet_passed : HoldFloatless k w.passed × HoldFloatless k w.beyond
  feet_passed =
      let all : HoldFloatless k (cut.front ++ w.beyond) = subst (HoldFloatless k) cut.whole (pruned-floatless k t waiting feet) in
      (subst (HoldFloatless k) (sym cut.passed) (acts-floatless k cut.front (all-front (λ (n : PlainNode). HoldsFloatless k n.kind) cut.front w.beyond all)), all-back (λ (n : PlainNode). HoldsFloatless k n.kind) cut.front w.beyond all)

  pub fired-lines : (c : List ℕ) (z : Frozen) (boxes : List Boxed) → BoxesFloatless k boxes → AllIns c (held_insertions (labelled z (take (page_break w).place w.passed))) → FiredLines k waiting w (fired_by (labelled z (take (page_break w).place w.passed)) boxes w)
  fired-lines c z boxes b i =
      let before = take (page_break w).place w.passed in
      let labels = labelled-floatless k z [] [] before tt (all-take (λ (n : PlainNode). HoldsFloatless k n.kind) (page_break w).place w.passed feet_passed.0) in
      record {
        text = text_is;
        takes = takes_are;
        does = deeds_are;
        rest = early-spent k (from_break w) early_behind;
        ended = λ e. ended-lines k (from_break w) early_behind e;
        body = endless-insertions before (endless-take (page_break w).place w.passed passed_endless);
        body_feet = no-insertions-floatless k before;
        body_takes = without-insertions-takes k before ∙ front_takes;
        body_does = without-insertions-deeds before ∙ front_deeds;
        boxes = boxes-floatless k (labelled z before) boxes labels b;
        feet = spent-floatless k (from_break w) (all-join (λ (n : PlainNode). HoldsFloatless k n.kind) (drop (page_break w).place w.passed) w.beyond (all-drop (λ (n : PlainNode). HoldsFloatless k n.kind) (page_break w).place w.passed feet_passed.0) feet_passed.1);
        held = held-floatless k (labelled z before) labels;
        held_text = ins-lines k c (held_insertions (labelled z before)) i;
        held_takes = ins-takes k c (held_insertions (labelled z before)) i;
        held_does = ins-deeds c (held_insertions (labelled z before)) i;
        held_endless = ins-endless c (held_insertions (labelled z before)) i;
      }

  -- if nothing lies beyond, the acts that are reached take all floats
  pub all-taken : w.beyond ≡ [] → take_lines k waiting ≡ acts_lines k (acted_of w.reached) ++ []
  all-taken e =
      sym (pruned-takes k t waiting) ∙ ap (take_lines k) cut.whole ∙ takes-append k cut.front w.beyond
      ∙ ap (λ l. l ++ take_lines k w.beyond) (acts-of-lines k cut.front ∙ ap (acts_lines k) (sym cut.acts))
      ∙ ap (λ ns. acts_lines k (acted_of w.reached) ++ take_lines k ns) e

  -- the acts that are reached are those before the stop
  pub all-done : deeds waiting ≡ acted_of w.reached ++ deeds w.beyond
  all-done = sym (pruned-deeds t waiting) ∙ ap deeds cut.whole ∙ deeds-append cut.front w.beyond ∙ ap (λ l. l ++ deeds w.beyond) (deeds-of cut.front ∙ sym cut.acts)
