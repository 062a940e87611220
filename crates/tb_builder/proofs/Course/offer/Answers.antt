use Rattle.std.proofs.Common.{◌∙◌, ap, sym, subst, FitsSigned, w64, rules}
use Rattle.std.proofs.lemmas.Int.{to_z-of_z}
use Rattle.tb_node.specs.SmallAmounts.{IsAmount}
use Rattle.tb_break.specs.declared.Offer.{Offer}
use Rattle.tb_builder.specs.CourseOffers.{MarksBest}
use Rattle.tb_builder.proofs.LegalPlaces.CourseLemmas.{course_offered, made_is}
use Rattle.tb_builder.proofs.Course.offer.Goals as goal

pub offer-offer-requires-clause-goal : goal.offer-offer-requires-clause-goal
offer-offer-requires-clause-goal c =
    let g : FitsSigned w64 c.goal-goal.result = search rules in
    let f = c.requires.terms in
    subst IsAmount (sym (to_z-of_z w64 c.goal-goal.result g ∙ c.goal-goal.ensures f.z f.page f.marked f.account)) f.goal

pub offer-offer-requires-clause-inserts : goal.offer-offer-requires-clause-inserts
offer-offer-requires-clause-inserts c =
    let q : FitsSigned w64 c.penalties.result = search rules in
    let f = c.requires.terms in
    subst IsAmount (sym (to_z-of_z w64 c.penalties.result q ∙ c.penalties.ensures f.z f.page f.marked f.account)) f.penalties

pub returns : goal.returns
returns c = λ z page bs h i.
    let p : FitsSigned w64 c.args.penalty = c.ranges.penalty in
    let g : FitsSigned w64 c.goal-goal.result = search rules in
    let q : FitsSigned w64 c.penalties.result = search rules in
    let value = simp to_z-of_z at c.offer-offer.ensures.value in
    let kept = simp to_z-of_z at c.offer-offer.ensures.kept in
    let made = simp to_z-of_z at c.made_try.ensures in
    let marks = simp to_z-of_z at c.mark_if.ensures.marks in
    let m = marks z page in
    let goal_is = c.goal-goal.ensures z page h.marked h.account in
    let pens_is = c.penalties.ensures z page h.marked h.account in
    let test = ap (λ (o : Offer). o.champion) value in
    let scan = c.mark_if.ensures.scan ∙ kept in
    let mm : MarksBest z c.args.self.now c.mark_if.new.self page c.offer-offer.result.champion c.goal-goal.result = record { taken = m.taken; goal_is = m.goal_is; kept = m.kept; goal_kept = m.goal_kept } in
    record {
      made = made_is z c.args.self.now c.mark_if.new.self page bs c.args.penalty c.goal-goal.result c.penalties.result c.args.index c.offer-offer.result.champion h c.requires.legal i goal_is pens_is test scan mm c.mark_if.ensures.lasting c.made_try.result c.args.line c.offer-offer.result c.sums-sums.result c.sums-sums.ensures.value value made;
      course = course_offered z c.args.self.now c.mark_if.new.self page bs c.args.penalty c.goal-goal.result c.penalties.result c.args.index c.offer-offer.result.champion h c.requires.legal i goal_is pens_is test scan mm c.mark_if.ensures.lasting;
    }
