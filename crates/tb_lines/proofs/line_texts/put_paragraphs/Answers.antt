use Rattle.std.proofs.Common.{refl, sym, subst, get_or}
use Rattle.tb_lines.specs.declared.text.Paragraph.{Paragraph}
use Rattle.tb_lines.specs.LeastSolution.{IsLeastOf}
use Rattle.tb_lines.proofs.WriteSteps.{least_next, paragraphs_more, paragraphs_done}
use Rattle.tb_lines.proofs.line_texts.put_paragraphs.Goals as goal

pub loop-n-init : goal.loop-n-init
loop-n-init c = record { text = refl; least = c.requires }

pub put_paragraph-requires : goal.put_paragraph-requires
put_paragraph-requires c =
    let p = c.index-paragraphs-n.result in
    let s = c.index-solutions-n.result in
    let next = least_next c.args.params.now c.args.paragraphs.now c.args.solutions.now c.loop-n.n p s c.loop-n-test.true c.loop-n.invariant.least in
    subst (λ (x : Paragraph). IsLeastOf c.args.params.now x.items s) (sym c.index-paragraphs-n.is) (subst (λ x. IsLeastOf c.args.params.now (get_or c.args.paragraphs.now c.loop-n.n p).items x) (sym c.index-solutions-n.is) next.1)

pub loop-n-preserved : goal.loop-n-preserved
loop-n-preserved c =
    paragraphs_more c.args.params.now c.args.paragraphs.now c.args.solutions.now c.args.out.now.items c.loop-n.n _ c.index-paragraphs-n.result _ c.index-solutions-n.result c.loop-n.above c.in_ok-above.above c.loop-n.out.items c.put_paragraph.new.out.items
    c.loop-n-test.true c.index-paragraphs-n.is c.index-solutions-n.is c.loop-n.invariant c.in_ok-above.ensures.0 c.in_ok-above.ensures.1

pub returns : goal.returns
returns c = paragraphs_done c.args.params.now c.args.paragraphs.now c.args.solutions.now c.args.out.now.items c.loop-n.n c.loop-n.above c.loop-n.out.items c.loop-n-test.false c.loop-n.invariant
