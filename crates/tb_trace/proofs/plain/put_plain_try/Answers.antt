use Rattle.std.proofs.Common.{◌≡◌, ◌∙◌, ap, sym, subst, append_assoc, append-nil, ◌++◌, ◌-◌, take, drop, length}
use Rattle.std.proofs.lemmas.List.{length-drop}
use Rattle.std.proofs.Math.Seq.{take-length}
use Rattle.tb_text.specs.Fronts.{PutsAfter}
use Rattle.tb_trace.specs.Parts.{end_text}
use Rattle.tb_trace.specs.Plain.{sums_text, costs_text}
use Rattle.tb_trace.proofs.plain.put_plain_try.Goals as goal

pub returns : goal.returns
returns c =
    let start = c.write_sums-start.result in
    let text = c.write_sums-start.new.text in
    let end = c.write_end-at.ensures.written ∙ append-nil (end_text c.args.champion) in
    let costs = c.write_costs-at.ensures.written ∙ ap (λ x. costs_text c.args.costs.now ++ x) end in
    let sums = c.write_sums-start.ensures.written ∙ ap (λ x. sums_text c.args.sums.now ++ x) costs in
    let all : length (drop start text) ≡ 256 - start = length-drop start text ∙ ap (λ k. k - start) (c.write_sums-start.ensures.same ∙ c.write_costs-at.ensures.same ∙ c.write_end-at.ensures.same) in
    subst (λ x. PutsAfter c.put.result c.args.out.now.items x c.put.new.out.items) (ap (λ k. take k (drop start text)) (sym all) ∙ take-length (drop start text) ∙ sums ∙ sym (append_assoc (sums_text c.args.sums.now) (costs_text c.args.costs.now) (end_text c.args.champion))) c.put.ensures
