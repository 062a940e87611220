use Rattle.std.proofs.Common.{◌≡◌, ◌≤◌, ◌∙◌, sym, subst, length, OnOk, None, true, arith}
use Rattle.tb_galley.specs.GalleyReader.{takes_leaf}
use Rattle.tb_galley.proofs.FrequentLines.{no_first, box_step, glue_step, foot_step, endfoot_step}
use Rattle.tb_galley.proofs.galley_reader.LineReader.take.Goals as goal

pub returns-in-Some-clause-step : goal.returns-in-Some-clause-step
returns-in-Some-clause-step c =
    let s = c.args.self.now in
    let first : s.first ≡ None = no_first s (sym c.is_some.ensures ∙ c.if-is_some.false) in
    let free : takes_leaf s.phase s.count ≡ true = sym c.takes_leaf.ensures ∙ c.if-takes_leaf.true in
    let few : length c.args.line.now ≤ 255 = omega arith in
    subst (λ t. OnOk c.take_box.result (c.take_box.new.self ≡ t))
    (box_step s first free c.args.line.now few c.in-Some.sized c.in-Some.ensures) c.take_box.ensures.step

pub returns-in-Some-read_glue-clause-step : goal.returns-in-Some-read_glue-clause-step
returns-in-Some-read_glue-clause-step c =
    let s = c.args.self.now in
    let first : s.first ≡ None = no_first s (sym c.is_some.ensures ∙ c.if-is_some.false) in
    let free : takes_leaf s.phase s.count ≡ true = sym c.takes_leaf.ensures ∙ c.if-takes_leaf.true in
    let few : length c.args.line.now ≤ 255 = omega arith in
    subst (λ t. OnOk c.take_glue.result (c.take_glue.new.self ≡ t))
    (glue_step s first free c.args.line.now few c.in-Some-read_glue.glue c.in-Some-read_glue.ensures) c.take_glue.ensures.step

pub returns-then-begins_foot-clause-step : goal.returns-then-begins_foot-clause-step
returns-then-begins_foot-clause-step c =
    let s = c.args.self.now in
    let first : s.first ≡ None = no_first s (sym c.is_some.ensures ∙ c.if-is_some.false) in
    let free : takes_leaf s.phase s.count ≡ true = sym c.takes_leaf.ensures ∙ c.if-takes_leaf.true in
    let begun = c.begins_foot.ensures c.if-begins_foot.true in
    c.take_foot.ensures.step ∙ foot_step s first free c.args.line.now begun.0 begun.1

pub returns-then-ends_foot-clause-step : goal.returns-then-ends_foot-clause-step
returns-then-ends_foot-clause-step c =
    let s = c.args.self.now in
    let first : s.first ≡ None = no_first s (sym c.is_some.ensures ∙ c.if-is_some.false) in
    let free : takes_leaf s.phase s.count ≡ true = sym c.takes_leaf.ensures ∙ c.if-takes_leaf.true in
    let over = c.ends_foot.ensures c.if-ends_foot.true in
    subst (λ t. OnOk c.take_endfoot.result (c.take_endfoot.new.self ≡ t)) (endfoot_step s first free c.args.line.now over.0 over.1) c.take_endfoot.ensures.step
