use Rattle.std.proofs.Common.{◌≡◌, ◌≤◌, ◌∙◌, ap, sym, subst, length, OnOk, true, rules, FitsSigned, w64, to_z, of_z, arith}
use Rattle.std.proofs.lemmas.Int.{to_z-of_z}
use Rattle.tb_galley.specs.declared.LeafKind.TheVariants as leaves
use Rattle.tb_galley.specs.GalleyReader.{takes_leaf, takes_item, takes_setting, bare_item, with_leaf}
use Rattle.tb_galley.proofs.BareLines.{skipped_step}
use Rattle.tb_galley.proofs.FrequentLines.{kern_step, penalty_step, bare_step, float_step, margin_step, class_foot_step, set_step}
use Rattle.tb_galley.proofs.galley_reader.LineReader.take_less_frequent.Goals as goal

pub returns-then-says_nothing-clause-step : goal.returns-then-says_nothing-clause-step
returns-then-says_nothing-clause-step c =
    let few : length c.args.line.now ≤ 255 = omega arith in
    skipped_step c.args.self.now c.requires.first c.args.line.now few (c.says_nothing.ensures c.if-says_nothing.true)

pub returns-in-Some-clause-step : goal.returns-in-Some-clause-step
returns-in-Some-clause-step c =
    let s = c.args.self.now in
    let free : takes_leaf s.phase s.count ≡ true = sym c.takes_leaf.ensures ∙ c.if-takes_leaf.true in
    let few : length c.args.line.now ≤ 255 = omega arith in
    let fits : FitsSigned w64 c.in-Some.width = search rules in
    let same : to_z w64 (of_z w64 c.in-Some.width) ≡ c.in-Some.width = simp to_z-of_z in
    subst (λ t. OnOk c.take_leaf.result (c.take_leaf.new.self ≡ t))
    (ap (λ v. with_leaf s (leaves.Kern v)) same ∙ kern_step s c.requires.first free c.args.line.now few c.in-Some.width c.in-Some.ensures) c.take_leaf.ensures.step

pub returns-in-Some-read_penalty-clause-step : goal.returns-in-Some-read_penalty-clause-step
returns-in-Some-read_penalty-clause-step c =
    let s = c.args.self.now in
    let free : takes_leaf s.phase s.count ≡ true = sym c.takes_leaf.ensures ∙ c.if-takes_leaf.true in
    let few : length c.args.line.now ≤ 255 = omega arith in
    let fits : FitsSigned w64 c.in-Some-read_penalty.penalty = search rules in
    let same : to_z w64 (of_z w64 c.in-Some-read_penalty.penalty) ≡ c.in-Some-read_penalty.penalty = simp to_z-of_z in
    let taken = c.take_leaf-in-Some-read_penalty in
    subst (λ t. OnOk taken.result (taken.new.self ≡ t))
    (ap (λ v. with_leaf s (leaves.Penalty v)) same ∙ penalty_step s c.requires.first free c.args.line.now few c.in-Some-read_penalty.penalty c.in-Some-read_penalty.ensures) taken.ensures.step

pub returns-in-Some-read_bare_word-clause-step : goal.returns-in-Some-read_bare_word-clause-step
returns-in-Some-read_bare_word-clause-step c =
    let s = c.args.self.now in
    let free : takes_leaf s.phase s.count ≡ true = sym c.takes_leaf.ensures ∙ c.if-takes_leaf.true in
    let bare = c.in-Some-read_bare_word.ensures in
    subst (λ t. OnOk c.take_bare_item.result (c.take_bare_item.new.self ≡ t)) (bare_step s c.requires.first free c.args.line.now (bare_item c.in-Some-read_bare_word.word) bare.phase bare.line) c.take_bare_item.ensures.step

pub returns-in-Some-read_float-clause-step : goal.returns-in-Some-read_float-clause-step
returns-in-Some-read_float-clause-step c =
    let s = c.args.self.now in
    let free : takes_item s.phase s.count ≡ true = sym c.takes_item.ensures ∙ c.if-takes_item.true in
    let few : length c.args.line.now ≤ 255 = omega arith in
    let taken = c.take_item in
    subst (λ t. OnOk taken.result (taken.new.self ≡ t))
    (float_step s c.requires.first free c.args.line.now few (c.in-Some-read_float.float, c.in-Some-read_float.vert) c.in-Some-read_float.ensures) taken.ensures.step

pub returns-in-Some-read_margin-clause-step : goal.returns-in-Some-read_margin-clause-step
returns-in-Some-read_margin-clause-step c =
    let s = c.args.self.now in
    let free : takes_item s.phase s.count ≡ true = sym c.takes_item.ensures ∙ c.if-takes_item.true in
    let few : length c.args.line.now ≤ 255 = omega arith in
    let taken = c.take_item-in-Some-read_margin in
    subst (λ t. OnOk taken.result (taken.new.self ≡ t))
    (margin_step s c.requires.first free c.args.line.now few (c.in-Some-read_margin.margin, c.in-Some-read_margin.vert) c.in-Some-read_margin.ensures) taken.ensures.step

pub returns-in-Some-read_foot-clause-step : goal.returns-in-Some-read_foot-clause-step
returns-in-Some-read_foot-clause-step c =
    let s = c.args.self.now in
    let free : takes_item s.phase s.count ≡ true = sym c.takes_item.ensures ∙ c.if-takes_item.true in
    let few : length c.args.line.now ≤ 255 = omega arith in
    c.take_foot.ensures.step ∙ class_foot_step s c.requires.first free c.args.line.now few c.in-Some-read_foot.class c.in-Some-read_foot.ensures

pub returns-in-Some-read_setting-clause-step : goal.returns-in-Some-read_setting-clause-step
returns-in-Some-read_setting-clause-step c =
    let s = c.args.self.now in
    let free : takes_setting s.phase s.count ≡ true = sym c.takes_setting.ensures ∙ c.if-takes_setting.true in
    let few : length c.args.line.now ≤ 255 = omega arith in
    subst (λ t. OnOk c.take_setting.result (c.take_setting.new.self ≡ t))
    (set_step s c.requires.first free c.args.line.now few c.in-Some-read_setting.field c.in-Some-read_setting.value c.in-Some-read_setting.ensures) c.take_setting.ensures.step
