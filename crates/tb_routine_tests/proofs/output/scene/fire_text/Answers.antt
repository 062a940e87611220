use Rattle.std.proofs.Common.{◌≡◌, refl, sym, subst, ap, ◌∙◌, ℕ, ℤ, ◌≤◌, None, List, length}
use Rattle.std.specs.FinMap.{get}
use Rattle.tb_pool.specs.Lists.{list_at}
use Rattle.tb_insert.specs.declared.Class.{Class}
use Rattle.tb_builder.specs.Contents.{contents_of, nothing_yet}
use Rattle.tb_builder.specs.Ownership.{ClassesFit}
use Rattle.tb_column.specs.Page.{IsPageList}
use Rattle.tb_routine_tests.specs.Scenes.{scene_classes, IsReady}
use Rattle.tb_routine_tests.proofs.SceneLemmas.{classes-fit, scene-stays, may-fire}
use Rattle.tb_routine_tests.proofs.output.scene.fire_text.Goals as goal

pub new_builder-requires : goal.new_builder-requires
new_builder-requires c = subst (λ (cs : List Class). ClassesFit cs) (sym c.classes.ensures) classes-fit

pub returns-in_err-body : goal.returns-in_err-body
returns-in_err-body c = scene-stays c.args.machine.now c.args.store.now c.text_list.new.store c.requires c.text_list.ensures.others

pub returns-in_err-builder : goal.returns-in_err-builder
returns-in_err-builder c =
    scene-stays c.args.machine.now c.text_list.new.store c.new_builder.new.store (scene-stays c.args.machine.now c.args.store.now c.text_list.new.store c.requires c.text_list.ensures.others) c.new_builder.ensures.others

pub fire_over-requires-clause-scene : goal.fire_over-requires-clause-scene
fire_over-requires-clause-scene c =
    scene-stays c.args.machine.now c.text_list.new.store c.new_builder.new.store (scene-stays c.args.machine.now c.args.store.now c.text_list.new.store c.requires c.text_list.ensures.others) c.new_builder.ensures.others

pub fire_over-requires-clause-page : goal.fire_over-requires-clause-page
fire_over-requires-clause-page c =
    let body = sym c.page_of.ensures.body in
    let nothing : contents_of c.in_ok-builder.builder c.new_builder.new.store ≡ nothing_yet scene_classes = c.in_ok-builder.ensures.contents ∙ ap (λ (cs : List Class). nothing_yet cs) c.classes.ensures in
    may-fire c.args.machine.now c.in_ok-builder.builder c.args.store.now c.text_list.new.store c.new_builder.new.store c.page_of.result c.requires c.text_list.ensures.others c.new_builder.ensures.others nothing
    (subst (λ (z : ℤ). IsReady c.args.machine.now c.args.store.now z) (sym c.page_of.ensures.penalty) (c.if-not-is_ready.ensures refl))
    (subst (λ (q : ℕ). IsPageList c.text_list.new.store q) body c.in_ok-body.ensures.page)
    (subst (λ (q : ℕ). length (list_at c.text_list.new.store q) ≤ 201) body c.in_ok-body.ensures.few)
    (subst (λ (q : ℕ). get c.args.store.now.lists q ≡ None) body c.in_ok-body.ensures.fresh)
    c.in_ok-builder.ensures.fresh c.page_of.ensures.shrink
