use Rattle.std.proofs.Common.{◌≡◌, ◌∙◌, sym, subst, ap, List, refl, FitsSigned, w64, rules, to_z, of_z}
use Rattle.std.proofs.lemmas.Int.{to_z-of_z}
use Rattle.tb_builder.specs.Contents.{nothing_yet}
use Rattle.tb_builder.specs.Ownership.{ClassesFit}
use Rattle.tb_items.specs.WaitingNodes.{AreItems}
use Rattle.tb_galley.specs.declared.Item.{Item}
use Rattle.tb_plain.specs.GalleyNodes.{made_up}
use Rattle.tb_plain.specs.Run.{makeup_classes}
use Rattle.tb_makeup.proofs.FromGalley.BeginLemmas.{begin-state, begin-ready}
use Rattle.tb_makeup.proofs.Filled.FillLemmas.{classes-fit}
use Rattle.tb_makeup.proofs.makeup.Makeup.new.Goals as goal

pub new_builder-requires : goal.new_builder-requires
new_builder-requires c = subst ClassesFit (sym (c.as_slice.ensures.value ∙ c.in_ok-classes.ensures)) (classes-fit c.args.galley.now.params c.requires.params.makeup)

pub returns-clause-state : goal.returns-clause-state
returns-clause-state c =
    let holds = c.in_ok-builder.ensures.contents ∙ ap nothing_yet (c.as_slice.ensures.value ∙ c.in_ok-classes.ensures) in
    begin-state c.args.galley.now.params c.in_ok-builder.builder c.new_builder.new.store c.new_plain.result c.makeup_ask.result (to_z w64 (of_z w64 c.args.galley.now.params.maxnodes)) (record { most = 7500000; acts = c.act_count.result }) c.all_left.result (made_up c.args.galley.now) holds c.all_left.ensures.nodes c.new_plain.ensures.params c.new_plain.ensures.page

pub returns-clause-ready : goal.returns-clause-ready
returns-clause-ready c =
    let holds = c.in_ok-builder.ensures.contents ∙ ap nothing_yet (c.as_slice.ensures.value ∙ c.in_ok-classes.ensures) in
    let f : FitsSigned w64 c.args.galley.now.params.maxnodes = search rules in
    let limit : to_z w64 (of_z w64 c.args.galley.now.params.maxnodes) ≡ c.args.galley.now.params.maxnodes = simp to_z-of_z refl in
    begin-ready c.args.galley.now.params c.in_ok-builder.builder c.new_builder.new.store c.new_plain.result c.makeup_ask.result (to_z w64 (of_z w64 c.args.galley.now.params.maxnodes)) (record { most = 7500000; acts = c.act_count.result }) c.all_left.result (made_up c.args.galley.now) holds c.all_left.ensures.nodes c.new_plain.ensures.params c.new_plain.ensures.page
    c.in_ok-builder.ensures.sound (subst (λ (is : List Item). AreItems (makeup_classes c.args.galley.now.params) is) (sym c.all_left.ensures.items) c.requires.items) c.new_plain.ensures.plain c.makeup_ask.ensures limit c.requires.params c.requires.nodes c.requires.few refl c.act_count.ensures
