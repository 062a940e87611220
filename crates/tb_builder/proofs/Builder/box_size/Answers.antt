use Rattle.std.proofs.Common.{◌∙◌, sym, FitsSigned, w64, rules}
use Rattle.std.proofs.lemmas.Int.{to_z-of_z}
use Rattle.tb_builder.specs.Ownership.{ids_of, box_ids, inner_ids, nodes_of}
use Rattle.tb_builder.proofs.Ownership.OwnedLemmas.{live-left}
use Rattle.tb_builder.proofs.LegalPlaces.ClassLemmas.{list_live, size_found}
use Rattle.tb_builder.proofs.Handover.BoxLemmas.{sizes_fit, size_is, void_empty_is}
use Rattle.tb_builder.proofs.Builder.box_size.Goals as goal

pub list_size-requires-clause-live : goal.list_size-requires-clause-live
list_size-requires-clause-live c =
    list_live c.args.store.now c.args.self.now.boxes c.args.class c.class_list.result c.class_list.ensures
    (live-left c.args.store.now (box_ids c.args.self.now.boxes) (inner_ids (nodes_of (ids_of c.args.self.now) c.args.store.now)) c.requires.sound.own.live.1.1.1.1)

pub list_size-requires-clause-fits : goal.list_size-requires-clause-fits
list_size-requires-clause-fits c = sizes_fit c.args.store.now c.args.self.now.boxes c.args.class c.class_list.result c.class_list.ensures c.requires.sound.own.void_empty c.requires.fits

pub returns : goal.returns
returns c =
    let r : FitsSigned w64 c.list_size.result = search rules in
    to_z-of_z w64 c.list_size.result r ∙ c.list_size.ensures
    ∙ sym (size_found c.args.store.now c.class_list.result (void_empty_is c.args.store.now c.args.self.now.boxes c.args.class c.class_list.result c.class_list.ensures c.requires.sound.own.void_empty))
    ∙ sym (size_is c.args.store.now c.args.self.now.boxes c.args.class c.class_list.result c.class_list.ensures c.requires.sound.own.void_empty)
