use Rattle.std.proofs.Common.{◌∙◌, sym}
use Rattle.tb_builder.specs.Ownership.{ids_of, box_ids, inner_ids, nodes_of}
use Rattle.tb_builder.proofs.Ownership.OwnedLemmas.{live-left}
use Rattle.tb_builder.proofs.LegalPlaces.ClassLemmas.{list_live}
use Rattle.tb_builder.proofs.Handover.BoxLemmas.{any_box}
use Rattle.tb_builder.proofs.Builder.holds_box.Goals as goal

pub has_box-requires : goal.has_box-requires
has_box-requires c =
    list_live c.args.store.now c.args.self.now.boxes c.args.class c.class_list.result c.class_list.ensures
    (live-left c.args.store.now (box_ids c.args.self.now.boxes) (inner_ids (nodes_of (ids_of c.args.self.now) c.args.store.now)) c.requires.sound.own.live.1.1.1.1)

pub returns : goal.returns
returns c = c.has_box.ensures ∙ sym (any_box c.args.store.now c.args.self.now.boxes c.args.class c.class_list.result c.class_list.ensures c.requires.sound.own.void_empty)
