use Rattle.std.proofs.Common.{◌≡◌, refl, ap, List}
use Rattle.std.specs.Prelude.{is_none}
use Rattle.tb_builder.specs.declared.ClassList.{ClassList}
use Rattle.tb_builder.specs.declared.Builder.{Builder}
use Rattle.tb_builder.specs.Ownership.{ids_of}
use Rattle.tb_builder.proofs.Handover.CopyLemmas.{contents-copied, sound-copied, sound-unfrozen}
use Rattle.tb_builder.proofs.Builder.copy_from.Goals as goal

pub returns-in_default : goal.returns-in_default
returns-in_default c =
    let b = c.args.other.now in
    let copy : Builder = record b { boxes = c.copy_from.new.self; course = record c.args.self.now.course { lasting = b.course.lasting } } in
    let items : c.copy_from.new.self ≡ b.boxes = c.in_ok-copy_from.ensures in
    let ids : ids_of copy ≡ ids_of b = ap (λ (es : List ClassList). record (ids_of b) { boxes = es }) items in
    record {
      ids = ids;
      contents = contents-copied b copy ids refl refl;
      sound = sound-unfrozen b copy ids refl refl refl (ap (λ o. is_none o) c.in_default.is) refl;
    }

pub returns : goal.returns
returns c =
    let b = c.args.other.now in
    let copy : Builder = record b { boxes = c.copy_from.new.self } in
    let items : c.copy_from.new.self ≡ b.boxes = c.in_ok-copy_from.ensures in
    let ids : ids_of copy ≡ ids_of b = ap (λ (es : List ClassList). record (ids_of b) { boxes = es }) items in
    record {
      ids = ids;
      contents = contents-copied b copy ids refl refl;
      sound = sound-copied b copy ids refl refl refl refl;
    }
