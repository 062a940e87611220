use Rattle.std.proofs.Common.{◌≡◌, refl, ap, List}
use Rattle.tb_builder.specs.declared.ClassList.{ClassList}
use Rattle.tb_builder.specs.declared.Builder.{Builder}
use Rattle.tb_builder.specs.Ownership.{ids_of}
use Rattle.tb_builder.proofs.Handover.CopyLemmas.{contents-copied, sound-copied}
use Rattle.tb_builder.proofs.Builder.copy.Goals as goal

pub returns : goal.returns
returns c =
    let b = c.args.self.now in
    let copy : Builder = record {
      boxes = c.in_ok-copy.field-0;
      page = b.page;
      waiting = b.waiting;
      held = b.held;
      rest = b.rest;
      frozen = b.frozen;
      opened = b.opened;
      stopped = b.stopped;
      tried = b.tried;
      course = b.course;
    } in
    let items : c.in_ok-copy.field-0 ≡ b.boxes = c.in_ok-copy.ensures in
    let ids : ids_of copy ≡ ids_of b = ap (λ (es : List ClassList). record (ids_of b) { boxes = es }) items in
    record {
      ids = ids;
      contents = contents-copied b copy ids refl refl;
      sound = sound-copied b copy ids refl refl refl refl;
    }
