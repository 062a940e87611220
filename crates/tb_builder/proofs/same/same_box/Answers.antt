use Rattle.tb_builder.proofs.SameLemmas.{same_flags, same_boxed, same_content}
use Rattle.tb_builder.proofs.same.same_box.Goals as goal

pub returns : goal.returns
returns c =
    let s = c.args.store.now in
    let t = c.args.other_store.now in
    let e = c.args.entry.now in
    let d = c.args.other.now in (
      λ yes. same_boxed s t e d c.if-entry-other.false (same_flags e.void d.void c.if-entry-other-2.false) (c.same_lists.ensures.0 yes),
      λ same. c.same_lists.ensures.1 (same_content s t e d c.requires.void c.requires.other_void c.requires.plain c.requires.other_plain same),
    )
