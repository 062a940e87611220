use Rattle.std.proofs.Common.{◌≡◌, refl, ap, [], ◌∷◌, arith}
use Rattle.std.proofs.lemmas.List.Elements.{All-nil, All-cons}
use Rattle.tb_pool.specs.Lists.{list_at}
use Rattle.tb_node.specs.PlainNodes.{plain_of}
use Rattle.tb_builder.specs.Contents.{Contents, contents_of, kind_count}
use Rattle.tb_builder.specs.WorkedPages.{IsMatter}
use Rattle.tb_builder.proofs.Ownership.FrameLemmas.{empty_may_wait}
use Rattle.tb_builder.proofs.WorkedPages.WorkedLemmas.{ready_more, waits_more, note_sound, note_ready, note_waits, note_joins, note_sized, note_counts, extent_of, penalty_of}
use Rattle.tb_page_tests.proofs.PlainLemmas.{box_size}
use Rattle.tb_page_tests.proofs.plain.give_note.Goals as goal

pub contribute-requires-clause-sound : goal.contribute-requires-clause-sound
contribute-requires-clause-sound c =
    let n = c.make_box-inner.result in
    note_sound c.args.p.now.builder c.args.p.now.store c.node_list.new.store c.in_ok-list.list (n ∷ []) c.args.p.now.ask c.requires.ready c.in_ok-list.ensures.fresh c.in_ok-list.ensures.made c.node_list.ensures.others
    (All-cons IsMatter n [] c.make_box-inner.ensures.matter (All-nil IsMatter))

pub contribute-requires-clause-joins : goal.contribute-requires-clause-joins
contribute-requires-clause-joins c =
    let n = c.make_box-inner.result in
    note_joins c.args.p.now.builder c.args.p.now.store c.node_list.new.store c.in_ok-list.list (n ∷ []) c.args.p.now.ask c.requires.ready c.in_ok-list.ensures.fresh c.in_ok-list.ensures.made c.node_list.ensures.others
    (All-cons IsMatter n [] c.make_box-inner.ensures.matter (All-nil IsMatter)) c.make_node-node.result _ c.make_node-node.ensures refl refl

pub contribute-requires-clause-may_wait : goal.contribute-requires-clause-may_wait
contribute-requires-clause-may_wait c =
    let n = c.make_box-inner.result in
    empty_may_wait (contents_of c.args.p.now.builder c.node_list.new.store) (plain_of (list_at c.node_list.new.store) c.make_node-node.result)
    (note_ready c.args.p.now.builder c.args.p.now.store c.node_list.new.store c.in_ok-list.list (n ∷ []) c.args.p.now.ask c.requires.ready c.in_ok-list.ensures.fresh c.in_ok-list.ensures.made c.node_list.ensures.others
    (All-cons IsMatter n [] c.make_box-inner.ensures.matter (All-nil IsMatter))).rest.no_page

pub returns-clause-ready : goal.returns-clause-ready
returns-clause-ready c =
    let n = c.make_box-inner.result in
    let b = c.args.p.now.builder in
    let t = c.node_list.new.store in
    let matter = All-cons IsMatter n [] c.make_box-inner.ensures.matter (All-nil IsMatter) in
    let m = plain_of (list_at t) c.make_node-node.result in
    let w = note_waits c.args.p.now.builder c.args.p.now.store c.node_list.new.store c.in_ok-list.list (n ∷ []) c.args.p.now.ask c.requires.ready c.in_ok-list.ensures.fresh c.in_ok-list.ensures.made c.node_list.ensures.others matter in
    let k : kind_count m.kind ≡ 2 = note_counts c.args.p.now.builder c.args.p.now.store c.node_list.new.store c.in_ok-list.list (n ∷ []) c.args.p.now.ask c.requires.ready c.in_ok-list.ensures.fresh c.in_ok-list.ensures.made c.node_list.ensures.others matter c.make_node-node.result _ c.make_node-node.ensures refl refl in
    let room = c.requires.room in
    let h = box_size t c.in_ok-list.list n _ _ c.in_ok-list.ensures.made c.make_box-inner.ensures.kind in
    ready_more b c.contribute.new.self t c.contribute.new.store m c.in_ok-contribute.ensures.contents c.args.p.now.ask
    (note_ready c.args.p.now.builder c.args.p.now.store c.node_list.new.store c.in_ok-list.list (n ∷ []) c.args.p.now.ask c.requires.ready c.in_ok-list.ensures.fresh c.in_ok-list.ensures.made c.node_list.ensures.others matter)
    c.contribute.ensures.sound
    (note_sized c.args.p.now.builder c.args.p.now.store c.node_list.new.store c.in_ok-list.list (n ∷ []) c.args.p.now.ask c.requires.ready c.in_ok-list.ensures.fresh c.in_ok-list.ensures.made c.node_list.ensures.others matter c.make_node-node.result _ c.make_node-node.ensures refl refl h (extent_of 0 (omega arith)) (extent_of 10 (omega arith)) (penalty_of 20000 (omega arith)))
    (omega (arith, w, k, room))

pub returns-clause-classes : goal.returns-clause-classes
returns-clause-classes c = ap (λ (x : Contents). x.classes) c.in_ok-contribute.ensures.contents

pub returns-clause-count : goal.returns-clause-count
returns-clause-count c =
    let n = c.make_box-inner.result in
    let t = c.node_list.new.store in
    let matter = All-cons IsMatter n [] c.make_box-inner.ensures.matter (All-nil IsMatter) in
    let m = plain_of (list_at t) c.make_node-node.result in
    let w = note_waits c.args.p.now.builder c.args.p.now.store c.node_list.new.store c.in_ok-list.list (n ∷ []) c.args.p.now.ask c.requires.ready c.in_ok-list.ensures.fresh c.in_ok-list.ensures.made c.node_list.ensures.others matter in
    let k : kind_count m.kind ≡ 2 = note_counts c.args.p.now.builder c.args.p.now.store c.node_list.new.store c.in_ok-list.list (n ∷ []) c.args.p.now.ask c.requires.ready c.in_ok-list.ensures.fresh c.in_ok-list.ensures.made c.node_list.ensures.others matter c.make_node-node.result _ c.make_node-node.ensures refl refl in
    let more = waits_more c.args.p.now.builder c.contribute.new.self t c.contribute.new.store m c.in_ok-contribute.ensures.contents in
    omega (arith, w, k, more)
