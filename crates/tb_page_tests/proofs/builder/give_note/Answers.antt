use Rattle.std.proofs.Common.{◌≡◌, ◌∙◌, refl, ap, sym, subst, [], length, unwrap_or, FitsSigned, w64, rules, arith}
use Rattle.std.specs.Prelude.{All}
use Rattle.std.proofs.lemmas.Int.{to_z-of_z}
use Rattle.tb_pool.specs.Lists.{list_at}
use Rattle.tb_node.specs.PlainNodes.{plain_of}
use Rattle.tb_node.specs.Fit.{IsSizedNode}
use Rattle.tb_builder.specs.declared.Builder.{Builder}
use Rattle.tb_builder.specs.Contents.{contents_of}
use Rattle.tb_builder.specs.Ownership.{ids_of, owned}
use Rattle.tb_builder.specs.WorkedPages.{IsReady, waits}
use Rattle.tb_builder.proofs.Ownership.SpareLemmas.{sound_still, contents_still}
use Rattle.tb_builder.proofs.Ownership.FrameLemmas.{live_all_same, frame_sound, frame_contents, empty_may_wait}
use Rattle.tb_builder.proofs.WorkedPages.WorkedLemmas.{ready_still, waits_still, ready_more, waits_more, note_sound, note_ready, note_waits, matter_sized, note_joins, note_sized, note_counts, note_room, note_count, same_count, extent_of, penalty_of}
use Rattle.tb_page_tests.proofs.builder.give_note.Goals as goal

pub returns-in_err-list-clause-ready : goal.returns-in_err-list-clause-ready
returns-in_err-list-clause-ready c =
    let b = c.args.p.now.builder in
    let s = c.args.p.now.store in
    let t = c.make_list.new.store in
    let sound = c.requires.ready.rest.sound in
    let same = live_all_same s t (owned (ids_of b) s) c.make_list.ensures.others sound.own.live in
    ready_still b s t (frame_sound b s t sound same) (frame_contents b s t sound same) c.args.p.now.ask c.requires.ready

pub returns-in_err-list-clause-count : goal.returns-in_err-list-clause-count
returns-in_err-list-clause-count c =
    let b = c.args.p.now.builder in
    let s = c.args.p.now.store in
    let t = c.make_list.new.store in
    let sound = c.requires.ready.rest.sound in
    let same = live_all_same s t (owned (ids_of b) s) c.make_list.ensures.others sound.own.live in
    let k : waits b t ≡ waits b s = waits_still b s t (frame_sound b s t sound same) (frame_contents b s t sound same) in
    same_count _ _ (length c.args.nodes.now) k

pub list_size-height-requires-clause-sized : goal.list_size-height-requires-clause-sized
list_size-height-requires-clause-sized c = subst (All IsSizedNode) (sym (ap (λ o. unwrap_or o []) c.in_ok-list.ensures.made)) (matter_sized c.args.nodes.now c.requires.matter)

pub list_size-height-requires-clause-few : goal.list_size-height-requires-clause-few
list_size-height-requires-clause-few c = let e = ap (λ o. length (unwrap_or o [])) c.in_ok-list.ensures.made in omega (arith, e, c.requires.room)

pub contribute-requires-clause-sound : goal.contribute-requires-clause-sound
contribute-requires-clause-sound c = note_sound c.args.p.now.builder c.args.p.now.store c.make_list.new.store c.in_ok-list.list c.args.nodes.now c.args.p.now.ask c.requires.ready c.in_ok-list.ensures.fresh c.in_ok-list.ensures.made c.make_list.ensures.others c.requires.matter

pub contribute-requires-clause-joins : goal.contribute-requires-clause-joins
contribute-requires-clause-joins c = note_joins c.args.p.now.builder c.args.p.now.store c.make_list.new.store c.in_ok-list.list c.args.nodes.now c.args.p.now.ask c.requires.ready c.in_ok-list.ensures.fresh c.in_ok-list.ensures.made c.make_list.ensures.others c.requires.matter c.make_node-node.result _ c.make_node-node.ensures refl refl

pub contribute-requires-clause-may_wait : goal.contribute-requires-clause-may_wait
contribute-requires-clause-may_wait c =
    empty_may_wait (contents_of c.args.p.now.builder c.make_list.new.store) (plain_of (list_at c.make_list.new.store) c.make_node-node.result) (note_ready c.args.p.now.builder c.args.p.now.store c.make_list.new.store c.in_ok-list.list c.args.nodes.now c.args.p.now.ask c.requires.ready c.in_ok-list.ensures.fresh c.in_ok-list.ensures.made c.make_list.ensures.others c.requires.matter).rest.no_page

pub returns-in_err-contribute-clause-ready : goal.returns-in_err-contribute-clause-ready
returns-in_err-contribute-clause-ready c =
    let b = c.args.p.now.builder in
    let s = c.make_list.new.store in
    let t = c.contribute.new.store in
    let e = c.in_err-contribute.ensures.err in
    let r = note_ready c.args.p.now.builder c.args.p.now.store c.make_list.new.store c.in_ok-list.list c.args.nodes.now c.args.p.now.ask c.requires.ready c.in_ok-list.ensures.fresh c.in_ok-list.ensures.made c.make_list.ensures.others c.requires.matter in
    subst (λ (d : Builder). IsReady d t c.args.p.now.ask) (sym c.contribute.ensures.same) (ready_still b s t (sound_still s t e b r.rest.sound) (contents_still s t e b) c.args.p.now.ask r)

pub returns-in_err-contribute-clause-count : goal.returns-in_err-contribute-clause-count
returns-in_err-contribute-clause-count c =
    let b = c.args.p.now.builder in
    let s = c.make_list.new.store in
    let t = c.contribute.new.store in
    let e = c.in_err-contribute.ensures.err in
    let r = note_ready c.args.p.now.builder c.args.p.now.store c.make_list.new.store c.in_ok-list.list c.args.nodes.now c.args.p.now.ask c.requires.ready c.in_ok-list.ensures.fresh c.in_ok-list.ensures.made c.make_list.ensures.others c.requires.matter in
    let k : waits c.contribute.new.self t ≡ waits b c.args.p.now.store = ap (λ (d : Builder). waits d t) c.contribute.ensures.same ∙ waits_still b s t (sound_still s t e b r.rest.sound) (contents_still s t e b) ∙ note_waits c.args.p.now.builder c.args.p.now.store c.make_list.new.store c.in_ok-list.list c.args.nodes.now c.args.p.now.ask c.requires.ready c.in_ok-list.ensures.fresh c.in_ok-list.ensures.made c.make_list.ensures.others c.requires.matter in
    same_count _ _ (length c.args.nodes.now) k

pub returns-clause-ready : goal.returns-clause-ready
returns-clause-ready c =
    let b = c.args.p.now.builder in
    let s = c.make_list.new.store in
    let n = plain_of (list_at s) c.make_node-node.result in
    let f : FitsSigned w64 c.list_size-height.result = search rules in
    let height = to_z-of_z w64 c.list_size-height.result f ∙ c.list_size-height.ensures in
    let sized = note_sized c.args.p.now.builder c.args.p.now.store c.make_list.new.store c.in_ok-list.list c.args.nodes.now c.args.p.now.ask c.requires.ready c.in_ok-list.ensures.fresh c.in_ok-list.ensures.made c.make_list.ensures.others c.requires.matter c.make_node-node.result _ c.make_node-node.ensures refl refl height (extent_of 186778 (omega arith)) (extent_of 10 (omega arith)) (penalty_of 20000 (omega arith)) in
    ready_more b c.contribute.new.self s c.contribute.new.store n c.in_ok-contribute.ensures.contents c.args.p.now.ask (note_ready c.args.p.now.builder c.args.p.now.store c.make_list.new.store c.in_ok-list.list c.args.nodes.now c.args.p.now.ask c.requires.ready c.in_ok-list.ensures.fresh c.in_ok-list.ensures.made c.make_list.ensures.others c.requires.matter) c.contribute.ensures.sound sized
    (note_room _ _ (length c.args.nodes.now) _ (note_waits c.args.p.now.builder c.args.p.now.store c.make_list.new.store c.in_ok-list.list c.args.nodes.now c.args.p.now.ask c.requires.ready c.in_ok-list.ensures.fresh c.in_ok-list.ensures.made c.make_list.ensures.others c.requires.matter) (note_counts c.args.p.now.builder c.args.p.now.store c.make_list.new.store c.in_ok-list.list c.args.nodes.now c.args.p.now.ask c.requires.ready c.in_ok-list.ensures.fresh c.in_ok-list.ensures.made c.make_list.ensures.others c.requires.matter c.make_node-node.result _ c.make_node-node.ensures refl refl) c.requires.room)

pub returns-clause-count : goal.returns-clause-count
returns-clause-count c =
    let b = c.args.p.now.builder in
    let s = c.make_list.new.store in
    let n = plain_of (list_at s) c.make_node-node.result in
    note_count _ _ _ (length c.args.nodes.now) _ (waits_more b c.contribute.new.self s c.contribute.new.store n c.in_ok-contribute.ensures.contents) (note_waits c.args.p.now.builder c.args.p.now.store c.make_list.new.store c.in_ok-list.list c.args.nodes.now c.args.p.now.ask c.requires.ready c.in_ok-list.ensures.fresh c.in_ok-list.ensures.made c.make_list.ensures.others c.requires.matter) (note_counts c.args.p.now.builder c.args.p.now.store c.make_list.new.store c.in_ok-list.list c.args.nodes.now c.args.p.now.ask c.requires.ready c.in_ok-list.ensures.fresh c.in_ok-list.ensures.made c.make_list.ensures.others c.requires.matter c.make_node-node.result _ c.make_node-node.ensures refl refl)
