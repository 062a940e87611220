use Rattle.tb_builder.specs.Ownership.{ids_of, owned}
use Rattle.tb_builder.proofs.Ownership.FrameLemmas.{live_all_same, frame_sound}
use Rattle.tb_builder.proofs.WorkedPages.WorkedLemmas.{rest_going, rest_no_kern, note_ready, note_sound, note_list_joins}
use Rattle.tb_page_tests.proofs.builder.put_before_all.Goals as goal

pub returns-in_err-list : goal.returns-in_err-list
returns-in_err-list c =
    let b = c.args.p.now.builder in
    let s = c.args.p.now.store in
    let t = c.make_list.new.store in
    frame_sound b s t c.requires.ready.rest.sound (live_all_same s t (owned (ids_of b) s) c.make_list.ensures.others c.requires.ready.rest.sound.own.live)

pub put_first-requires-clause-sound : goal.put_first-requires-clause-sound
put_first-requires-clause-sound c = note_sound c.args.p.now.builder c.args.p.now.store c.make_list.new.store c.in_ok-list.list c.args.nodes.now c.args.p.now.ask c.requires.ready c.in_ok-list.ensures.fresh c.in_ok-list.ensures.made c.make_list.ensures.others c.requires.matter

pub put_first-requires-clause-going : goal.put_first-requires-clause-going
put_first-requires-clause-going c = rest_going c.args.p.now.builder c.args.p.now.store c.requires.ready.rest

pub put_first-requires-clause-no_kern : goal.put_first-requires-clause-no_kern
put_first-requires-clause-no_kern c = rest_no_kern c.args.p.now.builder c.make_list.new.store (note_ready c.args.p.now.builder c.args.p.now.store c.make_list.new.store c.in_ok-list.list c.args.nodes.now c.args.p.now.ask c.requires.ready c.in_ok-list.ensures.fresh c.in_ok-list.ensures.made c.make_list.ensures.others c.requires.matter).rest

pub put_first-requires-clause-joins : goal.put_first-requires-clause-joins
put_first-requires-clause-joins c = note_list_joins c.args.p.now.builder c.args.p.now.store c.make_list.new.store c.in_ok-list.list c.args.nodes.now c.args.p.now.ask c.requires.ready c.in_ok-list.ensures.fresh c.in_ok-list.ensures.made c.make_list.ensures.others c.requires.matter
