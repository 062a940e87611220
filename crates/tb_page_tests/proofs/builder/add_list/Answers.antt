use Rattle.tb_builder.proofs.Ownership.SpareLemmas.{sound_still, contents_still}
use Rattle.tb_builder.proofs.Ownership.FrameLemmas.{opened_same, opened_live, opened_empty, opened_apart, frame_sound, frame_contents}
use Rattle.tb_builder.proofs.WorkedPages.WorkedLemmas.{rest_still}
use Rattle.tb_page_tests.proofs.builder.add_list.Goals as goal

pub returns-in_err-list-clause-rest : goal.returns-in_err-list-clause-rest
returns-in_err-list-clause-rest c =
    let b = c.args.p.now.builder in
    let s = c.args.p.now.store in
    let t = c.add_list.new.self in
    rest_still b s t (sound_still s t c.in_err-list.ensures.err b c.requires.sound) (contents_still s t c.in_err-list.ensures.err b) c.requires

pub returns-clause-rest : goal.returns-clause-rest
returns-clause-rest c =
    let b = c.args.p.now.builder in
    let s = c.args.p.now.store in
    let t = c.add_list.new.self in
    let same = opened_same b s t c.in_ok-list.list c.requires.sound c.in_ok-list.ensures.fresh c.in_ok-list.ensures.opened in
    rest_still b s t (frame_sound b s t c.requires.sound same) (frame_contents b s t c.requires.sound same) c.requires

pub returns-clause-live : goal.returns-clause-live
returns-clause-live c = opened_live c.args.p.now.builder c.args.p.now.store c.add_list.new.self c.in_ok-list.list c.requires.sound c.in_ok-list.ensures.fresh c.in_ok-list.ensures.opened

pub returns-clause-empty : goal.returns-clause-empty
returns-clause-empty c = opened_empty c.args.p.now.builder c.args.p.now.store c.add_list.new.self c.in_ok-list.list c.requires.sound c.in_ok-list.ensures.fresh c.in_ok-list.ensures.opened

pub returns-clause-apart : goal.returns-clause-apart
returns-clause-apart c = opened_apart c.args.p.now.builder c.args.p.now.store c.add_list.new.self c.in_ok-list.list c.requires.sound c.in_ok-list.ensures.fresh c.in_ok-list.ensures.opened
