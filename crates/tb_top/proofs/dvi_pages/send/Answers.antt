use Rattle.std.proofs.Common.{◌+◌, List, [], ◌∷◌, ◌++◌, drop, subst, arith}
use Rattle.std.proofs.lemmas.Result.{err_from_is_err_and}
use Rattle.std.specs.Io.KnownBytes.{append_known}
use Rattle.tb_dvi.specs.File.{Page}
use Rattle.tb_items.specs.Happenings.{event_of, events_of}
use Rattle.tb_laws.specs.DviPages.{event_pages}
use Rattle.tb_top.proofs.Written.KeptLemmas.{grows-nothing, grows-on}
use Rattle.tb_top.proofs.DviFiles.DviSending.{Sending, sends-none, sending-here, sends-next, sends-fails, sends-all, next-page, no-pages, failure-later}
use Rattle.tb_top.proofs.dvi_pages.send.Goals as goal

pub loop-happening-init : goal.loop-happening-init
loop-happening-init g c = record { in_file = c.requires.in_file; sent = λ start ps more h. sends-none start _ _ ps _ h; grown = grows-nothing _; later = omega arith; pages = c.requires.pages }

pub send_happening-requires-clause-page : goal.send_happening-requires-clause-page
send_happening-requires-clause-page g c = (next-page c.args.store.now c.args.happened.now c.loop-happening.happening-index c.happening-item.result c.loop-happening-test.true c.happening-item.is c.loop-happening.invariant.pages).0

pub send_happening-requires-clause-in_file : goal.send_happening-requires-clause-in_file
send_happening-requires-clause-in_file g c = c.loop-happening.invariant.in_file

pub returns-in_err-send_happening-clause-in_file : goal.returns-in_err-send_happening-clause-in_file
returns-in_err-send_happening-clause-in_file g c = c.in_err-send_happening.ensures.in_file

pub returns-in_err-send_happening-clause-sent : goal.returns-in_err-send_happening-clause-sent
returns-in_err-send_happening-clause-sent g c start ps more h =
    let p = err_from_is_err_and c.from_residual.result c.from_residual.ensures.1 in
    let store = c.args.store.now in
    let hs = c.args.happened.now in
    let k = c.loop-happening.happening-index in
    let s = sending-here start _ _ ps _ store hs k c.happening-item.result c.loop-happening-test.true c.happening-item.is (c.loop-happening.invariant.sent start ps more h) in
    let next : List Page = event_pages (event_of store c.happening-item.result ∷ []) in
    let left : List Page = event_pages (events_of store (drop (k + 1) hs)) in
    rw (p.1, p.2) (sends-fails start _ _ _ c.send_happening.new.progress ps _ next left s c.in_err-send_happening.field-0.0 (c.in_err-send_happening.ensures.sent start (ps ++ s.done) (grows-on _ _ _ more c.loop-happening.invariant.grown) s.holds))

pub returns-in_err-send_happening-clause-cause : goal.returns-in_err-send_happening-clause-cause
returns-in_err-send_happening-clause-cause g c =
    let p = err_from_is_err_and c.from_residual.result c.from_residual.ensures.1 in
    rw (p.1, p.2) (failure-later c.in_err-send_happening.field-0.0 _ _ _ c.loop-happening.invariant.later c.in_err-send_happening.ensures.cause)

pub returns-in_err-send_happening-clause-later : goal.returns-in_err-send_happening-clause-later
returns-in_err-send_happening-clause-later g c =
    let a = c.loop-happening.invariant.later in
    let b = c.in_err-send_happening.ensures.later in
    omega (arith, a, b)

pub returns-in_err-send_happening-clause-grown : goal.returns-in_err-send_happening-clause-grown
returns-in_err-send_happening-clause-grown g c = grows-on _ _ _ c.loop-happening.invariant.grown c.in_err-send_happening.ensures.grown

pub loop-happening-preserved : goal.loop-happening-preserved
loop-happening-preserved g c =
    let store = c.args.store.now in
    let hs = c.args.happened.now in
    let k = c.loop-happening.happening-index in
    let a = c.loop-happening.invariant.later in
    let b = c.in_ok-send_happening.ensures.later in
    record {
      in_file = c.in_ok-send_happening.ensures.in_file;
      sent = λ start ps more h.
          let s = sending-here start _ _ ps _ store hs k c.happening-item.result c.loop-happening-test.true c.happening-item.is (c.loop-happening.invariant.sent start ps more h) in
          sends-next start _ _ _ c.send_happening.new.progress ps _ _ _ s (c.in_ok-send_happening.ensures.sent start (ps ++ s.done) (grows-on _ _ _ more c.loop-happening.invariant.grown) s.holds);
      grown = grows-on _ _ _ c.loop-happening.invariant.grown c.in_ok-send_happening.ensures.grown;
      later = omega (arith, a, b);
      pages = (next-page store hs k c.happening-item.result c.loop-happening-test.true c.happening-item.is c.loop-happening.invariant.pages).1;
    }

pub returns-clause-in_file : goal.returns-clause-in_file
returns-clause-in_file g c = c.loop-happening.invariant.in_file

pub returns-clause-sent : goal.returns-clause-sent
returns-clause-sent g c start ps more h =
    let store = c.args.store.now in
    let hs = c.args.happened.now in
    let all : List Page = event_pages (events_of store hs) in
    sends-all start _ _ ps all (subst (Sending start (append_known (g.K.Sink.held c.loop-happening.out) c.loop-happening.kept.items) c.loop-happening.progress ps all) (no-pages store hs c.loop-happening.happening-index c.loop-happening-test.false) (c.loop-happening.invariant.sent start ps more h))

pub returns-clause-grown : goal.returns-clause-grown
returns-clause-grown g c = c.loop-happening.invariant.grown

pub returns-clause-later : goal.returns-clause-later
returns-clause-later g c = c.loop-happening.invariant.later
