use Rattle.std.proofs.Common.{◌≡◌, ◌∙◌, sym, subst, ap, ◌+◌, ◌<◌, length, arith}
use Rattle.std.proofs.lemmas.List.Elements.{All-get_or}
use Rattle.tb_pool.specs.Lists.{list_at}
use Rattle.tb_node.specs.PlainNodes.{plain_of}
use Rattle.tb_builder.specs.declared.Builder.{Builder}
use Rattle.tb_builder.specs.Ownership.{ids_of, classes_of}
use Rattle.tb_builder.specs.WorkedPages.{IsMatter, IsReady, waits}
use Rattle.tb_builder.proofs.Ownership.SpareLemmas.{sound_still, contents_still}
use Rattle.tb_builder.proofs.Ownership.FrameLemmas.{plain_joins}
use Rattle.tb_builder.proofs.WorkedPages.WorkedLemmas.{matter_on_page, matter_counts, matter_inner, matter_known, ready_more, waits_more, ready_still, waits_still, few_waits, room_waits, more_waits}
use Rattle.tb_page_tests.proofs.builder.give.Goals as goal

pub contribute-requires-clause-joins : goal.contribute-requires-clause-joins
contribute-requires-clause-joins c =
    let m : IsMatter c.n-item.result = subst IsMatter (sym c.n-item.is) (All-get_or IsMatter c.args.nodes.now c.loop-n.n-index c.n-item.result c.loop-n-test.true c.requires.matter) in
    plain_joins (ids_of c.loop-n.p.builder) c.loop-n.p.store c.n-item.result c.loop-n.invariant.ready.rest.sound.own (matter_inner c.n-item.result.kind m.plain) (matter_known (classes_of (ids_of c.loop-n.p.builder)) c.n-item.result.kind m.plain)

pub returns-in_err-contribute-clause-ready : goal.returns-in_err-contribute-clause-ready
returns-in_err-contribute-clause-ready c =
    let e = c.in_err-contribute.ensures.err in
    subst (λ (b : Builder). IsReady b c.contribute.new.store c.loop-n.p.ask) (sym c.contribute.ensures.same)
    (ready_still c.loop-n.p.builder c.loop-n.p.store c.contribute.new.store (sound_still c.loop-n.p.store c.contribute.new.store e c.loop-n.p.builder c.loop-n.invariant.ready.rest.sound) (contents_still c.loop-n.p.store c.contribute.new.store e c.loop-n.p.builder) c.loop-n.p.ask c.loop-n.invariant.ready)

pub returns-in_err-contribute-clause-count : goal.returns-in_err-contribute-clause-count
returns-in_err-contribute-clause-count c =
    let e = c.in_err-contribute.ensures.err in
    let s = waits_still c.loop-n.p.builder c.loop-n.p.store c.contribute.new.store (sound_still c.loop-n.p.store c.contribute.new.store e c.loop-n.p.builder c.loop-n.invariant.ready.rest.sound) (contents_still c.loop-n.p.store c.contribute.new.store e c.loop-n.p.builder) in
    let k : waits c.contribute.new.self c.contribute.new.store ≡ waits c.loop-n.p.builder c.loop-n.p.store = ap (λ (b : Builder). waits b c.contribute.new.store) c.contribute.ensures.same ∙ s in
    let w : c.loop-n.n-index < length c.args.nodes.now = c.loop-n-test.true in
    few_waits _ _ _ (c.loop-n.n-index) _ k c.loop-n.invariant.count (omega arith)

pub loop-n-preserved : goal.loop-n-preserved
loop-n-preserved c =
    let m : IsMatter c.n-item.result = subst IsMatter (sym c.n-item.is) (All-get_or IsMatter c.args.nodes.now c.loop-n.n-index c.n-item.result c.loop-n-test.true c.requires.matter) in
    let held = list_at c.loop-n.p.store in
    let e = c.in_ok-contribute.ensures.contents in
    let one = matter_counts held c.n-item.result.kind m.plain in
    let more = waits_more c.loop-n.p.builder c.contribute.new.self c.loop-n.p.store c.contribute.new.store (plain_of held c.n-item.result) e in
    record {
      ready = ready_more c.loop-n.p.builder c.contribute.new.self c.loop-n.p.store c.contribute.new.store (plain_of held c.n-item.result) e c.loop-n.p.ask c.loop-n.invariant.ready c.contribute.ensures.sound (matter_on_page held c.n-item.result m)
          (room_waits _ _ _ _ _ one c.loop-n.invariant.count c.loop-n-test.true c.requires.room);
      count = more_waits _ _ _ _ (more ∙ ap (λ k. waits c.loop-n.p.builder c.loop-n.p.store + k) one) c.loop-n.invariant.count;
    }
