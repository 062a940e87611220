use Rattle.std.proofs.Common.{◌∙◌, sym, subst, ap, ◌+◌, ◌≤◌}
use Rattle.tb_pool.specs.Lists.{list_at}
use Rattle.tb_node.specs.PlainNodes.{plain_of}
use Rattle.tb_builder.specs.Contents.{contents_of}
use Rattle.tb_builder.specs.Ownership.{ids_of, classes_of}
use Rattle.tb_builder.specs.WorkedPages.{waits}
use Rattle.tb_builder.proofs.Ownership.FrameLemmas.{plain_joins, empty_may_wait}
use Rattle.tb_builder.proofs.WorkedPages.WorkedLemmas.{matter_on_page, matter_counts, matter_inner, matter_known, ready_more, waits_more}
use Rattle.tb_page_tests.proofs.plain.give.Goals as goal

pub contribute-requires-clause-joins : goal.contribute-requires-clause-joins
contribute-requires-clause-joins c =
    let b = ids_of c.args.p.now.builder in
    let plain = c.requires.matter.plain in
    plain_joins b c.args.p.now.store c.args.n c.requires.ready.rest.sound.own (matter_inner c.args.n.kind plain) (matter_known (classes_of b) c.args.n.kind plain)

pub contribute-requires-clause-may_wait : goal.contribute-requires-clause-may_wait
contribute-requires-clause-may_wait c = empty_may_wait (contents_of c.args.p.now.builder c.args.p.now.store) (plain_of (list_at c.args.p.now.store) c.args.n) c.requires.ready.rest.no_page

pub returns-clause-ready : goal.returns-clause-ready
returns-clause-ready c =
    let b = c.args.p.now.builder in
    let s = c.args.p.now.store in
    let held = list_at s in
    let one = matter_counts held c.args.n.kind c.requires.matter.plain in
    ready_more b c.contribute.new.self s c.contribute.new.store (plain_of held c.args.n) c.in_ok-contribute.ensures.contents c.args.p.now.ask c.requires.ready c.contribute.ensures.sound (matter_on_page held c.args.n c.requires.matter)
    (subst (λ k. waits b s + k ≤ 1000) (sym one) c.requires.room)

pub returns-clause-count : goal.returns-clause-count
returns-clause-count c =
    let b = c.args.p.now.builder in
    let s = c.args.p.now.store in
    let held = list_at s in
    waits_more b c.contribute.new.self s c.contribute.new.store (plain_of held c.args.n) c.in_ok-contribute.ensures.contents
    ∙ ap (λ k. waits b s + k) (matter_counts held c.args.n.kind c.requires.matter.plain)
