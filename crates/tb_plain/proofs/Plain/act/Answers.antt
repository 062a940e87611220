use Rattle.std.proofs.Common.{sym, subst, ap, ◌∙◌, List}
use Rattle.std.specs.Prelude.{OnOk}
use Rattle.tb_node.specs.PlainNodes.{PlainNode}
use Rattle.tb_builder.specs.declared.PageSums.{PageSums}
use Rattle.tb_plain.specs.declared.taken_floats.Place.TheVariants as ways
use Rattle.tb_plain.specs.TakenFloats.{act_nodes}
use Rattle.tb_plain.specs.MakeupCalls.{HasPut}
use Rattle.tb_plain.proofs.PutLemmas.{acted-nodes}
use Rattle.tb_plain.proofs.Plain.act.Goals as goal

pub returns-in-Here-clause-acts : goal.returns-in-Here-clause-acts
returns-in-Here-clause-acts c =
    let p = c.args.self.now.params in
    let nodes = acted-nodes p c.page_sums-sums.result c.args.a c.float_of-float.result ways.Here c.float_of-float.ensures.is (sym c.in-Here.is ∙ c.place_of.ensures) in
    let sums = ap (λ (x : PageSums). act_nodes p x c.args.a) (c.page_sums-sums.ensures.sums c.args.store.now c.requires.builder.sound) in
    subst (λ (ns : List PlainNode). OnOk c.put_here.result (HasPut ns c.args.b.now c.args.store.now c.put_here.new.b c.put_here.new.store)) (sym nodes ∙ sums) c.put_here.ensures.ok

pub returns-in-Top-clause-acts : goal.returns-in-Top-clause-acts
returns-in-Top-clause-acts c =
    let p = c.args.self.now.params in
    let nodes = acted-nodes p c.page_sums-sums.result c.args.a c.float_of-float.result ways.Top c.float_of-float.ensures.is (sym c.in-Top.is ∙ c.place_of.ensures) in
    let sums = ap (λ (x : PageSums). act_nodes p x c.args.a) (c.page_sums-sums.ensures.sums c.args.store.now c.requires.builder.sound) in
    subst (λ (ns : List PlainNode). OnOk c.put_at_top.result (HasPut ns c.args.b.now c.args.store.now c.put_at_top.new.b c.put_at_top.new.store)) (sym nodes ∙ sums) c.put_at_top.ensures.ok

pub returns-in-Page-clause-acts : goal.returns-in-Page-clause-acts
returns-in-Page-clause-acts c =
    let p = c.args.self.now.params in
    let nodes = acted-nodes p c.page_sums-sums.result c.args.a c.float_of-float.result ways.Page c.float_of-float.ensures.is (sym c.in-Page.is ∙ c.place_of.ensures) in
    let sums = ap (λ (x : PageSums). act_nodes p x c.args.a) (c.page_sums-sums.ensures.sums c.args.store.now c.requires.builder.sound) in
    subst (λ (ns : List PlainNode). OnOk c.put_on_page.result (HasPut ns c.args.b.now c.args.store.now c.put_on_page.new.b c.put_on_page.new.store)) (sym nodes ∙ sums) c.put_on_page.ensures.ok
