use Rattle.std.proofs.Common.{refl, ◌-◌, ◌<◌, length, take, drop, arith}
use Rattle.std.proofs.lemmas.List.{take_all, length-drop}
use Rattle.tb_node.specs.PlainNodes.{on_line, clearpage_kinds}
use Rattle.tb_galley.specs.GalleyNodes.{item_nodes}
use Rattle.tb_items.proofs.LeftLemmas.{handed-some, handed-all}
use Rattle.tb_items.proofs.WaitsLemmas.{waits-then}
use Rattle.tb_items.proofs.items_left.ItemsLeft.hand_over.Goals as goal

pub returns-then-count-self : goal.returns-then-count-self
returns-then-count-self c =
    let l = c.args.self.now in
    handed-all l c.args.builder.now c.args.store.now c.put_clear.new.builder c.put_clear.new.store c.batch_len-count.result (omega arith)
    (waits-then (item_nodes l.params l.two (take c.batch_len-count.result l.items.now)) (on_line l.galley.now.end_line clearpage_kinds) c.args.builder.now c.args.store.now c.put_items.new.builder c.put_items.new.store c.put_clear.new.builder c.put_clear.new.store c.in_ok-two.ensures.waits c.in_ok-put_clear.ensures)

pub returns : goal.returns
returns c =
    let is = c.args.self.now.items.now in
    let k = c.batch_len-count.result in
    let within = c.batch_len-count.ensures.within in
    let other = c.if-count-self.false in
    let less : k < length is = omega (arith, within, other) in
    let e = length-drop k is in
    handed-some c.args.self.now c.args.builder.now c.args.store.now c.put_items.new.builder c.put_items.new.store k within (c.batch_len-count.ensures.ended less) c.in_ok-two.ensures.waits _ refl (take_all (length is - k) (drop k is) (omega (arith, e))) c.in_ok-two.ensures.params c.in_ok-two.ensures.two
