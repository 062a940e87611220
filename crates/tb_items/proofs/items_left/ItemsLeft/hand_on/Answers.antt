use Rattle.std.proofs.Common.{refl, ◌<◌, length, get_or, rules}
use Rattle.tb_items.proofs.LeftLemmas.{first-rest, handed-next}
use Rattle.tb_items.proofs.items_left.ItemsLeft.hand_on.Goals as goal

pub returns : goal.returns
returns c =
    let ns = c.args.self.now.items.now in
    let some : 0 < length ns = search rules in
    handed-next c.args.self.now _ (get_or ns 0 c.index-self-0.result)
    (record { galley = refl; items = first-rest ns c.index-self-0.result some; params = c.change_by.ensures; two = c.two_after-self.ensures })
    c.args.builder.now c.args.store.now c.put_item.new.builder c.put_item.new.store c.in_ok-put_item.ensures
