use Rattle.std.proofs.Common.{◌≡◌, ◌∙◌, ◌≤◌, ap, sym, subst, length, arith}
use Rattle.std.specs.Prelude.{All}
use Rattle.tb_pool.specs.Lists.{list_at}
use Rattle.tb_node.specs.Fit.{IsSizedNode}
use Rattle.tb_float.specs.Pool.{FloatPool}
use Rattle.tb_column.specs.TextColumns.{above_count, below_list, text_list}
use Rattle.tb_column.proofs.NoteLemmas.{count-both}
use Rattle.tb_column.proofs.TextLemmas.{front-sized, text-few, text-page}
use Rattle.tb_column.proofs.GatherLemmas.{ready_front, ready_apart, gathered_text, gathered_joined}
use Rattle.tb_column.proofs.text_columns.gather.Goals as goal

pub put_front-requires-clause-room : goal.put_front-requires-clause-room
put_front-requires-clause-room c =
    omega (arith, c.in_ok-reserve.ensures.room, c.len-tops.ensures.value, c.len-bottoms.ensures.value, c.above_count.ensures.value, count-both c.args.notes.now)

pub put_rest-requires-clause-sized : goal.put_rest-requires-clause-sized
put_rest-requires-clause-sized c =
    subst (All IsSizedNode) (sym (ready_front c.args.store.now c.reserve.new.self c.put_front.new.store c.put_front.new.store c.args.p.now c.args.pool.now.lists c.args.body c.args.notes.now c.in_ok-reserve.ensures.lists c.requires.notes c.in_ok-put_front.ensures.text))
    (front-sized c.args.p.now c.requires.params c.args.pool.now.lists c.args.store.now c.args.body c.args.notes.now c.len-tops.ensures.sized c.requires.body.sized c.requires.notes.each)

pub put_rest-requires-clause-notes : goal.put_rest-requires-clause-notes
put_rest-requires-clause-notes c = ready_apart c.args.store.now c.reserve.new.self c.put_front.new.store c.put_front.new.store c.args.p.now c.args.pool.now.lists c.args.body c.args.notes.now c.in_ok-reserve.ensures.lists c.requires.notes c.in_ok-put_front.ensures.lists

pub put_rest-requires-clause-room : goal.put_rest-requires-clause-room
put_rest-requires-clause-room c =
    omega (
      arith,
      c.in_ok-reserve.ensures.room,
      c.in_ok-put_front.ensures.spare,
      c.len-tops.ensures.value,
      c.len-bottoms.ensures.value,
      c.above_count.ensures.value,
      count-both c.args.notes.now,
      ap (λ (v : FloatPool). length v.lists.bottom) c.in_ok-put_front.ensures.pool,
    )

-- the text with all that is about it
text_is : (c : goal.After-clear_here) → list_at c.put_rest.new.store c.args.body ≡ text_list c.args.p.now c.args.pool.now.lists c.args.store.now c.args.body c.args.notes.now
text_is c =
    gathered_text c.args.store.now c.reserve.new.self c.put_front.new.store c.put_rest.new.store c.args.p.now c.args.pool.now.lists c.args.body c.args.notes.now c.in_ok-reserve.ensures.lists c.requires.notes c.in_ok-put_front.ensures.lists c.in_ok-put_front.ensures.text
    (c.put_rest.ensures.text ∙ ap (λ (v : FloatPool). below_list c.args.p.now v.lists c.put_front.new.store c.args.notes.now (list_at c.put_front.new.store c.args.body)) c.in_ok-put_front.ensures.pool)

pub returns-clause-text : goal.returns-clause-text
returns-clause-text c = text_is c

pub returns-clause-page : goal.returns-clause-page
returns-clause-page c =
    let tops : length c.args.pool.now.lists.top ≤ 4096 = omega (arith, c.len-tops.ensures.value, c.len-tops.ensures.small) in
    let bottoms : length c.args.pool.now.lists.bottom ≤ 4096 = omega (arith, c.len-bottoms.ensures.value, c.len-bottoms.ensures.small) in
    let above : above_count c.args.notes.now ≤ 1536 = omega (arith, c.above_count.ensures.value, c.above_count.ensures.few) in
    text-page c.args.p.now c.requires.params c.args.pool.now.lists c.args.store.now c.args.body c.args.notes.now tops bottoms above c.requires.few
    c.put_rest.new.store (text_is c) c.put_rest.ensures.live c.len-tops.ensures.sized c.len-bottoms.ensures.sized c.requires.body c.requires.notes.each

pub returns-clause-few : goal.returns-clause-few
returns-clause-few c =
    let tops : length c.args.pool.now.lists.top ≤ 4096 = omega (arith, c.len-tops.ensures.value, c.len-tops.ensures.small) in
    let bottoms : length c.args.pool.now.lists.bottom ≤ 4096 = omega (arith, c.len-bottoms.ensures.value, c.len-bottoms.ensures.small) in
    let above : above_count c.args.notes.now ≤ 1536 = omega (arith, c.above_count.ensures.value, c.above_count.ensures.few) in
    omega (arith, ap length (text_is c), text-few c.args.p.now c.requires.params c.args.pool.now.lists c.args.store.now c.args.body c.args.notes.now tops bottoms above c.requires.few)

pub returns-clause-lists : goal.returns-clause-lists
returns-clause-lists c = gathered_joined c.args.store.now c.reserve.new.self c.put_front.new.store c.put_rest.new.store c.args.p.now c.args.pool.now.lists c.args.body c.args.notes.now c.in_ok-reserve.ensures.lists c.requires.notes c.in_ok-put_front.ensures.lists c.put_rest.ensures.lists

pub returns-clause-room : goal.returns-clause-room
returns-clause-room c =
    omega (
      arith,
      c.in_ok-reserve.ensures.room,
      c.in_ok-put_front.ensures.spare,
      c.put_rest.ensures.spare,
      c.len-tops.ensures.value,
      c.len-bottoms.ensures.value,
      c.above_count.ensures.value,
      count-both c.args.notes.now,
      ap (λ (v : FloatPool). length v.lists.bottom) c.in_ok-put_front.ensures.pool,
    )
