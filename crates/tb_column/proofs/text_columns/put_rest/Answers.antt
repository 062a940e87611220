use Rattle.std.proofs.Common.{◌∙◌, sym, subst}
use Rattle.std.specs.Prelude.{All}
use Rattle.tb_pool.specs.Lists.{list_at}
use Rattle.tb_node.specs.Fit.{IsSizedNode}
use Rattle.tb_column.proofs.TextLemmas.{bottom-sized}
use Rattle.tb_column.proofs.GatherLemmas.{low_apart, low_list, low_text, low_joined, high_text, high_joined}
use Rattle.tb_column.proofs.text_columns.put_rest.Goals as goal

pub put_feet-requires-clause-sized : goal.put_feet-requires-clause-sized
put_feet-requires-clause-sized c =
    subst (All IsSizedNode) (sym (low_list c.args.store.now c.put_below.new.store c.put_below.new.store c.args.p.now c.args.pool.now.lists c.args.body c.len-bottoms.result c.args.notes.now c.requires.notes c.len-bottoms.ensures.value c.put_below.ensures.lists))
    (bottom-sized c.args.p.now c.requires.params c.args.pool.now.lists c.args.store.now c.args.body c.args.notes.now c.len-bottoms.ensures.sized (list_at c.args.store.now c.args.body) c.requires.sized)

pub put_feet-requires-clause-notes : goal.put_feet-requires-clause-notes
put_feet-requires-clause-notes c = low_apart c.args.store.now c.put_below.new.store c.put_below.new.store c.args.p.now c.args.pool.now.lists c.args.body c.len-bottoms.result c.args.notes.now c.requires.notes c.len-bottoms.ensures.value c.put_below.ensures.lists

pub returns-then-is_below-clause-text : goal.returns-then-is_below-clause-text
returns-then-is_below-clause-text c = low_text c.args.store.now c.put_below.new.store c.put_feet.new.store c.args.p.now c.args.pool.now.lists c.args.body c.len-bottoms.result c.args.notes.now c.requires.notes c.len-bottoms.ensures.value c.put_below.ensures.lists (sym c.is_below.ensures ∙ c.if-is_below.true) c.put_feet.ensures.text

pub returns-then-is_below-clause-lists : goal.returns-then-is_below-clause-lists
returns-then-is_below-clause-lists c = low_joined c.args.store.now c.put_below.new.store c.put_feet.new.store c.args.p.now c.args.pool.now.lists c.args.body c.len-bottoms.result c.args.notes.now c.requires.notes c.len-bottoms.ensures.value c.put_below.ensures.lists c.put_feet.ensures.lists

pub returns-else-is_below-clause-text : goal.returns-else-is_below-clause-text
returns-else-is_below-clause-text c = high_text c.args.store.now c.put_feet-else-is_below.new.store c.put_below-else-is_below.new.store c.args.p.now c.args.pool.now.lists c.args.body c.len-bottoms.result c.args.notes.now c.requires.notes c.len-bottoms.ensures.value c.put_feet-else-is_below.ensures.text c.put_below-else-is_below.ensures.lists (sym c.is_below.ensures ∙ c.if-is_below.false)

pub returns-else-is_below-clause-lists : goal.returns-else-is_below-clause-lists
returns-else-is_below-clause-lists c = high_joined c.args.store.now c.put_feet-else-is_below.new.store c.put_below-else-is_below.new.store c.args.p.now c.args.pool.now.lists c.args.body c.len-bottoms.result c.args.notes.now c.requires.notes c.len-bottoms.ensures.value c.put_feet-else-is_below.ensures.text c.put_below-else-is_below.ensures.lists c.put_feet-else-is_below.ensures.lists
