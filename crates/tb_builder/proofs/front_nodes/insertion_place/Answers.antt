use Rattle.std.proofs.Common.{◌∙◌, refl, sym, []}
use Rattle.tb_pool.specs.Lists.{list_at}
use Rattle.tb_builder.proofs.front_nodes.insertion_place.Goals as goal

pub returns-then-begins_with_insertion : goal.returns-then-begins_with_insertion
returns-then-begins_with_insertion c = record {
  ahead = [];
  behind = list_at c.args.store.now c.args.l;
  parts = refl;
  place_is = refl;
  plain = tt;
  first = sym c.begins_with_insertion.ensures ∙ c.if-begins_with_insertion.true;
}
