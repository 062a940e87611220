use Rattle.std.proofs.Common.{sym, ◌∙◌}
use Rattle.std.proofs.lemmas.Bool.{true≢false}
use Rattle.tb_builder.proofs.LegalPlaces.ClassLemmas.{first_at, found_within, none_at}
use Rattle.tb_builder.proofs.Builder.class_list.Goals as goal

pub unreachable-requires : goal.unreachable-requires
unreachable-requires c = true≢false (sym c.requires ∙ none_at c.args.self.now.boxes c.args.number (sym c.place_of.ensures ∙ c.in_default.is))

pub entry-requires : goal.entry-requires
entry-requires c = found_within c.args.self.now.boxes c.args.number c.in-Some.k (sym c.place_of.ensures ∙ c.in-Some.is)

pub returns : goal.returns
returns c = record {
  place = c.in-Some.k;
  first = first_at c.args.self.now.boxes c.args.number c.in-Some.k c.entry.result (sym c.place_of.ensures ∙ c.in-Some.is);
  is = sym c.entry.ensures;
}
