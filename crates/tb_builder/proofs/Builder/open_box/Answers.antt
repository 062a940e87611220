use Rattle.std.proofs.Common.{◌∙◌, sym, refl, ap}
use Rattle.std.proofs.lemmas.Bool.{true≢false}
use Rattle.tb_builder.specs.declared.ClassList.{ClassList}
use Rattle.tb_builder.proofs.LegalPlaces.ClassLemmas.{first_at, found_within, none_at}
use Rattle.tb_builder.proofs.Sorting.OpenLemmas.{opened_at, list_first}
use Rattle.tb_builder.proofs.Builder.open_box.Goals as goal

pub unreachable-requires : goal.unreachable-requires
unreachable-requires c = true≢false (sym c.requires ∙ none_at c.args.self.now.boxes c.args.number (sym c.place_of.ensures ∙ c.in_default.is))

pub entry-found-requires : goal.entry-found-requires
entry-found-requires c = found_within c.args.self.now.boxes c.args.number c.in-Some.k (sym c.place_of.ensures ∙ c.in-Some.is)

pub set_void-requires : goal.set_void-requires
set_void-requires c = found_within c.args.self.now.boxes c.args.number c.in-Some.k (sym c.place_of.ensures ∙ c.in-Some.is)

pub returns : goal.returns
returns c =
    let es = c.args.self.now.boxes in
    let e = c.entry-found.result in
    let first = first_at es c.args.number c.in-Some.k e (sym c.place_of.ensures ∙ c.in-Some.is) in
    record {
      boxes = c.set_void.ensures e c.entry-found.ensures ∙ opened_at es c.args.number c.in-Some.k e first c.entry-found.ensures;
      list = ap (λ (x : ClassList). x.list) c.entry-found.ensures ∙ list_first es c.args.number c.in-Some.k e first;
      others = refl;
    }
